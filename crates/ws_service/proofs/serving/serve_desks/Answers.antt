use Rattle.std.proofs.Common.{◌<◌, ℕ, length, slice_index_or, subst, sym, ◌∙◌}
use Rattle.ws_service.specs.Joins.{IsUnstarted}
use Rattle.ws_service.proofs.JoinLemmas.{alike}
use Rattle.ws_service.proofs.serving.serve_desks.Goals as goal

pub returns-clause-served : goal.returns-clause-served
returns-clause-served g c = λ k desk within.
    let olds = c.args.desks.items in
    let e = c.run_beside.ensures.works in
    let before : k < length olds = subst (λ (n : ℕ). k < n) e.0 within in
    let first = c.requires.desks k desk before in
    let done = e.1 k desk before in
    record {
      first = (slice_index_or olds k desk).pass;
      unasked = _;
      end = done.0;
      tended = done.2;
      unstarted =
          subst (λ lock. IsUnstarted lock (slice_index_or olds k desk).pass)
          (sym (done.2.tends.goes.same.0 ∙ first.pass.lock_is)) first.pass;
      is_new = first.is_new;
      is_end = done.1;
    }

pub returns-clause-numbers : goal.returns-clause-numbers
returns-clause-numbers g c =
    let e = c.run_beside.ensures.works in
    alike (λ desk. desk.pass.number) c.args.desks.items c.run_beside.result.1.items e.0
    (λ k desk before. (e.1 k desk before).2.tends.goes.same.1)

pub returns-clause-locks : goal.returns-clause-locks
returns-clause-locks g c = λ k desk within.
    let e = c.run_beside.ensures.works in
    let before : k < length c.args.desks.items = subst (λ (n : ℕ). k < n) e.0 within in
    (e.1 k desk before).2.tends.goes.same.0 ∙ (c.requires.desks k desk before).pass.lock_is
