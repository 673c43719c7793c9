use Rattle.std.proofs.Common.{◌+◌, ℕ, length, Result, Ok, Err, IsErr, OnErr, OnOk, ap, subst, sym, ◌∙◌}
use Rattle.cdp_host_isolation.specs.Histories.{Attach}
use Rattle.pure_eval.specs.Workspaces.{Workspace, begun}
use Rattle.cdp_session.specs.Code.{code_of}
use Rattle.cdp_session.specs.Sessions.{Session, fresh}
use Rattle.cdp_host_seats.specs.Fallbacks.{Fallback, HasRoom}
use Rattle.cdp_host.specs.Hosts.{HostState, Leaves}
use Rattle.cdp_host.proofs.CallLemmas.{attach-fit, attach-leaves, attach-stands, sound-more}
use Rattle.cdp_host.proofs.IndexLemmas.{attached-indexed}
use Rattle.cdp_host.proofs.ViewLemmas.{seen_as}
use Rattle.cdp_host.proofs.host.Host.attach.Goals as goal

on-err : {T E : Type 0} (r : Result T E) (P : Type 0) → P → OnErr r P
on-err (Ok value) P p = tt
on-err (Err fault) P p = p

on-ok : {T E : Type 0} (r : Result T E) (P : Type 0) → IsErr r → OnOk r P
on-ok (Ok value) P fails = absurd cc
on-ok (Err fault) P fails = tt

pub returns-in_err-reserve-clause-leaves : goal.returns-in_err-reserve-clause-leaves
returns-in_err-reserve-clause-leaves c =
    on-ok c.from_residual-in_err-reserve.result _ c.from_residual-in_err-reserve.ensures.0

pub returns-in_err-reserve-clause-stands : goal.returns-in_err-reserve-clause-stands
returns-in_err-reserve-clause-stands c =
    on-ok c.from_residual-in_err-reserve.result _ c.from_residual-in_err-reserve.ensures.0

pub returns-in_err-reserve-clause-err : goal.returns-in_err-reserve-clause-err
returns-in_err-reserve-clause-err c =
    let a = c.self.inside in
    let V : Fallback Session → HostState = λ f. record {
      scripts = a.scripts.now;
      meaning =
          record {
            program = record { machine = a.machine; heap = a.heap };
            phase = a.phase;
            stop = a.stop;
            stops = a.stops;
            shut = a.shut;
            seats = a.seats.items;
          };
      broken = a.broken;
      fallback = f;
      fallen = a.fallen.items;
    } in
    on-err c.from_residual-in_err-reserve.result _ (ap V c.in_err-reserve.ensures.same ∙ c.self.view_is)

pub invariant_of-self-2 : goal.invariant_of-self-2
invariant_of-self-2 c =
    let a = c.self.inside in
    let P : ℕ → Type 0 = λ n. HasRoom n c.reserve.new.self in
    sound-more a.scripts.now a.shared a.lines.items a.spots a.machine a.broken a.seats.items c.push.new.self.items
    a.seats.len c.push.new.self.len a.index a.index
    a.fallback c.reserve.new.self a.fallen.items c.self.invariant c.if-self.false
    (attach-fit a.scripts.now c.new-session.result _ _ a.seats.items c.push.new.self.items c.new-session.ensures
    c.in_ok-push.ensures.items c.self.invariant.fit)
    (attached-indexed c.new-session.result a.seats.items c.push.new.self.items a.index
    (ap (λ x. x.breakpoints.set) c.new-session.ensures) c.in_ok-push.ensures.items c.self.invariant.indexed)
    (subst P (ap (λ n. n + 1) c.len.ensures ∙ sym c.in_ok-push.ensures.len) c.in_ok-reserve.ensures.room)
    c.in_ok-reserve.ensures.same

pub returns-clause-leaves : goal.returns-clause-leaves
returns-clause-leaves c =
    let a = c.self.inside in
    let h : HostState = seen_as a in
    let f : ℕ → Workspace → _ = λ n w. fresh n w in
    let P : Fallback Session → Type 0 = λ held.
    Leaves c.args.self.now Attach
    (record h { meaning = record h.meaning { seats = c.push.new.self.items }; fallback = held }) in
    subst P (sym c.in_ok-reserve.ensures.same)
    (attach-leaves h c.args.self.now c.push.new.self.items c.new-session.result c.self.view_is
    (c.new-session.ensures
    ∙ ap (λ ss. f (c.sessions-number.result + 1) (begun (code_of ss)))
    (c.in_ok-another.ensures ∙ c.self.invariant.shared)
    ∙ ap (λ n. f (n + 1) (begun (code_of a.scripts.now)))
    (c.sessions-number.ensures ∙ sym (ap (λ o. length o.meaning.seats) c.self.view_is)))
    c.in_ok-push.ensures.items)

pub returns-clause-stands : goal.returns-clause-stands
returns-clause-stands c =
    attach-stands c.args.self.now _ (ap (λ h. h.broken) (sym c.self.view_is) ∙ c.if-self.false)
    (returns-clause-leaves c)
