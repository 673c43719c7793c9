use Rattle.std.proofs.Common.{◌≡◌, [], ◌++◌, refl, ap, sym, subst, ◌∙◌, arith}
use Rattle.std.specs.Vec.{with_items}
use Rattle.std.proofs.lemmas.List.{with_items_is}
use Rattle.cdp_host_isolation.specs.Seats.{is_attached, some, waits_for_report}
use Rattle.cdp_host.specs.Hosts.{NoneAttached, machine_run, meaning_with}
use Rattle.cdp_host.specs.Indexing.{IsIndexOf}
use Rattle.cdp_host.specs.Programs.{is_over}
use Rattle.cdp_host.specs.Protocols.{protocol}
use Rattle.cdp_host.proofs.AdvanceLemmas.{free-told, ready-parts}
use Rattle.cdp_host.proofs.IndexLemmas.{gone-indexed}
use Rattle.cdp_host.proofs.PartLemmas.{still-going}
use Rattle.cdp_host.proofs.RunLemmas.{advanced, gone-fit}
use Rattle.cdp_host.proofs.host.Host.advance.Goals as goal
use Rattle.js_machine.proofs.PlainLemmas.{same_program}

pub make_stretch-requires-clause-going : goal.make_stretch-requires-clause-going
make_stretch-requires-clause-going c =
    let a = c.self.inside in
    let kept = c.self.invariant.kept (ap (λ h. h.broken) c.self.view_is ∙ c.requires.works) in
    let now = meaning_with c.args.self.now [] in
    still-going a.machine a.heap [] kept
    (ap (λ h. is_over (meaning_with h []).program) c.self.view_is
    ∙ (ready-parts c.args.self.now.scripts now (c.requires.ready [])).1)

pub make_stretch-requires-clause-all_told : goal.make_stretch-requires-clause-all_told
make_stretch-requires-clause-all_told c =
    let now = meaning_with c.args.self.now [] in
    ap (λ seats. some waits_for_report seats) c.as_mut_slice.ensures.value
    ∙ ap (λ h. some waits_for_report h.meaning.seats) c.self.view_is
    ∙ free-told now (ready-parts c.args.self.now.scripts now (c.requires.ready [])).0

pub make_stretch-requires-clause-indexed : goal.make_stretch-requires-clause-indexed
make_stretch-requires-clause-indexed c =
    subst (λ seats. IsIndexOf seats c.self.inside.index) (sym c.as_mut_slice.ensures.value) c.self.invariant.indexed

pub invariant_of-self-in-Err : goal.invariant_of-self-in-Err
invariant_of-self-in-Err c =
    let a = c.self.inside in
    let none : NoneAttached c.restore.new.seats.items =
    ap (λ ss. some is_attached ss) c.restore.ensures.seats ∙ c.self.invariant.gone in
    record {
      lines = c.self.invariant.lines;
      spots = c.self.invariant.spots;
      code = same_program a.machine c.make_stretch.new.machine c.in-Err.ensures.code ∙ c.self.invariant.code;
      shared = c.self.invariant.shared;
      handed = λ works. absurd cc;
      kept = λ works. absurd cc;
      quiet = λ works. absurd cc;
      room = λ works. absurd cc;
      alone = λ _. none;
      gone = ap (λ ss. some is_attached ss) c.restore.ensures.gone;
      indexed = gone-indexed c.restore.new.seats.items c.new.result none c.new.ensures;
      fit = gone-fit (protocol a.scripts.now) c.restore.new.seats.items none;
    }

pub returns-in-Ok-clause-made : goal.returns-in-Ok-clause-made
returns-in-Ok-clause-made c = λ taken.
    let a = c.self.inside in
    let before = taken ++ c.args.printed.now.items in
    let after = taken ++ c.make_stretch.new.printed.items in
    let seats : (with_items a.seats c.make_stretch.new.seats).items ≡ c.make_stretch.new.seats =
    with_items_is a.seats c.make_stretch.new.seats (omega (arith, c.make_stretch.auto.seats, c.as_mut_slice.ensures.len)) in
    advanced _ c.args.self.now a.scripts.now c.args.moment c.in-Ok.field-0.steps c.is_first.result
    c.as_mut_slice.result.now c.make_stretch.new.seats
    (with_items a.seats c.make_stretch.new.seats).items before c.in-Ok.field-0.stopped c.pause_behind-self-inside.result
    c.stops_behind-self-inside.result
    (machine_run c.make_stretch.new.machine c.make_stretch.new.heap after)
    c.self.view_is (c.requires.ready before) refl c.is_first.ensures c.as_mut_slice.ensures.value
    c.pause_behind-self-inside.ensures c.stops_behind-self-inside.ensures seats (c.in-Ok.ensures.made taken)
