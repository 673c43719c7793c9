use Rattle.std.proofs.Common.{ℕ, ◌++◌, [], is_some, sym, subst, arith}
use Rattle.std.specs.Option.{option_map}
use Rattle.cdp_host_isolation.specs.Passes.{Behind, Over}
use Rattle.cdp_host_isolation.proofs.PassLemmas.{behind-each}
use Rattle.js_machine.specs.Machines.{IsKept}
use Rattle.cdp_host.specs.Hosts.{machine_step}
use Rattle.cdp_host.specs.Protocols.{protocol}
use Rattle.cdp_host.proofs.AdvanceLemmas.{advance-made}
use Rattle.cdp_host.proofs.KeepingLemmas.{stepped-indexed}
use Rattle.cdp_host.proofs.PartLemmas.{HasRun, advance-printed, has-advanced, has-printed}
use Rattle.cdp_host.proofs.advance.make_stretch.Goals as goal

pub watch_machine-stopped-requires-clause-kept : goal.watch_machine-stopped-requires-clause-kept
watch_machine-stopped-requires-clause-kept c =
    subst (λ m. IsKept m.ended) (sym c.take_printed.ensures.rest) (c.is_lost.ensures.kept c.if-is_lost.false)

pub returns-clause-made : goal.returns-clause-made
returns-clause-made c = λ taken.
    let r = c.run_until-steps.ensures in
    let k = c.run_until-steps.result.steps in
    let why = c.run_until-steps.result.why in
    let n = c.run_until-steps.new.self in
    let i = c.run_until-steps.new.world in
    let m = c.take_printed.new.self in
    let most = c.most_of-most.result in
    let some = c.most_of-most.ensures.some in
    let kept = c.is_lost.ensures.kept c.if-is_lost.false in
    let ran : HasRun c.args.scripts.now c.args.seats.now most c.args.machine.now c.args.heap.now n i k why = record {
      runs = r.run;
      left = r.left;
      within = r.within;
      counted = r.counted;
      passed = r.passed;
      end = r.end;
      values = r.values;
      silent = r.silent;
    } in
    let before = taken ++ c.args.printed.now.items in
    let steps = advance-printed c.args.scripts.now c.args.seats.now most k _ n m i c.take_printed.result.items
    c.args.printed.now.items c.append.new.self.items taken
    (has-advanced c.args.scripts.now c.args.seats.now most c.args.machine.now c.args.heap.now n i k why ran
    c.requires.code some kept c.requires.runs before)
    c.take_printed.ensures.texts c.take_printed.ensures.rest c.in_ok-append.ensures.items in
    let few = steps.counts.some in
    let within = steps.counts.within in
    let values = option_map (λ vs. vs.items) c.printed_values-values.result in
    let t = machine_step c.args.scripts.now m i values c.args.first in
    let Q : ℕ → Type 0 = λ number. Over
    (Behind (protocol c.args.scripts.now) (is_some c.watch_machine-stopped.result) number c.args.moment t)
    c.args.seats.now c.watch_machine-stopped.new.seats c.watch_machine-stopped.new.named in
    advance-made c.args.scripts.now c.args.moment most k c.args.machine.now m c.args.heap.now i
    c.args.first c.args.stops c.args.seats.now c.watch_machine-stopped.new.seats c.watch_machine-stopped.new.named
    c.watch_machine-stopped.result values
    before (taken ++ c.append.new.self.items)
    steps
    (subst (λ x. IsKept x.ended) (sym c.take_printed.ensures.rest) kept)
    (λ first. let one = c.most_of-most.ensures.one first in omega (arith, one, within, few))
    c.requires.fit c.requires.all_told
    (has-printed c.args.scripts.now c.args.seats.now most c.args.machine.now c.args.heap.now n i k why values ran
    c.requires.code some kept c.requires.runs c.printed_values-values.ensures before)
    c.watch_machine-stopped.ensures.depth
    (subst Q c.next_number-number.ensures c.watch_machine-stopped.ensures.behind) c.watch_machine-stopped.ensures.any

pub returns-clause-counts : goal.returns-clause-counts
returns-clause-counts c =
    let r = c.run_until-steps.ensures in
    let k = c.run_until-steps.result.steps in
    let n = c.run_until-steps.new.self in
    let i = c.run_until-steps.new.world in
    let why = c.run_until-steps.result.why in
    let most = c.most_of-most.result in
    let kept = c.is_lost.ensures.kept c.if-is_lost.false in
    let ran : HasRun c.args.scripts.now c.args.seats.now most c.args.machine.now c.args.heap.now n i k why = record {
      runs = r.run;
      left = r.left;
      within = r.within;
      counted = r.counted;
      passed = r.passed;
      end = r.end;
      values = r.values;
      silent = r.silent;
    } in
    let counts = (has-advanced c.args.scripts.now c.args.seats.now most c.args.machine.now c.args.heap.now n i k why ran
    c.requires.code c.most_of-most.ensures.some kept c.requires.runs []).counts in
    let within = counts.within in
    let few = c.most_of-most.ensures.within in
    record { some = counts.some; within = omega (arith, within, few) }

pub returns-clause-fit : goal.returns-clause-fit
returns-clause-fit c =
    let values = option_map (λ vs. vs.items) c.printed_values-values.result in
    (behind-each (protocol c.args.scripts.now) (is_some c.watch_machine-stopped.result)
    c.next_number-number.result c.args.moment
    (machine_step c.args.scripts.now c.take_printed.new.self c.run_until-steps.new.world values c.args.first)
    c.args.seats.now c.watch_machine-stopped.new.seats c.watch_machine-stopped.new.named
    c.watch_machine-stopped.ensures.behind).2

pub returns-clause-indexed : goal.returns-clause-indexed
returns-clause-indexed c =
    let values = option_map (λ vs. vs.items) c.printed_values-values.result in
    stepped-indexed c.args.scripts.now (is_some c.watch_machine-stopped.result) c.next_number-number.result c.args.moment
    (machine_step c.args.scripts.now c.take_printed.new.self c.run_until-steps.new.world values c.args.first)
    c.args.seats.now c.watch_machine-stopped.new.seats c.watch_machine-stopped.new.named
    c.args.index.now c.forget_lost.new.index
    c.watch_machine-stopped.ensures.behind c.forget_lost.ensures c.requires.indexed
