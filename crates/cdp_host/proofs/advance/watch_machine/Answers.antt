use Rattle.std.proofs.Common.{Bool, [], Option, true, false, ap, subst, ◌∙◌}
use Rattle.std.specs.Option.{option_map}
use Rattle.cdp_host_isolation.specs.Passes.{Behind, Over}
use Rattle.stepping.specs.declared.arrival.Arrival.{Arrival}
use Rattle.cdp_session.specs.declared.ending.Ending.{Ending}
use Rattle.cdp_host.specs.Hosts.{machine_arrival, machine_standing}
use Rattle.cdp_host.specs.Protocols.{protocol}
use Rattle.cdp_host.specs.Steps.{Step}
use Rattle.cdp_host.proofs.advance.watch_machine.Goals as goal

pub returns-then-let_watch-clause-behind : goal.returns-then-let_watch-clause-behind
returns-then-let_watch-clause-behind c =
    let f : Arrival
    → Option Ending
    → Step = λ a e. record {
      standing = machine_standing c.args.scripts.now c.args.machine.now c.args.heap.now;
      arrival = a;
      values = option_map
          (λ vs. vs.items) c.args.values;
      ending = e;
      first = c.args.first;
    } in
    let same = ap (λ a. f a c.ending_of.result) c.arrival_of.ensures
    ∙ ap (f (machine_arrival c.args.scripts.now c.args.machine.now)) (c.ending_of.ensures c.args.heap.now []) in
    let Q : Bool
    → Step
    → Type 0 = λ b t. Over (Behind (protocol c.args.scripts.now) b c.args.number c.args.moment t)
    c.args.seats.now c.let_watch.new.seats c.let_watch.new.named in
    subst (Q true) same
    (subst (λ b. Q b (f c.arrival_of.result c.ending_of.result)) c.if-let_watch.true c.let_watch.ensures.behind)

pub returns-clause-behind : goal.returns-clause-behind
returns-clause-behind c =
    let f : Arrival
    → Option Ending
    → Step = λ a e. record {
      standing = machine_standing c.args.scripts.now c.args.machine.now c.args.heap.now;
      arrival = a;
      values = option_map
          (λ vs. vs.items) c.args.values;
      ending = e;
      first = c.args.first;
    } in
    let same = ap (λ a. f a c.ending_of.result) c.arrival_of.ensures
    ∙ ap (f (machine_arrival c.args.scripts.now c.args.machine.now)) (c.ending_of.ensures c.args.heap.now []) in
    let Q : Bool
    → Step
    → Type 0 = λ b t. Over (Behind (protocol c.args.scripts.now) b c.args.number c.args.moment t)
    c.args.seats.now c.let_watch.new.seats c.let_watch.new.named in
    subst (Q false) same
    (subst (λ b. Q b (f c.arrival_of.result c.ending_of.result)) c.if-let_watch.false c.let_watch.ensures.behind)
