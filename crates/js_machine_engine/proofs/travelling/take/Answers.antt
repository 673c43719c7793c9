use Rattle.js_machine_actions.specs.Contexts.{state_of}
use Rattle.js_machine_engine.specs.declared.passing.Taking.TheVariants as takings
use Rattle.js_machine_engine.specs.Answers.{reduced_term}
use Rattle.js_machine_engine.proofs.ConcludeLemmas.{went-stands, goes-on-weaker}
use Rattle.js_machine_engine.proofs.TravelLemmas.{takes-as, returns-told, breaks-told, turns-told, keeps-told, went-stood}
use Rattle.js_machine_engine.proofs.travelling.take.Goals as goal

pub returns-in-Returns-clause-told : goal.returns-in-Returns-clause-told
unfolding reduced_term
returns-in-Returns-clause-told g c = λ taken.
    let ts = c.args.code.now.names.now in
    let t = c.args.code.now.table.now in
    let w = g.W.World.world ts c.args.world.now in
    let k = takes-as t c.args.stack.now c.args.completion c.args.taking (takings.Returns c.in-Returns.value)
    c.in-Returns.is c.requires.takes in
    returns-told ts t c.args.code.now.root c.args.stack.now c.follow_value.new.stack c.follow_value.new.point
    c.args.completion
    c.in-Returns.value c.went_of.result c.follow_value.result w c.args.context.now c.pop_frame.new.self taken k
    c.pop_frame.ensures c.went_of.ensures c.follow_value.ensures.term

pub returns-in-Returns-clause-stands : goal.returns-in-Returns-clause-stands
returns-in-Returns-clause-stands g c =
    goes-on-weaker c.went_of.result (λ k. k c.requires.scoped)
    (went-stands c.follow_value.result c.went_of.result c.args.code.now.table.now c.args.code.now.root c.args.stack.now
    c.follow_value.new.stack c.follow_value.new.point c.went_of.ensures c.follow_value.ensures.at
    c.follow_value.ensures.scoped)

pub returns-in-Breaks-clause-told : goal.returns-in-Breaks-clause-told
unfolding reduced_term
returns-in-Breaks-clause-told g c = λ taken.
    let ts = c.args.code.now.names.now in
    let t = c.args.code.now.table.now in
    let w = g.W.World.world ts c.args.world.now in
    let k = takes-as t c.args.stack.now c.args.completion c.args.taking takings.Breaks c.in-Breaks.is c.requires.takes
    in
    breaks-told ts t c.args.code.now.root c.args.stack.now c.follow_value-in-Breaks.new.stack
    c.follow_value-in-Breaks.new.point
    c.args.completion c.went_of-in-Breaks.result c.follow_value-in-Breaks.result
    (state_of w c.args.context.now taken) k c.went_of-in-Breaks.ensures c.follow_value-in-Breaks.ensures.term

pub returns-in-Breaks-clause-stands : goal.returns-in-Breaks-clause-stands
returns-in-Breaks-clause-stands g c =
    goes-on-weaker c.went_of-in-Breaks.result (λ k. k c.requires.scoped)
    (went-stands c.follow_value-in-Breaks.result c.went_of-in-Breaks.result c.args.code.now.table.now
    c.args.code.now.root
    c.args.stack.now c.follow_value-in-Breaks.new.stack c.follow_value-in-Breaks.new.point
    c.went_of-in-Breaks.ensures c.follow_value-in-Breaks.ensures.at c.follow_value-in-Breaks.ensures.scoped)

pub returns-in-Turns-clause-told : goal.returns-in-Turns-clause-told
returns-in-Turns-clause-told g c = λ taken.
    let ts = c.args.code.now.names.now in
    let t = c.args.code.now.table.now in
    let w = g.W.World.world ts c.args.world.now in
    let k = takes-as t c.args.stack.now c.args.completion c.args.taking takings.Turns c.in-Turns.is c.requires.takes in
    turns-told ts t c.args.code.now.root c.args.stack.now c.end_turn.new.stack c.end_turn.new.point c.args.completion
    c.went_of-in-Turns.result c.end_turn.result
    (state_of w c.args.context.now taken) k c.went_of-in-Turns.ensures c.end_turn.ensures.term

pub returns-in-Turns-clause-stands : goal.returns-in-Turns-clause-stands
returns-in-Turns-clause-stands g c =
    went-stood c.end_turn.result c.went_of-in-Turns.result c.args.code.now.table.now c.args.code.now.root
    c.args.stack.now
    c.end_turn.new.stack c.end_turn.new.point c.went_of-in-Turns.ensures c.end_turn.ensures.at
    c.end_turn.ensures.scoped c.requires.scoped

pub returns-in-Keeps-clause-told : goal.returns-in-Keeps-clause-told
returns-in-Keeps-clause-told g c = λ taken.
    let ts = c.args.code.now.names.now in
    let t = c.args.code.now.table.now in
    let w = g.W.World.world ts c.args.world.now in
    let k = takes-as t c.args.stack.now c.args.completion c.args.taking takings.Keeps c.in-Keeps.is c.requires.takes in
    keeps-told ts t c.args.code.now.root c.args.stack.now c.keep.new.stack c.keep.new.point c.args.completion
    c.went_of-in-Keeps.result c.keep.result
    (state_of w c.args.context.now taken) k c.went_of-in-Keeps.ensures c.keep.ensures.term

pub returns-in-Keeps-clause-stands : goal.returns-in-Keeps-clause-stands
returns-in-Keeps-clause-stands g c =
    went-stood c.keep.result c.went_of-in-Keeps.result c.args.code.now.table.now c.args.code.now.root c.args.stack.now
    c.keep.new.stack
    c.keep.new.point c.went_of-in-Keeps.ensures c.keep.ensures.at c.keep.ensures.scoped c.requires.scoped
