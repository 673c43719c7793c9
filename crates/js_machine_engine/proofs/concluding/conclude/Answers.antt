use Rattle.js_machine_actions.specs.Contexts.{state_of}
use Rattle.js_machine_engine.specs.declared.answer.Demand.TheVariants as kinds
use Rattle.js_machine_engine.specs.Stacks.{outer_of}
use Rattle.js_machine_engine.specs.Following.{innermost}
use Rattle.js_machine_engine.specs.Answers.{reduced_term}
use Rattle.js_machine_engine.proofs.ConcludeLemmas.{says-as, went-follows, told-popped, raise-told, effect-told, full-told, goes-on-weaker}
use Rattle.js_machine_engine.proofs.concluding.conclude.Goals as goal

pub returns-in-Follows-clause-told : goal.returns-in-Follows-clause-told
returns-in-Follows-clause-told c = λ ts m w taken h.
    let t = c.args.code.now.table.now in
    let old = c.args.stack.now in
    let s = state_of w c.args.context.now taken in
    went-follows c.follow.result c.went_of.result ts t c.args.code.now.root (outer_of old)
    c.follow.new.stack c.follow.new.point m (λ names. reduced_term names t (innermost old) c.args.reduced)
    s c.went_of.ensures
    (says-as ts t (innermost old) m c.args.reduced c.args.answer kinds.Follows s c.in-Follows.is h)
    c.follow.ensures.term

pub returns-in-Raises-clause-told : goal.returns-in-Raises-clause-told
returns-in-Raises-clause-told c = λ ts m w taken h.
    let t = c.args.code.now.table.now in
    let old = c.args.stack.now in
    let us = c.pop.new.self in
    let v = c.in-Raises.value in
    let s = state_of w c.args.context.now taken in
    told-popped ts t c.args.code.now.root old us us c.raise.new.point m c.raise.result s c.pop.ensures.outer
    (raise-told ts t c.args.code.now.root us v c.args.context.now w taken c.raise.result c.raise.new.point m
    c.raise.ensures
    (says-as ts t (innermost old) m c.args.reduced c.args.answer (kinds.Raises v) s c.in-Raises.is h))

pub returns-in-Prints-clause-stands : goal.returns-in-Prints-clause-stands
returns-in-Prints-clause-stands c =
    goes-on-weaker c.print_row.result (λ h. h c.args.code.now.root) c.print_row.ensures.stands

pub returns-in-Effect-clause-told : goal.returns-in-Effect-clause-told
returns-in-Effect-clause-told c = λ ts m w taken h.
    let t = c.args.code.now.table.now in
    let old = c.args.stack.now in
    let s = state_of w c.args.context.now taken in
    effect-told ts t c.args.code.now.root (outer_of old) old c.args.point.now m s
    (says-as ts t (innermost old) m c.args.reduced c.args.answer kinds.Effect s c.in-Effect.is h)

pub returns-in-Full-clause-told : goal.returns-in-Full-clause-told
returns-in-Full-clause-told c = λ ts m w taken h.
    let t = c.args.code.now.table.now in
    let old = c.args.stack.now in
    let s = state_of w c.args.context.now taken in
    full-told ts t c.args.code.now.root (outer_of old) old c.args.point.now c.in-Full.what m s
    (says-as ts t (innermost old) m c.args.reduced c.args.answer (kinds.Full c.in-Full.what) s c.in-Full.is h)
