use Rattle.std.proofs.Common.{◌≡◌, List, sym, ap, ◌∙◌, None}
use Rattle.std.specs.Prelude.{is_some}
use Rattle.js_heap.specs.declared.value.Value.{Value}
use Rattle.js_heap.specs.declared.value.Value.TheVariants as values
use Rattle.std.proofs.lemmas.Result.{IfOk-weaker}
use Rattle.js_semantics.specs.Terms.{last_value, dones, at_test, at_body, behind_body, behind_first}
use Rattle.js_machine_nodes.specs.declared.op.Op.TheVariants as ops
use Rattle.js_machine_engine.specs.declared.closing.Closing.TheVariants as closings
use Rattle.js_machine_engine.specs.Tasks.{kept_of}
use Rattle.js_machine_engine.specs.Stacks.{values_of, extra_of, has_extra}
use Rattle.js_machine_engine.specs.Settling.{closing_of, settled_row, Comes, IsInnermost, looped}
use Rattle.js_machine_engine.proofs.FinishLemmas.{first-op, doing-op, body-op, updating-op}
use Rattle.js_machine_engine.proofs.ClosingLemmas.{innermost-none, waits-comes, undefined-comes, last-comes, loop-comes, first-term, doing-term, body-term, updating-term, kept-comes, ended-comes}
use Rattle.js_machine_engine.proofs.finish.finish.Goals as goal

pub returns-in-Waits : goal.returns-in-Waits
returns-in-Waits c =
    waits-comes c.args.table.now c.args.stack.now c.in-Some.task (extra_of c.args.stack.now) c.in-Some.ensures.some
    (sym c.closing_of.ensures ∙ c.in-Waits.is) c.requires

pub returns-in-Undefined : goal.returns-in-Undefined
returns-in-Undefined c =
    rw c.leave.ensures.value
    (undefined-comes c.args.table.now c.args.stack.now c.leave.new.stack c.in-Some.task (extra_of c.args.stack.now)
    c.in-Some.ensures.some (sym c.closing_of.ensures ∙ c.in-Undefined.is) c.leave.ensures.outer)

pub returns-in-Last : goal.returns-in-Last
returns-in-Last c =
    let q : c.last_value-value.result ≡ last_value values.Undefined (dones (values_of c.args.stack.now))
    = c.last_value-value.ensures
    ∙ ap (λ (vs : List Value). last_value values.Undefined (dones vs)) c.values.ensures in
    rw c.leave-in-Last.ensures.value
    (last-comes c.args.table.now c.args.stack.now c.leave-in-Last.new.stack c.in-Some.task
    (extra_of c.args.stack.now) c.last_value-value.result c.in-Some.ensures.some
    (sym c.closing_of.ensures ∙ c.in-Last.is) q c.leave-in-Last.ensures.outer)

pub returns-in-First : goal.returns-in-First
returns-in-First c =
    let t = c.args.table.now in
    let old = c.args.stack.now in
    let task = c.in-Some.task in
    let h : closing_of task.op ≡ closings.First = sym c.closing_of.ensures ∙ c.in-First.is in
    let o : task.op ≡ ops.LoopFirst = first-op task.op h in
    let i : IsInnermost task None old = innermost-none old task c.in-Some.ensures.some c.in-Some.ensures.owned
    (ap (λ op. has_extra op task.info) o) in
    IfOk-weaker c.behind_first.result
    (Comes t old c.behind_first.new.stack (λ ts. looped ts t old behind_first task))
    (Comes t old c.behind_first.new.stack (λ ts. settled_row ts t old))
    (λ next. loop-comes t old c.behind_first.new.stack task next behind_first (first-term t old task i h))
    c.behind_first.ensures

pub returns-in-Doing : goal.returns-in-Doing
returns-in-Doing c =
    let t = c.args.table.now in
    let old = c.args.stack.now in
    let task = c.in-Some.task in
    let h : closing_of task.op ≡ closings.Doing = sym c.closing_of.ensures ∙ c.in-Doing.is in
    let o : task.op ≡ ops.LoopDoing = doing-op task.op h in
    let i : IsInnermost task None old = innermost-none old task c.in-Some.ensures.some c.in-Some.ensures.owned
    (ap (λ op. has_extra op task.info) o) in
    IfOk-weaker c.at_body.result
    (Comes t old c.at_body.new.stack (λ ts. looped ts t old at_body task))
    (Comes t old c.at_body.new.stack (λ ts. settled_row ts t old))
    (λ next. loop-comes t old c.at_body.new.stack task next at_body (doing-term t old task i h))
    c.at_body.ensures

pub returns-in-Body : goal.returns-in-Body
returns-in-Body c =
    let t = c.args.table.now in
    let old = c.args.stack.now in
    let task = c.in-Some.task in
    let h : closing_of task.op ≡ closings.Body = sym c.closing_of.ensures ∙ c.in-Body.is in
    let o : task.op ≡ ops.LoopBody = body-op task.op h in
    let i : IsInnermost task None old = innermost-none old task c.in-Some.ensures.some c.in-Some.ensures.owned
    (ap (λ op. has_extra op task.info) o) in
    IfOk-weaker c.behind_body.result
    (Comes t old c.behind_body.new.stack (λ ts. looped ts t old behind_body task))
    (Comes t old c.behind_body.new.stack (λ ts. settled_row ts t old))
    (λ next. loop-comes t old c.behind_body.new.stack task next behind_body (body-term t old task i h))
    c.behind_body.ensures

pub returns-in-Updating : goal.returns-in-Updating
returns-in-Updating c =
    let t = c.args.table.now in
    let old = c.args.stack.now in
    let task = c.in-Some.task in
    let h : closing_of task.op ≡ closings.Updating = sym c.closing_of.ensures ∙ c.in-Updating.is in
    let o : task.op ≡ ops.LoopUpdating = updating-op task.op h in
    let i : IsInnermost task None old = innermost-none old task c.in-Some.ensures.some c.in-Some.ensures.owned
    (ap (λ op. has_extra op task.info) o) in
    IfOk-weaker c.at_test.result
    (Comes t old c.at_test.new.stack (λ ts. looped ts t old at_test task))
    (Comes t old c.at_test.new.stack (λ ts. settled_row ts t old))
    (λ next. loop-comes t old c.at_test.new.stack task next at_test (updating-term t old task i h))
    c.at_test.ensures

pub returns-then-keeps : goal.returns-then-keeps
returns-then-keeps c =
    kept-comes c.args.table.now c.args.stack.now c.in-Some.task (extra_of c.args.stack.now) c.in-Some.ensures.some
    (sym c.closing_of.ensures ∙ c.in-Ending.is)
    (ap (λ e. is_some (kept_of e)) (sym c.extra.ensures) ∙ sym c.keeps.ensures ∙ c.if-keeps.true) c.requires

pub returns-else-keeps : goal.returns-else-keeps
returns-else-keeps c =
    rw c.leave-else-keeps.ensures.value
    (ended-comes c.args.table.now c.args.stack.now c.leave-else-keeps.new.stack c.in-Some.task
    (extra_of c.args.stack.now) c.in-Some.ensures.some (sym c.closing_of.ensures ∙ c.in-Ending.is)
    (ap (λ e. is_some (kept_of e)) (sym c.extra.ensures) ∙ sym c.keeps.ensures ∙ c.if-keeps.false)
    c.leave-else-keeps.ensures.outer)
