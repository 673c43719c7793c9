use Rattle.std.proofs.Common.{true, false, sym, ◌∙◌}
use Rattle.std.proofs.lemmas.Result.{on_ok_weaker}
use Rattle.js_semantics.specs.Terms.{done}
use Rattle.js_machine_engine.specs.Gaps.{resettled}
use Rattle.js_machine_engine.specs.Tasks.{gaps_of}
use Rattle.js_machine_engine.specs.Settling.{Takes, Settles}
use Rattle.js_machine_engine.proofs.DescentLemmas.{none-task, some-task, done-settles}
use Rattle.js_machine_engine.proofs.settling.give.Goals as goal

pub returns-then-is_empty-clause-term : goal.returns-then-is_empty-clause-term
returns-then-is_empty-clause-term c =
    let t = c.args.table.now in
    let old = c.args.stack.now in
    let s : Settles t old old (λ ts. resettled (gaps_of ts t old) (done c.args.value)) c.set_done.new.self
    = rw c.set_done.ensures
    (done-settles t old c.args.value (none-task old (sym c.is_empty.ensures ∙ c.if-is_empty.true))) in
    s.term

pub returns-then-is_empty-clause-at : goal.returns-then-is_empty-clause-at
returns-then-is_empty-clause-at c =
    rw c.set_done.ensures (none-task c.args.stack.now (sym c.is_empty.ensures ∙ c.if-is_empty.true))

pub returns-then-is_empty-clause-scoped : goal.returns-then-is_empty-clause-scoped
returns-then-is_empty-clause-scoped c = λ root s. s

pub take-requires-clause-task : goal.take-requires-clause-task
take-requires-clause-task c = some-task c.args.stack.now (sym c.is_empty.ensures ∙ c.if-is_empty.false)

pub settle_row-requires-clause-row : goal.settle_row-requires-clause-row
settle_row-requires-clause-row c =
    let f : Takes c.args.table.now c.args.stack.now c.take.new.stack c.args.value c.take.new.point true
    = rw c.if-branch.true at c.in_ok-take.ensures in
    f.row

pub returns-then-branch-clause-term : goal.returns-then-branch-clause-term
returns-then-branch-clause-term c =
    let f : Takes c.args.table.now c.args.stack.now c.take.new.stack c.args.value c.take.new.point true
    = rw c.if-branch.true at c.in_ok-take.ensures in
    on_ok_weaker c.settle_row.result (λ d. λ ts. f.term ts ∙ d ts) c.settle_row.ensures.term

pub returns-then-branch-clause-scoped : goal.returns-then-branch-clause-scoped
returns-then-branch-clause-scoped c =
    let f : Takes c.args.table.now c.args.stack.now c.take.new.stack c.args.value c.take.new.point true
    = rw c.if-branch.true at c.in_ok-take.ensures in
    on_ok_weaker c.settle_row.result (λ d. λ root s. d root (f.scoped root s)) c.settle_row.ensures.scoped

pub returns-clause-term : goal.returns-clause-term
returns-clause-term c =
    let f : Takes c.args.table.now c.args.stack.now c.take.new.stack c.args.value c.take.new.point false
    = rw c.if-branch.false at c.in_ok-take.ensures in
    f.term

pub returns-clause-at : goal.returns-clause-at
returns-clause-at c =
    let f : Takes c.args.table.now c.args.stack.now c.take.new.stack c.args.value c.take.new.point false
    = rw c.if-branch.false at c.in_ok-take.ensures in
    f.at

pub returns-clause-scoped : goal.returns-clause-scoped
returns-clause-scoped c =
    let f : Takes c.args.table.now c.args.stack.now c.take.new.stack c.args.value c.take.new.point false
    = rw c.if-branch.false at c.in_ok-take.ensures in
    f.scoped
