use Rattle.std.proofs.Common.{Some, sym, ap, ◌∙◌}
use Rattle.js_semantics.specs.Terms.{done}
use Rattle.js_machine_engine.specs.Gaps.{resettled}
use Rattle.js_machine_engine.specs.Tasks.{gaps_of}
use Rattle.js_machine_engine.specs.Parts.{IsNextPart}
use Rattle.js_machine_engine.specs.Settling.{closing_of, is_waiting, Comes}
use Rattle.js_machine_engine.specs.declared.closing.Next.TheVariants as nexts
use Rattle.js_machine_engine.proofs.DescentLemmas.{take-part, part-settles, part-task, take-waits, take-fills}
use Rattle.js_machine_engine.proofs.settling.take.Goals as goal

pub inner_scope-inner-requires : goal.inner_scope-inner-requires
inner_scope-inner-requires c =
    part-task c.args.table.now c.args.stack.now c.push_value.new.self c.next_part.new.stack c.args.value _
    c.requires.task c.in_ok-push_value.ensures c.in_ok-next_part.ensures

pub returns-then-branch : goal.returns-then-branch
returns-then-branch c =
    let t = c.args.table.now in
    let old = c.args.stack.now in
    let mid = c.next_part.new.stack in
    let v = c.args.value in
    let i : IsNextPart t c.push_value.new.self mid (Some c.next_part.new.next)
    = rw c.if-branch.true at c.in_ok-next_part.ensures in
    let p : Comes t old mid (λ ts. resettled (gaps_of ts t old) (done v)) (nexts.Part c.next_part.new.next)
    = take-part t old c.push_value.new.self mid v c.next_part.new.next c.requires.task c.in_ok-push_value.ensures i in
    part-settles t old mid c.descend.new.stack (λ ts. resettled (gaps_of ts t old) (done v))
    c.next_part.new.next c.inner_scope-inner.result c.descend.new.point p
    c.inner_scope-inner.ensures
    c.in_ok-descend.ensures.term c.in_ok-descend.ensures.at c.in_ok-descend.ensures.scoped

pub returns-then-is_waiting : goal.returns-then-is_waiting
returns-then-is_waiting c =
    rw c.set_row.ensures
    (take-waits c.args.table.now c.args.stack.now c.push_value.new.self c.next_part.new.stack c.args.value
    c.requires.task c.in_ok-push_value.ensures
    (rw c.if-branch.false at c.in_ok-next_part.ensures)
    (ap (λ op. is_waiting (closing_of op)) (sym c.op.ensures) ∙ sym c.is_waiting.ensures ∙ c.if-is_waiting.true))

pub returns : goal.returns
returns c =
    take-fills c.args.table.now c.args.stack.now c.push_value.new.self c.next_part.new.stack c.args.value
    c.requires.task c.in_ok-push_value.ensures
    (rw c.if-branch.false at c.in_ok-next_part.ensures)
