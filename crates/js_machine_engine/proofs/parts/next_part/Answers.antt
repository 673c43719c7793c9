use Rattle.std.proofs.Common.{ℕ, sym, subst, ◌∙◌, rules}
use Rattle.js_machine_engine.specs.Parts.{IsTaken}
use Rattle.js_machine_engine.proofs.PartLemmas.{taken-none-yet, taken-value, taken-part, taken-none, taken-all, taken-already}
use Rattle.js_machine_engine.proofs.parts.next_part.Goals as goal

pub loop-at-init : goal.loop-at-init
loop-at-init c =
    let P : ℕ → Type 0 = IsTaken c.args.table.now c.args.stack.now c.args.stack.now in
    subst P (sym c.at-first.ensures) (taken-none-yet c.args.table.now c.args.stack.now)

pub returns-then-first-mid : goal.returns-then-first-mid
returns-then-first-mid c = taken-already c.args.table.now c.args.stack.now (search rules)

pub returns-in_default : goal.returns-in_default
returns-in_default c =
    taken-none c.args.table.now c.args.stack.now c.loop-at.stack c.set_at.new.self c.loop-at.at c.mid-mid.result
    c.loop-at.invariant c.mid-mid.ensures (sym c.part_at.ensures ∙ c.in_default.is) c.set_at.ensures

pub returns-in-None : goal.returns-in-None
returns-in-None c =
    taken-part c.args.table.now c.args.stack.now c.loop-at.stack c.set_at-in-None.new.self c.loop-at.at
    c.mid-mid.result c.in-Some.part c.loop-at.invariant
    c.mid-mid.ensures c.loop-at-test.true (sym c.in-Some.ensures)
    c.in-None.ensures.form c.set_at-in-None.ensures

pub loop-at-preserved : goal.loop-at-preserved
loop-at-preserved c =
    taken-value c.args.table.now c.args.stack.now c.loop-at.stack c.push_value.new.self c.loop-at.at c.mid-mid.result
    c.in-Some.part c.in-Some-value_at.value c.loop-at.invariant
    c.mid-mid.ensures c.loop-at-test.true (sym c.in-Some.ensures)
    c.in-Some-value_at.ensures.value c.in_ok-push_value-in-Some-value_at.ensures

pub returns : goal.returns
returns c =
    taken-all c.args.table.now c.args.stack.now c.loop-at.stack c.set_at-2.new.self c.loop-at.at c.mid-mid.result
    c.loop-at.invariant c.mid-mid.ensures c.loop-at-test.false c.set_at-2.ensures
