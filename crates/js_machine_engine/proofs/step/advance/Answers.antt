use Rattle.std.proofs.Common.{sym, ◌∙◌}
use Rattle.js_machine_engine.proofs.step.advance.Goals as goal

pub step_row-requires-clause-row : goal.step_row-requires-clause-row
step_row-requires-clause-row g c = rw (sym c.get.ensures ∙ c.in-Row.is) at c.requires.stands.at

pub step_leaf-requires-clause-leaf : goal.step_leaf-requires-clause-leaf
step_leaf-requires-clause-leaf g c = rw (sym c.get.ensures ∙ c.in-Leaf.is) at c.requires.stands.at

pub returns-in-Row-clause-told : goal.returns-in-Row-clause-told
returns-in-Row-clause-told g c = λ taken. rw (sym c.get.ensures ∙ c.in-Row.is) (c.step_row.ensures.told taken)

pub returns-in-Leaf-clause-told : goal.returns-in-Leaf-clause-told
returns-in-Leaf-clause-told g c = λ taken. rw (sym c.get.ensures ∙ c.in-Leaf.is) (c.step_leaf.ensures.told taken)
