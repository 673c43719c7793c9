-- Lemmas on forms that share a row's beginning.
use Rattle.std.proofs.Common.{◌≡◌, refl}
use Rattle.js_tree_operators.specs.declared.operator.BinaryOperator.{BinaryOperator}
use Rattle.js_machine_nodes.specs.declared.op.Op.{Op}
use Rattle.js_machine_nodes.specs.declared.op.Op.TheVariants as ops
use Rattle.js_machine_engine.specs.Rows.{IsCatching}
use Rattle.js_machine_rows.specs.Table.{IsCalling, IsCompound}

pub no-other-call : (o : Op)
    → IsCalling o
    → (o ≡ ops.Call → ⊥)
    → (o ≡ ops.CallOfName → ⊥)
    → (o ≡ ops.CallOfMember → ⊥)
    → (o ≡ ops.CallOfIndex → ⊥)
    → ⊥
no-other-call ops.Call h call name member index = call refl
no-other-call ops.CallOfName h call name member index = name refl
no-other-call ops.CallOfMember h call name member index = member refl
no-other-call ops.CallOfIndex h call name member index = index refl
no-other-call _ h call name member index = h

pub no-other-compound : (o : Op)
    → IsCompound o
    → ((p : BinaryOperator) → o ≡ ops.CompoundName p → ⊥)
    → ((p : BinaryOperator) → o ≡ ops.CompoundMember p → ⊥)
    → ((p : BinaryOperator) → o ≡ ops.CompoundIndex p → ⊥)
    → ⊥
no-other-compound (ops.CompoundName p) h name member index = name p refl
no-other-compound (ops.CompoundMember p) h name member index = member p refl
no-other-compound (ops.CompoundIndex p) h name member index = index p refl
no-other-compound _ h name member index = h

pub no-other-catch : (o : Op) → IsCatching o → (o ≡ ops.Catching → ⊥) → (o ≡ ops.CatchingName → ⊥) → ⊥
no-other-catch ops.Catching h nameless named = nameless refl
no-other-catch ops.CatchingName h nameless named = named refl
no-other-catch _ h nameless named = h
