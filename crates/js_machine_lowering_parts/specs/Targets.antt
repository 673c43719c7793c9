-- Terms that are read, and so may be targets and callees by reference.
use Rattle.std.specs.Prelude.{◌≡◌, Option, Some, None}
use Rattle.js_tree_operators.specs.declared.operator.BinaryOperator.{BinaryOperator}
use Rattle.js_tree_operators.specs.declared.operator.BinaryOperator.TheVariants as binaries
use Rattle.js_semantics.specs.declared.form.Form.{Form}
use Rattle.js_semantics.specs.declared.form.Reference.{Reference}
use Rattle.js_semantics.specs.declared.form.Form.TheVariants as forms
use Rattle.js_semantics.specs.Terms as semantics
use Rattle.js_machine_lowering_parts.specs.declared.references.AssignmentTarget.{AssignmentTarget}
use Rattle.js_machine_lowering_parts.specs.declared.references.AssignmentTarget.TheVariants as targets
use Rattle.js_machine_terms.specs.Views.{term_view, terms_view}

-- the reference of a term that is read, and its parts
pub record ReadTerm : Type 0 where
  pub reference : Reference
  pub now : semantics.Terms
  pub later : semantics.Terms

-- the reference that a term reads, with its parts; none where it reads none
abbrev pub read_of : semantics.Term → Option ReadTerm
read_of (semantics.part (forms.Read r) now later) = Some (record { reference = r; now = now; later = later })
read_of _ = None

-- a term that is taken apart where it is read
abbrev pub IsTarget : semantics.Term → AssignmentTarget → Type 0
IsTarget t (targets.Reference r now later) =
    read_of t ≡ Some (record { reference = r; now = terms_view now; later = terms_view later })
IsTarget t (targets.Other u) = (read_of t ≡ None) × (term_view u ≡ t)

-- the form of an operator that decides by its left value
abbrev pub deciding_form : BinaryOperator → Option Form
deciding_form binaries.LogicalAnd = Some forms.Both
deciding_form binaries.LogicalOr = Some forms.Either
deciding_form _ = None
