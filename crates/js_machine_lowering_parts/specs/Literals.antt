-- The literal that a form is.
use Rattle.std.specs.Prelude.{ℕ, List, Option, Some, None}
use Rattle.js_semantics.specs.declared.form.Form.{Form}
use Rattle.js_semantics.specs.declared.form.Form.TheVariants as forms

-- the units of a string literal whose cell isn't made yet, where the form is one
abbrev pub literal_in : Form → Option (List ℕ)
literal_in (forms.Literal us) = Some us
literal_in _ = None
