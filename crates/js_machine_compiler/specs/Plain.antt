-- Terms that a table has nodes for: what comes up in a run alone has none, nor has a literal before its cell is made.
use Rattle.std.specs.Prelude.{Bool, true, false, ◌&&◌, Some}
use Rattle.js_semantics.specs.declared.form.Form.{Form}
use Rattle.js_semantics.specs.declared.form.Form.TheVariants.{Scoped as scoped, Frame as frame, Loop as loop, ListOf as list_of, TurnOf as turn_of, BodyOf as body_of, Ending as ending, Literal as literal}
use Rattle.js_semantics.specs.Terms.{Term, done, standing, part, Terms, end, more}

-- a form that a node has
abbrev pub is_plain_form : Form → Bool
is_plain_form (scoped a) = false
is_plain_form (frame node a) = false
is_plain_form (loop stage (Some a)) = false
is_plain_form (list_of b) = false
is_plain_form (turn_of b i) = false
is_plain_form (body_of b i) = false
is_plain_form (ending kept) = false
is_plain_form (literal text) = false
is_plain_form f = true

-- a term that a node has, and some of them
abbrev mutual
  -- a node has the term
  pub is_plain : Term → Bool
  is_plain (done v) = true
  is_plain (standing v s) = false
  is_plain (part f now later) = is_plain_form f && (are_plain now && are_plain later)

  -- nodes have all of these terms
  pub are_plain : Terms → Bool
  are_plain end = true
  are_plain (more t ts) = is_plain t && are_plain ts
