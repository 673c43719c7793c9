-- Terms before the first step: they hold no address, as no tree does.
use Rattle.std.specs.Prelude.{◌≡◌, List, [], ◌∷◌, None}
use Rattle.js_heap.specs.declared.value.Value.{Value}
use Rattle.js_heap.specs.declared.value.Value.TheVariants as values
use Rattle.js_heap.specs.declared.cell.Binding.{Binding}
use Rattle.js_semantics.specs.Terms.{Form, script, enter_for, enter_for_of, block, scoped, frame, loop, list_of, turn_of, body_of, ending, function, method, Term, done, standing, part, Terms, end, more}

-- a value holds no address: it is neither a string nor an object
abbrev pub HasNoAddress : Value → Type 0
HasNoAddress (values.Text a) = ⊥
HasNoAddress (values.Object a) = ⊥
HasNoAddress _ = Unit {0}

-- declared names have no value yet
abbrev pub AreDeclared : List Binding → Type 0
AreDeclared [] = Unit {0}
AreDeclared (b ∷ bs) = (b.value ≡ None) × AreDeclared bs

-- a form holds no address, and is none that only steps make
abbrev pub UntouchedForm : Form → Type 0
UntouchedForm (script number names) = AreDeclared names
UntouchedForm (enter_for node constant names) = AreDeclared names
UntouchedForm (enter_for_of node b) = b.value ≡ None
UntouchedForm (block names) = AreDeclared names
UntouchedForm (function f) = AreDeclared f.names
UntouchedForm (method f) = AreDeclared f.names
UntouchedForm (loop stage scope) = scope ≡ None
UntouchedForm (ending kept) = kept ≡ None
UntouchedForm (scoped a) = ⊥
UntouchedForm (frame node a) = ⊥
UntouchedForm (list_of b) = ⊥
UntouchedForm (turn_of b i) = ⊥
UntouchedForm (body_of b i) = ⊥
UntouchedForm _ = Unit {0}

-- no form and no value in a term holds an address, and no throw stands in it
abbrev mutual
  -- a term holds no address, and no throw stands in it
  pub IsUntouched : Term → Type 0
  IsUntouched (done v) = HasNoAddress v
  IsUntouched (standing v place) = ⊥
  IsUntouched (part f now later) = UntouchedForm f × AreUntouched now × AreUntouched later

  -- none of these terms holds an address, and no throw stands in one
  pub AreUntouched : Terms → Type 0
  AreUntouched end = Unit {0}
  AreUntouched (more t ts) = IsUntouched t × AreUntouched ts
