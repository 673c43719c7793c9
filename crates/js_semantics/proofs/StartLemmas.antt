-- The start of untouched scripts is sound, and so is each configuration of their run.
use Rattle.std.proofs.Common.{◌≡◌, ℕ, zero, suc, ◌+◌, ◌-◌, ◌<◌, ◌≤◌, List, [], ◌∷◌, ◌++◌, length, Option, None, Some, refl, sym, ap, ◌∙◌, subst, arith, zero-add, suc-add, length-append}
use Rattle.std.specs.Prelude.{slice_get}
use Rattle.js_heap.specs.declared.value.Addr.{Addr}
use Rattle.js_heap.specs.declared.value.Addr.TheVariants.{Base}
use Rattle.js_heap.specs.declared.value.Value.{Value}
use Rattle.js_heap.specs.declared.value.Value.TheVariants as values
use Rattle.js_heap.specs.declared.built_in.BuiltIn.{BuiltIn}
use Rattle.js_heap.specs.declared.built_in.BuiltIn.TheVariants as built_ins
use Rattle.js_heap.specs.declared.built_in.ErrorClass.TheVariants as classes
use Rattle.js_heap.specs.declared.cell.Binding.{Binding}
use Rattle.js_heap.specs.declared.cell.Cell.{Cell}
use Rattle.js_heap.specs.World.{World, read_cell}
use Rattle.js_heap.specs.Worlds.{Leads, IsTextKind, SoundValue, SoundScope, SoundIfSome, SoundNames, SoundCells, IsSound}
use Rattle.js_heap.specs.BuiltIns.{script_scope, function_value, built_in_cells, literal_cells, first_literal, first_world}
use Rattle.js_semantics.specs.Terms.{Form, scripts, script, enter_for, enter_for_of, block, scoped, frame, loop, list_of, turn_of, body_of, ending, function, method, literal, Term, done, standing, part, Terms, end, more, settled}
use Rattle.js_semantics.specs.Run.{literals, literals_of, with_literals, all_with_literals, placed_scripts, program_from, program_of, first_state, start, plain, run_of, state_of}
use Rattle.js_semantics.specs.Sound.{SoundForm, SoundTerm, SoundTerms, SoundProgram, HasBuiltIns, SoundRun}
use Rattle.js_semantics.specs.Untouched.{HasNoAddress, AreDeclared, UntouchedForm, IsUntouched, AreUntouched}
use Rattle.js_semantics.proofs.SoundTerms.{settled-sound}
use Rattle.js_semantics.proofs.SoundSteps.{of-sound, steps-sound}

-- ---- untouched parts name nothing

value-sound : (w : World) (v : Value) → HasNoAddress v → SoundValue w v
value-sound w (values.Text a) h = absurd h
value-sound w (values.Object a) h = absurd h
value-sound w _ h = tt

binding-sound : (w : World) (o : Option Value) → o ≡ None → SoundIfSome w o
binding-sound w None e = tt
binding-sound w (Some v) e = cc

names-sound : (w : World) (bs : List Binding) → AreDeclared bs → SoundNames w bs
names-sound w [] h = tt
names-sound w (b ∷ bs) h = (binding-sound w b.value h.0, names-sound w bs h.1)

scope-sound : (w : World) (o : Option Addr) → o ≡ None → SoundScope w o
scope-sound w None e = tt
scope-sound w (Some a) e = cc

form-sound : (w : World) (f : Form) → UntouchedForm f → SoundForm w f
form-sound w (script number names) h = names-sound w names h
form-sound w (enter_for node constant names) h = names-sound w names h
form-sound w (enter_for_of node b) h = binding-sound w b.value h
form-sound w (block names) h = names-sound w names h
form-sound w (function f) h = names-sound w f.names h
form-sound w (method f) h = names-sound w f.names h
form-sound w (loop stage scope) h = scope-sound w scope h
form-sound w (ending None) h = tt
form-sound w (ending (Some c)) h = cc
form-sound w (scoped a) h = absurd h
form-sound w (frame node a) h = absurd h
form-sound w (list_of b) h = absurd h
form-sound w (turn_of b i) h = absurd h
form-sound w (body_of b i) h = absurd h
form-sound w f h = tt

-- ---- the cells of literals

-- the addresses from a number up to another lead to texts
abbrev pub AreTexts : World → (ℕ → Addr) → ℕ → ℕ → Type 0
AreTexts w at low high = (i : ℕ) → low ≤ i → i < high → Leads IsTextKind (read_cell w (at i))

texts-within : (w : World) (at : ℕ → Addr) (a b c d : ℕ) → a ≤ c → d ≤ b → AreTexts w at a b → AreTexts w at c d
texts-within w at a b c d p q h i low high = h i (omega arith) (omega arith)

mutual
  pub placed-sound : (w : World) (at : ℕ → Addr) (n : ℕ) (t : Term)
      → IsUntouched t
      → AreTexts w at n (n + length (literals t))
      → SoundTerm w (with_literals at n t)
  placed-sound w at n (done v) h k = value-sound w v h
  placed-sound w at n (standing v place) h k = absurd h
  placed-sound w at n (part (literal us) now later) h k = k n (omega arith) (omega arith)
  placed-sound w at n (part f now later) h k = (
    form-sound w f h.0,
    all-placed-sound w at n now h.1
        (texts-within w at n (n + length (literals_of now ++ literals_of later)) n (n + length (literals_of now))
        (omega arith) (omega (arith, length-append (literals_of now) (literals_of later))) k),
    all-placed-sound w at (n + length (literals_of now)) later h.2
        (texts-within w at n (n + length (literals_of now ++ literals_of later)) (n + length (literals_of now))
        (n + length (literals_of now) + length (literals_of later)) (omega arith)
        (omega (arith, length-append (literals_of now) (literals_of later))) k),
  )

  all-placed-sound : (w : World) (at : ℕ → Addr) (n : ℕ) (ts : Terms)
      → AreUntouched ts
      → AreTexts w at n (n + length (literals_of ts))
      → SoundTerms w (all_with_literals at n ts)
  all-placed-sound w at n end h k = tt
  all-placed-sound w at n (more t ts) h k = (
    placed-sound w at n t h.0
        (texts-within w at n (n + length (literals t ++ literals_of ts)) n (n + length (literals t)) (omega arith)
        (omega (arith, length-append (literals t) (literals_of ts))) k),
    all-placed-sound w at (n + length (literals t)) ts h.1
        (texts-within w at n (n + length (literals t ++ literals_of ts)) (n + length (literals t))
        (n + length (literals t) + length (literals_of ts)) (omega arith)
        (omega (arith, length-append (literals t) (literals_of ts))) k),
  )

-- ---- the world before the first step

get-behind : (cs ds : List Cell) (j : ℕ) → slice_get (cs ++ ds) (length cs + j) ≡ slice_get ds j
get-behind [] ds j = ap (λ i. slice_get ds i) (zero-add j)
get-behind (c ∷ cs) ds j = ap (λ i. slice_get (c ∷ (cs ++ ds)) i) (suc-add (length cs) j) ∙ get-behind cs ds j

literal-text : (ts : List (List ℕ)) (j : ℕ) → j < length ts → Leads IsTextKind (slice_get (literal_cells ts) j)
literal-text [] j h = absurd (omega arith)
literal-text (t ∷ ts) zero h = refl
literal-text (t ∷ ts) (suc j) h = literal-text ts j (omega arith)

first-texts : (ts : List (List ℕ)) → AreTexts (first_world ts) (λ n. Base n) first_literal (first_literal + length ts)
first-texts ts i low high =
    let j : ℕ = i - first_literal in
    let e : first_literal + j ≡ i = omega arith in
    let P : ℕ → Type 0 = λ k. Leads IsTextKind (slice_get (built_in_cells ++ literal_cells ts) k) in
    let Q : Option Cell → Type 0 = λ o. Leads IsTextKind o in
    subst P e (subst Q (sym (get-behind built_in_cells (literal_cells ts) j)) (literal-text ts j (omega arith)))

literal-cells-sound : (w : World) (ts : List (List ℕ)) → SoundCells w (literal_cells ts)
literal-cells-sound w [] = tt
literal-cells-sound w (t ∷ ts) = (tt, literal-cells-sound w ts)

-- a pair, in a row of them
also : {A B : Type 0} → A → B → A × B
also a b = (a, b)

first-sound : (ts : List (List ℕ)) → IsSound (first_world ts)
first-sound ts = record {
  base_cells =
      also (tt, (tt, (tt, (tt, (tt, (tt, (tt, (tt, (tt, (tt, (tt, tt)))))))))))
      (also (refl, tt) (also tt (also (refl, tt)
      (also (tt, tt) (also (tt, tt) (also (tt, tt) (also (tt, tt) (also (tt, tt) (also (tt, tt) (also (tt, tt)
      (also (tt, tt) (also (tt, tt) (also (tt, tt) (also (tt, tt) (also (tt, tt) (also (tt, tt) (also (tt, tt)
      (also (tt, tt) (also (tt, tt) (also (tt, tt) (also (tt, tt) (also (tt, tt) (also (tt, tt)
      (literal-cells-sound (first_world ts) ts))))))))))))))))))))))));
  scratch_cells = tt;
}

built_in-live : (ts : List (List ℕ)) (f : BuiltIn) → SoundValue (first_world ts) (function_value f)
built_in-live ts (built_ins.MakeError classes.Error) = tt
built_in-live ts (built_ins.MakeError classes.TypeError) = tt
built_in-live ts (built_ins.MakeError classes.RangeError) = tt
built_in-live ts (built_ins.MakeError classes.ReferenceError) = tt
built_in-live ts f = tt

has-built-ins : (ts : List (List ℕ)) → HasBuiltIns (first_world ts)
has-built-ins ts = record { functions = built_in-live ts; full_error = tt; scripts = refl }

program-sound : (w : World) (n : ℕ) (ts : Terms) → SoundTerms w ts → SoundProgram w (program_from n ts)
program-sound w n end h = tt
program-sound w n (more t ts) h = (h.0, program-sound w (n + 1) ts h.1)

-- ---- the start, and the run

start-sound : (ts : Terms) (input : List (List ℕ)) → AreUntouched ts → SoundRun (program_of ts) (start ts input)
start-sound ts input h =
    let w : World = first_world (literals_of ts) in
    let placed : SoundTerms w (placed_scripts ts) = all-placed-sound w (λ n. Base n) first_literal ts h
    (first-texts (literals_of ts)) in
    of-sound (program_of ts) (settled scripts (placed_scripts ts) end) (first_state ts input)
    (record {
      world = first-sound (literals_of ts);
      built_ins = has-built-ins
          (literals_of ts);
      program = program-sound w 1 (placed_scripts ts)
          placed;
      frames = ((tt, refl), tt);
      outer = tt;
    })
    (settled-sound w scripts (placed_scripts ts) end tt placed tt)

pub start-scope : (ts : Terms) (input : List (List ℕ)) (t : Term)
    → SoundScope (state_of (run_of t (first_state ts input))).world (Some script_scope)
start-scope ts input (done v) = refl
start-scope ts input (standing v place) = refl
start-scope ts input (part f now later) = refl

pub plain-sound : (k : ℕ) (ts : Terms) (input : List (List ℕ))
    → AreUntouched ts
    → SoundRun (program_of ts) (plain k ts input)
plain-sound k ts input h =
    steps-sound k (program_of ts) script_scope (start ts input)
    (start-scope ts input (settled scripts (placed_scripts ts) end)) (start-sound ts input h)
