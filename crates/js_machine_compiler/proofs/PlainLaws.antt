-- The terms of the parser's trees are plain once their literals have cells.
use Rattle.std.proofs.Common.{◌≡◌, ℕ, ◌+◌, Bool, true, ◌&&◌, List, length, Some, None, refl, ap, ◌∙◌}
use Rattle.js_tree.specs.declared.script.Script.{Script}
use Rattle.js_heap.specs.declared.value.Addr.{Addr}
use Rattle.js_heap.specs.declared.value.Addr.TheVariants.{Base}
use Rattle.js_heap.specs.BuiltIns.{first_literal}
use Rattle.js_semantics.specs.declared.form.Form.{Form}
use Rattle.js_semantics.specs.declared.form.Form.TheVariants as forms
use Rattle.js_semantics.specs.Terms.{Term, done, standing, part, Terms, end, more}
use Rattle.js_semantics.specs.Run.{literals, literals_of, with_literals, all_with_literals, placed_scripts}
use Rattle.js_semantics.specs.Sources.{terms_of_scripts}
use Rattle.js_semantics.proofs.UnstartedMakers.{UnstartedForm, IsUnstarted, AreUnstarted}
use Rattle.js_semantics.proofs.SourceLemmas.{scripts-unstarted}
use Rattle.js_machine_compiler.specs.Plain.{is_plain_form, is_plain, are_plain}

-- ---- with their literals placed they are plain

both_true : (b c : Bool) → b ≡ true → c ≡ true → (b && c) ≡ true
both_true b c h k = ap (λ x. x && c) h ∙ k

part_plain : (f : Form) (now later : Terms)
    → is_plain_form f ≡ true
    → are_plain now ≡ true
    → are_plain later ≡ true
    → is_plain (part f now later) ≡ true
part_plain f now later e h k =
    both_true (is_plain_form f) (are_plain now && are_plain later) e (both_true (are_plain now) (are_plain later) h k)

placed_plain : (at : ℕ → Addr) (n : ℕ) (f : Form) (now later : Terms)
    → UnstartedForm f
    → are_plain (all_with_literals at n now) ≡ true
    → are_plain (all_with_literals at (n + length (literals_of now)) later) ≡ true
    → is_plain (with_literals at n (part f now later)) ≡ true
placed_plain at n (forms.Scoped a) now later u h k = absurd u
placed_plain at n (forms.Frame node a) now later u h k = absurd u
placed_plain at n (forms.ListOf b) now later u h k = absurd u
placed_plain at n (forms.TurnOf b i) now later u h k = absurd u
placed_plain at n (forms.BodyOf b i) now later u h k = absurd u
placed_plain at n (forms.Loop stage (Some a)) now later u h k = absurd cc
placed_plain at n (forms.Loop stage None) now later u h k =
    part_plain (forms.Loop stage None) (all_with_literals at n now)
    (all_with_literals at (n + length (literals_of now)) later) refl h k
placed_plain at n (forms.Ending kept) now later u h k = absurd u
placed_plain at n (forms.Literal text) now later u h k = refl
placed_plain at n _ now later u h k = both_true _ _ h k

mutual
  one-plain : (at : ℕ → Addr) (n : ℕ) (t : Term) → IsUnstarted t → is_plain (with_literals at n t) ≡ true
  one-plain at n (done v) u = refl
  one-plain at n (standing v s) u = absurd u
  one-plain at n (part f now later) u =
      placed_plain at n f now later u.0 (all-plain at n now u.1) (all-plain at (n + length (literals_of now)) later u.2)

  all-plain : (at : ℕ → Addr) (n : ℕ) (ts : Terms) → AreUnstarted ts → are_plain (all_with_literals at n ts) ≡ true
  all-plain at n end u = refl
  all-plain at n (more t ts) u =
      both_true (is_plain (with_literals at n t)) (are_plain (all_with_literals at (n + length (literals t)) ts))
      (one-plain at n t u.0) (all-plain at (n + length (literals t)) ts u.1)

pub trees-plain : (ss : List Script) → are_plain (placed_scripts (terms_of_scripts ss)) ≡ true
trees-plain ss = all-plain (λ n. Base n) first_literal (terms_of_scripts ss) (scripts-unstarted ss)
