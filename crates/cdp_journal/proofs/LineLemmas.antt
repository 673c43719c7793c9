-- A journal's line is read as what it asks for, and no other text is.
use Rattle.std.proofs.Common.{◌≡◌, ◌⊎◌, ◌<◌, ◌≤◌, ◌^◌, ℕ, List, ◌∷◌, ◌++◌, length, Bool, true, false, ◌&&◌, nat_lt, nat_le, Option, Some, None, IfSome, refl, ap, sym, ◌∙◌, inl, inr, arith, codes, decimal, bytes_eq, if◌then◌else◌}
use Rattle.std.specs.Option.{option_map, option_and_then}
use Rattle.std.specs.Str.{IsUtf8, is_utf8}
use Rattle.std.proofs.lemmas.Str.{is_utf8-from_IsUtf8, IsUtf8-from_is_utf8}
use Rattle.std.proofs.lemmas.Bool.{and_parts, false_from_ne_true, le-leb, leb-true, lt-ltb}
use Rattle.std.proofs.lemmas.Bool.Decides.{Decides-ltb}
use Rattle.std.proofs.lemmas.Option.{option_and_then_some, none-some, same_Some}
use Rattle.std.proofs.lemmas.Slice.Eq.{bytes_eq-Decides}
use Rattle.cdp_text.specs.Decimal.{decimal_value}
use Rattle.cdp_text.specs.Parts.{behind, halves}
use Rattle.cdp_text.proofs.DecimalLemmas.{decimal_value-some, decimal_value-decimal}
use Rattle.cdp_text.proofs.PartsLemmas.{behind-some, halves-some, halves-decimal}
use Rattle.cdp_journal.specs.declared.line.Line.{Line as Held}
use Rattle.cdp_journal.specs.Escapes.{escaped, unescaped}
use Rattle.cdp_journal.specs.LineRead.{line_held}
use Rattle.cdp_journal.specs.Lines.{Line, Attach, Tell, Take, Detach, Run, Shut, line_text, IsInForm, IsLine, is_tellable, most_told, tell_text, tell_at, tell_in, run_at, run_in, tell_rest, take_rest, detach_rest, run_rest, or_else, line_of, line_of_text, line_of_words}
use Rattle.cdp_journal.proofs.UnescapeLemmas.{read-back, written-is}

pub line_of-utf8 : (bytes : List ℕ) → IsUtf8 bytes → line_of bytes ≡ line_of_text bytes
line_of-utf8 bytes is = rw (is_utf8-from_IsUtf8 bytes is) refl

pub line_of-other : (bytes : List ℕ) → ¬ (IsUtf8 bytes) → line_of bytes ≡ None
line_of-other bytes isnt = rw (false_from_ne_true (is_utf8 bytes) (λ is. isnt (IsUtf8-from_is_utf8 bytes is))) refl

-- ---- the text of a line is read as that line

tell-read : (s : ℕ) (text : List ℕ)
    → s < 2 ^ 64
    → length text ≤ most_told
    → tell_rest (decimal s ++ 32 ∷ escaped text) ≡ Some (Tell s text)
tell-read s text small short =
    rw (
      halves-decimal s 32 (escaped text) small (λ digit. omega arith),
      decimal_value-decimal s small,
      read-back text,
      le-leb (length text) most_told short,
    )
    refl

take-read : (s : ℕ) → s < 2 ^ 64 → take_rest (decimal s) ≡ Some (Take s)
take-read s small = rw (decimal_value-decimal s small) refl

detach-read : (s : ℕ) → s < 2 ^ 64 → detach_rest (decimal s) ≡ Some (Detach s)
detach-read s small = rw (decimal_value-decimal s small) refl

run-read : (most moment : ℕ)
    → most < 2 ^ 32
    → moment < 2 ^ 53
    → run_rest (decimal most ++ 32 ∷ decimal moment) ≡ Some (Run most moment)
run-read most moment few soon =
    let halves_read = halves-decimal most 32 (decimal moment) (omega arith) (λ digit. omega arith) in
    let most_read = decimal_value-decimal most (omega arith) in
    let moment_read = decimal_value-decimal moment (omega arith) in
    rw (halves_read, most_read, moment_read, lt-ltb most (2 ^ 32) few, lt-ltb moment (2 ^ 53) soon) refl

text-read : (line : Line) → IsInForm line → line_of_text (line_text line) ≡ Some line
text-read Attach form = refl
text-read (Tell s text) form = tell-read s text form.0 form.1
text-read (Take s) form = take-read s form
text-read (Detach s) form = detach-read s form
text-read (Run most moment) form = run-read most moment form.0 form.1
text-read Shut form = refl

pub line-read : (bytes : List ℕ) (line : Line) → IsLine bytes line → line_of bytes ≡ Some line
line-read bytes line is =
    let read : line_of_text bytes ≡ Some line = rw is.is (text-read line is.in_form) in
    rw is.utf8 read

-- ---- and no other text is

pub choice-some : {A : Type 0} → (b : Bool) (x y : A) → (if b then Some x else None) ≡ Some y → (b ≡ true) × (x ≡ y)
choice-some true x y is = (refl, same_Some x y is)
choice-some false x y is = absurd (none-some y is)

tell-some : (rest : List ℕ) (line : Line)
    → tell_rest rest ≡ Some line
    → (s : ℕ)
    × (text : List ℕ)
    × (line ≡ Tell s text)
    × (s < 2 ^ 64)
    × (length text ≤ most_told)
    × (rest ≡ decimal s ++ 32 ∷ escaped text)
tell-some rest line is =
    option_and_then_some tell_in (halves 32 rest) line is (λ parts parts_is told.
    option_and_then_some (tell_at parts.back) (decimal_value parts.front) line told (λ s s_is told_at.
    option_and_then_some (tell_text s) (unescaped parts.back) line told_at (λ text text_is told_text.
    let chosen = choice-some (nat_le (length text) most_told) (Tell s text) line told_text in
    let digits = decimal_value-some parts.front s s_is in
    let whole : rest ≡ decimal s ++ 32 ∷ parts.back = rw (halves-some 32 rest parts parts_is, digits.0) refl in (
      s,
      text,
      sym chosen.1,
      digits.1,
      leb-true (length text) most_told chosen.0,
      whole
          ∙ ap (λ written. decimal s ++ 32 ∷ written) (written-is parts.back text text_is),
    ))))

run-some : (rest : List ℕ) (line : Line) → run_rest rest ≡ Some line
    → (most : ℕ)
    × (moment : ℕ)
    × (line ≡ Run most moment)
    × (most < 2 ^ 32)
    × (moment < 2 ^ 53)
    × (rest ≡ decimal most ++ 32 ∷ decimal moment)
run-some rest line is =
    option_and_then_some run_in (halves 32 rest) line is (λ parts parts_is ran.
    option_and_then_some (λ most. option_and_then (run_at most) (decimal_value parts.back)) (decimal_value parts.front)
    line ran (λ most most_is ran_most.
    option_and_then_some (run_at most) (decimal_value parts.back) line ran_most (λ moment moment_is ran_at.
    let chosen = choice-some (nat_lt most (2 ^ 32) && nat_lt moment (2 ^ 53)) (Run most moment) line ran_at in
    let tests = and_parts (nat_lt most (2 ^ 32)) (nat_lt moment (2 ^ 53)) chosen.0 in
    let digits = decimal_value-some parts.front most most_is in
    let others = decimal_value-some parts.back moment moment_is in (
      most,
      moment,
      sym chosen.1,
      (Decides-ltb most (2 ^ 32)).0 tests.0,
      (Decides-ltb moment (2 ^ 53)).0 tests.1,
      rw (halves-some 32 rest parts parts_is, digits.0, others.0) refl,
    ))))

or_else-some : (o : Option (List ℕ)) (f : List ℕ → Option Line) (other : Option Line) (line : Line)
    → or_else o f other ≡ Some line
    → ((rest : List ℕ) × (o ≡ Some rest) × (f rest ≡ Some line)) ⊎ (other ≡ Some line)
or_else-some None f other line is = inr is
or_else-some (Some rest) f other line is = inl (rest, refl, is)

-- what a text is, where it has the form
abbrev IsText : List ℕ → Line → Type 0
IsText text line = IsInForm line × (text ≡ line_text line)

is-tell : (text rest : List ℕ) (line : Line)
    → behind (codes "tell ") text ≡ Some rest
    → tell_rest rest ≡ Some line
    → IsText text line
is-tell text rest line front is =
    let told = tell-some rest line is in
    let whole = behind-some (codes "tell ") text rest front in
    rw told.2 ((told.3, told.4), whole ∙ ap (λ xs. codes "tell " ++ xs) told.5)

take-some : (o : Option ℕ) (line : Line)
    → option_map (λ s. Take s) o ≡ Some line
    → (s : ℕ) × (o ≡ Some s) × (line ≡ Take s)
take-some None line is = absurd (none-some line is)
take-some (Some s) line is = (s, refl, sym (same_Some (Take s) line is))

is-take : (text rest : List ℕ) (line : Line)
    → behind (codes "take ") text ≡ Some rest
    → take_rest rest ≡ Some line
    → IsText text line
is-take text rest line front is =
    let taken = take-some (decimal_value rest) line is in
    let digits = decimal_value-some rest taken.0 taken.1 in
    let whole = behind-some (codes "take ") text rest front in
    rw taken.2 (digits.1, whole ∙ ap (λ xs. codes "take " ++ xs) digits.0)

detach-some : (o : Option ℕ) (line : Line)
    → option_map (λ s. Detach s) o ≡ Some line
    → (s : ℕ) × (o ≡ Some s) × (line ≡ Detach s)
detach-some None line is = absurd (none-some line is)
detach-some (Some s) line is = (s, refl, sym (same_Some (Detach s) line is))

is-detach : (text rest : List ℕ) (line : Line)
    → behind (codes "detach ") text ≡ Some rest
    → detach_rest rest ≡ Some line
    → IsText text line
is-detach text rest line front is =
    let left = detach-some (decimal_value rest) line is in
    let digits = decimal_value-some rest left.0 left.1 in
    let whole = behind-some (codes "detach ") text rest front in
    rw left.2 (digits.1, whole ∙ ap (λ xs. codes "detach " ++ xs) digits.0)

is-run : (text rest : List ℕ) (line : Line)
    → behind (codes "run ") text ≡ Some rest
    → run_rest rest ≡ Some line
    → IsText text line
is-run text rest line front is =
    let ran = run-some rest line is in
    let whole = behind-some (codes "run ") text rest front in
    rw ran.2 ((ran.3, ran.4), whole ∙ ap (λ xs. codes "run " ++ xs) ran.5)

is-words : (text : List ℕ) (line : Line) → line_of_words text ≡ Some line → IsText text line
is-words text line is =
    elim (or_else-some (behind (codes "tell ") text) tell_rest _ line is) [
      | inl told ↦ is-tell text told.0 line told.1 told.2
      | inr more ↦ elim (or_else-some (behind (codes "take ") text) take_rest _ line more) [
        | inl taken ↦ is-take text taken.0 line taken.1 taken.2
        | inr others ↦ elim (or_else-some (behind (codes "detach ") text) detach_rest _ line others) [
          | inl left ↦ is-detach text left.0 line left.1 left.2
          | inr rest ↦ elim (or_else-some (behind (codes "run ") text) run_rest None line rest) [
            | inl ran ↦ is-run text ran.0 line ran.1 ran.2
            | inr none ↦ absurd (none-some line none)
          ]
        ]
      ]
    ]

-- a line that is one word, or another
word_some : (b : Bool) (text : List ℕ) (named line : Line) (others : Option Line)
    → IsInForm named
    → (b ≡ true → text ≡ line_text named)
    → (others ≡ Some line → IsText text line)
    → (if b then Some named else others) ≡ Some line → IsText text line
word_some true text named line others form word other is = rw (sym (same_Some named line is)) (form, word refl)
word_some false text named line others form word other is = other is

is-text : (text : List ℕ) (line : Line) → line_of_text text ≡ Some line → IsText text line
is-text text line is =
    word_some (bytes_eq text (codes "attach")) text Attach line _ tt ((bytes_eq-Decides text (codes "attach")).0)
    (word_some (bytes_eq text (codes "shut")) text Shut line _ tt ((bytes_eq-Decides text (codes "shut")).0)
    (is-words text line))
    is

utf8_some : (b : Bool) (bytes : List ℕ) (line : Line)
    → is_utf8 bytes ≡ b
    → (if b then line_of_text bytes else None) ≡ Some line
    → IsLine bytes line
utf8_some true bytes line utf8 is =
    let text = is-text bytes line is in
    record { utf8 = utf8; in_form = text.0; is = text.1 }
utf8_some false bytes line utf8 is = absurd (none-some line is)

pub line-some : (bytes : List ℕ) (line : Line) → line_of bytes ≡ Some line → IsLine bytes line
line-some bytes line is = utf8_some (is_utf8 bytes) bytes line refl is

-- what the code read, and what it didn't
pub held-is : (bytes : List ℕ) (r : Option Held)
    → option_map line_held r ≡ line_of bytes
    → IfSome r (λ line. IsLine bytes (line_held line))
held-is bytes None read = tt
held-is bytes (Some line) read = line-some bytes (line_held line) (sym read)

pub held-one : (bytes : List ℕ) (r : Option Held)
    → option_map line_held r ≡ line_of bytes
    → (line : Line)
    → IsLine bytes line
    → option_map line_held r ≡ Some line
held-one bytes r read line is = read ∙ line-read bytes line is

pub ruleset utf8 = (line_of-utf8, line_of-other, held-is, held-one)

-- ---- what a journal can tell

and-true : (b : Bool) → (b && true) ≡ b
and-true true = refl
and-true false = refl

-- of a text only its length is looked at
pub told-is : (text : List ℕ) → IsUtf8 text → (s : ℕ) → s < 2 ^ 64
    → nat_le (length text) most_told ≡ is_tellable (Tell s text)
unfolding is_tellable
told-is text utf8 s small =
    sym (and-true (nat_le (length text) most_told))
    ∙ ap (λ (b : Bool). nat_le (length text) most_told && b) (sym (is_utf8-from_IsUtf8 text utf8))
    ∙ ap (λ (b : Bool). b && (nat_le (length text) most_told && is_utf8 text)) (sym (lt-ltb s (2 ^ 64) small))
