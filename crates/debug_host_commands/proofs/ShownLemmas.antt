-- The bytes of the output determine its lines, and a line its kind, its numbers and its text.
use Rattle.std.proofs.Common.{◌≡◌, ◌≢◌, ℕ, ◌<◌, ◌^◌, List, [], ◌∷◌, ◌++◌, map, true, ◌==◌, Option, Some, None, option_to_list, refl, ap, sym, ◌∙◌, append_assoc, arith, codes, decimal}
use Rattle.std.specs.List.{list_all}
use Rattle.std.proofs.lemmas.Bool.{and_parts, not-true}
use Rattle.std.proofs.lemmas.Fmt.{decimal_injective}
use Rattle.std.proofs.lemmas.Option.{same_Some}
use Rattle.cdp_text.specs.Lines.{lines_of}
use Rattle.cdp_text.specs.Parts.{behind, halves}
use Rattle.cdp_text.proofs.PartsLemmas.{behind-append, behind-some, halves-decimal}
use Rattle.cdp_host_turns.specs.declared.state.State.TheVariants.{Broken, Shut, Threw, Ended, Paused, Waiting, Ready}
use Rattle.cdp_journal.specs.Escapes.{escaped, printed_escaped}
use Rattle.cdp_journal.specs.Fronts.{behind_each}
use Rattle.cdp_text.specs.Units.{utf8_of}
use Rattle.cdp_journal.proofs.OneLineLemmas.{is_other, is_one_line, are_one_line, one-append, decimal-one, escaped-one}
use Rattle.debug_host_commands.specs.Headline.{is_of_a_kind}
use Rattle.debug_host_commands.specs.Shown.{to_front}
use Rattle.debug_host_commands.specs.Output.{Output, Attached, To, Out, Overran, RanTo, state_name, output_text, output_bytes}

-- ---- lines of output

-- a line without its LF
abbrev pub output_line : Output → List ℕ
output_line (Attached s) = codes "attached " ++ decimal s
output_line (To s text) = codes "to " ++ (decimal s ++ 32 ∷ escaped text)
output_line (Out units) = codes "out " ++ printed_escaped units
output_line (Overran s) = codes "overrun " ++ decimal s
output_line (RanTo steps state) = codes "ran " ++ (decimal steps ++ 32 ∷ state_name state)

text-line : (line : Output) → output_text line ≡ output_line line ++ 10 ∷ []
text-line (Attached s) = refl
text-line (To s text) = ap (λ xs. codes "to " ++ xs) (sym (append_assoc (decimal s) (32 ∷ escaped text) (10 ∷ [])))
text-line (Out n) = refl
text-line (Overran s) = refl
text-line (RanTo steps state) =
    ap (λ xs. codes "ran " ++ xs) (sym (append_assoc (decimal steps) (32 ∷ state_name state) (10 ∷ [])))

-- a line that ends with LF is cut off
cut : (line rest : List ℕ) → is_one_line line ≡ true → lines_of (line ++ 10 ∷ rest) ≡ line ∷ lines_of rest
cut [] rest one = refl
cut (byte ∷ line) rest one =
    let parts = and_parts (is_other byte) (is_one_line line) one in
    rw (not-true (byte == 10) parts.0, cut line rest parts.1) refl

-- the bytes of lines without LF are cut into them
pub shown : (lines : List Output)
    → are_one_line (map output_line lines) ≡ true
    → lines_of (output_bytes lines) ≡ map output_line lines
shown [] one = refl
shown (line ∷ lines) one =
    let parts = and_parts (is_one_line (output_line line)) (are_one_line (map output_line lines)) one in
    ap (λ text. lines_of (text ++ output_bytes lines)) (text-line line)
    ∙ ap lines_of (append_assoc (output_line line) (10 ∷ []) (output_bytes lines))
    ∙ cut (output_line line) (output_bytes lines) parts.0
    ∙ ap (λ others. output_line line ∷ others) (shown lines parts.1)

ran-one : (n : ℕ) (word : List ℕ)
    → is_one_line word ≡ true
    → is_one_line (codes "ran " ++ (decimal n ++ 32 ∷ word)) ≡ true
ran-one n word one =
    one-append (codes "ran ") (decimal n ++ 32 ∷ word) refl (one-append (decimal n) (32 ∷ word) (decimal-one n) one)

-- no line holds LF
pub lines-one : (lines : List Output) → are_one_line (map output_line lines) ≡ true
lines-one [] = refl
lines-one (Attached s ∷ lines) =
    rw (one-append (codes "attached ") (decimal s) refl (decimal-one s), lines-one lines) refl
lines-one (To s text ∷ lines) =
    rw (
      one-append (codes "to ") (decimal s ++ 32 ∷ escaped text) refl
          (one-append (decimal s) (32 ∷ escaped text) (decimal-one s) (escaped-one text)),
      lines-one lines,
    )
    refl
lines-one (Out units ∷ lines) =
    rw (one-append (codes "out ") (printed_escaped units) refl (escaped-one (utf8_of units)), lines-one lines) refl
lines-one (Overran s ∷ lines) =
    rw (one-append (codes "overrun ") (decimal s) refl (decimal-one s), lines-one lines) refl
lines-one (RanTo n Broken ∷ lines) = rw (ran-one n (codes "broken") refl, lines-one lines) refl
lines-one (RanTo n Shut ∷ lines) = rw (ran-one n (codes "shut") refl, lines-one lines) refl
lines-one (RanTo n Threw ∷ lines) = rw (ran-one n (codes "threw") refl, lines-one lines) refl
lines-one (RanTo n Ended ∷ lines) = rw (ran-one n (codes "ended") refl, lines-one lines) refl
lines-one (RanTo n Paused ∷ lines) = rw (ran-one n (codes "paused") refl, lines-one lines) refl
lines-one (RanTo n Waiting ∷ lines) = rw (ran-one n (codes "waiting") refl, lines-one lines) refl
lines-one (RanTo n Ready ∷ lines) = rw (ran-one n (codes "ready") refl, lines-one lines) refl

-- ---- what stands behind the fronts

-- the texts that the lines print
abbrev pub out_texts : List Output → List (List ℕ)
out_texts [] = []
out_texts (Attached s ∷ lines) = out_texts lines
out_texts (To s text ∷ lines) = out_texts lines
out_texts (Out n ∷ lines) = n ∷ out_texts lines
out_texts (Overran s ∷ lines) = out_texts lines
out_texts (RanTo steps state ∷ lines) = out_texts lines

pub out-each : (lines : List Output)
    → behind_each (codes "out ") (map output_line lines) ≡ map printed_escaped (out_texts lines)
out-each [] = refl
out-each (Attached s ∷ lines) = out-each lines
out-each (To s text ∷ lines) = out-each lines
out-each (Out n ∷ lines) = ap (λ rest. printed_escaped n ∷ rest) (out-each lines)
out-each (Overran s ∷ lines) = out-each lines
out-each (RanTo steps state ∷ lines) = out-each lines

-- what the lines tell of runs
abbrev pub ran_of : List Output → List (List ℕ)
ran_of [] = []
ran_of (Attached s ∷ lines) = ran_of lines
ran_of (To s text ∷ lines) = ran_of lines
ran_of (Out n ∷ lines) = ran_of lines
ran_of (Overran s ∷ lines) = ran_of lines
ran_of (RanTo steps state ∷ lines) = (decimal steps ++ 32 ∷ state_name state) ∷ ran_of lines

pub ran-each : (lines : List Output) → behind_each (codes "ran ") (map output_line lines) ≡ ran_of lines
ran-each [] = refl
ran-each (Attached s ∷ lines) = ran-each lines
ran-each (To s text ∷ lines) = ran-each lines
ran-each (Out n ∷ lines) = ran-each lines
ran-each (Overran s ∷ lines) = ran-each lines
ran-each (RanTo steps state ∷ lines) = ap (λ rest. (decimal steps ++ 32 ∷ state_name state) ∷ rest) (ran-each lines)

-- the sessions that the lines tell as lost
abbrev pub lost_of : List Output → List ℕ
lost_of [] = []
lost_of (Attached s ∷ lines) = lost_of lines
lost_of (To s text ∷ lines) = lost_of lines
lost_of (Out n ∷ lines) = lost_of lines
lost_of (Overran s ∷ lines) = s ∷ lost_of lines
lost_of (RanTo steps state ∷ lines) = lost_of lines

pub lost-each : (lines : List Output)
    → behind_each (codes "overrun ") (map output_line lines) ≡ map decimal (lost_of lines)
lost-each [] = refl
lost-each (Attached s ∷ lines) = lost-each lines
lost-each (To s text ∷ lines) = lost-each lines
lost-each (Out n ∷ lines) = lost-each lines
lost-each (Overran s ∷ lines) = ap (λ rest. decimal s ∷ rest) (lost-each lines)
lost-each (RanTo steps state ∷ lines) = lost-each lines

-- the sessions that the lines tell as attached
abbrev pub attached_of : List Output → List ℕ
attached_of [] = []
attached_of (Attached s ∷ lines) = s ∷ attached_of lines
attached_of (To s text ∷ lines) = attached_of lines
attached_of (Out n ∷ lines) = attached_of lines
attached_of (Overran s ∷ lines) = attached_of lines
attached_of (RanTo steps state ∷ lines) = attached_of lines

pub attached-each : (lines : List Output)
    → behind_each (codes "attached ") (map output_line lines) ≡ map decimal (attached_of lines)
attached-each [] = refl
attached-each (Attached s ∷ lines) = ap (λ rest. decimal s ∷ rest) (attached-each lines)
attached-each (To s text ∷ lines) = attached-each lines
attached-each (Out n ∷ lines) = attached-each lines
attached-each (Overran s ∷ lines) = attached-each lines
attached-each (RanTo steps state ∷ lines) = attached-each lines

-- each line is of one of the five kinds
pub of-a-kind : (lines : List Output) → list_all is_of_a_kind (map output_line lines) ≡ true
of-a-kind [] = refl
of-a-kind (Attached s ∷ lines) = of-a-kind lines
of-a-kind (To s text ∷ lines) = of-a-kind lines
of-a-kind (Out n ∷ lines) = of-a-kind lines
of-a-kind (Overran s ∷ lines) = of-a-kind lines
of-a-kind (RanTo steps state ∷ lines) = of-a-kind lines

-- the texts that the lines send to this session
abbrev pub to_of : ℕ → List Output → List (List ℕ)
to_of s [] = []
to_of s (Attached n ∷ lines) = to_of s lines
to_of s (To n text ∷ lines) =
    option_to_list (behind (decimal s ++ 32 ∷ []) (decimal n ++ 32 ∷ escaped text)) ++ to_of s lines
to_of s (Out n ∷ lines) = to_of s lines
to_of s (Overran n ∷ lines) = to_of s lines
to_of s (RanTo steps state ∷ lines) = to_of s lines

pub to-each : (s : ℕ) (lines : List Output) → behind_each (to_front s) (map output_line lines) ≡ to_of s lines
to-each s [] = refl
to-each s (Attached n ∷ lines) = to-each s lines
to-each s (To n text ∷ lines) =
    ap (λ rest. option_to_list (behind (decimal s ++ 32 ∷ []) (decimal n ++ 32 ∷ escaped text)) ++ rest)
    (to-each s lines)
to-each s (Out n ∷ lines) = to-each s lines
to-each s (Overran n ∷ lines) = to-each s lines
to-each s (RanTo steps state ∷ lines) = to-each s lines

own-text : (s : ℕ) (text : List ℕ) → behind (decimal s ++ 32 ∷ []) (decimal s ++ 32 ∷ text) ≡ Some text
own-text s text =
    ap (behind (decimal s ++ 32 ∷ [])) (sym (append_assoc (decimal s) (32 ∷ []) text))
    ∙ behind-append (decimal s ++ 32 ∷ []) text

-- a number before a space tells the session
number-told : (s n : ℕ) (text rest : List ℕ)
    → s < 2 ^ 64
    → n < 2 ^ 64
    → decimal n ++ 32 ∷ text ≡ decimal s ++ 32 ∷ rest
    → n ≡ s
number-told s n text rest s_small n_small is =
    let one = halves-decimal n 32 text n_small (λ digit. omega arith) in
    let other = halves-decimal s 32 rest s_small (λ digit. omega arith) in
    let same = same_Some _ _ (sym one ∙ ap (halves 32) is ∙ other) in
    decimal_injective n s n_small s_small (ap (λ parts. parts.front) same)

others-text : (s n : ℕ) (text : List ℕ) (o : Option (List ℕ)) → s < 2 ^ 64 → n < 2 ^ 64 → n ≢ s
    → behind (decimal s ++ 32 ∷ []) (decimal n ++ 32 ∷ text) ≡ o → option_to_list o ≡ []
others-text s n text None s_small n_small differ is = refl
others-text s n text (Some rest) s_small n_small differ is =
    absurd (differ (number-told s n text rest s_small n_small
    (behind-some (decimal s ++ 32 ∷ []) (decimal n ++ 32 ∷ text) rest is ∙ append_assoc (decimal s) (32 ∷ []) rest)))

pub to-own : (s : ℕ) (texts : List (List ℕ)) → to_of s (map (To s) texts) ≡ map escaped texts
to-own s [] = refl
to-own s (text ∷ texts) = rw (own-text s (escaped text)) (ap (λ rest. escaped text ∷ rest) (to-own s texts))

pub to-others : (s n : ℕ) (texts : List (List ℕ)) → s < 2 ^ 64 → n < 2 ^ 64 → n ≢ s → to_of s (map (To n) texts) ≡ []
to-others s n [] s_small n_small differ = refl
to-others s n (text ∷ texts) s_small n_small differ =
    rw (others-text s n (escaped text) (behind (decimal s ++ 32 ∷ []) (decimal n ++ 32 ∷ escaped text))
    s_small n_small differ refl)
    (to-others s n texts s_small n_small differ)

pub to_of-append : (s : ℕ) (xs ys : List Output) → to_of s (xs ++ ys) ≡ to_of s xs ++ to_of s ys
to_of-append s [] ys = refl
to_of-append s (Attached n ∷ xs) ys = to_of-append s xs ys
to_of-append s (To n text ∷ xs) ys =
    let first = option_to_list (behind (decimal s ++ 32 ∷ []) (decimal n ++ 32 ∷ escaped text)) in
    ap (λ rest. first ++ rest) (to_of-append s xs ys) ∙ sym (append_assoc first (to_of s xs) (to_of s ys))
to_of-append s (Out n ∷ xs) ys = to_of-append s xs ys
to_of-append s (Overran n ∷ xs) ys = to_of-append s xs ys
to_of-append s (RanTo steps state ∷ xs) ys = to_of-append s xs ys

pub to-printed : (s : ℕ) (xs : List (List ℕ)) → to_of s (map Out xs) ≡ []
to-printed s [] = refl
to-printed s (x ∷ xs) = to-printed s xs

pub ran-append : (xs ys : List Output) → ran_of (xs ++ ys) ≡ ran_of xs ++ ran_of ys
ran-append [] ys = refl
ran-append (Attached s ∷ xs) ys = ran-append xs ys
ran-append (To s text ∷ xs) ys = ran-append xs ys
ran-append (Out n ∷ xs) ys = ran-append xs ys
ran-append (Overran s ∷ xs) ys = ran-append xs ys
ran-append (RanTo steps state ∷ xs) ys = ap (λ rest. (decimal steps ++ 32 ∷ state_name state) ∷ rest) (ran-append xs ys)

pub ran-printed : (xs : List (List ℕ)) → ran_of (map Out xs) ≡ []
ran-printed [] = refl
ran-printed (x ∷ xs) = ran-printed xs

pub ran-sent : (s : ℕ) (texts : List (List ℕ)) → ran_of (map (To s) texts) ≡ []
ran-sent s [] = refl
ran-sent s (text ∷ texts) = ran-sent s texts

pub attached-append : (xs ys : List Output) → attached_of (xs ++ ys) ≡ attached_of xs ++ attached_of ys
attached-append [] ys = refl
attached-append (Attached s ∷ xs) ys = ap (λ rest. s ∷ rest) (attached-append xs ys)
attached-append (To s text ∷ xs) ys = attached-append xs ys
attached-append (Out n ∷ xs) ys = attached-append xs ys
attached-append (Overran s ∷ xs) ys = attached-append xs ys
attached-append (RanTo steps state ∷ xs) ys = attached-append xs ys

pub attached-printed : (xs : List (List ℕ)) → attached_of (map Out xs) ≡ []
attached-printed [] = refl
attached-printed (x ∷ xs) = attached-printed xs

pub attached-sent : (s : ℕ) (texts : List (List ℕ)) → attached_of (map (To s) texts) ≡ []
attached-sent s [] = refl
attached-sent s (text ∷ texts) = attached-sent s texts

pub lost-append : (xs ys : List Output) → lost_of (xs ++ ys) ≡ lost_of xs ++ lost_of ys
lost-append [] ys = refl
lost-append (Attached s ∷ xs) ys = lost-append xs ys
lost-append (To s text ∷ xs) ys = lost-append xs ys
lost-append (Out n ∷ xs) ys = lost-append xs ys
lost-append (Overran s ∷ xs) ys = ap (λ rest. s ∷ rest) (lost-append xs ys)
lost-append (RanTo steps state ∷ xs) ys = lost-append xs ys

pub lost-printed : (xs : List (List ℕ)) → lost_of (map Out xs) ≡ []
lost-printed [] = refl
lost-printed (x ∷ xs) = lost-printed xs

pub lost-sent : (s : ℕ) (texts : List (List ℕ)) → lost_of (map (To s) texts) ≡ []
lost-sent s [] = refl
lost-sent s (text ∷ texts) = lost-sent s texts

-- the lines of losses among others
pub lost-out : (lost : List ℕ) (lines : List Output) → out_texts (map Overran lost ++ lines) ≡ out_texts lines
lost-out [] lines = refl
lost-out (s ∷ lost) lines = lost-out lost lines

pub lost-ran : (lost : List ℕ) (lines : List Output) → ran_of (map Overran lost ++ lines) ≡ ran_of lines
lost-ran [] lines = refl
lost-ran (s ∷ lost) lines = lost-ran lost lines

pub lost-to : (s : ℕ) (lost : List ℕ) (lines : List Output) → to_of s (map Overran lost ++ lines) ≡ to_of s lines
lost-to s [] lines = refl
lost-to s (n ∷ lost) lines = lost-to s lost lines

pub lost-attached : (lost : List ℕ) (lines : List Output)
    → attached_of (map Overran lost ++ lines) ≡ attached_of lines
lost-attached [] lines = refl
lost-attached (s ∷ lost) lines = lost-attached lost lines

pub lost-told : (lost : List ℕ) (lines : List Output) → lost_of (map Overran lost ++ lines) ≡ lost ++ lost_of lines
lost-told [] lines = refl
lost-told (s ∷ lost) lines = ap (λ rest. s ∷ rest) (lost-told lost lines)
