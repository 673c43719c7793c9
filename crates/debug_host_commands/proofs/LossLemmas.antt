-- The losses that a run tells, one more of them: those that are written, and those for want of memory.
use Rattle.std.proofs.Common.{◌≡◌, ◌<◌, ℕ, ◌+◌, List, [], ◌∷◌, ◌++◌, length, take, get_or, map, Bool, true, false, if◌then◌else◌, refl, ap, sym, ◌∙◌, append_assoc}
use Rattle.std.proofs.lemmas.List.{map-append, take_more}
use Rattle.cdp_host_seats.specs.Losses.{is_for_memory}
use Rattle.cdp_host_seats.specs.declared.losses.SessionLost.{SessionLost}
use Rattle.cdp_host_turns.specs.Entries.{lost_for_memory}
use Rattle.debug_host_commands.specs.Output.{Overran, output_text, overrun_in}

-- ---- those that are written

choice_append : (b : Bool) (s : ℕ) (xs ys : List ℕ)
    → (if b then xs ++ ys else s ∷ (xs ++ ys)) ≡ (if b then xs else s ∷ xs) ++ ys
choice_append true s xs ys = refl
choice_append false s xs ys = refl

overrun-append : (xs ys : List SessionLost) → overrun_in (xs ++ ys) ≡ overrun_in xs ++ overrun_in ys
overrun-append [] ys = refl
overrun-append (lost ∷ xs) ys =
    ap (λ more. if is_for_memory lost.loss then more else lost.session ∷ more) (overrun-append xs ys)
    ∙ choice_append (is_for_memory lost.loss) lost.session (overrun_in xs) (overrun_in ys)

-- their lines
abbrev pub overrun_texts : List SessionLost → List (List ℕ)
overrun_texts losses = map output_text (map Overran (overrun_in losses))

overrun_texts-append : (xs ys : List SessionLost) → overrun_texts (xs ++ ys) ≡ overrun_texts xs ++ overrun_texts ys
overrun_texts-append xs ys =
    ap (λ numbers. map output_text (map Overran numbers)) (overrun-append xs ys)
    ∙ ap (map output_text) (map-append Overran (overrun_in xs) (overrun_in ys))
    ∙ map-append output_text (map Overran (overrun_in xs)) (map Overran (overrun_in ys))

pub overruns-more : (losses : List SessionLost) (i : ℕ) (d : SessionLost) (before now new : List (List ℕ))
    → i < length losses
    → now ≡ before ++ overrun_texts (take i losses)
    → new ≡ now ++ overrun_texts (get_or losses i d ∷ [])
    → new ≡ before ++ overrun_texts (take (i + 1) losses)
overruns-more losses i d before now new within so_far more =
    let last : List SessionLost = get_or losses i d ∷ [] in
    more
    ∙ ap (λ xs. xs ++ overrun_texts last) so_far
    ∙ append_assoc before (overrun_texts (take i losses)) (overrun_texts last)
    ∙ ap (λ xs. before ++ xs) (sym (overrun_texts-append (take i losses) last))
    ∙ ap (λ xs. before ++ overrun_texts xs) (sym (take_more losses i d within))

-- ---- those for want of memory

memory_by : (b : Bool) (s : ℕ) (all xs ys : List ℕ)
    → all ≡ xs ++ ys
    → (if b then s ∷ all else all) ≡ (if b then s ∷ xs else xs) ++ ys
memory_by true s all xs ys is = ap (λ more. s ∷ more) is
memory_by false s all xs ys is = is

memory-append : (xs ys : List SessionLost) → lost_for_memory (xs ++ ys) ≡ lost_for_memory xs ++ lost_for_memory ys
memory-append [] ys = refl
memory-append (lost ∷ xs) ys =
    memory_by (is_for_memory lost.loss) lost.session (lost_for_memory (xs ++ ys)) (lost_for_memory xs)
    (lost_for_memory ys) (memory-append xs ys)

pub memory-more : (losses : List SessionLost) (i : ℕ) (d : SessionLost)
    → i < length losses
    → lost_for_memory (take i losses) ≡ []
    → is_for_memory (get_or losses i d).loss ≡ false → lost_for_memory (take (i + 1) losses) ≡ []
memory-more losses i d within none kept =
    let last : SessionLost = get_or losses i d in
    ap lost_for_memory (take_more losses i d within)
    ∙ memory-append (take i losses) (last ∷ [])
    ∙ ap (λ xs. xs ++ lost_for_memory (last ∷ [])) none
    ∙ ap (λ b. if b then last.session ∷ [] else []) kept
