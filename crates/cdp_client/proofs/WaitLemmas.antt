-- The first wait for a method is taken out of the lines.
use Rattle.std.proofs.Common.{◌≡◌, ℕ, suc, ◌+◌, ◌<◌, ◌≤◌, List, [], ◌∷◌, ◌++◌, map, length, take, drop, get_or, true, false, refl, ap, sym, ◌∙◌, append_assoc, append-nil, add-one}
use Rattle.std.specs.List.{remove}
use Rattle.std.proofs.lemmas.List.{drop_all, map-append, take_all, take_more}
use Rattle.cdp_text.proofs.ListLemmas.{from-here}
use Rattle.cdp_client.specs.declared.line.Line.{Line as Held}
use Rattle.cdp_client.specs.LineRead.{line_held}
use Rattle.cdp_client.specs.Lines.{Line}
use Rattle.cdp_client.specs.Talks.{is_wait_for, without_wait}

-- none of the first lines waits for the method
pub record NoneSoFar (method : List ℕ) (lines : List Held) (i : ℕ) : Type 0 where
  pub whole : without_wait method (map line_held lines)
      ≡ map line_held (take i lines) ++ without_wait method (map line_held (drop i lines))

-- the first line is another
without-other : (method : List ℕ) (line : Line) (lines : List Line) → is_wait_for method line ≡ false
    → without_wait method (line ∷ lines) ≡ line ∷ without_wait method lines
without-other method line lines other = rw other refl

-- the first line is it
without-first : (method : List ℕ) (line : Line) (lines : List Line) → is_wait_for method line ≡ true
    → without_wait method (line ∷ lines) ≡ lines
without-first method line lines is = rw is refl

pub none-start : (method : List ℕ) (lines : List Held) → NoneSoFar method lines 0
none-start method lines = record { whole = refl }

-- what is left from a line on
here : (method : List ℕ) (lines : List Held) (i : ℕ) (line : Held) → i < length lines → line ≡ get_or lines i line
    → NoneSoFar method lines i
    → without_wait method (map line_held lines)
    ≡ map line_held (take i lines) ++ without_wait method (line_held line ∷ map line_held (drop (i + 1) lines))
here method lines i line within is so_far =
    so_far.whole
    ∙ ap (λ l. map line_held (take i lines) ++ without_wait method (map line_held l)) (from-here lines i line within is)

pub none-more : (method : List ℕ) (lines : List Held) (i : ℕ) (line : Held) → i < length lines
    → line ≡ get_or lines i line
    → is_wait_for method (line_held line) ≡ false
    → NoneSoFar method lines i
    → NoneSoFar method lines (i + 1)
none-more method lines i line within is other so_far =
    let rest = map line_held (drop (i + 1) lines) in
    let first : take (i + 1) lines ≡ take i lines ++ line ∷ [] =
    take_more lines i line within ∙ ap (λ x. take i lines ++ x ∷ []) (sym is) in record {
      whole =
          here method lines i line within is so_far
          ∙ ap (λ l. map line_held (take i lines) ++ l) (without-other method (line_held line) rest other)
          ∙ sym (append_assoc (map line_held (take i lines)) (line_held line ∷ []) (without_wait method rest))
          ∙ ap (λ l. l ++ without_wait method rest)
          (sym (ap (map line_held) first ∙ map-append line_held (take i lines) (line ∷ [])));
    }

pub wait-found : (method : List ℕ) (lines : List Held) (i : ℕ) (line : Held) → i < length lines
    → line ≡ get_or lines i line
    → is_wait_for method (line_held line) ≡ true
    → NoneSoFar method lines i
    → map line_held (remove lines i) ≡ without_wait method (map line_held lines)
wait-found method lines i line within is found so_far =
    let rest = map line_held (drop (i + 1) lines) in
    map-append line_held (take i lines) (drop (suc i) lines)
    ∙ ap (λ l. map line_held (take i lines) ++ l)
    (rw (← add-one) (sym (without-first method (line_held line) rest found)))
    ∙ sym (here method lines i line within is so_far)

pub none-found : (method : List ℕ) (lines : List Held) (i : ℕ) → length lines ≤ i → NoneSoFar method lines i
    → map line_held lines ≡ without_wait method (map line_held lines)
none-found method lines i past so_far =
    sym (so_far.whole
    ∙ ap (λ l. map line_held l ++ without_wait method (map line_held (drop i lines))) (take_all i lines past)
    ∙ ap (λ l. map line_held lines ++ without_wait method (map line_held l)) (drop_all i lines past)
    ∙ append-nil (map line_held lines))
