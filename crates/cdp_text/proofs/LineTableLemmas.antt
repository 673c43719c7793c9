-- Where the lines begin, and where they end.
use Rattle.std.proofs.Common.{◌≡◌, ◌≢◌, ℕ, zero, suc, ◌+◌, ◌-◌, ◌<◌, ◌≤◌, ◌⊎◌, ◌↔◌, Bool, true, false, not, cond, eqb, List, [], ◌∷◌, ◌++◌, length, get_or, drop, Option, Some, None, refl, ap, sym, subst, ◌∙◌, arith, inl, inr, ⊎_elim, add-one, add-zero, length-append, length-drop, get_or-drop}
use Rattle.std.specs.Prelude.{slice_get, option_map, unwrap_or, MatchOption, MatchResult, Result, Ok, Err, IfSome, IsNone, ⊤}
use Rattle.std.specs.Ordering.{nat_cmp}
use Rattle.std.specs.List.Sorted.{IsBinarySearchResult}
use Rattle.std.specs.List.{prefix_len}
use Rattle.std.proofs.lemmas.Bool.{cases_lt, cases_Bool, ne_eqb, eqb-true, eq-eqb, false≢true, and_parts, not-true}
use Rattle.std.proofs.lemmas.List.{get_or_push, get_or_append_left, map-id, append-nil}
use Rattle.std.proofs.lemmas.List.Folds.{length-prefix_len}
use Rattle.std.proofs.lemmas.List.Sums.{prefix_len-le-length, prefix_len_is, prefix_len_passes, prefix_len_stops}
use Rattle.std.proofs.lemmas.Option.{slice_get-map, slice_get-get_or, slice_get_past, get_or_from_slice_get}
use Rattle.std.proofs.lemmas.List.Sorted.{searched}
use Rattle.std.proofs.lemmas.List.FromFn.{filter_of_map_range_with_len_more}
use Rattle.cdp_text.specs.declared.position.Pos.{Pos}
use Rattle.cdp_text.specs.Position.{position, is_line_terminator, ends_line, is_inside_cr_lf, IsOffset, line_starts_below, line_starts, line_from, lines, IsPastLine}
use Rattle.cdp_text.proofs.PositionLemmas.{position-zero, position_once, position-end, position-on, same_pos, ahead, IsOffset-once, outside_at_start}

not_false : (b : Bool) → not b ≡ false → b ≡ true
not_false true e = refl
not_false false e = sym e

-- one more offset begins a line where its column is 0
pub line_starts_below-more : (u : List ℕ) (n : ℕ)
    → line_starts_below u (n + 1) ≡ line_starts_below u n ++ cond (eqb (position u n).col 0) (n ∷ []) []
line_starts_below-more u n =
    simp map-id at (filter_of_map_range_with_len_more (λ i. eqb (position u i).col 0) (λ i. i) 0 n n (omega arith))

pub line_starts_below-one : (u : List ℕ) → line_starts_below u 1 ≡ 0 ∷ []
unfolding position
line_starts_below-one u = refl

-- the starts of the lines of the first n units: one for each line, in the order of the lines
pub record AreStarts (u : List ℕ) (n : ℕ) (starts : List ℕ) : Type 0 where
  pub counted : length starts ≡ (position u n).line + 1
  pub within : (k : ℕ) → k < length starts → get_or starts k 0 ≤ n
  pub placed : (k : ℕ) → k < length starts → position u (get_or starts k 0) ≡ record { line = k; col = 0 }

AreStarts-zero : (u : List ℕ) → AreStarts u 0 (0 ∷ [])
unfolding position
AreStarts-zero u = record {
  counted = refl;
  within = λ k l. let e : k ≡ 0 = omega arith in rw e (omega arith);
  placed = λ k l. let e : k ≡ 0 = omega arith in rw e refl;
}

AreStarts-push : (u : List ℕ) (n : ℕ) (starts : List ℕ)
    → AreStarts u n starts
    → position u (n + 1) ≡ record { line = (position u n).line + 1; col = 0 }
    → AreStarts u (n + 1) (starts ++ (n + 1) ∷ [])
AreStarts-push u n starts h e =
    let long : length (starts ++ (n + 1) ∷ []) ≡ length starts + 1 = length-append starts ((n + 1) ∷ []) in
    record {
      counted = omega (arith, h.counted, ap (λ q. q.line) e);
      within = λ k l. elim (cases_lt k (length starts)) [
        | inl lt ↦ rw (get_or_append_left starts ((n + 1) ∷ []) 0 k lt) (omega (arith, h.within k lt))
        | inr ge ↦ rw (get_or_push starts (n + 1) 0 k (omega arith)) (omega arith)
      ];
      placed = λ k l. elim (cases_lt k (length starts)) [
        | inl lt ↦ rw (get_or_append_left starts ((n + 1) ∷ []) 0 k lt) (h.placed k lt)
        | inr ge ↦ let last : (position u n).line + 1 ≡ k =
            omega (arith, h.counted) in
            rw (get_or_push starts (n + 1) 0 k (omega arith))
            (e ∙ ap (λ (m : ℕ). let r : Pos = record { line = m; col = 0 } in r) last)
      ];
    }

AreStarts-stay : (u : List ℕ) (n : ℕ) (starts : List ℕ)
    → AreStarts u n starts
    → (position u (n + 1)).line ≡ (position u n).line
    → AreStarts u (n + 1) starts
AreStarts-stay u n starts h e = record {
  counted = omega (arith, h.counted, e);
  within = λ k l. omega (arith, h.within k l);
  placed = h.placed;
}

AreStarts-more : (u : List ℕ) (n : ℕ) (starts : List ℕ)
    → AreStarts u n starts
    → AreStarts u (n + 1) (starts ++ cond (eqb (position u (n + 1)).col 0) ((n + 1) ∷ []) [])
AreStarts-more u n starts h =
    elim (cases_Bool (ends_line u n)) [
      | inl ends ↦ let e = position-end u n ends in rw e (AreStarts-push u n starts h e)
      | inr on ↦ let e =
          position-on u n on in
          rw (ne_eqb (position u (n + 1)).col 0 (λ z. omega (arith, ap (λ q. q.col) e, z)), append-nil starts)
          (AreStarts-stay u n starts h (ap (λ q. q.line) e))
    ]

-- the starts of a text's lines
AreStarts-below : (u : List ℕ) (n : ℕ) → AreStarts u n (line_starts_below u (n + 1))
AreStarts-below u zero = rw (line_starts_below-one u) (AreStarts-zero u)
AreStarts-below u (suc n) =
    rw (← add-one n, line_starts_below-more u (n + 1))
    (AreStarts-more u n (line_starts_below u (n + 1)) (AreStarts-below u n))

pub AreStarts-line_starts : (u : List ℕ) → AreStarts u (length u) (line_starts u)
unfolding line_starts
AreStarts-line_starts u = AreStarts-below u (length u)

-- from a line's start up to the next line's, the line stays and the column counts the units
pub position-from_start : (u : List ℕ) (n : ℕ) (starts : List ℕ) (k i : ℕ)
    → AreStarts u n starts
    → i ≤ n
    → k < length starts
    → get_or starts k 0 ≤ i
    → (k + 1 < length starts → i < get_or starts (k + 1) 0)
    → position u i ≡ record { line = k; col = i - get_or starts k 0 }
position-from_start u n starts k i h in_text in_table from below =
    let start = get_or starts k 0 in
    let here = h.placed k in_table in
    let line : (position u start).line ≡ k = ap (λ q. q.line) here in
    let col : (position u start).col ≡ 0 = ap (λ q. q.col) here in
    ⊎_elim
    (λ same. same_pos (position u i) (record { line = k; col = i - start }) (omega arith) (omega arith))
    (λ later.
    let last : (position u i).line ≤ (position u n).line = ⊎_elim (λ same. omega arith) (λ after. omega arith)
    (ahead u i n in_text) in
    let next : k + 1 < length starts = omega (arith, h.counted) in
    let there = h.placed (k + 1) next in
    let next_line : (position u (get_or starts (k + 1) 0)).line ≡ k + 1 = ap (λ q. q.line) there in
    let next_col : (position u (get_or starts (k + 1) 0)).col ≡ 0 = ap (λ q. q.col) there in
    let before : i < get_or starts (k + 1) 0 = below next in
    absurd (⊎_elim (λ same. omega arith) (λ after. omega arith) (ahead u i (get_or starts (k + 1) 0) (omega arith))))
    (ahead u start i from)

AreStarts-ordered : (u : List ℕ) (n : ℕ) (starts : List ℕ)
    → AreStarts u n starts
    → (i j : ℕ)
    → i ≤ j
    → j < length starts
    → get_or starts i 0 ≤ get_or starts j 0
AreStarts-ordered u n starts h i j from in_table =
    let first = h.placed i (omega arith) in
    let second = h.placed j in_table in
    let first_line : (position u (get_or starts i 0)).line ≡ i = ap (λ q. q.line) first in
    let first_col : (position u (get_or starts i 0)).col ≡ 0 = ap (λ q. q.col) first in
    let second_line : (position u (get_or starts j 0)).line ≡ j = ap (λ q. q.line) second in
    let second_col : (position u (get_or starts j 0)).col ≡ 0 = ap (λ q. q.col) second in
    elim (cases_lt (get_or starts j 0) (get_or starts i 0)) [
      | inl lt ↦ absurd
          (⊎_elim (λ same. omega arith) (λ after. omega arith)
          (ahead u (get_or starts j 0) (get_or starts i 0) (omega arith)))
      | inr ge ↦ ge
    ]

-- the line of an offset in the table
pub record IsLineOf (u : List ℕ) (starts : List ℕ) (offset line : ℕ) : Type 0 where
  pub in_table : line < length starts
  pub from : get_or starts line 0 ≤ offset
  pub placed : position u offset ≡ record { line = line; col = offset - get_or starts line 0 }

cases_lt_pos : (n : ℕ) → (n ≡ 0) ⊎ (0 < n)
cases_lt_pos zero = inl refl
cases_lt_pos (suc n) = inr (omega arith)

AreStarts-first : (u : List ℕ) (n : ℕ) (starts : List ℕ) → AreStarts u n starts → get_or starts 0 0 ≡ 0
AreStarts-first u n starts h =
    let first = h.placed 0 (omega (arith, h.counted)) in
    position_once u (get_or starts 0 0) 0 (ap (λ q. q.line) first ∙ sym (ap (λ q. q.line) (position-zero u)))
    (ap (λ q. q.col) first ∙ sym (ap (λ q. q.col) (position-zero u)))

-- a line that isn't in the table has no offset
pub no_line : (u : List ℕ) (starts : List ℕ) (p : Pos) (i : ℕ)
    → AreStarts u (length u) starts
    → length starts ≤ p.line
    → IsOffset u p i
    → ⊥
no_line u starts p i h past at =
    let line : (position u i).line ≡ p.line = ap (λ q. q.line) at.placed in
    ⊎_elim (λ same. omega (arith, h.counted)) (λ after. omega (arith, h.counted)) (ahead u i (length u) at.within)

-- the offset of a position is as far behind its line's start as its column says
pub offset_from_start : (u : List ℕ) (start : ℕ) (p : Pos) (i : ℕ)
    → position u start ≡ record { line = p.line; col = 0 }
    → IsOffset u p i
    → i ≡ start + p.col
offset_from_start u start p i here at =
    let line : (position u start).line ≡ p.line = ap (λ q. q.line) here in
    let col : (position u start).col ≡ 0 = ap (λ q. q.col) here in
    let at_line : (position u i).line ≡ p.line = ap (λ q. q.line) at.placed in
    let at_col : (position u i).col ≡ p.col = ap (λ q. q.col) at.placed in
    elim (cases_lt i start) [
      | inl lt ↦ ⊎_elim (λ same. omega arith) (λ after. omega arith) (ahead u i start (omega arith))
      | inr ge ↦ ⊎_elim (λ same. omega arith) (λ after. omega arith) (ahead u start i ge)
    ]

-- an offset is before the next line's start
pub offset_before_next : (u : List ℕ) (next : ℕ) (p : Pos) (i : ℕ)
    → position u next ≡ record { line = p.line + 1; col = 0 }
    → IsOffset u p i
    → i < next
offset_before_next u next p i there at =
    let line : (position u next).line ≡ p.line + 1 = ap (λ q. q.line) there in
    let at_line : (position u i).line ≡ p.line = ap (λ q. q.line) at.placed in
    elim (cases_lt i next) [
      | inl lt ↦ lt
      | inr ge ↦ absurd (⊎_elim (λ same. omega arith) (λ after. omega arith) (ahead u next i ge))
    ]

-- what a binary search of the starts finds: the line that begins at the offset, or the one after the offset's
searched_starts : (u : List ℕ) (offset : ℕ) (found : Result ℕ ℕ)
    → offset ≤ length u
    → IsBinarySearchResult (λ y. nat_cmp y offset) (line_starts u) found
    → MatchResult found (λ line. IsLineOf u (line_starts u) offset line)
    (λ next. (0 < next) × IsLineOf u (line_starts u) offset (next - 1))
searched_starts u offset (Ok line) in_text search =
    let starts = line_starts u in
    let h = AreStarts-line_starts u in
    let s = searched starts offset (Ok line) search (AreStarts-ordered u (length u) starts h) in
    record {
      in_table = s.0;
      from = omega (arith, s.1);
      placed =
          ap (position u) (sym s.1)
          ∙ h.placed line s.0
          ∙ same_pos (record { line = line; col = 0 }) (record { line = line; col = offset - get_or starts line 0 })
          refl (omega (arith, s.1));
    }
searched_starts u offset (Err next) in_text search =
    let starts = line_starts u in
    let h = AreStarts-line_starts u in
    let s = searched starts offset (Err next) search (AreStarts-ordered u (length u) starts h) in
    let first = AreStarts-first u (length u) starts h in
    let some : 0 < next = ⊎_elim (λ none. absurd (omega (arith, h.counted, first, s.2 0 (omega arith))))
    (λ above. above) (cases_lt_pos next) in
    let in_table : next - 1 < length starts = omega (arith, s.0) in
    let from : get_or starts (next - 1) 0 ≤ offset = omega (arith, s.1 (next - 1) (omega arith)) in (
      some,
      record {
        in_table = in_table;
        from = from;
        placed =
            position-from_start u (length u) starts (next - 1) offset h in_text in_table from
            (λ more. s.2 (next - 1 + 1) (omega arith) more);
      },
    )

pub searched_line : (u table searched : List ℕ) (offset : ℕ) (found : Result ℕ ℕ)
    → table ≡ line_starts u
    → searched ≡ table
    → offset ≤ length u
    → IsBinarySearchResult (λ y. nat_cmp y offset) searched found
    → MatchResult found (λ line. IsLineOf u table offset line) (λ next. (0 < next) × IsLineOf u table offset (next - 1))
searched_line u table searched offset found of_text same in_text search =
    let search_starts = rw (same, of_text) at search in
    rw of_text (searched_starts u offset found in_text search_starts)

-- the first offset behind a line, by the table
abbrev pub end_of_line : List ℕ → ℕ → ℕ
end_of_line u line = unwrap_or (slice_get (line_starts u) (line + 1)) (length u + 1)

-- it is the next line's start, or there is no next line and it is past the text
end_of_line_cases : (u : List ℕ) (line : ℕ)
    → ((line + 1 < length (line_starts u)) × (end_of_line u line ≡ get_or (line_starts u) (line + 1) 0)) ⊎
    ((length (line_starts u) ≤ line + 1) × (end_of_line u line ≡ length u + 1))
end_of_line_cases u line =
    let starts = line_starts u in
    let end = λ (o : Option ℕ). unwrap_or o (length u + 1) in
    ⊎_elim (λ more. inl (more, ap end (slice_get-get_or starts (line + 1) 0 more)))
    (λ last. inr (last, ap end (slice_get_past starts (line + 1) last))) (cases_lt (line + 1) (length starts))

-- a line's start by the table
started : (u : List ℕ) (line start : ℕ)
    → slice_get (line_starts u) line ≡ Some start
    → (line < length (line_starts u)) × (get_or (line_starts u) line 0 ≡ start)
started u line start at =
    let starts = line_starts u in
    let past : length starts ≤ line → ⊥ = λ ge. cc (slice_get_past starts line ge, at) in (
      ⊎_elim (λ lt. lt) (λ ge. absurd (past ge)) (cases_lt line (length starts)),
      get_or_from_slice_get starts line start 0 at,
    )

pub start_within : (u : List ℕ) (line start : ℕ) → slice_get (line_starts u) line ≡ Some start → start ≤ length u
start_within u line start at =
    let s = started u line start at in
    omega (arith, s.1, (AreStarts-line_starts u).within line s.0)

start_placed : (u : List ℕ) (line start : ℕ)
    → slice_get (line_starts u) line ≡ Some start
    → position u start ≡ record { line = line; col = 0 }
start_placed u line start at =
    let s = started u line start at in
    ap (position u) (sym s.1) ∙ (AreStarts-line_starts u).placed line s.0

-- an offset of a line, outside a CR LF
pub offset_by_table : (u : List ℕ) (p : Pos) (start : ℕ)
    → slice_get (line_starts u) p.line ≡ Some start
    → start + p.col < end_of_line u p.line
    → is_inside_cr_lf u (start + p.col) ≡ false
    → IsOffset u p (start + p.col)
offset_by_table u p start at below outside =
    let starts = line_starts u in
    let h = AreStarts-line_starts u in
    let s = started u p.line start at in
    let in_text : start + p.col ≤ length u = ⊎_elim (λ next. omega (arith, next.1, h.within (p.line + 1) next.0))
    (λ last. omega (arith, last.1)) (end_of_line_cases u p.line) in
    let before_next : p.line + 1 < length starts
    → start + p.col < get_or starts (p.line + 1) 0 = λ more. ⊎_elim (λ next. omega (arith, next.1))
    (λ last. absurd (omega arith)) (end_of_line_cases u p.line) in
    record {
      within = in_text;
      placed =
          position-from_start u (length u) starts p.line (start + p.col) h in_text s.0 (omega (arith, s.1)) before_next
          ∙ same_pos (record { line = p.line; col = start + p.col - get_or starts p.line 0 }) p refl
          (omega (arith, s.1));
      whole = outside;
    }

-- a line that isn't in the table has no offset
pub offset_past_table : (u : List ℕ) (p : Pos) (i : ℕ) → slice_get (line_starts u) p.line ≡ None → IsOffset u p i → ⊥
offset_past_table u p i none at =
    let starts = line_starts u in
    ⊎_elim
    (λ lt. cc (slice_get-get_or starts p.line 0 lt, none))
    (λ past. no_line u starts p i (AreStarts-line_starts u) past at)
    (cases_lt p.line (length starts))

-- an offset that isn't on the line, or is inside a CR LF
pub no_offset_by_table : (u : List ℕ) (p : Pos) (start i : ℕ)
    → slice_get (line_starts u) p.line ≡ Some start
    → (start + p.col < end_of_line u p.line → is_inside_cr_lf u (start + p.col) ≡ true)
    → IsOffset u p i
    → ⊥
no_offset_by_table u p start i at none is_offset =
    let h = AreStarts-line_starts u in
    let there : i ≡ start + p.col = offset_from_start u start p i (start_placed u p.line start at) is_offset in
    let below : start + p.col < end_of_line u p.line = ⊎_elim
    (λ next. omega (
      arith,
      next.1,
      offset_before_next u (get_or (line_starts u) (p.line + 1) 0) p i (h.placed (p.line + 1) next.0) is_offset,
    ))
    (λ last. omega (arith, last.1, is_offset.within))
    (end_of_line_cases u p.line) in
    false≢true (sym is_offset.whole ∙ ap (is_inside_cr_lf u) there ∙ none below)

-- a loop over the units that keeps the starts
pub line_starts_below-end : (u : List ℕ) (i : ℕ)
    → ends_line u i ≡ true
    → line_starts_below u (i + 1 + 1) ≡ line_starts_below u (i + 1) ++ (i + 1) ∷ []
line_starts_below-end u i e =
    line_starts_below-more u (i + 1)
    ∙ ap (λ (b : Bool). line_starts_below u (i + 1) ++ cond b ((i + 1) ∷ []) [])
    (eq-eqb (position u (i + 1)).col 0 (ap (λ q. q.col) (position-end u i e)))

pub line_starts_below-on : (u : List ℕ) (i : ℕ)
    → ends_line u i ≡ false
    → line_starts_below u (i + 1 + 1) ≡ line_starts_below u (i + 1)
line_starts_below-on u i e =
    line_starts_below-more u (i + 1)
    ∙ ap (λ (b : Bool). line_starts_below u (i + 1) ++ cond b ((i + 1) ∷ []) [])
    (ne_eqb (position u (i + 1)).col 0 (λ z. omega (arith, ap (λ q. q.col) (position-on u i e), z)))
    ∙ append-nil (line_starts_below u (i + 1))

pub line_starts-below : (u : List ℕ) (n : ℕ) → n ≡ length u → line_starts u ≡ line_starts_below u (n + 1)
unfolding line_starts
line_starts-below u n e = ap (λ (k : ℕ). line_starts_below u (k + 1)) (sym e)

pub ruleset starting = (line_starts_below-one, line_starts_below-end, line_starts_below-on, line_starts-below)

-- how many units the line at an offset has
abbrev pub line_len : List ℕ → ℕ → ℕ
line_len u start = prefix_len (λ c. not (is_line_terminator c)) (drop start u)

pub length-line_from : (u : List ℕ) (start : ℕ) → length (line_from u start) ≡ line_len u start
length-line_from u start = length-prefix_len (λ c. not (is_line_terminator c)) (drop start u)

line_len_le : (u : List ℕ) (start : ℕ) → start ≤ length u → start + line_len u start ≤ length u
line_len_le u start h =
    omega (arith, prefix_len-le-length (λ c. not (is_line_terminator c)) (drop start u), length-drop start u)

in_line : (u : List ℕ) (start k : ℕ) → k < line_len u start → is_line_terminator (get_or u (start + k) 0) ≡ false
in_line u start k h =
    not-true (is_line_terminator (get_or u (start + k) 0))
    (rw (← get_or-drop start u k 0) (prefix_len_passes (λ c. not (is_line_terminator c)) (drop start u) k 0 h))

at_line_end : (u : List ℕ) (start : ℕ)
    → start + line_len u start < length u
    → is_line_terminator (get_or u (start + line_len u start) 0) ≡ true
at_line_end u start h =
    not_false (is_line_terminator (get_or u (start + line_len u start) 0))
    (rw (← get_or-drop start u (line_len u start) 0)
    (prefix_len_stops (λ c. not (is_line_terminator c)) (drop start u) 0 (omega (arith, length-drop start u))))

not_cr : (c : ℕ) → is_line_terminator c ≡ false → eqb c 0x0D ≡ false
not_cr c h =
    ne_eqb c 0x0D
    (λ e. let P : ℕ → Type 0 = λ y. is_line_terminator y ≡ false in absurd (false≢true (sym (subst P e h))))

-- on a line the column counts the units
along_line : (u : List ℕ) (start k : ℕ)
    → k ≤ line_len u start
    → position u (start + k) ≡ record { line = (position u start).line; col = (position u start).col + k }
along_line u start zero h = simp add-zero refl
along_line u start (suc k) h =
    let on : ends_line u (start + k) ≡ false = rw (in_line u start k (omega arith)) refl in
    let so_far = along_line u start k (omega arith) in
    let next : position u (start + suc k)
    ≡ record { line = (position u (start + k)).line; col = (position u (start + k)).col + 1 } = ap (position u)
    (omega arith)
    ∙ position-on u (start + k) on in
    next
    ∙ same_pos (record { line = (position u (start + k)).line; col = (position u (start + k)).col + 1 })
    (record { line = (position u start).line; col = (position u start).col + suc k }) (ap (λ q. q.line) so_far)
    (omega (arith, ap (λ q. q.col) so_far))

-- on a line, its end included, no offset is inside a CR LF
outside_in_line : (u : List ℕ) (start k : ℕ)
    → (position u start).col ≡ 0
    → k ≤ line_len u start
    → is_inside_cr_lf u (start + k) ≡ false
outside_in_line u start zero e h = rw add-zero (outside_at_start u start e)
outside_in_line u start (suc k) e h =
    let after : start + suc k ≡ suc (start + k) = omega arith in
    rw (after, not_cr (get_or u (start + k) 0) (in_line u start k (omega arith))) refl

-- the column of a line up to its end is an offset's
pub offset_in_line : (u : List ℕ) (p : Pos) (start : ℕ)
    → start ≤ length u
    → position u start ≡ record { line = p.line; col = 0 }
    → p.col ≤ length (line_from u start)
    → IsOffset u p (start + p.col)
offset_in_line u p start in_text here in_line =
    let col : (position u start).col ≡ 0 = ap (λ q. q.col) here in
    let long : p.col ≤ line_len u start = omega (arith, length-line_from u start) in
    record {
      within = omega (arith, line_len_le u start in_text);
      placed =
          along_line u start p.col long
          ∙ same_pos (record { line = (position u start).line; col = (position u start).col + p.col }) p
          (ap (λ q. q.line) here) (omega arith);
      whole = outside_in_line u start p.col col long;
    }

-- behind a unit that ends its line the line is a later one
later_line : (u : List ℕ) (start end i : ℕ)
    → ends_line u end ≡ true
    → start ≤ end
    → end < i
    → (position u start).line < (position u i).line
later_line u start end i ends from below =
    let line : (position u (end + 1)).line ≡ (position u end).line + 1 = ap (λ q. q.line) (position-end u end ends) in
    let to_end : (position u start).line ≤ (position u end).line = ⊎_elim (λ same. omega arith) (λ after. omega arith)
    (ahead u start end from) in
    ⊎_elim (λ same. omega arith) (λ after. omega arith) (ahead u (end + 1) i (omega arith))

-- the LF of a CR LF ends the line
cr_lf-ends_line : (u : List ℕ) (i : ℕ) → is_inside_cr_lf u (suc i) ≡ true → ends_line u (suc i) ≡ true
cr_lf-ends_line u i e =
    let both = and_parts (eqb (get_or u i 0) 0x0D) (eqb (get_or u (suc i) 0) 0x0A) e in
    let lf : get_or u (suc i) 0 ≡ 0x0A = eqb-true (get_or u (suc i) 0) 0x0A both.1 in
    rw lf refl

-- past the end of its line a column is no offset's
pub offset_past_line : (u : List ℕ) (p : Pos) (start i : ℕ)
    → position u start ≡ record { line = p.line; col = 0 }
    → length (line_from u start) < p.col
    → IsOffset u p i
    → ⊥
offset_past_line u p start i here past at =
    let end = start + line_len u start in
    let there : i ≡ start + p.col = offset_from_start u start p i here at in
    let below : end < i = omega (arith, length-line_from u start) in
    let line : (position u start).line ≡ p.line = ap (λ q. q.line) here in
    let at_line : (position u i).line ≡ p.line = ap (λ q. q.line) at.placed in
    let terminator : is_line_terminator (get_or u end 0) ≡ true = at_line_end u start (omega (arith, at.within)) in
    elim (cases_Bool (is_inside_cr_lf u (suc end))) [
      | inl inside ↦
          let apart : i ≢ suc end = λ e. let P : ℕ → Type 0 = λ k. is_inside_cr_lf u k ≡ false in
          false≢true (sym (subst P e at.whole) ∙ inside) in
          omega (arith, later_line u start (suc end) i (cr_lf-ends_line u end inside) (omega arith) (omega arith))
      | inr outside ↦
          let ends : ends_line u end ≡ true = rw (terminator, outside) refl in
          omega (arith, later_line u start end i ends (omega arith) below)
    ]

-- the line at a number, if there is one
lines-at : (u : List ℕ) (k : ℕ) → slice_get (lines u) k ≡ option_map (line_from u) (slice_get (line_starts u) k)
unfolding lines
lines-at u k = slice_get-map (line_from u) (line_starts u) k

IsPastLine-not_found : (u : List ℕ) (p : Pos) → ((i : ℕ) → IsOffset u p i → ⊥) → IsPastLine u p
IsPastLine-not_found u p none =
    let starts = line_starts u in
    let h = AreStarts-line_starts u in
    let Past : Option (List ℕ) → Type 0 = λ o. MatchOption o ⊤ (λ line. length line < p.col) in
    elim (cases_lt p.line (length starts)) [
      | inl lt ↦
          let start = get_or starts p.line 0 in
          let past : length (line_from u start) < p.col = ⊎_elim (λ below. below)
          (λ above. absurd
          (none (start + p.col) (offset_in_line u p start (h.within p.line lt) (h.placed p.line lt) above)))
          (cases_lt (length (line_from u start)) p.col) in
          subst Past (sym (lines-at u p.line ∙ ap (option_map (line_from u)) (slice_get-get_or starts p.line 0 lt)))
          past
      | inr ge ↦ subst Past (sym (lines-at u p.line ∙ ap (option_map (line_from u)) (slice_get_past starts p.line ge)))
          tt
    ]

not_found-IsPastLine : (u : List ℕ) (p : Pos) → IsPastLine u p → (i : ℕ) → IsOffset u p i → ⊥
not_found-IsPastLine u p past i at =
    let starts = line_starts u in
    let h = AreStarts-line_starts u in
    let Past : Option (List ℕ) → Type 0 = λ o. MatchOption o ⊤ (λ line. length line < p.col) in
    elim (cases_lt p.line (length starts)) [
      | inl lt ↦
          let start = get_or starts p.line 0 in
          let long : length (line_from u start) < p.col = subst Past
          (lines-at u p.line ∙ ap (option_map (line_from u)) (slice_get-get_or starts p.line 0 lt)) past in
          offset_past_line u p start i (h.placed p.line lt) long at
      | inr ge ↦ no_line u starts p i h ge at
    ]

-- the first line terminator ends the line, or the end of the text
pub line_end_is : (u : List ℕ) (start end : ℕ)
    → start ≤ end
    → end ≤ length u
    → ((k : ℕ) → start ≤ k → k < end → is_line_terminator (get_or u k 0) ≡ false)
    → (end < length u → is_line_terminator (get_or u end 0) ≡ true)
    → end ≡ start + length (line_from u start)
line_end_is u start end from in_text before stop =
    let rest = drop start u in
    let long : length rest ≡ length u - start = length-drop start u in
    let there : start + (end - start) ≡ end = omega arith in
    let len : line_len u start ≡ end - start = prefix_len_is (λ c. not (is_line_terminator c)) rest (end - start) 0
    (omega arith)
    (λ k lt. rw (get_or-drop start u k 0, before (start + k) (omega arith) (omega arith)) refl)
    (λ lt. rw (get_or-drop start u (end - start) 0, there, stop (omega arith)) refl) in
    omega (arith, length-line_from u start)

-- a line past the last has no offset
pub offset_past_text : (u : List ℕ) (p : Pos) (i : ℕ) → (position u (length u)).line < p.line → IsOffset u p i → ⊥
offset_past_text u p i past at =
    no_line u (line_starts u) p i (AreStarts-line_starts u) (omega (arith, (AreStarts-line_starts u).counted)) at

-- what the search for an offset promises: it finds the one there is, and nothing exactly where the position is past its
-- line
pub record Finds (u : List ℕ) (p : Pos) (o : Option ℕ) : Type 0 where
  pub found : IfSome o (λ i. IsOffset u p i)
  pub undoes : (i : ℕ) → IsOffset u p i → o ≡ Some i
  pub none : IsNone o ↔ IsPastLine u p

pub Finds-none : (u : List ℕ) (p : Pos) → ((i : ℕ) → IsOffset u p i → ⊥) → Finds u p None
Finds-none u p none = record {
  found = tt;
  undoes = λ i at. absurd (none i at);
  none = (λ _. IsPastLine-not_found u p none, λ _. refl);
}

pub Finds-some : (u : List ℕ) (p : Pos) (i : ℕ) → IsOffset u p i → Finds u p (Some i)
Finds-some u p i is_offset = record {
  found = is_offset;
  undoes = λ j at. ap (λ (k : ℕ). let o : Option ℕ = Some k in o) (IsOffset-once u p i j is_offset at);
  none = (λ e. absurd (false≢true (sym e)), λ past. absurd (not_found-IsPastLine u p past i is_offset));
}
