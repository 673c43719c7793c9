-- Places whose groups are marked.
use Rattle.std.proofs.Common.{◌≡◌, ℕ, zero, suc, ◌+◌, ◌*◌, ◌%◌, ◌<◌, ◌≤◌, ◌&&◌, true, List, [], ◌∷◌, length, get_or, set, take, nat_eq, refl, sym, ap₂, ◌∙◌, ⊎_elim, arith, ◌==◌}
use Rattle.std.proofs.lemmas.Bool.{and_parts, eqb-true, or_cases, false≢true}
use Rattle.std.proofs.lemmas.List.Folds.{list_any_more}
use Rattle.cdp_text.specs.declared.position.Place.{Place}
use Rattle.breakpoints.specs.Hits.{has_place, same_place}
use Rattle.breakpoints.specs.PlaceFilter.{AreMarked, KeepsMarks, group_of, is_marked}

-- ---- one mark more

mark-there : (marks : List ℕ) (g : ℕ) → (get_or (set marks g 1) g 1 == 1) ≡ true
mark-there [] g = refl
mark-there (m ∷ ms) zero = refl
mark-there (m ∷ ms) (suc g) = mark-there ms g

mark-stays : (marks : List ℕ) (g h : ℕ) → (get_or marks h 1 == 1) ≡ true → (get_or (set marks g 1) h 1 == 1) ≡ true
mark-stays [] g h is = is
mark-stays (m ∷ ms) zero zero is = refl
mark-stays (m ∷ ms) zero (suc h) is = is
mark-stays (m ∷ ms) (suc g) zero is = is
mark-stays (m ∷ ms) (suc g) (suc h) is = mark-stays ms g h is

pub one-marked : (marks : List ℕ) (p : Place) → is_marked (set marks (group_of p) 1) p ≡ true
one-marked marks p = mark-there marks (group_of p)

pub marks-kept : (marks : List ℕ) (g : ℕ) → KeepsMarks marks (set marks g 1)
marks-kept marks g p is = mark-stays marks g (group_of p) is

-- a group behind the last mark counts as marked
past : (marks : List ℕ) (g : ℕ) → length marks ≤ g → (get_or marks g 1 == 1) ≡ true
past [] g h = refl
past (m ∷ ms) zero h = absurd (omega arith)
past (m ∷ ms) (suc g) h = past ms g (omega arith)

pub past-marked : (marks : List ℕ) (p : Place) → length marks ≤ group_of p → is_marked marks p ≡ true
past-marked marks p h = past marks (group_of p) h

pub none-marked : (marks : List ℕ) → AreMarked [] marks
none-marked marks p has = absurd (false≢true has)

-- ---- the places of a group

same-group : (p q : Place) → same_place p q ≡ true → group_of p ≡ group_of q
same-group p q same =
    let column = and_parts (nat_eq p.script q.script && nat_eq p.pos.line q.pos.line) (nat_eq p.pos.col q.pos.col)
    same in
    let line = and_parts (nat_eq p.script q.script) (nat_eq p.pos.line q.pos.line) column.0 in
    ap₂ (λ a b. (a * 8 + b) % 4096) (eqb-true p.pos.line q.pos.line line.1) (eqb-true p.pos.col q.pos.col column.1)

-- a mark of a group is one of each place in it
marked-as : (marks : List ℕ) (p q : Place)
    → group_of p ≡ group_of q
    → is_marked marks p ≡ true
    → is_marked marks q ≡ true
marked-as marks p q group is = rw group at is

-- the next of some places is marked
pub marked-more : (places : List Place) (i : ℕ) (d : Place) (old new : List ℕ)
    → i < length places
    → AreMarked (take i places) old
    → KeepsMarks old new
    → is_marked new (get_or places i d) ≡ true
    → AreMarked (take (i + 1) places) new
marked-more places i d old new h marked kept is q has =
    ⊎_elim (λ before. kept q (marked q before))
    (λ same. marked-as new (get_or places i d) q (same-group (get_or places i d) q same) is)
    (or_cases (has_place q (take i places)) (same_place (get_or places i d) q)
    (sym (list_any_more (λ r. same_place r q) places i d h) ∙ has))
