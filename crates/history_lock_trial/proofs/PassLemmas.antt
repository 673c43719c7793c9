-- Passes as a lock begins with them, and joined ones.
use Rattle.std.proofs.Common.{◌≡◌, ℕ, zero, suc, List, [], ◌∷◌, ◌++◌, true, All, Some, length, refl, ap, sym, ◌∙◌, subst, append-nil, append_assoc, arith}
use Rattle.std.proofs.lemmas.List.Elements.{All-cons, All-nil, All-pop, All-push, All-same, All-weaker}
use Rattle.history_lock.specs.Histories.{Begins, has}
use Rattle.history_lock.specs.Passes.{KeepsWhole, LockId, PassState, initial_pass, initial_passes, joined_pass}
use Rattle.history_lock.proofs.Facts.{has_behind, has_front}
use Rattle.history_lock_trial.specs.Rows.{Covers, IsReady}

module _ {E : Type 0} where
  pub initial_ready : (lock : LockId) (n k : ℕ) → All (IsReady {E = E} lock) (initial_passes lock n k)
  initial_ready lock n zero = All-nil (IsReady lock)
  initial_ready lock n (suc k) =
      All-push (IsReady lock) (initial_passes lock n k) (initial_pass lock n k) (initial_ready lock n k) (refl, refl)

  begins_then : (xs ys zs : List (ℕ × E)) → Begins xs ys → Begins ys zs → Begins xs zs
  begins_then xs ys zs b c = (b.0 ++ c.0, c.1 ∙ ap (λ l. l ++ c.0) b.1 ∙ append_assoc xs b.0 c.0)

  pub covers_self : (p : PassState E) → Covers p p
  covers_self p = record { seen = ([], sym (append-nil p.seen)); numbers = λ x h. h; entries = λ x h. refl }

  covers_then : (all other p : PassState E) → Covers all other → Covers other p → Covers all p
  covers_then all other p b c = record {
    seen = begins_then p.seen other.seen all.seen c.seen b.seen;
    numbers = λ x h. b.numbers x (c.numbers x h);
    entries = λ x h. b.entries x (c.numbers x h) ∙ c.entries x h;
  }

  -- after a join the pass covers both
  joined_covers : (p q all : PassState E) → all ≡ joined_pass p q → Begins p.seen all.seen → KeepsWhole p all.seen
      → Covers all p
  joined_covers p q all is begun keeps = record {
    seen = begun;
    numbers = λ x h. subst (λ (xs : List ℕ). has x xs ≡ true) (sym (ap (λ (r : PassState E). r.numbers) is)) (has_front x p.numbers q.numbers h);
    entries = keeps;
  }

  other_covers : (p q all : PassState E) → all ≡ joined_pass p q → Begins q.seen all.seen → KeepsWhole q all.seen
      → Covers all q
  other_covers p q all is begun keeps = record {
    seen = begun;
    numbers = λ x h. subst (λ (xs : List ℕ). has x xs ≡ true) (sym (ap (λ (r : PassState E). r.numbers) is)) (has_behind x p.numbers q.numbers h);
    entries = keeps;
  }

  -- the passes that are left, and those that are joined already
  pub record Joined (lock : LockId) (all : PassState E) (passes left : List (PassState E)) : Type 0 where
    pub rest : List (PassState E)
    pub passes_are : passes ≡ left ++ rest
    pub covered : All (Covers all) rest
    pub ready : IsReady lock all
    pub left_ready : All (IsReady lock) left

  pub joined_first : (lock : LockId) (p : PassState E) (passes left : List (PassState E)) → passes ≡ left ++ p ∷ []
      → All (IsReady lock) passes → Joined lock p passes left
  joined_first lock p passes left is ready =
      let parts = All-pop (IsReady lock) passes left (Some p) is ready in
      record {
        rest = p ∷ [];
        passes_are = is;
        covered = All-cons (Covers p) p [] (covers_self p) (All-nil (Covers p));
        ready = parts.1;
        left_ready = parts.0;
      }

  -- one pass more is joined
  pub joined_next : (lock : LockId) (all q new : PassState E) (passes left fewer : List (PassState E))
      → Joined lock all passes left → left ≡ fewer ++ q ∷ [] → new ≡ joined_pass all q
      → Begins all.seen new.seen × Begins q.seen new.seen → KeepsWhole all new.seen → KeepsWhole q new.seen
      → Joined lock new passes fewer
  joined_next lock all q new passes left fewer before is joins both own others =
      let covers = joined_covers all q new joins both.0 own in
      record {
        rest = q ∷ before.rest;
        passes_are = before.passes_are ∙ ap (λ ps. ps ++ before.rest) is ∙ append_assoc fewer (q ∷ []) before.rest;
        covered =
            All-cons (Covers new) q before.rest (other_covers all q new joins both.1 others)
            (All-weaker (Covers all) (Covers new) (λ p c. covers_then new all p covers c) before.rest before.covered);
        ready = (
          ap (λ (r : PassState E). r.lock) joins ∙ before.ready.0,
          ap (λ (r : PassState E). r.in_turn) joins ∙ before.ready.1,
        );
        left_ready = (All-pop (IsReady lock) left fewer (Some q) is before.left_ready).0;
      }

  -- no pass is left
  pub joined_all : (lock : LockId) (all : PassState E) (passes left : List (PassState E)) → Joined lock all passes left
      → length left ≡ 0 → All (Covers all) passes
  joined_all lock all passes [] joins none = All-same (Covers all) passes joins.rest joins.passes_are joins.covered
  joined_all lock all passes (p ∷ left) joins none = absurd (omega (arith, none))
