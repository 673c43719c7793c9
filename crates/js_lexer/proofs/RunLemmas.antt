-- Runs of pieces.
use Rattle.std.proofs.Common.{◌≡◌, ℕ, zero, suc, ◌+◌, ◌<◌, ◌≤◌, List, [], ◌∷◌, ◌++◌, length, take, drop, refl, sym, ap, subst, ◌∙◌, append_assoc, arith}
use Rattle.std.specs.List.{concat}
use Rattle.std.proofs.lemmas.List.{take-append-drop, drop-drop, length-drop, length-append}
use Rattle.std.proofs.Math.Seq.{take-add, drop-append_seam}
use Rattle.js_lexer.specs.Pieces.{Each, AreMadeOf, behind, run}

pub run_stops : (piece : List ℕ → ℕ) (us : List ℕ) → piece us ≡ 0 → run piece 0 us ≡ 0
run_stops piece [] e = refl
run_stops piece (u ∷ us) e = ap (behind (λ n. run piece n us)) e

run_skips : (piece : List ℕ → ℕ) (k : ℕ) (us : List ℕ) → k ≤ length us → run piece k us ≡ k + run piece 0 (drop k us)
run_skips piece zero us h = omega arith
run_skips piece (suc k) [] h = absurd (omega arith)
run_skips piece (suc k) (u ∷ us) h = omega (arith, run_skips piece k us (omega arith))

pub run_more : (piece : List ℕ → ℕ) (us : List ℕ) (n : ℕ)
    → piece us ≡ n
    → 0 < n
    → n ≤ length us
    → run piece 0 us ≡ n + run piece 0 (drop n us)
run_more piece [] n e p q = absurd (omega arith)
run_more piece (u ∷ us) zero e p q = absurd (omega arith)
run_more piece (u ∷ us) (suc n) e p q =
    ap (behind (λ n. run piece n us)) e ∙ omega (arith, run_skips piece n us (omega arith))

pub run_within : (piece : List ℕ → ℕ) (k : ℕ) (us : List ℕ) → run piece k us ≤ length us
run_within piece k [] = omega arith
run_within piece zero (u ∷ us) =
    by_piece (λ n. run piece n us) (length us) (λ n. run_within piece n us) (piece (u ∷ us))
  where
    by_piece : (go : ℕ → ℕ) (l : ℕ) → ((n : ℕ) → go n ≤ l) → (n : ℕ) → behind go n ≤ suc l
    by_piece go l h zero = omega arith
    by_piece go l h (suc n) = omega (arith, h n)
run_within piece (suc k) (u ∷ us) = omega (arith, run_within piece k us)

-- so many units are made of pieces, and none stands behind them
pub record IsRun (P : List ℕ → List ℕ → Type 0) (piece : List ℕ → ℕ) (us : List ℕ) (k : ℕ) : Type 0 where
  pub made : AreMadeOf P (take k us) (drop k us)
  pub ended : piece (drop k us) ≡ 0

-- what `piece` finds at the front is a piece
abbrev pub Finds : (List ℕ → List ℕ → Type 0) → (List ℕ → ℕ) → Type 0
Finds P piece = (us : List ℕ) (n : ℕ) → piece us ≡ suc n → (suc n ≤ length us) × P (take (suc n) us) (drop (suc n) us)

-- each piece is found where it stands at the front
abbrev pub Knows : (List ℕ → List ℕ → Type 0) → (List ℕ → ℕ) → Type 0
Knows P piece = (t m : List ℕ) → P t m → (0 < length t) × (piece (t ++ m) ≡ length t)

longer : (P : List ℕ → List ℕ → Type 0) (piece : List ℕ → ℕ) (us : List ℕ) (n k : ℕ)
    → P (take n us) (drop n us)
    → IsRun P piece (drop n us) k
    → IsRun P piece us (n + k)
longer P piece us n k p r =
    let e : drop k (drop n us) ≡ drop (n + k) us = drop-drop k n us in
    let whole : concat r.made.pieces ++ drop k (drop n us) ≡ drop n us = ap (λ l. l ++ drop k (drop n us))
    (sym r.made.joined)
    ∙ take-append-drop k (drop n us) in
    record {
      made = subst (λ (m : List ℕ). AreMadeOf P (take (n + k) us) m) e (record {
        pieces = take n us ∷ r.made.pieces;
        joined = take-add n k us ∙ ap (λ l. take n us ++ l) r.made.joined;
        each = (rw whole p, r.made.each);
      });
      ended = ap piece (sym e) ∙ r.ended;
    }

run_by : (P : List ℕ → List ℕ → Type 0) (piece : List ℕ → ℕ) (us : List ℕ)
    → Finds P piece
    → ((r : List ℕ) → length r < length us → IsRun P piece r (run piece 0 r))
    → (n : ℕ)
    → piece us ≡ n
    → IsRun P piece us (run piece 0 us)
run_by P piece us f h zero e =
    subst (λ (k : ℕ). IsRun P piece us k) (sym (run_stops piece us e))
    (record { made = record { pieces = []; joined = refl; each = tt }; ended = e })
run_by P piece us f h (suc n) e =
    let found = f us n e in
    let l : suc n ≤ length us = found.0 in
    subst (λ (k : ℕ). IsRun P piece us k) (sym (run_more piece us (suc n) e (omega arith) l))
    (longer P piece us (suc n) (run piece 0 (drop (suc n) us)) found.1
    (h (drop (suc n) us) (omega (arith, length-drop (suc n) us))))

run_below : (P : List ℕ → List ℕ → Type 0) (piece : List ℕ → ℕ)
    → Finds P piece
    → (n : ℕ) (us : List ℕ)
    → length us < n
    → IsRun P piece us (run piece 0 us)
run_below P piece f zero us l = absurd (omega arith)
run_below P piece f (suc n) us l = run_by P piece us f (λ r q. run_below P piece f n r (omega arith)) (piece us) refl

-- the run at the front is made of pieces, and none stands behind it
pub run_is : (P : List ℕ → List ℕ → Type 0) (piece : List ℕ → ℕ)
    → Finds P piece
    → (us : List ℕ)
    → IsRun P piece us (run piece 0 us)
run_is P piece f us = run_below P piece f (suc (length us)) us (omega arith)

-- pieces in order, behind which none stands, are the run
pub run_exact : (P : List ℕ → List ℕ → Type 0) (piece : List ℕ → ℕ)
    → Knows P piece
    → (ts : List (List ℕ)) (m : List ℕ)
    → Each P ts m
    → piece m ≡ 0
    → run piece 0 (concat ts ++ m) ≡ length (concat ts)
run_exact P piece k [] m h z = run_stops piece m z
run_exact P piece k (t ∷ ts) m h z =
    let here = k t (concat ts ++ m) h.0 in
    let some : 0 < length t = here.0 in
    let l : length t ≤ length (t ++ (concat ts ++ m)) = omega (arith, length-append t (concat ts ++ m)) in
    let rest : run piece 0 (drop (length t) (t ++ (concat ts ++ m))) ≡ length (concat ts) = ap (run piece 0)
    (drop-append_seam t (concat ts ++ m))
    ∙ run_exact P piece k ts m h.1 z in
    ap (run piece 0) (append_assoc t (concat ts) m)
    ∙ run_more piece (t ++ (concat ts ++ m)) (length t) here.1 some l
    ∙ omega (arith, rest, length-append t (concat ts))

pub ruleset run_steps = (run_stops, run_more)
