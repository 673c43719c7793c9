-- Lemmas on texts with another between each two.
use Rattle.std.proofs.Common.{◌≡◌, ℕ, List, [], ◌∷◌, ◌++◌, sym, ap, ◌∙◌, append_assoc, ◌<◌, length, drop, get_or, arith}
use Rattle.std.proofs.lemmas.List.{append-nil}
use Rattle.js_heap.specs.Values.{between}
use Rattle.js_machine_actions.proofs.Joining.{behind_each}

regroup : (t s u r : List ℕ) → t ++ s ++ (u ++ r) ≡ t ++ (s ++ u ++ r)
regroup t s u r = simp append_assoc

pub between-behind : (separator : List ℕ) (t : List ℕ) (ts : List (List ℕ))
    → between separator (t ∷ ts) ≡ t ++ behind_each separator ts
between-behind separator t [] = sym (append-nil t)
between-behind separator t (u ∷ ts) =
    ap (λ r. t ++ separator ++ r) (between-behind separator u ts) ∙ regroup t separator u (behind_each separator ts)

pub between-first : (separator : List ℕ) (ts : List (List ℕ)) (d : List ℕ)
    → 0 < length ts
    → get_or ts 0 d ++ behind_each separator (drop 1 ts) ≡ between separator ts
between-first separator [] d h = absurd (omega arith)
between-first separator (t ∷ ts) d h = sym (between-behind separator t ts)

pub ruleset between_rules = (between-first)
