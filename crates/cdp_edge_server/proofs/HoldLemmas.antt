-- Holds at the beginning of what is to come.
use Rattle.std.proofs.Common.{◌≡◌, ℕ, ◌<◌, List, [], ◌∷◌, ◌++◌, map, drop, length, refl, ap, sym, ◌∙◌, arith}
use Rattle.cdp_edge_server.specs.Coming.{Coming, Hold, IsBehindHolds}
use Rattle.cdp_edge_server.specs.Scripts.{BeginsWithHold}

-- what is to come is behind no hold
pub behind-none : (coming : List Coming) → IsBehindHolds coming coming
behind-none coming = ([], refl)

-- a hold is the last of those before the rest
moved : (waits : List ℕ) (n : ℕ) (rest : List Coming)
    → map (λ n. Hold n) waits ++ Hold n ∷ rest ≡ map (λ n. Hold n) (waits ++ n ∷ []) ++ rest
moved [] n rest = refl
moved (w ∷ ws) n rest = ap (λ t. Hold w ∷ t) (moved ws n rest)

-- behind holds and one more
pub behind-one : (old now : List Coming) → IsBehindHolds old now → BeginsWithHold now → IsBehindHolds old (drop 1 now)
behind-one old now (waits, e) (n, rest, is) = (
  waits ++ n ∷ [],
  e
      ∙ ap (λ t. map (λ n. Hold n) waits ++ t) is
      ∙ moved waits n rest
      ∙ ap (λ t. map (λ n. Hold n) (waits ++ n ∷ []) ++ drop 1 t) (sym is),
)

-- behind a hold there is less
pub shorter : (now : List Coming) → BeginsWithHold now → length (drop 1 now) < length now
shorter now (n, rest, is) = rw is (omega arith)

-- for a script that drops holds
pub ruleset holds = (behind-none, behind-one, shorter)
