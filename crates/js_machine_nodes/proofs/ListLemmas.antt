-- Lists in two parts.
use Rattle.std.proofs.Common.{◌≡◌, ℕ, ◌+◌, ◌-◌, ◌≤◌, List, ◌++◌, length, take, sym, ap, ◌∙◌, arith}
use Rattle.std.proofs.Math.Seq.{take-append-add}

module _ {X : Type 0} where
  -- so many of both, where those are no fewer than the front
  pub take_behind : (xs ys zs : List X) (n k : ℕ)
      → length xs ≡ k
      → k ≤ n
      → zs ≡ take (n - k) ys
      → xs ++ zs ≡ take n (xs ++ ys)
  take_behind xs ys zs n k h l e =
      let both : length xs + (n - k) ≡ n = omega (arith, h, l) in
      ap (λ ws. xs ++ ws) e
      ∙ sym (take-append-add xs ys (n - k))
      ∙ ap (λ m. take m (xs ++ ys)) both
