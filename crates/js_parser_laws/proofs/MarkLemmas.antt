-- Marks one after the other.
use Rattle.std.proofs.Common.{List, [], ◌∷◌, ◌++◌, refl, sym, subst, inl, inr}
use Rattle.js_parser_language.specs.Tokens.{Token, FlatToken, token, beside, semicolon, trailing_comma, tail_of, Matches}

pub joins : (ms ns : List FlatToken) (ts us r : List Token) → Matches ms ts us → Matches ns us r → Matches (ms ++ ns) ts r
joins [] ns ts us r p q = subst (λ (l : List Token). Matches ns l r) (sym p) q
joins (token s ∷ ms) ns ts us r p q = (p.0, joins ms ns (tail_of ts) us r p.1 q)
joins (beside s ∷ ms) ns ts us r p q = (p.0, p.1, joins ms ns (tail_of ts) us r p.2 q)
joins (semicolon e ∷ ms) ns ts us r (inl p) q = inl (p.0, joins ms ns (tail_of ts) us r p.1 q)
joins (semicolon e ∷ ms) ns ts us r (inr p) q = inr (p.0, joins ms ns ts us r p.1 q)
joins (trailing_comma ∷ ms) ns ts us r (inl p) q = inl (p.0, joins ms ns (tail_of ts) us r p.1 q)
joins (trailing_comma ∷ ms) ns ts us r (inr p) q = inr (joins ms ns ts us r p q)

-- where the first marks end
pub parts : (ms ns : List FlatToken) (ts r : List Token)
    → Matches (ms ++ ns) ts r
    → (us : List Token) × Matches ms ts us × Matches ns us r
parts [] ns ts r m = (ts, refl, m)
parts (token s ∷ ms) ns ts r m = let p = parts ms ns (tail_of ts) r m.1 in (p.0, (m.0, p.1), p.2)
parts (beside s ∷ ms) ns ts r m = let p = parts ms ns (tail_of ts) r m.2 in (p.0, (m.0, m.1, p.1), p.2)
parts (semicolon e ∷ ms) ns ts r (inl m) = let p = parts ms ns (tail_of ts) r m.1 in (p.0, inl (m.0, p.1), p.2)
parts (semicolon e ∷ ms) ns ts r (inr m) = let p = parts ms ns ts r m.1 in (p.0, inr (m.0, p.1), p.2)
parts (trailing_comma ∷ ms) ns ts r (inl m) = let p = parts ms ns (tail_of ts) r m.1 in (p.0, inl (m.0, p.1), p.2)
parts (trailing_comma ∷ ms) ns ts r (inr m) = let p = parts ms ns ts r m in (p.0, inr p.1, p.2)
