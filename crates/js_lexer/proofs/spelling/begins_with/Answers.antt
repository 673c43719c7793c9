use Rattle.std.proofs.Common.{◌≡◌, ℕ, ◌<◌, List, [], ◌∷◌, length, drop, false, refl, arith, length-drop}
use Rattle.js_lexer.specs.Spellings.{is_prefix_of}
use Rattle.js_lexer.proofs.spelling.begins_with.Goals as goal

nothing_left : (text us : List ℕ) → 0 < length text → length us ≡ 0 → is_prefix_of text us ≡ false
nothing_left [] us h z = absurd (omega arith)
nothing_left (c ∷ cs) [] h z = refl
nothing_left (c ∷ cs) (u ∷ us) h z = absurd (omega arith)

pub returns-in_default : goal.returns-in_default
returns-in_default c =
    let e = nothing_left (drop c.loop-b.b-index c.as_bytes-b-items.result.now) c.loop-b.rest.now
    (omega (arith, length-drop c.loop-b.b-index c.as_bytes-b-items.result.now)) (omega arith) in
    cc
