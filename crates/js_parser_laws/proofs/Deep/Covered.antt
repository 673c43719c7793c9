-- What stands behind a parenthesis and is too deep: an expression, or the body of an arrow function.
use Rattle.std.proofs.Common.{◌≡◌, ℕ, suc, ◌≤◌, Bool, true, false, cond, List, [], ◌∷◌, ◌++◌, length, Option, Some, None, Ok, Err, refl, sym, ap, subst, ◌∙◌, append_assoc, arith}
use Rattle.js_lexer.specs.declared.token.TokenKind.TheVariants as kinds
use Rattle.js_tree.specs.Trees as trees
use Rattle.js_tree.specs.Trees.{Expression}
use Rattle.js_parser_language.specs.Tokens.{Token, head_of}
use Rattle.js_parser_readers.specs.Reading.{stuck, deep, Read, Reader, ◌>>=◌, expect}
use Rattle.js_parser_readers.specs.Classes.{update_near, is_arrow, past_names, ArrowStart, listed, no_arrow, listed_by}
use Rattle.js_parser_readers.specs.Productions.{Below, an_expression, PieceValues, seq}
use Rattle.js_parser_readers.specs.Parsing.{links, updated_by, chain, joined, arrow_rest, are_fresh, arrow_of_names}
use Rattle.js_parser_laws.proofs.Again.Level.{height_positive}
use Rattle.js_parser_laws.proofs.Follows.Tools.{Follows, binds, head_past}
use Rattle.js_parser_laws.proofs.Follows.Parts.{Pair, made_follows}
use Rattle.js_parser_laws.proofs.Follows.Expressions.{links_follows, updated_follows, chain_follows}
use Rattle.js_parser_laws.proofs.Follows.Arrows.{Within, within_then, scan_end, stable, Closed, closed}
use Rattle.js_parser_laws.proofs.Follows.Assignments.{Spans, enclosed, covered, paren_items, paren_value, with_paren, as_enclosed, enclosed_by, paren_form, paren_at, listed_is, listed_alike}
use Rattle.js_parser_laws.proofs.Deep.Tools.{deep_is, DeepAt, Deepens}
use Rattle.js_parser_laws.proofs.Deep.Parts.{DeepBelow, expect_quiet}
use Rattle.js_parser_laws.proofs.Deep.Expressions.{updated_deepens, joined_deepens, arrow_rest_deepens}
use Rattle.js_parser_laws.proofs.Deep.Operators.{links_deepens, chain_deepens}
use Rattle.js_parser_laws.proofs.Deep.Names.{DeepTo, lift_first, to_then}

-- ---- an expression in parentheses

paren_source : (e : Expression) (z : Read (Unit {0})) (i : ℕ)
    → as_enclosed (with_paren e (paren_value z)) ≡ Err (deep i)
    → z ≡ Err (deep i)
paren_source e (Ok z) i q = absurd cc
paren_source e (Err (stuck k)) i q = absurd cc
paren_source e (Err (deep k)) i q = ap (λ (j : ℕ). Err (deep j)) (deep_is {A = Expression} k i q)

enclosed_source : (x : Read Expression) (i : ℕ)
    → as_enclosed (x >>= λ y. with_paren y.0 (paren_value (expect kinds.RightParenthesis y.1))) ≡ Err (deep i)
    → x ≡ Err (deep i)
enclosed_source (Ok y) i q =
    absurd (expect_quiet kinds.RightParenthesis y.1 i (paren_source y.0 (expect kinds.RightParenthesis y.1) i q))
enclosed_source (Err (stuck k)) i q = absurd cc
enclosed_source (Err (deep k)) i q = ap (λ (j : ℕ). Err (deep j)) (deep_is {A = Expression} k i q)

abbrev two_items : Below → Reader (PieceValues (an_expression ∷ paren_items))
two_items b ts = seq b (an_expression ∷ paren_items) ts

enclosed_deep : (b : Below) (ts : List Token) (i k : ℕ) → DeepTo b.expression ts i k → DeepTo (enclosed b) ts i k
enclosed_deep b ts i k d =
    lift_first (two_items b) (λ v r. Ok (trees.parenthesized v.0, r)) ts i k
    (lift_first b.expression (λ e r. with_paren e (seq b paren_items r)) ts i k d)

covered_deep : (b : Below) (n : ℕ)
    → Pair b b
    → Spans b
    → DeepBelow b
    → (ts : List Token)
    → listed_by (past_names true ts) ≡ no_arrow
    → (i : ℕ)
    → (b.expression ts ≡ Err (deep i) → DeepTo b.expression ts i (length (scan_end true ts)))
    → covered b n ts ≡ Err (deep i)
    → DeepTo (covered b n) ts i (length (scan_end true ts))
covered_deep b n p s d ts q i h e =
    let k : ℕ = length (scan_end true ts) in
    let same : n ≤ n = omega arith in
    let one : Reader Expression = λ ts. enclosed b ts >>= λ x. links b n (suc n) x.0 x.1 in
    let two : Reader Expression = λ ts. one ts >>= λ x. updated_by n x.0 (update_near (head_of x.1)) x.1 in
    let three : Reader Expression = λ ts. two ts >>= λ x. chain b n 3 (suc n) x.0 x.1 in
    let f0 : Follows (enclosed b) (enclosed b) = made_follows b b p (an_expression ∷ paren_items)
    (λ v. trees.parenthesized v.0) in
    let f1 : Follows one one = binds (enclosed b) (enclosed b) (λ f ts. links b n (suc n) f ts)
    (λ f ts. links b n (suc n) f ts) f0 (λ f. links_follows b b n n same p (suc n) (suc n) (omega arith) f) in
    let f2 : Follows two two = binds one one (λ f ts. updated_by n f (update_near (head_of ts)) ts)
    (λ f ts. updated_by n f (update_near (head_of ts)) ts) f1 (updated_follows n n same) in
    let f3 : Follows three three = binds two two (λ f ts. chain b n 3 (suc n) f ts) (λ f ts. chain b n 3 (suc n) f ts)
    f2 (λ f. chain_follows b b n n same p 3 (suc n) (suc n) (omega arith) f) in
    let w0 : Within (enclosed b ts) k = enclosed_by (b.expression ts) k (s.closes ts q) in
    let w1 : Within (one ts) k = within_then (enclosed b ts) (λ f r. links b n (suc n) f r)
    (λ f r. links b n (suc n) f r) k w0 (λ f. links_follows b b n n same p (suc n) (suc n) (omega arith) f) in
    let w2 : Within (two ts) k = within_then (one ts) (λ f r. updated_by n f (update_near (head_of r)) r)
    (λ f r. updated_by n f (update_near (head_of r)) r) k w1 (updated_follows n n same) in
    let w3 : Within (three ts) k = within_then (two ts) (λ f r. chain b n 3 (suc n) f r)
    (λ f r. chain b n 3 (suc n) f r) k w2 (λ f. chain_follows b b n n same p 3 (suc n) (suc n) (omega arith) f) in
    to_then three (λ f ts. joined b n f ts) f3 (λ j f. joined_deepens b n p d j f) ts i k w3
    (to_then two (λ f ts. chain b n 3 (suc n) f ts) f2
    (λ j f. chain_deepens b n 3 p d j n f (omega (arith, height_positive f))) ts i k w2
    (to_then one (λ f ts. updated_by n f (update_near (head_of ts)) ts) f1 (λ j f. updated_deepens n j f) ts i k w1
    (to_then (enclosed b) (λ f ts. links b n (suc n) f ts) f0
    (λ j f. links_deepens b n p d j n f (omega (arith, height_positive f))) ts i k w0
    (λ z. enclosed_deep b ts i k (h (enclosed_source (b.expression ts) i z)))))) e

-- no arrow stands behind the parentheses, whatever follows what is too deep
open_deep : (b : Below) (n : ℕ) (ts : List Token)
    → listed_by (past_names true ts) ≡ no_arrow
    → (i : ℕ)
    → DeepTo (covered b n) ts i (length (scan_end true ts))
    → DeepAt (paren_at b n) ts i
open_deep b n ts q i c =
    let d = c.deep_at in
    record {
      before = d.before;
      here = d.here;
      left = d.left;
      parts = d.parts;
      counted = d.counted;
      never = λ r x o.
          let near : suc (length d.left) ≤ length (scan_end true (d.before ++ (d.here ∷ d.left))) = subst
          (λ (l : List Token). suc (length d.left) ≤ length (scan_end true l)) d.parts c.near in
          let h : listed_by (past_names true (d.before ++ (d.here ∷ r))) ≡ no_arrow = stable true d.before
          (d.here ∷ d.left) (d.here ∷ r) near refl
          ∙ ap (λ (l : List Token). listed_by (past_names true l)) (sym d.parts)
          ∙ q in
          d.never r x (ap (λ (v : ArrowStart). paren_form b n v (d.before ++ (d.here ∷ r))) (sym h) ∙ o);
    }

-- ---- parameters

-- the parameters are read, and what follows them is too deep
listed_deep : (b : Below) (n : ℕ)
    → Pair b b
    → DeepBelow b
    → (ts : List Token) (w : Bool) (rest : List Token) (c : Closed true ts w rest)
    → listed_by (Some (w, rest)) ≡ listed w
    → (i : ℕ) (v : Bool)
    → are_fresh [] c.names ≡ v
    → cond v (arrow_rest b (trees.name_list c.names) c.names rest)
    (cond w (Err (stuck (suc (length rest)))) (Err (stuck (length rest)))) ≡ Err (deep i)
    → DeepAt (paren_at b n) ts i
listed_deep b n p d ts true rest c h i false f e = absurd cc
listed_deep b n p d ts false rest c h i false f e = absurd cc
listed_deep b n p d ts w rest c h i true f e =
    let a = (arrow_rest_deepens b p d (length rest) (trees.name_list c.names) c.names).at rest (omega arith) i e in
    record {
      before = c.front ++ (c.last ∷ a.before);
      here = a.here;
      left = a.left;
      parts =
          c.parts
          ∙ ap (λ (l : List Token). c.front ++ (c.last ∷ l)) a.parts
          ∙ sym (append_assoc c.front (c.last ∷ a.before) (a.here ∷ a.left));
      counted = a.counted;
      never = λ r x o.
          let us : List Token = a.before ++ (a.here ∷ r) in
          let same : head_of us ≡ head_of rest = head_past a.before (a.here ∷ r) (a.here ∷ a.left) refl
          ∙ ap (λ (l : List Token). head_of l) (sym a.parts) in
          let is : paren_at b n ((c.front ++ (c.last ∷ a.before)) ++ (a.here ∷ r)) ≡ arrow_of_names b w c.names us =
          ap (λ (l : List Token). paren_at b n l) (append_assoc c.front (c.last ∷ a.before) (a.here ∷ r))
          ∙ listed_is b n ts w rest us c (listed_alike w us rest same h) in
          a.never r x
          (sym (is
          ∙ ap (λ (v : Bool). cond v (arrow_rest b (trees.name_list c.names) c.names us)
          (cond w (Err (stuck (suc (length us)))) (Err (stuck (length us)))))
          f)
          ∙ o);
    }

listed_at : (b : Below) (n : ℕ)
    → Pair b b
    → DeepBelow b
    → (ts : List Token) (w : Bool) (rest : List Token)
    → past_names true ts ≡ Some (w, rest)
    → listed_by (Some (w, rest)) ≡ listed w
    → (i : ℕ)
    → paren_at b n ts ≡ Err (deep i)
    → DeepAt (paren_at b n) ts i
listed_at b n p d ts w rest q h i e =
    let c : Closed true ts w rest = closed true ts w rest q in
    let is : paren_at b n ts ≡ arrow_of_names b w c.names rest = ap (λ (l : List Token). paren_at b n l) c.parts
    ∙ listed_is b n ts w rest rest c h in
    listed_deep b n p d ts w rest c h i (are_fresh [] c.names) refl (sym is ∙ e)

open_at : (b : Below) (n : ℕ)
    → Pair b b
    → Spans b
    → DeepBelow b
    → (ts : List Token) (i : ℕ)
    → (b.expression ts ≡ Err (deep i) → DeepTo b.expression ts i (length (scan_end true ts)))
    → listed_by (past_names true ts) ≡ no_arrow
    → paren_at b n ts ≡ Err (deep i)
    → DeepAt (paren_at b n) ts i
open_at b n p s d ts i h q e =
    open_deep b n ts q i (covered_deep b n p s d ts q i h (sym (ap (λ (v : ArrowStart). paren_form b n v ts) q) ∙ e))

paren_by : (b : Below) (n : ℕ)
    → Pair b b
    → Spans b
    → DeepBelow b
    → (ts : List Token) (i : ℕ)
    → (listed_by (past_names true ts) ≡ no_arrow
    → b.expression ts ≡ Err (deep i)
    → DeepTo b.expression ts i (length (scan_end true ts)))
    → (o : Option (Bool × List Token))
    → past_names true ts ≡ o
    → paren_at b n ts ≡ Err (deep i)
    → DeepAt (paren_at b n) ts i
paren_by b n p s d ts i h None q e =
    let c : listed_by (past_names true ts) ≡ no_arrow = ap (λ (o : Option (Bool × List Token)). listed_by o) q in
    open_at b n p s d ts i (h c) c e
paren_by b n p s d ts i h (Some (true, rest)) q e = listed_at b n p d ts true rest q refl i e
paren_by b n p s d ts i h (Some (false, rest)) q e = by_arrow (is_arrow (head_of rest)) refl
  where
    by_arrow : (v : Bool) → is_arrow (head_of rest) ≡ v → DeepAt (paren_at b n) ts i
    by_arrow true a = listed_at b n p d ts false rest q (ap (λ (v : Bool). cond v (listed false) no_arrow) a) i e
    by_arrow false a =
        let c : listed_by (past_names true ts) ≡ no_arrow = ap (λ (o : Option (Bool × List Token)). listed_by o) q
        ∙ ap (λ (v : Bool). cond v (listed false) no_arrow) a in
        open_at b n p s d ts i (h c) c e

-- What stands behind a parenthesis keeps it, where an expression there is too deep behind the names only.
pub paren_deepens : (b : Below) (n : ℕ)
    → Pair b b
    → Spans b
    → DeepBelow b
    → ((ts : List Token)
    → listed_by (past_names true ts) ≡ no_arrow
    → (i : ℕ)
    → b.expression ts ≡ Err (deep i)
    → DeepTo b.expression ts i (length (scan_end true ts)))
    → (k : ℕ)
    → Deepens k (paren_at b n)
paren_deepens b n p s d h k =
    record { at = λ ts l i e. paren_by b n p s d ts i (λ c z. h ts c i z) (past_names true ts) refl e }
