-- Members and calls, and operations, go on one at a time.
use Rattle.std.proofs.Common.{◌≡◌, ℕ, zero, suc, ◌-◌, ◌<◌, ◌≤◌, false, List, length, Some, Ok, Err, refl, ap, ◌∙◌, arith}
use Rattle.std.specs.Prelude.{nat_le}
use Rattle.std.proofs.lemmas.Bool.{le-leb}
use Rattle.js_tree_operators.specs.declared.operator.BinaryOperator.{BinaryOperator}
use Rattle.js_tree.specs.Trees as trees
use Rattle.js_tree.specs.Trees.{Expression}
use Rattle.js_parser_language.specs.Well.{strength}
use Rattle.js_parser_language.specs.Tokens.{Token, head_of, tail_of}
use Rattle.js_tree.specs.Height.{height}
use Rattle.js_parser_readers.specs.declared.classes.expressions.CallTail.{CallTail}
use Rattle.js_parser_readers.specs.declared.classes.expressions.CallTail.TheVariants as code
use Rattle.js_parser_readers.specs.Classes as classes
use Rattle.js_parser_readers.specs.Classes.{operator}
use Rattle.js_parser_readers.specs.Heads.{link_view}
use Rattle.js_parser_readers.specs.Reading.{deep, Reader, ◌>>=◌}
use Rattle.js_parser_readers.specs.Productions.{Below}
use Rattle.js_parser_readers.specs.Parsing.{if_low, linked_by, links_by, links, operator_from, chain}

goes_on : (b : Below) (n : ℕ) (go : Expression → Reader Expression) (e : Expression) (l : CallTail) (ts : List Token)
    → links_by b n go e (link_view (Some l)) ts ≡ if_low (height e) n ts
    (linked_by b e (link_view (Some l)) ts >>= λ x. go x.0 x.1)
goes_on b n go e code.Dot ts = refl
goes_on b n go e code.Key ts = refl
goes_on b n go e code.Arguments ts = refl

high : (m n : ℕ) → n < m → nat_le m n ≡ false
high m n h = grind arith

-- too high for a node above
pub links_deep : (b : Below) (n turns : ℕ) (e : Expression) (l : CallTail) (ts : List Token)
    → link_view (Some l) ≡ classes.link (head_of ts)
    → n < height e
    → 0 < turns
    → links b n turns e ts ≡ Err (deep (length (tail_of ts)))
unfolding links
links_deep b n zero e l ts is h k = absurd (omega arith)
links_deep b n (suc turns) e l ts is h k =
    rw (← is) (goes_on b n (λ f r. links b n turns f r) e l ts ∙ rw (high (height e) n h) refl)

-- one more
pub links_more : (b : Below) (n turns : ℕ) (e t : Expression) (l : CallTail) (ts r : List Token)
    → link_view (Some l) ≡ classes.link (head_of ts)
    → height e ≤ n
    → linked_by b e (link_view (Some l)) ts ≡ Ok (t, r)
    → 0 < turns
    → links b n turns e ts ≡ links b n (turns - 1) t r
unfolding links
links_more b n zero e t l ts r is h o k = absurd (omega arith)
links_more b n (suc turns) e t l ts r is h o k =
    rw (← is)
    (goes_on b n (λ f r. links b n turns f r) e l ts
    ∙ rw (le-leb (height e) n h, o) (ap (λ k. links b n k t r) (omega arith)))

-- an operand too high for an operation
pub chain_deep : (b : Below) (n m turns : ℕ) (e : Expression) (o : BinaryOperator) (ts : List Token)
    → Some o ≡ operator_from m (operator (head_of ts))
    → n < height e
    → 0 < turns
    → chain b n m turns e ts ≡ Err (deep (length (tail_of ts)))
unfolding chain
chain_deep b n m zero e o ts is h k = absurd (omega arith)
chain_deep b n m (suc turns) e o ts is h k = rw (← is) (rw (high (height e) n h) refl)

-- one operation more
pub chain_more : (b : Below) (n m turns : ℕ) (e f : Expression) (o : BinaryOperator) (ts r : List Token)
    → Some o ≡ operator_from m (operator (head_of ts))
    → height e ≤ n
    → b.operation (suc (strength o)) (tail_of ts) ≡ Ok (f, r)
    → 0 < turns
    → chain b n m turns e ts ≡ chain b n m (turns - 1) (trees.binary o e f) r
unfolding chain
chain_more b n m zero e f o ts r is h a k = absurd (omega arith)
chain_more b n m (suc turns) e f o ts r is h a k =
    rw (← is) (rw (le-leb (height e) n h, a) (ap (λ k. chain b n m k (trees.binary o e f) r) (omega arith)))
