-- Where a tree would be too deep, the tokens through the one that shows it are read by nothing: one step up, for all
-- that reads.
use Rattle.std.proofs.Common.{ℕ, suc, ◌≤◌, true, false, [], ◌∷◌, arith}
use Rattle.js_tree.specs.Trees as trees
use Rattle.js_tree.specs.Trees.{Identifier, Expression}
use Rattle.js_parser_language.specs.Tokens.{head_of}
use Rattle.js_parser_readers.specs.Reading.{Reader, ◌>>=◌}
use Rattle.js_parser_readers.specs.Classes as classes
use Rattle.js_parser_readers.specs.Classes.{PrimaryStart, start, update_near, is_arrow}
use Rattle.js_parser_readers.specs.Productions.{Below}
use Rattle.js_parser_readers.specs.Parsing.{links, updated_by, chain, operation, joined, assignment}
use Rattle.js_parser_laws.proofs.Again.Level.{height_positive}
use Rattle.js_parser_laws.proofs.Follows.Tools.{Follows, binds}
use Rattle.js_parser_laws.proofs.Follows.Parts.{FollowsBelow, Pair}
use Rattle.js_parser_laws.proofs.Follows.Expressions.{links_follows, updated_follows, chain_follows, operation_follows}
use Rattle.js_parser_laws.proofs.Follows.Assignments.{behind, named_form, paren_at, plain_form, assignment_form, assignment_is}
use Rattle.js_parser_laws.proofs.Deep.Tools.{Deepens, deep_past, deep_peeks_all, deep_then, deep_as}
use Rattle.js_parser_laws.proofs.Deep.Parts.{DeepBelow, braces_deepens, code_deepens}
use Rattle.js_parser_laws.proofs.Deep.Expressions.{updated_deepens, joined_deepens, arrow_rest_deepens}
use Rattle.js_parser_laws.proofs.Deep.Operators.{links_deepens, call_deepens, unary_deepens, chain_deepens, operation_deepens, expression_deepens}
use Rattle.js_parser_laws.proofs.Deep.Statements.{statement_deepens, list_item_deepens}
use Rattle.js_parser_laws.proofs.Locality.{step}

-- ---- assignments that begin with no parenthesis

pub behind_deepens : (b : Below) (m : ℕ)
    → Pair b b
    → DeepBelow b
    → (n : ℕ) (e : Expression)
    → Deepens n (λ ts. behind b m e ts)
behind_deepens b m p d n e =
    let same : m ≤ m = omega arith in
    let one : Reader Expression = λ ts. links b m (suc m) e ts in
    let two : Reader Expression = λ ts. one ts >>= λ x. updated_by m x.0 (update_near (head_of x.1)) x.1 in
    let three : Reader Expression = λ ts. two ts >>= λ x. chain b m 3 (suc m) x.0 x.1 in
    let first : Follows one one = links_follows b b m m same p (suc m) (suc m) (omega arith) e in
    let second : Follows two two = binds one one (λ f ts. updated_by m f (update_near (head_of ts)) ts)
    (λ f ts. updated_by m f (update_near (head_of ts)) ts) first (updated_follows m m same) in
    let third : Follows three three = binds two two (λ f ts. chain b m 3 (suc m) f ts)
    (λ f ts. chain b m 3 (suc m) f ts) second (λ f. chain_follows b b m m same p 3 (suc m) (suc m) (omega arith) f)
    in
    deep_then n three (λ f ts. joined b m f ts) third
    (deep_then n two (λ f ts. chain b m 3 (suc m) f ts) second
    (deep_then n one (λ f ts. updated_by m f (update_near (head_of ts)) ts) first
    (links_deepens b m p d n m e (omega (arith, height_positive e))) (λ f. updated_deepens m n f))
    (λ f. chain_deepens b m 3 p d n m f (omega (arith, height_positive f))))
    (λ f. joined_deepens b m p d n f)

pub named_deepens : (b : Below) (m : ℕ)
    → Pair b b
    → DeepBelow b
    → (n : ℕ) (s : Identifier)
    → Deepens n (λ ts. named_form b m s (is_arrow (head_of ts)) ts)
named_deepens b m p d n s = deep_peeks_all n is_arrow (λ v ts. named_form b m s v ts) (elim [
  | true ↦ arrow_rest_deepens b p d n (trees.one_name s) (s ∷ [])
  | false ↦ behind_deepens b m p d n (trees.name s)
])

plain_deepens : (b : Below) (m : ℕ) → Pair b b → DeepBelow b → (n : ℕ) → Deepens n (λ ts. plain_form b m ts)
plain_deepens b m p d n =
    deep_then n (λ ts. operation b m 3 ts) (λ e ts. joined b m e ts) (operation_follows b b m m (omega arith) p 3)
    (operation_deepens b m p d n 3) (joined_deepens b m p d n)

form_deepens : (b : Below) (m : ℕ)
    → Pair b b
    → DeepBelow b
    → (n : ℕ)
    → Deepens n (paren_at b m)
    → (v : PrimaryStart)
    → Deepens n (λ ts. assignment_form b m v ts)
form_deepens b m p d n h (classes.a_name s) =
    deep_past n (λ ts. named_form b m s (is_arrow (head_of ts)) ts) (named_deepens b m p d n s)
form_deepens b m p d n h classes.parenthesis = deep_past n (paren_at b m) h
form_deepens b m p d n h _ = plain_deepens b m p d n

-- an assignment keeps it where what stands behind a parenthesis does
pub assignment_deepens : (b : Below) (m : ℕ)
    → Pair b b
    → DeepBelow b
    → (n : ℕ)
    → Deepens n (paren_at b m)
    → Deepens n (λ ts. assignment b m ts)
assignment_deepens b m p d n h =
    deep_as n (λ ts. assignment_form b m (start (head_of ts)) ts) (λ ts. assignment b m ts) (assignment_is b m)
    (deep_peeks_all n start (λ v ts. assignment_form b m v ts) (form_deepens b m p d n h))

-- ---- one step up

-- What reads trees one higher keeps it, where what stands behind a parenthesis does.
pub one_more : (b : Below) (m : ℕ)
    → Pair b b
    → FollowsBelow (step b m) (step b m)
    → DeepBelow b
    → ((n : ℕ) → Deepens n (paren_at b m))
    → DeepBelow (step b m)
one_more b m p up d h = record {
  assignment = λ n. assignment_deepens b m p d n (h n);
  expression = λ n. expression_deepens b m p d n up.assignment (assignment_deepens b m p d n (h n));
  operation = λ n low. operation_deepens b m p d n low;
  unary = λ n. unary_deepens b m p d n;
  call = λ n. call_deepens b m p d n;
  statement = λ n context. statement_deepens b p d n context;
  item = λ n context taken. list_item_deepens b p d n context taken;
  block = λ n context taken. braces_deepens b p d n context taken;
  function = λ n. code_deepens b p d n;
}
