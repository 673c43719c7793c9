-- Answers depend on the tokens read: arrow functions, assignments and expressions, where what reads below them is so.
use Rattle.std.proofs.Common.{◌≡◌, ℕ, suc, ◌≤◌, Bool, true, false, cond, List, [], ◌∷◌, ◌++◌, length, Option, Some, None, Ok, Err, refl, sym, ap, subst, ◌∙◌, ◌⊎◌, inl, inr, append_assoc, arith}
use Rattle.std.specs.Prelude.{◌||◌, not, nat_le}
use Rattle.js_lexer.specs.declared.token.TokenKind.{TokenKind}
use Rattle.js_lexer.specs.declared.token.TokenKind.TheVariants as kinds
use Rattle.js_tree_operators.specs.declared.operator.UpdateOperator.{UpdateOperator}
use Rattle.js_tree.specs.Trees as trees
use Rattle.js_tree.specs.Trees.{Identifier, Expression, Expressions}
use Rattle.js_parser_language.specs.Tokens.{Token, fixed, head_of, tail_of, identifier, IsNext}
use Rattle.js_tree.specs.Height.{height}
use Rattle.js_tree.specs.Views.{expressions}
use Rattle.js_parser_language.specs.Kinds.{is_same_kind, is_kind}
use Rattle.js_parser_readers.specs.Reading.{stuck, deep, Read, Reader, ◌>>=◌, expect, others, no_state}
use Rattle.js_parser_readers.specs.Classes as classes
use Rattle.js_parser_readers.specs.Classes.{PrimaryStart, start_by, start, link_by, link, no_link, update_by, update_near, no_prefix, prefix, operator_by, operator, joint_by, joint, no_joint, is_arrow, past_names, ArrowStart, one_parameter, listed, no_arrow, listed_by, head_by}
use Rattle.js_parser_readers.specs.Productions.{Below, one_of, names_before, more_assignments, Piece, tok, an_expression, PieceValues, seq, made}
use Rattle.js_parser_readers.specs.Parsing.{primary, links, call, updated_by, postfix, unary, chain, operation, arrow_rest, are_fresh, arrow_of_names, arrow_of_one, arrow_of_list, joined, assignment_by, assignment, comma_by, expression}
use Rattle.js_parser_language.proofs.KindLemmas.{kind_is}
use Rattle.js_parser_laws.proofs.TokenLemmas.{expect_again, name_again}
use Rattle.js_parser_laws.proofs.Follows.Tools.{Seen, FollowsAt, Follows, gives, past, peeks, binds, makes, low_enough, alike, head_past}
use Rattle.js_parser_laws.proofs.Follows.Parts.{Pair, more_assignments_follows, made_follows}
use Rattle.js_parser_laws.proofs.Follows.Expressions.{links_follows, updated_follows, chain_follows, operation_follows, joined_follows, arrow_rest_follows}
use Rattle.js_parser_laws.proofs.Follows.Arrows.{Within, not_longer, left_within, within_then, scan_end, stable, Closed, closed, ends_name, Names, closing, closing_makes, end_within, names_within, others_within}
use Rattle.js_parser_readers.proofs.ClassLemmas.{start_name}
use Rattle.std.proofs.lemmas.Bool.{and_right}

-- how what reads below goes over names in parentheses
pub record Spans (b : Below) : Type 0 where
  pub names : Names b.assignment
  pub closes : (ts : List Token)
      → listed_by (past_names true ts) ≡ no_arrow
      → Within (closing (b.expression ts)) (length (scan_end true ts))

-- ---- what goes on behind the first primary expression

abbrev pub behind : Below → ℕ → Expression → Reader Expression
behind b n e ts =
    ((links b n (suc n) e ts >>= λ x. updated_by n x.0 (update_near (head_of x.1)) x.1) >>= λ x. chain b n 3 (suc n)
    x.0 x.1)
    >>= λ x. joined b n x.0 x.1

pub behind_follows : (b c : Below) (n m : ℕ)
    → n ≤ m
    → Pair b c
    → (e : Expression)
    → Follows (λ ts. behind b n e ts) (λ ts. behind c m e ts)
behind_follows b c n m le p e =
    let one : Reader Expression = λ ts. links b n (suc n) e ts in
    let one' : Reader Expression = λ ts. links c m (suc m) e ts in
    let two : Reader Expression = λ ts. one ts >>= λ x. updated_by n x.0 (update_near (head_of x.1)) x.1 in
    let two' : Reader Expression = λ ts. one' ts >>= λ x. updated_by m x.0 (update_near (head_of x.1)) x.1 in
    let three : Reader Expression = λ ts. two ts >>= λ x. chain b n 3 (suc n) x.0 x.1 in
    let three' : Reader Expression = λ ts. two' ts >>= λ x. chain c m 3 (suc m) x.0 x.1 in
    binds three three' (λ f ts. joined b n f ts) (λ f ts. joined c m f ts)
    (binds two two' (λ f ts. chain b n 3 (suc n) f ts) (λ f ts. chain c m 3 (suc m) f ts)
    (binds one one' (λ f ts. updated_by n f (update_near (head_of ts)) ts)
    (λ f ts. updated_by m f (update_near (head_of ts)) ts)
    (links_follows b c n m le p (suc n) (suc m) (omega arith) e) (updated_follows n m le))
    (λ f. chain_follows b c n m le p 3 (suc n) (suc m) (omega arith) f))
    (joined_follows b c n m le p)

-- ---- names

-- behind a name: an arrow, or what goes on with an expression
abbrev pub named_form : Below → ℕ → Identifier → Bool → Reader Expression
named_form b n s true ts = arrow_rest b (trees.one_name s) (s ∷ []) ts
named_form b n s false ts = behind b n (trees.name s) ts

named_follows : (b c : Below) (n m : ℕ)
    → n ≤ m
    → Pair b c
    → (s : Identifier)
    → Follows (λ ts. named_form b n s (is_arrow (head_of ts)) ts) (λ ts. named_form c m s (is_arrow (head_of ts)) ts)
named_follows b c n m le p s = peeks is_arrow (λ v ts. named_form b n s v ts) (λ v ts. named_form c m s v ts) (elim [
  | true ↦ arrow_rest_follows b c p (trees.one_name s) (s ∷ [])
  | false ↦ behind_follows b c n m le p (trees.name s)
])

-- ---- parentheses

-- an expression and the parenthesis behind it
abbrev pub enclosed : Below → Reader Expression
enclosed b ts = made b (an_expression ∷ tok kinds.RightParenthesis ∷ []) (λ v. trees.parenthesized v.0) ts

abbrev pub covered : Below → ℕ → Reader Expression
covered b n ts =
    (((enclosed b ts >>= λ x. links b n (suc n) x.0 x.1) >>= λ x. updated_by n x.0 (update_near (head_of x.1)) x.1)
    >>= λ x. chain b n 3 (suc n) x.0 x.1)
    >>= λ x. joined b n x.0 x.1

covered_follows : (b c : Below) (n m : ℕ) → n ≤ m → Pair b c → Follows (λ ts. covered b n ts) (λ ts. covered c m ts)
covered_follows b c n m le p =
    let one : Reader Expression = λ ts. enclosed b ts >>= λ x. links b n (suc n) x.0 x.1 in
    let one' : Reader Expression = λ ts. enclosed c ts >>= λ x. links c m (suc m) x.0 x.1 in
    let two : Reader Expression = λ ts. one ts >>= λ x. updated_by n x.0 (update_near (head_of x.1)) x.1 in
    let two' : Reader Expression = λ ts. one' ts >>= λ x. updated_by m x.0 (update_near (head_of x.1)) x.1 in
    let three : Reader Expression = λ ts. two ts >>= λ x. chain b n 3 (suc n) x.0 x.1 in
    let three' : Reader Expression = λ ts. two' ts >>= λ x. chain c m 3 (suc m) x.0 x.1 in
    binds three three' (λ f ts. joined b n f ts) (λ f ts. joined c m f ts)
    (binds two two' (λ f ts. chain b n 3 (suc n) f ts) (λ f ts. chain c m 3 (suc m) f ts)
    (binds one one' (λ f ts. updated_by n f (update_near (head_of ts)) ts)
    (λ f ts. updated_by m f (update_near (head_of ts)) ts)
    (binds (λ ts. enclosed b ts) (λ ts. enclosed c ts) (λ f ts. links b n (suc n) f ts) (λ f ts. links c m (suc m) f ts)
    (made_follows b c p (an_expression ∷ tok kinds.RightParenthesis ∷ []) (λ v. trees.parenthesized v.0))
    (λ f. links_follows b c n m le p (suc n) (suc m) (omega arith) f))
    (updated_follows n m le))
    (λ f. chain_follows b c n m le p 3 (suc n) (suc m) (omega arith) f))
    (joined_follows b c n m le p)

abbrev pub paren_items : List Piece
paren_items = tok kinds.RightParenthesis ∷ []

abbrev pub paren_value : Read (Unit {0}) → Read (PieceValues paren_items)
paren_value z = z >>= λ x. Ok ((x.0, tt), x.1)

abbrev pub with_paren : Expression → Read (PieceValues paren_items) → Read (PieceValues (an_expression ∷ paren_items))
with_paren e z = z >>= λ x. Ok ((e, x.0), x.1)

abbrev pub as_enclosed : Read (PieceValues (an_expression ∷ paren_items)) → Read Expression
as_enclosed v = v >>= λ x. Ok (trees.parenthesized x.0.0, x.1)

paren_within : (e : Expression) (z : Read (Unit {0})) (k : ℕ)
    → Within z k
    → Within (as_enclosed (with_paren e (paren_value z))) k
paren_within e (Ok z) k w = w
paren_within e (Err z) k w = w

pub enclosed_by : (x : Read Expression) (k : ℕ)
    → Within (closing x) k
    → Within (as_enclosed (x >>= λ y. with_paren y.0 (paren_value (expect kinds.RightParenthesis y.1)))) k
enclosed_by (Ok y) k w = paren_within y.0 (expect kinds.RightParenthesis y.1) k w
enclosed_by (Err z) k w = w

-- what is read in parentheses goes through the names there
covered_within : (b : Below) (n : ℕ)
    → Pair b b
    → Spans b
    → (ts : List Token)
    → listed_by (past_names true ts) ≡ no_arrow
    → Within (covered b n ts) (length (scan_end true ts))
covered_within b n p s ts e =
    let k : ℕ = length (scan_end true ts) in
    let same : n ≤ n = omega arith in
    let zero : Within (enclosed b ts) k = enclosed_by (b.expression ts) k (s.closes ts e) in
    let one : Read Expression = enclosed b ts >>= λ x. links b n (suc n) x.0 x.1 in
    let first : Within one k = within_then (enclosed b ts) (λ f r. links b n (suc n) f r) (λ f r. links b n (suc n) f r)
    k zero (λ f. links_follows b b n n same p (suc n) (suc n) (omega arith) f) in
    let two : Read Expression = one >>= λ x. updated_by n x.0 (update_near (head_of x.1)) x.1 in
    let second : Within two k = within_then one (λ f r. updated_by n f (update_near (head_of r)) r)
    (λ f r. updated_by n f (update_near (head_of r)) r) k first (updated_follows n n same) in
    let three : Read Expression = two >>= λ x. chain b n 3 (suc n) x.0 x.1 in
    let third : Within three k = within_then two (λ f r. chain b n 3 (suc n) f r) (λ f r. chain b n 3 (suc n) f r)
    k second (λ f. chain_follows b b n n same p 3 (suc n) (suc n) (omega arith) f) in
    within_then three (λ f r. joined b n f r) (λ f r. joined b n f r) k third (joined_follows b b n n same p)

-- behind a parenthesis: parameters, or an expression
abbrev pub paren_form : Below → ℕ → ArrowStart → Reader Expression
paren_form b n one_parameter ts = Err (stuck (length ts))
paren_form b n (listed only) ts = names_before ts >>= λ ns. arrow_of_names b only ns.0 ns.1
paren_form b n no_arrow ts = covered b n ts

abbrev pub paren_at : Below → ℕ → Reader Expression
paren_at b n ts = paren_form b n (listed_by (past_names true ts)) ts

-- no arrow follows
open_at : (b c : Below) (n m : ℕ)
    → n ≤ m
    → Pair b c
    → Pair b b
    → Spans b
    → (ts : List Token)
    → listed_by (past_names true ts) ≡ no_arrow
    → FollowsAt (covered b n ts) (paren_at c m) ts
open_at b c n m le p own s ts e = λ clear.
    let seen = (covered_follows b c n m le p).at ts clear in
    let w : length seen.left ≤ length (scan_end true ts) = left_within (covered c m) ts (covered b n ts)
    (length (scan_end true ts)) clear (covered_within b n own s ts e) seen in
    record {
      pre = seen.pre;
      left = seen.left;
      parts = seen.parts;
      same = seen.same;
      again = λ r q.
          let h : listed_by (past_names true (seen.pre ++ r)) ≡ no_arrow =
          stable true seen.pre seen.left r
          (subst (λ (l : List Token). length seen.left ≤ length (scan_end true l)) seen.parts w) q
          ∙ ap (λ (l : List Token). listed_by (past_names true l)) (sym seen.parts)
          ∙ e in
          ap (λ (v : ArrowStart). paren_form c m v (seen.pre ++ r)) h ∙ seen.again r q;
    }

-- the parameters are read
names_read : (ts : List Token) (w : Bool) (rest r : List Token)
    → (c : Closed true ts w rest)
    → names_before (c.front ++ (c.last ∷ r)) ≡ Ok (c.names, r)
unfolding names_before
names_read ts w rest r c = c.read (suc (length (c.front ++ (c.last ∷ r)))) r (omega arith)

pub listed_is : (b : Below) (n : ℕ) (ts : List Token) (w : Bool) (rest r : List Token) (c : Closed true ts w rest)
    → listed_by (Some (w, r)) ≡ listed w
    → paren_at b n (c.front ++ (c.last ∷ r)) ≡ arrow_of_names b w c.names r
listed_is b n ts w rest r c h =
    ap (λ (v : ArrowStart). paren_form b n v (c.front ++ (c.last ∷ r)))
    (ap (λ (o : Option (Bool × List Token)). listed_by o) (c.looked r) ∙ h)
    ∙ ap (λ (x : Read (List Identifier)). x >>= λ ns. arrow_of_names b w ns.0 ns.1) (names_read ts w rest r c)

pub listed_alike : (w : Bool) (r rest : List Token)
    → head_of r ≡ head_of rest
    → listed_by (Some (w, rest)) ≡ listed w
    → listed_by (Some (w, r)) ≡ listed w
listed_alike true r rest h e = refl
listed_alike false r rest h e = ap (λ (o : Option Token). cond (is_arrow o) (listed false) no_arrow) h ∙ e

-- what follows the parameters is seen from the parenthesis on
listed_seen : (c : Below) (m : ℕ) (ts : List Token) (w : Bool) (rest : List Token) (d : Closed true ts w rest)
    → listed_by (Some (w, rest)) ≡ listed w
    → (x : Read Expression)
    → Seen (λ r. arrow_of_names c w d.names r) rest x
    → Seen (paren_at c m) ts x
listed_seen c m ts w rest d h x s = record {
  pre = d.front ++ (d.last ∷ s.pre);
  left = s.left;
  parts =
      d.parts
      ∙ ap (λ (l : List Token). d.front ++ (d.last ∷ l)) s.parts
      ∙ sym (append_assoc d.front (d.last ∷ s.pre) s.left);
  same = s.same;
  again = λ r q.
      ap (λ (l : List Token). paren_at c m l) (append_assoc d.front (d.last ∷ s.pre) r)
      ∙ listed_is c m ts w rest (s.pre ++ r) d
      (listed_alike w (s.pre ++ r) rest
      (head_past s.pre r s.left q ∙ ap (λ (l : List Token). head_of l) (sym s.parts)) h)
      ∙ s.again r q;
}

heads_are : (r : List Token) (t : Token) → head_of r ≡ Some t → r ≡ t ∷ tail_of r
heads_are [] t e = absurd cc
heads_are (x ∷ r) t e = let is : x ≡ t = cc in ap (λ (t : Token). t ∷ r) is

-- names that don't differ, where an arrow alone can follow
twice_seen : (c : Below) (m : ℕ) (ts rest : List Token) (d : Closed true ts true rest)
    → are_fresh [] d.names ≡ false
    → Seen {A = Expression} (paren_at c m) ts (Err (stuck (suc (length rest))))
twice_seen c m ts rest d f = record {
  pre = d.front;
  left = d.last ∷ rest;
  parts = d.parts;
  same = refl;
  again = λ r q.
      let is : r ≡ d.last ∷ tail_of r = heads_are r d.last q in
      ap (λ (l : List Token). paren_at c m (d.front ++ l)) is ∙ listed_is c m ts true rest (tail_of r) d refl
      ∙ ap (λ (v : Bool). cond v (arrow_rest c (trees.name_list d.names) d.names (tail_of r))
      (Err (stuck (suc (length (tail_of r))))))
      f
      ∙ ap (λ (l : List Token). Err (stuck (length l))) (sym is);
}

-- an arrow follows, or must follow
names_at : (b c : Below) (m : ℕ)
    → Pair b c
    → (ts : List Token) (w : Bool) (rest : List Token) (d : Closed true ts w rest)
    → listed_by (Some (w, rest)) ≡ listed w
    → (v : Bool)
    → are_fresh [] d.names ≡ v
    → FollowsAt
    (cond v (arrow_rest b (trees.name_list d.names) d.names rest)
    (cond w (Err (stuck (suc (length rest)))) (Err (stuck (length rest)))))
    (paren_at c m) ts
names_at b c m p ts w rest d h true f = λ clear.
    let s = (arrow_rest_follows b c p (trees.name_list d.names) d.names).at rest clear in
    listed_seen c m ts w rest d h (arrow_rest b (trees.name_list d.names) d.names rest) (record {
      pre = s.pre;
      left = s.left;
      parts = s.parts;
      same = s.same;
      again =
          λ r q. ap
          (λ (v : Bool). cond v (arrow_rest c (trees.name_list d.names) d.names (s.pre ++ r))
          (cond w (Err (stuck (suc (length (s.pre ++ r))))) (Err (stuck (length (s.pre ++ r))))))
          f
          ∙ s.again r q;
    })
names_at b c m p ts true rest d h false f = λ clear. twice_seen c m ts rest d f
names_at b c m p ts false rest d h false f = λ clear.
    listed_seen c m ts false rest d h (Err (stuck (length rest))) (record {
      pre = [];
      left = rest;
      parts = refl;
      same = refl;
      again =
          λ r q. ap (λ (v : Bool). cond v (arrow_rest c (trees.name_list d.names) d.names r) (Err (stuck (length r))))
          f;
    })

listed_at : (b c : Below) (n m : ℕ)
    → Pair b c
    → (ts : List Token) (w : Bool) (rest : List Token)
    → past_names true ts ≡ Some (w, rest)
    → listed_by (Some (w, rest)) ≡ listed w
    → FollowsAt (paren_at b n ts) (paren_at c m) ts
listed_at b c n m p ts w rest e h =
    let d : Closed true ts w rest = closed true ts w rest e in
    subst (λ (x : Read Expression). FollowsAt x (paren_at c m) ts)
    (sym (ap (λ (l : List Token). paren_at b n l) d.parts ∙ listed_is b n ts w rest rest d h))
    (names_at b c m p ts w rest d h (are_fresh [] d.names) refl)

paren_by : (b c : Below) (n m : ℕ)
    → n ≤ m
    → Pair b c
    → Pair b b
    → Spans b
    → (ts : List Token) (o : Option (Bool × List Token))
    → past_names true ts ≡ o
    → FollowsAt (paren_at b n ts) (paren_at c m) ts
paren_by b c n m le p own s ts None e = plain (ap (λ (o : Option (Bool × List Token)). listed_by o) e)
  where
    plain : listed_by (past_names true ts) ≡ no_arrow → FollowsAt (paren_at b n ts) (paren_at c m) ts
    plain h =
        subst (λ (x : Read Expression). FollowsAt x (paren_at c m) ts) (ap (λ (v : ArrowStart). paren_form b n v ts) (sym h))
        (open_at b c n m le p own s ts h)
paren_by b c n m le p own s ts (Some (true, rest)) e = listed_at b c n m p ts true rest e refl
paren_by b c n m le p own s ts (Some (false, rest)) e = by_arrow (is_arrow (head_of rest)) refl
  where
    plain : listed_by (past_names true ts) ≡ no_arrow → FollowsAt (paren_at b n ts) (paren_at c m) ts
    plain h =
        subst (λ (x : Read Expression). FollowsAt x (paren_at c m) ts) (ap (λ (v : ArrowStart). paren_form b n v ts) (sym h))
        (open_at b c n m le p own s ts h)

    by_arrow : (v : Bool) → is_arrow (head_of rest) ≡ v → FollowsAt (paren_at b n ts) (paren_at c m) ts
    by_arrow true a = listed_at b c n m p ts false rest e (ap (λ (v : Bool). cond v (listed false) no_arrow) a)
    by_arrow false a =
        plain (ap (λ (o : Option (Bool × List Token)). listed_by o) e
        ∙ ap (λ (v : Bool). cond v (listed false) no_arrow) a)

paren_follows : (b c : Below) (n m : ℕ) → n ≤ m → Pair b c → Pair b b → Spans b → Follows (paren_at b n) (paren_at c m)
paren_follows b c n m le p own s = record { at = λ ts. paren_by b c n m le p own s ts (past_names true ts) refl }

-- ---- assignments

abbrev pub plain_form : Below → ℕ → Reader Expression
plain_form b n ts = operation b n 3 ts >>= λ x. joined b n x.0 x.1

-- an assignment with its first token looked at before the others
abbrev pub assignment_form : Below → ℕ → PrimaryStart → Reader Expression
assignment_form b n (classes.a_name s) ts = named_form b n s (is_arrow (head_of (tail_of ts))) (tail_of ts)
assignment_form b n classes.parenthesis ts = paren_at b n (tail_of ts)
assignment_form b n _ ts = plain_form b n ts

prefix_of_name : (s : List ℕ) (o : Option Token) → IsNext (identifier s) o → prefix o ≡ no_prefix
prefix_of_name s None m = absurd m
prefix_of_name s (Some t) m = rw m.0 refl

plain_of_name : (b : Below) (n : ℕ) (s : List ℕ) (ts : List Token)
    → start (head_of ts) ≡ classes.a_name s
    → plain_form b n ts ≡ behind b n (trees.name s) (tail_of ts)
unfolding operation unary postfix call primary
plain_of_name b n s ts e = rw (prefix_of_name s (head_of ts) (start_name s (head_of ts) e), e) refl

one_of_name : (b : Below) (n : ℕ) (s : List ℕ) (ts : List Token)
    → start (head_of ts) ≡ classes.a_name s
    → arrow_of_one b ts ≡ arrow_rest b (trees.one_name s) (s ∷ []) (tail_of ts)
unfolding arrow_of_one
one_of_name b n s ts e = rw (name_again s ts (tail_of ts) (start_name s (head_of ts) e, refl)) refl

pub named_is : (b : Below) (n : ℕ) (s : List ℕ) (ts : List Token)
    → start (head_of ts) ≡ classes.a_name s
    → (v : Bool)
    → assignment_by b n (cond v one_parameter no_arrow) ts ≡ named_form b n s v (tail_of ts)
named_is b n s ts e true = one_of_name b n s ts e
named_is b n s ts e false = plain_of_name b n s ts e

pub paren_kind : (k : TokenKind) (s : List ℕ) (v : ℕ) → start_by k s v ≡ classes.parenthesis → k ≡ kinds.LeftParenthesis
paren_kind kinds.LeftParenthesis s v e = refl
paren_kind _ s v e = absurd cc

pub start_paren : (o : Option Token) → start o ≡ classes.parenthesis → IsNext (fixed kinds.LeftParenthesis) o
start_paren None e = absurd cc
start_paren (Some t) e = paren_kind t.kind t.string_value t.numeric_value e

prefix_of_paren : (o : Option Token) → IsNext (fixed kinds.LeftParenthesis) o → prefix o ≡ no_prefix
prefix_of_paren None m = absurd m
prefix_of_paren (Some t) m = rw m refl

abbrev behind_paren : Read (PieceValues (an_expression ∷ paren_items))
    → Read (PieceValues (tok kinds.LeftParenthesis ∷ an_expression ∷ paren_items))
behind_paren v = v >>= λ x. Ok ((tt, x.0), x.1)

abbrev whole_paren : Read (PieceValues (an_expression ∷ paren_items)) → Read Expression
whole_paren v = behind_paren v >>= λ x. Ok (trees.parenthesized x.0.1.0, x.1)

whole_is : (v : Read (PieceValues (an_expression ∷ paren_items))) → whole_paren v ≡ as_enclosed v
whole_is (Ok x) = refl
whole_is (Err z) = refl

primary_of_paren : (b : Below) (n : ℕ) (ts : List Token)
    → start (head_of ts) ≡ classes.parenthesis
    → primary b n ts ≡ enclosed b (tail_of ts)
unfolding primary
primary_of_paren b n ts e =
    rw (e, expect_again kinds.LeftParenthesis ts (tail_of ts) (start_paren (head_of ts) e, refl))
    (whole_is (seq b (an_expression ∷ paren_items) (tail_of ts)))

plain_of_paren : (b : Below) (n : ℕ) (ts : List Token)
    → start (head_of ts) ≡ classes.parenthesis
    → plain_form b n ts ≡ covered b n (tail_of ts)
unfolding operation unary postfix call
plain_of_paren b n ts e = rw (prefix_of_paren (head_of ts) (start_paren (head_of ts) e), primary_of_paren b n ts e) refl

list_of_paren : (b : Below) (n : ℕ) (only : Bool) (ts : List Token)
    → start (head_of ts) ≡ classes.parenthesis
    → arrow_of_list b only ts ≡ paren_form b n (listed only) (tail_of ts)
unfolding arrow_of_list
list_of_paren b n only ts e =
    rw (expect_again kinds.LeftParenthesis ts (tail_of ts) (start_paren (head_of ts) e, refl)) refl

-- where names stand in parentheses, no single name does
pub no_one : (o : Option (Bool × List Token)) → listed_by o ≡ one_parameter → ⊥
no_one None e = absurd cc
no_one (Some (true, r)) e = absurd cc
no_one (Some (false, r)) e = by_arrow (is_arrow (head_of r)) e
  where
    by_arrow : (v : Bool) → cond v (listed false) no_arrow ≡ one_parameter → ⊥
    by_arrow true e = absurd cc
    by_arrow false e = absurd cc

paren_is : (b : Below) (n : ℕ) (ts : List Token)
    → start (head_of ts) ≡ classes.parenthesis
    → (v : ArrowStart)
    → listed_by (past_names true (tail_of ts)) ≡ v
    → assignment_by b n v ts ≡ paren_form b n v (tail_of ts)
paren_is b n ts e one_parameter h = absurd (no_one (past_names true (tail_of ts)) h)
paren_is b n ts e (listed only) h = list_of_paren b n only ts e
paren_is b n ts e no_arrow h = plain_of_paren b n ts e

assignment_is_by : (b : Below) (n : ℕ) (ts : List Token) (v : PrimaryStart)
    → start (head_of ts) ≡ v
    → assignment_by b n (head_by v (tail_of ts)) ts ≡ assignment_form b n v ts
assignment_is_by b n ts (classes.a_name s) e = named_is b n s ts e (is_arrow (head_of (tail_of ts)))
assignment_is_by b n ts classes.parenthesis e = paren_is b n ts e (listed_by (past_names true (tail_of ts))) refl
assignment_is_by b n ts _ e = refl

pub assignment_is : (b : Below) (n : ℕ) (ts : List Token)
    → assignment b n ts ≡ assignment_form b n (start (head_of ts)) ts
unfolding assignment
assignment_is b n ts = assignment_is_by b n ts (start (head_of ts)) refl

plain_follows : (b c : Below) (n m : ℕ) → n ≤ m → Pair b c → Follows (λ ts. plain_form b n ts) (λ ts. plain_form c m ts)
plain_follows b c n m le p =
    binds (λ ts. operation b n 3 ts) (λ ts. operation c m 3 ts) (λ e ts. joined b n e ts) (λ e ts. joined c m e ts)
    (operation_follows b c n m le p 3) (joined_follows b c n m le p)

form_follows : (b c : Below) (n m : ℕ)
    → n ≤ m
    → Pair b c
    → Pair b b
    → Spans b
    → (v : PrimaryStart)
    → Follows (λ ts. assignment_form b n v ts) (λ ts. assignment_form c m v ts)
form_follows b c n m le p own s (classes.a_name x) =
    past (λ ts. named_form b n x (is_arrow (head_of ts)) ts) (λ ts. named_form c m x (is_arrow (head_of ts)) ts)
    (named_follows b c n m le p x)
form_follows b c n m le p own s classes.parenthesis =
    past (paren_at b n) (paren_at c m) (paren_follows b c n m le p own s)
form_follows b c n m le p own s _ = plain_follows b c n m le p

pub assignment_follows : (b c : Below) (n m : ℕ)
    → n ≤ m
    → Pair b c
    → Pair b b
    → Spans b
    → Follows (λ ts. assignment b n ts) (λ ts. assignment c m ts)
assignment_follows b c n m le p own s =
    alike (λ ts. assignment_form b n (start (head_of ts)) ts) (λ ts. assignment b n ts)
    (λ ts. assignment_form c m (start (head_of ts)) ts) (λ ts. assignment c m ts) (assignment_is b n)
    (assignment_is c m)
    (peeks start (λ v ts. assignment_form b n v ts) (λ v ts. assignment_form c m v ts)
    (form_follows b c n m le p own s))

-- ---- expressions

comma_by_follows : (b c : Below) (n m : ℕ)
    → n ≤ m
    → Pair b c
    → (e : Expression) (v : Bool)
    → Follows (λ ts. comma_by b n e v ts) (λ ts. comma_by c m e v ts)
comma_by_follows b c n m le p e false = gives e
comma_by_follows b c n m le p e true =
    low_enough (height e) n m (λ ts. more_assignments b ts >>= λ x. Ok (trees.comma (trees.an_expression e x.0), x.1))
    (λ ts. more_assignments c ts >>= λ x. Ok (trees.comma (trees.an_expression e x.0), x.1)) le
    (makes (λ ts. more_assignments b ts) (λ ts. more_assignments c ts) (λ es. trees.comma (trees.an_expression e es))
    (more_assignments_follows b c p))

pub comma_follows : (b c : Below) (n m : ℕ)
    → n ≤ m
    → Pair b c
    → (e : Expression)
    → Follows (λ ts. comma_by b n e (is_kind kinds.Comma (head_of ts)) ts)
    (λ ts. comma_by c m e (is_kind kinds.Comma (head_of ts)) ts)
comma_follows b c n m le p e =
    peeks (λ o. is_kind kinds.Comma o) (λ v ts. comma_by b n e v ts) (λ v ts. comma_by c m e v ts)
    (comma_by_follows b c n m le p e)

pub expression_follows : (b c : Below) (n m : ℕ)
    → n ≤ m
    → Pair b c
    → Pair b b
    → Spans b
    → Follows (λ ts. expression b n ts) (λ ts. expression c m ts)
unfolding expression
expression_follows b c n m le p own s =
    binds (λ ts. assignment b n ts) (λ ts. assignment c m ts)
    (λ e ts. comma_by b n e (is_kind kinds.Comma (head_of ts)) ts)
    (λ e ts. comma_by c m e (is_kind kinds.Comma (head_of ts)) ts) (assignment_follows b c n m le p own s)
    (comma_follows b c n m le p)

-- ---- how names are gone over

ended_kind : (t : Token) → ends_name (Some t) ≡ true → (t.kind ≡ kinds.Comma) ⊎ (t.kind ≡ kinds.RightParenthesis)
ended_kind t e = by_test (is_kind kinds.Comma (Some t)) refl e
  where
    by_test : (v : Bool)
        → is_kind kinds.Comma (Some t) ≡ v
        → (v || is_kind kinds.RightParenthesis (Some t)) ≡ true
        → (t.kind ≡ kinds.Comma) ⊎ (t.kind ≡ kinds.RightParenthesis)
    by_test true c e = inl (kind_is kinds.Comma t c)
    by_test false c e = inr (kind_is kinds.RightParenthesis t e)

-- nothing goes on with an expression there
pub record Ended (o : Option Token) : Type 0 where
  pub unlinked : link o ≡ no_link
  pub not_updated : update_near o ≡ None
  pub last_operand : operator o ≡ None
  pub not_joined : joint o ≡ no_joint
  pub not_arrow : is_arrow o ≡ false

abbrev no_update : Option UpdateOperator
no_update = None

twice : (v : Bool) → cond v no_update no_update ≡ no_update
twice true = refl
twice false = refl

ended_of : (t : Token) (k : TokenKind)
    → t.kind ≡ k
    → link_by k ≡ no_link
    → update_by k ≡ None
    → operator_by k ≡ None
    → joint_by k ≡ no_joint
    → is_same_kind k kinds.Arrow ≡ false
    → Ended (Some t)
ended_of t k e a b c d f = record {
  unlinked = rw (e, a) refl;
  not_updated = rw (e, b) (twice t.newline_before);
  last_operand = rw (e, c) refl;
  not_joined = rw (e, d) refl;
  not_arrow = rw (e, f) (and_right (not t.newline_before) false refl);
}

pub ended_at : (t : Token) → ends_name (Some t) ≡ true → Ended (Some t)
ended_at t e = elim (ended_kind t e) [
  | inl k ↦ ended_of t kinds.Comma k refl refl refl refl refl
  | inr k ↦ ended_of t kinds.RightParenthesis k refl refl refl refl refl
]

pub named_assignment : (b : Below) (n : ℕ) (t : Token) (ts : List Token)
    → is_kind kinds.Name (Some t) ≡ true
    → assignment b n (t ∷ ts) ≡ named_form b n t.string_value (is_arrow (head_of ts)) ts
named_assignment b n t ts e =
    let is : start (Some t) ≡ classes.a_name t.string_value = rw (kind_is kinds.Name t e) refl in
    assignment_is b n (t ∷ ts) ∙ ap (λ (v : PrimaryStart). assignment_form b n v (t ∷ ts)) is

pub behind_alone : (b : Below) (n : ℕ) (e : Expression) (t : Token) (ts : List Token)
    → ends_name (Some t) ≡ true
    → behind b n e (t ∷ ts) ≡ Ok (e, t ∷ ts)
unfolding links chain joined
behind_alone b n e t ts h = let d = ended_at t h in rw (d.unlinked, d.not_updated, d.last_operand, d.not_joined) refl

pub name_alone : (b : Below) (n : ℕ) (t : Token) (ts : List Token)
    → is_kind kinds.Name (Some t) ≡ true
    → ends_name (head_of ts) ≡ true
    → assignment b n (t ∷ ts) ≡ Ok (trees.name t.string_value, ts)
name_alone b n t [] e h = absurd cc
name_alone b n t (u ∷ ts) e h =
    let d = ended_at u h in
    named_assignment b n t (u ∷ ts) e
    ∙ ap (λ (v : Bool). named_form b n t.string_value v (u ∷ ts)) d.not_arrow
    ∙ behind_alone b n (trees.name t.string_value) u ts h

pub assignment_names : (b : Below) (n : ℕ) → Pair b b → Spans b → Names (λ ts. assignment b n ts)
assignment_names b n p s =
    let same : n ≤ n = omega arith in
    record {
      follows = assignment_follows b b n n same p p s;
      alone = λ t ts e h. inr (trees.name t.string_value, name_alone b n t ts e h);
      past = λ t ts e.
          let form : Reader Expression = λ r. named_form b n t.string_value (is_arrow (head_of r)) r in
          subst (λ (x : Read Expression). Within x (length ts)) (sym (named_assignment b n t ts e))
          (not_longer form form (named_follows b b n n same p t.string_value) ts);
    }

pub comma_within : (b : Below) (n : ℕ)
    → Names b.assignment
    → (e : Expression) (ts : List Token)
    → listed_by (past_names false ts) ≡ no_arrow
    → (v : Bool)
    → is_kind kinds.Comma (head_of ts) ≡ v
    → Within (closing (comma_by b n e v ts)) (length (scan_end false ts))
unfolding more_assignments
comma_within b n s e ts q false c = end_within ts c
comma_within b n s e ts q true c = by_depth (nat_le (height e) n)
  where
    more : Read Expressions
    more = others (one_of b.assignment) no_state (suc (length ts)) tt ts >>= λ x. Ok (expressions x.0, x.1)

    more_within : Within (closing more) (length (scan_end false ts))
    more_within =
        closing_makes (others (one_of b.assignment) no_state (suc (length ts)) tt ts) expressions
        (length (scan_end false ts)) (others_within b.assignment s (suc (length ts)) ts q)

    by_depth : (v : Bool)
        → Within (closing
        (cond v (more >>= λ x. Ok (trees.comma (trees.an_expression e x.0), x.1))
        (Err (deep (length (tail_of ts))))))
        (length (scan_end false ts))
    by_depth true =
        closing_makes more (λ es. trees.comma (trees.an_expression e es)) (length (scan_end false ts)) more_within
    by_depth false = tt

pub expression_closes : (b : Below) (n : ℕ)
    → Pair b b
    → Spans b
    → (ts : List Token)
    → listed_by (past_names true ts) ≡ no_arrow
    → Within (closing (expression b n ts)) (length (scan_end true ts))
unfolding expression
expression_closes b n p s ts e =
    let go : Expression → Reader Expression = λ f r. comma_by b n f (is_kind kinds.Comma (head_of r)) r in
    names_within (λ r. assignment b n r) (assignment_names b n p s) go go (comma_follows b b n n (omega arith) p) ts e
    (λ f r l q. comma_within b n s.names f r q (is_kind kinds.Comma (head_of r)) refl)
