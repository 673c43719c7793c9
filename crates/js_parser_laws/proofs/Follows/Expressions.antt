-- Answers depend on the tokens read: object literals, members, calls and operators, where what reads below them is so.
use Rattle.std.proofs.Common.{◌≡◌, ℕ, zero, suc, ◌≤◌, Bool, true, false, cond, List, [], ◌∷◌, length, Option, Some, None, Ok, Err, refl, arith}
use Rattle.std.specs.Prelude.{nat_le}
use Rattle.js_lexer.specs.declared.token.TokenKind.TheVariants as kinds
use Rattle.js_tree_operators.specs.declared.operator.UnaryOperator.TheVariants as unaries
use Rattle.js_tree_operators.specs.declared.operator.UpdateOperator.{UpdateOperator}
use Rattle.js_tree_operators.specs.declared.operator.BinaryOperator.{BinaryOperator}
use Rattle.js_tree.specs.Trees as trees
use Rattle.js_tree.specs.Trees.{Identifier, Parameters, Expression, Key, PropertyDefinition}
use Rattle.js_parser_language.specs.Tokens.{Token, head_of, tail_of}
use Rattle.js_parser_language.specs.Flat.{assign_kind}
use Rattle.js_parser_language.specs.Well.{function_body, strength, is_property}
use Rattle.js_tree.specs.Targets.{is_target}
use Rattle.js_tree.specs.Height.{height, height_of_key}
use Rattle.js_tree.specs.Views.{properties}
use Rattle.js_parser_language.specs.Kinds.{is_kind}
use Rattle.js_parser_readers.specs.Reading.{stuck, deep, Reader, ◌>>=◌, expect_near, text_of, name_at, word_at, elements, no_state, with_names}
use Rattle.js_parser_readers.specs.Classes as classes
use Rattle.js_parser_readers.specs.Classes.{start, CallTail, dot, key, no_link, link, update_near, deletes, a_unary, an_update, no_prefix, prefix, operator, Joint, question, assigns_by, no_joint, joint, key_start, AfterKey, after_key, is_shorthand_by}
use Rattle.js_parser_readers.specs.Productions.{Below, one_of, tok, an_assignment, an_expression, arguments, a_name, code, in_braces, made}
use Rattle.js_parser_readers.specs.Parsing.{key_by, key_at, member_by, property_by, property_at, properties_at, is_name_next, function_by, function_at, primary_by, primary, linked_by, links_by, links, call, updated_by, postfix, unary_by, unary, operator_from, chain_by, chain, operation, arrow_body_by, arrow_rest, joined_by, joined}
use Rattle.js_parser_language.proofs.KindLemmas.{kind_is}
use Rattle.js_parser_laws.proofs.Follows.Tools.{Follows, gives, sticks, deepens, past, peeks, binds, makes, tests, low_enough, alike, shortens}
use Rattle.js_parser_laws.proofs.Follows.Parts.{Pair, on_right, expect_near_follows, word_follows, elements_follows, made_follows}

-- ---- object literals

pub key_follows : (b c : Below) → Pair b c → Follows (λ ts. key_at b ts) (λ ts. key_at c ts)
unfolding key_at
key_follows b c p = peeks key_start (λ v ts. key_by b v ts) (λ v ts. key_by c v ts) (elim [
  | classes.a_word_key w ↦ past (λ ts. Ok (trees.word_key w, ts)) (λ ts. Ok (trees.word_key w, ts))
      (gives (trees.word_key w))
  | classes.a_string_key s ↦ past (λ ts. Ok (trees.string_key s, ts)) (λ ts. Ok (trees.string_key s, ts))
      (gives (trees.string_key s))
  | classes.a_number_key v ↦ past (λ ts. Ok (trees.number_key v, ts)) (λ ts. Ok (trees.number_key v, ts))
      (gives (trees.number_key v))
  | classes.a_computed_key ↦ made_follows b c p (tok kinds.LeftBracket ∷ an_assignment ∷ tok kinds.RightBracket ∷ [])
      (λ v. trees.computed_key v.1.0)
  | classes.no_key ↦ sticks
])

method_follows : (b c : Below) (n m : ℕ)
    → n ≤ m
    → Pair b c
    → (k : Key)
    → Follows (λ ts. member_by b n k classes.parameters ts) (λ ts. member_by c m k classes.parameters ts)
method_follows b c n m le p k =
    low_enough (suc (height_of_key k)) n m
    (λ ts. b.function ts >>= λ f. Ok (trees.method k f.0.parameters f.0.body, f.1))
    (λ ts. c.function ts >>= λ f. Ok (trees.method k f.0.parameters f.0.body, f.1)) le
    (makes b.function c.function (λ f. trees.method k f.parameters f.body) p.both.function)

member_form : (b c : Below) (n m : ℕ)
    → n ≤ m
    → Pair b c
    → (k : Key) (v : AfterKey)
    → Follows (λ ts. member_by b n k v ts) (λ ts. member_by c m k v ts)
member_form b c n m le p k classes.colon =
    made_follows b c p (tok kinds.Colon ∷ an_assignment ∷ []) (λ v. trees.value k v.1.0)
member_form b c n m le p k classes.parameters = method_follows b c n m le p k
member_form b c n m le p k classes.no_member = sticks

-- what stands behind a name: it is a key or a shorthand
abbrev pub named_member : Below → ℕ → Identifier → AfterKey → Reader PropertyDefinition
named_member b n s classes.no_member ts = Ok (trees.shorthand s, ts)
named_member b n s v ts = member_by b n (trees.word_key s) v ts

abbrev pub name_next : Option Token → Option Identifier
name_next o = cond (is_kind kinds.Name o) (Some (text_of o)) None

-- a property with its first token looked at before the second
abbrev pub property_form : Below → ℕ → Option Identifier → Reader PropertyDefinition
property_form b n (Some s) ts = named_member b n s (after_key (head_of (tail_of ts))) (tail_of ts)
property_form b n None ts = key_at b ts >>= λ k. member_by b n k.0 (after_key (head_of k.1)) k.1

key_of_name : (b : Below) (ts : List Token)
    → is_kind kinds.Name (head_of ts) ≡ true
    → key_at b ts ≡ Ok (trees.word_key (text_of (head_of ts)), tail_of ts)
unfolding key_at
key_of_name b [] e = absurd cc
key_of_name b (t ∷ ts) e = rw (kind_is kinds.Name t e) refl

named_property : (b : Below) (n : ℕ) (ts : List Token)
    → is_kind kinds.Name (head_of ts) ≡ true
    → (v : AfterKey)
    → after_key (head_of (tail_of ts)) ≡ v
    → property_by b n (is_shorthand_by true v) ts ≡ named_member b n (text_of (head_of ts)) v (tail_of ts)
unfolding name_at
named_property b n ts e classes.no_member a = rw e refl
named_property b n ts e classes.colon a = rw (key_of_name b ts e, a) refl
named_property b n ts e classes.parameters a = rw (key_of_name b ts e, a) refl

property_is_by : (b : Below) (n : ℕ) (ts : List Token) (v : Bool)
    → is_kind kinds.Name (head_of ts) ≡ v
    → property_by b n (is_shorthand_by v (after_key (head_of (tail_of ts)))) ts ≡ property_form b n
    (cond v (Some (text_of (head_of ts))) None) ts
property_is_by b n ts true e = named_property b n ts e (after_key (head_of (tail_of ts))) refl
property_is_by b n ts false e = refl

pub property_is : (b : Below) (n : ℕ) (ts : List Token)
    → property_at b n ts ≡ property_form b n (name_next (head_of ts)) ts
unfolding property_at
property_is b n ts = property_is_by b n ts (is_kind kinds.Name (head_of ts)) refl

named_form : (b c : Below) (n m : ℕ)
    → n ≤ m
    → Pair b c
    → (s : Identifier) (v : AfterKey)
    → Follows (λ ts. named_member b n s v ts) (λ ts. named_member c m s v ts)
named_form b c n m le p s classes.no_member = gives (trees.shorthand s)
named_form b c n m le p s classes.colon = member_form b c n m le p (trees.word_key s) classes.colon
named_form b c n m le p s classes.parameters = member_form b c n m le p (trees.word_key s) classes.parameters

pub property_follows : (b c : Below) (n m : ℕ)
    → n ≤ m
    → Pair b c
    → Follows (λ ts. property_at b n ts) (λ ts. property_at c m ts)
property_follows b c n m le p =
    alike (λ ts. property_form b n (name_next (head_of ts)) ts) (λ ts. property_at b n ts)
    (λ ts. property_form c m (name_next (head_of ts)) ts) (λ ts. property_at c m ts) (property_is b n)
    (property_is c m)
    (peeks name_next (λ v ts. property_form b n v ts) (λ v ts. property_form c m v ts) (elim [
      | Some s ↦ past (λ ts. named_member b n s (after_key (head_of ts)) ts)
          (λ ts. named_member c m s (after_key (head_of ts)) ts)
          (peeks after_key (λ v ts. named_member b n s v ts) (λ v ts. named_member c m s v ts)
          (named_form b c n m le p s))
      | None ↦ binds (λ ts. key_at b ts) (λ ts. key_at c ts) (λ k ts. member_by b n k (after_key (head_of ts)) ts)
          (λ k ts. member_by c m k (after_key (head_of ts)) ts) (key_follows b c p)
          (λ k. peeks after_key (λ v ts. member_by b n k v ts) (λ v ts. member_by c m k v ts)
          (member_form b c n m le p k))
    ]))

pub properties_follows : (b c : Below) (n m : ℕ)
    → n ≤ m
    → Pair b c
    → Follows (λ ts. properties_at b n ts) (λ ts. properties_at c m ts)
unfolding properties_at
properties_follows b c n m le p =
    makes (λ ts. elements (one_of (λ r. property_at b n r)) no_state kinds.RightBrace (suc (length ts)) tt ts)
    (λ ts. elements (one_of (λ r. property_at c m r)) no_state kinds.RightBrace (suc (length ts)) tt ts) properties
    (elements_follows (one_of (λ r. property_at b n r)) (one_of (λ r. property_at c m r)) no_state kinds.RightBrace
    (λ s. property_follows b c n m le p)
    (λ s. shortens (λ r. property_at c m r) (λ r. property_at c m r)
    (property_follows c c m m (omega arith) (on_right b c p)))
    tt)

-- ---- primaries

pub function_follows : (b c : Below) → Pair b c → Follows (λ ts. function_at b ts) (λ ts. function_at c ts)
unfolding function_at
function_follows b c p = peeks is_name_next (λ v ts. function_by b v ts) (λ v ts. function_by c v ts) (elim [
  | true ↦ made_follows b c p (a_name ∷ code ∷ []) (λ v. trees.function (Some v.0) v.1.0.parameters v.1.0.body)
  | false ↦ made_follows b c p (code ∷ []) (λ v. trees.function None v.0.parameters v.0.body)
])

-- a token that is an expression by itself
one_token : (e : Expression) → Follows (λ ts. Ok (e, tail_of ts)) (λ ts. Ok (e, tail_of ts))
one_token e = past (λ ts. Ok (e, ts)) (λ ts. Ok (e, ts)) (gives e)

pub primary_follows : (b c : Below) (n m : ℕ) → n ≤ m → Pair b c → Follows (λ ts. primary b n ts) (λ ts. primary c m ts)
unfolding primary
primary_follows b c n m le p = peeks start (λ v ts. primary_by b n v ts) (λ v ts. primary_by c m v ts) (elim [
  | classes.this_word ↦ one_token trees.this
  | classes.a_name s ↦ one_token (trees.name s)
  | classes.a_number v ↦ one_token (trees.number v)
  | classes.a_string s ↦ one_token (trees.string s)
  | classes.a_boolean v ↦ one_token (trees.boolean v)
  | classes.null_word ↦ one_token trees.null
  | classes.bracket ↦ made_follows b c p (tok kinds.LeftBracket ∷ arguments kinds.RightBracket ∷ [])
      (λ v. trees.array v.1.0)
  | classes.brace ↦ makes (λ ts. properties_at b n (tail_of ts)) (λ ts. properties_at c m (tail_of ts))
      (λ ps. trees.object ps)
      (past (λ ts. properties_at b n ts) (λ ts. properties_at c m ts) (properties_follows b c n m le p))
  | classes.parenthesis ↦ made_follows b c p
      (tok kinds.LeftParenthesis ∷ an_expression ∷ tok kinds.RightParenthesis ∷ []) (λ v. trees.parenthesized v.1.0)
  | classes.function_word ↦ past (λ ts. function_at b ts) (λ ts. function_at c ts) (function_follows b c p)
  | classes.no_start ↦ sticks
])

-- ---- members and calls

pub linked_follows : (b c : Below)
    → Pair b c
    → (e : Expression) (l : CallTail)
    → Follows (λ ts. linked_by b e l ts) (λ ts. linked_by c e l ts)
linked_follows b c p e dot =
    makes (λ ts. word_at (tail_of ts)) (λ ts. word_at (tail_of ts)) (λ x. trees.member e x)
    (past (λ ts. word_at ts) (λ ts. word_at ts) word_follows)
linked_follows b c p e key =
    made_follows b c p (tok kinds.LeftBracket ∷ an_expression ∷ tok kinds.RightBracket ∷ []) (λ v. trees.index e v.1.0)
linked_follows b c p e classes.arguments =
    made_follows b c p (tok kinds.LeftParenthesis ∷ arguments kinds.RightParenthesis ∷ []) (λ v. trees.call e v.1.0)
linked_follows b c p e no_link = sticks

link_turn : (b c : Below) (n m : ℕ)
    → n ≤ m
    → Pair b c
    → (go go' : Expression → Reader Expression)
    → ((e : Expression) → Follows (go e) (go' e))
    → (e : Expression) (l : CallTail)
    → Follows
    (λ ts. cond (nat_le (height e) n) (linked_by b e l ts >>= λ x. go x.0 x.1) (Err (deep (length (tail_of ts)))))
    (λ ts. cond (nat_le (height e) m) (linked_by c e l ts >>= λ x. go' x.0 x.1) (Err (deep (length (tail_of ts)))))
link_turn b c n m le p go go' h e l =
    low_enough (height e) n m (λ ts. linked_by b e l ts >>= λ x. go x.0 x.1)
    (λ ts. linked_by c e l ts >>= λ x. go' x.0 x.1) le
    (binds (λ ts. linked_by b e l ts) (λ ts. linked_by c e l ts) go go' (linked_follows b c p e l) h)

link_by_turn : (b c : Below) (n m : ℕ)
    → n ≤ m
    → Pair b c
    → (go go' : Expression → Reader Expression)
    → ((e : Expression) → Follows (go e) (go' e))
    → (e : Expression) (l : CallTail)
    → Follows (λ ts. links_by b n go e l ts) (λ ts. links_by c m go' e l ts)
link_by_turn b c n m le p go go' h e no_link = gives e
link_by_turn b c n m le p go go' h e dot = link_turn b c n m le p go go' h e dot
link_by_turn b c n m le p go go' h e key = link_turn b c n m le p go go' h e key
link_by_turn b c n m le p go go' h e classes.arguments = link_turn b c n m le p go go' h e classes.arguments

pub links_follows : (b c : Below) (n m : ℕ)
    → n ≤ m
    → Pair b c
    → (k j : ℕ)
    → k ≤ j
    → (e : Expression)
    → Follows (λ ts. links b n k e ts) (λ ts. links c m j e ts)
unfolding links
links_follows b c n m le p zero j l e = deepens (λ ts. links c m j e ts)
links_follows b c n m le p (suc k) zero l e = absurd (omega arith)
links_follows b c n m le p (suc k) (suc j) l e =
    peeks link (λ v ts. links_by b n (λ f r. links b n k f r) e v ts)
    (λ v ts. links_by c m (λ f r. links c m j f r) e v ts)
    (link_by_turn b c n m le p (λ f r. links b n k f r) (λ f r. links c m j f r)
    (λ f. links_follows b c n m le p k j (omega arith) f) e)

pub call_follows : (b c : Below) (n m : ℕ) → n ≤ m → Pair b c → Follows (λ ts. call b n ts) (λ ts. call c m ts)
unfolding call
call_follows b c n m le p =
    binds (λ ts. primary b n ts) (λ ts. primary c m ts) (λ e ts. links b n (suc n) e ts)
    (λ e ts. links c m (suc m) e ts) (primary_follows b c n m le p)
    (λ e. links_follows b c n m le p (suc n) (suc m) (omega arith) e)

-- ---- operators

updated_by_follows : (n m : ℕ)
    → n ≤ m
    → (e : Expression) (v : Option UpdateOperator)
    → Follows (λ ts. updated_by n e v ts) (λ ts. updated_by m e v ts)
updated_by_follows n m le e None = gives e
updated_by_follows n m le e (Some o) =
    tests (is_target e)
    (λ ts. cond (nat_le (height e) n) (Ok (trees.postfix o e, tail_of ts)) (Err (deep (length (tail_of ts)))))
    (λ ts. cond (nat_le (height e) m) (Ok (trees.postfix o e, tail_of ts)) (Err (deep (length (tail_of ts)))))
    (λ ts. Err (stuck (length ts))) (λ ts. Err (stuck (length ts)))
    (low_enough (height e) n m (λ ts. Ok (trees.postfix o e, tail_of ts)) (λ ts. Ok (trees.postfix o e, tail_of ts)) le
    (one_token (trees.postfix o e)))
    sticks

pub updated_follows : (n m : ℕ)
    → n ≤ m
    → (e : Expression)
    → Follows (λ ts. updated_by n e (update_near (head_of ts)) ts) (λ ts. updated_by m e (update_near (head_of ts)) ts)
updated_follows n m le e =
    peeks update_near (λ v ts. updated_by n e v ts) (λ v ts. updated_by m e v ts) (updated_by_follows n m le e)

pub postfix_follows : (b c : Below) (n m : ℕ) → n ≤ m → Pair b c → Follows (λ ts. postfix b n ts) (λ ts. postfix c m ts)
unfolding postfix
postfix_follows b c n m le p =
    binds (λ ts. call b n ts) (λ ts. call c m ts) (λ e ts. updated_by n e (update_near (head_of ts)) ts)
    (λ e ts. updated_by m e (update_near (head_of ts)) ts) (call_follows b c n m le p) (updated_follows n m le)

-- an operand that is tested
abbrev pub tested : Bool → Expression → Reader Expression
tested v e ts = cond v (Ok (e, ts)) (Err (stuck (length ts)))

pub tested_follows : (v : Bool) (e : Expression) → Follows (tested v e) (tested v e)
tested_follows true e = gives e
tested_follows false e = sticks

pub unary_follows : (b c : Below) (n m : ℕ) → n ≤ m → Pair b c → Follows (λ ts. unary b n ts) (λ ts. unary c m ts)
unfolding unary
unary_follows b c n m le p = peeks prefix (λ v ts. unary_by b n v ts) (λ v ts. unary_by c m v ts) (elim [
  | deletes ↦ binds (λ ts. b.call (tail_of ts)) (λ ts. c.call (tail_of ts))
      (λ e ts. tested (is_property e) (trees.unary unaries.Delete e) ts)
      (λ e ts. tested (is_property e) (trees.unary unaries.Delete e) ts) (past b.call c.call p.both.call)
      (λ e. tested_follows (is_property e) (trees.unary unaries.Delete e))
  | a_unary o ↦ makes (λ ts. b.unary (tail_of ts)) (λ ts. c.unary (tail_of ts)) (λ e. trees.unary o e)
      (past b.unary c.unary p.both.unary)
  | an_update o ↦ binds (λ ts. b.call (tail_of ts)) (λ ts. c.call (tail_of ts))
      (λ e ts. tested (is_target e) (trees.prefix o e) ts) (λ e ts. tested (is_target e) (trees.prefix o e) ts)
      (past b.call c.call p.both.call) (λ e. tested_follows (is_target e) (trees.prefix o e))
  | no_prefix ↦ postfix_follows b c n m le p
])

chain_turn : (b c : Below) (n m : ℕ)
    → n ≤ m
    → Pair b c
    → (go go' : Expression → Reader Expression)
    → ((e : Expression) → Follows (go e) (go' e))
    → (l : Expression) (v : Option BinaryOperator)
    → Follows (λ ts. chain_by b n go l v ts) (λ ts. chain_by c m go' l v ts)
chain_turn b c n m le p go go' h l None = gives l
chain_turn b c n m le p go go' h l (Some o) =
    low_enough (height l) n m (λ ts. b.operation (suc (strength o)) (tail_of ts) >>= λ x. go (trees.binary o l x.0) x.1)
    (λ ts. c.operation (suc (strength o)) (tail_of ts) >>= λ x. go' (trees.binary o l x.0) x.1) le
    (binds (λ ts. b.operation (suc (strength o)) (tail_of ts)) (λ ts. c.operation (suc (strength o)) (tail_of ts))
    (λ r ts. go (trees.binary o l r) ts) (λ r ts. go' (trees.binary o l r) ts)
    (past (λ ts. b.operation (suc (strength o)) ts) (λ ts. c.operation (suc (strength o)) ts)
    (p.both.operation (suc (strength o))))
    (λ r. h (trees.binary o l r)))

pub chain_follows : (b c : Below) (n m : ℕ)
    → n ≤ m
    → Pair b c
    → (low : ℕ) (k j : ℕ)
    → k ≤ j
    → (l : Expression)
    → Follows (λ ts. chain b n low k l ts) (λ ts. chain c m low j l ts)
unfolding chain
chain_follows b c n m le p low zero j q l = deepens (λ ts. chain c m low j l ts)
chain_follows b c n m le p low (suc k) zero q l = absurd (omega arith)
chain_follows b c n m le p low (suc k) (suc j) q l =
    peeks (λ o. operator_from low (operator o)) (λ v ts. chain_by b n (λ e r. chain b n low k e r) l v ts)
    (λ v ts. chain_by c m (λ e r. chain c m low j e r) l v ts)
    (chain_turn b c n m le p (λ e r. chain b n low k e r) (λ e r. chain c m low j e r)
    (λ e. chain_follows b c n m le p low k j (omega arith) e) l)

pub operation_follows : (b c : Below) (n m : ℕ)
    → n ≤ m
    → Pair b c
    → (low : ℕ)
    → Follows (λ ts. operation b n low ts) (λ ts. operation c m low ts)
unfolding operation
operation_follows b c n m le p low =
    binds (λ ts. unary b n ts) (λ ts. unary c m ts) (λ e ts. chain b n low (suc n) e ts)
    (λ e ts. chain c m low (suc m) e ts) (unary_follows b c n m le p)
    (λ e. chain_follows b c n m le p low (suc n) (suc m) (omega arith) e)

-- ---- what goes on behind an operation

joined_by_follows : (b c : Below) (n m : ℕ)
    → n ≤ m
    → Pair b c
    → (t : Expression) (v : Joint)
    → Follows (λ ts. joined_by b n t v ts) (λ ts. joined_by c m t v ts)
joined_by_follows b c n m le p t question =
    low_enough (height t) n m
    (λ ts. made b (tok kinds.Question ∷ an_assignment ∷ tok kinds.Colon ∷ an_assignment ∷ [])
    (λ v. trees.conditional t v.1.0 v.1.1.1.0) ts)
    (λ ts. made c (tok kinds.Question ∷ an_assignment ∷ tok kinds.Colon ∷ an_assignment ∷ [])
    (λ v. trees.conditional t v.1.0 v.1.1.1.0) ts)
    le
    (made_follows b c p (tok kinds.Question ∷ an_assignment ∷ tok kinds.Colon ∷ an_assignment ∷ [])
    (λ v. trees.conditional t v.1.0 v.1.1.1.0))
joined_by_follows b c n m le p t (assigns_by o) =
    let left : Reader Expression = λ ts. made b (tok (assign_kind o) ∷ an_assignment ∷ []) (λ v. trees.assign o t v.1.0)
    ts in
    let right : Reader Expression = λ ts. made c (tok (assign_kind o) ∷ an_assignment ∷ [])
    (λ v. trees.assign o t v.1.0) ts in
    tests (is_target t) (λ ts. cond (nat_le (height t) n) (left ts) (Err (deep (length (tail_of ts)))))
    (λ ts. cond (nat_le (height t) m) (right ts) (Err (deep (length (tail_of ts)))))
    (λ ts. Err (stuck (length ts))) (λ ts. Err (stuck (length ts)))
    (low_enough (height t) n m left right le
    (made_follows b c p (tok (assign_kind o) ∷ an_assignment ∷ []) (λ v. trees.assign o t v.1.0)))
    sticks
joined_by_follows b c n m le p t no_joint = gives t

pub joined_follows : (b c : Below) (n m : ℕ)
    → n ≤ m
    → Pair b c
    → (t : Expression)
    → Follows (λ ts. joined b n t ts) (λ ts. joined c m t ts)
unfolding joined
joined_follows b c n m le p t =
    peeks joint (λ v ts. joined_by b n t v ts) (λ v ts. joined_by c m t v ts) (joined_by_follows b c n m le p t)

-- ---- what goes on behind the parameters of an arrow function

pub arrow_rest_follows : (b c : Below)
    → Pair b c
    → (ps : Parameters) (names : List Identifier)
    → Follows (λ ts. arrow_rest b ps names ts) (λ ts. arrow_rest c ps names ts)
unfolding arrow_rest
arrow_rest_follows b c p ps names =
    let left : Bool → Reader Expression = λ v ts. arrow_body_by b ps names v ts in
    let right : Bool → Reader Expression = λ v ts. arrow_body_by c ps names v ts in
    binds (λ ts. expect_near kinds.Arrow ts) (λ ts. expect_near kinds.Arrow ts)
    (λ a ts. left (is_kind kinds.LeftBrace (head_of ts)) ts)
    (λ a ts. right (is_kind kinds.LeftBrace (head_of ts)) ts) (expect_near_follows kinds.Arrow)
    (λ a. peeks (λ o. is_kind kinds.LeftBrace o) left right (elim [
      | true ↦ made_follows b c p (in_braces function_body (with_names [] names) ∷ []) (λ v. trees.arrow_block ps v.0)
      | false ↦ made_follows b c p (an_assignment ∷ []) (λ v. trees.arrow ps v.0)
    ]))
