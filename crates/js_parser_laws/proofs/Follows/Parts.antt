-- Answers depend on the tokens read: tokens, lists, names and productions, where what reads below them is so.
use Rattle.std.proofs.Common.{◌≡◌, ℕ, suc, ◌≤◌, Bool, true, false, cond, List, [], ◌∷◌, length, Option, Ok, Err, refl, ap, arith}
use Rattle.js_lexer.specs.declared.token.TokenKind.{TokenKind}
use Rattle.js_lexer.specs.declared.token.TokenKind.TheVariants as kinds
use Rattle.js_tree.specs.Trees as trees
use Rattle.js_tree.specs.Trees.{Identifier, Declarator}
use Rattle.js_parser_language.specs.Tokens.{Token, StatementEnd, after_expression, absent, head_of, tail_of, is_on_line}
use Rattle.js_parser_language.specs.Flat.{edge}
use Rattle.js_parser_language.specs.Well.{StatementContext, function_body, is_among}
use Rattle.js_tree.specs.Views.{expressions, statements, declarators}
use Rattle.js_parser_language.specs.Kinds.{is_kind}
use Rattle.js_parser_readers.specs.Classes.{is_name}
use Rattle.js_parser_readers.specs.Reading.{stuck, Read, Reader, ◌>>=◌, expect, expect_near, text_of, name_at, fresh_name, is_word_next, word_at, semicolon_at, AfterElement, goes_on, ends, neither, after, go_after, elements_by, elements, others_by, others, ends_list, items_by, items, no_state, with_name, with_names}
use Rattle.js_parser_readers.specs.Productions.{ParametersAndBody, Below, one_of, arguments_before, more_assignments, parameters_at, with_declared, items_at, braces, code_at, initializer_by, declarator_at, with_declarator, declarators_at, optional_by, optional_before, ended_expression, Piece, tok, near, a_name, the_name, an_assignment, an_expression, optional, arguments, ended, an_end, declared, a_statement, a_block, in_braces, code, PieceValues, expect_name, item, seq, made}
use Rattle.js_parser_laws.proofs.Follows.Tools.{Follows, gives, sticks, past, peeks, binds, makes, Shortens, Takes, shortens, Local, Turns, loop_from, loops}

-- what reads below on two sides, where there may be more room on the right
pub record FollowsBelow (b c : Below) : Type 0 where
  pub assignment : Follows b.assignment c.assignment
  pub expression : Follows b.expression c.expression
  pub operation : (m : ℕ) → Follows (λ ts. b.operation m ts) (λ ts. c.operation m ts)
  pub unary : Follows b.unary c.unary
  pub call : Follows b.call c.call
  pub statement : (context : StatementContext) → Follows (λ ts. b.statement context ts) (λ ts. c.statement context ts)
  pub item : (context : StatementContext) (taken : List Identifier)
      → Follows (λ ts. b.item context taken ts) (λ ts. c.item context taken ts)
  pub block : (context : StatementContext) (taken : List Identifier)
      → Follows (λ ts. b.block context taken ts) (λ ts. c.block context taken ts)
  pub function : Follows b.function c.function

-- The same, and what the right side reads it also reads so itself; an item takes a token at least.
pub record Pair (b c : Below) : Type 0 where
  pub both : FollowsBelow b c
  pub right : FollowsBelow c c
  pub takes : (context : StatementContext) (taken : List Identifier) → Takes (λ ts. c.item context taken ts)

-- the right side with itself
pub on_right : (b c : Below) → Pair b c → Pair c c
on_right b c p = record { both = p.right; right = p.right; takes = p.takes }

-- ---- single tokens

-- the next token, if this test of it holds
abbrev pub if_next : {A : Type 0} → (Option Token → Bool) → (Option Token → A) → Reader A
if_next test value ts = cond (test (head_of ts)) (Ok (value (head_of ts), tail_of ts)) (Err (stuck (length ts)))

abbrev pub next_by : {A : Type 0} → A → Bool → Reader A
next_by value v ts = cond v (Ok (value, tail_of ts)) (Err (stuck (length ts)))

abbrev next_of : {A : Type 0} → (Option Token → Bool) → (Option Token → A) → Option Token → Reader A
next_of test value o ts = next_by (value o) (test o) ts

next_follows : {A : Type 0} (value : A) (v : Bool) → Follows (next_by value v) (next_by value v)
next_follows value true = past (λ ts. Ok (value, ts)) (λ ts. Ok (value, ts)) (gives value)
next_follows value false = sticks

pub if_next_follows : {A : Type 0} (test : Option Token → Bool) (value : Option Token → A)
    → Follows (if_next test value) (if_next test value)
if_next_follows test value =
    peeks (λ o. o) (next_of test value) (next_of test value) (λ o. next_follows (value o) (test o))

pub expect_follows : (k : TokenKind) → Follows (λ ts. expect k ts) (λ ts. expect k ts)
unfolding expect
expect_follows k = if_next_follows (λ o. is_kind k o) (λ o. tt)

abbrev near_by : TokenKind → Bool → Reader (Unit {0})
near_by k v ts = cond v (expect k ts) (Err (stuck (length ts)))

near_by_follows : (k : TokenKind) (v : Bool) → Follows (near_by k v) (near_by k v)
near_by_follows k true = expect_follows k
near_by_follows k false = sticks

pub expect_near_follows : (k : TokenKind) → Follows (λ ts. expect_near k ts) (λ ts. expect_near k ts)
unfolding expect_near
expect_near_follows k = peeks is_on_line (near_by k) (near_by k) (near_by_follows k)

pub name_follows : Follows (λ ts. name_at ts) (λ ts. name_at ts)
unfolding name_at
name_follows = if_next_follows (λ o. is_kind kinds.Name o) text_of

abbrev fresh_by : Bool → Reader Identifier
fresh_by v ts = cond v (Err (stuck (length ts))) (name_at ts)

fresh_by_follows : (v : Bool) → Follows (fresh_by v) (fresh_by v)
fresh_by_follows true = sticks
fresh_by_follows false = name_follows

pub fresh_follows : (taken : List Identifier) → Follows (λ ts. fresh_name taken ts) (λ ts. fresh_name taken ts)
unfolding fresh_name
fresh_follows taken = peeks (λ o. is_among taken (text_of o)) fresh_by fresh_by fresh_by_follows

pub word_follows : Follows (λ ts. word_at ts) (λ ts. word_at ts)
unfolding word_at
word_follows = if_next_follows is_word_next text_of

pub this_name_follows : (n : List ℕ) → Follows (λ ts. expect_name n ts) (λ ts. expect_name n ts)
unfolding expect_name
this_name_follows n = if_next_follows (λ o. is_name n o) (λ o. tt)

abbrev if_absent : Bool → Reader (Unit {0})
if_absent v ts = cond v (Ok (tt, ts)) (Err (stuck (length ts)))

if_absent_follows : (v : Bool) → Follows (if_absent v) (if_absent v)
if_absent_follows true = gives tt
if_absent_follows false = sticks

abbrev semicolon_by : StatementEnd → Bool → Reader (Unit {0})
semicolon_by end v ts = cond v (Ok (tt, tail_of ts)) (if_absent (absent end (head_of ts)) ts)

semicolon_by_follows : (end : StatementEnd) (v : Bool) → Follows (semicolon_by end v) (semicolon_by end v)
semicolon_by_follows end true = past (λ ts. Ok (tt, ts)) (λ ts. Ok (tt, ts)) (gives tt)
semicolon_by_follows end false = peeks (λ o. absent end o) if_absent if_absent if_absent_follows

pub semicolon_follows : (end : StatementEnd) → Follows (λ ts. semicolon_at end ts) (λ ts. semicolon_at end ts)
unfolding semicolon_at
semicolon_follows end =
    peeks (λ o. is_kind kinds.Semicolon o) (semicolon_by end) (semicolon_by end) (semicolon_by_follows end)

-- ---- elements up to a token

comma_shorter : (closer : TokenKind) (ts : List Token)
    → after closer (head_of ts) ≡ goes_on
    → suc (length (tail_of ts)) ≡ length ts
comma_shorter closer [] e = absurd cc
comma_shorter closer (t ∷ ts) e = refl

go_after_local : {A : Type 0} (go go' : Reader (List A)) (closer : TokenKind) (n : ℕ) (a : AfterElement) (ts : List Token)
    → after closer (head_of ts) ≡ a
    → length ts ≤ n
    → ((r : List Token) → suc (length r) ≤ n → go r ≡ go' r)
    → go_after go a ts ≡ go_after go' a ts
go_after_local go go' closer n goes_on ts e le h = h (tail_of ts) (omega (arith, comma_shorter closer ts e))
go_after_local go go' closer n ends ts e le h = refl
go_after_local go go' closer n neither ts e le h = refl

abbrev pub elements_body : {S A : Type 0}
    → (S → Reader A)
    → (S → A → S)
    → TokenKind
    → (S → Reader (List A))
    → S
    → Reader (List A)
elements_body one next closer go s ts = elements_by one next go closer s (is_kind closer (head_of ts)) ts

pub elements_local : {S A : Type 0} (one : S → Reader A) (next : S → A → S) (closer : TokenKind)
    → ((s : S) → Shortens (one s))
    → Local (elements_body one next closer)
elements_local {S} {A} one next closer sh = λ go go' s ts h. by_close go go' s ts h (is_kind closer (head_of ts))
  where
    by_first : (go go' : S → Reader (List A)) (s : S) (ts : List Token)
        → ((u : S) (r : List Token) → suc (length r) ≤ length ts → go u r ≡ go' u r)
        → (x : Read A)
        → one s ts ≡ x
        → (x >>= λ x. go_after (go (next s x.0)) (after closer (head_of x.1)) x.1 >>= λ y. Ok (x.0 ∷ y.0, y.1)) ≡
        (x >>= λ x. go_after (go' (next s x.0)) (after closer (head_of x.1)) x.1 >>= λ y. Ok (x.0 ∷ y.0, y.1))
    by_first go go' s ts h (Ok x) e =
        ap (λ (r : Read (List A)). r >>= λ y. Ok (x.0 ∷ y.0, y.1))
        (go_after_local (go (next s x.0)) (go' (next s x.0)) closer (length ts) (after closer (head_of x.1))
        x.1 refl (sh s ts x e) (λ r l. h (next s x.0) r l))
    by_first go go' s ts h (Err z) e = refl

    by_close : (go go' : S → Reader (List A)) (s : S) (ts : List Token)
        → ((u : S) (r : List Token) → suc (length r) ≤ length ts → go u r ≡ go' u r)
        → (c : Bool)
        → elements_by one next go closer s c ts ≡ elements_by one next go' closer s c ts
    by_close go go' s ts h true = refl
    by_close go go' s ts h false = by_first go go' s ts h (one s ts) refl

pub go_after_follows : {A : Type 0} (closer : TokenKind) (go go' : Reader (List A))
    → Follows go go'
    → Follows (λ ts. go_after go (after closer (head_of ts)) ts) (λ ts. go_after go' (after closer (head_of ts)) ts)
go_after_follows closer go go' h =
    peeks (λ o. after closer o) (λ a ts. go_after go a ts) (λ a ts. go_after go' a ts) (elim [
      | goes_on ↦ past go go' h
      | ends ↦ past (λ ts. Ok ([], ts)) (λ ts. Ok ([], ts)) (gives [])
      | neither ↦ sticks
    ])

pub elements_turn : {S A : Type 0} (one one' : S → Reader A) (next : S → A → S) (closer : TokenKind)
    → ((s : S) → Follows (one s) (one' s))
    → (f f' : S → Reader (List A))
    → ((s : S) → Follows (f s) (f' s))
    → (s : S)
    → Follows (elements_body one next closer f s) (elements_body one' next closer f' s)
elements_turn one one' next closer h f f' k s =
    peeks (λ o. is_kind closer o) (λ c ts. elements_by one next f closer s c ts)
    (λ c ts. elements_by one' next f' closer s c ts) (elim [
      | true ↦ past (λ ts. Ok ([], ts)) (λ ts. Ok ([], ts)) (gives [])
      | false ↦ binds (one s) (one' s)
          (λ a ts. go_after (f (next s a)) (after closer (head_of ts)) ts >>= λ y. Ok (a ∷ y.0, y.1))
          (λ a ts. go_after (f' (next s a)) (after closer (head_of ts)) ts >>= λ y. Ok (a ∷ y.0, y.1)) (h s)
          (λ a. makes (λ ts. go_after (f (next s a)) (after closer (head_of ts)) ts)
          (λ ts. go_after (f' (next s a)) (after closer (head_of ts)) ts) (λ ys. a ∷ ys)
          (go_after_follows closer (f (next s a)) (f' (next s a)) (k (next s a))))
    ])

pub elements_turns : {S A : Type 0} (one : S → Reader A) (next : S → A → S) (closer : TokenKind)
    → Turns (elements_body one next closer) (λ k s ts. elements one next closer k s ts)
unfolding elements
elements_turns one next closer = record { none = λ s ts. refl; one = λ k s ts. refl }

pub elements_follows : {S A : Type 0} (one one' : S → Reader A) (next : S → A → S) (closer : TokenKind)
    → ((s : S) → Follows (one s) (one' s))
    → ((s : S) → Shortens (one' s))
    → (s : S)
    → Follows (λ ts. elements one next closer (suc (length ts)) s ts)
    (λ ts. elements one' next closer (suc (length ts)) s ts)
elements_follows one one' next closer h sh s =
    loops (elements_body one next closer) (elements_body one' next closer) (λ k s ts. elements one next closer k s ts)
    (λ k s ts. elements one' next closer k s ts) (elements_turns one next closer) (elements_turns one' next closer)
    (elements_local one' next closer sh) (elements_turn one one' next closer h) s

-- ---- further elements

abbrev pub others_body : {S A : Type 0} → (S → Reader A) → (S → A → S) → (S → Reader (List A)) → S → Reader (List A)
others_body one next go s ts = others_by one next go s (is_kind kinds.Comma (head_of ts)) ts

kind_shorter : (k : TokenKind) (ts : List Token) → is_kind k (head_of ts) ≡ true → suc (length (tail_of ts)) ≡ length ts
kind_shorter k [] e = absurd cc
kind_shorter k (t ∷ ts) e = refl

pub others_local : {S A : Type 0} (one : S → Reader A) (next : S → A → S)
    → ((s : S) → Shortens (one s))
    → Local (others_body one next)
others_local {S} {A} one next sh = λ go go' s ts h. by_comma go go' s ts h (is_kind kinds.Comma (head_of ts)) refl
  where
    by_first : (go go' : S → Reader (List A)) (s : S) (ts : List Token)
        → is_kind kinds.Comma (head_of ts) ≡ true
        → ((u : S) (r : List Token) → suc (length r) ≤ length ts → go u r ≡ go' u r)
        → (x : Read A)
        → one s (tail_of ts) ≡ x
        → (x >>= λ x. go (next s x.0) x.1 >>= λ y. Ok (x.0 ∷ y.0, y.1)) ≡
        (x >>= λ x. go' (next s x.0) x.1 >>= λ y. Ok (x.0 ∷ y.0, y.1))
    by_first go go' s ts c h (Ok x) e =
        ap (λ (r : Read (List A)). r >>= λ y. Ok (x.0 ∷ y.0, y.1))
        (h (next s x.0) x.1 (omega (arith, sh s (tail_of ts) x e, kind_shorter kinds.Comma ts c)))
    by_first go go' s ts c h (Err z) e = refl

    by_comma : (go go' : S → Reader (List A)) (s : S) (ts : List Token)
        → ((u : S) (r : List Token) → suc (length r) ≤ length ts → go u r ≡ go' u r)
        → (c : Bool)
        → is_kind kinds.Comma (head_of ts) ≡ c
        → others_by one next go s c ts ≡ others_by one next go' s c ts
    by_comma go go' s ts h true e = by_first go go' s ts e h (one s (tail_of ts)) refl
    by_comma go go' s ts h false e = refl

pub others_turn : {S A : Type 0} (one one' : S → Reader A) (next : S → A → S)
    → ((s : S) → Follows (one s) (one' s))
    → (f f' : S → Reader (List A))
    → ((s : S) → Follows (f s) (f' s))
    → (s : S)
    → Follows (others_body one next f s) (others_body one' next f' s)
others_turn one one' next h f f' k s =
    peeks (λ o. is_kind kinds.Comma o) (λ c ts. others_by one next f s c ts) (λ c ts. others_by one' next f' s c ts)
    (elim [
      | true ↦ binds (λ ts. one s (tail_of ts)) (λ ts. one' s (tail_of ts))
          (λ a ts. f (next s a) ts >>= λ y. Ok (a ∷ y.0, y.1)) (λ a ts. f' (next s a) ts >>= λ y. Ok (a ∷ y.0, y.1))
          (past (one s) (one' s) (h s))
          (λ a. makes (f (next s a)) (f' (next s a)) (λ ys. a ∷ ys) (k (next s a)))
      | false ↦ gives []
    ])

pub others_turns : {S A : Type 0} (one : S → Reader A) (next : S → A → S)
    → Turns (others_body one next) (λ k s ts. others one next k s ts)
unfolding others
others_turns one next = record { none = λ s ts. refl; one = λ k s ts. refl }

pub others_follows : {S A : Type 0} (one one' : S → Reader A) (next : S → A → S)
    → ((s : S) → Follows (one s) (one' s))
    → ((s : S) → Shortens (one' s))
    → (s : S)
    → Follows (λ ts. others one next (suc (length ts)) s ts) (λ ts. others one' next (suc (length ts)) s ts)
others_follows one one' next h sh s =
    loops (others_body one next) (others_body one' next) (λ k s ts. others one next k s ts)
    (λ k s ts. others one' next k s ts) (others_turns one next) (others_turns one' next)
    (others_local one' next sh) (others_turn one one' next h) s

-- so many of them at most
pub others_from : {S A : Type 0} (one one' : S → Reader A) (next : S → A → S)
    → ((s : S) → Follows (one s) (one' s))
    → ((s : S) → Shortens (one' s))
    → (k : ℕ) (s : S)
    → Follows (λ ts. others one next k s ts) (λ ts. others one' next (suc (length ts)) s ts)
others_from one one' next h sh k s =
    loop_from (others_body one next) (others_body one' next) (λ k s ts. others one next k s ts)
    (λ k s ts. others one' next k s ts) (others_turns one next) (others_turns one' next)
    (others_local one' next sh) (others_turn one one' next h) k s

-- ---- elements up to what ends a list of statements

abbrev pub items_body : {S A : Type 0} → (S → Reader A) → (S → A → S) → (S → Reader (List A)) → S → Reader (List A)
items_body one next go s ts = items_by one next go s (ends_list (head_of ts)) ts

pub items_local : {S A : Type 0} (one : S → Reader A) (next : S → A → S)
    → ((s : S) → Takes (one s))
    → Local (items_body one next)
items_local {S} {A} one next sh = λ go go' s ts h. by_end go go' s ts h (ends_list (head_of ts))
  where
    by_first : (go go' : S → Reader (List A)) (s : S) (ts : List Token)
        → ((u : S) (r : List Token) → suc (length r) ≤ length ts → go u r ≡ go' u r)
        → (x : Read A)
        → one s ts ≡ x
        → (x >>= λ x. go (next s x.0) x.1 >>= λ y. Ok (x.0 ∷ y.0, y.1)) ≡
        (x >>= λ x. go' (next s x.0) x.1 >>= λ y. Ok (x.0 ∷ y.0, y.1))
    by_first go go' s ts h (Ok x) e =
        ap (λ (r : Read (List A)). r >>= λ y. Ok (x.0 ∷ y.0, y.1)) (h (next s x.0) x.1 (sh s ts x e))
    by_first go go' s ts h (Err z) e = refl

    by_end : (go go' : S → Reader (List A)) (s : S) (ts : List Token)
        → ((u : S) (r : List Token) → suc (length r) ≤ length ts → go u r ≡ go' u r)
        → (c : Bool)
        → items_by one next go s c ts ≡ items_by one next go' s c ts
    by_end go go' s ts h true = refl
    by_end go go' s ts h false = by_first go go' s ts h (one s ts) refl

pub items_turn : {S A : Type 0} (one one' : S → Reader A) (next : S → A → S)
    → ((s : S) → Follows (one s) (one' s))
    → (f f' : S → Reader (List A))
    → ((s : S) → Follows (f s) (f' s))
    → (s : S)
    → Follows (items_body one next f s) (items_body one' next f' s)
items_turn one one' next h f f' k s =
    peeks ends_list (λ c ts. items_by one next f s c ts) (λ c ts. items_by one' next f' s c ts) (elim [
      | true ↦ gives []
      | false ↦ binds (one s) (one' s) (λ a ts. f (next s a) ts >>= λ y. Ok (a ∷ y.0, y.1))
          (λ a ts. f' (next s a) ts >>= λ y. Ok (a ∷ y.0, y.1)) (h s)
          (λ a. makes (f (next s a)) (f' (next s a)) (λ ys. a ∷ ys) (k (next s a)))
    ])

pub items_turns : {S A : Type 0} (one : S → Reader A) (next : S → A → S)
    → Turns (items_body one next) (λ k s ts. items one next k s ts)
unfolding items
items_turns one next = record { none = λ s ts. refl; one = λ k s ts. refl }

pub items_follows : {S A : Type 0} (one one' : S → Reader A) (next : S → A → S)
    → ((s : S) → Follows (one s) (one' s))
    → ((s : S) → Takes (one' s))
    → (s : S)
    → Follows (λ ts. items one next (suc (length ts)) s ts) (λ ts. items one' next (suc (length ts)) s ts)
items_follows one one' next h sh s =
    loops (items_body one next) (items_body one' next) (λ k s ts. items one next k s ts)
    (λ k s ts. items one' next k s ts) (items_turns one next) (items_turns one' next) (items_local one' next sh)
    (items_turn one one' next h) s

-- ---- lists of trees

pub arguments_follows : (b c : Below)
    → Pair b c
    → (closer : TokenKind)
    → Follows (λ ts. arguments_before b closer ts) (λ ts. arguments_before c closer ts)
unfolding arguments_before
arguments_follows b c p closer =
    makes (λ ts. elements (one_of b.assignment) no_state closer (suc (length ts)) tt ts)
    (λ ts. elements (one_of c.assignment) no_state closer (suc (length ts)) tt ts) expressions
    (elements_follows (one_of b.assignment) (one_of c.assignment) no_state closer (λ s. p.both.assignment)
    (λ s. shortens c.assignment c.assignment p.right.assignment) tt)

pub more_assignments_follows : (b c : Below)
    → Pair b c
    → Follows (λ ts. more_assignments b ts) (λ ts. more_assignments c ts)
unfolding more_assignments
more_assignments_follows b c p =
    makes (λ ts. others (one_of b.assignment) no_state (suc (length ts)) tt ts)
    (λ ts. others (one_of c.assignment) no_state (suc (length ts)) tt ts) expressions
    (others_follows (one_of b.assignment) (one_of c.assignment) no_state (λ s. p.both.assignment)
    (λ s. shortens c.assignment c.assignment p.right.assignment) tt)

pub parameters_follows : Follows (λ ts. parameters_at ts) (λ ts. parameters_at ts)
unfolding parameters_at
parameters_follows =
    let names : Reader (List Identifier) = λ ts. elements (λ s r. fresh_name s r) with_name kinds.RightParenthesis
    (suc (length ts)) [] ts in
    binds (λ ts. expect kinds.LeftParenthesis ts) (λ ts. expect kinds.LeftParenthesis ts) (λ o ts. names ts)
    (λ o ts. names ts) (expect_follows kinds.LeftParenthesis)
    (λ o. elements_follows (λ s r. fresh_name s r) (λ s r. fresh_name s r)
    with_name kinds.RightParenthesis fresh_follows
    (λ s. shortens (λ r. fresh_name s r) (λ r. fresh_name s r) (fresh_follows s)) [])

pub items_at_follows : (b c : Below)
    → Pair b c
    → (context : StatementContext) (taken : List Identifier)
    → Follows (λ ts. items_at b context taken ts) (λ ts. items_at c context taken ts)
unfolding items_at
items_at_follows b c p context taken =
    makes (λ ts. items (λ names r. b.item context names r) with_declared (suc (length ts)) taken ts)
    (λ ts. items (λ names r. c.item context names r) with_declared (suc (length ts)) taken ts) statements
    (items_follows (λ names r. b.item context names r) (λ names r. c.item context names r) with_declared
    (λ names. p.both.item context names) (λ names. p.takes context names) taken)

pub braces_follows : (b c : Below)
    → Pair b c
    → (context : StatementContext) (taken : List Identifier)
    → Follows (λ ts. braces b context taken ts) (λ ts. braces c context taken ts)
unfolding braces
braces_follows b c p context taken =
    let ended_left : Reader trees.Statements = λ ts. items_at b context taken ts >>= λ x. expect kinds.RightBrace x.1
    >>= λ y. Ok
    (x.0, y.1) in
    let ended_right : Reader trees.Statements = λ ts. items_at c context taken ts >>= λ x. expect kinds.RightBrace x.1
    >>= λ y. Ok
    (x.0, y.1) in
    binds (λ ts. expect kinds.LeftBrace ts) (λ ts. expect kinds.LeftBrace ts) (λ o ts. ended_left ts)
    (λ o ts. ended_right ts) (expect_follows kinds.LeftBrace)
    (λ o. binds (λ ts. items_at b context taken ts) (λ ts. items_at c context taken ts)
    (λ ss ts. expect kinds.RightBrace ts >>= λ y. Ok (ss, y.1))
    (λ ss ts. expect kinds.RightBrace ts >>= λ y. Ok (ss, y.1)) (items_at_follows b c p context taken)
    (λ ss. makes (λ ts. expect kinds.RightBrace ts) (λ ts. expect kinds.RightBrace ts) (λ y. ss)
    (expect_follows kinds.RightBrace)))

abbrev pub code_of : List Identifier → trees.Statements → ParametersAndBody
code_of ps body = record { parameters = ps; body = body }

pub code_follows : (b c : Below) → Pair b c → Follows (λ ts. code_at b ts) (λ ts. code_at c ts)
unfolding code_at
code_follows b c p =
    binds (λ ts. parameters_at ts) (λ ts. parameters_at ts)
    (λ ps ts. braces b function_body (with_names [] ps) ts >>= λ y. Ok (code_of ps y.0, y.1))
    (λ ps ts. braces c function_body (with_names [] ps) ts >>= λ y. Ok (code_of ps y.0, y.1)) parameters_follows
    (λ ps. makes (λ ts. braces b function_body (with_names [] ps) ts)
    (λ ts. braces c function_body (with_names [] ps) ts) (code_of ps)
    (braces_follows b c p function_body (with_names [] ps)))

-- ---- declared names

pub initializer_follows : (b c : Below)
    → Pair b c
    → (constant : Bool) (n : Identifier)
    → Follows (λ ts. initializer_by b constant n (is_kind kinds.Assign (head_of ts)) ts)
    (λ ts. initializer_by c constant n (is_kind kinds.Assign (head_of ts)) ts)
initializer_follows b c p constant n =
    peeks (λ o. is_kind kinds.Assign o) (λ v ts. initializer_by b constant n v ts)
    (λ v ts. initializer_by c constant n v ts) (elim [
      | true ↦ makes (λ ts. b.assignment (tail_of ts)) (λ ts. c.assignment (tail_of ts))
          (λ e. trees.declarator n (trees.present e)) (past b.assignment c.assignment p.both.assignment)
      | false ↦ without constant
    ])
  where
    without : (constant : Bool)
        → Follows (λ ts. initializer_by b constant n false ts) (λ ts. initializer_by c constant n false ts)
    without true = sticks
    without false = gives (trees.declarator n trees.omitted)

pub declarator_follows : (b c : Below)
    → Pair b c
    → (constant : Bool) (taken : List Identifier)
    → Follows (λ ts. declarator_at b constant taken ts) (λ ts. declarator_at c constant taken ts)
unfolding declarator_at
declarator_follows b c p constant taken =
    binds (λ ts. fresh_name taken ts) (λ ts. fresh_name taken ts)
    (λ n ts. initializer_by b constant n (is_kind kinds.Assign (head_of ts)) ts)
    (λ n ts. initializer_by c constant n (is_kind kinds.Assign (head_of ts)) ts) (fresh_follows taken)
    (λ n. initializer_follows b c p constant n)

pub declarators_follows : (b c : Below)
    → Pair b c
    → (constant : Bool) (taken : List Identifier)
    → Follows (λ ts. declarators_at b constant taken ts) (λ ts. declarators_at c constant taken ts)
unfolding declarators_at
declarators_follows b c p constant taken =
    let left : Declarator
    → Reader (List Declarator) = λ d ts. others (λ names r. declarator_at b constant names r) with_declarator
    (suc (length ts)) (with_declarator taken d) ts in
    let right : Declarator
    → Reader (List Declarator) = λ d ts. others (λ names r. declarator_at c constant names r) with_declarator
    (suc (length ts)) (with_declarator taken d) ts in
    binds (λ ts. declarator_at b constant taken ts) (λ ts. declarator_at c constant taken ts)
    (λ d ts. left d ts >>= λ y. Ok (trees.a_declarator d (declarators y.0), y.1))
    (λ d ts. right d ts >>= λ y. Ok (trees.a_declarator d (declarators y.0), y.1))
    (declarator_follows b c p constant taken)
    (λ d. makes (left d) (right d) (λ ds. trees.a_declarator d (declarators ds))
    (others_follows (λ names r. declarator_at b constant names r) (λ names r. declarator_at c constant names r)
    with_declarator (λ names. declarator_follows b c p constant names)
    (λ names. shortens (λ r. declarator_at c constant names r) (λ r. declarator_at c constant names r)
    (declarator_follows c c (on_right b c p) constant names))
    (with_declarator taken d)))

-- ---- expressions with what ends them

pub optional_follows : (b c : Below)
    → Pair b c
    → (closer : TokenKind)
    → Follows (λ ts. optional_before b closer ts) (λ ts. optional_before c closer ts)
unfolding optional_before
optional_follows b c p closer =
    peeks (λ o. is_kind closer o) (λ v ts. optional_by b closer v ts) (λ v ts. optional_by c closer v ts) (elim [
      | true ↦ past (λ ts. Ok (trees.omitted, ts)) (λ ts. Ok (trees.omitted, ts)) (gives trees.omitted)
      | false ↦ binds b.expression c.expression (λ e ts. expect closer ts >>= λ y. Ok (trees.present e, y.1))
          (λ e ts. expect closer ts >>= λ y. Ok (trees.present e, y.1)) p.both.expression
          (λ e. makes (λ ts. expect closer ts) (λ ts. expect closer ts) (λ y. trees.present e) (expect_follows closer))
    ])

pub ended_follows : (b c : Below) → Pair b c → Follows (λ ts. ended_expression b ts) (λ ts. ended_expression c ts)
unfolding ended_expression
ended_follows b c p =
    binds b.expression c.expression (λ e ts. semicolon_at (after_expression (edge e)) ts >>= λ y. Ok (e, y.1))
    (λ e ts. semicolon_at (after_expression (edge e)) ts >>= λ y. Ok (e, y.1)) p.both.expression
    (λ e. makes (λ ts. semicolon_at (after_expression (edge e)) ts) (λ ts. semicolon_at (after_expression (edge e)) ts)
    (λ y. e) (semicolon_follows (after_expression (edge e))))

-- ---- productions

pub item_follows : (b c : Below) → Pair b c → (i : Piece) → Follows (λ ts. item b i ts) (λ ts. item c i ts)
item_follows b c p (tok k) = expect_follows k
item_follows b c p (near k) = expect_near_follows k
item_follows b c p a_name = name_follows
item_follows b c p (the_name n) = this_name_follows n
item_follows b c p an_assignment = p.both.assignment
item_follows b c p an_expression = p.both.expression
item_follows b c p (optional k) = optional_follows b c p k
item_follows b c p (arguments k) = arguments_follows b c p k
item_follows b c p ended = ended_follows b c p
item_follows b c p (an_end end) = semicolon_follows end
item_follows b c p (declared constant taken) = declarators_follows b c p constant taken
item_follows b c p (a_statement context) = p.both.statement context
item_follows b c p (a_block context taken) = p.both.block context taken
item_follows b c p (in_braces context taken) = braces_follows b c p context taken
item_follows b c p code = code_follows b c p

-- the law of productions
pub seq_follows : (b c : Below) → Pair b c → (is : List Piece) → Follows (λ ts. seq b is ts) (λ ts. seq c is ts)
seq_follows b c p [] = gives tt
seq_follows b c p (i ∷ is) =
    binds (λ ts. item b i ts) (λ ts. item c i ts) (λ v ts. seq b is ts >>= λ y. Ok ((v, y.0), y.1))
    (λ v ts. seq c is ts >>= λ y. Ok ((v, y.0), y.1)) (item_follows b c p i)
    (λ v. makes (λ ts. seq b is ts) (λ ts. seq c is ts) (λ vs. (v, vs)) (seq_follows b c p is))

pub made_follows : {A : Type 0} (b c : Below)
    → Pair b c
    → (is : List Piece) (make : PieceValues is → A)
    → Follows (λ ts. made b is make ts) (λ ts. made c is make ts)
made_follows b c p is make = makes (λ ts. seq b is ts) (λ ts. seq c is ts) make (seq_follows b c p is)
