-- Where a tree would be too deep: lists, names and productions, where what reads below them keeps it.
use Rattle.std.proofs.Common.{◌≡◌, ℕ, zero, suc, ◌≤◌, Bool, true, false, cond, List, [], ◌∷◌, length, Ok, Err, arith}
use Rattle.js_lexer.specs.declared.token.TokenKind.{TokenKind}
use Rattle.js_lexer.specs.declared.token.TokenKind.TheVariants as kinds
use Rattle.js_tree.specs.Trees as trees
use Rattle.js_tree.specs.Trees.{Identifier, Declarator}
use Rattle.js_parser_language.specs.Tokens.{Token, StatementEnd, after_expression, absent, head_of, tail_of, is_on_line}
use Rattle.js_parser_language.specs.Flat.{edge}
use Rattle.js_parser_language.specs.Well.{StatementContext, function_body, is_among}
use Rattle.js_tree.specs.Views.{expressions, statements, declarators}
use Rattle.js_parser_language.specs.Kinds.{is_kind}
use Rattle.js_parser_readers.specs.Classes.{is_name}
use Rattle.js_parser_readers.specs.Reading.{stuck, deep, Reader, ◌>>=◌, expect, expect_near, text_of, name_at, fresh_name, is_word_next, word_at, semicolon_at, goes_on, ends, neither, after, go_after, elements_by, elements, others_by, others, ends_list, items_by, items, no_state, with_name, with_names}
use Rattle.js_parser_readers.specs.Productions.{Below, one_of, arguments_before, more_assignments, parameters_at, with_declared, items_at, braces, code_at, initializer_by, declarator_at, with_declarator, declarators_at, optional_by, optional_before, ended_expression, Piece, tok, near, a_name, the_name, an_assignment, an_expression, optional, arguments, ended, an_end, declared, a_statement, a_block, in_braces, code, PieceValues, expect_name, item, seq, made}
use Rattle.js_parser_laws.proofs.Follows.Tools.{Follows, Takes, past, shortens}
use Rattle.js_parser_laws.proofs.Follows.Parts.{Pair, next_by, code_of, expect_follows, fresh_follows, semicolon_follows, elements_body, elements_local, elements_turns, elements_follows, go_after_follows, others_body, others_local, others_turns, others_follows, items_body, items_local, items_turns, items_follows, parameters_follows, items_at_follows, braces_follows, declarator_follows, item_follows, seq_follows}
use Rattle.js_parser_laws.proofs.Deep.Tools.{Deepens, DeepensOn, on, quiet, deep_gives, deep_sticks, deep_past, deep_past_on, deep_peeks, deep_peeks_all, deep_token, deep_binds, deep_then, deep_makes, deep_loops}

-- what reads below keeps it
pub record DeepBelow (b : Below) : Type 0 where
  pub assignment : (n : ℕ) → Deepens n b.assignment
  pub expression : (n : ℕ) → Deepens n b.expression
  pub operation : (n m : ℕ) → Deepens n (λ ts. b.operation m ts)
  pub unary : (n : ℕ) → Deepens n b.unary
  pub call : (n : ℕ) → Deepens n b.call
  pub statement : (n : ℕ) (context : StatementContext) → Deepens n (λ ts. b.statement context ts)
  pub item : (n : ℕ) (context : StatementContext) (taken : List Identifier) → Deepens n (λ ts. b.item context taken ts)
  pub block : (n : ℕ) (context : StatementContext) (taken : List Identifier) → Deepens n (λ ts. b.block context taken ts)
  pub function : (n : ℕ) → Deepens n b.function

-- ---- single tokens

next_quiet : {A : Type 0} (value : A) (v : Bool) (ts : List Token) (j : ℕ) → next_by value v ts ≡ Err (deep j) → ⊥
next_quiet value true ts j e = absurd cc
next_quiet value false ts j e = absurd cc

pub expect_quiet : (k : TokenKind) (ts : List Token) (j : ℕ) → expect k ts ≡ Err (deep j) → ⊥
unfolding expect
expect_quiet k ts j e = next_quiet tt (is_kind k (head_of ts)) ts j e

pub expect_deepens : (n : ℕ) (k : TokenKind) → Deepens n (λ ts. expect k ts)
expect_deepens n k = quiet n (λ ts. expect k ts) (expect_quiet k)

pub expect_near_deepens : (n : ℕ) (k : TokenKind) → Deepens n (λ ts. expect_near k ts)
unfolding expect_near
expect_near_deepens n k = quiet n (λ ts. expect_near k ts) (λ ts j e. by_line ts (is_on_line (head_of ts)) j e)
  where
    by_line : (ts : List Token) (v : Bool) (j : ℕ) → cond v (expect k ts) (Err (stuck (length ts))) ≡ Err (deep j) → ⊥
    by_line ts true j e = expect_quiet k ts j e
    by_line ts false j e = absurd cc

name_quiet : (ts : List Token) (j : ℕ) → name_at ts ≡ Err (deep j) → ⊥
unfolding name_at
name_quiet ts j e = next_quiet (text_of (head_of ts)) (is_kind kinds.Name (head_of ts)) ts j e

pub name_deepens : (n : ℕ) → Deepens n (λ ts. name_at ts)
name_deepens n = quiet n (λ ts. name_at ts) name_quiet

pub fresh_deepens : (n : ℕ) (taken : List Identifier) → Deepens n (λ ts. fresh_name taken ts)
unfolding fresh_name
fresh_deepens n taken =
    quiet n (λ ts. fresh_name taken ts) (λ ts j e. by_taken ts (is_among taken (text_of (head_of ts))) j e)
  where
    by_taken : (ts : List Token) (v : Bool) (j : ℕ) → cond v (Err (stuck (length ts))) (name_at ts) ≡ Err (deep j) → ⊥
    by_taken ts true j e = absurd cc
    by_taken ts false j e = name_quiet ts j e

pub word_deepens : (n : ℕ) → Deepens n (λ ts. word_at ts)
unfolding word_at
word_deepens n =
    quiet n (λ ts. word_at ts) (λ ts j e. next_quiet (text_of (head_of ts)) (is_word_next (head_of ts)) ts j e)

pub this_name_deepens : (n : ℕ) (s : List ℕ) → Deepens n (λ ts. expect_name s ts)
unfolding expect_name
this_name_deepens n s = quiet n (λ ts. expect_name s ts) (λ ts j e. next_quiet tt (is_name s (head_of ts)) ts j e)

abbrev a_semicolon : Bool → Bool → Reader (Unit {0})
a_semicolon v w ts = cond v (Ok (tt, tail_of ts)) (cond w (Ok (tt, ts)) (Err (stuck (length ts))))

semicolon_quiet : (v w : Bool) (ts : List Token) (j : ℕ) → a_semicolon v w ts ≡ Err (deep j) → ⊥
semicolon_quiet true w ts j e = absurd cc
semicolon_quiet false true ts j e = absurd cc
semicolon_quiet false false ts j e = absurd cc

pub semicolon_deepens : (n : ℕ) (end : StatementEnd) → Deepens n (λ ts. semicolon_at end ts)
unfolding semicolon_at
semicolon_deepens n end =
    quiet n (λ ts. semicolon_at end ts)
    (λ ts j e. semicolon_quiet (is_kind kinds.Semicolon (head_of ts)) (absent end (head_of ts)) ts j e)

-- ---- lists

go_after_deepens : {A : Type 0} (n : ℕ) (closer : TokenKind) (go : Reader (List A))
    → ((m : ℕ) → suc m ≤ n → Deepens m go)
    → Deepens n (λ ts. go_after go (after closer (head_of ts)) ts)
go_after_deepens n closer go q =
    deep_peeks n (λ o. after closer o) (λ a ts. go_after go a ts) (λ j e. absurd cc) (elim [
      | goes_on ↦ deep_past_on n go q
      | ends ↦ on n (λ ts. Ok ([], tail_of ts)) (deep_token n [])
      | neither ↦ on n (λ ts. Err (stuck (length ts))) (deep_sticks n)
    ])

pub elements_deepens : {S A : Type 0} (one : S → Reader A) (next : S → A → S) (closer : TokenKind)
    → ((s : S) → Follows (one s) (one s))
    → ((n : ℕ) (s : S) → Deepens n (one s))
    → (n : ℕ) (s : S)
    → Deepens n (λ ts. elements one next closer (suc (length ts)) s ts)
elements_deepens {S} {A} one next closer h d n s =
    deep_loops (elements_body one next closer) (λ k s ts. elements one next closer k s ts)
    (elements_turns one next closer) (elements_local one next closer (λ s. shortens (one s) (one s) (h s)))
    turn n s
  where
    go : S → Reader (List A)
    go s ts = elements one next closer (suc (length ts)) s ts

    turn : (n : ℕ)
        → ((m : ℕ) → suc m ≤ n → (s : S) → Deepens m (λ ts. go s ts))
        → (s : S)
        → Deepens n (elements_body one next closer go s)
    turn n q s = deep_peeks_all n (λ o. is_kind closer o) (λ c ts. elements_by one next go closer s c ts) (elim [
      | true ↦ deep_token n []
      | false ↦ deep_then n (one s)
          (λ a ts. go_after (go (next s a)) (after closer (head_of ts)) ts >>= λ y. Ok (a ∷ y.0, y.1)) (h s) (d n s)
          (λ a. deep_makes n (λ ts. go_after (go (next s a)) (after closer (head_of ts)) ts) (λ ys. a ∷ ys)
          (go_after_follows closer (go (next s a)) (go (next s a))
          (elements_follows one one next closer h (λ s. shortens (one s) (one s) (h s)) (next s a)))
          (go_after_deepens n closer (go (next s a)) (λ m l. q m l (next s a))))
    ])

pub others_deepens : {S A : Type 0} (one : S → Reader A) (next : S → A → S)
    → ((s : S) → Follows (one s) (one s))
    → ((n : ℕ) (s : S) → Deepens n (one s))
    → (n : ℕ) (s : S)
    → Deepens n (λ ts. others one next (suc (length ts)) s ts)
others_deepens {S} {A} one next h d n s =
    deep_loops (others_body one next) (λ k s ts. others one next k s ts) (others_turns one next)
    (others_local one next (λ s. shortens (one s) (one s) (h s))) turn n s
  where
    go : S → Reader (List A)
    go s ts = others one next (suc (length ts)) s ts

    turn : (n : ℕ)
        → ((m : ℕ) → suc m ≤ n → (s : S) → Deepens m (λ ts. go s ts))
        → (s : S)
        → Deepens n (others_body one next go s)
    turn n q s =
        deep_peeks n (λ o. is_kind kinds.Comma o) (λ c ts. others_by one next go s c ts) (λ j e. absurd cc) (elim [
          | true ↦ deep_past_on n (λ us. one s us >>= λ x. go (next s x.0) x.1 >>= λ y. Ok (x.0 ∷ y.0, y.1))
              (λ m l. deep_then m (one s) (λ a us. go (next s a) us >>= λ y. Ok (a ∷ y.0, y.1)) (h s) (d m s)
              (λ a. deep_makes m (go (next s a)) (λ ys. a ∷ ys)
              (others_follows one one next h (λ s. shortens (one s) (one s) (h s)) (next s a)) (q m l (next s a))))
          | false ↦ on n (λ ts. Ok ([], ts)) (deep_gives n [])
        ])

pub items_deepens : {S A : Type 0} (one : S → Reader A) (next : S → A → S)
    → ((s : S) → Follows (one s) (one s))
    → ((s : S) → Takes (one s))
    → ((n : ℕ) (s : S) → Deepens n (one s))
    → (n : ℕ) (s : S)
    → Deepens n (λ ts. items one next (suc (length ts)) s ts)
items_deepens {S} {A} one next h takes d n s =
    deep_loops (items_body one next) (λ k s ts. items one next k s ts) (items_turns one next)
    (items_local one next takes) turn n s
  where
    go : S → Reader (List A)
    go s ts = items one next (suc (length ts)) s ts

    less : (m : ℕ) (s : S) (ts : List Token) (x : A × List Token) → length ts ≤ suc m → one s ts ≡ Ok x → length x.1 ≤ m
    less m s ts x l e = omega (arith, takes s ts x e)

    by_bound : (n : ℕ)
        → ((m : ℕ) → suc m ≤ n → (s : S) → Deepens m (λ ts. go s ts))
        → (s : S)
        → DeepensOn n (λ ts. one s ts >>= λ x. go (next s x.0) x.1 >>= λ y. Ok (x.0 ∷ y.0, y.1))
    by_bound zero q s = record { at = λ t ts l j e. absurd (omega arith) }
    by_bound (suc m) q s = on (suc m) (λ ts. one s ts >>= λ x. go (next s x.0) x.1 >>= λ y. Ok (x.0 ∷ y.0, y.1))
        (deep_binds (suc m) m (one s) (λ a ts. go (next s a) ts >>= λ y. Ok (a ∷ y.0, y.1)) (h s) (less m s)
        (d (suc m) s)
        (λ a. deep_makes m (go (next s a)) (λ ys. a ∷ ys) (items_follows one one next h takes (next s a))
        (q m (omega arith) (next s a))))

    turn : (n : ℕ)
        → ((m : ℕ) → suc m ≤ n → (s : S) → Deepens m (λ ts. go s ts))
        → (s : S)
        → Deepens n (items_body one next go s)
    turn n q s = deep_peeks n ends_list (λ c ts. items_by one next go s c ts) (λ j e. absurd cc) (elim [
      | true ↦ on n (λ ts. Ok ([], ts)) (deep_gives n [])
      | false ↦ by_bound n q s
    ])

-- ---- lists of trees

pub arguments_deepens : (b : Below)
    → Pair b b
    → DeepBelow b
    → (n : ℕ) (closer : TokenKind)
    → Deepens n (λ ts. arguments_before b closer ts)
unfolding arguments_before
arguments_deepens b p d n closer =
    deep_makes n (λ ts. elements (one_of b.assignment) no_state closer (suc (length ts)) tt ts) expressions
    (elements_follows (one_of b.assignment) (one_of b.assignment) no_state closer (λ s. p.both.assignment)
    (λ s. shortens b.assignment b.assignment p.both.assignment) tt)
    (elements_deepens (one_of b.assignment) no_state closer (λ s. p.both.assignment) (λ n s. d.assignment n) n tt)

pub more_assignments_deepens : (b : Below) → Pair b b → DeepBelow b → (n : ℕ) → Deepens n (λ ts. more_assignments b ts)
unfolding more_assignments
more_assignments_deepens b p d n =
    deep_makes n (λ ts. others (one_of b.assignment) no_state (suc (length ts)) tt ts) expressions
    (others_follows (one_of b.assignment) (one_of b.assignment) no_state (λ s. p.both.assignment)
    (λ s. shortens b.assignment b.assignment p.both.assignment) tt)
    (others_deepens (one_of b.assignment) no_state (λ s. p.both.assignment) (λ n s. d.assignment n) n tt)

pub parameters_deepens : (n : ℕ) → Deepens n (λ ts. parameters_at ts)
unfolding parameters_at
parameters_deepens n =
    deep_then n (λ ts. expect kinds.LeftParenthesis ts)
    (λ o ts. elements (λ s r. fresh_name s r) with_name kinds.RightParenthesis (suc (length ts)) [] ts)
    (expect_follows kinds.LeftParenthesis) (expect_deepens n kinds.LeftParenthesis)
    (λ o. elements_deepens (λ s r. fresh_name s r) with_name kinds.RightParenthesis fresh_follows
    (λ n s. fresh_deepens n s) n [])

pub items_at_deepens : (b : Below)
    → Pair b b
    → DeepBelow b
    → (n : ℕ) (context : StatementContext) (taken : List Identifier)
    → Deepens n (λ ts. items_at b context taken ts)
unfolding items_at
items_at_deepens b p d n context taken =
    deep_makes n (λ ts. items (λ names r. b.item context names r) with_declared (suc (length ts)) taken ts) statements
    (items_follows (λ names r. b.item context names r) (λ names r. b.item context names r) with_declared
    (λ names. p.both.item context names) (λ names. p.takes context names) taken)
    (items_deepens (λ names r. b.item context names r) with_declared (λ names. p.both.item context names)
    (λ names. p.takes context names) (λ n names. d.item n context names) n taken)

pub braces_deepens : (b : Below)
    → Pair b b
    → DeepBelow b
    → (n : ℕ) (context : StatementContext) (taken : List Identifier)
    → Deepens n (λ ts. braces b context taken ts)
unfolding braces
braces_deepens b p d n context taken =
    deep_then n (λ ts. expect kinds.LeftBrace ts)
    (λ o ts. items_at b context taken ts >>= λ x. expect kinds.RightBrace x.1 >>= λ y. Ok (x.0, y.1))
    (expect_follows kinds.LeftBrace) (expect_deepens n kinds.LeftBrace)
    (λ o. deep_then n (λ ts. items_at b context taken ts) (λ ss ts. expect kinds.RightBrace ts >>= λ y. Ok (ss, y.1))
    (items_at_follows b b p context taken) (items_at_deepens b p d n context taken)
    (λ ss. deep_makes n (λ ts. expect kinds.RightBrace ts) (λ y. ss) (expect_follows kinds.RightBrace)
    (expect_deepens n kinds.RightBrace)))

pub code_deepens : (b : Below) → Pair b b → DeepBelow b → (n : ℕ) → Deepens n (λ ts. code_at b ts)
unfolding code_at
code_deepens b p d n =
    deep_then n (λ ts. parameters_at ts)
    (λ ps ts. braces b function_body (with_names [] ps) ts >>= λ y. Ok (code_of ps y.0, y.1)) parameters_follows
    (parameters_deepens n)
    (λ ps. deep_makes n (λ ts. braces b function_body (with_names [] ps) ts) (code_of ps)
    (braces_follows b b p function_body (with_names [] ps))
    (braces_deepens b p d n function_body (with_names [] ps)))

-- ---- declared names

pub initializer_deepens : (b : Below)
    → Pair b b
    → DeepBelow b
    → (n : ℕ) (constant : Bool) (s : Identifier)
    → Deepens n (λ ts. initializer_by b constant s (is_kind kinds.Assign (head_of ts)) ts)
initializer_deepens b p d n constant s =
    deep_peeks_all n (λ o. is_kind kinds.Assign o) (λ v ts. initializer_by b constant s v ts) (elim [
      | true ↦ deep_makes n (λ ts. b.assignment (tail_of ts)) (λ e. trees.declarator s (trees.present e))
          (past b.assignment b.assignment p.both.assignment) (deep_past n b.assignment (d.assignment n))
      | false ↦ without constant
    ])
  where
    without : (constant : Bool) → Deepens n (λ ts. initializer_by b constant s false ts)
    without true = deep_sticks n
    without false = deep_gives n (trees.declarator s trees.omitted)

pub declarator_deepens : (b : Below)
    → Pair b b
    → DeepBelow b
    → (n : ℕ) (constant : Bool) (taken : List Identifier)
    → Deepens n (λ ts. declarator_at b constant taken ts)
unfolding declarator_at
declarator_deepens b p d n constant taken =
    deep_then n (λ ts. fresh_name taken ts) (λ s ts. initializer_by b constant s (is_kind kinds.Assign (head_of ts)) ts)
    (fresh_follows taken) (fresh_deepens n taken) (λ s. initializer_deepens b p d n constant s)

pub declarators_deepens : (b : Below)
    → Pair b b
    → DeepBelow b
    → (n : ℕ) (constant : Bool) (taken : List Identifier)
    → Deepens n (λ ts. declarators_at b constant taken ts)
unfolding declarators_at
declarators_deepens b p d n constant taken =
    let more : Declarator
    → Reader (List Declarator) = λ c ts. others (λ names r. declarator_at b constant names r) with_declarator
    (suc (length ts)) (with_declarator taken c) ts in
    deep_then n (λ ts. declarator_at b constant taken ts)
    (λ c ts. more c ts >>= λ y. Ok (trees.a_declarator c (declarators y.0), y.1))
    (declarator_follows b b p constant taken) (declarator_deepens b p d n constant taken)
    (λ c. deep_makes n (more c) (λ ds. trees.a_declarator c (declarators ds))
    (others_follows (λ names r. declarator_at b constant names r) (λ names r. declarator_at b constant names r)
    with_declarator (λ names. declarator_follows b b p constant names)
    (λ names. shortens (λ r. declarator_at b constant names r) (λ r. declarator_at b constant names r)
    (declarator_follows b b p constant names))
    (with_declarator taken c))
    (others_deepens (λ names r. declarator_at b constant names r) with_declarator
    (λ names. declarator_follows b b p constant names) (λ n names. declarator_deepens b p d n constant names) n
    (with_declarator taken c)))

-- ---- expressions with what ends them

pub optional_deepens : (b : Below)
    → Pair b b
    → DeepBelow b
    → (n : ℕ) (closer : TokenKind)
    → Deepens n (λ ts. optional_before b closer ts)
unfolding optional_before
optional_deepens b p d n closer = deep_peeks_all n (λ o. is_kind closer o) (λ v ts. optional_by b closer v ts) (elim [
  | true ↦ deep_token n trees.omitted
  | false ↦ deep_then n b.expression (λ e ts. expect closer ts >>= λ y. Ok (trees.present e, y.1)) p.both.expression
      (d.expression n)
      (λ e. deep_makes n (λ ts. expect closer ts) (λ y. trees.present e) (expect_follows closer)
      (expect_deepens n closer))
])

pub ended_deepens : (b : Below) → Pair b b → DeepBelow b → (n : ℕ) → Deepens n (λ ts. ended_expression b ts)
unfolding ended_expression
ended_deepens b p d n =
    deep_then n b.expression (λ e ts. semicolon_at (after_expression (edge e)) ts >>= λ y. Ok (e, y.1))
    p.both.expression (d.expression n)
    (λ e. deep_makes n (λ ts. semicolon_at (after_expression (edge e)) ts) (λ y. e)
    (semicolon_follows (after_expression (edge e))) (semicolon_deepens n (after_expression (edge e))))

-- ---- productions

pub item_deepens : (b : Below) → Pair b b → DeepBelow b → (n : ℕ) (i : Piece) → Deepens n (λ ts. item b i ts)
item_deepens b p d n (tok k) = expect_deepens n k
item_deepens b p d n (near k) = expect_near_deepens n k
item_deepens b p d n a_name = name_deepens n
item_deepens b p d n (the_name s) = this_name_deepens n s
item_deepens b p d n an_assignment = d.assignment n
item_deepens b p d n an_expression = d.expression n
item_deepens b p d n (optional k) = optional_deepens b p d n k
item_deepens b p d n (arguments k) = arguments_deepens b p d n k
item_deepens b p d n ended = ended_deepens b p d n
item_deepens b p d n (an_end end) = semicolon_deepens n end
item_deepens b p d n (declared constant taken) = declarators_deepens b p d n constant taken
item_deepens b p d n (a_statement context) = d.statement n context
item_deepens b p d n (a_block context taken) = d.block n context taken
item_deepens b p d n (in_braces context taken) = braces_deepens b p d n context taken
item_deepens b p d n code = code_deepens b p d n

-- the law of productions
pub seq_deepens : (b : Below) → Pair b b → DeepBelow b → (n : ℕ) (is : List Piece) → Deepens n (λ ts. seq b is ts)
seq_deepens b p d n [] = deep_gives n tt
seq_deepens b p d n (i ∷ is) =
    deep_then n (λ ts. item b i ts) (λ v ts. seq b is ts >>= λ y. Ok ((v, y.0), y.1)) (item_follows b b p i)
    (item_deepens b p d n i)
    (λ v. deep_makes n (λ ts. seq b is ts) (λ vs. (v, vs)) (seq_follows b b p is) (seq_deepens b p d n is))

pub made_deepens : {A : Type 0} (b : Below)
    → Pair b b
    → DeepBelow b
    → (n : ℕ) (is : List Piece) (make : PieceValues is → A)
    → Deepens n (λ ts. made b is make ts)
made_deepens b p d n is make = deep_makes n (λ ts. seq b is ts) make (seq_follows b b p is) (seq_deepens b p d n is)
