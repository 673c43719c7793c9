-- Every reader leaves fewer tokens than it got, or as many where it may read nothing.
use Rattle.std.proofs.Common.{◌≡◌, ℕ, zero, suc, ◌<◌, ◌≤◌, Bool, true, false, List, [], ◌∷◌, length, Option, Some, None, Ok, Err, refl, arith}
use Rattle.std.specs.Prelude.{nat_le, if◌then◌else◌}
use Rattle.js_lexer.specs.declared.token.TokenKind.{TokenKind}
use Rattle.js_lexer.specs.declared.token.TokenKind.TheVariants as kinds
use Rattle.js_parser_language.specs.Tokens.{Token, StatementEnd, after_word, absent, head_of, tail_of, is_on_line}
use Rattle.js_tree.specs.Trees as trees
use Rattle.js_tree.specs.Trees.{Identifier, Expression, Parameters, Key, Handler, Statement}
use Rattle.js_parser_language.specs.Flat.{assign_kind}
use Rattle.js_parser_language.specs.Well.{function_body, StatementContext, is_among, is_property, strength}
use Rattle.js_tree.specs.Targets.{is_target}
use Rattle.js_tree_operators.specs.declared.operator.UnaryOperator.TheVariants as unaries
use Rattle.js_parser_language.specs.Kinds.{is_kind}
use Rattle.js_parser_readers.specs.Reading.{with_names, deep, Read, Reader, ◌>>=◌, expect, expect_near, name_at, fresh_name, word_at, is_word_next, semicolon_at, AfterElement, goes_on, ends, neither, after, go_after, elements, elements_by, others, others_by, items, items_by, ends_list, with_name, no_state}
use Rattle.js_parser_readers.specs.Classes as classes
use Rattle.js_parser_readers.specs.Classes.{PrimaryStart, start, CallTail, link, update_near, prefix, Prefix, operator, Joint, joint, ArrowStart, arrow_head, KeyStart, key_start, AfterKey, after_key, is_shorthand, StatementStart, first, ends_return, ForHead, for_head, is_name}
use Rattle.js_parser_readers.specs.Parsing as parsing
use Rattle.js_parser_readers.specs.Parsing.{if_low}
use Rattle.js_parser_readers.specs.Productions as productions
use Rattle.js_parser_readers.specs.Productions.{tok, a_name, an_assignment, an_expression, arguments, ended, an_end, a_statement, a_block, in_braces, code, Below, Piece, item, seq, made, one_of, arguments_before, more_assignments, names_before, parameters_at, items_at, braces, code_at, initializer_by, declarator_at, declarators_at, with_declarator, with_declared, optional_by, optional_before, ended_expression, expect_name}
use Rattle.js_parser_readers.proofs.LoopStepLemmas.{tail_shorter}

-- what is read leaves fewer than n tokens
abbrev pub Leaves : {A : Type 0} → ℕ → Read A → Type 0
Leaves n (Ok x) = length x.1 < n
Leaves n (Err f) = Unit {0}

-- some token is read
abbrev pub Short : {A : Type 0} → Reader A → Type 0
Short r = (ts : List Token) → Leaves (length ts) (r ts)

-- no token is added
abbrev pub Weak : {A : Type 0} → Reader A → Type 0
Weak r = (ts : List Token) → Leaves (suc (length ts)) (r ts)

after_that : {A B : Type 0} (m n : ℕ) (read : Read A) (f : A × List Token → Read B)
    → Leaves m read
    → ((x : A × List Token) → length x.1 < m → Leaves n (f x))
    → Leaves n (read >>= f)
after_that m n (Ok x) f h g = g x h
after_that m n (Err e) f h g = tt

pub wider : {A : Type 0} (m n : ℕ) (read : Read A) → Leaves m read → m ≤ n → Leaves n read
wider m n (Ok x) h l = omega arith
wider m n (Err e) h l = tt

choose : {A : Type 0} (n : ℕ) (c : Bool) (a b : Read A) → Leaves n a → Leaves n b → Leaves n (if c then a else b)
choose n true a b h k = h
choose n false a b h k = k

-- ---- single tokens

expect_short : (k : TokenKind) → Short (expect k)
unfolding expect
expect_short k [] = tt
expect_short k (t ∷ ts) = choose (length (t ∷ ts)) (is_kind k (Some t)) (Ok (tt, ts)) _ (omega arith) tt

near_short : (k : TokenKind) → Short (expect_near k)
unfolding expect_near
near_short k ts = choose (length ts) (is_on_line (head_of ts)) (expect k ts) _ (expect_short k ts) tt

pub name_short : Short name_at
unfolding name_at
name_short [] = tt
name_short (t ∷ ts) =
    choose (length (t ∷ ts)) (is_kind kinds.Name (Some t)) (Ok (t.string_value, ts)) _ (omega arith) tt

fresh_short : (taken : List Identifier) → Short (fresh_name taken)
unfolding fresh_name
fresh_short taken [] = choose 0 (is_among taken []) _ (name_at []) tt (name_short [])
fresh_short taken (t ∷ ts) =
    choose (length (t ∷ ts)) (is_among taken t.string_value) _ (name_at (t ∷ ts)) tt (name_short (t ∷ ts))

word_short : Short word_at
unfolding word_at
word_short [] = tt
word_short (t ∷ ts) = choose (length (t ∷ ts)) (is_word_next (Some t)) (Ok (t.string_value, ts)) _ (omega arith) tt

semicolon_weak : (end : StatementEnd) → Weak (semicolon_at end)
unfolding semicolon_at
semicolon_weak end ts =
    choose (suc (length ts)) (is_kind kinds.Semicolon (head_of ts)) (Ok (tt, tail_of ts)) _
    (omega (arith, tail_shorter ts))
    (choose (suc (length ts)) (absent end (head_of ts)) (Ok (tt, ts)) _ (omega arith) tt)

the_name_short : (n : List ℕ) → Short (expect_name n)
unfolding expect_name
the_name_short n [] = tt
the_name_short n (t ∷ ts) = choose (length (t ∷ ts)) (is_name n (Some t)) (Ok (tt, ts)) _ (omega arith) tt

-- ---- lists

go_after_leaves : {A : Type 0} (n : ℕ) (go : Reader (List A)) (a : AfterElement) (ts : List Token)
    → length ts < n
    → Weak go
    → Leaves n (go_after go a ts)
go_after_leaves n go goes_on ts l h =
    wider (suc (length (tail_of ts))) n (go (tail_of ts)) (h (tail_of ts)) (omega (arith, tail_shorter ts))
go_after_leaves n go ends ts l h = omega (arith, tail_shorter ts)
go_after_leaves n go neither ts l h = tt

weaken : {A : Type 0} (r : Reader A) → Short r → Weak r
weaken r h ts = wider (length ts) (suc (length ts)) (r ts) (h ts) (omega arith)

elements_rest : {S A : Type 0} (one : S → Reader A) (next : S → A → S) (closer : TokenKind) (go : S → Reader (List A))
    (s : S) (ts : List Token)
    → Short (one s)
    → ((s : S) → Weak (go s))
    → Leaves (length ts) (elements_by one next go closer s false ts)
elements_rest one next closer go s ts h g =
    after_that (length ts) (length ts) (one s ts) _ (h ts)
    (λ x l. after_that (length ts) (length ts) (go_after (go (next s x.0)) (after closer (head_of x.1)) x.1) _
    (go_after_leaves (length ts) (go (next s x.0)) (after closer (head_of x.1)) x.1 l (g (next s x.0)))
    (λ y k. k))

elements_whole : {S A : Type 0} (one : S → Reader A) (next : S → A → S) (closer : TokenKind) (go : S → Reader (List A))
    (s : S) (t : Token) (ts : List Token) (c : Bool)
    → Short (one s)
    → ((s : S) → Weak (go s))
    → Leaves (length (t ∷ ts)) (elements_by one next go closer s c (t ∷ ts))
elements_whole one next closer go s t ts true h g = omega arith
elements_whole one next closer go s t ts false h g = elements_rest one next closer go s (t ∷ ts) h g

elements_short : {S A : Type 0} (one : S → Reader A) (next : S → A → S) (closer : TokenKind)
    → ((s : S) → Short (one s))
    → (k : ℕ) (s : S)
    → Short (elements one next closer k s)
unfolding elements
elements_short one next closer h zero s ts = tt
elements_short one next closer h (suc k) s [] =
    elements_rest one next closer (λ s r. elements one next closer k s r) s [] (h s)
    (λ s. weaken (elements one next closer k s) (elements_short one next closer h k s))
elements_short one next closer h (suc k) s (t ∷ ts) =
    elements_whole one next closer (λ s r. elements one next closer k s r) s t ts (is_kind closer (Some t)) (h s)
    (λ s. weaken (elements one next closer k s) (elements_short one next closer h k s))

others_rest : {S A : Type 0} (one : S → Reader A) (next : S → A → S) (go : S → Reader (List A)) (s : S)
    (ts : List Token) (c : Bool)
    → Short (one s)
    → ((s : S) → Weak (go s))
    → Leaves (suc (length ts)) (others_by one next go s c ts)
others_rest one next go s ts false h g = omega arith
others_rest one next go s ts true h g =
    after_that (length (tail_of ts)) (suc (length ts)) (one s (tail_of ts)) _ (h (tail_of ts))
    (λ x l. after_that (suc (length x.1)) (suc (length ts)) (go (next s x.0) x.1) _ (g (next s x.0) x.1)
    (λ y k. omega (arith, tail_shorter ts)))

others_weak : {S A : Type 0} (one : S → Reader A) (next : S → A → S)
    → ((s : S) → Short (one s))
    → (k : ℕ) (s : S)
    → Weak (others one next k s)
unfolding others
others_weak one next h zero s ts = tt
others_weak one next h (suc k) s ts =
    others_rest one next (λ s r. others one next k s r) s ts (is_kind kinds.Comma (head_of ts)) (h s)
    (λ s. others_weak one next h k s)

items_rest : {S A : Type 0} (one : S → Reader A) (next : S → A → S) (go : S → Reader (List A)) (s : S) (ts : List Token)
    (c : Bool)
    → Short (one s)
    → ((s : S) → Weak (go s))
    → Leaves (suc (length ts)) (items_by one next go s c ts)
items_rest one next go s ts true h g = omega arith
items_rest one next go s ts false h g =
    after_that (length ts) (suc (length ts)) (one s ts) _ (h ts)
    (λ x l. after_that (suc (length x.1)) (suc (length ts)) (go (next s x.0) x.1) _ (g (next s x.0) x.1)
    (λ y k. omega arith))

items_weak : {S A : Type 0} (one : S → Reader A) (next : S → A → S)
    → ((s : S) → Short (one s))
    → (k : ℕ) (s : S)
    → Weak (items one next k s)
unfolding items
items_weak one next h zero s ts = tt
items_weak one next h (suc k) s ts =
    items_rest one next (λ s r. items one next k s r) s ts (ends_list (head_of ts)) (h s)
    (λ s. items_weak one next h k s)

-- ---- what reads below a node

pub record ShortBelow (b : Below) : Type 0 where
  pub assignment : Short b.assignment
  pub expression : Short b.expression
  pub operation : (m : ℕ) → Short (b.operation m)
  pub unary : Short b.unary
  pub call : Short b.call
  pub statement : (c : StatementContext) → Short (b.statement c)
  pub item : (c : StatementContext) (taken : List Identifier) → Short (b.item c taken)
  pub block : (c : StatementContext) (taken : List Identifier) → Short (b.block c taken)
  pub function : Short b.function

-- ---- productions

arguments_short : (b : Below) (h : ShortBelow b) (closer : TokenKind) → Short (arguments_before b closer)
unfolding arguments_before
arguments_short b h closer ts =
    after_that (length ts) (length ts) _ _
    (elements_short (one_of b.assignment) no_state closer (λ s. h.assignment) (suc (length ts)) tt ts) (λ x l. l)

more_weak : (b : Below) (h : ShortBelow b) → Weak (more_assignments b)
unfolding more_assignments
more_weak b h ts =
    after_that (suc (length ts)) (suc (length ts)) _ _
    (others_weak (one_of b.assignment) no_state (λ s. h.assignment) (suc (length ts)) tt ts) (λ x l. l)

names_short : Short names_before
unfolding names_before
names_short ts =
    elements_short (one_of name_at) no_state kinds.RightParenthesis (λ s. name_short) (suc (length ts)) tt ts

parameters_short : Short parameters_at
unfolding parameters_at
parameters_short ts =
    after_that (length ts) (length ts) (expect kinds.LeftParenthesis ts) _ (expect_short kinds.LeftParenthesis ts)
    (λ o l. wider (length o.1) (length ts) _
    (elements_short fresh_name with_name kinds.RightParenthesis fresh_short (suc (length o.1)) [] o.1)
    (omega arith))

items_at_weak : (b : Below) (h : ShortBelow b) (c : StatementContext) (taken : List Identifier) → Weak (items_at b c taken)
unfolding items_at
items_at_weak b h c taken ts =
    after_that (suc (length ts)) (suc (length ts)) _ _
    (items_weak (λ names r. b.item c names r) with_declared (h.item c) (suc (length ts)) taken ts) (λ x l. l)

braces_short : (b : Below) (h : ShortBelow b) (c : StatementContext) (taken : List Identifier) → Short (braces b c taken)
unfolding braces
braces_short b h c taken ts =
    after_that (length ts) (length ts) (expect kinds.LeftBrace ts) _ (expect_short kinds.LeftBrace ts)
    (λ o l. after_that (suc (length o.1)) (length ts) (items_at b c taken o.1) _ (items_at_weak b h c taken o.1)
    (λ x k. after_that (length x.1) (length ts) (expect kinds.RightBrace x.1) _
    (expect_short kinds.RightBrace x.1) (λ y m. omega arith)))

code_short : (b : Below) (h : ShortBelow b) → Short (code_at b)
unfolding code_at
code_short b h ts =
    after_that (length ts) (length ts) (parameters_at ts) _ (parameters_short ts)
    (λ ps l. after_that (length ps.1) (length ts) _ _ (braces_short b h _ _ ps.1) (λ x k. omega arith))

initializer_weak : (b : Below) (h : ShortBelow b) (constant : Bool) (n : Identifier) (c : Bool)
    → Weak (initializer_by b constant n c)
initializer_weak b h constant n true ts =
    after_that (length (tail_of ts)) (suc (length ts)) (b.assignment (tail_of ts)) _ (h.assignment (tail_of ts))
    (λ x l. omega (arith, tail_shorter ts))
initializer_weak b h true n false ts = tt
initializer_weak b h false n false ts = omega arith

declarator_short : (b : Below) (h : ShortBelow b) (constant : Bool) (taken : List Identifier)
    → Short (declarator_at b constant taken)
unfolding declarator_at
declarator_short b h constant taken ts =
    after_that (length ts) (length ts) (fresh_name taken ts) _ (fresh_short taken ts)
    (λ n l. wider (suc (length n.1)) (length ts) _
    (initializer_weak b h constant n.0 (is_kind kinds.Assign (head_of n.1)) n.1) (omega arith))

declarators_short : (b : Below) (h : ShortBelow b) (constant : Bool) (taken : List Identifier)
    → Short (declarators_at b constant taken)
unfolding declarators_at
declarators_short b h constant taken ts =
    after_that (length ts) (length ts) (declarator_at b constant taken ts) _ (declarator_short b h constant taken ts)
    (λ d l. after_that (suc (length d.1)) (length ts) _ _
    (others_weak (λ names r. declarator_at b constant names r) with_declarator (declarator_short b h constant)
    (suc (length d.1)) (with_declarator taken d.0) d.1)
    (λ x k. omega arith))

optional_by_short : (b : Below) (h : ShortBelow b) (closer : TokenKind) (t : Token) (ts : List Token) (c : Bool)
    → Leaves (length (t ∷ ts)) (optional_by b closer c (t ∷ ts))
optional_by_short b h closer t ts true = omega arith
optional_by_short b h closer t ts false =
    after_that (length (t ∷ ts)) (length (t ∷ ts)) (b.expression (t ∷ ts)) _ (h.expression (t ∷ ts))
    (λ x l. after_that (length x.1) (length (t ∷ ts)) (expect closer x.1) _ (expect_short closer x.1)
    (λ y k. omega arith))

optional_short : (b : Below) (h : ShortBelow b) (closer : TokenKind) → Short (optional_before b closer)
unfolding optional_before
optional_short b h closer [] = after_that 0 0 (b.expression []) _ (h.expression []) (λ x l. absurd (omega arith))
optional_short b h closer (t ∷ ts) = optional_by_short b h closer t ts (is_kind closer (Some t))

ended_short : (b : Below) (h : ShortBelow b) → Short (ended_expression b)
unfolding ended_expression
ended_short b h ts =
    after_that (length ts) (length ts) (b.expression ts) _ (h.expression ts)
    (λ x l. after_that (suc (length x.1)) (length ts) _ _ (semicolon_weak _ x.1) (λ y k. omega arith))

-- an item that reads some token
abbrev reads_some : Piece → Bool
reads_some (productions.an_end end) = false
reads_some i = true

item_short : (b : Below) (h : ShortBelow b) (i : Piece) → reads_some i ≡ true → Short (item b i)
item_short b h (productions.tok k) e ts = expect_short k ts
item_short b h (productions.near k) e ts = near_short k ts
item_short b h productions.a_name e ts = name_short ts
item_short b h (productions.the_name n) e ts = the_name_short n ts
item_short b h productions.an_assignment e ts = h.assignment ts
item_short b h productions.an_expression e ts = h.expression ts
item_short b h (productions.optional k) e ts = optional_short b h k ts
item_short b h (productions.arguments k) e ts = arguments_short b h k ts
item_short b h productions.ended e ts = ended_short b h ts
item_short b h (productions.an_end end) e ts = absurd cc
item_short b h (productions.declared constant taken) e ts = declarators_short b h constant taken ts
item_short b h (productions.a_statement c) e ts = h.statement c ts
item_short b h (productions.a_block c taken) e ts = h.block c taken ts
item_short b h (productions.in_braces c taken) e ts = braces_short b h c taken ts
item_short b h productions.code e ts = code_short b h ts

item_weak : (b : Below) (h : ShortBelow b) (i : Piece) (c : Bool) → reads_some i ≡ c → Weak (item b i)
item_weak b h i true e ts = weaken (item b i) (item_short b h i e) ts
item_weak b h (productions.an_end end) false e ts = semicolon_weak end ts
item_weak b h _ false e ts = absurd cc

seq_weak : (b : Below) (h : ShortBelow b) (is : List Piece) → Weak (seq b is)
seq_weak b h [] ts = omega arith
seq_weak b h (i ∷ is) ts =
    after_that (suc (length ts)) (suc (length ts)) (item b i ts) _ (item_weak b h i (reads_some i) refl ts)
    (λ x l. after_that (suc (length x.1)) (suc (length ts)) (seq b is x.1) _ (seq_weak b h is x.1)
    (λ y k. omega arith))

abbrev reads_first : List Piece → Bool
reads_first [] = false
reads_first (i ∷ is) = reads_some i

seq_short : (b : Below) (h : ShortBelow b) (is : List Piece) → reads_first is ≡ true → Short (seq b is)
seq_short b h [] e ts = absurd cc
seq_short b h (i ∷ is) e ts =
    after_that (length ts) (length ts) (item b i ts) _ (item_short b h i e ts)
    (λ x l. after_that (suc (length x.1)) (length ts) (seq b is x.1) _ (seq_weak b h is x.1) (λ y k. omega arith))

made_short : {A : Type 0} (b : Below) (h : ShortBelow b) (is : List Piece) (make : productions.PieceValues is → A)
    → reads_first is ≡ true
    → Short (made b is make)
made_short b h is make e ts = after_that (length ts) (length ts) (seq b is ts) _ (seq_short b h is e ts) (λ x l. l)

low_leaves : {A : Type 0} (m : ℕ) (height n : ℕ) (ts : List Token) (read : Read A)
    → Leaves m read
    → Leaves m (if_low height n ts read)
low_leaves m height n ts read h = choose m (nat_le height n) read (Err (deep (length (tail_of ts)))) h tt

-- ---- object literals

key_by_short : (b : Below) (h : ShortBelow b) (t : Token) (ts : List Token) (k : KeyStart)
    → Leaves (length (t ∷ ts)) (parsing.key_by b k (t ∷ ts))
key_by_short b h t ts (classes.a_word_key w) = omega arith
key_by_short b h t ts (classes.a_string_key s) = omega arith
key_by_short b h t ts (classes.a_number_key v) = omega arith
key_by_short b h t ts classes.a_computed_key =
    made_short b h (tok kinds.LeftBracket ∷ an_assignment ∷ tok kinds.RightBracket ∷ []) (λ v. trees.computed_key v.1.0)
    refl (t ∷ ts)
key_by_short b h t ts classes.no_key = tt

key_short : (b : Below) (h : ShortBelow b) → Short (parsing.key_at b)
unfolding parsing.key_at
key_short b h [] = tt
key_short b h (t ∷ ts) = key_by_short b h t ts (key_start (Some t))

member_short : (b : Below) (h : ShortBelow b) (n : ℕ) (k : Key) (a : AfterKey) → Short (parsing.member_by b n k a)
member_short b h n k classes.colon ts =
    made_short b h (tok kinds.Colon ∷ an_assignment ∷ []) (λ v. trees.value k v.1.0) refl ts
member_short b h n k classes.parameters ts =
    low_leaves (length ts) _ n ts _ (after_that (length ts) (length ts) (b.function ts) _ (h.function ts) (λ x l. l))
member_short b h n k classes.no_member ts = tt

property_by_short : (b : Below) (h : ShortBelow b) (n : ℕ) (c : Bool) → Short (parsing.property_by b n c)
property_by_short b h n true ts = after_that (length ts) (length ts) (name_at ts) _ (name_short ts) (λ x l. l)
property_by_short b h n false ts =
    after_that (length ts) (length ts) (parsing.key_at b ts) _ (key_short b h ts)
    (λ k l. wider (length k.1) (length ts) _ (member_short b h n k.0 (after_key (head_of k.1)) k.1) (omega arith))

pub property_short : (b : Below) (h : ShortBelow b) (n : ℕ) → Short (parsing.property_at b n)
unfolding parsing.property_at
property_short b h n ts = property_by_short b h n (is_shorthand ts) ts

properties_short : (b : Below) (h : ShortBelow b) (n : ℕ) → Short (parsing.properties_at b n)
unfolding parsing.properties_at
properties_short b h n ts =
    after_that (length ts) (length ts) _ _
    (elements_short (one_of (λ r. parsing.property_at b n r)) no_state kinds.RightBrace (λ s. property_short b h n)
    (suc (length ts)) tt ts)
    (λ x l. l)

-- ---- primaries, members and calls

function_by_short : (b : Below) (h : ShortBelow b) (c : Bool) → Short (parsing.function_by b c)
function_by_short b h true ts =
    made_short b h (a_name ∷ code ∷ []) (λ v. trees.function (Some v.0) v.1.0.parameters v.1.0.body) refl ts
function_by_short b h false ts = made_short b h (code ∷ []) (λ v. trees.function None v.0.parameters v.0.body) refl ts

function_short : (b : Below) (h : ShortBelow b) → Short (parsing.function_at b)
unfolding parsing.function_at
function_short b h ts = function_by_short b h (parsing.is_name_next (head_of ts)) ts

primary_by_short : (b : Below) (h : ShortBelow b) (n : ℕ) (t : Token) (ts : List Token) (s : PrimaryStart)
    → Leaves (length (t ∷ ts)) (parsing.primary_by b n s (t ∷ ts))
primary_by_short b h n t ts classes.this_word = omega arith
primary_by_short b h n t ts (classes.a_name s) = omega arith
primary_by_short b h n t ts (classes.a_number v) = omega arith
primary_by_short b h n t ts (classes.a_string s) = omega arith
primary_by_short b h n t ts (classes.a_boolean v) = omega arith
primary_by_short b h n t ts classes.null_word = omega arith
primary_by_short b h n t ts classes.bracket =
    made_short b h (tok kinds.LeftBracket ∷ arguments kinds.RightBracket ∷ []) (λ v. trees.array v.1.0) refl (t ∷ ts)
primary_by_short b h n t ts classes.brace =
    after_that (length ts) (length (t ∷ ts)) (parsing.properties_at b n ts) _ (properties_short b h n ts)
    (λ x l. omega arith)
primary_by_short b h n t ts classes.parenthesis =
    made_short b h (tok kinds.LeftParenthesis ∷ an_expression ∷ tok kinds.RightParenthesis ∷ [])
    (λ v. trees.parenthesized v.1.0) refl (t ∷ ts)
primary_by_short b h n t ts classes.function_word =
    wider (length ts) (length (t ∷ ts)) _ (function_short b h ts) (omega arith)
primary_by_short b h n t ts classes.no_start = tt

primary_short : (b : Below) (h : ShortBelow b) (n : ℕ) → Short (parsing.primary b n)
unfolding parsing.primary
primary_short b h n [] = tt
primary_short b h n (t ∷ ts) = primary_by_short b h n t ts (start (Some t))

linked_weak : (b : Below) (h : ShortBelow b) (e : Expression) (l : CallTail) → Weak (parsing.linked_by b e l)
linked_weak b h e classes.dot ts =
    after_that (length (tail_of ts)) (suc (length ts)) (word_at (tail_of ts)) _ (word_short (tail_of ts))
    (λ x l. omega (arith, tail_shorter ts))
linked_weak b h e classes.key ts =
    weaken _ (made_short b h (tok kinds.LeftBracket ∷ an_expression ∷ tok kinds.RightBracket ∷ [])
    (λ v. trees.index e v.1.0) refl)
    ts
linked_weak b h e classes.arguments ts =
    weaken _ (made_short b h (tok kinds.LeftParenthesis ∷ arguments kinds.RightParenthesis ∷ [])
    (λ v. trees.call e v.1.0) refl)
    ts
linked_weak b h e classes.no_link ts = tt

links_then : (b : Below) (h : ShortBelow b) (n : ℕ) (go : Expression → Reader Expression) (e : Expression) (l : CallTail)
    → ((f : Expression) → Weak (go f))
    → Weak (parsing.links_by b n go e l)
links_then b h n go e classes.no_link g ts = omega arith
links_then b h n go e classes.dot g ts =
    low_leaves _ _ n ts _
    (after_that (suc (length ts)) (suc (length ts)) (parsing.linked_by b e classes.dot ts) _
    (linked_weak b h e classes.dot ts)
    (λ x l. wider (suc (length x.1)) (suc (length ts)) _ (g x.0 x.1) (omega arith)))
links_then b h n go e classes.key g ts =
    low_leaves _ _ n ts _
    (after_that (suc (length ts)) (suc (length ts)) (parsing.linked_by b e classes.key ts) _
    (linked_weak b h e classes.key ts)
    (λ x l. wider (suc (length x.1)) (suc (length ts)) _ (g x.0 x.1) (omega arith)))
links_then b h n go e classes.arguments g ts =
    low_leaves _ _ n ts _
    (after_that (suc (length ts)) (suc (length ts)) (parsing.linked_by b e classes.arguments ts) _
    (linked_weak b h e classes.arguments ts)
    (λ x l. wider (suc (length x.1)) (suc (length ts)) _ (g x.0 x.1) (omega arith)))

links_weak : (b : Below) (h : ShortBelow b) (n turns : ℕ) (e : Expression) → Weak (parsing.links b n turns e)
unfolding parsing.links
links_weak b h n zero e ts = tt
links_weak b h n (suc turns) e ts =
    links_then b h n (λ f r. parsing.links b n turns f r) e (link (head_of ts)) (λ f. links_weak b h n turns f) ts

call_short : (b : Below) (h : ShortBelow b) (n : ℕ) → Short (parsing.call b n)
unfolding parsing.call
call_short b h n ts =
    after_that (length ts) (length ts) (parsing.primary b n ts) _ (primary_short b h n ts)
    (λ x l. wider (suc (length x.1)) (length ts) _ (links_weak b h n (suc n) x.0 x.1) (omega arith))

-- ---- operators

updated_weak : (n : ℕ) (e : Expression) (o : Option _) → Weak (parsing.updated_by n e o)
updated_weak n e None ts = omega arith
updated_weak n e (Some o) ts =
    choose (suc (length ts)) (is_target e) _ _
    (low_leaves (suc (length ts)) _ n ts (Ok (trees.postfix o e, tail_of ts)) (omega (arith, tail_shorter ts))) tt

postfix_short : (b : Below) (h : ShortBelow b) (n : ℕ) → Short (parsing.postfix b n)
unfolding parsing.postfix
postfix_short b h n ts =
    after_that (length ts) (length ts) (parsing.call b n ts) _ (call_short b h n ts)
    (λ x l. wider (suc (length x.1)) (length ts) _ (updated_weak n x.0 (update_near (head_of x.1)) x.1)
    (omega arith))

unary_by_short : (b : Below) (h : ShortBelow b) (n : ℕ) (p : Prefix) → Short (parsing.unary_by b n p)
unary_by_short b h n classes.deletes ts =
    after_that (length (tail_of ts)) (length ts) (b.call (tail_of ts)) _ (h.call (tail_of ts))
    (λ x l. choose (length ts) (is_property x.0) (Ok (trees.unary unaries.Delete x.0, x.1)) _
    (omega (arith, tail_shorter ts)) tt)
unary_by_short b h n (classes.a_unary o) ts =
    after_that (length (tail_of ts)) (length ts) (b.unary (tail_of ts)) _ (h.unary (tail_of ts))
    (λ x l. omega (arith, tail_shorter ts))
unary_by_short b h n (classes.an_update o) ts =
    after_that (length (tail_of ts)) (length ts) (b.call (tail_of ts)) _ (h.call (tail_of ts))
    (λ x l. choose (length ts) (is_target x.0) (Ok (trees.prefix o x.0, x.1)) _ (omega (arith, tail_shorter ts)) tt)
unary_by_short b h n classes.no_prefix ts = postfix_short b h n ts

unary_short : (b : Below) (h : ShortBelow b) (n : ℕ) → Short (parsing.unary b n)
unfolding parsing.unary
unary_short b h n ts = unary_by_short b h n (prefix (head_of ts)) ts

chain_then : (b : Below) (h : ShortBelow b) (n : ℕ) (go : Expression → Reader Expression) (e : Expression)
    (o : Option _)
    → ((f : Expression) → Weak (go f))
    → Weak (parsing.chain_by b n go e o)
chain_then b h n go e None g ts = omega arith
chain_then b h n go e (Some o) g ts =
    low_leaves _ _ n ts _
    (after_that (length (tail_of ts)) (suc (length ts)) (b.operation (suc (strength o)) (tail_of ts)) _
    (h.operation (suc (strength o)) (tail_of ts))
    (λ x l. wider (suc (length x.1)) (suc (length ts)) _ (g (trees.binary o e x.0) x.1)
    (omega (arith, tail_shorter ts))))

chain_weak : (b : Below) (h : ShortBelow b) (n m turns : ℕ) (e : Expression) → Weak (parsing.chain b n m turns e)
unfolding parsing.chain
chain_weak b h n m zero e ts = tt
chain_weak b h n m (suc turns) e ts =
    chain_then b h n (λ f r. parsing.chain b n m turns f r) e (parsing.operator_from m (operator (head_of ts)))
    (λ f. chain_weak b h n m turns f) ts

operation_short : (b : Below) (h : ShortBelow b) (n m : ℕ) → Short (parsing.operation b n m)
unfolding parsing.operation
operation_short b h n m ts =
    after_that (length ts) (length ts) (parsing.unary b n ts) _ (unary_short b h n ts)
    (λ x l. wider (suc (length x.1)) (length ts) _ (chain_weak b h n m (suc n) x.0 x.1) (omega arith))

-- ---- arrow functions

arrow_body_short : (b : Below) (h : ShortBelow b) (ps : Parameters) (names : List Identifier) (c : Bool)
    → Short (parsing.arrow_body_by b ps names c)
arrow_body_short b h ps names true ts =
    made_short b h (in_braces function_body (with_names [] names) ∷ []) (λ v. trees.arrow_block ps v.0) refl ts
arrow_body_short b h ps names false ts = made_short b h (an_assignment ∷ []) (λ v. trees.arrow ps v.0) refl ts

arrow_short : (b : Below) (h : ShortBelow b) (ps : Parameters) (names : List Identifier)
    → Short (parsing.arrow_rest b ps names)
unfolding parsing.arrow_rest
arrow_short b h ps names ts =
    after_that (length ts) (length ts) (expect_near kinds.Arrow ts) _ (near_short kinds.Arrow ts)
    (λ a l. wider (length a.1) (length ts) _
    (arrow_body_short b h ps names (is_kind kinds.LeftBrace (head_of a.1)) a.1) (omega arith))

arrow_of_one_short : (b : Below) (h : ShortBelow b) → Short (parsing.arrow_of_one b)
unfolding parsing.arrow_of_one
arrow_of_one_short b h ts =
    after_that (length ts) (length ts) (name_at ts) _ (name_short ts)
    (λ x l. wider (length x.1) (length ts) _ (arrow_short b h (trees.one_name x.0) (x.0 ∷ []) x.1) (omega arith))

arrow_of_names_short : (b : Below) (h : ShortBelow b) (only : Bool) (names : List Identifier)
    → Short (parsing.arrow_of_names b only names)
arrow_of_names_short b h only names ts =
    choose (length ts) (parsing.are_fresh [] names) _ _ (arrow_short b h (trees.name_list names) names ts)
    (choose (length ts) only _ _ tt tt)

arrow_of_list_short : (b : Below) (h : ShortBelow b) (only : Bool) → Short (parsing.arrow_of_list b only)
unfolding parsing.arrow_of_list
arrow_of_list_short b h only ts =
    after_that (length ts) (length ts) (expect kinds.LeftParenthesis ts) _ (expect_short kinds.LeftParenthesis ts)
    (λ o l. after_that (length o.1) (length ts) (names_before o.1) _ (names_short o.1)
    (λ ns k. wider (length ns.1) (length ts) _ (arrow_of_names_short b h only ns.0 ns.1) (omega arith)))

-- ---- assignments

joined_by_weak : (b : Below) (h : ShortBelow b) (n : ℕ) (t : Expression) (j : Joint) → Weak (parsing.joined_by b n t j)
joined_by_weak b h n t classes.question ts =
    low_leaves _ _ n ts _
    (weaken _
    (made_short b h (tok kinds.Question ∷ an_assignment ∷ tok kinds.Colon ∷ an_assignment ∷ [])
    (λ v. trees.conditional t v.1.0 v.1.1.1.0) refl)
    ts)
joined_by_weak b h n t (classes.assigns_by o) ts =
    choose (suc (length ts)) (is_target t) _ _
    (low_leaves _ _ n ts _
    (weaken _ (made_short b h (tok (assign_kind o) ∷ an_assignment ∷ []) (λ v. trees.assign o t v.1.0) refl)
    ts))
    tt
joined_by_weak b h n t classes.no_joint ts = omega arith

assignment_by_short : (b : Below) (h : ShortBelow b) (n : ℕ) (a : ArrowStart) → Short (parsing.assignment_by b n a)
unfolding parsing.joined
assignment_by_short b h n classes.one_parameter ts = arrow_of_one_short b h ts
assignment_by_short b h n (classes.listed only) ts = arrow_of_list_short b h only ts
assignment_by_short b h n classes.no_arrow ts =
    after_that (length ts) (length ts) (parsing.operation b n 3 ts) _ (operation_short b h n 3 ts)
    (λ x l. wider (suc (length x.1)) (length ts) _ (joined_by_weak b h n x.0 (joint (head_of x.1)) x.1)
    (omega arith))

assignment_short : (b : Below) (h : ShortBelow b) (n : ℕ) → Short (parsing.assignment b n)
unfolding parsing.assignment
assignment_short b h n ts = assignment_by_short b h n (arrow_head ts) ts

comma_weak : (b : Below) (h : ShortBelow b) (n : ℕ) (e : Expression) (c : Bool) → Weak (parsing.comma_by b n e c)
comma_weak b h n e false ts = omega arith
comma_weak b h n e true ts =
    low_leaves _ _ n ts _
    (after_that (suc (length ts)) (suc (length ts)) (more_assignments b ts) _ (more_weak b h ts) (λ x l. l))

expression_short : (b : Below) (h : ShortBelow b) (n : ℕ) → Short (parsing.expression b n)
unfolding parsing.expression
expression_short b h n ts =
    after_that (length ts) (length ts) (parsing.assignment b n ts) _ (assignment_short b h n ts)
    (λ x l. wider (suc (length x.1)) (length ts) _ (comma_weak b h n x.0 (is_kind kinds.Comma (head_of x.1)) x.1)
    (omega arith))

-- ---- statements

else_weak : (b : Below) (h : ShortBelow b) (c : StatementContext) (e : Expression) (s : Statement) (o : Bool)
    → Weak (parsing.else_by b c e s o)
else_weak b h c e s true ts =
    weaken _ (made_short b h (tok kinds.Else ∷ a_statement c ∷ []) (λ v. trees.if_else e s v.1.0) refl) ts
else_weak b h c e s false ts = omega arith

if_short : (b : Below) (h : ShortBelow b) (c : StatementContext) → Short (parsing.if_at b c)
unfolding parsing.if_at
if_short b h c ts =
    after_that (length ts) (length ts) (seq b (parsing.if_items c) ts) _ (seq_short b h (parsing.if_items c) refl ts)
    (λ x l. wider (suc (length x.1)) (length ts) _
    (else_weak b h c x.0.1.1.0 x.0.1.1.1.1.0 (is_kind kinds.Else (head_of x.1)) x.1) (omega arith))

for_by_short : (b : Below) (h : ShortBelow b) (c : StatementContext) (a : ForHead) → Short (parsing.for_by b c a)
for_by_short b h c (classes.each constant) ts =
    made_short b h (parsing.for_of_items c constant)
    (λ v. trees.for_of constant v.1.1.1.0 v.1.1.1.1.1.0 v.1.1.1.1.1.1.1.0) refl ts
for_by_short b h c (classes.declares constant) ts =
    made_short b h (parsing.for_lexical_items c constant)
    (λ v. trees.for_lexical constant v.1.1.1.0 v.1.1.1.1.1.0 v.1.1.1.1.1.1.0 v.1.1.1.1.1.1.1.0) refl ts
for_by_short b h c classes.plain_head ts =
    made_short b h (parsing.for_items c) (λ v. trees.for v.1.1.0 v.1.1.1.0 v.1.1.1.1.0 v.1.1.1.1.1.0) refl ts

for_short : (b : Below) (h : ShortBelow b) (c : StatementContext) → Short (parsing.for_at b c)
unfolding parsing.for_at
for_short b h c ts = for_by_short b h c (for_head (tail_of (tail_of ts))) ts

return_short : (b : Below) (h : ShortBelow b) (o : Bool) → Short (parsing.return_by b o)
return_short b h true ts =
    made_short b h (tok kinds.Return ∷ an_end after_word ∷ []) (λ v. trees.return trees.omitted) refl ts
return_short b h false ts =
    made_short b h (tok kinds.Return ∷ ended ∷ []) (λ v. trees.return (trees.present v.1.0)) refl ts

throw_short : (b : Below) (h : ShortBelow b) (o : Bool) → Short (parsing.throw_by b o)
throw_short b h true ts = made_short b h (tok kinds.Throw ∷ ended ∷ []) (λ v. trees.throw v.1.0) refl ts
throw_short b h false ts = tt

catch_short : (b : Below) (h : ShortBelow b) (c : StatementContext) (o : Bool) → Short (parsing.catch_by b c o)
catch_short b h c true ts =
    after_that (length ts) (length ts) (seq b (tok kinds.LeftParenthesis ∷ a_name ∷ tok kinds.RightParenthesis ∷ []) ts)
    _ (seq_short b h (tok kinds.LeftParenthesis ∷ a_name ∷ tok kinds.RightParenthesis ∷ []) refl ts)
    (λ n l. after_that (length n.1) (length ts) (b.block c (n.0.1.0 ∷ []) n.1) _ (h.block c (n.0.1.0 ∷ []) n.1)
    (λ x k. omega arith))
catch_short b h c false ts = after_that (length ts) (length ts) (b.block c [] ts) _ (h.block c [] ts) (λ x l. l)

handler_by_weak : (b : Below) (h : ShortBelow b) (c : StatementContext) (o : Bool) → Weak (parsing.handler_by b c o)
handler_by_weak b h c true ts =
    wider (length (tail_of ts)) (suc (length ts)) _
    (catch_short b h c (is_kind kinds.LeftParenthesis (head_of (tail_of ts))) (tail_of ts))
    (omega (arith, tail_shorter ts))
handler_by_weak b h c false ts = omega arith

finalizer_by_weak : (b : Below) (h : ShortBelow b) (c : StatementContext) (a : Handler) (o : Bool)
    → Weak (parsing.finalizer_by b c a o)
finalizer_by_weak b h c a true ts =
    weaken _ (made_short b h (tok kinds.Finally ∷ a_block c [] ∷ []) (λ v. trees.finally v.1.0) refl) ts
finalizer_by_weak b h c trees.no_catch false ts = tt
finalizer_by_weak b h c (trees.catch n ss) false ts = omega arith

try_short : (b : Below) (h : ShortBelow b) (c : StatementContext) → Short (parsing.try_at b c)
unfolding parsing.try_at parsing.handler_at parsing.finalizer_at
try_short b h c ts =
    after_that (length ts) (length ts) (seq b (tok kinds.Try ∷ a_block c [] ∷ []) ts) _
    (seq_short b h (tok kinds.Try ∷ a_block c [] ∷ []) refl ts)
    (λ x l. after_that (suc (length x.1)) (length ts) (parsing.handler_at b c x.1) _
    (handler_by_weak b h c (is_kind kinds.Catch (head_of x.1)) x.1)
    (λ a k. after_that (suc (length a.1)) (length ts) (parsing.finalizer_at b c a.0 a.1) _
    (finalizer_by_weak b h c a.0 (is_kind kinds.Finally (head_of a.1)) a.1) (λ f m. omega arith)))

statement_by_short : (b : Below) (h : ShortBelow b) (c : StatementContext) (t : Token) (ts : List Token) (f : StatementStart)
    → Leaves (length (t ∷ ts)) (parsing.statement_by b c f (t ∷ ts))
statement_by_short b h c t ts classes.a_block =
    made_short b h (in_braces c [] ∷ []) (λ v. trees.block v.0) refl (t ∷ ts)
statement_by_short b h c t ts (classes.a_lexical constant) = tt
statement_by_short b h c t ts classes.a_semicolon = omega arith
statement_by_short b h c t ts classes.an_if = if_short b h c (t ∷ ts)
statement_by_short b h c t ts classes.a_do =
    made_short b h (parsing.do_items c) (λ v. trees.do_while v.1.0 v.1.1.1.1.0) refl (t ∷ ts)
statement_by_short b h c t ts classes.a_while =
    made_short b h (parsing.while_items c) (λ v. trees.while v.1.1.0 v.1.1.1.1.0) refl (t ∷ ts)
statement_by_short b h c t ts classes.a_for = for_short b h c (t ∷ ts)
statement_by_short b h c t ts classes.a_continue =
    choose (length (t ∷ ts)) c.in_loop _ _
    (made_short b h (tok kinds.Continue ∷ an_end after_word ∷ []) (λ v. trees.continue) refl (t ∷ ts)) tt
statement_by_short b h c t ts classes.a_break =
    choose (length (t ∷ ts)) c.in_loop _ _
    (made_short b h (tok kinds.Break ∷ an_end after_word ∷ []) (λ v. trees.break) refl (t ∷ ts)) tt
statement_by_short b h c t ts classes.a_return =
    choose (length (t ∷ ts)) c.in_function _ _ (return_short b h (ends_return (head_of ts)) (t ∷ ts)) tt
statement_by_short b h c t ts classes.a_throw = throw_short b h (is_on_line (head_of ts)) (t ∷ ts)
statement_by_short b h c t ts classes.a_try = try_short b h c (t ∷ ts)
statement_by_short b h c t ts classes.a_debugger =
    made_short b h (tok kinds.Debugger ∷ an_end after_word ∷ []) (λ v. trees.debugger) refl (t ∷ ts)
statement_by_short b h c t ts classes.a_function = tt
statement_by_short b h c t ts classes.an_expression =
    made_short b h (ended ∷ []) (λ v. trees.expression v.0) refl (t ∷ ts)

statement_short : (b : Below) (h : ShortBelow b) (c : StatementContext) → Short (parsing.statement b c)
unfolding parsing.statement
statement_short b h c [] = made_short b h (ended ∷ []) (λ v. trees.expression v.0) refl []
statement_short b h c (t ∷ ts) = statement_by_short b h c t ts (first (Some t))

lexical_short : (b : Below) (h : ShortBelow b) (constant : Bool) (taken : List Identifier)
    → Short (parsing.lexical_at b constant taken)
unfolding parsing.lexical_at
lexical_short b h constant taken ts =
    after_that (length (tail_of ts)) (length ts) (declarators_at b constant taken (tail_of ts)) _
    (declarators_short b h constant taken (tail_of ts))
    (λ d l. after_that (suc (length d.1)) (length ts) (semicolon_at _ d.1) _ (semicolon_weak _ d.1)
    (λ x k. omega (arith, tail_shorter ts)))

declaration_short : (b : Below) (h : ShortBelow b) (taken : List Identifier) → Short (parsing.declaration_at b taken)
unfolding parsing.declaration_at
declaration_short b h taken ts =
    after_that (length (tail_of ts)) (length ts) (fresh_name taken (tail_of ts)) _ (fresh_short taken (tail_of ts))
    (λ n l. after_that (length n.1) (length ts) (code_at b n.1) _ (code_short b h n.1)
    (λ x k. omega (arith, tail_shorter ts)))

item_by_short : (b : Below) (h : ShortBelow b) (c : StatementContext) (taken : List Identifier) (f : StatementStart)
    → Short (parsing.item_by b c taken f)
item_by_short b h c taken (classes.a_lexical constant) ts = lexical_short b h constant taken ts
item_by_short b h c taken classes.a_function ts = declaration_short b h taken ts
item_by_short b h c taken _ ts = statement_short b h c ts

one_item_short : (b : Below) (h : ShortBelow b) (c : StatementContext) (taken : List Identifier) → Short (parsing.item b c taken)
unfolding parsing.item
one_item_short b h c taken ts = item_by_short b h c taken (first (head_of ts)) ts

-- ---- all

pub short : (n : ℕ) → ShortBelow (parsing.below n)
unfolding parsing.below
short zero = record {
  assignment = λ ts. tt;
  expression = λ ts. tt;
  operation = λ m ts. tt;
  unary = λ ts. tt;
  call = λ ts. tt;
  statement = λ c ts. tt;
  item = λ c taken ts. tt;
  block = λ c taken ts. tt;
  function = λ ts. tt;
}
short (suc n) = record {
  assignment = assignment_short (parsing.below n) (short n) n;
  expression = expression_short (parsing.below n) (short n) n;
  operation = operation_short (parsing.below n) (short n) n;
  unary = unary_short (parsing.below n) (short n) n;
  call = call_short (parsing.below n) (short n) n;
  statement = statement_short (parsing.below n) (short n);
  item = one_item_short (parsing.below n) (short n);
  block = braces_short (parsing.below n) (short n);
  function = code_short (parsing.below n) (short n);
}

-- what a reader answers is shorter than what it got
pub shorter : {A : Type 0} (r : Reader A) (ts : List Token) (x : A) (rest : List Token)
    → Short r
    → r ts ≡ Ok (x, rest)
    → length rest < length ts
shorter r ts x rest h e = let k : Leaves (length ts) (Ok (x, rest)) = rw e at (h ts) in k
