-- Where the readers of statements, blocks and functions stop, the tokens before begin well-formed ones.
use Rattle.std.proofs.Common.{◌≡◌, ℕ, Bool, true, false, List, [], ◌∷◌, ◌++◌, length, Option, Some, None, Ok, Err, refl, sym, ap, subst, ◌∙◌, inl, inr, append_assoc}
use Rattle.std.specs.Prelude.{codes, if◌then◌else◌}
use Rattle.std.proofs.lemmas.List.{append-nil}
use Rattle.js_lexer.specs.declared.token.TokenKind.{TokenKind}
use Rattle.js_lexer.specs.declared.token.TokenKind.TheVariants as kinds
use Rattle.js_tree.specs.Trees as trees
use Rattle.js_tree.specs.Trees.{Identifier, Expression, Statement, Statements, Handler, Finalizer}
use Rattle.js_parser_language.specs.Tokens.{Token, fixed, identifier, numeric_literal, FlatToken, token, beside, semicolon, plain, after_expression, after_word, head_of, tail_of, IsNext, is_on_line, Matches}
use Rattle.js_parser_language.specs.Flat.{edge, end_of_declarators, on_line, let_or_const, flat, flat_optional, flat_parameters, flat_declarators, flat_statement, flat_statements, flat_handler, flat_finalizer}
use Rattle.js_parser_language.specs.Well.{StatementContext, Well, WellHandler, WellFinalizer, is_handled}
use Rattle.js_parser_language.specs.Kinds.{is_kind}
use Rattle.js_parser_readers.specs.Classes as classes
use Rattle.js_parser_readers.specs.Classes.{StatementStart, first_by, first, ends_return, ForHead, each, declares, plain_head, for_head}
use Rattle.js_parser_readers.specs.Reading.{Fault, stuck, Read, ◌>>=◌, expect, fresh_name, semicolon_at}
use Rattle.js_parser_readers.specs.Productions.{Below, braces, code_at, declarators_at, ended_expression, Piece, tok, an_expression, ended, an_end, a_statement, a_block, in_braces, PieceValues, seq, made}
use Rattle.js_parser_readers.specs.Parsing.{else_by, if_items, if_at, let_kind, do_items, while_items, for_items, for_lexical_items, for_of_items, for_by, for_at, return_by, throw_by, catch_by, handler_by, handler_at, finalizer_by, finalizer_at, try_at, statement_by, statement, lexical_at, declaration_at, item_by, item}
use Rattle.js_parser_language.proofs.KindLemmas.{next_is}
use Rattle.js_parser_laws.proofs.Claims.{SoundBelow, marks, AllSane, TakesAll}
use Rattle.js_parser_laws.proofs.MarkLemmas.{joins, parts}
use Rattle.js_parser_laws.proofs.TokenLemmas.{expect_sound, expect_again, fresh_sound}
use Rattle.js_parser_laws.proofs.Sound.Part.{seq_sound, declarators_sound}
use Rattle.js_parser_laws.proofs.Sound.Statement.{no_function, on_line_is, behind_if, no_open_if, let_is, tails_are, next_optional, given_on_line, catch_items, handler_sound, finally_handled, try_items, declares_none, no_brace}
use Rattle.js_parser_laws.proofs.Alive.Tools.{bind_err, cond_err, Counts, stuck_counts, Added, added, a_token, a_near_token, Anything, Nothing, IsZero, Starts, nothing_softer, is_firm, firm_behind, firm_append, Lives, fills, grows, anything, from_nothing, ends_in, around, around_softly, stopped, renamed, behind, begun}
use Rattle.js_parser_laws.proofs.Alive.Parts.{AliveBelow, IsStatement, IsItem, flat_block, zero_statement, fresh_lives, semicolon_err, opened_lives, code_lives, declarators_lives, flat_ended, ended_lives, seq_lives, lively, known_lives, made_err}
use Rattle.js_parser_laws.proofs.Alive.Assignments.{other_kind}
use Rattle.js_parser_laws.proofs.FirmTreeLemmas.{declarators_firm, firm_braces, firm_nil}
use Rattle.js_parser_laws.proofs.Again.Primary.{and_nothing}

-- ---- what begins a statement

-- the first token of a class
abbrev pub FirstNext : StatementStart → Option Token → Type 0
FirstNext classes.a_block o = IsNext (fixed kinds.LeftBrace) o
FirstNext (classes.a_lexical constant) o = IsNext (fixed (let_kind constant)) o
FirstNext classes.a_semicolon o = IsNext (fixed kinds.Semicolon) o
FirstNext classes.an_if o = IsNext (fixed kinds.If) o
FirstNext classes.a_do o = IsNext (fixed kinds.Do) o
FirstNext classes.a_while o = IsNext (fixed kinds.While) o
FirstNext classes.a_for o = IsNext (fixed kinds.For) o
FirstNext classes.a_continue o = IsNext (fixed kinds.Continue) o
FirstNext classes.a_break o = IsNext (fixed kinds.Break) o
FirstNext classes.a_return o = IsNext (fixed kinds.Return) o
FirstNext classes.a_throw o = IsNext (fixed kinds.Throw) o
FirstNext classes.a_try o = IsNext (fixed kinds.Try) o
FirstNext classes.a_debugger o = IsNext (fixed kinds.Debugger) o
FirstNext classes.a_function o = IsNext (fixed kinds.Function) o
FirstNext classes.an_expression o = (is_kind kinds.LeftBrace o ≡ false) × (is_kind kinds.Function o ≡ false)

pub first_next : (o : Option Token) → FirstNext (first o) o
first_next None = (refl, refl)
first_next (Some t) = by_kind t.kind
  where
    by_kind : (k : TokenKind) → FirstNext (first_by k) (Some (record t { kind = k }))
    by_kind kinds.LeftBrace = refl
    by_kind kinds.Let = refl
    by_kind kinds.Const = refl
    by_kind kinds.Semicolon = refl
    by_kind kinds.If = refl
    by_kind kinds.Do = refl
    by_kind kinds.While = refl
    by_kind kinds.For = refl
    by_kind kinds.Continue = refl
    by_kind kinds.Break = refl
    by_kind kinds.Return = refl
    by_kind kinds.Throw = refl
    by_kind kinds.Try = refl
    by_kind kinds.Debugger = refl
    by_kind kinds.Function = refl
    by_kind _ = (refl, refl)

-- ---- statements of one production

-- the items behind the first one
abbrev behind_first : List Piece → List Piece
behind_first [] = []
behind_first (i ∷ is) = is

-- A production whose first token is there lives as what is made of it.
made_lives : (n : ℕ) (b : Below)
    → SoundBelow n b
    → AliveBelow b
    → (context : StatementContext) (k : TokenKind) (is : List Piece) (ts : List Token) (e : Fault)
    → lively is ≡ true
    → IsNext (fixed k) (head_of ts)
    → (make : PieceValues (tok k ∷ is) → Statement)
    → ((vs : PieceValues (tok k ∷ is)) → AllSane (tok k ∷ is) vs → IsStatement context (make vs))
    → ((vs : PieceValues (tok k ∷ is)) → marks (tok k ∷ is) vs ≡ flat_statement (make vs))
    → made b (tok k ∷ is) make ts ≡ Err e
    → Lives Nothing flat_statement (IsStatement context) ts e
made_lives n b s a context k is ts e lively f make sane same p =
    let l = known_lives n b s a k is lively ts e f (made_err {A = Statement} b (tok k ∷ is) make ts e p) in
    renamed l (make l.tree) (sane l.tree l.good) (same l.tree)

if_then_lives : (n : ℕ) (b : Below)
    → SoundBelow n b
    → AliveBelow b
    → (context : StatementContext) (ts : List Token) (e : Fault)
    → IsNext (fixed kinds.If) (head_of ts)
    → seq b (if_items context) ts ≡ Err e
    → Lives Nothing flat_statement (IsStatement context) ts e
if_then_lives n b s a context ts e f p =
    let is = tok kinds.LeftParenthesis ∷ an_expression ∷ tok kinds.RightParenthesis ∷ a_statement context ∷ [] in
    let l = known_lives n b s a kinds.If is refl ts e f p in
    renamed l (trees.if_then l.tree.1.1.0 l.tree.1.1.1.1.0)
    ((l.good.1.1.0, l.good.1.1.1.1.0.0, l.good.1.1.1.1.0.1), refl) refl

else_lives : (n : ℕ) (b : Below)
    → SoundBelow n b
    → AliveBelow b
    → (context : StatementContext) (ts : List Token) (vs : PieceValues (if_items context)) (r : List Token) (e : Fault)
    → TakesAll n (if_items context) ts vs r
    → (c : Bool)
    → is_kind kinds.Else (head_of r) ≡ c
    → else_by b context vs.1.1.0 vs.1.1.1.1.0 c r ≡ Err e
    → Lives Nothing flat_statement (IsStatement context) ts e
else_lives n b s a context ts vs r e t true h p =
    let is = a_statement context ∷ [] in
    let l = known_lives n b s a kinds.Else is refl r e (next_is kinds.Else (head_of r) h)
    (made_err {A = Statement} b (tok kinds.Else ∷ is) (λ v. trees.if_else vs.1.1.0 vs.1.1.1.1.0 v.1.0) r e p) in
    around_softly l (nothing_softer r) (marks (if_items context) vs) ts t.marks
    (trees.if_else vs.1.1.0 vs.1.1.1.1.0 l.tree.1.0) (
      (
        t.sane.1.1.0,
        t.sane.1.1.1.1.0.0,
        t.sane.1.1.1.1.0.1,
        no_open_if vs.1.1.1.1.0 r t.last h,
        l.good.1.0.0,
        l.good.1.0.1,
      ),
      refl,
    )
    [] [] (λ r. refl)
    (ap (λ (ms : List FlatToken). token (fixed kinds.If) ∷ token (fixed kinds.LeftParenthesis) ∷ ms)
    (behind_if (flat vs.1.1.0) (flat_statement vs.1.1.1.1.0)
    ((token (fixed kinds.Else) ∷ (flat_statement l.tree.1.0 ++ [])) ++ []) kinds.RightParenthesis
    ∙ ap (λ (ms : List FlatToken). flat vs.1.1.0 ++
    (token (fixed kinds.RightParenthesis) ∷ (flat_statement vs.1.1.1.1.0 ++ ms)))
    (append-nil (token (fixed kinds.Else) ∷ (flat_statement l.tree.1.0 ++ [])))))
else_lives n b s a context ts vs r e t false h p = absurd cc

if_lives : (n : ℕ) (b : Below)
    → SoundBelow n b
    → AliveBelow b
    → (context : StatementContext) (ts : List Token) (e : Fault)
    → IsNext (fixed kinds.If) (head_of ts)
    → if_at b context ts ≡ Err e
    → Lives Nothing flat_statement (IsStatement context) ts e
unfolding if_at
if_lives n b s a context ts e f p =
    elim (bind_err (seq b (if_items context) ts)
    (λ x. else_by b context x.0.1.1.0 x.0.1.1.1.1.0 (is_kind kinds.Else (head_of x.1)) x.1) e p) [
      | inl q ↦ if_then_lives n b s a context ts e f q
      | inr q ↦ else_lives n b s a context ts q.0.0 q.0.1 e (seq_sound n b s (if_items context) ts q.0 q.1)
          (is_kind kinds.Else (head_of q.0.1)) refl q.2
    ]

do_lives : (n : ℕ) (b : Below)
    → SoundBelow n b
    → AliveBelow b
    → (context : StatementContext) (ts : List Token) (e : Fault)
    → IsNext (fixed kinds.Do) (head_of ts)
    → made b (do_items context) (λ v. trees.do_while v.1.0 v.1.1.1.1.0) ts ≡ Err e
    → Lives Nothing flat_statement (IsStatement context) ts e
do_lives n b s a context ts e f p =
    made_lives n b s a context kinds.Do (behind_first (do_items context)) ts e refl f
    (λ v. trees.do_while v.1.0 v.1.1.1.1.0) (λ v g. ((g.1.0.0, g.1.0.1, g.1.1.1.1.0), refl)) (λ v. refl) p

while_lives : (n : ℕ) (b : Below)
    → SoundBelow n b
    → AliveBelow b
    → (context : StatementContext) (ts : List Token) (e : Fault)
    → IsNext (fixed kinds.While) (head_of ts)
    → made b (while_items context) (λ v. trees.while v.1.1.0 v.1.1.1.1.0) ts ≡ Err e
    → Lives Nothing flat_statement (IsStatement context) ts e
while_lives n b s a context ts e f p =
    made_lives n b s a context kinds.While (behind_first (while_items context)) ts e refl f
    (λ v. trees.while v.1.1.0 v.1.1.1.1.0) (λ v g. ((g.1.1.0, g.1.1.1.1.0.0, g.1.1.1.1.0.1), refl)) (λ v. refl) p

for_by_lives : (n : ℕ) (b : Below)
    → SoundBelow n b
    → AliveBelow b
    → (context : StatementContext) (h : ForHead) (ts : List Token) (e : Fault)
    → IsNext (fixed kinds.For) (head_of ts)
    → for_by b context h ts ≡ Err e
    → Lives Nothing flat_statement (IsStatement context) ts e
for_by_lives n b s a context plain_head ts e f p =
    made_lives n b s a context kinds.For (behind_first (for_items context)) ts e refl f
    (λ v. trees.for v.1.1.0 v.1.1.1.0 v.1.1.1.1.0 v.1.1.1.1.1.0)
    (λ v g. ((g.1.1.0, g.1.1.1.0, g.1.1.1.1.0, g.1.1.1.1.1.0.0, g.1.1.1.1.1.0.1), refl)) (λ v.
    let body = flat_statement v.1.1.1.1.1.0 ++ [] in
    let after_first = (flat_optional v.1.1.1.0 ++ (token (fixed kinds.Semicolon) ∷ [])) ++
    ((flat_optional v.1.1.1.1.0 ++ (token (fixed kinds.RightParenthesis) ∷ [])) ++ body) in
    ap (λ (l : List FlatToken). token (fixed kinds.For) ∷ token (fixed kinds.LeftParenthesis) ∷ l)
    (next_optional (flat_optional v.1.1.0) after_first kinds.Semicolon
    ∙ ap (λ (l : List FlatToken). flat_optional v.1.1.0 ++ (token (fixed kinds.Semicolon) ∷ l))
    (tails_are (flat_optional v.1.1.1.0) (flat_optional v.1.1.1.1.0) body))) p
for_by_lives n b s a context (declares constant) ts e f p =
    made_lives n b s a context kinds.For (behind_first (for_lexical_items context constant)) ts e refl f
    (λ v. trees.for_lexical constant v.1.1.1.0 v.1.1.1.1.1.0 v.1.1.1.1.1.1.0 v.1.1.1.1.1.1.1.0)
    (λ v g. (
      (
        g.1.1.1.0.0,
        g.1.1.1.0.1,
        g.1.1.1.0.2,
        g.1.1.1.0.3,
        g.1.1.1.1.1.0,
        g.1.1.1.1.1.1.0,
        g.1.1.1.1.1.1.1.0.0,
        g.1.1.1.1.1.1.1.0.1,
      ),
      refl,
    ))
    (λ v.
    let body = flat_statement v.1.1.1.1.1.1.1.0 ++ [] in
    let tails = (flat_optional v.1.1.1.1.1.0 ++ (token (fixed kinds.Semicolon) ∷ [])) ++
    ((flat_optional v.1.1.1.1.1.1.0 ++ (token (fixed kinds.RightParenthesis) ∷ [])) ++ body) in
    ap (λ (l : List FlatToken). token (fixed kinds.For) ∷ token (fixed kinds.LeftParenthesis) ∷
    (l ++ (flat_declarators v.1.1.1.0 ++ (token (fixed kinds.Semicolon) ∷ tails))))
    (let_is constant)
    ∙ ap (λ (l : List FlatToken). token (fixed kinds.For) ∷ token (fixed kinds.LeftParenthesis) ∷
    (let_or_const constant ++ (flat_declarators v.1.1.1.0 ++ (token (fixed kinds.Semicolon) ∷ l))))
    (tails_are (flat_optional v.1.1.1.1.1.0) (flat_optional v.1.1.1.1.1.1.0) body)) p
for_by_lives n b s a context (each constant) ts e f p =
    made_lives n b s a context kinds.For (behind_first (for_of_items context constant)) ts e refl f
    (λ v. trees.for_of constant v.1.1.1.0 v.1.1.1.1.1.0 v.1.1.1.1.1.1.1.0)
    (λ v g. ((g.1.1.1.1.1.0.0, g.1.1.1.1.1.0.1, g.1.1.1.1.1.1.1.0.0, g.1.1.1.1.1.1.1.0.1), refl)) (λ v.
    let rest = token (identifier v.1.1.1.0) ∷ token (identifier (codes "of")) ∷
    (flat v.1.1.1.1.1.0 ++ (token (fixed kinds.RightParenthesis) ∷ (flat_statement v.1.1.1.1.1.1.1.0 ++ []))) in
    ap (λ (l : List FlatToken). token (fixed kinds.For) ∷ token (fixed kinds.LeftParenthesis) ∷ (l ++ rest))
    (let_is constant)) p

for_lives : (n : ℕ) (b : Below)
    → SoundBelow n b
    → AliveBelow b
    → (context : StatementContext) (ts : List Token) (e : Fault)
    → IsNext (fixed kinds.For) (head_of ts)
    → for_at b context ts ≡ Err e
    → Lives Nothing flat_statement (IsStatement context) ts e
unfolding for_at
for_lives n b s a context ts e f p = for_by_lives n b s a context (for_head (tail_of (tail_of ts))) ts e f p

-- ---- statements of a word

continue_lives : (n : ℕ) (b : Below)
    → SoundBelow n b
    → AliveBelow b
    → (context : StatementContext)
    → context.in_loop ≡ true
    → (ts : List Token) (e : Fault)
    → IsNext (fixed kinds.Continue) (head_of ts)
    → made b (tok kinds.Continue ∷ an_end after_word ∷ []) (λ v. trees.continue) ts ≡ Err e
    → Lives Nothing flat_statement (IsStatement context) ts e
continue_lives n b s a context loop ts e f p =
    made_lives n b s a context kinds.Continue (an_end after_word ∷ []) ts e refl f (λ v. trees.continue)
    (λ v g. (loop, refl)) (λ v. refl) p

break_lives : (n : ℕ) (b : Below)
    → SoundBelow n b
    → AliveBelow b
    → (context : StatementContext)
    → context.in_loop ≡ true
    → (ts : List Token) (e : Fault)
    → IsNext (fixed kinds.Break) (head_of ts)
    → made b (tok kinds.Break ∷ an_end after_word ∷ []) (λ v. trees.break) ts ≡ Err e
    → Lives Nothing flat_statement (IsStatement context) ts e
break_lives n b s a context loop ts e f p =
    made_lives n b s a context kinds.Break (an_end after_word ∷ []) ts e refl f (λ v. trees.break) (λ v g. (loop, refl))
    (λ v. refl) p

debugger_lives : (n : ℕ) (b : Below)
    → SoundBelow n b
    → AliveBelow b
    → (context : StatementContext) (ts : List Token) (e : Fault)
    → IsNext (fixed kinds.Debugger) (head_of ts)
    → made b (tok kinds.Debugger ∷ an_end after_word ∷ []) (λ v. trees.debugger) ts ≡ Err e
    → Lives Nothing flat_statement (IsStatement context) ts e
debugger_lives n b s a context ts e f p =
    made_lives n b s a context kinds.Debugger (an_end after_word ∷ []) ts e refl f (λ v. trees.debugger)
    (λ v g. (tt, refl)) (λ v. refl) p

-- an expression with its semicolon, behind a word
ended_behind : (b : Below) (k : TokenKind) (ts : List Token) (e : Fault)
    → IsNext (fixed k) (head_of ts)
    → seq b (tok k ∷ ended ∷ []) ts ≡ Err e
    → ended_expression b (tail_of ts) ≡ Err e
ended_behind b k ts e f p =
    elim (bind_err (expect k ts) (λ x. seq b (ended ∷ []) x.1 >>= λ y. Ok ((x.0, y.0), y.1)) e p) [
      | inl q ↦ let again = expect_again k ts (tail_of ts) (f, refl) in absurd cc
      | inr q ↦ elim (bind_err (seq b (ended ∷ []) q.0.1) (λ y. Ok ((q.0.0, y.0), y.1)) e q.2) [
        | inl w ↦ elim (bind_err (ended_expression b q.0.1) (λ y. Ok ((y.0, tt), y.1)) e w) [
          | inl v ↦ subst (λ (us : List Token). ended_expression b us ≡ Err e) (sym (expect_sound k ts q.0 q.1).1) v
          | inr v ↦ absurd cc
        ]
        | inr w ↦ absurd cc
      ]
    ]

-- what begins on the line
line_lives : (k : TokenKind) (make : Expression → Statement)
    → ((f : Expression)
    → flat_statement (make f) ≡ token (fixed k) ∷
    (on_line (flat f) ++ (semicolon (after_expression (edge f)) ∷ [])))
    → (context : StatementContext)
    → ((f : Expression) → Well f → IsStatement context (make f))
    → (ts : List Token) (e : Fault)
    → IsNext (fixed k) (head_of ts)
    → is_on_line (head_of (tail_of ts)) ≡ true
    → Lives Nothing flat_ended Well (tail_of ts) e
    → Lives Nothing flat_statement (IsStatement context) ts e
line_lives k make same context sane [] e f line l = absurd f
line_lives k make same context sane (t ∷ ts) e f line l =
    let end = semicolon (after_expression (edge l.tree)) ∷ [] in
    grows l (t ∷ ts) (t ∷ []) refl (make l.tree) (sane l.tree l.good) []
    (λ us r st m. subst (λ (ms : List FlatToken). Matches ms (t ∷ us) r) (sym (same l.tree))
    (f, on_line_is (flat l.tree) end us r (still_on_line us st) m))
    (λ us st. inl refl)
  where
    still_on_line : (us : List Token) → Starts Nothing ts us → is_on_line (head_of us) ≡ true
    still_on_line us (inl same) = ap (λ (o : Option Token). is_on_line o) same ∙ line
    still_on_line us (inr none) = absurd none

-- return; where no value was read
bare_return_lives : (context : StatementContext)
    → context.in_function ≡ true
    → (ts : List Token) (e : Fault)
    → IsNext (fixed kinds.Return) (head_of ts)
    → Counts e (tail_of ts)
    → Lives Nothing flat_statement (IsStatement context) ts e
bare_return_lives context inside ts e f c =
    stopped (token (fixed kinds.Return) ∷ []) refl ts (tail_of ts) (f, refl) e c (trees.return trees.omitted)
    ((inside, tt), refl) (semicolon after_word ∷ []) (a_token kinds.Semicolon ∷ []) (λ r. inl (refl, refl)) refl

return_lives : (n : ℕ) (b : Below)
    → SoundBelow n b
    → AliveBelow b
    → (context : StatementContext)
    → context.in_function ≡ true
    → (c : Bool) (ts : List Token) (e : Fault)
    → IsNext (fixed kinds.Return) (head_of ts)
    → ends_return (head_of (tail_of ts)) ≡ c
    → return_by b c ts ≡ Err e
    → Lives Nothing flat_statement (IsStatement context) ts e
return_lives n b s a context inside true ts e f h p =
    made_lives n b s a context kinds.Return (an_end after_word ∷ []) ts e refl f (λ v. trees.return trees.omitted)
    (λ v g. ((inside, tt), refl)) (λ v. refl) p
return_lives n b s a context inside false ts e f h p =
    let q = ended_behind b kinds.Return ts e f
    (made_err {A = Statement} b (tok kinds.Return ∷ ended ∷ []) (λ v. trees.return (trees.present v.1.0)) ts e p)
    in
    elim (begun (ended_lives n b s a (tail_of ts) e q)) [
      | inl c ↦ bare_return_lives context inside ts e f c
      | inr l ↦ line_lives kinds.Return (λ f. trees.return (trees.present f)) (λ f. refl) context
          (λ f w. ((inside, w), refl)) ts e f (given_on_line (head_of (tail_of ts)) h) l
    ]

-- throw 0; on one line
zero_throw_lives : (context : StatementContext) (ts : List Token) (e : Fault)
    → IsNext (fixed kinds.Throw) (head_of ts)
    → Counts e (tail_of ts)
    → Lives Nothing flat_statement (IsStatement context) ts e
zero_throw_lives context ts e f c =
    stopped (token (fixed kinds.Throw) ∷ []) refl ts (tail_of ts) (f, refl) e c (trees.throw (trees.number 0))
    (tt, refl) (beside (numeric_literal 0) ∷ semicolon (after_expression plain) ∷ [])
    (a_near_token kinds.Number ∷ a_token kinds.Semicolon ∷ []) (λ r. ((refl, refl), refl, inl (refl, refl))) refl

throw_lives : (n : ℕ) (b : Below)
    → SoundBelow n b
    → AliveBelow b
    → (context : StatementContext) (c : Bool) (ts : List Token) (e : Fault)
    → IsNext (fixed kinds.Throw) (head_of ts)
    → is_on_line (head_of (tail_of ts)) ≡ c
    → throw_by b c ts ≡ Err e
    → Lives Nothing flat_statement (IsStatement context) ts e
throw_lives n b s a context true ts e f h p =
    let q = ended_behind b kinds.Throw ts e f
    (made_err {A = Statement} b (tok kinds.Throw ∷ ended ∷ []) (λ v. trees.throw v.1.0) ts e p) in
    elim (begun (ended_lives n b s a (tail_of ts) e q)) [
      | inl c ↦ zero_throw_lives context ts e f c
      | inr l ↦ line_lives kinds.Throw (λ f. trees.throw f) (λ f. refl) context (λ f w. (w, refl)) ts e f h l
    ]
throw_lives n b s a context false ts e f h p =
    zero_throw_lives context ts e f (stuck_counts {A = Statement} (tail_of ts) e p)

-- ---- try

-- the catch of a try, behind which none is needed
abbrev IsHandler : StatementContext → Handler → Type 0
IsHandler context h = WellHandler context h × (is_handled h trees.no_finally ≡ true)

abbrev pub empty_braces : List FlatToken
empty_braces = token (fixed kinds.LeftBrace) ∷ token (fixed kinds.RightBrace) ∷ []

abbrev pub empty_brace_tokens : List Added
empty_brace_tokens = a_token kinds.LeftBrace ∷ a_token kinds.RightBrace ∷ []

catch_lives : (n : ℕ) (b : Below)
    → SoundBelow n b
    → AliveBelow b
    → (context : StatementContext) (c : Bool) (ts : List Token) (e : Fault)
    → IsNext (fixed kinds.Catch) (head_of ts)
    → catch_by b context c (tail_of ts) ≡ Err e
    → Lives Nothing flat_handler (IsHandler context) ts e
catch_lives n b s a context true ts e f p =
    elim (bind_err (seq b catch_items (tail_of ts))
    (λ n. b.block context (n.0.1.0 ∷ []) n.1 >>= λ x. Ok (trees.catch (Some n.0.1.0) x.0, x.1)) e p) [
      | inl q ↦
          let l = anything (seq_lives n b s a catch_items refl (tail_of ts) e q) in
          around l (token (fixed kinds.Catch) ∷ []) refl ts (f, refl)
          (trees.catch (Some l.tree.1.0) trees.no_statements)
          ((tt, tt), refl) empty_braces empty_brace_tokens (λ r. (refl, (refl, refl))) refl
      | inr q ↦ elim
          (bind_err (b.block context (q.0.0.1.0 ∷ []) q.0.1) (λ x. Ok (trees.catch (Some q.0.0.1.0) x.0, x.1)) e q.2) [
            | inl w ↦
                let t = seq_sound n b s catch_items (tail_of ts) q.0 q.1 in
                let l = a.block context (q.0.0.1.0 ∷ []) q.0.1 e w in
                let front = token (fixed kinds.Catch) ∷ token (fixed kinds.LeftParenthesis) ∷ token
                (identifier q.0.0.1.0)
                ∷ token (fixed kinds.RightParenthesis) ∷ [] in
                behind l front refl ts (f, t.marks) (trees.catch (Some q.0.0.1.0) l.tree) (l.good, refl)
                (ap (λ (ms : List FlatToken). front ++ ms) (sym (append-nil (flat_block l.tree))))
            | inr w ↦ absurd cc
          ]
    ]
catch_lives n b s a context false ts e f p =
    elim (bind_err (b.block context [] (tail_of ts)) (λ x. Ok (trees.catch None x.0, x.1)) e p) [
      | inl q ↦
          let l = a.block context [] (tail_of ts) e q in
          behind l (token (fixed kinds.Catch) ∷ []) refl ts (f, refl) (trees.catch None l.tree) (l.good, refl)
          (ap (λ (ms : List FlatToken). token (fixed kinds.Catch) ∷ ms) (sym (append-nil (flat_block l.tree))))
      | inr q ↦ absurd cc
    ]

handler_by_lives : (n : ℕ) (b : Below)
    → SoundBelow n b
    → AliveBelow b
    → (context : StatementContext) (c : Bool) (ts : List Token) (e : Fault)
    → is_kind kinds.Catch (head_of ts) ≡ c
    → handler_by b context c ts ≡ Err e
    → Lives Nothing flat_handler (IsHandler context) ts e
handler_by_lives n b s a context true ts e h p =
    catch_lives n b s a context (is_kind kinds.LeftParenthesis (head_of (tail_of ts))) ts e
    (next_is kinds.Catch (head_of ts) h) p
handler_by_lives n b s a context false ts e h p = absurd cc

handler_lives : (n : ℕ) (b : Below)
    → SoundBelow n b
    → AliveBelow b
    → (context : StatementContext) (ts : List Token) (e : Fault)
    → handler_at b context ts ≡ Err e
    → Lives Nothing flat_handler (IsHandler context) ts e
unfolding handler_at
handler_lives n b s a context ts e p = handler_by_lives n b s a context (is_kind kinds.Catch (head_of ts)) ts e refl p

-- the finally of a try behind this catch
abbrev IsFinalizer : StatementContext → Handler → Finalizer → Type 0
IsFinalizer context h f = WellFinalizer context f × (is_handled h f ≡ true)

finalizer_by_lives : (n : ℕ) (b : Below)
    → SoundBelow n b
    → AliveBelow b
    → (context : StatementContext) (h : Handler) (c : Bool) (ts : List Token) (e : Fault)
    → finalizer_by b context h c ts ≡ Err e
    → Lives Anything flat_finalizer (IsFinalizer context h) ts e
finalizer_by_lives n b s a context h true ts e p =
    let is = tok kinds.Finally ∷ a_block context [] ∷ [] in
    let l = anything (seq_lives n b s a is refl ts e (made_err {A = Finalizer} b is (λ v. trees.finally v.1.0) ts e p))
    in
    renamed l (trees.finally l.tree.1.0) (l.good.1.0, finally_handled h l.tree.1.0) refl
finalizer_by_lives n b s a context trees.no_catch false ts e p =
    fills ts e (stuck_counts {A = Finalizer} ts e p) (trees.finally trees.no_statements) ((tt, tt), refl)
    (a_token kinds.Finally ∷ empty_brace_tokens) (λ r. (refl, (refl, (refl, refl)))) (λ r. tt)
finalizer_by_lives n b s a context (trees.catch m ss) false ts e p = absurd cc

finalizer_lives : (n : ℕ) (b : Below)
    → SoundBelow n b
    → AliveBelow b
    → (context : StatementContext) (h : Handler) (ts : List Token) (e : Fault)
    → finalizer_at b context h ts ≡ Err e
    → Lives Anything flat_finalizer (IsFinalizer context h) ts e
unfolding finalizer_at
finalizer_lives n b s a context h ts e p =
    finalizer_by_lives n b s a context h (is_kind kinds.Finally (head_of ts)) ts e p

-- the block of a try that was read
abbrev try_front : Statements → List FlatToken
try_front ss = token (fixed kinds.Try) ∷ flat_block ss

try_front_firm : (ss : Statements) → is_firm (try_front ss) ≡ true
try_front_firm ss = firm_behind (token (fixed kinds.Try)) (flat_block ss) (firm_braces (flat_statements ss))

handler_firm : (ss : Statements) (h : Handler) → is_firm (try_front ss ++ flat_handler h) ≡ true
handler_firm ss trees.no_catch = firm_nil (try_front ss) (try_front_firm ss)
handler_firm ss (trees.catch None body) =
    firm_append (try_front ss) (token (fixed kinds.Catch) ∷ (flat_block body ++ []))
    (firm_behind (token (fixed kinds.Catch)) (flat_block body ++ [])
    (firm_nil (flat_block body) (firm_braces (flat_statements body))))
handler_firm ss (trees.catch (Some m) body) =
    let front = token (fixed kinds.Catch) ∷ token (fixed kinds.LeftParenthesis) ∷ token (identifier m) ∷ token
    (fixed kinds.RightParenthesis) ∷ [] in
    firm_append (try_front ss) (front ++ (flat_block body ++ []))
    (firm_append front (flat_block body ++ []) (firm_nil (flat_block body) (firm_braces (flat_statements body))))

try_block_lives : (n : ℕ) (b : Below)
    → SoundBelow n b
    → AliveBelow b
    → (context : StatementContext) (ts : List Token) (e : Fault)
    → IsNext (fixed kinds.Try) (head_of ts)
    → seq b (try_items context) ts ≡ Err e
    → Lives Nothing flat_statement (IsStatement context) ts e
try_block_lives n b s a context ts e f p =
    let is = a_block context [] ∷ [] in
    let l = known_lives n b s a kinds.Try is refl ts e f p in
    ends_in l (trees.try l.tree.1.0 trees.no_catch (trees.finally trees.no_statements))
    ((l.good.1.0.0, l.good.1.0.1, tt, (tt, tt), refl), refl) (token (fixed kinds.Finally) ∷ empty_braces)
    (a_token kinds.Finally ∷ empty_brace_tokens) (λ r. (refl, (refl, (refl, refl))))
    (ap (λ (ms : List FlatToken). token (fixed kinds.Try) ∷ (ms ++ (token (fixed kinds.Finally) ∷ empty_braces)))
    (append-nil (flat_block l.tree.1.0)))

try_lives : (n : ℕ) (b : Below)
    → SoundBelow n b
    → AliveBelow b
    → (context : StatementContext) (ts : List Token) (e : Fault)
    → IsNext (fixed kinds.Try) (head_of ts)
    → try_at b context ts ≡ Err e
    → Lives Nothing flat_statement (IsStatement context) ts e
unfolding try_at
try_lives n b s a context ts e f p =
    elim (bind_err (seq b (try_items context) ts)
    (λ x. handler_at b context x.1 >>= λ h. finalizer_at b context h.0 h.1 >>= λ f. Ok
    (trees.try x.0.1.0 h.0 f.0, f.1))
    e p) [
      | inl q ↦ try_block_lives n b s a context ts e f q
      | inr q ↦
          let t = seq_sound n b s (try_items context) ts q.0 q.1 in
          let ss = q.0.0.1.0 in
          let m = and_nothing (try_front ss) ts q.0.1 t.marks in
          elim (bind_err (handler_at b context q.0.1)
          (λ h. finalizer_at b context h.0 h.1 >>= λ f. Ok (trees.try ss h.0 f.0, f.1)) e q.2) [
            | inl w ↦
                let l = handler_lives n b s a context q.0.1 e w in
                behind l (try_front ss) (try_front_firm ss) ts m (trees.try ss l.tree trees.no_finally)
                ((t.sane.1.0.0, t.sane.1.0.1, l.good.0, tt, l.good.1), refl)
                (ap (λ (ms : List FlatToken). try_front ss ++ ms) (sym (append-nil (flat_handler l.tree))))
            | inr w ↦ elim (bind_err (finalizer_at b context w.0.0 w.0.1) (λ f. Ok (trees.try ss w.0.0 f.0, f.1)) e w.2) [
              | inl v ↦
                  let u = handler_sound n b s context q.0.1 w.0 w.1 in
                  let h = w.0.0 in
                  let l = finalizer_lives n b s a context h w.0.1 e v in
                  behind l (try_front ss ++ flat_handler h) (handler_firm ss h) ts
                  (joins (try_front ss) (flat_handler h) ts q.0.1 w.0.1 m u.marks) (trees.try ss h l.tree)
                  ((t.sane.1.0.0, t.sane.1.0.1, u.well, l.good.0, l.good.1), refl)
                  (append_assoc (try_front ss) (flat_handler h) (flat_finalizer l.tree)
                  ∙ ap (λ (ms : List FlatToken). try_front ss ++ (flat_handler h ++ ms))
                  (sym (append-nil (flat_finalizer l.tree))))
              | inr v ↦ absurd cc
            ]
          ]
    ]

-- ---- any statement

block_lives : (n : ℕ) (b : Below)
    → SoundBelow n b
    → AliveBelow b
    → (context : StatementContext) (ts : List Token) (e : Fault)
    → IsNext (fixed kinds.LeftBrace) (head_of ts)
    → made b (in_braces context [] ∷ []) (λ v. trees.block v.0) ts ≡ Err e
    → Lives Nothing flat_statement (IsStatement context) ts e
block_lives n b s a context ts e f p =
    elim (bind_err (braces b context [] ts) (λ y. Ok ((y.0, tt), y.1)) e
    (made_err {A = Statement} b (in_braces context [] ∷ []) (λ v. trees.block v.0) ts e p)) [
      | inl q ↦
          let l = opened_lives n b s a context [] ts e f q in
          renamed l (trees.block l.tree) (l.good, refl) refl
      | inr q ↦ absurd cc
    ]

-- an expression that is no block and no function
expression_statement_lives : (context : StatementContext) (ts : List Token) (e : Fault)
    → is_kind kinds.LeftBrace (head_of ts) ≡ false
    → is_kind kinds.Function (head_of ts) ≡ false
    → Lives IsZero flat_ended Well ts e
    → Lives IsZero flat_statement (IsStatement context) ts e
expression_statement_lives context ts e f g l =
    let us = l.before ++ (added l.rest ++ []) in
    let m = parts (flat l.tree) (semicolon (after_expression (edge l.tree)) ∷ []) us [] (l.spelled []) in
    let brace = other_kind kinds.LeftBrace ts us refl f (l.starts []) in
    let word = other_kind kinds.Function ts us refl g (l.starts []) in
    renamed l (trees.expression l.tree)
    ((l.good, no_brace (flat l.tree) us m.0 brace m.1, no_function (flat l.tree) us m.0 word m.1), refl) refl

ended_alone : (b : Below) (ts : List Token) (e : Fault)
    → made b (ended ∷ []) (λ v. trees.expression v.0) ts ≡ Err e
    → ended_expression b ts ≡ Err e
ended_alone b ts e p =
    elim (bind_err (ended_expression b ts) (λ y. Ok ((y.0, tt), y.1)) e
    (made_err {A = Statement} b (ended ∷ []) (λ v. trees.expression v.0) ts e p)) [
      | inl q ↦ q
      | inr q ↦ absurd cc
    ]

-- a word that may not stand here
refused_word : (context : StatementContext) (ts : List Token) (e : Fault) (c : Bool) (read : Read Statement)
    → (c ≡ true → read ≡ Err e → Lives Nothing flat_statement (IsStatement context) ts e)
    → (if c then read else Err (stuck (length ts))) ≡ Err e
    → Lives IsZero flat_statement (IsStatement context) ts e
refused_word context ts e c read h p = elim (cond_err c read (Err (stuck (length ts))) e p) [
  | inl q ↦ from_nothing (h q.0 q.1)
  | inr q ↦ zero_statement context ts e (stuck_counts {A = Statement} ts e q.1)
]

statement_by_lives : (n : ℕ) (b : Below)
    → SoundBelow n b
    → AliveBelow b
    → (context : StatementContext) (c : StatementStart) (ts : List Token) (e : Fault)
    → FirstNext c (head_of ts)
    → statement_by b context c ts ≡ Err e
    → Lives IsZero flat_statement (IsStatement context) ts e
statement_by_lives n b s a context classes.a_block ts e f p = from_nothing (block_lives n b s a context ts e f p)
statement_by_lives n b s a context (classes.a_lexical constant) ts e f p =
    zero_statement context ts e (stuck_counts {A = Statement} ts e p)
statement_by_lives n b s a context classes.a_semicolon ts e f p = absurd cc
statement_by_lives n b s a context classes.an_if ts e f p = from_nothing (if_lives n b s a context ts e f p)
statement_by_lives n b s a context classes.a_do ts e f p = from_nothing (do_lives n b s a context ts e f p)
statement_by_lives n b s a context classes.a_while ts e f p = from_nothing (while_lives n b s a context ts e f p)
statement_by_lives n b s a context classes.a_for ts e f p = from_nothing (for_lives n b s a context ts e f p)
statement_by_lives n b s a context classes.a_continue ts e f p =
    refused_word context ts e context.in_loop
    (made b (tok kinds.Continue ∷ an_end after_word ∷ []) (λ v. trees.continue) ts)
    (λ h q. continue_lives n b s a context h ts e f q) p
statement_by_lives n b s a context classes.a_break ts e f p =
    refused_word context ts e context.in_loop (made b (tok kinds.Break ∷ an_end after_word ∷ []) (λ v. trees.break) ts)
    (λ h q. break_lives n b s a context h ts e f q) p
statement_by_lives n b s a context classes.a_return ts e f p =
    refused_word context ts e context.in_function (return_by b (ends_return (head_of (tail_of ts))) ts)
    (λ h q. return_lives n b s a context h (ends_return (head_of (tail_of ts))) ts e f refl q) p
statement_by_lives n b s a context classes.a_throw ts e f p =
    from_nothing (throw_lives n b s a context (is_on_line (head_of (tail_of ts))) ts e f refl p)
statement_by_lives n b s a context classes.a_try ts e f p = from_nothing (try_lives n b s a context ts e f p)
statement_by_lives n b s a context classes.a_debugger ts e f p = from_nothing (debugger_lives n b s a context ts e f p)
statement_by_lives n b s a context classes.a_function ts e f p =
    zero_statement context ts e (stuck_counts {A = Statement} ts e p)
statement_by_lives n b s a context classes.an_expression ts e f p =
    expression_statement_lives context ts e f.0 f.1 (ended_lives n b s a ts e (ended_alone b ts e p))

pub statement_lives : (n : ℕ) (b : Below)
    → SoundBelow n b
    → AliveBelow b
    → (context : StatementContext) (ts : List Token) (e : Fault)
    → statement b context ts ≡ Err e
    → Lives IsZero flat_statement (IsStatement context) ts e
unfolding statement
statement_lives n b s a context ts e p =
    statement_by_lives n b s a context (first (head_of ts)) ts e (first_next (head_of ts)) p

-- ---- declarations

pub let_marks : (constant : Bool) (ms : List FlatToken)
    → token (fixed (let_kind constant)) ∷ ms ≡ let_or_const constant ++ ms
let_marks constant ms = ap (λ (l : List FlatToken). l ++ ms) (let_is constant)

lexical_lives : (n : ℕ) (b : Below)
    → SoundBelow n b
    → AliveBelow b
    → (context : StatementContext) (constant : Bool) (taken : List Identifier) (ts : List Token) (e : Fault)
    → IsNext (fixed (let_kind constant)) (head_of ts)
    → lexical_at b constant taken ts ≡ Err e
    → Lives Nothing flat_statement (IsItem context taken) ts e
unfolding lexical_at
lexical_lives n b s a context constant taken ts e f p =
    elim (bind_err (declarators_at b constant taken (tail_of ts))
    (λ ds. semicolon_at (end_of_declarators ds.0) ds.1 >>= λ s. Ok (trees.lexical constant ds.0, s.1)) e p) [
      | inl q ↦
          let l = declarators_lives n b s a constant taken (tail_of ts) e q in
          let end = semicolon (end_of_declarators l.tree) ∷ [] in
          around l (token (fixed (let_kind constant)) ∷ []) refl ts (f, refl) (trees.lexical constant l.tree)
          ((l.good.0, l.good.1, l.good.2), l.good.3) end (a_token kinds.Semicolon ∷ []) (λ r. inl (refl, refl))
          (let_marks constant (flat_declarators l.tree ++ end))
      | inr q ↦ elim
          (bind_err (semicolon_at (end_of_declarators q.0.0) q.0.1) (λ s. Ok (trees.lexical constant q.0.0, s.1)) e q.2) [
            | inl w ↦
                let t = declarators_sound n b s constant taken (tail_of ts) q.0 q.1 in
                let ds = q.0.0 in
                let end = semicolon (end_of_declarators ds) ∷ [] in
                let front = token (fixed (let_kind constant)) ∷ flat_declarators ds in
                stopped front
                (firm_behind (token (fixed (let_kind constant))) (flat_declarators ds)
                (declarators_firm ds t.some t.well))
                ts q.0.1 (f, t.marks) e (semicolon_err (end_of_declarators ds) q.0.1 e w)
                (trees.lexical constant ds) ((t.some, t.well, t.initialized), t.fresh) end
                (a_token kinds.Semicolon ∷ [])
                (λ r. inl (refl, refl)) (let_marks constant (flat_declarators ds ++ end))
            | inr w ↦ absurd cc
          ]
    ]

declaration_lives : (n : ℕ) (b : Below)
    → SoundBelow n b
    → AliveBelow b
    → (context : StatementContext) (taken : List Identifier) (ts : List Token) (e : Fault)
    → IsNext (fixed kinds.Function) (head_of ts)
    → declaration_at b taken ts ≡ Err e
    → Lives Nothing flat_statement (IsItem context taken) ts e
unfolding declaration_at
declaration_lives n b s a context taken ts e f p =
    elim (bind_err (fresh_name taken (tail_of ts))
    (λ n. code_at b n.1 >>= λ f. Ok (trees.declared_function n.0 f.0.parameters f.0.body, f.1)) e p) [
      | inl q ↦
          let l = fresh_lives taken (tail_of ts) e q in
          around l (token (fixed kinds.Function) ∷ []) refl ts (f, refl)
          (trees.declared_function l.tree [] trees.no_statements) (((tt, tt), tt), (l.good, tt))
          (token (fixed kinds.LeftParenthesis) ∷ token (fixed kinds.RightParenthesis) ∷ empty_braces)
          (a_token kinds.LeftParenthesis ∷ a_token kinds.RightParenthesis ∷ empty_brace_tokens)
          (λ r. (refl, (refl, (refl, (refl, refl))))) refl
      | inr q ↦ elim
          (bind_err (code_at b q.0.1) (λ f. Ok (trees.declared_function q.0.0 f.0.parameters f.0.body, f.1)) e q.2) [
            | inl w ↦
                let t = fresh_sound taken (tail_of ts) q.0 q.1 in
                let l = code_lives n b s a q.0.1 e w in
                let front = token (fixed kinds.Function) ∷ token (identifier q.0.0) ∷ [] in
                behind l front refl ts (f, t.0) (trees.declared_function q.0.0 l.tree.parameters l.tree.body)
                (l.good, (t.1, tt))
                (ap (λ (ms : List FlatToken). front ++ (flat_parameters l.tree.parameters ++ ms))
                (sym (append-nil (flat_block l.tree.body))))
            | inr w ↦ absurd cc
          ]
    ]

-- a statement declares no name in its list
pub as_item : (context : StatementContext) (taken : List Identifier) (ts : List Token) (e : Fault)
    → Lives IsZero flat_statement (IsStatement context) ts e
    → Lives IsZero flat_statement (IsItem context taken) ts e
as_item context taken ts e l = renamed l l.tree (l.good.0, declares_none taken l.tree l.good.1) refl

item_by_lives : (n : ℕ) (b : Below)
    → SoundBelow n b
    → AliveBelow b
    → (context : StatementContext) (taken : List Identifier) (c : StatementStart) (ts : List Token) (e : Fault)
    → FirstNext c (head_of ts)
    → item_by b context taken c ts ≡ Err e
    → Lives IsZero flat_statement (IsItem context taken) ts e
item_by_lives n b s a context taken (classes.a_lexical constant) ts e f p =
    from_nothing (lexical_lives n b s a context constant taken ts e f p)
item_by_lives n b s a context taken classes.a_function ts e f p =
    from_nothing (declaration_lives n b s a context taken ts e f p)
item_by_lives n b s a context taken _ ts e f p = as_item context taken ts e (statement_lives n b s a context ts e p)

pub list_item_lives : (n : ℕ) (b : Below)
    → SoundBelow n b
    → AliveBelow b
    → (context : StatementContext) (taken : List Identifier) (ts : List Token) (e : Fault)
    → item b context taken ts ≡ Err e
    → Lives IsZero flat_statement (IsItem context taken) ts e
unfolding item
list_item_lives n b s a context taken ts e p =
    item_by_lives n b s a context taken (first (head_of ts)) ts e (first_next (head_of ts)) p
