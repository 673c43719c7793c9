-- What the readers of statements answer, where the code tells it by other tests.
use Rattle.std.proofs.Common.{◌≡◌, ℕ, true, false, List, Option, Some, None, Result, Ok, Err, refl}
use Rattle.std.specs.Prelude.{IfOk, is_some}
use Rattle.js_lexer.specs.declared.token.TokenKind.{TokenKind}
use Rattle.js_lexer.specs.declared.token.TokenKind.TheVariants as kinds
use Rattle.js_tree.specs.declared.tree.Catch.{Catch}
use Rattle.js_tree.specs.Trees as trees
use Rattle.js_tree.specs.Trees.{Identifier, Statement}
use Rattle.js_parser_language.specs.Tokens.{Token, head_of, tail_of}
use Rattle.js_parser_language.specs.Well.{StatementContext}
use Rattle.js_tree.specs.Views.{handler_view}
use Rattle.js_tree.proofs.ViewLemmas.{catch_of}
use Rattle.js_parser_readers.specs.declared.fault.ParseError.{ParseError}
use Rattle.js_parser_readers.specs.Giving.{Gives}
use Rattle.js_parser_language.specs.Kinds.{is_kind}
use Rattle.js_parser_readers.specs.Reading.{expect}
use Rattle.js_parser_readers.specs.Productions.{Below, with_declared}
use Rattle.js_parser_readers.specs.Parsing.{below, statement, finalizer_at}
use Rattle.js_parser_readers.proofs.ShorterLemmas.{takes_nothing}

pub expect_found : (k : TokenKind) (ts : List Token) → is_kind k (head_of ts) ≡ true → expect k ts ≡ Ok (tt, tail_of ts)
unfolding expect
expect_found k ts e = rw e refl

-- a statement that is no declaration takes no names
pub names_kept : {X : Type 0} (n : ℕ) (context : StatementContext) (taken : List Identifier) (ts : List Token)
    (r : Result X ParseError) (look : X → Statement × List Token)
    → Gives look r (statement (below n) context ts)
    → IfOk r (λ x. taken ≡ with_declared taken (look x).0)
names_kept n context taken ts (Ok x) look g = takes_nothing n context taken ts (look x).0 (look x).1 g
names_kept n context taken ts (Err e) look g = tt

-- nothing stands for a finally behind a catch
pub no_finalizer : (b : Below) (context : StatementContext) (h : Option Catch) (ts : List Token)
    → is_some h ≡ true
    → is_kind kinds.Finally (head_of ts) ≡ false
    → finalizer_at b context (handler_view h) ts ≡ Ok (trees.no_finally, ts)
unfolding finalizer_at
no_finalizer b context None ts s k = absurd cc
no_finalizer b context (Some c) ts s k = rw (k, catch_of c) refl
