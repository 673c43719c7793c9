-- Parameters, as their loop reads them.
use Rattle.std.proofs.Common.{◌≡◌, suc, ◌<◌, false, List, [], ◌∷◌, ◌++◌, length, Ok, ap, arith}
use Rattle.js_lexer.specs.declared.token.TokenKind.TheVariants as kinds
use Rattle.js_lexer.specs.declared.token.Token as lexer
use Rattle.js_parser_readers.specs.Views.{tokens_view}
use Rattle.js_tree.specs.Trees.{Identifier}
use Rattle.js_parser_language.specs.Tokens.{Token, head_of, tail_of}
use Rattle.js_parser_language.specs.Kinds.{is_kind}
use Rattle.js_parser_readers.specs.Reading.{goes_on, ends, after, elements, fresh_name, with_name, with_names}
use Rattle.js_parser_readers.proofs.LoopLemmas.{ReadsElements, elements_go_on, elements_end_after}
use Rattle.js_parser_readers.proofs.ListLemmas.{with_names_push}
use Rattle.js_parser_readers.proofs.ShorterLemmas.{fresh_shorter}
use Rattle.js_parser_readers.proofs.LoopStepLemmas.{tail_shorter, length_view}

-- these names were read and are taken
pub record ReadsParameters (ts : List Token) (xs names : List Identifier) (rest : List Token) : Type 0 where
  pub taken : names ≡ with_names [] xs
  pub reads : ReadsElements fresh_name with_name kinds.RightParenthesis [] ts xs names rest

pub parameters_shorten : (names : List Identifier) (rest : List Token) (n : Identifier) (later : List Token)
    → fresh_name names rest ≡ Ok (n, later)
    → length (tail_of later) < length rest
parameters_shorten names rest n later e = omega (arith, fresh_shorter names rest n later e, tail_shorter later)

pub parameters_go_on : (ts : List Token) (xs names : List Identifier) (rest : List Token) (n : Identifier)
    (later : List Token)
    → ReadsParameters ts xs names rest
    → is_kind kinds.RightParenthesis (head_of rest) ≡ false
    → fresh_name names rest ≡ Ok (n, later)
    → after kinds.RightParenthesis (head_of later) ≡ goes_on
    → ReadsParameters ts (xs ++ n ∷ []) (n ∷ names) (tail_of later)
parameters_go_on ts xs names rest n later r g e h = record {
  taken = rw (with_names_push [] xs n) (ap (λ (ns : List Identifier). n ∷ ns) r.taken);
  reads =
      elements_go_on fresh_name with_name kinds.RightParenthesis [] ts xs names rest n later r.reads g e h
      (parameters_shorten names rest n later e);
}

pub parameters_end_after : (ts : List Token) (xs names : List Identifier) (rest : List Token) (n : Identifier)
    (later : List Token)
    → ReadsParameters ts xs names rest
    → is_kind kinds.RightParenthesis (head_of rest) ≡ false
    → fresh_name names rest ≡ Ok (n, later)
    → after kinds.RightParenthesis (head_of later) ≡ ends
    → (elements fresh_name with_name kinds.RightParenthesis (suc (length ts)) [] ts ≡ Ok (xs ++ n ∷ [], tail_of later))
    × (n ∷ names ≡ with_names [] (xs ++ n ∷ []))
parameters_end_after ts xs names rest n later r g e h = (
  elements_end_after fresh_name with_name kinds.RightParenthesis [] ts xs names rest n later r.reads g e h,
  rw (with_names_push [] xs n) (ap (λ (ns : List Identifier). n ∷ ns) r.taken),
)

pub less_by_view : (rest later new : List lexer.Token)
    → tokens_view new ≡ tail_of (tokens_view later)
    → length (tail_of (tokens_view later)) < length (tokens_view rest)
    → length new < length rest
less_by_view rest later new e l =
    omega (arith, length_view rest, length_view new, ap (λ (ts : List Token). length ts) e)
