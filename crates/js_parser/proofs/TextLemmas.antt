-- Where first tokens of a source begin a language, the source, cut behind them, begins a text of it.
use Rattle.std.proofs.Common.{◌≡◌, ℕ, ◌+◌, List, [], ◌∷◌, ◌++◌, length, take, None, Result, Ok, Err, refl, sym, ap, subst, ◌∙◌}
use Rattle.std.specs.Prelude.{map}
use Rattle.js_lexer.specs.State.{items_of}
use Rattle.js_lexer.specs.Tokens.{Lent}
use Rattle.js_lexer.specs.Written.{WrittenToken, written, lent, tokens_then, end_after}
use Rattle.js_lexer.proofs.FirstLaws.{first_tokens}
use Rattle.js_tree.specs.Trees.{Identifier}
use Rattle.js_parser_language.specs.Tokens.{Token}
use Rattle.js_parser_language.specs.Language.{IsExpression, IsFunction, IsScript, BeginsLanguage}
use Rattle.js_parser_laws.specs.Exact.{written_view, AreAlike, BeginsWritten}
use Rattle.js_parser_laws.proofs.BegunLaws.{expression_written, expression_alike, function_written, function_alike, script_written, script_alike}
use Rattle.js_parser.specs.Sources.{lent_view, tokens_in, bad_in, tokens_of}
use Rattle.js_parser.specs.Texts.{end_of_last, BeginsText}

-- ---- the first items

-- the first items of a source are these tokens
record Fronts (is : List (Result Lent ℕ)) (before : List Token) : Type 0 where
  lents : List Lent
  left : List (Result Lent ℕ)
  items : is ≡ tokens_then lents left
  seen : map lent_view lents ≡ before

more_fronts : (x : Lent) (t : Token) (is : List (Result Lent ℕ)) (before : List Token)
    → lent_view x ≡ t
    → Fronts is before
    → Fronts (Ok x ∷ is) (t ∷ before)
more_fronts x t is before heads f = record {
  lents = x ∷ f.lents;
  left = f.left;
  items = ap (λ (is : List (Result Lent ℕ)). Ok x ∷ is) f.items;
  seen = ap (λ (us : List Token). lent_view x ∷ us) f.seen ∙ ap (λ (t : Token). t ∷ before) heads;
}

fronts : (is : List (Result Lent ℕ)) (before left : List Token) → tokens_in is ≡ before ++ left → Fronts is before
fronts is [] left e = record { lents = []; left = is; items = refl; seen = refl }
fronts [] (t ∷ before) left e = absurd cc
fronts (Err at ∷ is) (t ∷ before) left e = absurd cc
fronts (Ok x ∷ is) (t ∷ before) left e =
    let heads : lent_view x ≡ t = cc in
    let tails : tokens_in is ≡ before ++ left = cc in
    more_fronts x t is before heads (fronts is before left tails)

tokens_first : (ls : List Lent) (is : List (Result Lent ℕ))
    → tokens_in (tokens_then ls is) ≡ map lent_view ls ++ tokens_in is
tokens_first [] is = refl
tokens_first (l ∷ ls) is = ap (λ (us : List Token). lent_view l ∷ us) (tokens_first ls is)

bad_first : (ls : List Lent) (is : List (Result Lent ℕ)) → bad_in (tokens_then ls is) ≡ bad_in is
bad_first [] is = refl
bad_first (l ∷ ls) is = bad_first ls is

end_seen : (at : ℕ) (ls : List Lent) → end_after at ls ≡ end_of_last at (map lent_view ls)
end_seen at [] = refl
end_seen at (l ∷ ls) = end_seen (l.start + length l.text) ls

-- ---- the written ones

written_good : (at : ℕ) (ws : List WrittenToken) → bad_in (lent at ws) ≡ None
written_good at [] = refl
written_good at (w ∷ ws) = written_good (at + 1 + length w.text) ws

written_alike : (at : ℕ) (ws : List WrittenToken) → AreAlike (map written_view ws) (tokens_in (lent at ws))
written_alike at [] = tt
written_alike at (w ∷ ws) = (refl, refl, refl, refl, written_alike (at + 1 + length w.text) ws)

alike_behind : (front us vs : List Token) → AreAlike us vs → AreAlike (front ++ us) (front ++ vs)
alike_behind [] us vs a = a
alike_behind (t ∷ front) us vs a = (refl, refl, refl, refl, alike_behind front us vs a)

-- ---- a text

begins_text : {Tree : Type 0} (Is : List Token → Tree → Type 0)
    → ((ts : List Token) → BeginsLanguage Is ts → BeginsWritten Is ts)
    → ((ts us : List Token) (t : Tree) → AreAlike ts us → Is ts t → Is us t)
    → (source : List ℕ) (before left : List Token)
    → tokens_of source ≡ before ++ left
    → BeginsLanguage Is before
    → BeginsText Is source before
begins_text Is writes alike source before left e b =
    let f = fronts (items_of source) before left e in
    let w = writes before b in
    let ends : end_after 0 f.lents ≡ end_of_last 0 before = end_seen 0 f.lents
    ∙ ap (λ (us : List Token). end_of_last 0 us) f.seen in
    let behind = lent (end_after 0 f.lents) w.rest in
    let found : items_of (take (end_of_last 0 before) source ++ written w.rest) ≡ tokens_then f.lents behind = ap
    (λ (n : ℕ). items_of (take n source ++ written w.rest)) (sym ends)
    ∙ first_tokens source f.lents f.left f.items w.rest w.tokens in
    let tokens : tokens_of (take (end_of_last 0 before) source ++ written w.rest) ≡ before ++ tokens_in behind = ap
    (λ (is : List (Result Lent ℕ)). tokens_in is) found
    ∙ tokens_first f.lents behind
    ∙ ap (λ (us : List Token). us ++ tokens_in behind) f.seen in
    record {
      more = written w.rest;
      rest = tokens_in behind;
      tokens = tokens;
      all_good =
          ap (λ (is : List (Result Lent ℕ)). bad_in is) found
          ∙ bad_first f.lents behind
          ∙ written_good (end_after 0 f.lents) w.rest;
      language = (
        w.language.0,
        subst (λ (us : List Token). Is us w.language.0) (sym tokens)
            (alike (before ++ map written_view w.rest) (before ++ tokens_in behind) w.language.0
            (alike_behind before (map written_view w.rest) (tokens_in behind)
            (written_alike (end_after 0 f.lents) w.rest))
            w.language.1),
      );
    }

pub expression_texts : (source : List ℕ) (before left : List Token)
    → tokens_of source ≡ before ++ left
    → BeginsLanguage IsExpression before
    → BeginsText IsExpression source before
expression_texts source before left e b =
    begins_text IsExpression expression_written expression_alike source before left e b

pub function_texts : (source : List ℕ) (before left : List Token)
    → tokens_of source ≡ before ++ left
    → BeginsLanguage IsFunction before
    → BeginsText IsFunction source before
function_texts source before left e b = begins_text IsFunction function_written function_alike source before left e b

pub script_texts : (earlier : List Identifier) (source : List ℕ) (before left : List Token)
    → tokens_of source ≡ before ++ left
    → BeginsLanguage (IsScript earlier) before
    → BeginsText (IsScript earlier) source before
script_texts earlier source before left e b =
    begins_text (IsScript earlier) (script_written earlier) (script_alike earlier) source before left e b
