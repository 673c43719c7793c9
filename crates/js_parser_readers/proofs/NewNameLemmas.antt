-- Names that differ from those before them.
use Rattle.std.proofs.Common.{◌≡◌, Bool, true, false, cond, List, length, Ok, Err, refl, ap}
use Rattle.js_lexer.specs.declared.token.TokenKind.TheVariants as kinds
use Rattle.js_tree.specs.Trees.{Identifier}
use Rattle.js_parser_language.specs.Tokens.{Token, head_of, tail_of}
use Rattle.js_parser_language.specs.Well.{is_among}
use Rattle.js_parser_language.specs.Kinds.{is_kind}
use Rattle.js_parser_readers.specs.Reading.{Fault, stuck, Read, text_of, name_at, fresh_name}

abbrev got : Identifier × List Token → Read Identifier
got x = Ok x

abbrev faulty : Fault → Read Identifier
faulty e = Err e

fails_by : (a k : Bool) (x : Identifier × List Token) (d f : Fault)
    → cond k (got x) (faulty d) ≡ faulty f
    → cond a (faulty d) (cond k (got x) (faulty d)) ≡ faulty f
fails_by true true x d f e = absurd cc
fails_by true false x d f e = e
fails_by false k x d f e = e

-- where no name is, no fresh name is
pub fresh_fails : (taken : List Identifier) (ts : List Token) (f : Fault)
    → name_at ts ≡ Err f
    → fresh_name taken ts ≡ Err f
unfolding name_at fresh_name
fresh_fails taken ts f e =
    fails_by (is_among taken (text_of (head_of ts))) (is_kind kinds.Name (head_of ts))
    (text_of (head_of ts), tail_of ts) (stuck (length ts)) f e

text_by : (k : Bool) (x y : Identifier × List Token) (d : Fault) → cond k (got x) (faulty d) ≡ got y → x.0 ≡ y.0
text_by true x y d e = let p : x ≡ y = cc in ap (λ z. z.0) p
text_by false x y d e = absurd cc

name_text : (ts : List Token) (n : Identifier) (r : List Token) → name_at ts ≡ Ok (n, r) → text_of (head_of ts) ≡ n
unfolding name_at
name_text ts n r e =
    text_by (is_kind kinds.Name (head_of ts)) (text_of (head_of ts), tail_of ts) (n, r) (stuck (length ts)) e

-- a name that isn't taken
pub fresh_found : (taken : List Identifier) (ts : List Token) (n : Identifier) (r : List Token)
    → name_at ts ≡ Ok (n, r)
    → is_among taken n ≡ false
    → fresh_name taken ts ≡ Ok (n, r)
unfolding fresh_name
fresh_found taken ts n r e f = rw (name_text ts n r e, f) e

-- a name that is taken
pub fresh_taken : (taken : List Identifier) (ts : List Token) (n : Identifier) (r : List Token)
    → name_at ts ≡ Ok (n, r)
    → is_among taken n ≡ true
    → fresh_name taken ts ≡ Err (stuck (length ts))
unfolding fresh_name
fresh_taken taken ts n r e f = rw (name_text ts n r e, f) refl

pub ruleset fresh_laws = (fresh_fails, fresh_found, fresh_taken)

name_by : (a : Bool) (read : Read Identifier) (d : Fault) (x : Identifier × List Token)
    → cond a (faulty d) read ≡ got x
    → read ≡ got x
name_by true read d x e = absurd cc
name_by false read d x e = e

pub name_of_fresh : (taken : List Identifier) (ts : List Token) (x : Identifier × List Token)
    → fresh_name taken ts ≡ Ok x
    → name_at ts ≡ Ok x
unfolding fresh_name
name_of_fresh taken ts x e = name_by (is_among taken (text_of (head_of ts))) (name_at ts) (stuck (length ts)) x e
