-- Names in parentheses where they stand.
use Rattle.std.proofs.Common.{◌≡◌, ℕ, zero, suc, Bool, true, false, List, [], ◌∷◌, ◌++◌, length, Ok, refl, ap, subst, ◌∙◌}
use Rattle.js_lexer.specs.declared.token.TokenKind.TheVariants as kinds
use Rattle.js_tree.specs.declared.node.Span.{Span}
use Rattle.js_tree.specs.Trees.{Identifier}
use Rattle.js_parser_language.specs.Tokens.{Token, FlatToken, fixed, identifier, token, trailing_comma, head_of, tail_of}
use Rattle.js_parser_language.specs.Flat.{more_names, flat_names, flat_parameters}
use Rattle.js_parser_language.specs.Places.{FlatPlace, stands, stands_maybe, place_of, plain}
use Rattle.js_parser_language.specs.Kinds.{is_kind}
use Rattle.js_parser_readers.specs.Reading.{Read, Reader, ◌>>=◌, AfterElement, goes_on, ends, neither, after, after_by, go_after, elements, elements_by, expect, name_at, fresh_name, no_state, with_name}
use Rattle.js_parser_readers.specs.Productions.{one_of, names_before, parameters_at}
use Rattle.js_parser_language.proofs.KindLemmas.{kind_not}
use Rattle.js_parser_readers.specs.Placed.{Placed}
use Rattle.js_parser_readers.proofs.PlacedLemmas.{then}
use Rattle.js_parser_readers.proofs.PlacedTokenLemmas.{tested, expected, named, named_freshly, left_out, put_in}
use Rattle.js_parser_readers.proofs.ShorterLemmas.{bind_ok}

-- names up to the parenthesis that ends them, and the same behind a name
abbrev behind_name : List Identifier → List FlatPlace
behind_name ns = plain (more_names ns) ++ (stands_maybe kinds.Comma ∷ stands (fixed kinds.RightParenthesis) ∷ [])

abbrev up_to_end : List Identifier → List FlatPlace
up_to_end [] = stands (fixed kinds.RightParenthesis) ∷ []
up_to_end (n ∷ ns) = stands (identifier n) ∷ behind_name ns

-- a comma, and names or the end behind it
behind_comma : (spans : List Span) (ns : List Identifier) (ts left : List Token)
    → is_kind kinds.Comma (head_of ts) ≡ true
    → Placed true spans spans (up_to_end ns) (tail_of ts) left
    → Placed true spans spans (behind_name ns) ts left
behind_comma spans [] ts left h p = then (put_in spans kinds.Comma ts (tail_of ts) h refl) p
behind_comma spans (n ∷ ns) ts left h p = then (tested spans kinds.Comma ts (tail_of ts) h refl) p

-- the end behind a name
at_end : (spans : List Span) (ts : List Token)
    → is_kind kinds.RightParenthesis (head_of ts) ≡ true
    → Placed true spans spans (behind_name []) ts (tail_of ts)
at_end spans ts h =
    then (left_out spans kinds.Comma ts (kind_not kinds.RightParenthesis kinds.Comma (head_of ts) h refl))
    (tested spans kinds.RightParenthesis ts (tail_of ts) h refl)

-- what reads names where they stand
abbrev ReadsNames : {S : Type 0} → (S → Reader Identifier) → Type 0
ReadsNames {S} one =
    (spans : List Span) (s : S) (ts : List Token) (n : Identifier) (r : List Token)
    → one s ts ≡ Ok (n, r)
    → Placed true spans spans (stands (identifier n) ∷ []) ts r

abbrev names_read : List Identifier × List Token → Read (List Identifier)
names_read x = Ok x

same_names : (spans : List Span) (x y : List Identifier × List Token) (ts : List Token)
    → names_read x ≡ names_read y
    → Placed true spans spans (up_to_end x.0) ts x.1
    → Placed true spans spans (up_to_end y.0) ts y.1
same_names spans x y ts e p =
    let is : x ≡ y = cc in
    subst (λ (z : List Identifier × List Token). Placed true spans spans (up_to_end z.0) ts z.1) is p

after_is : (a b : Bool) → after_by a b ≡ goes_on → b ≡ true
after_is true b e = absurd cc
after_is false true e = refl
after_is false false e = absurd cc

after_ends : (a b : Bool) → after_by a b ≡ ends → a ≡ true
after_ends true b e = refl
after_ends false true e = absurd cc
after_ends false false e = absurd cc

-- what comes behind a name, if more names stand so
go_on : (spans : List Span) (go : Reader (List Identifier))
    → ((ts : List Token) (x : List Identifier × List Token)
    → go ts ≡ Ok x
    → Placed true spans spans (up_to_end x.0) ts x.1)
    → (a : AfterElement) (ts : List Token)
    → after kinds.RightParenthesis (head_of ts) ≡ a
    → (x : List Identifier × List Token)
    → go_after go a ts ≡ Ok x
    → Placed true spans spans (behind_name x.0) ts x.1
go_on spans go h goes_on ts f x e =
    behind_comma spans x.0 ts x.1
    (after_is (is_kind kinds.RightParenthesis (head_of ts)) (is_kind kinds.Comma (head_of ts)) f)
    (h (tail_of ts) x e)
go_on spans go h ends ts f x e =
    let none : List Identifier = [] in
    let y : List Identifier × List Token = (none, tail_of ts) in
    let is : y ≡ x = cc in
    subst (λ (z : List Identifier × List Token). Placed true spans spans (behind_name z.0) ts z.1) is
    (at_end spans ts
    (after_ends (is_kind kinds.RightParenthesis (head_of ts)) (is_kind kinds.Comma (head_of ts)) f))
go_on spans go h neither ts f x e = absurd cc

names_by : (spans : List Span) {S : Type 0} (one : S → Reader Identifier) (next : S → Identifier → S)
    → ReadsNames one
    → (go : S → Reader (List Identifier))
    → ((s : S) (ts : List Token) (x : List Identifier × List Token)
    → go s ts ≡ Ok x
    → Placed true spans spans (up_to_end x.0) ts x.1)
    → (s : S) (b : Bool) (ts : List Token)
    → is_kind kinds.RightParenthesis (head_of ts) ≡ b
    → (x : List Identifier × List Token)
    → elements_by one next go kinds.RightParenthesis s b ts ≡ Ok x
    → Placed true spans spans (up_to_end x.0) ts x.1
names_by spans one next h go more s true ts f x e =
    same_names spans ([], tail_of ts) x ts e (tested spans kinds.RightParenthesis ts (tail_of ts) f refl)
names_by spans one next h go more s false ts f x e =
    let p = bind_ok (one s ts)
    (λ x. go_after (go (next s x.0)) (after kinds.RightParenthesis (head_of x.1)) x.1 >>= λ y. Ok (x.0 ∷ y.0, y.1))
    x e in
    let q = bind_ok (go_after (go (next s p.0.0)) (after kinds.RightParenthesis (head_of p.0.1)) p.0.1)
    (λ y. Ok (p.0.0 ∷ y.0, y.1)) x p.2 in
    same_names spans (p.0.0 ∷ q.0.0, q.0.1) x ts q.2
    (then (h spans s ts p.0.0 p.0.1 p.1)
    (go_on spans (go (next s p.0.0)) (more (next s p.0.0)) (after kinds.RightParenthesis (head_of p.0.1))
    p.0.1 refl q.0 q.1))

names_up_to : (spans : List Span) {S : Type 0} (one : S → Reader Identifier) (next : S → Identifier → S)
    → ReadsNames one
    → (k : ℕ) (s : S) (ts : List Token) (x : List Identifier × List Token)
    → elements one next kinds.RightParenthesis k s ts ≡ Ok x
    → Placed true spans spans (up_to_end x.0) ts x.1
unfolding elements
names_up_to spans one next h zero s ts x e = absurd cc
names_up_to spans one next h (suc k) s ts x e =
    names_by spans one next h (λ s r. elements one next kinds.RightParenthesis k s r)
    (λ s ts x e. names_up_to spans one next h k s ts x e) s (is_kind kinds.RightParenthesis (head_of ts))
    ts refl x e

plain-append : (ms ns : List FlatToken) → plain (ms ++ ns) ≡ plain ms ++ plain ns
plain-append [] ns = refl
plain-append (m ∷ ms) ns = ap (λ ps. place_of m ∷ ps) (plain-append ms ns)

regroup : (ps : List FlatPlace) (p q : FlatPlace) → (ps ++ p ∷ []) ++ q ∷ [] ≡ ps ++ p ∷ q ∷ []
regroup [] p q = refl
regroup (r ∷ ps) p q = ap (λ ps. r ∷ ps) (regroup ps p q)

-- the same places, as the flat tokens of parameters have them
flat_end : (ns : List Identifier) → plain (flat_names ns) ++ (stands (fixed kinds.RightParenthesis) ∷ []) ≡ up_to_end ns
flat_end [] = refl
flat_end (n ∷ ns) =
    ap (λ ps. stands (identifier n) ∷ ps)
    (ap (λ ps. ps ++ stands (fixed kinds.RightParenthesis) ∷ [])
    (plain-append (more_names ns) (trailing_comma ∷ []))
    ∙ regroup (plain (more_names ns)) (stands_maybe kinds.Comma) (stands (fixed kinds.RightParenthesis)))

flat_list : (ns : List Identifier) → plain (flat_parameters ns) ≡ stands (fixed kinds.LeftParenthesis) ∷ up_to_end ns
flat_list ns =
    ap (λ ps. stands (fixed kinds.LeftParenthesis) ∷ ps)
    (plain-append (flat_names ns) (token (fixed kinds.RightParenthesis) ∷ []) ∙ flat_end ns)

-- names behind a parenthesis, which may be named twice
pub listed : (spans : List Span) (ns : List Identifier) (ts mid left : List Token)
    → expect kinds.LeftParenthesis ts ≡ Ok (tt, mid)
    → names_before mid ≡ Ok (ns, left)
    → Placed true spans spans (plain (flat_parameters ns)) ts left
unfolding names_before
listed spans ns ts mid left e f =
    rw (flat_list ns)
    (then (expected spans kinds.LeftParenthesis ts mid e)
    (names_up_to spans (one_of name_at) no_state (λ spans s ts n r e. named spans n ts r e) (suc (length mid))
    tt mid (ns, left) f))

-- parameters
pub parameters_placed : (spans : List Span) (ns : List Identifier) (ts left : List Token)
    → parameters_at ts ≡ Ok (ns, left)
    → Placed true spans spans (plain (flat_parameters ns)) ts left
unfolding parameters_at
parameters_placed spans ns ts left e =
    let p = bind_ok (expect kinds.LeftParenthesis ts)
    (λ o. elements fresh_name with_name kinds.RightParenthesis (suc (length o.1)) [] o.1) (ns, left) e in
    rw (flat_list ns)
    (then (expected spans kinds.LeftParenthesis ts p.0.1 p.1)
    (names_up_to spans fresh_name with_name (λ spans s ts n r e. named_freshly spans s n ts r e)
    (suc (length p.0.1)) [] p.0.1 (ns, left) p.2))
