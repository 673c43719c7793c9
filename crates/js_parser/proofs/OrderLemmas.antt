-- The fault that stands in a source comes first of those for which the source has a cause.
use Rattle.std.proofs.Common.{◌≡◌, ℕ, ◌<◌, inl, inr, List, [], ◌∷◌, ◌++◌, length, None, Some, sym, ap, subst, ◌∙◌, append_assoc, arith}
use Rattle.std.proofs.lemmas.Bool.{cases_lt}
use Rattle.js_parser_language.specs.Tokens.{Token}
use Rattle.js_parser_readers.specs.declared.fault.ParseFault.{ParseFault}
use Rattle.js_parser_readers.specs.declared.fault.ParseFault.TheVariants as faults
use Rattle.js_parser.specs.Faults.{IsPlace, LeavesLanguage, PassesLimit, HasSyntaxFault, HasTooMany, StandsInSource, IsCause, IsNoLater, ComesFirst}
use Rattle.js_parser.specs.Sources.{tokens_of, bad_place}
use Rattle.js_parser.proofs.FaultLemmas.{GoesOn, goes_on, past, syntax_once, many_once, bad_syntax, bad_many, some_is}
use Rattle.js_parser.proofs.PlaceLemmas.{token_in, token_before, token_before_bad}

-- ---- the language is left

syntax_bad_by : (source : List ℕ) (a b : ℕ) (before left : List Token)
    → tokens_of source ≡ before ++ left
    → IsPlace source left a
    → bad_place source ≡ Some b
    → a < b
syntax_bad_by source a b before [] p place q = let e : bad_place source ≡ None = place.0 in absurd cc
syntax_bad_by source a b before (t ∷ left) p place q =
    let l = token_before_bad source before t left p b q in omega (arith, place, l)

-- between the place where the language is left and the token that is one too many
syntax_many_by : (source : List ℕ) (a b : ℕ) (before left middle : List Token) (next : Token) (after : List Token)
    → tokens_of source ≡ before ++ left
    → left ≡ middle ++ next ∷ after
    → IsPlace source left a
    → b ≡ next.start
    → IsNoLater a 1 b 2
syntax_many_by source a b before left [] next after p q place e =
    let at : a ≡ next.start = subst (λ (left : List Token). IsPlace source left a) q place in
    inr (at ∙ sym e, omega arith)
syntax_many_by source a b before left (t ∷ middle) next after p q place e =
    let at : a ≡ t.start = subst (λ (left : List Token). IsPlace source left a) q place in
    let l = token_before source before t middle next after (p ∙ ap (λ (left : List Token). before ++ left) q) in
    inl (omega (arith, at, e, l))

syntax_many_first : {Tree : Type 0} (Is : List Token → Tree → Type 0) (source : List ℕ) (a b : ℕ)
    → HasSyntaxFault Is source a
    → PassesLimit source b
    → IsNoLater a 1 b 2
syntax_many_first Is source a b f g =
    let m : GoesOn f.0.before f.0.left g.before (g.next ∷ g.left) = goes_on f.0.before f.0.left g.before
    (g.next ∷ g.left) (sym f.0.parts ∙ g.parts) (omega (arith, f.1, g.counted)) in
    syntax_many_by source a b f.0.before f.0.left m.middle g.next g.left f.0.parts m.back f.0.place g.place

-- ---- one token is too many

many_syntax_by : (source : List ℕ) (a b : ℕ) (before : List Token) (next : Token) (middle left : List Token)
    → tokens_of source ≡ before ++ next ∷ (middle ++ left)
    → a ≡ next.start
    → IsPlace source left b
    → a < b
many_syntax_by source a b before next middle [] p e place =
    let l = token_in source before next (middle ++ []) p in omega (arith, e, place.1, l)
many_syntax_by source a b before next middle (u ∷ left) p e place =
    let l = token_before source before next middle u left p in omega (arith, e, place, l)

many_syntax_first : {Tree : Type 0} (Is : List Token → Tree → Type 0) (source : List ℕ) (a b : ℕ)
    → HasTooMany Is source a
    → LeavesLanguage Is source b
    → a < b
many_syntax_first Is source a b f g =
    let through : List Token = f.0.before ++ f.0.next ∷ [] in
    let same : through ++ f.0.left ≡ g.before ++ g.left = append_assoc f.0.before (f.0.next ∷ []) f.0.left
    ∙ sym f.0.parts
    ∙ g.parts in
    elim (cases_lt (length g.before) (length through)) [
      | inl less ↦ absurd (past Is g.before g.left through f.0.left (sym same) less g.leaves f.1)
      | inr more ↦
          let m : GoesOn through f.0.left g.before g.left = goes_on through f.0.left g.before g.left same more in
          many_syntax_by source a b f.0.before f.0.next m.middle g.left
          (f.0.parts ∙ ap (λ (left : List Token). f.0.before ++ f.0.next ∷ left) m.back) f.0.place g.place
    ]

-- ---- any two

pub comes_first : {Tree : Type 0} (Is : List Token → Tree → Type 0) (height_of : Tree → ℕ) (source : List ℕ)
    (f g : ParseFault)
    → StandsInSource Is height_of source f
    → IsCause Is source g
    → ComesFirst f g
comes_first Is height_of source f (faults.TooLong units) s c = absurd c
comes_first Is height_of source f faults.TooDeep s c = absurd c
comes_first Is height_of source f faults.Memory s c = absurd c
comes_first Is height_of source (faults.Token a) (faults.Token b) s c =
    inr (some_is a b (bad_place source) s.1.0 c, omega arith)
comes_first Is height_of source (faults.Token a) (faults.Syntax b) s c = absurd (bad_syntax Is source a b s.1 c)
comes_first Is height_of source (faults.Token a) (faults.TooMany b) s c = absurd (bad_many Is source a b s.1 c)
comes_first Is height_of source (faults.Syntax a) (faults.Token b) s c =
    inl (syntax_bad_by source a b s.1.0.before s.1.0.left s.1.0.parts s.1.0.place c)
comes_first Is height_of source (faults.Syntax a) (faults.Syntax b) s c =
    inr (syntax_once Is source a b s.1.0 c, omega arith)
comes_first Is height_of source (faults.Syntax a) (faults.TooMany b) s c = syntax_many_first Is source a b s.1 c
comes_first Is height_of source (faults.TooMany a) (faults.Token b) s c =
    let l = token_before_bad source s.1.0.before s.1.0.next s.1.0.left s.1.0.parts b c in
    inl (omega (arith, s.1.0.place, l))
comes_first Is height_of source (faults.TooMany a) (faults.Syntax b) s c = inl (many_syntax_first Is source a b s.1 c)
comes_first Is height_of source (faults.TooMany a) (faults.TooMany b) s c =
    inr (many_once source a b s.1.0 c, omega arith)
comes_first Is height_of source (faults.TooLong units) g s c = tt
comes_first Is height_of source faults.TooDeep g s c = tt
comes_first Is height_of source faults.Memory g s c = tt
