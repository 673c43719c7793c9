-- Of the faults that stand in a source there is one at most, and a source that has one has no tree.
use Rattle.std.proofs.Common.{◌≡◌, ℕ, ◌≤◌, ◌<◌, inl, inr, List, [], ◌∷◌, ◌++◌, length, Option, Some, None, refl, sym, ap, subst, ◌∙◌, append_assoc, arith}
use Rattle.std.proofs.lemmas.Bool.{cases_lt}
use Rattle.std.proofs.lemmas.List.{append-nil, length-append}
use Rattle.js_parser_language.specs.Tokens.{Token}
use Rattle.js_parser_language.specs.Language.{BeginsLanguage}
use Rattle.js_parser_laws.specs.Exact.{LeavesAfter}
use Rattle.js_parser_readers.specs.declared.fault.ParseFault.{ParseFault}
use Rattle.js_parser_readers.specs.declared.fault.ParseFault.TheVariants as faults
use Rattle.js_parser.specs.Faults.{IsPlace, LeavesLanguage, PassesLimit, HasBadToken, HasSyntaxFault, HasTooMany, StandsInSource}
use Rattle.js_parser.specs.Sources.{tokens_of, bad_place, IsTreeOf}

-- ---- first tokens

-- what begins the language begins it with fewer tokens
pub begins_before : {Tree : Type 0} (Is : List Token → Tree → Type 0) (a b : List Token)
    → BeginsLanguage Is (a ++ b)
    → BeginsLanguage Is a
begins_before Is a b h = (b ++ h.0, (h.1.0, subst (λ (ts : List Token). Is ts h.1.0) (append_assoc a b h.0) h.1.1))

pub begins_whole : {Tree : Type 0} (Is : List Token → Tree → Type 0) (ts : List Token) (t : Tree)
    → Is ts t
    → BeginsLanguage Is ts
begins_whole Is ts t h = ([], (t, subst (λ (ts : List Token). Is ts t) (sym (append-nil ts)) h))

-- a first part that is no longer than another begins it
pub record GoesOn (a b c d : List Token) : Type 0 where
  pub middle : List Token
  pub front : c ≡ a ++ middle
  pub back : b ≡ middle ++ d

pub goes_on : (a b c d : List Token) → a ++ b ≡ c ++ d → length a ≤ length c → GoesOn a b c d
goes_on [] b c d p le = record { middle = c; front = refl; back = p }
goes_on (x ∷ a) b [] d p le = absurd (omega arith)
goes_on (x ∷ a) b (y ∷ c) d p le =
    let heads : x ≡ y = cc in
    let tails : a ++ b ≡ c ++ d = cc in
    let g : GoesOn a b c d = goes_on a b c d tails (omega arith) in
    record {
      middle = g.middle;
      front = ap (λ (c : List Token). y ∷ c) g.front
          ∙ ap (λ (z : Token). z ∷ (a ++ g.middle)) (sym heads);
      back = g.back;
    }

-- past the place where the language is left no tokens begin it
left_by : {Tree : Type 0} (Is : List Token → Tree → Type 0) (before left middle d : List Token)
    → left ≡ middle ++ d
    → 0 < length middle
    → LeavesAfter Is before left
    → BeginsLanguage Is (before ++ middle)
    → ⊥
left_by Is before left [] d p some leaves b = absurd (omega arith)
left_by Is before left (t ∷ middle) d p some leaves b =
    let l : BeginsLanguage Is (before ++ t ∷ []) → ⊥ = subst (λ (left : List Token). LeavesAfter Is before left) p leaves in
    l (begins_before Is (before ++ t ∷ []) middle
    (subst (λ (ts : List Token). BeginsLanguage Is ts) (sym (append_assoc before (t ∷ []) middle)) b))

pub past : {Tree : Type 0} (Is : List Token → Tree → Type 0) (before left c d : List Token)
    → before ++ left ≡ c ++ d
    → length before < length c
    → LeavesAfter Is before left
    → BeginsLanguage Is c
    → ⊥
past Is before left c d p less leaves b =
    let g : GoesOn before left c d = goes_on before left c d p (omega arith) in
    left_by Is before left g.middle d g.back
    (omega (arith, ap (λ (ts : List Token). length ts) g.front, length-append before g.middle)) leaves
    (subst (λ (ts : List Token). BeginsLanguage Is ts) g.front b)

-- ---- two faults

place_once : (source : List ℕ) (left : List Token) (a b : ℕ) → IsPlace source left a → IsPlace source left b → a ≡ b
place_once source [] a b p q = p.1 ∙ sym q.1
place_once source (t ∷ left) a b p q = p ∙ sym q

same_parts : (a b c d : List Token) → a ++ b ≡ c ++ d → length a ≡ length c → b ≡ d
same_parts [] b [] d p e = p
same_parts [] b (y ∷ c) d p e = absurd (omega arith)
same_parts (x ∷ a) b [] d p e = absurd (omega arith)
same_parts (x ∷ a) b (y ∷ c) d p e = let tails : a ++ b ≡ c ++ d = cc in same_parts a b c d tails (omega arith)

pub syntax_once : {Tree : Type 0} (Is : List Token → Tree → Type 0) (source : List ℕ) (a b : ℕ)
    → LeavesLanguage Is source a
    → LeavesLanguage Is source b
    → a ≡ b
syntax_once Is source a b f g =
    let p : f.before ++ f.left ≡ g.before ++ g.left = sym f.parts ∙ g.parts in
    elim (cases_lt (length f.before) (length g.before)) [
      | inl less ↦ absurd (past Is f.before f.left g.before g.left p less f.leaves g.begins)
      | inr more ↦ elim (cases_lt (length g.before) (length f.before)) [
        | inl less ↦ absurd (past Is g.before g.left f.before f.left (sym p) less g.leaves f.begins)
        | inr less ↦
            let e : f.left ≡ g.left = same_parts f.before f.left g.before g.left p (omega arith) in
            place_once source g.left a b (subst (λ (left : List Token). IsPlace source left a) e f.place) g.place
      ]
    ]

pub many_once : (source : List ℕ) (a b : ℕ) → PassesLimit source a → PassesLimit source b → a ≡ b
many_once source a b f g =
    let e : f.next ∷ f.left ≡ g.next ∷ g.left = same_parts f.before (f.next ∷ f.left) g.before (g.next ∷ g.left)
    (sym f.parts ∙ g.parts) (f.counted ∙ sym g.counted) in
    let n : f.next ≡ g.next = cc in
    f.place ∙ ap (λ (t : Token). t.start) n ∙ sym g.place

bad_syntax_by : {Tree : Type 0} (Is : List Token → Tree → Type 0) (source : List ℕ) (a b : ℕ) (before left : List Token)
    → tokens_of source ≡ before ++ left
    → IsPlace source left b
    → LeavesAfter Is before left
    → HasBadToken Is source a
    → ⊥
bad_syntax_by Is source a b before [] p place leaves f =
    let e : bad_place source ≡ None = place.0 in let s : bad_place source ≡ Some a = f.0 in absurd cc
bad_syntax_by Is source a b before (t ∷ left) p place leaves f =
    past Is before (t ∷ left) (tokens_of source) [] (sym p ∙ sym (append-nil (tokens_of source)))
    (omega (arith, ap (λ (ts : List Token). length ts) p, length-append before (t ∷ left))) leaves f.2

pub bad_syntax : {Tree : Type 0} (Is : List Token → Tree → Type 0) (source : List ℕ) (a b : ℕ)
    → HasBadToken Is source a
    → LeavesLanguage Is source b
    → ⊥
bad_syntax Is source a b f g = bad_syntax_by Is source a b g.before g.left g.parts g.place g.leaves f

pub bad_many : {Tree : Type 0} (Is : List Token → Tree → Type 0) (source : List ℕ) (a b : ℕ)
    → HasBadToken Is source a
    → PassesLimit source b
    → ⊥
bad_many Is source a b f g =
    omega (arith, f.1, ap (λ (ts : List Token). length ts) g.parts, length-append g.before (g.next ∷ g.left), g.counted)

syntax_many : {Tree : Type 0} (Is : List Token → Tree → Type 0) (source : List ℕ) (a b : ℕ)
    → HasSyntaxFault Is source a
    → HasTooMany Is source b
    → ⊥
syntax_many Is source a b f g =
    past Is f.0.before f.0.left (g.0.before ++ g.0.next ∷ []) g.0.left
    (sym f.0.parts ∙ g.0.parts ∙ sym (append_assoc g.0.before (g.0.next ∷ []) g.0.left))
    (omega (arith, f.1, g.0.counted, length-append g.0.before (g.0.next ∷ []))) f.0.leaves g.1

pub some_is : (a b : ℕ) (o : Option ℕ) → o ≡ Some a → o ≡ Some b → a ≡ b
some_is a b o p q = cc

-- ---- a fault and a tree

not_in : {Tree : Type 0} (Is : List Token → Tree → Type 0) (before left : List Token) (t : Tree)
    → LeavesAfter Is before left
    → Is (before ++ left) t
    → ⊥
not_in Is before [] t leaves i = leaves (t, subst (λ (ts : List Token). Is ts t) (append-nil before) i)
not_in Is before (x ∷ left) t leaves i =
    leaves (left, (t, subst (λ (ts : List Token). Is ts t) (sym (append_assoc before (x ∷ []) left)) i))

-- Where tokens have a tree within the limits of length and of tokens, no fault stands at a place, and the source isn't
-- too long.
abbrev pub IsPlaced : ParseFault → Type 0
IsPlaced faults.TooDeep = ⊥
IsPlaced faults.Memory = ⊥
IsPlaced f = Unit {0}

pub no_tree : {Tree : Type 0} (Is : List Token → Tree → Type 0) (height_of : Tree → ℕ) (source : List ℕ)
    (f : ParseFault)
    → IsPlaced f
    → StandsInSource Is height_of source f
    → (t : Tree)
    → IsTreeOf Is source t
    → ⊥
no_tree Is height_of source (faults.TooLong units) p s t h = omega (arith, s.0, h.short)
no_tree Is height_of source (faults.Token at) p s t h =
    let e : bad_place source ≡ Some at = s.1.0 in let n : bad_place source ≡ None = h.all_good in absurd cc
no_tree Is height_of source (faults.Syntax at) p s t h =
    not_in Is s.1.0.before s.1.0.left t s.1.0.leaves (subst (λ (ts : List Token). Is ts t) s.1.0.parts h.is)
no_tree Is height_of source (faults.TooMany at) p s t h =
    omega (
      arith,
      h.few,
      ap (λ (ts : List Token). length ts) s.1.0.parts,
      length-append s.1.0.before (s.1.0.next ∷ s.1.0.left),
      s.1.0.counted,
    )
no_tree Is height_of source faults.TooDeep p s t h = absurd p
no_tree Is height_of source faults.Memory p s t h = absurd p

-- At most one fault stands in a source.
pub one_fault : {Tree : Type 0} (Is : List Token → Tree → Type 0) (height_of : Tree → ℕ) (source : List ℕ)
    (f g : ParseFault)
    → StandsInSource Is height_of source f
    → StandsInSource Is height_of source g
    → f ≡ g
one_fault Is height_of source (faults.TooLong a) (faults.TooLong b) p q =
    ap (λ (n : ℕ). faults.TooLong n) (p.1 ∙ sym q.1)
one_fault Is height_of source (faults.TooLong a) (faults.Token b) p q = absurd (omega (arith, p.0, q.0))
one_fault Is height_of source (faults.TooLong a) (faults.Syntax b) p q = absurd (omega (arith, p.0, q.0))
one_fault Is height_of source (faults.TooLong a) (faults.TooMany b) p q = absurd (omega (arith, p.0, q.0))
one_fault Is height_of source (faults.TooLong a) faults.TooDeep p q =
    absurd (no_tree Is height_of source (faults.TooLong a) tt p q.0 q.1.0)
one_fault Is height_of source (faults.Token a) (faults.TooLong b) p q = absurd (omega (arith, p.0, q.0))
one_fault Is height_of source (faults.Token a) (faults.Token b) p q =
    ap (λ (n : ℕ). faults.Token n) (some_is a b (bad_place source) p.1.0 q.1.0)
one_fault Is height_of source (faults.Token a) (faults.Syntax b) p q = absurd (bad_syntax Is source a b p.1 q.1.0)
one_fault Is height_of source (faults.Token a) (faults.TooMany b) p q = absurd (bad_many Is source a b p.1 q.1.0)
one_fault Is height_of source (faults.Token a) faults.TooDeep p q =
    absurd (no_tree Is height_of source (faults.Token a) tt p q.0 q.1.0)
one_fault Is height_of source (faults.Syntax a) (faults.TooLong b) p q = absurd (omega (arith, p.0, q.0))
one_fault Is height_of source (faults.Syntax a) (faults.Token b) p q = absurd (bad_syntax Is source b a q.1 p.1.0)
one_fault Is height_of source (faults.Syntax a) (faults.Syntax b) p q =
    ap (λ (n : ℕ). faults.Syntax n) (syntax_once Is source a b p.1.0 q.1.0)
one_fault Is height_of source (faults.Syntax a) (faults.TooMany b) p q = absurd (syntax_many Is source a b p.1 q.1)
one_fault Is height_of source (faults.Syntax a) faults.TooDeep p q =
    absurd (no_tree Is height_of source (faults.Syntax a) tt p q.0 q.1.0)
one_fault Is height_of source (faults.TooMany a) (faults.TooLong b) p q = absurd (omega (arith, p.0, q.0))
one_fault Is height_of source (faults.TooMany a) (faults.Token b) p q = absurd (bad_many Is source b a q.1 p.1.0)
one_fault Is height_of source (faults.TooMany a) (faults.Syntax b) p q = absurd (syntax_many Is source b a q.1 p.1)
one_fault Is height_of source (faults.TooMany a) (faults.TooMany b) p q =
    ap (λ (n : ℕ). faults.TooMany n) (many_once source a b p.1.0 q.1.0)
one_fault Is height_of source (faults.TooMany a) faults.TooDeep p q =
    absurd (no_tree Is height_of source (faults.TooMany a) tt p q.0 q.1.0)
one_fault Is height_of source faults.TooDeep (faults.TooLong b) p q =
    absurd (no_tree Is height_of source (faults.TooLong b) tt q p.0 p.1.0)
one_fault Is height_of source faults.TooDeep (faults.Token b) p q =
    absurd (no_tree Is height_of source (faults.Token b) tt q p.0 p.1.0)
one_fault Is height_of source faults.TooDeep (faults.Syntax b) p q =
    absurd (no_tree Is height_of source (faults.Syntax b) tt q p.0 p.1.0)
one_fault Is height_of source faults.TooDeep (faults.TooMany b) p q =
    absurd (no_tree Is height_of source (faults.TooMany b) tt q p.0 p.1.0)
one_fault Is height_of source faults.TooDeep faults.TooDeep p q = refl
one_fault Is height_of source faults.Memory g p q = absurd p
one_fault Is height_of source f faults.Memory p q = absurd q
