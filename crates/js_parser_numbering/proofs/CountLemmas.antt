-- Numbers that were given to the nodes of a tree, and the numbers that its places have.
use Rattle.std.proofs.Common.{◌≡◌, ℕ, zero, suc, ◌+◌, List, [], ◌∷◌, ◌++◌, refl, sym, ap, subst, ◌∙◌, arith}
use Rattle.std.specs.List.{range_with_len}
use Rattle.std.proofs.lemmas.List.{append-nil}
use Rattle.js_lexer.specs.declared.token.TokenKind.TheVariants as kinds
use Rattle.js_tree.specs.declared.node.NodeId.{NodeId}
use Rattle.js_parser_language.specs.Tokens.{FlatToken, token, beside, semicolon, trailing_comma}
use Rattle.js_parser_language.specs.Flat.{a}
use Rattle.js_parser_language.specs.Places.{FlatPlace, stands, stands_maybe, opens, closes, numbers_of, in_turn, plain, node_of, in_braces, in_parentheses, behind_commas, with_commas}
use Rattle.js_parser_numbering.specs.Numbering.{Numbered, Numbering, give, and_then, both, changed, of_part, closed, node, leaf}

-- ---- numbers one after another

-- these are the numbers from the first on, up to the one before the next
abbrev pub Counts : ℕ → List ℕ → ℕ → Type 0
Counts first [] next = first ≡ next
Counts first (n ∷ ns) next = (n ≡ first) × Counts (suc first) ns next

record Split (first : ℕ) (ms ns : List ℕ) (next : ℕ) : Type 0 where
  middle : ℕ
  before : Counts first ms middle
  behind : Counts middle ns next

split : (first : ℕ) (ms ns : List ℕ) (next : ℕ) → Counts first (ms ++ ns) next → Split first ms ns next
split first [] ns next c = record { middle = first; before = refl; behind = c }
split first (m ∷ ms) ns next c =
    let s = split (suc first) ms ns next c.1 in
    record { middle = s.middle; before = (c.0, s.before); behind = s.behind }

pub range_counts : (first count : ℕ) → Counts first (range_with_len first count) (first + count)
range_counts first zero = omega arith
range_counts first (suc k) =
    let on : first + 1 ≡ suc first = omega arith in
    let end : suc first + k ≡ first + suc k = omega arith in (
      refl,
      subst (λ m. Counts (suc first) (range_with_len m k) (first + suc k)) (sym on)
          (subst (λ m. Counts (suc first) (range_with_len (suc first) k) m) end (range_counts (suc first) k)),
    )

-- ---- what is made by numbering

abbrev pub counted : {A : Type 0} → A → ℕ → Numbered A
counted x n = record { value = x; next = n }

-- from the first of these numbers on, this is made
pub record Fits {A : Type 0} (f : Numbering A) (ns : List ℕ) (x : A) : Type 0 where
  pub says : (first next : ℕ) → Counts first ns next → f first ≡ counted x next

pub give_fits : {A : Type 0} (x : A) → Fits (give x) [] x
unfolding give
give_fits x = record { says = λ first next c. ap (λ n. counted x n) c }

pub leaf_fits : {B : Type 0} (make : ℕ → B) (n : ℕ) → Fits (leaf make) (n ∷ []) (make n)
unfolding leaf
leaf_fits make n =
    record {
      says = λ first next c. ap (λ m. counted (make m) (suc first)) (sym c.0)
          ∙ ap (λ m. counted (make n) m) c.1;
    }

pub both_fits : {A B : Type 0} (f : Numbering A) (g : Numbering B) (ms ns : List ℕ) (x : A) (y : B)
    → Fits f ms x
    → Fits g ns y
    → Fits (both f g) (ms ++ ns) (x, y)
unfolding both
both_fits f g ms ns x y p q = record { says = λ first next c. joined first next (split first ms ns next c) }
  where
    joined : (first next : ℕ) → Split first ms ns next → both f g first ≡ counted (x, y) next
    joined first next s =
        ap (λ z. and_then z (g z.next)) (p.says first s.middle s.before)
        ∙ ap (λ z. and_then (counted x s.middle) z) (q.says s.middle next s.behind)

pub of_part_fits : {A B : Type 0} (make : A → B) (f : Numbering A) (ns : List ℕ) (x : A)
    → Fits f ns x
    → Fits (of_part make f) ns (make x)
unfolding of_part
of_part_fits make f ns x p = record { says = λ first next c. ap (λ z. changed make z) (p.says first next c) }

pub node_fits : {A B : Type 0} (make : ℕ → A → B) (n : ℕ) (f : Numbering A) (ns : List ℕ) (x : A)
    → Fits f ns x
    → Fits (node make f) (ns ++ n ∷ []) (make n x)
unfolding node
node_fits make n f ns x p = record { says = λ first next c. around first next (split first ns (n ∷ []) next c) }
  where
    around : (first next : ℕ) → Split first ns (n ∷ []) next → node make f first ≡ counted (make n x) next
    around first next s =
        ap (λ z. closed make z) (p.says first s.middle s.before)
        ∙ ap (λ m. counted (make m x) (suc s.middle)) (sym s.behind.0)
        ∙ ap (λ m. counted (make n x) m) s.behind.1

-- nothing behind
pub end_fits : {A : Type 0} (f : Numbering A) (ns : List ℕ) (x : A) → Fits f ns x → Fits f (ns ++ []) x
end_fits f ns x p = subst (λ ms. Fits f ms x) (sym (append-nil ns)) p

pub carried : {Tree A : Type 0} (f : Tree → Numbering A) (t u : Tree) (ps qs : List FlatPlace) (x y : A)
    → t ≡ u
    → ps ≡ qs
    → x ≡ y
    → Fits (f u) (numbers_of qs) y
    → Fits (f t) (numbers_of ps) x
carried f t u ps qs x y p q r h =
    subst (λ v. Fits (f v) (numbers_of ps) x) (sym p)
    (subst (λ os. Fits (f u) (numbers_of os) x) (sym q) (subst (λ z. Fits (f u) (numbers_of qs) z) (sym r) h))

-- ---- the numbers of places

pub numbers_append : (ps qs : List FlatPlace) → numbers_of (ps ++ qs) ≡ numbers_of ps ++ numbers_of qs
numbers_append [] qs = refl
numbers_append (stands s ∷ ps) qs = numbers_append ps qs
numbers_append (stands_maybe k ∷ ps) qs = numbers_append ps qs
numbers_append (opens n ∷ ps) qs = numbers_append ps qs
numbers_append (closes n ∷ ps) qs = ap (λ ns. n ∷ ns) (numbers_append ps qs)

-- of pieces one after another
abbrev pub numbers_in : List (List FlatPlace) → List ℕ
numbers_in [] = []
numbers_in (ps ∷ pieces) = numbers_of ps ++ numbers_in pieces

numbers_turn : (pieces : List (List FlatPlace)) → numbers_of (in_turn pieces) ≡ numbers_in pieces
numbers_turn [] = refl
numbers_turn (ps ∷ pieces) = numbers_append ps (in_turn pieces) ∙ ap (λ ns. numbers_of ps ++ ns) (numbers_turn pieces)

numbers_node : (n : NodeId) (pieces : List (List FlatPlace)) → numbers_of (node_of n pieces) ≡ numbers_in pieces ++ n.0 ∷ []
numbers_node n pieces =
    numbers_append (in_turn pieces) (closes n.0 ∷ []) ∙ ap (λ ns. ns ++ n.0 ∷ []) (numbers_turn pieces)

pub quiet : (ms : List FlatToken) → numbers_of (plain ms) ≡ []
quiet [] = refl
quiet (token s ∷ ms) = quiet ms
quiet (beside s ∷ ms) = quiet ms
quiet (semicolon end ∷ ms) = quiet ms
quiet (trailing_comma ∷ ms) = quiet ms

numbers_behind : (pieces : List (List FlatPlace)) → numbers_of (behind_commas pieces) ≡ numbers_in pieces
numbers_behind [] = refl
numbers_behind (ps ∷ pieces) =
    numbers_append ps (in_turn (behind_commas pieces ∷ []))
    ∙ ap (λ ns. numbers_of ps ++ ns)
    (numbers_turn (behind_commas pieces ∷ [])
    ∙ append-nil (numbers_of (behind_commas pieces))
    ∙ numbers_behind pieces)

numbers_commas : (pieces : List (List FlatPlace)) → numbers_of (with_commas pieces) ≡ numbers_in pieces
numbers_commas [] = refl
numbers_commas (ps ∷ pieces) =
    numbers_append ps (behind_commas pieces) ∙ ap (λ ns. numbers_of ps ++ ns) (numbers_behind pieces)

-- ---- what is made of pieces

pub turn_fits : {A : Type 0} (f : Numbering A) (pieces : List (List FlatPlace)) (x : A)
    → Fits f (numbers_in pieces) x
    → Fits f (numbers_of (in_turn pieces)) x
turn_fits f pieces x p = subst (λ ns. Fits f ns x) (sym (numbers_turn pieces)) p

pub commas_fit : {A : Type 0} (f : Numbering A) (pieces : List (List FlatPlace)) (x : A)
    → Fits f (numbers_in pieces) x
    → Fits f (numbers_of (with_commas pieces)) x
commas_fit f pieces x p = subst (λ ns. Fits f ns x) (sym (numbers_commas pieces)) p

pub form_fits : {A B : Type 0} (make : ℕ → A → B) (n : NodeId) (f : Numbering A) (pieces : List (List FlatPlace)) (x : A)
    → Fits f (numbers_in pieces) x
    → Fits (node make f) (numbers_of (node_of n pieces)) (make n.0 x)
form_fits make n f pieces x p =
    subst (λ ns. Fits (node make f) ns (make n.0 x)) (sym (numbers_node n pieces))
    (node_fits make n.0 f (numbers_in pieces) x p)

pub lone_fits : {B : Type 0} (make : ℕ → B) (n : NodeId) (pieces : List (List FlatPlace))
    → numbers_in pieces ≡ []
    → Fits (leaf make) (numbers_of (node_of n pieces)) (make n.0)
lone_fits make n pieces e =
    subst (λ ns. Fits (leaf make) ns (make n.0)) (sym (numbers_node n pieces ∙ ap (λ ns. ns ++ n.0 ∷ []) e))
    (leaf_fits make n.0)

-- tokens alone
pub quiet_fits : {A : Type 0} (ms : List FlatToken) (f : Numbering A) (ns : List ℕ) (x : A)
    → Fits f ns x
    → Fits f (numbers_of (plain ms) ++ ns) x
quiet_fits ms f ns x p = subst (λ os. Fits f (os ++ ns) x) (sym (quiet ms)) p

pub quiet_end : (ms : List FlatToken) → numbers_of (plain ms) ++ [] ≡ []
quiet_end ms = append-nil (numbers_of (plain ms)) ∙ quiet ms

pub braces_fit : {A : Type 0} (f : Numbering A) (ps : List FlatPlace) (x : A)
    → Fits f (numbers_of ps) x
    → Fits f (numbers_of (in_braces ps)) x
braces_fit f ps x p =
    subst (λ ns. Fits f ns x) (sym (numbers_turn (plain (a kinds.LeftBrace) ∷ ps ∷ plain (a kinds.RightBrace) ∷ [])))
    (end_fits f (numbers_of ps) x p)

pub parentheses_fit : {A : Type 0} (f : Numbering A) (ps : List FlatPlace) (x : A)
    → Fits f (numbers_of ps) x
    → Fits f (numbers_of (in_parentheses ps)) x
parentheses_fit f ps x p =
    subst (λ ns. Fits f ns x)
    (sym (numbers_turn (plain (a kinds.LeftParenthesis) ∷ ps ∷ plain (a kinds.RightParenthesis) ∷ [])))
    (end_fits f (numbers_of ps) x p)
