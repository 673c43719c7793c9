-- Places that were numbered one after another, and those that the parts of a tree have.
use Rattle.std.proofs.Common.{◌≡◌, ◌⊎◌, inl, inr, ℕ, Bool, true, false, List, [], ◌∷◌, ◌++◌, refl, sym, ap, subst}
use Rattle.std.specs.Prelude.{nat_eq, if◌then◌else◌}
use Rattle.js_lexer.specs.declared.token.TokenKind.{TokenKind}
use Rattle.js_lexer.specs.declared.token.TokenKind.TheVariants as kinds
use Rattle.js_tree.specs.declared.node.NodeId.{NodeId}
use Rattle.js_parser_language.specs.Tokens.{FlatToken}
use Rattle.js_parser_language.specs.Flat.{a}
use Rattle.js_parser_language.specs.Places.{FlatPlace, stands, stands_maybe, opens, closes, numbers_of, in_turn, plain, may_stand, node_of, in_braces, in_parentheses, behind_commas, with_commas}
use Rattle.js_parser_numbering.specs.Numbering.{both}
use Rattle.js_parser_numbering.specs.NumberedPlaces.{Placing, tokens, optional_token, before, in_row, enclosed, node_placed, braced, parenthesized, each_behind_comma, comma_separated}
use Rattle.js_parser_numbering.proofs.CountLemmas.{Fits, give_fits, both_fits, of_part_fits, node_fits, numbers_append, quiet}

-- ---- numbers of nodes that begin, and of nodes that end

-- whether the number is one of these
abbrev pub is_number : ℕ → List ℕ → Bool
is_number n [] = false
is_number n (m ∷ ms) = if (nat_eq n m) then true else is_number n ms

-- the numbers of the nodes, in the order in which the nodes begin
abbrev pub openings_of : List FlatPlace → List ℕ
openings_of [] = []
openings_of (stands s ∷ ps) = openings_of ps
openings_of (stands_maybe kind ∷ ps) = openings_of ps
openings_of (opens n ∷ ps) = n ∷ openings_of ps
openings_of (closes n ∷ ps) = openings_of ps

-- each node that ends has begun
abbrev pub AreOpened : List FlatPlace → Type 0
AreOpened ps = (n : ℕ) → is_number n (numbers_of ps) ≡ true → is_number n (openings_of ps) ≡ true

openings_append : (ps qs : List FlatPlace) → openings_of (ps ++ qs) ≡ openings_of ps ++ openings_of qs
openings_append [] qs = refl
openings_append (stands s ∷ ps) qs = openings_append ps qs
openings_append (stands_maybe k ∷ ps) qs = openings_append ps qs
openings_append (opens n ∷ ps) qs = ap (λ ns. n ∷ ns) (openings_append ps qs)
openings_append (closes n ∷ ps) qs = openings_append ps qs

-- the first of them decides, or the others
here : (is rest : Bool) → is ≡ true → (if is then true else rest) ≡ true
here true rest e = refl
here false rest e = absurd cc

later : (is rest : Bool) → rest ≡ true → (if is then true else rest) ≡ true
later true rest e = refl
later false rest e = e

alone : (is : Bool) → (if is then true else false) ≡ true → is ≡ true
alone true e = refl
alone false e = e

first_step : (is one all : Bool)
    → (one ≡ true → all ≡ true)
    → (if is then true else one) ≡ true
    → (if is then true else all) ≡ true
first_step true one all on e = refl
first_step false one all on e = on e

either_step : (is one all other : Bool)
    → (all ≡ true → (one ≡ true) ⊎ (other ≡ true))
    → (if is then true else all) ≡ true
    → ((if is then true else one) ≡ true) ⊎ (other ≡ true)
either_step true one all other on e = inl refl
either_step false one all other on e = on e

among_first : (n : ℕ) (ms ns : List ℕ) → is_number n ms ≡ true → is_number n (ms ++ ns) ≡ true
among_first n [] ns e = absurd cc
among_first n (m ∷ ms) ns e =
    first_step (nat_eq n m) (is_number n ms) (is_number n (ms ++ ns)) (λ h. among_first n ms ns h) e

among_last : (n : ℕ) (ms ns : List ℕ) → is_number n ns ≡ true → is_number n (ms ++ ns) ≡ true
among_last n [] ns e = e
among_last n (m ∷ ms) ns e = later (nat_eq n m) (is_number n (ms ++ ns)) (among_last n ms ns e)

among_either : (n : ℕ) (ms ns : List ℕ)
    → is_number n (ms ++ ns) ≡ true
    → (is_number n ms ≡ true) ⊎ (is_number n ns ≡ true)
among_either n [] ns e = inr e
among_either n (m ∷ ms) ns e =
    either_step (nat_eq n m) (is_number n ms) (is_number n (ms ++ ns)) (is_number n ns) (λ h. among_either n ms ns h) e

-- ---- nodes that have begun

opened_either : (n : ℕ) (ps qs : List FlatPlace)
    → AreOpened ps
    → AreOpened qs
    → (is_number n (numbers_of ps) ≡ true) ⊎ (is_number n (numbers_of qs) ≡ true)
    → is_number n (openings_of (ps ++ qs)) ≡ true
opened_either n ps qs p q (inl e) =
    subst (λ ns. is_number n ns ≡ true) (sym (openings_append ps qs))
    (among_first n (openings_of ps) (openings_of qs) (p n e))
opened_either n ps qs p q (inr e) =
    subst (λ ns. is_number n ns ≡ true) (sym (openings_append ps qs))
    (among_last n (openings_of ps) (openings_of qs) (q n e))

opened_append : (ps qs : List FlatPlace) → AreOpened ps → AreOpened qs → AreOpened (ps ++ qs)
opened_append ps qs p q n e =
    opened_either n ps qs p q
    (among_either n (numbers_of ps) (numbers_of qs) (subst (λ ns. is_number n ns ≡ true) (numbers_append ps qs) e))

opened_in : (n m : ℕ) (ps : List FlatPlace)
    → AreOpened ps
    → (is_number m (numbers_of ps) ≡ true) ⊎ (is_number m (n ∷ []) ≡ true)
    → is_number m (openings_of (enclosed n ps)) ≡ true
opened_in n m ps p (inl e) =
    later (nat_eq m n) (is_number m (openings_of (ps ++ (closes n ∷ []))))
    (subst (λ ns. is_number m ns ≡ true) (sym (openings_append ps (closes n ∷ [])))
    (among_first m (openings_of ps) [] (p m e)))
opened_in n m ps p (inr e) =
    here (nat_eq m n) (is_number m (openings_of (ps ++ (closes n ∷ [])))) (alone (nat_eq m n) e)

opened_node : (n : ℕ) (ps : List FlatPlace) → AreOpened ps → AreOpened (enclosed n ps)
opened_node n ps p m e =
    opened_in n m ps p
    (among_either m (numbers_of ps) (n ∷ [])
    (subst (λ ns. is_number m ns ≡ true) (numbers_append ps (closes n ∷ [])) e))

opened_quiet : (ps : List FlatPlace) → numbers_of ps ≡ [] → AreOpened ps
opened_quiet ps none n e = let f : is_number n [] ≡ true = subst (λ ns. is_number n ns ≡ true) none e in absurd cc

-- ---- places that are those of a part

-- From the first of their numbers on, these are the places that are given, and each node among them that ends has
-- begun.
pub record Stand (f : Placing) (ps : List FlatPlace) : Type 0 where
  pub fits : Fits f (numbers_of ps) ps
  pub opened : AreOpened ps

-- of each of these parts
abbrev pub AllStand : List Placing → List (List FlatPlace) → Type 0
AllStand [] [] = Unit {0}
AllStand (f ∷ fs) (ps ∷ pieces) = Stand f ps × AllStand fs pieces
AllStand [] (ps ∷ pieces) = ⊥
AllStand (f ∷ fs) [] = ⊥

quiet_stands : (ps : List FlatPlace) (f : Placing) → numbers_of ps ≡ [] → Fits f [] ps → Stand f ps
quiet_stands ps f none fits =
    record { fits = subst (λ ns. Fits f ns ps) (sym none) fits; opened = opened_quiet ps none }

pub tokens-stand : (ms : List FlatToken) → Stand (tokens ms) (plain ms)
unfolding tokens
tokens-stand ms = quiet_stands (plain ms) (tokens ms) (quiet ms) (give_fits (plain ms))

pub may-stand : (kind : TokenKind) → Stand (optional_token kind) (may_stand kind)
unfolding optional_token
may-stand kind = quiet_stands (may_stand kind) (optional_token kind) refl (give_fits (may_stand kind))

pub nothing-stands : Stand (in_row []) []
unfolding in_row
nothing-stands = quiet_stands [] (in_row []) refl (give_fits [])

pub before-stands : (f g : Placing) (ps qs : List FlatPlace) → Stand f ps → Stand g qs → Stand (before f g) (ps ++ qs)
before-stands f g ps qs p q =
    let fits : Fits (before f g) (numbers_of ps ++ numbers_of qs) (ps ++ qs) = of_part_fits (λ x. x.0 ++ x.1) (both f g)
    (numbers_of ps ++ numbers_of qs) (ps, qs) (both_fits f g (numbers_of ps) (numbers_of qs) ps qs p.fits q.fits)
    in
    record {
      fits = subst (λ ns. Fits (before f g) ns (ps ++ qs)) (sym (numbers_append ps qs))
          fits;
      opened = opened_append ps qs p.opened q.opened;
    }

pub row-stands : (fs : List Placing) (pieces : List (List FlatPlace))
    → AllStand fs pieces
    → Stand (in_row fs) (in_turn pieces)
unfolding in_row
row-stands [] [] all = nothing-stands
row-stands (f ∷ fs) (ps ∷ pieces) all =
    before-stands f (in_row fs) ps (in_turn pieces) all.0 (row-stands fs pieces all.1)
row-stands [] (ps ∷ pieces) all = absurd all
row-stands (f ∷ fs) [] all = absurd all

node_around : (n : ℕ) (fs : List Placing) (ps : List FlatPlace)
    → Stand (in_row fs) ps
    → Stand (node_placed fs) (enclosed n ps)
unfolding node_placed
node_around n fs ps p =
    let fits : Fits (node_placed fs) (numbers_of ps ++ n ∷ []) (enclosed n ps) = node_fits (λ n ps. enclosed n ps) n
    (in_row fs) (numbers_of ps) ps p.fits in
    record {
      fits = subst (λ ns. Fits (node_placed fs) ns (enclosed n ps)) (sym (numbers_append ps (closes n ∷ [])))
          fits;
      opened = opened_node n ps p.opened;
    }

pub node-stands : (n : NodeId) (fs : List Placing) (pieces : List (List FlatPlace))
    → AllStand fs pieces
    → Stand (node_placed fs) (node_of n pieces)
node-stands n fs pieces all = node_around n.0 fs (in_turn pieces) (row-stands fs pieces all)

pub braces-stand : (f : Placing) (ps : List FlatPlace) → Stand f ps → Stand (braced f) (in_braces ps)
braces-stand f ps p =
    row-stands (tokens (a kinds.LeftBrace) ∷ f ∷ tokens (a kinds.RightBrace) ∷ [])
    (plain (a kinds.LeftBrace) ∷ ps ∷ plain (a kinds.RightBrace) ∷ [])
    (tokens-stand (a kinds.LeftBrace), (p, (tokens-stand (a kinds.RightBrace), tt)))

pub parentheses-stand : (f : Placing) (ps : List FlatPlace) → Stand f ps → Stand (parenthesized f) (in_parentheses ps)
parentheses-stand f ps p =
    row-stands (tokens (a kinds.LeftParenthesis) ∷ f ∷ tokens (a kinds.RightParenthesis) ∷ [])
    (plain (a kinds.LeftParenthesis) ∷ ps ∷ plain (a kinds.RightParenthesis) ∷ [])
    (tokens-stand (a kinds.LeftParenthesis), (p, (tokens-stand (a kinds.RightParenthesis), tt)))

behind-stand : (fs : List Placing) (pieces : List (List FlatPlace))
    → AllStand fs pieces
    → Stand (each_behind_comma fs) (behind_commas pieces)
unfolding each_behind_comma in_row
behind-stand [] [] all = nothing-stands
behind-stand (f ∷ fs) (ps ∷ pieces) all =
    row-stands (tokens (a kinds.Comma) ∷ f ∷ each_behind_comma fs ∷ [])
    (plain (a kinds.Comma) ∷ ps ∷ behind_commas pieces ∷ [])
    (tokens-stand (a kinds.Comma), (all.0, (behind-stand fs pieces all.1, tt)))
behind-stand [] (ps ∷ pieces) all = absurd all
behind-stand (f ∷ fs) [] all = absurd all

pub commas-stand : (fs : List Placing) (pieces : List (List FlatPlace))
    → AllStand fs pieces
    → Stand (comma_separated fs) (with_commas pieces)
unfolding comma_separated in_row
commas-stand [] [] all = nothing-stands
commas-stand (f ∷ fs) (ps ∷ pieces) all =
    before-stands f (each_behind_comma fs) ps (behind_commas pieces) all.0 (behind-stand fs pieces all.1)
commas-stand [] (ps ∷ pieces) all = absurd all
commas-stand (f ∷ fs) [] all = absurd all

-- the same of a tree that is made of its parts
pub carried : {Tree : Type 0} (f : Tree → Placing) (t u : Tree) (ps qs : List FlatPlace)
    → t ≡ u
    → ps ≡ qs
    → Stand (f u) qs
    → Stand (f t) ps
carried f t u ps qs p q h = subst (λ v. Stand (f v) ps) (sym p) (subst (λ os. Stand (f u) os) (sym q) h)
