-- Lists of trees, one by one: what is behind those whose values were made decides what all come to.
use Rattle.std.proofs.Common.{◌≡◌, ℕ, ◌+◌, ◌<◌, ◌≤◌, List, [], ◌∷◌, ◌++◌, length, drop, get_or, map}
use Rattle.std.proofs.Common.{Option, Some, None, option_map, option_and_then, Bor, Global, refl, sym, ap, ◌∙◌}
use Rattle.std.proofs.lemmas.List.{map-append, drop_all, drop_more}
use Rattle.json.specs.Value as trees
use Rattle.json.specs.declared.value.Value as declared
use Rattle.serde_json.specs.Data.{Data, Items, no_items, item, Members, put}
use Rattle.serde_json.specs.Read.{of_json, of_items, of_members}
use Rattle.serde_json.specs.View.{view, items_of, items_view}
use Rattle.serde_json.specs.declared.value.Value.{Value}
use Rattle.cdp_json.proofs.SafeLemmas.{onto, one_more}

abbrev Tree : Type 0
Tree = declared.Value Global

-- ---- the items of an array

all_items : (done : List Data) → onto item done no_items ≡ items_of done
all_items [] = refl
all_items (d ∷ ds) = ap (item d) (all_items ds)

item_more : (done : List Data) (d : Data) (o : Option Items)
    → option_map (onto item done) (option_map (item d) o) ≡ option_map (onto item (done ++ d ∷ [])) o
item_more done d None = refl
item_more done d (Some ds) = ap Some (one_more item done d ds)

-- what an array comes to whose first values were made
abbrev pub items_behind : List Value → List Tree → Option Items
items_behind done left = option_map (onto item (map view done)) (of_items (trees.items_view left))

-- the same, with what the next tree is
abbrev with_next : List Value → Option Items → Option Data → Option Items
with_next done rest o = option_map (onto item (map view done)) (option_and_then (λ d. option_map (item d) rest) o)

pub items_more : (ts : List Tree) (i : ℕ) (t : Tree) (old new : List Value) (v : Value)
    → i < length ts
    → Some (view v) ≡ of_json (trees.value_view (get_or ts i t))
    → new ≡ old ++ v ∷ []
    → items_behind new (drop (i + 1) ts) ≡ items_behind old (drop i ts)
items_more ts i t old new v lt is pushed =
    let rest = of_items (trees.items_view (drop (i + 1) ts)) in
    sym (ap (items_behind old) (drop_more ts i t lt) ∙ ap (with_next old rest) (sym is)
    ∙ item_more (map view old) (view v) rest
    ∙ ap (λ ds. option_map (onto item ds) rest) (sym (ap (map view) pushed ∙ map-append view old (v ∷ []))))

pub items_refused : (ts : List Tree) (i : ℕ) (t : Tree) (done : List Value)
    → i < length ts
    → None ≡ of_json (trees.value_view (get_or ts i t))
    → None ≡ items_behind done (drop i ts)
items_refused ts i t done lt is =
    sym (ap (items_behind done) (drop_more ts i t lt)
    ∙ ap (with_next done (of_items (trees.items_view (drop (i + 1) ts)))) (sym is))

pub items_all : (ts : List Tree) (i : ℕ) (done : List Value)
    → length ts ≤ i
    → Some (items_view done) ≡ items_behind done (drop i ts)
items_all ts i done le = sym (ap (items_behind done) (drop_all i ts le) ∙ ap Some (all_items (map view done)))

-- ---- the members of an object

abbrev Named : Type 0
Named = Bor (List ℕ) × Tree

-- what an object comes to whose first members are these
abbrev pub members_behind : Members → List Named → Option Members
members_behind done left = of_members (trees.members_view left) done

-- the same, with what the next tree is
abbrev named_next : Members → Named → List Named → Option Data → Option Members
named_next done m left o = option_and_then (λ d. of_members (trees.members_view left) (put m.0.now d done)) o

pub members_more : (ms : List Named) (i : ℕ) (m : Named) (old new : Members) (v : Value)
    → i < length ms
    → Some (view v) ≡ of_json (trees.value_view (get_or ms i m).1)
    → new ≡ put (get_or ms i m).0.now (view v) old
    → members_behind new (drop (i + 1) ms) ≡ members_behind old (drop i ms)
members_more ms i m old new v lt is there =
    let left = drop (i + 1) ms in
    sym (ap (members_behind old) (drop_more ms i m lt) ∙ ap (named_next old (get_or ms i m) left) (sym is)
    ∙ ap (of_members (trees.members_view left)) (sym there))

pub members_refused : (ms : List Named) (i : ℕ) (m : Named) (done : Members)
    → i < length ms
    → None ≡ of_json (trees.value_view (get_or ms i m).1)
    → None ≡ members_behind done (drop i ms)
members_refused ms i m done lt is =
    sym (ap (members_behind done) (drop_more ms i m lt)
    ∙ ap (named_next done (get_or ms i m) (drop (i + 1) ms)) (sym is))

pub members_all : (ms : List Named) (i : ℕ) (done : Members)
    → length ms ≤ i
    → Some done ≡ members_behind done (drop i ms)
members_all ms i done le = sym (ap (members_behind done) (drop_all i ms le))
