-- Where keys of one text are the same units, the order in which members are written doesn't change what is read.
use Rattle.std.proofs.Common.{◌≡◌, ℕ, List, [], ◌∷◌, map, Some, refl, sym, ap, ap₂, ◌∙◌, Ordering, Less, Equal, Greater, is_eq}
use Rattle.std.proofs.lemmas.Cmp.{nat_list_cmp_total, tied_itself}
use Rattle.std.proofs.lemmas.Map.Text.{is_eq-slice_cmp}
use Rattle.std.proofs.lemmas.Slice.Eq.{bytes_eq-Decides}
use Rattle.std.specs.Prelude.{fold, ⊤}
use Rattle.std.specs.List.{AllByRecursion}
use Rattle.std.specs.Ordering.{nat_cmp, match_ordering, ordering_reverse}
use Rattle.std.specs.Cmp.Lexicographic.{slice_cmp}
use Rattle.serde_json.specs.Data as values
use Rattle.serde_json.specs.Data.{Data, put}
use Rattle.cdp_text.specs.Units.{utf8_of}
use Rattle.cdp_json.specs.Json.{Json, null, boolean, number, text, list, object, Items, no_items, item, Members, no_members, member, members_of}
use Rattle.cdp_json.specs.KeyOrder.{insert_by, in_order}
use Rattle.cdp_json.specs.ReadBack.{data_of, items_data, members_data, ordered, ordered_items, ordered_members, StandsApart, KeysStandApart, ItemsStandApart, MembersStandApart, GivenIsReadBack}
use Rattle.cdp_json.proofs.OrderLemmas.{in_order-map}
use Rattle.cdp_json.proofs.ReadBackLemmas.{each_insert, written_is_read_back}

-- ---- the order of keys

abbrev cmp : List ℕ → List ℕ → Ordering
cmp = slice_cmp nat_cmp

turned : (k l : List ℕ) (o : Ordering) → cmp k l ≡ o → cmp l k ≡ ordering_reverse o
turned k l o is = nat_list_cmp_total.antisymm l k ∙ ap ordering_reverse is

-- what is above k is above all that k isn't below
above_equal : (k l m : List ℕ) → cmp k l ≡ Less → cmp k m ≡ Equal → cmp l m ≡ Greater
above_equal k l m less is = turned m l Less (sym (nat_list_cmp_total.congr k m l is) ∙ less)

above_greater : (k l m : List ℕ) → cmp k l ≡ Less → cmp k m ≡ Greater → cmp l m ≡ Greater
above_greater k l m less is = turned m l Less (nat_list_cmp_total.trans m k l (turned k m Greater is) less)

-- ---- members of other keys are put in either order

two_at : (o p : Ordering) (k l m : List ℕ) (d e f : Data) (ms : values.Members)
    → cmp k m ≡ o → cmp l m ≡ p → cmp k l ≡ Less
    → put k d (put l e ms) ≡ put l e (put k d ms)
    → put k d (put l e (values.member m f ms)) ≡ put l e (put k d (values.member m f ms))
two_at Less Less k l m d e f ms is js less later = rw (is, js, less, turned k l Less less) refl
two_at Less Equal k l m d e f ms is js less later = rw (is, js, turned k l Less less) (rw is refl)
two_at Less Greater k l m d e f ms is js less later = rw (is, js, turned k l Less less) (rw is refl)
two_at Equal p k l m d e f ms is js less later = rw (is, above_equal k l m less is) (rw is refl)
two_at Greater p k l m d e f ms is js less later =
    rw (is, above_greater k l m less is) (rw is (ap (values.member m f) later))

below_first : (k l : List ℕ) (d e : Data) (ms : values.Members)
    → cmp k l ≡ Less
    → put k d (put l e ms) ≡ put l e (put k d ms)
below_first k l d e values.no_members less = rw (less, turned k l Less less) refl
below_first k l d e (values.member m f ms) less =
    two_at (cmp k m) (cmp l m) k l m d e f ms refl refl less (below_first k l d e ms less)

same_keys : (k l : List ℕ) → cmp k l ≡ Equal → k ≡ l
same_keys k l is = (bytes_eq-Decides k l).0 (sym (is_eq-slice_cmp k l) ∙ ap is_eq is)

either_order : (o : Ordering) (k l : List ℕ) (d e : Data) (ms : values.Members)
    → cmp k l ≡ o
    → (k ≡ l → ⊥)
    → put k d (put l e ms) ≡ put l e (put k d ms)
either_order Less k l d e ms is other = below_first k l d e ms is
either_order Equal k l d e ms is other = absurd (other (same_keys k l is))
either_order Greater k l d e ms is other = sym (below_first l k e d ms (turned k l Greater is))

-- ---- members put one after another

abbrev Entry : Type 0
Entry = List ℕ × Data

abbrev puts : List Entry → values.Members → values.Members
puts [] found = found
puts (e ∷ es) found = puts es (put (utf8_of e.0) e.1 found)

-- a member that has another text than all of these is put before or behind them
past : (e : Entry) (es : List Entry) (found : values.Members) → AllByRecursion (λ x. utf8_of x.0 ≡ utf8_of e.0 → ⊥) es
    → puts es (put (utf8_of e.0) e.1 found) ≡ put (utf8_of e.0) e.1 (puts es found)
past e [] found h = refl
past e (x ∷ xs) found h =
    ap (puts xs) (either_order (cmp (utf8_of x.0) (utf8_of e.0)) (utf8_of x.0) (utf8_of e.0) x.1 e.1 found refl h.0)
    ∙ past e xs (put (utf8_of x.0) x.1 found) h.1

-- ---- members in ascending order

abbrev Below : List ℕ → List Entry → Type 0
Below k = AllByRecursion (λ x. cmp k x.0 ≡ Less)

-- what is below a key is below those behind it
abbrev Ascending : List Entry → Type 0
Ascending [] = ⊤
Ascending (y ∷ ys) = ((k : List ℕ) → cmp k y.0 ≡ Less → Below k ys) × Ascending ys

ascends_at : (o : Ordering) (x y : Entry) (ys : List Entry)
    → cmp x.0 y.0 ≡ o
    → Ascending (y ∷ ys)
    → Ascending (insert_by (λ e. e.0) x ys)
    → Ascending (match_ordering o (x ∷ y ∷ ys) (y ∷ insert_by (λ e. e.0) x ys) (y ∷ insert_by (λ e. e.0) x ys))
ascends_at Less x y ys is up later =
    (λ k below. let under = nat_list_cmp_total.trans k x.0 y.0 below is in (under, up.0 k under), up)
ascends_at Equal x y ys is up later = (
  λ k below. each_insert (λ z. cmp k z.0 ≡ Less) (λ e. e.0) x ys (ap (cmp k) (same_keys x.0 y.0 is) ∙ below)
      (up.0 k below),
  later,
)
ascends_at Greater x y ys is up later = (
  λ k below. each_insert (λ z. cmp k z.0 ≡ Less) (λ e. e.0) x ys
      (nat_list_cmp_total.trans k y.0 x.0 below (turned x.0 y.0 Greater is)) (up.0 k below),
  later,
)

ascends : (x : Entry) (ys : List Entry) → Ascending ys → Ascending (insert_by (λ e. e.0) x ys)
ascends x [] up = (λ k below. tt, tt)
ascends x (y ∷ ys) up = ascends_at (cmp x.0 y.0) x y ys refl up (ascends x ys up.1)

-- ---- keys of one text are the same units

abbrev Apart : List ℕ → List Entry → Type 0
Apart k = AllByRecursion (λ x. utf8_of k ≡ utf8_of x.0 → k ≡ x.0)

abbrev AllApart : List Entry → Type 0
AllApart [] = ⊤
AllApart (x ∷ xs) = Apart x.0 xs × AllApart xs

differ : (k l : List ℕ) → cmp k l ≡ Less → (utf8_of k ≡ utf8_of l → k ≡ l) → utf8_of l ≡ utf8_of k → ⊥
differ k l less apart same =
    let tied : cmp k k ≡ Equal = tied_itself nat_list_cmp_total k in
    let under : cmp k k ≡ Less = ap (cmp k) (apart (sym same)) ∙ less in
    cc

all_differ : (k : List ℕ) (ys : List Entry)
    → Below k ys
    → Apart k ys
    → AllByRecursion (λ x. utf8_of x.0 ≡ utf8_of k → ⊥) ys
all_differ k [] below apart = tt
all_differ k (y ∷ ys) below apart = (differ k y.0 below.0 apart.0, all_differ k ys below.1 apart.1)

-- ---- a member more

inserted_at : (o : Ordering) (x y : Entry) (ys : List Entry) (found : values.Members)
    → cmp x.0 y.0 ≡ o
    → Ascending (y ∷ ys)
    → Apart x.0 (y ∷ ys)
    → puts (insert_by (λ e. e.0) x ys) (put (utf8_of y.0) y.1 found) ≡ put (utf8_of x.0) x.1
    (puts ys (put (utf8_of y.0) y.1 found))
    → puts (match_ordering o (x ∷ y ∷ ys) (y ∷ insert_by (λ e. e.0) x ys) (y ∷ insert_by (λ e. e.0) x ys)) found ≡ put
    (utf8_of x.0) x.1 (puts (y ∷ ys) found)
inserted_at Less x y ys found is up apart later =
    past x (y ∷ ys) found (all_differ x.0 (y ∷ ys) (is, up.0 x.0 is) apart)
inserted_at Equal x y ys found is up apart later = later
inserted_at Greater x y ys found is up apart later = later

inserted : (x : Entry) (ys : List Entry) (found : values.Members) → Ascending ys → Apart x.0 ys
    → puts (insert_by (λ e. e.0) x ys) found ≡ put (utf8_of x.0) x.1 (puts ys found)
inserted x [] found up apart = refl
inserted x (y ∷ ys) found up apart =
    inserted_at (cmp x.0 y.0) x y ys found refl up apart (inserted x ys (put (utf8_of y.0) y.1 found) up.1 apart.1)

-- ---- all of them

abbrev ApartFrom : List Entry → List Entry → Type 0
ApartFrom done = AllByRecursion (λ z. Apart z.0 done)

still_apart : (x : Entry) (done es : List Entry)
    → ApartFrom done es
    → Apart x.0 es
    → ApartFrom (insert_by (λ e. e.0) x done) es
still_apart x done [] from apart = tt
still_apart x done (z ∷ zs) from apart = (
  each_insert (λ y. utf8_of z.0 ≡ utf8_of y.0 → z.0 ≡ y.0) (λ e. e.0) x done (λ same. sym (apart.0 (sym same))) from.0,
  still_apart x done zs from.1 apart.1,
)

none_apart : (es : List Entry) → ApartFrom [] es
none_apart [] = tt
none_apart (e ∷ es) = (tt, none_apart es)

onto : (done es : List Entry) (found : values.Members) → Ascending done → ApartFrom done es → AllApart es
    → puts (fold (λ ys y. insert_by (λ e. e.0) y ys) done es) found ≡ puts es (puts done found)
onto done [] found up from apart = refl
onto done (x ∷ es) found up from apart =
    onto (insert_by (λ e. e.0) x done) es found (ascends x done up) (still_apart x done es from.1 apart.0) apart.1
    ∙ ap (puts es) (inserted x done found up from.0)

in_any_order : (es : List Entry) (found : values.Members)
    → AllApart es
    → puts (in_order (λ e. e.0) es) found ≡ puts es found
in_any_order es found apart = onto [] es found tt (none_apart es) apart

-- ---- values

abbrev entries : Members → List Entry
entries no_members = []
entries (member k j ms) = (k, data_of j) ∷ entries ms

abbrev with_data : List ℕ × Json → Entry
with_data m = (m.0, data_of m.1)

data_puts : (ms : Members) (found : values.Members) → members_data ms found ≡ puts (entries ms) found
data_puts no_members found = refl
data_puts (member k j ms) found = data_puts ms (put (utf8_of k) (data_of j) found)

entries_of : (qs : List (List ℕ × Json)) → entries (members_of qs) ≡ map with_data qs
entries_of [] = refl
entries_of (q ∷ qs) = ap (λ es. with_data q ∷ es) (entries_of qs)

stands_apart : (k : List ℕ) (ms : Members) → StandsApart k ms → Apart k (entries ms)
stands_apart k no_members h = tt
stands_apart k (member l j ms) h = (h.0, stands_apart k ms h.1)

all_apart : (ms : Members) → MembersStandApart ms → AllApart (entries ms)
all_apart no_members h = tt
all_apart (member k j ms) h = (stands_apart k ms h.0, all_apart ms h.2)

mutual
  same_value : (j : Json) → KeysStandApart j → data_of (ordered j) ≡ data_of j
  same_value null h = refl
  same_value (boolean b) h = refl
  same_value (number z) h = refl
  same_value (text s) h = refl
  same_value (list js) h = ap values.array (same_items js h)
  same_value (object ms) h =
      ap values.object (data_puts (members_of (in_order (λ m. m.0) (ordered_members ms))) values.no_members
      ∙ ap (λ es. puts es values.no_members)
      (entries_of (in_order (λ m. m.0) (ordered_members ms))
      ∙ sym (in_order-map with_data (λ e. e.0) (ordered_members ms))
      ∙ ap (in_order (λ e. e.0)) (same_members ms h))
      ∙ in_any_order (entries ms) values.no_members (all_apart ms h)
      ∙ sym (data_puts ms values.no_members))

  same_items : (js : Items) → ItemsStandApart js → items_data (ordered_items js) ≡ items_data js
  same_items no_items h = refl
  same_items (item j js) h = ap₂ values.item (same_value j h.0) (same_items js h.1)

  same_members : (ms : Members) → MembersStandApart ms → map with_data (ordered_members ms) ≡ entries ms
  same_members no_members h = refl
  same_members (member k j ms) h = ap₂ (λ d es. (k, d) ∷ es) (same_value j h.1) (same_members ms h.2)

pub given_is_read_back : GivenIsReadBack
given_is_read_back j readable apart = written_is_read_back j readable ∙ ap Some (same_value j apart)
