-- Values by value do not depend on how many more levels are looked at.
use Rattle.std.proofs.Common.{◌≡◌, ℕ, zero, suc, ◌+◌, ◌-◌, ◌<◌, ◌≤◌, ◌⊎◌, inl, inr, List, [], ◌∷◌, Bool, true, false, if◌then◌else◌, Option, Some, None, refl, sym, ap, ap₂, ◌∙◌, arith}
use Rattle.std.specs.Prelude.{max}
use Rattle.std.proofs.Math.Nat.{le-max_left, le-max_right, le_refl, max-le}
use Rattle.std.proofs.lemmas.Bool.{cases_lt}
use Rattle.js_heap.specs.declared.cell.Cell.{Cell}
use Rattle.js_heap.specs.declared.cell.Cell.TheVariants as cells
use Rattle.js_heap.specs.declared.cell.Property.{Property}
use Rattle.js_heap.specs.declared.value.Addr.{Addr}
use Rattle.js_heap.specs.declared.value.Value.{Value}
use Rattle.js_heap.specs.declared.value.Value.TheVariants as values
use Rattle.js_heap.specs.World.{World, read_cell}
use Rattle.cdp_json.specs.Json.{Json}
use Rattle.cdp_json.specs.Parts.{list_of, object_of}
use Rattle.remote_objects.specs.ByValue.{Given, no_parts, left_out, behind, all_given, mapped, around, element_of, element_given, is_left_out, member_of, member_given, parts_given, object_given, value_given, if_within, most_deep, most_met}
use Rattle.remote_objects.specs.Laws.{IgnoresLevels}
use Rattle.remote_objects.proofs.GivenLemmas.{past-one}

-- ---- the same, where nothing is deeper than so many levels

all-same : {A B : Type 0} (f more : A → Given (List B)) (n : ℕ) (xs : List A)
    → ((x : A) → (f x).depth ≤ n → more x ≡ f x)
    → (all_given f xs).depth ≤ n
    → all_given more xs ≡ all_given f xs
all-same f more n [] each low = refl
all-same f more n (x ∷ xs) each low =
    let both : max (f x).depth (all_given f xs).depth ≤ n = low in
    let first : (f x).depth ≤ n = omega (arith, both, le-max_left (f x).depth (all_given f xs).depth) in
    let others : (all_given f xs).depth ≤ n = omega (arith, both, le-max_right (f x).depth (all_given f xs).depth) in
    ap₂ behind (each x first) (all-same f more n xs each others)

chosen-same : (b c : Bool) (key : List ℕ) (g h : Given Json) (n : ℕ)
    → (g.depth ≤ n → h ≡ g)
    → (if b then (if c then left_out else mapped (member_of key) g) else no_parts).depth ≤ n
    → (if b then (if c then left_out else mapped (member_of key) h) else no_parts) ≡
    (if b then (if c then left_out else mapped (member_of key) g) else no_parts)
chosen-same false c key g h n same low = refl
chosen-same true true key g h n same low = refl
chosen-same true false key g h n same low = ap (mapped (member_of key)) (same low)

member-same : (w : World) (way more : Value → Given Json) (n : ℕ)
    → ((v : Value) → (way v).depth ≤ n → more v ≡ way v)
    → (p : Property)
    → (member_given w way p).depth ≤ n
    → member_given w more p ≡ member_given w way p
member-same w way more n each p low =
    chosen-same p.enumerable (is_left_out w p.value) p.key (way p.value) (more p.value) n (each p.value) low

parts-same : (w : World) (way more : Value → Given Json) (n : ℕ)
    → ((v : Value) → (way v).depth ≤ n → more v ≡ way v)
    → (cell : Option Cell)
    → (parts_given w way cell).depth ≤ n
    → parts_given w more cell ≡ parts_given w way cell
parts-same w way more n each None low = refl
parts-same w way more n each (Some (cells.Object ps)) low =
    ap (mapped object_of) (all-same (member_given w way) (member_given w more) n ps (member-same w way more n each) low)
parts-same w way more n each (Some (cells.Error class ps)) low =
    ap (mapped object_of) (all-same (member_given w way) (member_given w more) n ps (member-same w way more n each) low)
parts-same w way more n each (Some (cells.Array vs)) low =
    ap (mapped list_of)
    (all-same (element_given w way) (element_given w more) n vs (λ v. λ l. ap (mapped (element_of w v)) (each v l))
    low)
parts-same w way more n each (Some (cells.Text us)) low = refl
parts-same w way more n each (Some (cells.Function code name len scope receiver)) low = refl
parts-same w way more n each (Some (cells.Bindings kind name outer bs)) low = refl

value-same : (w : World) (n : ℕ)
    → ((a : Addr) → (object_given w n a).depth ≤ n → object_given w (suc n) a ≡ object_given w n a)
    → (v : Value)
    → (value_given w n v).depth ≤ n
    → value_given w (suc n) v ≡ value_given w n v
value-same w n each (values.Object a) low = each a low
value-same w n each values.Undefined low = refl
value-same w n each values.Null low = refl
value-same w n each (values.Bool b) low = refl
value-same w n each (values.Number z) low = refl
value-same w n each (values.Text a) low = refl

object-same : (w : World) (n : ℕ) (a : Addr)
    → (object_given w n a).depth ≤ n
    → object_given w (suc n) a ≡ object_given w n a
unfolding object_given
object-same w zero a low = let never : 1 ≤ 0 = low in absurd (omega (arith, never))
object-same w (suc n) a low =
    let whole : suc (parts_given w (value_given w n) (read_cell w a)).depth ≤ suc n = low in
    let parts : (parts_given w (value_given w n) (read_cell w a)).depth ≤ n = omega (arith, whole) in
    ap around
    (parts-same w (value_given w n) (value_given w (suc n)) n (value-same w n (object-same w n)) (read_cell w a)
    parts)

-- ---- no less deep, where more levels are looked at

all-deeper : {A B : Type 0} (f more : A → Given (List B)) (xs : List A)
    → ((x : A) → (f x).depth ≤ (more x).depth)
    → (all_given f xs).depth ≤ (all_given more xs).depth
all-deeper f more [] each = le_refl 0
all-deeper f more (x ∷ xs) each =
    let first : (f x).depth ≤ max (more x).depth (all_given more xs).depth = omega
    (arith, each x, le-max_left (more x).depth (all_given more xs).depth) in
    let others : (all_given f xs).depth ≤ max (more x).depth (all_given more xs).depth = omega
    (arith, all-deeper f more xs each, le-max_right (more x).depth (all_given more xs).depth) in
    max-le first others

chosen-deeper : (b c : Bool) (key : List ℕ) (g h : Given Json) → g.depth ≤ h.depth
    → (if b then (if c then left_out else mapped (member_of key) g) else no_parts).depth ≤
    (if b then (if c then left_out else mapped (member_of key) h) else no_parts).depth
chosen-deeper false c key g h deeper = le_refl 0
chosen-deeper true true key g h deeper = le_refl 0
chosen-deeper true false key g h deeper = deeper

member-deeper : (w : World) (way more : Value → Given Json)
    → ((v : Value) → (way v).depth ≤ (more v).depth)
    → (p : Property)
    → (member_given w way p).depth ≤ (member_given w more p).depth
member-deeper w way more each p =
    chosen-deeper p.enumerable (is_left_out w p.value) p.key (way p.value) (more p.value) (each p.value)

parts-deeper : (w : World) (way more : Value → Given Json)
    → ((v : Value) → (way v).depth ≤ (more v).depth)
    → (cell : Option Cell)
    → (parts_given w way cell).depth ≤ (parts_given w more cell).depth
parts-deeper w way more each None = le_refl 0
parts-deeper w way more each (Some (cells.Object ps)) =
    all-deeper (member_given w way) (member_given w more) ps (member-deeper w way more each)
parts-deeper w way more each (Some (cells.Error class ps)) =
    all-deeper (member_given w way) (member_given w more) ps (member-deeper w way more each)
parts-deeper w way more each (Some (cells.Array vs)) = all-deeper (element_given w way) (element_given w more) vs each
parts-deeper w way more each (Some (cells.Text us)) = le_refl 0
parts-deeper w way more each (Some (cells.Function code name len scope receiver)) = le_refl 0
parts-deeper w way more each (Some (cells.Bindings kind name outer bs)) = le_refl 0

value-deeper : (w : World) (n : ℕ)
    → ((a : Addr) → (object_given w n a).depth ≤ (object_given w (suc n) a).depth)
    → (v : Value)
    → (value_given w n v).depth ≤ (value_given w (suc n) v).depth
value-deeper w n each (values.Object a) = each a
value-deeper w n each values.Undefined = le_refl 0
value-deeper w n each values.Null = le_refl 0
value-deeper w n each (values.Bool b) = le_refl 0
value-deeper w n each (values.Number z) = le_refl 0
value-deeper w n each (values.Text a) = le_refl 0

suc-more : (n : ℕ) → 1 ≤ suc n
suc-more n = omega arith

suc-le : {m n : ℕ} → m ≤ n → suc m ≤ suc n
suc-le h = omega (arith, h)

object-deeper : (w : World) (n : ℕ) (a : Addr) → (object_given w n a).depth ≤ (object_given w (suc n) a).depth
unfolding object_given
object-deeper w zero a = suc-more (parts_given w (value_given w zero) (read_cell w a)).depth
object-deeper w (suc n) a =
    suc-le (parts-deeper w (value_given w n) (value_given w (suc n)) (value-deeper w n (object-deeper w n))
    (read_cell w a))

-- ---- one level more makes no difference

either-way : (g h : Given Json) (deep met n : ℕ)
    → deep ≤ n
    → (g.depth ≤ n → h ≡ g)
    → g.depth ≤ h.depth
    → (n < g.depth) ⊎ (g.depth ≤ n)
    → if_within deep met h ≡ if_within deep met g
either-way g h deep met n enough same deeper (inl high) =
    past-one h deep met (inl (omega (arith, enough, deeper, high)))
    ∙ sym (past-one g deep met (inl (omega (arith, enough, high))))
either-way g h deep met n enough same deeper (inr low) = ap (if_within deep met) (same low)

one-level : (w : World) (deep met n : ℕ) (v : Value)
    → deep ≤ n
    → if_within deep met (value_given w (suc n) v) ≡ if_within deep met (value_given w n v)
one-level w deep met n v enough =
    either-way (value_given w n v) (value_given w (suc n) v) deep met n enough (value-same w n (object-same w n) v)
    (value-deeper w n (object-deeper w n) v) (cases_lt n (value_given w n v).depth)

more-levels : (w : World) (deep met k n : ℕ) (v : Value)
    → n ≡ k + deep
    → if_within deep met (value_given w n v) ≡ if_within deep met (value_given w deep v)
more-levels w deep met zero n v is =
    let none : n ≡ deep = omega (arith, is) in
    ap (λ m. if_within deep met (value_given w m v)) none
more-levels w deep met (suc k) n v is =
    let one : n ≡ suc (k + deep) = omega (arith, is) in
    let enough : deep ≤ k + deep = omega arith in
    ap (λ m. if_within deep met (value_given w m v)) one
    ∙ (one-level w deep met (k + deep) v enough ∙ more-levels w deep met k (k + deep) v refl)

pub ignores-levels : IgnoresLevels
ignores-levels w n v enough =
    let levels : n ≡ (n - most_deep) + most_deep = omega (arith, enough) in
    more-levels w most_deep most_met (n - most_deep) n v levels
