-- Values that are given one after another: from one to those behind it.
use Rattle.std.proofs.Common.{◌≡◌, ℕ, zero, suc, ◌+◌, ◌-◌, ◌<◌, ◌≤◌, inl, inr, List, [], ◌∷◌, ◌++◌, length, drop, get_or, Bool, true, false, ◌&&◌, Option, Some, None, if◌then◌else◌, Result, Ok, Err, IsErrAnd, refl, sym, ap, ap₂, ◌∙◌, subst, arith, add-one, append_assoc, drop_of_length-le}
use Rattle.std.specs.Prelude.{map, max, nat_le, slice_get, codes}
use Rattle.std.proofs.Math.Nat.{le-max_left, le-max_right, max-le}
use Rattle.std.proofs.lemmas.Bool.{le-leb, lt-leb, and_right}
use Rattle.std.proofs.lemmas.List.{map-append, append-nil, drop_more}
use Rattle.js_heap.specs.declared.cell.Cell.{Cell}
use Rattle.js_heap.specs.declared.cell.Property.{Property}
use Rattle.js_heap.specs.declared.value.Addr.{Addr}
use Rattle.js_heap.specs.declared.value.Value.{Value}
use Rattle.js_heap.specs.World.{World, read_cell}
use Rattle.cdp_json.specs.Json as json
use Rattle.cdp_json.specs.Parts.{Pair, object_of}
use Rattle.cdp_json.specs.declared.value.Json.{Json}
use Rattle.cdp_json.specs.declared.value.Member.{Member}
use Rattle.cdp_json.specs.Views.{json_view, member_view}
use Rattle.remote_objects.specs.declared.by_value.ByValueFault.{ByValueFault}
use Rattle.remote_objects.specs.declared.by_value.ByValueFault.TheVariants as faults
use Rattle.remote_objects.specs.ByValue.{Given, all_given, mapped, around, element_of, element_given, is_left_out, left_out, no_parts, member_of, member_given, parts_given, object_given, value_given, if_within, Exceeds, Faults, Fits, Answers, Puts, Meets, Gives, with_value}
use Rattle.remote_objects.proofs.MakingLemmas.{got-here}

-- ---- faults

-- where a part is too long, the whole is
pub stopped : {A B D : Type 0} (view : A → B) (r : Result A ByValueFault) (e : ByValueFault) (deep met left : ℕ)
    (whole : Given B) (d m : ℕ) (part : Given D)
    → (Exceeds d m part → Exceeds deep met whole)
    → IsErrAnd r (λ k. k ≡ e)
    → Faults e d m part
    → Answers view r deep met left whole
stopped view (Ok a) e deep met left whole d m part up is says = absurd is
stopped view (Err faults.TooLong) faults.TooLong deep met left whole d m part up is says = up says
stopped view (Err faults.TooLong) faults.Memory deep met left whole d m part up is says = cc
stopped view (Err faults.Memory) e deep met left whole d m part up is says = tt

-- no value may be met
pub not-met : {A B : Type 0} (view : A → B) (r : Result A ByValueFault) (e : ByValueFault) (deep met left : ℕ)
    (whole : Given B)
    → 0 < whole.met
    → (e ≡ faults.TooLong) × (met ≡ 0)
    → IsErrAnd r (λ k. k ≡ e)
    → Answers view r deep met left whole
not-met view (Ok a) e deep met left whole some unmet is = absurd is
not-met view (Err faults.TooLong) e deep met left whole some unmet is = inr (omega (arith, some, unmet.1))
not-met view (Err faults.Memory) e deep met left whole some unmet is = tt

-- what is left of a list from a place on
got-next : {X : Type 0} (xs : List X) (i : ℕ) (x : X) → Some x ≡ slice_get xs i → drop i xs ≡ x ∷ drop (i + 1) xs
got-next xs i x e = rw add-one (got-here xs i x e)

-- ---- lists

-- what was given so far, with what is left to give, is the whole
pub record Goes {B : Type 0} (deep met left : ℕ) (done : List B) (rest whole : Given (List B)) : Type 0 where
  pub is : done ++ rest.given ≡ whole.given
  pub counted : met + rest.met ≡ left + whole.met
  pub within : rest.depth ≤ deep → whole.depth ≤ deep
  pub deepest : rest.depth ≤ whole.depth

front-is : {B : Type 0} (done new front rest whole : List B)
    → new ≡ done ++ front
    → done ++ (front ++ rest) ≡ whole
    → new ++ rest ≡ whole
front-is done new front rest whole put is = ap (λ xs. xs ++ rest) put ∙ (append_assoc done front rest ∙ is)

-- one is given
pub goes : {A B : Type 0} (f : A → Given (List B)) (xs : List A) (x : A) (rest : List A) (deep met left more : ℕ)
    (done new : List B) (whole : Given (List B))
    → xs ≡ x ∷ rest → new ≡ done ++ (f x).given → (f x).depth ≤ deep → more + (f x).met ≡ left
    → Goes deep met left done (all_given f xs) whole → Goes deep met more new (all_given f rest) whole
goes {A} {B} f xs x rest deep met left more done new whole here put low count inv =
    let P : List A → Type 0 = λ ys. Goes deep met left done (all_given f ys) whole in
    let now : Goes deep met left done (all_given f (x ∷ rest)) whole = subst P here inv in
    let counted : met + ((f x).met + (all_given f rest).met) ≡ left + whole.met = now.counted in
    let deepest : max (f x).depth (all_given f rest).depth ≤ whole.depth = now.deepest in
    record {
      is = front-is done new (f x).given (all_given f rest).given whole.given put now.is;
      counted = omega (arith, counted, count);
      within = λ h. now.within (max-le low h);
      deepest = omega (arith, le-max_right (f x).depth (all_given f rest).depth, deepest);
    }

-- one is too long
pub stops : {A B : Type 0} (f : A → Given (List B)) (xs : List A) (x : A) (rest : List A) (deep met left : ℕ)
    (done : List B) (whole : Given (List B))
    → xs ≡ x ∷ rest → Goes deep met left done (all_given f xs) whole → Exceeds deep left (f x) → Exceeds deep met whole
stops {A} {B} f xs x rest deep met left done whole here inv (inl deeper) =
    let P : List A → Type 0 = λ ys. Goes deep met left done (all_given f ys) whole in
    let now : Goes deep met left done (all_given f (x ∷ rest)) whole = subst P here inv in
    let deepest : max (f x).depth (all_given f rest).depth ≤ whole.depth = now.deepest in
    inl (omega (arith, le-max_left (f x).depth (all_given f rest).depth, deepest, deeper))
stops {A} {B} f xs x rest deep met left done whole here inv (inr many) =
    let P : List A → Type 0 = λ ys. Goes deep met left done (all_given f ys) whole in
    let now : Goes deep met left done (all_given f (x ∷ rest)) whole = subst P here inv in
    let counted : met + ((f x).met + (all_given f rest).met) ≡ left + whole.met = now.counted in
    inr (omega (arith, counted, many))

-- all are given
pub ends : {A B : Type 0} (f : A → Given (List B)) (xs : List A) (deep met left : ℕ) (done : List B)
    (whole : Given (List B))
    → xs ≡ [] → Goes deep met left done (all_given f xs) whole → Fits done deep met left whole
ends {A} f xs deep met left done whole none inv =
    let P : List A → Type 0 = λ ys. Goes deep met left done (all_given f ys) whole in
    let now : Goes deep met left done (all_given f []) whole = subst P none inv in
    let counted : met + 0 ≡ left + whole.met = now.counted in
    let low : 0 ≤ deep = omega arith in
    record { is = sym (append-nil done) ∙ now.is; within = now.within low; counted = omega (arith, counted) }

-- ---- parts

-- the same in another form
pub fits-mapped : {A B : Type 0} (f : A → B) (a : A) (b : B) (deep met left : ℕ) (g : Given A)
    → b ≡ f a
    → Fits a deep met left g
    → Fits b deep met left (mapped f g)
fits-mapped f a b deep met left g here fits =
    record { is = here ∙ ap f fits.is; within = fits.within; counted = fits.counted }

-- ---- a list that is asked for each of its places

-- an element is put
pub element-goes : {A B : Type 0} (f : A → Given (List B)) (xs : List A) (i : ℕ) (d : A) (deep met left more : ℕ)
    (done new : List B) (whole : Given (List B))
    → i < length xs → Fits new deep left more (mapped (λ parts. done ++ parts) (f (get_or xs i d)))
    → Goes deep met left done (all_given f (drop i xs)) whole
    → Goes deep met more new (all_given f (drop (i + 1) xs)) whole
element-goes f xs i d deep met left more done new whole h fits inv =
    goes f (drop i xs) (get_or xs i d) (drop (i + 1) xs) deep met left more done new whole (drop_more xs i d h)
    fits.is fits.within fits.counted inv

-- an element is too long
pub element-stops : {A B C D : Type 0} (view : C → D) (form : List B → D) (f : A → Given (List B)) (xs : List A) (i : ℕ)
    (d : A) (r : Result C ByValueFault) (fault : ByValueFault) (deep met left more : ℕ) (done : List B)
    (whole : Given (List B))
    → i < length xs
    → Goes deep met left done (all_given f (drop i xs)) whole
    → Faults fault deep left (mapped (λ parts. done ++ parts) (f (get_or xs i d)))
    → IsErrAnd r (λ k. k ≡ fault)
    → Answers view r deep met more (mapped form whole)
element-stops view form f xs i d r fault deep met left more done whole h inv says is =
    stopped view r fault deep met more (mapped form whole) deep left
    (mapped (λ parts. done ++ parts) (f (get_or xs i d)))
    (stops f (drop i xs) (get_or xs i d) (drop (i + 1) xs) deep met left done whole (drop_more xs i d h) inv) is says

-- a property is put
pub property-goes : {A B : Type 0} (f : A → Given (List B)) (xs : List A) (i : ℕ) (x : A) (deep met left more : ℕ)
    (done new : List B) (whole : Given (List B))
    → Some x ≡ slice_get xs i → Fits new deep left more (mapped (λ parts. done ++ parts) (f x))
    → Goes deep met left done (all_given f (drop i xs)) whole
    → Goes deep met more new (all_given f (drop (i + 1) xs)) whole
property-goes f xs i x deep met left more done new whole e fits inv =
    goes f (drop i xs) x (drop (i + 1) xs) deep met left more done new whole (got-next xs i x e)
    fits.is fits.within fits.counted inv

-- a property is too long
pub property-stops : {A B C D : Type 0} (view : C → D) (form : List B → D) (f : A → Given (List B)) (xs : List A)
    (i : ℕ) (x : A) (r : Result C ByValueFault) (fault : ByValueFault) (deep met left more : ℕ) (done : List B)
    (whole : Given (List B))
    → Some x ≡ slice_get xs i
    → Goes deep met left done (all_given f (drop i xs)) whole
    → Faults fault deep left (mapped (λ parts. done ++ parts) (f x))
    → IsErrAnd r (λ k. k ≡ fault)
    → Answers view r deep met more (mapped form whole)
property-stops view form f xs i x r fault deep met left more done whole e inv says is =
    stopped view r fault deep met more (mapped form whole) deep left (mapped (λ parts. done ++ parts) (f x))
    (stops f (drop i xs) x (drop (i + 1) xs) deep met left done whole (got-next xs i x e) inv) is says

-- all are put
pub list-ends : {A B D : Type 0} (form : List B → D) (f : A → Given (List B)) (xs : List A) (i : ℕ) (deep met left : ℕ)
    (done : List B) (made : D) (whole : Given (List B))
    → length xs ≤ i
    → Goes deep met left done (all_given f (drop i xs)) whole
    → made ≡ form done
    → Fits made deep met left (mapped form whole)
list-ends form f xs i deep met left done made whole past inv is =
    fits-mapped form done made deep met left whole is
    (ends f (drop i xs) deep met left done whole (drop_of_length-le xs past) inv)

-- a function is null in a list
pub element-put : (w : World) (way : Value → Given json.Json) (v : Value) (old new : List Json) (j put : Json)
    (deep met left : ℕ)
    → Fits (json_view j) deep met left (way v)
    → json_view put ∷ [] ≡ element_of w v (json_view j)
    → new ≡ old ++ put ∷ []
    → Fits (map json_view new) deep met left (mapped (λ parts. map json_view old ++ parts) (element_given w way v))
element-put w way v old new j put deep met left fits same pushed = record {
  is = ap (map json_view) pushed ∙ (map-append json_view old (put ∷ [])
      ∙ ap (λ parts. map json_view old ++ parts) (same ∙ ap (element_of w v) fits.is));
  within = fits.within;
  counted = fits.counted;
}

-- what is given of a property, by whether it is enumerable and whether its value is left out
abbrev chosen : Bool → Bool → List ℕ → Given json.Json → Given (List Pair)
chosen b c key g = if b then (if c then left_out else mapped (member_of key) g) else no_parts

chosen-is : (w : World) (way : Value → Given json.Json) (p : Property) (b c : Bool)
    → p.enumerable ≡ b
    → is_left_out w p.value ≡ c
    → chosen b c p.key (way p.value) ≡ member_given w way p
chosen-is w way p b c on out = sym (ap₂ (λ x y. chosen x y p.key (way p.value)) on out)

low-none : (deep : ℕ) → 0 ≤ deep
low-none deep = omega arith

-- a property that isn't enumerable isn't met
pub member-none : (w : World) (way : Value → Given json.Json) (p : Property) (done : List Pair) (deep met : ℕ)
    → p.enumerable ≡ false
    → Fits done deep met met (mapped (λ parts. done ++ parts) (member_given w way p))
member-none w way p done deep met off =
    let P : Given (List Pair) → Type 0 = λ g. Fits done deep met met (mapped (λ parts. done ++ parts) g) in
    subst P (chosen-is w way p false (is_left_out w p.value) off refl)
    (record { is = sym (append-nil done); within = low-none deep; counted = omega arith })

out-met : {A : Type 0} (r : Result A ByValueFault) (done : List Pair) (deep met left : ℕ)
    → Meets r met left
    → Puts done done r deep met left left_out
out-met (Ok a) done deep met left meets =
    record { is = sym (append-nil done); within = low-none deep; counted = omega (arith, meets) }
out-met (Err faults.TooLong) done deep met left meets = let over : met < 1 = omega (arith, meets.1) in inr over
out-met (Err faults.Memory) done deep met left meets = tt

-- one that is left out is met
pub member-out : {A : Type 0} (w : World) (way : Value → Given json.Json) (p : Property) (done : List Pair)
    (r : Result A ByValueFault) (deep met left : ℕ)
    → p.enumerable ≡ true
    → is_left_out w p.value ≡ true
    → Meets r met left
    → Puts done done r deep met left (member_given w way p)
member-out w way p done r deep met left on out meets =
    let P : Given (List Pair) → Type 0 = λ g. Puts done done r deep met left g in
    subst P (chosen-is w way p true true on out) (out-met r done deep met left meets)

pub member-stops : (w : World) (way : Value → Given json.Json) (p : Property) (deep met : ℕ)
    → p.enumerable ≡ true
    → is_left_out w p.value ≡ false
    → Exceeds deep met (way p.value) → Exceeds deep met (member_given w way p)
member-stops w way p deep met on held long =
    let P : Given (List Pair) → Type 0 = λ g. Exceeds deep met g in
    subst P (chosen-is w way p true false on held) long

pub member-put : (w : World) (way : Value → Given json.Json) (p : Property) (old new : List Member) (j : Json)
    (m : Member) (deep met left : ℕ)
    → p.enumerable ≡ true
    → is_left_out w p.value ≡ false
    → Fits (json_view j) deep met left (way p.value)
    → member_view m ≡ (p.key, json_view j)
    → new ≡ old ++ m ∷ []
    → Fits (map member_view new) deep met left (mapped (λ parts. map member_view old ++ parts) (member_given w way p))
member-put w way p old new j m deep met left on held fits same pushed =
    let P : Given (List Pair)
    → Type 0 = λ g. Fits (map member_view new) deep met left (mapped (λ parts. map member_view old ++ parts) g) in
    subst P (chosen-is w way p true false on held) (record {
      is = ap (map member_view) pushed ∙ (map-append member_view old (m ∷ [])
          ∙ ap (λ k. map member_view old ++ k ∷ []) (same ∙ ap (λ i. (p.key, i)) fits.is));
      within = fits.within;
      counted = fits.counted;
    })

-- ---- objects

pub some-met : (n : ℕ) → 0 < suc n
some-met n = omega arith

pub object-shallow : (w : World) (deep met : ℕ) (a : Addr) → deep ≡ 0 → Exceeds deep met (object_given w deep a)
unfolding object_given
object-shallow w zero met a none = inl (some-met 0)
object-shallow w (suc n) met a none = absurd (omega (arith, none))

-- it is met itself
pub object-counts : (w : World) (deep : ℕ) (a : Addr) → 0 < (object_given w deep a).met
unfolding object_given
object-counts w zero a = some-met 0
object-counts w (suc n) a = some-met (parts_given w (value_given w n) (read_cell w a)).met

object-deep : (w : World) (n : ℕ) (a : Addr)
    → 0 < n
    → around (parts_given w (value_given w (n - 1)) (read_cell w a)) ≡ object_given w n a
unfolding object_given
object-deep w zero a some = absurd (omega (arith, some))
object-deep w (suc n) a some =
    let one-less : suc n - 1 ≡ n = omega arith in
    ap (λ m. around (parts_given w (value_given w m) (read_cell w a))) one-less

around-answers : {A : Type 0} (view : A → json.Json) (r : Result A ByValueFault) (deep met more left : ℕ)
    (g : Given json.Json)
    → 0 < deep → suc more ≡ met → Answers view r (deep - 1) more left g → Answers view r deep met left (around g)
around-answers view (Ok a) deep met more left g some one-met says =
    let within : suc g.depth ≤ deep = omega (arith, says.within, some) in
    let counted : left + suc g.met ≡ met = omega (arith, says.counted, one-met) in
    record { is = says.is; within = within; counted = counted }
around-answers view (Err faults.TooLong) deep met more left g some one-met (inl deeper) =
    let over : deep < suc g.depth = omega (arith, deeper, some) in inl over
around-answers view (Err faults.TooLong) deep met more left g some one-met (inr many) =
    let over : met < suc g.met = omega (arith, many, one-met) in inr over
around-answers view (Err faults.Memory) deep met more left g some one-met says = tt

-- an object's parts are given
pub object-answers : {A : Type 0} (view : A → json.Json) (w : World) (r : Result A ByValueFault)
    (deep met more left : ℕ) (a : Addr) (cell : Option Cell)
    → 0 < deep
    → suc more ≡ met
    → cell ≡ read_cell w a
    → Answers view r (deep - 1) more left (parts_given w (value_given w (deep - 1)) cell)
    → Answers view r deep met left (object_given w deep a)
object-answers view w r deep met more left a cell some one-met found says =
    let P : Given json.Json → Type 0 = λ g. Answers view r deep met left g in
    let Q : Option Cell
    → Type 0 = λ k. Answers view r (deep - 1) more left (parts_given w (value_given w (deep - 1)) k) in
    subst P (object-deep w deep a some)
    (around-answers view r deep met more left (parts_given w (value_given w (deep - 1)) (read_cell w a))
    some one-met (subst Q found says))

-- ---- limits

within-both : (g : Given json.Json) (deep met : ℕ) → g.depth ≤ deep → g.met ≤ met → if_within deep met g ≡ Some g.given
within-both g deep met low few =
    ap₂ (λ x y. if x && y then Some g.given else None) (le-leb g.depth deep low) (le-leb g.met met few)

-- a value that passes one of the limits isn't given
pub past-one : (g : Given json.Json) (deep met : ℕ) → Exceeds deep met g → if_within deep met g ≡ None
past-one g deep met (inl deeper) =
    ap (λ x. if x && nat_le g.met met then Some g.given else None) (lt-leb g.depth deep deeper)
past-one g deep met (inr many) =
    ap (λ y. if nat_le g.depth deep && y then Some g.given else None) (lt-leb g.met met many)
    ∙ ap (λ x. if x then Some g.given else None) (and_right (nat_le g.depth deep) false refl)

-- where both limits are kept a value is given
pub gives-alone : {A : Type 0} (view : A → json.Json) (r : Result A ByValueFault) (deep met left : ℕ)
    (g : Given json.Json)
    → Answers view r deep met left g
    → Gives view r (if_within deep met g)
gives-alone view (Ok a) deep met left g says =
    let few : g.met ≤ met = omega (arith, says.counted) in
    within-both g deep met says.within few ∙ ap Some (sym says.is)
gives-alone view (Err faults.TooLong) deep met left g says = past-one g deep met says
gives-alone view (Err faults.Memory) deep met left g says = tt

-- ---- remote objects

pub value-stops : {A : Type 0} (view : A → json.Json) (r : Result A ByValueFault) (e : ByValueFault) (pairs : List Pair)
    (o : Option json.Json)
    → IsErrAnd r (λ k. k ≡ e)
    → (e ≡ faults.TooLong → o ≡ None)
    → Gives view r (with_value pairs o)
value-stops view (Ok a) e pairs o is says = absurd is
value-stops view (Err faults.TooLong) e pairs o is says = ap (with_value pairs) (says (sym is))
value-stops view (Err faults.Memory) e pairs o is says = tt

pub stops-so : {A : Type 0} (view : A → json.Json) (e : ByValueFault) (o : Option json.Json)
    → Gives view (Err e) o
    → e ≡ faults.TooLong
    → o ≡ None
stops-so view faults.TooLong o says is = says
stops-so view faults.Memory o says is = cc

pub value-put : (pairs old new : List Pair) (j made : json.Json) (o : Option json.Json)
    → o ≡ Some j
    → old ≡ pairs
    → new ≡ old ++ (codes "value", j) ∷ []
    → made ≡ object_of new
    → with_value pairs o ≡ Some made
value-put pairs old new j made o given before after put =
    ap (with_value pairs) given
    ∙ ap Some (sym (put ∙ ap object_of (after ∙ ap (λ ps. ps ++ (codes "value", j) ∷ []) before)))
