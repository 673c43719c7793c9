-- Making the cells of arguments, one after another.
use Rattle.std.proofs.Common.{◌≡◌, ℕ, zero, suc, ◌+◌, ◌<◌, ◌≤◌, List, [], ◌∷◌, ◌++◌, length, drop, get_or, Err, Result, refl, sym, ap, subst, ◌∙◌, arith, append-nil, append_assoc}
use Rattle.std.proofs.lemmas.List.{drop_all}
use Rattle.cdp_json.specs.Json.{Json as AnyJson, Items, Members as AnyMembers}
use Rattle.cdp_json.specs.Views.{json_view, member_view, items_view, members_view}
use Rattle.cdp_json.specs.declared.value.Json.{Json as JsonCode}
use Rattle.cdp_json.specs.declared.value.Member.{Member}
use Rattle.cdp_json.proofs.ViewLemmas.{member_parts}
use Rattle.js_heap.specs.declared.value.Value.{Value}
use Rattle.js_heap.specs.declared.cell.Property.{Property}
use Rattle.js_heap.specs.Keys.{put_property}
use Rattle.js_heap.specs.World.{World, Tried, fine, effect, full}
use Rattle.js_heap.specs.Worlds.{Keeps}
use Rattle.js_heap.proofs.KeepLemmas.{keeps-trans}
use Rattle.js_semantics.specs.Evaluation.{Json, after_try, make_json, make_jsons, make_members, make_argument, make_arguments}
use Rattle.js_heap_memory.specs.declared.world.Refused.{Refused}
use Rattle.js_heap_memory.specs.declared.world.Refused.TheVariants.{Effect, Full, Memory}
use Rattle.js_heap_memory.specs.Calls.{Tries}
use Rattle.pure_eval.specs.declared.arguments.Argument.{Argument}
use Rattle.pure_eval.specs.Arguments.{json_of, jsons_of, members_of, argument_of, arguments_of, json_size, items_size, members_size}
use Rattle.cdp_text.proofs.ListLemmas.{from-here}

-- ---- a JSON value by what it looks like

pub json-tries : (w v : World) (j k : Json) (r : Result Value Refused)
    → j ≡ k
    → Tries (make_json w k) r v
    → Tries (make_json w j) r v
json-tries w v j k r e h = let P : Json → Type 0 = λ i. Tries (make_json w i) r v in subst P (sym e) h

-- ---- sizes

pub item-within : (js : List JsonCode) (i : ℕ) (x : JsonCode)
    → i < length js
    → x ≡ get_or js i x
    → json_size (json_view x) ≤ items_size (items_view js)
item-within [] i x h e = absurd (omega arith)
item-within (y ∷ js) zero x h e =
    let f : json_size (json_view x) ≡ json_size (json_view y) = ap (λ z. json_size (json_view z)) e in
    omega (arith, f)
item-within (y ∷ js) (suc i) x h e =
    let k : json_size (json_view x) ≤ items_size (items_view js) = item-within js i x (omega arith) e in
    omega (arith, k)

pub member-within : (ms : List Member) (i : ℕ) (x : Member)
    → i < length ms
    → x ≡ get_or ms i x
    → json_size (json_view x.value) ≤ members_size (members_view ms)
member-within [] i x h e = absurd (omega arith)
member-within (y ∷ ms) zero x h e =
    let P : List ℕ × AnyJson → ℕ = λ p. json_size p.1 in
    let f : json_size (json_view x.value) ≡ json_size (member_view y).1 = ap P (sym (member_parts x))
    ∙ ap (λ z. json_size (member_view z).1) e in
    omega (arith, f)
member-within (y ∷ ms) (suc i) x h e =
    let k : json_size (json_view x.value) ≤ members_size (members_view ms) = member-within ms i x (omega arith) e in
    omega (arith, k)

-- ---- one after another

-- what is refused first is the whole that is refused
pub refused-first : {A B : Type 0} (t : Tried A) (k : A → World → Tried B) (e : Refused) (u : World)
    → (let r : Result A Refused = Err e in Tries t r u)
    → let s : Result B Refused = Err e in Tries (after_try t k) s u
refused-first t k Effect u h = ap (λ z. after_try z k) h
refused-first t k (Full what) u h = ap (λ z. after_try z k) h
refused-first t k Memory u h = tt

-- values in front of those that are still made
abbrev pub behind_values : List Value → List Value → World → Tried (List Value)
behind_values before xs z = fine (before ++ xs) z

one_behind : (t : Tried (List Value)) (before : List Value) (y : Value)
    → after_try (after_try t (λ xs z. fine (y ∷ xs) z)) (behind_values before) ≡ after_try t
    (behind_values (before ++ y ∷ []))
one_behind (fine xs z) before y = ap (λ ys. fine ys z) (sym (append_assoc before (y ∷ []) xs))
one_behind effect before y = refl
one_behind (full what) before y = refl

-- ---- the values of a list

pub record ElementsMade (w : World) (js : List JsonCode) (i : ℕ) (before : List Value) (v : World) : Type 0 where
  pub rest : after_try (make_jsons v (jsons_of (items_view (drop i js)))) (behind_values before) ≡ make_jsons w
      (jsons_of (items_view js))
  pub keeps : Keeps w v

elements_here : (w v : World) (js : List JsonCode) (i : ℕ) (x : JsonCode) (before : List Value)
    → ElementsMade w js i before v
    → i < length js
    → x ≡ get_or js i x
    → after_try (make_jsons v (jsons_of (items_view (x ∷ drop (i + 1) js)))) (behind_values before) ≡ make_jsons w
    (jsons_of (items_view js))
elements_here w v js i x before m h e =
    ap (λ ys. after_try (make_jsons v (jsons_of (items_view ys))) (behind_values before)) (sym (from-here js i x h e))
    ∙ m.rest

pub elements-next : (w v u : World) (js : List JsonCode) (i : ℕ) (x : JsonCode) (y : Value) (before after : List Value)
    → ElementsMade w js i before v
    → i < length js
    → x ≡ get_or js i x
    → make_json v (json_of (json_view x)) ≡ fine y u
    → Keeps v u
    → after ≡ before ++ y ∷ []
    → ElementsMade w js (i + 1) after u
elements-next w v u js i x y before after m h e made k pushed =
    let t : Tried (List Value) = make_jsons u (jsons_of (items_view (drop (i + 1) js))) in
    let first : make_jsons v (jsons_of (items_view (x ∷ drop (i + 1) js))) ≡ after_try t (λ xs z. fine (y ∷ xs) z) =
    ap (λ o. after_try o
    (λ a z. after_try (make_jsons z (jsons_of (items_view (drop (i + 1) js)))) (λ xs q. fine (a ∷ xs) q)))
    made in
    record {
      rest =
          ap (λ vs. after_try t (behind_values vs)) pushed
          ∙ sym (one_behind t before y)
          ∙ ap (λ o. after_try o (behind_values before)) (sym first)
          ∙ elements_here w v js i x before m h e;
      keeps = keeps-trans w v u m.keeps k;
    }

pub elements-all : (w v : World) (js : List JsonCode) (ls : Items) (i : ℕ) (before : List Value)
    → ElementsMade w js i before v
    → length js ≤ i
    → items_view js ≡ ls
    → make_jsons w (jsons_of ls) ≡ fine before v
elements-all w v js ls i before m h seen =
    sym (ap (λ is. make_jsons w (jsons_of is)) seen) ∙ sym m.rest
    ∙ ap (λ ys. after_try (make_jsons v (jsons_of (items_view ys))) (behind_values before)) (drop_all i js h)
    ∙ ap (λ xs. fine xs v) (append-nil before)

-- ---- the properties of an object

pub record MembersMade (w : World) (ms : List Member) (i : ℕ) (ps : List Property) (v : World) : Type 0 where
  pub rest : make_members v ps (members_of (members_view (drop i ms))) ≡ make_members w []
      (members_of (members_view ms))
  pub keeps : Keeps w v

-- the first member, by its key and its value
abbrev member_made : World → List Property → List ℕ × AnyJson → AnyMembers → Tried (List Property)
member_made v ps p ms =
    after_try (make_json v (json_of p.1)) (λ x z. make_members z (put_property ps p.0 x) (members_of ms))

members_here : (w v : World) (ms : List Member) (i : ℕ) (x : Member) (ps : List Property)
    → MembersMade w ms i ps v
    → i < length ms
    → x ≡ get_or ms i x
    → member_made v ps (x.key, json_view x.value) (members_view (drop (i + 1) ms)) ≡ make_members w []
    (members_of (members_view ms))
members_here w v ms i x ps m h e =
    ap (λ p. member_made v ps p (members_view (drop (i + 1) ms))) (sym (member_parts x))
    ∙ ap (λ ys. make_members v ps (members_of (members_view ys))) (sym (from-here ms i x h e)) ∙ m.rest

pub members-next : (w v u : World) (ms : List Member) (i : ℕ) (x : Member) (y : Value) (ps qs : List Property)
    → MembersMade w ms i ps v
    → i < length ms
    → x ≡ get_or ms i x
    → make_json v (json_of (json_view x.value)) ≡ fine y u
    → Keeps v u
    → qs ≡ put_property ps x.key y
    → MembersMade w ms (i + 1) qs u
members-next w v u ms i x y ps qs m h e made k put = record {
  rest = ap (λ os. make_members u os (members_of (members_view (drop (i + 1) ms)))) put
      ∙ sym (ap
      (λ o. after_try o
      (λ a z. make_members z (put_property ps x.key a) (members_of (members_view (drop (i + 1) ms)))))
      made)
      ∙ members_here w v ms i x ps m h e;
  keeps = keeps-trans w v u m.keeps k;
}

pub members-refused : (w v u : World) (ms : List Member) (ls : AnyMembers) (i : ℕ) (x : Member) (ps : List Property)
    (e : Refused)
    → MembersMade w ms i ps v
    → i < length ms
    → x ≡ get_or ms i x
    → members_view ms ≡ ls
    → (let r : Result Value Refused = Err e in Tries (make_json v (json_of (json_view x.value))) r u)
    → let s : Result (List Property) Refused = Err e in Tries (make_members w [] (members_of ls)) s u
members-refused w v u ms ls i x ps e m h g seen refused =
    let s : Result (List Property) Refused = Err e in
    let P : Tried (List Property) → Type 0 = λ t. Tries t s u in
    subst P (members_here w v ms i x ps m h g ∙ ap (λ is. make_members w [] (members_of is)) seen)
    (refused-first (make_json v (json_of (json_view x.value)))
    (λ a z. make_members z (put_property ps x.key a) (members_of (members_view (drop (i + 1) ms)))) e u refused)

pub members-all : (w v : World) (ms : List Member) (ls : AnyMembers) (i : ℕ) (ps : List Property)
    → MembersMade w ms i ps v
    → length ms ≤ i
    → members_view ms ≡ ls
    → make_members w [] (members_of ls) ≡ fine ps v
members-all w v ms ls i ps m h seen =
    sym (ap (λ is. make_members w [] (members_of is)) seen)
    ∙ sym m.rest
    ∙ ap (λ ys. make_members v ps (members_of (members_view ys))) (drop_all i ms h)

-- ---- the arguments of a call

pub record ArgumentsMade (w : World) (as_given : List Argument) (i : ℕ) (before : List Value) (v : World) : Type 0 where
  pub rest : after_try (make_arguments v (arguments_of (drop i as_given))) (behind_values before) ≡ make_arguments w
      (arguments_of as_given)
  pub keeps : Keeps w v

arguments_here : (w v : World) (as_given : List Argument) (i : ℕ) (x : Argument) (before : List Value)
    → ArgumentsMade w as_given i before v
    → i < length as_given
    → x ≡ get_or as_given i x
    → after_try (make_arguments v (arguments_of (x ∷ drop (i + 1) as_given))) (behind_values before) ≡ make_arguments w
    (arguments_of as_given)
arguments_here w v as_given i x before m h e =
    ap (λ ys. after_try (make_arguments v (arguments_of ys)) (behind_values before)) (sym (from-here as_given i x h e))
    ∙ m.rest

pub arguments-next : (w v u : World) (as_given : List Argument) (i : ℕ) (x : Argument) (y : Value)
    (before after : List Value)
    → ArgumentsMade w as_given i before v
    → i < length as_given
    → x ≡ get_or as_given i x
    → make_argument v (argument_of x) ≡ fine y u
    → Keeps v u
    → after ≡ before ++ y ∷ []
    → ArgumentsMade w as_given (i + 1) after u
arguments-next w v u as_given i x y before after m h e made k pushed =
    let t : Tried (List Value) = make_arguments u (arguments_of (drop (i + 1) as_given)) in
    let first : make_arguments v (arguments_of (x ∷ drop (i + 1) as_given)) ≡ after_try t (λ xs z. fine (y ∷ xs) z) =
    ap (λ o. after_try o
    (λ a z. after_try (make_arguments z (arguments_of (drop (i + 1) as_given))) (λ xs q. fine (a ∷ xs) q)))
    made in
    record {
      rest =
          ap (λ vs. after_try t (behind_values vs)) pushed
          ∙ sym (one_behind t before y)
          ∙ ap (λ o. after_try o (behind_values before)) (sym first)
          ∙ arguments_here w v as_given i x before m h e;
      keeps = keeps-trans w v u m.keeps k;
    }

pub arguments-all : (w v : World) (as_given : List Argument) (i : ℕ) (before : List Value)
    → ArgumentsMade w as_given i before v
    → length as_given ≤ i
    → make_arguments w (arguments_of as_given) ≡ fine before v
arguments-all w v as_given i before m h =
    sym m.rest
    ∙ ap (λ ys. after_try (make_arguments v (arguments_of ys)) (behind_values before)) (drop_all i as_given h)
    ∙ ap (λ xs. fine xs v) (append-nil before)
