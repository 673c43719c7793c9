-- Objects of which a member was taken out or put in: what they have at each name, and how deep they are.
use Rattle.std.proofs.Common.{◌≡◌, ◌<◌, ◌≤◌, ℕ, max, List, [], ◌∷◌, Bool, true, false, cond, if◌then◌else◌, bytes_eq, Option, Some, None, option_map, Result, Ok, Err, IfOk, String, Global, BTreeMap, string_bytes, string_cmp, codes, Ordering, Less, Equal, Greater, nat_cmp, refl, sym, ap, subst, ◌∙◌, arith, is_some, unwrap_or, option_and_then}
use Rattle.std.specs.BTreeMap.{UpdatesBy, insert_entry, is_at}
use Rattle.std.specs.Cmp.Lexicographic.{slice_cmp}
use Rattle.std.specs.Map.{lookup, remove_entry}
use Rattle.std.specs.Ordering.{match_ordering}
use Rattle.std.proofs.lemmas.Map.Text.{btree_map_updates_text}
use Rattle.std.proofs.lemmas.Bool.{false≢true}
use Rattle.serde_json.specs.Data.{Data, null, boolean, number, string, array, object, depth, Members, no_members, member, members_depth, put}
use Rattle.serde_json.specs.Find.{as_bool, as_object, get, get_member}
use Rattle.serde_json.specs.View.{members_view, view}
use Rattle.serde_json.specs.declared.value.Value.{Value, Object}
use Rattle.cdp_json.specs.Members.{required}
use Rattle.serde_json.proofs.Views.{members_view-insert_entry, view-lookup, view-Object}
use Rattle.ws_service_devtools.specs.Texts.{IsWithoutFlag, Updates, clears_flag, flag_name, is_false}

abbrev Entry : Type 0
Entry = String Global × Value

-- ---- what is at a name

at_once : (b : Bool) (w : Option Value) (v : Option Value) → option_map view (cond b w v) ≡ (if b then option_map view w else option_map view v)
at_once true w v = refl
at_once false w v = refl

-- an update of a map is one of the object that it stands for
pub updated : (name : List ℕ) (m n : BTreeMap (String Global) Value) (w : Option Value)
    → UpdatesBy string_cmp (λ k. slice_cmp nat_cmp name (string_bytes k)) m n w
    → (k : List ℕ) → get_member k (members_view n.entries) ≡ (if bytes_eq name k then option_map view w else get_member k (members_view m.entries))
updated name m n w h k =
    sym (view-lookup k n.entries)
    ∙ ap (option_map view) (btree_map_updates_text name m n w h k)
    ∙ at_once (bytes_eq name k) w _
    ∙ ap (λ o. if bytes_eq name k then option_map view w else o) (view-lookup k m.entries)

-- ---- depths

removed_at : (b : Bool) (e : Entry) (es rest : List Entry) → members_depth (members_view rest) ≤ members_depth (members_view es)
    → members_depth (members_view (cond b es (e ∷ rest))) ≤ max (depth (view e.1)) (members_depth (members_view es))
removed_at true e es rest h = omega arith
removed_at false e es rest h = omega (arith, h)

-- an object isn't deeper without a member
pub removed_depth : (test : String Global → Bool) (es : List Entry)
    → members_depth (members_view (remove_entry test es)) ≤ members_depth (members_view es)
removed_depth test [] = omega arith
removed_depth test (e ∷ es) = removed_at (test e.0) e es (remove_entry test es) (removed_depth test es)

put_at : (o : Ordering) (k l : List ℕ) (d e : Data) (ms : Members) → members_depth (put k d ms) ≤ max (depth d) (members_depth ms)
    → members_depth (match_ordering o (member k d (member l e ms)) (member l d ms) (member l e (put k d ms))) ≤ max (depth d) (max (depth e) (members_depth ms))
put_at Less k l d e ms h = omega arith
put_at Equal k l d e ms h = omega arith
put_at Greater k l d e ms h = omega (arith, h)

-- an object with one member more is as deep as the member or as before
pub put_depth : (k : List ℕ) (d : Data) (ms : Members) → members_depth (put k d ms) ≤ max (depth d) (members_depth ms)
put_depth k d no_members = omega arith
put_depth k d (member l e ms) = put_at (slice_cmp nat_cmp k l) k l d e ms (put_depth k d ms)

none_some : {A : Type 0} {a : A} → None ≡ Some a → ⊥
none_some is = false≢true (ap is_some is)

found_at : (o : Ordering) (d e : Data) (found : Option Data) (n : ℕ) → (found ≡ Some d → depth d ≤ n) → match_ordering o found (Some e) found ≡ Some d → depth d ≤ max (depth e) n
found_at Less d e found n h is = omega (arith, h is)
found_at Equal d e found n h is = let same : depth e ≡ depth d = ap (λ o. depth (unwrap_or o e)) is in omega (arith, same)
found_at Greater d e found n h is = omega (arith, h is)

-- a member is at most as deep as all are
pub found_depth : (k : List ℕ) (ms : Members) (d : Data) → get_member k ms ≡ Some d → depth d ≤ members_depth ms
found_depth k no_members d is = absurd (none_some is)
found_depth k (member l e ms) d is = found_at (slice_cmp nat_cmp k l) d e (get_member k ms) (members_depth ms) (found_depth k ms d) is

-- ---- the parameters of a command

-- what is an object and what isn't
pub object_given : (o : Option Data) (ps : Members) → Some ps ≡ option_and_then as_object o → o ≡ Some (object ps)
object_given None ps is = absurd (false≢true (sym (ap is_some is)))
object_given (Some null) ps is = absurd (false≢true (sym (ap is_some is)))
object_given (Some (boolean b)) ps is = absurd (false≢true (sym (ap is_some is)))
object_given (Some (number n)) ps is = absurd (false≢true (sym (ap is_some is)))
object_given (Some (string s)) ps is = absurd (false≢true (sym (ap is_some is)))
object_given (Some (array ds)) ps is = absurd (false≢true (sym (ap is_some is)))
object_given (Some (object ms)) ps is = ap (λ o. Some (object (unwrap_or o ms))) (sym is)

has_object : (o : Option Data) → is_false (option_and_then (required as_bool flag_name) o) ≡ true → None ≡ option_and_then as_object o → ⊥
has_object None is none = false≢true is
has_object (Some null) is none = false≢true is
has_object (Some (boolean b)) is none = false≢true is
has_object (Some (number n)) is none = false≢true is
has_object (Some (string s)) is none = false≢true is
has_object (Some (array ds)) is none = false≢true is
has_object (Some (object ms)) is none = none_some none

-- the value at a name of a map, as one of the object that it stands for
pub at_name : (name : List ℕ) (m : BTreeMap (String Global) Value) (r : Option Value)
    → r ≡ lookup (is_at (λ k. slice_cmp nat_cmp name (string_bytes k))) m.entries → option_map view r ≡ get_member name (members_view m.entries)
at_name name m r is = ap (option_map view) is ∙ view-lookup name m.entries

-- a command that clears the flag has an object as its parameters
pub has_params : (m : BTreeMap (String Global) Value) (r : Option Value)
    → r ≡ lookup (is_at (λ k. slice_cmp nat_cmp (codes "params") (string_bytes k))) m.entries
    → clears_flag (object (members_view m.entries)) ≡ true → None ≡ option_and_then as_object (option_map view r) → ⊥
has_params m r is clears none =
    has_object (get_member (codes "params") (members_view m.entries)) clears
    (none ∙ ap (option_and_then as_object) (at_name (codes "params") m r is))

-- they are what was taken out
pub given_params : (m : BTreeMap (String Global) Value) (r : Option Value) (ps : Members)
    → r ≡ lookup (is_at (λ k. slice_cmp nat_cmp (codes "params") (string_bytes k))) m.entries
    → Some ps ≡ option_and_then as_object (option_map view r)
    → get (codes "params") (object (members_view m.entries)) ≡ Some (object ps)
given_params m r ps is taken =
    object_given (get_member (codes "params") (members_view m.entries)) ps
    (taken ∙ ap (option_and_then as_object) (at_name (codes "params") m r is))

-- a map without an entry, as an object
pub removed : (name : List ℕ) (m n : BTreeMap (String Global) Value)
    → UpdatesBy string_cmp (λ k. slice_cmp nat_cmp name (string_bytes k)) m n None
    → Updates name None (object (members_view m.entries)) (object (members_view n.entries))
removed name m n h = (refl, updated name m n None h)

-- the same as a value
pub removed_value : (name : List ℕ) (m n : BTreeMap (String Global) Value)
    → UpdatesBy string_cmp (λ k. slice_cmp nat_cmp name (string_bytes k)) m n None
    → Updates name None (object (members_view m.entries)) (view (Object n))
removed_value name m n h = subst (Updates name None (object (members_view m.entries))) (sym (view-Object n)) (removed name m n h)

-- a map with an entry more, as an object
pub inserted : (name : List ℕ) (m n : BTreeMap (String Global) Value) (key : String Global) (v : Value)
    → string_bytes key ≡ name → UpdatesBy string_cmp (string_cmp key) m n (Some v)
    → Updates name (Some (view v)) (object (members_view m.entries)) (view (Object n))
inserted name m n key v is h =
    subst (Updates name (Some (view v)) (object (members_view m.entries))) (sym (view-Object n))
    (subst (λ name. Updates name (Some (view v)) (object (members_view m.entries)) (object (members_view n.entries))) is
    (refl, updated (string_bytes key) m n (Some v) h))

-- without an entry an object isn't deeper
pub shallower : (m n : BTreeMap (String Global) Value) (test : String Global → Bool) → n.entries ≡ remove_entry test m.entries
    → depth (object (members_view n.entries)) ≤ depth (object (members_view m.entries))
shallower m n test is =
    let h : members_depth (members_view n.entries) ≤ members_depth (members_view m.entries) =
    subst (λ es. members_depth (members_view es) ≤ members_depth (members_view m.entries)) (sym is) (removed_depth test m.entries) in
    omega (arith, h)

-- the same as a value
pub shallower_value : (m n : BTreeMap (String Global) Value) (test : String Global → Bool) → n.entries ≡ remove_entry test m.entries
    → depth (view (Object n)) ≤ depth (object (members_view m.entries))
shallower_value m n test is =
    subst (λ d. depth d ≤ depth (object (members_view m.entries))) (sym (view-Object n)) (shallower m n test is)

-- with an entry more an object is as deep as that, or as before
pub deeper : (m n : BTreeMap (String Global) Value) (key : String Global) (v : Value) (bound : ℕ)
    → n.entries ≡ insert_entry string_cmp m.entries key v → depth (view v) < bound → depth (object (members_view m.entries)) ≤ bound
    → depth (view (Object n)) ≤ bound
deeper m n key v bound is below within =
    let put : members_view n.entries ≡ put (string_bytes key) (view v) (members_view m.entries) =
    ap members_view is ∙ members_view-insert_entry m.entries key v in
    let h : members_depth (members_view n.entries) ≤ max (depth (view v)) (members_depth (members_view m.entries)) =
    subst (λ ms. members_depth ms ≤ max (depth (view v)) (members_depth (members_view m.entries))) (sym put) (put_depth (string_bytes key) (view v) (members_view m.entries)) in
    subst (λ d. depth d ≤ bound) (sym (view-Object n)) (omega (arith, h, below, within))

twice_at : (b : Bool) (w : Option Data) (v g : Option Data) → v ≡ (if b then None else g) → (if b then w else v) ≡ (if b then w else g)
twice_at true w v g is = refl
twice_at false w v g is = is

-- a member that was taken out and put in again was exchanged
pub updates_twice : (name : List ℕ) (w : Option Data) (c d e : Data) → Updates name None c d → Updates name w d e → Updates name w c e
updates_twice name w c d e first second =
    (second.0, λ k. second.1 k ∙ twice_at (bytes_eq name k) w (get k d) (get k c) (first.1 k))

-- a command without the flag that it clears
pub without : (command : Value) (members taken : BTreeMap (String Global) Value) (ps : Members) (others : Data) (whole : Value)
    → command ≡ Object members
    → get (codes "params") (object (members_view members.entries)) ≡ Some (object ps)
    → Updates (codes "params") None (object (members_view members.entries)) (object (members_view taken.entries))
    → Updates flag_name None (object ps) others
    → Updates (codes "params") (Some others) (object (members_view taken.entries)) (view whole)
    → IsWithoutFlag (view command) (view whole)
without command members taken ps others whole is given first flag second =
    subst (λ d. IsWithoutFlag d (view whole)) (sym (ap view is ∙ view-Object members)) record {
      params = object ps;
      others = others;
      given = given;
      is_object = refl;
      command = updates_twice (codes "params") (Some others) (object (members_view members.entries)) (object (members_view taken.entries)) (view whole) first second;
      parameters = flag;
    }

-- the same of a result
pub without_result : {E : Type 0} (result : Result Value E) {P Q : Value → Type 0} → ((whole : Value) → P whole → Q whole)
    → IfOk result P → IfOk result Q
without_result (Ok whole) f h = f whole h
without_result (Err e) f h = tt
