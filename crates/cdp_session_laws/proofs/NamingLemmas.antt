-- What is described is found by the id that its description has.
use Rattle.std.proofs.Common.{◌≡◌, ℕ, ◌+◌, ◌<◌, ◌^◌, Bool, true, false, cond, List, [], ◌∷◌, ◌++◌, length, codes, refl, ap, arith}
use Rattle.std.specs.Prelude.{nat_eq, nat_le, if◌then◌else◌, Option, Some, None}
use Rattle.std.specs.List.{find}
use Rattle.std.proofs.lemmas.Bool.Decides.{nat_tests}
use Rattle.js_heap.specs.declared.cell.Cell.{Cell}
use Rattle.js_heap.specs.declared.cell.Cell.TheVariants as cells
use Rattle.js_heap.specs.declared.value.Addr.{Addr}
use Rattle.js_heap.specs.declared.value.Value.TheVariants as values
use Rattle.js_heap.specs.World.{read_cell}
use Rattle.object_groups.specs.declared.fault.HandleFault.{HandleFault}
use Rattle.object_groups.specs.declared.fault.HandleFault.TheVariants.{Full}
use Rattle.object_groups.specs.declared.fault.TheConstants.{MOST_HELD, MOST_MADE}
use Rattle.object_groups.specs.declared.handle.Handle.{Handle}
use Rattle.object_groups.specs.declared.handle.Target.{Target}
use Rattle.object_groups.specs.declared.handle.Target.TheVariants as targets
use Rattle.object_groups.specs.Handles.{HeldHandles, fault_of, has_number}
use Rattle.cdp_json.specs.Json.{text}
use Rattle.cdp_json.specs.Parts.{Pair, object_of}
use Rattle.remote_objects.specs.Ids.{object_id}
use Rattle.remote_objects.specs.Making.{handles_by, id_pairs, number_by}
use Rattle.remote_objects.specs.Previews.{preview_pairs}
use Rattle.remote_objects.specs.Remote.{remote_scope, remote_with}
use Rattle.remote_objects.specs.Sights.{Sight}
use Rattle.remote_objects.specs.Values.{cell_pairs, plain_pairs}
use Rattle.remote_objects.specs.declared.detail.Detail.{Detail}
use Rattle.remote_objects.specs.declared.detail.Detail.TheVariants as details
use Rattle.cdp_session.specs.Objects.{numbered}
use Rattle.cdp_session_laws.specs.Handles.{IsOrdered}
use Rattle.cdp_session_laws.specs.Members.{value_of}
use Rattle.cdp_session_laws.specs.Naming.{IsNamed, IsNameless}
use Rattle.cdp_session_laws.proofs.GrowLemmas.{none-above}

-- ---- handles

-- where no limit stands, fewer were made than may be
few-made : (h : HeldHandles) → fault_of h ≡ None → h.made + 1 < 2 ^ 64
few-made h free = at (nat_le MOST_HELD (length h.held)) (nat_le MOST_MADE h.made) refl free
  where
    at : (b c : Bool)
        → nat_le MOST_MADE h.made ≡ c
        → (if b then Some (Full MOST_HELD) else if c then Some (Full MOST_MADE) else None) ≡ None
        → h.made + 1 < 2 ^ 64
    at true c e free = absurd cc
    at false true e free = absurd cc
    at false false e free =
        let less : h.made < MOST_MADE = grind (arith, nat_tests) in
        omega (arith, less)

-- the last of a list is found by a number that no other has
found-last : (n : ℕ) (hs : List Handle) (h : Handle)
    → numbered hs n ≡ None
    → has_number n h ≡ true
    → numbered (hs ++ h ∷ []) n ≡ Some h
found-last n [] h none is = ap (λ b. cond b (Some h) None) is
found-last n (k ∷ hs) h none is = at (λ there. found-last n hs h there is) (has_number n k) none
  where
    at : (numbered hs n ≡ None → numbered (hs ++ h ∷ []) n ≡ Some h)
        → (b : Bool)
        → cond b (Some k) (find (has_number n) hs) ≡ None
        → cond b (Some k) (find (has_number n) (hs ++ h ∷ [])) ≡ Some h
    at rest true there = absurd cc
    at rest false there = rest there

found-new : (t : Target) (g : Option (List ℕ)) (h : HeldHandles)
    → IsOrdered h
    → numbered (handles_by None t g h).held (h.made + 1)
    ≡ Some (record { number = h.made + 1; target = t; group = g })
found-new t g h o =
    let new : Handle = record { number = h.made + 1; target = t; group = g } in
    let same : nat_eq (h.made + 1) (h.made + 1) ≡ true = grind (arith, nat_tests) in
    found-last (h.made + 1) h.held new (none-above (h.made + 1) (h.made + 1) h.held o.below (omega arith)) same

-- ---- members

-- none of the members of a cell is an id; the id comes after them
id-said : (s : Sight) (o : Option Cell) (session n : ℕ) (more : List Pair)
    → value_of (codes "objectId") (object_of (cell_pairs s o ++ id_pairs session (Some n) ++ more))
    ≡ Some (text (object_id session n))
id-said s None session n more = refl
id-said s (Some (cells.Object ps)) session n more = refl
id-said s (Some (cells.Error class ps)) session n more = refl
id-said s (Some (cells.Array vs)) session n more = refl
id-said s (Some (cells.Function code name len scope receiver)) session n more = refl
id-said s (Some (cells.Text us)) session n more = refl
id-said s (Some (cells.Bindings kind name outer names)) session n more = refl

no-id : (s : Sight) (o : Option Cell) (session : ℕ)
    → value_of (codes "objectId") (object_of (cell_pairs s o ++ id_pairs session None)) ≡ None
no-id s None session = refl
no-id s (Some (cells.Object ps)) session = refl
no-id s (Some (cells.Error class ps)) session = refl
no-id s (Some (cells.Array vs)) session = refl
no-id s (Some (cells.Function code name len scope receiver)) session = refl
no-id s (Some (cells.Text us)) session = refl
no-id s (Some (cells.Bindings kind name outer names)) session = refl

id-said-plainly : (s : Sight) (o : Option Cell) (session n : ℕ)
    → value_of (codes "objectId") (object_of (cell_pairs s o ++ id_pairs session (Some n)))
    ≡ Some (text (object_id session n))
id-said-plainly s None session n = refl
id-said-plainly s (Some (cells.Object ps)) session n = refl
id-said-plainly s (Some (cells.Error class ps)) session n = refl
id-said-plainly s (Some (cells.Array vs)) session n = refl
id-said-plainly s (Some (cells.Function code name len scope receiver)) session n = refl
id-said-plainly s (Some (cells.Text us)) session n = refl
id-said-plainly s (Some (cells.Bindings kind name outer names)) session n = refl

-- ---- descriptions

-- by the fault that stands
scope-by : (session : ℕ) (g : Option (List ℕ)) (a : Addr) (h : HeldHandles) (o : Option HandleFault)
    → IsOrdered h
    → h.made + 1 < 2 ^ 64
    → o ≡ None
    → IsNamed session (targets.Scope a) g (record {
      made = object_of (plain_pairs ++ id_pairs session (number_by o h));
      handles = handles_by o (targets.Scope a) g h;
    })
scope-by session g a h None ordered few free = record {
  number = h.made + 1;
  few = few;
  said = refl;
  found = found-new (targets.Scope a) g h ordered;
}
scope-by session g a h (Some fault) ordered few free = absurd cc

pub scope-named : (session : ℕ) (g : Option (List ℕ)) (a : Addr) (h : HeldHandles)
    → IsOrdered h
    → fault_of h ≡ None
    → IsNamed session (targets.Scope a) g (remote_scope session g a h)
scope-named session g a h ordered free = scope-by session g a h (fault_of h) ordered (few-made h free) free

plain-by : (s : Sight) (g : Option (List ℕ)) (a : Addr) (h : HeldHandles) (o : Option HandleFault)
    → IsOrdered h
    → h.made + 1 < 2 ^ 64
    → o ≡ None
    → IsNamed s.session (targets.Object a) g (record {
      made = object_of (cell_pairs s (read_cell s.world a) ++ id_pairs s.session (number_by o h));
      handles = handles_by o (targets.Object a) g h;
    })
plain-by s g a h None ordered few free = record {
  number = h.made + 1;
  few = few;
  said = id-said-plainly s (read_cell s.world a) s.session (h.made + 1);
  found = found-new (targets.Object a) g h ordered;
}
plain-by s g a h (Some fault) ordered few free = absurd cc

preview-by : (s : Sight) (g : Option (List ℕ)) (a : Addr) (h : HeldHandles) (o : Option HandleFault)
    → IsOrdered h
    → h.made + 1 < 2 ^ 64
    → o ≡ None
    → IsNamed s.session (targets.Object a) g (record {
      made = object_of (cell_pairs s (read_cell s.world a) ++ id_pairs s.session (number_by o h)
          ++ preview_pairs s.world (read_cell s.world a));
      handles = handles_by o (targets.Object a) g h;
    })
preview-by s g a h None ordered few free = record {
  number = h.made + 1;
  few = few;
  said = id-said s (read_cell s.world a) s.session (h.made + 1) (preview_pairs s.world (read_cell s.world a));
  found = found-new (targets.Object a) g h ordered;
}
preview-by s g a h (Some fault) ordered few free = absurd cc

pub object-named : (s : Sight) (d : Detail) (g : Option (List ℕ)) (a : Addr) (h : HeldHandles)
    → IsOrdered h
    → fault_of h ≡ None
    → IsNamed s.session (targets.Object a) g (remote_with s d g (values.Object a) h)
object-named s details.Plain g a h ordered free = plain-by s g a h (fault_of h) ordered (few-made h free) free
object-named s details.Previewed g a h ordered free = preview-by s g a h (fault_of h) ordered (few-made h free) free

-- where no handle can be made, none is
nameless-by : (s : Sight) (g : Option (List ℕ)) (a : Addr) (h : HeldHandles) (o : Option HandleFault)
    (fault : HandleFault)
    → o ≡ Some fault
    → IsNameless h (record {
      made = object_of (cell_pairs s (read_cell s.world a) ++ id_pairs s.session (number_by o h));
      handles = handles_by o (targets.Object a) g h;
    })
nameless-by s g a h None fault is = absurd cc
nameless-by s g a h (Some other) fault is =
    record { said = no-id s (read_cell s.world a) s.session; same = refl }

pub object-nameless : (s : Sight) (g : Option (List ℕ)) (a : Addr) (h : HeldHandles) (fault : HandleFault)
    → fault_of h ≡ Some fault
    → IsNameless h (remote_with s details.Plain g (values.Object a) h)
object-nameless s g a h fault is = nameless-by s g a h (fault_of h) fault is
