-- What the descriptors of a list of properties are.
use Rattle.std.proofs.Common.{◌≡◌, ℕ, List, [], ◌∷◌, Option, refl, ap}
use Rattle.std.specs.Prelude.{map}
use Rattle.js_heap.specs.declared.cell.Property.{Property}
use Rattle.object_groups.specs.Handles.{HeldHandles}
use Rattle.remote_objects.specs.declared.detail.Detail.{Detail}
use Rattle.remote_objects.specs.Sights.{Sight}
use Rattle.remote_objects.specs.Making.{made_all}
use Rattle.remote_objects.specs.Descriptors.{FlaggedProperty, slots_of, content_made, descriptor, property_slot}
use Rattle.remote_objects.specs.Laws.{AreDescriptors, DescribesEach, slot_name, key_of}

described-each : (s : Sight) (detail : Detail) (group : Option (List ℕ)) (ps : List FlaggedProperty) (h : HeldHandles)
    → AreDescriptors ps (made_all (descriptor s detail group) ps h).made
described-each s detail group [] h = tt
described-each s detail group (p ∷ ps) h = (
  ((content_made s detail group p.content h).made, refl),
  described-each s detail group ps (descriptor s detail group p h).handles,
)

pub describes-each : DescribesEach
describes-each s detail group target h = described-each s detail group (slots_of s.world target) h

pub names-keys : (ps : List Property) → map slot_name (map property_slot ps) ≡ map key_of ps
names-keys [] = refl
names-keys (p ∷ ps) = ap (λ ks. p.key ∷ ks) (names-keys ps)
