use Rattle.std.proofs.Common.{◌≡◌, take, map}
use Rattle.js_semantics.specs.Makers as makers
use Rattle.js_semantics.specs.Sources.{property_source}
use Rattle.js_machine_lowering_parts.proofs.objects.members_in.Given as goal

abbrev pub invariant-loop-item : goal.invariant-loop-item
invariant-loop-item l = l.members.items ≡ map makers.member_of (map property_source (take l.item-index l.items))
