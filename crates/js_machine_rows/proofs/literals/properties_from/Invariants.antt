use Rattle.std.proofs.Common.{◌≡◌, [], drop}
use Rattle.js_semantics.specs.Rows.{properties_from}
use Rattle.js_machine_nodes.specs.Forms.{members_of}
use Rattle.js_machine_rows.proofs.literals.properties_from.Given as goal

abbrev pub invariant-loop-member : goal.invariant-loop-member
invariant-loop-member g l =
    properties_from (g.W.World.world l.names l.world) l.properties (members_of l.names (drop l.member-index l.members))
    l.rest ≡ properties_from (g.W.World.world l.names l.world) [] (members_of l.names l.members) l.values
