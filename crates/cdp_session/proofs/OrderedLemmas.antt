-- The break locations of a script are in ascending order.
use Rattle.std.proofs.Common.{◌≡◌, suc, List, length, sym, subst}
use Rattle.js_tree.specs.declared.script.Script.{Script}
use Rattle.locations.specs.declared.spot.Spot.{Spot}
use Rattle.locations.specs.Kinds.{kind_at}
use Rattle.locations.specs.Locations.{break_locations, script_marks}
use Rattle.locations.specs.Order.{IsAscending}
use Rattle.locations.proofs.OrderLemmas.{ascending_below}

pub located_ascending : (spots : List Spot) (s : Script) → spots ≡ break_locations s → IsAscending spots
located_ascending spots s is =
    subst IsAscending (sym is) (ascending_below s.source (kind_at s.spans (script_marks s)) (suc (length s.source)))
