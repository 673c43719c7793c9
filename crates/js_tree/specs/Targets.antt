-- What may be assigned to.
use Rattle.std.specs.Prelude.{Bool, true, false}
use Rattle.js_tree.specs.Trees.{Expression, name, member, index, parenthesized}

-- a name or a property, also in parentheses (ECMA-262, 13.15.1, AssignmentTargetType)
abbrev pub is_target : Expression → Bool
is_target (name x) = true
is_target (member e key) = true
is_target (index e k) = true
is_target (parenthesized e) = is_target e
is_target _ = false
