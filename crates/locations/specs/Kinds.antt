-- What stands at an offset of a source.
use Rattle.std.specs.Prelude.{◌≡◌, ℕ, ◌+◌, ◌<◌, List, [], ◌∷◌, length, Option, Some, None, nat_eq, slice_index_or, if◌then◌else◌}
use Rattle.js_tree.specs.declared.node.Span.{Span}
use Rattle.js_tree.specs.declared.script.Script.{Script}
use Rattle.js_semantics.specs.Frames.{offset_of}
use Rattle.locations.specs.declared.spot.SpotKind.{SpotKind}
use Rattle.locations.specs.declared.spot.SpotKind.TheVariants.{Plain, Debugger, Return, Call}
use Rattle.locations.specs.Marks.{Marks}

-- of two kinds the stronger one: a call, else a return, else a `debugger` statement
abbrev pub stronger : SpotKind → SpotKind → SpotKind
stronger Plain k = k
stronger Debugger Plain = Debugger
stronger Debugger Debugger = Debugger
stronger Debugger Return = Return
stronger Debugger Call = Call
stronger Return Plain = Return
stronger Return Debugger = Return
stronger Return Return = Return
stronger Return Call = Call
stronger Call k = Call

-- the stronger one of a kind and what there may be besides
abbrev pub strongest : SpotKind → Option SpotKind → Option SpotKind
strongest k None = Some k
strongest k (Some l) = Some (stronger k l)

-- the strongest kind of the marks at an offset, if there is one
abbrev pub kind_at : List Span → Marks → ℕ → Option SpotKind
kind_at spans [] x = None
kind_at spans (m ∷ ms) x =
    if nat_eq (offset_of spans m.mark) x then strongest m.kind (kind_at spans ms x) else kind_at spans ms x

-- ---- the kinds at all offsets

-- what stands where a mark is added to what stood there
abbrev pub with_mark : Option SpotKind → SpotKind → Option SpotKind
with_mark None kind = Some kind
with_mark (Some before) kind = Some (stronger before kind)

-- the kind in a list of what stands at each offset
abbrev pub kind_of : List (Option SpotKind) → ℕ → Option SpotKind
kind_of kinds x = slice_index_or kinds x None

-- these stand at the offsets of a script with these marks, and at its end
pub record AreKinds (s : Script) (ms : Marks) (kinds : List (Option SpotKind)) : Type 0 where
  pub long : length kinds ≡ length s.source + 1
  pub stand : (x : ℕ) → x < length kinds → kind_of kinds x ≡ kind_at s.spans ms x
