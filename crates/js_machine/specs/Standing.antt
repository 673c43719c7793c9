-- Where a machine stands. One whose run has ended stands nowhere.
use Rattle.std.specs.Prelude.{Bool, false, Option, Some, None}
use Rattle.js_semantics.specs.declared.form.Source.{Source}
use Rattle.js_semantics.specs.State.{top_spot}
use Rattle.js_machine.specs.declared.end.End.{End}
use Rattle.js_machine.specs.Machines.{Machine}

-- the source in which the top frame is
abbrev pub source_of : Machine → Source
source_of m = (top_spot m.context.frames).source

-- until the end this, then nothing
abbrev pub until_end : {A : Type 0} → Option End → Option A → Option A
until_end None x = x
until_end (Some e) x = None

-- until the end this, then it doesn't hold
abbrev pub holds_until_end : Option End → Bool → Bool
holds_until_end None b = b
holds_until_end (Some e) b = false
