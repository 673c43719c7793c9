-- What a run of scripts comes to, and what of its output was written.
use Rattle.std.specs.Prelude.{◌≡◌, ◌+◌, ℕ, List, string_bytes}
use Rattle.cdp_edge.specs.Outside.{gains, GainsPrefix, GainsLess}
use Rattle.cdp_text.specs.Units.{utf8_of}
use Rattle.js_heap.specs.declared.value.Value.{Value}
use Rattle.js_heap.specs.Values.{shown}
use Rattle.js_heap.specs.World.{World}
use Rattle.js_semantics.specs.State.{State}
use Rattle.js_semantics.specs.declared.form.SourceMark.{SourceMark}
use Rattle.js_semantics.specs.Terms.{Terms}
use Rattle.js_semantics.specs.Run.{over, ended, threw, plain, out}
use Rattle.js_machine_engine.specs.declared.stepped.Finish.{Finish}
use Rattle.js_machine_engine.specs.declared.stepped.Finish.TheVariants as finishes
use Rattle.debug_host_plain_runs.specs.declared.end.PlainRunEnd.{PlainRunEnd}
use Rattle.debug_host_plain_runs.specs.declared.end.PlainRunEnd.TheVariants as ends
use Rattle.cdp_edge_printing.specs.Printing.{printed_lines}

-- the bytes that so many steps of scripts with an input print
abbrev pub output_after : ℕ → Terms → List (List ℕ) → List ℕ
output_after k ts input = printed_lines (out k ts input)

-- after some steps the run has ended by its last script, and all that it printed was written
pub record HasEnded (ts : Terms) (input : List (List ℕ)) (before now : List ℕ) : Type 0 where
  pub steps : ℕ
  pub value : Value
  pub state : State
  pub is : plain steps ts input ≡ over (ended value) state
  pub whole : now ≡ gains before (printed_lines state.printed)

-- after some steps it has ended by a throw of a value that is shown so, and all that it printed was written
pub record HasThrown (ts : Terms) (input : List (List ℕ)) (text : List ℕ) (before now : List ℕ) : Type 0 where
  pub steps : ℕ
  pub value : Value
  pub place : SourceMark
  pub state : State
  pub is : plain steps ts input ≡ over (threw value place) state
  pub told : text ≡ utf8_of (shown state.world value)
  pub whole : now ≡ gains before (printed_lines state.printed)

-- a first part of what some steps print was written
pub record IsCut (ts : Terms) (input : List (List ℕ)) (before now : List ℕ) : Type 0 where
  pub steps : ℕ
  pub part : GainsPrefix before now (output_after steps ts input)

-- a first part of what some steps print was written, and not all of it
pub record IsCutShort (ts : Terms) (input : List (List ℕ)) (before now : List ℕ) : Type 0 where
  pub steps : ℕ
  pub less : GainsLess before now (output_after steps ts input)

-- what each end says of the run and of what was written
abbrev pub ComesTo : PlainRunEnd → Terms → List (List ℕ) → List ℕ → List ℕ → Type 0
ComesTo ends.Ended ts input before now = HasEnded ts input before now
ComesTo (ends.Threw text) ts input before now = HasThrown ts input (string_bytes text) before now
ComesTo ends.CannotWrite ts input before now = IsCutShort ts input before now
ComesTo ends.Memory ts input before now = IsCut ts input before now

-- what was written is a first part of the output, however many more steps are made
pub record IsFirstPart (ts : Terms) (input : List (List ℕ)) (before now : List ℕ) : Type 0 where
  pub steps : ℕ
  pub part : (more : ℕ) → GainsPrefix before now (output_after (steps + more) ts input)

-- how a run is told to have ended that is over so in a world; want of memory may hide it
abbrev pub EndsBy : PlainRunEnd → Finish → World → Type 0
EndsBy ends.Ended (finishes.Ended v) w = Unit {0}
EndsBy ends.Ended (finishes.Threw v place) w = ⊥
EndsBy (ends.Threw text) (finishes.Ended v) w = ⊥
EndsBy (ends.Threw text) (finishes.Threw v place) w = string_bytes text ≡ utf8_of (shown w v)
EndsBy ends.CannotWrite f w = ⊥
EndsBy ends.Memory f w = Unit {0}
