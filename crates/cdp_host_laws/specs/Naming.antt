-- What a client writes to name a command (Chrome DevTools Protocol 1.3, domains Debugger and Runtime).
use Rattle.std.specs.Prelude.{◌≡◌, ℕ, List, codes, Some}
use Rattle.serde_json.specs.Data.{Data, number, string, unsigned}
use Rattle.serde_json.specs.Find.{get}
use Rattle.cdp_json.specs.Commands.{given_of, value_reading}
use Rattle.cdp_json.specs.declared.command.Reading.TheVariants.{Command}
use Rattle.cdp_json.specs.declared.method.Method.{Method}
use Rattle.cdp_json.specs.declared.params.ExceptionPauses.{ExceptionPauses}
use Rattle.cdp_json.specs.declared.params.ExceptionPauses.TheVariants as pauses
use Rattle.cdp_json.specs.declared.params.Location.{Location}
use Rattle.cdp_json.specs.declared.params.Params.{Params}
use Rattle.cdp_json.specs.declared.params.Params.TheVariants as params

-- a JSON value whose member `method` is this name is read as no other command than this
abbrev pub Names : List ℕ → Params → Type 0
Names name command =
    (d : Data) (id : ℕ) (method : Method) (heard : Params)
    → value_reading d ≡ Command id method heard
    → get (codes "method") d ≡ Some (string name)
    → heard ≡ command

-- the commands without parameters by which a client stops a program and lets it go on
pub record CommandsAreNamed : Type 0 where
  pub step_into : Names (codes "Debugger.stepInto") params.StepInto
  pub step_over : Names (codes "Debugger.stepOver") params.StepOver
  pub step_out : Names (codes "Debugger.stepOut") params.StepOut
  pub pause : Names (codes "Debugger.pause") params.Pause
  pub resume : Names (codes "Debugger.resume") params.Resume
  pub disable : Names (codes "Debugger.disable") params.DebuggerDisable
  pub run : Names (codes "Runtime.runIfWaitingForDebugger") params.RunIfWaitingForDebugger

-- with this name as its member `state`, `Debugger.setPauseOnExceptions` asks for these throws
abbrev pub NamesState : List ℕ → ExceptionPauses → Type 0
NamesState name state =
    (d : Data) (id : ℕ) (method : Method) (heard : Params) (given : Data)
    → value_reading d ≡ Command id method heard
    → get (codes "method") d ≡ Some (string (codes "Debugger.setPauseOnExceptions"))
    → given_of d ≡ Some given
    → get (codes "state") given ≡ Some (string name)
    → heard ≡ params.SetPauseOnExceptions state

-- the three names
pub record StatesAreNamed : Type 0 where
  pub all : NamesState (codes "all") pauses.All
  pub uncaught : NamesState (codes "uncaught") pauses.Uncaught
  pub none : NamesState (codes "none") pauses.Never

-- the position of `Debugger.continueToLocation` is that of the line and the column in its member `location`
abbrev pub LocationsAreGiven : Type 0
LocationsAreGiven =
    (d : Data) (id : ℕ) (method : Method) (at : Location) (given l : Data) (line column : ℕ)
    → value_reading d ≡ Command id method (params.ContinueToLocation at)
    → get (codes "method") d ≡ Some (string (codes "Debugger.continueToLocation"))
    → given_of d ≡ Some given
    → get (codes "location") given ≡ Some l
    → get (codes "lineNumber") l ≡ Some (number (unsigned line))
    → get (codes "columnNumber") l ≡ Some (number (unsigned column))
    → at.position ≡ record { line = line; col = column }
