-- The lines of a file of commands.
use Rattle.std.specs.Prelude.{◌≡◌, ℕ, ◌+◌, ◌==◌, List, [], ◌∷◌, length, Bool, ◌&&◌, not, if◌then◌else◌, codes, Option, Some, None, is_none, is_some, Result, Ok, Err}
use Rattle.std.specs.Option.{option_and_then}
use Rattle.std.specs.Str.{is_utf8}
use Rattle.serde_json.specs.Find.{as_object}
use Rattle.serde_json.specs.Read.{read}
use Rattle.cdp_text.specs.Lines.{lines_of}
use Rattle.cdp_text.specs.Parts.{behind, Halves, halves}

-- a command: its number, its method, and the JSON object that is its parameters, if there is one
pub record Command : Type 0 where
  pub id : ℕ
  pub method : List ℕ
  pub params : Option (List ℕ)

-- what a line asks for
pub data Line : Type 0 where
  -- send this command, and go on once it is answered
  Send : Command → Line
  -- go on once an event of this method has arrived that met no wait before
  Wait : List ℕ → Line

-- ---- one line

-- one or more characters without a space
abbrev pub is_method : List ℕ → Bool
is_method text = is_none (halves 32 text) && not (length text == 0)

-- a JSON object
abbrev pub is_object : List ℕ → Bool
is_object text = is_some (option_and_then as_object (read text))

-- a wait for this method
abbrev pub wait_of : List ℕ → Option Line
wait_of method = if is_method method then Some (Wait method) else None

-- a command of this number and method, without parameters
abbrev pub bare_command : ℕ → List ℕ → Option Line
bare_command id method =
    if is_method method then Some (Send record { id = id; method = method; params = None }) else None

-- a command of this number whose method and parameters are these halves of its line
abbrev pub full_command : ℕ → Halves → Option Line
full_command id parts =
    if is_method parts.front && is_object parts.back
    then Some (Send record { id = id; method = parts.front; params = Some parts.back }) else None

-- a command whose line is this, and around its first space these halves, if it has one
abbrev pub command_from : ℕ → List ℕ → Option Halves → Option Line
command_from id text None = bare_command id text
command_from id text (Some parts) = full_command id parts

-- the line of this text, where this stands behind `wait ` in it, if it begins so
abbrev pub line_from : ℕ → List ℕ → Option (List ℕ) → Option Line
line_from id text None = command_from id text (halves 32 text)
line_from id text (Some method) = wait_of method

-- the line of this text, where its command has this number
abbrev pub line_of_text : ℕ → List ℕ → Option Line
line_of_text id text = line_from id text (behind (codes "wait ") text)

-- the line of these bytes
abbrev pub line_of : ℕ → List ℕ → Option Line
line_of id bytes = if is_utf8 bytes then line_of_text id bytes else None

-- ---- the file

-- the number of the next command
abbrev pub next_id : ℕ → Option Line → ℕ
next_id id None = id
next_id id (Some (Send command)) = id + 1
next_id id (Some (Wait method)) = id

-- what lines are read as whose first, of this number, is this, if it is one
abbrev pub led_by : Option Line → ℕ → Result (List Line) ℕ → Result (List Line) ℕ
led_by None number others = Err number
led_by (Some line) number (Ok lines) = Ok (line ∷ lines)
led_by (Some line) number (Err refused) = Err refused

-- what texts are read as, of which the first is the line of this number, and the next command has this one
abbrev pub read_from : ℕ → ℕ → List (List ℕ) → Result (List Line) ℕ
read_from number id [] = Ok []
read_from number id (text ∷ texts) =
    led_by (line_of id text) number (read_from (number + 1) (next_id id (line_of id text)) texts)

-- the lines of a file, or the number of the first that isn't of its form; lines and commands are numbered from 1
abbrev pub file_read : List ℕ → Result (List Line) ℕ
file_read file = read_from 1 1 (lines_of file)

-- each line of a file is of its form
abbrev pub IsInForm : List ℕ → Type 0
IsInForm file = (lines : List Line) × (file_read file ≡ Ok lines)
