-- What the words of a command line ask for.
use Rattle.std.specs.Prelude.{ℕ, List, [], ◌∷◌, Bool, false, ◌&&◌, ◌||◌, nat_le, bytes_eq, codes, Option, Some, None, map, string_bytes, if◌then◌else◌}
use Rattle.std.specs.Option.{option_and_then, option_map}
use Rattle.std.specs.declared.string.String.{String}
use Rattle.std.specs.declared.alloc.Global.{Global}
use Rattle.cdp_text.specs.Decimal.{decimal_value}
use Rattle.debug_host_options.specs.declared.command.Subcommand.{Subcommand}
use Rattle.debug_host_options.specs.declared.command.Subcommand.TheVariants as command
use Rattle.debug_host_options.specs.declared.command.OptionName.TheVariants.{Port, Sessions, Input, Journal, Wait, Devtools, Explain}
use Rattle.debug_host_options.specs.declared.request.TheConstants.{DEFAULT_PORT, MOST_PORT, DEFAULT_SESSIONS, MOST_DRILLED}
use Rattle.debug_host_options.specs.declared.session_count.TheConstants.{MOST_SESSIONS}
use Rattle.debug_host_options.specs.Commands.{command_named}
use Rattle.debug_host_options.specs.Parts.{Part, parts_of}
use Rattle.debug_host_options.specs.Given.{has_repeat, is_given, operands_of, value_of}

-- scripts by the names of their files, with the name of a file of input, where one is given
pub record Sources : Type 0 where
  pub input : Option (List ℕ)
  pub scripts : List (List ℕ)

-- a program, whose faults are explained where that is asked for
pub record RunWords : Type 0 where
  pub explain : Bool
  pub sources : Sources

-- a journal by the name of its file, over a program that waits for a client where that is asked for
pub record ReplayWords : Type 0 where
  pub explain : Bool
  pub wait : Bool
  pub journal : List ℕ
  pub sources : Sources

-- a server's port and the greatest number of its clients at once, which may be DevTools too where that is asked for, with
-- its program, and the name of the file in which its journal is stored, where one is given
pub record ServeWords : Type 0 where
  pub explain : Bool
  pub port : ℕ
  pub sessions : ℕ
  pub wait : Bool
  pub devtools : Bool
  pub journal : Option (List ℕ)
  pub sources : Sources

-- a file of commands by its name, and the port of a serving host
pub record SendWords : Type 0 where
  pub explain : Bool
  pub port : ℕ
  pub commands : List ℕ

-- what words ask for
pub data Request : Type 0 where
  Run : RunWords → Request
  Replay : ReplayWords → Request
  -- the drill of this number
  Drill : ℕ → Request
  Serve : ServeWords → Request
  Send : SendWords → Request
  -- help with the program, or with one command
  Help : Option Subcommand → Request
  -- the program's version
  Version : Request

-- ---- numbers

-- a number from 1 to this
abbrev pub number_within : ℕ → ℕ → Option ℕ
number_within most number = if nat_le 1 number && nat_le number most then Some number else None

-- the number from 1 to this whose shortest decimal form a text is
abbrev pub number_of : ℕ → List ℕ → Option ℕ
number_of most text = option_and_then (number_within most) (decimal_value text)

-- the number that an option's text says, or a default where the option isn't given
abbrev pub number_or : ℕ → ℕ → Option (List ℕ) → Option ℕ
number_or default most None = Some default
number_or default most (Some text) = number_of most text

-- the number of a port
abbrev pub port_of : List Part → Option ℕ
port_of parts = number_or DEFAULT_PORT MOST_PORT (value_of Port parts)

-- the number of sessions
abbrev pub sessions_of : List Part → Option ℕ
sessions_of parts = number_or DEFAULT_SESSIONS MOST_SESSIONS (value_of Sessions parts)

-- ---- commands, by their parts and their operands

-- `[--input FILE] SCRIPT...`, at least one script
abbrev pub sources_of : List Part → List (List ℕ) → Option Sources
sources_of parts [] = None
sources_of parts (script ∷ scripts) = Some record { input = value_of Input parts; scripts = script ∷ scripts }

-- the run of a program
abbrev pub run_over : List Part → Sources → Request
run_over parts sources = Run record { explain = is_given Explain parts; sources = sources }

-- `run [--input FILE] [--explain] SCRIPT...`
abbrev pub run_of : List Part → List (List ℕ) → Option Request
run_of parts scripts = option_map (run_over parts) (sources_of parts scripts)

-- the replay of a journal over a program
abbrev pub replay_over : List Part → List ℕ → Sources → Request
replay_over parts journal sources =
    Replay record {
      explain = is_given Explain parts;
      wait = is_given Wait parts;
      journal = journal;
      sources = sources;
    }

-- `replay [--wait] [--input FILE] [--explain] JOURNAL SCRIPT...`
abbrev pub replay_of : List Part → List (List ℕ) → Option Request
replay_of parts [] = None
replay_of parts (journal ∷ scripts) = option_map (replay_over parts journal) (sources_of parts scripts)

-- `drill N`
abbrev pub drill_of : List (List ℕ) → Option Request
drill_of [] = None
drill_of (number ∷ []) = option_map (λ n. Drill n) (number_of MOST_DRILLED number)
drill_of (number ∷ other ∷ words) = None

-- the serving of a program at a port to so many clients at once
abbrev pub serve_over : List Part → ℕ → ℕ → Sources → Request
serve_over parts port sessions sources =
    Serve record {
      explain = is_given Explain parts;
      port = port;
      sessions = sessions;
      wait = is_given Wait parts;
      devtools = is_given Devtools parts;
      journal = value_of Journal parts;
      sources = sources;
    }

-- the serving at a port to so many clients at once
abbrev pub serve_to : List Part → List (List ℕ) → ℕ → ℕ → Option Request
serve_to parts scripts port sessions = option_map (serve_over parts port sessions) (sources_of parts scripts)

-- the serving at a port
abbrev pub serve_at : List Part → List (List ℕ) → ℕ → Option Request
serve_at parts scripts port = option_and_then (serve_to parts scripts port) (sessions_of parts)

-- `serve [--port P] [--sessions N] [--wait] [--devtools] [--input FILE] [--journal FILE] [--explain] SCRIPT...`
abbrev pub serve_of : List Part → List (List ℕ) → Option Request
serve_of parts scripts = option_and_then (serve_at parts scripts) (port_of parts)

-- the sending of commands to a port
abbrev pub send_to : List Part → List ℕ → ℕ → Request
send_to parts commands port =
    Send record { explain = is_given Explain parts; port = port; commands = commands }

-- `send [--port P] [--explain] COMMANDS`
abbrev pub send_of : List Part → List (List ℕ) → Option Request
send_of parts [] = None
send_of parts (commands ∷ []) = option_map (send_to parts commands) (port_of parts)
send_of parts (commands ∷ other ∷ words) = None

-- a command by its parts and its operands
abbrev pub command_of : Subcommand → List Part → List (List ℕ) → Option Request
command_of command.Run parts operands = run_of parts operands
command_of command.Replay parts operands = replay_of parts operands
command_of command.Drill parts operands = drill_of operands
command_of command.Serve parts operands = serve_of parts operands
command_of command.Send parts operands = send_of parts operands

-- a command by its parts, of which no option may be there twice
abbrev pub request_of : Subcommand → List Part → Option Request
request_of c parts = if has_repeat parts then None else command_of c parts (operands_of parts)

-- ---- words

-- a word that asks for help
abbrev pub is_help : List ℕ → Bool
is_help word = bytes_eq word (codes "--help") || bytes_eq word (codes "-h")

-- the words after a command's name are one, which asks for help
abbrev pub asks_help : List (List ℕ) → Bool
asks_help [] = false
asks_help (word ∷ []) = is_help word
asks_help (word ∷ other ∷ words) = false

-- what a command's words ask for
abbrev pub command_words : Subcommand → List (List ℕ) → Option Request
command_words c words =
    if asks_help words then Some (Help (Some c)) else option_and_then (request_of c) (parts_of c words)

-- what words ask for that begin with a command's name
abbrev pub named_words : List (List ℕ) → Subcommand → Option Request
named_words words c = command_words c words

-- what is asked for, where no word is left
abbrev pub alone : Request → List (List ℕ) → Option Request
alone request [] = Some request
alone request (word ∷ words) = None

-- what words ask for, by the first of them
abbrev pub form_by : List ℕ → List (List ℕ) → Option Request
form_by word words =
    if is_help word then alone (Help None) words
    else if bytes_eq word (codes "--version") then alone Version words
    else option_and_then (named_words words) (command_named word)

-- what these words ask for: a command, help, the version, or nothing
abbrev pub form : List (List ℕ) → Option Request
form [] = None
form (word ∷ words) = form_by word words

-- what the words that the program was given ask for
abbrev pub asked : List (String Global) → Option Request
asked words = form (map string_bytes words)
