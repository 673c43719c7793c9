-- The commands, and which options each has.
use Rattle.std.specs.Prelude.{ℕ, List, Bool, true, false, bytes_eq, codes, Option, Some, None, if◌then◌else◌}
use Rattle.debug_host_options.specs.declared.command.Subcommand.{Subcommand}
use Rattle.debug_host_options.specs.declared.command.Subcommand.TheVariants.{Run, Replay, Drill, Serve, Send}
use Rattle.debug_host_options.specs.declared.command.OptionName.{OptionName}
use Rattle.debug_host_options.specs.declared.command.OptionName.TheVariants.{Port, Sessions, Input, Journal, Wait, Devtools, Explain}

-- the command of this name
abbrev pub command_named : List ℕ → Option Subcommand
command_named word =
    if bytes_eq word (codes "run") then Some Run
    else if bytes_eq word (codes "replay") then Some Replay
    else if bytes_eq word (codes "drill") then Some Drill
    else if bytes_eq word (codes "serve") then Some Serve
    else if bytes_eq word (codes "send") then Some Send else None

-- the option of this name
abbrev pub option_named : List ℕ → Option OptionName
option_named name =
    if bytes_eq name (codes "port") then Some Port
    else if bytes_eq name (codes "sessions") then Some Sessions
    else if bytes_eq name (codes "input") then Some Input
    else if bytes_eq name (codes "journal") then Some Journal
    else if bytes_eq name (codes "wait") then Some Wait
    else if bytes_eq name (codes "devtools") then Some Devtools
    else if bytes_eq name (codes "explain") then Some Explain else None

-- whether a command has an option
abbrev pub has_option : Subcommand → OptionName → Bool
has_option Run Input = true
has_option Run Explain = true
has_option Replay Wait = true
has_option Replay Input = true
has_option Replay Explain = true
has_option Serve option = true
has_option Send Port = true
has_option Send Explain = true
has_option command option = false

-- whether an option has a value
abbrev pub has_value : OptionName → Bool
has_value Wait = false
has_value Devtools = false
has_value Explain = false
has_value option = true

-- whether two names of options are the same
abbrev pub same_option : OptionName → OptionName → Bool
same_option Port Port = true
same_option Sessions Sessions = true
same_option Input Input = true
same_option Journal Journal = true
same_option Wait Wait = true
same_option Devtools Devtools = true
same_option Explain Explain = true
same_option option other = false
