-- The texts of help.
use Rattle.std.specs.Prelude.{ℕ, List, Option, Some, None}
use Rattle.debug_host_options.specs.declared.command.Subcommand.{Subcommand}
use Rattle.debug_host_options.specs.declared.command.Subcommand.TheVariants.{Run, Replay, Drill, Serve, Send}
use Rattle.debug_host_options.specs.declared.help.TheConstants.{PROGRAM_HELP, RUN_HELP, REPLAY_HELP, DRILL_HELP, SERVE_HELP, SEND_HELP}

-- the text of help with the program, or with one command
abbrev pub help_text : Option Subcommand → List ℕ
help_text None = PROGRAM_HELP.now
help_text (Some Run) = RUN_HELP.now
help_text (Some Replay) = REPLAY_HELP.now
help_text (Some Drill) = DRILL_HELP.now
help_text (Some Serve) = SERVE_HELP.now
help_text (Some Send) = SEND_HELP.now
