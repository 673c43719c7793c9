-- Parts and requests, as the code holds them.
use Rattle.std.specs.Prelude.{ℕ, ◌≤◌, List, length, Option, Some, None, map, string_bytes}
use Rattle.std.specs.Option.{option_map}
use Rattle.std.specs.Borrow.{Bor}
use Rattle.debug_host_options.specs.declared.command.Subcommand.{Subcommand}
use Rattle.debug_host_options.specs.declared.part.Part.{Part as HeldPart}
use Rattle.debug_host_options.specs.declared.part.Part.TheVariants as part
use Rattle.debug_host_options.specs.declared.part.Word.{Word}
use Rattle.debug_host_options.specs.declared.part.Word.TheVariants as word
use Rattle.debug_host_options.specs.declared.part.First.{First}
use Rattle.debug_host_options.specs.declared.part.First.TheVariants as first
use Rattle.debug_host_options.specs.declared.request.Sources.{Sources as HeldSources}
use Rattle.debug_host_options.specs.declared.request.RunWords.{RunWords as HeldRun}
use Rattle.debug_host_options.specs.declared.request.ReplayWords.{ReplayWords as HeldReplay}
use Rattle.debug_host_options.specs.declared.request.ServeWords.{ServeWords as HeldServe}
use Rattle.debug_host_options.specs.declared.request.SendWords.{SendWords as HeldSend}
use Rattle.debug_host_options.specs.declared.request.Request.{Request as HeldRequest}
use Rattle.debug_host_options.specs.declared.request.Request.TheVariants as request
use Rattle.debug_host_options.specs.declared.session_count.SessionCount.{SessionCount}
use Rattle.debug_host_options.specs.Parts.{Part, Operand, Valued, Flag, WordKind, End, Whole, Awaiting, Unknown, begun, operands_alone, parts_of}
use Rattle.debug_host_options.specs.Requests.{Sources, RunWords, ReplayWords, ServeWords, SendWords, Request, Run, Replay, Drill, Serve, Send, Help, Version}

-- a text that may be there
abbrev pub text_held : Option (Bor (List ℕ)) → Option (List ℕ)
text_held text = option_map (λ t. t.now) text

-- texts one after another
abbrev pub texts_held : List (Bor (List ℕ)) → List (List ℕ)
texts_held texts = map (λ t. t.now) texts

-- a part
abbrev pub part_held : HeldPart → Part
part_held (part.Operand text) = Operand text.now
part_held (part.Valued option value) = Valued option value.now
part_held (part.Flag option) = Flag option

-- parts one after another
abbrev pub parts_held : List HeldPart → List Part
parts_held parts = map part_held parts

-- what a word is
abbrev pub word_held : Word → WordKind
word_held word.End = End
word_held (word.Whole whole) = Whole (part_held whole)
word_held (word.Awaiting option) = Awaiting option
word_held word.Unknown = Unknown

-- the parts of which these are the first ones, by the words after them
abbrev pub first_held : Subcommand → First → Option (List Part)
first_held command (first.One one rest) = begun (part_held one) (parts_of command (map string_bytes rest.now))
first_held command (first.Operands words) = Some (operands_alone (map string_bytes words.now))
first_held command first.Unknown = None

-- the words after the first part are no more than so many
abbrev pub IsWithin : ℕ → First → Type 0
IsWithin most (first.One one rest) = length rest.now ≤ most
IsWithin most (first.Operands words) = Unit {0}
IsWithin most first.Unknown = Unit {0}

-- scripts and input
abbrev pub sources_held : HeldSources → Sources
sources_held sources = record { input = text_held sources.input; scripts = texts_held sources.scripts.items }

-- a run
abbrev pub run_held : HeldRun → RunWords
run_held words = record { explain = words.explain; sources = sources_held words.sources }

-- a replay
abbrev pub replay_held : HeldReplay → ReplayWords
replay_held words =
    record {
      explain = words.explain;
      wait = words.wait;
      journal = words.journal.now;
      sources = sources_held words.sources;
    }

-- a number of clients
abbrev pub count_held : SessionCount → ℕ
count_held sessions = sessions.count

-- a server
abbrev pub serve_held : HeldServe → ServeWords
serve_held words =
    record {
      explain = words.explain;
      port = words.port;
      sessions = count_held words.sessions;
      wait = words.wait;
      devtools = words.devtools;
      journal = text_held words.journal;
      sources = sources_held words.sources;
    }

-- a client
abbrev pub send_held : HeldSend → SendWords
send_held words = record { explain = words.explain; port = words.port; commands = words.commands.now }

-- what is asked for
abbrev pub request_held : HeldRequest → Request
request_held (request.Run words) = Run (run_held words)
request_held (request.Replay words) = Replay (replay_held words)
request_held (request.Drill number) = Drill number
request_held (request.Serve words) = Serve (serve_held words)
request_held (request.Send words) = Send (send_held words)
request_held (request.Help topic) = Help topic
request_held request.Version = Version
