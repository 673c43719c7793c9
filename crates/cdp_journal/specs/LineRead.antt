-- A journal's line as the code holds it.
use Rattle.std.specs.Prelude.{string_bytes}
use Rattle.cdp_journal.specs.declared.line.Line.{Line as Held}
use Rattle.cdp_journal.specs.declared.line.Line.TheVariants as held
use Rattle.cdp_journal.specs.Lines.{Line, Attach, Tell, Take, Detach, Run, Shut}

-- the line that is held
abbrev pub line_held : Held → Line
line_held held.Attach = Attach
line_held (held.Tell s text) = Tell s (string_bytes text)
line_held (held.Take s) = Take s
line_held (held.Detach s) = Detach s
line_held (held.Run most moment) = Run most moment
line_held held.Shut = Shut
