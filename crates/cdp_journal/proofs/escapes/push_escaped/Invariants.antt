use Rattle.std.proofs.Common.{◌≡◌, ◌++◌, length, string_bytes}
use denote.Text.{Utf8}
use denote.Shadow.{shadow}
use Rattle.cdp_journal.specs.Escapes.{escaped}
use Rattle.cdp_journal.proofs.escapes.push_escaped.Given as goal

-- what is left to be put behind the line
abbrev pub invariant-loop-plain : goal.invariant-loop-plain
invariant-loop-plain l = record {
  utf8 : shadow (Utf8 l.rest);
  to : string_bytes l.line ++ escaped l.rest ≡ string_bytes l.fn.line ++ escaped l.fn.text;
}

abbrev pub decreases-loop-plain : goal.decreases-loop-plain
decreases-loop-plain l = length l.rest
