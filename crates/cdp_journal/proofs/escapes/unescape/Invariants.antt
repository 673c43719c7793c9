use Rattle.std.proofs.Common.{length, string_bytes}
use denote.Text.{Utf8}
use denote.Shadow.{shadow}
use Rattle.cdp_journal.proofs.UnescapeLemmas.{IsReadTo}
use Rattle.cdp_journal.proofs.escapes.unescape.Given as goal

-- what was read so far
abbrev pub invariant-loop-plain : goal.invariant-loop-plain
invariant-loop-plain l = record {
  utf8 : shadow (Utf8 l.rest);
  to : IsReadTo l.fn.written (string_bytes l.text) l.rest;
}

abbrev pub decreases-loop-plain : goal.decreases-loop-plain
decreases-loop-plain l = length l.rest
