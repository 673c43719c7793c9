use Rattle.std.proofs.Common.{◌≡◌, length}
use Rattle.cdp_text.specs.Lines.{lines_of}
use Rattle.cdp_journal.specs.Summaries.{both, tally_of}
use Rattle.cdp_journal.proofs.summaries.summary.Given as goal

-- what the lines so far come to, and those that are left, is what all lines come to
abbrev pub invariant-loop-line : goal.invariant-loop-line
invariant-loop-line l = both l.tally (tally_of (lines_of l.rest)) ≡ tally_of (lines_of l.fn.output)

abbrev pub decreases-loop-line : goal.decreases-loop-line
decreases-loop-line l = length l.rest
