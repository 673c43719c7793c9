use Rattle.std.proofs.Common.{◌≤◌, ◌+◌, length}
use Rattle.cdp_text.specs.Lines.{lines_of}
use Rattle.cdp_client.proofs.FileLemmas.{IsReadTo}
use Rattle.cdp_client.proofs.file.read_file.Given as goal

-- the lines so far, which are no more than the bytes so far
abbrev pub invariant-loop-text : goal.invariant-loop-text
invariant-loop-text l = record {
  number : l.number + length l.rest ≤ length l.file + 1;
  id : l.id ≤ l.number;
  read : IsReadTo (lines_of l.file) (lines_of l.rest) l.number l.id l.lines.items;
}

abbrev pub decreases-loop-text : goal.decreases-loop-text
decreases-loop-text l = length l.rest
