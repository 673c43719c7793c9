use Rattle.std.proofs.Common.{◌≡◌, ◌≤◌, ◌+◌, ℕ, List, [], Bool, length, false}
use Rattle.cdp_text.specs.Lines.{lines_of}
use Rattle.js_tree.specs.declared.script.Script.{Script}
use Rattle.cdp_host.specs.Hosts.{StandsFor}
use Rattle.debug_host_commands.proofs.PlayLemmas.{IsBehind}
use Rattle.debug_host_commands.proofs.journal.play_lines.Given as goal

-- how far the replay came, and no write failed
abbrev pub invariant-loop-line : goal.invariant-loop-line
invariant-loop-line g l = record {
  number : l.number + length l.rest ≤ length l.journal + 1;
  works : l.host.broken ≡ false;
  behind : (scripts : List Script) (input : List (List ℕ)) (wait : Bool) → StandsFor scripts input wait l.fn.host []
      → IsBehind scripts input wait (lines_of l.journal) (lines_of l.rest) l.number l.host (g.O.Sink.content l.fn.out)
      (g.O.Sink.content l.out);
  quiet : g.O.Sink.faults l.out ≡ g.O.Sink.faults l.fn.out;
}

abbrev pub decreases-loop-line : goal.decreases-loop-line
decreases-loop-line g l = length l.rest
