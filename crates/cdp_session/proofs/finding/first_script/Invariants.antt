use Rattle.std.proofs.Common.{◌≡◌, drop}
use Rattle.cdp_session.specs.Situations.{script_of}
use Rattle.cdp_session.proofs.finding.first_script.Given as goal

abbrev pub invariant-loop-index : goal.invariant-loop-index
invariant-loop-index g l = script_of l.id (drop l.index l.scripts) ≡ script_of l.id l.scripts
