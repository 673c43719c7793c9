use Rattle.std.proofs.Common.{◌≡◌, map, take, All}
use Rattle.frames_scopes.specs.Places.{starts_of}
use Rattle.cdp_host.specs.Arrivals.{IsShort}
use Rattle.cdp_host.proofs.lines.lines_of_all.Given as goal

abbrev pub invariant-loop-script : goal.invariant-loop-script
invariant-loop-script l = record {
  starts : l.lines.items ≡ map starts_of (take l.script-index l.scripts);
  short : All IsShort (take l.script-index l.scripts);
}
