use Rattle.std.proofs.Common.{◌≡◌, ◌++◌, drop}
use Rattle.breakpoints.specs.Resolving.{resolved_by_url}
use Rattle.breakpoints.proofs.resolving.resolve_by_url.Given as goal

abbrev pub invariant-loop-index : goal.invariant-loop-index
invariant-loop-index l =
    l.places.items ++ resolved_by_url l.url l.pos (drop l.index l.scripts) ≡ resolved_by_url l.url l.pos l.scripts
