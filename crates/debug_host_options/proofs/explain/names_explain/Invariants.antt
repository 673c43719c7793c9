use Rattle.std.proofs.Common.{◌≡◌, length, map, string_bytes}
use Rattle.debug_host_options.specs.Explains.{names_explain}
use Rattle.debug_host_options.proofs.explain.names_explain.Given as goal

-- the words that are left decide
abbrev pub invariant-loop-rest : goal.invariant-loop-rest
invariant-loop-rest l = names_explain (map string_bytes l.rest) ≡ names_explain (map string_bytes l.words)

abbrev pub decreases-loop-rest : goal.decreases-loop-rest
decreases-loop-rest l = length l.rest
