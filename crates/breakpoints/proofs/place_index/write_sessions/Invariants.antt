use Rattle.std.proofs.Common.{◌≡◌, ◌≤◌, ◌++◌, drop, length, map, vec_len, vec_capacity}
use Rattle.breakpoints.specs.PlaceIndex.{session_of}
use Rattle.breakpoints.proofs.place_index.write_sessions.Given as goal

abbrev pub invariant-loop-pair : goal.invariant-loop-pair
invariant-loop-pair l = record {
  room : length l.pairs ≤ vec_capacity l.sessions;
  len : vec_len l.sessions ≡ l.pair-index;
  written : l.sessions.items ++ map session_of (drop l.pair-index l.pairs) ≡ map session_of l.pairs;
}
