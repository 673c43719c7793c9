use Rattle.std.proofs.Common.{◌+◌, ◌≤◌, length, take, vec_len, vec_capacity}
use Rattle.breakpoints.specs.PlaceIndex.{AreInOrder, HasAlso}
use Rattle.breakpoints.proofs.place_index.put_all.Given as goal

abbrev pub invariant-loop-place : goal.invariant-loop-place
invariant-loop-place l = record {
  ordered : AreInOrder l.pairs.items;
  room : vec_len l.pairs + length l.places ≤ vec_capacity l.pairs + l.place-index;
  len : vec_len l.pairs ≤ vec_len l.initial.pairs + l.place-index;
  added : HasAlso l.session (take l.place-index l.places) l.initial.pairs.items l.pairs.items;
}
