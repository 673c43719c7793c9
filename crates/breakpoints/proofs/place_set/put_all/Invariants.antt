use Rattle.std.proofs.Common.{◌+◌, ◌≤◌, length, take, vec_len, vec_capacity}
use Rattle.breakpoints.specs.PlaceOrder.{AreAscending}
use Rattle.breakpoints.specs.PlaceSet.{HasBoth}
use Rattle.breakpoints.proofs.place_set.put_all.Given as goal

abbrev pub invariant-loop-place : goal.invariant-loop-place
invariant-loop-place l = record {
  ascending : AreAscending l.places.items;
  room : vec_len l.places + length l.more ≤ vec_capacity l.places + l.place-index;
  added : HasBoth (take l.place-index l.more) l.initial.places.items l.places.items;
}
