use Rattle.std.proofs.Common.{◌≡◌, length}
use Rattle.breakpoints.specs.Hits.{hits_in}
use Rattle.breakpoints.proofs.hits.HitsIterator.next.Given as goal

abbrev pub invariant-loop-first : goal.invariant-loop-first
invariant-loop-first l = record {
  place : l.self.place ≡ l.initial.self.place;
  left : hits_in l.self.place l.self.left.now ≡ hits_in l.initial.self.place l.initial.self.left.now;
}

abbrev pub decreases-loop-first : goal.decreases-loop-first
decreases-loop-first l = length l.self.left.now
