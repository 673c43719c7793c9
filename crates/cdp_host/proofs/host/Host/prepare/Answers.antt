use Rattle.std.proofs.Common.{ap, ◌∙◌}
use Rattle.cdp_host_isolation.specs.Seats.{is_attached, some}
use Rattle.cdp_host_isolation.proofs.BrokenLemmas.{broken-alone}
use Rattle.cdp_host_seats.proofs.FallbackLemmas.{wider-room}
use Rattle.cdp_host.proofs.host.Host.prepare.Goals as goal

pub invariant_of-self : goal.invariant_of-self
invariant_of-self c =
    let a = c.self.inside in
    let was = c.self.invariant in
    let now = c.prepare.ensures in
    record {
      lines = was.lines;
      spots = was.spots;
      code = was.code;
      shared = was.shared;
      handed = was.handed;
      kept = was.kept;
      quiet = was.quiet;
      room = λ works. wider-room a.seats.len a.fallback c.prepare.new.self (was.room works) now.seats now.losses;
      alone = was.alone;
      gone = ap (λ f. some is_attached f.seats) now.made ∙ broken-alone c.as_slice.result.now;
      indexed = was.indexed;
      fit = was.fit;
    }
