use Rattle.std.proofs.Common.{refl}
use Rattle.ws_service.proofs.ProgramLemmas.{given-up}
use Rattle.ws_service.proofs.beside.fn.run_beside.beside_mut.Goals as goal

pub returns-in-Refused : goal.returns-in-Refused
returns-in-Refused g c =
    let end = c.give_up_program in
    record {
      lock = refl {a = c.captures.runner-lock.now};
      runs =
          given-up g.H.Hosted.debugs (g.C.Clock.moment c.captures.clock.now) c.captures.runner-pass end.new.p
          (record { content = g.O.Sink.content c.captures.out.now; faults = g.O.Sink.faults c.captures.out.now })
          end.result c.requires.1 end.ensures;
    }
