use Rattle.std.proofs.Common.{List, rules, sym, subst}
use Rattle.cdp_edge.specs.Blame.{Faults}
use Rattle.cdp_edge.specs.Outside.{Given, HandsIn, NamedFile}
use Rattle.ws_service.specs.Programs.{Output}
use Rattle.debug_host_options.specs.Held.{serve_held}
use Rattle.debug_host_commands.specs.ServeCauses.{BecauseServe, Harbored, MayServe}
use Rattle.debug_host_commands.specs.Stored.{Shelved}
use Rattle.debug_host_commands.proofs.ServeLemmas.{serves}
use Rattle.debug_host_commands.proofs.StoredLemmas.{stored-read}
use Rattle.debug_host_commands.proofs.serve.serve.Goals as goal

pub returns-in-Ok-clause-cause : goal.returns-in-Ok-clause-cause
returns-in-Ok-clause-cause g c =
    let old : Output = record { content = g.O.Sink.content c.args.out.now; faults = g.O.Sink.faults c.args.out.now } in
    let new : Output = record { content = g.O.Sink.content c.serve_program-end.new.out; faults = g.O.Sink.faults c.serve_program-end.new.out } in
    let before : Harbored = record { faults = g.P.Harbor.faults c.args.harbor.now; opens = g.P.Harbor.opens c.args.harbor.now; kept = g.P.Harbor.kept c.args.harbor.now } in
    let after : Harbored = record { faults = g.P.Harbor.faults c.serve_program-end.new.harbor; opens = g.P.Harbor.opens c.serve_program-end.new.harbor; kept = g.P.Harbor.kept c.serve_program-end.new.harbor } in
    subst
    (λ (z : Faults × List NamedFile). BecauseServe c.serve_program-end.result (serve_held c.args.request.now)
    (HandsIn (g.F.Shelf.files c.args.shelf.now) (g.F.Shelf.handed c.args.shelf.now) z.1) z.0
    (g.F.Shelf.faults c.serve_program-end.new.shelf) old new before after)
    (λ i. (c.in-Ok.ensures.quiet i, sym c.serve_program-end.ensures.handed i))
    (stored-read (serve_held c.args.request.now) (HandsIn (g.F.Shelf.files c.args.shelf.now) (g.F.Shelf.handed c.args.shelf.now) (g.F.Shelf.handed c.read_sources.new.shelf))
    (g.F.Shelf.faults c.read_sources.new.shelf) (g.F.Shelf.faults c.serve_program-end.new.shelf) old new before after
    c.in-Ok.scripts.items c.in-Ok.input.items (search rules) c.serve_program-end.result (search rules))

pub returns-in-Ok-clause-part : goal.returns-in-Ok-clause-part
returns-in-Ok-clause-part g c =
    let old : Output = record { content = g.O.Sink.content c.args.out.now; faults = g.O.Sink.faults c.args.out.now } in
    let new : Output = record { content = g.O.Sink.content c.serve_program-end.new.out; faults = g.O.Sink.faults c.serve_program-end.new.out } in
    let handed = c.serve_program-end.ensures.handed in
    let request = serve_held c.args.request.now in
    let moment = g.C.Clock.moment c.args.clock.now in
    let at : Shelved = record { files = g.F.Shelf.stored c.read_sources.new.shelf; faults = g.F.Shelf.faults c.read_sources.new.shelf } in
    let now : Shelved = record { files = g.F.Shelf.stored c.serve_program-end.new.shelf; faults = g.F.Shelf.faults c.serve_program-end.new.shelf } in
    subst
    (λ (z : List NamedFile × Shelved). Given (HandsIn (g.F.Shelf.files c.args.shelf.now) (g.F.Shelf.handed c.args.shelf.now) z.0)
    (λ files. MayServe files request moment old new (g.P.Harbor.kept c.args.harbor.now)
    (g.P.Harbor.kept c.serve_program-end.new.harbor) z.1 now c.serve_program-end.result))
    (λ i. (sym handed i, record { files = c.in-Ok.ensures.stored i; faults = c.in-Ok.ensures.quiet i }))
    (serves request (HandsIn (g.F.Shelf.files c.args.shelf.now) (g.F.Shelf.handed c.args.shelf.now) (g.F.Shelf.handed c.read_sources.new.shelf)) moment old new
    (g.P.Harbor.kept c.args.harbor.now) (g.P.Harbor.kept c.serve_program-end.new.harbor) at now c.serve_program-end.result
    c.in-Ok.scripts.items c.in-Ok.input.items (search rules) (search rules))
