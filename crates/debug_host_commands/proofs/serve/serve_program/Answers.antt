use Rattle.std.proofs.Common.{◌≡◌, ◌⊎◌, ◌+◌, ℕ, Bool, List, length, ap, arith, subst, sym, ◌∙◌}
use Rattle.history_lock.specs.Passes.{initial_pass, initial_passes}
use Rattle.js_tree.specs.declared.script.Script.{Script}
use Rattle.cdp_edge_server.specs.Contents.{called}
use Rattle.ws_service.specs.Programs.{Output}
use Rattle.debug_host_commands.specs.ServeCauses.{BecauseStored, Harbored, ServesNothing, ServesStored}
use Rattle.debug_host_commands.specs.Stored.{Shelved}
use Rattle.debug_host_options.specs.Held.{text_held}
use Rattle.debug_host_commands.proofs.ServeLemmas.{initial-length}
use Rattle.debug_host_commands.proofs.serve.serve_program.Goals as goal

pub serve_host-requires-clause-some : goal.serve_host-requires-clause-some
serve_host-requires-clause-some g c =
    let o = c.in-Ok-open_lock.opened in
    let many = ap length c.in-Ok-open_lock.ensures.doors ∙ initial-length o.lock (c.args.sessions + 1) c.args.sessions in
    let some = c.requires.sessions.0 in omega (arith, many, some)

pub serve_host-requires-clause-pass : goal.serve_host-requires-clause-pass
serve_host-requires-clause-pass g c κs within =
    let o = c.in-Ok-open_lock.opened in
    let many = ap length c.in-Ok-open_lock.ensures.doors ∙ initial-length o.lock (c.args.sessions + 1) c.args.sessions in
    c.in-Ok-open_lock.ensures.pass ∙ ap (λ (k : ℕ). initial_pass o.lock (k + 1) k) (sym many)

pub serve_host-requires-clause-doors : goal.serve_host-requires-clause-doors
serve_host-requires-clause-doors g c κs within =
    let o = c.in-Ok-open_lock.opened in
    let many = ap length c.in-Ok-open_lock.ensures.doors ∙ initial-length o.lock (c.args.sessions + 1) c.args.sessions in
    c.in-Ok-open_lock.ensures.doors ∙ ap (λ (k : ℕ). initial_passes o.lock (k + 1) k) (sym many)

pub returns-clause-cause : goal.returns-clause-cause
returns-clause-cause g c =
    let o = c.in-Ok-open_lock.opened in
    let many = ap length c.in-Ok-open_lock.ensures.doors ∙ initial-length o.lock (c.args.sessions + 1) c.args.sessions in
    let old : Output = record { content = g.O.Sink.content c.args.out.now; faults = g.O.Sink.faults c.args.out.now } in
    let new : Output = record { content = g.O.Sink.content c.serve_host.new.out; faults = g.O.Sink.faults c.serve_host.new.out } in
    let before : Harbored = record { faults = g.P.Harbor.faults c.args.harbor.now; opens = g.P.Harbor.opens c.args.harbor.now; kept = g.P.Harbor.kept c.args.harbor.now } in
    let after : Harbored = record { faults = g.P.Harbor.faults c.serve_host.new.harbor; opens = g.P.Harbor.opens c.serve_host.new.harbor; kept = g.P.Harbor.kept c.serve_host.new.harbor } in
    subst
    (λ (z : List Script × List (List ℕ) × ℕ). BecauseStored c.serve_host.result (text_held c.args.journal) (g.F.Shelf.faults c.args.shelf.now)
    (g.F.Shelf.faults c.serve_host.new.shelf) z.0 z.1 c.args.port z.2 old new before after)
    (λ i. (c.requires.scripts i, c.requires.input i, many i)) c.serve_host.ensures.cause

pub returns-clause-part : goal.returns-clause-part
returns-clause-part g c =
    let o = c.in-Ok-open_lock.opened in
    let many = ap length c.in-Ok-open_lock.ensures.doors ∙ initial-length o.lock (c.args.sessions + 1) c.args.sessions in
    let old : Output = record { content = g.O.Sink.content c.args.out.now; faults = g.O.Sink.faults c.args.out.now } in
    let new : Output = record { content = g.O.Sink.content c.serve_host.new.out; faults = g.O.Sink.faults c.serve_host.new.out } in
    let was : Shelved = record { files = g.F.Shelf.stored c.args.shelf.now; faults = g.F.Shelf.faults c.args.shelf.now } in
    let now : Shelved = record { files = g.F.Shelf.stored c.serve_host.new.shelf; faults = g.F.Shelf.faults c.serve_host.new.shelf } in
    subst
    (λ (z : List Script × List (List ℕ) × Bool × ℕ). ServesNothing c.serve_host.result old new was now
    ⊎ ServesStored z.0 z.1 z.2 z.3 c.args.clients (text_held c.args.journal) (g.C.Clock.moment c.args.clock.now) old new
    (g.P.Harbor.kept c.args.harbor.now) (g.P.Harbor.kept c.serve_host.new.harbor) was now c.serve_host.result)
    (λ i. (c.requires.scripts i, c.requires.input i, c.requires.wait i, many i)) c.serve_host.ensures.part

pub returns-clause-once : goal.returns-clause-once
returns-clause-once g c =
    let o = c.in-Ok-open_lock.opened in
    let many = ap length c.in-Ok-open_lock.ensures.doors ∙ initial-length o.lock (c.args.sessions + 1) c.args.sessions in
    subst
    (λ (k : ℕ). (g.P.Harbor.opens c.serve_host.new.harbor ≡ g.P.Harbor.opens c.args.harbor.now)
    ⊎ (g.P.Harbor.opens c.serve_host.new.harbor ≡ called (c.args.port, k) (g.P.Harbor.opens c.args.harbor.now)))
    many c.serve_host.ensures.once
