use Rattle.std.proofs.Common.{◌∷◌, ◌++◌, [], sym, subst}
use Rattle.cdp_host_isolation.specs.Histories.{Entry}
use Rattle.cdp_host_isolation.specs.Makers.{entries_of}
use Rattle.cdp_host_record.specs.Recordings.{RecordsIf}
use Rattle.cdp_host.specs.Debugged.{StandsOwned, debugging}
use Rattle.cdp_host.specs.Hosts.{StandsFor}
use Rattle.debug_host_options.specs.Held.{text_held}
use Rattle.debug_host_commands.specs.Stored.{HasStored, Shelved}
use Rattle.debug_host_commands.proofs.ServeLemmas.{finds-all, shown-so}
use Rattle.debug_host_commands.proofs.serve.take_last_turn.Goals as goal

pub leave-requires-clause-stands : goal.leave-requires-clause-stands
leave-requires-clause-stands g c =
    let b = g.B.Beginning in
    let d = debugging b.scripts b.input b.wait in
    let m = c.enter.new.p in
    let recorded = c.state-recorded.result.now in
    let stood = subst (λ x. StandsOwned b.scripts b.input b.wait x.host m.seen × RecordsIf d m.seen x.journal)
    (sym c.state-recorded.ensures.state) c.in_ok-turn.ensures.state in
    subst
    (λ (e : Entry). StandsOwned b.scripts b.input b.wait recorded.host (m.seen ++ (m.number, e) ∷ [])
    × RecordsIf d (m.seen ++ (m.number, e) ∷ []) recorded.journal)
    (sym c.take.ensures) (c.state.ensures.idle m.number m.seen stood)

pub returns-clause-shows : goal.returns-clause-shows
returns-clause-shows g c =
    let b = g.B.Beginning in
    let p = c.args.p.now in
    let m = c.enter.new.p in
    let host = c.host.result.now in
    let stood = subst (λ x. StandsOwned b.scripts b.input b.wait x.host m.seen) (sym c.state-recorded.ensures.state)
    c.in_ok-turn.ensures.state.0 in
    let stands = subst (λ x. StandsOwned b.scripts b.input b.wait x m.seen) (sym c.host.ensures) stood in
    let same = finds-all p m c.requires.all c.in_ok-turn.ensures.seen c.enter.ensures.same c.in_ok-turn.ensures.only in
    rw c.thrown_end.ensures
    (shown-so b.scripts b.input b.wait host (entries_of p.seen) c.uncaught_text-text.result
    (subst (λ l. StandsFor b.scripts b.input b.wait host (entries_of l)) same stands.stands)
    c.uncaught_text-text.ensures.works c.uncaught_text-text.ensures.text p.seen)

pub returns-clause-stores : goal.returns-clause-stores
returns-clause-stores g c =
    let b = g.B.Beginning in
    let d = debugging b.scripts b.input b.wait in
    let p = c.args.p.now in
    let m = c.enter.new.p in
    let records = subst (λ x. RecordsIf d m.seen x.journal) (sym c.state-recorded.ensures.state)
    c.in_ok-turn.ensures.state.1 in
    let same = finds-all p m c.requires.all c.in_ok-turn.ensures.seen c.enter.ensures.same c.in_ok-turn.ensures.only in
    let shelf = c.args.shelf.now in
    let later = c.store_journal-storing.new.shelf in
    let was : Shelved = record { files = g.F.Shelf.stored shelf; faults = g.F.Shelf.faults shelf } in
    let now : Shelved = record { files = g.F.Shelf.stored later; faults = g.F.Shelf.faults later } in
    subst (λ l. HasStored c.store_journal-storing.result d l (text_held c.args.journal) was now)
    same (c.store_journal-storing.ensures.stores m.seen records)
