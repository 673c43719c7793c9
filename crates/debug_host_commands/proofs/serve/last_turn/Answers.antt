use Rattle.std.proofs.Common.{sym, subst}
use Rattle.cdp_host.specs.Debugged.{debugging}
use Rattle.debug_host_options.specs.Held.{text_held}
use Rattle.debug_host_commands.specs.Stored.{HasStored, Shelved}
use Rattle.debug_host_commands.proofs.StoredLemmas.{spent-stored}
use Rattle.debug_host_commands.proofs.serve.last_turn.Goals as goal

pub returns-in-Err-clause-shows : goal.returns-in-Err-clause-shows
returns-in-Err-clause-shows g c = c.in-Err.ensures.spent

pub returns-in-Err-clause-stores : goal.returns-in-Err-clause-stores
returns-in-Err-clause-stores g c =
    let b = g.B.Beginning in
    let d = debugging b.scripts b.input b.wait in
    let journal = text_held c.args.journal in
    let shelf = c.args.shelf.now in
    let was : Shelved = record { files = g.F.Shelf.stored shelf; faults = g.F.Shelf.faults shelf } in
    subst
    (λ x. HasStored c.spent_if.result d c.args.p.now.seen journal was
    (record { files = g.F.Shelf.stored x; faults = g.F.Shelf.faults x }))
    (sym c.in-Err.ensures.untouched)
    (subst (λ storing. HasStored storing d c.args.p.now.seen journal was was) (sym c.spent_if.ensures)
    (spent-stored d c.args.p.now.seen journal was c.in-Err.ensures.spent))
