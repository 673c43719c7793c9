use Rattle.std.proofs.Common.{◌≡◌, false, ap, subst, sym, ◌∙◌, arith}
use Rattle.std.specs.Vec.{with_items}
use Rattle.std.proofs.lemmas.List.{with_items_is}
use Rattle.cdp_host_isolation.specs.Runs.{AllFit}
use Rattle.cdp_host_isolation.specs.Seats.{each, reported, some, waits_for_report}
use Rattle.cdp_host_isolation.specs.Standing.{fallen_in}
use Rattle.cdp_host_seats.specs.Losses.{losses_from}
use Rattle.cdp_host.specs.Protocols.{protocol}
use Rattle.cdp_host.proofs.IndexLemmas.{reported-indexed}
use Rattle.cdp_host.proofs.RunLemmas.{reported-fit, reported-none, settled-as}
use Rattle.cdp_host.proofs.host.Host.report.Goals as goal

pub invariant_of-self : goal.invariant_of-self
invariant_of-self c =
    let a = c.self.inside in
    let seats : (with_items a.seats c.report_all.new.seats).items ≡ each reported a.seats.items =
    with_items_is a.seats c.report_all.new.seats (omega (arith, c.report_all.auto.seats, c.as_mut_slice.ensures.len))
    ∙ c.report_all.ensures ∙ ap (λ ss. each reported ss) c.as_mut_slice.ensures.value in
    let works : a.broken ≡ false = ap (λ h. h.broken) c.self.view_is ∙ c.requires in
    record {
      lines = c.self.invariant.lines;
      spots = c.self.invariant.spots;
      code = c.self.invariant.code;
      shared = c.self.invariant.shared;
      handed = c.self.invariant.handed;
      kept = c.self.invariant.kept;
      quiet = c.self.invariant.quiet;
      room = c.self.invariant.room;
      alone = λ fails. absurd cc;
      gone = c.self.invariant.gone;
      indexed =
          reported-indexed a.seats.items (with_items a.seats c.report_all.new.seats).items a.index seats
          c.self.invariant.indexed;
      fit =
          subst (λ ss. AllFit (protocol a.scripts.now) ss) (sym seats)
          (reported-fit (protocol a.scripts.now) a.seats.items c.self.invariant.fit);
    }

pub settle-requires : goal.settle-requires
settle-requires c = ap (λ h. h.broken) c.self.view_is ∙ c.requires

pub returns-in-Ok-clause-lost : goal.returns-in-Ok-clause-lost
returns-in-Ok-clause-lost c =
    c.in-Ok.ensures.losses
    ∙ ap (λ ss. losses_from 1 ss) c.as_slice.ensures.value
    ∙ ap (λ h. losses_from 1 h.meaning.seats) c.self.view_is

pub returns-in-Ok-clause-means : goal.returns-in-Ok-clause-means
returns-in-Ok-clause-means c = λ taken.
    let a = c.self.inside in
    let seats : (with_items a.seats c.report_all.new.seats).items ≡ each reported a.seats.items =
    with_items_is a.seats c.report_all.new.seats (omega (arith, c.report_all.auto.seats, c.as_mut_slice.ensures.len))
    ∙ c.report_all.ensures ∙ ap (λ ss. each reported ss) c.as_mut_slice.ensures.value in
    settled-as _ c.args.self.now c.settle.new.self (with_items a.seats c.report_all.new.seats).items taken
    c.self.view_is seats (c.settle.ensures.means taken)

pub returns-in-Ok-clause-all_there : goal.returns-in-Ok-clause-all_there
returns-in-Ok-clause-all_there c = λ paused.
    let a = c.self.inside in
    let seats : (with_items a.seats c.report_all.new.seats).items ≡ each reported a.seats.items =
    with_items_is a.seats c.report_all.new.seats (omega (arith, c.report_all.auto.seats, c.as_mut_slice.ensures.len))
    ∙ c.report_all.ensures ∙ ap (λ ss. each reported ss) c.as_mut_slice.ensures.value in
    ap (λ h. fallen_in h.meaning.seats) (c.settle.ensures.stays paused)
    ∙ ap (λ ss. fallen_in ss) seats
    ∙ reported-none a.seats.items

-- ---- what is handed out

pub returns-in-Ok-clause-fallen : goal.returns-in-Ok-clause-fallen
returns-in-Ok-clause-fallen c = c.settle.ensures.fallen ∙ ap (λ h. h.fallen) c.self.view_is

pub returns-in-Ok-clause-handed : goal.returns-in-Ok-clause-handed
returns-in-Ok-clause-handed c =
    ap (λ p. p.machine.context.printed) c.settle.ensures.program
    ∙ c.self.invariant.handed (ap (λ h. h.broken) c.self.view_is ∙ c.requires)

-- ---- where there is no memory

pub returns-in-Err-clause-waits : goal.returns-in-Err-clause-waits
returns-in-Err-clause-waits c =
    sym (ap (λ ss. some waits_for_report ss) c.as_slice.ensures.value
    ∙ ap (λ h. some waits_for_report h.meaning.seats) c.self.view_is) ∙ c.in-Err.ensures.err
