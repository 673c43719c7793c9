use Rattle.std.proofs.Common.{◌≡◌, ◌++◌, List, ℕ, take, drop, length, None, ap, subst, sym, ◌∙◌}
use Rattle.cdp_host_isolation.specs.Meanings.{is_paused, resume}
use Rattle.cdp_host_isolation.specs.Passes.{HearsOn, OverAll}
use Rattle.cdp_host_isolation.specs.Runs.{AllFit}
use Rattle.cdp_host_isolation.specs.Standing.{less}
use Rattle.cdp_host_isolation.proofs.PassLemmas.{on-each}
use Rattle.cdp_host_isolation.proofs.PassLoops.{over-all-length}
use Rattle.cdp_host_seats.proofs.PlacedLemmas.{given-back}
use Rattle.cdp_host.specs.Hosts.{HostState, meaning_with}
use Rattle.cdp_host.specs.Indexing.{ForgetsLost}
use Rattle.cdp_host.specs.Protocols.{protocol}
use Rattle.cdp_host.proofs.CallLemmas.{sound-seats}
use Rattle.cdp_host.proofs.KeepingLemmas.{resumed-indexed}
use Rattle.cdp_host.proofs.LeaveLemmas.{resumed-is, unresumed-is}
use Rattle.cdp_host.proofs.ViewLemmas.{seen_as}
use Rattle.cdp_host.proofs.host.Host.resume.Goals as goal

pub invariant_of-self : goal.invariant_of-self
invariant_of-self c =
    let a = c.self.inside in
    let P = protocol a.scripts.now in
    let news = c.resume_all.new.seats in
    let rest = drop (length news) a.seats.items in
    let back = given-back a.seats.len news rest
    (sym c.as_mut_slice.ensures.len
    ∙ sym (over-all-length (HearsOn P) c.as_mut_slice.result.now news (c.resume_all.ensures a.scripts.now)))
    in
    let w = take a.seats.len (news ++ rest) in
    let over = subst (λ ss. OverAll (HearsOn P) a.seats.items ss) (sym back)
    (subst (λ ss. OverAll (HearsOn P) ss news) c.as_mut_slice.ensures.value (c.resume_all.ensures a.scripts.now))
    in
    sound-seats a.scripts.now a.shared a.lines.items a.spots a.machine a.broken a.seats.items
    w a.seats.len a.index c.forget_lost.new.index a.fallback a.fallen.items
    c.self.invariant (ap (λ h. h.broken) c.self.view_is ∙ c.requires)
    (subst (AllFit P) (sym back) (on-each P c.as_mut_slice.result.now news (c.resume_all.ensures a.scripts.now)).1)
    (resumed-indexed a.scripts.now a.seats.items w a.index c.forget_lost.new.index over
    (subst (λ ss. ForgetsLost ss a.index c.forget_lost.new.index) c.as_slice.ensures.value c.forget_lost.ensures)
    c.self.invariant.indexed)

pub returns-then-is_some-clause-means : goal.returns-then-is_some-clause-means
returns-then-is_some-clause-means c =
    let a = c.self.inside in
    let P = protocol a.scripts.now in
    let news = c.resume_all.new.seats in
    let rest = drop (length news) a.seats.items in
    let back = given-back a.seats.len news rest
    (sym c.as_mut_slice.ensures.len
    ∙ sym (over-all-length (HearsOn P) c.as_mut_slice.result.now news (c.resume_all.ensures a.scripts.now)))
    in
    let w = take a.seats.len (news ++ rest) in
    let h : HostState = seen_as a in
    let new : HostState = record h { meaning = record h.meaning { stop = None; seats = w } } in
    let over = subst (λ ss. OverAll (HearsOn P) a.seats.items ss) (sym back)
    (subst (λ ss. OverAll (HearsOn P) ss news) c.as_mut_slice.ensures.value (c.resume_all.ensures a.scripts.now))
    in
    let Q : HostState
    → Type 0 = λ o. (taken : List (List ℕ))
    → meaning_with new taken ≡ less w (resume (protocol o.scripts) (meaning_with o taken)) in
    subst Q c.self.view_is (λ taken. resumed-is P (meaning_with h taken) w (sym c.if-is_some.ensures) over)

pub returns-else-is_some-clause-means : goal.returns-else-is_some-clause-means
returns-else-is_some-clause-means c = λ taken.
    let now = c.args.self.now in
    unresumed-is (protocol now.scripts) (meaning_with now taken)
    (ap (λ h. is_paused h.meaning) (sym c.self.view_is) ∙ sym c.if-is_some.ensures)
