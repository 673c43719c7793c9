use Rattle.std.proofs.Common.{ap, sym, ◌∙◌}
use Rattle.cdp_host_isolation.specs.Meanings.{is_enabled_seat, is_paused}
use Rattle.cdp_host_isolation.specs.Seats.{some}
use Rattle.cdp_host.specs.Hosts.{meaning_with}
use Rattle.cdp_host.specs.Protocols.{protocol}
use Rattle.cdp_host.proofs.LeaveLemmas.{settled-is, unsettled-is}
use Rattle.cdp_host.proofs.RefusalLemmas.{unpaused}
use Rattle.cdp_host.proofs.host.Host.settle.Goals as goal

pub returns-then-not-some_enabled-clause-means : goal.returns-then-not-some_enabled-clause-means
returns-then-not-some_enabled-clause-means c = λ taken.
    let now = c.args.self.now in
    let P = protocol now.scripts in
    unsettled-is P (meaning_with now taken) (meaning_with c.resume.new.self taken) c.resume.new.self.meaning.seats
    (ap (some (is_enabled_seat P)) (sym (c.as_slice.ensures.value ∙ ap (λ h. h.meaning.seats) c.self.view_is))
    ∙ sym (c.if-not-some_enabled.ensures now.scripts))
    (c.resume.ensures.means taken)

pub returns-else-not-some_enabled-clause-means : goal.returns-else-not-some_enabled-clause-means
returns-else-not-some_enabled-clause-means c = λ taken.
    let now = c.args.self.now in
    let P = protocol now.scripts in
    settled-is P (meaning_with now taken)
    (ap (some (is_enabled_seat P)) (sym (c.as_slice.ensures.value ∙ ap (λ h. h.meaning.seats) c.self.view_is))
    ∙ sym (c.if-not-some_enabled.ensures now.scripts))

pub returns-then-not-some_enabled-clause-quiet : goal.returns-then-not-some_enabled-clause-quiet
returns-then-not-some_enabled-clause-quiet c = λ allows.
    let now = c.args.self.now in
    let P = protocol now.scripts in
    c.resume.ensures.free
    (unpaused (is_paused now.meaning) (some (is_enabled_seat P) now.meaning.seats) allows
    (ap (some (is_enabled_seat P)) (sym (c.as_slice.ensures.value ∙ ap (λ h. h.meaning.seats) c.self.view_is))
    ∙ sym (c.if-not-some_enabled.ensures now.scripts)))
