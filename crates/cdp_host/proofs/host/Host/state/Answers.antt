use Rattle.std.proofs.Common.{sym, ap, ◌∙◌}
use Rattle.cdp_host_isolation.specs.Meanings.{waits}
use Rattle.cdp_host.proofs.StateLemmas.{state-broken, state-shut, state-threw, state-ended, state-paused, state-ready, state-waiting}
use Rattle.cdp_host.proofs.host.Host.state.Goals as goal

pub returns-then-self : goal.returns-then-self
returns-then-self c =
    λ taken. state-broken c.args.self.now taken (sym (ap (λ h. h.broken) c.self.view_is) ∙ c.if-self.true)

pub returns-then-self-2 : goal.returns-then-self-2
returns-then-self-2 c = λ taken.
    let works = sym (ap (λ h. h.broken) c.self.view_is) ∙ c.if-self.false in
    state-shut c.args.self.now taken works (sym (ap (λ h. h.meaning.shut) c.self.view_is) ∙ c.if-self-2.true)

pub returns-then-has_thrown : goal.returns-then-has_thrown
returns-then-has_thrown c = λ taken.
    let works = sym (ap (λ h. h.broken) c.self.view_is) ∙ c.if-self.false in
    let unshut = sym (ap (λ h. h.meaning.shut) c.self.view_is) ∙ c.if-self-2.false in
    state-threw c.args.self.now taken works unshut (c.if-has_thrown.ensures works taken)

pub returns-then-is_over : goal.returns-then-is_over
returns-then-is_over c = λ taken.
    let works = sym (ap (λ h. h.broken) c.self.view_is) ∙ c.if-self.false in
    let unshut = sym (ap (λ h. h.meaning.shut) c.self.view_is) ∙ c.if-self-2.false in
    state-ended c.args.self.now taken works unshut (c.if-has_thrown.ensures works taken)
    (c.if-is_over.ensures works taken)

pub returns-then-is_paused : goal.returns-then-is_paused
returns-then-is_paused c = λ taken.
    let works = sym (ap (λ h. h.broken) c.self.view_is) ∙ c.if-self.false in
    let unshut = sym (ap (λ h. h.meaning.shut) c.self.view_is) ∙ c.if-self-2.false in
    state-paused c.args.self.now taken works unshut (c.if-has_thrown.ensures works taken)
    (c.if-is_over.ensures works taken)
    (sym c.if-is_paused.ensures)

pub returns-then-waits : goal.returns-then-waits
returns-then-waits c = λ taken.
    let works = sym (ap (λ h. h.broken) c.self.view_is) ∙ c.if-self.false in
    let unshut = sym (ap (λ h. h.meaning.shut) c.self.view_is) ∙ c.if-self-2.false in
    state-waiting c.args.self.now taken works unshut (c.if-has_thrown.ensures works taken)
    (c.if-is_over.ensures works taken)
    (sym c.if-is_paused.ensures) (ap (λ h. waits h.meaning.phase) (sym c.self.view_is) ∙ sym c.if-waits.ensures)

pub returns-else-waits : goal.returns-else-waits
returns-else-waits c = λ taken.
    let works = sym (ap (λ h. h.broken) c.self.view_is) ∙ c.if-self.false in
    let unshut = sym (ap (λ h. h.meaning.shut) c.self.view_is) ∙ c.if-self-2.false in
    state-ready c.args.self.now taken works unshut (c.if-has_thrown.ensures works taken)
    (c.if-is_over.ensures works taken)
    (sym c.if-is_paused.ensures) (ap (λ h. waits h.meaning.phase) (sym c.self.view_is) ∙ sym c.if-waits.ensures)
