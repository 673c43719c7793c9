use Rattle.std.proofs.Common.{refl, sym, false}
use Rattle.cdp_host_isolation.proofs.SomeLemmas.{set-found, unset-done, unset-more}
use Rattle.cdp_host.proofs.watching.is_any_set.Goals as goal

pub loop-flag-init : goal.loop-flag-init
loop-flag-init c = refl

pub returns-then-flag : goal.returns-then-flag
returns-then-flag c = sym (set-found c.loop-flag.flag-index c.args.flags.now false c.loop-flag-test.true c.if-flag.true)

pub loop-flag-preserved : goal.loop-flag-preserved
loop-flag-preserved c =
    unset-more c.loop-flag.flag-index c.args.flags.now false c.loop-flag-test.true c.loop-flag.invariant c.if-flag.false

pub returns : goal.returns
returns c = sym (unset-done c.loop-flag.flag-index c.args.flags.now c.loop-flag-test.false c.loop-flag.invariant)
