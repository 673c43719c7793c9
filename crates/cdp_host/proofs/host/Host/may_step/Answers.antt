use Rattle.std.proofs.Common.{not, ◌&&◌, ◌∙◌}
use Rattle.std.proofs.lemmas.Bool.{le-ltb}
use Rattle.cdp_host_isolation.specs.Meanings.{is_ready}
use Rattle.cdp_host.specs.Protocols.{protocol}
use Rattle.cdp_host.specs.Hosts.{meaning_with}
use Rattle.cdp_host.proofs.StateLemmas.{spent-none, some-left}
use Rattle.cdp_host.proofs.host.Host.may_step.Goals as goal

pub returns-then-left-gt0 : goal.returns-then-left-gt0
returns-then-left-gt0 c = λ taken.
    some-left c.args.left _
    (not c.args.self.now.broken && is_ready (protocol c.args.self.now.scripts) (meaning_with c.args.self.now taken))
    c.if-left-gt0.true (c.is_ready.ensures taken)

pub returns-else-left-gt0 : goal.returns-else-left-gt0
returns-else-left-gt0 c = λ taken.
    le-ltb 0 c.args.left c.if-left-gt0.false
    ∙ spent-none c.args.left
    (not c.args.self.now.broken && is_ready (protocol c.args.self.now.scripts) (meaning_with c.args.self.now taken))
    c.if-left-gt0.false
