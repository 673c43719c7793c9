use Rattle.std.proofs.Common.{map, string_bytes, ap, ◌∙◌}
use Rattle.cdp_session_messages.proofs.OutboxSizes.{outbox-none}
use Rattle.cdp_session_messages.proofs.outbox.Outbox.take.Goals as goal

pub invariant_of-self : goal.invariant_of-self
invariant_of-self c =
    outbox-none _
    (ap (λ v. map string_bytes v.items) c.replace.ensures.after ∙ ap (map string_bytes) c.new.ensures.items)
