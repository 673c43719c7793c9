use Rattle.std.proofs.Common.{map, string_bytes, ap}
use Rattle.cdp_session_messages.proofs.OutboxSizes.{outbox-none}
use Rattle.cdp_session_messages.proofs.outbox.Outbox.new.Goals as goal

pub invariant_of-result : goal.invariant_of-result
invariant_of-result c = outbox-none _ (ap (map string_bytes) c.new.ensures.items)
