use Rattle.cdp_journal.proofs.BytePartLemmas.{behind-prefix}
use Rattle.cdp_journal.proofs.parts.behind.Goals as goal

pub returns : goal.returns
returns c = behind-prefix c.args.front.now c.args.bytes.now c.strip_prefix.result c.strip_prefix.ensures.cases
