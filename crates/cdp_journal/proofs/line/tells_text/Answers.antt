use Rattle.cdp_journal.proofs.LineLemmas.{told-is}
use Rattle.cdp_journal.proofs.line.tells_text.Goals as goal

pub returns : goal.returns
returns c = told-is c.args.text.now c.utf8.text
