use Rattle.cdp_text.proofs.LinesLemmas.{lines_of-are}
use Rattle.cdp_text.proofs.lines.cut_line.Goals as goal

pub returns-in-Some-clause-are : goal.returns-in-Some-clause-are
returns-in-Some-clause-are c = lines_of-are c.args.text.now

pub returns-in-None-clause-are : goal.returns-in-None-clause-are
returns-in-None-clause-are c = lines_of-are c.args.text.now
