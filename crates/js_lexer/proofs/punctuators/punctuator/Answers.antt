use Rattle.js_lexer.specs.Punctuators.{punctuators}
use Rattle.js_lexer.proofs.punctuators.punctuator.Goals as goal

pub returns-clause-longest : goal.returns-clause-longest
unfolding punctuators
returns-clause-longest c = c.first_in.ensures.entry
