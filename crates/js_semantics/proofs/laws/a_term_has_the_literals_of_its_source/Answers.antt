use Rattle.js_semantics.proofs.LiteralLaws.{literals-same, literals-agree, literals-named}
use Rattle.js_semantics.proofs.laws.a_term_has_the_literals_of_its_source.Goals as goal

pub returns-clause-same : goal.returns-clause-same
returns-clause-same c = literals-same

pub returns-clause-outcome : goal.returns-clause-outcome
returns-clause-outcome c = literals-agree

pub returns-clause-named : goal.returns-clause-named
returns-clause-named c = literals-named
