use Rattle.pure_eval.proofs.ForgetLemmas.{evaluation-forgotten}
use Rattle.pure_eval.proofs.laws.what_an_evaluation_made_is_cut_again.Goals as goal

pub returns : goal.returns
returns c = evaluation-forgotten
