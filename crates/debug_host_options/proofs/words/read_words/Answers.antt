use Rattle.std.proofs.Common.{map, string_bytes}
use Rattle.std.proofs.lemmas.Result.{IfOk-weaker}
use Rattle.debug_host_options.proofs.AskLemmas.{held-asks, held-one}
use Rattle.debug_host_options.proofs.words.read_words.Goals as goal

pub returns-clause-is : goal.returns-clause-is
returns-clause-is c =
    IfOk-weaker c.read_form.result _ _ (λ read is. held-asks (map string_bytes c.args.words.now) read is)
    c.read_form.ensures

pub returns-clause-one : goal.returns-clause-one
returns-clause-one c =
    IfOk-weaker c.read_form.result _ _ (λ read is. held-one (map string_bytes c.args.words.now) read is)
    c.read_form.ensures
