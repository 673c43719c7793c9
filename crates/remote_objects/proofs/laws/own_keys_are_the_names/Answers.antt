use Rattle.remote_objects.proofs.DescribedLemmas.{names-keys}
use Rattle.remote_objects.proofs.laws.own_keys_are_the_names.Goals as goal

pub returns : goal.returns
returns c = names-keys
