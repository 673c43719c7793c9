use Rattle.remote_objects.proofs.DescribedLemmas.{describes-each}
use Rattle.remote_objects.proofs.laws.each_property_is_described.Goals as goal

pub returns : goal.returns
returns c = describes-each
