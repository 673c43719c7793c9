use Rattle.remote_objects.proofs.KeyLemmas.{lists-first-keys, says-whether-more}
use Rattle.remote_objects.proofs.laws.previews_list_the_first_keys.Goals as goal

pub returns-clause-first : goal.returns-clause-first
returns-clause-first c = lists-first-keys

pub returns-clause-more : goal.returns-clause-more
returns-clause-more c = says-whether-more
