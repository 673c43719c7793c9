use Rattle.std.proofs.Common.{refl}
use Rattle.cdp_host_laws.proofs.limits.the_limits_of_words_are_those_of_the_documents.Goals as goal

pub returns : goal.returns
returns c = record { clients = λ parts. refl; port = λ parts. refl; told = refl }
