use Rattle.std.proofs.Common.{refl}
use Rattle.cdp_host_laws.proofs.limits.the_limits_of_a_program_are_those_of_the_documents.Goals as goal

pub returns : goal.returns
returns c = record { cells = refl; text = refl; calls = refl; units = refl; tokens = refl; depth = refl }
