use Rattle.cdp_host_isolation.specs.Makers.{entries_of}
use Rattle.debug_host_commands.proofs.AgainLemmas.{again}
use Rattle.debug_host_commands.proofs.laws.stored_journals_play_again.Goals as goal

pub returns : goal.returns
returns c = λ scripts input wait history line output fits replay.
    again scripts input wait (entries_of history) line output fits replay
