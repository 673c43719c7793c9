use Rattle.std.proofs.Common.{ap}
use Rattle.debug_host_script_files.specs.Scripts.{names_held}
use Rattle.debug_host_options.specs.Held.{sources_held}
use Rattle.debug_host_commands.proofs.SourceLemmas.{lent_unread}
use Rattle.debug_host_commands.proofs.sources.read_sources.Goals as goal

pub returns-in-Err-read_scripts-clause-fault : goal.returns-in-Err-read_scripts-clause-fault
returns-in-Err-read_scripts-clause-fault g c =
    let e = c.in-Err-read_scripts.fault in
    rw c.outcome_of.ensures
    (lent_unread e.fault e.name _ _ _ _ _ (sources_held c.args.sources.now) (names_held c.deref.result.now)
    c.in-Ok.input.items _ _ _ (ap names_held c.deref.ensures.value) c.in-Ok.ensures.files c.in-Ok.ensures.quiet
    c.in-Ok.ensures.lines c.in-Err-read_scripts.ensures.fault)
