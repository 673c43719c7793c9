-- The state that a host tells.
use Rattle.std.specs.Prelude.{if◌then◌else◌}
use Rattle.cdp_host_isolation.specs.Meanings.{is_paused, waits}
use Rattle.js_semantics.specs.Run.{Run}
use Rattle.cdp_host.specs.Histories.{Meaning}
use Rattle.cdp_host.specs.Programs.{is_over, has_thrown}
use Rattle.cdp_host_turns.specs.declared.state.State.{State}
use Rattle.cdp_host_turns.specs.declared.state.State.TheVariants.{Shut, Threw, Ended, Paused, Waiting, Ready}

-- the state of a program that no want of memory broke: the first that holds
abbrev pub state_of : Meaning Run → State
state_of m =
    if m.shut then Shut
    else if has_thrown m.program then Threw
    else if is_over m.program then Ended else if is_paused m then Paused else if waits m.phase then Waiting else Ready
