-- A host's program and its sessions as turns of its history see them.
use Rattle.std.specs.Prelude.{ℕ, List, [], Bool}
use Rattle.cdp_host_isolation.specs.Histories.{Entry}
use Rattle.cdp_host_isolation.specs.Makers.{AreOwned, entries_of}
use Rattle.js_tree.specs.declared.script.Script.{Script}
use Rattle.js_semantics.specs.Run.{Run}
use Rattle.cdp_session.specs.declared.situation.Pause.{Pause}
use Rattle.cdp_session.specs.Sessions.{Session}
use Rattle.cdp_host_turns.specs.Debuggings.{Debugging}
use Rattle.cdp_host.specs.Hosts.{HostState, StandsFor}
use Rattle.cdp_host.specs.Programs.{has_thrown, printed_of, start}
use Rattle.cdp_host.specs.Protocols.{protocol}
use Rattle.cdp_host.specs.Steps.{Step}

-- the program of these scripts with this input, which may be to wait, and the sessions that debug it
abbrev pub debugging : List Script → List (List ℕ) → Bool → Debugging
debugging scripts input wait = record {
  Program = Run;
  Step = Step;
  Pause = Pause;
  Session = Session;
  protocol = protocol scripts;
  program = start scripts input;
  wait = wait;
  printed = printed_of;
  has_thrown = has_thrown;
}

-- a host stands for a history in which each session is its owner's
pub record StandsOwned (scripts : List Script) (input : List (List ℕ)) (wait : Bool) (host : HostState)
    (history : List (ℕ × Entry)) : Type 0 where
  pub stands : StandsFor scripts input wait host (entries_of history)
  pub owned : AreOwned [] history
