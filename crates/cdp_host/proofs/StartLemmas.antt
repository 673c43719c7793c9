-- The start of a host.
use Rattle.std.proofs.Common.{◌≡◌, ℕ, List, [], map, Bool, false, Option, None, refl, sym, ap, subst, ◌∙◌}
use Rattle.js_tree.specs.declared.script.Script.{Script}
use Rattle.js_semantics.specs.Run.{Run}
use Rattle.js_semantics.specs.Sources.{terms_of_scripts}
use Rattle.locations.specs.declared.spot.Spot.{Spot}
use Rattle.locations.specs.Locations.{break_locations}
use Rattle.breakpoints.specs.declared.holding.Holding.{Holding}
use Rattle.js_machine.specs.declared.end.End.{End}
use Rattle.js_machine.specs.declared.machine.Started.{Started}
use Rattle.js_machine.specs.Machines.{IsKept, program_of}
use Rattle.js_machine.specs.Starts.{IsStarted}
use Rattle.cdp_host_seats.specs.Fallbacks.{HasRoom, fallback_held, fallback_of}
use Rattle.cdp_host_seats.specs.declared.fallback.Fallback.{Fallback}
use Rattle.cdp_session.specs.Code.{code_of}
use Rattle.cdp_host.specs.Programs.{start, printed_of}
use Rattle.cdp_host_isolation.specs.Meanings.{phase_of}
use Rattle.cdp_host_isolation.specs.Seats.{is_attached, some}
use Rattle.cdp_host.specs.Histories.{Meaning, begin}
use Rattle.cdp_session.specs.Sessions.{Session}
use Rattle.cdp_host.specs.Hosts.{Parts, AreLines, IsSound, machine_run}
use Rattle.cdp_host.proofs.ProgramLemmas.{start-prints}
use Rattle.cdp_host.proofs.IndexLemmas.{gone-indexed}
use Rattle.cdp_host.proofs.PartLemmas.{run-printed}

-- it means the beginning
pub start-means : (scripts : List Script) (input : List (List ℕ)) (wait : Bool) (s : Started)
    → IsStarted (terms_of_scripts scripts) input s
    → (let m : Meaning Run = record {
      program = machine_run s.machine s.heap [];
      phase = phase_of wait;
      stop = None;
      stops = 0;
      shut = false;
      seats = [];
    } in
    m ≡ begin scripts input wait)
unfolding start
start-means scripts input wait s is =
    let f : Run
    → Meaning Run = λ r. record {
      program = r;
      phase = phase_of wait;
      stop = None;
      stops = 0;
      shut = false;
      seats = [];
    } in
    ap f is.run

-- its code is that of the scripts
pub program-is : (scripts : List Script) (input : List (List ℕ)) (s : Started)
    → IsStarted (terms_of_scripts scripts) input s
    → program_of s.machine ≡ code_of scripts
unfolding code_of
program-is scripts input s is = is.program

started_prints : (scripts : List Script) (input : List (List ℕ)) (s : Started)
    → IsStarted (terms_of_scripts scripts) input s
    → s.machine.context.printed ≡ []
started_prints scripts input s is =
    let p : Parts = record { machine = s.machine; heap = s.heap } in
    sym (run-printed p [])
    ∙ ap (λ m. printed_of m.program) (start-means scripts input false s is)
    ∙ start-prints scripts input

pub start-sound : (scripts coded : List Script) (input lines : List (List ℕ)) (spots : List (List Spot)) (s : Started)
    → IsStarted (terms_of_scripts scripts) input s
    → AreLines scripts lines
    → spots ≡ map break_locations scripts
    → (held : Fallback Session) → HasRoom 0 held → fallback_held held ≡ fallback_of []
    → (index : List Holding) → index ≡ [] → coded ≡ scripts
    → IsSound scripts coded lines spots s.machine false [] 0 index held []
start-sound scripts coded input lines spots s is located found held room made index none same =
    let K : Option End → Type 0 = IsKept in
    record {
      lines = located;
      spots = found;
      code = program-is scripts input s is;
      shared = same;
      handed = λ works. started_prints scripts input s is;
      kept = λ works. subst K (sym is.going) tt;
      quiet = λ works. refl;
      room = λ works. room;
      alone = λ fails. absurd cc;
      gone = ap (λ f. some is_attached f.seats) made;
      indexed = gone-indexed [] index refl none;
      fit = tt;
    }
