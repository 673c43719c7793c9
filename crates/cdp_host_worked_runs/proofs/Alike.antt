-- A host's protocol by what it reads in the trees of the scripts: their terms, and where breakpoints resolve. Folds
-- over trees in memory don't compute, so this comes first.
use Rattle.std.proofs.Common.{◌≡◌, ℕ, List, Bool, Option, None, refl, ap, ◌∙◌}
use Rattle.std.specs.Option.{option_map_or}
use Rattle.serde_json.specs.Read.{read}
use Rattle.cdp_text.specs.declared.position.Pos.{Pos}
use Rattle.cdp_text.specs.declared.position.Place.{Place}
use Rattle.cdp_host_isolation.specs.Meanings as meanings
use Rattle.cdp_host_isolation.specs.Protocols.{Protocol}
use Rattle.cdp_json.specs.Commands.{reading_of}
use Rattle.cdp_json.specs.declared.command.Reading.{Reading}
use Rattle.cdp_json.specs.declared.command.Reading.TheVariants as readings
use Rattle.cdp_json.specs.declared.params.Location.{Location}
use Rattle.cdp_json.specs.declared.params.Params.{Params}
use Rattle.cdp_json.specs.declared.params.Params.TheVariants as params
use Rattle.cdp_json.specs.declared.refusal.Refusal.TheVariants as refusals
use Rattle.js_tree.specs.declared.script.Script.{Script}
use Rattle.js_heap.specs.BuiltIns.{script_scope}
use Rattle.js_semantics.specs.Run as runs
use Rattle.js_semantics.specs.Run.{Run, program_of}
use Rattle.js_semantics.specs.Terms.{Terms}
use Rattle.js_semantics.specs.Sources.{terms_of_scripts}
use Rattle.js_machine_engine.specs.Prints.{values_printed}
use Rattle.breakpoints.specs.Breakpoints.{fault_of}
use Rattle.breakpoints.specs.Ids.{url_id}
use Rattle.breakpoints.specs.Resolving.{resolved_at, resolved_by_url}
use Rattle.cdp_session_messages.specs.Results.{set_by_url}
use Rattle.cdp_session.specs.declared.situation.Pause.{Pause}
use Rattle.cdp_session.specs.Replies.{AnsweredText, CommandOutcome, IsRefused, answer_by, outcome_for, outcome_by, refusal_of}
use Rattle.cdp_session.specs.Rows.{Refuses, Row, adds, adds_at, end_of, in_script, placed_in, possible_in, row}
use Rattle.cdp_session.specs.Sessions.{Session, emptied, fresh}
use Rattle.cdp_session.specs.Situations.{Situation, script_of}
use Rattle.cdp_session.specs.Stops.{resumed}
use Rattle.pure_eval.specs.Workspaces.{begun}
use Rattle.cdp_session.specs.Code.{code_of}
use Rattle.cdp_host.specs.Programs.{arrival_of, is_over, next, prints_next, start}
use Rattle.cdp_host.specs.Protocols.{asks_to_resume, asks_to_wake, has_enabled, pause_at, protocol, situation, step_told, stop_told, texts_fit, waiting_for}
use Rattle.cdp_host.specs.Standings.{ending_of, standing_of}
use Rattle.cdp_host.specs.Steps.{Step, names_stop}
use Rattle.cdp_host_worked_runs.specs.Journals.{Call, outcome, outcome_by as outcome_played}

-- what commands read in the trees of the scripts: where a position of a URL resolves, where a place does, and what the
-- break locations between two positions come to
pub record Reads : Type 0 where
  pub by_url : List ℕ → Pos → List Place
  pub at : Place → Option Place
  pub between : Session → Location → Option Location → Row

pub record AreRead (scripts : List Script) (r : Reads) : Type 0 where
  pub by_url : (url : List ℕ) (p : Pos) → resolved_by_url url p scripts ≡ r.by_url url p
  pub at : (place : Place) → resolved_at place scripts ≡ r.at place
  pub between : (x : Session) (start : Location) (end : Option Location)
      → in_script (script_of start.script_id scripts) start.script_id (possible_in x start.position (end_of end))
      ≡ r.between x start end

-- what a method comes to, by what is read so
abbrev pub row_by : Reads → Situation → Session → Params → Row
row_by r s x (params.SetBreakpointByUrl url p condition) =
    adds (fault_of (url_id p url) x.breakpoints) x (url_id p url) condition (r.by_url url p)
    (set_by_url (url_id p url) (r.by_url url p))
row_by r s x (params.SetBreakpoint at condition) =
    in_script (script_of at.script_id s.scripts) at.script_id
    (λ script. adds_at x (placed_in at.position script) condition (r.at (placed_in at.position script)))
row_by r s x (params.GetPossibleBreakpoints start end) = r.between x start end
row_by r s x other = row s x other

row-same : (r : Reads) (s : Situation) (x : Session) (p : Params) → AreRead s.scripts r → row s x p ≡ row_by r s x p
row-same r s x (params.SetBreakpointByUrl url p condition) h =
    ap
    (λ places. adds (fault_of (url_id p url) x.breakpoints) x (url_id p url) condition places
    (set_by_url (url_id p url) places)) (h.by_url url p)
row-same r s x (params.SetBreakpoint at condition) h =
    λ i. in_script (script_of at.script_id s.scripts) at.script_id
    (λ script. adds_at x (placed_in at.position script) condition (h.at (placed_in at.position script) i))
row-same r s x (params.GetPossibleBreakpoints start end) h = h.between x start end
row-same r s x other h = refl

abbrev pub outcome_read : Reads → Situation → Session → Reading → CommandOutcome
outcome_read reads s x (readings.Command id method params) =
    outcome_by id (option_map_or Refuses (refusal_of s x params) (row_by reads s x params))
outcome_read reads s x (readings.Refused id refusal) = IsRefused id refusal
outcome_read reads s x readings.Memory = IsRefused None refusals.NotJson

abbrev pub answer_read : Reads → Situation → List ℕ → Session → AnsweredText
answer_read reads s text x = answer_by x (outcome_read reads s x (reading_of (read text)))

abbrev pub step_read : Terms → List Script → Bool → Run → Step
step_read ts scripts first r = record {
  standing = standing_of scripts (runs.step (program_of ts) r);
  arrival = arrival_of scripts (runs.step (program_of ts) r);
  values = values_printed (program_of ts) script_scope r;
  ending = ending_of scripts (runs.step (program_of ts) r);
  first = first;
}

abbrev pub protocol_by : Terms → Reads → List Script → Protocol Run Step Pause Session
protocol_by ts reads scripts = record {
  next = λ r. runs.step (program_of ts) r;
  is_over = is_over;
  tells = step_read ts scripts;
  pause = pause_at scripts;
  fresh = λ number. fresh number (begun (program_of ts));
  is_enabled = has_enabled;
  outbox = waiting_for;
  fits = texts_fit;
  emptied = emptied;
  reply = λ q r text x. (answer_read reads (situation scripts q (standing_of scripts r)) text x).session;
  resumes = λ q r text x. asks_to_resume
      (answer_read reads (situation scripts q (standing_of scripts r)) text x).asks;
  wakes = λ q r text x. asks_to_wake (answer_read reads (situation scripts q (standing_of scripts r)) text x).asks;
  resumed = resumed;
  told = step_told scripts;
  names = names_stop;
  stopped = stop_told scripts;
}

answered-same : (reads : Reads) (s : Situation) (x : Session) (reading : Reading)
    → AreRead s.scripts reads
    → outcome_for s x reading ≡ outcome_read reads s x reading
answered-same reads s x (readings.Command id method params) h =
    ap (λ w. outcome_by id (option_map_or Refuses (refusal_of s x params) w)) (row-same reads s x params h)
answered-same reads s x (readings.Refused id refusal) h = refl
answered-same reads s x readings.Memory h = refl

pub alike : (scripts : List Script) (reads : Reads)
    → AreRead scripts reads
    → protocol scripts ≡ protocol_by (terms_of_scripts scripts) reads scripts
unfolding code_of next prints_next
alike scripts reads h = λ i. record {
  next = λ r. runs.step (program_of (terms_of_scripts scripts)) r;
  is_over = is_over;
  tells = step_read (terms_of_scripts scripts) scripts;
  pause = pause_at scripts;
  fresh = λ number. fresh number (begun (program_of (terms_of_scripts scripts)));
  is_enabled = has_enabled;
  outbox = waiting_for;
  fits = texts_fit;
  emptied = emptied;
  reply = λ q r text x. (answer_by x (answered-same reads (situation scripts q (standing_of scripts r)) x
      (reading_of (read text)) h i)).session;
  resumes = λ q r text x. asks_to_resume
      (answer_by x
      (answered-same reads (situation scripts q (standing_of scripts r)) x (reading_of (read text)) h i)).asks;
  wakes = λ q r text x. asks_to_wake (answer_by x (answered-same reads (situation scripts q (standing_of scripts r)) x
      (reading_of (read text)) h i)).asks;
  resumed = resumed;
  told = step_told scripts;
  names = names_stop;
  stopped = stop_told scripts;
}

-- what a journal comes to, by what is read in the trees
pub outcome-same : (scripts : List Script) (ts : Terms) (reads : Reads) (input : List (List ℕ)) (wait : Bool) (s : ℕ)
    (calls : List Call)
    → terms_of_scripts scripts ≡ ts
    → AreRead scripts reads
    → outcome scripts input wait s calls
    ≡ outcome_played (protocol_by ts reads scripts) (meanings.begin (runs.start ts input) wait) s calls
unfolding start
outcome-same scripts ts reads input wait s calls e h =
    ap (λ P. outcome_played P (meanings.begin (runs.start (terms_of_scripts scripts) input) wait) s calls)
    (alike scripts reads h)
    ∙ ap (λ us. outcome_played (protocol_by us reads scripts) (meanings.begin (runs.start us input) wait) s calls) e
