-- What each event leaves of the handles of a session, and what a whole list of events does.
use Rattle.std.proofs.Common.{◌≡◌, ℕ, ◌+◌, Bool, true, false, not, List, [], ◌∷◌, refl, ◌∙◌, arith}
use Rattle.std.specs.Prelude.{if◌then◌else◌, Option, Some, None}
use Rattle.js_heap.specs.declared.value.Value.{Value}
use Rattle.stepping.specs.declared.arrival.Arrival.{Arrival}
use Rattle.serde_json.specs.Read.{read}
use Rattle.cdp_json.specs.Commands.{reading_of}
use Rattle.cdp_json.specs.declared.command.Reading.{Reading}
use Rattle.cdp_json.specs.declared.command.Reading.TheVariants as readings
use Rattle.object_groups.specs.Handles.{is_outside}
use Rattle.object_groups.specs.declared.handle.Handle.{Handle}
use Rattle.remote_objects.specs.CallFrames.{backtrace}
use Rattle.pure_eval.specs.Workspaces.{Workspace}
use Rattle.cdp_session.specs.Consoles.{console, print_told, printed}
use Rattle.cdp_session.specs.Endings.{end_told, ended, ending_told}
use Rattle.cdp_session.specs.Objects.{numbered}
use Rattle.cdp_session.specs.Pauses.{sight_of}
use Rattle.cdp_session.specs.Replies.{answer_by, comes_to, outcome_by, outcome_for}
use Rattle.cdp_session.specs.Rows.{Does, Refuses, Row}
use Rattle.cdp_session.specs.Sessions.{Session, fresh}
use Rattle.cdp_session.specs.Situations.{Situation}
use Rattle.cdp_session.specs.Stops.{cause_of, hit_ids, stop_told, stopped}
use Rattle.cdp_session.specs.declared.ending.Ending.{Ending}
use Rattle.cdp_session.specs.declared.ending.Ending.TheVariants as endings
use Rattle.cdp_session_laws.specs.Events.{Event, Texted, Printed, Ended, Stopped, Resumed, HandedOut, after_all, after_event, lived}
use Rattle.cdp_session_laws.specs.Handles.{IsOrdered, LeavesHandles, ends, reading_releases, unless_ended}
use Rattle.cdp_session_laws.proofs.GrowLemmas.{Grows, grows-same, kept, none-above}
use Rattle.cdp_session_laws.proofs.DescriptionLemmas.{grows-pause, grows-remote, grows-values}
use Rattle.cdp_session_laws.proofs.RowLemmas.{Adds, Leaves, adds, adds-none, comes, leaves-adds, leaves-holding, session_by}

-- ---- texts

by-row : (x : Session) (id : ℕ) (r : Row) (stays : Handle → Bool)
    → Leaves stays x (session_by x r)
    → Leaves stays x (answer_by x (outcome_by id r)).session
by-row x id (Refuses why) stays l = record { number = l.number; fate = l.fate; cells = l.cells; fits = l.fits }
by-row x id (Does done) stays l = record { number = l.number; fate = l.fate; cells = l.cells; fits = l.fits }

by-reading : (s : Situation) (x : Session) (r : Reading)
    → IsOrdered x.handles
    → Leaves (λ h. not (reading_releases r x h)) x (answer_by x (outcome_for s x r)).session
by-reading s x (readings.Command id method params) o =
    by-row x id (comes_to s x params) _ (comes s x params o)
by-reading s x (readings.Refused id refusal) o = leaves-adds x _ o (adds x _ refl (grows-same x.handles) refl)
by-reading s x readings.Memory o = leaves-adds x _ o (adds x _ refl (grows-same x.handles) refl)

-- ---- what the program does

printing : (s : Situation) (values : List Value) (moment : ℕ) (x : Session) (b : Bool)
    → Adds x (if b then print_told s values moment x else x)
printing s values moment x true = adds x _ refl (grows-values (sight_of s x) values x.handles) refl
printing s values moment x false = adds-none x

ending : (s : Situation) (e : Ending) (moment : ℕ) (x : Session) → Adds x (ending_told s e moment x)
ending s endings.Finished moment x = adds-none x
ending s (endings.Threw v place) moment x = adds x _ refl (grows-remote (sight_of s x) (Some console) v x.handles) refl

finishing : (s : Situation) (e : Ending) (moment : ℕ) (x : Session) (b : Bool)
    → Adds x (if b then end_told s e moment x else x)
finishing s e moment x true =
    let a = ending s e moment x in
    record { number = a.number; grows = a.grows; cells = a.cells; fits = a.fits }
finishing s e moment x false = adds-none x

stopping : (s : Situation) (number : ℕ) (a : Arrival) (x : Session) (b : Bool)
    → Grows x.handles (if b then (stop_told s number a x).handles else x.handles)
stopping s number a x true = grows-pause s number (hit_ids s.standing a x) (cause_of s.standing a x) x
stopping s number a x false = grows-same x.handles

-- ---- events

pub event-leaves : (e : Event) (x : Session) → IsOrdered x.handles → Leaves (λ h. not (ends e x h)) x (after_event e x)
event-leaves (Texted s text) x o = by-reading s x (reading_of (read text)) o
event-leaves (Printed s values moment) x o =
    leaves-adds x (printed s values moment x) o (printing s values moment x x.runtime)
event-leaves (Ended s e moment) x o =
    leaves-adds x (ended s e moment x) o (finishing s e moment x x.runtime)
event-leaves (Stopped s number a) x o =
    leaves-adds x (stopped s number a x) o
    (adds x _ refl (stopping s number a x x.rules.enabled) refl)
event-leaves Resumed x o =
    let l = leaves-holding (is_outside backtrace) x o in
    record { number = l.number; fate = l.fate; cells = l.cells; fits = l.fits }
event-leaves HandedOut x o = leaves-adds x (after_event HandedOut x) o (adds x _ refl (grows-same x.handles) refl)

-- ---- sessions that lived

pub ordered-after : (es : List Event) (x : Session) → IsOrdered x.handles → IsOrdered (after_all es x).handles
ordered-after [] x o = o
ordered-after (e ∷ es) x o = ordered-after es (after_event e x) (event-leaves e x o).fate.ordered

pub ordered : (number : ℕ) (workspace : Workspace) (es : List Event) → IsOrdered (lived number workspace es).handles
ordered number workspace es =
    ordered-after es (fresh number workspace) (record { below = tt; ascending = tt })

-- ---- the laws

unless-kept : (e : Event) (x : Session) (o : Option Handle) → kept (λ h. not (ends e x h)) o ≡ unless_ended e x o
unless-kept e x None = refl
unless-kept e x (Some h) = at (ends e x h)
  where
    at : (b : Bool) → (if not b then Some h else None) ≡ (if b then None else Some h)
    at true = refl
    at false = refl

pub leaves-handles : (e : Event) (x : Session) → IsOrdered x.handles → LeavesHandles e x
leaves-handles e x o =
    let l = event-leaves e x o in
    let after = l.fate.ordered in
    record {
      session = l.number;
      counted = l.fate.counted;
      each = λ n le. l.fate.each n le ∙ unless-kept e x (numbered x.handles.held n);
      no_other = λ n lt.
          none-above ((after_event e x).handles.made + 1) n (after_event e x).handles.held after.below
          (omega (arith, lt));
    }

pub a-handle-stays : (number : ℕ) (workspace : Workspace) (before : List Event) (e : Event)
    → LeavesHandles e (lived number workspace before)
a-handle-stays number workspace before e =
    leaves-handles e (lived number workspace before) (ordered number workspace before)
