-- A breakpoint that a client sets at a location.
use Rattle.std.proofs.Common.{◌≡◌, ℕ, List, [], ◌∷◌, ◌++◌, Bool, true, false, ◌&&◌, ◌||◌, not, is_some, cond, filter, bytes_eq, decimal, nat_eq, if◌then◌else◌, Option, Some, None, refl, ap, sym, ◌∙◌}
use Rattle.std.proofs.lemmas.Bool.{eq-eqb, eqb-true}
use Rattle.std.proofs.lemmas.List.Elements.{filter-append}
use Rattle.cdp_text.specs.declared.position.Place.{Place}
use Rattle.cdp_text.specs.declared.position.Pos.{Pos}
use Rattle.cdp_text.proofs.TestLemmas.{or_false}
use Rattle.cdp_json.specs.Messages.{result_text}
use Rattle.cdp_json.specs.declared.params.Location.{Location}
use Rattle.cdp_json.specs.declared.params.Params.TheVariants as params
use Rattle.cdp_host_isolation.specs.Histories.{Entry, with_seat}
use Rattle.cdp_host_isolation.specs.declared.seat.Seat.TheVariants.{Attached}
use Rattle.cdp_host_isolation.specs.Meanings.{is_first, is_paused}
use Rattle.js_tree.specs.declared.script.Script.{Script}
use Rattle.js_semantics.specs.Run.{Run}
use Rattle.stepping.specs.declared.arrival.Arrival.{Arrival}
use Rattle.stepping.specs.declared.rules.Exceptions.TheVariants as throws
use Rattle.breakpoints.specs.Breakpoints as breakpoints
use Rattle.breakpoints.specs.Breakpoints.{breakpoint_of, fault_of, is_hit, with_breakpoint}
use Rattle.breakpoints.specs.Hits.{hits_in, stands_at}
use Rattle.breakpoints.specs.Ids.{place_id}
use Rattle.breakpoints.specs.Resolving.{resolved_at, resolved_in}
use Rattle.breakpoints.specs.declared.breakpoint.Breakpoint.{Breakpoint}
use Rattle.breakpoints.proofs.HitLemmas.{is_hit-none}
use Rattle.pure_eval.specs.Workspaces.{Workspace}
use Rattle.cdp_session.specs.Conditions.{condition_holds, hits, is_met, is_some_hit}
use Rattle.cdp_session.specs.Replies.{AnsweredText, answer_by, answer_texts, outcome_by}
use Rattle.cdp_session.specs.Rows.{add_in, adds, adds_at, answers, in_script, placed_in}
use Rattle.cdp_session.specs.Sessions.{Session, with_breakpoints}
use Rattle.cdp_session.specs.Situations.{Situation, Standing, script_of}
use Rattle.cdp_session.specs.Stops.{resumed}
use Rattle.cdp_session.specs.declared.situation.Pause.{Pause}
use Rattle.cdp_session_messages.specs.Results.{set_at}
use Rattle.cdp_host.specs.Histories.{Meaning, whole}
use Rattle.cdp_host.specs.Programs.{arrival_of, next}
use Rattle.cdp_host.specs.Protocols.{answer_at, reply_texts, situation}
use Rattle.cdp_host.specs.Standings.{standing_of}
use Rattle.cdp_host.specs.Steps.{Step, step_of}
use Rattle.cdp_host_laws.specs.Commands.{DebugsAlone, HasNoBreakpoint, HasNoRequest, IsTold, MaySet, WantsNoThrows, then_told}
use Rattle.cdp_host_laws.specs.Leaving.{IsRead}
use Rattle.cdp_host_laws.specs.Stopping.{GoesOnUntil, arrived}
use Rattle.cdp_host_laws.specs.Words.{IsFirstFrom, breaks_where, is_at, reaches}
use Rattle.cdp_host_laws.proofs.CommandLemmas.{resumes-until, still-alone, tells-until, told-is}
use Rattle.cdp_host_laws.proofs.NamedLemmas.{Asks, names-by, names_at}
use Rattle.cdp_host_laws.proofs.PlaceRuleLemmas.{first-resolved}
use Rattle.cdp_host_laws.proofs.CommandRowLemmas.{answered, outcome-heard}
use Rattle.cdp_host_laws.proofs.RunningRuleLemmas.{resume_answer}
use Rattle.cdp_host_laws.proofs.UnaskedLemmas.{paused-unasked}
use Rattle.cdp_host_laws.proofs.UntilLemmas.{NamesWhere}

-- ---- where one breakpoint more is hit

-- a breakpoint stands where the program arrived, if it did
abbrev pub stands : Option Place → Breakpoint → Bool
stands None b = false
stands (Some place) b = stands_at place b

met_hit : (met : Bool) (new : Breakpoint) → is_some_hit (cond met (new ∷ []) []) ≡ met
met_hit true new = refl
met_hit false new = refl

one_hit : (s : Standing) (w : Workspace) (new : Breakpoint) (here : Bool)
    → is_some_hit (filter (is_met s w) (cond here (new ∷ []) [])) ≡ (here && is_met s w new)
one_hit s w new true = met_hit (is_met s w new) new
one_hit s w new false = refl

-- where no breakpoint was hit anywhere, the new one alone is
pub more-hit : (s : Standing) (w : Workspace) (b : breakpoints.HeldBreakpoints) (new : Breakpoint) (o : Option Place)
    → b.active ≡ true
    → ((place : Place) → is_hit place b ≡ false)
    → is_some_hit (hits s w (with_breakpoint new b) o) ≡ (stands o new && is_met s w new)
more-hit s w b new None active never = refl
more-hit s w b new (Some place) active never =
    let old : hits_in place b.set ≡ []
    = sym (ap (λ c. if c then hits_in place b.set else []) active) ∙ is_hit-none place b (never place) in
    ap (λ c. is_some_hit (filter (is_met s w) (if c then hits_in place (b.set ++ new ∷ []) else []))) active
    ∙ ap (λ bs. is_some_hit (filter (is_met s w) bs)) (filter-append (stands_at place) b.set (new ∷ []))
    ∙ ap (λ bs. is_some_hit (filter (is_met s w) (bs ++ filter (stands_at place) (new ∷ [])))) old
    ∙ one_hit s w new (stands_at place new)

-- ---- the place

some_same : {A : Type 0} → (a b : A) → Some a ≡ Some b → a ≡ b
some_same a b is = cc

bytes_here : (id : List ℕ) (s script : Script) (rest : Option Script) (b : Bool) → bytes_eq (decimal s.number) id ≡ b
    → (if b then Some s else rest) ≡ Some script
    → (rest ≡ Some script → bytes_eq (decimal script.number) id ≡ true)
    → bytes_eq (decimal script.number) id ≡ true
bytes_here id s script rest true same is more =
    let e : s ≡ script = some_same s script is in ap (λ (t : Script). bytes_eq (decimal t.number) id) (sym e) ∙ same
bytes_here id s script rest false same is more = more is

bytes_same : (id : List ℕ) (script : Script) (ss : List Script) → script_of id ss ≡ Some script
    → bytes_eq (decimal script.number) id ≡ true
bytes_same id script [] is = absurd cc
bytes_same id script (s ∷ ss) is =
    bytes_here id s script (script_of id ss) (bytes_eq (decimal s.number) id) refl is (bytes_same id script ss)

resolved_here : (id : List ℕ) (p : Pos) (s script : Script) (ss : List Script) (b : Bool)
    → bytes_eq (decimal s.number) id ≡ b
    → (if b then Some s else script_of id ss) ≡ Some script
    → bytes_eq (decimal script.number) id ≡ true
    → (script_of id ss ≡ Some script → resolved_at (placed_in p script) ss ≡ resolved_in p script)
    → (c : Bool)
    → nat_eq s.number script.number ≡ c
    → (if c then resolved_in p s else resolved_at (placed_in p script) ss) ≡ resolved_in p script
resolved_here id p s script ss true same is own more true number =
    let e : s ≡ script = some_same s script is in ap (resolved_in p) e
resolved_here id p s script ss true same is own more false number =
    let e : s ≡ script = some_same s script is in
    let f : false ≡ true = sym number ∙ eq-eqb s.number script.number (ap (λ (t : Script). t.number) e) in
    absurd cc
resolved_here id p s script ss false same is own more true number =
    let e : s.number ≡ script.number = eqb-true s.number script.number number in
    let f : false ≡ true = sym same ∙ ap (λ n. bytes_eq (decimal n) id) e ∙ own in
    absurd cc
resolved_here id p s script ss false same is own more false number = more is

-- a position of the script of an id resolves in that script
resolved_there : (id : List ℕ) (p : Pos) (script : Script) (ss : List Script) → script_of id ss ≡ Some script
    → resolved_at (placed_in p script) ss ≡ resolved_in p script
resolved_there id p script [] is = absurd cc
resolved_there id p script (s ∷ ss) is =
    resolved_here id p s script ss (bytes_eq (decimal s.number) id) refl is (bytes_same id script (s ∷ ss) is)
    (resolved_there id p script ss) (nat_eq s.number script.number) refl

-- ---- a session that sets one

-- what it keeps
abbrev setting : List ℕ → Option (List ℕ) → Place → Session → Session
setting id condition place x =
    with_breakpoints (with_breakpoint (breakpoint_of id condition (place ∷ [])) x.breakpoints) x

abbrev set_answer : ℕ → List ℕ → Option (List ℕ) → Place → Session → AnsweredText
set_answer id called condition place x =
    answer_by x (outcome_by id (answers (set_at called place) (setting called condition place x)))

-- its row, where a place was found
set_row : (t : Situation) (at : Location) (condition : Option (List ℕ)) (script : Script) (place : Place) (x : Session)
    → script_of at.script_id t.scripts ≡ Some script
    → IsFirstFrom script at.position place
    → fault_of (place_id (placed_in at.position script)) x.breakpoints ≡ None
    → (let called : List ℕ = place_id (placed_in at.position script) in
    in_script (script_of at.script_id t.scripts) at.script_id (add_in t x at.position condition)
    ≡ answers (set_at called place) (setting called condition place x))
set_row t at condition script place x named first room =
    let asked : Place = placed_in at.position script in
    ap (λ o. in_script o at.script_id (add_in t x at.position condition)) named
    ∙ ap (λ o. adds_at x asked condition o)
    (resolved_there at.script_id at.position script t.scripts named ∙ first-resolved script at.position place first)
    ∙ ap (λ o. adds o x (place_id asked) condition (place ∷ []) (set_at (place_id asked) place)) room

set_answered : (scripts : List Script) (m : Meaning Run) (id : ℕ) (at : Location) (condition : Option (List ℕ))
    (script : Script) (place : Place) (x : Session)
    → script_of at.script_id scripts ≡ Some script
    → IsFirstFrom script at.position place
    → fault_of (place_id (placed_in at.position script)) x.breakpoints ≡ None
    → (let t : Situation = situation scripts m.stop (standing_of scripts m.program) in
    answer_by x
    (outcome_by id (in_script (script_of at.script_id scripts) at.script_id (add_in t x at.position condition)))
    ≡ set_answer id (place_id (placed_in at.position script)) condition place x)
set_answered scripts m id at condition script place x named first room =
    let t : Situation = situation scripts m.stop (standing_of scripts m.program) in
    ap (λ w. answer_by x (outcome_by id w)) (set_row t at condition script place x named first room)

-- the texts of its answer: the place is named there
pub set-texts : (scripts : List Script) (q : Option Pause) (r : Run) (text : List ℕ) (x : Session) (at : Location)
    (condition : Option (List ℕ)) (script : Script) (place : Place)
    → x.rules.enabled ≡ true
    → MaySet (place_id (placed_in at.position script)) x
    → script_of at.script_id scripts ≡ Some script
    → IsFirstFrom script at.position place
    → (told : IsRead text (params.SetBreakpoint at condition))
    → reply_texts scripts q r text x
    ≡ result_text told.id (set_at (place_id (placed_in at.position script)) place) ∷ []
set-texts scripts q r text x at condition script place enabled may named first told =
    let t : Situation = situation scripts q (standing_of scripts r) in
    ap answer_texts (outcome-heard t x text told.id told.method (params.SetBreakpoint at condition) told.reads
    enabled refl)
    ∙ ap (λ w. answer_texts (outcome_by told.id w)) (set_row t at condition script place x named first may.room)

hit_last : (hit debugger : Bool) → (hit || (debugger || false)) ≡ (debugger || hit)
hit_last true true = refl
hit_last true false = refl
hit_last false true = refl
hit_last false false = refl

pub hit-there : (hit : Bool) (a : Arrival) (o : Option Place)
    → names_at false None None hit a o ≡ (is_some o && (a.debugger || hit))
hit-there hit a None = refl
hit-there hit a (Some place) = hit_last hit a.debugger

at_there : (place : Place) (condition : Option (List ℕ)) (id : List ℕ) (met debugger : Bool) (o : Option Place)
    → (is_some o && (debugger || (stands o (breakpoint_of id condition (place ∷ [])) && met)))
    ≡ (is_some o && (debugger || (is_at place o && met)))
at_there place condition id met debugger None = refl
at_there place condition id met debugger (Some here) =
    ap (λ b. debugger || (b && met)) (or_false (is_at place (Some here)))

-- a session with this breakpoint names the arrivals at its place where the condition holds, and `debugger` statements
abbrev MeetsAt : List Script → Workspace → Place → Option (List ℕ) → Run → Bool
MeetsAt scripts w place condition r =
    is_some (arrival_of scripts r).place && ((arrival_of scripts r).debugger ||
    (is_at place (arrival_of scripts r).place && condition_holds (standing_of scripts r) w condition))

named_with : (scripts : List Script) (y : Session) (b : breakpoints.HeldBreakpoints) (called : List ℕ)
    (condition : Option (List ℕ)) (place : Place)
    → Asks y throws.Never false None None
    → y.breakpoints ≡ with_breakpoint (breakpoint_of called condition (place ∷ [])) b
    → b.active ≡ true
    → ((p : Place) → is_hit p b ≡ false)
    → NamesWhere scripts y (MeetsAt scripts y.workspace place condition)
named_with scripts y b called condition place asks held active none = λ r.
    let t : Step = step_of scripts false r in
    let a : Arrival = arrival_of scripts (next scripts r) in
    let new : Breakpoint = breakpoint_of called condition (place ∷ []) in
    let met : Bool = condition_holds (standing_of scripts (next scripts r)) y.workspace condition in
    names-by t y throws.Never false None None refl asks
    ∙ ap (λ c. names_at false None None (is_some_hit (hits t.standing y.workspace c a.place)) a a.place) held
    ∙ ap (λ hit. names_at false None None hit a a.place) (more-hit t.standing y.workspace b new a.place active none)
    ∙ hit-there (stands a.place new && met) a a.place
    ∙ at_there place condition called met a.debugger a.place

-- told while the program runs
set_until : (scripts : List Script) (input : List (List ℕ)) (wait : Bool) (history : List Entry)
    (s : ℕ) (text : List ℕ) (x : Session) (at : Location) (condition : Option (List ℕ)) (script : Script)
    (place : Place) (meets : Run → Bool)
    → ((r : Run) → MeetsAt scripts x.workspace place condition r ≡ meets r)
    → DebugsAlone s x (whole scripts input wait history)
    → HasNoRequest x
    → WantsNoThrows x
    → HasNoBreakpoint x
    → MaySet (place_id (placed_in at.position script)) x
    → is_paused (whole scripts input wait history) ≡ false
    → is_first (whole scripts input wait history).phase ≡ false
    → script_of at.script_id scripts ≡ Some script
    → IsFirstFrom script at.position place
    → IsTold scripts input wait history s text (params.SetBreakpoint at condition)
    → GoesOnUntil meets scripts input wait (then_told history s text) s
set_until scripts input wait history s text x at condition script place meets same alone free calm none may goes begun
    named first told =
    let m : Meaning Run = whole scripts input wait history in
    let t : Situation = situation scripts m.stop (standing_of scripts m.program) in
    let called : List ℕ = place_id (placed_in at.position script) in
    let a : AnsweredText = set_answer told.id called condition place x in
    let done : answer_at scripts m.stop m.program text x ≡ a
    = answered t x text told.id told.method (params.SetBreakpoint at condition) told.reads alone.enabled refl
    ∙ set_answered scripts m told.id at condition script place x named first may.room in
    let asks : Asks a.session throws.Never false None None
    = record {
      enabled = alone.enabled;
      heeds = alone.heeds;
      same_throws = calm;
      same_pause = free.no_pause;
      same_step = free.no_step;
      same_place = free.no_place;
    } in
    tells-until meets scripts input wait history s text x a alone.attached alone.no_other goes begun told.stays done
    refl refl alone.enabled
    (λ r. named_with scripts a.session x.breakpoints called condition place asks refl may.active none r
    ∙ same (next scripts r))

pub and-true : (b : Bool) → (b && true) ≡ b
and-true true = refl
and-true false = refl

-- a breakpoint without a condition stops wherever it stands
unconditional : (scripts : List Script) (w : Workspace) (place : Place) (r : Run)
    → MeetsAt scripts w place None r ≡ arrived scripts (reaches place) r
unconditional scripts w place r =
    let a : Arrival = arrival_of scripts r in
    ap (λ b. is_some a.place && (a.debugger || b)) (and-true (is_at place a.place))

-- without a condition
pub set-until : (scripts : List Script) (input : List (List ℕ)) (wait : Bool) (history : List Entry)
    (s : ℕ) (text : List ℕ) (x : Session) (at : Location) (script : Script) (place : Place)
    → DebugsAlone s x (whole scripts input wait history)
    → HasNoRequest x
    → WantsNoThrows x
    → HasNoBreakpoint x
    → MaySet (place_id (placed_in at.position script)) x
    → is_paused (whole scripts input wait history) ≡ false
    → is_first (whole scripts input wait history).phase ≡ false
    → script_of at.script_id scripts ≡ Some script
    → IsFirstFrom script at.position place
    → IsTold scripts input wait history s text (params.SetBreakpoint at None)
    → GoesOnUntil (arrived scripts (reaches place)) scripts input wait (then_told history s text) s
set-until scripts input wait history s text x at script place =
    set_until scripts input wait history s text x at None script place (arrived scripts (reaches place))
    (unconditional scripts x.workspace place)

-- with one
pub set-until-if : (scripts : List Script) (input : List (List ℕ)) (wait : Bool) (history : List Entry)
    (s : ℕ) (text : List ℕ) (x : Session) (at : Location) (condition : List ℕ) (script : Script) (place : Place)
    → DebugsAlone s x (whole scripts input wait history)
    → HasNoRequest x
    → WantsNoThrows x
    → HasNoBreakpoint x
    → MaySet (place_id (placed_in at.position script)) x
    → is_paused (whole scripts input wait history) ≡ false
    → is_first (whole scripts input wait history).phase ≡ false
    → script_of at.script_id scripts ≡ Some script
    → IsFirstFrom script at.position place
    → IsTold scripts input wait history s text (params.SetBreakpoint at (Some condition))
    → GoesOnUntil (breaks_where scripts x.workspace place condition) scripts input wait (then_told history s text) s
set-until-if scripts input wait history s text x at condition script place =
    set_until scripts input wait history s text x at (Some condition) script place
    (breaks_where scripts x.workspace place condition) (λ r. refl)

-- ---- told while it is paused, which then goes on

pub set-then-on : (scripts : List Script) (input : List (List ℕ)) (wait : Bool) (history : List Entry)
    (s : ℕ) (text go : List ℕ) (x : Session) (at : Location) (script : Script) (place : Place)
    → DebugsAlone s x (whole scripts input wait history)
    → WantsNoThrows x
    → HasNoBreakpoint x
    → MaySet (place_id (placed_in at.position script)) x
    → is_paused (whole scripts input wait history) ≡ true
    → script_of at.script_id scripts ≡ Some script
    → IsFirstFrom script at.position place
    → IsTold scripts input wait history s text (params.SetBreakpoint at None)
    → IsTold scripts input wait (then_told history s text) s go params.Resume
    → GoesOnUntil (arrived scripts (reaches place)) scripts input wait (then_told (then_told history s text) s go) s
set-then-on scripts input wait history s text go x at script place alone calm none may paused named first told resumes =
    let m : Meaning Run = whole scripts input wait history in
    let k : Meaning Run = whole scripts input wait (then_told history s text) in
    let t : Situation = situation scripts m.stop (standing_of scripts m.program) in
    let u : Situation = situation scripts k.stop (standing_of scripts k.program) in
    let free : HasNoRequest x = paused-unasked scripts input wait history s x paused alone.attached in
    let called : List ℕ = place_id (placed_in at.position script) in
    let a : AnsweredText = set_answer told.id called None place x in
    let done : answer_at scripts m.stop m.program text x ≡ a
    = answered t x text told.id told.method (params.SetBreakpoint at None) told.reads alone.enabled refl
    ∙ set_answered scripts m told.id at None script place x named first may.room in
    let set : k ≡ with_seat s (Attached a.session) m
    = told-is scripts input wait history s text x a alone.attached told.stays done refl refl alone.enabled in
    let still : DebugsAlone s a.session k
    = still-alone scripts input wait history s text x a alone set alone.enabled alone.heeds in
    let still_paused : is_paused k ≡ true = ap (λ l. is_paused l) set ∙ paused in
    let b : AnsweredText = resume_answer resumes.id a.session in
    let goes : answer_at scripts k.stop k.program go a.session ≡ b
    = answered u a.session go resumes.id resumes.method params.Resume resumes.reads still.enabled
    (ap not still_paused) in
    let asks : Asks (resumed b.session) throws.Never false None None
    = record {
      enabled = alone.enabled;
      heeds = alone.heeds;
      same_throws = calm;
      same_pause = free.no_pause;
      same_step = free.no_step;
      same_place = free.no_place;
    } in
    resumes-until (arrived scripts (reaches place)) scripts input wait (then_told history s text) s go a.session b
    still.attached still.no_other still_paused resumes.stays goes refl
    (λ r. named_with scripts (resumed b.session) x.breakpoints called None place asks refl may.active none r
    ∙ unconditional scripts (resumed b.session).workspace place (next scripts r))
