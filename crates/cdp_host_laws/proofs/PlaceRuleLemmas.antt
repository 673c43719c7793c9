-- The commands that name a place: where the program is to go on to, and where a breakpoint is to stand.
use Rattle.std.proofs.Common.{◌≡◌, ◌<◌, ℕ, zero, suc, List, [], ◌∷◌, length, slice_index_or, Bool, true, false, ◌&&◌, ◌||◌, not, is_some, if◌then◌else◌, Option, Some, None, refl, ap, sym, subst, ◌∙◌, arith}
use Rattle.std.specs.List.{Contains}
use Rattle.std.specs.Option.{option_map}
use Rattle.std.proofs.lemmas.Bool.{false_from_ne_true}
use Rattle.cdp_text.specs.Position.{IsBefore}
use Rattle.cdp_text.specs.declared.position.Place.{Place}
use Rattle.cdp_text.specs.declared.position.Pos.{Pos}
use Rattle.cdp_json.specs.declared.params.Location.{Location}
use Rattle.cdp_json.specs.declared.params.Params.TheVariants as params
use Rattle.cdp_host_isolation.specs.Histories.{Entry}
use Rattle.cdp_host_isolation.specs.Meanings.{is_paused}
use Rattle.js_tree.specs.declared.script.Script.{Script}
use Rattle.js_semantics.specs.Run.{Run}
use Rattle.locations.specs.Locations.{break_locations, script_marks}
use Rattle.locations.specs.Kinds.{kind_at}
use Rattle.locations.specs.Order.{IsAscending}
use Rattle.locations.specs.Search.{first_from, is_before}
use Rattle.locations.specs.declared.spot.Spot.{Spot}
use Rattle.locations.proofs.OrderLemmas.{ascending_below}
use Rattle.locations.proofs.SearchLemmas.{before_true, true_before}
use Rattle.stepping.specs.declared.arrival.Arrival.{Arrival}
use Rattle.stepping.specs.declared.rules.Exceptions.TheVariants as throws
use Rattle.breakpoints.specs.Resolving.{place_in, resolved_in}
use Rattle.cdp_session.specs.Replies.{AnsweredText, answer_by, outcome_by}
use Rattle.cdp_session.specs.Rows.{continue_at, in_script, resumes}
use Rattle.cdp_session.specs.Sessions.{Session, with_rules}
use Rattle.cdp_session.specs.Situations.{Situation, script_of}
use Rattle.cdp_session.specs.Stops.{resumed}
use Rattle.cdp_host.specs.Histories.{Meaning, whole}
use Rattle.cdp_host.specs.Programs.{arrival_of, next}
use Rattle.cdp_host.specs.Protocols.{answer_at, situation}
use Rattle.cdp_host.specs.Standings.{standing_of}
use Rattle.cdp_host.specs.Steps.{Step, step_of}
use Rattle.cdp_host_laws.specs.Commands.{DebugsAlone, HasNoBreakpoint, HasNoRequest, IsTold, WantsNoThrows, then_told}
use Rattle.cdp_host_laws.specs.Stopping.{GoesOnUntil, arrived}
use Rattle.cdp_host_laws.specs.Words.{IsFirstFrom, is_at, reaches}
use Rattle.cdp_host_laws.proofs.CommandLemmas.{resumes-until, unhit}
use Rattle.cdp_host_laws.proofs.NamedLemmas.{Asks, names-by, names_at}
use Rattle.cdp_host_laws.proofs.CommandRowLemmas.{answered}
use Rattle.cdp_host_laws.proofs.UnaskedLemmas.{paused-unasked}
use Rattle.cdp_host_laws.proofs.UntilLemmas.{NamesWhere}

-- ---- the first location from a position

tail_ascends : (s : Spot) (ss : List Spot) → IsAscending (s ∷ ss) → IsAscending ss
tail_ascends s ss up = λ i j d lt l. up (suc i) (suc j) d (omega (arith, lt)) (omega (arith, l))

head_before : (s t : Spot) (ss : List Spot) (k : ℕ) → IsAscending (s ∷ ss) → k < length ss → slice_index_or ss k t ≡ t
    → IsBefore s.pos t.pos
head_before s t ss k up l is =
    subst (λ (u : Spot). IsBefore s.pos u.pos) is (up 0 (suc k) t (omega arith) (omega (arith, l)))

later : (from : Pos) (s t : Spot) (ss : List Spot) (b : Bool) → is_before s.pos from ≡ b → first_from from ss ≡ Some t
    → (is_before s.pos from ≡ false → ⊥)
    → (if b then first_from from ss else Some s) ≡ Some t
later from s t ss true is found here = found
later from s t ss false is found here = absurd (here is)

found : (from : Pos) (t : Spot) (spots : List Spot) (k : ℕ)
    → IsAscending spots
    → k < length spots
    → slice_index_or spots k t ≡ t
    → is_before t.pos from ≡ false
    → ((u : Spot) → Contains spots u → is_before u.pos from ≡ false → ¬ IsBefore u.pos t.pos)
    → first_from from spots ≡ Some t
found from t [] k up small is after first = absurd (omega (arith, small))
found from t (s ∷ ss) zero up small is after first =
    ap (λ b. if b then first_from from ss else Some s) (ap (λ (u : Spot). is_before u.pos from) is ∙ after)
    ∙ ap (λ u. Some u) is
found from t (s ∷ ss) (suc k) up small is after first =
    later from s t ss (is_before s.pos from) refl
    (found from t ss k (tail_ascends s ss up) (omega (arith, small)) is after
    (λ u has. first u (suc has.0, omega (arith, has.1), has.2)))
    (λ here. first s (0, omega arith, refl) here (head_before s t ss k up (omega (arith, small)) is))

-- the place that a position resolves to is that of the first break location that isn't before it
pub first-resolved : (script : Script) (from : Pos) (place : Place) → IsFirstFrom script from place
    → resolved_in from script ≡ Some place
first-resolved script from place is =
    let after : (u : Spot) → ¬ IsBefore u.pos from → is_before u.pos from ≡ false
    = λ u no. false_from_ne_true (is_before u.pos from) (λ yes. no (before_true u.pos from yes)) in
    let spots : first_from from (break_locations script) ≡ Some is.spot
    = found from is.spot (break_locations script) is.stands.0
    (ascending_below script.source (kind_at script.spans (script_marks script)) (suc (length script.source)))
    is.stands.1 is.stands.2 (after is.spot is.not_before)
    (λ u has yes. is.first u has (λ before.
    let e : true ≡ false = sym (true_before u.pos from before) ∙ yes in absurd cc)) in
    ap (option_map (place_in script.number)) spots ∙ ap (λ p. Some p) (sym is.there)

-- ---- going on to a place

-- what a session keeps that asks to go on to a place
abbrev going_to : Place → Session → Session
going_to place x = with_rules (record x.rules { to = Some place }) x

abbrev continue_answer : ℕ → Place → Session → AnsweredText
continue_answer id place x = answer_by x (outcome_by id (resumes (going_to place x)))

place_there : (place : Place) (a : Arrival) (o : Option Place)
    → names_at false None (Some place) false a o ≡ (is_some o && (a.debugger || is_at place o))
place_there place a None = refl
place_there place a (Some here) = refl

continue_names : (scripts : List Script) (id : ℕ) (place : Place) (x : Session)
    → Asks (resumed (continue_answer id place x).session) throws.Never false None (Some place)
    → HasNoBreakpoint x
    → NamesWhere scripts (resumed (continue_answer id place x).session) (arrived scripts (reaches place))
continue_names scripts id place x asks none = λ r.
    let t : Step = step_of scripts false r in
    let a : Arrival = arrival_of scripts (next scripts r) in
    let y : Session = resumed (continue_answer id place x).session in
    names-by t y throws.Never false None (Some place) refl asks
    ∙ ap (λ hit. names_at false None (Some place) hit a a.place)
    (unhit t.standing y.workspace y.breakpoints a.place none)
    ∙ place_there place a a.place

pub continue-until : (scripts : List Script) (input : List (List ℕ)) (wait : Bool) (history : List Entry) (s : ℕ)
    (text : List ℕ) (x : Session) (at : Location) (script : Script) (place : Place)
    → DebugsAlone s x (whole scripts input wait history)
    → WantsNoThrows x
    → HasNoBreakpoint x
    → is_paused (whole scripts input wait history) ≡ true
    → script_of at.script_id scripts ≡ Some script
    → IsFirstFrom script at.position place
    → IsTold scripts input wait history s text (params.ContinueToLocation at)
    → GoesOnUntil (arrived scripts (reaches place)) scripts input wait (then_told history s text) s
continue-until scripts input wait history s text x at script place alone calm none paused named first told =
    let m : Meaning Run = whole scripts input wait history in
    let free : HasNoRequest x = paused-unasked scripts input wait history s x paused alone.attached in
    let t : Situation = situation scripts m.stop (standing_of scripts m.program) in
    let a : AnsweredText = continue_answer told.id place x in
    let answers : answer_at scripts m.stop m.program text x ≡ a
    = answered t x text told.id told.method (params.ContinueToLocation at) told.reads alone.enabled (ap not paused)
    ∙ ap (λ o. answer_by x (outcome_by told.id
    (in_script o at.script_id (λ here. continue_at x (resolved_in at.position here))))) named
    ∙ ap (λ o. answer_by x (outcome_by told.id (continue_at x o))) (first-resolved script at.position place first) in
    let asks : Asks (resumed a.session) throws.Never false None (Some place)
    = record {
      enabled = alone.enabled;
      heeds = alone.heeds;
      same_throws = calm;
      same_pause = free.no_pause;
      same_step = free.no_step;
      same_place = refl;
    } in
    resumes-until (arrived scripts (reaches place)) scripts input wait history s text x a
    alone.attached alone.no_other paused told.stays answers refl (continue_names scripts told.id place x asks none)
