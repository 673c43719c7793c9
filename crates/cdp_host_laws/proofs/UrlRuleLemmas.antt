-- A breakpoint that a client sets by the URL of scripts.
use Rattle.std.proofs.Common.{◌≡◌, ◌⊎◌, ℕ, suc, List, [], ◌∷◌, ◌++◌, Bool, true, false, ◌&&◌, ◌||◌, not, is_some, bytes_eq, option_to_list, if◌then◌else◌, Option, Some, None, inl, inr, refl, ap, sym, ◌∙◌, arith}
use Rattle.std.specs.List.{Contains}
use Rattle.std.specs.Option.{option_map}
use Rattle.std.proofs.lemmas.Slice.Eq.{bytes_eq-Decides}
use Rattle.cdp_text.specs.Position.{IsBefore}
use Rattle.cdp_text.specs.declared.position.Place.{Place}
use Rattle.cdp_text.specs.declared.position.Pos.{Pos}
use Rattle.cdp_json.specs.declared.params.Params.TheVariants as params
use Rattle.cdp_host_isolation.specs.Histories.{Entry, with_seat}
use Rattle.cdp_host_isolation.specs.Meanings.{is_first, is_paused}
use Rattle.cdp_host_isolation.specs.declared.seat.Seat.TheVariants.{Attached}
use Rattle.js_tree.specs.declared.script.Script.{Script}
use Rattle.js_semantics.specs.Run.{Run}
use Rattle.locations.specs.Locations.{break_locations}
use Rattle.locations.specs.Search.{first_from}
use Rattle.locations.specs.declared.spot.Spot.{Spot}
use Rattle.locations.proofs.SearchLemmas.{true_before}
use Rattle.stepping.specs.declared.arrival.Arrival.{Arrival}
use Rattle.stepping.specs.declared.rules.Exceptions.TheVariants as throws
use Rattle.breakpoints.specs.Breakpoints as breakpoints
use Rattle.breakpoints.specs.Breakpoints.{breakpoint_of, is_hit, with_breakpoint}
use Rattle.breakpoints.specs.Hits.{has_place}
use Rattle.breakpoints.specs.Ids.{url_id}
use Rattle.breakpoints.specs.Resolving.{place_in, resolved_by_url, resolved_in, resolved_of}
use Rattle.breakpoints.specs.declared.breakpoint.Breakpoint.{Breakpoint}
use Rattle.cdp_session.specs.Conditions.{hits, is_some_hit}
use Rattle.cdp_session.specs.Replies.{AnsweredText, answer_by, outcome_by}
use Rattle.cdp_session.specs.Rows.{add_by_url, adds, answers}
use Rattle.cdp_session.specs.Sessions.{Session, with_breakpoints}
use Rattle.cdp_session.specs.Situations.{Situation}
use Rattle.cdp_session.specs.Stops.{resumed}
use Rattle.cdp_session_messages.specs.Results.{set_by_url}
use Rattle.cdp_host.specs.Histories.{Meaning, whole}
use Rattle.cdp_host.specs.Programs.{arrival_of, next}
use Rattle.cdp_host.specs.Protocols.{answer_at, situation}
use Rattle.cdp_host.specs.Standings.{standing_of}
use Rattle.cdp_host.specs.Steps.{Step, step_of}
use Rattle.cdp_host_laws.specs.Commands.{DebugsAlone, HasNoBreakpoint, HasNoRequest, IsTold, MaySet, WantsNoThrows, then_told}
use Rattle.cdp_host_laws.specs.Stopping.{GoesOnUntil, arrived}
use Rattle.cdp_host_laws.specs.Words.{AreFirstsOf, StandsIn, StandsNotIn, is_at, is_at_any, reaches_any}
use Rattle.cdp_host_laws.proofs.BreakpointRuleLemmas.{and-true, hit-there, more-hit, stands}
use Rattle.cdp_host_laws.proofs.CommandLemmas.{resumes-until, still-alone, tells-until, told-is}
use Rattle.cdp_host_laws.proofs.NamedLemmas.{Asks, names-by, names_at}
use Rattle.cdp_host_laws.proofs.PlaceRuleLemmas.{first-resolved}
use Rattle.cdp_host_laws.proofs.CommandRowLemmas.{answered}
use Rattle.cdp_host_laws.proofs.RunningRuleLemmas.{resume_answer}
use Rattle.cdp_host_laws.proofs.UnaskedLemmas.{paused-unasked}
use Rattle.cdp_host_laws.proofs.UntilLemmas.{NamesWhere}

-- ---- the places

none_from : (from : Pos) (spots : List Spot) → ((u : Spot) → Contains spots u → IsBefore u.pos from)
    → first_from from spots ≡ None
none_from from [] all = refl
none_from from (s ∷ ss) all =
    ap (λ b. if b then first_from from ss else Some s) (true_before s.pos from (all s (0, omega arith, refl)))
    ∙ none_from from ss (λ u has. all u (suc has.0, omega (arith, has.1), has.2))

not_resolved : (url : List ℕ) (from : Pos) (s : Script) (b : Bool)
    → bytes_eq s.url url ≡ b
    → (s.url ≡ url → (u : Spot) → Contains (break_locations s) u → IsBefore u.pos from)
    → (if b then resolved_in from s else None) ≡ None
not_resolved url from s true is none =
    ap (option_map (place_in s.number))
    (none_from from (break_locations s) (none ((bytes_eq-Decides s.url url).0 is)))
not_resolved url from s false is none = refl

resolved_next : (url : List ℕ) (from : Pos) (s : Script) (places rest : List Place)
    → StandsIn url from s places rest ⊎ StandsNotIn url from s places rest
    → option_to_list (resolved_of url from s) ++ rest ≡ places
resolved_next url from s places rest (inl n) =
    ap (λ o. option_to_list o ++ rest)
    (ap (λ b. if b then resolved_in from s else None) ((bytes_eq-Decides s.url url).1 n.of_url)
    ∙ first-resolved s from n.place n.is_first)
    ∙ sym n.more
resolved_next url from s places rest (inr n) =
    ap (λ o. option_to_list o ++ rest) (not_resolved url from s (bytes_eq s.url url) refl n.none) ∙ sym n.same

resolved_all : (scripts : List Script) (url : List ℕ) (from : Pos) (places : List Place)
    → AreFirstsOf scripts url from places
    → resolved_by_url url from scripts ≡ places
resolved_all [] url from places are = sym are
resolved_all (s ∷ ss) url from places are =
    ap (λ ps. option_to_list (resolved_of url from s) ++ ps) (resolved_all ss url from are.0 are.1)
    ∙ resolved_next url from s places are.0 are.2

-- ---- a session that sets one

abbrev setting : List ℕ → List Place → Session → Session
setting called places x = with_breakpoints (with_breakpoint (breakpoint_of called None places) x.breakpoints) x

abbrev set_answer : ℕ → List ℕ → List Place → Session → AnsweredText
set_answer id called places x =
    answer_by x (outcome_by id (answers (set_by_url called places) (setting called places x)))

any_same : (places : List Place) (here : Place) → has_place here places ≡ is_at_any places (Some here)
any_same [] here = refl
any_same (place ∷ places) here = ap (λ b. is_at place (Some here) || b) (any_same places here)

at_any : (called : List ℕ) (places : List Place) (debugger : Bool) (o : Option Place)
    → (is_some o && (debugger || (stands o (breakpoint_of called None places) && true)))
    ≡ (is_some o && (debugger || is_at_any places o))
at_any called places debugger None = refl
at_any called places debugger (Some here) =
    ap (λ b. debugger || b) (and-true (has_place here places) ∙ any_same places here)

-- it names the arrivals at one of the places, and those at `debugger` statements
named_any : (scripts : List Script) (y : Session) (b : breakpoints.HeldBreakpoints) (called : List ℕ)
    (places : List Place)
    → Asks y throws.Never false None None
    → y.breakpoints ≡ with_breakpoint (breakpoint_of called None places) b
    → b.active ≡ true
    → ((p : Place) → is_hit p b ≡ false)
    → NamesWhere scripts y (arrived scripts (reaches_any places))
named_any scripts y b called places asks held active none = λ r.
    let t : Step = step_of scripts false r in
    let a : Arrival = arrival_of scripts (next scripts r) in
    let new : Breakpoint = breakpoint_of called None places in
    names-by t y throws.Never false None None refl asks
    ∙ ap (λ c. names_at false None None (is_some_hit (hits t.standing y.workspace c a.place)) a a.place) held
    ∙ ap (λ hit. names_at false None None hit a a.place) (more-hit t.standing y.workspace b new a.place active none)
    ∙ hit-there (stands a.place new && true) a a.place
    ∙ at_any called places a.debugger a.place

set_answered : (t : Situation) (id : ℕ) (url : List ℕ) (from : Pos) (places : List Place) (x : Session)
    → AreFirstsOf t.scripts url from places
    → MaySet (url_id from url) x
    → answer_by x (outcome_by id (add_by_url t x url from None)) ≡ set_answer id (url_id from url) places x
set_answered t id url from places x are may =
    let called : List ℕ = url_id from url in
    ap (λ o. answer_by x (outcome_by id (adds o x called None (resolved_by_url url from t.scripts)
    (set_by_url called (resolved_by_url url from t.scripts))))) may.room
    ∙ ap (λ ps. answer_by x (outcome_by id (adds None x called None ps (set_by_url called ps))))
    (resolved_all t.scripts url from places are)

-- told while the program runs
pub url-until : (scripts : List Script) (input : List (List ℕ)) (wait : Bool) (history : List Entry)
    (s : ℕ) (text : List ℕ) (x : Session) (url : List ℕ) (from : Pos) (places : List Place)
    → DebugsAlone s x (whole scripts input wait history)
    → HasNoRequest x
    → WantsNoThrows x
    → HasNoBreakpoint x
    → MaySet (url_id from url) x
    → is_paused (whole scripts input wait history) ≡ false
    → is_first (whole scripts input wait history).phase ≡ false
    → AreFirstsOf scripts url from places
    → IsTold scripts input wait history s text (params.SetBreakpointByUrl url from None)
    → GoesOnUntil (arrived scripts (reaches_any places)) scripts input wait (then_told history s text) s
url-until scripts input wait history s text x url from places alone free calm none may goes begun are told =
    let m : Meaning Run = whole scripts input wait history in
    let t : Situation = situation scripts m.stop (standing_of scripts m.program) in
    let called : List ℕ = url_id from url in
    let a : AnsweredText = set_answer told.id called places x in
    let done : answer_at scripts m.stop m.program text x ≡ a
    = answered t x text told.id told.method (params.SetBreakpointByUrl url from None) told.reads alone.enabled refl
    ∙ set_answered t told.id url from places x are may in
    let asks : Asks a.session throws.Never false None None
    = record {
      enabled = alone.enabled;
      heeds = alone.heeds;
      same_throws = calm;
      same_pause = free.no_pause;
      same_step = free.no_step;
      same_place = free.no_place;
    } in
    tells-until (arrived scripts (reaches_any places)) scripts input wait history s text x a alone.attached
    alone.no_other goes begun told.stays done refl refl alone.enabled
    (named_any scripts a.session x.breakpoints called places asks refl may.active none)

-- told while it is paused, which then goes on
pub url-then-on : (scripts : List Script) (input : List (List ℕ)) (wait : Bool) (history : List Entry)
    (s : ℕ) (text go : List ℕ) (x : Session) (url : List ℕ) (from : Pos) (places : List Place)
    → DebugsAlone s x (whole scripts input wait history)
    → WantsNoThrows x
    → HasNoBreakpoint x
    → MaySet (url_id from url) x
    → is_paused (whole scripts input wait history) ≡ true
    → AreFirstsOf scripts url from places
    → IsTold scripts input wait history s text (params.SetBreakpointByUrl url from None)
    → IsTold scripts input wait (then_told history s text) s go params.Resume
    → GoesOnUntil (arrived scripts (reaches_any places)) scripts input wait
    (then_told (then_told history s text) s go) s
url-then-on scripts input wait history s text go x url from places alone calm none may paused are told resumes =
    let m : Meaning Run = whole scripts input wait history in
    let k : Meaning Run = whole scripts input wait (then_told history s text) in
    let t : Situation = situation scripts m.stop (standing_of scripts m.program) in
    let u : Situation = situation scripts k.stop (standing_of scripts k.program) in
    let free : HasNoRequest x = paused-unasked scripts input wait history s x paused alone.attached in
    let called : List ℕ = url_id from url in
    let a : AnsweredText = set_answer told.id called places x in
    let done : answer_at scripts m.stop m.program text x ≡ a
    = answered t x text told.id told.method (params.SetBreakpointByUrl url from None) told.reads alone.enabled refl
    ∙ set_answered t told.id url from places x are may in
    let set : k ≡ with_seat s (Attached a.session) m
    = told-is scripts input wait history s text x a alone.attached told.stays done refl refl alone.enabled in
    let still : DebugsAlone s a.session k
    = still-alone scripts input wait history s text x a alone set alone.enabled alone.heeds in
    let still_paused : is_paused k ≡ true = ap (λ l. is_paused l) set ∙ paused in
    let b : AnsweredText = resume_answer resumes.id a.session in
    let goes : answer_at scripts k.stop k.program go a.session ≡ b
    = answered u a.session go resumes.id resumes.method params.Resume resumes.reads still.enabled
    (ap not still_paused) in
    let asks : Asks (resumed b.session) throws.Never false None None
    = record {
      enabled = alone.enabled;
      heeds = alone.heeds;
      same_throws = calm;
      same_pause = free.no_pause;
      same_step = free.no_step;
      same_place = free.no_place;
    } in
    resumes-until (arrived scripts (reaches_any places)) scripts input wait (then_told history s text) s go a.session b
    still.attached still.no_other still_paused resumes.stays goes refl
    (named_any scripts (resumed b.session) x.breakpoints called places asks refl may.active none)
