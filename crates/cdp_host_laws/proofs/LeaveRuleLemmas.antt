-- A session that leaves, resumes, skips pauses or is refused.
use Rattle.std.proofs.Common.{◌≡◌, ◌≢◌, ℕ, List, [], ◌∷◌, Bool, true, false, ◌||◌, not, is_some, if◌then◌else◌, Option, Some, None, refl, ap, sym, subst, ◌∙◌}
use Rattle.std.proofs.lemmas.Bool.{or_right}
use Rattle.cdp_text.proofs.TestLemmas.{or_false}
use Rattle.cdp_json.specs.Messages.{refusal_text}
use Rattle.cdp_json.specs.declared.params.Params.TheVariants as params
use Rattle.cdp_json.specs.declared.refusal.Refusal.{Refusal}
use Rattle.cdp_host_isolation.specs.Histories.{Detach, Entry, Tell, apply, asked, detach, tell, with_seat}
use Rattle.cdp_host_isolation.specs.Meanings.{is_enabled_seat, is_first, is_paused, settle}
use Rattle.cdp_host_isolation.specs.Seats.{is_attached, seat_of, some}
use Rattle.cdp_host_isolation.specs.declared.seat.Seat.{Seat}
use Rattle.cdp_host_isolation.specs.declared.seat.Seat.TheVariants.{Attached, Lost, Left}
use Rattle.cdp_host_isolation.proofs.LongerLemmas.{whole-more}
use Rattle.cdp_host_isolation.proofs.SeatLemmas.{put-other, put-same}
use Rattle.cdp_host_isolation.proofs.StopLemmas.{paused-well, some-put}
use Rattle.js_tree.specs.declared.script.Script.{Script}
use Rattle.js_semantics.specs.Run.{Run}
use Rattle.stepping.specs.Causes.{first_cause, stops_at_raise, cause_at}
use Rattle.stepping.specs.declared.arrival.Arrival.{Arrival}
use Rattle.stepping.specs.declared.cause.Cause.TheVariants as causes
use Rattle.stepping.specs.declared.rules.Exceptions.TheVariants as throws
use Rattle.stepping.specs.declared.rules.Rules.{Rules}
use Rattle.cdp_session.specs.Conditions.{is_some_hit}
use Rattle.cdp_session.specs.Replies.{AnsweredText, IsRefused, answer_by, outcome_by, outcome_for, outcome_of}
use Rattle.cdp_session.specs.Rows.{disable, does, resumes}
use Rattle.cdp_session.specs.Sessions.{Session, sent, with_breakpoints, with_rules}
use Rattle.cdp_session.specs.Situations.{Situation, Standing}
use Rattle.cdp_session.specs.Stops.{cause_of, hits_of}
use Rattle.cdp_host.specs.Histories.{Meaning, whole}
use Rattle.cdp_host.specs.Programs.{start}
use Rattle.cdp_host.specs.Protocols.{answer_at, asks_to_resume, asks_to_wake, protocol, situation}
use Rattle.cdp_host.specs.Rules.{NoOtherEnabled}
use Rattle.cdp_host.specs.Standings.{standing_of}
use Rattle.cdp_host.specs.Steps.{Step, step_of}
use Rattle.cdp_host.proofs.ProtocolLemmas.{enabled-kept}
use Rattle.cdp_host_laws.specs.Commands.{HasNoBreakpoint, HasNoRequest, IsTold, WantsNoThrows, then_told}
use Rattle.cdp_host_laws.specs.Leaving.{ChangesOnly, IsLeftToOthers, IsRead, then_left}
use Rattle.cdp_host_laws.specs.Stopping.{GoesOnUntil, arrived}
use Rattle.cdp_host_laws.specs.Words.{at_debugger}
use Rattle.cdp_host_laws.proofs.CommandLemmas.{own-after, tells-until, told-is}
use Rattle.cdp_host_laws.proofs.NamedLemmas.{Asks}
use Rattle.cdp_host_laws.proofs.RanLemmas.{settle-stays}
use Rattle.cdp_host_laws.proofs.CommandRowLemmas.{answered}
use Rattle.cdp_host_laws.proofs.RunningRuleLemmas.{throws-named}
use Rattle.cdp_host_laws.proofs.SettleLemmas.{settle-count, settle-goes, settle-paused, settle-there}
use Rattle.cdp_host_laws.proofs.TellLemmas.{GoesOn, told-kept, told-resumes}
use Rattle.cdp_host_laws.proofs.UntilLemmas.{NamesWhere}

-- ---- a resume

pub resume-leaves : (scripts : List Script) (input : List (List ℕ)) (wait : Bool) (history : List Entry) (s : ℕ)
    (text : List ℕ) (x : Session)
    → seat_of s (whole scripts input wait history).seats ≡ Attached x
    → x.rules.enabled ≡ true
    → is_paused (whole scripts input wait history) ≡ true
    → IsTold scripts input wait history s text params.Resume
    → is_paused (whole scripts input wait (then_told history s text)) ≡ false
resume-leaves scripts input wait history s text x is enabled paused told =
    let P = protocol scripts in
    let m : Meaning Run = whole scripts input wait history in
    let t : Situation = situation scripts m.stop (standing_of scripts m.program) in
    let a : AnsweredText = answer_by x (outcome_by told.id (resumes x)) in
    let answers : answer_at scripts m.stop m.program text x ≡ a
    = answered t x text told.id told.method params.Resume told.reads enabled (ap not paused) in
    let more : whole scripts input wait (then_told history s text) ≡ apply P m (Tell s text)
    = whole-more P (start scripts input) wait history (Tell s text) in
    let on : GoesOn P s (P.reply m.stop m.program text x) m (apply P m (Tell s text))
    = told-resumes P s text m x is paused (ap (λ b. asks_to_resume b.asks) answers)
    (ap (λ l. is_attached (seat_of s l.seats)) (sym more) ∙ told.stays) in
    ap (λ l. is_paused l) more ∙ on.goes

-- ---- a session that leaves

others_off : (scripts : List Script) (seat : Seat Session)
    → ((y : Session) → seat ≡ Attached y → y.rules.enabled ≡ false)
    → is_enabled_seat (protocol scripts) seat ≡ false
others_off scripts (Attached y) off = off y refl
others_off scripts (Lost loss is_reported is_told) off = refl
others_off scripts Left off = refl

-- a seat without the debugger enabled came in the place of one
left_over : (scripts : List Script) (s : ℕ) (new : Seat Session) (m : Meaning Run)
    → is_enabled_seat (protocol scripts) new ≡ false
    → seat_of s m.seats ≢ Left
    → IsLeftToOthers s m (settle (protocol scripts) (with_seat s new m))
left_over scripts s new m off there =
    let P = protocol scripts in
    record {
      same_program = settle-there P (with_seat s new m);
      same_count = settle-count P (with_seat s new m);
      stays = λ r y other is enabled.
          settle-paused P r s new m other (ap (λ seat. is_enabled_seat P seat) is ∙ enabled);
      goes_on = λ none.
          settle-goes P s new m off there (λ r other. others_off scripts (seat_of r m.seats) (λ y. none r y other));
    }

pub detach-leaves : (scripts : List Script) (input : List (List ℕ)) (wait : Bool) (history : List Entry) (s : ℕ)
    (x : Session)
    → seat_of s (whole scripts input wait history).seats ≡ Attached x
    → IsLeftToOthers s (whole scripts input wait history) (whole scripts input wait (then_left history s))
detach-leaves scripts input wait history s x is =
    let P = protocol scripts in
    let m : Meaning Run = whole scripts input wait history in
    let there : seat_of s m.seats ≢ Left = λ none. let e : Attached x ≡ Left = sym is ∙ none in absurd cc in
    let left : whole scripts input wait (then_left history s) ≡ settle P (with_seat s Left m)
    = whole-more P (start scripts input) wait history (Detach s) ∙ ap (λ seat. detach P s m seat) is in
    subst (λ l. IsLeftToOthers s m l) (sym left) (left_over scripts s Left m refl there)

fits_or_not : (scripts : List Script) (s : ℕ) (y : Session) (m : Meaning Run) (b : Bool)
    → y.rules.enabled ≡ false
    → seat_of s m.seats ≢ Left
    → IsLeftToOthers s m
    (if b then settle (protocol scripts) (with_seat s (Attached y) m)
    else settle (protocol scripts) (with_seat s Left m))
fits_or_not scripts s y m true off there = left_over scripts s (Attached y) m off there
fits_or_not scripts s y m false off there = left_over scripts s Left m refl there

pub disable-leaves : (scripts : List Script) (input : List (List ℕ)) (wait : Bool) (history : List Entry) (s : ℕ)
    (text : List ℕ) (x : Session)
    → seat_of s (whole scripts input wait history).seats ≡ Attached x
    → IsRead text params.DebuggerDisable
    → IsLeftToOthers s (whole scripts input wait history) (whole scripts input wait (then_told history s text))
disable-leaves scripts input wait history s text x is told =
    let P = protocol scripts in
    let m : Meaning Run = whole scripts input wait history in
    let t : Situation = situation scripts m.stop (standing_of scripts m.program) in
    let a : AnsweredText = answer_by x (outcome_by told.id (disable x)) in
    let answers : answer_at scripts m.stop m.program text x ≡ a
    = ap (λ r. answer_by x (outcome_for t x r)) told.reads in
    let there : seat_of s m.seats ≢ Left = λ none. let e : Attached x ≡ Left = sym is ∙ none in absurd cc in
    let after : AnsweredText → Meaning Run = λ b.
    if P.fits b.session then asked P (asks_to_resume b.asks) (asks_to_wake b.asks) (with_seat s (Attached b.session) m)
    else settle P (with_seat s Left m) in
    let left : whole scripts input wait (then_told history s text) ≡ after a
    = whole-more P (start scripts input) wait history (Tell s text)
    ∙ ap (λ seat. tell P s text m seat) is
    ∙ ap after answers in
    subst (λ l. IsLeftToOthers s m l) (sym left) (fits_or_not scripts s a.session m (P.fits a.session) refl there)

-- ---- a refusal

pub refused-changes : (scripts : List Script) (input : List (List ℕ)) (wait : Bool) (history : List Entry) (s : ℕ)
    (text : List ℕ) (x : Session) (id : Option ℕ) (refusal : Refusal)
    → seat_of s (whole scripts input wait history).seats ≡ Attached x
    → outcome_of
    (situation scripts (whole scripts input wait history).stop
    (standing_of scripts (whole scripts input wait history).program)) x text ≡ IsRefused id refusal
    → is_attached (seat_of s (whole scripts input wait (then_told history s text)).seats) ≡ true
    → ChangesOnly s (sent (refusal_text id refusal ∷ []) x) (whole scripts input wait history)
    (whole scripts input wait (then_told history s text))
refused-changes scripts input wait history s text x id refusal is refused stays =
    let P = protocol scripts in
    let m : Meaning Run = whole scripts input wait history in
    let y : Session = sent (refusal_text id refusal ∷ []) x in
    let w : Meaning Run = with_seat s (Attached y) m in
    let test : Seat Session → Bool = λ seat. is_enabled_seat P seat in
    let there : seat_of s m.seats ≢ Left = λ none. let e : Attached x ≡ Left = sym is ∙ none in absurd cc in
    let answers : answer_at scripts m.stop m.program text x ≡ answer_by x (IsRefused id refusal)
    = ap (λ o. answer_by x o) refused in
    let more : whole scripts input wait (then_told history s text) ≡ apply P m (Tell s text)
    = whole-more P (start scripts input) wait history (Tell s text) in
    let enabled : is_paused m ≡ true → some test w.seats ≡ true
    = λ paused. some-put test s (Attached y) m.seats (sym (ap test is))
    ∙ (paused-well P (start scripts input) wait history (enabled-kept scripts)).enabled paused in
    let kept : whole scripts input wait (then_told history s text) ≡ w
    = more
    ∙ told-kept P s text m x is (ap (λ l. is_attached (seat_of s l.seats)) (sym more) ∙ stays)
    ∙ ap (λ b. asked P (asks_to_resume b.asks) (asks_to_wake b.asks) (with_seat s (Attached b.session) m)) answers
    ∙ settle-stays P w enabled in
    subst (λ l. ChangesOnly s y m l) (sym kept) (record {
      same_program = refl;
      same_phase = refl;
      same_stop = refl;
      same_count = refl;
      own = put-same s (Attached y) m.seats there;
      others = λ r other. put-other s r (Attached y) m.seats (λ same. other (sym same));
    })

-- ---- a session that skips pauses

abbrev skipping : Session → Session
skipping x = with_rules (record x.rules { skip = true }) x

silent_causes : (r : Rules) (a : Arrival) (hit : Bool) → r.skip ≡ true → first_cause r a hit ≡ None
silent_causes r a hit skips =
    ap (λ b. if b then None else if stops_at_raise r.exceptions a.raised then Some causes.Exception
    else cause_at r a hit a.place) (ap (λ b. not r.enabled || b) skips ∙ or_right (not r.enabled) true refl)

skips_all : (scripts : List Script) (x : Session) → x.rules.skip ≡ true → NamesWhere scripts x (λ r. false)
skips_all scripts x skips = λ r.
    let t : Step = step_of scripts false r in
    or_false (is_some (cause_of t.standing t.arrival x))
    ∙ ap is_some (silent_causes x.rules t.arrival (is_some_hit (hits_of t.standing t.arrival x)) skips)

pub skip-until : (scripts : List Script) (input : List (List ℕ)) (wait : Bool) (history : List Entry) (s : ℕ)
    (text : List ℕ) (x : Session)
    → seat_of s (whole scripts input wait history).seats ≡ Attached x
    → x.rules.enabled ≡ true
    → NoOtherEnabled s (whole scripts input wait history)
    → is_paused (whole scripts input wait history) ≡ false
    → is_first (whole scripts input wait history).phase ≡ false
    → IsTold scripts input wait history s text (params.SetSkipAllPauses true)
    → GoesOnUntil (λ r. false) scripts input wait (then_told history s text) s
skip-until scripts input wait history s text x is enabled off goes begun told =
    let m : Meaning Run = whole scripts input wait history in
    let t : Situation = situation scripts m.stop (standing_of scripts m.program) in
    let a : AnsweredText = answer_by x (outcome_by told.id (does (skipping x))) in
    let answers : answer_at scripts m.stop m.program text x ≡ a
    = answered t x text told.id told.method (params.SetSkipAllPauses true) told.reads enabled refl in
    tells-until (λ r. false) scripts input wait history s text x a is off goes begun told.stays answers refl refl
    enabled (skips_all scripts a.session refl)

-- ---- breakpoints that aren't active

abbrev inactive : Session → Session
inactive x = with_breakpoints (record x.breakpoints { active = false }) x

pub inactive-until : (scripts : List Script) (input : List (List ℕ)) (wait : Bool) (history : List Entry) (s : ℕ)
    (text : List ℕ) (x : Session)
    → seat_of s (whole scripts input wait history).seats ≡ Attached x
    → x.rules.enabled ≡ true
    → x.rules.skip ≡ false
    → NoOtherEnabled s (whole scripts input wait history)
    → HasNoRequest x
    → WantsNoThrows x
    → is_paused (whole scripts input wait history) ≡ false
    → is_first (whole scripts input wait history).phase ≡ false
    → IsTold scripts input wait history s text (params.SetBreakpointsActive false)
    → GoesOnUntil (arrived scripts at_debugger) scripts input wait (then_told history s text) s
inactive-until scripts input wait history s text x is enabled heeds off free calm goes begun told =
    let m : Meaning Run = whole scripts input wait history in
    let t : Situation = situation scripts m.stop (standing_of scripts m.program) in
    let a : AnsweredText = answer_by x (outcome_by told.id (does (inactive x))) in
    let answers : answer_at scripts m.stop m.program text x ≡ a
    = answered t x text told.id told.method (params.SetBreakpointsActive false) told.reads enabled refl in
    let asks : Asks a.session throws.Never false None None
    = record {
      enabled = enabled;
      heeds = heeds;
      same_throws = calm;
      same_pause = free.no_pause;
      same_step = free.no_step;
      same_place = free.no_place;
    } in
    tells-until (arrived scripts at_debugger) scripts input wait history s text x a is off goes begun told.stays answers
    refl refl enabled (throws-named scripts a.session throws.Never at_debugger asks (λ place. refl) (λ b. refl))

-- ---- what such a session names, whatever becomes of the program

pub skip-silent : (scripts : List Script) (input : List (List ℕ)) (wait : Bool) (history : List Entry) (s : ℕ)
    (text : List ℕ) (x y : Session)
    → seat_of s (whole scripts input wait history).seats ≡ Attached x
    → x.rules.enabled ≡ true
    → IsTold scripts input wait history s text (params.SetSkipAllPauses true)
    → seat_of s (whole scripts input wait (then_told history s text)).seats ≡ Attached y
    → (st : Standing) (a : Arrival) → cause_of st a y ≡ None
skip-silent scripts input wait history s text x y is enabled told there st a =
    let m : Meaning Run = whole scripts input wait history in
    let t : Situation = situation scripts m.stop (standing_of scripts m.program) in
    let made : AnsweredText = answer_by x (outcome_by told.id (does (skipping x))) in
    let answers : answer_at scripts m.stop m.program text x ≡ made
    = answered t x text told.id told.method (params.SetSkipAllPauses true) told.reads enabled refl in
    let same : made.session ≡ y
    = own-after s x made.session y m (whole scripts input wait (then_told history s text)) is
    (told-is scripts input wait history s text x made is told.stays answers refl refl enabled) there in
    subst (λ z. cause_of st a z ≡ None) same
    (silent_causes made.session.rules a (is_some_hit (hits_of st a made.session)) refl)

pub inactive-unhit : (scripts : List Script) (input : List (List ℕ)) (wait : Bool) (history : List Entry) (s : ℕ)
    (text : List ℕ) (x y : Session)
    → seat_of s (whole scripts input wait history).seats ≡ Attached x
    → x.rules.enabled ≡ true
    → IsTold scripts input wait history s text (params.SetBreakpointsActive false)
    → seat_of s (whole scripts input wait (then_told history s text)).seats ≡ Attached y
    → HasNoBreakpoint y
inactive-unhit scripts input wait history s text x y is enabled told there =
    let m : Meaning Run = whole scripts input wait history in
    let t : Situation = situation scripts m.stop (standing_of scripts m.program) in
    let made : AnsweredText = answer_by x (outcome_by told.id (does (inactive x))) in
    let answers : answer_at scripts m.stop m.program text x ≡ made
    = answered t x text told.id told.method (params.SetBreakpointsActive false) told.reads enabled refl in
    let same : made.session ≡ y
    = own-after s x made.session y m (whole scripts input wait (then_told history s text)) is
    (told-is scripts input wait history s text x made is told.stays answers refl refl enabled) there in
    subst (λ z. HasNoBreakpoint z) same (λ place. refl)
