-- From a command's answer to where the program goes on until.
use Rattle.std.proofs.Common.{◌≡◌, ℕ, List, Bool, true, false, is_some, if◌then◌else◌, Option, Some, None, refl, ap, sym, subst, ◌∙◌}
use Rattle.cdp_text.specs.declared.position.Place.{Place}
use Rattle.cdp_host_isolation.specs.Histories.{Entry, Tell, apply, with_seat}
use Rattle.cdp_host_isolation.specs.Meanings.{is_enabled_seat, is_first, is_paused, resumed_seat}
use Rattle.cdp_host_isolation.specs.Seats.{is_attached, lost_by, seat_of}
use Rattle.cdp_host_isolation.specs.declared.seat.Loss.TheVariants.{Overrun}
use Rattle.cdp_host_isolation.specs.declared.seat.Seat.{Seat}
use Rattle.cdp_host_isolation.specs.declared.seat.Seat.TheVariants.{Attached, Lost, Left}
use Rattle.cdp_host_isolation.proofs.LongerLemmas.{whole-more}
use Rattle.cdp_host_isolation.proofs.SeatLemmas.{put-other, put-same}
use Rattle.js_tree.specs.declared.script.Script.{Script}
use Rattle.js_semantics.specs.Run.{Run}
use Rattle.breakpoints.specs.Breakpoints as breakpoints
use Rattle.breakpoints.specs.Breakpoints.{is_hit}
use Rattle.pure_eval.specs.Workspaces.{Workspace}
use Rattle.cdp_session.specs.Conditions.{hits, is_some_hit}
use Rattle.cdp_session.specs.Replies.{AnsweredText}
use Rattle.cdp_session.specs.Sessions.{Session}
use Rattle.cdp_session.specs.Situations.{Standing}
use Rattle.cdp_session.specs.Stops.{resumed}
use Rattle.cdp_session.proofs.StopLemmas.{none-hit}
use Rattle.cdp_host.specs.Histories.{Meaning, whole}
use Rattle.cdp_host.specs.Programs.{start}
use Rattle.cdp_host.specs.Protocols.{answer_at, asks_to_resume, asks_to_wake, protocol, texts_fit}
use Rattle.cdp_host.specs.Rules.{NoOtherEnabled}
use Rattle.cdp_host_laws.specs.Commands.{DebugsAlone, then_told}
use Rattle.cdp_host_laws.specs.Stopping.{GoesOnUntil}
use Rattle.cdp_host_laws.proofs.PhaseLemmas.{paused-begun}
use Rattle.cdp_host_laws.proofs.TellLemmas.{GoesOn, told-resumes, told-stays}
use Rattle.cdp_host_laws.proofs.UntilLemmas.{NamesWhere, goes-until}

-- ---- the other sessions

off_seat : (scripts : List Script) (seat : Seat Session)
    → ((y : Session) → seat ≡ Attached y → y.rules.enabled ≡ false)
    → is_enabled_seat (protocol scripts) seat ≡ false
off_seat scripts (Attached y) off = off y refl
off_seat scripts (Lost loss is_reported is_told) off = refl
off_seat scripts Left off = refl

kept_off : (scripts : List Script) (b : Bool) (z : Session) → z.rules.enabled ≡ false
    → is_enabled_seat (protocol scripts) (if b then Attached (resumed z) else lost_by Overrun) ≡ false
kept_off scripts true z off = off
kept_off scripts false z off = refl

resumed_off : (scripts : List Script) (seat : Seat Session) → is_enabled_seat (protocol scripts) seat ≡ false
    → is_enabled_seat (protocol scripts) (resumed_seat (protocol scripts) seat) ≡ false
resumed_off scripts (Attached z) off = kept_off scripts (texts_fit (resumed z)) z off
resumed_off scripts (Lost loss is_reported is_told) off = refl
resumed_off scripts Left off = refl

-- where no other session has the debugger enabled, none has after a resume
resumed_alone : (scripts : List Script) (s : ℕ) (y : Session) (m k : Meaning Run) → GoesOn (protocol scripts) s y m k
    → NoOtherEnabled s m
    → NoOtherEnabled s k
resumed_alone scripts s y m k on off = λ r z other is.
    let E : Seat Session → Bool = λ seat. is_enabled_seat (protocol scripts) seat in
    let before : E (seat_of r m.seats) ≡ false
    = off_seat scripts (seat_of r m.seats) (λ w there. off r w other there) in
    sym (ap E is) ∙ ap E (on.others r other) ∙ resumed_off scripts (seat_of r m.seats) before

-- nor where one session's seat changes alone
put_alone : (s : ℕ) (new : Seat Session) (m : Meaning Run) → NoOtherEnabled s m → NoOtherEnabled s (with_seat s new m)
put_alone s new m off = λ r z other is.
    off r z other (sym (put-other s r new m.seats (λ same. other (sym same))) ∙ is)

-- ---- a command that lets a paused program go on

pub resumes-until : (meets : Run → Bool) (scripts : List Script) (input : List (List ℕ)) (wait : Bool)
    (history : List Entry) (s : ℕ) (text : List ℕ) (x : Session) (a : AnsweredText)
    → seat_of s (whole scripts input wait history).seats ≡ Attached x
    → NoOtherEnabled s (whole scripts input wait history)
    → is_paused (whole scripts input wait history) ≡ true
    → is_attached (seat_of s (whole scripts input wait (then_told history s text)).seats) ≡ true
    → answer_at scripts (whole scripts input wait history).stop (whole scripts input wait history).program text x ≡ a
    → asks_to_resume a.asks ≡ true
    → NamesWhere scripts (resumed a.session) meets
    → GoesOnUntil meets scripts input wait (then_told history s text) s
resumes-until meets scripts input wait history s text x a is off paused stays answer asks names =
    let P = protocol scripts in
    let m : Meaning Run = whole scripts input wait history in
    let more : whole scripts input wait (then_told history s text) ≡ apply P m (Tell s text)
    = whole-more P (start scripts input) wait history (Tell s text) in
    let on : GoesOn P s (P.reply m.stop m.program text x) m (apply P m (Tell s text))
    = told-resumes P s text m x is paused (ap (λ b. asks_to_resume b.asks) answer ∙ asks)
    (ap (λ l. is_attached (seat_of s l.seats)) (sym more) ∙ stays) in
    goes-until meets scripts input wait (then_told history s text) s (resumed a.session)
    (ap (λ l. is_paused l) more ∙ on.goes)
    (ap (λ l. is_first l.phase) more
    ∙ ap is_first on.same_phase
    ∙ paused-begun P (start scripts input) wait history paused)
    (ap (λ l. seat_of s l.seats) more ∙ on.attached ∙ ap (λ b. Attached (resumed b.session)) answer)
    (subst (λ l. NoOtherEnabled s l) (sym more)
    (resumed_alone scripts s (P.reply m.stop m.program text x) m (apply P m (Tell s text)) on off))
    names

-- ---- a command that asks nothing of the program

-- it changes its session alone, where that has the debugger enabled after it
pub told-is : (scripts : List Script) (input : List (List ℕ)) (wait : Bool) (history : List Entry) (s : ℕ)
    (text : List ℕ) (x : Session) (a : AnsweredText)
    → seat_of s (whole scripts input wait history).seats ≡ Attached x
    → is_attached (seat_of s (whole scripts input wait (then_told history s text)).seats) ≡ true
    → answer_at scripts (whole scripts input wait history).stop (whole scripts input wait history).program text x ≡ a
    → asks_to_resume a.asks ≡ false
    → asks_to_wake a.asks ≡ false
    → a.session.rules.enabled ≡ true
    → whole scripts input wait (then_told history s text)
    ≡ with_seat s (Attached a.session) (whole scripts input wait history)
told-is scripts input wait history s text x a is stays answer resumes wakes enabled =
    let P = protocol scripts in
    let m : Meaning Run = whole scripts input wait history in
    let more : whole scripts input wait (then_told history s text) ≡ apply P m (Tell s text)
    = whole-more P (start scripts input) wait history (Tell s text) in
    more
    ∙ told-stays P s text m x is (ap (λ b. asks_to_resume b.asks) answer ∙ resumes)
    (ap (λ b. asks_to_wake b.asks) answer ∙ wakes) (ap (λ b. b.session.rules.enabled) answer ∙ enabled)
    (ap (λ l. is_attached (seat_of s l.seats)) (sym more) ∙ stays)
    ∙ ap (λ b. with_seat s (Attached b.session) m) answer

put_there : (s : ℕ) (x y : Session) (m : Meaning Run) → seat_of s m.seats ≡ Attached x
    → seat_of s (with_seat s (Attached y) m).seats ≡ Attached y
put_there s x y m is =
    put-same s (Attached y) m.seats (λ none. let e : Attached x ≡ Left = sym is ∙ none in absurd cc)

attached_same : (x y : Session) → Attached x ≡ Attached y → x ≡ y
attached_same x y is = cc

-- the session that is attached then is that of the answer
pub own-after : (s : ℕ) (x y z : Session) (m k : Meaning Run)
    → seat_of s m.seats ≡ Attached x
    → k ≡ with_seat s (Attached y) m
    → seat_of s k.seats ≡ Attached z
    → y ≡ z
own-after s x y z m k is told there =
    attached_same y z (sym (put_there s x y m is) ∙ ap (λ l. seat_of s l.seats) (sym told) ∙ there)

-- so it still debugs the program alone
pub still-alone : (scripts : List Script) (input : List (List ℕ)) (wait : Bool) (history : List Entry) (s : ℕ)
    (text : List ℕ) (x : Session) (a : AnsweredText)
    → DebugsAlone s x (whole scripts input wait history)
    → whole scripts input wait (then_told history s text)
    ≡ with_seat s (Attached a.session) (whole scripts input wait history)
    → a.session.rules.enabled ≡ true
    → a.session.rules.skip ≡ false
    → DebugsAlone s a.session (whole scripts input wait (then_told history s text))
still-alone scripts input wait history s text x a alone told enabled heeds =
    let m : Meaning Run = whole scripts input wait history in
    record {
      attached = ap (λ l. seat_of s l.seats) told ∙ put_there s x a.session m alone.attached;
      enabled = enabled;
      heeds = heeds;
      no_other = subst (λ l. NoOtherEnabled s l) (sym told) (put_alone s (Attached a.session) m alone.no_other);
    }

-- told while the program runs
pub tells-until : (meets : Run → Bool) (scripts : List Script) (input : List (List ℕ)) (wait : Bool)
    (history : List Entry) (s : ℕ) (text : List ℕ) (x : Session) (a : AnsweredText)
    → seat_of s (whole scripts input wait history).seats ≡ Attached x
    → NoOtherEnabled s (whole scripts input wait history)
    → is_paused (whole scripts input wait history) ≡ false
    → is_first (whole scripts input wait history).phase ≡ false
    → is_attached (seat_of s (whole scripts input wait (then_told history s text)).seats) ≡ true
    → answer_at scripts (whole scripts input wait history).stop (whole scripts input wait history).program text x ≡ a
    → asks_to_resume a.asks ≡ false
    → asks_to_wake a.asks ≡ false
    → a.session.rules.enabled ≡ true
    → NamesWhere scripts a.session meets
    → GoesOnUntil meets scripts input wait (then_told history s text) s
tells-until meets scripts input wait history s text x a is off goes begun stays answer resumes wakes enabled names =
    let m : Meaning Run = whole scripts input wait history in
    let told : whole scripts input wait (then_told history s text) ≡ with_seat s (Attached a.session) m
    = told-is scripts input wait history s text x a is stays answer resumes wakes enabled in
    goes-until meets scripts input wait (then_told history s text) s a.session
    (ap (λ l. is_paused l) told ∙ goes)
    (ap (λ l. is_first l.phase) told ∙ begun)
    (ap (λ l. seat_of s l.seats) told ∙ put_there s x a.session m is)
    (subst (λ l. NoOtherEnabled s l) (sym told) (put_alone s (Attached a.session) m off))
    names

-- ---- no breakpoint

-- where no breakpoint is hit anywhere, none is hit where the program arrived
pub unhit : (s : Standing) (w : Workspace) (b : breakpoints.HeldBreakpoints) (o : Option Place)
    → ((place : Place) → is_hit place b ≡ false)
    → is_some_hit (hits s w b o) ≡ false
unhit s w b None never = refl
unhit s w b (Some place) never = none-hit s w place b (never place)

-- ---- what is asked

-- a program that is paused is paused somewhere
pub somewhere : {A : Type 0} → (o : Option A) → is_some o ≡ true → (a : A) × (o ≡ Some a)
somewhere None is = absurd cc
somewhere (Some a) is = (a, refl)
