-- How the exceptions that a session is told of are counted.
use Rattle.std.proofs.Common.{◌≡◌, ℕ, ◌+◌, List, [], ◌∷◌, ◌++◌, length, filter, Bool, true, false, ◌==◌, if◌then◌else◌, refl, ap, sym, subst, ◌∙◌, arith, ne_eqb}
use Rattle.std.proofs.lemmas.Bool.{eqb-true}
use Rattle.std.proofs.lemmas.List.{append_cancel_left}
use Rattle.cdp_host_isolation.specs.Seats.{seat_of}
use Rattle.cdp_host_isolation.specs.Histories.{Entry, Attach, Tell, Take, Detach, Ran, Shut, FitsEntry}
use Rattle.cdp_host_isolation.specs.Alone.{Alone, Seen, Came, Told, Took, Went, alone_at, has_resumed, mark}
use Rattle.cdp_host_isolation.specs.declared.seat.Seat.{Seat}
use Rattle.cdp_host_isolation.specs.declared.seat.Seat.TheVariants.{Attached, Left}
use Rattle.cdp_host_isolation.proofs.AloneLemmas.{follows, see_all}
use Rattle.cdp_host_isolation.proofs.SeatLemmas.{append-new}
use Rattle.cdp_host_isolation.proofs.TextLemmas.{at-behind}
use Rattle.js_tree.specs.declared.script.Script.{Script}
use Rattle.js_semantics.specs.Run.{Run}
use Rattle.cdp_session.specs.Sessions.{Session}
use Rattle.cdp_session.specs.Situations.{Situation}
use Rattle.cdp_session.specs.declared.situation.Pause.{Pause}
use Rattle.cdp_host.specs.Histories.{Meaning, apply, begin, whole}
use Rattle.cdp_host.specs.Programs.{start}
use Rattle.cdp_host.specs.Protocols.{protocol, reply_texts, resume_texts, situation, texts, waiting_for}
use Rattle.cdp_host.specs.Standings.{standing_of}
use Rattle.cdp_host.proofs.HistoryLemmas.{longer}
use Rattle.cdp_host.proofs.ProtocolLemmas.{sent}
use Rattle.cdp_host_laws.specs.Entries.{IsOfOther}
use Rattle.cdp_host_laws.specs.Events.{StaysOver}
use Rattle.cdp_host_laws.specs.Exceptions.{Counts, IsReplyOf, tells_exception}
use Rattle.cdp_host_laws.proofs.EntryTextLemmas.{own-texts}
use Rattle.cdp_host_laws.proofs.EventLaws.{both-filtered, go-picked, is-there, reply-shown, was-here}
use Rattle.cdp_host_laws.proofs.ExceptionRowLemmas.{answer-counts}
use Rattle.cdp_host_laws.proofs.GrowthLemmas.{fits-front, grows}
use Rattle.cdp_host_laws.proofs.SeenLemmas.{Shows, goes-shows, shown-at}
use Rattle.cdp_host_laws.proofs.TextKindLemmas.{none-of, resumed-all}

-- as many exceptions as a session was told of
abbrev pub exceptions_of : Session → ℕ
exceptions_of x = x.exceptions

-- a resume keeps them
pub resumed-count : (scripts : List Script) (x : Session)
    → exceptions_of ((protocol scripts).resumed x) ≡ exceptions_of x
resumed-count scripts x = refl

-- ---- a text of the session

no-resume : (x : Session) → filter tells_exception (resume_texts x) ≡ []
no-resume x =
    none-of tells_exception (resume_texts x) (resumed-all (λ shown. tells_exception shown ≡ false) refl x)

pub reply-next : (scripts : List Script) (input : List (List ℕ)) (wait : Bool) (s : ℕ) (history : List Entry)
    (text : List ℕ) (m k : Meaning Run) (x y : Session) (new : List (List ℕ))
    → StaysOver scripts input wait s history (Tell s text) m k x y → y.outbox ≡ x.outbox ++ new
    → Counts IsReplyOf x.exceptions y.exceptions (filter tells_exception new)
reply-next scripts input wait s history text m k x y new over waits =
    let P = protocol scripts in
    let entry = Tell s text in
    let n = whole scripts input wait history in
    let here = was-here scripts input wait s history entry m k x y over in
    let there = is-there scripts input wait s history entry m k x y over in
    let more = longer scripts input wait history entry in
    let z : Session = P.reply n.stop n.program text x in
    let goes = has_resumed n (apply scripts n entry) in
    let reply = reply_texts scripts n.stop n.program text x in
    let rest = if goes then resume_texts z else [] in
    let at : Situation = situation scripts n.stop (standing_of scripts n.program) in
    let same : new ≡ reply ++ rest
    = append_cancel_left x.outbox new (reply ++ rest)
    (sym waits
    ∙ grows P (texts scripts) (sent scripts) s (start scripts input) wait history entry over.fits x y here there
    ∙ ap (λ l. x.outbox ++ l) (own-texts P (texts scripts) s n text x here)) in
    let picked : filter tells_exception new ≡ filter tells_exception reply
    = ap (λ l. filter tells_exception l) same
    ∙ both-filtered tells_exception reply rest (filter tells_exception reply) refl
    (go-picked tells_exception goes z no-resume) in
    let count : y.exceptions ≡ z.exceptions
    = reply-shown scripts exceptions_of (resumed-count scripts) s n text x y here
    (ap (λ l. seat_of s l.seats) (sym more) ∙ there) in
    let counted : Counts IsReplyOf x.exceptions z.exceptions (filter tells_exception reply) = answer-counts at x text in
    subst (λ l. Counts IsReplyOf x.exceptions y.exceptions l) (sym picked)
    (subst (λ i. Counts IsReplyOf x.exceptions i (filter tells_exception reply)) (sym count) counted)

-- ---- an entry of somebody else

-- what a resume keeps, an entry of somebody else keeps
other_all : (scripts : List Script) (s : ℕ) (a : Alone Run Pause Session) (own : Seen) (others : List Seen) (b : Bool)
    → b ≡ false
    → see_all (protocol scripts) s a (if b then own ∷ [] else others) ≡ see_all (protocol scripts) s a others
other_all scripts s a own others true is = absurd cc
other_all scripts s a own others false is = refl

mark-shows : (scripts : List Script) (s : ℕ) (a : Alone Run Pause Session) (v : ℕ) (b : Bool)
    → Shows exceptions_of v a.seat → Shows exceptions_of v (see_all (protocol scripts) s a (mark b)).seat
mark-shows scripts s a v true is =
    goes-shows (protocol scripts) exceptions_of (resumed-count scripts) v true a is
mark-shows scripts s a v false is = is

unless-shows : (scripts : List Script) (s : ℕ) (a : Alone Run Pause Session) (v : ℕ) (own : Seen) (test b : Bool)
    → test ≡ false → Shows exceptions_of v a.seat
    → Shows exceptions_of v (see_all (protocol scripts) s a (if test then own ∷ [] else mark b)).seat
unless-shows scripts s a v own test b none is =
    subst (λ c. Shows exceptions_of v c.seat) (sym (other_all scripts s a own (mark b) test none))
    (mark-shows scripts s a v b is)

-- a number that has an attached session isn't the next one
not-next : (s : ℕ) (seats : List (Seat Session)) (x : Session) (b : Bool) → (length seats + 1 == s) ≡ b
    → seat_of s seats ≡ Attached x → b ≡ false
not-next s seats x true is here =
    let e : length seats + 1 ≡ s = eqb-true (length seats + 1) s is in
    let left : seat_of s seats ≡ Left = at-behind s seats (omega (arith, e)) in
    absurd cc
not-next s seats x false is here = refl

view-shows : (scripts : List Script) (s : ℕ) (m : Meaning Run) (entry : Entry) (x : Session) → IsOfOther s entry
    → seat_of s m.seats ≡ Attached x → Shows exceptions_of x.exceptions (alone_at s m).seat
    → FitsEntry (protocol scripts) m entry
    → Shows exceptions_of x.exceptions (alone_at s (apply scripts m entry)).seat
view-shows scripts s m Attach x other here is fits =
    subst (λ c. Shows exceptions_of x.exceptions c.seat)
    (sym ((follows (protocol scripts) s m Attach fits).goes
    ∙ other_all scripts s (alone_at s m) Came [] (length m.seats + 1 == s)
    (not-next s m.seats x (length m.seats + 1 == s) refl here)))
    is
view-shows scripts s m (Tell r text) x other here is fits =
    let b = has_resumed m (apply scripts m (Tell r text)) in
    subst (λ c. Shows exceptions_of x.exceptions c.seat) (sym (follows (protocol scripts) s m (Tell r text) fits).goes)
    (unless-shows scripts s (alone_at s m) x.exceptions (Told text b) (r == s) b (ne_eqb r s other) is)
view-shows scripts s m (Take r) x other here is fits =
    subst (λ c. Shows exceptions_of x.exceptions c.seat)
    (sym ((follows (protocol scripts) s m (Take r) fits).goes
    ∙ other_all scripts s (alone_at s m) Took [] (r == s) (ne_eqb r s other)))
    is
view-shows scripts s m (Detach r) x other here is fits =
    let b = has_resumed m (apply scripts m (Detach r)) in
    subst (λ c. Shows exceptions_of x.exceptions c.seat) (sym (follows (protocol scripts) s m (Detach r) fits).goes)
    (unless-shows scripts s (alone_at s m) x.exceptions (Went b) (r == s) b (ne_eqb r s other) is)
view-shows scripts s m (Ran n moment gone) x other here is fits = absurd other
view-shows scripts s m Shut x other here is fits = is

pub other-none : (scripts : List Script) (input : List (List ℕ)) (wait : Bool) (s : ℕ) (history : List Entry)
    (entry : Entry) (m k : Meaning Run) (x y : Session)
    → StaysOver scripts input wait s history entry m k x y → IsOfOther s entry → y.exceptions ≡ x.exceptions
other-none scripts input wait s history entry m k x y over other =
    let P = protocol scripts in
    let n = whole scripts input wait history in
    let front = fits-front P (begin scripts input wait) history entry over.fits in
    let here = was-here scripts input wait s history entry m k x y over in
    let there = is-there scripts input wait s history entry m k x y over in
    let more = longer scripts input wait history entry in
    let before : Shows exceptions_of x.exceptions (alone_at s n).seat
    = subst (λ seat. Shows exceptions_of x.exceptions seat) (sym here) refl in
    shown-at exceptions_of x.exceptions (seat_of s (apply scripts n entry).seats) y
    (ap (λ l. seat_of s l.seats) (sym more) ∙ there)
    (view-shows scripts s n entry x other here before front.1)

-- ---- a new session

new-counts : (scripts : List Script) (s : ℕ) (seat : Seat Session) (x : Session)
    → seat ≡ Attached ((protocol scripts).fresh s) → seat ≡ Attached x → (x.exceptions ≡ 0) × (x.outbox ≡ [])
new-counts scripts s seat x is here =
    let shows : Shows exceptions_of 0 seat = subst (λ w. Shows exceptions_of 0 w) (sym is) refl in
    let waits : Shows waiting_for [] seat = subst (λ w. Shows waiting_for [] w) (sym is) refl in
    (shown-at exceptions_of 0 seat x here shows, shown-at waiting_for [] seat x here waits)

pub new-session : (scripts : List Script) (input : List (List ℕ)) (wait : Bool) (history : List Entry) (x : Session)
    → seat_of (length (whole scripts input wait history).seats + 1)
    (whole scripts input wait (history ++ Attach ∷ [])).seats ≡ Attached x
    → (x.exceptions ≡ 0) × (x.outbox ≡ [])
new-session scripts input wait history x here =
    let m = whole scripts input wait history in
    let s = length m.seats + 1 in
    let new : Seat Session = Attached ((protocol scripts).fresh s) in
    new-counts scripts s (seat_of s (m.seats ++ new ∷ [])) x (append-new new m.seats)
    (ap (λ l. seat_of s l.seats) (sym (longer scripts input wait history Attach)) ∙ here)
