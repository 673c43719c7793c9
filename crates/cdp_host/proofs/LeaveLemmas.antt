-- Calls behind which a paused program may go on: texts, and sessions that leave.
use Rattle.std.proofs.Common.{◌≡◌, ℕ, List, Bool, true, false, is_some, if◌then◌else◌, refl, ap, sym, ◌∙◌, None, Ok, Err}
use Rattle.cdp_host_isolation.specs.Histories.{Detach, Entry, Shut, Tell, apply, asked, detach, tell, with_seat}
use Rattle.cdp_host_isolation.specs.Meanings as meanings
use Rattle.cdp_host_isolation.specs.Meanings.{is_enabled_seat, is_paused, resume, resumed_seat, settle, with_seats}
use Rattle.cdp_host_isolation.specs.Passes.{HearsOn, OverAll}
use Rattle.cdp_host_isolation.specs.Protocols.{Protocol}
use Rattle.cdp_host_isolation.specs.Seats.{each, put, seat_of, some, without}
use Rattle.cdp_host_isolation.specs.Standing.{fallen_in, fell, less}
use Rattle.cdp_host_isolation.specs.declared.seat.Seat.{Seat}
use Rattle.cdp_host_isolation.specs.declared.seat.Seat.TheVariants.{Attached, Left}
use Rattle.cdp_host_isolation.proofs.FallenLemmas.{fallen-none, fell-put, less-self, none-fallen}
use Rattle.cdp_host_isolation.proofs.PassLemmas.{on-each}
use Rattle.cdp_session_messages.specs.declared.session_end.SessionEnd.TheVariants as ends
use Rattle.cdp_session.specs.declared.asks.Asks.{Asks}
use Rattle.cdp_session.specs.Replies.{AnsweredText, answer_of}
use Rattle.cdp_session.specs.Sessions.{Session}
use Rattle.cdp_host.specs.Hosts.{CarriesOn, HostState, Leaves, meaning_with, parts_standing}
use Rattle.cdp_host.specs.Protocols.{answer_at, asks_to_resume, asks_to_wake, protocol, situation}
use Rattle.cdp_host.specs.Watching.{AnswersIn}
use Rattle.cdp_host.proofs.HistoryLemmas.{stands-broken, stands-call}
use Rattle.cdp_host.proofs.StandingLemmas.{standing-taken}

-- ---- resumes

-- a paused program that went on, whose sessions were told so, but for those for which there was no memory
pub resumed-is : {C T Q X : Type 0}
    → (P : Protocol C T Q X) (m : meanings.Meaning C Q X) (news : List (Seat X))
    → is_paused m ≡ true
    → OverAll (HearsOn P) m.seats news
    → (let n : meanings.Meaning C Q X = record m { stop = None; seats = news } in n ≡ less news (resume P m))
resumed-is P m news paused over =
    ap (λ ss. record m { stop = None; seats = ss }) (on-each P m.seats news over).0
    ∙ ap (λ b. with_seats
    (without (fallen_in news)
    (if b then record m { stop = None; seats = each (resumed_seat P) m.seats } else m).seats)
    (if b then record m { stop = None; seats = each (resumed_seat P) m.seats } else m))
    (sym paused)

-- one that wasn't paused
pub unresumed-is : {C T Q X : Type 0}
    → (P : Protocol C T Q X) (m : meanings.Meaning C Q X)
    → is_paused m ≡ false
    → m ≡ less m.seats (resume P m)
unresumed-is P m free =
    sym (less-self m)
    ∙ ap (λ b. less m.seats (if b then record m { stop = None; seats = each (resumed_seat P) m.seats } else m))
    (sym free)

-- where some session has the debugger enabled, and where none has
pub settled-is : {C T Q X : Type 0}
    → (P : Protocol C T Q X) (m : meanings.Meaning C Q X)
    → some (is_enabled_seat P) m.seats ≡ true
    → m ≡ less m.seats (settle P m)
settled-is P m enabled = sym (less-self m) ∙ ap (λ b. less m.seats (if b then m else resume P m)) (sym enabled)

pub unsettled-is : {C T Q X : Type 0}
    → (P : Protocol C T Q X) (m n : meanings.Meaning C Q X) (seats : List (Seat X))
    → some (is_enabled_seat P) m.seats ≡ false
    → n ≡ less seats (resume P m) → n ≡ less seats (settle P m)
unsettled-is P m n seats none is = is ∙ ap (λ b. less seats (if b then m else resume P m)) (sym none)

-- ---- what is left

-- a host with another seat of a session
abbrev pub reseated : HostState → ℕ → Seat Session → HostState
reseated old s z = record old { meaning = record old.meaning { seats = put s z old.meaning.seats } }

-- it stays as it was where the program stays paused
abbrev pub StaysPaused : HostState → HostState → Type 0
StaysPaused mid new =
    is_paused new.meaning ≡ true → (new.meaning.seats ≡ mid.meaning.seats) × (new.meaning.stop ≡ mid.meaning.stop)

pub leaves-told : (old mid new : HostState) (s : ℕ) (entry : Entry) (z : Seat Session)
    → fell z ≡ false
    → mid ≡ reseated old s z
    → new.scripts ≡ mid.scripts → new.broken ≡ mid.broken → new.fallen ≡ mid.fallen → StaysPaused mid new
    → ((taken : List (List ℕ))
    → meaning_with new taken ≡ less new.meaning.seats (apply (protocol old.scripts) (meaning_with old taken) entry))
    → Leaves old entry new
leaves-told old mid new s entry z whole_seat is same works kept stays means = record {
  runs = same ∙ ap (λ h. h.scripts) is;
  works = works ∙ ap (λ h. h.broken) is;
  fallen = kept ∙ ap (λ h. h.fallen) is;
  means = λ taken there. record {
    is = means taken;
    all_there = λ paused.
        let both = stays paused in
        let before : is_paused old.meaning ≡ true = ap is_some (sym (ap (λ h. h.meaning.stop) is) ∙ sym both.1)
        ∙ paused in
        ap fallen_in (both.0 ∙ ap (λ h. h.meaning.seats) is)
        ∙ fallen-none (put s z old.meaning.seats)
        (fell-put s z old.meaning.seats whole_seat (none-fallen old.meaning.seats (there before)));
  };
}

-- ---- a text

-- its answer doesn't depend on the texts that were taken from the machine
pub answer-seen : (h : HostState) (taken : List (List ℕ)) (x : Session) (text : List ℕ)
    → answer_of (situation h.scripts h.meaning.stop (parts_standing h.scripts h.meaning.program))
    x text ≡ answer_at h.scripts h.meaning.stop (meaning_with h taken).program text x
answer-seen h taken x text =
    ap (λ d. answer_of (situation h.scripts h.meaning.stop d) x text) (standing-taken h.scripts h.meaning.program taken)

apply-kept : {C T Q X : Type 0}
    → (P : Protocol C T Q X) (s : ℕ) (text : List ℕ) (m : meanings.Meaning C Q X) (x y : X) (go begin : Bool)
    → seat_of s m.seats ≡ Attached x
    → y ≡ P.reply m.stop m.program text x
    → go ≡ P.resumes m.stop m.program text x
    → begin ≡ P.wakes m.stop m.program text x
    → P.fits y ≡ true
    → asked P go begin (with_seat s (Attached y) m) ≡ apply P m (Tell s text)
apply-kept {C} {T} {Q} {X} P s text m x y go begin had is goes begins fit =
    let Y : X = P.reply m.stop m.program text x in
    let G : Bool = P.resumes m.stop m.program text x in
    let B : Bool = P.wakes m.stop m.program text x in
    ap (λ v. asked P go begin (with_seat s (Attached v) m)) is
    ∙ ap (λ b. asked P b begin (with_seat s (Attached Y) m)) goes
    ∙ ap (λ b. asked P G b (with_seat s (Attached Y) m)) begins
    ∙ ap (λ b. if b then asked P G B (with_seat s (Attached Y) m) else settle P (with_seat s Left m))
    (sym (ap P.fits (sym is) ∙ fit))
    ∙ ap (tell P s text m) (sym had)

apply-over : {C T Q X : Type 0}
    → (P : Protocol C T Q X) (s : ℕ) (text : List ℕ) (m : meanings.Meaning C Q X) (x y : X)
    → seat_of s m.seats ≡ Attached x
    → y ≡ P.reply m.stop m.program text x → P.fits y ≡ false → settle P (with_seat s Left m) ≡ apply P m (Tell s text)
apply-over {C} {T} {Q} {X} P s text m x y had is over =
    let Y : X = P.reply m.stop m.program text x in
    ap (λ b. if b then asked P (P.resumes m.stop m.program text x) (P.wakes m.stop m.program text x)
    (with_seat s (Attached Y) m) else settle P (with_seat s Left m))
    (sym (ap P.fits (sym is) ∙ over))
    ∙ ap (tell P s text m) (sym had)

apply-left : {C T Q X : Type 0}
    → (P : Protocol C T Q X) (s : ℕ) (m : meanings.Meaning C Q X) (x : X)
    → seat_of s m.seats ≡ Attached x
    → settle P (with_seat s Left m) ≡ apply P m (Detach s)
apply-left P s m x had = ap (detach P s m) (sym had)

-- the answer to a text, as the code sees the program
abbrev pub becomes : HostState → List ℕ → Session → AnsweredText
becomes h text x = answer_of (situation h.scripts h.meaning.stop (parts_standing h.scripts h.meaning.program)) x text

-- a host whose seats alone changed
abbrev pub OnlySeats : HostState → HostState → Type 0
OnlySeats old mid = mid ≡ record old { meaning = record old.meaning { seats = mid.meaning.seats } }

put_is : (old mid : HostState) (s : ℕ) (z : Seat Session)
    → OnlySeats old mid
    → mid.meaning.seats ≡ put s z old.meaning.seats
    → mid ≡ reseated old s z
put_is old mid s z same is = same ∙ ap (λ ss. record old { meaning = record old.meaning { seats = ss } }) is

pub leaves-kept : (old mid new : HostState) (s : ℕ) (text : List ℕ) (x : Session) (asks : Asks)
    → seat_of s old.meaning.seats ≡ Attached x
    → OnlySeats old mid
    → AnswersIn (Ok asks) (becomes old text x) s old.meaning.seats mid.meaning.seats
    → new.scripts ≡ mid.scripts → new.broken ≡ mid.broken → new.fallen ≡ mid.fallen → StaysPaused mid new
    → ((taken : List (List ℕ))
    → meaning_with new taken ≡ less new.meaning.seats
    (asked (protocol mid.scripts) (asks_to_resume asks) (asks_to_wake asks) (meaning_with mid taken)))
    → Leaves old (Tell s text) new
leaves-kept old mid new s text x asks had only answers same works kept stays means =
    let y : Session = (becomes old text x).session in
    let is : mid ≡ reseated old s (Attached y) = put_is old mid s (Attached y) only answers.0 in
    leaves-told old mid new s (Tell s text) (Attached y) refl is same works kept stays
    (λ taken.
    let seen = answer-seen old taken x text in
    means taken
    ∙ ap (λ h. less new.meaning.seats
    (asked (protocol h.scripts) (asks_to_resume asks) (asks_to_wake asks) (meaning_with h taken)))
    is
    ∙ ap (less new.meaning.seats)
    (apply-kept (protocol old.scripts) s text (meaning_with old taken) x y (asks_to_resume asks) (asks_to_wake asks) had
    (ap (λ a. a.session) seen)
    (ap asks_to_resume (answers.1 ∙ ap (λ a. a.asks) seen)) (ap asks_to_wake (answers.1 ∙ ap (λ a. a.asks) seen))
    answers.2))

pub leaves-over : (old mid new : HostState) (s : ℕ) (text : List ℕ) (x : Session)
    → seat_of s old.meaning.seats ≡ Attached x
    → OnlySeats old mid
    → AnswersIn (Err ends.Overrun) (becomes old text x) s old.meaning.seats mid.meaning.seats
    → new.scripts ≡ mid.scripts → new.broken ≡ mid.broken → new.fallen ≡ mid.fallen → StaysPaused mid new
    → ((taken : List (List ℕ))
    → meaning_with new taken ≡ less new.meaning.seats (settle (protocol mid.scripts) (meaning_with mid taken)))
    → Leaves old (Tell s text) new
leaves-over old mid new s text x had only answers same works kept stays means =
    let y : Session = (becomes old text x).session in
    let is : mid ≡ reseated old s Left = put_is old mid s Left only answers.0 in
    leaves-told old mid new s (Tell s text) Left refl is same works kept stays
    (λ taken.
    means taken
    ∙ ap (λ h. less new.meaning.seats (settle (protocol h.scripts) (meaning_with h taken))) is
    ∙ ap (less new.meaning.seats)
    (apply-over (protocol old.scripts) s text (meaning_with old taken) x y had
    (ap (λ a. a.session) (answer-seen old taken x text)) answers.1))

-- a session that leaves
pub leaves-left : (old mid new : HostState) (s : ℕ) (x : Session)
    → seat_of s old.meaning.seats ≡ Attached x
    → OnlySeats old mid
    → mid.meaning.seats ≡ put s Left old.meaning.seats
    → new.scripts ≡ mid.scripts → new.broken ≡ mid.broken → new.fallen ≡ mid.fallen → StaysPaused mid new
    → ((taken : List (List ℕ))
    → meaning_with new taken ≡ less new.meaning.seats (settle (protocol mid.scripts) (meaning_with mid taken)))
    → Leaves old (Detach s) new
leaves-left old mid new s x had only seats same works kept stays means =
    let is : mid ≡ reseated old s Left = put_is old mid s Left only seats in
    leaves-told old mid new s (Detach s) Left refl is same works kept stays
    (λ taken.
    means taken
    ∙ ap (λ h. less new.meaning.seats (settle (protocol h.scripts) (meaning_with h taken))) is
    ∙ ap (less new.meaning.seats) (apply-left (protocol old.scripts) s (meaning_with old taken) x had))

-- where nothing changed, it stays paused
pub stays-same : (mid new : HostState) → (is_paused new.meaning ≡ true → new ≡ mid) → StaysPaused mid new
stays-same mid new stays = λ paused. (ap (λ h. h.meaning.seats) (stays paused), ap (λ h. h.meaning.stop) (stays paused))

-- ---- shutting

pub leaves-shut : (old : HostState) → Leaves old Shut (record old { meaning = record old.meaning { shut = true } })
leaves-shut old = record {
  runs = refl;
  works = refl;
  fallen = refl;
  means =
      λ taken there. record {
        is = sym
            (less-self (record (meaning_with old taken) { shut = true }));
        all_there = there;
      };
}

pub shut-stands : (old : HostState) (b : Bool)
    → old.broken ≡ b
    → CarriesOn old Shut (record old { meaning = record old.meaning { shut = true } })
shut-stands old false works = λ scripts input wait history stood.
    stands-call scripts input wait old (record old { meaning = record old.meaning { shut = true } })
    history Shut stood refl tt tt (leaves-shut old) works
shut-stands old true fails = λ scripts input wait history stood.
    stands-broken scripts input wait old (record old { meaning = record old.meaning { shut = true } }) history Shut
    stood refl fails tt (stood.lost fails)
