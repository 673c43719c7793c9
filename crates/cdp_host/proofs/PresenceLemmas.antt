-- What a host answers of a session is so by the history for which it stands.
use Rattle.std.proofs.Common.{◌≡◌, ℕ, List, Bool, true, false, not, if◌then◌else◌, Option, refl, ap, sym, ◌∙◌}
use Rattle.cdp_host_isolation.specs.Histories.{Entry}
use Rattle.cdp_host_isolation.specs.Makers.{entries_of}
use Rattle.cdp_host_isolation.specs.Meanings.{is_paused, waits}
use Rattle.cdp_host_isolation.specs.Seats.{fallen, is_attached, is_listed, seat_of}
use Rattle.cdp_host_isolation.specs.Standing.{fallen_in}
use Rattle.cdp_host_isolation.specs.declared.seat.Loss.TheVariants.{Overrun, Memory}
use Rattle.cdp_host_isolation.specs.declared.seat.Seat.{Seat}
use Rattle.cdp_host_isolation.specs.declared.seat.Seat.TheVariants.{Attached, Lost, Left}
use Rattle.js_tree.specs.declared.script.Script.{Script}
use Rattle.js_semantics.specs.Run.{Run}
use Rattle.cdp_session.specs.Replies.{AnsweredText}
use Rattle.cdp_session.specs.Sessions.{Session}
use Rattle.cdp_host_seats.specs.Losses.{loss_told}
use Rattle.cdp_host_seats.specs.declared.losses.SessionLost.{SessionLost}
use Rattle.cdp_host_turns.specs.Debuggings.{Debugging, meaning}
use Rattle.cdp_host_turns.specs.Presences.{FitsAs, IsAttached, overflows, overran, seat_after, tells_overrun}
use Rattle.cdp_host_turns.specs.States.{tells_shut}
use Rattle.cdp_host_turns.specs.declared.answers.Told.{Told}
use Rattle.cdp_host_turns.specs.declared.answers.Told.TheVariants as told
use Rattle.cdp_host_turns.specs.declared.state.State.{State}
use Rattle.cdp_host_turns.specs.declared.state.State.TheVariants.{Broken, Shut, Threw, Ended, Paused, Waiting, Ready}
use Rattle.cdp_host.specs.Debugged.{StandsOwned, debugging}
use Rattle.cdp_host.specs.Histories.{Meaning, whole}
use Rattle.cdp_host.specs.Hosts.{HostState, meaning_with, state_at}
use Rattle.cdp_host.specs.Programs.{has_thrown, is_over, printed_of}
use Rattle.cdp_host.specs.Protocols.{protocol, replied, texts_fit}
use Rattle.cdp_host.specs.States.{state_of}
use Rattle.cdp_host.proofs.HeldLemmas.{held-seat, host-seat}
use Rattle.cdp_host.proofs.HostedLemmas.{works-if}
use Rattle.cdp_host.proofs.LeaveLemmas.{answer-seen, becomes}

-- ---- one seat

attached-as : {X : Type 0} → (seat : Seat X) → is_attached seat ≡ true → (x : X) × (seat ≡ Attached x)
attached-as (Attached x) held = (x, refl)
attached-as (Lost loss is_reported is_told) held = absurd cc
attached-as Left held = absurd cc

-- who falls didn't overrun
overran-fallen : {X : Type 0} → (b : Bool) (seat : Seat X) → overran (if b then fallen seat else seat) ≡ overran seat
overran-fallen true (Attached x) = refl
overran-fallen true (Lost loss is_reported is_told) = refl
overran-fallen true Left = refl
overran-fallen false seat = refl

tells-overran : {X : Type 0} → (s : ℕ) (seat : Seat X) → tells_overrun (loss_told s seat) ≡ overran seat
tells-overran s (Attached x) = refl
tells-overran s (Lost Overrun is_reported true) = refl
tells-overran s (Lost Overrun is_reported false) = refl
tells-overran s (Lost Memory is_reported true) = refl
tells-overran s (Lost Memory is_reported false) = refl
tells-overran s Left = refl

-- ---- answers, by what they say of a text

fits-by : (d : Debugging) (s : ℕ) (text : List ℕ) (h : List (ℕ × Entry)) (fit : Bool) (answer : Told)
    → overflows d.protocol (meaning d h) text (seat_after d s h) ≡ not fit → (answer ≡ told.Kept → fit ≡ true)
    → (answer ≡ told.Overrun → fit ≡ false) → FitsAs d s text answer h
fits-by d s text h fit told.Kept is kept over = is ∙ ap not (kept refl)
fits-by d s text h fit told.Overrun is kept over = is ∙ ap not (over refl)
fits-by d s text h fit told.Memory is kept over = tt

told-shut : (b t o p w : Bool)
    → tells_shut
    (if b then Shut else if t then Threw else if o then Ended else if p then Paused else if w then Waiting else Ready)
    ≡ b
told-shut true t o p w = refl
told-shut false true o p w = refl
told-shut false false true p w = refl
told-shut false false false true w = refl
told-shut false false false false true = refl
told-shut false false false false false = refl

-- ---- a host that stands for a history

module _ (scripts : List Script) (input : List (List ℕ)) (wait : Bool) (host : HostState) (s : ℕ) (h : List (ℕ × Entry))
    (stood : StandsOwned scripts input wait host h) where
  abbrev m : Meaning Run
  m = whole scripts input wait (entries_of h)

  abbrev mine : Meaning Run
  mine = meaning_with host (printed_of m.program)

  works : is_attached (seat_of s host.meaning.seats) ≡ true → host.broken ≡ false
  works held = works-if s host.broken host.meaning.seats (λ fails. (stood.stands.lost fails).alone) held

  -- whom it holds the history has as attached
  pub owned-attached : is_attached (seat_of s host.meaning.seats) ≡ true → IsAttached (debugging scripts input wait) s h
  owned-attached held =
      ap (λ (seat : Seat Session). is_attached seat)
      (held-seat mine m s (stood.stands.means (works held)) held)
      ∙ held

  -- while it holds somebody it tells whether the program was shut
  pub owned-shut : (state : State) → ((taken : List (List ℕ)) → state ≡ state_at host taken)
      → is_attached (seat_of s host.meaning.seats) ≡ true
      → tells_shut state ≡ (meaning (debugging scripts input wait) h).shut
  owned-shut state is held =
      ap tells_shut
      (is (printed_of m.program)
      ∙ ap (λ (b : Bool). if b then Broken else state_of mine) (works held)
      ∙ ap (λ (k : Meaning Run). state_of k) (stood.stands.means (works held)).is)
      ∙ told-shut m.shut (has_thrown m.program) (is_over m.program) (is_paused m) (waits m.phase)

  -- what a session becomes by a text
  replied-same : (text : List ℕ) (x : Session) → host.broken ≡ false
      → (becomes host text x).session ≡ replied scripts m.stop m.program text x
  replied-same text x holds =
      ap (λ (a : AnsweredText). a.session) (answer-seen host (printed_of m.program) x text)
      ∙ ap (λ (k : Meaning Run). replied host.scripts k.stop k.program text x) (stood.stands.means holds).is
      ∙ ap (λ (ss : List Script). replied ss m.stop m.program text x) stood.stands.runs

  -- its texts fit by the history where they fit by the host
  pub owned-fits : (text : List ℕ) (answer : Told) → is_attached (seat_of s host.meaning.seats) ≡ true
      → (answer ≡ told.Kept → (x : Session) → seat_of s host.meaning.seats ≡ Attached x
      → texts_fit (becomes host text x).session ≡ true)
      → (answer ≡ told.Overrun → (x : Session) → seat_of s host.meaning.seats ≡ Attached x
      → texts_fit (becomes host text x).session ≡ false)
      → FitsAs (debugging scripts input wait) s text answer h
  owned-fits text answer held kept over =
      let x = attached-as (seat_of s host.meaning.seats) held in
      fits-by (debugging scripts input wait) s text h (texts_fit (becomes host text x.0).session) answer
      (ap (overflows (protocol scripts) m text)
      (held-seat mine m s (stood.stands.means (works held)) held ∙ x.1)
      ∙ ap (λ (y : Session). not (texts_fit y)) (sym (replied-same text x.0 (works held))))
      (λ is. kept is x.0 x.1) (λ is. over is x.0 x.1)

  -- the loss of which its owner is told
  overran-same : (b : Bool) → host.broken ≡ b
      → overran (seat_of s host.meaning.seats) ≡ overran (seat_after (debugging scripts input wait) s h)
  overran-same true fails =
      ap (λ (seats : List (Seat Session)). overran (seat_of s seats)) (stood.stands.lost fails).same
  overran-same false holds =
      ap (λ (seat : Seat Session). overran seat) (host-seat mine m s (stood.stands.means holds))
      ∙ overran-fallen (is_listed (fallen_in host.meaning.seats) s) (seat_of s m.seats)

  pub owned-told : (lost : Option SessionLost) → lost ≡ loss_told s (seat_of s host.meaning.seats)
      → tells_overrun lost ≡ overran (seat_after (debugging scripts input wait) s h)
  owned-told lost is =
      ap tells_overrun is ∙ tells-overran s (seat_of s host.meaning.seats) ∙ overran-same host.broken refl
