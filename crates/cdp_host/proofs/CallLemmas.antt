-- Calls that change one seat, or add one.
use Rattle.std.proofs.Common.{◌≡◌, ℕ, ◌+◌, List, [], ◌∷◌, ◌++◌, length, take as first, Bool, true, false, Result, Ok, Err, refl, ap, sym, subst, ◌∙◌}
use Rattle.cdp_host_isolation.specs.Histories.{Attach, Entry, Take, apply, take}
use Rattle.cdp_host_isolation.specs.Meanings.{with_seats}
use Rattle.cdp_host_isolation.specs.Runs.{AllFit}
use Rattle.cdp_host_isolation.specs.Seats.{is_attached, put, seat_of, some}
use Rattle.cdp_host_isolation.specs.Standing.{fell, less}
use Rattle.cdp_host_isolation.specs.declared.seat.Seat.{Seat}
use Rattle.cdp_host_isolation.specs.declared.seat.Seat.TheVariants.{Attached, Lost, Left}
use Rattle.cdp_host_isolation.proofs.BrokenLemmas.{none-at}
use Rattle.cdp_host_isolation.proofs.FallenLemmas.{fallen-none, fell-put, less-self, none-fallen}
use Rattle.js_tree.specs.declared.script.Script.{Script}
use Rattle.js_machine.specs.Machines.{Machine}
use Rattle.locations.specs.declared.spot.Spot.{Spot}
use Rattle.breakpoints.specs.PlaceIndex.{without_session}
use Rattle.breakpoints.specs.declared.holding.Holding.{Holding}
use Rattle.pure_eval.specs.Workspaces.{Workspace, begun}
use Rattle.cdp_session_messages.specs.Outboxes.{fits}
use Rattle.cdp_session_messages.specs.declared.session_end.SessionEnd.{SessionEnd}
use Rattle.cdp_session_messages.specs.declared.session_end.SessionEnd.TheVariants as ends
use Rattle.cdp_session.specs.Replies.{AnsweredText}
use Rattle.cdp_session.specs.Sessions.{Session, emptied, fresh}
use Rattle.cdp_session.specs.declared.asks.Asks.{Asks}
use Rattle.cdp_host_seats.specs.Fallbacks.{HasRoom, fallback_held}
use Rattle.cdp_host_seats.specs.declared.fallback.Fallback.{Fallback}
use Rattle.cdp_host_seats.specs.declared.losses.SessionLost.{SessionLost}
use Rattle.cdp_host_seats.proofs.PlacedLemmas.{given-back, put-back}
use Rattle.cdp_host.specs.Hosts.{CarriesOn, HostState, IsSound, Leaves, NoneAttached, meaning_with}
use Rattle.cdp_host.specs.Indexing.{IsIndexOf, IsIndexedAs}
use Rattle.cdp_session.specs.Code.{code_of}
use Rattle.cdp_host.specs.Protocols.{protocol}
use Rattle.cdp_host.specs.Watching.{AnswersAs, AnswersIn}
use Rattle.cdp_host.proofs.HistoryLemmas.{stands-call}
use Rattle.cdp_host.proofs.IndexLemmas.{changed-indexed}
use Rattle.cdp_host_isolation.proofs.RoomLemmas.{put-fits, append-fits}
use Rattle.cdp_host_isolation.proofs.StandingLemmas.{none-append}
use Rattle.cdp_host_isolation.proofs.TextLemmas.{put-length}

-- ---- who is attached

-- an attached seat is that of a session
pub whose : {X : Type 0} → (seat : Seat X) → is_attached seat ≡ true → (x : X) × (seat ≡ Attached x)
whose (Attached x) held = (x, refl)
whose (Lost loss is_reported is_told) held = absurd cc
whose Left held = absurd cc

-- a host works that has somebody attached
pub works-at : {X : Type 0}
    → (s : ℕ) (b : Bool) (seats : List (Seat X))
    → (b ≡ true → some is_attached seats ≡ false)
    → is_attached (seat_of s seats) ≡ true
    → b ≡ false
works-at s true seats alone held = let gone = none-at s seats (alone refl) in absurd cc
works-at s false seats alone held = refl

-- ---- what holds of every host, with other seats

pub sound-more : (scripts coded : List Script) (starts : List (List ℕ)) (found : List (List Spot)) (machine : Machine)
    (b : Bool)
    → (seats news : List (Seat Session)) (count more : ℕ) (index places : List Holding) (held wider : Fallback Session)
    (losses : List SessionLost)
    → IsSound scripts coded starts found machine b seats count index held losses → b ≡ false
    → AllFit (protocol scripts) news
    → IsIndexOf news places
    → HasRoom more wider → fallback_held wider ≡ fallback_held held
    → IsSound scripts coded starts found machine b news more places wider losses
sound-more scripts coded starts found machine b seats news count more index places held wider losses sound works fit
    indexed room same =
    record {
      lines = sound.lines;
      spots = sound.spots;
      code = sound.code;
      shared = sound.shared;
      handed = sound.handed;
      kept = sound.kept;
      quiet = sound.quiet;
      room = λ _. room;
      alone = λ fails. absurd cc;
      gone = ap (λ f. some is_attached f.seats) same ∙ sound.gone;
      indexed = indexed;
      fit = fit;
    }

pub sound-seats : (scripts coded : List Script) (starts : List (List ℕ)) (found : List (List Spot)) (machine : Machine)
    (b : Bool)
    → (seats news : List (Seat Session)) (count : ℕ) (index places : List Holding) (held : Fallback Session)
    (losses : List SessionLost)
    → IsSound scripts coded starts found machine b seats count index held losses → b ≡ false
    → AllFit (protocol scripts) news
    → IsIndexOf news places
    → IsSound scripts coded starts found machine b news count places held losses
sound-seats scripts coded starts found machine b seats news count index places held losses sound works fit indexed =
    sound-more scripts coded starts found machine b seats news count count index places held held losses sound works
    fit indexed (sound.room works) refl

pub nothing-fits : fits [] ≡ true
unfolding fits
nothing-fits = refl

-- the texts that wait fit behind an answer
pub answer-fit : (scripts : List Script) (w : Result Asks SessionEnd) (answer : AnsweredText) (s : ℕ)
    (seats news : List (Seat Session))
    → AnswersIn w answer s seats news
    → AllFit (protocol scripts) seats → AllFit (protocol scripts) news
answer-fit scripts (Ok asks) answer s seats news is fit =
    subst (AllFit (protocol scripts)) (sym is.0)
    (put-fits (protocol scripts) s (Attached answer.session) seats is.2 fit)
answer-fit scripts (Err ends.Overrun) answer s seats news is fit =
    subst (AllFit (protocol scripts)) (sym is.0) (put-fits (protocol scripts) s Left seats tt fit)
answer-fit scripts (Err ends.Memory) answer s seats news is fit =
    subst (AllFit (protocol scripts)) (sym is) (put-fits (protocol scripts) s Left seats tt fit)

-- and behind a take
pub take-fit : (scripts : List Script) (s : ℕ) (seats news : List (Seat Session)) → is_attached (seat_of s seats) ≡ true
    → ((x : Session) → seat_of s seats ≡ Attached x → news ≡ put s (Attached (emptied x)) seats)
    → AllFit (protocol scripts) seats
    → AllFit (protocol scripts) news
take-fit scripts s seats news held are fit =
    let it = whose (seat_of s seats) held in
    subst (AllFit (protocol scripts)) (sym (are it.0 it.1))
    (put-fits (protocol scripts) s (Attached (emptied it.0)) seats nothing-fits fit)

-- and with one session more
pub attach-fit : (scripts : List Script) (x : Session) (n : ℕ) (w : Workspace) (seats news : List (Seat Session))
    → x ≡ fresh n w
    → news ≡ seats ++ Attached x ∷ []
    → AllFit (protocol scripts) seats → AllFit (protocol scripts) news
attach-fit scripts x n w seats news is are fit =
    subst (AllFit (protocol scripts)) (sym are)
    (append-fits (protocol scripts) (Attached x) seats (ap (λ y. fits y.outbox) is ∙ nothing-fits) fit)

-- ---- seats that were lent

-- what became of a text, where the seats are given back
pub answers-back : (w : Result Asks SessionEnd) (answer : AnsweredText) (n s : ℕ)
    (seats lent news rest : List (Seat Session))
    → lent ≡ seats
    → n ≡ length lent
    → AnswersIn w answer s lent news → AnswersIn w answer s seats (first n (news ++ rest))
answers-back (Ok asks) answer n s seats lent news rest same full is = (
  put-back n s (Attached answer.session) lent news rest full is.0
      ∙ ap (put s (Attached answer.session)) same,
  is.1,
  is.2,
)
answers-back (Err ends.Overrun) answer n s seats lent news rest same full is =
    (put-back n s Left lent news rest full is.0 ∙ ap (put s Left) same, is.1)
answers-back (Err ends.Memory) answer n s seats lent news rest same full is =
    put-back n s Left lent news rest full is ∙ ap (put s Left) same

-- what became of it in the seat of its session became of it in all seats
pub answers-placed : (w : Result Asks SessionEnd) (answer : AnsweredText) (s : ℕ) (seats news : List (Seat Session))
    (new : Seat Session)
    → news ≡ put s new seats
    → AnswersAs w answer new
    → AnswersIn w answer s seats news
answers-placed (Ok asks) answer s seats news new is one = (is ∙ ap (λ seat. put s seat seats) one.0, one.1, one.2)
answers-placed (Err ends.Overrun) answer s seats news new is one =
    (is ∙ ap (λ seat. put s seat seats) one.0, one.1)
answers-placed (Err ends.Memory) answer s seats news new is one = is ∙ ap (λ seat. put s seat seats) one

-- what became of it is another seat of that session
answers-put : (w : Result Asks SessionEnd) (answer : AnsweredText) (s : ℕ) (seats news : List (Seat Session))
    → AnswersIn w answer s seats news
    → (seat : Seat Session) × (news ≡ put s seat seats)
answers-put (Ok asks) answer s seats news is = (Attached answer.session, is.0)
answers-put (Err ends.Overrun) answer s seats news is = (Left, is.0)
answers-put (Err ends.Memory) answer s seats news is = (Left, is)

-- an index that has its places has those of all sessions
pub answer-indexed : (w : Result Asks SessionEnd) (answer : AnsweredText) (n s : ℕ)
    (seats lent news rest : List (Seat Session)) (old index : List Holding)
    → lent ≡ seats
    → n ≡ length lent
    → AnswersIn w answer s lent news
    → IsIndexedAs s (seat_of s news) index
    → without_session s index ≡ without_session s old
    → IsIndexOf seats old
    → IsIndexOf (first n (news ++ rest)) index
answer-indexed w answer n s seats lent news rest old index same full is own others indexed =
    let put_there = answers-put w answer s lent news is in
    let back : first n (news ++ rest) ≡ news =
    given-back n news rest (full ∙ sym (put-length s put_there.0 lent) ∙ sym (ap length put_there.1)) in
    subst (λ ss. IsIndexOf ss index) (sym back)
    (changed-indexed s put_there.0 lent news old index put_there.1 own others
    (subst (λ ss. IsIndexOf ss old) (sym same) indexed))

pub take-back : (n s : ℕ) (seats lent news rest : List (Seat Session)) → lent ≡ seats → n ≡ length lent
    → ((x : Session) → seat_of s lent ≡ Attached x → news ≡ put s (Attached (emptied x)) lent)
    → (x : Session) → seat_of s seats ≡ Attached x → first n (news ++ rest) ≡ put s (Attached (emptied x)) seats
take-back n s seats lent news rest same full are x is =
    put-back n s (Attached (emptied x)) lent news rest full (are x (ap (seat_of s) same ∙ is))
    ∙ ap (put s (Attached (emptied x))) same

-- ---- what a call leaves

-- a host with other seats
abbrev pub seated : HostState → List (Seat Session) → HostState
seated h seats = record h { meaning = record h.meaning { seats = seats } }

-- an entry that leads to other seats, where nobody falls
seats-leave : (h : HostState) (entry : Entry) (news : List (Seat Session))
    → ((taken : List (List ℕ))
    → with_seats news (meaning_with h taken) ≡ apply (protocol h.scripts) (meaning_with h taken) entry)
    → (some fell h.meaning.seats ≡ false → some fell news ≡ false) → Leaves h entry (seated h news)
seats-leave h entry news leads stay = record {
  runs = refl;
  works = refl;
  fallen = refl;
  means = λ taken none. record {
    is = sym (less-self (with_seats news (meaning_with h taken))) ∙ ap (less news) (leads taken);
    all_there = λ paused. fallen-none news (stay (none-fallen h.meaning.seats (none paused)));
  };
}

take-here : (h : HostState) (s : ℕ) (news : List (Seat Session)) (x : Session) → seat_of s h.meaning.seats ≡ Attached x
    → news ≡ put s (Attached (emptied x)) h.meaning.seats → Leaves h (Take s) (seated h news)
take-here h s news x is are =
    seats-leave h (Take s) news
    (λ taken. ap (λ ss. with_seats ss (meaning_with h taken)) are
    ∙ ap (take (protocol h.scripts) s (meaning_with h taken)) (sym is))
    (λ none. subst (λ ss. some fell ss ≡ false) (sym are) (fell-put s (Attached (emptied x)) h.meaning.seats refl none))

pub take-leaves : (h old : HostState) (s : ℕ) (news : List (Seat Session))
    → h ≡ old
    → is_attached (seat_of s old.meaning.seats) ≡ true
    → ((x : Session) → seat_of s h.meaning.seats ≡ Attached x → news ≡ put s (Attached (emptied x)) h.meaning.seats)
    → Leaves old (Take s) (seated h news)
take-leaves h old s news same held are =
    let it = whose (seat_of s h.meaning.seats)
    (subst (λ o. is_attached (seat_of s o.meaning.seats) ≡ true) (sym same) held) in
    subst (λ o. Leaves o (Take s) (seated h news)) same (take-here h s news it.0 it.1 (are it.0 it.1))

pub take-stands : (h old new : HostState) (s : ℕ)
    → h ≡ old
    → (h.broken ≡ true → NoneAttached h.meaning.seats)
    → is_attached (seat_of s old.meaning.seats) ≡ true
    → Leaves old (Take s) new → CarriesOn old (Take s) new
take-stands h old new s same alone held leaves = λ scripts input wait history stood.
    let works = subst (λ o. o.broken ≡ false) same
    (works-at s h.broken h.meaning.seats alone
    (subst (λ o. is_attached (seat_of s o.meaning.seats) ≡ true) (sym same) held))
    in
    stands-call scripts input wait old new history (Take s) stood refl tt held leaves works

attach-here : (h : HostState) (news : List (Seat Session)) (x : Session)
    → x ≡ fresh (length h.meaning.seats + 1) (begun (code_of h.scripts))
    → news ≡ h.meaning.seats ++ Attached x ∷ [] → Leaves h Attach (seated h news)
attach-here h news x is are =
    seats-leave h Attach news
    (λ taken. ap (λ ss. with_seats ss (meaning_with h taken)) (are ∙ ap (λ y. h.meaning.seats ++ Attached y ∷ []) is))
    (λ none. subst (λ ss. some fell ss ≡ false) (sym are) (none-append (Attached x) h.meaning.seats refl none))

pub attach-leaves : (h old : HostState) (news : List (Seat Session)) (x : Session)
    → h ≡ old
    → x ≡ fresh (length h.meaning.seats + 1) (begun (code_of h.scripts))
    → news ≡ h.meaning.seats ++ Attached x ∷ [] → Leaves old Attach (seated h news)
attach-leaves h old news x same is are = subst (λ o. Leaves o Attach (seated h news)) same (attach-here h news x is are)

pub attach-stands : (old new : HostState) → old.broken ≡ false → Leaves old Attach new → CarriesOn old Attach new
attach-stands old new works leaves =
    λ scripts input wait history stood. stands-call scripts input wait old new history Attach stood refl tt tt leaves
    works
