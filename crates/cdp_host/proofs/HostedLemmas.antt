-- A host stands for histories in which each session is its owner's.
use Rattle.std.specs.declared.alloc.AllocError.{AllocError}
use Rattle.std.proofs.Common.{Result, Ok, Err, IfOk, IsErr, OnOk, ◌≡◌, ◌≢◌, ◌⊎◌, inl, inr, ℕ, zero, suc, ◌+◌, List, [], ◌∷◌, ◌++◌, length, Bool, true, false, ◌||◌, if◌then◌else◌, refl, ap, sym, subst, ◌∙◌, arith}
use Rattle.std.proofs.lemmas.List.{map-append}
use Rattle.cdp_host_isolation.specs.Histories.{Entry, Tell, Take, Detach, Ran, apply as apply_any, steps_made, waiting}
use Rattle.cdp_host_isolation.specs.Makers.{IsOwned, Owns, entries_of, entry_of, owners_from}
use Rattle.cdp_host_isolation.specs.Meanings.{is_paused, is_ready, settle, waits, with_seats}
use Rattle.cdp_host_isolation.specs.Runs.{IsLongest, mid, mids}
use Rattle.cdp_host_isolation.specs.Seats.{each, fallen, is_attached, is_listed, numbers_from, reported, seat_of, some, without, without_from}
use Rattle.cdp_host_isolation.specs.Standing.{BrokenAs, StandsAs, broken_seat, fallen_in, fell}
use Rattle.cdp_host_isolation.specs.Stops as stops
use Rattle.cdp_host_isolation.specs.declared.seat.Loss.TheVariants.{Overrun, Memory}
use Rattle.cdp_host_isolation.specs.declared.seat.Seat.{Seat}
use Rattle.cdp_host_isolation.specs.declared.seat.Seat.TheVariants.{Attached, Lost, Left}
use Rattle.cdp_host_isolation.proofs.BrokenLemmas.{broken-ran, none-at, stands-length}
use Rattle.cdp_host_isolation.proofs.FallenLemmas.{itself, mids-less, without-below, without-none}
use Rattle.cdp_host_isolation.proofs.LongerLemmas.{fits-more, whole-more}
use Rattle.cdp_host_isolation.proofs.MakerLemmas.{owned-more, owner-may}
use Rattle.cdp_host_isolation.proofs.StepLemmas.{ready-none}
use Rattle.cdp_host_isolation.proofs.StopLemmas.{entry-program, plain-more, plain-way-from}
use Rattle.js_tree.specs.declared.script.Script.{Script}
use Rattle.js_semantics.specs.Run as runs
use Rattle.js_semantics.specs.Run.{Run}
use Rattle.cdp_session.specs.Sessions.{Session}
use Rattle.cdp_host_seats.specs.Losses.{losses_from}
use Rattle.cdp_host_seats.specs.declared.losses.SessionLost.{SessionLost}
use Rattle.cdp_host_turns.specs.Debuggings as debuggings
use Rattle.cdp_host_turns.specs.Debuggings.{Debugging, meaning}
use Rattle.cdp_host_turns.specs.Entries.{lost_for_memory, told_entry}
use Rattle.cdp_host_turns.specs.States.{HasState}
use Rattle.cdp_host_turns.specs.declared.answers.Told.{Told}
use Rattle.cdp_host_turns.specs.declared.answers.Told.TheVariants as told
use Rattle.cdp_host_turns.specs.declared.state.State.{State}
use Rattle.cdp_host_turns.specs.declared.state.State.TheVariants.{Broken, Shut, Threw, Ended, Paused, Waiting, Ready}
use Rattle.cdp_host.specs.Debugged.{StandsOwned, debugging}
use Rattle.cdp_host.specs.Histories.{Meaning, begin, whole}
use Rattle.cdp_host.specs.Hosts.{CarriesOn, HostState, PrintsOn, RunsTo, StandsFor, meaning_with, state_at}
use Rattle.cdp_host.specs.Programs.{has_thrown, is_over, printed_of, start}
use Rattle.cdp_host.specs.Protocols.{protocol}
use Rattle.cdp_host.specs.States.{state_of}
use Rattle.cdp_host.proofs.HeldLemmas.{held-seat}
use Rattle.cdp_host.proofs.HistoryLemmas.{stands-broken}
use Rattle.cdp_host.proofs.RunLemmas.{all-there, lost-fallen}

-- ---- one entry more

entries-more : (h : List (ℕ × Entry)) (k : ℕ) (entry : Entry) → entries_of (h ++ (k, entry) ∷ []) ≡ entries_of h ++ entry ∷ []
entries-more h k entry = map-append entry_of h ((k, entry) ∷ [])

pub owned-on : (scripts : List Script) (input : List (List ℕ)) (wait : Bool) (old new : HostState) (k : ℕ) (entry : Entry)
    (h : List (ℕ × Entry)) → CarriesOn old entry new → IsOwned (owners_from [] h) k entry
    → StandsOwned scripts input wait old h → StandsOwned scripts input wait new (h ++ (k, entry) ∷ [])
owned-on scripts input wait old new k entry h carries owned s = record {
  stands =
      subst (StandsFor scripts input wait new) (sym (entries-more h k entry)) (carries scripts input wait (entries_of h) s.stands);
  owned = owned-more [] h k entry s.owned owned;
}

-- a turn by nobody leaves a host as it is
pub owned-idle : (scripts : List Script) (input : List (List ℕ)) (wait : Bool) (host : HostState) (k : ℕ) (h : List (ℕ × Entry))
    → StandsOwned scripts input wait host h → StandsOwned scripts input wait host (h ++ (k, Take 0) ∷ [])
owned-idle scripts input wait host k h s = owned-on scripts input wait host host k (Take 0) h carries tt s
  where
    carries : CarriesOn host (Take 0) host
    carries scripts input wait history stood =
        let more = whole-more (protocol scripts) (start scripts input) wait history (Take 0) in
        record {
          runs = stood.runs;
          fits = fits-more (protocol scripts) (begin scripts input wait) history (Take 0) stood.fits tt;
          means = λ works. subst (λ (m : Meaning Run). StandsAs (meaning_with host (printed_of m.program)) m) (sym more) (stood.means works);
          lost = λ fails. subst (λ (m : Meaning Run). BrokenAs host.meaning.seats m.seats) (sym more) (stood.lost fails);
        }

pub owned-history : (scripts : List Script) (input : List (List ℕ)) (wait : Bool) (host : HostState) (h : List (ℕ × Entry))
    → StandsOwned scripts input wait host h → debuggings.IsHistory (debugging scripts input wait) h
owned-history scripts input wait host h s = record { fits = s.stands.fits; owned = s.owned }

-- ---- where a call succeeds

pub ok-owned : {A E : Type 0} (r : Result A E) (P Q : Type 0) → (P → Q) → OnOk r P → OnOk r Q
ok-owned (Ok value) P Q f holds = f holds
ok-owned (Err error) P Q f holds = tt

pub attach-next : (scripts : List Script) (input : List (List ℕ)) (wait : Bool) (old : HostState) (r : Result ℕ AllocError)
    → IfOk r (λ s. s ≡ length old.meaning.seats + 1) → (old.broken ≡ true → IsErr r)
    → IfOk r (λ s. (h : List (ℕ × Entry)) → StandsOwned scripts input wait old h → s ≡ length (meaning (debugging scripts input wait) h).seats + 1)
attach-next scripts input wait old (Ok s) number works = λ h stood. by_works (old.broken) refl h stood
  where
    by_works : (b : Bool) → old.broken ≡ b → (h : List (ℕ × Entry)) → StandsOwned scripts input wait old h
        → s ≡ length (meaning (debugging scripts input wait) h).seats + 1
    by_works true is h stood = let fails : false ≡ true = works is in absurd cc
    by_works false is h stood =
        let m : Meaning Run = whole scripts input wait (entries_of h) in
        number ∙ ap (λ n. n + 1) (stands-length (meaning_with old (printed_of m.program)) m (stood.stands.means is))
attach-next scripts input wait old (Err error) number works = tt

-- ---- the state

state-said : (d : Debugging) (h : List (ℕ × Entry)) (b t o p w : Bool) → (meaning d h).shut ≡ b
    → d.has_thrown (meaning d h).program ≡ t → d.protocol.is_over (meaning d h).program ≡ o → is_paused (meaning d h) ≡ p
    → waits (meaning d h).phase ≡ w → (t ≡ true → o ≡ true)
    → HasState d (if b then Shut else if t then Threw else if o then Ended else if p then Paused else if w then Waiting else Ready) h
state-said d h true t o p w shut thrown over paused waits ends = shut
state-said d h false true o p w shut thrown over paused waits ends = (shut, (over ∙ ends refl, thrown))
state-said d h false false true p w shut thrown over paused waits ends = (shut, (over, thrown))
state-said d h false false false true w shut thrown over paused waits ends = paused
state-said d h false false false false true shut thrown over paused waits ends = waits
state-said d h false false false false false shut thrown over paused waits ends = (shut, over)

thrown-over : (r : Run) → has_thrown r ≡ true → is_over r ≡ true
thrown-over (runs.running t s) is = absurd cc
thrown-over (runs.over f s) is = refl

pub owned-state : (scripts : List Script) (input : List (List ℕ)) (wait : Bool) (host : HostState) (state : State)
    (h : List (ℕ × Entry)) → ((taken : List (List ℕ)) → state ≡ state_at host taken) → StandsOwned scripts input wait host h
    → HasState (debugging scripts input wait) state h
owned-state scripts input wait host state h is s = by_works host.broken refl
  where
    d : Debugging
    d = debugging scripts input wait

    by_works : (b : Bool) → host.broken ≡ b → HasState (debugging scripts input wait) state h
    by_works true fails =
        subst (λ (x : State). HasState (debugging scripts input wait) x h)
        (sym (is [] ∙ ap (λ b. if b then Broken else state_of (meaning_with host [])) fails)) tt
    by_works false works =
        let m : Meaning Run = whole scripts input wait (entries_of h) in
        let taken : List (List ℕ) = printed_of m.program in
        subst (λ (x : State). HasState (debugging scripts input wait) x h)
        (sym (is taken ∙ ap (λ b. if b then Broken else state_of (meaning_with host taken)) works
        ∙ ap (λ (k : Meaning Run). state_of k) (s.stands.means works).is))
        (state-said (debugging scripts input wait) h m.shut (has_thrown m.program) (is_over m.program) (is_paused m) (waits m.phase)
        refl refl refl refl refl (thrown-over m.program))

-- ---- commands and texts

pub tell-carries : (old new : HostState) (answer : Told) (s : ℕ) (text : List ℕ)
    → (answer ≡ told.Kept → CarriesOn old (Tell s text) new) → (answer ≡ told.Overrun → CarriesOn old (Tell s text) new)
    → (answer ≡ told.Memory → CarriesOn old (Detach s) new) → CarriesOn old (told_entry answer s text) new
tell-carries old new told.Kept s text a b c = a refl
tell-carries old new told.Overrun s text a b c = b refl
tell-carries old new told.Memory s text a b c = c refl

pub tell-owned : (answer : Told) (s : ℕ) (text : List ℕ) (k : ℕ) (h : List (ℕ × Entry)) → Owns k s h
    → IsOwned (owners_from [] h) k (told_entry answer s text)
tell-owned told.Kept s text k h owns = owner-may k s h owns
tell-owned told.Overrun s text k h owns = owner-may k s h owns
tell-owned told.Memory s text k h owns = owner-may k s h owns

pub works-if : (s : ℕ) (b : Bool) (seats : List (Seat Session)) → (b ≡ true → some is_attached seats ≡ false)
    → is_attached (seat_of s seats) ≡ true → b ≡ false
works-if s true seats alone held = let gone = none-at s seats (alone refl) in absurd cc
works-if s false seats alone held = refl

-- what waits for a session that a host holds is what waits for it by the history
pub owned-waiting : (scripts : List Script) (input : List (List ℕ)) (wait : Bool) (host : HostState) (s : ℕ)
    (texts : List (List ℕ)) (h : List (ℕ × Entry)) → is_attached (seat_of s host.meaning.seats) ≡ true
    → texts ≡ waiting (protocol host.scripts) (seat_of s host.meaning.seats) → StandsOwned scripts input wait host h
    → texts ≡ waiting (debugging scripts input wait).protocol (seat_of s (meaning (debugging scripts input wait) h).seats)
owned-waiting scripts input wait host s texts h held are stood =
    let m : Meaning Run = whole scripts input wait (entries_of h) in
    let works : host.broken ≡ false = works-if s host.broken host.meaning.seats (λ fails. (stood.stands.lost fails).alone) held in
    are
    ∙ ap (λ ss. waiting (protocol ss) (seat_of s host.meaning.seats)) stood.stands.runs
    ∙ ap (waiting (protocol scripts))
    (sym (held-seat (meaning_with host (printed_of m.program)) m s (stood.stands.means works) held))

-- ---- runs

-- from what a host stands for, it makes the longest run; or it makes no step, and tells of sessions that fell
longest-by : (scripts : List Script) (moment most steps : ℕ) (host m n : Meaning Run) (printed : List (List ℕ))
    (lost : List SessionLost) (numbers : List ℕ) → fallen_in host.seats ≡ numbers → StandsAs host m
    → RunsTo scripts moment most host steps printed lost n
    → ((after : Meaning Run) × IsLongest (protocol scripts) moment most m after steps)
    ⊎ ((steps ≡ 0) × (lost_for_memory lost ≢ []))
longest-by scripts moment most steps host m n printed lost [] none stands r =
    inl (r.middle, subst (λ (k : Meaning Run). IsLongest (protocol scripts) moment most k r.middle steps) (all-there host m stands.is none) r.longest)
longest-by scripts moment most zero host m n printed lost (x ∷ xs) some_fell stands r = inr (
  refl,
  λ nobody.
      let k : Meaning Run = r.middle in
      let none : fallen_in k.seats ≡ [] = sym (ap lost_for_memory r.reports ∙ lost-fallen 1 k.seats) ∙ nobody in
      let same : k ≡ host =
      r.longest.made.reached
      ∙ ap (λ numbers. with_seats (without numbers host.seats) host) none
      ∙ ap (λ seats. with_seats seats host) (without-none host.seats) in
      let both : x ∷ xs ≡ [] = sym some_fell ∙ ap (λ (q : Meaning Run). fallen_in q.seats) (sym same) ∙ none in
      absurd cc,
)
longest-by scripts moment most (suc steps) host m n printed lost (x ∷ xs) some_fell stands r =
    let ready : is_ready (protocol scripts) host ≡ true = r.longest.made.ready 0 (omega arith) in
    let none : fallen_in host.seats ≡ [] = ready-none (protocol scripts) host ready in
    let both : x ∷ xs ≡ [] = sym some_fell ∙ none in
    absurd cc

works-ready : (host : HostState) → state_at host [] ≡ Ready → host.broken ≡ false
works-ready host is = by_works host.broken refl
  where
    by_works : (b : Bool) → host.broken ≡ b → b ≡ false
    by_works true fails =
        let both : Broken ≡ Ready = sym (ap (λ b. if b then Broken else state_of (meaning_with host [])) fails) ∙ is in
        absurd cc
    by_works false works = refl

pub owned-longest : (scripts : List Script) (input : List (List ℕ)) (wait : Bool) (old new : HostState)
    (moment most steps : ℕ) (printed : List (List ℕ)) (lost : List SessionLost) (h : List (ℕ × Entry))
    → (old.broken ≡ false → (taken : List (List ℕ))
    → RunsTo old.scripts moment most (meaning_with old taken) steps printed lost (meaning_with new (taken ++ printed)))
    → state_at old [] ≡ Ready → StandsOwned scripts input wait old h
    → debuggings.IsLongest (debugging scripts input wait) most moment h steps (lost_for_memory lost)
owned-longest scripts input wait old new moment most steps printed lost h runs ready s =
    let works = works-ready old ready in
    let m : Meaning Run = whole scripts input wait (entries_of h) in
    let taken : List (List ℕ) = printed_of m.program in
    let host : Meaning Run = meaning_with old taken in
    let n : Meaning Run = meaning_with new (taken ++ printed) in
    longest-by scripts moment most steps host m n printed lost (fallen_in host.seats) refl (s.stands.means works)
    (subst (λ ss. RunsTo ss moment most host steps printed lost n) s.stands.runs (runs works taken))

-- what a run prints, so many plain steps print
pub owned-prints : (scripts : List Script) (input : List (List ℕ)) (wait : Bool) (old : HostState) (moment steps : ℕ)
    (gone : List ℕ) (printed : List (List ℕ)) (h : List (ℕ × Entry)) → PrintsOn old (Ran steps moment gone) printed
    → StandsOwned scripts input wait old h
    → printed_of (stops.plain (protocol scripts) (steps_made (entries_of h) + steps) (start scripts input))
    ≡ printed_of (stops.plain (protocol scripts) (steps_made (entries_of h)) (start scripts input)) ++ printed
owned-prints scripts input wait old moment steps gone printed h prints s =
    let P = protocol scripts in
    let es = entries_of h in
    let c = start scripts input in
    let m : Meaning Run = whole scripts input wait es in
    let way : m.program ≡ stops.plain P (steps_made es) c = plain-way-from P (begin scripts input wait) es in
    ap printed_of
    (plain-more P (steps_made es) steps c
    ∙ ap (stops.plain P steps) (sym way)
    ∙ sym (entry-program P m (Ran steps moment gone)))
    ∙ prints scripts input wait es s.stands
    ∙ ap (λ (r : Run). printed_of r ++ printed) way

-- ---- want of memory in a run

same-if : {A : Type 0} (b : Bool) (x : A) → (if b then x else x) ≡ x
same-if true x = refl
same-if false x = refl

mid-all : {X : Type 0} → (old new : Seat X) → new ≡ mid old new → mid old (fallen new) ≡ fallen old
mid-all (Attached x) (Attached y) is = refl
mid-all (Attached x) (Lost Overrun is_reported is_told) is = absurd cc
mid-all (Attached x) (Lost Memory true is_told) is = absurd cc
mid-all (Attached x) (Lost Memory false is_told) is = refl
mid-all (Attached x) Left is = absurd cc
mid-all (Lost loss is_reported is_told) new is = same-if (fell (fallen new)) (Lost loss is_reported is_told)
mid-all Left new is = same-if (fell (fallen new)) Left

head-same : {X : Type 0} → (x y : Seat X) (xs ys : List (Seat X)) → x ∷ xs ≡ y ∷ ys → x ≡ y
head-same x y xs ys same = cc

tail-same : {X : Type 0} → (x y : Seat X) (xs ys : List (Seat X)) → x ∷ xs ≡ y ∷ ys → xs ≡ ys
tail-same x y xs ys same = cc

-- where all that are attached fall, all fall that a history has as attached
mids-all : {X : Type 0} → (olds news : List (Seat X)) → news ≡ mids olds news → mids olds (each fallen news) ≡ each fallen olds
mids-all [] news is = refl
mids-all (old ∷ olds) [] is = absurd cc
mids-all (old ∷ olds) (new ∷ news) is =
    ap (λ seat. seat ∷ mids olds (each fallen news)) (mid-all old new (head-same new (mid old new) news (mids olds news) is))
    ∙ ap (λ seats. fallen old ∷ seats) (mids-all olds news (tail-same new (mid old new) news (mids olds news) is))

without-all : {X : Type 0} → (s : ℕ) (seats : List (Seat X)) → without_from (numbers_from s (length seats)) s seats ≡ each fallen seats
without-all s [] = refl
without-all s (seat ∷ seats) =
    let rest : List ℕ = numbers_from (s + 1) (length seats) in
    let later = without_from (s ∷ rest) (s + 1) seats in
    ap (λ b. (if b || is_listed rest s then fallen seat else seat) ∷ later) (itself s)
    ∙ ap (λ more. fallen seat ∷ more) (without-below s (s + 1) rest seats (omega arith))
    ∙ ap (λ more. fallen seat ∷ more) (without-all (s + 1) seats)

-- those that a host hands out then are as good as everybody
fallen-everybody : (host m : Meaning Run) → StandsAs host m
    → without (fallen_in (each fallen host.seats)) m.seats ≡ without (numbers_from 1 (length host.seats)) m.seats
fallen-everybody host m stands =
    let sunk : host.seats ≡ mids m.seats host.seats = ap (λ (k : Meaning Run). k.seats) stands.is ∙ sym (mids-less m.seats host.seats) in
    sym (mids-less m.seats (each fallen host.seats))
    ∙ mids-all m.seats host.seats sunk
    ∙ sym (without-all 1 m.seats)
    ∙ ap (λ n. without (numbers_from 1 n) m.seats) (sym (stands-length host m stands))

pub owned-fails : (scripts : List Script) (input : List (List ℕ)) (wait : Bool) (old mid new : HostState) (moment : ℕ)
    (lost : List SessionLost) (k : ℕ) (h : List (ℕ × Entry)) → old.broken ≡ false → mid.broken ≡ true → mid.scripts ≡ old.scripts
    → mid.meaning.seats ≡ each broken_seat old.meaning.seats → mid.fallen ≡ losses_from 1 (each fallen old.meaning.seats)
    → lost ≡ mid.fallen
    → ((scripts : List Script) (input : List (List ℕ)) (wait : Bool) (history : List Entry) → StandsFor scripts input wait mid history
    → StandsFor scripts input wait new history)
    → StandsOwned scripts input wait old h
    → StandsOwned scripts input wait new (h ++ (k, Ran 0 moment (lost_for_memory lost)) ∷ [])
owned-fails scripts input wait old mid new moment lost k h works fails same seats fell_all are handed s =
    let es = entries_of h in
    let P = protocol scripts in
    let m : Meaning Run = whole scripts input wait es in
    let host : Meaning Run = meaning_with old (printed_of m.program) in
    let gone : List ℕ = lost_for_memory lost in
    let stands = s.stands.means works in
    let listed : gone ≡ fallen_in (each fallen host.seats) =
    ap lost_for_memory (are ∙ fell_all) ∙ lost-fallen 1 (each fallen old.meaning.seats) in
    let without_same : without gone m.seats ≡ without (numbers_from 1 (length host.seats)) m.seats =
    ap (λ numbers. without numbers m.seats) listed ∙ fallen-everybody host m stands in
    let meant : apply_any P m (Ran 0 moment gone) ≡ apply_any P m (Ran 0 moment (numbers_from 1 (length host.seats))) =
    ap (λ (ss : List (Seat Session)). settle P (with_seats (each reported ss) (with_seats ss m))) without_same in
    let broken : BrokenAs mid.meaning.seats (apply_any P m (Ran 0 moment gone)).seats =
    subst (λ (ss : List (Seat Session)). BrokenAs ss (apply_any P m (Ran 0 moment gone)).seats) (sym seats)
    (subst (λ (q : Meaning Run). BrokenAs (each broken_seat host.seats) q.seats) (sym meant) (broken-ran P moment host m stands)) in
    let stood = handed scripts input wait (es ++ Ran 0 moment gone ∷ [])
    (stands-broken scripts input wait old mid es (Ran 0 moment gone) s.stands same fails (λ j small. absurd (omega (arith, small))) broken) in
    record {
      stands = subst (StandsFor scripts input wait new) (sym (entries-more h k (Ran 0 moment gone))) stood;
      owned = owned-more [] h k (Ran 0 moment gone) s.owned tt;
    }
