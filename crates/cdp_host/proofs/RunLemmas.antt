-- What a host's loop of stretches comes to, what a run reports, and that a host stands for a history with the run
-- behind it.
use Rattle.std.specs.declared.alloc.AllocError.{AllocError}
use Rattle.std.proofs.Common.{Result, Ok, Err, IfOk, OnErr, OnOk, ◌≡◌, ◌⊎◌, ℕ, zero, suc, ◌+◌, ◌-◌, ◌<◌, ◌≤◌, List, [], ◌∷◌, ◌++◌, length, drop, Bool, true, false, ◌&&◌, not, nat_lt, inl, inr, refl, ap, sym, subst, ◌∙◌, append-nil, arith, if◌then◌else◌, is_some, Option, None}
use Rattle.std.specs.Option.{option_map}
use Rattle.std.proofs.Math.Seq.{drop-append_seam}
use Rattle.std.proofs.lemmas.Bool.{lt-ltb, or_parts}
use Rattle.cdp_host_isolation.specs.Histories.{Entry, FitsEntry, Ran}
use Rattle.cdp_host_isolation.specs.Meanings as meanings
use Rattle.cdp_host_isolation.specs.Meanings.{is_enabled_seat, is_first, is_held, is_paused, is_ready, longest, next_number, resume, resumed_seat, settle, with_seats}
use Rattle.cdp_host_isolation.specs.Protocols.{Protocol}
use Rattle.cdp_host_isolation.specs.Runs.{AllFit, HasMade, IsLongest}
use Rattle.cdp_host_isolation.specs.Seats.{each, is_attached, reported, some, waits_for_report, without}
use Rattle.cdp_host_isolation.specs.Standing.{BrokenAs, StandsAs, broken_seat, fallen_from, fallen_in, fell, less}
use Rattle.cdp_host_isolation.specs.Texts.{Fits}
use Rattle.cdp_host_isolation.specs.declared.phase.Phase.TheVariants.{Running}
use Rattle.cdp_host_isolation.specs.declared.seat.Loss.TheVariants.{Overrun, Memory}
use Rattle.cdp_host_isolation.specs.declared.seat.Seat.{Seat}
use Rattle.cdp_host_isolation.specs.declared.seat.Seat.TheVariants.{Attached, Lost, Left}
use Rattle.cdp_host_isolation.proofs.FallenLemmas.{fallen-none, without-none}
use Rattle.cdp_host_isolation.proofs.MadeLemmas.{made-more, made-none}
use Rattle.cdp_host_isolation.proofs.BrokenLemmas.{broken-alone, broken-ran, broken-stays}
use Rattle.cdp_host_isolation.proofs.StandingLemmas.{fits-ran, none-reported, none-resumed, stands-ran}
use Rattle.cdp_host_isolation.proofs.StopLemmas.{entry-program}
use Rattle.js_tree.specs.declared.script.Script.{Script}
use Rattle.js_semantics.specs.Run.{Run}
use Rattle.cdp_session.specs.declared.situation.Pause.{Pause}
use Rattle.cdp_session.specs.Sessions.{Session}
use Rattle.cdp_host_seats.specs.Fallbacks.{fallback_of}
use Rattle.cdp_host_seats.specs.Losses.{losses_from}
use Rattle.cdp_host_seats.specs.declared.losses.SessionLost.{SessionLost}
use Rattle.cdp_host.specs.Histories.{Meaning, apply, whole}
use Rattle.cdp_host.specs.Hosts.{CarriesOn, FallsBack, HostState, KeepsFallback, NoneAttached, Parts, PrintsOn, RunsTo, StandsFor, beside, beside_behind, everybody, meaning_with, pause_behind, run_with}
use Rattle.cdp_host_turns.specs.Entries.{lost_for_memory}
use Rattle.cdp_host.specs.Programs.{printed_of}
use Rattle.cdp_host.specs.Protocols.{protocol}
use Rattle.cdp_host.specs.Rules.{printed_between}
use Rattle.cdp_host_turns.specs.declared.hosted.Ran.{Ran as Made}
use Rattle.cdp_host.proofs.AdvanceLemmas.{free-beside, free-shut, ready-parts}
use Rattle.cdp_host.proofs.HistoryLemmas.{stands-behind, stands-broken}
use Rattle.cdp_host.proofs.PartLemmas.{run-printed}
use Rattle.cdp_host_isolation.proofs.RoomLemmas.{reported-fits}

-- ---- a stretch, as a host keeps it

pub advanced : (a old : HostState) (scripts : List Script) (moment k : ℕ) (first : Bool)
    (seats news items : List (Seat Session)) (before : List (List ℕ))
    → (stopped : Option ℕ) (stop : Option Pause) (stops : ℕ) (q : Run)
    → a ≡ old → is_ready (protocol old.scripts) (meaning_with old before) ≡ true
    → scripts ≡ a.scripts → first ≡ is_first a.meaning.phase → seats ≡ a.meaning.seats
    → stop ≡ option_map (pause_behind a.meaning.stops) stopped
    → stops ≡ (if is_some stopped then next_number a.meaning.stops else a.meaning.stops)
    → items ≡ news
    → HasMade (protocol scripts) moment (beside first a.meaning.stops seats (run_with before a.meaning.program))
    (beside_behind stopped a.meaning.stops news q) k
    → (let n : Meaning Run = record {
      program = q;
      phase = Running;
      stop = stop;
      stops = stops;
      shut = a.meaning.shut;
      seats = items;
    } in
    HasMade (protocol old.scripts) moment (meaning_with old before) n k)
advanced a old scripts moment k first seats news items before stopped stop stops q is go runs begins sat stop_is
    stops_are put made =
    let m : Meaning Run = meaning_with a before in
    let r : Run = run_with before a.meaning.program in
    let s : ℕ = a.meaning.stops in
    let free : is_held m ≡ false = ap (λ h. is_held (meaning_with h before)) is
    ∙ (ready-parts old.scripts (meaning_with old before) go).0 in
    let left : beside first s seats r ≡ meaning_with old before =
    ap (λ b. beside b s seats r) begins
    ∙ ap (λ ss. beside (is_first a.meaning.phase) s ss r) sat
    ∙ sym (free-beside m free)
    ∙ ap (λ h. meaning_with h before) is in
    let f : Option Pause
    → ℕ
    → Bool
    → List (Seat Session)
    → Meaning Run = λ o i b ss. record { program = q; phase = Running; stop = o; stops = i; shut = b; seats = ss } in
    let right : beside_behind stopped s news q ≡ f stop stops a.meaning.shut items =
    ap (λ o. f o (if is_some stopped then next_number s else s) false news) (sym stop_is)
    ∙ ap (λ i. f stop i false news) (sym stops_are)
    ∙ ap (λ b. f stop stops b news) (sym (free-shut m free))
    ∙ ap (λ ss. f stop stops a.meaning.shut ss) (sym put) in
    let F : List Script
    → Type 0 = λ ss. HasMade (protocol ss) moment (beside first s seats r) (beside_behind stopped s news q) k in
    let G : Meaning Run → Type 0 = λ n. HasMade (protocol old.scripts) moment n (beside_behind stopped s news q) k in
    let H : Meaning Run → Type 0 = λ n. HasMade (protocol old.scripts) moment (meaning_with old before) n k in
    subst H right (subst G left (subst F (runs ∙ ap (λ h. h.scripts) is) made))

-- ---- stretches behind one another

-- before the first stretch
pub ran-none : (scripts : List Script) (moment : ℕ) (h : HostState) (most : ℕ) (printed taken : List (List ℕ))
    → printed ≡ []
    → HasMade (protocol scripts) moment (meaning_with h taken) (meaning_with h (taken ++ printed)) (most - most)
ran-none scripts moment h most printed taken none =
    let m : Meaning Run = meaning_with h taken in
    let P : ℕ → Type 0 = λ k. HasMade (protocol scripts) moment m m k in
    let Q : List (List ℕ) → Type 0 = λ ts. HasMade (protocol scripts) moment m (meaning_with h ts) (most - most) in
    let e : 0 ≡ most - most = omega arith in
    let same : taken ++ printed ≡ taken = ap (λ ts. taken ++ ts) none ∙ append-nil taken in
    subst Q (sym same) (subst P e (made-none (protocol scripts) moment m))

-- a stretch more
pub ran-more : (scripts s : List Script) (moment : ℕ) (m n o : Meaning Run) (most left k : ℕ)
    → s ≡ scripts
    → left ≤ most
    → 0 < k
    → k ≤ left
    → HasMade (protocol scripts) moment m n (most - left)
    → is_ready (protocol s) n ≡ true
    → HasMade (protocol s) moment n o k
    → HasMade (protocol scripts) moment m o (most - (left - k))
ran-more scripts s moment m n o most left k same within few small made go next =
    let P : List Script → Type 0 = λ t. HasMade (protocol t) moment n o k in
    let Q : ℕ → Type 0 = λ j. HasMade (protocol scripts) moment m o j in
    let e : (most - left) + k ≡ most - (left - k) = omega arith in
    subst Q e
    (made-more (protocol scripts) moment (most - left) k m n o made (sym (ap (λ t. is_ready (protocol t) n) same) ∙ go)
    (subst P same next) few)

-- why the loop ends
ends_by : (left : ℕ) (b ready : Bool)
    → b ≡ false
    → (nat_lt 0 left && (not b && ready)) ≡ false
    → (left ≡ 0) ⊎ (ready ≡ false)
ends_by zero b ready works stops = inl refl
ends_by (suc left) b true works stops =
    let above : nat_lt 0 (suc left) ≡ true = lt-ltb 0 (suc left) (omega arith) in
    let all : (nat_lt 0 (suc left) && (not b && true)) ≡ true = rw (above, works) refl in
    absurd cc
ends_by (suc left) b false works stops = inr refl

full_by : (scripts : List Script) (most left : ℕ) (n : Meaning Run)
    → left ≤ most
    → (left ≡ 0) ⊎ (is_ready (protocol scripts) n ≡ false)
    → ((most - left) ≡ most) ⊎ (is_ready (protocol scripts) n ≡ false)
full_by scripts most left n within (inl is) = inl (omega arith)
full_by scripts most left n within (inr stays) = inr stays

-- what the loop has made is the longest run
pub ran-longest : (scripts s : List Script) (moment : ℕ) (m n : Meaning Run) (most left : ℕ) (b t : Bool) → s ≡ scripts
    → HasMade (protocol scripts) moment m n (most - left) → left ≤ most → b ≡ false
    → t ≡ (nat_lt 0 left && (not b && is_ready (protocol s) n))
    → t ≡ false
    → IsLongest (protocol scripts) moment most m n (most - left)
ran-longest scripts s moment m n most left b t same made within works test stops =
    let ready : Bool = is_ready (protocol scripts) n in
    let here : t ≡ (nat_lt 0 left && (not b && ready)) = test
    ∙ ap (λ ss. nat_lt 0 left && (not b && is_ready (protocol ss) n)) same in
    record {
      within = omega arith;
      made = made;
      full = full_by scripts most left n within (ends_by left b ready works (sym here ∙ stops));
    }

-- ---- what steps print

-- where all texts were handed out before and behind them
pub ran-prints : (p q : Parts) (printed : List (List ℕ))
    → p.machine.context.printed ≡ []
    → q.machine.context.printed ≡ []
    → (taken : List (List ℕ)) → printed ≡ printed_between (run_with taken p) (run_with (taken ++ printed) q)
ran-prints p q printed before after taken =
    let first : printed_of (run_with taken p) ≡ taken = run-printed p taken
    ∙ ap (λ xs. taken ++ xs) before
    ∙ append-nil taken in
    let last : printed_of (run_with (taken ++ printed) q) ≡ taken ++ printed =
    run-printed q (taken ++ printed) ∙ ap (λ xs. (taken ++ printed) ++ xs) after ∙ append-nil (taken ++ printed) in
    sym (drop-append_seam taken printed)
    ∙ ap (λ xs. drop (length taken) xs) (sym last)
    ∙ ap (λ xs. drop (length xs) (printed_of (run_with (taken ++ printed) q))) (sym first)

-- ---- seats

gone-fits : {C T Q X : Type 0} → (P : Protocol C T Q X) (seat : Seat X) → is_attached seat ≡ false → Fits P seat
gone-fits P (Attached x) gone = absurd cc
gone-fits P (Lost loss is_reported is_told) gone = tt
gone-fits P Left gone = tt

-- where none is attached, no texts wait
pub gone-fit : {C T Q X : Type 0}
    → (P : Protocol C T Q X) (seats : List (Seat X))
    → some is_attached seats ≡ false
    → AllFit P seats
gone-fit P [] none = tt
gone-fit P (seat ∷ seats) none =
    let parts = or_parts (is_attached seat) (some is_attached seats) none in
    (gone-fits P seat parts.0, gone-fit P seats parts.1)

-- a report sends nothing
pub reported-fit : {C T Q X : Type 0}
    → (P : Protocol C T Q X) (seats : List (Seat X))
    → AllFit P seats
    → AllFit P (each reported seats)
reported-fit P [] fit = tt
reported-fit P (seat ∷ seats) fit = (reported-fits P seat fit.0, reported-fit P seats fit.1)

-- ---- who fell

-- those among the losses that wait for a run
pub lost-fallen : (s : ℕ) (seats : List (Seat Session)) → lost_for_memory (losses_from s seats) ≡ fallen_from s seats
lost-fallen s [] = refl
lost-fallen s (Attached x ∷ seats) = lost-fallen (s + 1) seats
lost-fallen s (Lost Overrun true is_told ∷ seats) = lost-fallen (s + 1) seats
lost-fallen s (Lost Overrun false is_told ∷ seats) = lost-fallen (s + 1) seats
lost-fallen s (Lost Memory true is_told ∷ seats) = lost-fallen (s + 1) seats
lost-fallen s (Lost Memory false is_told ∷ seats) = ap (λ numbers. s ∷ numbers) (lost-fallen (s + 1) seats)
lost-fallen s (Left ∷ seats) = lost-fallen (s + 1) seats

-- behind a report none fell of whom no run has told
pub reported-none : {X : Type 0} → (seats : List (Seat X)) → fallen_in (each reported seats) ≡ []
reported-none seats = fallen-none (each reported seats) (none-reported seats)

none-resume-by : (scripts : List Script) (m : Meaning Run) (b : Bool) → some fell m.seats ≡ false
    → some fell
    (if b then record m {
      stop = None;
      seats = each (resumed_seat (protocol scripts)) m.seats;
    } else m).seats ≡ false
none-resume-by scripts m true none = none-resumed (protocol scripts) m.seats none
none-resume-by scripts m false none = none

none-settle-by : (scripts : List Script) (m : Meaning Run) (b : Bool) → some fell m.seats ≡ false
    → some fell (if b then m else resume (protocol scripts) m).seats ≡ false
none-settle-by scripts m true none = none
none-settle-by scripts m false none = none-resume-by scripts m (is_paused m) none

none-settle : (scripts : List Script) (m : Meaning Run)
    → some fell m.seats ≡ false
    → some fell (settle (protocol scripts) m).seats ≡ false
none-settle scripts m none = none-settle-by scripts m (some (is_enabled_seat (protocol scripts)) m.seats) none

-- ---- a run, and the host behind it

-- a host whose seats were reported, and then settled
pub settled-as : (a h n : HostState) (news : List (Seat Session)) (t : List (List ℕ))
    → a ≡ h
    → news ≡ each reported a.meaning.seats
    → meaning_with n t ≡ less n.meaning.seats (settle (protocol a.scripts) (with_seats news (meaning_with a t)))
    → meaning_with n t ≡ less n.meaning.seats
    (settle (protocol h.scripts) (with_seats (each reported h.meaning.seats) (meaning_with h t)))
settled-as a h n news t is same means =
    let f : List (Seat Session) → HostState → Meaning Run =
    λ seats k. less n.meaning.seats (settle (protocol k.scripts) (with_seats seats (meaning_with k t))) in
    means ∙ ap (λ seats. f seats a) same ∙ ap (λ k. f (each reported k.meaning.seats) k) is

-- where none fell the host is what it stands for
pub all-there : (host m : Meaning Run) → host ≡ less host.seats m → fallen_in host.seats ≡ [] → host ≡ m
all-there host m is none =
    is
    ∙ ap (λ numbers. with_seats (without numbers m.seats) m) none
    ∙ ap (λ seats. with_seats seats m) (without-none m.seats)

-- a host behind a run stands for what the run makes of what it stood for before
pub runs-stand : (scripts : List Script) (moment most steps : ℕ) (host m n : Meaning Run) (printed : List (List ℕ))
    (lost : List SessionLost)
    → StandsAs host m → RunsTo scripts moment most host steps printed lost n
    → StandsAs n (apply scripts m (Ran steps moment (lost_for_memory lost)))
runs-stand scripts moment most steps host m n printed lost stands r =
    let k : Meaning Run = r.middle in
    let told_all : Meaning Run = with_seats (each reported k.seats) k in
    let there : Meaning Run = settle (protocol scripts) told_all in
    let behind = stands-ran (protocol scripts) moment steps host m k stands r.longest.made in
    let none : fallen_in there.seats ≡ [] = fallen-none there.seats
    (none-settle scripts told_all (none-reported k.seats)) in
    let same : there ≡ apply scripts m (Ran steps moment (fallen_in k.seats)) =
    all-there there (apply scripts m (Ran steps moment (fallen_in k.seats))) behind.is none in
    let listed : lost_for_memory lost ≡ fallen_in k.seats = ap lost_for_memory r.reports ∙ lost-fallen 1 k.seats in
    record {
      is = r.is ∙ ap (λ q. less n.seats q) (same ∙ ap (λ gone. apply scripts m (Ran steps moment gone)) (sym listed));
      all_there = r.all_there;
    }

-- what the run prints, the host handed out
pub ran-out : (scripts : List Script) (input : List (List ℕ)) (wait : Bool) (old new : HostState)
    (history : List Entry)
    → (moment most steps : ℕ) (printed : List (List ℕ)) (lost : List SessionLost)
    → old.broken ≡ false
    → new.meaning.program.machine.context.printed ≡ []
    → ((taken : List (List ℕ))
    → RunsTo old.scripts moment most (meaning_with old taken) steps printed lost
    (meaning_with new (taken ++ printed)))
    → StandsFor scripts input wait old history
    → printed_of (apply scripts (whole scripts input wait history) (Ran steps moment (lost_for_memory lost))).program
    ≡ printed_of (whole scripts input wait history).program ++ printed
ran-out scripts input wait old new history moment most steps printed lost works handed runs stood =
    let m : Meaning Run = whole scripts input wait history in
    let taken : List (List ℕ) = printed_of m.program in
    let host : Meaning Run = meaning_with old taken in
    let n : Meaning Run = meaning_with new (taken ++ printed) in
    let R : List Script → Type 0 = λ ss. RunsTo ss moment most host steps printed lost n in
    let r : RunsTo scripts moment most host steps printed lost n = subst R stood.runs (runs taken) in
    let behind = runs-stand scripts moment most steps host m n printed lost (stood.means works) r in
    ap (λ q. printed_of q.program) (sym behind.is)
    ∙ run-printed new.meaning.program (taken ++ printed)
    ∙ ap (λ xs. (taken ++ printed) ++ xs) handed
    ∙ append-nil (taken ++ printed)

-- and so for the history with the run behind it
pub stands-run : (scripts : List Script) (input : List (List ℕ)) (wait : Bool) (old new : HostState)
    (history : List Entry)
    → (moment most steps : ℕ) (printed : List (List ℕ)) (lost : List SessionLost)
    → new.scripts ≡ old.scripts
    → old.broken ≡ false
    → new.broken ≡ false
    → new.meaning.program.machine.context.printed ≡ []
    → ((taken : List (List ℕ))
    → RunsTo old.scripts moment most (meaning_with old taken) steps printed lost
    (meaning_with new (taken ++ printed)))
    → StandsFor scripts input wait old history
    → StandsFor scripts input wait new (history ++ Ran steps moment (lost_for_memory lost) ∷ [])
stands-run scripts input wait old new history moment most steps printed lost same works still handed runs stood =
    let m : Meaning Run = whole scripts input wait history in
    let taken : List (List ℕ) = printed_of m.program in
    let host : Meaning Run = meaning_with old taken in
    let n : Meaning Run = meaning_with new (taken ++ printed) in
    let entry : Entry = Ran steps moment (lost_for_memory lost) in
    let before = stood.means works in
    let R : List Script → Type 0 = λ ss. RunsTo ss moment most host steps printed lost n in
    let r : RunsTo scripts moment most host steps printed lost n = subst R stood.runs (runs taken) in
    let behind = runs-stand scripts moment most steps host m n printed lost before r in
    let Q : List (List ℕ) → Type 0 = λ texts. StandsAs (meaning_with new texts) (apply scripts m entry) in
    let out : printed_of (apply scripts m entry).program ≡ taken ++ printed =
    ran-out scripts input wait old new history moment most steps printed lost works handed runs stood in
    stands-behind scripts input wait old new history entry stood same still
    (fits-ran (protocol scripts) moment steps host m r.middle before r.longest.made)
    (subst Q (sym out) behind)

no_steps : (scripts : List Script) (m : Meaning Run) (moment : ℕ) (gone : List ℕ)
    → FitsEntry (protocol scripts) m (Ran zero moment gone)
no_steps scripts m moment gone = λ j small. absurd (omega (arith, small))

-- a broken host makes no step
pub stands-none : (scripts : List Script) (input : List (List ℕ)) (wait : Bool) (host : HostState)
    (history : List Entry) (moment : ℕ) (gone : List ℕ)
    → host.broken ≡ true
    → StandsFor scripts input wait host history
    → StandsFor scripts input wait host (history ++ Ran zero moment gone ∷ [])
stands-none scripts input wait host history moment gone fails stood =
    let m : Meaning Run = whole scripts input wait history in
    stands-broken scripts input wait host host history (Ran zero moment gone) stood refl fails
    (no_steps scripts m moment gone)
    (broken-stays (protocol scripts) moment gone host.meaning.seats m (stood.lost fails))

-- a run that breaks its host loses everybody
pub stands-fails : (scripts : List Script) (input : List (List ℕ)) (wait : Bool) (old new : HostState)
    (history : List Entry) (moment : ℕ)
    → new.scripts ≡ old.scripts → old.broken ≡ false → new.broken ≡ true
    → new.meaning.seats ≡ each broken_seat old.meaning.seats
    → StandsFor scripts input wait old history
    → StandsFor scripts input wait new (history ++ Ran zero moment (everybody old) ∷ [])
stands-fails scripts input wait old new history moment same works fails seats stood =
    let m : Meaning Run = whole scripts input wait history in
    let host : Meaning Run = meaning_with old (printed_of m.program) in
    let entry : Entry = Ran zero moment (everybody old) in
    let P : List (Seat Session) → Type 0 = λ ss. BrokenAs ss (apply scripts m entry).seats in
    stands-broken scripts input wait old new history entry stood same fails (no_steps scripts m moment (everybody old))
    (subst P (sym seats) (broken-ran (protocol scripts) moment host m (stood.means works)))

-- ---- where there was no memory

-- and what holds at none
pub at-none : {A E : Type 0} (r : Result A E) (P : Type 0) → P → OnOk r P
at-none (Ok value) P holds = holds
at-none (Err error) P holds = tt

-- a run that may make a step makes one
pub some-longest : {C T Q X : Type 0}
    → (P : Protocol C T Q X) (moment most : ℕ) (m : meanings.Meaning C Q X)
    → 0 < most
    → is_ready P m ≡ true
    → 0 < longest P moment most m
some-longest P moment zero m some_left go = absurd (omega (arith, some_left))
some-longest P moment (suc most) m some_left go = rw go (omega arith)

-- the longest run where no step may be made
pub ran-nothing : (scripts : List Script) (moment : ℕ) (h : HostState) (most : ℕ) (printed taken : List (List ℕ))
    (t : Bool)
    → printed ≡ []
    → h.broken ≡ false
    → t ≡ (nat_lt 0 most && (not h.broken && is_ready (protocol scripts) (meaning_with h (taken ++ printed))))
    → t ≡ false
    → IsLongest (protocol scripts) moment most (meaning_with h taken) (meaning_with h (taken ++ printed)) 0
ran-nothing scripts moment h most printed taken t none works test stops =
    let m : Meaning Run = meaning_with h taken in
    let n : Meaning Run = meaning_with h (taken ++ printed) in
    let P : ℕ → Type 0 = λ k. IsLongest (protocol scripts) moment most m n k in
    let e : most - most ≡ 0 = omega arith in
    subst P e
    (ran-longest scripts scripts moment m n most most h.broken t refl
    (ran-none scripts moment h most printed taken none) (omega arith) works test stops)

-- what a run comes to whose losses were reported
pub reports-run : (old mid new : HostState) (moment most steps : ℕ) (printed : List (List ℕ))
    (r : Result Made AllocError)
    → mid.scripts ≡ old.scripts
    → ((taken : List (List ℕ))
    → IsLongest (protocol old.scripts) moment most (meaning_with old taken) (meaning_with mid (taken ++ printed)) steps)
    → ((taken : List (List ℕ))
    → printed ≡ printed_between (meaning_with old taken).program (meaning_with mid (taken ++ printed)).program)
    → IfOk r (λ ran. (ran.steps ≡ steps) × (ran.printed.items ≡ printed))
    → IfOk r (λ ran. ran.lost.items ≡ losses_from 1 mid.meaning.seats)
    → OnOk r ((taken : List (List ℕ))
    → meaning_with new taken ≡ less new.meaning.seats
    (settle (protocol mid.scripts) (with_seats (each reported mid.meaning.seats) (meaning_with mid taken))))
    → OnOk r (is_paused new.meaning ≡ true → fallen_in new.meaning.seats ≡ [])
    → IfOk r (λ ran. (taken : List (List ℕ))
    → RunsTo old.scripts moment most (meaning_with old taken) ran.steps ran.printed.items ran.lost.items
    (meaning_with new (taken ++ ran.printed.items)))
reports-run old mid new moment most steps printed (Ok ran) runs longest prints same lost means there = λ taken.
    let all : List (List ℕ) = taken ++ printed in
    let f : List Script → Meaning Run = λ ss.
    less new.meaning.seats
    (settle (protocol ss) (with_seats (each reported mid.meaning.seats) (meaning_with mid all))) in
    let P : ℕ → List (List ℕ) → Type 0 = λ k texts.
    RunsTo old.scripts moment most (meaning_with old taken) k texts ran.lost.items
    (meaning_with new (taken ++ texts)) in
    let here : P steps printed = record {
      middle = meaning_with mid all;
      longest = longest taken;
      prints = prints taken;
      reports = lost;
      is = means all ∙ ap f runs;
      all_there = there;
    } in
    subst (λ k. P k ran.printed.items) (sym same.0) (subst (P steps) (sym same.1) here)
reports-run old mid new moment most steps printed (Err error) runs longest prints same lost means there = tt

-- the list of the losses is made behind a step, or where a loss waited before
pub listed-by : (old mid : HostState) (A : Type 0) (P : A → Type 0)
    → (mid ≡ old) ⊎ ((a : A) → P a)
    → some waits_for_report mid.meaning.seats ≡ true
    → (a : A) → P a ⊎ (some waits_for_report old.meaning.seats ≡ true)
listed-by old mid A P (inl same) waits a = inr (sym (ap (λ h. some waits_for_report h.meaning.seats) same) ∙ waits)
listed-by old mid A P (inr more) waits a = inl (more a)

-- ---- want of memory in a run

pub on-error : {A E : Type 0} (r : Result A E) (P Q : Type 0) → (P → Q) → OnErr r P → OnErr r Q
on-error (Ok value) P Q leads holds = tt
on-error (Err error) P Q leads holds = leads holds

-- what holds then of one answer holds of a weaker one
pub on-made : {A E : Type 0} (r : Result A E) (P Q : Type 0) → (P → Q) → OnOk r P → OnOk r Q
on-made (Ok value) P Q leads holds = leads holds
on-made (Err error) P Q leads holds = tt

pub keeps-none : (h : HostState) → KeepsFallback h h
keeps-none h = record { fallback = refl; fallen = refl }

pub keeps-more : (old mid new : HostState) → KeepsFallback old mid → KeepsFallback mid new → KeepsFallback old new
keeps-more old mid new before behind =
    record { fallback = behind.fallback ∙ before.fallback; fallen = behind.fallen ∙ before.fallen }

-- a host that fell back behind others that kept what it falls back to
pub falls-from : (old mid new : HostState) → KeepsFallback old mid → FallsBack mid new → FallsBack old new
falls-from old mid new keeps falls = record {
  broken = falls.broken;
  seats = falls.seats ∙ ap (λ f. f.seats) keeps.fallback;
  fallen = falls.fallen ∙ ap (λ f. f.losses) keeps.fallback;
}

-- a host that has made what it falls back to
abbrev pub prepared : HostState → HostState
prepared host = record host { fallback = fallback_of host.meaning.seats }

pub falls-alone : (old new : HostState) → FallsBack (prepared old) new
    → (new.broken ≡ true) × NoneAttached new.meaning.seats
falls-alone old new falls = (falls.broken, ap (λ ss. some is_attached ss) falls.seats ∙ broken-alone old.meaning.seats)

-- a host stands for a history with the run behind it
pub carries-run : (old new : HostState) (moment most : ℕ) (r : Result Made AllocError) → new.scripts ≡ old.scripts
    → old.broken ≡ false
    → IfOk r (λ ran. new.broken ≡ false) → OnOk r (new.meaning.program.machine.context.printed ≡ [])
    → IfOk r (λ ran. (taken : List (List ℕ))
    → RunsTo old.scripts moment most (meaning_with old taken) ran.steps ran.printed.items ran.lost.items
    (meaning_with new (taken ++ ran.printed.items)))
    → IfOk r (λ ran. CarriesOn old (Ran ran.steps moment (lost_for_memory ran.lost.items)) new)
carries-run old new moment most (Ok ran) same works still handed runs = λ scripts input wait history stood.
    stands-run scripts input wait old new history moment most ran.steps ran.printed.items ran.lost.items same works
    still handed runs stood
carries-run old new moment most (Err error) same works still handed runs = tt

-- and hands out what the run prints
pub run-prints : (old new : HostState) (moment most : ℕ) (r : Result Made AllocError) → old.broken ≡ false
    → OnOk r (new.meaning.program.machine.context.printed ≡ [])
    → IfOk r (λ ran. (taken : List (List ℕ))
    → RunsTo old.scripts moment most (meaning_with old taken) ran.steps ran.printed.items ran.lost.items
    (meaning_with new (taken ++ ran.printed.items)))
    → IfOk r (λ ran. PrintsOn old (Ran ran.steps moment (lost_for_memory ran.lost.items)) ran.printed.items)
run-prints old new moment most (Ok ran) works handed runs = λ scripts input wait history stood.
    ran-out scripts input wait old new history moment most ran.steps ran.printed.items ran.lost.items works handed runs stood
run-prints old new moment most (Err error) works handed runs = tt

-- a run of no step prints nothing
pub none-prints : (host : HostState) (moment : ℕ) (gone : List ℕ) → PrintsOn host (Ran 0 moment gone) []
none-prints host moment gone = λ scripts input wait history stood.
    ap printed_of (entry-program (protocol scripts) (whole scripts input wait history) (Ran 0 moment gone))
    ∙ sym (append-nil (printed_of (whole scripts input wait history).program))

-- and with one that want of memory broke
pub carries-none : (old new : HostState) (moment : ℕ) → new.scripts ≡ old.scripts → old.broken ≡ false
    → FallsBack (prepared old) new
    → CarriesOn old (Ran zero moment (everybody old)) new
carries-none old new moment same works falls = λ scripts input wait history stood.
    stands-fails scripts input wait old new history moment same works falls.broken falls.seats stood
