-- What a turn leaves, from what it found and the entry that it left.
use Rattle.std.proofs.Common.{◌≡◌, ℕ, ◌+◌, List, [], ◌∷◌, ◌++◌, length, Option, Some, None, is_some, Result, Ok, Err, true, false, true≢false, refl, ap, sym, subst, ◌∙◌, append-nil}
use Rattle.cdp_host_isolation.specs.Histories.{Entry, Attach, Take, Detach, Ran, waiting}
use Rattle.cdp_host_isolation.specs.Makers.{AreOwned, Owns}
use Rattle.cdp_host_isolation.specs.Seats.{seat_of}
use Rattle.cdp_host_isolation.proofs.MakerLemmas.{next-unowned, owned-front, owns-longer, owns-next}
use Rattle.cdp_host_isolation.proofs.OwnerLemmas.{handed-next, handed-stays, handed-take}
use Rattle.history_lock.specs.Histories.{has}
use Rattle.history_lock.specs.Passes.{Follows, IsSamePass, PassState}
use Rattle.cdp_host_turns.specs.Debuggings.{Debugging, IsHistory, IsLongest, IsNew, handed, meaning}
use Rattle.cdp_host_turns.specs.Presences.{FindsSession, FitsIfTold, IsGoneAs, IsThere, IsToldAs}
use Rattle.cdp_host_turns.specs.Entries.{told_entry}
use Rattle.cdp_host_turns.specs.States.{HasState, IsShut, tells_over}
use Rattle.cdp_host_turns.specs.Turns.{Acts, Attaches, AttachesAs, Finds, IsOverIf, IsStateOf, Leaves, Prints, Runs, RunsAs, Steps, TakesAs, Tells, TellsAndTakes, TellsAs, unless_kept}
use Rattle.cdp_host_turns.specs.declared.answers.Answered.{Answered}
use Rattle.cdp_host_turns.specs.declared.answers.Answered.TheVariants as answered
use Rattle.cdp_host_turns.specs.declared.answers.Attached.{Attached}
use Rattle.cdp_host_turns.specs.declared.answers.Attached.TheVariants as attached
use Rattle.cdp_host_turns.specs.declared.answers.Gone.{Gone}
use Rattle.cdp_host_turns.specs.declared.answers.Progress.{Progress}
use Rattle.cdp_host_turns.specs.declared.answers.Progress.TheVariants as progress
use Rattle.cdp_host_turns.specs.declared.answers.Told.{Told}
use Rattle.cdp_host_turns.specs.declared.answers.Told.TheVariants.{Kept, Overrun, Memory}
use Rattle.cdp_host_turns.specs.declared.state.State.{State}
use Rattle.cdp_host_turns.specs.declared.state.State.TheVariants as states

abbrev or-else : {A : Type 0} → A → Option A → A
or-else x None = x
or-else x (Some y) = y

-- a pass entered its turn and left it with this entry
pub record Turn (d : Debugging) (p m q : PassState Entry) (entry : Entry) : Type 0 where
  pub follows : Follows p m
  pub same : IsSamePass p m
  pub named : has m.number m.numbers ≡ true
  pub seen : q.seen ≡ m.seen ++ (m.number, entry) ∷ []
  pub free : q.in_turn ≡ false
  pub kept : IsSamePass m q
  pub history : IsHistory d (m.seen ++ (m.number, entry) ∷ [])

pub turn : (d : Debugging) (p m q : PassState Entry) (entry : Entry) → Follows p m → IsSamePass p m
    → has m.number m.numbers ≡ true → q.seen ≡ m.seen ++ (m.number, entry) ∷ [] → q.in_turn ≡ false → IsSamePass m q
    → IsHistory d (m.seen ++ (m.number, entry) ∷ []) → Turn d p m q entry
turn d p m q entry follows same named seen free kept history =
    record { follows = follows; same = same; named = named; seen = seen; free = free; kept = kept; history = history }

-- the entry that it left, if that is this one
pub seen-with : (m q : PassState Entry) (left entry : Entry) → left ≡ entry
    → q.seen ≡ m.seen ++ (m.number, left) ∷ [] → q.seen ≡ m.seen ++ (m.number, entry) ∷ []
seen-with m q left entry is seen = subst (λ (e : Entry). q.seen ≡ m.seen ++ (m.number, e) ∷ []) is seen

-- a pass owns its sessions still when its turn has come
pub still-owns : (p m : PassState Entry) (s : ℕ) → Follows p m → IsSamePass p m → Owns p.number s p.seen
    → Owns m.number s m.seen
still-owns p m s follows same owns =
    subst (λ (k : ℕ). Owns k s m.seen) (sym same.1)
    (subst (Owns p.number s) (sym follows.1) (owns-longer p.number s p.seen follows.0 owns))

-- a pass answers for its own number already before its turn
answers-for : (p m : PassState Entry) → IsSamePass p m → has m.number m.numbers ≡ true → has p.number p.numbers ≡ true
answers-for p m same named = subst (λ (z : ℕ × List ℕ). has z.0 z.1 ≡ true) (λ i. (same.1 i, same.2 i)) named

-- and after it
pub owns-after : (d : Debugging) (s : ℕ) (p q : PassState Entry) (entry : Entry) → Acts d p q entry → Owns p.number s p.seen
    → Owns q.number s q.seen
owns-after d s p q entry a owns =
    subst (λ (z : ℕ × List (ℕ × Entry)). Owns z.0 s z.1) (λ i. (sym a.same.1 i, sym a.seen i))
    (owns-longer p.number s (p.seen ++ a.between) ((p.number, entry) ∷ []) (owns-longer p.number s p.seen a.between owns))

-- ---- what it leaves

pub acts : (d : Debugging) (p m q : PassState Entry) (entry : Entry) → Turn d p m q entry → Acts d p q entry
acts d p m q entry t = record {
  between = t.follows.0;
  seen =
      t.seen
      ∙ ap (λ l. l ++ (m.number, entry) ∷ []) t.follows.1
      ∙ ap (λ (k : ℕ). (p.seen ++ t.follows.0) ++ (k, entry) ∷ []) t.same.1;
  nothing = t.follows.2 p.number (answers-for p m t.same t.named);
  history = subst (IsHistory d) (sym t.seen) t.history;
  same = (
    t.kept.0 ∙ t.same.0,
    t.kept.1 ∙ t.same.1,
    t.kept.2 ∙ t.same.2,
    t.kept.3 ∙ t.same.3,
    t.kept.4 ∙ t.same.4,
    λ told. t.kept.5 (t.same.5 told),
  );
  free = t.free;
  named = answers-for p m t.same t.named;
}

-- where this is so of the history that it found
pub finds : (d : Debugging) (R : List (ℕ × Entry) → Type 0) (p m q : PassState Entry) (entry : Entry)
    → Turn d p m q entry → R m.seen → Finds d R p q entry
unfolding acts
finds d R p m q entry t found = (acts d p m q entry t, subst R t.follows.1 found)

-- ---- a client that came

owns-new : (d : Debugging) (p m q : PassState Entry) (s : ℕ) → Turn d p m q Attach
    → s ≡ length (meaning d m.seen).seats + 1 → Owns p.number s q.seen
owns-new d p m q s t is =
    subst (λ (z : ℕ × (ℕ × List (ℕ × Entry))). Owns z.0 z.1.0 z.1.1) (λ i. (t.same.1 i, (sym is i, sym t.seen i)))
    (owns-next d.protocol d.program d.wait m.number m.seen)

is-new : (d : Debugging) (p m q : PassState Entry) (s : ℕ) → Turn d p m q Attach
    → s ≡ length (meaning d m.seen).seats + 1 → IsNew s p.seen
is-new d p m q s t is = λ k owns.
    next-unowned d.protocol d.program d.wait k m.seen
    (subst (λ (z : ℕ × List (ℕ × Entry)). Owns k z.0 z.1) (λ i. (is i, sym t.follows.1 i))
    (owns-longer k s p.seen t.follows.0 owns))

handed-new : (d : Debugging) (p m q : PassState Entry) (s : ℕ) → Turn d p m q Attach
    → s ≡ length (meaning d m.seen).seats + 1 → handed d s q.seen ≡ []
handed-new d p m q s t is =
    subst (λ (z : ℕ × List (ℕ × Entry)). handed d z.0 z.1 ≡ []) (λ i. (sym is i, sym t.seen i))
    (handed-next d.protocol d.program d.wait m.seen m.number)

attaches-new : (d : Debugging) (p m q : PassState Entry) (s : ℕ) → Turn d p m q Attach
    → s ≡ length (meaning d m.seen).seats + 1 → Attaches d p q (attached.Session s)
attaches-new d p m q s t is =
    (acts d p m q Attach t, owns-new d p m q s t is, is-new d p m q s t is, handed-new d p m q s t is)

pub attaches : (d : Debugging) (p m q : PassState Entry) (answer : Attached) (entry : Entry) → Turn d p m q entry
    → AttachesAs d m.seen answer entry → Attaches d p q answer
attaches d p m q (attached.Session s) entry t did = attaches-new d p m q s (subst (Turn d p m q) did.0 t) did.1
attaches d p m q attached.Shut entry t did = finds d (IsShut d) p m q (Take 0) (subst (Turn d p m q) did.0 t) did.1
attaches d p m q attached.Memory entry t did = acts d p m q (Take 0) (subst (Turn d p m q) did t)

-- ---- a session

-- it was gone before
pub leaves : (d : Debugging) (s : ℕ) (p m q : PassState Entry) (why : Gone) (entry : Entry) → Turn d p m q entry
    → entry ≡ Detach s → IsGoneAs d s why m.seen → Leaves d s p q why
leaves d s p m q why entry t is found =
    finds d (IsGoneAs d s why) p m q (Detach s) (subst (Turn d p m q) is t) found

-- it was told a text
pub tells : (d : Debugging) (s : ℕ) (text : List ℕ) (p m q : PassState Entry) (answer : Result Told Gone) (entry : Entry)
    → Turn d p m q entry → TellsAs s text answer entry → FindsSession d s answer m.seen
    → FitsIfTold d s text answer m.seen → Tells d s text p q answer
tells d s text p m q (Ok told) entry t is found fits =
    finds d (IsToldAs d s text told) p m q (told_entry told s text) (subst (Turn d p m q) is t) (found, fits)
tells d s text p m q (Err why) entry t is found fits = leaves d s p m q why entry t is found

-- its texts were handed out
pub take-entry : (A : Type 0) (s : ℕ) (answer : Result A Gone) (taken : A) (entry : Entry) → answer ≡ Ok taken
    → TakesAs s answer entry → entry ≡ Take s
take-entry A s answer taken entry is did = subst (λ (r : Result A Gone). TakesAs s r entry) is did

-- the session was there for that
pub take-there : (A : Type 0) (d : Debugging) (s : ℕ) (h : List (ℕ × Entry)) (answer : Result A Gone) (taken : A)
    → answer ≡ Ok taken → FindsSession d s answer h → IsThere d s h
take-there A d s h answer taken is found = subst (λ (r : Result A Gone). FindsSession d s r h) is found

-- it was gone, so none were
pub take-leaves : (A : Type 0) (d : Debugging) (s : ℕ) (p m q : PassState Entry) (answer : Result A Gone) (why : Gone)
    (entry : Entry) → Turn d p m q entry → answer ≡ Err why → TakesAs s answer entry → FindsSession d s answer m.seen
    → Leaves d s p q why
take-leaves A d s p m q answer why entry t is did found =
    leaves d s p m q why entry t (subst (λ (r : Result A Gone). TakesAs s r entry) is did)
    (subst (λ (r : Result A Gone). FindsSession d s r m.seen) is found)

-- what is handed out to it
pub hands : (d : Debugging) (s : ℕ) (p m q : PassState Entry) (texts found : List (List ℕ))
    → Turn d p m q (Take s) → Owns p.number s p.seen → texts ≡ found
    → found ≡ waiting d.protocol (seat_of s (meaning d m.seen).seats)
    → handed d s q.seen ≡ handed d s p.seen ++ texts
hands d s p m q texts found t owns are waited =
    let there = waiting d.protocol (seat_of s (meaning d m.seen).seats) in
    let owned = owned-front [] m.seen ((m.number, Take s) ∷ []) t.history.owned in
    let nothing = t.follows.2 p.number (answers-for p m t.same t.named) in
    ap (handed d s) t.seen
    ∙ handed-take d.protocol s d.program d.wait m.seen m.number
    ∙ ap (λ l. l ++ there)
    (ap (handed d s) t.follows.1
    ∙ handed-stays d.protocol p.number s d.program d.wait p.seen t.follows.0 owns
    (subst (AreOwned []) t.follows.1 owned) nothing)
    ∙ ap (λ l. handed d s p.seen ++ l) (sym (are ∙ waited))

-- what a state tells of the end
pub over-if : (d : Debugging) (state : State) (h : List (ℕ × Entry)) → HasState d state h
    → IsOverIf d (tells_over state) h
over-if d states.Broken h is = tt
over-if d states.Shut h is = tt
over-if d states.Threw h is = is.1.0
over-if d states.Ended h is = is.1.0
over-if d states.Paused h is = tt
over-if d states.Waiting h is = tt
over-if d states.Ready h is = tt

-- ---- two turns that end together

-- the pass between them, after the first, which left this entry
abbrev pub midway : PassState Entry → Entry → PassState Entry
midway m entry = record m { seen = m.seen ++ (m.number, entry) ∷ []; in_turn = false; tickets = 0 }

pub first-turn : (d : Debugging) (p m : PassState Entry) (entry : Entry) → Follows p m → IsSamePass p m
    → has m.number m.numbers ≡ true → IsHistory d (m.seen ++ (m.number, entry) ∷ []) → Turn d p m (midway m entry) entry
first-turn d p m entry follows same named history =
    turn d p m (midway m entry) entry follows same named refl refl (refl, refl, refl, refl, refl, λ told. told) history

pub second-turn : (d : Debugging) (m q : PassState Entry) (first entry : Entry) → has m.number m.numbers ≡ true
    → q.seen ≡ (m.seen ++ (m.number, first) ∷ []) ++ (m.number, entry) ∷ [] → q.in_turn ≡ false → IsSamePass m q
    → IsHistory d ((m.seen ++ (m.number, first) ∷ []) ++ (m.number, entry) ∷ [])
    → Turn d (midway m first) (midway m first) q entry
second-turn d m q first entry named seen free kept history =
    turn d (midway m first) (midway m first) q entry
    ([], sym (append-nil (m.seen ++ (m.number, first) ∷ [])), λ x h. refl)
    (refl, refl, refl, refl, refl, λ told. told) named seen free kept
    history

-- the pass owns its sessions still
pub owns-midway : (p m : PassState Entry) (s : ℕ) (entry : Entry) → Follows p m → IsSamePass p m → Owns p.number s p.seen
    → Owns m.number s (m.seen ++ (m.number, entry) ∷ [])
owns-midway p m s entry follows same owns =
    owns-longer m.number s m.seen ((m.number, entry) ∷ []) (still-owns p m s follows same owns)

-- a command that was kept
pub is-kept : (answer : Result Told Gone) → unless_kept answer ≡ None → answer ≡ Ok Kept
is-kept (Ok Kept) is = refl
is-kept (Ok Overrun) is = absurd (true≢false (ap is_some is))
is-kept (Ok Memory) is = absurd (true≢false (ap is_some is))
is-kept (Err why) is = absurd (true≢false (ap is_some is))

pub tells-kept : (d : Debugging) (s : ℕ) (text : List ℕ) (p m : PassState Entry) (answer : Result Told Gone) (entry : Entry)
    → Turn d p m (midway m entry) entry → unless_kept answer ≡ None → TellsAs s text answer entry
    → FindsSession d s answer m.seen → FitsIfTold d s text answer m.seen → Tells d s text p (midway m entry) (Ok Kept)
tells-kept d s text p m answer entry t is told found fits =
    subst (Tells d s text p (midway m entry)) (is-kept answer is)
    (tells d s text p m (midway m entry) answer entry t told found fits)

-- one that wasn't
pub tells-alone : (d : Debugging) (s : ℕ) (text : List ℕ) (p q : PassState Entry) (answer : Result Told Gone)
    (result : Answered) → Tells d s text p q answer → unless_kept answer ≡ Some result → TellsAndTakes d s text p q result
tells-alone d s text p q (Ok Kept) result t is = absurd (true≢false (sym (ap is_some is)))
tells-alone d s text p q (Ok Overrun) result t is = subst (TellsAndTakes d s text p q) (ap (or-else answered.Overrun) is) t
tells-alone d s text p q (Ok Memory) result t is = subst (TellsAndTakes d s text p q) (ap (or-else answered.Memory) is) t
tells-alone d s text p q (Err why) result t is = subst (TellsAndTakes d s text p q) (ap (or-else (answered.Gone why)) is) t

-- ---- the program

steps-made : (d : Debugging) (most moment steps : ℕ) (lost : List ℕ) (texts : List (List ℕ)) (p m q : PassState Entry)
    → Turn d p m q (Ran steps moment lost) → IsLongest d most moment m.seen steps lost → Prints d steps texts m.seen
    → Steps d most moment p q texts
unfolding finds acts
steps-made d most moment steps lost texts p m q t longest prints = record {
  steps = steps;
  lost = lost;
  act = finds d (Prints d steps texts) p m q (Ran steps moment lost) t prints;
  longest = subst (λ l. IsLongest d most moment l steps lost) t.follows.1 longest;
}

pub runs : (d : Debugging) (most moment : ℕ) (p m q : PassState Entry) (answer : Progress) (entry : Entry)
    → Turn d p m q entry → RunsAs d most moment m.seen answer entry
    → IsStateOf d answer (m.seen ++ (m.number, entry) ∷ []) → Runs d most moment p q answer
runs d most moment p m q (progress.Ran texts state) entry t did after = (
  steps-made d most moment did.0 did.1 texts.items p m q (subst (Turn d p m q) did.3 t) did.2 did.4,
  subst (HasState d state) (sym t.seen) after,
)
runs d most moment p m q (progress.Idle state) entry t did after =
    (finds d (HasState d state) p m q (Take 0) (subst (Turn d p m q) did.0 t) did.1, did.2)
runs d most moment p m q progress.Memory entry t did after =
    (did.0, acts d p m q (Ran 0 moment did.0) (subst (Turn d p m q) did.1 t))
