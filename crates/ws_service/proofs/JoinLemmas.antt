-- A door that was served stays so in every history that goes on without its maker.
use Rattle.std.proofs.Common.{◌≡◌, ◌⊎◌, ◌<◌, inl, inr, ℕ, suc, List, All, [], ◌∷◌, ◌++◌, map, Bool, true, false, ◌||◌, if◌then◌else◌, nat_lt, length, slice_index_or, Option as Opt, Some, None, refl, ap, sym, subst, ◌∙◌, append_assoc, arith}
use Rattle.std.proofs.lemmas.Bool.{ne_eqb}
use Rattle.std.proofs.lemmas.List.Elements.{All-head, All-nil, All-push, All-tail, All-weaker}
use mathlib.Core.Logic.{dite}
use native.Mathlib.Decide.{ℕ_discrete}
use Rattle.cdp_host_isolation.specs.Histories.{Entry}
use Rattle.cdp_host_isolation.specs.Makers.{IsNoTake, TakesNone, by}
use Rattle.cdp_edge.specs.Outside.{IfTold}
use Rattle.history_lock.specs.Histories.{Begins, has, longer}
use Rattle.history_lock.specs.Passes.{KeepsWhole, PassState, joined_pass}
use Rattle.history_lock.proofs.Facts.{begins_same, by_behind, has_behind, has_front}
use Rattle.cdp_edge_server.specs.Contents.{Tended, adds}
use Rattle.cdp_host_turns.specs.Debuggings.{Debugging, IsHistory}
use Rattle.ws_service.specs.Doors.{EndsDoor, asked_more, questions}
use Rattle.ws_service.specs.Joins.{AnswersForAll, AreAll, HasServed, IsServedDoor, joined_passes}
use Rattle.ws_service.specs.Visits.{AreActs, AreNew, entries_of, links_of, sessions_of}
use Rattle.ws_service.specs.Shutdowns.{HadNoTicket}
use Rattle.ws_service.specs.declared.door.DoorEnd.TheVariants as ends
use Rattle.ws_service.specs.declared.shutdown.NotShut.{NotShut}
use Rattle.ws_service.specs.declared.door.DoorEnd.{DoorEnd}
use Rattle.ws_service.specs.Passing.{FindsThere}
use Rattle.ws_service.proofs.EntryLemmas.{there-over}
use Rattle.ws_service.proofs.PassingLemmas.{begins-on, was-longer}
use Rattle.ws_service.proofs.VisitLemmas.{acts-so, acts-stay}

-- ---- one door

told-added : {A : Type 0} (old new : Opt (List A)) (more : List A) → IfTold old (λ told. told ≡ []) → new ≡ adds old more
    → IfTold new (λ told. told ≡ more)
told-added None new more none is = subst (λ o. IfTold o (λ told. told ≡ more)) (sym is) tt
told-added (Some old) new more none is =
    subst (λ o. IfTold o (λ told. told ≡ more)) (sym is) (ap (λ l. l ++ more) none)

-- a pass that has seen nothing goes on to a history
pub history-of : (d : Debugging) (q : PassState Entry) (door : Tended) (ended : Opt DoorEnd) → HasServed d q door ended
    → IsHistory d q.seen
history-of d q door ended s =
    s.tended.tends.goes.history (subst (IsHistory d) (sym s.unstarted.start) (record { fits = tt; owned = tt }))

-- over what the pass has seen
served-at : (d : Debugging) (q : PassState Entry) (door : Tended) (ended : Opt DoorEnd) → HasServed d q door ended
    → IsServedDoor d q.number q.seen (q.refused ≡ true) door ended
served-at d q door ended s =
    let t = s.tended in
    let k : s.first.number ≡ q.number = sym t.tends.goes.same.1 in
    record {
      acts = t.acts;
      last = t.last;
      end = s.end;
      own =
          subst (λ (n : ℕ). by n q.seen ≡ entries_of t.acts ++ t.last) k
          (subst (λ h. by s.first.number q.seen ≡ by s.first.number h ++ (entries_of t.acts ++ t.last)) s.unstarted.start
          t.tends.goes.own);
      there =
          subst (λ (z : ℕ × List (ℕ × Entry)). FindsThere d z.0 z.1 q.seen) (λ i. (k i, s.unstarted.start i))
          t.tends.goes.there;
      are = subst (λ (n : ℕ). AreActs d n q.seen (q.refused ≡ true) t.acts) k t.tends.are;
      apart = subst (λ h. AreNew h (sessions_of t.acts)) s.unstarted.start t.tends.new;
      links = told-added s.unasked.served door.served (links_of t.acts) s.is_new.2 t.links;
      home = t.home;
      asks = t.asks ∙ ap (asked_more (questions s.end t.acts)) s.is_new.1;
      once = t.once;
      ends = (
        q.seen,
        begins_same q.seen,
        subst (λ (n : ℕ). EndsDoor d n q.seen (q.refused ≡ true) s.end t.last 0 door.faults) k
            (subst (λ (n : ℕ). EndsDoor d s.first.number q.seen (q.refused ≡ true) s.end t.last n door.faults)
            s.is_new.0 t.ends),
      );
      is_end = s.is_end;
    }

-- over a longer history without further entries of its maker
served-longer : (d : Debugging) (k : ℕ) (h g : List (ℕ × Entry)) (spent : Type 0) (door : Tended) (ended : Opt DoorEnd)
    → Begins h g → by k g ≡ by k h → IsHistory d g → IsServedDoor d k h spent door ended
    → IsServedDoor d k g spent door ended
served-longer d k h g spent door ended longer own is s = record {
  acts = s.acts;
  last = s.last;
  end = s.end;
  own = own ∙ s.own;
  there =
      subst (FindsThere d k []) (sym longer.1)
      (there-over d k [] h longer.0 (by_behind k h longer.0 g longer.1 own) s.there);
  are =
      subst (λ l. AreActs d k l spent s.acts) (sym longer.1)
      (acts-stay d k h longer.0 spent s.acts (subst (IsHistory d) longer.1 is)
      (λ r owns. subst (TakesNone r) (sym (by_behind k h longer.0 g longer.1 own)) (All-nil (IsNoTake r))) s.are);
  apart = s.apart;
  links = s.links;
  home = s.home;
  asks = s.asks;
  once = s.once;
  ends = was-longer (λ seen. EndsDoor d k seen spent s.end s.last 0 door.faults) h g longer s.ends;
  is_end = s.is_end;
}

-- where more is known of no ticket being left
pub had-so : (spent more : Type 0) (unshut : Opt NotShut) → (spent → more) → HadNoTicket spent unshut
    → HadNoTicket more unshut
had-so spent more None on had = tt
had-so spent more (Some unshut) on had = (had.0, on had.1)

ends-so : (d : Debugging) (k : ℕ) (h : List (ℕ × Entry)) (spent more : Type 0) (end : DoorEnd) (last : List Entry)
    (old new : ℕ) → (spent → more) → EndsDoor d k h spent end last old new → EndsDoor d k h more end last old new
ends-so d k h spent more (ends.Over state) last old new on e = e
ends-so d k h spent more (ends.Fault unshut) last old new on e = (e.0, had-so spent more unshut on e.1, e.2)
ends-so d k h spent more (ends.Spent ticket) last old new on e = (e.0, e.1, e.2, on e.3)

pub served-so : (d : Debugging) (k : ℕ) (h : List (ℕ × Entry)) (spent more : Type 0) (door : Tended)
    (ended : Opt DoorEnd) → (spent → more) → IsServedDoor d k h spent door ended → IsServedDoor d k h more door ended
served-so d k h spent more door ended on s = record {
  acts = s.acts;
  last = s.last;
  end = s.end;
  own = s.own;
  there = s.there;
  are = acts-so d k h spent more on s.acts s.are;
  apart = s.apart;
  links = s.links;
  home = s.home;
  asks = s.asks;
  once = s.once;
  ends = (s.ends.0, s.ends.1, ends-so d k s.ends.0 spent more s.end s.last 0 door.faults on s.ends.2);
  is_end = s.is_end;
}

-- ---- passes joined, one after another

either : {A : Type 0} (P : A → Type 0) (test : Bool) (x y : A) → P x → P y → P (if test then y else x)
either P true x y a b = b
either P false x y a b = a

second-true : (a b : Bool) → b ≡ true → (a || b) ≡ true
second-true true b is = refl
second-true false b is = is

joined-push : (p : PassState Entry) (passes : List (PassState Entry)) (q : PassState Entry)
    → joined_passes p (passes ++ q ∷ []) ≡ joined_pass (joined_passes p passes) q
joined-push p [] q = refl
joined-push p (r ∷ passes) q = joined-push (joined_pass p r) passes q

pub map-push : {A B : Type 0} (f : A → B) (xs : List A) (x : A) → map f (xs ++ x ∷ []) ≡ map f xs ++ f x ∷ []
map-push f [] x = refl
map-push f (y ∷ xs) x = ap (λ l. f y ∷ l) (map-push f xs x)

-- one more is handed back
pub pushed : {X Y : Type 0} (f : X → Y) (old : List Y) (xs : List X) (x : X) (before after : List Y) (y : Y)
    → after ≡ before ++ y ∷ [] → before ≡ old ++ map f xs → y ≡ f x → after ≡ old ++ map f (xs ++ x ∷ [])
pushed f old xs x before after y is so at =
    is
    ∙ ap (λ l. l ++ y ∷ []) so
    ∙ ap (λ z. (old ++ map f xs) ++ z ∷ []) at
    ∙ append_assoc old (map f xs) (f x ∷ [])
    ∙ ap (λ l. old ++ l) (sym (map-push f xs x))

-- where each of the second list has the number of the first in its place, the numbers are the same
pub alike : {X : Type 0} (f : X → ℕ) (xs ys : List X) → length ys ≡ length xs
    → ((k : ℕ) (x : X) → k < length xs → f (slice_index_or ys k x) ≡ f (slice_index_or xs k x)) → map f ys ≡ map f xs
alike f [] [] same at = refl
alike f [] (y ∷ ys) same at = absurd (omega (arith, same))
alike f (x ∷ xs) [] same at = absurd (omega (arith, same))
alike f (x ∷ xs) (y ∷ ys) same at =
    ap (λ (n : ℕ). n ∷ map f ys) (at 0 x (omega arith))
    ∙ ap (λ l. f x ∷ l) (alike f xs ys (omega (arith, same)) (λ k z lt. at (suc k) z (omega (arith, lt))))

-- what is so for the number of each desk is so for each of these numbers
pub among : {X : Type 0} (P : ℕ → Type 0) (number : X → ℕ) (desks : List X) (x : ℕ) → All (λ y. P (number y)) desks
    → has x (map number desks) ≡ true → P x
among P number [] x all is = absurd cc
among P number (desk ∷ desks) x all is = dite (ℕ_discrete (number desk) x)
    (λ same. subst P same (All-head (λ y. P (number y)) desk desks all))
    (λ other.
    among P number desks x (All-tail (λ y. P (number y)) desk desks all)
    (sym (ap (λ (b : Bool). if b then true else has x (map number desks)) (ne_eqb (number desk) x other)) ∙ is))

-- the passes of these desks were joined into one
pub record Joining {X : Type 0} (d : Debugging) (pass : X → PassState Entry) (door : X → Tended)
    (ended : X → Opt DoorEnd) (p q : PassState Entry) (desks : List X) : Type 0 where
  pub joined : q ≡ joined_passes p (map pass desks)
  pub lock : q.lock ≡ p.lock
  pub number : q.number ≡ p.number
  pub initial : q.initial ≡ p.initial
  pub unsplit : q.splits ≡ p.splits
  pub free : q.in_turn ≡ false
  pub history : IsHistory d q.seen
  pub longer : Begins p.seen q.seen
  pub own : KeepsWhole p q.seen
  pub refused : p.refused ≡ true → q.refused ≡ true
  pub named : (x : ℕ) → has x p.numbers ≡ true → has x q.numbers ≡ true
  pub served :
      All
      (λ x. IsServedDoor d (pass x).number q.seen (q.refused ≡ true) (door x) (ended x)
      × (has (pass x).number q.numbers ≡ true))
      desks

module _ {X : Type 0} (d : Debugging) (pass : X → PassState Entry) (door : X → Tended) (ended : X → Opt DoorEnd) where
  pub joining-none : (p : PassState Entry) → p.in_turn ≡ false → IsHistory d p.seen → Joining d pass door ended p p []
  joining-none p free is = record {
    joined = refl;
    lock = refl;
    number = refl;
    initial = refl;
    unsplit = refl;
    free = free;
    history = is;
    longer = begins_same p.seen;
    own = λ x y. refl;
    refused = λ told. told;
    named = λ x y. y;
    served =
        All-nil
        (λ x. IsServedDoor d (pass x).number p.seen (p.refused ≡ true) (door x) (ended x)
        × (has (pass x).number p.numbers ≡ true));
  }

  number-named : (x : X) → HasServed d (pass x) (door x) (ended x) → has (pass x).number (pass x).numbers ≡ true
  number-named x s =
      let same = s.tended.tends.goes.same in
      ap (λ l. has (pass x).number l) same.2 ∙ ap (λ (n : ℕ). has n s.first.numbers) same.1 ∙ s.unstarted.named

  pub joining-on : (p m q : PassState Entry) (desks : List X) (x : X) → Joining d pass door ended p m desks
      → HasServed d (pass x) (door x) (ended x) → q ≡ joined_pass m (pass x) → Begins m.seen q.seen
      → Begins (pass x).seen q.seen → KeepsWhole m q.seen → KeepsWhole (pass x) q.seen
      → Joining d pass door ended p q (desks ++ x ∷ [])
  joining-on p m q desks x j s is b c own others = record {
    joined =
        is
        ∙ ap (λ z. joined_pass z (pass x)) j.joined
        ∙ sym (joined-push p (map pass desks) (pass x))
        ∙ ap (joined_passes p) (sym (map-push pass desks x));
    lock = ap (λ z. z.lock) is ∙ j.lock;
    number = ap (λ z. z.number) is ∙ j.number;
    initial = ap (λ z. z.initial) is ∙ j.initial;
    unsplit = unsplit;
    free = ap (λ z. z.in_turn) is ∙ j.free;
    history = history;
    longer = begins-on p.seen m.seen q.seen j.longer b;
    own = λ y at. own y (j.named y at) ∙ j.own y at;
    refused = λ told. first-refused (j.refused told);
    named = λ y at. front y (j.named y at);
    served =
        All-push P desks x
        (All-weaker
        (λ y. IsServedDoor d (pass y).number m.seen (m.refused ≡ true) (door y) (ended y)
        × (has (pass y).number m.numbers ≡ true)) P
        (λ y at. (
          served-so d (pass y).number q.seen (m.refused ≡ true) (q.refused ≡ true) (door y) (ended y) first-refused
              (served-longer d (pass y).number m.seen q.seen (m.refused ≡ true) (door y) (ended y) b
              (own (pass y).number at.1) history at.0),
          front (pass y).number at.1,
        ))
        desks j.served) (
          served-so d (pass x).number q.seen ((pass x).refused ≡ true) (q.refused ≡ true) (door x) (ended x)
              then-refused
              (served-longer d (pass x).number (pass x).seen q.seen ((pass x).refused ≡ true) (door x) (ended x) c
              (others (pass x).number (number-named x s)) history (served-at d (pass x) (door x) (ended x) s)),
          ap (λ z. has (pass x).number z.numbers) is
              ∙ has_behind (pass x).number m.numbers (pass x).numbers (number-named x s),
        );
  }
    where
      P : X → Type 0
      P y =
          IsServedDoor d (pass y).number q.seen (q.refused ≡ true) (door y) (ended y)
          × (has (pass y).number q.numbers ≡ true)

      first-refused : m.refused ≡ true → q.refused ≡ true
      first-refused told = ap (λ z. z.refused) is ∙ ap (λ (b : Bool). b || (pass x).refused) told

      then-refused : (pass x).refused ≡ true → q.refused ≡ true
      then-refused told = ap (λ z. z.refused) is ∙ second-true m.refused (pass x).refused told

      unsplit : q.splits ≡ p.splits
      unsplit =
          let none = s.tended.tends.goes.same.3 ∙ s.unstarted.unsplit in
          let sum = ap (λ z. z.splits) is in
          let before = j.unsplit in omega (arith, none, sum, before)

      front : (y : ℕ) → has y m.numbers ≡ true → has y q.numbers ≡ true
      front y at = ap (λ z. has y z.numbers) is ∙ has_front y m.numbers (pass x).numbers at

      history : IsHistory d q.seen
      history =
          subst (λ z. IsHistory d z.seen) (sym is)
          (either (IsHistory d) (nat_lt (length m.seen) (length (pass x).seen)) m.seen (pass x).seen j.history
          (history-of d (pass x) (door x) (ended x) s))

  -- each door is served over the joined history
  pub served-in : (p q : PassState Entry) (desks : List X) → Joining d pass door ended p q desks
      → All (λ x. IsServedDoor d (pass x).number q.seen (q.refused ≡ true) (door x) (ended x)) desks
  served-in p q desks j =
      All-weaker
      (λ x. IsServedDoor d (pass x).number q.seen (q.refused ≡ true) (door x) (ended x)
      × (has (pass x).number q.numbers ≡ true))
      (λ x. IsServedDoor d (pass x).number q.seen (q.refused ≡ true) (door x) (ended x)) (λ x at. at.0) desks j.served

  -- where all passes of a lock were joined, the one that is left answers for all
  pub answers-for-all : (p q : PassState Entry) (desks : List X) → Joining d pass door ended p q desks
      → AreAll p (map (λ x. (pass x).number) desks) → AnswersForAll q
  answers-for-all p q desks j are =
      (j.unsplit ∙ are.0, λ y lt. covered y (are.1 y (subst (λ (n : ℕ). y < n) j.initial lt)))
    where
      covered : (y : ℕ) → (has y p.numbers ≡ true) ⊎ (has y (map (λ x. (pass x).number) desks) ≡ true)
          → has y q.numbers ≡ true
      covered y (inl own) = j.named y own
      covered y (inr desk) =
          among (λ z. has z q.numbers ≡ true) (λ x. (pass x).number) desks y
          (All-weaker
          (λ x. IsServedDoor d (pass x).number q.seen (q.refused ≡ true) (door x) (ended x)
          × (has (pass x).number q.numbers ≡ true))
          (λ x. has (pass x).number q.numbers ≡ true) (λ x at. at.1) desks j.served)
          desk
