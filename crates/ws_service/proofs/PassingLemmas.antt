-- A pass goes on, turn after turn.
use Rattle.std.proofs.Common.{◌≡◌, inr, ℕ, List, [], ◌∷◌, ◌++◌, false, true, refl, ap, sym, subst, ◌∙◌, append_assoc, append-nil}
use Rattle.cdp_host_isolation.specs.Histories.{Entry, Take}
use Rattle.cdp_host_isolation.specs.Makers.{AreOwned, IsNoTake, Owns, by}
use Rattle.cdp_host_isolation.proofs.MakerLemmas.{by-append, by-own, owned-front, owns-longer}
use Rattle.cdp_host_isolation.proofs.OwnerLemmas.{handed-same, handed-stays}
use Rattle.history_lock.specs.Histories.{Begins}
use Rattle.history_lock.specs.Passes.{PassState, IsSamePass, refused_pass}
use Rattle.cdp_host_turns.specs.Debuggings.{Debugging, handed}
use Rattle.cdp_host_turns.specs.Turns.{Acts, Finds}
use Rattle.cdp_host_turns.specs.Presences.{IsThere}
use Rattle.ws_service.specs.Passing.{FindsThere, FoundAt, Goes, IsThereFor, Serves, Was}
use Rattle.ws_service.proofs.EntryLemmas.{there-none, there-on, there-turn}

pub begins-on : {A : Type 0} (xs ys zs : List A) → Begins xs ys → Begins ys zs → Begins xs zs
begins-on xs ys zs a b = (a.0 ++ b.0, b.1 ∙ ap (λ l. l ++ b.0) a.1 ∙ append_assoc xs a.0 b.0)

pub same-on : (p m q : PassState Entry) → IsSamePass p m → IsSamePass m q → IsSamePass p q
same-on p m q a b = (b.0 ∙ a.0, b.1 ∙ a.1, b.2 ∙ a.2, b.3 ∙ a.3, b.4 ∙ a.4, λ told. b.5 (a.5 told))

-- ---- turns

-- a turn leaves its entry
pub made : (d : Debugging) (p q : PassState Entry) (entry : Entry) → Acts d p q entry
    → by p.number q.seen ≡ by p.number p.seen ++ entry ∷ []
made d p q entry a =
    ap (by p.number) a.seen
    ∙ by-append p.number (p.seen ++ a.between) ((p.number, entry) ∷ [])
    ∙ ap (λ l. l ++ by p.number ((p.number, entry) ∷ []))
    (by-append p.number p.seen a.between ∙ ap (λ l. by p.number p.seen ++ l) a.nothing ∙ append-nil (by p.number p.seen))
    ∙ ap (λ l. by p.number p.seen ++ l) (by-own p.number entry [])

-- and makes what was seen longer
longer-by : (d : Debugging) (p q : PassState Entry) (entry : Entry) → Acts d p q entry → Begins p.seen q.seen
longer-by d p q entry a =
    (a.between ++ (p.number, entry) ∷ [], a.seen ∙ append_assoc p.seen a.between ((p.number, entry) ∷ []))

pub goes : (d : Debugging) (p q : PassState Entry) (entry : Entry) (a : Acts d p q entry)
    → IsThereFor d (p.seen ++ a.between) entry → Goes d p q (entry ∷ [])
goes d p q entry a there = record {
  own = made d p q entry a;
  longer = longer-by d p q entry a;
  history = λ _. a.history;
  same = a.same;
  free = a.free;
  there = there-turn d p q entry a there;
}

-- no turn leaves nothing
pub goes-none : (d : Debugging) (p : PassState Entry) → p.in_turn ≡ false → Goes d p p []
goes-none d p free = record {
  own = sym (append-nil (by p.number p.seen));
  longer = ([], sym (append-nil p.seen));
  history = λ h. h;
  same = (refl, refl, refl, refl, refl, λ told. told);
  free = free;
  there = there-none d p.number p.seen;
}

-- nor does a turn that the pass is refused
pub goes-refused : (d : Debugging) (p q : PassState Entry) (entries : List Entry) → Goes d p q entries
    → Goes d p (refused_pass q) entries
goes-refused d p q entries a = record {
  own = a.own;
  longer = a.longer;
  history = a.history;
  same = (a.same.0, a.same.1, a.same.2, a.same.3, a.same.4, λ told. refl);
  free = a.free;
  there = a.there;
}

pub goes-on : (d : Debugging) (p m q : PassState Entry) (es fs : List Entry) → Goes d p m es → Goes d m q fs
    → Goes d p q (es ++ fs)
goes-on d p m q es fs a b = record {
  own =
      subst (λ (k : ℕ). by k q.seen ≡ by k m.seen ++ fs) a.same.1 b.own
      ∙ ap (λ l. l ++ fs) a.own
      ∙ append_assoc (by p.number p.seen) es fs;
  longer = begins-on p.seen m.seen q.seen a.longer b.longer;
  history = λ h. b.history (a.history h);
  same = same-on p m q a.same b.same;
  free = b.free;
  there =
      there-on d p.number p.seen m.seen q.seen b.longer a.there
      (subst (λ (k : ℕ). FindsThere d k m.seen q.seen) a.same.1 b.there);
}

-- what a turn found was so at some time
pub found-was : (d : Debugging) (R : List (ℕ × Entry) → Type 0) (p q : PassState Entry) (entry : Entry)
    → Finds d R p q entry → Was R q.seen
found-was d R p q entry f = (p.seen ++ f.0.between, ((p.number, entry) ∷ [], f.0.seen), f.1)

-- the entry of a turn came when what it found was so
pub found-at : (d : Debugging) (R : List (ℕ × Entry) → Type 0) (p q : PassState Entry) (entry : Entry)
    → Finds d R p q entry → FoundAt R entry q.seen
found-at d R p q entry f = (p.seen ++ f.0.between, [], p.number, f.0.seen, f.1)

pub found-longer : (R : List (ℕ × Entry) → Type 0) (entry : Entry) (h g : List (ℕ × Entry)) → Begins h g
    → FoundAt R entry h → FoundAt R entry g
found-longer R entry h g b f = (
  f.0,
  f.1 ++ b.0,
  f.2,
  b.1 ∙ ap (λ l. l ++ b.0) f.3 ∙ append_assoc f.0 ((f.2, entry) ∷ f.1) b.0,
  f.4,
)

pub was-longer : (R : List (ℕ × Entry) → Type 0) (h g : List (ℕ × Entry)) → Begins h g → Was R h → Was R g
was-longer R h g b was = (was.0, begins-on was.0 h g was.1 b, was.2)

-- ---- turns for a session

-- a turn that takes none of its texts hands out none
quiet : (d : Debugging) (s : ℕ) (p q : PassState Entry) (entry : Entry) → Acts d p q entry → Owns p.number s p.seen
    → IsNoTake s entry → handed d s q.seen ≡ handed d s p.seen ++ []
quiet d s p q entry a owns none =
    let owned = owned-front [] (p.seen ++ a.between) ((p.number, entry) ∷ []) (subst (AreOwned []) a.seen a.history.owned) in
    ap (handed d s) a.seen
    ∙ handed-same d.protocol s d.program d.wait (p.seen ++ a.between) p.number entry none
    ∙ handed-stays d.protocol p.number s d.program d.wait p.seen a.between owns owned a.nothing
    ∙ sym (append-nil (handed d s p.seen))

owns-on : (d : Debugging) (s : ℕ) (p q : PassState Entry) (entry : Entry) → Acts d p q entry → Owns p.number s p.seen
    → Owns p.number s q.seen
owns-on d s p q entry a owns =
    let longer = longer-by d p q entry a in
    subst (Owns p.number s) (sym longer.1) (owns-longer p.number s p.seen longer.0 owns)

pub serves : (d : Debugging) (s : ℕ) (p q : PassState Entry) (entry : Entry) (a : Acts d p q entry)
    → IsThereFor d (p.seen ++ a.between) entry → Owns p.number s p.seen → IsNoTake s entry
    → Serves d s p q (entry ∷ []) []
serves d s p q entry a there owns none = record {
  goes = goes d p q entry a there;
  handed_out = quiet d s p q entry a owns none;
  owns = owns-on d s p q entry a owns;
}

pub serves-take : (d : Debugging) (s : ℕ) (p q : PassState Entry) (texts : List (List ℕ)) (a : Acts d p q (Take s))
    → IsThere d s (p.seen ++ a.between) → Owns p.number s p.seen
    → handed d s q.seen ≡ handed d s p.seen ++ texts → Serves d s p q (Take s ∷ []) texts
serves-take d s p q texts a there owns handed_out = record {
  goes = goes d p q (Take s) a (inr there);
  handed_out = handed_out;
  owns = owns-on d s p q (Take s) a owns;
}

pub serves-none : (d : Debugging) (s : ℕ) (p : PassState Entry) → p.in_turn ≡ false → Owns p.number s p.seen
    → Serves d s p p [] []
serves-none d s p free owns =
    record { goes = goes-none d p free; handed_out = sym (append-nil (handed d s p.seen)); owns = owns }

pub serves-refused : (d : Debugging) (s : ℕ) (p q : PassState Entry) (es : List Entry) (ts : List (List ℕ))
    → Serves d s p q es ts → Serves d s p (refused_pass q) es ts
serves-refused d s p q es ts a =
    record { goes = goes-refused d p q es a.goes; handed_out = a.handed_out; owns = a.owns }

pub serves-on : (d : Debugging) (s : ℕ) (p m q : PassState Entry) (es fs : List Entry) (ts us : List (List ℕ))
    → Serves d s p m es ts → Serves d s m q fs us → Serves d s p q (es ++ fs) (ts ++ us)
serves-on d s p m q es fs ts us a b = record {
  goes = goes-on d p m q es fs a.goes b.goes;
  handed_out = b.handed_out ∙ ap (λ l. l ++ us) a.handed_out ∙ append_assoc (handed d s p.seen) ts us;
  owns = subst (λ (k : ℕ). Owns k s q.seen) a.goes.same.1 b.owns;
}

-- the pass owns the session still
pub still-owns : (d : Debugging) (s : ℕ) (p q : PassState Entry) (es : List Entry) (ts : List (List ℕ))
    → Serves d s p q es ts → Owns q.number s q.seen
still-owns d s p q es ts a = subst (λ (k : ℕ). Owns k s q.seen) (sym a.goes.same.1) a.owns
