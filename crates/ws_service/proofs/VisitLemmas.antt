-- What a pass did at a door stays so over each longer history.
use Rattle.std.proofs.Common.{◌≡◌, ◌≢◌, ◌⊎◌, inl, inr, ℕ, List, All, [], ◌∷◌, ◌++◌, Bool, false, true, refl, ap, sym, subst, ◌∙◌, append_assoc, append-nil}
use Rattle.std.proofs.lemmas.List.{append_cancel_left, map-append}
use Rattle.std.proofs.lemmas.List.Elements.{All-append, All-cons, All-nil}
use Rattle.cdp_host_isolation.specs.Protocols.{Protocol}
use Rattle.cdp_host_isolation.specs.Meanings.{Meaning, begin}
use Rattle.cdp_host_isolation.specs.Histories.{Entry, Attach, Tell, Take, Detach, FitsAll, apply}
use Rattle.cdp_host_isolation.specs.Makers.{IsNoTake, Owns, TakesNone, by, entries_of as unmade, entry_of}
use Rattle.cdp_host_isolation.proofs.MakerLemmas.{by-append, owned-front, owns-longer}
use Rattle.cdp_host_isolation.proofs.OwnerLemmas.{handed-keeps}
use Rattle.history_lock.specs.Histories.{Begins}
use Rattle.history_lock.specs.Passes.{PassState, refused_pass}
use Rattle.cdp_edge_server.specs.Heard as heard
use Rattle.cdp_edge_server.specs.Heard.{Heard}
use Rattle.cdp_host_turns.specs.Debuggings.{Debugging, IsHistory, sent_alone}
use Rattle.cdp_host_turns.specs.States.{IsShut}
use Rattle.cdp_host_turns.specs.Turns.{Acts}
use Rattle.ws_service.specs.Connections.{Connection, Ends, IsCutOff, IsToldLast, SentOf, turns, turns_at}
use Rattle.ws_service.specs.Passing.{Goes, IsThereFor}
use Rattle.ws_service.specs.Sessions.{IsRefused, Session}
use Rattle.ws_service.specs.Visits.{AreActs, AreNew, DoorAct, IsAct, IsRefusal, IsUnattached, IsVisit, Looked, Refused, Speaks, Tends, Visit, Visited, entries_at, entries_of, link_at, links_of, sessions_of}
use Rattle.ws_service.specs.declared.served.Served.{Served}
use Rattle.ws_service.specs.declared.served.Served.TheVariants as served
use Rattle.cdp_edge_server.specs.Contents.{Spoken}
use Rattle.ws_service.proofs.PassingLemmas.{goes, goes-none, goes-on, goes-refused, was-longer}
use Rattle.ws_service.proofs.SessionLemmas.{cause-longer, cause-so, handed-alone}

-- ---- the same over a longer history

fits-front : {C T Q X : Type 0} → (P : Protocol C T Q X) (m : Meaning C Q X) (history more : List Entry)
    → FitsAll P m (history ++ more) → FitsAll P m history
fits-front P m [] more all = tt
fits-front P m (entry ∷ history) more all = (all.0, fits-front P (apply P m entry) history more all.1)

-- a beginning of a history is one
pub history-front : (d : Debugging) (h g : List (ℕ × Entry)) → IsHistory d (h ++ g) → IsHistory d h
history-front d h g is = record {
  fits =
      fits-front d.protocol (begin d.program d.wait) (unmade h) (unmade g)
      (subst (FitsAll d.protocol (begin d.program d.wait)) (map-append entry_of h g) is.fits);
  owned = owned-front [] h g is.owned;
}

-- what a session would be sent alone stays, where its owner takes none of its texts
pub alone-stays : (d : Debugging) (k s : ℕ) (h g : List (ℕ × Entry)) → Owns k s h → IsHistory d (h ++ g)
    → TakesNone s (by k g) → sent_alone d s (h ++ g) ≡ sent_alone d s h
alone-stays d k s h g owns is none =
    sym (handed-alone d s (h ++ g) is)
    ∙ handed-keeps d.protocol k s d.program d.wait h g owns is.owned none
    ∙ handed-alone d s h (history-front d h g is)

visit-stays : (d : Debugging) (k : ℕ) (h g : List (ℕ × Entry)) (spent : Type 0) (visit : Visit)
    → IsHistory d (h ++ g) → ((s : ℕ) → Owns k s h → TakesNone s (by k g)) → IsVisit d k h spent visit
    → IsVisit d k (h ++ g) spent visit
visit-stays d k h g spent visit is none a = record {
  connection = a.connection;
  owns = owns-longer k visit.session h g a.owns;
  sent =
      subst (SentOf visit.cut visit.texts)
      (sym (alone-stays d k visit.session h g a.owns is (none visit.session a.owns))) a.sent;
  cause = cause-longer d visit.session visit.end h (h ++ g) spent (g, refl) a.cause;
  speaks = a.speaks;
}

unattached-stays : (d : Debugging) (end : Served) (entries : List Entry) (h g : List (ℕ × Entry)) (spent : Type 0)
    → Begins h g → IsUnattached d h spent end entries → IsUnattached d g spent end entries
unattached-stays d served.Shut entries h g spent longer is = (is.0, was-longer (IsShut d) h g longer is.1)
unattached-stays d served.Memory entries h g spent longer is = is
unattached-stays d (served.Spent ticket) entries h g spent longer is = is
unattached-stays d served.Closed entries h g spent longer is = absurd is
unattached-stays d served.TooBig entries h g spent longer is = absurd is
unattached-stays d served.Binary entries h g spent longer is = absurd is
unattached-stays d served.Overrun entries h g spent longer is = absurd is
unattached-stays d served.Over entries h g spent longer is = absurd is
unattached-stays d served.Fault entries h g spent longer is = absurd is

act-stays : (d : Debugging) (k : ℕ) (h g : List (ℕ × Entry)) (spent : Type 0) (act : DoorAct) → IsHistory d (h ++ g)
    → ((s : ℕ) → Owns k s h → TakesNone s (by k g)) → IsAct d k h spent act → IsAct d k (h ++ g) spent act
act-stays d k h g spent (Visited visit) is none a = visit-stays d k h g spent visit is none a
act-stays d k h g spent (Refused refusal) is none a = record {
  unattached = unattached-stays d refusal.end refusal.entries h (h ++ g) spent (g, refl) a.unattached;
  speaks = a.speaks;
}
act-stays d k h g spent Looked is none a = tt

-- each act stays so, where the pass takes no text of the sessions that it owned
pub acts-stay : (d : Debugging) (k : ℕ) (h g : List (ℕ × Entry)) (spent : Type 0) (acts : List DoorAct)
    → IsHistory d (h ++ g) → ((s : ℕ) → Owns k s h → TakesNone s (by k g)) → AreActs d k h spent acts
    → AreActs d k (h ++ g) spent acts
acts-stay d k h g spent [] is none a = tt
acts-stay d k h g spent (act ∷ acts) is none a =
    (act-stays d k h g spent act is none a.0, acts-stay d k h g spent acts is none a.1)

-- ---- the same where more is known of no ticket being left

module _ (d : Debugging) (k : ℕ) (h : List (ℕ × Entry)) (spent more : Type 0) (on : spent → more) where
  unattached-so : (end : Served) (entries : List Entry) → IsUnattached d h spent end entries
      → IsUnattached d h more end entries
  unattached-so served.Shut entries is = is
  unattached-so served.Memory entries is = is
  unattached-so (served.Spent ticket) entries is = (is.0, is.1, on is.2)
  unattached-so served.Closed entries is = absurd is
  unattached-so served.TooBig entries is = absurd is
  unattached-so served.Binary entries is = absurd is
  unattached-so served.Overrun entries is = absurd is
  unattached-so served.Over entries is = absurd is
  unattached-so served.Fault entries is = absurd is

  act-so : (act : DoorAct) → IsAct d k h spent act → IsAct d k h more act
  act-so (Visited visit) a = record {
    connection = a.connection;
    owns = a.owns;
    sent = a.sent;
    cause = cause-so d visit.session visit.end h spent more on a.cause;
    speaks = a.speaks;
  }
  act-so (Refused refusal) a =
      record { unattached = unattached-so refusal.end refusal.entries a.unattached; speaks = a.speaks }
  act-so Looked a = tt

  pub acts-so : (acts : List DoorAct) → AreActs d k h spent acts → AreActs d k h more acts
  acts-so [] a = tt
  acts-so (act ∷ acts) a = (act-so act a.0, acts-so acts a.1)

-- ---- more acts

pub entries-append : (xs ys : List DoorAct) → entries_of (xs ++ ys) ≡ entries_of xs ++ entries_of ys
entries-append [] ys = refl
entries-append (act ∷ xs) ys =
    ap (λ l. entries_at act ++ l) (entries-append xs ys)
    ∙ sym (append_assoc (entries_at act) (entries_of xs) (entries_of ys))

pub links-append : (xs ys : List DoorAct) → links_of (xs ++ ys) ≡ links_of xs ++ links_of ys
links-append [] ys = refl
links-append (act ∷ xs) ys =
    ap (λ l. link_at act ++ l) (links-append xs ys) ∙ sym (append_assoc (link_at act) (links_of xs) (links_of ys))

are-append : (d : Debugging) (k : ℕ) (h : List (ℕ × Entry)) (spent : Type 0) (xs ys : List DoorAct)
    → AreActs d k h spent xs → AreActs d k h spent ys → AreActs d k h spent (xs ++ ys)
are-append d k h spent [] ys a b = b
are-append d k h spent (act ∷ xs) ys a b = (a.0, are-append d k h spent xs ys a.1 b)

sessions-append : (xs ys : List DoorAct) → sessions_of (xs ++ ys) ≡ sessions_of xs ++ sessions_of ys
sessions-append [] ys = refl
sessions-append (Visited visit ∷ xs) ys = ap (λ l. visit.session ∷ l) (sessions-append xs ys)
sessions-append (Refused refusal ∷ xs) ys = sessions-append xs ys
sessions-append (Looked ∷ xs) ys = sessions-append xs ys

-- sessions that are new later were new before
new-before : (h g : List (ℕ × Entry)) (sessions : List ℕ) → Begins h g → AreNew g sessions → AreNew h sessions
new-before h g [] longer are = tt
new-before h g (s ∷ sessions) longer are = (
  λ k owns. are.0 k (subst (Owns k s) (sym longer.1) (owns-longer k s h longer.0 owns)),
  are.1,
  new-before h g sessions longer are.2,
)

-- they are others than one that has an owner
new-apart : (k s : ℕ) (h : List (ℕ × Entry)) (sessions : List ℕ) → Owns k s h → AreNew h sessions
    → All (λ r. r ≢ s) sessions
new-apart k s h [] owns are = All-nil (λ r. r ≢ s)
new-apart k s h (r ∷ sessions) owns are =
    All-cons (λ r. r ≢ s) r sessions (λ is. are.0 k (subst (λ (z : ℕ). Owns k z h) (sym is) owns))
    (new-apart k s h sessions owns are.2)

new-on : (d : Debugging) (k : ℕ) (h g : List (ℕ × Entry)) (spent : Type 0) (xs ys : List DoorAct) → Begins h g
    → AreActs d k g spent xs
    → AreNew h (sessions_of xs) → AreNew g (sessions_of ys) → AreNew h (sessions_of (xs ++ ys))
new-on d k h g spent [] ys longer are new more = new-before h g (sessions_of ys) longer more
new-on d k h g spent (Visited visit ∷ xs) ys longer are new more = (
  new.0,
  subst (All (λ r. r ≢ visit.session)) (sym (sessions-append xs ys))
      (All-append (λ r. r ≢ visit.session) (sessions_of xs) (sessions_of ys) new.1
      (new-apart k visit.session g (sessions_of ys) are.0.owns more)),
  new-on d k h g spent xs ys longer are.1 new.2 more,
)
new-on d k h g spent (Refused refusal ∷ xs) ys longer are new more = new-on d k h g spent xs ys longer are.1 new more
new-on d k h g spent (Looked ∷ xs) ys longer are new more = new-on d k h g spent xs ys longer are.1 new more

-- the pass's own entries of what is new are those that it left
own-rest : (k : ℕ) (h g q : List (ℕ × Entry)) (entries : List Entry) → q ≡ h ++ g → by k q ≡ by k h ++ entries
    → by k g ≡ entries
own-rest k h g q entries seen own =
    append_cancel_left (by k h) (by k g) entries (sym (by-append k h g) ∙ ap (by k) (sym seen) ∙ own)

-- what was done before stays so, by what is done then
kept : (d : Debugging) (p m q : PassState Entry) (xs ys : List DoorAct) (last : List Entry)
    → (xs ≡ []) ⊎ IsHistory d q.seen → Tends d p m xs [] → Tends d m q ys last
    → AreActs d p.number q.seen (q.refused ≡ true) xs
kept d p m q xs ys last (inl none) a b = subst (AreActs d p.number q.seen (q.refused ≡ true)) (sym none) tt
kept d p m q xs ys last (inr is) a b =
    let g = b.goes.longer.0 in
    let more = entries_of ys ++ last in
    let own : by p.number q.seen ≡ by p.number m.seen ++ more =
    subst (λ (k : ℕ). by k q.seen ≡ by k m.seen ++ more) a.goes.same.1 b.goes.own in
    let others : (s : ℕ) → Owns p.number s m.seen → TakesNone s more =
    subst (λ (k : ℕ). (s : ℕ) → Owns k s m.seen → TakesNone s more) a.goes.same.1 b.others in
    let rest : by p.number g ≡ more = own-rest p.number m.seen g q.seen more b.goes.longer.1 own in
    subst (λ h. AreActs d p.number h (q.refused ≡ true) xs) (sym b.goes.longer.1)
    (acts-so d p.number (m.seen ++ g) (m.refused ≡ true) (q.refused ≡ true) b.goes.same.5 xs
    (acts-stay d p.number m.seen g (m.refused ≡ true) xs (subst (IsHistory d) b.goes.longer.1 is)
    (λ s owns. subst (TakesNone s) (sym rest) (others s owns)) a.are))

entries-on : (xs ys : List DoorAct) (last : List Entry)
    → (entries_of xs ++ []) ++ (entries_of ys ++ last) ≡ entries_of (xs ++ ys) ++ last
entries-on xs ys last =
    ap (λ l. l ++ (entries_of ys ++ last)) (append-nil (entries_of xs))
    ∙ sym (append_assoc (entries_of xs) (entries_of ys) last)
    ∙ ap (λ l. l ++ last) (sym (entries-append xs ys))

others-on : (d : Debugging) (p m q : PassState Entry) (xs ys : List DoorAct) (last : List Entry) (s : ℕ)
    → Tends d p m xs [] → Tends d m q ys last → Owns p.number s p.seen
    → TakesNone s ((entries_of xs ++ []) ++ (entries_of ys ++ last))
others-on d p m q xs ys last s a b owns =
    let there : Owns p.number s m.seen =
    subst (Owns p.number s) (sym a.goes.longer.1) (owns-longer p.number s p.seen a.goes.longer.0 owns) in
    All-append (IsNoTake s) (entries_of xs ++ []) (entries_of ys ++ last) (a.others s owns)
    (b.others s (subst (λ (k : ℕ). Owns k s m.seen) (sym a.goes.same.1) there))

-- acts after acts
pub tends-on : (d : Debugging) (p m q : PassState Entry) (xs ys : List DoorAct) (last : List Entry)
    → (xs ≡ []) ⊎ IsHistory d q.seen → Tends d p m xs [] → Tends d m q ys last → Tends d p q (xs ++ ys) last
tends-on d p m q xs ys last is a b = record {
  goes =
      subst (Goes d p q) (entries-on xs ys last)
      (goes-on d p m q (entries_of xs ++ []) (entries_of ys ++ last) a.goes b.goes);
  are =
      are-append d p.number q.seen (q.refused ≡ true) xs ys (kept d p m q xs ys last is a b)
      (subst (λ (k : ℕ). AreActs d k q.seen (q.refused ≡ true) ys) a.goes.same.1 b.are);
  new = new-on d p.number p.seen m.seen (m.refused ≡ true) xs ys a.goes.longer a.are a.new b.new;
  others = λ s owns. subst (TakesNone s) (entries-on xs ys last) (others-on d p m q xs ys last s a b owns);
}

-- ---- no act, and turns of the pass's own

pub tends-none : (d : Debugging) (p : PassState Entry) → p.in_turn ≡ false → Tends d p p [] []
tends-none d p free =
    record { goes = goes-none d p free; are = tt; new = tt; others = λ s owns. All-nil (IsNoTake s) }

-- a turn that the pass is refused adds nothing
pub tends-refused : (d : Debugging) (p q : PassState Entry) (acts : List DoorAct) (last : List Entry)
    → Tends d p q acts last → Tends d p (refused_pass q) acts last
tends-refused d p q acts last a = record {
  goes = goes-refused d p q (entries_of acts ++ last) a.goes;
  are = acts-so d p.number q.seen (q.refused ≡ true) (true ≡ true) (λ told. refl) acts a.are;
  new = a.new;
  others = a.others;
}

-- a session that is owned isn't nobody
nobody : (k s : ℕ) (h : List (ℕ × Entry)) → Owns k s h → 0 ≢ s
nobody k s h owns is = none (subst (λ (r : ℕ). Owns k r h) (sym is) owns)
  where
    none : Owns k 0 h → ⊥
    none owns = cc

takes-nobodys : (k s : ℕ) (h : List (ℕ × Entry)) → Owns k s h → TakesNone s (Take 0 ∷ [])
takes-nobodys k s h owns = All-cons (IsNoTake s) (Take 0) [] (nobody k s h owns) (All-nil (IsNoTake s))

-- one look
pub tends-look : (d : Debugging) (p q : PassState Entry) → Acts d p q (Take 0) → Tends d p q (Looked ∷ []) []
tends-look d p q a = record {
  goes = goes d p q (Take 0) a (inl refl);
  are = (tt, tt);
  new = tt;
  others = λ s owns. takes-nobodys p.number s p.seen owns;
}

-- a last entry that takes no text
pub tends-last : (d : Debugging) (p q : PassState Entry) (entry : Entry) (a : Acts d p q entry)
    → IsThereFor d (p.seen ++ a.between) entry → ((s : ℕ) → IsNoTake s entry) → Tends d p q [] (entry ∷ [])
tends-last d p q entry a there none = record {
  goes = goes d p q entry a there;
  are = tt;
  new = tt;
  others = λ s owns. All-cons (IsNoTake s) entry [] (none s) (All-nil (IsNoTake s));
}

-- ---- entries of a session take no text of another

module _ (s r : ℕ) (apart : s ≢ r) where
  one : (entry : Entry) → IsNoTake r entry → TakesNone r (entry ∷ [])
  one entry none = All-cons (IsNoTake r) entry [] none (All-nil (IsNoTake r))

  two : (a b : Entry) → IsNoTake r a → IsNoTake r b → TakesNone r (a ∷ b ∷ [])
  two a b first then = All-cons (IsNoTake r) a (b ∷ []) first (one b then)

  are : (entries all : List Entry) → all ≡ entries → TakesNone r entries → TakesNone r all
  are entries all is none = subst (TakesNone r) (sym is) none

  none-at : (answer : Heard) → TakesNone r (turns_at s answer)
  none-at (heard.Text text) = two (Tell s text) (Take s) tt apart
  none-at heard.Binary = All-nil (IsNoTake r)
  none-at heard.TooBig = All-nil (IsNoTake r)
  none-at heard.Quiet = one (Take s) apart
  none-at heard.Closed = All-nil (IsNoTake r)
  none-at heard.Failed = All-nil (IsNoTake r)

  none-in-turns : (answers : List Heard) → TakesNone r (turns s answers)
  none-in-turns [] = All-nil (IsNoTake r)
  none-in-turns (answer ∷ answers) =
      All-append (IsNoTake r) (turns_at s answer) (turns s answers) (none-at answer) (none-in-turns answers)

  none-detached : (entries : List Entry) → entries ≡ Detach s ∷ [] → TakesNone r entries
  none-detached entries is = are (Detach s ∷ []) entries is (one (Detach s) tt)

  none-cut-off : (answers : List Heard) (entries : List Entry) → IsCutOff s answers entries → TakesNone r entries
  none-cut-off answers entries (inl (answer, goes, is, left)) = none-detached entries left
  none-cut-off answers entries (inr (text, is, left)) =
      are (Tell s text ∷ Detach s ∷ []) entries left (two (Tell s text) (Detach s) tt tt)

  none-told-last : (answers : List Heard) (entries : List Entry) → IsToldLast s answers entries → TakesNone r entries
  none-told-last answers entries (text, is, left) = are (Tell s text ∷ []) entries left (one (Tell s text) tt)

  none-at-end : (end : Served) (answers : List Heard) (entries : List Entry) (cut : Bool)
      → Ends s end answers entries cut → TakesNone r entries
  none-at-end served.Closed answers entries cut e = none-detached entries e.0.1
  none-at-end served.TooBig answers entries cut e = none-detached entries e.0.1
  none-at-end served.Binary answers entries cut e = none-detached entries e.0.1
  none-at-end served.Overrun answers entries cut (inl e, whole) = none-cut-off answers entries e
  none-at-end served.Overrun answers entries cut (inr e, whole) = none-told-last answers entries e
  none-at-end served.Shut answers entries cut e = none-cut-off answers entries e.0
  none-at-end served.Over answers entries cut e =
      are (Take s ∷ Detach s ∷ []) entries e.1 (two (Take s) (Detach s) apart tt)
  none-at-end served.Fault answers entries cut (inl e) = none-detached entries e.0.1
  none-at-end served.Fault answers entries cut (inr e) = none-detached entries e.0.1
  none-at-end served.Memory answers entries cut (inl e) = none-cut-off answers entries e.0
  none-at-end served.Memory answers entries cut (inr e) = none-detached entries e.1
  none-at-end (served.Spent ticket) answers entries cut (is, inl e) = are [] entries e.0 (All-nil (IsNoTake r))
  none-at-end (served.Spent ticket) answers entries cut (is, inr e) = none-told-last answers entries e

  pub none-of-another : (end : Served) (answers : List Heard) (entries : List Entry) (cut : Bool)
      → Connection s end answers entries cut → TakesNone r (Attach ∷ entries)
  none-of-another end answers entries cut c =
      All-cons (IsNoTake r) Attach entries tt
      (are (turns s c.front ++ c.rest) entries c.left
      (All-append (IsNoTake r) (turns s c.front) c.rest (none-in-turns c.front)
      (none-at-end end c.last c.rest cut c.ends)))

-- ---- a link that arrived

at-end : (entries : List Entry) → entries ≡ (entries ++ []) ++ []
at-end entries = sym (append-nil (entries ++ []) ∙ append-nil entries)

-- a session served it
pub tends-visit : (d : Debugging) (s : ℕ) (p q : PassState Entry) (end : Served) (answers : List Heard)
    (texts : List (List ℕ)) (link : Spoken) → (a : Session d s p q end answers texts) → Speaks link answers texts end
    → Tends d p q
    (Visited
    (record {
      session = s;
      entries = a.entries;
      answers = answers;
      texts = texts;
      end = end;
      cut = a.cut;
      link = link;
    })
    ∷ [])
    []
tends-visit d s p q end answers texts link a speaks = record {
  goes = subst (Goes d p q) (at-end (Attach ∷ a.entries)) a.goes;
  are =
      (record { connection = a.connection; owns = a.owns; sent = a.sent; cause = a.cause; speaks = speaks }, tt);
  new = (a.new, All-nil (λ r. r ≢ s), tt);
  others = λ r owns.
      subst (TakesNone r) (at-end (Attach ∷ a.entries))
      (none-of-another s r (λ is. a.new p.number (subst (λ (z : ℕ). Owns p.number z p.seen) (sym is) owns)) end answers
      a.entries a.cut a.connection);
}

refusal : (d : Debugging) (p q : PassState Entry) (end : Served) (link : Spoken) (entries : List Entry)
    → Goes d p q entries → Speaks link [] [] end → IsUnattached d q.seen (q.refused ≡ true) end entries
    → ((s : ℕ) → Owns p.number s p.seen → TakesNone s entries)
    → Tends d p q (Refused (record { entries = entries; end = end; link = link }) ∷ []) []
refusal d p q end link entries goes speaks unattached others = record {
  goes = subst (Goes d p q) (at-end entries) goes;
  are = (record { unattached = unattached; speaks = speaks }, tt);
  new = tt;
  others = λ s owns. subst (TakesNone s) (at-end entries) (others s owns);
}

-- no session was attached for it
pub tends-refusal : (d : Debugging) (p q : PassState Entry) (end : Served) (link : Spoken) → p.in_turn ≡ false
    → IsRefused d p q end → Speaks link [] [] end
    → (entries : List Entry) × Tends d p q (Refused (record { entries = entries; end = end; link = link }) ∷ []) []
tends-refusal d p q served.Shut link free is speaks = (
  Take 0 ∷ [],
  refusal d p q served.Shut link (Take 0 ∷ []) is.0 speaks (refl, is.1)
      (λ s owns. takes-nobodys p.number s p.seen owns),
)
tends-refusal d p q served.Memory link free is speaks = (
  Take 0 ∷ [],
  refusal d p q served.Memory link (Take 0 ∷ []) is speaks refl (λ s owns. takes-nobodys p.number s p.seen owns),
)
tends-refusal d p q (served.Spent ticket) link free is speaks = (
  [],
  refusal d p q (served.Spent ticket) link []
      (subst (λ z. Goes d p z []) (sym is.1) (goes-refused d p p [] (goes-none d p free))) speaks
      (is.0, refl, ap (λ z. z.refused) is.1) (λ s owns. All-nil (IsNoTake s)),
)
tends-refusal d p q served.Closed link free is speaks = absurd is
tends-refusal d p q served.TooBig link free is speaks = absurd is
tends-refusal d p q served.Binary link free is speaks = absurd is
tends-refusal d p q served.Overrun link free is speaks = absurd is
tends-refusal d p q served.Over link free is speaks = absurd is
tends-refusal d p q served.Fault link free is speaks = absurd is
