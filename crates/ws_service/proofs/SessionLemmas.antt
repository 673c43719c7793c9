-- A session goes on, and what its link is sent.
use Rattle.std.proofs.Common.{◌≡◌, ◌⊎◌, inl, inr, ℕ, List, [], ◌∷◌, ◌++◌, map, string_bytes, Bool, true, false, Option, Some, None, Ok, Err, refl, ap, sym, subst, ◌∙◌, append_assoc, append-nil}
use Rattle.cdp_host_isolation.specs.Histories.{Entry, Attach, Tell, Take, Detach}
use Rattle.cdp_host_isolation.specs.Makers.{Owns, entries_of}
use Rattle.cdp_host_isolation.specs.declared.seat.Loss.TheVariants.{Overrun, Memory}
use Rattle.cdp_host_isolation.proofs.AloneLemmas.{alone}
use Rattle.history_lock.specs.Histories.{Begins, limit}
use Rattle.history_lock.specs.Passes.{PassState, refused_pass}
use Rattle.cdp_edge_server.specs.Contents.{adds}
use Rattle.cdp_edge_server.specs.Heard as heard
use Rattle.cdp_edge_server.specs.Heard.{Heard}
use Rattle.cdp_edge_server.specs.declared.link.LinkFault.{LinkFault}
use Rattle.cdp_edge_server.specs.declared.link.LinkFault.TheVariants as faults
use Rattle.cdp_host_turns.specs.Debuggings.{Debugging, IsHistory, IsNew, handed, sent_alone}
use Rattle.cdp_host_turns.specs.Presences.{IsGoneAs, IsToldAs}
use Rattle.cdp_host_turns.specs.States.{IsOver, IsShut}
use Rattle.cdp_host_turns.specs.Turns.{Acts, Finds, IsTakenAs, Leaves, Takes}
use Rattle.cdp_host_turns.specs.declared.answers.Gone.{Gone}
use Rattle.cdp_host_turns.specs.declared.answers.Gone.TheVariants as gone
use Rattle.cdp_host_turns.specs.declared.answers.HandedOut.{HandedOut}
use Rattle.cdp_host_turns.specs.declared.answers.Told.TheVariants as told
use Rattle.ws_service.specs.Connections.{AllGoOn, Ends, SentOf, end_at, end_of, turns, turns_at}
use Rattle.ws_service.specs.Passing.{Serves}
use Rattle.ws_service.specs.Sessions.{Answers, EndsTaking, HandsOut, HasCause, HasOverrun, Hears, IsEnded, IsServed, Talk, Waits, WasOverIf, talks}
use Rattle.ws_service.specs.declared.served.Served.{Served}
use Rattle.ws_service.specs.declared.served.Served.TheVariants as served
use Rattle.ws_service.proofs.PassingLemmas.{found-at, found-longer, found-was, goes, goes-on, serves, serves-none, serves-on, serves-refused, serves-take, still-owns, was-longer}
use Rattle.ws_service.proofs.ConnectionLemmas.{connection-after, ends-here, go-on-more, gone-at-text, memory-at-text, over-spent, overrun-at-text, sent-after, spent-at, taking-after-text, taking-alone, turns-more}
use Rattle.ws_service.proofs.SendLemmas.{adds-none, adds-on}

-- ---- talks

pub talks-on : (old : Talk) (a b : List Heard) (t u : List (List ℕ)) → talks (talks old a t) b u ≡ talks old (a ++ b) (t ++ u)
talks-on old a b t u = λ i. record { answers = adds-on old.answers a b i; sent = adds-on old.sent t u i }

pub talks-none : (old : Talk) → old ≡ talks old [] []
talks-none old = λ i. record { answers = adds-none old.answers i; sent = adds-none old.sent i }

-- ---- causes

overrun-longer : (d : Debugging) (s : ℕ) (h g : List (ℕ × Entry)) → Begins h g → HasOverrun d s h → HasOverrun d s g
overrun-longer d s h g b (inl lost) = inl (found-longer (IsGoneAs d s (gone.Lost Overrun)) (Detach s) h g b lost)
overrun-longer d s h g b (inr over) =
    inr (over.0, found-longer (IsToldAs d s over.0 told.Overrun) (Tell s over.0) h g b over.1)

pub cause-longer : (d : Debugging) (s : ℕ) (end : Served) (h g : List (ℕ × Entry)) (spent : Type 0) → Begins h g
    → HasCause d s end h spent → HasCause d s end g spent
cause-longer d s served.Closed h g spent b c = tt
cause-longer d s served.TooBig h g spent b c = tt
cause-longer d s served.Binary h g spent b c = tt
cause-longer d s served.Overrun h g spent b c = overrun-longer d s h g b c
cause-longer d s served.Shut h g spent b c = found-longer (IsGoneAs d s gone.Shut) (Detach s) h g b c
cause-longer d s served.Over h g spent b c = was-longer (IsOver d) h g b c
cause-longer d s served.Fault h g spent b c = tt
cause-longer d s (served.Spent ticket) h g spent b c = c
cause-longer d s served.Memory h g spent b c = tt

-- where more is known of no ticket being left
pub cause-so : (d : Debugging) (s : ℕ) (end : Served) (h : List (ℕ × Entry)) (spent more : Type 0) → (spent → more)
    → HasCause d s end h spent → HasCause d s end h more
cause-so d s served.Closed h spent more on c = tt
cause-so d s served.TooBig h spent more on c = tt
cause-so d s served.Binary h spent more on c = tt
cause-so d s served.Overrun h spent more on c = c
cause-so d s served.Shut h spent more on c = c
cause-so d s served.Over h spent more on c = c
cause-so d s served.Fault h spent more on c = tt
cause-so d s (served.Spent ticket) h spent more on c = on c
cause-so d s served.Memory h spent more on c = tt

-- ---- a session that is gone

-- what its turn left
gone-serves : (d : Debugging) (s : ℕ) (p q : PassState Entry) (why : Gone) → Leaves d s p q why → Owns p.number s p.seen
    → Serves d s p q (Detach s ∷ []) []
gone-serves d s p q why f owns = serves d s p q (Detach s) f.0 tt owns tt

gone-cause : (d : Debugging) (s : ℕ) (p q : PassState Entry) (why : Gone) → Leaves d s p q why
    → HasCause d s (end_of why) q.seen (q.refused ≡ true)
gone-cause d s p q (gone.Lost Overrun) f = inl (found-at d (IsGoneAs d s (gone.Lost Overrun)) p q (Detach s) f)
gone-cause d s p q (gone.Lost Memory) f = tt
gone-cause d s p q gone.Shut f = found-at d (IsGoneAs d s gone.Shut) p q (Detach s) f

gone-taking : (s : ℕ) (why : Gone) → EndsTaking s (end_of why) (Detach s ∷ []) false
gone-taking s (gone.Lost Overrun) = (refl, refl)
gone-taking s (gone.Lost Memory) = inl (refl, refl)
gone-taking s gone.Shut = (refl, refl)

-- ---- texts are handed out

pub hands-gone : (d : Debugging) (s : ℕ) (p q : PassState Entry) (old new : Talk) (why : Gone) → Leaves d s p q why
    → Owns p.number s p.seen → new ≡ old → HandsOut d s p q old new (Err (end_of why))
hands-gone d s p q old new why l owns same =
    (Detach s ∷ [], [], [], false, gone-serves d s p q why l owns, same ∙ talks-none old, refl, gone-taking s why, gone-cause d s p q why l)

pub hands-spent : (d : Debugging) (s ticket : ℕ) (p q : PassState Entry) (old new : Talk) → ticket ≡ limit
    → q ≡ refused_pass p → p.in_turn ≡ false → Owns p.number s p.seen → new ≡ old
    → HandsOut d s p q old new (Err (served.Spent ticket))
hands-spent d s ticket p q old new is stays free owns same = (
  [],
  [],
  [],
  false,
  subst (λ (r : PassState Entry). Serves d s p r [] []) (sym stays)
      (serves-refused d s p p [] [] (serves-none d s p free owns)),
  same ∙ talks-none old,
  refl,
  (is, inl (refl, refl)),
  ap (λ (r : PassState Entry). r.refused) stays,
)

over-was : (d : Debugging) (s : ℕ) (p q : PassState Entry) (b : Bool) → Finds d (IsTakenAs d s b) p q (Take s)
    → WasOverIf d b q.seen
over-was d s p q true f = found-was d (IsOver d) p q (Take s) (f.0, f.1.1)
over-was d s p q false f = tt

-- all were sent
pub hands-all : (d : Debugging) (s : ℕ) (p q : PassState Entry) (old new : Talk) (taken : HandedOut) → Takes d s p q (Ok taken)
    → Owns p.number s p.seen → new.answers ≡ old.answers → new.sent ≡ adds old.sent (map string_bytes taken.texts.items)
    → HandsOut d s p q old new (Ok taken.is_over)
hands-all d s p q old new taken t owns answers sent = (
  map string_bytes taken.texts.items,
  serves-take d s p q (map string_bytes taken.texts.items) t.0.0 t.0.1.0 owns t.1,
  (λ i. record { answers = (answers ∙ adds-none old.answers) i; sent = sent i }),
  over-was d s p q taken.is_over t.0,
)

-- a send failed after some, and the session was detached, or no ticket was left for that
pub hands-some : (d : Debugging) (s : ℕ) (p m q : PassState Entry) (old new : Talk) (taken : HandedOut) (part : List (List ℕ))
    (fault : LinkFault) (end : Served) → Takes d s p m (Ok taken) → Owns p.number s p.seen → new.answers ≡ old.answers
    → Begins part (map string_bytes taken.texts.items) → new.sent ≡ adds old.sent part
    → IsEnded d s m q (end_at fault) end → HandsOut d s p q old new (Err end)
hands-some d s p m q old new taken part fault end t owns answers begins sent (inl e) =
    let texts = map string_bytes taken.texts.items in
    let first = serves-take d s p m texts t.0.0 t.0.1.0 owns t.1 in
    let both = serves-on d s p m q (Take s ∷ []) (Detach s ∷ []) texts [] first e.1 in
    subst (λ (x : Served). HandsOut d s p q old new (Err x)) (sym e.0)
    (by_fault fault both)
  where
    told : new ≡ talks old [] part
    told = λ i. record { answers = (answers ∙ adds-none old.answers) i; sent = sent i }

    by_fault : (f : LinkFault) → Serves d s p q (Take s ∷ Detach s ∷ []) (map string_bytes taken.texts.items ++ [])
        → HandsOut d s p q old new (Err (end_at f))
    by_fault faults.Failed both = (
      Take s ∷ Detach s ∷ [],
      map string_bytes taken.texts.items ++ [],
      part,
      true,
      both,
      told,
      (begins.0 ++ [], ap (λ l. l ++ []) begins.1 ∙ append_assoc part begins.0 []),
      (refl, refl),
      tt,
    )
    by_fault faults.Memory both = (
      Take s ∷ Detach s ∷ [],
      map string_bytes taken.texts.items ++ [],
      part,
      true,
      both,
      told,
      (begins.0 ++ [], ap (λ l. l ++ []) begins.1 ∙ append_assoc part begins.0 []),
      inr (refl, refl),
      tt,
    )
hands-some d s p m q old new taken part fault end t owns answers begins sent (inr (ticket, is, at, stays)) =
    let texts = map string_bytes taken.texts.items in
    let first = serves-take d s p m texts t.0.0 t.0.1.0 owns t.1 in
    subst (λ (x : Served). HandsOut d s p q old new (Err x)) (sym is) (
      Take s ∷ [],
      texts,
      part,
      true,
      subst (λ (r : PassState Entry). Serves d s p r (Take s ∷ []) texts) (sym stays)
          (serves-refused d s p m (Take s ∷ []) texts first),
      (λ i. record { answers = (answers ∙ adds-none old.answers) i; sent = sent i }),
      begins,
      (at, inr (refl, refl)),
      ap (λ (r : PassState Entry). r.refused) stays,
    )

-- the pass owns the session still
pub owns-taken : (d : Debugging) (s : ℕ) (p q : PassState Entry) (taken : HandedOut) → Takes d s p q (Ok taken)
    → Owns p.number s p.seen → Owns q.number s q.seen
owns-taken d s p q taken t owns =
    let texts = map string_bytes taken.texts.items in
    still-owns d s p q (Take s ∷ []) texts (serves-take d s p q texts t.0.0 t.0.1.0 owns t.1)

-- ---- a text is told

-- a text was told, and its answer kept
abbrev pub Keeps : Debugging → ℕ → PassState Entry → PassState Entry → List ℕ → Type 0
Keeps d s p q text = Finds d (IsToldAs d s text told.Kept) p q (Tell s text)

pub owns-told : (d : Debugging) (s : ℕ) (p q : PassState Entry) (text : List ℕ) → Keeps d s p q text
    → Owns p.number s p.seen → Owns q.number s q.seen
owns-told d s p q text f owns =
    still-owns d s p q (Tell s text ∷ []) [] (serves d s p q (Tell s text) f.0 f.1.0 owns tt)

pub answers-on : (d : Debugging) (s : ℕ) (p m q : PassState Entry) (text : List ℕ) (old new : Talk) (is_over : Bool)
    → Keeps d s p m text → Owns p.number s p.seen → HandsOut d s m q old new (Ok is_over)
    → Answers d s p q text old new None
answers-on d s p m q text old new is_over f owns h = (
  h.0,
  serves-on d s p m q (Tell s text ∷ []) (Take s ∷ []) [] h.0 (serves d s p m (Tell s text) f.0 f.1.0 owns tt) h.1,
  h.2,
)

pub answers-end : (d : Debugging) (s : ℕ) (p m q : PassState Entry) (text : List ℕ) (old new : Talk) (end : Served)
    → Keeps d s p m text → Owns p.number s p.seen → HandsOut d s m q old new (Err end)
    → Answers d s p q text old new (Some end)
answers-end d s p m q text old new end f owns h = (
  Tell s text ∷ h.0,
  h.1,
  h.2,
  h.3,
  serves-on d s p m q (Tell s text ∷ []) h.0 [] h.1 (serves d s p m (Tell s text) f.0 f.1.0 owns tt) h.4,
  taking-after-text s text end h.0 h.3 h.7,
  h.5,
  h.6,
  h.8,
)

pub answers-overrun : (d : Debugging) (s : ℕ) (p q : PassState Entry) (text : List ℕ) (old new : Talk)
    → Finds d (IsToldAs d s text told.Overrun) p q (Tell s text) → Owns p.number s p.seen → new ≡ old
    → Answers d s p q text old new (Some served.Overrun)
answers-overrun d s p q text old new f owns same = (
  Tell s text ∷ [],
  [],
  [],
  false,
  serves d s p q (Tell s text) f.0 f.1.0 owns tt,
  overrun-at-text s text,
  same ∙ talks-none old,
  refl,
  inr (text, found-at d (IsToldAs d s text told.Overrun) p q (Tell s text) f),
)

pub answers-memory : (d : Debugging) (s : ℕ) (p q : PassState Entry) (text : List ℕ) (old new : Talk) → Acts d p q (Detach s)
    → Owns p.number s p.seen → new ≡ old → Answers d s p q text old new (Some served.Memory)
answers-memory d s p q text old new a owns same = (
  Detach s ∷ [],
  [],
  [],
  false,
  serves d s p q (Detach s) a tt owns tt,
  memory-at-text s text,
  same ∙ talks-none old,
  refl,
  tt,
)

pub answers-gone : (d : Debugging) (s : ℕ) (p q : PassState Entry) (text : List ℕ) (old new : Talk) (why : Gone) → Leaves d s p q why
    → Owns p.number s p.seen → new ≡ old → Answers d s p q text old new (Some (end_of why))
answers-gone d s p q text old new why l owns same =
    (Detach s ∷ [], [], [], false, gone-serves d s p q why l owns, gone-at-text s text why, same ∙ talks-none old, refl, gone-cause d s p q why l)

pub answers-spent : (d : Debugging) (s ticket : ℕ) (p q : PassState Entry) (text : List ℕ) (old new : Talk)
    → ticket ≡ limit → q ≡ refused_pass p → p.in_turn ≡ false → Owns p.number s p.seen → new ≡ old
    → Answers d s p q text old new (Some (served.Spent ticket))
answers-spent d s ticket p q text old new is stays free owns same = (
  [],
  [],
  [],
  false,
  subst (λ (r : PassState Entry). Serves d s p r [] []) (sym stays)
      (serves-refused d s p p [] [] (serves-none d s p free owns)),
  spent-at s ticket (heard.Text text) false is,
  same ∙ talks-none old,
  refl,
  ap (λ (r : PassState Entry). r.refused) stays,
)

-- the session was gone after it, before its texts were handed out
pub answers-gone-after : (d : Debugging) (s : ℕ) (p m q : PassState Entry) (text : List ℕ) (old new : Talk) (why : Gone)
    → Keeps d s p m text → Leaves d s m q why → Owns p.number s p.seen → new ≡ old
    → Answers d s p q text old new (Some (end_of why))
answers-gone-after d s p m q text old new why f l owns same =
    answers-end d s p m q text old new (end_of why) f owns
    (hands-gone d s m q old new why l (owns-told d s p m text f owns) same)

-- or no ticket was left for that
pub answers-spent-after : (d : Debugging) (s ticket : ℕ) (p m q : PassState Entry) (text : List ℕ) (old new : Talk)
    → Keeps d s p m text → q ≡ refused_pass m → ticket ≡ limit → Owns p.number s p.seen → new ≡ old
    → Answers d s p q text old new (Some (served.Spent ticket))
answers-spent-after d s ticket p m q text old new f stays is owns same =
    answers-end d s p m q text old new (served.Spent ticket) f owns
    (hands-spent d s ticket m q old new is stays f.0.free (owns-told d s p m text f owns) same)

-- ---- nothing is told

pub waits-end : (d : Debugging) (s : ℕ) (p q : PassState Entry) (old new : Talk) (end : Served)
    → HandsOut d s p q old new (Err end) → Waits d s p q old new (Some end)
waits-end d s p q old new end h =
    (h.0, h.1, h.2, h.3, h.4, taking-alone s end h.0 h.3 h.7, h.5, h.6, h.8)

-- the program has ended, and so does the session
pub waits-over : (d : Debugging) (s : ℕ) (p m q : PassState Entry) (old new : Talk) (end : Served)
    → HandsOut d s p m old new (Ok true) → IsEnded d s m q served.Over end → Waits d s p q old new (Some end)
waits-over d s p m q old new end h (inl e) =
    subst (λ (x : Served). Waits d s p q old new (Some x)) (sym e.0) (
      Take s ∷ Detach s ∷ [],
      h.0 ++ [],
      h.0,
      false,
      serves-on d s p m q (Take s ∷ []) (Detach s ∷ []) h.0 [] h.1 e.1,
      ends-here s served.Over (heard.Quiet ∷ []) (Take s ∷ Detach s ∷ []) false (refl, refl, refl),
      h.2,
      sym (append-nil h.0),
      was-longer (IsOver d) m.seen q.seen e.1.goes.longer h.3,
    )
waits-over d s p m q old new end h (inr (ticket, is, at, stays)) =
    subst (λ (x : Served). Waits d s p q old new (Some x)) (sym is) (
      Take s ∷ [],
      h.0,
      h.0,
      false,
      subst (λ (r : PassState Entry). Serves d s p r (Take s ∷ []) h.0) (sym stays)
          (serves-refused d s p m (Take s ∷ []) h.0 h.1),
      over-spent s ticket at,
      h.2,
      refl,
      ap (λ (r : PassState Entry). r.refused) stays,
    )

-- ---- an answer is heard

heard-on : (old mid new : Talk) (answers : List Heard) (texts : List (List ℕ)) → mid ≡ talks old answers []
    → new ≡ talks mid [] texts → new ≡ talks old (answers ++ []) texts
heard-on old mid new answers texts before after =
    after ∙ ap (λ (t : Talk). talks t [] texts) before ∙ talks-on old answers [] [] texts

pub hears-text : (d : Debugging) (s : ℕ) (p q : PassState Entry) (text : List ℕ) (old mid new : Talk) (r : Option Served)
    → mid ≡ talks old (heard.Text text ∷ []) [] → Answers d s p q text mid new r → Hears d s p q old new r
hears-text d s p q text old mid new None is h =
    (heard.Text text, h.0, tt, h.1, heard-on old mid new (heard.Text text ∷ []) h.0 is h.2)
hears-text d s p q text old mid new (Some end) is h =
    (heard.Text text ∷ [], h.0, h.1, h.2, h.3, h.4, h.5, heard-on old mid new (heard.Text text ∷ []) h.2 is h.6, h.7, h.8)

pub hears-nothing : (d : Debugging) (s : ℕ) (p q : PassState Entry) (old mid new : Talk) (r : Option Served)
    → mid ≡ talks old (heard.Quiet ∷ []) [] → Waits d s p q mid new r → Hears d s p q old new r
hears-nothing d s p q old mid new None is h =
    (heard.Quiet, h.0, tt, h.1, heard-on old mid new (heard.Quiet ∷ []) h.0 is h.2)
hears-nothing d s p q old mid new (Some end) is h =
    (heard.Quiet ∷ [], h.0, h.1, h.2, h.3, h.4, h.5, heard-on old mid new (heard.Quiet ∷ []) h.2 is h.6, h.7, h.8)

-- the session ends at an answer, or at none
pub hears-last : (d : Debugging) (s : ℕ) (p q : PassState Entry) (answers : List Heard) (old new : Talk) (end result : Served)
    → new ≡ talks old answers [] → Ends s end answers (Detach s ∷ []) false
    → HasCause d s end q.seen (q.refused ≡ true)
    → ((answers ≡ []) ⊎ ((answer : Heard) × (answers ≡ answer ∷ []))) → p.in_turn ≡ false → Owns p.number s p.seen
    → IsEnded d s p q end result → Hears d s p q old new (Some result)
hears-last d s p q answers old new end result is ends cause few free owns (inl e) =
    subst (λ (x : Served). Hears d s p q old new (Some x)) (sym e.0)
    (answers, Detach s ∷ [], [], [], false, e.1, ends-here s end answers (Detach s ∷ []) false ends, is, refl, cause)
hears-last d s p q answers old new end result is ends cause few free owns (inr (ticket, same, at, stays)) =
    subst (λ (x : Served). Hears d s p q old new (Some x)) (sym same) (
      answers,
      [],
      [],
      [],
      false,
      subst (λ (r : PassState Entry). Serves d s p r [] []) (sym stays)
          (serves-refused d s p p [] [] (serves-none d s p free owns)),
      ends-here s (served.Spent ticket) answers [] false (at, inl (refl, few)),
      is,
      refl,
      ap (λ (r : PassState Entry). r.refused) stays,
    )

-- ---- answer after answer

-- a session that goes on: after these answers, with these texts
pub record Sits (d : Debugging) (s : ℕ) (p q : PassState Entry) (old new : Talk) : Type 0 where
  pub answers : List Heard
  pub texts : List (List ℕ)
  pub go_on : AllGoOn answers
  pub serves : Serves d s p q (turns s answers) texts
  pub talk : new ≡ talks old answers texts

pub sits-down : (d : Debugging) (s : ℕ) (p : PassState Entry) (old : Talk) → p.in_turn ≡ false → Owns p.number s p.seen
    → Sits d s p p old old
sits-down d s p old free owns =
    record { answers = []; texts = []; go_on = tt; serves = serves-none d s p free owns; talk = talks-none old }

pub sits-on : (d : Debugging) (s : ℕ) (p m q : PassState Entry) (old mid new : Talk) → Sits d s p m old mid
    → Hears d s m q mid new None → Sits d s p q old new
sits-on d s p m q old mid new i h = record {
  answers = i.answers ++ h.0 ∷ [];
  texts = i.texts ++ h.1;
  go_on = go-on-more i.answers h.0 i.go_on h.2;
  serves =
      subst (λ (es : List Entry). Serves d s p q es (i.texts ++ h.1)) (sym (turns-more s i.answers h.0))
      (serves-on d s p m q (turns s i.answers) (turns_at s h.0) i.texts h.1 i.serves h.3);
  talk = h.4 ∙ ap (λ (t : Talk). talks t (h.0 ∷ []) h.1) i.talk ∙ talks-on old i.answers (h.0 ∷ []) i.texts h.1;
}

pub sits-end : (d : Debugging) (s : ℕ) (p m q : PassState Entry) (old mid new : Talk) (end : Served) → Sits d s p m old mid
    → Hears d s m q mid new (Some end) → Hears d s p q old new (Some end)
sits-end d s p m q old mid new end i h = (
  i.answers ++ h.0,
  turns s i.answers ++ h.1,
  i.texts ++ h.2,
  i.texts ++ h.3,
  h.4,
  serves-on d s p m q (turns s i.answers) h.1 i.texts h.2 i.serves h.5,
  connection-after s i.answers end h.0 h.1 h.4 i.go_on h.6,
  h.7 ∙ ap (λ (t : Talk). talks t h.0 h.3) i.talk ∙ talks-on old i.answers h.0 i.texts h.3,
  sent-after h.4 i.texts h.3 h.2 h.8,
  h.9,
)

-- ---- a link

-- what is handed out is what a session is sent with no other there
pub handed-alone : (d : Debugging) (s : ℕ) (h : List (ℕ × Entry)) → IsHistory d h → handed d s h ≡ sent_alone d s h
handed-alone d s h is = alone d.protocol s d.program d.wait (entries_of h) is.fits

pub served-session : (d : Debugging) (s : ℕ) (p m q : PassState Entry) (old new : Talk) (end : Served) → Acts d p m Attach
    → Owns p.number s m.seen → IsNew s p.seen → handed d s m.seen ≡ [] → Hears d s m q old new (Some end)
    → IsServed d p q old new end
served-session d s p m q old new end a owns fresh none h = inr (
  s,
  h.0,
  h.3,
  record {
    entries = h.1;
    cut = h.4;
    goes = goes-on d p m q (Attach ∷ []) h.1 (goes d p m Attach a tt) h.5.goes;
    connection = h.6;
    sent = subst (SentOf h.4 h.3) (sym (ap (λ l. l ++ h.2) none) ∙ sym h.5.handed_out ∙ handed-alone d s q.seen (h.5.goes.history a.history)) h.8;
    owns = subst (λ (k : ℕ). Owns k s q.seen) a.same.1 h.5.owns;
    new = fresh;
    cause = h.9;
  },
  h.7,
)

pub served-shut : (d : Debugging) (p q : PassState Entry) (old : Talk) → Finds d (IsShut d) p q (Take 0)
    → IsServed d p q old old served.Shut
served-shut d p q old f =
    inl ((goes d p q (Take 0) f.0 (inl refl), found-was d (IsShut d) p q (Take 0) f), refl)

pub served-memory : (d : Debugging) (p q : PassState Entry) (old : Talk) → Acts d p q (Take 0)
    → IsServed d p q old old served.Memory
served-memory d p q old a = inl (goes d p q (Take 0) a (inl refl), refl)
