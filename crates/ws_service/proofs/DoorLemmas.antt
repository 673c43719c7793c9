-- A door is served, question after question.
use Rattle.std.proofs.Common.{◌≡◌, ◌≢◌, ◌⊎◌, inl, inr, ℕ, zero, suc, ◌<◌, ◌≤◌, List, [], ◌∷◌, ◌++◌, Bool, true, false, Option, Some, None, refl, ap, sym, subst, ◌∙◌, append-nil, arith}
use Rattle.cdp_host_isolation.specs.Histories.{Entry, Shut, Take}
use Rattle.cdp_edge.specs.Outside.{Rose, IfTold, one_more}
use Rattle.history_lock.specs.Passes.{PassState}
use Rattle.cdp_edge_server.specs.Contents.{IsUnused, Spoken, Tended, adds}
use Rattle.cdp_edge_server.specs.Doors.{out_after}
use Rattle.cdp_edge_server.specs.Heard.{Heard}
use Rattle.cdp_edge_server.specs.declared.door.DoorAnswer.{DoorAnswer}
use Rattle.cdp_edge_server.specs.declared.door.DoorAnswer.TheVariants as answers
use Rattle.cdp_edge_server.proofs.ToldLemmas.{adds-append, adds-nil, adds-told}
use Rattle.cdp_host_turns.specs.Debuggings.{Debugging, IsHistory}
use Rattle.cdp_host_turns.specs.States.{HasState}
use Rattle.cdp_host_turns.specs.Turns.{Finds}
use Rattle.cdp_host_turns.specs.declared.state.State.{State}
use Rattle.std.specs.Bool.{then_some}
use Rattle.ws_service.specs.Connections.{code_of}
use Rattle.ws_service.specs.Sessions.{IsClosedBy, IsServed, Talk}
use Rattle.ws_service.specs.Visits.{DoorAct, Looked, Refused, Speaks, Tends, Visited, links_of, looks_of}
use Rattle.ws_service.specs.Doors.{EndsDoor, FindsOver, IsReceived, IsTended, IsTendedOn, Looks, Shuts, TendsOnce, asked_more, is_final, questions}
use Rattle.ws_service.specs.Shutdowns.{ShutsDown, shut_entries}
use Rattle.ws_service.specs.declared.door.DoorEnd.{DoorEnd}
use Rattle.ws_service.specs.declared.door.DoorEnd.TheVariants as ends
use Rattle.ws_service.specs.declared.served.Served.{Served}
use Rattle.ws_service.specs.declared.served.Served.TheVariants as served
use Rattle.ws_service.specs.declared.shutdown.NotShut.{NotShut}
use Rattle.ws_service.proofs.VisitLemmas.{links-append, tends-last, tends-look, tends-none, tends-on, tends-refusal, tends-refused, tends-visit}

-- ---- what a link tells

closed-then : (end : Served) (old new : Option (Option ℕ)) → IfTold old (λ code. code ≡ None) → IsClosedBy end old new
    → IfTold new (λ code. (code ≡ None) ⊎ (code ≡ code_of end))
closed-then end None new none (inl same) =
    subst (λ o. IfTold o (λ code. (code ≡ None) ⊎ (code ≡ code_of end))) (sym same) tt
closed-then end (Some was) new none (inl same) =
    subst (λ o. IfTold o (λ code. (code ≡ None) ⊎ (code ≡ code_of end))) (sym same) (inl none)
closed-then end None new none (inr (code, has, is)) =
    subst (λ o. IfTold o (λ code. (code ≡ None) ⊎ (code ≡ code_of end))) (sym is) tt
closed-then end (Some was) new none (inr (code, has, is)) =
    subst (λ o. IfTold o (λ code. (code ≡ None) ⊎ (code ≡ code_of end))) (sym is) (inr (sym has))

failed-then : (old new : ℕ) → old ≡ 0 → Rose old new → 0 < new
failed-then old new none (inl rose) = omega arith
failed-then old new none (inr most) = absurd (omega (arith, none, most))

-- a link that was unused, and was served
pub speaks : (old new : Spoken) (answers : List Heard) (texts : List (List ℕ)) (end : Served) → IsUnused old
    → new.answers ≡ adds old.answers answers → new.sent ≡ adds old.sent texts → IsClosedBy end old.closed new.closed
    → (end ≡ served.Fault → Rose old.faults new.faults) → Speaks new answers texts end
speaks old new answers texts end unused answered sent closed fault = record {
  answers = subst (λ o. IfTold o (λ told. told ≡ answers)) (sym answered) (adds-told old.answers answers unused.1);
  sent = subst (λ o. IfTold o (λ told. told ≡ texts)) (sym sent) (adds-told old.sent texts unused.2);
  closed = closed-then end old.closed new.closed unused.3 closed;
  failed = λ is. failed-then old.faults new.faults unused.0 (fault is);
}

-- a link that arrived was served, and given back
pub received : (d : Debugging) (p q : PassState Entry) (old new : Spoken) (end : Served)
    (before after : Option (List Spoken)) → p.in_turn ≡ false → IsUnused old
    → IsServed d p q (record { answers = old.answers; sent = old.sent })
    (record { answers = new.answers; sent = new.sent }) end
    → IsClosedBy end old.closed new.closed → (end ≡ served.Fault → Rose old.faults new.faults)
    → after ≡ adds before (new ∷ []) → IsReceived d p q before after
received d p q old new end before after free unused (inl (refused, same)) closed fault took =
    let spoke : Speaks new [] [] end =
    speaks old new [] [] end unused (ap (λ (t : Talk). t.answers) same ∙ sym (adds-nil old.answers))
    (ap (λ (t : Talk). t.sent) same ∙ sym (adds-nil old.sent)) closed fault in
    let refusal = tends-refusal d p q end new free refused spoke in
    (Refused (record { entries = refusal.0; end = end; link = new }), refl, refusal.1, took)
received d p q old new end before after free unused (inr (s, answers, texts, a, said)) closed fault took =
    let spoke : Speaks new answers texts end =
    speaks old new answers texts end unused (ap (λ (t : Talk). t.answers) said) (ap (λ (t : Talk). t.sent) said) closed
    fault in (
      Visited
          (record {
            session = s;
            entries = a.entries;
            answers = answers;
            texts = texts;
            end = end;
            cut = a.cut;
            link = new;
          }),
      refl,
      tends-visit d s p q end answers texts new a spoke,
      took,
    )

-- ---- looks

finds-over : (d : Debugging) (p q : PassState Entry) (state : State) → Finds d (HasState d state) p q (Take 0)
    → is_final state ≡ true → FindsOver d p.number q.seen state
finds-over d p q state found is = (p.seen ++ found.0.between, found.0.seen, found.1, is)

-- the program goes on, or is over
pub looks-by : (d : Debugging) (p q : PassState Entry) (state : State) (over : Bool) → over ≡ is_final state
    → Finds d (HasState d state) p q (Take 0) → Looks d p q (then_some over (ends.Over state))
looks-by d p q state true is found =
    (tends-look d p q found.0, found.0.history, finds-over d p q state found (sym is))
looks-by d p q state false is found = (tends-look d p q found.0, found.0.history)

-- the program was shut, or no ticket was left
pub shuts-if : (d : Debugging) (p q : PassState Entry) (unshut : Option NotShut) → p.in_turn ≡ false
    → ShutsDown d p q unshut → Shuts d p q unshut
shuts-if d p q None free act = (tends-last d p q Shut act tt (λ s. tt), tt)
shuts-if d p q (Some unshut) free none = (
  subst (λ z. Tends d p z [] []) (sym none.0) (tends-refused d p p [] [] (tends-none d p free)),
  (none.1, ap (λ z. z.refused) none.0),
)

-- ---- counts

looks-look : (acts : List DoorAct) → looks_of (acts ++ Looked ∷ []) ≡ suc (looks_of acts)
looks-look [] = refl
looks-look (Visited visit ∷ acts) = looks-look acts
looks-look (Refused refusal ∷ acts) = looks-look acts
looks-look (Looked ∷ acts) = ap suc (looks-look acts)

asked-out : (n asked : ℕ) → asked_more n (one_more asked) ≡ one_more (asked_more n asked)
asked-out zero asked = refl
asked-out (suc n) asked = ap one_more (asked-out n asked)

asked-on : (xs ys : List DoorAct) (asked : ℕ)
    → asked_more (looks_of ys) (asked_more (looks_of xs) asked) ≡ asked_more (looks_of (xs ++ ys)) asked
asked-on [] ys asked = refl
asked-on (Visited visit ∷ xs) ys asked = asked-on xs ys asked
asked-on (Refused refusal ∷ xs) ys asked = asked-on xs ys asked
asked-on (Looked ∷ xs) ys asked =
    asked-out (looks_of ys) (asked_more (looks_of xs) asked) ∙ ap one_more (asked-on xs ys asked)

questions-on : (end : DoorEnd) (xs ys : List DoorAct) (asked : ℕ)
    → asked_more (questions end ys) (asked_more (looks_of xs) asked) ≡ asked_more (questions end (xs ++ ys)) asked
questions-on (ends.Over state) xs ys asked = asked-on xs ys asked
questions-on (ends.Fault unshut) xs ys asked = ap one_more (asked-on xs ys asked)
questions-on (ends.Spent ticket) xs ys asked = ap one_more (asked-on xs ys asked)

looks-more : (xs ys : List DoorAct) → looks_of ys ≤ looks_of (xs ++ ys)
looks-more [] ys = omega arith
looks-more (Visited visit ∷ xs) ys = looks-more xs ys
looks-more (Refused refusal ∷ xs) ys = looks-more xs ys
looks-more (Looked ∷ xs) ys = let more = looks-more xs ys in omega (arith, more)

once-on : (end : DoorEnd) (xs ys : List DoorAct) → 1 ≤ questions end ys → 1 ≤ questions end (xs ++ ys)
once-on (ends.Over state) xs ys once = let more = looks-more xs ys in omega (arith, more, once)
once-on (ends.Fault unshut) xs ys once = omega arith
once-on (ends.Spent ticket) xs ys once = omega arith

-- ---- one question

-- after what was done for a link, if one came, a look
pub tends-once : (d : Debugging) (p m q : PassState Entry) (acts : List DoorAct) (old new : Tended)
    (result : Option DoorEnd) → looks_of acts ≡ 0 → Tends d p m acts [] → Looks d m q result
    → new.served ≡ adds old.served (links_of acts) → IfTold new.is_out (λ out. out ≡ false)
    → new.asked ≡ one_more old.asked → new.faults ≡ old.faults → TendsOnce d p q old new result
tends-once d p m q acts old new None none a look links home asks quiet =
    let looked : looks_of (acts ++ Looked ∷ []) ≡ 1 = looks-look acts ∙ ap suc none in
    record {
      acts = acts ++ Looked ∷ [];
      tends = tends-on d p m q acts (Looked ∷ []) [] (inr look.1) a look.0;
      history = inr look.1;
      links = links ∙ ap (adds old.served) (sym (links-append acts (Looked ∷ []) ∙ append-nil (links_of acts)));
      home = home;
      asks = asks ∙ ap (λ (n : ℕ). asked_more n old.asked) (sym looked);
      quiet = quiet;
    }
tends-once d p m q acts old new (Some (ends.Over state)) none a look links home asks quiet =
    let looked : looks_of (acts ++ Looked ∷ []) ≡ 1 = looks-look acts ∙ ap suc none in
    record {
      acts = acts ++ Looked ∷ [];
      last = [];
      tends = tends-on d p m q acts (Looked ∷ []) [] (inr look.1) a look.0;
      links = links ∙ ap (adds old.served) (sym (links-append acts (Looked ∷ []) ∙ append-nil (links_of acts)));
      home = home;
      asks = asks ∙ ap (λ (n : ℕ). asked_more n old.asked) (sym looked);
      once = omega (arith, looked);
      ends = (refl, quiet, subst (λ (k : ℕ). FindsOver d k q.seen state) a.goes.same.1 look.2);
    }
tends-once d p m q acts old new (Some (ends.Fault unshut)) none a look links home asks quiet = absurd look
tends-once d p m q acts old new (Some (ends.Spent ticket)) none a look links home asks quiet = record {
  acts = acts;
  last = [];
  tends = subst (λ z. Tends d p z acts []) (sym look.0) (tends-refused d p m acts [] a);
  links = links;
  home = home;
  asks = asks ∙ ap (λ (n : ℕ). asked_more (suc n) old.asked) (sym none);
  once = omega arith;
  ends = (refl, quiet, look.1, ap (λ z. z.refused) look.0);
}

-- an answer without a link leaves the door as it was
none-came : {L : Type 0} (answer : DoorAnswer L) (before after : Option Bool)
    → (answer ≡ answers.Quiet) ⊎ (answer ≡ answers.Memory) → after ≡ out_after answer before → after ≡ before
none-came answer before after (inl is) out = out ∙ ap (λ a. out_after a before) is
none-came answer before after (inr is) out = out ∙ ap (λ a. out_after a before) is

no-fault : {L : Type 0} (answer : DoorAnswer L) → (answer ≡ answers.Quiet) ⊎ (answer ≡ answers.Memory)
    → answer ≢ answers.Failed
no-fault answer (inl is) failed = cc
no-fault answer (inr is) failed = cc

-- no link came
pub tends-quiet : {L : Type 0} (d : Debugging) (p q : PassState Entry) (old new : Tended) (answer : DoorAnswer L)
    (result : Option DoorEnd) → p.in_turn ≡ false → (answer ≡ answers.Quiet) ⊎ (answer ≡ answers.Memory)
    → Looks d p q result → new.served ≡ old.served → IfTold old.is_out (λ out. out ≡ false)
    → new.is_out ≡ out_after answer old.is_out → new.asked ≡ one_more old.asked
    → (answer ≢ answers.Failed → new.faults ≡ old.faults) → TendsOnce d p q old new result
tends-quiet d p q old new answer result free is look links home out asks quiet =
    let same : new.is_out ≡ old.is_out = none-came answer old.is_out new.is_out is out in
    tends-once d p p q [] old new result refl (tends-none d p free) look (links ∙ sym (adds-nil old.served))
    (subst (λ o. IfTold o (λ out. out ≡ false)) (sym same) home) asks (quiet (no-fault answer is))

-- a link came
pub tends-link : (d : Debugging) (p m q : PassState Entry) (old mid new : Tended) (result : Option DoorEnd)
    → IsReceived d p m mid.served new.served → Looks d m q result → mid.served ≡ old.served
    → IfTold new.is_out (λ out. out ≡ false) → mid.asked ≡ one_more old.asked → new.asked ≡ mid.asked
    → mid.faults ≡ old.faults → new.faults ≡ mid.faults → TendsOnce d p q old new result
tends-link d p m q old mid new result a look links home asks then_asked quiet then_quiet =
    tends-once d p m q (a.0 ∷ []) old new result a.1 a.2 look
    (a.3 ∙ ap (λ l. adds l (links_of (a.0 ∷ []))) links) home (then_asked ∙ asks) (then_quiet ∙ quiet)

-- the door failed
pub tends-fault : (d : Debugging) (p q : PassState Entry) (old new : Tended) (unshut : Option NotShut)
    → Shuts d p q unshut → new.served ≡ old.served
    → IfTold old.is_out (λ out. out ≡ false) → new.is_out ≡ old.is_out → new.asked ≡ one_more old.asked
    → Rose old.faults new.faults → IsTended d p q old new (ends.Fault unshut)
tends-fault d p q old new unshut a links home out asks rose = record {
  acts = [];
  last = shut_entries unshut;
  tends = a.0;
  links = links ∙ sym (adds-nil old.served);
  home = subst (λ o. IfTold o (λ out. out ≡ false)) (sym out) home;
  asks = asks;
  once = omega arith;
  ends = (refl, a.1, rose);
}

-- ---- question after question

pub tended-none : (d : Debugging) (p : PassState Entry) (door : Tended) → p.in_turn ≡ false
    → IfTold door.is_out (λ out. out ≡ false) → IsTendedOn d p p door door
tended-none d p door free home = record {
  acts = [];
  tends = tends-none d p free;
  history = inl refl;
  links = sym (adds-nil door.served);
  home = home;
  asks = refl;
  quiet = refl;
}

history-then : (d : Debugging) (m q : PassState Entry) (xs ys : List DoorAct) (last : List Entry) → Tends d m q ys last
    → (xs ≡ []) ⊎ IsHistory d m.seen → (xs ≡ []) ⊎ IsHistory d q.seen
history-then d m q xs ys last b (inl none) = inl none
history-then d m q xs ys last b (inr is) = inr (b.goes.history is)

history-on : (d : Debugging) (m q : PassState Entry) (xs ys : List DoorAct) → Tends d m q ys []
    → (xs ≡ []) ⊎ IsHistory d m.seen → (ys ≡ []) ⊎ IsHistory d q.seen → (xs ++ ys ≡ []) ⊎ IsHistory d q.seen
history-on d m q xs ys b was (inr is) = inr is
history-on d m q xs ys b (inr is) (inl none) = inr (b.goes.history is)
history-on d m q xs ys b (inl first) (inl none) = inl (ap (λ l. l ++ ys) first ∙ none)

links-on : (old mid new : Tended) (xs ys : List DoorAct) → mid.served ≡ adds old.served (links_of xs)
    → new.served ≡ adds mid.served (links_of ys) → new.served ≡ adds old.served (links_of (xs ++ ys))
links-on old mid new xs ys first then =
    then
    ∙ ap (λ l. adds l (links_of ys)) first
    ∙ adds-append old.served (links_of xs) (links_of ys)
    ∙ ap (adds old.served) (sym (links-append xs ys))

-- one question more, after which it goes on
pub tended-next : (d : Debugging) (p m q : PassState Entry) (old mid new : Tended) → IsTendedOn d p m old mid
    → IsTendedOn d m q mid new → IsTendedOn d p q old new
tended-next d p m q old mid new a b = record {
  acts = a.acts ++ b.acts;
  tends = tends-on d p m q a.acts b.acts [] (history-then d m q a.acts b.acts [] b.tends a.history) a.tends b.tends;
  history = history-on d m q a.acts b.acts b.tends a.history b.history;
  links = links-on old mid new a.acts b.acts a.links b.links;
  home = b.home;
  asks =
      b.asks
      ∙ ap (λ (n : ℕ). asked_more (looks_of b.acts) n) a.asks
      ∙ asked-on a.acts b.acts old.asked;
  quiet = b.quiet ∙ a.quiet;
}

-- the last question
pub tended-end : (d : Debugging) (p m q : PassState Entry) (old mid new : Tended) (end : DoorEnd)
    → IsTendedOn d p m old mid → IsTended d m q mid new end → IsTended d p q old new end
tended-end d p m q old mid new end a b = record {
  acts = a.acts ++ b.acts;
  last = b.last;
  tends =
      tends-on d p m q a.acts b.acts b.last (history-then d m q a.acts b.acts b.last b.tends a.history) a.tends b.tends;
  links = links-on old mid new a.acts b.acts a.links b.links;
  home = b.home;
  asks =
      b.asks
      ∙ ap (λ (n : ℕ). asked_more (questions end b.acts) n) a.asks
      ∙ questions-on end a.acts b.acts old.asked;
  once = once-on end a.acts b.acts b.once;
  ends =
      subst (λ (z : ℕ × ℕ). EndsDoor d z.0 q.seen (q.refused ≡ true) end b.last z.1 new.faults)
      (λ i. (a.tends.goes.same.1 i, a.quiet i))
      b.ends;
}
