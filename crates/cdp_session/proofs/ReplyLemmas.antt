-- The texts of commands that are done, and of lists of properties.
use Rattle.std.proofs.Common.{◌≡◌, ℕ, Bool, List, [], ◌∷◌, ◌++◌, codes, Option, refl, sym, ap, ◌∙◌}
use Rattle.object_groups.specs.declared.handle.Target.{Target}
use Rattle.object_groups.specs.Handles.{HeldHandles}
use Rattle.cdp_json.specs.Json.{Json}
use Rattle.cdp_json.specs.Compact.{compact_text}
use Rattle.cdp_json.specs.Parts.{list_of}
use Rattle.cdp_json.specs.Pieces.{Wrote}
use Rattle.cdp_json.specs.declared.refusal.Refusal.{Refusal}
use Rattle.cdp_json.proofs.EnvelopeLemmas.{result-written}
use Rattle.cdp_json.proofs.PieceLemmas.{further, object-is}
use Rattle.remote_objects.specs.Descriptors.{descriptors_with}
use Rattle.remote_objects.specs.Sights.{Sight}
use Rattle.remote_objects.specs.declared.detail.Detail.{Detail}
use Rattle.cdp_session_messages.specs.Outboxes.{fits}
use Rattle.cdp_session_messages.specs.Results.{properties}
use Rattle.cdp_session.specs.Made.{DoesSo, RefusesSo, Written, done_texts, reply_text, spelt, written_of, written_row}
use Rattle.cdp_session.specs.Replies.{AnsweredText, answer_by, outcome_by}
use Rattle.cdp_session.specs.Rows.{Does, Refuses, Row}
use Rattle.cdp_session.specs.Sessions.{Session, sent}
use Rattle.cdp_session.specs.declared.asks.Asks.{Asks}
use Rattle.cdp_session.specs.declared.done.Done.{Done as Held}
use Rattle.cdp_session.proofs.ResultTextLemmas.{result-pieces}

-- ---- replies

refuses_not : (q : Refusal) (w : Written) → RefusesSo q ≡ DoesSo w → ⊥
refuses_not q w e = cc

does_same : (v w : Written) → DoesSo v ≡ DoesSo w → v ≡ w
does_same v w e = cc

-- the answer that has these texts
abbrev answered_by : ℕ → Written → AnsweredText
answered_by id w =
    record { session = sent (w.before ++ reply_text id w.result ∷ w.events) w.session; asks = w.asks }

-- what a command comes to is what was made of it
pub answered : (id : ℕ) (r : Row) (d : Held) (new x : Session)
    → written_row r ≡ DoesSo (written_of d new)
    → answer_by x (outcome_by id r) ≡ record { session = sent (done_texts id d) new; asks = d.asks }
unfolding spelt reply_text
answered id (Refuses q) d new x e = absurd (refuses_not q (written_of d new) e)
answered id (Does done) d new x e =
    let v : Written = record {
      session = done.session;
      before = done.before;
      result = compact_text done.result;
      events = done.events;
      asks = done.asks;
    } in
    let tell : List ℕ → AnsweredText = λ t.
    record { session = sent (done.before ++ t ∷ done.events) done.session; asks = done.asks } in
    ap tell (sym (result-written id done.result)) ∙ ap (answered_by id) (does_same v (written_of d new) e)

-- what a session keeps, has to send and asks of the program, where a command was done and its texts were sent
module _ (id : ℕ) (r : Row) (d : Held) (new x : Session) (made : written_row r ≡ DoesSo (written_of d new)) where
  pub answered-session : (now : Session) → now ≡ sent (done_texts id d) new
      → now ≡ (answer_by x (outcome_by id r)).session
  answered-session now told = told ∙ ap (λ (a : AnsweredText). a.session) (sym (answered id r d new x made))

  pub answered-fits : (b : Bool) → fits (new.outbox ++ done_texts id d) ≡ b
      → fits (answer_by x (outcome_by id r)).session.outbox ≡ b
  answered-fits b e = ap (λ (a : AnsweredText). fits a.session.outbox) (answered id r d new x made) ∙ e

  pub answered-asks : (asks : Asks) → asks ≡ d.asks → asks ≡ (answer_by x (outcome_by id r)).asks
  answered-asks asks e = e ∙ ap (λ (a : AnsweredText). a.asks) (sym (answered id r d new x made))

-- ---- lists of properties

properties_written : (js : List Json)
    → codes "{\"result\":" ++ (compact_text (list_of js) ++ codes "}") ≡ spelt (properties js)
unfolding spelt
properties_written js =
    sym (object-is ((codes "result", list_of js) ∷ []) ((codes "result", compact_text (list_of js)) ∷ []) refl
    ∙ result-pieces (compact_text (list_of js)))

-- the list that was written, in other words
pub properties-told : (s t : Sight) (detail : Detail) (g k : Option (List ℕ)) (target : Target) (h : HeldHandles)
    {text old one two three : List ℕ}
    → s ≡ t → g ≡ k → old ≡ [] → Wrote old (codes "{\"result\":") one
    → Wrote one (compact_text (list_of (descriptors_with s detail g target h).made)) two → Wrote two (codes "}") three
    → text ≡ three
    → text ≡ spelt (properties (descriptors_with t detail k target h).made)
properties-told s t detail g k target h sights groups none front list back is =
    let js = (descriptors_with s detail g target h).made in
    let whole = codes "{\"result\":" ++ (compact_text (list_of js) ++ codes "}") in
    is
    ∙ ((further front (further list back)).is
    ∙ (ap (λ s. s ++ whole) none
    ∙ (properties_written js
    ∙ (ap (λ y. spelt (properties (descriptors_with y detail g target h).made)) sights
    ∙ ap (λ y. spelt (properties (descriptors_with t detail y target h).made)) groups))))

pub properties-held : (s t : Sight) (detail : Detail) (g k : Option (List ℕ)) (target : Target) (h new : HeldHandles)
    → s ≡ t → g ≡ k → new ≡ (descriptors_with s detail g target h).handles
    → new ≡ (descriptors_with t detail k target h).handles
properties-held s t detail g k target h new sights groups is =
    is
    ∙ (ap (λ y. (descriptors_with y detail g target h).handles) sights
    ∙ ap (λ y. (descriptors_with t detail y target h).handles) groups)
