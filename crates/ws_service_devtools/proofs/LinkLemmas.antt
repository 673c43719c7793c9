-- What was taken from the link below, and what was sent there, call by call.
use Rattle.std.proofs.Common.{◌≡◌, inr, ℕ, List, [], ◌∷◌, ◌++◌, refl, ap, sym, subst}
use Rattle.cdp_edge_server.specs.Contents.{adds}
use Rattle.cdp_edge_server.specs.Heard as heard
use Rattle.cdp_edge_server.specs.Heard.{Heard}
use Rattle.cdp_edge_server.specs.declared.link.Recv.{Recv}
use Rattle.cdp_edge_server.specs.declared.link.Recv.TheVariants as recv
use Rattle.cdp_edge_server.proofs.ToldLemmas.{adds-nil}
use Rattle.ws_service_devtools.specs.Links.{Answers, Below, HandsIn, unread_of}
use Rattle.ws_service_devtools.specs.Texts.{IsAnswered, empty_reply}

-- the whole of a text is taken
all_taken : (text : List ℕ) (left : List Heard) → left ≡ [] → heard.Text text ∷ [] ≡ (heard.Text text ∷ []) ++ left
all_taken text left none = ap (λ l. heard.Text text ∷ l) (sym none)

-- a text is handed in or refused, and nothing sent
pub handed : (old : Below) (text : List ℕ) (answer : Recv) → unread_of old.unread ≡ []
    → Answers answer (heard.Text text ∷ []) [] → HandsIn old old text answer
handed old text answer none is = record {
  taken = heard.Text text ∷ [];
  replies = [];
  answers = refl;
  whole = all_taken text (unread_of old.unread) none;
  sent = sym (adds-nil old.sent);
  is = is;
}

-- a text is answered
pub replied : (old new : Below) (text : List ℕ) (id : ℕ) → unread_of old.unread ≡ [] → IsAnswered text id
    → new ≡ record old { sent = adds old.sent (empty_reply id ∷ []) } → HandsIn old new text recv.Quiet
replied old new text id none is e = subst (λ (n : Below). HandsIn old n text recv.Quiet) (sym e) record {
  taken = heard.Text text ∷ [];
  replies = empty_reply id ∷ [];
  answers = refl;
  whole = all_taken text (unread_of old.unread) none;
  sent = refl;
  is = inr (text, id, refl, is, refl);
}

-- its reply couldn't be sent
pub unsent : (old new : Below) (text : List ℕ) (id : ℕ) → unread_of old.unread ≡ [] → IsAnswered text id → new ≡ old
    → HandsIn old new text recv.Failed
unsent old new text id none is e = subst (λ (n : Below). HandsIn old n text recv.Failed) (sym e)
    (handed old text recv.Failed none (inr (text, id, (refl, refl), is)))
