-- What a link takes from the link below, answers, and sends there.
use Rattle.std.specs.Prelude.{◌≡◌, ◌⊎◌, ℕ, List, [], ◌∷◌, ◌++◌, Option, Some, None, Result, Ok, Err, string_bytes}
use Rattle.serde_json.specs.Read.{read}
use Rattle.cdp_edge_server.specs.Contents.{Tended, adds}
use Rattle.cdp_edge_server.specs.Heard as heard
use Rattle.cdp_edge_server.specs.Heard.{Heard}
use Rattle.cdp_edge_server.specs.declared.link.Recv.{Recv}
use Rattle.cdp_edge_server.specs.declared.link.Recv.TheVariants as recv
use Rattle.cdp_edge_server.specs.declared.link.LinkFault.{LinkFault}
use Rattle.ws_service_devtools.specs.declared.unread.Unread.{Unread}
use Rattle.ws_service_devtools.specs.Texts.{ClearsFlag, IsAnswered, IsChanged, IsPlain, empty_reply}

-- a text that was heard and not yet handed in, and what the link below tells: its answers, and the texts it was sent
pub record Below : Type 0 where
  pub unread : Option Unread
  pub answers : Option (List Heard)
  pub sent : Option (List (List ℕ))

-- that text, as a list of at most one
abbrev pub unread_of : Option Unread → List Heard
unread_of None = []
unread_of (Some unread) = heard.Text (string_bytes unread.text) ∷ []

-- a text is handed in as it came, or without the flag that it clears
abbrev pub IsHandedIn : List ℕ → List ℕ → Type 0
IsHandedIn text handed = ((handed ≡ text) × IsPlain (read text)) ⊎ IsChanged text handed

-- a message of the link below, and nothing sent there
abbrev pub Passes : Heard → List Heard → List (List ℕ) → Type 0
Passes answer taken replies = (taken ≡ answer ∷ []) × (replies ≡ [])

-- An answer, by what was taken from the link below and the replies that were sent there. A text that is answered has its
-- reply sent at once, and is no text for the host. Where memory is wanting nothing is taken.
abbrev pub Answers : Recv → List Heard → List (List ℕ) → Type 0
Answers (recv.Text handed) taken replies =
    (text : List ℕ) × Passes (heard.Text text) taken replies × IsHandedIn text (string_bytes handed)
Answers recv.Binary taken replies = Passes heard.Binary taken replies
Answers recv.TooBig taken replies =
    Passes heard.TooBig taken replies
    ⊎ ((text : List ℕ) × Passes (heard.Text text) taken replies × ClearsFlag text)
Answers recv.Quiet taken replies =
    Passes heard.Quiet taken replies
    ⊎ ((text : List ℕ) × (id : ℕ) × (taken ≡ heard.Text text ∷ []) × IsAnswered text id × (replies ≡ empty_reply id ∷ []))
Answers recv.Closed taken replies = Passes heard.Closed taken replies
Answers recv.Failed taken replies =
    Passes heard.Failed taken replies
    ⊎ ((text : List ℕ) × (id : ℕ) × Passes (heard.Text text) taken replies × IsAnswered text id)
Answers recv.Memory taken replies = (taken ≡ []) × (replies ≡ [])

-- An answer was given: what the link below has answered since is what was taken and the text that is left now, after
-- the one that was left before.
pub record Gives (old new : Below) (answer : Recv) : Type 0 where
  pub fresh : List Heard
  pub taken : List Heard
  pub replies : List (List ℕ)
  pub answers : new.answers ≡ adds old.answers fresh
  pub whole : unread_of old.unread ++ fresh ≡ taken ++ unread_of new.unread
  pub sent : new.sent ≡ adds old.sent replies
  pub is : Answers answer taken replies

-- ---- parts of it

-- what comes next: the text that was left, or what the link below answers
pub record Comes (old new : Below) (answer : Recv) : Type 0 where
  pub fresh : List Heard
  pub answers : new.answers ≡ adds old.answers fresh
  pub whole : unread_of old.unread ++ fresh ≡ heard.heard_of answer
  pub left : unread_of new.unread ≡ []
  pub sent : new.sent ≡ old.sent

-- a text that was heard is handed in, answered or left
pub record HandsIn (old new : Below) (text : List ℕ) (answer : Recv) : Type 0 where
  pub taken : List Heard
  pub replies : List (List ℕ)
  pub answers : new.answers ≡ old.answers
  pub whole : heard.Text text ∷ [] ≡ taken ++ unread_of new.unread
  pub sent : new.sent ≡ adds old.sent replies
  pub is : Answers answer taken replies

-- a text was sent to the link below, or nothing was
abbrev pub Sends : {A : Type 0} → Below → Below → List ℕ → Result A LinkFault → Type 0
Sends old new text (Ok done) = new ≡ record old { sent = adds old.sent (text ∷ []) }
Sends old new text (Err fault) = new ≡ old

-- ---- doors

-- a door as it is seen through a door whose links tell nothing of what was said
abbrev pub seen : Tended → Tended
seen door = record { faults = door.faults; asked = door.asked; served = None; is_out = door.is_out }
