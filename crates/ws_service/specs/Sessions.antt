-- What serving a link leaves, and what the link was sent.
use Rattle.std.specs.Prelude.{◌≡◌, ◌⊎◌, ℕ, List, [], ◌∷◌, Bool, true, false, Option, Some, None, Result, Ok, Err}
use Rattle.cdp_host_isolation.specs.Histories.{Entry, Attach, Tell, Take, Detach}
use Rattle.cdp_host_isolation.specs.Makers.{Owns}
use Rattle.history_lock.specs.Histories.{limit}
use Rattle.history_lock.specs.Passes.{PassState, refused_pass}
use Rattle.cdp_edge_server.specs.Contents.{adds, becomes}
use Rattle.cdp_edge_server.specs.Heard as heard
use Rattle.cdp_edge_server.specs.Heard.{Heard}
use Rattle.cdp_host_turns.specs.Debuggings.{Debugging, IsNew, sent_alone}
use Rattle.cdp_host_turns.specs.Presences.{IsGoneAs, IsToldAs}
use Rattle.cdp_host_turns.specs.States.{IsOver, IsShut}
use Rattle.cdp_host_turns.specs.declared.answers.Gone.TheVariants as gone
use Rattle.cdp_host_turns.specs.declared.answers.Told.TheVariants as told
use Rattle.cdp_host_isolation.specs.declared.seat.Loss.TheVariants.{Overrun}
use Rattle.ws_service.specs.Connections.{Connection, GoesOn, SentOf, code_of, turns_at}
use Rattle.ws_service.specs.Passing.{FoundAt, Goes, Serves, Was}
use Rattle.ws_service.specs.declared.served.Served.{Served}
use Rattle.ws_service.specs.declared.served.Served.TheVariants as served

-- A session overran: at its detach it had been lost so, and its owner wasn't told of that; or it was told a text, and
-- the answer didn't fit behind the texts that waited.
abbrev pub HasOverrun : Debugging → ℕ → List (ℕ × Entry) → Type 0
HasOverrun d s h =
    FoundAt (IsGoneAs d s (gone.Lost Overrun)) (Detach s) h
    ⊎ ((text : List ℕ) × FoundAt (IsToldAs d s text told.Overrun) (Tell s text) h)

-- What an end says of a session and its program: that the session overran; that the program had been shut at its
-- detach, when it wasn't lost; that the program has ended; or that no ticket was left, of which this is so.
abbrev pub HasCause : Debugging → ℕ → Served → List (ℕ × Entry) → Type 0 → Type 0
HasCause d s served.Closed h spent = Unit {0}
HasCause d s served.TooBig h spent = Unit {0}
HasCause d s served.Binary h spent = Unit {0}
HasCause d s served.Overrun h spent = HasOverrun d s h
HasCause d s served.Shut h spent = FoundAt (IsGoneAs d s gone.Shut) (Detach s) h
HasCause d s served.Over h spent = Was (IsOver d) h
HasCause d s served.Fault h spent = Unit {0}
HasCause d s (served.Spent ticket) h spent = spent
HasCause d s served.Memory h spent = Unit {0}

-- ---- a link of a session

-- A session in a history: the pass attached it anew and left these entries for it, its link answered so, and was sent
-- exactly what the session would be sent with no other session there, or a first part of it where a send was cut.
pub record Session (d : Debugging) (s : ℕ) (p q : PassState Entry) (end : Served) (answers : List Heard)
    (texts : List (List ℕ)) : Type 0 where
  pub entries : List Entry
  pub cut : Bool
  pub goes : Goes d p q (Attach ∷ entries)
  pub connection : Connection s end answers entries cut
  pub sent : SentOf cut texts (sent_alone d s q.seen)
  pub owns : Owns p.number s q.seen
  pub new : IsNew s p.seen
  pub cause : HasCause d s end q.seen (q.refused ≡ true)

-- no session was attached: at most nobody's texts were taken, or the pass was refused a ticket
abbrev pub IsRefused : Debugging → PassState Entry → PassState Entry → Served → Type 0
IsRefused d p q served.Shut = Goes d p q (Take 0 ∷ []) × Was (IsShut d) q.seen
IsRefused d p q served.Memory = Goes d p q (Take 0 ∷ [])
IsRefused d p q (served.Spent ticket) = (ticket ≡ limit) × (q ≡ refused_pass p)
IsRefused d p q served.Closed = ⊥
IsRefused d p q served.TooBig = ⊥
IsRefused d p q served.Binary = ⊥
IsRefused d p q served.Overrun = ⊥
IsRefused d p q served.Over = ⊥
IsRefused d p q served.Fault = ⊥

-- what a link told before and after it was served: its answers, the texts that it was sent
pub record Talk : Type 0 where
  pub answers : Option (List Heard)
  pub sent : Option (List (List ℕ))

-- these answers and texts more
abbrev pub talks : Talk → List Heard → List (List ℕ) → Talk
talks old answers texts = record { answers = adds old.answers answers; sent = adds old.sent texts }

-- how a link was served: no session was attached, or one that was new
abbrev pub IsServed : Debugging → PassState Entry → PassState Entry → Talk → Talk → Served → Type 0
IsServed d p q old new end =
    (IsRefused d p q end × (new ≡ old))
    ⊎ ((s : ℕ) × (answers : List Heard) × (texts : List (List ℕ)) × Session d s p q end answers texts × (new ≡ talks old answers texts))

-- the link was closed with the code of the end, if that has one, unless the close failed
abbrev pub IsClosedBy : Served → Option (Option ℕ) → Option (Option ℕ) → Type 0
IsClosedBy end old new = (new ≡ old) ⊎ ((code : ℕ) × (code_of end ≡ Some code) × (new ≡ becomes old (Some code)))

-- ---- parts of it

-- where a program is said to be over, it was
abbrev pub WasOverIf : Debugging → Bool → List (ℕ × Entry) → Type 0
WasOverIf d true h = Was (IsOver d) h
WasOverIf d false h = Unit {0}

-- how a session ends whose waiting texts are to be taken and sent: it was gone, or a send failed, or no ticket was left
abbrev pub EndsTaking : ℕ → Served → List Entry → Bool → Type 0
EndsTaking s served.Overrun entries cut = (entries ≡ Detach s ∷ []) × (cut ≡ false)
EndsTaking s served.Shut entries cut = (entries ≡ Detach s ∷ []) × (cut ≡ false)
EndsTaking s served.Fault entries cut = (entries ≡ Take s ∷ Detach s ∷ []) × (cut ≡ true)
EndsTaking s served.Memory entries cut =
    ((entries ≡ Detach s ∷ []) × (cut ≡ false)) ⊎ ((entries ≡ Take s ∷ Detach s ∷ []) × (cut ≡ true))
EndsTaking s (served.Spent ticket) entries cut =
    (ticket ≡ limit) × (((entries ≡ []) × (cut ≡ false)) ⊎ ((entries ≡ Take s ∷ []) × (cut ≡ true)))
EndsTaking s served.Closed entries cut = ⊥
EndsTaking s served.TooBig entries cut = ⊥
EndsTaking s served.Binary entries cut = ⊥
EndsTaking s served.Over entries cut = ⊥

-- a session's waiting texts were taken and sent, or it ended there
abbrev pub HandsOut : Debugging → ℕ → PassState Entry → PassState Entry → Talk → Talk → Result Bool Served → Type 0
HandsOut d s p q old new (Ok is_over) =
    (texts : List (List ℕ)) × Serves d s p q (Take s ∷ []) texts × (new ≡ talks old [] texts) × WasOverIf d is_over q.seen
HandsOut d s p q old new (Err end) =
    (entries : List Entry) × (texts sent : List (List ℕ)) × (cut : Bool) × Serves d s p q entries texts
    × (new ≡ talks old [] sent) × SentOf cut sent texts × EndsTaking s end entries cut
    × HasCause d s end q.seen (q.refused ≡ true)

-- a session ended after these answers of its link, the last ones: what it left, and what was handed out and sent
abbrev pub EndsAfter : Debugging → ℕ → PassState Entry → PassState Entry → List Heard → Talk → Talk → Served → Type 0
EndsAfter d s p q answers old new end =
    (entries : List Entry) × (texts sent : List (List ℕ)) × (cut : Bool) × Serves d s p q entries texts
    × Connection s end answers entries cut × (new ≡ talks old [] sent) × SentOf cut sent texts
    × HasCause d s end q.seen (q.refused ≡ true)

-- a session was told a text, and what waits for it was sent: it goes on, or ends
abbrev pub Answers : Debugging → ℕ → PassState Entry → PassState Entry → List ℕ → Talk → Talk → Option Served → Type 0
Answers d s p q text old new None =
    (texts : List (List ℕ)) × Serves d s p q (Tell s text ∷ Take s ∷ []) texts × (new ≡ talks old [] texts)
Answers d s p q text old new (Some end) = EndsAfter d s p q (heard.Text text ∷ []) old new end

-- what waits for a session was sent, and nothing told: it goes on, or ends
abbrev pub Waits : Debugging → ℕ → PassState Entry → PassState Entry → Talk → Talk → Option Served → Type 0
Waits d s p q old new None = (texts : List (List ℕ)) × Serves d s p q (Take s ∷ []) texts × (new ≡ talks old [] texts)
Waits d s p q old new (Some end) = EndsAfter d s p q (heard.Quiet ∷ []) old new end

-- one answer of a session's link was heard: the session goes on, or ends
abbrev pub Hears : Debugging → ℕ → PassState Entry → PassState Entry → Talk → Talk → Option Served → Type 0
Hears d s p q old new None =
    (answer : Heard) × (texts : List (List ℕ)) × GoesOn answer × Serves d s p q (turns_at s answer) texts
    × (new ≡ talks old (answer ∷ []) texts)
Hears d s p q old new (Some end) =
    (answers : List Heard) × (entries : List Entry) × (texts sent : List (List ℕ)) × (cut : Bool)
    × Serves d s p q entries texts × Connection s end answers entries cut × (new ≡ talks old answers sent)
    × SentOf cut sent texts × HasCause d s end q.seen (q.refused ≡ true)

-- a session ends so: it was detached; or no ticket was left, and the pass was refused one
abbrev pub IsEnded : Debugging → ℕ → PassState Entry → PassState Entry → Served → Served → Type 0
IsEnded d s p q end result =
    ((result ≡ end) × Serves d s p q (Detach s ∷ []) [])
    ⊎ ((ticket : ℕ) × (result ≡ served.Spent ticket) × (ticket ≡ limit) × (q ≡ refused_pass p))
