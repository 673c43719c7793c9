-- Connections go on and end.
use Rattle.std.proofs.Common.{◌≡◌, inl, inr, ℕ, List, [], ◌∷◌, ◌++◌, Bool, true, false, refl, ap, sym, subst, ◌∙◌, append_assoc, append-nil}
use Rattle.cdp_host_isolation.specs.Histories.{Entry, Tell, Take, Detach}
use Rattle.cdp_host_isolation.specs.declared.seat.Loss.TheVariants.{Overrun, Memory}
use Rattle.history_lock.specs.Histories.{limit}
use Rattle.cdp_edge_server.specs.Heard as heard
use Rattle.cdp_edge_server.specs.Heard.{Heard}
use Rattle.cdp_host_turns.specs.declared.answers.Gone.{Gone}
use Rattle.cdp_host_turns.specs.declared.answers.Gone.TheVariants as gone
use Rattle.ws_service.specs.Connections.{AllGoOn, Connection, Ends, GoesOn, SentOf, end_of, turns, turns_at}
use Rattle.ws_service.specs.Sessions.{EndsTaking}
use Rattle.ws_service.specs.declared.served.Served.{Served}
use Rattle.ws_service.specs.declared.served.Served.TheVariants as served

-- ---- answers in order

turns-append : (s : ℕ) (xs ys : List Heard) → turns s (xs ++ ys) ≡ turns s xs ++ turns s ys
turns-append s [] ys = refl
turns-append s (x ∷ xs) ys =
    ap (λ l. turns_at s x ++ l) (turns-append s xs ys) ∙ sym (append_assoc (turns_at s x) (turns s xs) (turns s ys))

go-on-append : (xs ys : List Heard) → AllGoOn xs → AllGoOn ys → AllGoOn (xs ++ ys)
go-on-append [] ys a b = b
go-on-append (x ∷ xs) ys a b = (a.0, go-on-append xs ys a.1 b)

-- one more
pub turns-more : (s : ℕ) (xs : List Heard) (x : Heard) → turns s (xs ++ x ∷ []) ≡ turns s xs ++ turns_at s x
turns-more s xs x = turns-append s xs (x ∷ []) ∙ ap (λ l. turns s xs ++ l) (append-nil (turns_at s x))

pub go-on-more : (xs : List Heard) (x : Heard) → AllGoOn xs → GoesOn x → AllGoOn (xs ++ x ∷ [])
go-on-more xs x a b = go-on-append xs (x ∷ []) a (b, tt)

-- a connection with more answers before
pub connection-after : (s : ℕ) (before : List Heard) (end : Served) (answers : List Heard) (entries : List Entry) (cut : Bool)
    → AllGoOn before → Connection s end answers entries cut → Connection s end (before ++ answers) (turns s before ++ entries) cut
connection-after s before end answers entries cut go c = record {
  front = before ++ c.front;
  last = c.last;
  rest = c.rest;
  go_on = go-on-append before c.front go c.go_on;
  answered = ap (λ l. before ++ l) c.answered ∙ sym (append_assoc before c.front c.last);
  left =
      ap (λ l. turns s before ++ l) c.left
      ∙ sym (append_assoc (turns s before) (turns s c.front) c.rest)
      ∙ ap (λ l. l ++ c.rest) (sym (turns-append s before c.front));
  ends = c.ends;
}

-- ---- ends

-- an end without an answer before it
pub ends-here : (s : ℕ) (end : Served) (answers : List Heard) (entries : List Entry) (cut : Bool)
    → Ends s end answers entries cut → Connection s end answers entries cut
ends-here s end answers entries cut ends =
    record { front = []; last = answers; rest = entries; go_on = tt; answered = refl; left = refl; ends = ends }

-- an end after an answer whose turns were all made
ends-behind : (s : ℕ) (end : Served) (answer : Heard) (rest : List Entry) (cut : Bool) → GoesOn answer
    → Ends s end [] rest cut → Connection s end (answer ∷ []) (turns_at s answer ++ rest) cut
ends-behind s end answer rest cut go ends = record {
  front = answer ∷ [];
  last = [];
  rest = rest;
  go_on = (go, tt);
  answered = refl;
  left = ap (λ l. l ++ rest) (sym (append-nil (turns_at s answer)));
  ends = ends;
}

-- a session was gone before it was told a text
pub gone-at-text : (s : ℕ) (text : List ℕ) (why : Gone)
    → Connection s (end_of why) (heard.Text text ∷ []) (Detach s ∷ []) false
gone-at-text s text (gone.Lost Overrun) =
    ends-here s served.Overrun (heard.Text text ∷ []) (Detach s ∷ []) false
    (inl (inl (heard.Text text, tt, refl, refl)), refl)
gone-at-text s text (gone.Lost Memory) =
    ends-here s served.Memory (heard.Text text ∷ []) (Detach s ∷ []) false
    (inl (inl (heard.Text text, tt, refl, refl), refl))
gone-at-text s text gone.Shut =
    ends-here s served.Shut (heard.Text text ∷ []) (Detach s ∷ []) false
    (inl (heard.Text text, tt, refl, refl), refl)

-- there was no memory for the answer to a text
pub memory-at-text : (s : ℕ) (text : List ℕ)
    → Connection s served.Memory (heard.Text text ∷ []) (Detach s ∷ []) false
memory-at-text s text =
    ends-here s served.Memory (heard.Text text ∷ []) (Detach s ∷ []) false
    (inl (inl (heard.Text text, tt, refl, refl), refl))

-- the answer to a text was too much
pub overrun-at-text : (s : ℕ) (text : List ℕ)
    → Connection s served.Overrun (heard.Text text ∷ []) (Tell s text ∷ []) false
overrun-at-text s text =
    ends-here s served.Overrun (heard.Text text ∷ []) (Tell s text ∷ []) false (inr (text, refl, refl), refl)

-- no ticket was left after an answer
pub spent-at : (s ticket : ℕ) (answer : Heard) (cut : Bool) → ticket ≡ limit
    → Connection s (served.Spent ticket) (answer ∷ []) [] cut
spent-at s ticket answer cut is =
    ends-here s (served.Spent ticket) (answer ∷ []) [] cut (is, inl (refl, inr (answer, refl)))

-- nor where there was none
pub spent-here : (s ticket : ℕ) (cut : Bool) → ticket ≡ limit → Connection s (served.Spent ticket) [] [] cut
spent-here s ticket cut is = ends-here s (served.Spent ticket) [] [] cut (is, inl (refl, inl refl))

-- ---- ends where texts are taken

told-end : (s : ℕ) (text : List ℕ) (end : Served) (entries : List Entry) (cut : Bool)
    → Ends s end (heard.Text text ∷ []) (Tell s text ∷ entries) cut
    → Connection s end (heard.Text text ∷ []) (Tell s text ∷ entries) cut
told-end s text end entries cut ends = ends-here s end (heard.Text text ∷ []) (Tell s text ∷ entries) cut ends

-- after a text was told
pub taking-after-text : (s : ℕ) (text : List ℕ) (end : Served) (entries : List Entry) (cut : Bool)
    → EndsTaking s end entries cut → Connection s end (heard.Text text ∷ []) (Tell s text ∷ entries) cut
taking-after-text s text served.Overrun entries cut e =
    told-end s text served.Overrun entries cut (inl (inr (text, refl, ap (λ l. Tell s text ∷ l) e.0)), e.1)
taking-after-text s text served.Shut entries cut e =
    told-end s text served.Shut entries cut (inr (text, refl, ap (λ l. Tell s text ∷ l) e.0), e.1)
taking-after-text s text served.Fault entries cut e =
    subst (λ l. Connection s served.Fault (heard.Text text ∷ []) (Tell s text ∷ l) cut) (sym e.0)
    (ends-behind s served.Fault (heard.Text text) (Detach s ∷ []) cut tt (inr ((refl, refl), e.1)))
taking-after-text s text served.Memory entries cut (inl e) =
    told-end s text served.Memory entries cut (inl (inr (text, refl, ap (λ l. Tell s text ∷ l) e.0), e.1))
taking-after-text s text served.Memory entries cut (inr e) =
    subst (λ l. Connection s served.Memory (heard.Text text ∷ []) (Tell s text ∷ l) cut) (sym e.0)
    (ends-behind s served.Memory (heard.Text text) (Detach s ∷ []) cut tt (inr (refl, refl)))
taking-after-text s text (served.Spent ticket) entries cut (is, inl e) =
    told-end s text (served.Spent ticket) entries cut (is, inr (text, refl, ap (λ l. Tell s text ∷ l) e.0))
taking-after-text s text (served.Spent ticket) entries cut (is, inr e) =
    subst (λ l. Connection s (served.Spent ticket) (heard.Text text ∷ []) (Tell s text ∷ l) cut) (sym e.0)
    (ends-behind s (served.Spent ticket) (heard.Text text) [] cut tt (is, inl (refl, inl refl)))
taking-after-text s text served.Closed entries cut e = absurd e
taking-after-text s text served.TooBig entries cut e = absurd e
taking-after-text s text served.Binary entries cut e = absurd e
taking-after-text s text served.Over entries cut e = absurd e

-- where nothing was told
pub taking-alone : (s : ℕ) (end : Served) (entries : List Entry) (cut : Bool)
    → EndsTaking s end entries cut → Connection s end (heard.Quiet ∷ []) entries cut
taking-alone s served.Overrun entries cut e =
    ends-here s served.Overrun (heard.Quiet ∷ []) entries cut (inl (inl (heard.Quiet, tt, refl, e.0)), e.1)
taking-alone s served.Shut entries cut e =
    ends-here s served.Shut (heard.Quiet ∷ []) entries cut (inl (heard.Quiet, tt, refl, e.0), e.1)
taking-alone s served.Fault entries cut e =
    subst (λ l. Connection s served.Fault (heard.Quiet ∷ []) l cut) (sym e.0)
    (ends-behind s served.Fault heard.Quiet (Detach s ∷ []) cut tt (inr ((refl, refl), e.1)))
taking-alone s served.Memory entries cut (inl e) =
    ends-here s served.Memory (heard.Quiet ∷ []) entries cut (inl (inl (heard.Quiet, tt, refl, e.0), e.1))
taking-alone s served.Memory entries cut (inr e) =
    subst (λ l. Connection s served.Memory (heard.Quiet ∷ []) l cut) (sym e.0)
    (ends-behind s served.Memory heard.Quiet (Detach s ∷ []) cut tt (inr (refl, refl)))
taking-alone s (served.Spent ticket) entries cut (is, inl e) =
    ends-here s (served.Spent ticket) (heard.Quiet ∷ []) entries cut (is, inl (e.0, inr (heard.Quiet, refl)))
taking-alone s (served.Spent ticket) entries cut (is, inr e) =
    subst (λ l. Connection s (served.Spent ticket) (heard.Quiet ∷ []) l cut) (sym e.0)
    (ends-behind s (served.Spent ticket) heard.Quiet [] cut tt (is, inl (refl, inl refl)))
taking-alone s served.Closed entries cut e = absurd e
taking-alone s served.TooBig entries cut e = absurd e
taking-alone s served.Binary entries cut e = absurd e
taking-alone s served.Over entries cut e = absurd e

-- no ticket was left for the detach at the program's end
pub over-spent : (s ticket : ℕ) → ticket ≡ limit → Connection s (served.Spent ticket) (heard.Quiet ∷ []) (Take s ∷ []) false
over-spent s ticket is = ends-behind s (served.Spent ticket) heard.Quiet [] false tt (is, inl (refl, inl refl))

-- ---- what is sent

pub sent-after : (cut : Bool) (before sent texts : List (List ℕ)) → SentOf cut sent texts → SentOf cut (before ++ sent) (before ++ texts)
sent-after false before sent texts is = ap (λ l. before ++ l) is
sent-after true before sent texts b = (b.0, ap (λ l. before ++ l) b.1 ∙ sym (append_assoc before sent b.0))
