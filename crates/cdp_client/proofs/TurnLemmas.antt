-- One turn of a conversation.
use Rattle.std.proofs.Common.{◌≡◌, inl, inr, ℕ, List, [], ◌∷◌, Option, Some, None, true, false, refl, ap, sym, subst, ◌∙◌}
use Rattle.cdp_edge.proofs.Gains.{gains-nil}
use Rattle.cdp_edge_server.specs.Contents.{adds}
use Rattle.cdp_edge_server.specs.Heard as heard
use Rattle.cdp_edge_server.specs.Heard.{Heard}
use Rattle.cdp_edge_server.proofs.ToldLemmas.{adds-nil}
use Rattle.cdp_client.specs.Lines.{Command}
use Rattle.cdp_client.specs.Talks.{Course, is_over, next_command, taken}
use Rattle.cdp_client.specs.Conversations.{Closes, CountsLink, CountsSink, Hears, IsClosedBy, Sends, Traffic, Turns, TurnsBy, Writes, passes}
use Rattle.cdp_client.specs.declared.conversed.Conversed.{Conversed}
use Rattle.cdp_client.specs.declared.conversed.Conversed.TheVariants as ends

-- ---- a command is sent

pub turns-ask : (course left : Course) (old new : Traffic) (command : Command) (result : Option Conversed)
    → Some command ≡ next_command course
    → left ≡ taken course (next_command course)
    → new.answers ≡ old.answers
    → new.written ≡ old.written
    → Sends command old.sent new.sent result
    → Turns course left old new result
turns-ask course left old new command result next left_is answers written sends =
    subst (λ (o : Option Command). TurnsBy o course left old new result) next
    (by_result result (left_is ∙ ap (λ o. taken course o) (sym next)) sends)
  where
    by_result : (r : Option Conversed) → left ≡ taken course (Some command) → Sends command old.sent new.sent r
        → TurnsBy (Some command) course left old new r
    by_result None is s = (
      is,
      (λ i. record {
        answers = (answers ∙ sym (adds-nil old.answers)) i;
        sent = s i;
        written = (written ∙ sym (gains-nil old.written)) i;
      }),
    )
    by_result (Some ends.Done) is s = absurd s
    by_result (Some (ends.Refused line)) is s = absurd s
    by_result (Some (ends.PeerClosed replies)) is s = absurd s
    by_result (Some ends.LinkFault) is s =
        (tt, (λ i. record { answers = answers i; sent = s i; written = written i }))
    by_result (Some ends.WriteFault) is s = absurd s
    by_result (Some ends.Memory) is s =
        (tt, (λ i. record { answers = answers i; sent = s i; written = written i }))

pub closed-ask : (command : Command) (old new : Option (List (List ℕ))) (result : Option Conversed)
    (before after : Option (Option ℕ)) → Sends command old new result → after ≡ before → IsClosedBy result before after
closed-ask command old new None before after sends same = same
closed-ask command old new (Some ends.Done) before after sends same = absurd sends
closed-ask command old new (Some (ends.Refused line)) before after sends same = same
closed-ask command old new (Some (ends.PeerClosed replies)) before after sends same = same
closed-ask command old new (Some ends.LinkFault) before after sends same = same
closed-ask command old new (Some ends.WriteFault) before after sends same = same
closed-ask command old new (Some ends.Memory) before after sends same = same

pub sink-ask : (command : Command) (old new : Option (List (List ℕ))) (result : Option Conversed) (count : ℕ)
    → Sends command old new result → CountsSink result count count
sink-ask command old new None count sends = refl
sink-ask command old new (Some ends.Done) count sends = refl
sink-ask command old new (Some (ends.Refused line)) count sends = refl
sink-ask command old new (Some (ends.PeerClosed replies)) count sends = refl
sink-ask command old new (Some ends.LinkFault) count sends = refl
sink-ask command old new (Some ends.WriteFault) count sends = absurd sends
sink-ask command old new (Some ends.Memory) count sends = refl

-- ---- all is done

-- where no command is to be sent, taking it changes nothing
none-taken : (course mid : Course)
    → None ≡ next_command course
    → mid ≡ taken course (next_command course)
    → mid ≡ course
none-taken course mid none is = is ∙ ap (λ o. taken course o) (sym none)

pub turns-close : (course mid : Course) (old new : Traffic) (end : Conversed)
    → None ≡ next_command course
    → mid ≡ taken course (next_command course)
    → is_over mid ≡ true
    → Closes end
    → new.answers ≡ old.answers
    → new.sent ≡ old.sent
    → new.written ≡ old.written
    → Turns course mid old new (Some end)
turns-close course mid old new end none is over closes answers sent written =
    subst (λ (o : Option Command). TurnsBy o course mid old new (Some end)) none
    (inl (
      ap is_over (sym (none-taken course mid none is)) ∙ over,
      closes,
      (λ i. record { answers = answers i; sent = sent i; written = written i }),
    ))

pub sink-close : (end : Conversed) (count : ℕ) → Closes end → CountsSink (Some end) count count
sink-close ends.Done count closes = refl
sink-close (ends.Refused line) count closes = refl
sink-close (ends.PeerClosed replies) count closes = refl
sink-close ends.LinkFault count closes = refl
sink-close ends.WriteFault count closes = absurd closes
sink-close ends.Memory count closes = refl

-- ---- an answer is heard

-- a text
pub hears-text : (course left : Course) (old new : Traffic) (text : List ℕ) (result : Option Conversed)
    → new.answers ≡ adds old.answers (heard.Text text ∷ [])
    → new.sent ≡ old.sent
    → Writes course (heard.Text text) left old.written new.written result
    → Hears course left old new result
hears-text course left old new text None answers sent writes = (
  heard.Text text,
  tt,
  writes.0,
  (λ i. record { answers = answers i; sent = (sent ∙ sym (adds-nil old.sent)) i; written = writes.1 i }),
)
hears-text course left old new text (Some ends.Done) answers sent writes = absurd writes
hears-text course left old new text (Some (ends.Refused line)) answers sent writes = absurd writes
hears-text course left old new text (Some (ends.PeerClosed replies)) answers sent writes = absurd writes
hears-text course left old new text (Some ends.LinkFault) answers sent writes = absurd writes
hears-text course left old new text (Some ends.WriteFault) answers sent writes =
    (heard.Text text, tt, answers, sent, writes)
hears-text course left old new text (Some ends.Memory) answers sent writes =
    inr (heard.Text text, tt, answers, sent, writes)

-- an answer of which nothing is written
pub passes-one : (old new : Traffic) (answer : Heard)
    → new.answers ≡ adds old.answers (answer ∷ [])
    → new.sent ≡ old.sent
    → new.written ≡ old.written
    → new ≡ passes old (answer ∷ []) [] []
passes-one old new answer answers sent written = λ i. record {
  answers = answers i;
  sent = (sent ∙ sym (adds-nil old.sent)) i;
  written = (written ∙ sym (gains-nil old.written)) i;
}

-- the link's count is as it was where a text was written or not
pub link-text : (course left : Course) (text : List ℕ) (old new : List ℕ) (result : Option Conversed)
    (before after : ℕ) → Writes course (heard.Text text) left old new result → after ≡ before
    → CountsLink result before after
link-text course left text old new None before after writes same = same
link-text course left text old new (Some ends.Done) before after writes same = same
link-text course left text old new (Some (ends.Refused line)) before after writes same = same
link-text course left text old new (Some (ends.PeerClosed replies)) before after writes same = same
link-text course left text old new (Some ends.LinkFault) before after writes same = absurd writes
link-text course left text old new (Some ends.WriteFault) before after writes same = same
link-text course left text old new (Some ends.Memory) before after writes same = same

pub turns-hear : (course mid left : Course) (old new : Traffic) (result : Option Conversed)
    → None ≡ next_command course
    → mid ≡ taken course (next_command course)
    → is_over mid ≡ false
    → Hears mid left old new result
    → Turns course left old new result
turns-hear course mid left old new result none is some hears =
    let same = none-taken course mid none is in
    subst (λ (o : Option Command). TurnsBy o course left old new result) none
    (by_result result (ap is_over (sym same) ∙ some)
    (subst (λ (c : Course). Hears c left old new result) same hears))
  where
    by_result : (r : Option Conversed) → is_over course ≡ false → Hears course left old new r
        → TurnsBy None course left old new r
    by_result None some h = (some, h)
    by_result (Some end) some h = inr (some, h)

pub closed-hear : (course left : Course) (old new : Traffic) (result : Option Conversed)
    (before after : Option (Option ℕ)) → Hears course left old new result → after ≡ before
    → IsClosedBy result before after
closed-hear course left old new None before after hears same = same
closed-hear course left old new (Some ends.Done) before after hears same = absurd hears
closed-hear course left old new (Some (ends.Refused line)) before after hears same = same
closed-hear course left old new (Some (ends.PeerClosed replies)) before after hears same = same
closed-hear course left old new (Some ends.LinkFault) before after hears same = same
closed-hear course left old new (Some ends.WriteFault) before after hears same = same
closed-hear course left old new (Some ends.Memory) before after hears same = same
