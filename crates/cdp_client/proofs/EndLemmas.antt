-- How a conversation ends.
use Rattle.std.proofs.Common.{◌≡◌, inl, inr, true, false, ℕ, List, [], ◌∷◌, ◌++◌, Option, Some, None, Ok, refl, ap, sym, subst, ◌∙◌, append-nil}
use Rattle.cdp_edge.specs.Outside.{GainsPrefix, gains}
use Rattle.cdp_edge.proofs.Gains.{GainsLess-behind, GainsPrefix-behind}
use Rattle.cdp_text.specs.Lines.{ended}
use Rattle.cdp_edge_server.specs.Contents.{adds}
use Rattle.cdp_edge_server.specs.Heard as heard
use Rattle.cdp_edge_server.specs.Heard.{Heard}
use Rattle.cdp_edge_server.proofs.ToldLemmas.{adds-append}
use Rattle.cdp_client.specs.Lines.{Command, Line, file_read}
use Rattle.cdp_client.specs.Talks.{Course, Talk, goes_on, hears, is_over, lines_heard, next_command, silent, start, talk_from}
use Rattle.cdp_client.specs.Conversations.{Begins, Closes, Converses, CountsLink, CountsSink, EndsTalk, GoesOn, Hears, IsClosedBy, IsCut, IsCutOff, IsUnread, Traffic, Turns, TurnsBy, passes}
use Rattle.cdp_client.specs.declared.conversed.Conversed.{Conversed}
use Rattle.cdp_client.specs.declared.conversed.Conversed.TheVariants as ends
use Rattle.cdp_client.proofs.TrafficLemmas.{ended-append, passes-on}
use Rattle.cdp_client.proofs.TalkLemmas.{HasCome, HasStopped, come-heard, come-sent, heard-more, sends-begins, sends-written, stopped, talk-more}

-- ---- a conversation is cut off

-- all that was heard was acted on, but perhaps for the last text
pub cut-off : (first : Course) (old : Traffic) (course : Course) (now : Traffic) → (come : HasCome first old course now)
    → IsCutOff first come.answers old now
cut-off first old course now come = (
  come.are,
  ap (λ t. t.answers) come.passed,
  (
    come.talk.sent,
    subst (λ (t : Talk). Begins come.talk.sent t.sent) come.whole
        (sends-begins come.talk (next_command come.talk.course)),
    ap (λ t. t.sent) come.passed,
  ),
)

pub cut-written : (first : Course) (old : Traffic) (course : Course) (now : Traffic)
    → (come : HasCome first old course now)
    → now.written ≡ gains old.written (ended (talk_from first come.answers).written)
cut-written first old course now come =
    ap (λ t. t.written) come.passed
    ∙ ap (λ w. gains old.written (ended w))
    (sym (sends-written come.talk (next_command come.talk.course)) ∙ ap (λ t. t.written) come.whole)

-- all of some bytes are a first part of them
all-prefix : (old new : List ℕ) (bytes : List ℕ) → new ≡ gains old bytes → GainsPrefix old new bytes
all-prefix old new bytes is = (bytes, [], sym (append-nil bytes), is)

-- the end where the link failed at a send or a close, or there was no memory
pub ends-cut : (first : Course) (old : Traffic) (course : Course) (now : Traffic) (end : Conversed)
    → HasCome first old course now
    → IsCut end
    → EndsTalk first end old now
ends-cut first old course now ends.Done come cut = absurd cut
ends-cut first old course now (ends.Refused line) come cut = absurd cut
ends-cut first old course now (ends.PeerClosed replies) come cut = absurd cut
ends-cut first old course now ends.LinkFault come cut =
    inr (come.answers, cut-off first old course now come, cut-written first old course now come)
ends-cut first old course now ends.WriteFault come cut = absurd cut
ends-cut first old course now ends.Memory come cut = (
  come.answers,
  cut-off first old course now come,
  all-prefix old.written now.written (ended (talk_from first come.answers).written)
      (cut-written first old course now come),
)

-- the end where nothing is left to be done
ends-closed : (first : Course) (old : Traffic) (course : Course) (now : Traffic) (end : Conversed)
    → HasCome first old course now
    → next_command course ≡ None
    → is_over course ≡ true
    → Closes end
    → EndsTalk first end old now
ends-closed first old course now ends.Done come none over closes =
    let at_rest = stopped first old course now come none in
    (at_rest.answers, at_rest.are, ap is_over at_rest.stands ∙ over, at_rest.passed)
ends-closed first old course now (ends.Refused line) come none over closes = absurd closes
ends-closed first old course now (ends.PeerClosed replies) come none over closes = absurd closes
ends-closed first old course now ends.LinkFault come none over closes =
    ends-cut first old course now ends.LinkFault come tt
ends-closed first old course now ends.WriteFault come none over closes = absurd closes
ends-closed first old course now ends.Memory come none over closes = ends-cut first old course now ends.Memory come tt

-- ---- the last answer

-- this answer is the last
last-passed : (first : Course) (old : Traffic) (course : Course) (mid new : Traffic) (answer : Heard)
    → (at_rest : HasStopped first old course mid)
    → new ≡ passes mid (answer ∷ []) [] []
    → new ≡ passes old (at_rest.answers ++ answer ∷ []) (talk_from first at_rest.answers).sent
    (talk_from first at_rest.answers).written
last-passed first old course mid new answer at_rest is =
    let so_far = talk_from first at_rest.answers in
    is
    ∙ ap (λ t. passes t (answer ∷ []) [] []) at_rest.passed
    ∙ passes-on old at_rest.answers (answer ∷ []) so_far.sent [] so_far.written []
    ∙ (λ i. passes old (at_rest.answers ++ answer ∷ []) (append-nil so_far.sent i) (append-nil so_far.written i))

-- the last answer was heard, and cut off what comes of it
last-cut : (first : Course) (old : Traffic) (course : Course) (mid new : Traffic) (answer : Heard)
    → (at_rest : HasStopped first old course mid)
    → is_over course ≡ false
    → GoesOn answer
    → new.answers ≡ adds mid.answers (answer ∷ [])
    → new.sent ≡ mid.sent
    → IsCutOff first (at_rest.answers ++ answer ∷ []) old new
last-cut first old course mid new answer at_rest some goes answers sent =
    let so_far = talk_from first at_rest.answers in (
      heard-more (goes_on (silent first)) at_rest.answers answer at_rest.are (ap is_over at_rest.stands ∙ some) goes,
      answers
          ∙ ap (λ t. adds t.answers (answer ∷ [])) at_rest.passed
          ∙ adds-append old.answers at_rest.answers (answer ∷ []),
      (
        so_far.sent,
        subst (λ (t : Talk). Begins so_far.sent t.sent) (sym (talk-more first at_rest.answers answer))
            (sends-begins (hears so_far answer) (next_command (hears so_far answer).course)),
        sent ∙ ap (λ t. t.sent) at_rest.passed,
      ),
    )

-- all that the talk writes, by what was written before the last answer
last-written : (first : Course) (old : Traffic) (course : Course) (mid : Traffic) (answer : Heard)
    → (at_rest : HasStopped first old course mid)
    → ended (talk_from first (at_rest.answers ++ answer ∷ [])).written
    ≡ ended (talk_from first at_rest.answers).written ++ ended (lines_heard course answer) ++ []
last-written first old course mid answer at_rest =
    let so_far = talk_from first at_rest.answers in
    let after = hears so_far answer in
    ap (λ t. ended t.written) (talk-more first at_rest.answers answer)
    ∙ ap ended (sends-written after (next_command after.course))
    ∙ ended-append so_far.written (lines_heard so_far.course answer)
    ∙ ap (λ c. ended so_far.written ++ ended (lines_heard c answer)) at_rest.stands
    ∙ sym (append-nil (ended so_far.written ++ ended (lines_heard course answer)))

-- the end at an answer
ends-heard : (first : Course) (old : Traffic) (course left : Course) (mid new : Traffic) (end : Conversed)
    → HasCome first old course mid
    → next_command course ≡ None
    → is_over course ≡ false
    → Hears course left mid new (Some end)
    → EndsTalk first end old new
ends-heard first old course left mid new ends.Done come none some hears_it = absurd hears_it
ends-heard first old course left mid new (ends.Refused line) come none some hears_it = absurd hears_it
ends-heard first old course left mid new (ends.PeerClosed replies) come none some hears_it =
    let at_rest = stopped first old course mid come none in (
      at_rest.answers,
      at_rest.are,
      ap is_over at_rest.stands ∙ some,
      hears_it.0 ∙ sym (ap (λ c. c.replies) at_rest.stands),
      last-passed first old course mid new heard.Closed at_rest hears_it.1,
    )
ends-heard first old course left mid new ends.LinkFault come none some hears_it =
    let at_rest = stopped first old course mid come none in
    inl (
      at_rest.answers,
      at_rest.are,
      ap is_over at_rest.stands ∙ some,
      last-passed first old course mid new heard.Failed at_rest hears_it,
    )
ends-heard first old course left mid new ends.WriteFault come none some (answer, goes, answers, sent, less) =
    let at_rest = stopped first old course mid come none in (
      at_rest.answers ++ answer ∷ [],
      last-cut first old course mid new answer at_rest some goes answers sent,
      GainsLess-behind old.written mid.written new.written (ended (talk_from first at_rest.answers).written)
          (ended (lines_heard course answer)) []
          (ended (talk_from first (at_rest.answers ++ answer ∷ [])).written)
          (ap (λ t. t.written) at_rest.passed) (last-written first old course mid answer at_rest) less,
    )
ends-heard first old course left mid new ends.Memory come none some (inl same) =
    subst (λ (t : Traffic). EndsTalk first ends.Memory old t) (sym same)
    (ends-cut first old course mid ends.Memory come tt)
ends-heard first old course left mid new ends.Memory come none some (inr (answer, goes, answers, sent, part)) =
    let at_rest = stopped first old course mid come none in (
      at_rest.answers ++ answer ∷ [],
      last-cut first old course mid new answer at_rest some goes answers sent,
      GainsPrefix-behind old.written mid.written new.written (ended (talk_from first at_rest.answers).written)
          (ended (lines_heard course answer)) []
          (ended (talk_from first (at_rest.answers ++ answer ∷ [])).written)
          (ap (λ t. t.written) at_rest.passed) (last-written first old course mid answer at_rest) part,
    )

-- ---- a turn

ends-by : (first : Course) (old : Traffic) (course left : Course) (mid new : Traffic) (end : Conversed)
    (next : Option Command) → next_command course ≡ next
    → HasCome first old course mid
    → TurnsBy next course left mid new (Some end)
    → EndsTalk first end old new
ends-by first old course left mid new end (Some command) is come turn =
    subst (λ (t : Traffic). EndsTalk first end old t) (sym turn.1) (ends-cut first old course mid end come turn.0)
ends-by first old course left mid new end None is come (inl turn) =
    subst (λ (t : Traffic). EndsTalk first end old t) (sym turn.2)
    (ends-closed first old course mid end come is turn.0 turn.1)
ends-by first old course left mid new end None is come (inr turn) =
    ends-heard first old course left mid new end come is turn.0 turn.1

-- the conversation ends at a turn
pub turn-ends : (first : Course) (old : Traffic) (course left : Course) (mid new : Traffic) (end : Conversed)
    → HasCome first old course mid
    → Turns course left mid new (Some end)
    → EndsTalk first end old new
turn-ends first old course left mid new end come turn =
    ends-by first old course left mid new end (next_command course) refl come turn

goes-by : (first : Course) (old : Traffic) (course left : Course) (mid new : Traffic) (next : Option Command)
    → next_command course ≡ next
    → HasCome first old course mid
    → TurnsBy next course left mid new None
    → HasCome first old left new
goes-by first old course left mid new (Some command) is come turn =
    come-sent first old course mid left new command come is turn.0 turn.1
goes-by first old course left mid new None is come (some, (answer, goes, left_is, heard_it)) =
    come-heard first old course mid left new answer come is some goes left_is heard_it

-- the conversation goes on after a turn
pub turn-goes : (first : Course) (old : Traffic) (course left : Course) (mid new : Traffic)
    → HasCome first old course mid
    → Turns course left mid new None
    → HasCome first old left new
turn-goes first old course left mid new come turn =
    goes-by first old course left mid new (next_command course) refl come turn

-- ---- files

-- what a conversation over a file's lines came to
pub converses-by : (file : List ℕ) (lines : List Line) (end : Conversed) (old new : Traffic)
    → file_read file ≡ Ok lines
    → EndsTalk (start lines) end old new
    → Converses file end old new
converses-by file lines ends.Done old new is came = (lines, is, came)
converses-by file lines (ends.Refused line) old new is came = absurd came
converses-by file lines (ends.PeerClosed replies) old new is came = (lines, is, came)
converses-by file lines ends.LinkFault old new is came = (lines, is, came)
converses-by file lines ends.WriteFault old new is came = (lines, is, came)
converses-by file lines ends.Memory old new is came = inr (lines, is, came)

-- a file isn't read, and nothing is done
pub converses-unread : (file : List ℕ) (end : Conversed) (old : Traffic) → IsUnread file end
    → Converses file end old old
converses-unread file ends.Done old unread = absurd unread
converses-unread file (ends.Refused line) old unread = (unread, refl)
converses-unread file (ends.PeerClosed replies) old unread = absurd unread
converses-unread file ends.LinkFault old unread = absurd unread
converses-unread file ends.WriteFault old unread = absurd unread
converses-unread file ends.Memory old unread = inl refl

pub closed-unread : (file : List ℕ) (end : Conversed) (code : Option (Option ℕ)) → IsUnread file end
    → IsClosedBy (Some end) code code
closed-unread file ends.Done code unread = absurd unread
closed-unread file (ends.Refused line) code unread = refl
closed-unread file (ends.PeerClosed replies) code unread = absurd unread
closed-unread file ends.LinkFault code unread = absurd unread
closed-unread file ends.WriteFault code unread = absurd unread
closed-unread file ends.Memory code unread = refl

pub link-unread : (file : List ℕ) (end : Conversed) (count : ℕ) → IsUnread file end → CountsLink (Some end) count count
link-unread file ends.Done count unread = absurd unread
link-unread file (ends.Refused line) count unread = refl
link-unread file (ends.PeerClosed replies) count unread = absurd unread
link-unread file ends.LinkFault count unread = absurd unread
link-unread file ends.WriteFault count unread = absurd unread
link-unread file ends.Memory count unread = refl

pub sink-unread : (file : List ℕ) (end : Conversed) (count : ℕ) → IsUnread file end → CountsSink (Some end) count count
sink-unread file ends.Done count unread = absurd unread
sink-unread file (ends.Refused line) count unread = refl
sink-unread file (ends.PeerClosed replies) count unread = absurd unread
sink-unread file ends.LinkFault count unread = absurd unread
sink-unread file ends.WriteFault count unread = absurd unread
sink-unread file ends.Memory count unread = refl
