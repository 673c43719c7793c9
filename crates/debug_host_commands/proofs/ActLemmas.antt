-- What a line does to a host that stands for a history.
use Rattle.std.proofs.Common.{◌≡◌, ℕ, ◌+◌, List, [], ◌∷◌, ◌++◌, length, map, Bool, true, false, not, if◌then◌else◌, Option, Some, None, refl, ap, sym, subst, ◌∙◌, append_assoc}
use Rattle.std.proofs.lemmas.List.{map-append}
use Rattle.std.proofs.lemmas.Option.{same_Some}
use Rattle.std.specs.Option.{option_and_then}
use Rattle.cdp_edge.specs.Outside.{GainsLess, GainsPrefix, gains}
use Rattle.cdp_host_isolation.specs.Histories.{Entry, Attach, Tell, Take, Ran, waiting}
use Rattle.cdp_host_isolation.specs.Meanings.{after_run, after_steps, longest, with_seats}
use Rattle.cdp_host_isolation.specs.Seats.{is_attached, seat_of, without}
use Rattle.cdp_host_isolation.specs.Standing.{StandsAs, fallen_in, fell}
use Rattle.cdp_host_isolation.specs.declared.seat.Seat.{Seat}
use Rattle.cdp_host_isolation.specs.declared.seat.Seat.TheVariants as seats
use Rattle.cdp_host_isolation.proofs.BrokenLemmas.{stands-length}
use Rattle.cdp_host_isolation.proofs.FallenLemmas.{without-none}
use Rattle.cdp_host_isolation.proofs.MadeLemmas.{made-longest}
use Rattle.cdp_host_isolation.proofs.StepLemmas.{run-none, steps-fallen}
use Rattle.js_tree.specs.declared.script.Script.{Script}
use Rattle.js_semantics.specs.Run.{Run as Program}
use Rattle.cdp_session.specs.Replies.{answer_of}
use Rattle.cdp_session.specs.Sessions.{Session}
use Rattle.cdp_session.specs.Situations.{Standing}
use Rattle.cdp_session.specs.declared.situation.Pause.{Pause}
use Rattle.cdp_host_seats.specs.declared.losses.SessionLost.{SessionLost}
use Rattle.cdp_host_seats.specs.Losses.{losses_from}
use Rattle.cdp_host_turns.specs.declared.state.State.{State}
use Rattle.cdp_host_turns.specs.declared.state.State.TheVariants as states
use Rattle.cdp_host.specs.Histories.{Meaning, apply, whole}
use Rattle.cdp_host.specs.Hosts.{CarriesOn, HostState, Leaves, RunsTo, StandsFor, meaning_with, parts_standing, state_at}
use Rattle.cdp_host_turns.specs.Entries.{lost_for_memory}
use Rattle.cdp_host.specs.Programs.{printed_of}
use Rattle.cdp_host.specs.Protocols.{protocol, situation, texts_fit}
use Rattle.cdp_host.specs.Rules.{printed_between}
use Rattle.cdp_host.specs.Standings.{standing_of}
use Rattle.cdp_host.specs.States.{state_of}
use Rattle.cdp_host.proofs.HistoryLemmas.{longer}
use Rattle.cdp_host.proofs.RunLemmas.{lost-fallen}
use Rattle.cdp_host.proofs.StandingLemmas.{standing-taken}
use Rattle.cdp_journal.specs.Lines as lines
use Rattle.cdp_journal.specs.Lines.{line_of}
use Rattle.debug_host_commands.specs.Journal.{entry_at, entry_of, is_there}
use Rattle.debug_host_commands.specs.Output.{Output, Attached, To, Out, Overran, RanTo, joined, output_at, output_text, overrun_at, overrun_in, overruns, printed_at}
use Rattle.debug_host_commands.specs.Played.{Acts, Plays, StandsBehind, line_output}
use Rattle.cdp_host.proofs.HeldLemmas.{gone-seat, held-seat}

-- ---- who is attached

-- what a call says of every history for which a host stands
abbrev pub IsMeant : HostState → ℕ → Bool → Type 0
IsMeant host s there =
    (scripts : List Script) (input : List (List ℕ)) (wait : Bool) (history : List Entry)
    → StandsFor scripts input wait host history
    → there ≡ is_there (whole scripts input wait history) s

pub there-held : (host : HostState) (s : ℕ)
    → host.broken ≡ false
    → is_attached (seat_of s host.meaning.seats) ≡ true
    → IsMeant host s true
there-held host s works held scripts input wait history stood =
    let m : Meaning Program = whole scripts input wait history in
    let taken : List (List ℕ) = printed_of m.program in
    sym (ap (λ seat. is_attached seat) (held-seat (meaning_with host taken) m s (stood.means works) held) ∙ held)

pub there-gone : (host : HostState) (s : ℕ)
    → host.broken ≡ false
    → is_attached (seat_of s host.meaning.seats) ≡ false
    → fell (seat_of s host.meaning.seats) ≡ false
    → IsMeant host s false
there-gone host s works gone stays scripts input wait history stood =
    let m : Meaning Program = whole scripts input wait history in
    let taken : List (List ℕ) = printed_of m.program in
    sym (gone-seat (meaning_with host taken) m s (stood.means works) gone stays)

-- ---- a line that may stand there only where this holds

done_by : (scripts : List Script) (input : List (List ℕ)) (wait : Bool) (history : List Entry) (b : Bool)
    (entry : Entry) (texts : Option (List (List ℕ))) (new : HostState)
    → b ≡ true
    → texts ≡ Some (map output_text (output_at scripts (whole scripts input wait history) entry))
    → StandsBehind scripts input wait history entry new
    → Acts scripts input wait history (if b then Some entry else None) texts new
done_by scripts input wait history true entry texts new is texts_are stands = (texts_are, stands)
done_by scripts input wait history false entry texts new is texts_are stands = cc

-- the host behind a call with this entry
stands-behind : (scripts : List Script) (input : List (List ℕ)) (wait : Bool) (history : List Entry)
    (old new : HostState) (entry : Entry)
    → old.broken ≡ false
    → Leaves old entry new
    → CarriesOn old entry new
    → StandsFor scripts input wait old history
    → StandsBehind scripts input wait history entry new
stands-behind scripts input wait history old new entry works leaves carries stood =
    record { stands = carries scripts input wait history stood; works = leaves.works ∙ works }

-- ---- the lines

pub attach-done : (old new : HostState) (s : ℕ) (texts : List (List ℕ))
    → old.broken ≡ false
    → s ≡ length old.meaning.seats + 1
    → Leaves old Attach new
    → CarriesOn old Attach new
    → texts ≡ output_text (Attached s) ∷ []
    → (scripts : List Script) (input : List (List ℕ)) (wait : Bool) (history : List Entry)
    → StandsFor scripts input wait old history
    → Acts scripts input wait history (entry_at scripts (whole scripts input wait history) lines.Attach) (Some texts)
    new
attach-done old new s texts works number leaves carries texts_are scripts input wait history stood =
    let m : Meaning Program = whole scripts input wait history in
    let many : length old.meaning.seats ≡ length m.seats = stands-length (meaning_with old (printed_of m.program)) m
    (stood.means works) in (
      ap (λ xs. Some xs) (texts_are ∙ ap (λ n. output_text (Attached n) ∷ []) (number ∙ ap (λ n. n + 1) many)),
      stands-behind scripts input wait history old new Attach works leaves carries stood,
    )

-- whether the texts of an answer of a host's session fit
abbrev pub AnswersFit : HostState → ℕ → List ℕ → Bool → Type 0
AnswersFit host s text fit = (x : Session) → seat_of s host.meaning.seats ≡ seats.Attached x
    → texts_fit
    (answer_of (situation host.scripts host.meaning.stop (parts_standing host.scripts host.meaning.program))
    x text).session ≡ fit

-- they fit as the host keeps it where they do as its history says
overruns-by : (scripts : List Script) (m : Meaning Program) (host : HostState) (taken : List (List ℕ)) (text : List ℕ)
    (seat : Seat Session) (fit : Bool)
    → is_attached seat ≡ true
    → host.scripts ≡ scripts → StandsAs (meaning_with host taken) m
    → ((x : Session)
    → seat ≡ seats.Attached x
    → texts_fit
    (answer_of (situation host.scripts host.meaning.stop (parts_standing host.scripts host.meaning.program))
    x text).session ≡ fit)
    → overruns scripts m text seat ≡ not fit
overruns-by scripts m host taken text (seats.Attached x) fit held same stands fits =
    let F : List Script
    → Option Pause
    → Standing
    → Bool = λ ss q d. not (texts_fit (answer_of (situation ss q d) x text).session) in
    ap (λ k. F scripts k.stop (standing_of scripts k.program)) (sym stands.is)
    ∙ ap (λ ss. F ss host.meaning.stop (standing_of ss (meaning_with host taken).program)) (sym same)
    ∙ ap (λ d. F host.scripts host.meaning.stop d) (sym (standing-taken host.scripts host.meaning.program taken))
    ∙ ap not (fits x refl)
overruns-by scripts m host taken text (seats.Lost loss is_reported is_told) fit held same stands fits = absurd cc
overruns-by scripts m host taken text seats.Left fit held same stands fits = absurd cc

overrun_lines : (s : ℕ) (over : Bool) (b : Bool)
    → b ≡ over
    → map output_text (if over then Overran s ∷ [] else []) ≡ map output_text (if b then Overran s ∷ [] else [])
overrun_lines s over b is = ap (λ c. map output_text (if c then Overran s ∷ [] else [])) (sym is)

tell-done : (old new : HostState) (s : ℕ) (text : List ℕ) (fit : Bool) (texts : List (List ℕ))
    → old.broken ≡ false
    → is_attached (seat_of s old.meaning.seats) ≡ true
    → Leaves old (Tell s text) new
    → CarriesOn old (Tell s text) new
    → AnswersFit old s text fit
    → texts ≡ map output_text (if not fit then Overran s ∷ [] else [])
    → (scripts : List Script) (input : List (List ℕ)) (wait : Bool) (history : List Entry)
    → StandsFor scripts input wait old history
    → Acts scripts input wait history (entry_at scripts (whole scripts input wait history) (lines.Tell s text))
    (Some texts) new
tell-done old new s text fit texts works held leaves carries fits texts_are scripts input wait history stood =
    let m : Meaning Program = whole scripts input wait history in
    let taken : List (List ℕ) = printed_of m.program in
    let stands = stood.means works in
    let same : seat_of s m.seats ≡ seat_of s old.meaning.seats = held-seat (meaning_with old taken) m s stands held in
    let over : overruns scripts m text (seat_of s m.seats) ≡ not fit =
    ap (overruns scripts m text) same
    ∙ overruns-by scripts m old taken text (seat_of s old.meaning.seats) fit held stood.runs stands fits in
    done_by scripts input wait history (is_there m s) (Tell s text) (Some texts) new
    (sym (there-held old s works held scripts input wait history stood))
    (ap (λ xs. Some xs) (texts_are ∙ overrun_lines s (not fit) (overruns scripts m text (seat_of s m.seats)) over))
    (stands-behind scripts input wait history old new (Tell s text) works leaves carries stood)

pub tell-kept : (old new : HostState) (s : ℕ) (text : List ℕ) (texts : List (List ℕ))
    → old.broken ≡ false
    → is_attached (seat_of s old.meaning.seats) ≡ true
    → Leaves old (Tell s text) new → CarriesOn old (Tell s text) new → AnswersFit old s text true → texts ≡ []
    → (scripts : List Script) (input : List (List ℕ)) (wait : Bool) (history : List Entry)
    → StandsFor scripts input wait old history
    → Acts scripts input wait history (entry_at scripts (whole scripts input wait history) (lines.Tell s text))
    (Some texts) new
tell-kept old new s text texts works held leaves carries fits none =
    tell-done old new s text true texts works held leaves carries fits none

pub tell-overrun : (old new : HostState) (s : ℕ) (text : List ℕ) (texts : List (List ℕ))
    → old.broken ≡ false
    → is_attached (seat_of s old.meaning.seats) ≡ true
    → Leaves old (Tell s text) new
    → CarriesOn old (Tell s text) new
    → AnswersFit old s text false
    → texts ≡ output_text (Overran s) ∷ []
    → (scripts : List Script) (input : List (List ℕ)) (wait : Bool) (history : List Entry)
    → StandsFor scripts input wait old history
    → Acts scripts input wait history (entry_at scripts (whole scripts input wait history) (lines.Tell s text))
    (Some texts) new
tell-overrun old new s text texts works held leaves carries fits line =
    tell-done old new s text false texts works held leaves carries fits line

pub take-done : (old new : HostState) (s : ℕ) (handed texts : List (List ℕ))
    → old.broken ≡ false
    → is_attached (seat_of s old.meaning.seats) ≡ true
    → Leaves old (Take s) new
    → CarriesOn old (Take s) new
    → handed ≡ waiting (protocol old.scripts) (seat_of s old.meaning.seats)
    → texts ≡ map output_text (map (To s) handed)
    → (scripts : List Script) (input : List (List ℕ)) (wait : Bool) (history : List Entry)
    → StandsFor scripts input wait old history
    → Acts scripts input wait history (entry_at scripts (whole scripts input wait history) (lines.Take s)) (Some texts)
    new
take-done old new s handed texts works held leaves carries handed_are texts_are scripts input wait history stood =
    let m : Meaning Program = whole scripts input wait history in
    let same : seat_of s m.seats ≡ seat_of s old.meaning.seats = held-seat (meaning_with old (printed_of m.program)) m s
    (stood.means works) held in
    let waits : handed ≡ waiting (protocol scripts) (seat_of s m.seats) =
    handed_are
    ∙ ap (λ ss. waiting (protocol ss) (seat_of s old.meaning.seats)) stood.runs
    ∙ ap (waiting (protocol scripts)) (sym same) in
    done_by scripts input wait history (is_there m s) (Take s) (Some texts) new
    (sym (there-held old s works held scripts input wait history stood))
    (ap (λ xs. Some xs) (texts_are ∙ ap (λ xs. map output_text (map (To s) xs)) waits))
    (stands-behind scripts input wait history old new (Take s) works leaves carries stood)

-- ---- a run

-- the bytes of the lines of a run, as they are put one behind another
run-lines : (printed : List (List ℕ)) (lost : List ℕ) (last : Output)
    → (map output_text (map Out printed) ++ map output_text (map Overran lost)) ++ output_text last ∷ []
    ≡ map output_text (map Out printed ++ (map Overran lost ++ last ∷ []))
run-lines printed lost last =
    append_assoc (map output_text (map Out printed)) (map output_text (map Overran lost)) (output_text last ∷ [])
    ∙ ap (λ xs. map output_text (map Out printed) ++ xs) (sym (map-append output_text (map Overran lost) (last ∷ [])))
    ∙ sym (map-append output_text (map Out printed) (map Overran lost ++ last ∷ []))

pub run-texts : (printed : List (List ℕ)) (lost : List SessionLost) (steps : ℕ) (state : State)
    (first second all : List (List ℕ)) (last : List ℕ)
    → first ≡ map output_text (map Out printed)
    → second ≡ first ++ map output_text (map Overran (overrun_in lost))
    → all ≡ second ++ last ∷ []
    → last ≡ output_text (RanTo steps state)
    → all ≡ (map output_text (map Out printed) ++ map output_text (map Overran (overrun_in lost))) ++ output_text
    (RanTo steps state) ∷ []
run-texts printed lost steps state first second all last prints loses ends line =
    ends
    ∙ ap (λ xs. xs ++ last ∷ []) (loses ∙ ap (λ xs. xs ++ map output_text (map Overran (overrun_in lost))) prints)
    ∙ ap (λ x. (map output_text (map Out printed) ++ map output_text (map Overran (overrun_in lost))) ++ x ∷ []) line

-- A run of a host that lost nobody for want of memory: where it stood for this meaning, it made the longest run from
-- there, and so it printed and lost what that did.
record RunsAs (scripts : List Script) (moment most : ℕ) (m : Meaning Program) (steps : ℕ) (printed : List (List ℕ))
    (lost : List SessionLost) : Type 0 where
  long : steps ≡ longest (protocol scripts) moment most m
  prints : printed ≡ printed_at scripts moment [] steps m
  loses : overrun_in lost ≡ overrun_at scripts moment [] steps m

runs-as : (scripts : List Script) (moment most : ℕ) (host m : Meaning Program) (n : Meaning Program) (steps : ℕ)
    (printed : List (List ℕ)) (lost : List SessionLost)
    → StandsAs host m
    → RunsTo scripts moment most host steps printed lost n
    → lost_for_memory lost ≡ []
    → RunsAs scripts moment most m steps printed lost
runs-as scripts moment most host m n steps printed lost stands runs nobody =
    let P = protocol scripts in
    let k : Meaning Program = runs.middle in
    let none : fallen_in k.seats ≡ [] = sym (lost-fallen 1 k.seats) ∙ ap lost_for_memory (sym runs.reports) ∙ nobody in
    let reached : k ≡ after_steps P moment steps host = runs.longest.made.reached
    ∙ ap (λ gone. after_run P moment gone steps host) none
    ∙ run-none P steps moment host in
    let before : fallen_in host.seats ≡ [] = sym (steps-fallen P steps moment host)
    ∙ ap (λ q. fallen_in q.seats) (sym reached)
    ∙ none in
    let same : host ≡ m = stands.is
    ∙ ap (λ gone. with_seats (without gone m.seats) m) before
    ∙ ap (λ seats. with_seats seats m) (without-none m.seats) in
    let there : k ≡ after_run P moment [] steps m = reached
    ∙ ap (after_steps P moment steps) same
    ∙ sym (run-none P steps moment m) in
    record {
      long = made-longest P moment most steps host k runs.longest none ∙ ap (longest P moment most) same;
      prints =
          runs.prints
          ∙ ap (λ q. printed_between q.program k.program) same
          ∙ ap (λ q. printed_between m.program q.program) there;
      loses = ap overrun_in runs.reports ∙ ap (λ q. overrun_in (losses_from 1 q.seats)) there;
    }

state-as : (scripts : List Script) (input : List (List ℕ)) (wait : Bool) (history : List Entry) (new : HostState)
    (entry : Entry) (state : State)
    → new.broken ≡ false
    → StandsFor scripts input wait new (history ++ entry ∷ [])
    → ((taken : List (List ℕ)) → state ≡ state_at new taken)
    → state ≡ state_of (apply scripts (whole scripts input wait history) entry)
state-as scripts input wait history new entry state works stands tells =
    let taken = printed_of (whole scripts input wait (history ++ entry ∷ [])).program in
    tells taken
    ∙ ap (λ b. if b then states.Broken else state_of (meaning_with new taken)) works
    ∙ ap (λ m. state_of m) (stands.means works).is
    ∙ ap (λ m. state_of m) (longer scripts input wait history entry)

pub run-done : (moment most : ℕ) (old new : HostState) (steps : ℕ) (printed texts : List (List ℕ))
    (lost : List SessionLost) (state : State)
    → old.broken ≡ false → new.broken ≡ old.broken
    → ((taken : List (List ℕ))
    → RunsTo old.scripts moment most (meaning_with old taken) steps printed lost
    (meaning_with new (taken ++ printed)))
    → CarriesOn old (Ran steps moment (lost_for_memory lost)) new
    → lost_for_memory lost ≡ []
    → ((taken : List (List ℕ)) → state ≡ state_at new taken)
    → texts ≡ (map output_text (map Out printed) ++ map output_text (map Overran (overrun_in lost))) ++ output_text
    (RanTo steps state) ∷ []
    → (scripts : List Script) (input : List (List ℕ)) (wait : Bool) (history : List Entry)
    → StandsFor scripts input wait old history
    → Acts scripts input wait history (entry_at scripts (whole scripts input wait history) (lines.Run most moment))
    (Some texts) new
run-done moment most old new steps printed texts lost state works same runs carries nobody tells texts_are scripts input
    wait history stood =
    let m : Meaning Program = whole scripts input wait history in
    let taken : List (List ℕ) = printed_of m.program in
    let R : List Script
    → Type 0 = λ ss. RunsTo ss moment most (meaning_with old taken) steps printed lost
    (meaning_with new (taken ++ printed)) in
    let is = runs-as scripts moment most (meaning_with old taken) m (meaning_with new (taken ++ printed))
    steps printed lost (stood.means works) (subst R stood.runs (runs taken)) nobody in
    let S : List ℕ → Type 0 = λ gone. StandsFor scripts input wait new (history ++ Ran steps moment gone ∷ []) in
    let stands : StandsFor scripts input wait new (history ++ Ran steps moment [] ∷ []) = subst S nobody
    (carries scripts input wait history stood) in
    let led : state ≡ state_of (apply scripts m (Ran steps moment [])) = state-as scripts input wait history new
    (Ran steps moment []) state (same ∙ works) stands tells in
    let all : texts ≡ map output_text (output_at scripts m (Ran steps moment [])) =
    texts_are
    ∙ run-lines printed (overrun_in lost) (RanTo steps state)
    ∙ ap (λ xs. map output_text (map Out xs ++ (map Overran (overrun_in lost) ++ RanTo steps state ∷ []))) is.prints
    ∙ ap (λ xs. map output_text
    (map Out (printed_at scripts moment [] steps m) ++ (map Overran xs ++ RanTo steps state ∷ [])))
    is.loses
    ∙ ap (λ x. map output_text
    (map Out (printed_at scripts moment [] steps m) ++
    (map Overran (overrun_at scripts moment [] steps m) ++ RanTo steps x ∷ [])))
    led in
    let P : ℕ → Type 0 = λ k. Acts scripts input wait history (Some (Ran k moment [])) (Some texts) new in
    subst P is.long (ap (λ xs. Some xs) all, record { stands = stands; works = same ∙ works })

-- ---- what is written of a line that was applied

acts-output : (scripts : List Script) (input : List (List ℕ)) (wait : Bool) (history : List Entry) (o : Option Entry)
    (texts : List (List ℕ)) (new : HostState)
    → Acts scripts input wait history o (Some texts) new
    → line_output scripts (whole scripts input wait history) o ≡ joined texts
acts-output scripts input wait history None texts new acts = cc
acts-output scripts input wait history (Some entry) texts new acts =
    ap joined
    (sym (same_Some texts (map output_text (output_at scripts (whole scripts input wait history) entry)) acts.0))

entry-read : (scripts : List Script) (m : Meaning Program) (text : List ℕ) (line : lines.Line)
    → Some line ≡ line_of text
    → entry_at scripts m line ≡ entry_of scripts m text
entry-read scripts m text line is = ap (λ o. option_and_then (entry_at scripts m) o) is

-- what a line's entry writes is what was offered
pub offers : (text : List ℕ) (line : lines.Line) (texts : List (List ℕ)) (old new : HostState)
    → Some line ≡ line_of text
    → ((s : List Script) (i : List (List ℕ)) (w : Bool) (h : List Entry)
    → StandsFor s i w old h
    → Acts s i w h (entry_at s (whole s i w h) line) (Some texts) new)
    → (s : List Script) (i : List (List ℕ)) (w : Bool) (h : List Entry)
    → StandsFor s i w old h
    → line_output s (whole s i w h) (entry_of s (whole s i w h) text) ≡ joined texts
offers text line texts old new is acts s i w h stood =
    ap (λ o. line_output s (whole s i w h) o) (sym (entry-read s (whole s i w h) text line is))
    ∙ acts-output s i w h (entry_at s (whole s i w h) line) texts new (acts s i w h stood)

acts-none : (scripts : List Script) (input : List (List ℕ)) (wait : Bool) (history : List Entry) (o : Option Entry)
    (new : HostState)
    → Acts scripts input wait history o None new
    → o ≡ None
acts-none scripts input wait history None new acts = refl
acts-none scripts input wait history (Some entry) new acts = let none = acts.0 in absurd cc

-- a line that was refused has no entry
pub refuses : (text : List ℕ) (line : lines.Line) (old new : HostState) → Some line ≡ line_of text
    → ((s : List Script) (i : List (List ℕ)) (w : Bool) (h : List Entry)
    → StandsFor s i w old h
    → Acts s i w h (entry_at s (whole s i w h) line) None new)
    → (s : List Script) (i : List (List ℕ)) (w : Bool) (h : List Entry)
    → StandsFor s i w old h
    → entry_of s (whole s i w h) text ≡ None
refuses text line old new is acts s i w h stood =
    sym (entry-read s (whole s i w h) text line is)
    ∙ acts-none s i w h (entry_at s (whole s i w h) line) new (acts s i w h stood)

acts-play : (scripts : List Script) (input : List (List ℕ)) (wait : Bool) (history : List Entry) (o : Option Entry)
    (texts : List (List ℕ)) (new : HostState) (before now : List ℕ)
    → Acts scripts input wait history o (Some texts) new
    → now ≡ gains before (joined texts)
    → Plays scripts input wait history o new before now
acts-play scripts input wait history None texts new before now acts written = absurd cc
acts-play scripts input wait history (Some entry) texts new before now acts written = (
  written
      ∙ ap (λ xs. gains before (joined xs))
      (same_Some texts (map output_text (output_at scripts (whole scripts input wait history) entry))
      acts.0),
  acts.1,
)

-- a line that was applied, and whose lines of output were written
pub plays : (text : List ℕ) (line : lines.Line) (texts : List (List ℕ)) (old new : HostState)
    (before now : List ℕ)
    → Some line ≡ line_of text
    → ((s : List Script) (i : List (List ℕ)) (w : Bool) (h : List Entry)
    → StandsFor s i w old h
    → Acts s i w h (entry_at s (whole s i w h) line) (Some texts) new)
    → now ≡ gains before (joined texts)
    → (s : List Script) (i : List (List ℕ)) (w : Bool) (h : List Entry)
    → StandsFor s i w old h
    → Plays s i w h (entry_of s (whole s i w h) text) new before now
plays text line texts old new before now is acts written s i w h stood =
    let P : Option Entry → Type 0 = λ o. Plays s i w h o new before now in
    subst P (entry-read s (whole s i w h) text line is)
    (acts-play s i w h (entry_at s (whole s i w h) line) texts new before now (acts s i w h stood) written)

pub less-as : (before now : List ℕ) (bytes all : List ℕ)
    → all ≡ bytes
    → GainsLess before now bytes
    → GainsLess before now all
less-as before now bytes all is less = (less.0, less.1, less.2, is ∙ less.3, less.4)

pub part-as : (before now : List ℕ) (bytes all : List ℕ)
    → all ≡ bytes
    → GainsLess before now bytes
    → GainsPrefix before now all
part-as before now bytes all is less = (less.0, less.1, is ∙ less.3, less.4)
