-- What each end says of a run's files, and of what was written.
use Rattle.std.proofs.Common.{◌≡◌, ◌⊎◌, ℕ, List, [], ◌∷◌, ◌++◌, append-nil, Option, Some, None, refl, sym, ap, subst, ◌∙◌, inl, inr, true, false, string_bytes, Bool}
use Rattle.std.specs.Str.{is_utf8}
use Rattle.cdp_edge.specs.Outside.{NamedFile, Given, one_file}
use Rattle.cdp_edge.specs.Blame.{Blames, Faults, Read}
use Rattle.cdp_edge.proofs.HandedLemmas.{given_as}
use Rattle.js_tree.specs.declared.script.Script.{Script}
use Rattle.debug_host_script_files.specs.declared.fault.TextFault.{TextFault}
use Rattle.debug_host_script_files.specs.Input.{HoldsInput, HoldsNoText}
use Rattle.debug_host_script_files.specs.Scripts.{AreScripts}
use Rattle.debug_host_script_files.proofs.ScriptLemmas.{none_refused}
use Rattle.debug_host_commands.specs.Files.{HoldsLines, HoldsSources, IsNamed, IsReachedIn, IsRefusedIn}
use Rattle.debug_host_commands.specs.RunCauses.{RunsToEnd, RunsToThrow, RunsShort, RunsInPart, BecauseSources, BecauseRun}
use Rattle.debug_host_commands.specs.Status.{ForRun, GivenRun, refusal_said, said, status_of, unread_said, Says, uncaught_said}
use Rattle.debug_host_options.specs.Requests.{Request, Run, RunWords, Sources}
use Rattle.debug_host_commands.specs.declared.outcome.CommandEnd.{CommandEnd}
use Rattle.debug_host_commands.specs.declared.outcome.CommandEnd.TheVariants as ends
use Rattle.debug_host_commands.proofs.EndLemmas.{cut_only, done_only, refused_only}

-- ---- which files were handed in

first_bytes : List NamedFile → List ℕ
first_bytes [] = []
first_bytes (file ∷ files) = file.bytes

files_behind : List NamedFile → List NamedFile
files_behind [] = []
files_behind (file ∷ files) = files

-- what comes after one file is one list
pub one_rest : (name a b : List ℕ) (xs ys files : List NamedFile)
    → files ≡ one_file name a ++ xs
    → files ≡ one_file name b ++ ys
    → xs ≡ ys
unfolding files_behind
one_rest name a b xs ys files p q = ap files_behind (sym p ∙ q)

-- and so are its bytes
pub one_content : (name a b : List ℕ) (xs ys files : List NamedFile)
    → files ≡ one_file name a ++ xs
    → files ≡ one_file name b ++ ys
    → a ≡ b
unfolding first_bytes
one_content name a b xs ys files p q = ap first_bytes (sym p ∙ q)

-- what comes after the input is one list
lines_rest : (o : Option (List ℕ)) (a b xs ys files : List NamedFile) (input other : List (List ℕ))
    → HoldsLines a o input
    → HoldsLines b o other
    → files ≡ a ++ xs
    → files ≡ b ++ ys
    → xs ≡ ys
lines_rest None a b xs ys files input other h i p q =
    sym (ap (λ l. l ++ xs) h.0) ∙ sym p ∙ q ∙ ap (λ l. l ++ ys) i.0
lines_rest (Some name) a b xs ys files input other h i p q =
    one_rest name h.bytes i.bytes xs ys files (p ∙ ap (λ l. l ++ xs) h.there) (q ∙ ap (λ l. l ++ ys) i.there)

-- files that are taken aren't refused

text_stands : (a b : List ℕ) → a ≡ b → is_utf8 a ≡ true → is_utf8 b ≡ false → ⊥
text_stands a b same text isnt =
    let now : is_utf8 b ≡ true = ap is_utf8 (sym same) ∙ text in
    absurd cc

input_stands : (files first rest : List NamedFile) (o : Option (List ℕ)) (name : List ℕ) (lines : List (List ℕ))
    (r : TextFault)
    → o ≡ Some name
    → files ≡ first ++ rest
    → HoldsLines first o lines
    → HoldsNoText files name r
    → ⊥
input_stands files first rest o name lines r is parts h n =
    let i : HoldsInput first name lines = subst (λ (x : Option (List ℕ)). HoldsLines first x lines) is h in
    text_stands i.bytes n.bytes
    (one_content name i.bytes n.bytes rest [] files (parts ∙ ap (λ l. l ++ rest) i.there)
    (n.there ∙ sym (append-nil (one_file name n.bytes))))
    i.utf8 n.utf8

pub run_stands : (files : List NamedFile) (sources : Sources) (scripts : List Script) (input : List (List ℕ))
    (name : List ℕ) (r : TextFault)
    → HoldsSources files sources scripts input
    → IsRefusedIn files sources name r
    → ⊥
run_stands files sources scripts input name r h (inl i) =
    input_stands files h.first h.rest sources.input name input r i.named h.parts h.lines i.refused
run_stands files sources scripts input name r h (inr i) =
    let same : h.rest ≡ i.rest = lines_rest sources.input h.first i.first h.rest i.rest files input i.input h.lines i.lines
    h.parts i.parts in
    none_refused i.rest sources.scripts scripts name r
    (subst (λ (fs : List NamedFile). AreScripts fs sources.scripts scripts) same h.are) i.refused

-- ---- the status that the files decide

-- one of these, where the files hold scripts and input
abbrev IsTaken : ℕ → Sources → List NamedFile → Type 0
IsTaken n sources files =
    (scripts : List Script) (input : List (List ℕ))
    → HoldsSources files sources scripts input
    → (n ≡ 0) ⊎ (n ≡ 8) ⊎ (n ≡ 1) ⊎ (n ≡ 4) ⊎ (n ≡ 5)

taken_of : (end : CommandEnd) (sources : Sources) (Hands : List NamedFile → Type 0) (before after : Faults) (was now : ℕ)
    (old new : List ℕ)
    → BecauseRun end sources Hands before after was now old new
    → Given Hands (IsTaken (status_of end) sources)
taken_of ends.Done sources Hands before after was now old new h =
    given_as Hands _ (IsTaken 0 sources) (λ files it scripts input holds. inl refl) h.2
taken_of (ends.Threw text) sources Hands before after was now old new h =
    given_as Hands _ (IsTaken 8 sources) (λ files it scripts input holds. inr (inl refl)) h.2
taken_of ends.OutOfMemory sources Hands before after was now old new h =
    given_as Hands _ (IsTaken 1 sources) (λ files it scripts input holds. inr (inr (inl refl))) h.2
taken_of (ends.Refused name r) sources Hands before after was now old new h =
    given_as Hands (λ files. IsRefusedIn files sources name.now r) (IsTaken 3 sources)
    (λ files i. λ scripts input holds. absurd (run_stands files sources scripts input name.now r holds i)) h.2
taken_of (ends.CannotStore name) sources Hands before after was now old new h = absurd h
taken_of (ends.CannotRead name) sources Hands before after was now old new h =
    given_as Hands _ (IsTaken 4 sources) (λ files it scripts input holds. inr (inr (inr (inl refl)))) h.3
taken_of ends.CannotWrite sources Hands before after was now old new h =
    given_as Hands _ (IsTaken 5 sources) (λ files it scripts input holds. inr (inr (inr (inr refl)))) h.2
taken_of ends.Usage sources Hands before after was now old new h = absurd h
taken_of ends.NetworkFault sources Hands before after was now old new h = absurd h
taken_of ends.ThrewUnshown sources Hands before after was now old new h = absurd h
taken_of ends.TicketsSpent sources Hands before after was now old new h = absurd h
taken_of (ends.PeerClosed replies) sources Hands before after was now old new h = absurd h
taken_of (ends.LineRefused n) sources Hands before after was now old new h = absurd h

-- one of these, where a file is refused
abbrev IsLeft : ℕ → Sources → List NamedFile → Type 0
IsLeft n sources files =
    (name : List ℕ) (refusal : TextFault) → IsRefusedIn files sources name refusal → (n ≡ 3) ⊎ (n ≡ 1) ⊎ (n ≡ 4)

left_of : (end : CommandEnd) (sources : Sources) (Hands : List NamedFile → Type 0) (before after : Faults) (was now : ℕ)
    (old new : List ℕ)
    → BecauseRun end sources Hands before after was now old new
    → Given Hands (IsLeft (status_of end) sources)
left_of ends.Done sources Hands before after was now old new h =
    given_as Hands (λ files. RunsToEnd files sources old new) (IsLeft 0 sources)
    (λ files i. λ name r refused. absurd (run_stands files sources i.scripts i.input name r i.holds refused)) h.2
left_of (ends.Threw text) sources Hands before after was now old new h =
    given_as Hands (λ files. RunsToThrow files sources (string_bytes text) old new) (IsLeft 8 sources)
    (λ files i. λ name r refused. absurd (run_stands files sources i.scripts i.input name r i.holds refused)) h.2
left_of ends.OutOfMemory sources Hands before after was now old new h =
    given_as Hands _ (IsLeft 1 sources) (λ files it name r refused. inr (inl refl)) h.2
left_of (ends.Refused name r) sources Hands before after was now old new h =
    given_as Hands _ (IsLeft 3 sources) (λ files it name q refused. inl refl) h.2
left_of (ends.CannotStore name) sources Hands before after was now old new h = absurd h
left_of (ends.CannotRead name) sources Hands before after was now old new h =
    given_as Hands _ (IsLeft 4 sources) (λ files it name r refused. inr (inr refl)) h.3
left_of ends.CannotWrite sources Hands before after was now old new h =
    given_as Hands (λ files. RunsShort files sources old new) (IsLeft 5 sources)
    (λ files i. λ name r refused. absurd (run_stands files sources i.scripts i.input name r i.holds refused)) h.2
left_of ends.Usage sources Hands before after was now old new h = absurd h
left_of ends.NetworkFault sources Hands before after was now old new h = absurd h
left_of ends.ThrewUnshown sources Hands before after was now old new h = absurd h
left_of ends.TicketsSpent sources Hands before after was now old new h = absurd h
left_of (ends.PeerClosed replies) sources Hands before after was now old new h = absurd h
left_of (ends.LineRefused n) sources Hands before after was now old new h = absurd h

-- of the words that ask for the run
given_run : (o : Option Request) (request : RunWords) (Hands : List NamedFile → Type 0) (P : Sources → List NamedFile → Type 0)
    → o ≡ Some (Run request)
    → Given Hands (P request.sources)
    → GivenRun o Hands P
given_run o request Hands P is h = rw is h

pub taken_given : (o : Option Request) (request : RunWords) (Hands : List NamedFile → Type 0) (end : CommandEnd)
    (before after : Faults) (was now : ℕ) (old new : List ℕ) (status : ℕ)
    → o ≡ Some (Run request)
    → status ≡ status_of end
    → BecauseRun end request.sources Hands before after was now old new
    → GivenRun o Hands (IsTaken status)
taken_given o request Hands end before after was now old new status is e h =
    given_run o request Hands (IsTaken status) is
    (subst (λ (n : ℕ). Given Hands (IsTaken n request.sources)) (sym e)
    (taken_of end request.sources Hands before after was now old new h))

pub left_given : (o : Option Request) (request : RunWords) (Hands : List NamedFile → Type 0) (end : CommandEnd)
    (before after : Faults) (was now : ℕ) (old new : List ℕ) (status : ℕ)
    → o ≡ Some (Run request)
    → status ≡ status_of end
    → BecauseRun end request.sources Hands before after was now old new
    → GivenRun o Hands (IsLeft status)
left_given o request Hands end before after was now old new status is e h =
    given_run o request Hands (IsLeft status) is
    (subst (λ (n : ℕ). Given Hands (IsLeft n request.sources)) (sym e)
    (left_of end request.sources Hands before after was now old new h))

-- how a throw that ended its program is told
abbrev IsToldThrow : List ℕ → List ℕ → Bool → List ℕ → List ℕ → Sources
    → List NamedFile → Type 0
IsToldThrow old new explains said_before said_after sources files =
    (text : List ℕ) × RunsToThrow files sources text old new × Says explains said_before said_after (uncaught_said text)

threw-told : (end : CommandEnd) (sources : Sources) (Hands : List NamedFile → Type 0) (before after : Faults) (was now : ℕ)
    (old new : List ℕ) (explains : Bool) (said_before said_after : List ℕ) → status_of end ≡ 8
    → BecauseRun end sources Hands before after was now old new → Says explains said_before said_after (said end)
    → Given Hands (IsToldThrow old new explains said_before said_after sources)
threw-told (ends.Threw text) sources Hands before after was now old new explains said_before said_after is h says =
    given_as Hands (λ files. RunsToThrow files sources (string_bytes text) old new)
    (IsToldThrow old new explains said_before said_after sources) (λ files thrown. (string_bytes text, thrown, says)) h.2
threw-told ends.Done sources Hands before after was now old new explains said_before said_after is h says = absurd cc
threw-told ends.OutOfMemory sources Hands before after was now old new explains said_before said_after is h says = absurd cc
threw-told (ends.Refused name r) sources Hands before after was now old new explains said_before said_after is h says = absurd cc
threw-told (ends.CannotStore name) sources Hands before after was now old new explains said_before said_after is h says = absurd h
threw-told (ends.CannotRead name) sources Hands before after was now old new explains said_before said_after is h says = absurd cc
threw-told ends.CannotWrite sources Hands before after was now old new explains said_before said_after is h says = absurd cc
threw-told ends.ThrewUnshown sources Hands before after was now old new explains said_before said_after is h says = absurd h
threw-told ends.Usage sources Hands before after was now old new explains said_before said_after is h says = absurd h
threw-told (ends.LineRefused n) sources Hands before after was now old new explains said_before said_after is h says = absurd h
threw-told ends.NetworkFault sources Hands before after was now old new explains said_before said_after is h says = absurd h
threw-told ends.TicketsSpent sources Hands before after was now old new explains said_before said_after is h says = absurd h
threw-told (ends.PeerClosed replies) sources Hands before after was now old new explains said_before said_after is h says = absurd h

pub threw_given : (o : Option Request) (request : RunWords) (Hands : List NamedFile → Type 0) (end : CommandEnd)
    (before after : Faults) (was now : ℕ) (old new : List ℕ) (explains : Bool)
    (said_before said_after : List ℕ) (status : ℕ)
    → o ≡ Some (Run request) → status ≡ status_of end → BecauseRun end request.sources Hands before after was now old new
    → Says explains said_before said_after (said end) → status ≡ 8
    → GivenRun o Hands (IsToldThrow old new explains said_before said_after)
threw_given o request Hands end before after was now old new explains said_before said_after status is ends_so h says eight =
    given_run o request Hands (IsToldThrow old new explains said_before said_after) is
    (threw-told end request.sources Hands before after was now old new explains said_before said_after (sym ends_so ∙ eight) h says)

-- how a file that can't be read is told
abbrev IsToldRead : Faults → Faults → (List NamedFile → Type 0) → Bool → List ℕ → List ℕ → Sources → Type 0
IsToldRead before after Hands explains said_before said_after sources =
    (name : List ℕ)
    × IsNamed sources name
    × Blames (Read name) before after
    × Given Hands (λ files. IsReachedIn files sources name)
    × Says explains said_before said_after (unread_said name)

read-told : (end : CommandEnd) (sources : Sources) (Hands : List NamedFile → Type 0) (before after : Faults) (was now : ℕ)
    (old new : List ℕ) (explains : Bool) (said_before said_after : List ℕ) → status_of end ≡ 4
    → BecauseRun end sources Hands before after was now old new → Says explains said_before said_after (said end)
    → IsToldRead before after Hands explains said_before said_after sources
read-told (ends.CannotStore name) sources Hands before after was now old new explains said_before said_after is h says = absurd h
read-told (ends.CannotRead name) sources Hands before after was now old new explains said_before said_after is h says =
    (name.now, h.2, h.0, h.3, says)
read-told ends.Done sources Hands before after was now old new explains said_before said_after is h says = absurd cc
read-told (ends.Threw text) sources Hands before after was now old new explains said_before said_after is h says = absurd cc
read-told ends.OutOfMemory sources Hands before after was now old new explains said_before said_after is h says = absurd cc
read-told (ends.Refused name r) sources Hands before after was now old new explains said_before said_after is h says = absurd cc
read-told ends.CannotWrite sources Hands before after was now old new explains said_before said_after is h says = absurd cc
read-told ends.ThrewUnshown sources Hands before after was now old new explains said_before said_after is h says = absurd h
read-told ends.Usage sources Hands before after was now old new explains said_before said_after is h says = absurd h
read-told (ends.LineRefused n) sources Hands before after was now old new explains said_before said_after is h says = absurd h
read-told ends.NetworkFault sources Hands before after was now old new explains said_before said_after is h says = absurd h
read-told ends.TicketsSpent sources Hands before after was now old new explains said_before said_after is h says = absurd h
read-told (ends.PeerClosed replies) sources Hands before after was now old new explains said_before said_after is h says = absurd h

pub read_given : (o : Option Request) (request : RunWords) (Hands : List NamedFile → Type 0) (end : CommandEnd)
    (before after : Faults) (was now : ℕ) (old new : List ℕ) (explains : Bool) (said_before said_after : List ℕ) (status : ℕ)
    → o ≡ Some (Run request) → status ≡ status_of end → BecauseRun end request.sources Hands before after was now old new
    → Says explains said_before said_after (said end) → status ≡ 4
    → ForRun o (IsToldRead before after Hands explains said_before said_after)
read_given o request Hands end before after was now old new explains said_before said_after status is ends_so h says four =
    let it : IsToldRead before after Hands explains said_before said_after request.sources =
    read-told end request.sources Hands before after was now old new explains said_before said_after (sym ends_so ∙ four) h says in rw is it

-- ---- what the status says

-- the run has ended
pub done_given : (o : Option Request) (request : RunWords) (Hands : List NamedFile → Type 0) (end : CommandEnd)
    (before after : Faults) (was now : ℕ) (old new : List ℕ) (status : ℕ)
    → o ≡ Some (Run request)
    → status ≡ status_of end
    → BecauseRun end request.sources Hands before after was now old new
    → status ≡ 0
    → GivenRun o Hands (λ sources files. RunsToEnd files sources old new)
done_given o request Hands end before after was now old new status is ends_so h found =
    let it : BecauseRun ends.Done request.sources Hands before after was now old new =
    subst (λ (e : CommandEnd). BecauseRun e request.sources Hands before after was now old new)
    (done_only end (sym ends_so ∙ found)) h in
    given_run o request Hands (λ sources files. RunsToEnd files sources old new) is it.2

-- not all of its output could be written
pub short_given : (o : Option Request) (request : RunWords) (Hands : List NamedFile → Type 0) (end : CommandEnd)
    (before after : Faults) (was now : ℕ) (old new : List ℕ) (status : ℕ)
    → o ≡ Some (Run request)
    → status ≡ status_of end
    → BecauseRun end request.sources Hands before after was now old new
    → status ≡ 5
    → GivenRun o Hands (λ sources files. RunsShort files sources old new)
short_given o request Hands end before after was now old new status is ends_so h found =
    let it : BecauseRun ends.CannotWrite request.sources Hands before after was now old new =
    subst (λ (e : CommandEnd). BecauseRun e request.sources Hands before after was now old new)
    (cut_only end (sym ends_so ∙ found)) h in
    given_run o request Hands (λ sources files. RunsShort files sources old new) is it.2

-- how a file that is refused is told
abbrev IsToldRefusal : Bool → List ℕ → List ℕ → Sources → List NamedFile → Type 0
IsToldRefusal explains said_before said_after sources files =
    (name : List ℕ)
    × (refusal : TextFault)
    × IsRefusedIn files sources name refusal
    × Says explains said_before said_after (refusal_said name refusal)

pub refusal_given : (o : Option Request) (request : RunWords) (Hands : List NamedFile → Type 0) (end : CommandEnd)
    (before after : Faults) (was now : ℕ) (old new : List ℕ) (explains : Bool) (said_before said_after : List ℕ)
    (status : ℕ)
    → o ≡ Some (Run request)
    → status ≡ status_of end
    → BecauseRun end request.sources Hands before after was now old new
    → Says explains said_before said_after (said end)
    → status ≡ 3
    → GivenRun o Hands (IsToldRefusal explains said_before said_after)
refusal_given o request Hands end before after was now old new explains said_before said_after status is ends_so h says
    three =
    let only = refused_only end (sym ends_so ∙ three) in
    let it : BecauseRun (ends.Refused only.0 only.1) request.sources Hands before after was now old new =
    subst (λ (e : CommandEnd). BecauseRun e request.sources Hands before after was now old new) only.2 h in
    let told : Says explains said_before said_after (refusal_said only.0.now only.1) =
    subst (λ (e : CommandEnd). Says explains said_before said_after (said e)) only.2 says in
    given_run o request Hands (IsToldRefusal explains said_before said_after) is
    (given_as Hands (λ files. IsRefusedIn files request.sources only.0.now only.1)
    (IsToldRefusal explains said_before said_after request.sources) (λ files refused. (only.0.now, only.1, refused, told)) it.2)

-- ---- before a step is made

-- of sources that weren't all taken some files may have been handed in
pub some_handed : (end : CommandEnd) (sources : Sources) (Hands : List NamedFile → Type 0) (before after : Faults)
    → BecauseSources end sources Hands before after
    → Given Hands (λ files. Unit {0})
some_handed ends.Done sources Hands before after h = absurd h
some_handed (ends.Threw text) sources Hands before after h = absurd h
some_handed ends.OutOfMemory sources Hands before after h = h.1
some_handed ends.Usage sources Hands before after h = absurd h
some_handed ends.NetworkFault sources Hands before after h = absurd h
some_handed ends.ThrewUnshown sources Hands before after h = absurd h
some_handed ends.TicketsSpent sources Hands before after h = absurd h
some_handed (ends.PeerClosed replies) sources Hands before after h = absurd h
some_handed (ends.Refused name r) sources Hands before after h = given_as Hands _ (λ files. Unit {0}) (λ files it. tt) h.1
some_handed (ends.CannotStore name) sources Hands before after h = absurd h
some_handed (ends.CannotRead name) sources Hands before after h = given_as Hands _ (λ files. Unit {0}) (λ files it. tt) h.2
some_handed ends.CannotWrite sources Hands before after h = absurd h
some_handed (ends.LineRefused n) sources Hands before after h = absurd h

pub unread_part : (end : CommandEnd) (sources : Sources) (Hands : List NamedFile → Type 0) (before after : Faults)
    (old : List ℕ)
    → BecauseSources end sources Hands before after
    → Given Hands (λ files. (old ≡ old) ⊎ RunsInPart files sources old old)
unread_part end sources Hands before after old h =
    given_as Hands (λ files. Unit {0}) (λ files. (old ≡ old) ⊎ RunsInPart files sources old old) (λ files it. inl refl)
    (some_handed end sources Hands before after h)

-- why a run ended so whose files weren't all taken
pub unread : (end : CommandEnd) (sources : Sources) (Hands : List NamedFile → Type 0) (before after : Faults) (was : ℕ)
    (old : List ℕ)
    → BecauseSources end sources Hands before after
    → BecauseRun end sources Hands before after was was old old
unread ends.Done sources Hands before after was old h = absurd h
unread (ends.Threw text) sources Hands before after was old h = absurd h
unread ends.OutOfMemory sources Hands before after was old h =
    (h.0, refl, given_as Hands _ (λ files. (old ≡ old) ⊎ RunsInPart files sources old old) (λ files it. inl refl) h.1)
unread ends.Usage sources Hands before after was old h = absurd h
unread ends.NetworkFault sources Hands before after was old h = absurd h
unread ends.ThrewUnshown sources Hands before after was old h = absurd h
unread ends.TicketsSpent sources Hands before after was old h = absurd h
unread (ends.PeerClosed replies) sources Hands before after was old h = absurd h
unread (ends.Refused name r) sources Hands before after was old h = (h.0, refl, h.1)
unread (ends.CannotStore name) sources Hands before after was old h = absurd h
unread (ends.CannotRead name) sources Hands before after was old h = (h.0, refl, h.1, h.2)
unread ends.CannotWrite sources Hands before after was old h = absurd h
unread (ends.LineRefused n) sources Hands before after was old h = absurd h
