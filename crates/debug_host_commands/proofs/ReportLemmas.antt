-- What is said of an end.
use Rattle.std.proofs.Common.{◌≡◌, ◌≢◌, ℕ, List, [], ◌++◌, Bool, true, Some, None, map, string_bytes, refl, ap, sym, subst, ◌∙◌, append_assoc}
use Rattle.std.proofs.lemmas.List.{append-nil}
use Rattle.std.specs.declared.string.String.{String}
use Rattle.std.specs.declared.alloc.Global.{Global}
use Rattle.cdp_edge.specs.Outside.{GainsPrefix, gains}
use Rattle.cdp_edge.proofs.Gains.{gains-next}
use Rattle.debug_host_options.specs.Explains.{explains, names_explain}
use Rattle.debug_host_options.specs.Requests.{asked, Replay, ReplayWords, Run, RunWords, Send, SendWords, Serve, ServeWords}
use Rattle.debug_host_commands.specs.Status.{Says}

-- a line alone is said, whether or not explanations are asked for
pub says-line : (old new : List ℕ) (line : List ℕ) → GainsPrefix old new line
    → (explains : Bool) → Says explains old new line
says-line old new line part explains = (
  [],
  λ no. refl,
  λ no. refl,
  subst (λ (all : List ℕ). GainsPrefix old new all) (sym (append-nil line)) part,
)

-- a line, and what explains it
pub says-more : (old mid new : List ℕ) (line lines : List ℕ) → mid ≡ gains old line → line ≢ []
    → GainsPrefix mid new lines → Says true old new line
says-more old mid new line lines whole some (part, rest, is, more) = (
  lines,
  λ no. absurd cc,
  λ no. absurd (some no),
  (line ++ part, rest, ap (λ l. line ++ l) is ∙ sym (append_assoc line part rest), gains-next old mid new line part (line ++ part) whole more refl),
)

-- for what is said of an end
pub ruleset said = (says-line, says-more)

-- what is said where words ask for a command is said as that has it
pub run-says : (words : List (String Global)) (request : RunWords) (old new : List ℕ) (line : List ℕ)
    → asked words ≡ Some (Run request) → Says request.explain old new line → Says (explains words) old new line
run-says words request old new line is says = rw is says

pub replay-says : (words : List (String Global)) (request : ReplayWords) (old new : List ℕ) (line : List ℕ)
    → asked words ≡ Some (Replay request) → Says request.explain old new line → Says (explains words) old new line
replay-says words request old new line is says = rw is says

pub serve-says : (words : List (String Global)) (request : ServeWords) (old new : List ℕ) (line : List ℕ)
    → asked words ≡ Some (Serve request) → Says request.explain old new line → Says (explains words) old new line
serve-says words request old new line is says = rw is says

pub send-says : (words : List (String Global)) (request : SendWords) (old new : List ℕ) (line : List ℕ)
    → asked words ≡ Some (Send request) → Says request.explain old new line → Says (explains words) old new line
send-says words request old new line is says = rw is says

-- what is said where words ask for nothing is said as the words themselves have it
pub none-says : (words : List (String Global)) (names : Bool) (old new : List ℕ) (line : List ℕ)
    → asked words ≡ None → names ≡ names_explain (map string_bytes words) → Says names old new line
    → Says (explains words) old new line
none-says words names old new line is names_is says = rw is (subst (λ (b : Bool). Says b old new line) names_is says)
