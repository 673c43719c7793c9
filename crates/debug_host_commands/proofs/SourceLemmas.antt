-- The files of a program, as they were handed in: its input, and then its scripts.
use Rattle.std.proofs.Common.{◌≡◌, ℕ, List, [], Option, Some, None, refl, subst, ◌∙◌, inl, inr}
use Rattle.std.specs.Borrow.{Bor}
use Rattle.cdp_edge.specs.Blame.{Blames, Faults, Read}
use Rattle.cdp_edge.specs.Outside.{NamedFile, Given, HandsIn}
use Rattle.cdp_edge.proofs.HandedLemmas.{given_as, given_more, given_nothing}
use Rattle.js_tree.specs.declared.script.Script.{Script}
use Rattle.debug_host_script_files.specs.declared.fault.FileFault.{FileFault}
use Rattle.debug_host_script_files.specs.declared.fault.FileFault.TheVariants as faults
use Rattle.debug_host_script_files.specs.Input.{FailsInput, HoldsNoText}
use Rattle.debug_host_script_files.specs.Scripts.{AreScripts, Fails, IsReachedAt, IsRefusedAt}
use Rattle.debug_host_options.specs.Requests.{Sources}
use Rattle.debug_host_commands.specs.Files.{HoldsLines, HoldsSources, IsReachedIn, IsRefusedIn}
use Rattle.debug_host_commands.specs.RunCauses.{BecauseInput, BecauseSources, outcome_of}
use Rattle.debug_host_commands.specs.declared.outcome.CommandEnd.{CommandEnd}
use Rattle.debug_host_commands.specs.declared.outcome.CommandEnd.TheVariants as ends

-- ---- the input

-- without a name there is no line
pub no_lines : (told : Option (List NamedFile)) (old new : List NamedFile) (lines : List (List ℕ))
    → new ≡ old
    → lines ≡ []
    → Given (HandsIn told old new) (λ given. HoldsLines given None lines)
no_lines told old new lines same none = given_nothing told old new (λ given. HoldsLines given None lines) same (refl, none)

-- why the input isn't taken, as the end of a command
pub input_fails : (fault : FileFault) (name : Bor (List ℕ)) (Hands : List NamedFile → Type 0) (before after : Faults)
    → FailsInput fault Hands name.now before after
    → BecauseInput (outcome_of name fault) (Some name.now) Hands before after
input_fails (faults.Refused r) name Hands before after h = (h.0, refl, h.1)
input_fails faults.CannotRead name Hands before after h = (h.0, refl, h.1)
input_fails faults.Memory name Hands before after h = h

-- ---- the program

-- why the input isn't taken is why the program isn't
pub input_unread : (end : CommandEnd) (sources : Sources) (Hands : List NamedFile → Type 0) (before after : Faults)
    → BecauseInput end sources.input Hands before after
    → BecauseSources end sources Hands before after
input_unread ends.Done sources Hands before after h = absurd h
input_unread (ends.Threw text) sources Hands before after h = absurd h
input_unread ends.OutOfMemory sources Hands before after h = h
input_unread ends.Usage sources Hands before after h = absurd h
input_unread ends.NetworkFault sources Hands before after h = absurd h
input_unread ends.ThrewUnshown sources Hands before after h = absurd h
input_unread ends.TicketsSpent sources Hands before after h = absurd h
input_unread (ends.PeerClosed replies) sources Hands before after h = absurd h
input_unread (ends.Refused name r) sources Hands before after h = (
  h.0,
  given_as Hands (λ files. HoldsNoText files name.now r) (λ files. IsRefusedIn files sources name.now r)
      (λ files n. inl (record { named = h.1; refused = n })) h.2,
)
input_unread (ends.CannotStore name) sources Hands before after h = absurd h
input_unread (ends.CannotRead name) sources Hands before after h = (h.0, inl h.1, ([], h.2, inl (h.1, refl)))
input_unread ends.CannotWrite sources Hands before after h = absurd h
input_unread (ends.LineRefused n) sources Hands before after h = absurd h

-- the lines of input, and then the scripts
pub all_held : (told later : Option (List NamedFile)) (first then last : List NamedFile) (sources : Sources)
    (scripts : List Script) (input : List (List ℕ))
    → later ≡ told
    → Given (HandsIn told first then) (λ files. HoldsLines files sources.input input)
    → Given (HandsIn later then last) (λ files. AreScripts files sources.scripts scripts)
    → Given (HandsIn told first last) (λ files. HoldsSources files sources scripts input)
all_held told later first then last sources scripts input same lines are =
    given_more told later first then last (λ files. HoldsLines files sources.input input)
    (λ files. AreScripts files sources.scripts scripts) (λ files. HoldsSources files sources scripts input) same
    (λ xs ys l a. record { first = xs; rest = ys; parts = refl; lines = l; are = a }) lines are

-- the input is taken, and a script isn't
script_unread : (fault : FileFault) (name : Bor (List ℕ)) (told later : Option (List NamedFile))
    (first then last : List NamedFile) (sources : Sources) (input : List (List ℕ)) (before mid after : Faults)
    → later ≡ told
    → mid ≡ before
    → Given (HandsIn told first then) (λ files. HoldsLines files sources.input input)
    → Fails fault (HandsIn later then last) sources.scripts name.now mid after
    → BecauseSources (outcome_of name fault) sources (HandsIn told first last) before after
script_unread (faults.Refused r) name told later first then last sources input before mid after same quiet lines h = (
  h.0 ∙ quiet,
  given_more told later first then last (λ files. HoldsLines files sources.input input)
      (λ files. IsRefusedAt files sources.scripts name.now r) (λ files. IsRefusedIn files sources name.now r) same
      (λ xs ys l i. inr (record { first = xs; rest = ys; parts = refl; input = input; lines = l; refused = i })) lines h.1,
)
script_unread faults.CannotRead name told later first then last sources input before mid after same quiet lines h = (
  subst (λ (f : Faults). Blames (Read name.now) f after) quiet h.0,
  inr h.1,
  given_more told later first then last (λ files. HoldsLines files sources.input input)
      (λ files. IsReachedAt files sources.scripts name.now) (λ files. IsReachedIn files sources name.now) same
      (λ xs ys l i. inr (record { first = xs; rest = ys; parts = refl; input = input; lines = l; reached = i })) lines h.2,
)
script_unread faults.Memory name told later first then last sources input before mid after same quiet lines h = (
  h.0 ∙ quiet,
  given_more told later first then last (λ files. HoldsLines files sources.input input) (λ files. Unit {0})
      (λ files. Unit {0}) same (λ xs ys l i. tt) lines h.1,
)

-- the same of names that were lent
pub lent_unread : (fault : FileFault) (name : Bor (List ℕ)) (told later : Option (List NamedFile))
    (first then last : List NamedFile) (sources : Sources) (lent : List (List ℕ)) (input : List (List ℕ))
    (before mid after : Faults)
    → lent ≡ sources.scripts
    → later ≡ told
    → mid ≡ before
    → Given (HandsIn told first then) (λ files. HoldsLines files sources.input input)
    → Fails fault (HandsIn later then last) lent name.now mid after
    → BecauseSources (outcome_of name fault) sources (HandsIn told first last) before after
lent_unread fault name told later first then last sources lent input before mid after is same quiet lines h =
    script_unread fault name told later first then last sources input before mid after same quiet lines
    (subst (λ (ns : List (List ℕ)). Fails fault (HandsIn later then last) ns name.now mid after) is h)

-- what reads of a program's files come to
pub ruleset input = (no_lines, input_fails)

pub ruleset program = (input_unread, all_held)
