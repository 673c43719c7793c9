-- Which statuses of a server its files decide.
use Rattle.std.proofs.Common.{◌≡◌, ◌⊎◌, ℕ, List, Option, Some, refl, sym, subst, inl, inr}
use Rattle.cdp_edge.specs.Blame.{Faults}
use Rattle.cdp_edge.specs.Outside.{NamedFile, Given}
use Rattle.cdp_edge.proofs.HandedLemmas.{given_as}
use Rattle.js_tree.specs.declared.script.Script.{Script}
use Rattle.ws_service.specs.Programs.{Output}
use Rattle.debug_host_script_files.specs.declared.fault.TextFault.{TextFault}
use Rattle.debug_host_options.specs.Requests.{Request, Serve, ServeWords}
use Rattle.debug_host_commands.specs.Files.{HoldsProgram, HoldsSources, IsRefusedIn}
use Rattle.debug_host_commands.specs.RunCauses.{RunsToThrow}
use Rattle.debug_host_commands.specs.ServeCauses.{BecauseServe, Harbored, ServesToEnd, ServesWhole}
use Rattle.debug_host_commands.specs.Status.{GivenServe, status_of}
use Rattle.debug_host_commands.specs.declared.outcome.CommandEnd.{CommandEnd}
use Rattle.debug_host_commands.specs.declared.outcome.CommandEnd.TheVariants as ends
use Rattle.debug_host_commands.proofs.RunLemmas.{run_stands}
use Rattle.debug_host_commands.proofs.ServeLemmas.{given_serve}

-- one of these, where the files hold scripts and input
abbrev IsTaken : ℕ → ServeWords → List NamedFile → Type 0
IsTaken n request files =
    (scripts : List Script) (input : List (List ℕ))
    → HoldsSources files request.sources scripts input
    → (n ≡ 0) ⊎ (n ≡ 8) ⊎ (n ≡ 1) ⊎ (n ≡ 4) ⊎ (n ≡ 5) ⊎ (n ≡ 7) ⊎ (n ≡ 10)

-- one of these, where a file is refused
abbrev IsLeft : ℕ → ServeWords → List NamedFile → Type 0
IsLeft n request files =
    (name : List ℕ) (refusal : TextFault)
    → IsRefusedIn files request.sources name refusal
    → (n ≡ 3) ⊎ (n ≡ 1) ⊎ (n ≡ 4)

-- where a program has ended, the files hold one
whole-program : (files : List NamedFile) (request : ServeWords) (old new : List ℕ)
    → ServesWhole files request old new
    → HoldsProgram files request.sources
whole-program files request old new (inl ended) =
    record { scripts = ended.scripts; input = ended.input; holds = ended.holds }
whole-program files request old new (inr (text, threw)) =
    record { scripts = threw.scripts; input = threw.input; holds = threw.holds }

module _ (request : ServeWords) (Hands : List NamedFile → Type 0) (faults now_faults : Faults) (old new : Output)
    (was now : Harbored) where
  abbrev Ended : CommandEnd → Type 0
  Ended end = BecauseServe end request Hands faults now_faults old new was now

  -- no file is refused of those that hold a program
  stands : (n : ℕ) → Given Hands (λ files. HoldsProgram files request.sources) → Given Hands (IsLeft n request)
  stands n held =
      given_as Hands (λ files. HoldsProgram files request.sources) (IsLeft n request)
      (λ files it. λ name r refused.
      absurd (run_stands files request.sources it.scripts it.input name r it.holds refused)) held

  stands-whole : (n : ℕ) → Given Hands (λ files. ServesWhole files request old.content new.content)
      → Given Hands (IsLeft n request)
  stands-whole n whole =
      stands n
      (given_as Hands (λ files. ServesWhole files request old.content new.content)
      (λ files. HoldsProgram files request.sources)
      (λ files it. whole-program files request old.content new.content it) whole)

  stands-thrown : (text : List ℕ)
      → Given Hands (λ files. RunsToThrow files request.sources text old.content new.content)
      → Given Hands (IsLeft 8 request)
  stands-thrown text thrown =
      stands-whole 8
      (given_as Hands (λ files. RunsToThrow files request.sources text old.content new.content)
      (λ files. ServesWhole files request old.content new.content) (λ files it. inr (text, it)) thrown)

  -- whatever was handed in
  module _ (Any : List NamedFile → Type 0) (any : Given Hands Any) where
    taken : (n : ℕ) → (n ≡ 0) ⊎ (n ≡ 8) ⊎ (n ≡ 1) ⊎ (n ≡ 4) ⊎ (n ≡ 5) ⊎ (n ≡ 7) ⊎ (n ≡ 10)
        → Given Hands (IsTaken n request)
    taken n one = given_as Hands Any (IsTaken n request) (λ files it scripts input holds. one) any

    left : (n : ℕ) → (n ≡ 3) ⊎ (n ≡ 1) ⊎ (n ≡ 4) → Given Hands (IsLeft n request)
    left n one = given_as Hands Any (IsLeft n request) (λ files it name r refused. one) any

    taken-of : (end : CommandEnd) → Ended end → Given Hands (IsTaken (status_of end) request)
    taken-of ends.Done h = taken 0 (inl refl)
    taken-of (ends.Threw text) h = taken 8 (inr (inl refl))
    taken-of ends.ThrewUnshown h = taken 8 (inr (inl refl))
    taken-of ends.OutOfMemory h = taken 1 (inr (inr (inl refl)))
    taken-of (ends.CannotRead name) h = taken 4 (inr (inr (inr (inl refl))))
    taken-of (ends.CannotStore name) h = taken 4 (inr (inr (inr (inl refl))))
    taken-of ends.CannotWrite h = taken 5 (inr (inr (inr (inr (inl refl)))))
    taken-of ends.NetworkFault h = taken 7 (inr (inr (inr (inr (inr (inl refl))))))
    taken-of ends.TicketsSpent h = taken 10 (inr (inr (inr (inr (inr (inr refl))))))
    taken-of (ends.Refused name r) h =
        given_as Hands (λ files. IsRefusedIn files request.sources name.now r) (IsTaken 3 request)
        (λ files i. λ scripts input holds.
        absurd (run_stands files request.sources scripts input name.now r holds i)) h.2
    taken-of ends.Usage h = absurd h
    taken-of (ends.LineRefused n) h = absurd h
    taken-of (ends.PeerClosed replies) h = absurd h

    left-of : (end : CommandEnd) → Ended end → Given Hands (IsLeft (status_of end) request)
    left-of ends.Done h =
        stands-whole 0
        (given_as Hands (λ files. ServesToEnd files request old.content new.content)
        (λ files. ServesWhole files request old.content new.content) (λ files it. inl it) h.3)
    left-of (ends.Threw text) h = stands-thrown _ h.3
    left-of ends.ThrewUnshown h = stands-thrown h.3.0 h.3.1
    left-of ends.OutOfMemory h = left 1 (inr (inl refl))
    left-of (ends.Refused name r) h = left 3 (inl refl)
    left-of (ends.CannotRead name) h = left 4 (inr (inr refl))
    left-of (ends.CannotStore name) h = stands-whole 4 h.4
    left-of ends.CannotWrite h = stands 5 h.3
    left-of ends.NetworkFault h = stands 7 h.3
    left-of ends.TicketsSpent h = stands 10 h.3
    left-of ends.Usage h = absurd h
    left-of (ends.LineRefused n) h = absurd h
    left-of (ends.PeerClosed replies) h = absurd h

    -- of the words that ask for a server
    module _ (o : Option Request) (end : CommandEnd) (status : ℕ) (is : o ≡ Some (Serve request))
        (ends_so : status ≡ status_of end) (h : Ended end) where
      pub taken_given : GivenServe o Hands (IsTaken status)
      taken_given =
          given_serve o request Hands (IsTaken status) is
          (subst (λ (n : ℕ). Given Hands (IsTaken n request)) (sym ends_so) (taken-of end h))

      pub left_given : GivenServe o Hands (IsLeft status)
      left_given =
          given_serve o request Hands (IsLeft status) is
          (subst (λ (n : ℕ). Given Hands (IsLeft n request)) (sym ends_so) (left-of end h))
