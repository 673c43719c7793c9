-- What a session shows of itself: its number, and the domains that it has enabled.
use Rattle.std.proofs.Common.{◌≡◌, ℕ, List, Bool, true, false, if◌then◌else◌, Option, Some, None, refl, ap, ◌∙◌}
use Rattle.js_tree.specs.declared.script.Script.{Script}
use Rattle.js_heap.specs.declared.value.Value.{Value}
use Rattle.cdp_session.specs.Consoles as consoles
use Rattle.cdp_session.specs.Endings as ends
use Rattle.cdp_session.specs.Endings.{ending_told}
use Rattle.cdp_session.specs.Sessions.{Session}
use Rattle.cdp_session.specs.Situations.{Situation}
use Rattle.cdp_session.specs.declared.ending.Ending.{Ending}
use Rattle.cdp_session.specs.declared.ending.Ending.TheVariants as endings
use Rattle.cdp_host.specs.Protocols.{protocol, situation}
use Rattle.cdp_host.specs.Standings.{standing_of}
use Rattle.cdp_host.specs.Steps.{Step, end_told, print_told, seen_behind, told}
use Rattle.cdp_host_laws.proofs.RowLemmas.{answer-says}
use Rattle.cdp_host_laws.proofs.SeenLemmas.{KeepsPassed, KeepsShown}

-- its number, and whether it has the debugger and the domain Runtime enabled
pub record Shown : Type 0 where
  pub number : ℕ
  pub enabled : Bool
  pub runtime : Bool

abbrev pub shown_of : Session → Shown
shown_of x = record { number = x.number; enabled = x.rules.enabled; runtime = x.runtime }

abbrev pub number_of : Session → ℕ
number_of x = x.number

-- ---- what steps keep

either_keeps : (b : Bool) (x y : Session) → shown_of y ≡ shown_of x → shown_of (if b then y else x) ≡ shown_of x
either_keeps true x y is = is
either_keeps false x y is = refl

pub print-shown : (s : Situation) (values : Option (List Value)) (moment : ℕ) (x : Session)
    → shown_of (print_told s values moment x) ≡ shown_of x
print-shown s None moment x = refl
print-shown s (Some values) moment x = either_keeps x.runtime x (consoles.print_told s values moment x) refl

ending_keeps : (s : Situation) (ending : Ending) (moment : ℕ) (x : Session)
    → shown_of (ending_told s ending moment x) ≡ shown_of x
ending_keeps s endings.Finished moment x = refl
ending_keeps s (endings.Threw v place) moment x = refl

end_keeps : (s : Situation) (ending : Option Ending) (moment : ℕ) (x : Session)
    → shown_of (end_told s ending moment x) ≡ shown_of x
end_keeps s None moment x = refl
end_keeps s (Some ending) moment x =
    either_keeps x.runtime x (ends.end_told s ending moment x) (ending_keeps s ending moment x)

step_keeps : (s : Situation) (moment : ℕ) (t : Step) (x : Session) → shown_of (told s moment t x) ≡ shown_of x
step_keeps s moment t x =
    end_keeps s t.ending moment (print_told s t.values moment x) ∙ print-shown s t.values moment x

-- steps, stops and resumes change nothing of it
pub passed-shown : (scripts : List Script) → KeepsPassed (protocol scripts) shown_of
passed-shown scripts = record {
  resumed = λ x. refl;
  told = λ moment t x. step_keeps (seen_behind scripts t) moment t x;
  stopped = λ number t x. refl;
}

-- the same of a part of that
pub passed-part : {B : Type 0} → (scripts : List Script) (f : Shown → B)
    → KeepsPassed (protocol scripts) (λ x. f (shown_of x))
passed-part scripts f =
    let all = passed-shown scripts in
    record {
      resumed = λ x. ap f (all.resumed x);
      told = λ moment t x. ap f (all.told moment t x);
      stopped = λ number t x. ap f (all.stopped number t x);
    }

-- nothing at all changes the number
pub number-kept : (scripts : List Script) → KeepsShown (protocol scripts) number_of
number-kept scripts = record {
  passed = passed-part scripts (λ shown. shown.number);
  reply = λ q r text x. (answer-says (situation scripts q (standing_of scripts r)) x text).number;
  emptied = λ x. refl;
}
