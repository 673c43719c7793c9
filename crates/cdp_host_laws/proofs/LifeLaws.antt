-- A session of a host becomes what it is by the events of a session.
use Rattle.std.proofs.Common.{◌≡◌, ℕ, List, [], ◌∷◌, ◌++◌, Option, Some, None, refl, ap, ◌∙◌}
use Rattle.js_heap.specs.declared.value.Value.{Value}
use Rattle.js_tree.specs.declared.script.Script.{Script}
use Rattle.cdp_session.specs.declared.ending.Ending.{Ending}
use Rattle.cdp_session.specs.Sessions.{Session}
use Rattle.cdp_session.specs.Situations.{Situation}
use Rattle.cdp_session_laws.specs.Events.{Event, Texted, Printed, Ended, Stopped, Resumed, HandedOut, after_all, after_event}
use Rattle.cdp_host.specs.Protocols.{protocol, situation}
use Rattle.cdp_host.specs.Standings.{standing_of}
use Rattle.cdp_host.specs.Steps.{end_told, print_told, seen_behind}
use Rattle.cdp_host_laws.specs.Lives.{HasLived}
use Rattle.cdp_host_laws.proofs.HeldLemmas.{KeepsAlways}

after-last : (es : List Event) (e : Event) (x : Session) → after_event e (after_all es x) ≡ after_all (es ++ e ∷ []) x
after-last [] e x = refl
after-last (first ∷ es) e x = after-last es e (after_event first x)

-- one event more
lives-on : (scripts : List Script) (s : ℕ) (e : Event) (x : Session)
    → HasLived scripts s x
    → HasLived scripts s (after_event e x)
lives-on scripts s e x is = (is.0 ++ e ∷ [], ap (after_event e) is.1 ∙ after-last is.0 e _)

print-lives : (scripts : List Script) (s : ℕ) (sees : Situation) (values : Option (List Value)) (moment : ℕ)
    (x : Session) → HasLived scripts s x → HasLived scripts s (print_told sees values moment x)
print-lives scripts s sees None moment x is = is
print-lives scripts s sees (Some values) moment x is = lives-on scripts s (Printed sees values moment) x is

end-lives : (scripts : List Script) (s : ℕ) (sees : Situation) (ending : Option Ending) (moment : ℕ) (x : Session)
    → HasLived scripts s x → HasLived scripts s (end_told sees ending moment x)
end-lives scripts s sees None moment x is = is
end-lives scripts s sees (Some ending) moment x is = lives-on scripts s (Ended sees ending moment) x is

pub lives-always : (scripts : List Script) (s : ℕ) → KeepsAlways (protocol scripts) (HasLived scripts s)
lives-always scripts s = record {
  over = record {
    resumed = λ x is. lives-on scripts s Resumed x is;
    told = λ moment t x is. end-lives scripts s (seen_behind scripts t) t.ending moment _
        (print-lives scripts s (seen_behind scripts t) t.values moment x is);
    stopped = λ number t x is. lives-on scripts s (Stopped (seen_behind scripts t) number t.arrival) x is;
  };
  reply = λ q c text x is. lives-on scripts s (Texted (situation scripts q (standing_of scripts c)) text) x is;
  emptied = λ x is. lives-on scripts s HandedOut x is;
}
