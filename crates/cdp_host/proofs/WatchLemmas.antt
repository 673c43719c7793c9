-- What a session is told of a step: what it names then, what is told comes behind what waits, and what doesn't fit.
use Rattle.std.proofs.Common.{◌≡◌, ℕ, List, [], ◌∷◌, ◌++◌, Bool, true, false, refl, ap, sym, ◌∙◌, append_assoc, append-nil, if◌then◌else◌, Option, Some, None}
use Rattle.js_heap.specs.declared.value.Value.{Value}
use Rattle.cdp_session_messages.specs.Ends.{context_destroyed_text}
use Rattle.cdp_session.specs.Endings.{ending_told, ending_texts}
use Rattle.cdp_session_messages.specs.Outboxes.{fits}
use Rattle.cdp_session.specs.Sessions.{Session, sent}
use Rattle.cdp_session.specs.Situations.{Situation}
use Rattle.cdp_session.specs.Stops.{stop_texts, stopped}
use Rattle.cdp_session.specs.declared.ending.Ending.{Ending}
use Rattle.cdp_session.specs.declared.ending.Ending.TheVariants as endings
use Rattle.cdp_session_messages.proofs.OutboxSizes.{unfit-as}
use Rattle.cdp_host.specs.Steps.{Step, end_texts, end_told, names_stop, print_texts, print_told, session_behind, told}

-- ---- what a session asks for

-- two sessions ask for the same
pub record AsksSame (x y : Session) : Type 0 where
  pub rules : x.rules ≡ y.rules
  pub breakpoints : x.breakpoints ≡ y.breakpoints
  pub workspace : x.workspace ≡ y.workspace

pub asks-refl : (x : Session) → AsksSame x x
asks-refl x = record { rules = refl; breakpoints = refl; workspace = refl }

asks-trans : (x y z : Session) → AsksSame x y → AsksSame y z → AsksSame x z
asks-trans x y z first second = record {
  rules = first.rules ∙ second.rules;
  breakpoints = first.breakpoints ∙ second.breakpoints;
  workspace = first.workspace ∙ second.workspace;
}

-- so they name the same
pub names-same : (step : Step) (x y : Session) → AsksSame x y → names_stop step x ≡ names_stop step y
names-same step x y same =
    rw (same.rules, same.breakpoints, same.workspace) refl

asks_if : (b : Bool) (y x : Session) → AsksSame y x → AsksSame (if b then y else x) x
asks_if true y x same = same
asks_if false y x same = asks-refl x

-- what is told of a print changes none of that
print_asks : (s : Situation) (o : Option (List Value)) (moment : ℕ) (x : Session) → AsksSame (print_told s o moment x) x
print_asks s None moment x = asks-refl x
print_asks s (Some vs) moment x = asks_if x.runtime _ x (record { rules = refl; breakpoints = refl; workspace = refl })

ending_asks : (s : Situation) (ending : Ending) (moment : ℕ) (x : Session) → AsksSame (ending_told s ending moment x) x
ending_asks s endings.Finished moment x = asks-refl x
ending_asks s (endings.Threw v place) moment x = record { rules = refl; breakpoints = refl; workspace = refl }

-- nor what is told of the end
end_asks : (s : Situation) (o : Option Ending) (moment : ℕ) (x : Session) → AsksSame (end_told s o moment x) x
end_asks s None moment x = asks-refl x
end_asks s (Some ending) moment x =
    let same = ending_asks s ending moment x in
    asks_if x.runtime _ x (record { rules = same.rules; breakpoints = same.breakpoints; workspace = same.workspace })

pub told-asks : (s : Situation) (moment : ℕ) (step : Step) (x : Session) → AsksSame (told s moment step x) x
told-asks s moment step x =
    let y : Session = print_told s step.values moment x in
    asks-trans (told s moment step x) y x (end_asks s step.ending moment y) (print_asks s step.values moment x)

-- so it names the same behind it
pub told-names : (s : Situation) (moment : ℕ) (step : Step) (x : Session)
    → names_stop step (told s moment step x) ≡ names_stop step x
told-names s moment step x = names-same step (told s moment step x) x (told-asks s moment step x)

-- ---- texts

outbox_if : (b : Bool) (y x : Session) (texts : List (List ℕ))
    → y.outbox ≡ x.outbox ++ texts
    → (if b then y else x).outbox ≡ x.outbox ++ (if b then texts else [])
outbox_if true y x texts same = same
outbox_if false y x texts same = sym (append-nil x.outbox)

pub print-outbox : (s : Situation) (o : Option (List Value)) (moment : ℕ) (x : Session)
    → (print_told s o moment x).outbox ≡ x.outbox ++ print_texts s o moment x
print-outbox s None moment x = sym (append-nil x.outbox)
print-outbox s (Some vs) moment x = outbox_if x.runtime _ x _ refl

ending_outbox : (s : Situation) (ending : Ending) (moment : ℕ) (x : Session)
    → (ending_told s ending moment x).outbox ≡ x.outbox ++ ending_texts s ending moment x
ending_outbox s endings.Finished moment x = sym (append-nil x.outbox)
ending_outbox s (endings.Threw v place) moment x = refl

end_outbox : (s : Situation) (o : Option Ending) (moment : ℕ) (x : Session)
    → (end_told s o moment x).outbox ≡ x.outbox ++ end_texts s o moment x
end_outbox s None moment x = sym (append-nil x.outbox)
end_outbox s (Some ending) moment x =
    let last : List (List ℕ) = context_destroyed_text ∷ [] in
    outbox_if x.runtime (sent last (ending_told s ending moment x)) x (ending_texts s ending moment x ++ last)
    (ap (λ xs. xs ++ last) (ending_outbox s ending moment x)
    ∙ append_assoc x.outbox (ending_texts s ending moment x) last)

-- what is told of the end comes behind what is told of a print
pub told-outbox : (s : Situation) (moment : ℕ) (step : Step) (x : Session)
    → (told s moment step x).outbox ≡ (print_told s step.values moment x).outbox ++ end_texts s step.ending moment
    (print_told s step.values moment x)
told-outbox s moment step x =
    let y : Session = print_told s step.values moment x in
    end_outbox s step.ending moment y

-- and what is told of a stop behind that
pub stopped-outbox : (s : Situation) (number moment : ℕ) (step : Step) (x : Session) (b : Bool) → names_stop step x ≡ b
    → (session_behind s number moment step x).outbox ≡ (told s moment step x).outbox ++
    (if b then stop_texts s number step.arrival (told s moment step x) else [])
stopped-outbox s number moment step x true is = rw is refl
stopped-outbox s number moment step x false is = rw is (sym (append-nil (told s moment step x).outbox))

-- ---- what doesn't fit

-- where what is told of a print doesn't, nor does all that is told
pub print-over : (s : Situation) (moment : ℕ) (step : Step) (x : Session)
    → fits (print_told s step.values moment x).outbox ≡ false
    → fits (told s moment step x).outbox ≡ false
print-over s moment step x over = unfit-as _ _ _ (told-outbox s moment step x) over

-- and where that doesn't, nor does it with a stop
pub told-over : (s : Situation) (number moment : ℕ) (step : Step) (x : Session)
    → fits (told s moment step x).outbox ≡ false
    → fits (session_behind s number moment step x).outbox ≡ false
told-over s number moment step x over = unfit-as _ _ _ (stopped-outbox s number moment step x (names_stop step x) refl) over

-- ---- the code's tests

-- a session that was told names what it named
pub names-told : (s : Situation) (moment : ℕ) (step : Step) (x y : Session) (b c : Bool)
    → y ≡ told s moment step x
    → b ≡ names_stop step y
    → b ≡ c
    → names_stop step x ≡ c
names-told s moment step x y b c is named test =
    sym (ap (names_stop step) is ∙ told-names s moment step x) ∙ sym named ∙ test

-- what a session is behind a step that it names, or doesn't
pub behind-named : (s : Situation) (number moment : ℕ) (step : Step) (x : Session)
    → names_stop step x ≡ true
    → stopped s number step.arrival (told s moment step x) ≡ session_behind s number moment step x
behind-named s number moment step x named =
    ap (λ b. if b then stopped s number step.arrival (told s moment step x) else told s moment step x) (sym named)

pub behind-passed : (s : Situation) (number moment : ℕ) (step : Step) (x : Session)
    → names_stop step x ≡ false
    → told s moment step x ≡ session_behind s number moment step x
behind-passed s number moment step x named =
    ap (λ b. if b then stopped s number step.arrival (told s moment step x) else told s moment step x) (sym named)
