-- What the sessions and programs of a host keep, so that the laws of histories of any protocol hold of them.
use Rattle.std.proofs.Common.{◌≡◌, ℕ, zero, suc, List, ◌++◌, Bool, true, false, refl, ap, ◌∙◌, append_assoc}
use Rattle.cdp_host_isolation.specs.Stops as stops_
use Rattle.cdp_host_isolation.specs.Stops.{KeepsEnabled}
use Rattle.cdp_host_isolation.specs.Texts.{AreSent, HasRoom}
use Rattle.js_tree.specs.declared.script.Script.{Script}
use Rattle.cdp_session_messages.specs.Outboxes.{fits}
use Rattle.cdp_session.specs.Sessions.{Session}
use Rattle.cdp_session.specs.Stops.{stop_texts, stopped}
use Rattle.cdp_session.proofs.OutboxLemmas.{answer-outbox}
use Rattle.cdp_session_messages.proofs.OutboxSizes.{unfit-as}
use Rattle.cdp_host.specs.Programs.{plain, start}
use Rattle.cdp_host.specs.Protocols.{protocol, situation, texts}
use Rattle.cdp_host.specs.Standings.{standing_of}
use Rattle.cdp_host.specs.Steps.{Step, end_texts, print_texts, print_told, seen_behind, told}
use Rattle.cdp_host.proofs.CallLemmas.{nothing-fits}
use Rattle.cdp_host.proofs.ProgramLemmas.{plain-next, plain-start}
use Rattle.cdp_host.proofs.WatchLemmas.{print-outbox, told-outbox}

-- ---- sessions

told_sent : (scripts : List Script) (moment : ℕ) (t : Step) (x : Session)
    → (told (seen_behind scripts t) moment t x).outbox
    ≡ x.outbox ++
    (print_texts (seen_behind scripts t) t.values moment x ++ end_texts (seen_behind scripts t) t.ending moment
    (print_told (seen_behind scripts t) t.values moment x))
told_sent scripts moment t x =
    let s = seen_behind scripts t in
    let y : Session = print_told s t.values moment x in
    told-outbox s moment t x
    ∙ ap (λ xs. xs ++ end_texts s t.ending moment y) (print-outbox s t.values moment x)
    ∙ append_assoc x.outbox (print_texts s t.values moment x) (end_texts s t.ending moment y)

-- all that a session is told comes behind the texts that wait
pub sent : (scripts : List Script) → AreSent (protocol scripts) (texts scripts)
sent scripts = record {
  reply = λ q r text x. answer-outbox (situation scripts q (standing_of scripts r)) x text;
  resumed = λ x. refl;
  told = told_sent scripts;
  stopped = λ number t x. refl;
  emptied = λ x. refl;
  fresh = λ s. refl;
}

unless_fit : (a b : Bool) → (a ≡ false → b ≡ false) → b ≡ true → a ≡ true
unless_fit true b fails is = refl
unless_fit false b fails is = let f = fails refl in absurd cc

-- what is new and what was taken has room, and what fits with more behind it fits
pub roomy : (scripts : List Script) → HasRoom (protocol scripts)
roomy scripts = record {
  emptied = λ x. nothing-fits;
  fresh = λ s. nothing-fits;
  stopped = λ number moment t x is.
      let y : Session = told (seen_behind scripts t) moment t x in
      unless_fit (fits y.outbox) (fits (stopped (seen_behind scripts t) number t.arrival y).outbox)
      (λ over. unfit-as y.outbox (stop_texts (seen_behind scripts t) number t.arrival y)
      (stopped (seen_behind scripts t) number t.arrival y).outbox refl over)
      is;
}

pub enabled-kept : (scripts : List Script) → KeepsEnabled (protocol scripts)
enabled-kept scripts = λ x. refl

-- ---- the plain run

pub plain-same : (k : ℕ) (scripts : List Script) (input : List (List ℕ))
    → stops_.plain (protocol scripts) k (start scripts input) ≡ plain k scripts input
plain-same zero scripts input = plain-start scripts input
plain-same (suc k) scripts input =
    ap (λ r. (protocol scripts).next r) (plain-same k scripts input) ∙ plain-next k scripts input
