-- The laws of histories of any protocol, said of a host's.
use Rattle.std.proofs.Common.{◌≡◌, ℕ, List, Bool, ap, sym, subst, ◌∙◌}
use Rattle.cdp_host_isolation.specs.Histories.{Entry, steps_made}
use Rattle.cdp_host_isolation.proofs.StopLemmas.{paused-well, plain-way}
use Rattle.js_tree.specs.declared.script.Script.{Script}
use Rattle.js_semantics.specs.Run.{Run}
use Rattle.cdp_host.specs.Histories.{whole}
use Rattle.cdp_host.specs.Programs.{plain, printed_of, start}
use Rattle.cdp_host.specs.Protocols.{protocol}
use Rattle.cdp_host.specs.Rules.{IsPausedThere, PrintsAsPlain}
use Rattle.cdp_host.proofs.ProgramLemmas.{plain-grows, plain-over}
use Rattle.cdp_host.proofs.ProtocolLemmas.{enabled-kept, plain-same}

pub goes-plainly : (scripts : List Script) (input : List (List ℕ)) (wait : Bool) (history : List Entry)
    → (whole scripts input wait history).program ≡ plain (steps_made history) scripts input
goes-plainly scripts input wait history =
    plain-way (protocol scripts) (start scripts input) wait history ∙ plain-same (steps_made history) scripts input

pub plain-prints : (scripts : List Script) (input : List (List ℕ)) (made : ℕ) (r : Run)
    → r ≡ plain made scripts input
    → PrintsAsPlain scripts input made r
plain-prints scripts input made r is =
    let P : Run → Type 0 = PrintsAsPlain scripts input made in
    subst P (sym is) (record {
      first = λ j. plain-grows j made scripts input;
      all = λ ends j. ap printed_of (plain-over j made scripts input ends);
    })

pub prints-plainly : (scripts : List Script) (input : List (List ℕ)) (wait : Bool) (history : List Entry)
    → PrintsAsPlain scripts input (steps_made history) (whole scripts input wait history).program
prints-plainly scripts input wait history =
    plain-prints scripts input (steps_made history) (whole scripts input wait history).program
    (goes-plainly scripts input wait history)

pub paused-there : (scripts : List Script) (input : List (List ℕ)) (wait : Bool) (history : List Entry)
    → IsPausedThere scripts (whole scripts input wait history)
paused-there scripts input wait history = λ p is.
    let well = paused-well (protocol scripts) (start scripts input) wait history (enabled-kept scripts) in
    let there = well.there p is in
    ap (λ q. q.depth) there.1
