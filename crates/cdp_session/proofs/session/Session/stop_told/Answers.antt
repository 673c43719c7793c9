use Rattle.std.proofs.Common.{◌≡◌, ℕ, List, IfOk, Option, OnOk, string_bytes, subst}
use Rattle.stepping.specs.declared.cause.Cause.{Cause}
use Rattle.cdp_session.specs.Pauses.{pause_told}
use Rattle.cdp_session.specs.Sessions.{with_handles}
use Rattle.cdp_session.specs.Situations.{seen}
use Rattle.cdp_session.specs.Stops.{cause_of}
use Rattle.cdp_session.proofs.StopLemmas.{told-cause}
use Rattle.cdp_session.proofs.session.Session.stop_told.Goals as goal

pub returns-clause-made : goal.returns-clause-made
returns-clause-made g c =
    let s = seen g.P.Program.standing c.args.situation.now in
    let x = c.args.self.now in
    let P : List (List ℕ) → Option Cause → Type 0 = λ ids cause.
    IfOk c.pause_told.result (λ text. string_bytes text ≡ (pause_told s c.args.number ids cause x).made) in
    let cause = told-cause s.standing c.args.arrival.now x c.args.hits.items c.cause_with-cause.result c.requires
    c.cause_with-cause.ensures in
    subst (λ ids. P ids (cause_of s.standing c.args.arrival.now x)) c.requires
    (subst (P c.args.hits.items) cause c.pause_told.ensures.made)

pub returns-clause-held : goal.returns-clause-held
returns-clause-held g c =
    let s = seen g.P.Program.standing c.args.situation.now in
    let x = c.args.self.now in
    let P : List (List ℕ) → Option Cause → Type 0 = λ ids cause.
    OnOk c.pause_told.result
    (c.pause_told.new.self ≡ with_handles (pause_told s c.args.number ids cause x).handles x) in
    let cause = told-cause s.standing c.args.arrival.now x c.args.hits.items c.cause_with-cause.result c.requires
    c.cause_with-cause.ensures in
    subst (λ ids. P ids (cause_of s.standing c.args.arrival.now x)) c.requires
    (subst (P c.args.hits.items) cause c.pause_told.ensures.held)
