-- What the run of a program says of its output stands over the history of all passes.
use Rattle.std.proofs.Common.{◌≡◌, ℕ, List, ◌++◌, Bool, ap, subst, ◌∙◌}
use Rattle.cdp_host_isolation.specs.Histories.{Entry, steps_made}
use Rattle.cdp_host_isolation.specs.Makers.{by, entries_of as unmade}
use Rattle.history_lock.specs.Histories.{Begins}
use Rattle.history_lock.proofs.Facts.{by_behind}
use Rattle.cdp_host_turns.specs.Debuggings.{Debugging}
use Rattle.cdp_host_turns.specs.Turns.{printed_by}
use Rattle.ws_service.specs.Programs.{OnlyRuns, Writes}
use Rattle.ws_service.proofs.ProgramLemmas.{only-after, only-front, parts, steps-before}

-- The sink was given what the steps of a longer history print, where the pass left no entry more in it.
pub writes-over : (d : Debugging) (k : ℕ) (cut : Bool) (old new h : List (ℕ × Entry)) (before after : List ℕ)
    → Begins old new → Begins new h → by k h ≡ by k new → Writes d k cut old new before after
    → Writes d k cut old h before after
writes-over d k cut old new h before after a b own writes more is only =
    let whole : more ≡ a.0 ++ b.0 = parts old new h a.0 b.0 more a.1 b.1 is in
    let both : OnlyRuns k (a.0 ++ b.0) = subst (OnlyRuns k) whole only in
    let wrote = writes a.0 a.1 (only-front k a.0 b.0 both) in
    let steps : steps_made (unmade h) ≡ steps_made (unmade new) =
    ap (λ l. steps_made (unmade l)) b.1
    ∙ steps-before k new b.0 (only-after k a.0 b.0 both) (by_behind k new b.0 h b.1 own) in
    (wrote.0, ap (printed_by d) steps ∙ wrote.1, wrote.2)
