use Rattle.std.proofs.Common.{rules, [], ◌≡◌, ◌<◌, ◌⊎◌, ◌++◌, ℕ, List, IfOk, OnErr, inl, true, false, refl, ap, sym, subst, ◌∙◌}
use Rattle.cdp_host_isolation.specs.Histories.{Ran}
use Rattle.cdp_host_isolation.specs.Meanings.{longest}
use Rattle.cdp_host_isolation.specs.Seats.{some, waits_for_report}
use Rattle.cdp_host.specs.Hosts.{FallsBack, HostState, PrintsOn, RunsTo, meaning_with}
use Rattle.cdp_host_turns.specs.Entries.{lost_for_memory}
use Rattle.cdp_host.specs.Protocols.{protocol}
use Rattle.cdp_host.proofs.RunLemmas.{carries-none, carries-run, falls-alone, falls-from, listed-by, none-prints, on-error, on-made, reports-run, run-prints, stands-none}
use Rattle.cdp_text.proofs.TestLemmas.{on-err}
use Rattle.cdp_host.proofs.host.Host.run.Goals as goal

pub returns-then-self-clause-stands : goal.returns-then-self-clause-stands
returns-then-self-clause-stands c = λ scripts input wait history stood.
    stands-none scripts input wait c.args.self.now history c.args.moment (lost_for_memory c.new-then-self.result.items)
    (sym (ap (λ h. h.broken) c.self.view_is) ∙ c.if-self.true) stood

pub returns-then-self-clause-prints : goal.returns-then-self-clause-prints
returns-then-self-clause-prints c =
    let empty : c.new.result.items ≡ [] = search rules in
    subst (λ texts. PrintsOn c.args.self.now (Ran 0 c.args.moment (lost_for_memory c.new-then-self.result.items)) texts)
    (sym empty)
    (none-prints c.args.self.now c.args.moment (lost_for_memory c.new-then-self.result.items))

pub returns-then-self-clause-broken : goal.returns-then-self-clause-broken
returns-then-self-clause-broken c = λ fails.
    let printed : c.new.result.items ≡ [] = search rules in
    let lost : c.new-then-self.result.items ≡ [] = search rules in
    (refl, (refl, printed, lost))

pub make_steps-requires-clause-works : goal.make_steps-requires-clause-works
make_steps-requires-clause-works c =
    ap (λ h. h.broken) c.prepare.ensures ∙ sym (ap (λ h. h.broken) c.self.view_is) ∙ c.if-self.false

pub report-requires : goal.report-requires
report-requires c = c.in_ok-made.ensures.same

-- ---- a step met want of memory

pub returns-in_err-made-clause-scripts : goal.returns-in_err-made-clause-scripts
returns-in_err-made-clause-scripts c = c.in_err-made.ensures.scripts ∙ ap (λ h. h.scripts) c.prepare.ensures

pub returns-in_err-made-clause-broken : goal.returns-in_err-made-clause-broken
returns-in_err-made-clause-broken c = λ fails.
    let works : c.args.self.now.broken ≡ false = sym (ap (λ h. h.broken) c.self.view_is) ∙ c.if-self.false in
    absurd cc

pub returns-in_err-made-clause-err : goal.returns-in_err-made-clause-err
returns-in_err-made-clause-err c =
    let new = c.make_steps.new.self in
    on-err c.from_residual.result _
    (falls-alone c.args.self.now new (subst (λ h. FallsBack h new) c.prepare.ensures c.in_err-made.ensures.back))

pub returns-in_err-made-clause-err_seats : goal.returns-in_err-made-clause-err_seats
returns-in_err-made-clause-err_seats c =
    let new = c.make_steps.new.self in
    let falls = subst (λ h. FallsBack h new) c.prepare.ensures c.in_err-made.ensures.back in
    on-err c.from_residual.result _ falls.seats

pub returns-in_err-made-clause-err_fallen : goal.returns-in_err-made-clause-err_fallen
returns-in_err-made-clause-err_fallen c =
    let new = c.make_steps.new.self in
    let falls = subst (λ h. FallsBack h new) c.prepare.ensures c.in_err-made.ensures.back in
    on-err c.from_residual.result _ falls.fallen

pub returns-in_err-made-clause-err_steps : goal.returns-in_err-made-clause-err_steps
returns-in_err-made-clause-err_steps c =
    let P : HostState → Type 0 = λ h. (taken : List (List ℕ))
    → 0 < longest (protocol h.scripts) c.args.moment c.args.n (meaning_with h taken) in
    let some_step = subst P c.prepare.ensures c.in_err-made.ensures.err_steps in
    on-err c.from_residual.result _ (λ taken. inl (some_step taken))

pub returns-in_err-made-clause-stands_err : goal.returns-in_err-made-clause-stands_err
returns-in_err-made-clause-stands_err c =
    let new = c.make_steps.new.self in
    on-err c.from_residual.result _
    (carries-none c.args.self.now new c.args.moment
    (c.in_err-made.ensures.scripts ∙ ap (λ h. h.scripts) c.prepare.ensures)
    (sym (ap (λ h. h.broken) c.self.view_is) ∙ c.if-self.false)
    (subst (λ h. FallsBack h new) c.prepare.ensures c.in_err-made.ensures.back))

-- ---- the steps were made

pub returns-clause-runs : goal.returns-clause-runs
returns-clause-runs c = λ works.
    let new = c.report.new.self in
    let made = c.in_ok-made.made in
    let P : HostState → Type 0 = λ h. IfOk c.report.result (λ ran. (taken : List (List ℕ))
    → RunsTo h.scripts c.args.moment c.args.n (meaning_with h taken) ran.steps ran.printed.items ran.lost.items
    (meaning_with new (taken ++ ran.printed.items))) in
    subst P c.prepare.ensures
    (reports-run c.prepare.new.self c.make_steps.new.self new c.args.moment c.args.n made.steps made.printed.items
    c.report.result c.in_ok-made.ensures.scripts c.in_ok-made.ensures.makes c.in_ok-made.ensures.printed
    c.report.ensures.steps c.report.ensures.lost c.report.ensures.means c.report.ensures.all_there)

pub returns-clause-broken : goal.returns-clause-broken
returns-clause-broken c = λ fails.
    let works : c.args.self.now.broken ≡ false = sym (ap (λ h. h.broken) c.self.view_is) ∙ c.if-self.false in
    absurd cc

pub returns-clause-scripts : goal.returns-clause-scripts
returns-clause-scripts c =
    c.report.ensures.scripts ∙ c.in_ok-made.ensures.scripts ∙ ap (λ h. h.scripts) c.prepare.ensures

pub returns-clause-fallen : goal.returns-clause-fallen
returns-clause-fallen c =
    on-made c.report.result _ _
    (λ same. same ∙ c.in_ok-made.ensures.keeps.fallen ∙ ap (λ h. h.fallen) c.prepare.ensures) c.report.ensures.fallen

-- ---- the report met want of memory

pub returns-clause-err : goal.returns-clause-err
returns-clause-err c =
    let new = c.report.new.self in
    on-error c.report.result _ _
    (λ falls. falls-alone c.args.self.now new
    (subst (λ h. FallsBack h new) c.prepare.ensures
    (falls-from c.prepare.new.self c.make_steps.new.self new c.in_ok-made.ensures.keeps falls)))
    c.report.ensures.back

pub returns-clause-err_seats : goal.returns-clause-err_seats
returns-clause-err_seats c =
    let new = c.report.new.self in
    on-error c.report.result _ _
    (λ falls. (subst (λ h. FallsBack h new) c.prepare.ensures
    (falls-from c.prepare.new.self c.make_steps.new.self new c.in_ok-made.ensures.keeps falls)).seats)
    c.report.ensures.back

pub returns-clause-err_fallen : goal.returns-clause-err_fallen
returns-clause-err_fallen c =
    let new = c.report.new.self in
    on-error c.report.result _ _
    (λ falls. (subst (λ h. FallsBack h new) c.prepare.ensures
    (falls-from c.prepare.new.self c.make_steps.new.self new c.in_ok-made.ensures.keeps falls)).fallen)
    c.report.ensures.back

pub returns-clause-err_steps : goal.returns-clause-err_steps
returns-clause-err_steps c =
    let P : HostState → Type 0 = λ h. OnErr c.report.result ((taken : List (List ℕ))
    → (0 < longest (protocol h.scripts) c.args.moment c.args.n (meaning_with h taken)) ⊎
    (some waits_for_report h.meaning.seats ≡ true)) in
    let h = c.prepare.new.self in
    subst P c.prepare.ensures
    (on-error c.report.result _ _
    (listed-by h c.make_steps.new.self (List (List ℕ))
    (λ taken. 0 < longest (protocol h.scripts) c.args.moment c.args.n (meaning_with h taken))
    c.in_ok-made.ensures.still)
    c.report.ensures.waits)

pub returns-clause-stands_err : goal.returns-clause-stands_err
returns-clause-stands_err c =
    let new = c.report.new.self in
    on-error c.report.result _ _
    (λ falls. carries-none c.args.self.now new c.args.moment (returns-clause-scripts c)
    (sym (ap (λ h. h.broken) c.self.view_is) ∙ c.if-self.false)
    (subst (λ h. FallsBack h new) c.prepare.ensures
    (falls-from c.prepare.new.self c.make_steps.new.self new c.in_ok-made.ensures.keeps falls)))
    c.report.ensures.back

-- ---- the history with the run

pub returns-clause-stands : goal.returns-clause-stands
returns-clause-stands c =
    let works = sym (ap (λ h. h.broken) c.self.view_is) ∙ c.if-self.false in
    carries-run c.args.self.now c.report.new.self c.args.moment c.args.n c.report.result
    (returns-clause-scripts c) works c.report.ensures.same
    c.report.ensures.handed (returns-clause-runs c works)

pub returns-clause-prints : goal.returns-clause-prints
returns-clause-prints c =
    let works = sym (ap (λ h. h.broken) c.self.view_is) ∙ c.if-self.false in
    run-prints c.args.self.now c.report.new.self c.args.moment c.args.n c.report.result works
    c.report.ensures.handed (returns-clause-runs c works)
