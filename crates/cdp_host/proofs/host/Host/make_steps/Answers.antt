use Rattle.std.proofs.Common.{◌≡◌, [], ◌++◌, length, inr, refl, ap, sym, ◌∙◌, arith}
use Rattle.std.specs.Vec.{with_items}
use Rattle.std.proofs.lemmas.List.{with_items_is}
use Rattle.cdp_host_isolation.specs.Meanings.{is_ready}
use Rattle.cdp_host.specs.Hosts.{meaning_with}
use Rattle.cdp_host.specs.Protocols.{protocol}
use Rattle.cdp_host.proofs.StateLemmas.{may-parts}
use Rattle.cdp_host.proofs.RunLemmas.{falls-from, keeps-more, keeps-none, ran-longest, ran-more, ran-none, ran-nothing, ran-prints, some-longest}
use Rattle.cdp_host.proofs.host.Host.make_steps.Goals as goal
use Rattle.cdp_text.proofs.TestLemmas.{on-err}

-- ---- where no step may be made

pub returns-then-not-may_step-clause-makes : goal.returns-then-not-may_step-clause-makes
returns-then-not-may_step-clause-makes c = λ taken.
    let now = c.args.self.now in
    let none = c.new-printed.result.items in
    ran-nothing now.scripts c.args.moment now c.args.n none taken c.may_step-may_step.result c.new-printed.ensures.items
    c.requires.works (c.may_step-may_step.ensures (taken ++ none)) c.if-not-may_step.true

pub returns-then-not-may_step-clause-keeps : goal.returns-then-not-may_step-clause-keeps
returns-then-not-may_step-clause-keeps c = keeps-none c.args.self.now

-- ---- the loop

pub loop-self-init : goal.loop-self-init
loop-self-init c = record {
  within = omega arith;
  scripts = refl;
  same = c.requires.works;
  handed =
      sym (ap (λ h. h.meaning.program.machine.context.printed) c.self.view_is)
      ∙ c.self.invariant.handed (ap (λ h. h.broken) c.self.view_is ∙ c.requires.works);
  flags = c.in-Ok.ensures ∙ c.len.ensures ∙ c.self.inside.seats.ok.0 ∙ ap (λ h. length h.meaning.seats) c.self.view_is;
  keeps = keeps-none c.args.self.now;
  made =
      λ taken. ran-none c.args.self.now.scripts c.args.moment c.args.self.now c.args.n c.new-printed.result.items taken
      c.new-printed.ensures.items;
}

pub advance-requires-clause-works : goal.advance-requires-clause-works
advance-requires-clause-works c = c.loop-self.invariant.same

pub advance-requires-clause-ready : goal.advance-requires-clause-ready
advance-requires-clause-ready c = λ taken.
    let now = c.loop-self.self in
    (may-parts c.loop-self.left now.broken (is_ready (protocol now.scripts) (meaning_with now taken))
    (sym (c.may_step.ensures taken) ∙ c.loop-self-test.true)).2

pub advance-requires-clause-some : goal.advance-requires-clause-some
advance-requires-clause-some c =
    let now = c.loop-self.self in
    (may-parts c.loop-self.left now.broken (is_ready (protocol now.scripts) (meaning_with now []))
    (sym (c.may_step.ensures []) ∙ c.loop-self-test.true)).0

pub advance-requires-clause-flags : goal.advance-requires-clause-flags
advance-requires-clause-flags c = ap (λ flags. length flags) c.as_mut_slice.ensures.value ∙ c.loop-self.invariant.flags

pub overflow_sub-left : goal.overflow_sub-left
overflow_sub-left c = c.in_ok-left.ensures.counts.within

pub loop-self-smaller : goal.loop-self-smaller
loop-self-smaller c =
    let few = c.in_ok-left.ensures.counts.some in
    let within = c.in_ok-left.ensures.counts.within in
    omega (arith, few, within)

pub loop-self-preserved : goal.loop-self-preserved
loop-self-preserved c =
    let was = c.loop-self.invariant in
    let now = c.in_ok-left.ensures in
    let host = c.loop-self.self in
    let flags : (with_items c.loop-self.named c.advance.new.named).items ≡ c.advance.new.named =
    with_items_is c.loop-self.named c.advance.new.named
    (omega (arith, c.advance.auto.named, c.as_mut_slice.ensures.len)) in
    record {
      within = let counts = now.counts.within in let before = was.within in omega (arith, counts, before);
      scripts = now.scripts ∙ was.scripts;
      same = now.same;
      handed = now.handed;
      flags = ap (λ flags. length flags) flags ∙ now.flags;
      keeps = keeps-more c.args.self.now host c.advance.new.self was.keeps now.keeps;
      made = λ taken.
          let there = taken ++ c.loop-self.printed.items in
          let go = (may-parts c.loop-self.left host.broken (is_ready (protocol host.scripts) (meaning_with host there))
          (sym (c.may_step.ensures there) ∙ c.loop-self-test.true)).2 in
          ran-more c.args.self.now.scripts host.scripts c.args.moment (meaning_with c.args.self.now taken)
          (meaning_with host there)
          (meaning_with c.advance.new.self (taken ++ c.advance.new.printed.items))
          c.args.n c.loop-self.left c.in_ok-left.field-0
          was.scripts was.within now.counts.some now.counts.within (was.made taken) go (now.made taken);
    }

-- ---- behind it

pub overflow_sub-result : goal.overflow_sub-result
overflow_sub-result c = c.loop-self.invariant.within

pub returns-clause-makes : goal.returns-clause-makes
returns-clause-makes c = λ taken.
    let was = c.loop-self.invariant in
    let host = c.loop-self.self in
    let there = taken ++ c.loop-self.printed.items in
    ran-longest c.args.self.now.scripts host.scripts c.args.moment (meaning_with c.args.self.now taken)
    (meaning_with host there) c.args.n c.loop-self.left
    host.broken c.may_step.result was.scripts (was.made taken) was.within was.same (c.may_step.ensures there)
    c.loop-self-test.false

pub returns-clause-printed : goal.returns-clause-printed
returns-clause-printed c =
    ran-prints c.args.self.now.meaning.program c.loop-self.self.meaning.program c.loop-self.printed.items
    (sym (ap (λ h. h.meaning.program.machine.context.printed) c.self.view_is)
    ∙ c.self.invariant.handed (ap (λ h. h.broken) c.self.view_is ∙ c.requires.works))
    c.loop-self.invariant.handed

pub returns-clause-same : goal.returns-clause-same
returns-clause-same c = c.loop-self.invariant.same

pub returns-clause-scripts : goal.returns-clause-scripts
returns-clause-scripts c = c.loop-self.invariant.scripts

pub returns-clause-keeps : goal.returns-clause-keeps
returns-clause-keeps c = c.loop-self.invariant.keeps

pub returns-clause-still : goal.returns-clause-still
returns-clause-still c = inr (λ taken.
    let now = c.args.self.now in
    let P = protocol now.scripts in
    let m = meaning_with now taken in
    let parts = may-parts c.args.n now.broken (is_ready P m)
    (sym (c.may_step-may_step.ensures taken) ∙ c.if-not-may_step.false) in
    some-longest P c.args.moment c.args.n m parts.0 parts.2)

-- ---- where there is no memory

pub returns-in_err-left-clause-err_steps : goal.returns-in_err-left-clause-err_steps
returns-in_err-left-clause-err_steps c =
    on-err c.from_residual.result _ (λ taken.
    let now = c.args.self.now in
    let P = protocol now.scripts in
    let m = meaning_with now taken in
    let parts = may-parts c.args.n now.broken (is_ready P m)
    (sym (c.may_step-may_step.ensures taken) ∙ c.if-not-may_step.false) in
    some-longest P c.args.moment c.args.n m parts.0 parts.2)

pub returns-in_default-clause-err_steps : goal.returns-in_default-clause-err_steps
returns-in_default-clause-err_steps c = λ taken.
    let now = c.args.self.now in
    let P = protocol now.scripts in
    let m = meaning_with now taken in
    let parts = may-parts c.args.n now.broken (is_ready P m)
    (sym (c.may_step-may_step.ensures taken) ∙ c.if-not-may_step.false) in
    some-longest P c.args.moment c.args.n m parts.0 parts.2

pub returns-in_err-left-clause-back : goal.returns-in_err-left-clause-back
returns-in_err-left-clause-back c =
    on-err c.from_residual.result _
    (falls-from c.args.self.now c.loop-self.self c.advance.new.self c.loop-self.invariant.keeps
    c.in_err-left.ensures.back)

pub returns-in_err-left-clause-scripts : goal.returns-in_err-left-clause-scripts
returns-in_err-left-clause-scripts c = c.in_err-left.ensures.scripts ∙ c.loop-self.invariant.scripts
