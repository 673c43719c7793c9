use Rattle.std.proofs.Common.{true, false, sym, ◌∙◌}
use Rattle.js_machine_engine.specs.Settling.{settled_row, GivesWay, Settles, Takes}
use Rattle.js_machine_engine.proofs.DescentLemmas.{none-task, some-task, out-start, out-closed, out-taken, out-done, out-full, out-fewer}
use Rattle.js_machine_engine.proofs.settling.settle_row.Goals as goal

pub loop-stack-init : goal.loop-stack-init
loop-stack-init c = out-start c.args.table.now c.args.stack.now c.requires.row

pub returns-then-not-branch-clause-term : goal.returns-then-not-branch-clause-term
returns-then-not-branch-clause-term c =
    let t = c.args.table.now in
    let old = c.args.stack.now in
    let now = c.loop-stack.stack in
    let s : Settles t old c.close.new.stack (λ ts. settled_row ts t old) c.close.new.point = out-closed t old now
    c.close.new.stack c.close.new.point c.loop-stack.invariant
    (rw c.if-not-branch.true at c.in_ok-close.ensures) in
    s.term

pub returns-then-not-branch-clause-at : goal.returns-then-not-branch-clause-at
returns-then-not-branch-clause-at c =
    let t = c.args.table.now in
    let old = c.args.stack.now in
    let now = c.loop-stack.stack in
    let s : Settles t old c.close.new.stack (λ ts. settled_row ts t old) c.close.new.point = out-closed t old now
    c.close.new.stack c.close.new.point c.loop-stack.invariant
    (rw c.if-not-branch.true at c.in_ok-close.ensures) in
    s.at

pub returns-then-not-branch-clause-scoped : goal.returns-then-not-branch-clause-scoped
returns-then-not-branch-clause-scoped c =
    let t = c.args.table.now in
    let old = c.args.stack.now in
    let now = c.loop-stack.stack in
    let s : Settles t old c.close.new.stack (λ ts. settled_row ts t old) c.close.new.point = out-closed t old now
    c.close.new.stack c.close.new.point c.loop-stack.invariant
    (rw c.if-not-branch.true at c.in_ok-close.ensures) in
    s.scoped

pub returns-then-is_empty-clause-term : goal.returns-then-is_empty-clause-term
returns-then-is_empty-clause-term c =
    let t = c.args.table.now in
    let old = c.args.stack.now in
    let now = c.loop-stack.stack in
    let g : GivesWay t now c.close.new.stack (λ ts. settled_row ts t now) c.close.new.given c.close.new.point true
    = rw c.if-not-branch.false at c.in_ok-close.ensures in
    let s : Settles t old c.close.new.stack (λ ts. settled_row ts t old) c.set_done.new.self
    = rw c.set_done.ensures
    (out-done t old now c.close.new.stack c.close.new.given c.loop-stack.invariant g
    (none-task c.close.new.stack (sym c.is_empty.ensures ∙ c.if-is_empty.true))) in
    s.term

pub returns-then-is_empty-clause-at : goal.returns-then-is_empty-clause-at
returns-then-is_empty-clause-at c =
    let t = c.args.table.now in
    let old = c.args.stack.now in
    let now = c.loop-stack.stack in
    let g : GivesWay t now c.close.new.stack (λ ts. settled_row ts t now) c.close.new.given c.close.new.point true
    = rw c.if-not-branch.false at c.in_ok-close.ensures in
    let s : Settles t old c.close.new.stack (λ ts. settled_row ts t old) c.set_done.new.self
    = rw c.set_done.ensures
    (out-done t old now c.close.new.stack c.close.new.given c.loop-stack.invariant g
    (none-task c.close.new.stack (sym c.is_empty.ensures ∙ c.if-is_empty.true))) in
    s.at

pub returns-then-is_empty-clause-scoped : goal.returns-then-is_empty-clause-scoped
returns-then-is_empty-clause-scoped c =
    let t = c.args.table.now in
    let old = c.args.stack.now in
    let now = c.loop-stack.stack in
    let g : GivesWay t now c.close.new.stack (λ ts. settled_row ts t now) c.close.new.given c.close.new.point true
    = rw c.if-not-branch.false at c.in_ok-close.ensures in
    let s : Settles t old c.close.new.stack (λ ts. settled_row ts t old) c.set_done.new.self
    = rw c.set_done.ensures
    (out-done t old now c.close.new.stack c.close.new.given c.loop-stack.invariant g
    (none-task c.close.new.stack (sym c.is_empty.ensures ∙ c.if-is_empty.true))) in
    s.scoped

pub returns-then-not-branch-2-clause-term : goal.returns-then-not-branch-2-clause-term
returns-then-not-branch-2-clause-term c =
    let t = c.args.table.now in
    let old = c.args.stack.now in
    let now = c.loop-stack.stack in
    let g : GivesWay t now c.close.new.stack (λ ts. settled_row ts t now) c.close.new.given c.close.new.point true
    = rw c.if-not-branch.false at c.in_ok-close.ensures in
    let s : Settles t old c.take.new.stack (λ ts. settled_row ts t old) c.take.new.point = out-taken t old
    now c.close.new.stack c.take.new.stack c.close.new.given c.take.new.point c.loop-stack.invariant g
    (rw c.if-not-branch-2.true at c.in_ok-take.ensures) in
    s.term

pub returns-then-not-branch-2-clause-at : goal.returns-then-not-branch-2-clause-at
returns-then-not-branch-2-clause-at c =
    let t = c.args.table.now in
    let old = c.args.stack.now in
    let now = c.loop-stack.stack in
    let g : GivesWay t now c.close.new.stack (λ ts. settled_row ts t now) c.close.new.given c.close.new.point true
    = rw c.if-not-branch.false at c.in_ok-close.ensures in
    let s : Settles t old c.take.new.stack (λ ts. settled_row ts t old) c.take.new.point = out-taken t old
    now c.close.new.stack c.take.new.stack c.close.new.given c.take.new.point c.loop-stack.invariant g
    (rw c.if-not-branch-2.true at c.in_ok-take.ensures) in
    s.at

pub returns-then-not-branch-2-clause-scoped : goal.returns-then-not-branch-2-clause-scoped
returns-then-not-branch-2-clause-scoped c =
    let t = c.args.table.now in
    let old = c.args.stack.now in
    let now = c.loop-stack.stack in
    let g : GivesWay t now c.close.new.stack (λ ts. settled_row ts t now) c.close.new.given c.close.new.point true
    = rw c.if-not-branch.false at c.in_ok-close.ensures in
    let s : Settles t old c.take.new.stack (λ ts. settled_row ts t old) c.take.new.point = out-taken t old
    now c.close.new.stack c.take.new.stack c.close.new.given c.take.new.point c.loop-stack.invariant g
    (rw c.if-not-branch-2.true at c.in_ok-take.ensures) in
    s.scoped

pub close-requires-clause-row : goal.close-requires-clause-row
close-requires-clause-row c = c.loop-stack.invariant.row

pub take-requires-clause-task : goal.take-requires-clause-task
take-requires-clause-task c = some-task c.close.new.stack (sym c.is_empty.ensures ∙ c.if-is_empty.false)

pub loop-stack-smaller : goal.loop-stack-smaller
loop-stack-smaller c =
    let t = c.args.table.now in
    let old = c.args.stack.now in
    let now = c.loop-stack.stack in
    let g : GivesWay t now c.close.new.stack (λ ts. settled_row ts t now) c.close.new.given c.close.new.point true
    = rw c.if-not-branch.false at c.in_ok-close.ensures in
    let f : Takes t c.close.new.stack c.take.new.stack c.close.new.given c.take.new.point true
    = rw c.if-not-branch-2.false at c.in_ok-take.ensures in
    out-fewer t now c.close.new.stack c.take.new.stack c.close.new.given c.loop-stack.invariant.row g.stands
    (some-task c.close.new.stack (sym c.is_empty.ensures ∙ c.if-is_empty.false)) f

pub loop-stack-preserved : goal.loop-stack-preserved
loop-stack-preserved c =
    let t = c.args.table.now in
    let old = c.args.stack.now in
    let now = c.loop-stack.stack in
    let g : GivesWay t now c.close.new.stack (λ ts. settled_row ts t now) c.close.new.given c.close.new.point true
    = rw c.if-not-branch.false at c.in_ok-close.ensures in
    let f : Takes t c.close.new.stack c.take.new.stack c.close.new.given c.take.new.point true
    = rw c.if-not-branch-2.false at c.in_ok-take.ensures in
    out-full t old now c.close.new.stack c.take.new.stack c.close.new.given c.loop-stack.invariant g f
