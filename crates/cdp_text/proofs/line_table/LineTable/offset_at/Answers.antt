use Rattle.std.proofs.Common.{◌≡◌, ◌+◌, ◌<◌, sym, arith, true}
use Rattle.cdp_text.specs.Position.{is_inside_cr_lf}
use Rattle.cdp_text.proofs.LineTableLemmas.{offset_past_table, offset_by_table, no_offset_by_table, end_of_line, start_within, Finds, Finds-none, Finds-some}
use Rattle.cdp_text.proofs.line_table.LineTable.offset_at.Goals as goal
use Rattle.cdp_text.proofs.line_table.LineTable.offset_at.Goals.{else-offset-next_start-via-then-offset-next_start+else-not-is_inside_cr_lf, else-offset-next_start-via-else-offset-next_start}

pub overflow_add-offset : goal.overflow_add-offset
overflow_add-offset c =
    let start = rw c.requires.of_text at c.in_ok-start.ensures in
    let within = start_within c.args.u.now c.args.p.line c.in_ok-start.start (sym start) in
    omega arith

pub returns-in_err-start : goal.returns-in_err-start
returns-in_err-start c =
    let start = rw c.requires.of_text at c.in_err-start.ensures in
    let none : Finds c.args.u.now c.args.p c.from_residual.result = rw c.from_residual.ensures
    (Finds-none c.args.u.now c.args.p (λ i at. offset_past_table c.args.u.now c.args.p i (sym start) at)) in
    record { found = none.found; undoes = none.undoes; none = none.none }

pub returns-then-not-is_inside_cr_lf : goal.returns-then-not-is_inside_cr_lf
returns-then-not-is_inside_cr_lf c =
    let start = rw c.requires.of_text at c.in_ok-start.ensures in
    let end = rw c.requires.of_text at c.start_or_end-next_start.ensures in
    let at = offset_by_table c.args.u.now c.args.p c.in_ok-start.start (sym start) (omega arith)
    (sym c.if-not-is_inside_cr_lf.ensures) in
    let some = Finds-some c.args.u.now c.args.p (c.in_ok-start.start + c.args.p.col) at in
    record { found = some.found; undoes = some.undoes; none = some.none }

pub returns-else-offset-next_start : goal.returns-else-offset-next_start
returns-else-offset-next_start c =
    let start = rw c.requires.of_text at c.in_ok-start.ensures in
    let end = rw c.requires.of_text at c.start_or_end-next_start.ensures in
    let inside : c.in_ok-start.start + c.args.p.col < end_of_line c.args.u.now c.args.p.line
    → is_inside_cr_lf c.args.u.now (c.in_ok-start.start + c.args.p.col) ≡ true = λ below.
    elim c.else-offset-next_start.branch [
      | else-offset-next_start-via-then-offset-next_start+else-not-is_inside_cr_lf w ↦ sym
          w.if-not-is_inside_cr_lf.ensures
      | else-offset-next_start-via-else-offset-next_start w ↦ absurd (omega arith)
    ] in
    let none = Finds-none c.args.u.now c.args.p
    (λ i at. no_offset_by_table c.args.u.now c.args.p c.in_ok-start.start i (sym start) inside at) in
    record { found = none.found; undoes = none.undoes; none = none.none }
