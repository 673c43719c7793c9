use Rattle.std.proofs.Common.{◌≤◌, ◌+◌, Some, not, ap, ◌∙◌, arith}
use Rattle.cdp_text.specs.Lines.{lines_of}
use Rattle.cdp_client.specs.LineRead.{line_held}
use Rattle.cdp_client.specs.Lines.{next_id}
use Rattle.cdp_client.proofs.FileLemmas.{next-near, read-next, read-start}
use Rattle.cdp_client.proofs.file.read_file.Goals as goal

pub loop-text-init : goal.loop-text-init
loop-text-init c = record {
  number = omega arith;
  id = omega arith;
  read = rw c.new-lines.ensures.items (read-start (lines_of c.args.file.now));
}

pub loop-text-preserved : goal.loop-text-preserved
loop-text-preserved c =
    let line = c.in-Ok-Some.line in
    let read = rw c.in-Ok-Some.field-0-is at c.in-Ok-Some.ensures in
    let near : next_id c.loop-text.id (Some (line_held line)) ≤ c.loop-text.id + 1 =
    next-near c.loop-text.id (line_held line) in
    let items = rw (c.is_err.ensures.negation ∙ ap not c.if-is_err.false) at c.push_back.ensures.items in
    record {
      number = omega (arith, c.in-Some.ensures.shorter);
      id = omega (arith, c.id_after-id.ensures, near);
      read =
          rw (c.id_after-id.ensures, items)
          (read-next (lines_of c.args.file.now) (lines_of c.loop-text.rest.now) (lines_of c.in-Some.after.now)
          c.in-Some.text.now c.loop-text.number c.loop-text.id c.loop-text.lines.items line c.in-Some.ensures.lines read
          c.loop-text.invariant.read);
    }
