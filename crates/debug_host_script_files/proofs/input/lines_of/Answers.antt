use Rattle.std.proofs.Common.{rules, refl}
use Rattle.debug_host_script_files.proofs.InputLemmas.{line_next, line_behind, no_line_behind}
use Rattle.debug_host_script_files.proofs.input.lines_of.Goals as goal
use Rattle.debug_host_script_files.proofs.input.lines_of.Goals.{then-not-is_empty+in_ok-units_of-2+in_ok-push_back-2, else-not-is_empty}

pub loop-line-preserved : goal.loop-line-preserved
loop-line-preserved c = record {
  text = search rules;
  lines =
      line_next c.loop-line.lines.items c.loop-line.rest.now c.in-Some.line.now c.in-Some.after.now _
      c.in_ok-units_of.field-0 _ c.in-Some.ensures.parts.0 c.in-Some.ensures.parts.1
      c.in_ok-push_back.ensures.items c.in_ok-units_of.ensures.form c.loop-line.invariant.lines;
}

pub returns : goal.returns
returns c =
    elim c.if-not-is_empty.branch [
      | then-not-is_empty+in_ok-units_of-2+in_ok-push_back-2 w ↦
          rw w.lines-is
          (line_behind c.loop-line.lines.items c.loop-line.rest.now _ w.in_ok-units_of-2.field-0 _ c.is_empty.result
          c.in_default.ensures.none c.is_empty.ensures w.if-not-is_empty.true
          w.in_ok-push_back-2.ensures.items w.in_ok-units_of-2.ensures.form c.loop-line.invariant.lines)
      | else-not-is_empty w ↦
          rw w.lines-is
          (no_line_behind c.loop-line.lines.items c.loop-line.rest.now _ _ c.is_empty.result c.is_empty.ensures
          w.if-not-is_empty.false refl c.loop-line.invariant.lines)
    ]
