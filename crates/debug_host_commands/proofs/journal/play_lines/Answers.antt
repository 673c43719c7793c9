use Rattle.std.proofs.Common.{◌∙◌, refl, sym, ap, inr, Err, arith}
use Rattle.cdp_text.specs.Lines.{lines_of}
use Rattle.debug_host_commands.specs.Played.{end_of}
use Rattle.debug_host_commands.proofs.PlayLemmas.{behind-done, behind-done-whole, behind-first, behind-less, behind-memory, behind-memory-whole, behind-next, behind-part, behind-refused, behind-refused-whole, behind-start}
use Rattle.debug_host_commands.proofs.journal.play_lines.Goals as goal

pub loop-line-init : goal.loop-line-init
loop-line-init g c = record {
  number = omega arith;
  works = c.requires;
  behind =
      λ scripts input wait stood. behind-start scripts input wait (lines_of c.args.journal.now)
      c.args.host.now _ stood c.requires;
  quiet = refl;
}

-- ---- the line `memory`

pub returns-then-is_memory-clause-end : goal.returns-then-is_memory-clause-end
returns-then-is_memory-clause-end g c = λ scripts input wait stood.
    inr (c.end_behind_memory.ensures.is
    ∙ sym (ap end_of
    (behind-memory scripts input wait _ _ c.loop-line.number _ _ _ c.in-Some.line.now
    (lines_of c.in-Some.after.now) c.in-Some.ensures.lines (sym c.is_memory.ensures ∙ c.if-is_memory.true)
    (c.loop-line.invariant.behind scripts input wait stood))))

pub returns-then-is_memory-clause-whole : goal.returns-then-is_memory-clause-whole
returns-then-is_memory-clause-whole g c = λ scripts input wait stood.
    inr (behind-memory-whole scripts input wait _ _ c.loop-line.number _ _ _ c.in-Some.line.now
    (lines_of c.in-Some.after.now) c.in-Some.ensures.lines (sym c.is_memory.ensures ∙ c.if-is_memory.true)
    (c.loop-line.invariant.behind scripts input wait stood))

pub returns-then-is_memory-clause-part : goal.returns-then-is_memory-clause-part
returns-then-is_memory-clause-part g c = λ scripts input wait stood.
    behind-first scripts input wait (lines_of c.args.journal.now) (lines_of c.loop-line.rest.now)
    c.loop-line.number c.loop-line.host _ _ (c.loop-line.invariant.behind scripts input wait stood)

pub returns-then-is_memory-clause-less : goal.returns-then-is_memory-clause-less
returns-then-is_memory-clause-less g c is = absurd (c.end_behind_memory.ensures.uncut is)

pub returns-then-is_memory-clause-failed : goal.returns-then-is_memory-clause-failed
returns-then-is_memory-clause-failed g c is = absurd (c.end_behind_memory.ensures.uncut is)

-- ---- a line that is refused

pub returns-in-Err-Refused-clause-end : goal.returns-in-Err-Refused-clause-end
returns-in-Err-Refused-clause-end g c = λ scripts input wait stood.
    inr (sym (ap end_of
    (behind-refused scripts input wait _ _ c.loop-line.number _ _ _ c.in-Some.line.now
    (lines_of c.in-Some.after.now) c.in-Some.ensures.lines (sym c.is_memory.ensures ∙ c.if-is_memory.false)
    (c.loop-line.invariant.behind scripts input wait stood)
    (c.in-Err-Refused.ensures.refused (ap (λ fault. Err fault) c.in-Err-Refused.field-0-is)).1)))

pub returns-in-Err-Refused-clause-whole : goal.returns-in-Err-Refused-clause-whole
returns-in-Err-Refused-clause-whole g c = λ scripts input wait stood.
    let none = c.in-Err-Refused.ensures.refused (ap (λ fault. Err fault) c.in-Err-Refused.field-0-is) in
    inr (ap (λ o. g.O.Sink.content o) none.0
    ∙ behind-refused-whole scripts input wait _ _ c.loop-line.number _ _ _ c.in-Some.line.now
    (lines_of c.in-Some.after.now) c.in-Some.ensures.lines
    (c.loop-line.invariant.behind scripts input wait stood) none.1)

pub returns-in-Err-Refused-clause-part : goal.returns-in-Err-Refused-clause-part
returns-in-Err-Refused-clause-part g c = λ scripts input wait stood.
    behind-part scripts input wait _ _ _ _ _ _ _ c.in-Some.line.now (lines_of c.in-Some.after.now)
    c.in-Some.ensures.lines (c.loop-line.invariant.behind scripts input wait stood) c.in-Err-Refused.ensures.part

-- ---- no memory, or a write that failed

pub returns-in-Err-Memory-clause-part : goal.returns-in-Err-Memory-clause-part
returns-in-Err-Memory-clause-part g c = λ scripts input wait stood.
    behind-part scripts input wait _ _ _ _ _ _ _ c.in-Some.line.now (lines_of c.in-Some.after.now)
    c.in-Some.ensures.lines (c.loop-line.invariant.behind scripts input wait stood) c.in-Err-Memory.ensures.part

pub returns-in-Err-CannotWrite-clause-part : goal.returns-in-Err-CannotWrite-clause-part
returns-in-Err-CannotWrite-clause-part g c = λ scripts input wait stood.
    behind-part scripts input wait _ _ _ _ _ _ _ c.in-Some.line.now (lines_of c.in-Some.after.now)
    c.in-Some.ensures.lines (c.loop-line.invariant.behind scripts input wait stood)
    c.in-Err-CannotWrite.ensures.part

pub returns-in-Err-CannotWrite-clause-less : goal.returns-in-Err-CannotWrite-clause-less
returns-in-Err-CannotWrite-clause-less g c is = λ scripts input wait stood.
    behind-less scripts input wait _ _ _ _ _ _ _ c.in-Some.line.now (lines_of c.in-Some.after.now)
    c.in-Some.ensures.lines (c.loop-line.invariant.behind scripts input wait stood)
    (c.in-Err-CannotWrite.ensures.less (ap (λ fault. Err fault) c.in-Err-CannotWrite.field-0-is))

-- ---- the loop

pub loop-line-preserved : goal.loop-line-preserved
loop-line-preserved g c =
    let before = c.loop-line.invariant in
    record {
      number = omega (arith, c.in-Some.ensures.shorter);
      works = c.in-Ok.ensures.works;
      behind = λ scripts input wait stood.
          behind-next scripts input wait _ _ c.loop-line.number _ _ _ _ _ c.in-Some.line.now
          (lines_of c.in-Some.after.now) c.in-Some.ensures.lines (sym c.is_memory.ensures ∙ c.if-is_memory.false)
          (before.behind scripts input wait stood)
          c.in-Ok.ensures.ok;
      quiet = c.in-Ok.ensures.quiet ∙ before.quiet;
    }

-- ---- behind the last line

pub returns-clause-end : goal.returns-clause-end
returns-clause-end g c = λ scripts input wait stood.
    inr (sym (ap end_of
    (behind-done scripts input wait (lines_of c.args.journal.now) (lines_of c.loop-line.rest.now)
    c.loop-line.number c.loop-line.host _ _ c.in_default.ensures.lines
    (c.loop-line.invariant.behind scripts input wait stood))))

pub returns-clause-whole : goal.returns-clause-whole
returns-clause-whole g c = λ scripts input wait stood.
    inr (behind-done-whole scripts input wait (lines_of c.args.journal.now) (lines_of c.loop-line.rest.now)
    c.loop-line.number c.loop-line.host _ _ c.in_default.ensures.lines
    (c.loop-line.invariant.behind scripts input wait stood))

pub returns-clause-part : goal.returns-clause-part
returns-clause-part g c = λ scripts input wait stood.
    behind-first scripts input wait (lines_of c.args.journal.now) (lines_of c.loop-line.rest.now)
    c.loop-line.number c.loop-line.host _ _ (c.loop-line.invariant.behind scripts input wait stood)
