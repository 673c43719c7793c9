use Rattle.std.proofs.Common.{rules, string_bytes, ◌∙◌}
use Rattle.cdp_journal.specs.Escapes.{escaped}
use Rattle.cdp_journal.proofs.EscapeLemmas.{push-escaped}
use Rattle.cdp_journal.proofs.escapes.push_escaped.Goals as goal

pub loop-plain-preserved : goal.loop-plain-preserved
loop-plain-preserved c = record {
  utf8 = search rules;
  to = rw (c.in_ok-push_str-2.ensures.bytes, c.in_ok-push_str.ensures.bytes)
      (push-escaped (string_bytes c.loop-plain.line) c.in-Some.plain.now c.in-Some.form.now
      (escaped c.in-Some.after.now) (escaped c.loop-plain.rest.now) c.in-Some.ensures.parts
      ∙ c.loop-plain.invariant.to);
}
