use Rattle.std.proofs.Common.{rules, sym, ◌∙◌, string_bytes}
use Rattle.cdp_journal.proofs.UnescapeLemmas.{read-start, read-none, read-next, read-end, unread-ends}
use Rattle.cdp_journal.proofs.escapes.unescape.Goals as goal

pub returns-then-has_line_end : goal.returns-then-has_line_end
returns-then-has_line_end c = sym (unread-ends c.args.written.now (sym c.has_line_end.ensures ∙ c.if-has_line_end.true))

pub loop-plain-init : goal.loop-plain-init
loop-plain-init c = record {
  utf8 = search rules;
  to =
      rw c.new-text.ensures.bytes
      (read-start c.args.written.now (sym c.has_line_end.ensures ∙ c.if-has_line_end.false));
}

pub returns-in_default-read_form : goal.returns-in_default-read_form
returns-in_default-read_form c =
    sym (read-none c.args.written.now (string_bytes c.loop-plain.text)
    c.loop-plain.rest.now c.in-Some.plain.now c.in-Some.form.now c.in-Some.ensures.parts.0 c.in-Some.ensures.parts.1
    c.in_default-read_form.ensures.none c.loop-plain.invariant.to)

pub loop-plain-preserved : goal.loop-plain-preserved
loop-plain-preserved c = record {
  utf8 = search rules;
  to = rw (c.in_ok-push.ensures.bytes, c.in_ok-push_str.ensures.bytes)
      (read-next c.args.written.now (string_bytes c.loop-plain.text)
      c.loop-plain.rest.now c.in-Some.plain.now c.in-Some.form.now c.in-Some-read_form.after.now _ _ _
      c.in-Some.ensures.parts.0 c.in-Some.ensures.parts.1
      c.in-Some-read_form.ensures.parts.2 c.in-Some-read_form.ensures.parts.3 c.loop-plain.invariant.to);
}

pub returns : goal.returns
returns c =
    rw c.in_ok-push_str-2.ensures.bytes
    (read-end c.args.written.now (string_bytes c.loop-plain.text)
    c.loop-plain.rest.now c.in_default.ensures.none c.loop-plain.invariant.to)
