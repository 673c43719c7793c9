use Rattle.std.proofs.Common.{◌≡◌, take, arith}
use Rattle.cdp_journal.proofs.EscapeLemmas.{after-marked, first-parts, unmarked-text}
use Rattle.cdp_journal.proofs.escapes.first_form.Goals as goal

pub range_from-requires : goal.range_from-requires
range_from-requires c some =
    after-marked c.as_bytes-bytes.result.now c.args.text.now c.in-Some.place c.as_bytes-bytes.ensures.value c.utf8.text
    c.in-Some.ensures.0 c.in-Some.ensures.1

pub returns-in-Some-clause-parts : goal.returns-in-Some-clause-parts
returns-in-Some-clause-parts c =
    let front : c.range.result.now ≡ take c.in-Some.place c.args.text.now = grind (arith, c.range.ensures.value) in
    first-parts c.as_bytes-bytes.result.now c.args.text.now c.in-Some.place c.as_bytes-bytes.ensures.value
    c.in-Some.ensures.0 c.range.result.now c.form_of-form.result.now c.range_from.result.now front
    c.form_of-form.ensures c.range_from.ensures.value

pub returns-in-None-clause-none : goal.returns-in-None-clause-none
returns-in-None-clause-none c =
    unmarked-text c.as_bytes-bytes.result.now c.args.text.now c.as_bytes-bytes.ensures.value c.in-None.ensures
