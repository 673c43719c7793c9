use Rattle.std.proofs.Common.{ap, sym, ◌∙◌, List, ℕ, length}
use Rattle.std.specs.Str.{str_eq_ignore_ascii_case}
use Rattle.cdp_door.proofs.PartLemmas.{others-tell, others-within}
use Rattle.cdp_door.proofs.fields.first_in.Goals as goal

pub loop-span-preserved : goal.loop-span-preserved
loop-span-preserved c =
    let is = c.in-Some.ensures.cases.0 in
    record {
      left =
          c.loop-span.invariant.left
          ∙ others-tell c.args.bytes.now c.args.name.now c.in-Some.span.now c.in-Some.others.now c.loop-span.rest.now is
          (ap (λ (text : List ℕ). str_eq_ignore_ascii_case text c.args.name.now) (sym c.of.ensures)
          ∙ sym c.is_same.ensures
          ∙ c.if-is_same.false);
      within =
          others-within (length c.args.bytes.now) c.in-Some.span.now c.in-Some.others.now c.loop-span.rest.now is
          c.loop-span.invariant.within;
    }
