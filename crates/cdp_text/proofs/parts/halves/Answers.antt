use Rattle.cdp_text.proofs.PartsLemmas.{halves-split, halves-parts, halves-lacks}
use Rattle.cdp_text.proofs.parts.halves.Goals as goal

pub returns : goal.returns
returns c =
    let split = c.split_once.ensures.cases in
    record {
      value = halves-split c.args.separator c.args.text.now c.split_once.result c.requires split;
      parts = halves-parts c.args.separator c.args.text.now c.split_once.result c.requires split;
      none = halves-lacks c.args.separator c.args.text.now c.split_once.result c.requires split;
    }
