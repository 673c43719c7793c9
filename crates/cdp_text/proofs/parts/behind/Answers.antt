use Rattle.cdp_text.proofs.PartsLemmas.{behind-strip, behind-parts, behind-lacks}
use Rattle.cdp_text.proofs.parts.behind.Goals as goal

pub returns : goal.returns
returns c =
    let stripped = c.strip_prefix.ensures.cases in
    record {
      value = behind-strip c.args.front.now c.args.text.now c.strip_prefix.result stripped;
      parts = behind-parts c.args.front.now c.args.text.now c.strip_prefix.result stripped;
      none = behind-lacks c.args.front.now c.args.text.now c.strip_prefix.result stripped;
    }
