use Rattle.std.proofs.Common.{ap}
use Rattle.cdp_json.specs.Compact.{string_text}
use Rattle.cdp_json.proofs.PieceLemmas.{on-written, written-as}
use Rattle.remote_objects.proofs.PreviewTextLemmas.{short-whole}
use Rattle.remote_objects.proofs.preview_text.write_short.Goals as goal

pub returns-then-units-le-MOST_UNITS : goal.returns-then-units-le-MOST_UNITS
returns-then-units-le-MOST_UNITS c =
    on-written c.quoted.result c.quoted.ensures.put
    (λ e. written-as (ap string_text (short-whole c.args.units.now c.if-units-le-MOST_UNITS.true)) e)
