use Rattle.std.proofs.Common.{sym, arith}
use Rattle.cdp_json.proofs.PieceLemmas.{further, on-written, written-as}
use Rattle.cdp_json.proofs.PlainLemmas.{quoted-decimal}
use Rattle.cdp_json.proofs.pen.Pen.quoted_natural.Goals as goal

pub returns : goal.returns
returns c =
    on-written c.put-2.result c.put-2.ensures.put
    (λ e. written-as (sym (quoted-decimal c.args.number (omega (arith, c.ranges.number))))
    (further c.in_ok-put.ensures.put (further c.in_ok-natural.ensures.put e)))
