use Rattle.std.proofs.Common.{rules, sym, ap, w64}
use Rattle.std.specs.Fmt.{signed_decimal}
use Rattle.std.specs.Prelude.{FitsSigned}
use Rattle.std.proofs.lemmas.Int.{to_z-of_z}
use Rattle.cdp_json.proofs.PieceLemmas.{further, on-written, written-as}
use Rattle.cdp_json.proofs.PlainLemmas.{quoted-signed}
use Rattle.cdp_json.proofs.pen.Pen.quoted_number.Goals as goal

pub returns : goal.returns
returns c =
    let fits : FitsSigned w64 c.args.number = search rules in
    on-written c.put-2.result c.put-2.ensures.put
    (λ e. written-as (sym (quoted-signed c.args.number (search rules)))
    (further c.in_ok-put.ensures.put
    (further (written-as (ap signed_decimal (to_z-of_z w64 c.args.number fits)) c.in_ok-number.ensures.put) e)))
