use Rattle.std.proofs.Common.{rules, ap, w64}
use Rattle.std.specs.Fmt.{signed_decimal}
use Rattle.std.specs.Prelude.{FitsSigned}
use Rattle.std.proofs.lemmas.Int.{to_z-of_z}
use Rattle.cdp_json.specs.Compact.{string_text}
use Rattle.cdp_json.proofs.PieceLemmas.{further, on-written, written-as}
use Rattle.remote_objects.proofs.RemoteTextLemmas.{number-text}
use Rattle.remote_objects.proofs.remote_text.write_number.Goals as goal

pub returns : goal.returns
returns c =
    let z = c.args.z in
    let fits : FitsSigned w64 z = search rules in
    let same = to_z-of_z w64 z fits in
    on-written c.put-3.result c.put-3.ensures.put
    (λ e. written-as (number-text z)
    (further c.in_ok-put.ensures.put
    (further (written-as (ap (λ n. string_text (signed_decimal n)) same) c.in_ok-quoted_number.ensures)
    (further c.in_ok-put-2.ensures.put
    (further (written-as (ap signed_decimal same) c.in_ok-number.ensures.put) e)))))
