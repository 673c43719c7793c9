use Rattle.std.proofs.Common.{rules, ap, w64}
use Rattle.std.specs.Fmt.{signed_decimal}
use Rattle.std.specs.Prelude.{FitsSigned}
use Rattle.std.proofs.lemmas.Int.{to_z-of_z}
use Rattle.cdp_json.specs.Compact.{string_text}
use Rattle.cdp_json.proofs.PieceLemmas.{on-written, written-as}
use Rattle.remote_objects.proofs.PreviewTextLemmas.{short-signed}
use Rattle.remote_objects.proofs.preview_text.write_shown_number.Goals as goal

pub returns : goal.returns
returns c =
    let z = c.args.z in
    let fits : FitsSigned w64 z = search rules in
    let same = to_z-of_z w64 z fits in
    on-written c.quoted_number.result c.quoted_number.ensures
    (λ e. written-as (short-signed z (search rules))
    (written-as (ap (λ n. string_text (signed_decimal n)) same) e))
