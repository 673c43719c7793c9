use Rattle.std.proofs.Common.{rules, ap, w64}
use Rattle.std.specs.Fmt.{signed_decimal}
use Rattle.std.specs.Prelude.{FitsSigned}
use Rattle.std.proofs.lemmas.Int.{to_z-of_z}
use Rattle.js_heap.specs.declared.value.Value.TheVariants as values
use Rattle.cdp_json.specs.Compact.{string_text}
use Rattle.cdp_json.proofs.PieceLemmas.{on-written, written-as}
use Rattle.remote_objects.specs.Previews.{shortened}
use Rattle.remote_objects.proofs.PreviewTextLemmas.{shown-as, short-null, short-undefined}
use Rattle.remote_objects.proofs.describer.Describer.write_value_text.Goals as goal

pub returns-in-Undefined : goal.returns-in-Undefined
returns-in-Undefined g c =
    let w = g.W.World.world c.args.self.now.names.now c.args.self.now.world.now in
    on-written c.put.result c.put.ensures.put
    (λ e. shown-as w c.args.value values.Undefined c.in-Undefined.is (written-as short-undefined e))

pub returns-in-Null : goal.returns-in-Null
returns-in-Null g c =
    let w = g.W.World.world c.args.self.now.names.now c.args.self.now.world.now in
    on-written c.put-in-Null.result c.put-in-Null.ensures.put
    (λ e. shown-as w c.args.value values.Null c.in-Null.is (written-as short-null e))

pub returns-in-Bool : goal.returns-in-Bool
returns-in-Bool g c =
    let w = g.W.World.world c.args.self.now.names.now c.args.self.now.world.now in
    on-written c.write_shown_truth.result c.write_shown_truth.ensures
    (λ e. shown-as w c.args.value (values.Bool c.in-Bool.truth) c.in-Bool.is e)

pub returns-in-Number : goal.returns-in-Number
returns-in-Number g c =
    let w = g.W.World.world c.args.self.now.names.now c.args.self.now.world.now in
    let z = c.in-Number.z in
    let fits : FitsSigned w64 z = search rules in
    on-written c.write_shown_number.result c.write_shown_number.ensures
    (λ e. shown-as w c.args.value (values.Number z) c.in-Number.is
    (written-as (ap (λ n. string_text (shortened (signed_decimal n))) (to_z-of_z w64 z fits)) e))

pub returns-in-Text : goal.returns-in-Text
returns-in-Text g c =
    let w = g.W.World.world c.args.self.now.names.now c.args.self.now.world.now in
    on-written c.write_short.result c.write_short.ensures
    (λ e. shown-as w c.args.value (values.Text c.in-Text.a) c.in-Text.is
    (written-as (ap (λ us. string_text (shortened us)) c.units_at.ensures) e))

pub returns-in-Object : goal.returns-in-Object
returns-in-Object g c =
    let w = g.W.World.world c.args.self.now.names.now c.args.self.now.world.now in
    on-written c.write_description.result c.write_description.ensures
    (λ e. shown-as w c.args.value (values.Object c.in-Object.a) c.in-Object.is e)
