use Rattle.std.proofs.Common.{rules, refl, ap, w64}
use Rattle.std.proofs.lemmas.Int.{to_z-of_z}
use Rattle.std.specs.Prelude.{FitsSigned, option_copied}
use Rattle.js_heap.specs.declared.value.Value.TheVariants as values
use Rattle.cdp_json.specs.Compact.{compact_text}
use Rattle.cdp_json.specs.Parts.{object_of}
use Rattle.cdp_json.proofs.PieceLemmas.{on-written, written-as}
use Rattle.remote_objects.specs.Values.{number_pairs, text_pairs}
use Rattle.remote_objects.specs.Views.{sight_of}
use Rattle.remote_objects.proofs.RemoteTextLemmas.{primitive-kept, primitive-written}
use Rattle.remote_objects.proofs.describer.Describer.write_remote.Goals as goal

pub returns-in-Undefined : goal.returns-in-Undefined
returns-in-Undefined g c =
    let sight = sight_of g.S.FunctionSources.node_text
    (g.W.World.world c.args.self.now.names.now c.args.self.now.world.now)
    c.args.self.now.scripts.now c.args.self.now.session in
    let group = option_copied c.args.group in
    let v = c.args.value in
    let h = c.args.handles.now in
    record {
      text =
          on-written c.write_undefined.result c.write_undefined.ensures
          (λ e. primitive-written sight c.args.detail group v values.Undefined h c.in-Undefined.is refl e);
      handles =
          on-written c.write_undefined.result c.write_undefined.ensures
          (λ e. primitive-kept sight c.args.detail group v values.Undefined h c.in-Undefined.is refl refl);
    }

pub returns-in-Null : goal.returns-in-Null
returns-in-Null g c =
    let sight = sight_of g.S.FunctionSources.node_text
    (g.W.World.world c.args.self.now.names.now c.args.self.now.world.now)
    c.args.self.now.scripts.now c.args.self.now.session in
    let group = option_copied c.args.group in
    let v = c.args.value in
    let h = c.args.handles.now in
    record {
      text =
          on-written c.write_null.result c.write_null.ensures
          (λ e. primitive-written sight c.args.detail group v values.Null h c.in-Null.is refl e);
      handles =
          on-written c.write_null.result c.write_null.ensures
          (λ e. primitive-kept sight c.args.detail group v values.Null h c.in-Null.is refl refl);
    }

pub returns-in-Bool : goal.returns-in-Bool
returns-in-Bool g c =
    let sight = sight_of g.S.FunctionSources.node_text
    (g.W.World.world c.args.self.now.names.now c.args.self.now.world.now)
    c.args.self.now.scripts.now c.args.self.now.session in
    let group = option_copied c.args.group in
    let v = c.args.value in
    let h = c.args.handles.now in
    record {
      text =
          on-written c.write_truth.result c.write_truth.ensures
          (λ e. primitive-written sight c.args.detail group v (values.Bool c.in-Bool.truth) h c.in-Bool.is refl e);
      handles =
          on-written c.write_truth.result c.write_truth.ensures
          (λ e. primitive-kept sight c.args.detail group v (values.Bool c.in-Bool.truth) h c.in-Bool.is refl refl);
    }

pub returns-in-Number : goal.returns-in-Number
returns-in-Number g c =
    let sight = sight_of g.S.FunctionSources.node_text
    (g.W.World.world c.args.self.now.names.now c.args.self.now.world.now)
    c.args.self.now.scripts.now c.args.self.now.session in
    let fits : FitsSigned w64 c.in-Number.z = search rules in
    let group = option_copied c.args.group in
    let v = c.args.value in
    let h = c.args.handles.now in
    record {
      text =
          on-written c.write_number.result c.write_number.ensures
          (λ e. primitive-written sight c.args.detail group v (values.Number c.in-Number.z) h c.in-Number.is refl
          (written-as (ap (λ n. compact_text (object_of (number_pairs n))) (to_z-of_z w64 c.in-Number.z fits)) e));
      handles =
          on-written c.write_number.result c.write_number.ensures
          (λ e. primitive-kept sight c.args.detail group v (values.Number c.in-Number.z) h c.in-Number.is refl refl);
    }

pub returns-in-Text : goal.returns-in-Text
returns-in-Text g c =
    let sight = sight_of g.S.FunctionSources.node_text
    (g.W.World.world c.args.self.now.names.now c.args.self.now.world.now)
    c.args.self.now.scripts.now c.args.self.now.session in
    let group = option_copied c.args.group in
    let v = c.args.value in
    let h = c.args.handles.now in
    record {
      text =
          on-written c.write_text.result c.write_text.ensures
          (λ e. primitive-written sight c.args.detail group v (values.Text c.in-Text.a) h c.in-Text.is refl
          (written-as (ap (λ us. compact_text (object_of (text_pairs us))) c.units_at.ensures) e));
      handles =
          on-written c.write_text.result c.write_text.ensures
          (λ e. primitive-kept sight c.args.detail group v (values.Text c.in-Text.a) h c.in-Text.is refl refl);
    }
