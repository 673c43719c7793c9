use Rattle.std.proofs.Common.{map, sym, ap, ◌∙◌}
use Rattle.std.specs.Prelude.{option_copied}
use Rattle.js_heap.specs.World.{read_cell}
use Rattle.js_heap_parts.specs.Parts.{scope_parts}
use Rattle.cdp_json.proofs.PieceLemmas.{on-written}
use Rattle.remote_objects.specs.Descriptors.{descriptor, slots_of}
use Rattle.remote_objects.specs.Slots.{part_slot}
use Rattle.remote_objects.specs.Views.{sight_of}
use Rattle.remote_objects.proofs.DescriptorTextLemmas.{kept-as, listed-as, scope-slots}
use Rattle.remote_objects.proofs.describer.Describer.write_slots.Goals as goal

pub returns-in-Scope : goal.returns-in-Scope
returns-in-Scope g c =
    let sight = sight_of g.S.FunctionSources.node_text
    (g.W.World.world c.args.self.now.names.now c.args.self.now.world.now)
    c.args.self.now.scripts.now c.args.self.now.session in
    let names = c.args.self.now.names.now in
    let w = g.W.World.world names c.args.self.now.world.now in
    let cell = read_cell w c.in-Scope.a in
    let each = descriptor sight c.args.detail (option_copied c.args.group) in
    let h = c.args.handles.now in
    let ps = map part_slot c.of_scope.result in
    let same = ap (map part_slot) (c.of_scope.ensures ∙ ap scope_parts (c.find-in-Scope.ensures names))
    ∙ (scope-slots cell ∙ ap (slots_of w) (sym c.in-Scope.is)) in
    record {
      text =
          on-written c.write_parts.result c.write_parts.ensures.text
          (λ e. listed-as each ps (slots_of w c.args.target) h same e);
      handles =
          on-written c.write_parts.result c.write_parts.ensures.handles
          (λ d. kept-as each ps (slots_of w c.args.target) h c.write_parts.new.handles same d);
    }
