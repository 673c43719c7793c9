use Rattle.std.specs.Prelude.{option_copied}
use Rattle.js_heap.specs.ScratchSpaces.{copied_world}
use Rattle.js_parser.specs.NodeTexts.{node_text}
use Rattle.remote_objects.specs.Views.{sight_of}
use Rattle.cdp_session.specs.Evaluations.{described_over}
use Rattle.cdp_session.proofs.ReplyLemmas.{properties-held, properties-told}
use Rattle.cdp_session.proofs.describing.properties_text.Goals as goal

pub returns : goal.returns
returns c =
    let s = described_over c.describer_of-describer.result in
    let o = c.args.opened.now.workspace in
    let t = sight_of node_text (copied_world o.world o.behind.scratch) c.args.scripts.now c.args.session in
    let g = option_copied c.group_of.result in
    let object = c.args.object.now in
    record {
      made =
          properties-told s t c.args.detail g object.group object.target c.args.handles.now
          c.describer_of-describer.ensures c.group_of.ensures c.in_ok-pen.ensures c.in_ok-put.ensures.put
          c.in_ok-write_descriptors.ensures.text c.in_ok-put-2.ensures.put c.finish.ensures;
      handles =
          properties-held s t c.args.detail g object.group object.target c.args.handles.now _
          c.describer_of-describer.ensures c.group_of.ensures c.in_ok-write_descriptors.ensures.handles;
    }
