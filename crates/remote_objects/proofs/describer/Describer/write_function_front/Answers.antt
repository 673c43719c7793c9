use Rattle.std.proofs.Common.{codes, ap, ◌∙◌}
use Rattle.cdp_json.proofs.PieceLemmas.{further, on-written, written-as}
use Rattle.remote_objects.specs.Values.{function_text}
use Rattle.remote_objects.specs.Views.{sight_of}
use Rattle.remote_objects.specs.Written.{front_of}
use Rattle.remote_objects.proofs.RemoteTextLemmas.{function-front}
use Rattle.remote_objects.proofs.describer.Describer.write_function_front.Goals as goal

pub returns : goal.returns
returns g c =
    let sight = sight_of g.S.FunctionSources.node_text
    (g.W.World.world c.args.self.now.names.now c.args.self.now.world.now)
    c.args.self.now.scripts.now c.args.self.now.session in
    on-written c.quoted.result c.quoted.ensures.put
    (λ e. written-as
    (function-front c.as_slice.result.now
    ∙ ap (front_of (codes "Function"))
    (c.as_slice.ensures
    ∙ (c.in_ok-source.ensures ∙ ap (function_text sight c.args.function.now.code) c.in_ok-name.ensures)))
    (further c.in_ok-put.ensures.put e))
