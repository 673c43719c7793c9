use Rattle.js_machine_actions.proofs.LoopLemmas.{same-at, texts-step, texts-stop}
use Rattle.js_machine_actions.proofs.built_ins.make_texts.Goals as goal

pub returns-in_err-value : goal.returns-in_err-value
returns-in_err-value g c =
    texts-stop c.args.texts.now c.loop-i.i c.in_ok-units.units c.loop-i.values.items
    (g.W.World.world c.args.names.now c.args.world.now) (g.W.World.world c.args.names.now c.loop-i.world)
    (g.W.World.world c.args.names.now c.make_text.new.world)
    c.from_residual-in_err-value.result c.in_err-value.field-0.0 c.loop-i-test.true
    (same-at c.args.texts.now c.loop-i.i c.in_ok-units.units c.index-texts-i.result c.in_ok-units.ensures
    c.index-texts-i.is)
    c.loop-i.invariant c.in_err-value.ensures c.from_residual-in_err-value.ensures.1

pub loop-i-preserved : goal.loop-i-preserved
loop-i-preserved g c =
    texts-step c.args.texts.now c.loop-i.i c.in_ok-units.units c.loop-i.values.items c.push.new.self.items
    c.in_ok-value.value
    (g.W.World.world c.args.names.now c.args.world.now) (g.W.World.world c.args.names.now c.loop-i.world)
    (g.W.World.world c.args.names.now c.make_text.new.world) c.loop-i-test.true
    (same-at c.args.texts.now c.loop-i.i c.in_ok-units.units c.index-texts-i.result c.in_ok-units.ensures
    c.index-texts-i.is)
    c.loop-i.invariant c.in_ok-push.ensures.items c.in_ok-value.ensures
