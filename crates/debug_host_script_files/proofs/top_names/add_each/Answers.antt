use Rattle.std.proofs.Common.{◌∷◌, [], ◌++◌, ap, ◌∙◌}
use Rattle.debug_host_script_files.proofs.TopNameLemmas.{declarator_next}
use Rattle.debug_host_script_files.proofs.top_names.add_each.Goals as goal

pub loop-item-preserved : goal.loop-item-preserved
loop-item-preserved c =
    declarator_next c.args.items.now c.loop-item.item-index c.item-item.result c.loop-item-test.true c.item-item.is
    c.loop-item.names.items c.push.new.self.items
    (c.in_ok-push.ensures.items ∙ ap (λ n. c.loop-item.names.items ++ n ∷ []) c.in_ok-clone.ensures)
    ∙ c.loop-item.invariant
