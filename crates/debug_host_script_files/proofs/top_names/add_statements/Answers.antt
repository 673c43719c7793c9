use Rattle.std.proofs.Common.{◌∙◌}
use Rattle.debug_host_script_files.proofs.TopNameLemmas.{statement_next}
use Rattle.debug_host_script_files.proofs.top_names.add_statements.Goals as goal

pub loop-item-preserved : goal.loop-item-preserved
loop-item-preserved c =
    statement_next c.args.items.now c.loop-item.item-index c.item-item.result c.loop-item-test.true c.item-item.is
    c.loop-item.names.items c.add_statement.new.names.items c.in_ok-add_statement.ensures
    ∙ c.loop-item.invariant
