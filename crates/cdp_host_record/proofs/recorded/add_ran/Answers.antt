use Rattle.std.proofs.Common.{◌==◌, ◌||◌, not}
use Rattle.cdp_journal.specs.Lines.{Run}
use Rattle.cdp_host_record.specs.Records.{line_if}
use Rattle.cdp_host_record.proofs.CallLemmas.{adds-last, adds-none}
use Rattle.cdp_host_record.proofs.recorded.add_ran.Goals as goal

pub returns-then-some_for_memory : goal.returns-then-some_for_memory
returns-then-some_for_memory c =
    adds-last c.args.lost.now c.some_for_memory.result
    (line_if (not (c.args.steps == 0) || c.args.is_owed) (Run c.args.steps c.args.moment)) c.args.journal.now
    c.add_memory.new.journal c.some_for_memory.ensures c.if-some_for_memory.true c.add_memory.ensures

pub returns-else-some_for_memory : goal.returns-else-some_for_memory
returns-else-some_for_memory c =
    adds-none c.args.lost.now c.some_for_memory.result c.is_told.result (not (c.args.steps == 0) || c.args.is_owed)
    (Run c.args.steps c.args.moment) c.args.journal.now c.add_run.new.journal c.some_for_memory.ensures
    c.if-some_for_memory.false c.is_told.ensures c.add_run.ensures
