use Rattle.std.proofs.Common.{◌∙◌, false, sym, true}
use Rattle.cdp_journal.specs.Lines.{Run}
use Rattle.cdp_host_record.proofs.HeldLemmas.{adds-one, made-adds}
use Rattle.cdp_host_record.proofs.record.Record.run.Goals as goal

pub returns-then-tells_run : goal.returns-then-tells_run
returns-then-tells_run c =
    adds-one true (Run c.args.steps c.args.moment) c.args.self.now c.add_made-then-tells_run.new.self
    (sym c.tells_run.ensures ∙ c.if-tells_run.true)
    (made-adds c.run_line.result _ c.args.self.now c.add_made-then-tells_run.new.self c.run_line.ensures c.add_made-then-tells_run.ensures)

pub returns-else-tells_run : goal.returns-else-tells_run
returns-else-tells_run c =
    adds-one false (Run c.args.steps c.args.moment) c.args.self.now c.end.new.self
    (sym c.tells_run.ensures ∙ c.if-tells_run.false) c.end.ensures
