use Rattle.std.proofs.Common.{true}
use Rattle.cdp_journal.specs.Lines.{Attach}
use Rattle.cdp_journal.proofs.TellableLemmas.{attach-tellable}
use Rattle.cdp_host_record.proofs.HeldLemmas.{adds-one, adds-as}
use Rattle.cdp_host_record.proofs.record.Record.attach.Goals as goal

pub returns : goal.returns
returns c =
    adds-one true Attach c.args.self.now c.add.new.self attach-tellable
    (adds-as c.attach_line.result.now _ c.args.self.now c.add.new.self c.attach_line.ensures c.add.ensures)
