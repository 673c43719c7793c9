use Rattle.std.proofs.Common.{true}
use Rattle.cdp_journal.specs.Lines.{Shut}
use Rattle.cdp_journal.proofs.TellableLemmas.{shut-tellable}
use Rattle.cdp_host_record.proofs.HeldLemmas.{adds-one, adds-as}
use Rattle.cdp_host_record.proofs.record.Record.shut.Goals as goal

pub returns : goal.returns
returns c =
    adds-one true Shut c.args.self.now c.add.new.self shut-tellable
    (adds-as c.shut_line.result.now _ c.args.self.now c.add.new.self c.shut_line.ensures c.add.ensures)
