use Rattle.std.proofs.Common.{true, arith}
use Rattle.cdp_journal.specs.Lines.{Take}
use Rattle.cdp_journal.proofs.TellableLemmas.{take-tellable}
use Rattle.cdp_host_record.proofs.HeldLemmas.{adds-one, made-adds}
use Rattle.cdp_host_record.proofs.record.Record.take.Goals as goal

pub returns : goal.returns
returns c =
    adds-one true (Take c.args.session) c.args.self.now c.add_made-2.new.self
    (take-tellable c.args.session (omega (arith, c.ranges.session)))
    (made-adds c.take_line.result _ c.args.self.now c.add_made-2.new.self c.take_line.ensures c.add_made-2.ensures)
