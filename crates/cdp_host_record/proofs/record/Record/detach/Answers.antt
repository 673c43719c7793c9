use Rattle.std.proofs.Common.{true, arith}
use Rattle.cdp_journal.specs.Lines.{Detach}
use Rattle.cdp_journal.proofs.TellableLemmas.{detach-tellable}
use Rattle.cdp_host_record.proofs.HeldLemmas.{adds-one, made-adds}
use Rattle.cdp_host_record.proofs.record.Record.detach.Goals as goal

pub returns : goal.returns
returns c =
    adds-one true (Detach c.args.session) c.args.self.now c.add_made-2.new.self
    (detach-tellable c.args.session (omega (arith, c.ranges.session)))
    (made-adds c.detach_line.result _ c.args.self.now c.add_made-2.new.self c.detach_line.ensures c.add_made-2.ensures)
