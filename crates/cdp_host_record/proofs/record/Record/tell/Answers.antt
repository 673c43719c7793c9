use Rattle.std.proofs.Common.{◌∙◌, false, sym, true, arith}
use Rattle.cdp_journal.specs.Lines.{Tell}
use Rattle.cdp_host_record.proofs.HeldLemmas.{adds-one, made-adds}
use Rattle.cdp_host_record.proofs.record.Record.tell.Goals as goal

pub returns-then-tells_text : goal.returns-then-tells_text
returns-then-tells_text c =
    adds-one true (Tell c.args.session c.args.text.now) c.args.self.now c.add_made-then-tells_text.new.self
    (sym (c.tells_text.ensures c.args.session (omega (arith, c.ranges.session))) ∙ c.if-tells_text.true)
    (made-adds c.tell_line.result _ c.args.self.now c.add_made-then-tells_text.new.self c.tell_line.ensures c.add_made-then-tells_text.ensures)

pub returns-else-tells_text : goal.returns-else-tells_text
returns-else-tells_text c =
    adds-one false (Tell c.args.session c.args.text.now) c.args.self.now c.end.new.self
    (sym (c.tells_text.ensures c.args.session (omega (arith, c.ranges.session))) ∙ c.if-tells_text.false) c.end.ensures
