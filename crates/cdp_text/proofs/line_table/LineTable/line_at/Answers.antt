use Rattle.std.proofs.Common.{Ok, Err, ◌-◌, ◌<◌, ◌∙◌, arith}
use Rattle.cdp_text.proofs.LineTableLemmas.{IsLineOf, searched_line}
use Rattle.cdp_text.proofs.line_table.LineTable.line_at.Goals as goal

begins : (c : goal.In-Ok) → IsLineOf c.args.u.now c.args.self.now c.args.offset c.in-Ok.line
begins c =
    searched_line c.args.u.now c.args.self.now c.deref.result.now c.args.offset (Ok c.in-Ok.line) c.requires.of_text
    (c.deref.ensures.value ∙ c.self.view_is) c.requires.within c.in-Ok.ensures.position

holds : (c : goal.In-Err)
    → (0 < c.in-Err.next) × IsLineOf c.args.u.now c.args.self.now c.args.offset (c.in-Err.next - 1)
holds c =
    searched_line c.args.u.now c.args.self.now c.deref.result.now c.args.offset (Err c.in-Err.next) c.requires.of_text
    (c.deref.ensures.value ∙ c.self.view_is) c.requires.within c.in-Err.ensures.position

pub overflow_sub-result : goal.overflow_sub-result
overflow_sub-result c = omega (arith, (holds c).0)

pub returns-in-Ok : goal.returns-in-Ok
returns-in-Ok c = record { in_table = (begins c).in_table; from = (begins c).from; placed = (begins c).placed }

pub returns-in-Err : goal.returns-in-Err
returns-in-Err c = record { in_table = (holds c).1.in_table; from = (holds c).1.from; placed = (holds c).1.placed }
