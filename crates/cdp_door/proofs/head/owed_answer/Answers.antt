use Rattle.std.proofs.Common.{length}
use Rattle.cdp_door.proofs.HeadLemmas.{owes-bad}
use Rattle.cdp_door.proofs.head.owed_answer.Goals as goal

pub returns-in-Err : goal.returns-in-Err
returns-in-Err c =
    owes-bad c.args.bytes.now (length c.args.places.now) c.in-Err.field-0 c.answer_without_head-in-Err.result
    c.in-Err.ensures.invalid c.in-Err.ensures.too_many c.requires.room c.requires.short
    c.answer_without_head-in-Err.ensures
