use Rattle.std.proofs.Common.{rules, ◌≡◌, ◌++◌, ◌∷◌, [], false, map, string_bytes, option_to_list, sym, ◌∙◌, append_assoc}
use Rattle.cdp_session_messages.specs.Outboxes.{fits}
use Rattle.cdp_session_messages.proofs.OutboxSizes.{unfit-as}
use Rattle.cdp_session.specs.Made.{answer_text, reply_text}
use Rattle.cdp_session.proofs.session.Session.reply.Goals as goal

pub returns-in_err-send_all-clause-over : goal.returns-in_err-send_all-clause-over
returns-in_err-send_all-clause-over c = λ is.
    let waits = c.args.self.now.outbox in
    let before = map string_bytes c.args.done.before.items in
    let more = reply_text c.args.id (answer_text c.args.done.answer) ∷ map string_bytes
    (option_to_list c.args.done.event) in
    let unfit : fits (waits ++ before) ≡ false = search rules in
    unfit-as _ more _ (sym (append_assoc waits before more)) unfit

pub returns-in_err-send-clause-over : goal.returns-in_err-send-clause-over
returns-in_err-send-clause-over c = λ is.
    let waits = c.args.self.now.outbox in
    let before = map string_bytes c.args.done.before.items in
    let text = reply_text c.args.id (answer_text c.args.done.answer) in
    let event = map string_bytes (option_to_list c.args.done.event) in
    let unfit : fits ((waits ++ before) ++ text ∷ []) ≡ false = search rules in
    unfit-as _ event _
    (sym (append_assoc (waits ++ before) (text ∷ []) event ∙ append_assoc waits before (text ∷ event))) unfit
