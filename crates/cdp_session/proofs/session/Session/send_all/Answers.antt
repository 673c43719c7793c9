use Rattle.std.proofs.Common.{rules, ◌≡◌, ◌+◌, ◌++◌, ◌∷◌, [], false, map, take, drop, length, string_bytes, ap, sym, ◌∙◌, append_assoc}
use Rattle.std.specs.Vec.Iter.{into_iter_items, into_iter_len}
use Rattle.std.proofs.lemmas.Iterator.Adapters.{YieldsList-from_vec}
use Rattle.std.proofs.lemmas.Iterator.Consumers.{YieldsList-so_far, YieldsList-turn}
use Rattle.std.proofs.lemmas.List.{map-append, map-id, take_more, take-append-drop}
use Rattle.cdp_session_messages.specs.Outboxes.{fits}
use Rattle.cdp_session_messages.proofs.OutboxSizes.{unfit-as}
use Rattle.cdp_session.proofs.session.Session.send_all.Goals as goal

pub returns-in_err-send-clause-over : goal.returns-in_err-send-clause-over
returns-in_err-send-clause-over c = λ is.
    let unfit : fits (c.loop-text.self.outbox ++ string_bytes c.in-Some.text ∷ []) ≡ false = search rules in
    let texts = c.args.texts.items in
    let yielded = c.loop-text.yielded in
    let left : into_iter_items c.into_iter-text-iterator.result ≡ texts = search rules in
    let many : into_iter_len c.into_iter-text-iterator.result ≡ length texts = search rules in
    let yields = YieldsList-from_vec texts left many in
    let first = YieldsList-so_far yields yielded _ c.loop-text.yielded_by in
    let turn = YieldsList-turn yields yielded _ c.loop-text.yielded_by c.next.result c.next.new.self c.in-Some.text
    c.in-Some.is c.next.ensures.steps in
    let rest = drop (length yielded + 1) texts in
    let all : texts ≡ (yielded ++ c.in-Some.text ∷ []) ++ rest =
    sym (take-append-drop (length yielded + 1) texts)
    ∙ ap (λ xs. xs ++ rest)
    (take_more texts (length yielded) c.in-Some.text turn.0
    ∙ ap (λ x. take (length yielded) texts ++ x ∷ []) (sym turn.1))
    ∙ ap (λ xs. (xs ++ c.in-Some.text ∷ []) ++ rest) (sym first ∙ map-id yielded) in
    let waits = ap (λ x. x.outbox) c.loop-text.invariant in
    unfit-as _ (map string_bytes rest) _
    (ap (λ xs. c.args.self.now.outbox ++ map string_bytes xs) all
    ∙ ap (λ xs. c.args.self.now.outbox ++ xs) (map-append string_bytes (yielded ++ c.in-Some.text ∷ []) rest)
    ∙ sym (append_assoc c.args.self.now.outbox (map string_bytes (yielded ++ c.in-Some.text ∷ []))
    (map string_bytes rest))
    ∙ ap (λ xs. (c.args.self.now.outbox ++ xs) ++ map string_bytes rest)
    (map-append string_bytes yielded (c.in-Some.text ∷ []))
    ∙ ap (λ xs. xs ++ map string_bytes rest)
    (sym (append_assoc c.args.self.now.outbox (map string_bytes yielded) (string_bytes c.in-Some.text ∷ [])))
    ∙ ap (λ xs. (xs ++ string_bytes c.in-Some.text ∷ []) ++ map string_bytes rest) (sym waits)) unfit
