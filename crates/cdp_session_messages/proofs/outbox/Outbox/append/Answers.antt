use Rattle.std.proofs.Common.{rules, ◌≡◌, ◌++◌, ◌∷◌, [], true, length, map, string_bytes, ap, sym, subst, ◌∙◌, arith}
use Rattle.std.proofs.lemmas.List.{map-append}
use Rattle.cdp_session_messages.specs.Outboxes.{fits}
use Rattle.cdp_session_messages.proofs.OutboxSizes.{bytes-more, outbox-more}
use Rattle.cdp_session_messages.proofs.outbox.Outbox.append.Goals as goal

pub overflow_add-self : goal.overflow_add-self
overflow_add-self c =
    let sized : c.len-size.result ≡ length (string_bytes c.args.text) = search rules in
    let fit = subst (λ xs. fits (xs ++ string_bytes c.args.text ∷ []) ≡ true) (sym c.self.view_is) c.requires in
    let e = bytes-more _ _ c.len-size.result _ c.self.invariant sized fit in
    omega (arith, e)

pub invariant_of-self-2 : goal.invariant_of-self-2
invariant_of-self-2 c =
    let sized : c.len-size.result ≡ length (string_bytes c.args.text) = search rules in
    let fit = subst (λ xs. fits (xs ++ string_bytes c.args.text ∷ []) ≡ true) (sym c.self.view_is) c.requires in
    outbox-more _ _ _ c.len-size.result (string_bytes c.args.text) c.self.invariant
    (ap (map string_bytes) c.in_ok-push.ensures.items
    ∙ map-append string_bytes c.self.inside.texts.items (c.args.text ∷ []))
    sized fit
