use Rattle.std.proofs.Common.{rules, ◌≡◌, ◌<◌, ◌≤◌, ◌++◌, ◌∷◌, [], false, map, string_bytes, length, ap, ◌∙◌, arith}
use Rattle.std.proofs.lemmas.List.{length-map}
use Rattle.cdp_session_messages.specs.Outboxes.{fits, most_texts}
use Rattle.cdp_session_messages.proofs.OutboxSizes.{bytes-below, room-few, room-full}
use Rattle.cdp_session_messages.proofs.outbox.Outbox.has_room.Goals as goal
use Rattle.std.proofs.lemmas.Bool.{le-ltb}

pub overflow_sub-result : goal.overflow_sub-result
overflow_sub-result c = bytes-below _ _ c.self.invariant

pub returns-then-len-lt-MOST_TEXTS : goal.returns-then-len-lt-MOST_TEXTS
returns-then-len-lt-MOST_TEXTS c =
    let sized : c.len.result ≡ length c.self.inside.texts.items = search rules in
    let n = length-map c.self.inside.texts.items string_bytes in
    let few : length (map string_bytes c.self.inside.texts.items) < most_texts = omega
    (arith, n, sized, c.if-len-lt-MOST_TEXTS.true) in
    λ text is.
    room-few (map string_bytes c.self.inside.texts.items) c.self.inside.bytes c.args.size text c.self.invariant few is
    ∙ ap (λ xs. fits (xs ++ text ∷ [])) c.self.view_is

pub returns-else-len-lt-MOST_TEXTS : goal.returns-else-len-lt-MOST_TEXTS
returns-else-len-lt-MOST_TEXTS c =
    let sized : c.len.result ≡ length c.self.inside.texts.items = search rules in
    let n = length-map c.self.inside.texts.items string_bytes in
    let many : most_texts ≤ length (map string_bytes c.self.inside.texts.items) = omega
    (arith, n, sized, c.if-len-lt-MOST_TEXTS.false) in
    λ text is.
    room-full (map string_bytes c.self.inside.texts.items) text _
    (le-ltb c.len.result most_texts c.if-len-lt-MOST_TEXTS.false) many
    ∙ ap (λ xs. fits (xs ++ text ∷ [])) c.self.view_is
