use Rattle.std.proofs.Common.{rules, ◌≡◌, ◌∷◌, [], ◌++◌, Ok}
use Rattle.js_lexer.specs.State.{tokens_left}
use Rattle.js_parser.proofs.LexedLemmas.{Reads, begins, lent, one_more}
use Rattle.js_parser.proofs.lexing.read_tokens.Goals as goal

pub loop-item-init : goal.loop-item-init
loop-item-init c =
    rw (c.new-tokens.ensures.items, c.into_iter-item-iterator.ensures.into_iter_gives)
    (tt, tt, begins (tokens_left c.args.items))

pub loop-item-preserved : goal.loop-item-preserved
loop-item-preserved c =
    let left : tokens_left c.loop-item.item-iterator ≡ Ok (lent c.in-Ok.token)
    ∷ tokens_left c.next.new.self = search rules in
    let more : Reads (tokens_left c.args.items) (c.loop-item.tokens.items ++ c.in-Ok.token ∷ [])
    (tokens_left c.next.new.self) = one_more (tokens_left c.args.items) c.loop-item.tokens.items c.in-Ok.token
    (tokens_left c.loop-item.item-iterator) (tokens_left c.next.new.self) c.loop-item.invariant.2 left
    (λ e. c.if-is_last.false (search rules)) in
    rw c.in_ok-push-in-Ok.ensures.items (tt, tt, more)
