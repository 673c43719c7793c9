use Rattle.std.proofs.Common.{rules, ◌≡◌, sym, ◌∙◌}
use Rattle.std.proofs.lemmas.Result.{err_from_is_err_and}
use Rattle.js_lexer.specs.declared.token.TokenKind.TheVariants as kinds
use Rattle.js_parser_language.specs.Tokens.{head_of}
use Rattle.js_parser_readers.specs.Productions.{one_of, names_before}
use Rattle.js_parser_readers.specs.Reading.{name_at, no_state, after, goes_on, ends}
use Rattle.js_parser_readers.specs.Views.{tokens_view}
use Rattle.js_parser_readers.proofs.LeafLemmas.{name_short, shorter}
use Rattle.js_parser_readers.proofs.LoopStepLemmas.{elements_begin, elements_none, elements_fail, elements_more, elements_end, elements_stop, map_push, less_by_view, length_view}
use Rattle.js_parser_readers.proofs.words.names_before.Goals as goal

pub names-init : goal.names-init
unfolding names_before
names-init c =
    rw c.new-names.ensures.items
    (elements_begin (one_of name_at) no_state kinds.RightParenthesis tt (tokens_view c.args.tokens.now))

pub returns-then-is_next : goal.returns-then-is_next
returns-then-is_next c =
    rw c.tail.ensures
    (elements_none (one_of name_at) no_state kinds.RightParenthesis _ _ tt _ c.names.invariant
    (sym c.is_next.ensures ∙ c.if-is_next.true))

pub returns-in_err-name : goal.returns-in_err-name
returns-in_err-name c =
    let p = err_from_is_err_and c.from_residual.result c.from_residual.ensures.1 in
    rw (p.1, p.2)
    (elements_fail (one_of name_at)
    no_state kinds.RightParenthesis _ _ tt _ c.in_err-name.field-0.0 c.names.invariant
    (sym c.is_next.ensures ∙ c.if-is_next.false) c.in_err-name.ensures)

pub names-smaller : goal.names-smaller
names-smaller c =
    less_by_view c.names.rest.now c.in_ok-name.later.now c.tail-rest.result.now c.tail-rest.ensures
    (shorter name_at _ _ _ name_short c.in_ok-name.ensures)

pub names-preserved : goal.names-preserved
names-preserved c =
    let g : after kinds.RightParenthesis (head_of (tokens_view c.in_ok-name.later.now)) ≡ goes_on = search rules in
    rw (c.in_ok-push.ensures.items, map_push, c.tail-rest.ensures)
    (elements_more (one_of name_at) no_state kinds.RightParenthesis _ _ tt _ _ _
    (shorter name_at _ _ _ name_short c.in_ok-name.ensures) c.names.invariant
    (sym c.is_next.ensures ∙ c.if-is_next.false) c.in_ok-name.ensures g)

pub returns-in-Some-Ends : goal.returns-in-Some-Ends
returns-in-Some-Ends c =
    let g : after kinds.RightParenthesis (head_of (tokens_view c.in_ok-name.later.now)) ≡ ends = search rules in
    rw (c.in_ok-push.ensures.items, map_push, c.tail-in-Some-Ends.ensures)
    (elements_end (one_of name_at) no_state kinds.RightParenthesis _ _ tt _ _ _ c.names.invariant
    (sym c.is_next.ensures ∙ c.if-is_next.false) c.in_ok-name.ensures g)

pub returns-in-None : goal.returns-in-None
returns-in-None c =
    rw (← length_view c.in_ok-name.later.now)
    (elements_stop (one_of name_at) no_state kinds.RightParenthesis _ _ tt _ _ _ c.names.invariant
    (sym c.is_next.ensures ∙ c.if-is_next.false) c.in_ok-name.ensures (sym c.in-None.ensures))
