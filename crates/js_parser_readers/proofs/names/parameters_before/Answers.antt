use Rattle.std.proofs.Common.{rules, ◌≡◌, [], sym, ◌∙◌}
use Rattle.std.proofs.lemmas.Result.{err_from_is_err_and}
use Rattle.js_lexer.specs.declared.token.TokenKind.TheVariants as kinds
use Rattle.js_parser_language.specs.Tokens.{head_of}
use Rattle.js_parser_readers.specs.Reading.{after, goes_on, ends, fresh_name, with_name}
use Rattle.js_parser_readers.specs.Views.{tokens_view}
use Rattle.js_parser_readers.proofs.LoopLemmas.{elements_end, elements_fail, elements_stop}
use Rattle.js_parser_readers.proofs.ParameterLemmas.{parameters_shorten, parameters_go_on, parameters_end_after, less_by_view}
use Rattle.js_parser_readers.proofs.names.parameters_before.Goals as goal
use Rattle.js_parser_readers.proofs.LoopStepLemmas.{length_view}

pub returns-then-is_next-clause-gives : goal.returns-then-is_next-clause-gives
returns-then-is_next-clause-gives c =
    rw (c.from_vec.ensures, c.tail.ensures)
    (elements_end fresh_name with_name kinds.RightParenthesis [] (tokens_view c.args.tokens.now)
    c.parameters.parameters.items c.parameters.names (tokens_view c.parameters.rest.now)
    c.parameters.invariant.reads (sym c.is_next.ensures ∙ c.if-is_next.true))

pub returns-in_err-name-clause-gives : goal.returns-in_err-name-clause-gives
returns-in_err-name-clause-gives c =
    let p = err_from_is_err_and c.from_residual.result c.from_residual.ensures.1 in
    rw (p.1, p.2)
    (elements_fail fresh_name with_name kinds.RightParenthesis [] (tokens_view c.args.tokens.now)
    c.parameters.parameters.items c.parameters.names (tokens_view c.parameters.rest.now)
    c.in_err-name.field-0.0 c.parameters.invariant.reads (sym c.is_next.ensures ∙ c.if-is_next.false)
    c.in_err-name.ensures)

pub parameters-smaller : goal.parameters-smaller
parameters-smaller c =
    less_by_view c.parameters.rest.now c.in_ok-name.later.now c.tail-rest.result.now c.tail-rest.ensures
    (parameters_shorten c.parameters.names (tokens_view c.parameters.rest.now) c.in_ok-name.name.now
    (tokens_view c.in_ok-name.later.now) c.in_ok-name.ensures)

pub parameters-preserved : goal.parameters-preserved
parameters-preserved c =
    let g : after kinds.RightParenthesis (head_of (tokens_view c.in_ok-name.later.now)) ≡ goes_on = search rules in
    rw (c.in_ok-push.ensures.items, c.in_ok-from_slice.ensures, c.in_ok-insert.ensures.taken, c.tail-rest.ensures)
    (parameters_go_on (tokens_view c.args.tokens.now) c.parameters.parameters.items c.parameters.names
    (tokens_view c.parameters.rest.now) c.in_ok-name.name.now (tokens_view c.in_ok-name.later.now)
    c.parameters.invariant (sym c.is_next.ensures ∙ c.if-is_next.false) c.in_ok-name.ensures g)

pub returns-in-Some-Ends-clause-gives : goal.returns-in-Some-Ends-clause-gives
returns-in-Some-Ends-clause-gives c =
    let g : after kinds.RightParenthesis (head_of (tokens_view c.in_ok-name.later.now)) ≡ ends = search rules in
    let p = parameters_end_after (tokens_view c.args.tokens.now) c.parameters.parameters.items c.parameters.names
    (tokens_view c.parameters.rest.now) c.in_ok-name.name.now (tokens_view c.in_ok-name.later.now)
    c.parameters.invariant (sym c.is_next.ensures ∙ c.if-is_next.false) c.in_ok-name.ensures g in
    rw (
      c.from_vec-in-Some-Ends.ensures,
      c.in_ok-push.ensures.items,
      c.in_ok-from_slice.ensures,
      c.tail-in-Some-Ends.ensures,
    )
    p.0

pub returns-in-Some-Ends-clause-names : goal.returns-in-Some-Ends-clause-names
returns-in-Some-Ends-clause-names c =
    let g : after kinds.RightParenthesis (head_of (tokens_view c.in_ok-name.later.now)) ≡ ends = search rules in
    let p = parameters_end_after (tokens_view c.args.tokens.now) c.parameters.parameters.items c.parameters.names
    (tokens_view c.parameters.rest.now) c.in_ok-name.name.now (tokens_view c.in_ok-name.later.now)
    c.parameters.invariant (sym c.is_next.ensures ∙ c.if-is_next.false) c.in_ok-name.ensures g in
    rw (
      c.from_vec-in-Some-Ends.ensures,
      c.in_ok-push.ensures.items,
      c.in_ok-from_slice.ensures,
      c.in_ok-insert.ensures.taken,
    )
    p.1

pub returns-in-None-clause-gives : goal.returns-in-None-clause-gives
returns-in-None-clause-gives c =
    rw (← length_view c.in_ok-name.later.now)
    (elements_stop fresh_name with_name kinds.RightParenthesis [] (tokens_view c.args.tokens.now)
    c.parameters.parameters.items c.parameters.names (tokens_view c.parameters.rest.now) c.in_ok-name.name.now
    (tokens_view c.in_ok-name.later.now) c.parameters.invariant.reads
    (sym c.is_next.ensures ∙ c.if-is_next.false) c.in_ok-name.ensures (sym c.in-None.ensures))
