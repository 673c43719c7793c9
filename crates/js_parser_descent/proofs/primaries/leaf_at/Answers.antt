use Rattle.std.proofs.Common.{sym}
use Rattle.js_lexer.specs.declared.token.TokenKind.TheVariants as kinds
use Rattle.js_parser_language.specs.Tokens.{fixed, identifier, numeric_literal, string_literal}
use Rattle.js_parser_readers.proofs.ClassLemmas.{start_boolean, start_name, start_null, start_number, start_string, start_this}
use Rattle.js_parser_readers.proofs.PlacedTokenLemmas.{boolean_places}
use Rattle.js_parser_descent.proofs.primaries.leaf_at.Goals as goal

pub returns-in_ok-node-in-This-clause-placed : goal.returns-in_ok-node-in-This-clause-placed
returns-in_ok-node-in-This-clause-placed c =
    rw c.this.ensures.places
    (c.in_ok-node-in-This.ensures.placed (fixed kinds.This) (start_this _ (sym c.in-This.ensures)))

pub returns-in_ok-from_slice-in-Name-clause-placed : goal.returns-in_ok-from_slice-in-Name-clause-placed
returns-in_ok-from_slice-in-Name-clause-placed c =
    rw (c.name.ensures.places, c.in_ok-from_slice-in-Name.ensures)
    (c.in_ok-node-in-Name.ensures.placed (identifier c.in-Name.text.now) (start_name _ _ (sym c.in-Name.ensures)))

pub returns-in_ok-node-in-Number-clause-placed : goal.returns-in_ok-node-in-Number-clause-placed
returns-in_ok-node-in-Number-clause-placed c =
    rw c.number.ensures.places
    (c.in_ok-node-in-Number.ensures.placed (numeric_literal c.in-Number.value.value)
    (start_number _ _ (sym c.in-Number.ensures)))

pub returns-in_ok-string_value-in-String-clause-placed : goal.returns-in_ok-string_value-in-String-clause-placed
returns-in_ok-string_value-in-String-clause-placed c =
    rw (c.string.ensures.places, c.in_ok-string_value-in-String.ensures.value)
    (c.in_ok-node-in-String.ensures.placed (string_literal _) (start_string _ _ (sym c.in-String.ensures)))

pub returns-in_ok-node-in-Boolean-clause-placed : goal.returns-in_ok-node-in-Boolean-clause-placed
returns-in_ok-node-in-Boolean-clause-placed c =
    rw (c.boolean.ensures.places, boolean_places c.in-Boolean.value)
    (c.in_ok-node-in-Boolean.ensures.placed (fixed _) (start_boolean _ _ (sym c.in-Boolean.ensures)))

pub returns-in_ok-node-in-Null-clause-placed : goal.returns-in_ok-node-in-Null-clause-placed
returns-in_ok-node-in-Null-clause-placed c =
    rw c.null.ensures.places
    (c.in_ok-node-in-Null.ensures.placed (fixed kinds.Null) (start_null _ (sym c.in-Null.ensures)))
