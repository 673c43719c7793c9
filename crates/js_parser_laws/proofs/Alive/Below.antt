-- Where what reads trees that are at most n high stops, the tokens before begin well-formed trees.
use Rattle.std.proofs.Common.{ℕ, zero, suc, arith}
use Rattle.js_tree.specs.Trees.{Expression, Statement, Statements}
use Rattle.js_parser_readers.specs.Productions.{ParametersAndBody, Below}
use Rattle.js_parser_readers.specs.Parsing.{below}
use Rattle.js_parser_laws.proofs.Claims.{SoundBelow}
use Rattle.js_parser_laws.proofs.Alive.Tools.{deep_counts}
use Rattle.js_parser_laws.proofs.Alive.Parts.{AliveBelow, zero_expression, zero_statement, zero_item, empty_block, empty_code, braces_lives, code_lives}
use Rattle.js_parser_laws.proofs.Alive.Expressions.{unary_lives, call_lives, operation_lives}
use Rattle.js_parser_laws.proofs.Alive.Assignments.{assignment_lives, expression_lives}
use Rattle.js_parser_laws.proofs.Alive.Statements.{statement_lives, list_item_lives}
use Rattle.js_parser_laws.proofs.Locality.{step}

-- ---- where no room is left

alive_none : AliveBelow (below zero)
unfolding below
alive_none = record {
  assignment = λ ts e p. zero_expression 1 (omega arith) ts e (deep_counts {A = Expression} ts e p);
  expression = λ ts e p. zero_expression 0 (omega arith) ts e (deep_counts {A = Expression} ts e p);
  operation = λ m h ts e p. zero_expression m (omega (arith, h)) ts e (deep_counts {A = Expression} ts e p);
  unary = λ ts e p. zero_expression 13 (omega arith) ts e (deep_counts {A = Expression} ts e p);
  call = λ ts e p. zero_expression 15 (omega arith) ts e (deep_counts {A = Expression} ts e p);
  statement = λ context ts e p. zero_statement context ts e (deep_counts {A = Statement} ts e p);
  item = λ context taken ts e p. zero_item context taken ts e (deep_counts {A = Statement} ts e p);
  block = λ context taken ts e p. empty_block context taken ts e (deep_counts {A = Statements} ts e p);
  function = λ ts e p. empty_code ts e (deep_counts {A = ParametersAndBody} ts e p);
}

-- ---- what reads trees that are at most n high

-- one step up
pub step_alive : (n : ℕ) (b : Below) → SoundBelow n b → AliveBelow b → AliveBelow (step b n)
step_alive n b s a = record {
  assignment = λ ts e p. assignment_lives n b s a ts e p;
  expression = λ ts e p. expression_lives n b s a ts e p;
  operation = λ m h ts e p. operation_lives n b s a m h ts e p;
  unary = λ ts e p. unary_lives n b s a ts e p;
  call = λ ts e p. call_lives n b s a ts e p;
  statement = λ context ts e p. statement_lives n b s a context ts e p;
  item = λ context taken ts e p. list_item_lives n b s a context taken ts e p;
  block = λ context taken ts e p. braces_lives n b s a context taken ts e p;
  function = λ ts e p. code_lives n b s a ts e p;
}

alive_one : (n : ℕ) → SoundBelow n (below n) → AliveBelow (below n) → AliveBelow (below (suc n))
unfolding below
alive_one n s a = step_alive n (below n) s a

pub alive_below : ((n : ℕ) → SoundBelow n (below n)) → (n : ℕ) → AliveBelow (below n)
alive_below sound zero = alive_none
alive_below sound (suc n) = alive_one n (sound n) (alive_below sound n)
