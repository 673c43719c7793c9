use Rattle.std.proofs.Common.{◌≡◌, ℕ, ◌<◌, List, length, drop, Some, None, refl, ap, arith, rules, Result}
use Rattle.std.proofs.lemmas.Grind.{common_steps}
use Rattle.js_lexer.specs.Tokens.{Lent}
use Rattle.js_lexer.specs.Scanning.{token_at, gap_len}
use Rattle.js_lexer.proofs.TilingLemmas.{no_more, bad_one, one_more}
use Rattle.js_lexer.proofs.FrontLemmas.{number_here}
use Rattle.js_lexer.proofs.tokens.TokensIterator.next.Goals as goal

pub returns-then-is_empty-clause-steps : goal.returns-then-is_empty-clause-steps
returns-then-is_empty-clause-steps c =
    let us = c.args.self.now.left.now in
    let e : token_at (drop (gap_len us) us) ≡ None = cc in
    let z : length (drop (gap_len us) us) ≡ 0 = grind (arith, common_steps) in
    (rw c.if-self.false (no_more c.args.self.now.at us e z), refl)

pub returns-in_default-clause-steps : goal.returns-in_default-clause-steps
returns-in_default-clause-steps c =
    let us = c.args.self.now.left.now in
    let e : token_at (drop (gap_len us) us) ≡ None = cc in
    let z : 0 < length (drop (gap_len us) us) = grind (arith, common_steps) in
    rw (c.if-self.false, c.split_at.ensures.front_len, c.gap_len.ensures.value) (bad_one c.args.self.now.at us e z)

pub returns-clause-steps : goal.returns-clause-steps
returns-clause-steps c =
    let us = c.args.self.now.left.now in
    let e : token_at (drop (gap_len us) us) ≡ Some (c.in-Some.kind, c.in-Some.len) = cc in
    rw (
      c.if-self.false,
      c.has_line_terminator.ensures,
      c.split_at-2.ensures.front,
      c.split_at-2.ensures.back,
      c.split_at.ensures.front_len,
      c.split_at.ensures.front,
      c.split_at.ensures.back,
      c.gap_len.ensures.value,
    )
    (one_more c.args.self.now.at us (c.in-Some.kind, c.in-Some.len) e)

pub returns-in_default-clause-goes : goal.returns-in_default-clause-goes
returns-in_default-clause-goes c =
    let s = returns-in_default-clause-steps c in
    record {
      on = λ f. (
        search rules,
        search rules,
        omega (arith, ap (λ (l : List (Result Lent ℕ)). length l) s),
      );
      keeps = search rules;
      rests = search rules;
    }

pub returns-clause-goes : goal.returns-clause-goes
returns-clause-goes c =
    let s = returns-clause-steps c in
    record {
      on = λ f. (
        search rules,
        search rules,
        omega (arith, ap (λ (l : List (Result Lent ℕ)). length l) s),
      );
      keeps = search rules;
      rests = search rules;
    }

pub invariant_of-result : goal.invariant_of-result
invariant_of-result c =
    let e : token_at c.split_at.result.1.now ≡ Some (c.in-Some.kind, c.in-Some.len) = cc in
    record {
      is_number = λ p. rw c.split_at-2.ensures.front
          (number_here c.split_at.result.1.now c.in-Some.kind c.in-Some.len e p);
    }
