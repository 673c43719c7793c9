-- Answers depend on the tokens read, and stay the same where trees may be higher: of all that reads, by induction on
-- the height that is allowed.
use Rattle.std.proofs.Common.{ℕ, zero, suc, ◌≤◌, List, [], ◌∷◌, length, Err, refl, inl, arith}
use Rattle.js_tree.specs.Trees as trees
use Rattle.js_tree.specs.Trees.{Identifier}
use Rattle.js_parser_language.specs.Tokens.{head_of}
use Rattle.js_parser_language.specs.Well.{StatementContext}
use Rattle.js_parser_readers.specs.Reading.{deep, name_at}
use Rattle.js_parser_readers.specs.Classes as classes
use Rattle.js_parser_readers.specs.Classes.{PrimaryStart, start}
use Rattle.js_parser_readers.specs.Productions.{Below, parameters_at, items_at, braces, code_at}
use Rattle.js_parser_readers.specs.Parsing.{call, unary, operation, arrow_rest, arrow_of_one, assignment, expression, function_at, statement, item, below, function_code_by}
use Rattle.js_parser_laws.proofs.Soundness.{sound_below}
use Rattle.js_parser_laws.proofs.Again.Front.{statement_starts}
use Rattle.js_parser_laws.proofs.Follows.Tools.{Follows, sticks, deepens, past, peeks, binds, Takes}
use Rattle.js_parser_laws.proofs.Follows.Parts.{FollowsBelow, Pair, name_follows, parameters_follows, items_at_follows, braces_follows, code_follows}
use Rattle.js_parser_laws.proofs.Follows.Expressions.{call_follows, unary_follows, operation_follows, arrow_rest_follows, function_follows}
use Rattle.js_parser_laws.proofs.Follows.Assignments.{Spans, assignment_follows, expression_follows, assignment_names, expression_closes}
use Rattle.js_parser_laws.proofs.Follows.Statements.{statement_follows, list_item_follows}

-- a statement takes a token at least
pub item_takes : (n : ℕ) (context : StatementContext) (taken : List Identifier) → Takes (λ ts. (below n).item context taken ts)
item_takes n context taken ts x e =
    let t = (sound_below n).item context taken ts x e in
    let p = statement_starts context x.0 t.well ts x.1 t.marks in
    let l = p.1 in
    omega (arith, l)

-- what reads below with itself
record Own (b : Below) : Type 0 where
  follows : FollowsBelow b b
  spans : Spans b

pair_of : (n m : ℕ) → FollowsBelow (below n) (below m) → Own (below m) → Pair (below n) (below m)
pair_of n m h o = record { both = h; right = o.follows; takes = item_takes m }

-- what reads trees one higher than what b reads
abbrev pub step : Below → ℕ → Below
step b n = record {
  assignment = λ ts. assignment b n ts;
  expression = λ ts. expression b n ts;
  operation = λ low ts. operation b n low ts;
  unary = λ ts. unary b n ts;
  call = λ ts. call b n ts;
  statement = λ context ts. statement b context ts;
  item = λ context taken ts. item b context taken ts;
  block = λ context taken ts. braces b context taken ts;
  function = λ ts. code_at b ts;
}

-- one step up on both sides
pub step_follows : (b c : Below) (n m : ℕ) → n ≤ m → Pair b c → Pair b b → Spans b → FollowsBelow (step b n) (step c m)
step_follows b c n m le p own s = record {
  assignment = assignment_follows b c n m le p own s;
  expression = expression_follows b c n m le p own s;
  operation = λ low. operation_follows b c n m le p low;
  unary = unary_follows b c n m le p;
  call = call_follows b c n m le p;
  statement = λ context. statement_follows b c p context;
  item = λ context taken. list_item_follows b c p context taken;
  block = λ context taken. braces_follows b c p context taken;
  function = code_follows b c p;
}

one_more : (n m : ℕ)
    → n ≤ m
    → Pair (below n) (below m)
    → Pair (below n) (below n)
    → Spans (below n)
    → FollowsBelow (below (suc n)) (below (suc m))
unfolding below
one_more n m le p own s = step_follows (below n) (below m) n m le p own s

pub step_spans : (b : Below) (n : ℕ) → Pair b b → Spans b → Spans (step b n)
step_spans b n p s = record { names = assignment_names b n p s; closes = expression_closes b n p s }

-- nothing is told of what is too deep
pub from_none : (c : Below) → FollowsBelow (below zero) c
unfolding below
from_none c = record {
  assignment = deepens c.assignment;
  expression = deepens c.expression;
  operation = λ low. deepens (λ ts. c.operation low ts);
  unary = deepens c.unary;
  call = deepens c.call;
  statement = λ context. deepens (λ ts. c.statement context ts);
  item = λ context taken. deepens (λ ts. c.item context taken ts);
  block = λ context taken. deepens (λ ts. c.block context taken ts);
  function = deepens c.function;
}

own_zero : Own (below zero)
unfolding below
own_zero = record {
  follows = from_none (below zero);
  spans = record {
    names =
        record {
          follows = deepens (λ ts. Err (deep (length ts)));
          alone = λ t ts e h. inl
              (suc (length ts), refl);
          past = λ t ts e. tt;
        };
    closes = λ ts e. tt;
  };
}

own_suc : (n : ℕ) → Own (below n) → Own (below (suc n))
unfolding below
own_suc n o =
    let p : Pair (below n) (below n) = pair_of n n o.follows o in
    record {
      follows = one_more n n (omega arith) p p o.spans;
      spans = step_spans (below n) n p o.spans;
    }

own : (n : ℕ) → Own (below n)
own zero = own_zero
own (suc n) = own_suc n (own n)

-- What reads trees that are at most n high answers as what reads those that are at most m high.
pub follows_below : (n m : ℕ) → n ≤ m → FollowsBelow (below n) (below m)
follows_below zero m le = from_none (below m)
follows_below (suc n) zero le = absurd (omega arith)
follows_below (suc n) (suc m) le =
    let l : n ≤ m = omega arith in
    one_more n m l (pair_of n m (follows_below n m l) (own m)) (pair_of n n (own n).follows (own n)) (own n).spans

pub pair_below : (n m : ℕ) → n ≤ m → Pair (below n) (below m)
pair_below n m le = pair_of n m (follows_below n m le) (own m)

-- ---- what whole sources are read by

pub items_follows_below : (n m : ℕ)
    → n ≤ m
    → (context : StatementContext) (taken : List Identifier)
    → Follows (λ ts. items_at (below n) context taken ts) (λ ts. items_at (below m) context taken ts)
items_follows_below n m le context taken = items_at_follows (below n) (below m) (pair_below n m le) context taken

one_follows : (b c : Below) → Pair b c → Follows (λ ts. arrow_of_one b ts) (λ ts. arrow_of_one c ts)
unfolding arrow_of_one
one_follows b c p =
    binds (λ ts. name_at ts) (λ ts. name_at ts) (λ n ts. arrow_rest b (trees.one_name n) (n ∷ []) ts)
    (λ n ts. arrow_rest c (trees.one_name n) (n ∷ []) ts) name_follows
    (λ n. arrow_rest_follows b c p (trees.one_name n) (n ∷ []))

code_by_follows : (b c : Below)
    → Pair b c
    → (v : PrimaryStart)
    → Follows (λ ts. function_code_by b v ts) (λ ts. function_code_by c v ts)
code_by_follows b c p classes.function_word =
    past (λ ts. function_at b ts) (λ ts. function_at c ts) (function_follows b c p)
code_by_follows b c p (classes.a_name s) = one_follows b c p
code_by_follows b c p classes.parenthesis =
    binds (λ ts. parameters_at ts) (λ ts. parameters_at ts) (λ ps ts. arrow_rest b (trees.name_list ps) ps ts)
    (λ ps ts. arrow_rest c (trees.name_list ps) ps ts) parameters_follows
    (λ ps. arrow_rest_follows b c p (trees.name_list ps) ps)
code_by_follows b c p _ = sticks

pub function_code_follows : (b c : Below)
    → Pair b c
    → Follows (λ ts. function_code_by b (start (head_of ts)) ts) (λ ts. function_code_by c (start (head_of ts)) ts)
function_code_follows b c p =
    peeks start (λ v ts. function_code_by b v ts) (λ v ts. function_code_by c v ts) (code_by_follows b c p)

-- how names in parentheses are gone over
pub spans_below : (n : ℕ) → Spans (below n)
spans_below n = (own n).spans
