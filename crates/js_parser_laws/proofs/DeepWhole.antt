-- Where a whole source is too deep for readers with three levels to spare, some first tokens begin only sources that
-- are deeper.
use Rattle.std.proofs.Common.{◌≡◌, ℕ, zero, suc, ◌+◌, ◌<◌, ◌≤◌, Bool, true, false, List, [], ◌∷◌, ◌++◌, length, Ok, Err, refl, sym, ap, ◌∙◌, append_assoc, arith}
use Rattle.std.specs.Prelude.{nat_le}
use Rattle.std.proofs.lemmas.Bool.{leb-true, leb-false}
use Rattle.js_tree.specs.Trees as trees
use Rattle.js_tree.specs.Trees.{Identifier, Expression}
use Rattle.js_parser_language.specs.Tokens.{Token, head_of}
use Rattle.js_parser_language.specs.Well.{top}
use Rattle.js_tree.specs.Height.{height, height_of_statements}
use Rattle.js_parser_language.specs.Language.{IsScript, IsExpression, IsFunction}
use Rattle.js_parser_readers.specs.Reading.{Fault, stuck, deep, Read, Reader, name_at}
use Rattle.js_parser_readers.specs.Classes as classes
use Rattle.js_parser_readers.specs.Classes.{PrimaryStart, start}
use Rattle.js_parser_readers.specs.Productions.{Below, parameters_at, items_at}
use Rattle.js_parser_readers.specs.Parsing.{arrow_rest, arrow_of_one, function_at, below, ended_by, whole, parse_script, parse_expression, parse_function, function_code_by}
use Rattle.js_parser_laws.specs.Exact.{TooDeepFrom}
use Rattle.js_parser_laws.proofs.Again.Level.{height_positive}
use Rattle.js_parser_laws.proofs.Completeness.{expression_again_whole, function_again_whole, script_again_whole}
use Rattle.js_parser_laws.proofs.Follows.Tools.{Follows, sticks_again}
use Rattle.js_parser_laws.proofs.Follows.Parts.{Pair, name_follows, parameters_follows, items_at_follows}
use Rattle.js_parser_laws.proofs.Alive.Parts.{items_at_lives}
use Rattle.js_parser_laws.proofs.Alive.Assignments.{function_code_lives}
use Rattle.js_parser_laws.proofs.Alive.Whole.{LivesIn, begins_so, function_alive}
use Rattle.js_parser_laws.proofs.Leaving.{same_front}
use Rattle.js_parser_laws.proofs.Locality.{function_code_follows}
use Rattle.js_parser_laws.proofs.Deep.Tools.{DeepAt, Deepens, deep_sticks, deep_past, deep_peeks_all, deep_then}
use Rattle.js_parser_laws.proofs.Deep.Parts.{DeepBelow, name_deepens, parameters_deepens, items_at_deepens}
use Rattle.js_parser_laws.proofs.Deep.Expressions.{function_deepens, arrow_rest_deepens}
use Rattle.js_parser_laws.proofs.Deep.Bottom.{answers_so}
use Rattle.js_parser_laws.proofs.Deep.Rooms.{raised, room, Kept, kept, pair_own, pair_up, pair_down, room_sound}
use Rattle.js_parser_laws.proofs.Soundness.{whole_ok}

-- ---- readers of whole sources

ended_not_deep : {A : Type 0} (t : A) (ts : List Token) (k : ℕ) → ended_by t ts ≡ Err (deep k) → ⊥
ended_not_deep t [] k e = absurd cc
ended_not_deep t (x ∷ ts) k e = absurd cc

-- what answers less is too deep too
less_deep : {A : Type 0} (f g : Reader A)
    → Follows f g
    → (ts : List Token) (k : ℕ)
    → whole (g ts) ≡ Err (deep k)
    → (j : ℕ) × (f ts ≡ Err (deep j))
less_deep {A} f g h ts k e = by_answer (f ts) refl
  where
    by_answer : (x : Read A) → f ts ≡ x → (j : ℕ) × (f ts ≡ Err (deep j))
    by_answer (Ok x) q =
        absurd (ended_not_deep x.0 x.1 k (ap (λ (x : Read A). whole x) (sym (answers_so f g h ts x q)) ∙ e))
    by_answer (Err (stuck i)) q =
        let s = sticks_again f g h ts i q in
        let is : g ts ≡ Err (stuck (length s.1)) = ap (λ (l : List Token). g l) s.2 ∙ s.4 s.1 refl in
        let z : whole {A = A} (Err (stuck (length s.1))) ≡ Err (deep k) = ap (λ (x : Read A). whole x) (sym is) ∙ e in
        absurd cc
    by_answer (Err (deep j)) q = (j, q)

above : (h n : ℕ) → (h ≤ n → ⊥) → n < h
above h n f = by_test (nat_le h n) refl
  where
    by_test : (v : Bool) → nat_le h n ≡ v → n < h
    by_test true e = absurd (f (leb-true h n e))
    by_test false e = leb-false h n e

-- Where a reader too deep for the last one is between two others, of which the first reads all trees that are at most n
-- high, the tokens through the one that shows it begin only deeper ones.
too_deep_from : {A : Type 0} (Is : List Token → A → Type 0) (height_of : A → ℕ) (n : ℕ) (low mid high : Reader A)
    → Follows low mid
    → Follows mid high
    → ((j : ℕ) → Deepens j mid)
    → ((ts : List Token) (e : Fault) → mid ts ≡ Err e → LivesIn Is ts e)
    → ((ts : List Token) (t : A) → Is ts t → height_of t ≤ n → whole (low ts) ≡ Ok t)
    → (ts : List Token) (k : ℕ)
    → whole (high ts) ≡ Err (deep k)
    → TooDeepFrom Is height_of ts n
too_deep_from {A} Is height_of n low mid high h h' d lives again ts k e =
    let p = less_deep mid high h' ts k e in
    let l : LivesIn Is ts (deep p.0) = lives ts (deep p.0) p.1 in
    let a : DeepAt mid ts p.0 = (d (length ts)).at ts (omega arith) p.0 p.1 in
    let parts : ts ≡ (a.before ++ (a.here ∷ [])) ++ a.left = a.parts
    ∙ sym (append_assoc a.before (a.here ∷ []) a.left) in
    let front : l.before ≡ a.before ++ (a.here ∷ []) = same_front l.before l.left (a.before ++ (a.here ∷ [])) a.left
    (sym l.parts ∙ parts) (l.counted ∙ sym a.counted) in
    record {
      before = l.before;
      left = l.left;
      parts = l.parts;
      begins = l.begins;
      deeper = λ rest t is. above (height_of t) n (λ le.
          let read : mid (l.before ++ rest) ≡ Ok (t, []) = answers_so low mid h (l.before ++ rest) (t, [])
          (whole_ok (low (l.before ++ rest)) t (again (l.before ++ rest) t is le)) in
          let same : l.before ++ rest ≡ a.before ++ (a.here ∷ rest) = ap (λ (b : List Token). b ++ rest) front
          ∙ append_assoc a.before (a.here ∷ []) rest in
          a.never rest (t, []) (ap (λ (l : List Token). mid l) (sym same) ∙ read));
    }

three_more : (n : ℕ) → n + 3 ≡ raised n
three_more n = omega arith

-- ---- expressions and scripts

expression_deeper : (n : ℕ) (ts : List Token) (k : ℕ)
    → parse_expression (raised n) ts ≡ Err (deep k)
    → TooDeepFrom IsExpression height ts n
unfolding parse_expression
expression_deeper n ts k e =
    let q : Kept n = kept n in
    too_deep_from IsExpression height n (below n).expression (room n).expression
    (below (raised n)).expression q.down.expression q.up.expression (λ j. q.deepens.expression j)
    (λ ts d p. begins_so (λ us t g m. record { well = g.0; spelled = m }) (q.alive.expression ts d p))
    (λ ts t is le. expression_again_whole n ts t is le) ts k e

pub expression_too_deep : (n : ℕ) (ts : List Token) (k : ℕ)
    → parse_expression (n + 3) ts ≡ Err (deep k)
    → TooDeepFrom IsExpression height ts n
expression_too_deep n ts k e = expression_deeper n ts k (ap (λ (m : ℕ). parse_expression m ts) (sym (three_more n)) ∙ e)

script_deeper : (n : ℕ) (earlier : List Identifier) (ts : List Token) (k : ℕ)
    → parse_script (raised n) earlier ts ≡ Err (deep k)
    → TooDeepFrom (IsScript earlier) height_of_statements ts n
unfolding parse_script
script_deeper n earlier ts k e =
    let q : Kept n = kept n in
    too_deep_from (IsScript earlier) height_of_statements n (λ ts. items_at (below n) top earlier ts)
    (λ ts. items_at (room n) top earlier ts) (λ ts. items_at (below (raised n)) top earlier ts)
    (items_at_follows (below n) (room n) (pair_down n q) top earlier)
    (items_at_follows (room n) (below (raised n)) (pair_up n q) top earlier)
    (λ j. items_at_deepens (room n) (pair_own n q) q.deepens j top earlier)
    (λ ts d p. begins_so (λ us t g m. record { well = g; spelled = m })
    (items_at_lives (raised n) (room n) (room_sound n q) q.alive top earlier ts d p))
    (λ ts t is le. script_again_whole n earlier ts t is le) ts k e

pub script_too_deep : (n : ℕ) (earlier : List Identifier) (ts : List Token) (k : ℕ)
    → parse_script (n + 3) earlier ts ≡ Err (deep k)
    → TooDeepFrom (IsScript earlier) height_of_statements ts n
script_too_deep n earlier ts k e =
    script_deeper n earlier ts k (ap (λ (m : ℕ). parse_script m earlier ts) (sym (three_more n)) ∙ e)

-- ---- functions

one_deepens : (b : Below) → Pair b b → DeepBelow b → (n : ℕ) → Deepens n (λ ts. arrow_of_one b ts)
unfolding arrow_of_one
one_deepens b p d n =
    deep_then n (λ ts. name_at ts) (λ s ts. arrow_rest b (trees.one_name s) (s ∷ []) ts) name_follows (name_deepens n)
    (λ s. arrow_rest_deepens b p d n (trees.one_name s) (s ∷ []))

code_by_deepens : (b : Below) → Pair b b → DeepBelow b → (n : ℕ) (v : PrimaryStart) → Deepens n (λ ts. function_code_by b v ts)
code_by_deepens b p d n classes.function_word = deep_past n (λ ts. function_at b ts) (function_deepens b p d n)
code_by_deepens b p d n (classes.a_name s) = one_deepens b p d n
code_by_deepens b p d n classes.parenthesis =
    deep_then n (λ ts. parameters_at ts) (λ ps ts. arrow_rest b (trees.name_list ps) ps ts) parameters_follows
    (parameters_deepens n) (λ ps. arrow_rest_deepens b p d n (trees.name_list ps) ps)
code_by_deepens b p d n _ = deep_sticks n

abbrev code_reader : Below → Reader Expression
code_reader b ts = function_code_by b (start (head_of ts)) ts

code_deepens : (b : Below) → Pair b b → DeepBelow b → (n : ℕ) → Deepens n (code_reader b)
code_deepens b p d n = deep_peeks_all n start (λ v ts. function_code_by b v ts) (code_by_deepens b p d n)

code_again : (n : ℕ) (ts : List Token) (t : Expression)
    → IsFunction ts t
    → height t ≤ suc n
    → whole (code_reader (below n) ts) ≡ Ok t
unfolding parse_function
code_again n ts t is le = function_again_whole (suc n) ts t is le

function_deeper : (n : ℕ) (ts : List Token) (k : ℕ)
    → parse_function (raised n) ts ≡ Err (deep k)
    → TooDeepFrom IsFunction height ts n
unfolding parse_function
-- no tree is lower than 1
function_deeper zero ts k e =
    let l : LivesIn IsFunction ts (deep k) = function_alive 3 ts (deep k) e in
    record {
      before = l.before;
      left = l.left;
      parts = l.parts;
      begins = l.begins;
      deeper = λ rest t is. height_positive t;
    }
function_deeper (suc n) ts k e =
    let q : Kept n = kept n in
    too_deep_from IsFunction height (suc n) (code_reader (below n)) (code_reader (room n))
    (code_reader (below (raised n)))
    (function_code_follows (below n) (room n) (pair_down n q))
    (function_code_follows (room n) (below (raised n)) (pair_up n q))
    (code_deepens (room n) (pair_own n q) q.deepens)
    (λ ts d p. begins_so (λ us t g m. record { form = g.1; well = g.0.0; spelled = m })
    (function_code_lives (raised n) (room n) (room_sound n q) q.alive (start (head_of ts)) ts d refl p))
    (λ ts t is le. code_again n ts t is le) ts k e

pub function_too_deep : (n : ℕ) (ts : List Token) (k : ℕ)
    → parse_function (n + 3) ts ≡ Err (deep k)
    → TooDeepFrom IsFunction height ts n
function_too_deep n ts k e = function_deeper n ts k (ap (λ (m : ℕ). parse_function m ts) (sym (three_more n)) ∙ e)
