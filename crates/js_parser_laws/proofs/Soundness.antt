-- What is read is in the language: the laws of all that reads, by induction on the height that is allowed.
use Rattle.std.proofs.Common.{◌≡◌, ℕ, zero, suc, ◌≤◌, List, [], ◌∷◌, Ok, Err, refl, ap}
use Rattle.js_tree.specs.Trees.{Identifier, Expression, Statements}
use Rattle.js_parser_language.specs.Tokens.{Token, head_of}
use Rattle.js_parser_language.specs.Well.{top}
use Rattle.js_tree.specs.Height.{height, height_of_statements}
use Rattle.js_parser_language.specs.Language.{IsScript, IsExpression, IsFunction}
use Rattle.js_parser_readers.specs.Reading.{Read}
use Rattle.js_parser_readers.specs.Classes.{start}
use Rattle.js_parser_readers.specs.Productions.{items_at}
use Rattle.js_parser_readers.specs.Parsing.{below, ended_by, whole, parse_script, parse_expression, parse_function, function_code_by}
use Rattle.js_parser_laws.proofs.Claims.{SoundBelow}
use Rattle.js_parser_laws.proofs.Sound.Part.{seq_sound, items_at_sound}
use Rattle.js_parser_laws.proofs.Sound.Operator.{unary_sound, operation_sound}
use Rattle.js_parser_laws.proofs.Sound.Primary.{call_sound}
use Rattle.js_parser_laws.proofs.Sound.Expression.{assignment_sound, expression_sound, function_code_sound}
use Rattle.js_parser_laws.proofs.Sound.Statement.{statement_sound, list_item_sound, counted_block_sound, counted_function_sound}
use Rattle.js_parser_readers.proofs.ShorterLemmas.{read_is}

pub sound_below : (n : ℕ) → SoundBelow n (below n)
unfolding below
sound_below zero = record {
  assignment = λ ts x e. absurd cc;
  expression = λ ts x e. absurd cc;
  operation = λ m l ts x e. absurd cc;
  unary = λ ts x e. absurd cc;
  call = λ ts x e. absurd cc;
  statement = λ context ts x e. absurd cc;
  item = λ context taken ts x e. absurd cc;
  block = λ context taken ts x e. absurd cc;
  function = λ ts x e. absurd cc;
}
sound_below (suc n) =
    let s = sound_below n in
    record {
      assignment = λ ts x e. assignment_sound seq_sound n (below n) s ts x e;
      expression = λ ts x e. expression_sound seq_sound n (below n) s ts x e;
      operation = λ m l ts x e. operation_sound n (below n) s (call_sound seq_sound n (below n) s) m l ts x e;
      unary = λ ts x e. unary_sound n (below n) s (call_sound seq_sound n (below n) s) ts x e;
      call = λ ts x e. call_sound seq_sound n (below n) s ts x e;
      statement = λ context ts x e. statement_sound n (below n) s context ts x e;
      item = λ context taken ts x e. list_item_sound n (below n) s context taken ts x e;
      block = λ context taken ts x e. counted_block_sound n (below n) s context taken ts x e;
      function = λ ts x e. counted_function_sound n (below n) s ts x e;
    }

-- ---- whole sources

ended_ok : {A : Type 0} (s : A) (ts : List Token) (t : A) → ended_by s ts ≡ Ok t → read_is (s, ts) ≡ Ok (t, [])
ended_ok {A = A} s [] t h = let k : s ≡ t = cc in ap (λ (t : A). read_is (t, [])) k
ended_ok s (u ∷ ts) t h = absurd cc

pub whole_ok : {A : Type 0} (r : Read A) (t : A) → whole r ≡ Ok t → r ≡ Ok (t, [])
whole_ok (Err e) t h = absurd cc
whole_ok (Ok x) t h = ended_ok x.0 x.1 t h

-- What is read as an expression is one.
pub expression_read : (n : ℕ) (ts : List Token) (e : Expression)
    → parse_expression n ts ≡ Ok e
    → IsExpression ts e × (height e ≤ n)
unfolding parse_expression
expression_read n ts e h =
    let t = (sound_below n).expression ts (e, []) (whole_ok ((below n).expression ts) e h) in
    (record { well = t.well; spelled = t.marks }, t.height)

pub function_read : (n : ℕ) (ts : List Token) (e : Expression)
    → parse_function n ts ≡ Ok e
    → IsFunction ts e × (height e ≤ n)
unfolding parse_function
function_read zero ts e h = absurd cc
function_read (suc n) ts e h =
    let t = function_code_sound seq_sound n (below n) (sound_below n) (start (head_of ts)) ts (e, []) refl
    (whole_ok (function_code_by (below n) (start (head_of ts)) ts) e h) in
    (record { form = t.1; well = t.0.well; spelled = t.0.marks }, t.0.height)

pub script_read : (n : ℕ) (earlier : List Identifier) (ts : List Token) (body : Statements)
    → parse_script n earlier ts ≡ Ok body
    → IsScript earlier ts body × (height_of_statements body ≤ n)
unfolding parse_script
script_read n earlier ts body h =
    let t = items_at_sound n (below n) (sound_below n) top earlier ts (body, [])
    (whole_ok (items_at (below n) top earlier ts) body h) in
    (record { well = (t.fresh, t.well); spelled = t.marks }, t.height)
