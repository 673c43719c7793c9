-- Evaluations, computed.
use Rattle.std.specs.Prelude.{◌≡◌, ℕ, true, false, List, [], ◌∷◌, None, Some, codes, refl}
use Rattle.std.specs.Fmt.{digits}
use Rattle.js_tree_operators.specs.declared.operator.BinaryOperator.TheVariants as binaries
use Rattle.js_tree_operators.specs.declared.operator.UnaryOperator.TheVariants as unaries
use Rattle.js_tree_operators.specs.declared.operator.AssignmentOperator.TheVariants as assigns
use Rattle.js_tree.specs.Trees as t
use Rattle.js_tree.specs.Trees.{Expression}
use Rattle.js_heap.specs.declared.value.Addr.{Addr}
use Rattle.js_heap.specs.declared.value.Addr.TheVariants.{Base}
use Rattle.js_heap.specs.declared.value.Value.{Value}
use Rattle.js_heap.specs.declared.value.Value.TheVariants as values
use Rattle.js_heap.specs.declared.change.Counted.{Counted}
use Rattle.js_heap.specs.declared.change.Counted.TheVariants as counted
use Rattle.js_heap.specs.World.{Room, scratch_room}
use Rattle.js_heap.specs.BuiltIns.{script_scope}
use Rattle.js_semantics.specs.Terms.{Terms, one}
use Rattle.js_heap.specs.Values.{shown}
use Rattle.js_semantics.specs.State.{Frame, State}
use Rattle.js_semantics.specs.Functions.{Program}
use Rattle.js_semantics.proofs.Clean.{expression_made, clean_script}
use Rattle.js_semantics.specs.Literals.{expression_literals}
use Rattle.js_semantics.specs.Run.{Run, running, over, plain, program_of, state_of}
use Rattle.js_semantics.specs.Frames.{frames}
use Rattle.js_semantics.specs.Evaluation.{ScratchSpace, given, made_of, json_string, Answer, a_result, a_throw, an_effect, is_full_of, spent, with_source, evaluate, evaluate_call}
use Rattle.js_tree.specs.Views.{statements}
use Rattle.js_semantics.proofs.Shorthand.{add, array, arrow, at, call, d, dot, fn, key, mul, object, put, ret, run, s, same, sub, v}

-- an answer with its value as it is shown
pub data Shown : Type 0 where
  a_value_shown : List ℕ → Shown
  a_throw_shown : List ℕ → Shown
  effect_answer : Shown
  full_answer : Counted → Shown
  spent_answer : Shown

abbrev shown_answer : Answer → Shown
shown_answer (a_result v w) = a_value_shown (shown w v)
shown_answer (a_throw v w) = a_throw_shown (shown w v)
shown_answer an_effect = effect_answer
shown_answer (is_full_of what) = full_answer what
shown_answer spent = spent_answer

abbrev space : Room → ScratchSpace
space r = record { cells = []; room = r }

abbrev evaluated_in : Room → Terms → State → Addr → Value → Expression → Shown
evaluated_in r ts s scope receiver e =
    shown_answer
    (evaluate (program_of ts) s.world (space r) scope receiver (codes "source") (expression_literals e)
    (expression_made 1 e))

-- an expression in the script scope, behind so many steps of a script
abbrev at_top : ℕ → Terms → Expression → Shown
at_top k ts e = evaluated_in scratch_room ts (state_of (plain k ts [])) script_scope values.Undefined e

-- the same with little room
abbrev with_room : Room → ℕ → Terms → Expression → Shown
with_room r k ts e = evaluated_in r ts (state_of (plain k ts [])) script_scope values.Undefined e

-- in the top frame
abbrev in_frame : Terms → List Frame → State → Expression → Shown
in_frame ts [] s e = spent_answer
in_frame ts (f ∷ fs) s e = evaluated_in scratch_room ts s f.scope f.receiver e

abbrev in_run : Terms → Run → Expression → Shown
in_run ts (running t s) e = in_frame ts (frames script_scope t s) s e
in_run ts (over f s) e = spent_answer

abbrev at_frame : ℕ → Terms → Expression → Shown
at_frame k ts e = in_run ts (plain k ts []) e

-- let n = 0; const f = () => { n = n + 1; return n; }; debugger; console.log(n);
abbrev counting : Terms
counting =
    one (clean_script 1
    (t.a_statement
    (t.lexical false (t.a_declarator (t.declarator (codes "n") (t.present (t.number 0))) t.no_declarators))
    (t.a_statement
    (t.lexical true
    (t.a_declarator
    (t.declarator (codes "f")
    (t.present
    (t.arrow_block (t.name_list [])
    (t.a_statement
    (t.expression
    (t.assign assigns.Assign (t.name (codes "n"))
    (t.binary binaries.Add (t.name (codes "n")) (t.number 1))))
    (t.a_statement (t.return (t.present (t.name (codes "n")))) t.no_statements)))))
    t.no_declarators))
    (t.a_statement t.debugger
    (t.a_statement
    (t.expression
    (t.call (t.member (t.name (codes "console")) (codes "log"))
    (t.an_expression (t.name (codes "n")) t.no_expressions)))
    t.no_statements)))))

-- function add(a, b) { return a + b; } console.log(add(2, 3));
abbrev adding : Terms
adding =
    one (clean_script 1
    (t.a_statement
    (t.declared_function (codes "add") ((codes "a") ∷ (codes "b") ∷ [])
    (t.a_statement (t.return (t.present (t.binary binaries.Add (t.name (codes "a")) (t.name (codes "b")))))
    t.no_statements))
    (t.a_statement
    (t.expression
    (t.call (t.member (t.name (codes "console")) (codes "log"))
    (t.an_expression
    (t.call (t.name (codes "add"))
    (t.an_expression (t.number 2) (t.an_expression (t.number 3) t.no_expressions)))
    t.no_expressions)))
    t.no_statements)))

-- f() writes n, a cell of the program
write_is_an_effect : at_top 6 counting (call (v "f") []) ≡ effect_answer
unfolding digits
write_is_an_effect = refl

-- n
reads : at_top 6 counting (v "n") ≡ a_value_shown (codes "0")
unfolding digits
reads = refl

-- [1,2].length
makes : at_top 6 counting (dot (array (d 1 ∷ d 2 ∷ [])) "length") ≡ a_value_shown (codes "2")
unfolding digits
makes = refl

-- ({x: 'y'})
makes_an_object : at_top 6 counting (t.parenthesized (object (key "x" (s "y") ∷ []))) ≡ a_value_shown
    (codes "[object Object]")
unfolding digits
makes_an_object = refl

-- x
throws : at_top 6 counting (v "x") ≡ a_throw_shown (codes "ReferenceError: x is not defined")
unfolding digits
throws = refl

-- 'p' + 'q'
joins : at_top 6 counting (add (s "p") (s "q")) ≡ a_value_shown (codes "pq")
unfolding digits
joins = refl

-- n = 1
assigns_foreign : at_top 6 counting (put (v "n") (d 1)) ≡ effect_answer
unfolding digits
assigns_foreign = refl

-- an error comes before the write
error_before_the_write : at_top 6 counting (put (v "undefined") (d 1)) ≡ a_throw_shown
    (codes "TypeError: Assignment to constant variable.")
unfolding digits
error_before_the_write = refl

-- console.log(1)
prints : at_top 6 counting (call (dot (v "console") "log") (d 1 ∷ [])) ≡ effect_answer
unfolding digits
prints = refl

-- readline()
reads_input : at_top 6 counting (call (v "readline") []) ≡ effect_answer
unfolding digits
reads_input = refl

-- a function that the evaluation makes has its code in the kept source
calls_its_own_arrow : at_top 6 counting (call (t.parenthesized (arrow [] (s "v"))) []) ≡ a_value_shown (codes "v")
unfolding digits
calls_its_own_arrow = refl

-- [].pop()
pops_nothing : at_top 6 counting (call (dot (array []) "pop") []) ≡ a_value_shown (codes "undefined")
unfolding digits
pops_nothing = refl

-- [].push()
pushes_nothing : at_top 6 counting (call (dot (array []) "push") []) ≡ a_value_shown (codes "0")
unfolding digits
pushes_nothing = refl

-- typeof zzz
types_nothing : at_top 6 counting (t.unary unaries.Typeof (v "zzz")) ≡ a_value_shown (codes "undefined")
unfolding digits
types_nothing = refl

-- a * b in the frame of add(2, 3), at its return
in_the_frame_of_a_call : at_frame 6 adding (mul (v "a") (v "b")) ≡ a_value_shown (codes "6")
unfolding digits
in_the_frame_of_a_call = refl

-- a * b in the script scope
frame_is_needed : at_top 6 adding (mul (v "a") (v "b")) ≡ a_throw_shown (codes "ReferenceError: a is not defined")
unfolding digits
frame_is_needed = refl

-- no cell is left
full_of_cells : with_room (record { cells = 0; units = 1000 }) 6 counting (dot (array (d 1 ∷ d 2 ∷ [])) "length") ≡
    full_answer counted.Cells
unfolding digits
full_of_cells = refl

-- the source takes 6 units, the array needs 16
full_of_units : with_room (record { cells = 9; units = 21 }) 6 counting (dot (array (d 1 ∷ d 2 ∷ [])) "length") ≡
    full_answer counted.Units
unfolding digits
full_of_units = refl

-- and with one unit more
just_enough : with_room (record { cells = 9; units = 22 }) 6 counting (dot (array (d 1 ∷ d 2 ∷ [])) "length") ≡
    a_value_shown (codes "2")
unfolding digits
just_enough = refl

-- the source takes 6 units
source_is_counted : with_room (record { cells = 9; units = 5 }) 6 counting (v "n") ≡ full_answer counted.Units
unfolding digits
source_is_counted = refl

-- (() => 1)()
calls_its_own_function : at_top 6 counting (call (t.parenthesized (arrow [] (d 1))) []) ≡ a_value_shown (codes "1")
unfolding digits
calls_its_own_function = refl

-- (function f(n) { return n === 0 ? 'end' : f(n - 1); })(2)
calls_itself : at_top 6 counting (call (t.parenthesized
    (t.function (Some (codes "f")) (codes "n" ∷ []) (statements
    (ret (t.conditional (same (v "n") (d 0)) (s "end") (call (v "f") (sub (v "n") (d 1) ∷ []))) ∷ [])))) (d 2 ∷ [])) ≡
    a_value_shown (codes "end")
unfolding digits
calls_itself = refl

-- add(4, 5), a function of the program
calls_the_program : at_top 6 adding (call (v "add") (d 4 ∷ d 5 ∷ [])) ≡ a_value_shown (codes "9")
unfolding digits
calls_the_program = refl

-- function(k) { return this[k]; } called with an object's own property and a JSON argument
abbrev called : Terms → State → Expression → Shown
called ts s f =
    shown_answer
    (evaluate_call (program_of ts) s.world (space scratch_room) (codes "source") (expression_literals f)
    (expression_made 1 f) (values.Object (Base 4)) (made_of (json_string (codes "log")) ∷ []))

calls_with_this : called counting (state_of (plain 6 counting []))
    (t.parenthesized (t.function None (codes "k" ∷ []) (statements (ret (at t.this (v "k")) ∷ [])))) ≡ a_value_shown
    (codes "function log")
unfolding digits
calls_with_this = refl

-- ---- the count that is named, where a scratch has room for one more cell and two more units

abbrev with_one_cell : Expression → Shown
with_one_cell e = with_room (record { cells = 1; units = 8 }) 6 counting e

-- (function () { do 'long'; while ('b'); }): 'long' comes first, though the term keeps the test before the body
body_before_test : with_one_cell (t.parenthesized (t.function None []
    (statements (t.do_while (run (s "long")) (s "b") ∷ [])))) ≡ full_answer counted.Units
unfolding digits
body_before_test = refl

-- (function () { function f() { return 'b'; } return 'long'; }): 'b' comes first, though the term keeps the function
-- behind
declared_before_statements : with_one_cell (t.parenthesized
    (t.function None [] (statements (fn "f" [] (ret (s "b") ∷ []) ∷ ret (s "long") ∷ [])))) ≡ full_answer counted.Cells
unfolding digits
declared_before_statements = refl

-- ({ [1]() { return 'long'; }, x: 'b' }): 'long' comes first, though the term keeps x before the method
method_before_members : with_one_cell (t.parenthesized
    (object (t.method (t.computed_key (d 1)) [] (statements (ret (s "long") ∷ [])) ∷ key "x" (s "b") ∷ []))) ≡
    full_answer counted.Units
unfolding digits
method_before_members = refl

-- ---- one evaluation after another

-- a second evaluation, whose function is called with the value of the first
abbrev called_with : Program → ScratchSpace → Expression → Expression → Answer → Shown
called_with p x e g (a_result v w) =
    shown_answer
    (evaluate_call (with_source p x (expression_made 1 e)) w (record { cells = w.scratch; room = w.room })
    (codes "second") (expression_literals g) (expression_made 1 g) values.Undefined (given v ∷ []))
called_with p x e g a = shown_answer a

abbrev one_after_another : Terms → State → Expression → Expression → Shown
one_after_another ts s e g =
    called_with (program_of ts) (space scratch_room) e g
    (evaluate (program_of ts) s.world (space scratch_room) script_scope values.Undefined (codes "source")
    (expression_literals e) (expression_made 1 e))

-- () => 'made before', then function(f) { return f() + '!'; } called with it
calls_a_function_of_an_earlier_one : one_after_another counting (state_of (plain 6 counting []))
    (arrow [] (s "made before")) (t.parenthesized (t.function None (codes "f" ∷ [])
    (statements (ret (add (call (v "f") []) (s "!")) ∷ [])))) ≡ a_value_shown (codes "made before!")
unfolding digits
calls_a_function_of_an_earlier_one = refl
