-- Runs of small scripts, computed: how many steps, how they end, what they print.
use Rattle.std.specs.Prelude.{true, false, [], ◌∷◌, Some, None, codes, refl}
use Rattle.js_tree_operators.specs.declared.operator.UnaryOperator.TheVariants as unaries
use Rattle.js_tree_operators.specs.declared.operator.UpdateOperator.TheVariants as updates
use Rattle.js_tree_operators.specs.declared.operator.BinaryOperator.TheVariants as binaries
use Rattle.js_tree_operators.specs.declared.operator.AssignmentOperator.TheVariants as assigns
use Rattle.js_tree.specs.Trees as t
use Rattle.std.specs.Fmt.{digits}
use Rattle.js_tree.specs.Views.{expressions, statements}
use Rattle.js_semantics.proofs.Shorthand.{add, array, arrow, at, block, call, const, d, div, dot, fn, for_let, inc, key, less, let_, mul, neg, object, put, ret, run, s, try_catch, try_finally, v, Takes, TakesThrow}

--
steps_01 : Takes 1 [] []
unfolding digits
steps_01 = refl

-- ;
steps_02 : Takes 1 (t.empty ∷ []) []
unfolding digits
steps_02 = refl

-- { }
steps_03 : Takes 2 (block [] ∷ []) []
unfolding digits
steps_03 = refl

-- { let a; }
steps_04 : Takes 4 (block (t.lexical false (t.a_declarator (t.declarator (codes "a") t.omitted) t.no_declarators) ∷
    []) ∷ []) []
unfolding digits
steps_04 = refl

-- function f() { }
steps_05 : Takes 1 (fn "f" [] [] ∷ []) []
unfolding digits
steps_05 = refl

-- debugger;
steps_06 : Takes 2 (t.debugger ∷ []) []
unfolding digits
steps_06 = refl

-- 1;
steps_07 : Takes 2 (run (d 1) ∷ []) []
unfolding digits
steps_07 = refl

-- (1);
steps_08 : Takes 2 (run (t.parenthesized (d 1)) ∷ []) []
unfolding digits
steps_08 = refl

-- this;
steps_09 : Takes 3 (run t.this ∷ []) []
unfolding digits
steps_09 = refl

-- undefined;
steps_10 : Takes 3 (run (v "undefined") ∷ []) []
unfolding digits
steps_10 = refl

-- -1;
steps_11 : Takes 3 (run (neg (d 1)) ∷ []) []
unfolding digits
steps_11 = refl

-- typeof 1;
steps_12 : Takes 3 (run (t.unary unaries.Typeof (d 1)) ∷ []) []
unfolding digits
steps_12 = refl

-- typeof x;
steps_13 : Takes 3 (run (t.unary unaries.Typeof (v "x")) ∷ []) []
unfolding digits
steps_13 = refl

-- typeof (x);
steps_14 : Takes 3 (run (t.unary unaries.Typeof (t.parenthesized (v "x"))) ∷ []) []
unfolding digits
steps_14 = refl

-- typeof this;
steps_15 : Takes 4 (run (t.unary unaries.Typeof t.this) ∷ []) []
unfolding digits
steps_15 = refl

-- 1 + 2 * 3;
steps_16 : Takes 4 (run (add (d 1) (mul (d 2) (d 3))) ∷ []) []
unfolding digits
steps_16 = refl

-- 1, 2, 3;
steps_17 : Takes 4 (run (t.comma (expressions (d 1 ∷ d 2 ∷ d 3 ∷ []))) ∷ []) []
unfolding digits
steps_17 = refl

-- true && 1;
steps_18 : Takes 3 (run (t.binary binaries.LogicalAnd (t.boolean true) (d 1)) ∷ []) []
unfolding digits
steps_18 = refl

-- false || 1 + 1;
steps_19 : Takes 4 (run (t.binary binaries.LogicalOr (t.boolean false) (add (d 1) (d 1))) ∷ []) []
unfolding digits
steps_19 = refl

-- true ? 1 : 2;
steps_20 : Takes 3 (run (t.conditional (t.boolean true) (d 1) (d 2)) ∷ []) []
unfolding digits
steps_20 = refl

-- [];
steps_21 : Takes 3 (run (array []) ∷ []) []
unfolding digits
steps_21 = refl

-- [1, [2], 3];
steps_22 : Takes 4 (run (array (d 1 ∷ array (d 2 ∷ []) ∷ d 3 ∷ [])) ∷ []) []
unfolding digits
steps_22 = refl

-- ({});
steps_23 : Takes 3 (run (t.parenthesized (object [])) ∷ []) []
unfolding digits
steps_23 = refl

-- ({a: 1, [2]: 3, m() {}});
steps_24 : Takes 4 (run (t.parenthesized (object (key "a" (d 1) ∷ t.value (t.computed_key (d 2)) (d 3) ∷ t.method
    (t.word_key (codes "m")) [] t.no_statements ∷ []))) ∷ []) []
unfolding digits
steps_24 = refl

-- ({a: {b: 1}});
steps_25 : Takes 4 (run (t.parenthesized (object (key "a" (object (key "b" (d 1) ∷ [])) ∷ []))) ∷ []) []
unfolding digits
steps_25 = refl

-- [1][0];
steps_26 : Takes 4 (run (at (array (d 1 ∷ [])) (d 0)) ∷ []) []
unfolding digits
steps_26 = refl

-- 'ab'.length;
steps_27 : Takes 3 (run (dot (s "ab") "length") ∷ []) []
unfolding digits
steps_27 = refl

-- delete ({}).a;
steps_28 : Takes 4 (run (t.unary unaries.Delete (dot (t.parenthesized (object [])) "a")) ∷ []) []
unfolding digits
steps_28 = refl

-- () => 1;
steps_29 : Takes 3 (run (arrow [] (d 1)) ∷ []) []
unfolding digits
steps_29 = refl

-- (function g() {});
steps_30 : Takes 3 (run (t.parenthesized (t.function (Some (codes "g")) [] t.no_statements)) ∷ []) []
unfolding digits
steps_30 = refl

-- (() => 1)();
steps_31 : Takes 6 (run (call (t.parenthesized (arrow [] (d 1))) []) ∷ []) []
unfolding digits
steps_31 = refl

-- (x => x)(1);
steps_32 : Takes 7 (run (call (t.parenthesized (arrow ("x" ∷ []) (v "x"))) (d 1 ∷ [])) ∷ []) []
unfolding digits
steps_32 = refl

-- (function() { })();
steps_33 : Takes 5 (run (call (t.parenthesized (t.function None [] t.no_statements)) []) ∷ []) []
unfolding digits
steps_33 = refl

-- function f() { return; } f();
steps_34 : Takes 6 (fn "f" [] (t.return t.omitted ∷ []) ∷ run (call (v "f") []) ∷ []) []
unfolding digits
steps_34 = refl

-- function f(a) { return a; } f(1);
steps_35 : Takes 7 (fn "f" ("a" ∷ []) (ret (v "a") ∷ []) ∷ run (call (v "f") (d 1 ∷ [])) ∷ []) []
unfolding digits
steps_35 = refl

-- function f() { function g() { } } f();
steps_36 : Takes 5 (fn "f" [] (fn "g" [] [] ∷ []) ∷ run (call (v "f") []) ∷ []) []
unfolding digits
steps_36 = refl

-- let a;
steps_37 : Takes 3 (t.lexical false (t.a_declarator (t.declarator (codes "a") t.omitted) t.no_declarators) ∷ []) []
unfolding digits
steps_37 = refl

-- let a = 1, b;
steps_38 : Takes 4 (t.lexical false (t.a_declarator (t.declarator (codes "a") (t.present (d 1)))
    (t.a_declarator (t.declarator (codes "b") t.omitted) t.no_declarators)) ∷ []) []
unfolding digits
steps_38 = refl

-- let a = 1; a = 2;
steps_39 : Takes 5 (let_ "a" (d 1) ∷ run (put (v "a") (d 2)) ∷ []) []
unfolding digits
steps_39 = refl

-- let a = 1; a += 2;
steps_40 : Takes 7 (let_ "a" (d 1) ∷ run (t.assign assigns.Add (v "a") (d 2)) ∷ []) []
unfolding digits
steps_40 = refl

-- let a = 1; a++;
steps_41 : Takes 5 (let_ "a" (d 1) ∷ run (inc (v "a")) ∷ []) []
unfolding digits
steps_41 = refl

-- let a = 1; --a;
steps_42 : Takes 5 (let_ "a" (d 1) ∷ run (t.prefix updates.Decrement (v "a")) ∷ []) []
unfolding digits
steps_42 = refl

-- let o = {}; o.a = 2;
steps_43 : Takes 7 (let_ "o" (object []) ∷ run (put (dot (v "o") "a") (d 2)) ∷ []) []
unfolding digits
steps_43 = refl

-- let o = {a: 1}; o.a++;
steps_44 : Takes 7 (let_ "o" (object (key "a" (d 1) ∷ [])) ∷ run (inc (dot (v "o") "a")) ∷ []) []
unfolding digits
steps_44 = refl

-- let o = {a: 1}; o.a += 1;
steps_45 : Takes 9 (let_ "o" (object (key "a" (d 1) ∷ [])) ∷ run (t.assign assigns.Add (dot (v "o") "a") (d 1)) ∷ []) []
unfolding digits
steps_45 = refl

-- let o = {a: 1}; o['a'] *= 2;
steps_46 : Takes 9 (let_ "o" (object (key "a" (d 1) ∷ [])) ∷ run
    (t.assign assigns.Multiply (at (v "o") (s "a")) (d 2)) ∷ []) []
unfolding digits
steps_46 = refl

-- let f = function() { };
steps_47 : Takes 4 (let_ "f" (t.function None [] t.no_statements) ∷ []) []
unfolding digits
steps_47 = refl

-- if (true) ;
steps_48 : Takes 3 (t.if_then (t.boolean true) t.empty ∷ []) []
unfolding digits
steps_48 = refl

-- if (false) ; else { }
steps_49 : Takes 4 (t.if_else (t.boolean false) t.empty (block []) ∷ []) []
unfolding digits
steps_49 = refl

-- if (true) { 1; }
steps_50 : Takes 5 (t.if_then (t.boolean true) (block (run (d 1) ∷ [])) ∷ []) []
unfolding digits
steps_50 = refl

-- while (false) ;
steps_51 : Takes 3 (t.while (t.boolean false) t.empty ∷ []) []
unfolding digits
steps_51 = refl

-- do { } while (false)
steps_52 : Takes 4 (t.do_while (block []) (t.boolean false) ∷ []) []
unfolding digits
steps_52 = refl

-- do { continue; } while (false)
steps_53 : Takes 6 (t.do_while (block (t.continue ∷ [])) (t.boolean false) ∷ []) []
unfolding digits
steps_53 = refl

-- for (;;) break;
steps_54 : Takes 5 (t.for t.omitted t.omitted t.omitted t.break ∷ []) []
unfolding digits
steps_54 = refl

-- for (1; false; ) ;
steps_55 : Takes 3 (t.for (t.present (d 1)) (t.present (t.boolean false)) t.omitted t.empty ∷ []) []
unfolding digits
steps_55 = refl

-- for (const x = 1; false;) ;
steps_56 : Takes 4 (t.for_lexical true (t.a_declarator (t.declarator (codes "x") (t.present (d 1))) t.no_declarators)
    (t.present (t.boolean false)) t.omitted t.empty ∷ []) []
unfolding digits
steps_56 = refl

-- for (let i = 0; i < 1; i++) ;
steps_57 : Takes 12 (for_let "i" (d 0) (t.present (less (v "i") (d 1))) (t.present (inc (v "i"))) t.empty ∷ []) []
unfolding digits
steps_57 = refl

-- for (let i = 0; i < 1; i++) continue;
steps_58 : Takes 14 (for_let "i" (d 0) (t.present (less (v "i") (d 1))) (t.present (inc (v "i"))) t.continue ∷ []) []
unfolding digits
steps_58 = refl

-- for (let i = 0; i < 1; i++) { let j = i; }
steps_59 : Takes 16 (for_let "i" (d 0) (t.present (less (v "i") (d 1))) (t.present (inc (v "i")))
    (block (let_ "j" (v "i") ∷ [])) ∷ []) []
unfolding digits
steps_59 = refl

-- for (let x of []) ;
steps_60 : Takes 5 (t.for_of false (codes "x") (array []) t.empty ∷ []) []
unfolding digits
steps_60 = refl

-- for (let x of [1]) { }
steps_61 : Takes 7 (t.for_of false (codes "x") (array (d 1 ∷ [])) (block []) ∷ []) []
unfolding digits
steps_61 = refl

-- for (const x of [1]) { x; }
steps_62 : Takes 9 (t.for_of true (codes "x") (array (d 1 ∷ [])) (block (run (v "x") ∷ [])) ∷ []) []
unfolding digits
steps_62 = refl

-- for (let x of [1, 2]) break;
steps_63 : Takes 7 (t.for_of false (codes "x") (array (d 1 ∷ d 2 ∷ [])) t.break ∷ []) []
unfolding digits
steps_63 = refl

-- try { } finally { }
steps_64 : Takes 4 (try_finally [] [] ∷ []) []
unfolding digits
steps_64 = refl

-- try { } catch { }
steps_65 : Takes 3 (t.try t.no_statements (t.catch None t.no_statements) t.no_finally ∷ []) []
unfolding digits
steps_65 = refl

-- try { throw 1; } catch { }
steps_66 : Takes 7 (t.try (statements (t.throw (d 1) ∷ [])) (t.catch None t.no_statements) t.no_finally ∷ []) []
unfolding digits
steps_66 = refl

-- try { throw 1; } catch (e) { e; }
steps_67 : Takes 9 (try_catch (t.throw (d 1) ∷ []) "e" (run (v "e") ∷ []) ∷ []) []
unfolding digits
steps_67 = refl

-- try { null.x; } catch (e) { }
steps_68 : Takes 7 (try_catch (run (dot t.null "x") ∷ []) "e" [] ∷ []) []
unfolding digits
steps_68 = refl

-- try { try { throw 1; } finally { } } catch { }
steps_69 : Takes 11 (t.try (statements (try_finally (t.throw (d 1) ∷ []) [] ∷ [])) (t.catch None t.no_statements)
    t.no_finally ∷ []) []
unfolding digits
steps_69 = refl

-- try { throw 1; } catch { } finally { }
steps_70 : Takes 8 (t.try (statements (t.throw (d 1) ∷ [])) (t.catch None t.no_statements) (t.finally t.no_statements) ∷
    []) []
unfolding digits
steps_70 = refl

-- for (;;) { try { break; } finally { } }
steps_71 : Takes 10 (t.for t.omitted t.omitted t.omitted (block (try_finally (t.break ∷ []) [] ∷ [])) ∷ []) []
unfolding digits
steps_71 = refl

-- function f() { try { return 1; } finally { } } f();
steps_72 : Takes 10 (fn "f" [] (try_finally (ret (d 1) ∷ []) [] ∷ []) ∷ run (call (v "f") []) ∷ []) []
unfolding digits
steps_72 = refl

-- function f() { for (;;) { try { return 1; } finally { break; } } } f();
steps_73 : Takes 15 (fn "f" [] (t.for t.omitted t.omitted t.omitted
    (block (try_finally (ret (d 1) ∷ []) (t.break ∷ []) ∷ [])) ∷ []) ∷ run (call (v "f") []) ∷ []) []
unfolding digits
steps_73 = refl

-- throw 1;
steps_throw_01 : TakesThrow 4 (t.throw (d 1) ∷ []) [] "1"
unfolding digits
steps_throw_01 = refl

-- x;
steps_throw_02 : TakesThrow 4 (run (v "x") ∷ []) [] "ReferenceError: x is not defined"
unfolding digits
steps_throw_02 = refl

-- let a = a;
steps_throw_03 : TakesThrow 4 (let_ "a" (v "a") ∷ []) [] "ReferenceError: Cannot access 'a' before initialization"
unfolding digits
steps_throw_03 = refl

-- (1)();
steps_throw_04 : TakesThrow 4 (run (call (t.parenthesized (d 1)) []) ∷ []) [] "TypeError: Value is not a function"
unfolding digits
steps_throw_04 = refl

-- const a = 1; a = 2;
steps_throw_05 : TakesThrow 6 (const "a" (d 1) ∷ run (put (v "a") (d 2)) ∷ []) []
    "TypeError: Assignment to constant variable."
unfolding digits
steps_throw_05 = refl

-- 1 / 2;
steps_throw_06 : TakesThrow 4 (run (div (d 1) (d 2)) ∷ []) [] "RangeError: Result is not a safe integer"
unfolding digits
steps_throw_06 = refl

-- try { throw 1; } finally { }
steps_throw_07 : TakesThrow 8 (try_finally (t.throw (d 1) ∷ []) [] ∷ []) [] "1"
unfolding digits
steps_throw_07 = refl

-- ({}) + 'a';
steps_throw_08 : TakesThrow 5 (run (add (t.parenthesized (object [])) (s "a")) ∷ []) []
    "TypeError: Cannot convert an object to text"
unfolding digits
steps_throw_08 = refl

-- [1][{}];
steps_throw_09 : TakesThrow 6 (run (at (array (d 1 ∷ [])) (object [])) ∷ []) []
    "TypeError: Property key must be a string or a number"
unfolding digits
steps_throw_09 = refl

-- null[{}];
steps_throw_10 : TakesThrow 5 (run (at t.null (object [])) ∷ []) []
    "TypeError: Property key must be a string or a number"
unfolding digits
steps_throw_10 = refl
