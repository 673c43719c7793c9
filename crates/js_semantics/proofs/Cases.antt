-- Runs of small scripts, computed: how many steps, how they end, what they print.
use Rattle.std.specs.Prelude.{◌≡◌, true, false, [], ◌∷◌, Some, None, codes, refl}
use Rattle.js_tree_operators.specs.declared.operator.UnaryOperator.TheVariants as unaries
use Rattle.js_tree_operators.specs.declared.operator.UpdateOperator.TheVariants as updates
use Rattle.js_tree_operators.specs.declared.operator.BinaryOperator.TheVariants as binaries
use Rattle.js_tree_operators.specs.declared.operator.AssignmentOperator.TheVariants as assigns
use Rattle.js_tree.specs.Trees as t
use Rattle.std.specs.Fmt.{digits}
use Rattle.js_semantics.proofs.Reports.{ended_normally, threw_text, report, ran, outcome, ended_as}
use Rattle.js_tree.specs.Views.{expressions, statements}
use Rattle.js_semantics.proofs.Shorthand.{add, array, arrow, arrow_block, at, block, call, const, d, div, dot, fn, for_let, inc, key, less, let_, log, mul, neg, object, put, rem, ret, run, s, same, sub, try_both, try_catch, try_finally, v, Prints, Throws, Takes, TakesThrow}

-- console.log(1);
case_001 : Takes 5 (log (d 1 ∷ []) ∷ []) ("1" ∷ [])
unfolding digits
case_001 = refl

-- function f() {   return 1; } f(); console.log(2);
case_002 : Takes 10 (fn "f" [] (ret (d 1) ∷ []) ∷ run (call (v "f") []) ∷ log (d 2 ∷ []) ∷ []) ("2" ∷ [])
unfolding digits
case_002 = refl

-- function f() {   try { throw 1; } finally { } } try { f(); } catch (e) { }
case_003 : Takes 14 (fn "f" [] (try_finally (t.throw (d 1) ∷ []) [] ∷ []) ∷ try_catch (run (call (v "f") []) ∷ []) "e"
    [] ∷ []) []
unfolding digits
case_003 = refl

-- function f() {   try { throw 1; } finally { } } f();
case_004 : TakesThrow 11 (fn "f" [] (try_finally (t.throw (d 1) ∷ []) [] ∷ []) ∷ run (call (v "f") []) ∷ []) [] "1"
unfolding digits
case_004 = refl

-- let n = 0; const f = () => { n = n + 1; return n; }; debugger; console.log(n);
case_005 : Takes 12 (let_ "n" (d 0) ∷ const "f" (arrow_block []
    (run (put (v "n") (add (v "n") (d 1))) ∷ ret (v "n") ∷ [])) ∷ t.debugger ∷ log (v "n" ∷ []) ∷ []) ("0" ∷ [])
unfolding digits
case_005 = refl

-- function add(a, b) {   return a + b; } console.log(add(2, 3));
case_006 : Takes 12 (fn "add" ("a" ∷ "b" ∷ []) (ret (add (v "a") (v "b")) ∷ []) ∷ log
    (call (v "add") (d 2 ∷ d 3 ∷ []) ∷ []) ∷ []) ("5" ∷ [])
unfolding digits
case_006 = refl

-- "😀"; debugger;
case_007 : Takes 3 (run (t.string (55357 ∷ 56832 ∷ [])) ∷ t.debugger ∷ []) []
unfolding digits
case_007 = refl

-- console.log(9007199254740991 - 0);
case_008 : Prints (log (sub (d 9007199254740991) (d 0) ∷ []) ∷ []) ("9007199254740991" ∷ [])
unfolding digits
case_008 = refl

-- console.log(-7 % 3);
case_009 : Prints (log (rem (neg (d 7)) (d 3) ∷ []) ∷ []) ("-1" ∷ [])
unfolding digits
case_009 = refl

-- console.log(-7 >>> 28);
case_010 : Prints (log (t.binary binaries.UnsignedRightShift (neg (d 7)) (d 28) ∷ []) ∷ []) ("15" ∷ [])
unfolding digits
case_010 = refl

-- console.log(7 / 2);
case_011 : Throws (log (div (d 7) (d 2) ∷ []) ∷ []) [] "RangeError: Result is not a safe integer"
unfolding digits
case_011 = refl

-- let fs = []; for (let i = 0; i < 3; i++) fs.push(() => i); console.log(fs[0](), fs[1](), fs[2]());
case_012 : Prints (let_ "fs" (array []) ∷ for_let "i" (d 0) (t.present (less (v "i") (d 3))) (t.present (inc (v "i")))
    (run (call (dot (v "fs") "push") (arrow [] (v "i") ∷ []))) ∷ log
    (call (at (v "fs") (d 0)) [] ∷ call (at (v "fs") (d 1)) [] ∷ call (at (v "fs") (d 2)) [] ∷ []) ∷ []) ("0 1 2" ∷ [])
unfolding digits
case_012 = refl

-- function f() { try { return 1; } finally { console.log('x'); } } console.log(f());
case_013 : Prints (fn "f" [] (try_finally (ret (d 1) ∷ []) (log (s "x" ∷ []) ∷ []) ∷ []) ∷ log (call (v "f") [] ∷ []) ∷
    []) ("x" ∷ "1" ∷ [])
unfolding digits
case_013 = refl

-- for (let i = 0; i < 3; i++) { try { if (i === 1) continue; console.log(i); } finally { console.log('f'); } }
case_014 : Prints (for_let "i" (d 0) (t.present (less (v "i") (d 3))) (t.present (inc (v "i")))
    (block (try_finally (t.if_then (same (v "i") (d 1)) t.continue ∷ log (v "i" ∷ []) ∷ []) (log (s "f" ∷ []) ∷ []) ∷
    [])) ∷ []) ("0" ∷ "f" ∷ "f" ∷ "2" ∷ "f" ∷ [])
unfolding digits
case_014 = refl

-- for (let i = 0; i < 3; i++) { try { break; } finally { console.log('f'); } }
case_015 : Prints (for_let "i" (d 0) (t.present (less (v "i") (d 3))) (t.present (inc (v "i")))
    (block (try_finally (t.break ∷ []) (log (s "f" ∷ []) ∷ []) ∷ [])) ∷ []) ("f" ∷ [])
unfolding digits
case_015 = refl

-- function f() { for (;;) { try { return 1; } finally { break; } } return 2; } console.log(f());
case_016 : Prints (fn "f" [] (t.for t.omitted t.omitted t.omitted
    (block (try_finally (ret (d 1) ∷ []) (t.break ∷ []) ∷ [])) ∷ ret (d 2) ∷ []) ∷ log (call (v "f") [] ∷ []) ∷ [])
    ("2" ∷ [])
unfolding digits
case_016 = refl

-- function f() { try { throw 1; } finally { return 2; } } console.log(f());
case_017 : Prints (fn "f" [] (try_finally (t.throw (d 1) ∷ []) (ret (d 2) ∷ []) ∷ []) ∷ log (call (v "f") [] ∷ []) ∷ [])
    ("2" ∷ [])
unfolding digits
case_017 = refl

-- function f() { try { try { throw 1; } finally { throw 2; } } catch (e) { return e; } } console.log(f());
case_018 : Prints (fn "f" [] (try_catch (try_finally (t.throw (d 1) ∷ []) (t.throw (d 2) ∷ []) ∷ []) "e"
    (ret (v "e") ∷ []) ∷ []) ∷ log (call (v "f") [] ∷ []) ∷ []) ("2" ∷ [])
unfolding digits
case_018 = refl

-- try { try { throw 'a'; } catch (e) { throw e + 'b'; } finally { console.log('f'); } } catch (e) { console.log(e); }
case_019 : Prints (try_catch (try_both (t.throw (s "a") ∷ []) "e" (t.throw (add (v "e") (s "b")) ∷ [])
    (log (s "f" ∷ []) ∷ []) ∷ []) "e" (log (v "e" ∷ []) ∷ []) ∷ []) ("f" ∷ "ab" ∷ [])
unfolding digits
case_019 = refl

-- function f(a, b) { return b === undefined ? a : b; } console.log(f(1), f(1, 2), f(1, 2, 3));
case_020 : Prints (fn "f" ("a" ∷ "b" ∷ []) (ret (t.conditional (same (v "b") (v "undefined")) (v "a") (v "b")) ∷ []) ∷
    log (call (v "f") (d 1 ∷ []) ∷ call (v "f") (d 1 ∷ d 2 ∷ []) ∷ call (v "f") (d 1 ∷ d 2 ∷ d 3 ∷ []) ∷ []) ∷ [])
    ("1 2 2" ∷ [])
unfolding digits
case_020 = refl

-- console.log(1 + 2, 'a' + 1, 1 + 'a', 'x' + true + null + undefined);
case_021 : Prints (log (add (d 1) (d 2) ∷ add (s "a") (d 1) ∷ add (d 1) (s "a") ∷ add
    (add (add (s "x") (t.boolean true)) t.null) (v "undefined") ∷ []) ∷ []) ("3 a1 1a xtruenullundefined" ∷ [])
unfolding digits
case_021 = refl

-- console.log(7 - 9, 3 * -4, 8 / 2, -8 / 4, 7 % -3, -7 % 3);
case_022 : Prints (log (sub (d 7) (d 9) ∷ mul (d 3) (neg (d 4)) ∷ div (d 8) (d 2) ∷ div (neg (d 8)) (d 4) ∷ rem (d 7)
    (neg (d 3)) ∷ rem (neg (d 7)) (d 3) ∷ []) ∷ []) ("-2 -12 4 -2 1 -1" ∷ [])
unfolding digits
case_022 = refl

-- console.log(5 & 3, 5 | 3, 5 ^ 3, ~5, -1 & 255, ~-1);
case_023 : Prints (log (t.binary binaries.BitwiseAnd (d 5) (d 3) ∷ t.binary binaries.BitwiseOr (d 5) (d 3) ∷ t.binary
    binaries.BitwiseXor (d 5) (d 3) ∷ t.unary unaries.BitwiseNot (d 5) ∷ t.binary binaries.BitwiseAnd (neg (d 1))
    (d 255) ∷ t.unary unaries.BitwiseNot (neg (d 1)) ∷ []) ∷ []) ("1 7 6 -6 255 0" ∷ [])
unfolding digits
case_023 = refl

-- console.log(1 << 31, 1 << 33, -8 >> 1, -8 >>> 1, -1 >>> 0, 4294967296 | 0, 2147483648 | 0);
case_024 : Prints (log (t.binary binaries.LeftShift (d 1) (d 31) ∷ t.binary binaries.LeftShift (d 1) (d 33) ∷ t.binary
    binaries.RightShift (neg (d 8)) (d 1) ∷ t.binary binaries.UnsignedRightShift (neg (d 8)) (d 1) ∷ t.binary
    binaries.UnsignedRightShift (neg (d 1)) (d 0) ∷ t.binary binaries.BitwiseOr (d 4294967296) (d 0) ∷ t.binary
    binaries.BitwiseOr (d 2147483648) (d 0) ∷ []) ∷ []) ("-2147483648 2 -4 2147483644 4294967295 0 -2147483648" ∷ [])
unfolding digits
case_024 = refl

-- console.log(1 < 2, 2 <= 2, 3 > 4, 3 >= 4, 'a' < 'b', 'a' < 'ab', 'b' <= 'a', 'Z' < 'a');
case_025 : Prints (log (less (d 1) (d 2) ∷ t.binary binaries.LessThanOrEqual (d 2) (d 2) ∷ t.binary binaries.GreaterThan
    (d 3) (d 4) ∷ t.binary binaries.GreaterThanOrEqual (d 3) (d 4) ∷ less (s "a") (s "b") ∷ less (s "a") (s "ab") ∷
    t.binary binaries.LessThanOrEqual (s "b") (s "a") ∷ less (s "Z") (s "a") ∷ []) ∷ [])
    ("true true false false true true false true" ∷ [])
unfolding digits
case_025 = refl

-- console.log(1 === 1, 'a' === 'a', null === undefined, null == undefined, null == 0, [] === [], 1 !== 2, 'a' != 'b');
case_026 : Prints (log (same (d 1) (d 1) ∷ same (s "a") (s "a") ∷ same t.null (v "undefined") ∷ t.binary binaries.Equal
    t.null (v "undefined") ∷ t.binary binaries.Equal t.null (d 0) ∷ same (array []) (array []) ∷ t.binary
    binaries.StrictNotEqual (d 1) (d 2) ∷ t.binary binaries.NotEqual (s "a") (s "b") ∷ []) ∷ [])
    ("true true false true false false true true" ∷ [])
unfolding digits
case_026 = refl

-- console.log(typeof undefined, typeof null, typeof true, typeof 1, typeof 'a', typeof {}, typeof [], typeof
-- console.log, typeof nothing);
case_027 : Prints (log (t.unary unaries.Typeof (v "undefined") ∷ t.unary unaries.Typeof t.null ∷ t.unary unaries.Typeof
    (t.boolean true) ∷ t.unary unaries.Typeof (d 1) ∷ t.unary unaries.Typeof (s "a") ∷ t.unary unaries.Typeof
    (object []) ∷ t.unary unaries.Typeof (array []) ∷ t.unary unaries.Typeof (dot (v "console") "log") ∷ t.unary
    unaries.Typeof (v "nothing") ∷ []) ∷ []) ("undefined object boolean number string object object function undefined"
    ∷ [])
unfolding digits
case_027 = refl

-- console.log(!0, !'', !null, !undefined, ![], !'a', !1);
case_028 : Prints (log (t.unary unaries.LogicalNot (d 0) ∷ t.unary unaries.LogicalNot (t.string []) ∷ t.unary
    unaries.LogicalNot t.null ∷ t.unary unaries.LogicalNot (v "undefined") ∷ t.unary unaries.LogicalNot (array []) ∷
    t.unary unaries.LogicalNot (s "a") ∷ t.unary unaries.LogicalNot (d 1) ∷ []) ∷ [])
    ("true true true true false false false" ∷ [])
unfolding digits
case_028 = refl

-- console.log(true && 1, 0 && 1, 0 || 2, 1 || 2, null || undefined);
case_029 : Prints (log (t.binary binaries.LogicalAnd (t.boolean true) (d 1) ∷ t.binary binaries.LogicalAnd (d 0) (d 1) ∷
    t.binary binaries.LogicalOr (d 0) (d 2) ∷ t.binary binaries.LogicalOr (d 1) (d 2) ∷ t.binary binaries.LogicalOr
    t.null (v "undefined") ∷ []) ∷ []) ("1 0 2 1 undefined" ∷ [])
unfolding digits
case_029 = refl

-- console.log(void 1, +5, -5, - -5);
case_030 : Prints (log (t.unary unaries.Void (d 1) ∷ t.unary unaries.Plus (d 5) ∷ neg (d 5) ∷ neg (neg (d 5)) ∷ []) ∷
    []) ("undefined 5 -5 5" ∷ [])
unfolding digits
case_030 = refl

-- let a = 1; console.log(a++, a, ++a, a--, --a); a += 5; a -= 1; a *= 3; console.log(a); a %= 4; a <<= 3;
-- console.log(a); a >>= 1; a >>>= 1; a |= 5; a &= 6; a ^= 1; console.log(a); a /= 1; console.log(a);
case_031 : Prints (let_ "a" (d 1) ∷ log (inc (v "a") ∷ v "a" ∷ t.prefix updates.Increment (v "a") ∷ t.postfix
    updates.Decrement (v "a") ∷ t.prefix updates.Decrement (v "a") ∷ []) ∷ run (t.assign assigns.Add (v "a") (d 5)) ∷
    run (t.assign assigns.Subtract (v "a") (d 1)) ∷ run (t.assign assigns.Multiply (v "a") (d 3)) ∷ log (v "a" ∷ []) ∷
    run (t.assign assigns.Remainder (v "a") (d 4)) ∷ run (t.assign assigns.LeftShift (v "a") (d 3)) ∷ log (v "a" ∷ []) ∷
    run (t.assign assigns.RightShift (v "a") (d 1)) ∷ run (t.assign assigns.UnsignedRightShift (v "a") (d 1)) ∷ run
    (t.assign assigns.BitwiseOr (v "a") (d 5)) ∷ run (t.assign assigns.BitwiseAnd (v "a") (d 6)) ∷ run
    (t.assign assigns.BitwiseXor (v "a") (d 1)) ∷ log (v "a" ∷ []) ∷ run (t.assign assigns.Divide (v "a") (d 1)) ∷ log
    (v "a" ∷ []) ∷ []) ("1 2 3 3 1" ∷ "15" ∷ "24" ∷ "7" ∷ "7" ∷ [])
unfolding digits
case_031 = refl

-- let o = {b: 1, 2: 2, a: 3, 1: 4}; console.log(Object.keys(o).join(), o.b, o[2], o['a'], o[1]);
case_032 : Prints (let_ "o" (object (key "b" (d 1) ∷ t.value (t.number_key 2) (d 2) ∷ key "a" (d 3) ∷ t.value
    (t.number_key 1) (d 4) ∷ [])) ∷ log (call (dot (call (dot (v "Object") "keys") (v "o" ∷ [])) "join") [] ∷ dot
    (v "o") "b" ∷ at (v "o") (d 2) ∷ at (v "o") (s "a") ∷ at (v "o") (d 1) ∷ []) ∷ []) ("1,2,b,a 1 2 3 4" ∷ [])
unfolding digits
case_032 = refl

-- let o = {}; o.x = 1; o['y'] = 2; o[10] = 3; o[9] = 4; delete o.x; o.x = 5; console.log(Object.keys(o).join('-'), o.x,
-- o.z, delete o.nothing);
case_033 : Prints (let_ "o" (object []) ∷ run (put (dot (v "o") "x") (d 1)) ∷ run (put (at (v "o") (s "y")) (d 2)) ∷ run
    (put (at (v "o") (d 10)) (d 3)) ∷ run (put (at (v "o") (d 9)) (d 4)) ∷ run
    (t.unary unaries.Delete (dot (v "o") "x")) ∷ run (put (dot (v "o") "x") (d 5)) ∷ log
    (call (dot (call (dot (v "Object") "keys") (v "o" ∷ [])) "join") (s "-" ∷ []) ∷ dot (v "o") "x" ∷ dot (v "o") "z" ∷
    t.unary unaries.Delete (dot (v "o") "nothing") ∷ []) ∷ []) ("9-10-y-x 5 undefined true" ∷ [])
unfolding digits
case_033 = refl

-- let k = 'q'; let o = {a: 1, [k]: 2, [1 + 2]: 3, m(x) { return this.a + x; }, ['n' + k]() { return this.q; }, k};
-- console.log(o.q, o[3], o.m(5), o.nq(), o.k, o.nq.name, o.m.name);
case_034 : Prints (let_ "k" (s "q") ∷ let_ "o" (object
    (key "a" (d 1) ∷ t.value (t.computed_key (v "k")) (d 2) ∷ t.value (t.computed_key (add (d 1) (d 2))) (d 3) ∷
    t.method (t.word_key (codes "m")) (codes "x" ∷ []) (statements (ret (add (dot t.this "a") (v "x")) ∷ [])) ∷ t.method
    (t.computed_key (add (s "n") (v "k"))) [] (statements (ret (dot t.this "q") ∷ [])) ∷ t.shorthand (codes "k") ∷
    [])) ∷ log (dot (v "o") "q" ∷ at (v "o") (d 3) ∷ call (dot (v "o") "m") (d 5 ∷ []) ∷ call (dot (v "o") "nq") [] ∷
    dot (v "o") "k" ∷ dot (dot (v "o") "nq") "name" ∷ dot (dot (v "o") "m") "name" ∷ []) ∷ []) ("2 3 6 2 q nq m" ∷ [])
unfolding digits
case_034 = refl

-- let o = {f() { return (() => this === o)(); }, g: function() { return this === o; }, h: () => this === o};
-- console.log(o.f(), o.g(), (o.g)(), o.h());
case_035 : Prints (let_ "o" (object (t.method (t.word_key (codes "f")) []
    (statements (ret (call (t.parenthesized (arrow [] (same t.this (v "o")))) []) ∷ [])) ∷ key "g"
    (t.function None [] (statements (ret (same t.this (v "o")) ∷ []))) ∷ key "h" (arrow [] (same t.this (v "o"))) ∷
    [])) ∷ log (call (dot (v "o") "f") [] ∷ call (dot (v "o") "g") [] ∷ call (t.parenthesized (dot (v "o") "g")) [] ∷
    call (dot (v "o") "h") [] ∷ []) ∷ []) ("true true true false" ∷ [])
unfolding digits
case_035 = refl

-- console.log((function() { return this; })(), (function g() { return g.name; })(), (() => 1).name, (function(a, b)
-- {}).length);
case_036 : Prints (log (call (t.parenthesized (t.function None [] (statements (ret t.this ∷ [])))) [] ∷ call
    (t.parenthesized (t.function (Some (codes "g")) [] (statements (ret (dot (v "g") "name") ∷ [])))) [] ∷ dot
    (t.parenthesized (arrow [] (d 1))) "name" ∷ dot (t.parenthesized
    (t.function None (codes "a" ∷ codes "b" ∷ []) t.no_statements)) "length" ∷ []) ∷ []) ("undefined g  2" ∷ [])
unfolding digits
case_036 = refl

-- let f = function() {}; const g = () => 1; let h = (function() {}); let o = {p: () => 1, 'q r': function() {}, 3: ()
-- => 1}; console.log(f.name, g.name, h.name, o.p.name, o['q r'].name, o[3].name);
case_037 : Prints (let_ "f" (t.function None [] t.no_statements) ∷ const "g" (arrow [] (d 1)) ∷ let_ "h"
    (t.parenthesized (t.function None [] t.no_statements)) ∷ let_ "o"
    (object (key "p" (arrow [] (d 1)) ∷ t.value (t.string_key (codes "q r")) (t.function None [] t.no_statements) ∷
    t.value (t.number_key 3) (arrow [] (d 1)) ∷ [])) ∷ log
    (dot (v "f") "name" ∷ dot (v "g") "name" ∷ dot (v "h") "name" ∷ dot (dot (v "o") "p") "name" ∷ dot
    (at (v "o") (s "q r")) "name" ∷ dot (at (v "o") (d 3)) "name" ∷ []) ∷ []) ("f g h p q r 3" ∷ [])
unfolding digits
case_037 = refl

-- function f() { return g(); function g() { return 1; } } console.log(f(), f.name, f.length);
case_038 : Prints (fn "f" [] (ret (call (v "g") []) ∷ fn "g" [] (ret (d 1) ∷ []) ∷ []) ∷ log
    (call (v "f") [] ∷ dot (v "f") "name" ∷ dot (v "f") "length" ∷ []) ∷ []) ("1 f 0" ∷ [])
unfolding digits
case_038 = refl

-- { function h() { return 2; } console.log(h()); }
case_039 : Prints (block (fn "h" [] (ret (d 2) ∷ []) ∷ log (call (v "h") [] ∷ []) ∷ []) ∷ []) ("2" ∷ [])
unfolding digits
case_039 = refl

-- let x = 1; { let x = 2; console.log(x); { x = 3; } console.log(x); } console.log(x);
case_040 : Prints (let_ "x" (d 1) ∷ block (let_ "x" (d 2) ∷ log (v "x" ∷ []) ∷ block (run (put (v "x") (d 3)) ∷ []) ∷
    log (v "x" ∷ []) ∷ []) ∷ log (v "x" ∷ []) ∷ []) ("2" ∷ "3" ∷ "1" ∷ [])
unfolding digits
case_040 = refl

-- function make() { let n = 0; return () => { n = n + 1; return n; }; } let a = make(), b = make(); console.log(a(),
-- a(), b());
case_041 : Prints (fn "make" [] (let_ "n" (d 0) ∷ ret (arrow_block []
    (run (put (v "n") (add (v "n") (d 1))) ∷ ret (v "n") ∷ [])) ∷ []) ∷ t.lexical false
    (t.a_declarator (t.declarator (codes "a") (t.present (call (v "make") [])))
    (t.a_declarator (t.declarator (codes "b") (t.present (call (v "make") []))) t.no_declarators)) ∷ log
    (call (v "a") [] ∷ call (v "a") [] ∷ call (v "b") [] ∷ []) ∷ []) ("1 2 1" ∷ [])
unfolding digits
case_041 = refl

-- let a = [1, 2]; console.log(a.length, a.push(3, 4), a.length, a.pop(), a.length, [].pop(), a[2], a[7], a.foo); a[3] =
-- 9; a.length = 2; console.log(a.join());
case_042 : Prints (let_ "a" (array (d 1 ∷ d 2 ∷ [])) ∷ log
    (dot (v "a") "length" ∷ call (dot (v "a") "push") (d 3 ∷ d 4 ∷ []) ∷ dot (v "a") "length" ∷ call (dot (v "a") "pop")
    [] ∷ dot (v "a") "length" ∷ call (dot (array []) "pop") [] ∷ at (v "a") (d 2) ∷ at (v "a") (d 7) ∷ dot (v "a")
    "foo" ∷ []) ∷ run (put (at (v "a") (d 3)) (d 9)) ∷ run (put (dot (v "a") "length") (d 2)) ∷ log
    (call (dot (v "a") "join") [] ∷ []) ∷ []) ("2 4 4 4 3 undefined 3 undefined undefined" ∷ "1,2" ∷ [])
unfolding digits
case_042 = refl

-- console.log([1, 'a', null].indexOf('a'), [1].indexOf(2), [[1]].indexOf([1]), 'banana'.indexOf('an'),
-- 'abc'.indexOf('x'), 'abc'.indexOf(''));
case_043 : Prints (log (call (dot (array (d 1 ∷ s "a" ∷ t.null ∷ [])) "indexOf") (s "a" ∷ []) ∷ call
    (dot (array (d 1 ∷ [])) "indexOf") (d 2 ∷ []) ∷ call (dot (array (array (d 1 ∷ []) ∷ [])) "indexOf")
    (array (d 1 ∷ []) ∷ []) ∷ call (dot (s "banana") "indexOf") (s "an" ∷ []) ∷ call (dot (s "abc") "indexOf")
    (s "x" ∷ []) ∷ call (dot (s "abc") "indexOf") (t.string [] ∷ []) ∷ []) ∷ []) ("1 -1 -1 1 -1 0" ∷ [])
unfolding digits
case_043 = refl

-- console.log([1, undefined, null, 'a', true].join('+'), [].join(), ['x'].join('y'));
case_044 : Prints (log (call (dot (array (d 1 ∷ v "undefined" ∷ t.null ∷ s "a" ∷ t.boolean true ∷ [])) "join")
    (s "+" ∷ []) ∷ call (dot (array []) "join") [] ∷ call (dot (array (s "x" ∷ [])) "join") (s "y" ∷ []) ∷ []) ∷ [])
    ("1+++a+true  x" ∷ [])
unfolding digits
case_044 = refl

-- let a = [0, 1, 2, 3, 4]; console.log(a.slice(1, 3).join(), a.slice(-2).join(), a.slice().join(), a.slice(2,
-- -1).join(), a.slice(9).join(), 'hello'.slice(1, 3), 'hello'.slice(-3, -1), 'hello'.slice(3, 1) + '|');
case_045 : Prints (let_ "a" (array (d 0 ∷ d 1 ∷ d 2 ∷ d 3 ∷ d 4 ∷ [])) ∷ log
    (call (dot (call (dot (v "a") "slice") (d 1 ∷ d 3 ∷ [])) "join") [] ∷ call
    (dot (call (dot (v "a") "slice") (neg (d 2) ∷ [])) "join") [] ∷ call (dot (call (dot (v "a") "slice") []) "join")
    [] ∷ call (dot (call (dot (v "a") "slice") (d 2 ∷ neg (d 1) ∷ [])) "join") [] ∷ call
    (dot (call (dot (v "a") "slice") (d 9 ∷ [])) "join") [] ∷ call (dot (s "hello") "slice") (d 1 ∷ d 3 ∷ []) ∷ call
    (dot (s "hello") "slice") (neg (d 3) ∷ neg (d 1) ∷ []) ∷ add (call (dot (s "hello") "slice") (d 3 ∷ d 1 ∷ []))
    (s "|") ∷ []) ∷ []) ("1,2 3,4 0,1,2,3,4 2,3  el ll |" ∷ [])
unfolding digits
case_045 = refl

-- console.log('abc'.charCodeAt(1), 'abc'.length, 'abc'[1], 'abc'[9], 'abc'.foo, (5).foo, true.x);
case_046 : Prints (log (call (dot (s "abc") "charCodeAt") (d 1 ∷ []) ∷ dot (s "abc") "length" ∷ at (s "abc") (d 1) ∷ at
    (s "abc") (d 9) ∷ dot (s "abc") "foo" ∷ dot (t.parenthesized (d 5)) "foo" ∷ dot (t.boolean true) "x" ∷ []) ∷ [])
    ("98 3 b undefined undefined undefined undefined" ∷ [])
unfolding digits
case_046 = refl

-- console.log(Array.isArray([]), Array.isArray({}), Array.isArray('a'), String(12), String(null), String(true),
-- String('s'), String(undefined));
case_047 : Prints (log (call (dot (v "Array") "isArray") (array [] ∷ []) ∷ call (dot (v "Array") "isArray")
    (object [] ∷ []) ∷ call (dot (v "Array") "isArray") (s "a" ∷ []) ∷ call (v "String") (d 12 ∷ []) ∷ call (v "String")
    (t.null ∷ []) ∷ call (v "String") (t.boolean true ∷ []) ∷ call (v "String") (s "s" ∷ []) ∷ call (v "String")
    (v "undefined" ∷ []) ∷ []) ∷ []) ("true false false 12 null true s undefined" ∷ [])
unfolding digits
case_047 = refl

-- console.log(Object.keys([7, 8]).join(), Object.keys(Error('m')).length, Object.keys(() => 1).length);
case_048 : Prints (log (call (dot (call (dot (v "Object") "keys") (array (d 7 ∷ d 8 ∷ []) ∷ [])) "join") [] ∷ dot
    (call (dot (v "Object") "keys") (call (v "Error") (s "m" ∷ []) ∷ [])) "length" ∷ dot
    (call (dot (v "Object") "keys") (arrow [] (d 1) ∷ [])) "length" ∷ []) ∷ []) ("0,1 0 0" ∷ [])
unfolding digits
case_048 = refl

-- let e = Error('m'); console.log(e.message, e.name, typeof e, Error().message + '|', TypeError('t').name,
-- RangeError('r').message, ReferenceError('x').name); e.name = 'N'; console.log(e.name);
case_049 : Prints (let_ "e" (call (v "Error") (s "m" ∷ [])) ∷ log
    (dot (v "e") "message" ∷ dot (v "e") "name" ∷ t.unary unaries.Typeof (v "e") ∷ add
    (dot (call (v "Error") []) "message") (s "|") ∷ dot (call (v "TypeError") (s "t" ∷ [])) "name" ∷ dot
    (call (v "RangeError") (s "r" ∷ [])) "message" ∷ dot (call (v "ReferenceError") (s "x" ∷ [])) "name" ∷ []) ∷ run
    (put (dot (v "e") "name") (s "N")) ∷ log (dot (v "e") "name" ∷ []) ∷ [])
    ("m Error object | TypeError r ReferenceError" ∷ "N" ∷ [])
unfolding digits
case_049 = refl

-- for (const x of [1, 2, 3]) { if (x === 2) continue; console.log(x); }
case_050 : Prints (t.for_of true (codes "x") (array (d 1 ∷ d 2 ∷ d 3 ∷ []))
    (block (t.if_then (same (v "x") (d 2)) t.continue ∷ log (v "x" ∷ []) ∷ [])) ∷ []) ("1" ∷ "3" ∷ [])
unfolding digits
case_050 = refl

-- let a = [1]; for (let x of a) { if (x < 4) a.push(x + 1); console.log(x); }
case_051 : Prints (let_ "a" (array (d 1 ∷ [])) ∷ t.for_of false (codes "x") (v "a")
    (block (t.if_then (less (v "x") (d 4)) (run (call (dot (v "a") "push") (add (v "x") (d 1) ∷ []))) ∷ log
    (v "x" ∷ []) ∷ [])) ∷ []) ("1" ∷ "2" ∷ "3" ∷ "4" ∷ [])
unfolding digits
case_051 = refl

-- for (let x of [1, 2, 3]) { if (x === 2) break; console.log(x); }
case_052 : Prints (t.for_of false (codes "x") (array (d 1 ∷ d 2 ∷ d 3 ∷ []))
    (block (t.if_then (same (v "x") (d 2)) t.break ∷ log (v "x" ∷ []) ∷ [])) ∷ []) ("1" ∷ [])
unfolding digits
case_052 = refl

-- let fs = []; for (const x of [1, 2]) fs.push(() => x); console.log(fs[0](), fs[1]());
case_053 : Prints (let_ "fs" (array []) ∷ t.for_of true (codes "x") (array (d 1 ∷ d 2 ∷ []))
    (run (call (dot (v "fs") "push") (arrow [] (v "x") ∷ []))) ∷ log
    (call (at (v "fs") (d 0)) [] ∷ call (at (v "fs") (d 1)) [] ∷ []) ∷ []) ("1 2" ∷ [])
unfolding digits
case_053 = refl

-- let i = 0; while (i < 3) { i++; if (i === 2) continue; console.log(i); } do { i--; } while (i > 1); console.log(i);
case_054 : Prints (let_ "i" (d 0) ∷ t.while (less (v "i") (d 3))
    (block (run (inc (v "i")) ∷ t.if_then (same (v "i") (d 2)) t.continue ∷ log (v "i" ∷ []) ∷ [])) ∷ t.do_while
    (block (run (t.postfix updates.Decrement (v "i")) ∷ [])) (t.binary binaries.GreaterThan (v "i") (d 1)) ∷ log
    (v "i" ∷ []) ∷ []) ("1" ∷ "3" ∷ "1" ∷ [])
unfolding digits
case_054 = refl

-- for (let i = 0, j = 9; i < j; i += 4, j -= 1) console.log(i, j);
case_055 : Prints (t.for_lexical false (t.a_declarator (t.declarator (codes "i") (t.present (d 0)))
    (t.a_declarator (t.declarator (codes "j") (t.present (d 9))) t.no_declarators)) (t.present (less (v "i") (v "j")))
    (t.present (t.comma (expressions (t.assign assigns.Add (v "i") (d 4) ∷ t.assign assigns.Subtract (v "j") (d 1) ∷
    [])))) (log (v "i" ∷ v "j" ∷ [])) ∷ []) ("0 9" ∷ "4 8" ∷ [])
unfolding digits
case_055 = refl

-- let i = 5; for (i = 0; i < 2; i++); console.log(i); for (; i < 4;) i++; console.log(i);
case_056 : Prints (let_ "i" (d 5) ∷ t.for (t.present (put (v "i") (d 0))) (t.present (less (v "i") (d 2)))
    (t.present (inc (v "i"))) t.empty ∷ log (v "i" ∷ []) ∷ t.for t.omitted (t.present (less (v "i") (d 4))) t.omitted
    (run (inc (v "i"))) ∷ log (v "i" ∷ []) ∷ []) ("2" ∷ "4" ∷ [])
unfolding digits
case_056 = refl

-- if (0) console.log('a'); else if ('') console.log('b'); else console.log('c');
case_057 : Prints (t.if_else (d 0) (log (s "a" ∷ [])) (t.if_else (t.string []) (log (s "b" ∷ [])) (log (s "c" ∷ []))) ∷
    []) ("c" ∷ [])
unfolding digits
case_057 = refl

-- console.log((1, 2, 3), 1 ? 2 : 3, 0 ? 2 : 3 ? 4 : 5);
case_058 : Prints (log (t.parenthesized (t.comma (expressions (d 1 ∷ d 2 ∷ d 3 ∷ []))) ∷ t.conditional (d 1) (d 2)
    (d 3) ∷ t.conditional (d 0) (d 2) (t.conditional (d 3) (d 4) (d 5)) ∷ []) ∷ []) ("3 2 4" ∷ [])
unfolding digits
case_058 = refl

-- let log = []; function t(n) { log.push(n); return n; } t(1) + t(2) * t(3); [t(4), t(5)]; ({a: t(6), [t(7)]: t(8)});
-- console.log(log.join());
case_059 : Prints (let_ "log" (array []) ∷ fn "t" ("n" ∷ [])
    (run (call (dot (v "log") "push") (v "n" ∷ [])) ∷ ret (v "n") ∷ []) ∷ run
    (add (call (v "t") (d 1 ∷ [])) (mul (call (v "t") (d 2 ∷ [])) (call (v "t") (d 3 ∷ [])))) ∷ run
    (array (call (v "t") (d 4 ∷ []) ∷ call (v "t") (d 5 ∷ []) ∷ [])) ∷ run
    (t.parenthesized (object (key "a" (call (v "t") (d 6 ∷ [])) ∷ t.value (t.computed_key (call (v "t") (d 7 ∷ [])))
    (call (v "t") (d 8 ∷ [])) ∷ []))) ∷ log (call (dot (v "log") "join") [] ∷ []) ∷ []) ("1,2,3,4,5,6,7,8" ∷ [])
unfolding digits
case_059 = refl

-- let o = {get: 1, set: 2, delete: 3}; console.log(o.get + o.set + o.delete);
case_060 : Prints (let_ "o" (object (key "get" (d 1) ∷ key "set" (d 2) ∷ key "delete" (d 3) ∷ [])) ∷ log
    (add (add (dot (v "o") "get") (dot (v "o") "set")) (dot (v "o") "delete") ∷ []) ∷ []) ("6" ∷ [])
unfolding digits
case_060 = refl

-- let f = function g(n) { return n < 2 ? 1 : n * g(n - 1); }; console.log(f(5));
case_061 : Prints (let_ "f" (t.function (Some (codes "g")) (codes "n" ∷ [])
    (statements (ret (t.conditional (less (v "n") (d 2)) (d 1) (mul (v "n") (call (v "g") (sub (v "n") (d 1) ∷ [])))) ∷
    []))) ∷ log (call (v "f") (d 5 ∷ []) ∷ []) ∷ []) ("120" ∷ [])
unfolding digits
case_061 = refl

-- let t; function f() { try { t = 'a'; return t; } finally { t = 'b'; } } console.log(f(), t);
case_062 : Prints (t.lexical false (t.a_declarator (t.declarator (codes "t") t.omitted) t.no_declarators) ∷ fn "f" []
    (try_finally (run (put (v "t") (s "a")) ∷ ret (v "t") ∷ []) (run (put (v "t") (s "b")) ∷ []) ∷ []) ∷ log
    (call (v "f") [] ∷ v "t" ∷ []) ∷ []) ("a b" ∷ [])
unfolding digits
case_062 = refl

-- let o = {n: 1}; o.n++; o['n'] += 2; ++o.n; console.log(o.n, o.n--, o.n);
case_063 : Prints (let_ "o" (object (key "n" (d 1) ∷ [])) ∷ run (inc (dot (v "o") "n")) ∷ run
    (t.assign assigns.Add (at (v "o") (s "n")) (d 2)) ∷ run (t.prefix updates.Increment (dot (v "o") "n")) ∷ log
    (dot (v "o") "n" ∷ t.postfix updates.Decrement (dot (v "o") "n") ∷ dot (v "o") "n" ∷ []) ∷ []) ("5 5 4" ∷ [])
unfolding digits
case_063 = refl

-- let a = [1, 2]; a[0] += 5; a[1]++; console.log(a.join());
case_064 : Prints (let_ "a" (array (d 1 ∷ d 2 ∷ [])) ∷ run (t.assign assigns.Add (at (v "a") (d 0)) (d 5)) ∷ run
    (inc (at (v "a") (d 1))) ∷ log (call (dot (v "a") "join") [] ∷ []) ∷ []) ("6,3" ∷ [])
unfolding digits
case_064 = refl

-- console.log('a' + 'b' === 'ab', typeof typeof 1, -0 === 0, !!'0');
case_065 : Prints (log (same (add (s "a") (s "b")) (s "ab") ∷ t.unary unaries.Typeof (t.unary unaries.Typeof (d 1)) ∷
    same (neg (d 0)) (d 0) ∷ t.unary unaries.LogicalNot (t.unary unaries.LogicalNot (s "0")) ∷ []) ∷ [])
    ("true string true true" ∷ [])
unfolding digits
case_065 = refl

-- console.log(readline(), readline(), readline());
case_066 : ended_as (statements (log (call (v "readline") [] ∷ call (v "readline") [] ∷ call (v "readline") [] ∷ []) ∷
    []) ∷ []) (codes "x y" ∷ [] ∷ []) ≡ outcome ended_normally (codes "x y  null" ∷ [])
unfolding digits
case_066 = refl

-- console.log(1, 'a', null, undefined, true, [1], {}, () => 1, function f() {}, Error('m'), TypeError(), console.log);
case_067 : Prints (log (d 1 ∷ s "a" ∷ t.null ∷ v "undefined" ∷ t.boolean true ∷ array (d 1 ∷ []) ∷ object [] ∷ arrow []
    (d 1) ∷ t.function (Some (codes "f")) [] t.no_statements ∷ call (v "Error") (s "m" ∷ []) ∷ call (v "TypeError") [] ∷
    dot (v "console") "log" ∷ []) ∷ [])
    ("1 a null undefined true [object Array] [object Object] function  function f Error: m TypeError function log" ∷ [])
unfolding digits
case_067 = refl

-- console.log(Object, Array, console, String, [].indexOf === ''.indexOf, [].push === [].push);
case_068 : Prints (log (v "Object" ∷ v "Array" ∷ v "console" ∷ v "String" ∷ same (dot (array []) "indexOf")
    (dot (t.string []) "indexOf") ∷ same (dot (array []) "push") (dot (array []) "push") ∷ []) ∷ [])
    ("[object Object] [object Object] [object Object] function String false true" ∷ [])
unfolding digits
case_068 = refl

-- let a = 1; | console.log(a);
case_069 : ran (statements (let_ "a" (d 1) ∷ []) ∷ statements (log (v "a" ∷ []) ∷ []) ∷ []) [] ≡ report 9 ended_normally
    (codes "1" ∷ [])
unfolding digits
case_069 = refl

-- throw 1; | console.log(1);
case_070 : ran (statements (t.throw (d 1) ∷ []) ∷ statements (log (d 1 ∷ []) ∷ []) ∷ []) [] ≡ report 4
    (threw_text (codes "1")) []
unfolding digits
case_070 = refl

-- let undefinedToo = undefined; let String = 5; console.log(String);
case_071 : Prints (let_ "undefinedToo" (v "undefined") ∷ let_ "String" (d 5) ∷ log (v "String" ∷ []) ∷ []) ("5" ∷ [])
unfolding digits
case_071 = refl

-- x;
case_072 : Throws (run (v "x") ∷ []) [] "ReferenceError: x is not defined"
unfolding digits
case_072 = refl

-- x = 1;
case_073 : Throws (run (put (v "x") (d 1)) ∷ []) [] "ReferenceError: x is not defined"
unfolding digits
case_073 = refl

-- { a; let a; }
case_074 : Throws (block (run (v "a") ∷ t.lexical false
    (t.a_declarator (t.declarator (codes "a") t.omitted) t.no_declarators) ∷ []) ∷ []) []
    "ReferenceError: Cannot access 'a' before initialization"
unfolding digits
case_074 = refl

-- typeof a; let a;
case_075 : Throws (run (t.unary unaries.Typeof (v "a")) ∷ t.lexical false
    (t.a_declarator (t.declarator (codes "a") t.omitted) t.no_declarators) ∷ []) []
    "ReferenceError: Cannot access 'a' before initialization"
unfolding digits
case_075 = refl

-- a = 1; let a;
case_076 : Throws (run (put (v "a") (d 1)) ∷ t.lexical false
    (t.a_declarator (t.declarator (codes "a") t.omitted) t.no_declarators) ∷ []) []
    "ReferenceError: Cannot access 'a' before initialization"
unfolding digits
case_076 = refl

-- a = 1; const a = 2;
case_077 : Throws (run (put (v "a") (d 1)) ∷ const "a" (d 2) ∷ []) []
    "ReferenceError: Cannot access 'a' before initialization"
unfolding digits
case_077 = refl

-- const a = 1; a++;
case_078 : Throws (const "a" (d 1) ∷ run (inc (v "a")) ∷ []) [] "TypeError: Assignment to constant variable."
unfolding digits
case_078 = refl

-- (function g() { g = 1; })();
case_079 : Throws (run (call (t.parenthesized (t.function (Some (codes "g")) []
    (statements (run (put (v "g") (d 1)) ∷ [])))) []) ∷ []) [] "TypeError: Assignment to constant variable."
unfolding digits
case_079 = refl

-- undefined = 1;
case_080 : Throws (run (put (v "undefined") (d 1)) ∷ []) [] "TypeError: Assignment to constant variable."
unfolding digits
case_080 = refl

-- for (const i = 0; i < 1; i++) ;
case_081 : Throws (t.for_lexical true (t.a_declarator (t.declarator (codes "i") (t.present (d 0))) t.no_declarators)
    (t.present (less (v "i") (d 1))) (t.present (inc (v "i"))) t.empty ∷ []) []
    "TypeError: Assignment to constant variable."
unfolding digits
case_081 = refl

-- let o = {}; o.f();
case_082 : Throws (let_ "o" (object []) ∷ run (call (dot (v "o") "f") []) ∷ []) [] "TypeError: Value is not a function"
unfolding digits
case_082 = refl

-- undefined.x;
case_083 : Throws (run (dot (v "undefined") "x") ∷ []) [] "TypeError: Cannot read properties of undefined (reading 'x')"
unfolding digits
case_083 = refl

-- null['y' + 1];
case_084 : Throws (run (at t.null (add (s "y") (d 1))) ∷ []) []
    "TypeError: Cannot read properties of null (reading 'y1')"
unfolding digits
case_084 = refl

-- undefined[3];
case_085 : Throws (run (at (v "undefined") (d 3)) ∷ []) []
    "TypeError: Cannot read properties of undefined (reading '3')"
unfolding digits
case_085 = refl

-- undefined.x = 1;
case_086 : Throws (run (put (dot (v "undefined") "x") (d 1)) ∷ []) []
    "TypeError: Cannot set properties of undefined (setting 'x')"
unfolding digits
case_086 = refl

-- delete null.x;
case_087 : Throws (run (t.unary unaries.Delete (dot t.null "x")) ∷ []) []
    "TypeError: Cannot set properties of null (setting 'x')"
unfolding digits
case_087 = refl

-- 1 - 'a';
case_088 : Throws (run (sub (d 1) (s "a")) ∷ []) [] "TypeError: Operands must be numbers"
unfolding digits
case_088 = refl

-- true + 1;
case_089 : Throws (run (add (t.boolean true) (d 1)) ∷ []) [] "TypeError: Operands must be numbers"
unfolding digits
case_089 = refl

-- -'1';
case_090 : Throws (run (neg (s "1")) ∷ []) [] "TypeError: Operands must be numbers"
unfolding digits
case_090 = refl

-- let a = 'x'; a++;
case_091 : Throws (let_ "a" (s "x") ∷ run (inc (v "a")) ∷ []) [] "TypeError: Operands must be numbers"
unfolding digits
case_091 = refl

-- 'a' + {};
case_092 : Throws (run (add (s "a") (object [])) ∷ []) [] "TypeError: Cannot convert an object to text"
unfolding digits
case_092 = refl

-- [{}].join();
case_093 : Throws (run (call (dot (array (object [] ∷ [])) "join") []) ∷ []) []
    "TypeError: Cannot convert an object to text"
unfolding digits
case_093 = refl

-- String([]);
case_094 : Throws (run (call (v "String") (array [] ∷ [])) ∷ []) [] "TypeError: Cannot convert an object to text"
unfolding digits
case_094 = refl

-- 1 < 'a';
case_095 : Throws (run (less (d 1) (s "a")) ∷ []) [] "TypeError: Cannot compare values of different types"
unfolding digits
case_095 = refl

-- 1 == 'a';
case_096 : Throws (run (t.binary binaries.Equal (d 1) (s "a")) ∷ []) []
    "TypeError: Cannot compare values of different types"
unfolding digits
case_096 = refl

-- null < null;
case_097 : Throws (run (less t.null t.null) ∷ []) [] "TypeError: Cannot compare values of different types"
unfolding digits
case_097 = refl

-- [1].foo = 1;
case_098 : Throws (run (put (dot (array (d 1 ∷ [])) "foo") (d 1)) ∷ []) [] "TypeError: Cannot change property 'foo'"
unfolding digits
case_098 = refl

-- delete [1][0];
case_099 : Throws (run (t.unary unaries.Delete (at (array (d 1 ∷ [])) (d 0))) ∷ []) []
    "TypeError: Cannot change property '0'"
unfolding digits
case_099 = refl

-- (() => 1).name = 'a';
case_100 : Throws (run (put (dot (t.parenthesized (arrow [] (d 1))) "name") (s "a")) ∷ []) []
    "TypeError: Cannot change property 'name'"
unfolding digits
case_100 = refl

-- 'a'.length = 1;
case_101 : Throws (run (put (dot (s "a") "length") (d 1)) ∷ []) [] "TypeError: Cannot change property 'length'"
unfolding digits
case_101 = refl

-- (5).x = 1;
case_102 : Throws (run (put (dot (t.parenthesized (d 5)) "x") (d 1)) ∷ []) [] "TypeError: Cannot change property 'x'"
unfolding digits
case_102 = refl

-- [1][4294967295] = 1;
case_103 : Throws (run (put (at (array (d 1 ∷ [])) (d 4294967295)) (d 1)) ∷ []) []
    "TypeError: Cannot change property '4294967295'"
unfolding digits
case_103 = refl

-- ({})[{}];
case_104 : Throws (run (at (t.parenthesized (object [])) (object [])) ∷ []) []
    "TypeError: Property key must be a string or a number"
unfolding digits
case_104 = refl

-- ({[true]: 1});
case_105 : Throws (run (t.parenthesized (object (t.value (t.computed_key (t.boolean true)) (d 1) ∷ []))) ∷ []) []
    "TypeError: Property key must be a string or a number"
unfolding digits
case_105 = refl

-- ({[true]() {}});
case_106 : Throws (run (t.parenthesized (object (t.method (t.computed_key (t.boolean true)) [] t.no_statements ∷ []))) ∷
    []) [] "TypeError: Property key must be a string or a number"
unfolding digits
case_106 = refl

-- undefined[null] = 1;
case_107 : Throws (run (put (at (v "undefined") t.null) (d 1)) ∷ []) []
    "TypeError: Property key must be a string or a number"
unfolding digits
case_107 = refl

-- for (let x of 'abc') ;
case_108 : Throws (t.for_of false (codes "x") (s "abc") t.empty ∷ []) [] "TypeError: Value is not an array"
unfolding digits
case_108 = refl

-- Error(1);
case_109 : Throws (run (call (v "Error") (d 1 ∷ [])) ∷ []) [] "TypeError: Argument has a wrong type"
unfolding digits
case_109 = refl

-- Object.keys('a');
case_110 : Throws (run (call (dot (v "Object") "keys") (s "a" ∷ [])) ∷ []) [] "TypeError: Argument has a wrong type"
unfolding digits
case_110 = refl

-- 'abc'.indexOf(1);
case_111 : Throws (run (call (dot (s "abc") "indexOf") (d 1 ∷ [])) ∷ []) [] "TypeError: Argument has a wrong type"
unfolding digits
case_111 = refl

-- [].join(1);
case_112 : Throws (run (call (dot (array []) "join") (d 1 ∷ [])) ∷ []) [] "TypeError: Argument has a wrong type"
unfolding digits
case_112 = refl

-- [].slice('a');
case_113 : Throws (run (call (dot (array []) "slice") (s "a" ∷ [])) ∷ []) [] "TypeError: Argument has a wrong type"
unfolding digits
case_113 = refl

-- 'abc'.charCodeAt('0');
case_114 : Throws (run (call (dot (s "abc") "charCodeAt") (s "0" ∷ [])) ∷ []) [] "TypeError: Argument has a wrong type"
unfolding digits
case_114 = refl

-- let p = [].push; p(1);
case_115 : Throws (let_ "p" (dot (array []) "push") ∷ run (call (v "p") (d 1 ∷ [])) ∷ []) []
    "TypeError: Argument has a wrong type"
unfolding digits
case_115 = refl

-- let o = {s: 'a'.slice}; o.s();
case_116 : Throws (let_ "o" (object (key "s" (dot (s "a") "slice") ∷ [])) ∷ run (call (dot (v "o") "s") []) ∷ []) []
    "TypeError: Argument has a wrong type"
unfolding digits
case_116 = refl

-- 9007199254740991 + 1;
case_117 : Throws (run (add (d 9007199254740991) (d 1)) ∷ []) [] "RangeError: Result is not a safe integer"
unfolding digits
case_117 = refl

-- 1 / 0;
case_118 : Throws (run (div (d 1) (d 0)) ∷ []) [] "RangeError: Result is not a safe integer"
unfolding digits
case_118 = refl

-- 1 % 0;
case_119 : Throws (run (rem (d 1) (d 0)) ∷ []) [] "RangeError: Result is not a safe integer"
unfolding digits
case_119 = refl

-- let a = 9007199254740991; a++;
case_120 : Throws (let_ "a" (d 9007199254740991) ∷ run (inc (v "a")) ∷ []) [] "RangeError: Result is not a safe integer"
unfolding digits
case_120 = refl

-- 'abc'.charCodeAt(3);
case_121 : Throws (run (call (dot (s "abc") "charCodeAt") (d 3 ∷ [])) ∷ []) []
    "RangeError: Result is not a safe integer"
unfolding digits
case_121 = refl

-- 'abc'.charCodeAt(-1);
case_122 : Throws (run (call (dot (s "abc") "charCodeAt") (neg (d 1) ∷ [])) ∷ []) []
    "RangeError: Result is not a safe integer"
unfolding digits
case_122 = refl

-- let a = [1]; a[2] = 1;
case_123 : Throws (let_ "a" (array (d 1 ∷ [])) ∷ run (put (at (v "a") (d 2)) (d 1)) ∷ []) []
    "RangeError: Invalid array length"
unfolding digits
case_123 = refl

-- let a = [1]; a.length = 2;
case_124 : Throws (let_ "a" (array (d 1 ∷ [])) ∷ run (put (dot (v "a") "length") (d 2)) ∷ []) []
    "RangeError: Invalid array length"
unfolding digits
case_124 = refl

-- let a = [1]; a.length = 'x';
case_125 : Throws (let_ "a" (array (d 1 ∷ [])) ∷ run (put (dot (v "a") "length") (s "x")) ∷ []) []
    "RangeError: Invalid array length"
unfolding digits
case_125 = refl

-- throw Error('m');
case_126 : Throws (t.throw (call (v "Error") (s "m" ∷ [])) ∷ []) [] "Error: m"
unfolding digits
case_126 = refl

-- throw {};
case_127 : Throws (t.throw (object []) ∷ []) [] "[object Object]"
unfolding digits
case_127 = refl

-- let e = TypeError('a'); e.message = 1; throw e;
case_128 : Throws (let_ "e" (call (v "TypeError") (s "a" ∷ [])) ∷ run (put (dot (v "e") "message") (d 1)) ∷ t.throw
    (v "e") ∷ []) [] "TypeError"
unfolding digits
case_128 = refl

-- try { throw 1; } finally { undefined.x; }
case_129 : Throws (try_finally (t.throw (d 1) ∷ []) (run (dot (v "undefined") "x") ∷ []) ∷ []) []
    "TypeError: Cannot read properties of undefined (reading 'x')"
unfolding digits
case_129 = refl

-- let t = 0; function f(i) { t = t + i; return t; } for (let i = 0; i < 10; i++) { f(i); } console.log(t);
case_130 : Takes 194 (let_ "t" (d 0) ∷ fn "f" ("i" ∷ []) (run (put (v "t") (add (v "t") (v "i"))) ∷ ret (v "t") ∷ []) ∷
    for_let "i" (d 0) (t.present (less (v "i") (d 10))) (t.present (inc (v "i")))
    (block (run (call (v "f") (v "i" ∷ [])) ∷ [])) ∷ log (v "t" ∷ []) ∷ []) ("45" ∷ [])
unfolding digits
case_130 = refl

-- let t = 0; function f(i) { t = t + i; return t; } for (let i = 0; i < 1; i++) { f(i); } console.log(t);
case_131 : Takes 32 (let_ "t" (d 0) ∷ fn "f" ("i" ∷ []) (run (put (v "t") (add (v "t") (v "i"))) ∷ ret (v "t") ∷ []) ∷
    for_let "i" (d 0) (t.present (less (v "i") (d 1))) (t.present (inc (v "i")))
    (block (run (call (v "f") (v "i" ∷ [])) ∷ [])) ∷ log (v "t" ∷ []) ∷ []) ("0" ∷ [])
unfolding digits
case_131 = refl

-- console.log(7); console.log(8);
case_132 : Takes 9 (log (d 7 ∷ []) ∷ log (d 8 ∷ []) ∷ []) ("7" ∷ "8" ∷ [])
unfolding digits
case_132 = refl

-- function f() { return 1; } f(f()); 2;
case_133 : Takes 11 (fn "f" [] (ret (d 1) ∷ []) ∷ run (call (v "f") (call (v "f") [] ∷ [])) ∷ run (d 2) ∷ []) []
unfolding digits
case_133 = refl

-- 1; 2; 3;
case_134 : Takes 4 (run (d 1) ∷ run (d 2) ∷ run (d 3) ∷ []) []
unfolding digits
case_134 = refl

-- { 1; }
case_135 : Takes 3 (block (run (d 1) ∷ []) ∷ []) []
unfolding digits
case_135 = refl

-- let l = readline(); while (l !== null) { console.log(l); l = readline(); }
case_136 : ended_as (statements (let_ "l" (call (v "readline") []) ∷ t.while
    (t.binary binaries.StrictNotEqual (v "l") t.null) (block
    (log (v "l" ∷ []) ∷ run (put (v "l") (call (v "readline") [])) ∷ [])) ∷ []) ∷ [])
    (codes "a" ∷ codes "" ∷ codes "b" ∷ []) ≡ outcome ended_normally (codes "a" ∷ codes "" ∷ codes "b" ∷ [])
unfolding digits
case_136 = refl

-- 'ab'[0]++;
case_137 : TakesThrow 4 (run (inc (at (s "ab") (d 0))) ∷ []) [] "TypeError: Operands must be numbers"
unfolding digits
case_137 = refl

-- for (let i = 0, f = () => i; i < 2; i++) console.log(f());
case_138 : Prints (t.for_lexical false (t.a_declarator (t.declarator (codes "i") (t.present (d 0)))
    (t.a_declarator (t.declarator (codes "f") (t.present (arrow [] (v "i")))) t.no_declarators))
    (t.present (less (v "i") (d 2))) (t.present (inc (v "i"))) (log (call (v "f") [] ∷ [])) ∷ []) ("0" ∷ "0" ∷ [])
unfolding digits
case_138 = refl

-- let fs = []; for (let i = 0; i < 2; fs.push(() => i), i++) ; console.log(fs[0](), fs[1]());
case_139 : Prints (let_ "fs" (array []) ∷ for_let "i" (d 0) (t.present (less (v "i") (d 2)))
    (t.present (t.comma (expressions (call (dot (v "fs") "push") (arrow [] (v "i") ∷ []) ∷ inc (v "i") ∷ []))))
    t.empty ∷ log (call (at (v "fs") (d 0)) [] ∷ call (at (v "fs") (d 1)) [] ∷ []) ∷ []) ("1 2" ∷ [])
unfolding digits
case_139 = refl

-- for (let x of [() => x]) x();
case_140 : Throws (t.for_of false (codes "x") (array (arrow [] (v "x") ∷ [])) (run (call (v "x") [])) ∷ []) []
    "ReferenceError: Cannot access 'x' before initialization"
unfolding digits
case_140 = refl

-- let a = [1]; for (let a of a) ;
case_141 : Throws (let_ "a" (array (d 1 ∷ [])) ∷ t.for_of false (codes "a") (v "a") t.empty ∷ []) []
    "ReferenceError: Cannot access 'a' before initialization"
unfolding digits
case_141 = refl

-- try { throw 1; } catch (e) { { let e = 2; console.log(e); } console.log(e); e = 3; console.log(e); }
case_142 : Prints (try_catch (t.throw (d 1) ∷ []) "e" (block (let_ "e" (d 2) ∷ log (v "e" ∷ []) ∷ []) ∷ log
    (v "e" ∷ []) ∷ run (put (v "e") (d 3)) ∷ log (v "e" ∷ []) ∷ []) ∷ []) ("2" ∷ "1" ∷ "3" ∷ [])
unfolding digits
case_142 = refl

-- let i = 0; let a = [0, 0]; a[i++] = i; console.log(a.join(), i);
case_143 : Prints (let_ "i" (d 0) ∷ let_ "a" (array (d 0 ∷ d 0 ∷ [])) ∷ run (put (at (v "a") (inc (v "i"))) (v "i")) ∷
    log (call (dot (v "a") "join") [] ∷ v "i" ∷ []) ∷ []) ("1,0 1" ∷ [])
unfolding digits
case_143 = refl

-- let o = {}; o[o.x = 'k'] = o.x; console.log(Object.keys(o).join(), o.k);
case_144 : Prints (let_ "o" (object []) ∷ run (put (at (v "o") (put (dot (v "o") "x") (s "k"))) (dot (v "o") "x")) ∷ log
    (call (dot (call (dot (v "Object") "keys") (v "o" ∷ [])) "join") [] ∷ dot (v "o") "k" ∷ []) ∷ []) ("x,k k" ∷ [])
unfolding digits
case_144 = refl

-- let x = 1; x += (x = 5, 2); console.log(x);
case_145 : Prints (let_ "x" (d 1) ∷ run (t.assign assigns.Add (v "x")
    (t.parenthesized (t.comma (expressions (put (v "x") (d 5) ∷ d 2 ∷ []))))) ∷ log (v "x" ∷ []) ∷ []) ("3" ∷ [])
unfolding digits
case_145 = refl

-- let a = [1, 2, 3]; for (let x of a) { a.pop(); console.log(x); }
case_146 : Prints (let_ "a" (array (d 1 ∷ d 2 ∷ d 3 ∷ [])) ∷ t.for_of false (codes "x") (v "a")
    (block (run (call (dot (v "a") "pop") []) ∷ log (v "x" ∷ []) ∷ [])) ∷ []) ("1" ∷ "2" ∷ [])
unfolding digits
case_146 = refl

-- function f() { for (const x of [1, 2, 3]) { try { if (x === 2) return x; continue; } finally { console.log('f' + x);
-- } } } console.log(f());
case_147 : Prints (fn "f" [] (t.for_of true (codes "x") (array (d 1 ∷ d 2 ∷ d 3 ∷ []))
    (block (try_finally (t.if_then (same (v "x") (d 2)) (ret (v "x")) ∷ t.continue ∷ [])
    (log (add (s "f") (v "x") ∷ []) ∷ []) ∷ [])) ∷ []) ∷ log (call (v "f") [] ∷ []) ∷ []) ("f1" ∷ "f2" ∷ "2" ∷ [])
unfolding digits
case_147 = refl

-- function f() { do { try { return 1; } finally { continue; } } while (false); return 2; } console.log(f());
case_148 : Prints (fn "f" [] (t.do_while (block (try_finally (ret (d 1) ∷ []) (t.continue ∷ []) ∷ []))
    (t.boolean false) ∷ ret (d 2) ∷ []) ∷ log (call (v "f") [] ∷ []) ∷ []) ("2" ∷ [])
unfolding digits
case_148 = refl

-- function f() { try { return 1; } finally { try { throw 2; } catch (e) { console.log(e); } } } console.log(f());
case_149 : Prints (fn "f" [] (try_finally (ret (d 1) ∷ [])
    (try_catch (t.throw (d 2) ∷ []) "e" (log (v "e" ∷ []) ∷ []) ∷ []) ∷ []) ∷ log (call (v "f") [] ∷ []) ∷ [])
    ("2" ∷ "1" ∷ [])
unfolding digits
case_149 = refl

-- try { try { throw 1; } finally { try { throw 2; } catch { } } } catch (e) { console.log(e); }
case_150 : Prints (try_catch (try_finally (t.throw (d 1) ∷ [])
    (t.try (statements (t.throw (d 2) ∷ [])) (t.catch None t.no_statements) t.no_finally ∷ []) ∷ []) "e"
    (log (v "e" ∷ []) ∷ []) ∷ []) ("1" ∷ [])
unfolding digits
case_150 = refl

-- let t = ''; for (let i = 0; i < 3; i++) { for (let j = 0; j < 3; j++) { if (j === 1) continue; if (i === 1) break; t
-- += i + '' + j + ' '; } } console.log(t);
case_151 : Prints (let_ "t" (s "") ∷ for_let "i" (d 0) (t.present (less (v "i") (d 3))) (t.present (inc (v "i")))
    (block (for_let "j" (d 0) (t.present (less (v "j") (d 3))) (t.present (inc (v "j")))
    (block (t.if_then (same (v "j") (d 1)) t.continue ∷ t.if_then (same (v "i") (d 1)) t.break ∷ run
    (t.assign assigns.Add (v "t") (add (add (add (v "i") (s "")) (v "j")) (s " "))) ∷ [])) ∷ [])) ∷ log (v "t" ∷ []) ∷
    []) ("00 02 20 22 " ∷ [])
unfolding digits
case_151 = refl

-- let o = {n: 1, f: function() { let g = () => this.n; return g(); }}; console.log(o.f(), (0, o.f) === o.f, o['f']());
case_152 : Prints (let_ "o" (object (key "n" (d 1) ∷ key "f"
    (t.function None [] (statements (let_ "g" (arrow [] (dot t.this "n")) ∷ ret (call (v "g") []) ∷ []))) ∷ [])) ∷ log
    (call (dot (v "o") "f") [] ∷ same (t.parenthesized (t.comma (expressions (d 0 ∷ dot (v "o") "f" ∷ []))))
    (dot (v "o") "f") ∷ call (at (v "o") (s "f")) [] ∷ []) ∷ []) ("1 true 1" ∷ [])
unfolding digits
case_152 = refl

-- let a = [function() { return this.length; }, 2, 3]; console.log(a[0]());
case_153 : Prints (let_ "a" (array (t.function None [] (statements (ret (dot t.this "length") ∷ [])) ∷ d 2 ∷ d 3 ∷
    [])) ∷ log (call (at (v "a") (d 0)) [] ∷ []) ∷ []) ("3" ∷ [])
unfolding digits
case_153 = refl

-- function f(n) { if (n === 0) throw Error('deep'); f(n - 1); } try { f(5); } catch (e) { console.log(e, e.message); }
case_154 : Prints (fn "f" ("n" ∷ []) (t.if_then (same (v "n") (d 0)) (t.throw (call (v "Error") (s "deep" ∷ []))) ∷ run
    (call (v "f") (sub (v "n") (d 1) ∷ [])) ∷ []) ∷ try_catch (run (call (v "f") (d 5 ∷ [])) ∷ []) "e"
    (log (v "e" ∷ dot (v "e") "message" ∷ []) ∷ []) ∷ []) ("Error: deep deep" ∷ [])
unfolding digits
case_154 = refl

-- console.log('\ud83d\ude00'.length, '\ud83d\ude00'[0] === '\ud83d', '\ud83d' < '\uffff', '' < 'a', 'a' < 'B', 'ab' >
-- 'a');
case_155 : Prints (log (dot (t.string (55357 ∷ 56832 ∷ [])) "length" ∷ same (at (t.string (55357 ∷ 56832 ∷ [])) (d 0))
    (t.string (55357 ∷ [])) ∷ less (t.string (55357 ∷ [])) (t.string (65535 ∷ [])) ∷ less (s "") (s "a") ∷ less (s "a")
    (s "B") ∷ t.binary binaries.GreaterThan (s "ab") (s "a") ∷ []) ∷ []) ("2 true true true false true" ∷ [])
unfolding digits
case_155 = refl

-- let s = ''; for (const c of [1, 2]) { let c2 = c * 2; s = s + c2; } console.log(s);
case_156 : Prints (let_ "s" (s "") ∷ t.for_of true (codes "c") (array (d 1 ∷ d 2 ∷ []))
    (block (let_ "c2" (mul (v "c") (d 2)) ∷ run (put (v "s") (add (v "s") (v "c2"))) ∷ [])) ∷ log (v "s" ∷ []) ∷ [])
    ("24" ∷ [])
unfolding digits
case_156 = refl

-- let o = {a: 1}; let p = o; p.a = 2; console.log(o.a, o === p, {} === {}, o !== p);
case_157 : Prints (let_ "o" (object (key "a" (d 1) ∷ [])) ∷ let_ "p" (v "o") ∷ run (put (dot (v "p") "a") (d 2)) ∷ log
    (dot (v "o") "a" ∷ same (v "o") (v "p") ∷ same (object []) (object []) ∷ t.binary binaries.StrictNotEqual (v "o")
    (v "p") ∷ []) ∷ []) ("2 true false false" ∷ [])
unfolding digits
case_157 = refl

-- let x = 5; { function x2() { return x; } let y = x2(); console.log(y); }
case_158 : Prints (let_ "x" (d 5) ∷ block (fn "x2" [] (ret (v "x") ∷ []) ∷ let_ "y" (call (v "x2") []) ∷ log
    (v "y" ∷ []) ∷ []) ∷ []) ("5" ∷ [])
unfolding digits
case_158 = refl

-- function f() { return typeof f; } let g = f; console.log(g(), g.name, (() => {}).length, ((a, b, c) => 1).length);
case_159 : Prints (fn "f" [] (ret (t.unary unaries.Typeof (v "f")) ∷ []) ∷ let_ "g" (v "f") ∷ log
    (call (v "g") [] ∷ dot (v "g") "name" ∷ dot (t.parenthesized (arrow_block [] [])) "length" ∷ dot
    (t.parenthesized (arrow ("a" ∷ "b" ∷ "c" ∷ []) (d 1))) "length" ∷ []) ∷ []) ("function f 0 3" ∷ [])
unfolding digits
case_159 = refl

-- let f = function fact(n) { return n <= 1 ? 1 : n * fact(n - 1); }; console.log(f(10), typeof fact);
case_160 : Prints (let_ "f" (t.function (Some (codes "fact")) (codes "n" ∷ [])
    (statements (ret (t.conditional (t.binary binaries.LessThanOrEqual (v "n") (d 1)) (d 1)
    (mul (v "n") (call (v "fact") (sub (v "n") (d 1) ∷ [])))) ∷ []))) ∷ log
    (call (v "f") (d 10 ∷ []) ∷ t.unary unaries.Typeof (v "fact") ∷ []) ∷ []) ("3628800 undefined" ∷ [])
unfolding digits
case_160 = refl

-- let n = 0; while (true) { n++; if (n > 10) break; if (n % 2) continue; console.log(n); }
case_161 : Prints (let_ "n" (d 0) ∷ t.while (t.boolean true)
    (block (run (inc (v "n")) ∷ t.if_then (t.binary binaries.GreaterThan (v "n") (d 10)) t.break ∷ t.if_then
    (rem (v "n") (d 2)) t.continue ∷ log (v "n" ∷ []) ∷ [])) ∷ []) ("2" ∷ "4" ∷ "6" ∷ "8" ∷ "10" ∷ [])
unfolding digits
case_161 = refl

-- let c = 0; do { c++; if (c === 2) continue; if (c === 4) break; } while (c < 10); console.log(c);
case_162 : Prints (let_ "c" (d 0) ∷ t.do_while (block (run (inc (v "c")) ∷ t.if_then (same (v "c") (d 2)) t.continue ∷
    t.if_then (same (v "c") (d 4)) t.break ∷ [])) (less (v "c") (d 10)) ∷ log (v "c" ∷ []) ∷ []) ("4" ∷ [])
unfolding digits
case_162 = refl

-- console.log(7 & -2, -5 | 1, 6 ^ -1, 1 << 30, 1 << -1, -1 >> 31, -1 >>> 31, 5 >>> 32, 2147483647 + 1 | 0, -2147483648
-- >> 0);
case_163 : Prints (log (t.binary binaries.BitwiseAnd (d 7) (neg (d 2)) ∷ t.binary binaries.BitwiseOr (neg (d 5)) (d 1) ∷
    t.binary binaries.BitwiseXor (d 6) (neg (d 1)) ∷ t.binary binaries.LeftShift (d 1) (d 30) ∷ t.binary
    binaries.LeftShift (d 1) (neg (d 1)) ∷ t.binary binaries.RightShift (neg (d 1)) (d 31) ∷ t.binary
    binaries.UnsignedRightShift (neg (d 1)) (d 31) ∷ t.binary binaries.UnsignedRightShift (d 5) (d 32) ∷ t.binary
    binaries.BitwiseOr (add (d 2147483647) (d 1)) (d 0) ∷ t.binary binaries.RightShift (neg (d 2147483648)) (d 0) ∷
    []) ∷ []) ("6 -5 -7 1073741824 -2147483648 -1 1 5 -2147483648 -2147483648" ∷ [])
unfolding digits
case_163 = refl

-- console.log(9007199254740991 & 255, -9007199254740991 | 0, 9007199254740991 >>> 0, -9007199254740991 >>> 1);
case_164 : Prints (log (t.binary binaries.BitwiseAnd (d 9007199254740991) (d 255) ∷ t.binary binaries.BitwiseOr
    (neg (d 9007199254740991)) (d 0) ∷ t.binary binaries.UnsignedRightShift (d 9007199254740991) (d 0) ∷ t.binary
    binaries.UnsignedRightShift (neg (d 9007199254740991)) (d 1) ∷ []) ∷ []) ("255 1 4294967295 0" ∷ [])
unfolding digits
case_164 = refl

-- console.log(-9 % 4, 9 % -4, -8 % 4 === 0, 6 / -3, 0 / 5, 0 * -5);
case_165 : Prints (log (rem (neg (d 9)) (d 4) ∷ rem (d 9) (neg (d 4)) ∷ same (rem (neg (d 8)) (d 4)) (d 0) ∷ div (d 6)
    (neg (d 3)) ∷ div (d 0) (d 5) ∷ mul (d 0) (neg (d 5)) ∷ []) ∷ []) ("-1 1 true -2 0 0" ∷ [])
unfolding digits
case_165 = refl

-- let a = [1, 2, 3]; a.length = 0; a.push(9); console.log(a.length, a[0], a[1], a.join('-'));
case_166 : Prints (let_ "a" (array (d 1 ∷ d 2 ∷ d 3 ∷ [])) ∷ run (put (dot (v "a") "length") (d 0)) ∷ run
    (call (dot (v "a") "push") (d 9 ∷ [])) ∷ log (dot (v "a") "length" ∷ at (v "a") (d 0) ∷ at (v "a") (d 1) ∷ call
    (dot (v "a") "join") (s "-" ∷ []) ∷ []) ∷ []) ("1 9 undefined 9" ∷ [])
unfolding digits
case_166 = refl

-- let a = [[1, 2], [3]]; console.log(a[0][1], a[1].length, a.slice(1)[0] === a[1], a.indexOf(a[1]));
case_167 : Prints (let_ "a" (array (array (d 1 ∷ d 2 ∷ []) ∷ array (d 3 ∷ []) ∷ [])) ∷ log
    (at (at (v "a") (d 0)) (d 1) ∷ dot (at (v "a") (d 1)) "length" ∷ same
    (at (call (dot (v "a") "slice") (d 1 ∷ [])) (d 0)) (at (v "a") (d 1)) ∷ call (dot (v "a") "indexOf")
    (at (v "a") (d 1) ∷ []) ∷ []) ∷ []) ("2 1 true 1" ∷ [])
unfolding digits
case_167 = refl

-- let o = {b: 1, a: 2}; o[1] = 3; o['0'] = 4; o['01'] = 5; o[4294967295] = 6; o[4294967294] = 7; o[-1] = 8;
-- console.log(Object.keys(o).join(' '));
case_168 : Prints (let_ "o" (object (key "b" (d 1) ∷ key "a" (d 2) ∷ [])) ∷ run (put (at (v "o") (d 1)) (d 3)) ∷ run
    (put (at (v "o") (s "0")) (d 4)) ∷ run (put (at (v "o") (s "01")) (d 5)) ∷ run
    (put (at (v "o") (d 4294967295)) (d 6)) ∷ run (put (at (v "o") (d 4294967294)) (d 7)) ∷ run
    (put (at (v "o") (neg (d 1))) (d 8)) ∷ log (call (dot (call (dot (v "Object") "keys") (v "o" ∷ [])) "join")
    (s " " ∷ []) ∷ []) ∷ []) ("0 1 4294967294 b a 01 4294967295 -1" ∷ [])
unfolding digits
case_168 = refl

-- let o = {a: 1, b: 2}; delete o.a; o.a = 3; delete o['zz']; console.log(Object.keys(o).join(), delete o.a, o.a);
case_169 : Prints (let_ "o" (object (key "a" (d 1) ∷ key "b" (d 2) ∷ [])) ∷ run
    (t.unary unaries.Delete (dot (v "o") "a")) ∷ run (put (dot (v "o") "a") (d 3)) ∷ run
    (t.unary unaries.Delete (at (v "o") (s "zz"))) ∷ log
    (call (dot (call (dot (v "Object") "keys") (v "o" ∷ [])) "join") [] ∷ t.unary unaries.Delete (dot (v "o") "a") ∷ dot
    (v "o") "a" ∷ []) ∷ []) ("b,a true undefined" ∷ [])
unfolding digits
case_169 = refl

-- let o = {'a b': 1, 7: 2, 0x10: 3, if: 4}; console.log(Object.keys(o).join('|'), o[16], o.if);
case_170 : Prints (let_ "o" (object (t.value (t.string_key (codes "a b")) (d 1) ∷ t.value (t.number_key 7) (d 2) ∷
    t.value (t.number_key 16) (d 3) ∷ key "if" (d 4) ∷ [])) ∷ log
    (call (dot (call (dot (v "Object") "keys") (v "o" ∷ [])) "join") (s "|" ∷ []) ∷ at (v "o") (d 16) ∷ dot (v "o")
    "if" ∷ []) ∷ []) ("7|16|a b|if 3 4" ∷ [])
unfolding digits
case_170 = refl

-- let k = 0; let o = {[k++]: k, [k++]: k, ['x' + k]() { return k; }, y: k++}; console.log(Object.keys(o).join(), o[0],
-- o[1], o.x2(), o.y);
case_171 : Prints (let_ "k" (d 0) ∷ let_ "o" (object (t.value (t.computed_key (inc (v "k"))) (v "k") ∷ t.value
    (t.computed_key (inc (v "k"))) (v "k") ∷ t.method (t.computed_key (add (s "x") (v "k"))) []
    (statements (ret (v "k") ∷ [])) ∷ key "y" (inc (v "k")) ∷ [])) ∷ log
    (call (dot (call (dot (v "Object") "keys") (v "o" ∷ [])) "join") [] ∷ at (v "o") (d 0) ∷ at (v "o") (d 1) ∷ call
    (dot (v "o") "x2") [] ∷ dot (v "o") "y" ∷ []) ∷ []) ("0,1,x2,y 1 2 3 2" ∷ [])
unfolding digits
case_171 = refl

-- let o = {a: 1, a: 2, ['a']: 3}; console.log(o.a, Object.keys(o).length);
case_172 : Prints (let_ "o" (object (key "a" (d 1) ∷ key "a" (d 2) ∷ t.value (t.computed_key (s "a")) (d 3) ∷ [])) ∷ log
    (dot (v "o") "a" ∷ dot (call (dot (v "Object") "keys") (v "o" ∷ [])) "length" ∷ []) ∷ []) ("3 1" ∷ [])
unfolding digits
case_172 = refl

-- let e = RangeError('r'); e.message = ''; console.log(e, e.message === ''); delete e.message; console.log(e.message
-- === '', Object.keys(e).length); e.message = 'n'; console.log(e, Object.keys(e).join());
case_173 : Prints (let_ "e" (call (v "RangeError") (s "r" ∷ [])) ∷ run (put (dot (v "e") "message") (s "")) ∷ log
    (v "e" ∷ same (dot (v "e") "message") (s "") ∷ []) ∷ run (t.unary unaries.Delete (dot (v "e") "message")) ∷ log
    (same (dot (v "e") "message") (s "") ∷ dot (call (dot (v "Object") "keys") (v "e" ∷ [])) "length" ∷ []) ∷ run
    (put (dot (v "e") "message") (s "n")) ∷ log (v "e" ∷ call (dot (call (dot (v "Object") "keys") (v "e" ∷ [])) "join")
    [] ∷ []) ∷ []) ("RangeError true" ∷ "true 0" ∷ "RangeError: n message" ∷ [])
unfolding digits
case_173 = refl

-- let e = Error(undefined); console.log(e, e.name, e.message === '');
case_174 : Prints (let_ "e" (call (v "Error") (v "undefined" ∷ [])) ∷ log
    (v "e" ∷ dot (v "e") "name" ∷ same (dot (v "e") "message") (s "") ∷ []) ∷ []) ("Error Error true" ∷ [])
unfolding digits
case_174 = refl

-- console.log('abcabc'.indexOf('ca'), 'aaa'.indexOf('aa'), ''.indexOf('a'), 'abc'.slice(), 'abc'.slice(1),
-- 'abc'.slice(-9, 9), 'abc'.slice(2, 1) === '', 'abc'.slice(undefined, -1));
case_175 : Prints (log (call (dot (s "abcabc") "indexOf") (s "ca" ∷ []) ∷ call (dot (s "aaa") "indexOf") (s "aa" ∷ []) ∷
    call (dot (s "") "indexOf") (s "a" ∷ []) ∷ call (dot (s "abc") "slice") [] ∷ call (dot (s "abc") "slice")
    (d 1 ∷ []) ∷ call (dot (s "abc") "slice") (neg (d 9) ∷ d 9 ∷ []) ∷ same
    (call (dot (s "abc") "slice") (d 2 ∷ d 1 ∷ [])) (s "") ∷ call (dot (s "abc") "slice")
    (v "undefined" ∷ neg (d 1) ∷ []) ∷ []) ∷ []) ("2 0 -1 abc bc abc true ab" ∷ [])
unfolding digits
case_175 = refl

-- console.log([1, 2, 3].slice(-2, -1)[0], [1].slice(5).length, [1, 2].slice(0, undefined).length, [1, [2]].indexOf(1),
-- [null].indexOf(undefined), [undefined].indexOf());
case_176 : Prints (log (at (call (dot (array (d 1 ∷ d 2 ∷ d 3 ∷ [])) "slice") (neg (d 2) ∷ neg (d 1) ∷ [])) (d 0) ∷ dot
    (call (dot (array (d 1 ∷ [])) "slice") (d 5 ∷ [])) "length" ∷ dot
    (call (dot (array (d 1 ∷ d 2 ∷ [])) "slice") (d 0 ∷ v "undefined" ∷ [])) "length" ∷ call
    (dot (array (d 1 ∷ array (d 2 ∷ []) ∷ [])) "indexOf") (d 1 ∷ []) ∷ call (dot (array (t.null ∷ [])) "indexOf")
    (v "undefined" ∷ []) ∷ call (dot (array (v "undefined" ∷ [])) "indexOf") [] ∷ []) ∷ []) ("2 0 2 0 -1 0" ∷ [])
unfolding digits
case_176 = refl

-- console.log([[], {}].length, [1, 2].join(''), [''].join('x') === '', ['a', ''].join(), [null, 1].join(undefined));
case_177 : Prints (log (dot (array (array [] ∷ object [] ∷ [])) "length" ∷ call (dot (array (d 1 ∷ d 2 ∷ [])) "join")
    (s "" ∷ []) ∷ same (call (dot (array (s "" ∷ [])) "join") (s "x" ∷ [])) (s "") ∷ call
    (dot (array (s "a" ∷ s "" ∷ [])) "join") [] ∷ call (dot (array (t.null ∷ d 1 ∷ [])) "join") (v "undefined" ∷ []) ∷
    []) ∷ []) ("2 12 true a, ,1" ∷ [])
unfolding digits
case_177 = refl

-- let a = [5]; console.log(a[0]++, a[0], ++a[0], a[0]--, a[0]); let o = {n: 1}; console.log(-o.n, +o.n, ~o.n, !o.n,
-- typeof o.n, void o.n);
case_178 : Prints (let_ "a" (array (d 5 ∷ [])) ∷ log (inc (at (v "a") (d 0)) ∷ at (v "a") (d 0) ∷ t.prefix
    updates.Increment (at (v "a") (d 0)) ∷ t.postfix updates.Decrement (at (v "a") (d 0)) ∷ at (v "a") (d 0) ∷ []) ∷
    let_ "o" (object (key "n" (d 1) ∷ [])) ∷ log (neg (dot (v "o") "n") ∷ t.unary unaries.Plus (dot (v "o") "n") ∷
    t.unary unaries.BitwiseNot (dot (v "o") "n") ∷ t.unary unaries.LogicalNot (dot (v "o") "n") ∷ t.unary unaries.Typeof
    (dot (v "o") "n") ∷ t.unary unaries.Void (dot (v "o") "n") ∷ []) ∷ [])
    ("5 6 7 7 6" ∷ "-1 1 -2 false number undefined" ∷ [])
unfolding digits
case_178 = refl

-- let a = 1, b = 2; [a, b]; a = b = 7; console.log(a, b, (a = 3, b) + a);
case_179 : Prints (t.lexical false (t.a_declarator (t.declarator (codes "a") (t.present (d 1)))
    (t.a_declarator (t.declarator (codes "b") (t.present (d 2))) t.no_declarators)) ∷ run (array (v "a" ∷ v "b" ∷ [])) ∷
    run (put (v "a") (put (v "b") (d 7))) ∷ log (v "a" ∷ v "b" ∷ add
    (t.parenthesized (t.comma (expressions (put (v "a") (d 3) ∷ v "b" ∷ [])))) (v "a") ∷ []) ∷ []) ("7 7 10" ∷ [])
unfolding digits
case_179 = refl

-- let o = {f(a, b) { return [a, b, this === o]; }}; let r = o.f(1); console.log(r.length, r[0], r[1], r[2]); let g =
-- o.f; console.log(g(1, 2)[2]);
case_180 : Prints (let_ "o" (object (t.method (t.word_key (codes "f")) (codes "a" ∷ codes "b" ∷ [])
    (statements (ret (array (v "a" ∷ v "b" ∷ same t.this (v "o") ∷ [])) ∷ [])) ∷ [])) ∷ let_ "r"
    (call (dot (v "o") "f") (d 1 ∷ [])) ∷ log (dot (v "r") "length" ∷ at (v "r") (d 0) ∷ at (v "r") (d 1) ∷ at (v "r")
    (d 2) ∷ []) ∷ let_ "g" (dot (v "o") "f") ∷ log (at (call (v "g") (d 1 ∷ d 2 ∷ [])) (d 2) ∷ []) ∷ [])
    ("3 1 undefined true" ∷ "false" ∷ [])
unfolding digits
case_180 = refl

-- const f = (a) => (b) => a + b; console.log(f(1)(2), f('x')('y'), f(1)('z'));
case_181 : Prints (const "f" (arrow ("a" ∷ []) (arrow ("b" ∷ []) (add (v "a") (v "b")))) ∷ log
    (call (call (v "f") (d 1 ∷ [])) (d 2 ∷ []) ∷ call (call (v "f") (s "x" ∷ [])) (s "y" ∷ []) ∷ call
    (call (v "f") (d 1 ∷ [])) (s "z" ∷ []) ∷ []) ∷ []) ("3 xy 1z" ∷ [])
unfolding digits
case_181 = refl

-- let log = []; function h(n) { log.push(n); return h; } h(1)(2)(3); console.log(log.join());
case_182 : Prints (let_ "log" (array []) ∷ fn "h" ("n" ∷ [])
    (run (call (dot (v "log") "push") (v "n" ∷ [])) ∷ ret (v "h") ∷ []) ∷ run
    (call (call (call (v "h") (d 1 ∷ [])) (d 2 ∷ [])) (d 3 ∷ [])) ∷ log (call (dot (v "log") "join") [] ∷ []) ∷ [])
    ("1,2,3" ∷ [])
unfolding digits
case_182 = refl

-- let log = []; function v(n) { log.push(n); return n; } let o = {}; o[v('k')] = v('v'); o[v('k')] += v('w');
-- log.push(o.k); v(0) && v(1); v(2) || v(3); v(0) ? v(4) : v(5); console.log(log.join());
case_183 : Prints (let_ "log" (array []) ∷ fn "v" ("n" ∷ [])
    (run (call (dot (v "log") "push") (v "n" ∷ [])) ∷ ret (v "n") ∷ []) ∷ let_ "o" (object []) ∷ run
    (put (at (v "o") (call (v "v") (s "k" ∷ []))) (call (v "v") (s "v" ∷ []))) ∷ run
    (t.assign assigns.Add (at (v "o") (call (v "v") (s "k" ∷ []))) (call (v "v") (s "w" ∷ []))) ∷ run
    (call (dot (v "log") "push") (dot (v "o") "k" ∷ [])) ∷ run
    (t.binary binaries.LogicalAnd (call (v "v") (d 0 ∷ [])) (call (v "v") (d 1 ∷ []))) ∷ run
    (t.binary binaries.LogicalOr (call (v "v") (d 2 ∷ [])) (call (v "v") (d 3 ∷ []))) ∷ run
    (t.conditional (call (v "v") (d 0 ∷ [])) (call (v "v") (d 4 ∷ [])) (call (v "v") (d 5 ∷ []))) ∷ log
    (call (dot (v "log") "join") [] ∷ []) ∷ []) ("k,v,k,w,vw,0,2,0,5" ∷ [])
unfolding digits
case_183 = refl

-- if (1) { let z = 1; console.log(z); } else { let z = 2; console.log(z); } if ('') ; else console.log('e');
case_184 : Prints (t.if_else (d 1) (block (let_ "z" (d 1) ∷ log (v "z" ∷ []) ∷ []))
    (block (let_ "z" (d 2) ∷ log (v "z" ∷ []) ∷ [])) ∷ t.if_else (s "") t.empty (log (s "e" ∷ [])) ∷ [])
    ("1" ∷ "e" ∷ [])
unfolding digits
case_184 = refl

-- let y = 1; try { y; let y = 2; } catch (e) { console.log(e); }
case_185 : Prints (let_ "y" (d 1) ∷ try_catch (run (v "y") ∷ let_ "y" (d 2) ∷ []) "e" (log (v "e" ∷ []) ∷ []) ∷ [])
    ("ReferenceError: Cannot access 'y' before initialization" ∷ [])
unfolding digits
case_185 = refl

-- let z = 1; try { { z = 2; let z; } } catch (e) { console.log(e, z); }
case_186 : Prints (let_ "z" (d 1) ∷ try_catch (block (run (put (v "z") (d 2)) ∷ t.lexical false
    (t.a_declarator (t.declarator (codes "z") t.omitted) t.no_declarators) ∷ []) ∷ []) "e"
    (log (v "e" ∷ v "z" ∷ []) ∷ []) ∷ []) ("ReferenceError: Cannot access 'z' before initialization 1" ∷ [])
unfolding digits
case_186 = refl

-- const c = 1; try { c++; } catch (e) { console.log(e, c); } try { c += 2; } catch (e) { console.log(e); }
case_187 : Prints (const "c" (d 1) ∷ try_catch (run (inc (v "c")) ∷ []) "e" (log (v "e" ∷ v "c" ∷ []) ∷ []) ∷ try_catch
    (run (t.assign assigns.Add (v "c") (d 2)) ∷ []) "e" (log (v "e" ∷ []) ∷ []) ∷ [])
    ("TypeError: Assignment to constant variable. 1" ∷ "TypeError: Assignment to constant variable." ∷ [])
unfolding digits
case_187 = refl

-- for (const x of [1, 2]) { try { x = 5; } catch (e) { console.log(e, x); } }
case_188 : Prints (t.for_of true (codes "x") (array (d 1 ∷ d 2 ∷ []))
    (block (try_catch (run (put (v "x") (d 5)) ∷ []) "e" (log (v "e" ∷ v "x" ∷ []) ∷ []) ∷ [])) ∷ [])
    ("TypeError: Assignment to constant variable. 1" ∷ "TypeError: Assignment to constant variable. 2" ∷ [])
unfolding digits
case_188 = refl

-- let f = function() { return 1; }; f = (() => 2); console.log(f.name === '', f()); let o = {}; o.g = () => 1;
-- console.log(o.g.name === '');
case_189 : Prints (let_ "f" (t.function None [] (statements (ret (d 1) ∷ []))) ∷ run
    (put (v "f") (t.parenthesized (arrow [] (d 2)))) ∷ log (same (dot (v "f") "name") (s "") ∷ call (v "f") [] ∷ []) ∷
    let_ "o" (object []) ∷ run (put (dot (v "o") "g") (arrow [] (d 1))) ∷ log
    (same (dot (dot (v "o") "g") "name") (s "") ∷ []) ∷ []) ("true 2" ∷ "true" ∷ [])
unfolding digits
case_189 = refl

-- let o = {f: (() => 1), g: (function() {}), ['h']: () => 1}; console.log(o.f.name, o.g.name, o.h.name);
case_190 : Prints (let_ "o" (object (key "f" (t.parenthesized (arrow [] (d 1))) ∷ key "g"
    (t.parenthesized (t.function None [] t.no_statements)) ∷ t.value (t.computed_key (s "h")) (arrow [] (d 1)) ∷ [])) ∷
    log (dot (dot (v "o") "f") "name" ∷ dot (dot (v "o") "g") "name" ∷ dot (dot (v "o") "h") "name" ∷ []) ∷ [])
    ("f g " ∷ [])
unfolding digits
case_190 = refl

-- try { null.x; } catch (e) { console.log(e); } try { undefined['y'](); } catch (e) { console.log(e); } try { (void
-- 0).z = 1; } catch (e) { console.log(e); }
case_191 : Prints (try_catch (run (dot t.null "x") ∷ []) "e" (log (v "e" ∷ []) ∷ []) ∷ try_catch
    (run (call (at (v "undefined") (s "y")) []) ∷ []) "e" (log (v "e" ∷ []) ∷ []) ∷ try_catch
    (run (put (dot (t.parenthesized (t.unary unaries.Void (d 0))) "z") (d 1)) ∷ []) "e" (log (v "e" ∷ []) ∷ []) ∷ [])
    ("TypeError: Cannot read properties of null (reading 'x')" ∷
    "TypeError: Cannot read properties of undefined (reading 'y')" ∷
    "TypeError: Cannot set properties of undefined (setting 'z')" ∷ [])
unfolding digits
case_191 = refl

-- try { q; } catch (e) { console.log(e); } try { q = 1; } catch (e) { console.log(e); } try { q++; } catch (e) {
-- console.log(e); } console.log(typeof q);
case_192 : Prints (try_catch (run (v "q") ∷ []) "e" (log (v "e" ∷ []) ∷ []) ∷ try_catch (run (put (v "q") (d 1)) ∷ [])
    "e" (log (v "e" ∷ []) ∷ []) ∷ try_catch (run (inc (v "q")) ∷ []) "e" (log (v "e" ∷ []) ∷ []) ∷ log
    (t.unary unaries.Typeof (v "q") ∷ []) ∷ []) ("ReferenceError: q is not defined" ∷
    "ReferenceError: q is not defined" ∷ "ReferenceError: q is not defined" ∷ "undefined" ∷ [])
unfolding digits
case_192 = refl

-- function f() { return f2; function f2() { return 3; } } console.log(f()());
case_193 : Prints (fn "f" [] (ret (v "f2") ∷ fn "f2" [] (ret (d 3) ∷ []) ∷ []) ∷ log (call (call (v "f") []) [] ∷ []) ∷
    []) ("3" ∷ [])
unfolding digits
case_193 = refl

-- { let a = 1; { let b = a + 1; { let c = b + 1; console.log(a, b, c); } } }
case_194 : Prints (block (let_ "a" (d 1) ∷ block (let_ "b" (add (v "a") (d 1)) ∷ block
    (let_ "c" (add (v "b") (d 1)) ∷ log (v "a" ∷ v "b" ∷ v "c" ∷ []) ∷ []) ∷ []) ∷ []) ∷ []) ("1 2 3" ∷ [])
unfolding digits
case_194 = refl

-- let a = []; for (let i = 0; i < 3; i++) { let j = i * i; a.push(() => i + j); } console.log(a[0](), a[1](), a[2]());
case_195 : Prints (let_ "a" (array []) ∷ for_let "i" (d 0) (t.present (less (v "i") (d 3))) (t.present (inc (v "i")))
    (block (let_ "j" (mul (v "i") (v "i")) ∷ run (call (dot (v "a") "push") (arrow [] (add (v "i") (v "j")) ∷ [])) ∷
    [])) ∷ log (call (at (v "a") (d 0)) [] ∷ call (at (v "a") (d 1)) [] ∷ call (at (v "a") (d 2)) [] ∷ []) ∷ [])
    ("0 2 6" ∷ [])
unfolding digits
case_195 = refl

-- let a = []; for (let i = 0; i < 3; i++) { a.push(() => i++); } console.log(a[0](), a[0](), a[1](), a[2]());
case_196 : Prints (let_ "a" (array []) ∷ for_let "i" (d 0) (t.present (less (v "i") (d 3))) (t.present (inc (v "i")))
    (block (run (call (dot (v "a") "push") (arrow [] (inc (v "i")) ∷ [])) ∷ [])) ∷ log
    (call (at (v "a") (d 0)) [] ∷ call (at (v "a") (d 0)) [] ∷ call (at (v "a") (d 1)) [] ∷ call (at (v "a") (d 2)) [] ∷
    []) ∷ []) ("0 1 1 2" ∷ [])
unfolding digits
case_196 = refl

-- let a = []; for (const x of [1, 2]) { a.push(() => x); continue; } console.log(a[0]() + a[1]());
case_197 : Prints (let_ "a" (array []) ∷ t.for_of true (codes "x") (array (d 1 ∷ d 2 ∷ []))
    (block (run (call (dot (v "a") "push") (arrow [] (v "x") ∷ [])) ∷ t.continue ∷ [])) ∷ log
    (add (call (at (v "a") (d 0)) []) (call (at (v "a") (d 1)) []) ∷ []) ∷ []) ("3" ∷ [])
unfolding digits
case_197 = refl

-- let o = {x: {y: {z: 1}}}; o.x.y.z += 2; o.x.y['w'] = o.x.y.z++; console.log(o.x.y.z, o.x.y.w);
case_198 : Prints (let_ "o" (object (key "x" (object (key "y" (object (key "z" (d 1) ∷ [])) ∷ [])) ∷ [])) ∷ run
    (t.assign assigns.Add (dot (dot (dot (v "o") "x") "y") "z") (d 2)) ∷ run
    (put (at (dot (dot (v "o") "x") "y") (s "w")) (inc (dot (dot (dot (v "o") "x") "y") "z"))) ∷ log
    (dot (dot (dot (v "o") "x") "y") "z" ∷ dot (dot (dot (v "o") "x") "y") "w" ∷ []) ∷ []) ("4 3" ∷ [])
unfolding digits
case_198 = refl

-- throw Error('last');
case_199 : Throws (t.throw (call (v "Error") (s "last" ∷ [])) ∷ []) [] "Error: last"
unfolding digits
case_199 = refl

-- let p = {toString: 1}; console.log(p.toString, ({}).a, [].b, 'x'.c, (1).d, (() => 1).e, Error('m').f);
case_200 : Prints (let_ "p" (object (key "toString" (d 1) ∷ [])) ∷ log
    (dot (v "p") "toString" ∷ dot (t.parenthesized (object [])) "a" ∷ dot (array []) "b" ∷ dot (s "x") "c" ∷ dot
    (t.parenthesized (d 1)) "d" ∷ dot (t.parenthesized (arrow [] (d 1))) "e" ∷ dot (call (v "Error") (s "m" ∷ [])) "f" ∷
    []) ∷ []) ("1 undefined undefined undefined undefined undefined undefined" ∷ [])
unfolding digits
case_200 = refl
