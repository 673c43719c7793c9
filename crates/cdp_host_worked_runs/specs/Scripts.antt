-- The scripts whose runs are worked out. Nodes are numbered in the order in which they end.
use Rattle.std.specs.Prelude.{true, false, [], ◌∷◌, ◌++◌, Some, None, codes}
use Rattle.js_tree_operators.specs.declared.operator.BinaryOperator.TheVariants as binaries
use Rattle.js_tree_operators.specs.declared.operator.AssignmentOperator.TheVariants as assigns
use Rattle.js_semantics.specs.declared.form.Mark.TheVariants.{Start as start, BeforeEnd as before_end}
use Rattle.js_semantics.specs.Makers.{items_of, expression_item, call_made, member_made, name_made, number_made, string_made, arrow_made, binary_made, assign_made, function_item, lexical_item, return_item, throw_item, try_item, debugger_item}
use Rattle.locations.specs.declared.spot.SpotKind.TheVariants as kinds
use Rattle.cdp_host_worked_runs.specs.Texts.{joined}
use Rattle.cdp_host_worked_runs.specs.Worked.{Worked, mark_at, span}

-- an empty script
abbrev pub nothing : Worked
nothing = record {
  source = codes "";
  spans = [];
  made = items_of [];
  marks = [];
}

-- one call of `console.log`
abbrev pub printing : Worked
printing = record {
  source = codes "console.log(1);";
  spans = span 0 7 ∷ span 0 11 ∷ span 12 13 ∷ span 11 14 ∷ span 0 14 ∷ span 0 15 ∷ [];
  made = items_of (expression_item 5 (call_made 4
      (member_made 1 (name_made 0 (codes "console")) (codes "log")) 3 (number_made 2 1 ∷ [])) ∷ []);
  marks = mark_at kinds.Plain (start 5) ∷ mark_at kinds.Call (before_end 1 3) ∷ [];
}

-- a function that returns, a call of it, and a print
abbrev pub returning : Worked
returning = record {
  source = codes "function f() {\n  return 1;\n}\nf();\nconsole.log(2);\n";
  spans = span 24 25 ∷ span 17 26 ∷ span 0 28 ∷ span 29 30 ∷ span 30 32 ∷ span 29 32 ∷ span 29 33 ∷ span 34 41
      ∷ span 34 45 ∷ span 46 47 ∷ span 45 48 ∷ span 34 48 ∷ span 34 49 ∷ [];
  made = items_of (function_item 2 (codes "f") [] (items_of (return_item 1 (Some (number_made 0 1)) ∷ []))
      ∷ expression_item 6 (call_made 5 (name_made 3 (codes "f")) 4 []) ∷ expression_item 12 (call_made 11
      (member_made 8 (name_made 7 (codes "console")) (codes "log")) 10 (number_made 9 2 ∷ [])) ∷ []);
  marks = mark_at kinds.Return (start 1) ∷ mark_at kinds.Return (before_end 2 1) ∷ mark_at kinds.Plain (start 6)
      ∷ mark_at kinds.Call (start 3) ∷ mark_at kinds.Plain (start 12) ∷ mark_at kinds.Call (before_end 8 3) ∷ [];
}

-- a function that throws, and a call of it in a `try` with a `catch`
abbrev pub throwing_caught : Worked
throwing_caught = record {
  source = codes "function f() {\n  try { throw 1; } finally { }\n}\ntry { f(); } catch (e) { }\n";
  spans = span 29 30 ∷ span 23 31 ∷ span 21 33 ∷ span 42 45 ∷ span 17 45 ∷ span 0 47 ∷ span 54 55 ∷ span 55 57
      ∷ span 54 57 ∷ span 54 58 ∷ span 52 60 ∷ span 71 74 ∷ span 48 74 ∷ [];
  made = items_of (function_item 5 (codes "f") [] (items_of (try_item 4 (items_of
      (throw_item 1 (number_made 0 1) ∷ [])) None (Some (items_of [])) ∷ [])) ∷ try_item 12 (items_of
      (expression_item 9
      (call_made 8 (name_made 6 (codes "f")) 7 []) ∷ [])) (Some (record {
        name = Some (codes "e");
        body =
            items_of [];
      })) None ∷ []);
  marks = mark_at kinds.Plain (start 4) ∷ mark_at kinds.Plain (start 1) ∷ mark_at kinds.Return (before_end 5 1)
      ∷ mark_at kinds.Plain (start 12) ∷ mark_at kinds.Plain (start 9) ∷ mark_at kinds.Call (start 6) ∷ [];
}

-- a function that throws, and a call of it
abbrev pub throwing : Worked
throwing = record {
  source = codes "function f() {\n  try { throw 1; } finally { }\n}\nf();\n";
  spans = span 29 30 ∷ span 23 31 ∷ span 21 33 ∷ span 42 45 ∷ span 17 45 ∷ span 0 47 ∷ span 48 49 ∷ span 49 51
      ∷ span 48 51 ∷ span 48 52 ∷ [];
  made = items_of (function_item 5 (codes "f") [] (items_of (try_item 4 (items_of
      (throw_item 1 (number_made 0 1) ∷ [])) None (Some (items_of [])) ∷ [])) ∷ expression_item 9
      (call_made 8 (name_made 6 (codes "f")) 7 []) ∷ []);
  marks = mark_at kinds.Plain (start 4) ∷ mark_at kinds.Plain (start 1) ∷ mark_at kinds.Return (before_end 5 1)
      ∷ mark_at kinds.Plain (start 9) ∷ mark_at kinds.Call (start 6) ∷ [];
}

-- a function that counts its calls, and a `debugger` statement
abbrev pub counting : Worked
counting = record {
  source = codes "let n = 0;\nconst f = () => { n = n + 1; return n; };\ndebugger;\nconsole.log(n);\n";
  spans = span 8 9 ∷ span 0 10 ∷ span 29 30 ∷ span 33 34 ∷ span 37 38 ∷ span 33 38 ∷ span 29 38 ∷ span 29 39
      ∷ span 47 48 ∷ span 40 49 ∷ span 21 51 ∷ span 11 52 ∷ span 53 62 ∷ span 63 70 ∷ span 63 74 ∷ span 75 76
      ∷ span 74 77 ∷ span 63 77 ∷ span 63 78 ∷ [];
  made = items_of (lexical_item 1 false (record { name = codes "n"; initializer = Some (number_made 0 0) } ∷ [])
      ∷ lexical_item 11 true (record {
        name = codes "f";
        initializer = Some (arrow_made 10 [] (items_of
            (expression_item 7 (assign_made 6 assigns.Assign (name_made 2 (codes "n"))
            (binary_made 5 binaries.Add (name_made 3 (codes "n")) (number_made 4 1)))
            ∷ return_item 9 (Some (name_made 8 (codes "n"))) ∷ [])));
      } ∷ []) ∷ debugger_item 12 ∷ expression_item 18
      (call_made 17
      (member_made 14 (name_made 13 (codes "console")) (codes "log")) 16 (name_made 15 (codes "n") ∷ [])) ∷ []);
  marks = mark_at kinds.Plain (start 1) ∷ mark_at kinds.Plain (start 11) ∷ mark_at kinds.Plain (start 7)
      ∷ mark_at kinds.Return (start 9) ∷ mark_at kinds.Return (before_end 10 1) ∷ mark_at kinds.Debugger (start 12)
      ∷ mark_at kinds.Plain (start 18) ∷ mark_at kinds.Call (before_end 14 3) ∷ [];
}

-- a function in a function, with a `debugger` statement in a `catch`
abbrev pub nesting : Worked
nesting = record {
  source = joined (
      codes "function f(p) {\n"
      ∷ codes "  function g() {\n"
      ∷ codes "    try { throw 1; } catch (e) {\n"
      ∷ codes "      let b = e;\n"
      ∷ codes "      debugger;\n"
      ∷ codes "    }\n"
      ∷ codes "  }\n"
      ∷ codes "  g();\n"
      ∷ codes "}\n"
      ∷ codes "f(5);\n"
      ∷ []);
  spans = span 49 50 ∷ span 43 51 ∷ span 41 53 ∷ span 80 81 ∷ span 72 82 ∷ span 89 98 ∷ span 64 104 ∷ span 37 104
      ∷ span 18 108 ∷ span 111 112 ∷ span 112 114 ∷ span 111 114 ∷ span 111 115 ∷ span 0 117 ∷ span 118 119
      ∷ span 120 121 ∷ span 119 122 ∷ span 118 122 ∷ span 118 123 ∷ [];
  made = items_of (function_item 13 (codes "f") (codes "p" ∷ []) (items_of (function_item 8 (codes "g") [] (items_of
      (try_item 7 (items_of
      (throw_item 1 (number_made 0 1) ∷ [])) (Some (record {
        name = Some (codes "e");
        body = items_of
            (lexical_item 4 false (record { name = codes "b"; initializer = Some (name_made 3 (codes "e")) } ∷ [])
            ∷ debugger_item 5 ∷ []);
      })) None ∷ [])) ∷ expression_item 12
      (call_made 11 (name_made 9 (codes "g")) 10 []) ∷ [])) ∷ expression_item 18
      (call_made 17 (name_made 14 (codes "f")) 16 (number_made 15 5 ∷ [])) ∷ []);
  marks = mark_at kinds.Plain (start 7) ∷ mark_at kinds.Plain (start 1) ∷ mark_at kinds.Plain (start 4)
      ∷ mark_at kinds.Debugger (start 5) ∷ mark_at kinds.Return (before_end 8 1) ∷ mark_at kinds.Plain (start 12)
      ∷ mark_at kinds.Call (start 9) ∷ mark_at kinds.Return (before_end 13 1) ∷ mark_at kinds.Plain (start 18)
      ∷ mark_at kinds.Call (start 14) ∷ [];
}

-- a function that adds, and a print of what it returns
abbrev pub adding : Worked
adding = record {
  source = codes "function add(a, b) {\n  return a + b;\n}\nconsole.log(add(2, 3));\n";
  spans = span 30 31 ∷ span 34 35 ∷ span 30 35 ∷ span 23 36 ∷ span 0 38 ∷ span 39 46 ∷ span 39 50 ∷ span 51 54
      ∷ span 55 56 ∷ span 58 59 ∷ span 54 60 ∷ span 51 60 ∷ span 50 61 ∷ span 39 61 ∷ span 39 62 ∷ [];
  made = items_of (function_item 4 (codes "add") (codes "a" ∷ codes "b" ∷ []) (items_of (return_item 3 (Some
      (binary_made 2 binaries.Add (name_made 0 (codes "a")) (name_made 1 (codes "b")))) ∷ []))
      ∷ expression_item 14 (call_made 13 (member_made 6 (name_made 5 (codes "console")) (codes "log")) 12
      (call_made 11 (name_made 7 (codes "add")) 10 (number_made 8 2 ∷ number_made 9 3 ∷ []) ∷ [])) ∷ []);
  marks = mark_at kinds.Return (start 3) ∷ mark_at kinds.Return (before_end 4 1) ∷ mark_at kinds.Plain (start 14)
      ∷ mark_at kinds.Call (before_end 6 3) ∷ mark_at kinds.Call (start 7) ∷ [];
}

-- an empty function, and a call of it
abbrev pub falling : Worked
falling = record {
  source = codes "function f() {\n}\nf();\n";
  spans = span 0 16 ∷ span 17 18 ∷ span 18 20 ∷ span 17 20 ∷ span 17 21 ∷ [];
  made = items_of (function_item 0 (codes "f") [] (items_of []) ∷ expression_item 4
      (call_made 3 (name_made 1 (codes "f")) 2 []) ∷ []);
  marks = mark_at kinds.Return (before_end 0 1) ∷ mark_at kinds.Plain (start 4) ∷ mark_at kinds.Call (start 1) ∷ [];
}

-- a string of one character that takes two code units, and a `debugger` statement
abbrev pub smiling : Worked
smiling = record {
  source = codes "\"" ++ (55357 ∷ 56832 ∷ []) ++ codes "\"; debugger;";
  spans = span 0 4 ∷ span 0 5 ∷ span 6 15 ∷ [];
  made = items_of (expression_item 1 (string_made 0 (55357 ∷ 56832 ∷ [])) ∷ debugger_item 2 ∷ []);
  marks = mark_at kinds.Plain (start 1) ∷ mark_at kinds.Debugger (start 2) ∷ [];
}
