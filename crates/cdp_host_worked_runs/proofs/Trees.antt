-- A script in memory that has a worked text.
use Rattle.std.proofs.Common.{◌≡◌, ℕ, ◌<◌, ◌^◌, List, [], ◌∷◌, length, ◌++◌, All, codes, refl, ap, ◌∙◌, arith}
use Rattle.std.proofs.lemmas.List.Elements.{All-from_recursion}
use Rattle.std.specs.Global.{Box, Vec, Global}
use denote.RawPtr.{null_ptr}
use native.Mathlib.Nat.{le_refl}
use Rattle.js_tree.specs.declared.integer.SafeInteger.{SafeInteger}
use Rattle.js_tree.specs.declared.node.NodeId.{NodeId}
use Rattle.js_tree.specs.declared.script.Script.{Script}
use Rattle.js_tree.specs.declared.tree.Expr.{Expr}
use Rattle.js_tree.specs.declared.tree.Expr.TheViews as views
use Rattle.js_tree.specs.declared.tree.Exprs.{Exprs}
use Rattle.js_tree.specs.declared.tree.Stmt.{Stmt}
use Rattle.js_tree.specs.declared.tree.Stmts.{Stmts}
use Rattle.js_tree.specs.Spans.{IsWithin}
use Rattle.js_semantics.specs.Sources.{statements_source}
use Rattle.js_semantics.proofs.TreeLemmas.{source_call, source_expression, source_expressions, source_member, source_name, source_number, source_statements}
use Rattle.locations.specs.declared.spot.SpotKind.TheVariants as kinds
use Rattle.locations.specs.Marks.{beginning, expressions_marks, in_all, in_call, marking, member_marking, name_marking, statements_marks, together}
use Rattle.locations.proofs.TreeLemmas.{marks_call, marks_expression, marks_expressions, marks_member, marks_name, marks_number, marks_statements}
use Rattle.cdp_host_worked_runs.specs.Scripts.{printing}
use Rattle.cdp_host_worked_runs.specs.Worked.{IsWorked}

-- ---- memory

abbrev heap : Global
heap = record { memory = record { seal = tt } }

abbrev boxed : {X : Type 0} → X → Box X
boxed x = record { ptr = null_ptr; alloc = heap; value = x }

abbrev listed : {X : Type 0} → (xs : List X) → length xs < 2 ^ 63 → Vec X
listed xs small = record {
  ptr = null_ptr;
  len = length xs;
  cap = length xs;
  alloc = heap;
  items = xs;
  ok = (refl, le_refl (length xs));
  small = small;
}

-- ---- the call of `console.log`

abbrev numbered : ℕ → NodeId
numbered n = record { 0 = n }

abbrev one : SafeInteger
one = record { value = 1; safe = omega arith }

abbrev arguments : Exprs
arguments = record { items = listed (Expr.Number (numbered 2) one ∷ []) (omega arith) }

abbrev console : Expr
console = Expr.Name (numbered 0) (codes "console")

abbrev log : Expr
log = views.Member (numbered 1) (boxed console) (codes "log")

abbrev called : Expr
called = views.Call (numbered 4) (boxed log) (numbered 3) arguments

abbrev printing_body : Stmts
printing_body = record { items = listed (Stmt.Expression (numbered 5) called ∷ []) (omega arith) }

made : statements_source printing_body ≡ printing.made
made =
    simp
    (source_statements, source_expression, source_call, source_member, source_name, source_expressions, source_number)
    refl

marked : statements_marks printing_body ≡ printing.marks
marked =
    marks_statements printing_body
    ∙ ap (λ ms. together (ms ∷ [])) (marks_expression (numbered 5) called)
    ∙ ap (λ e. together ((beginning kinds.Plain 5 ++ e.marks) ∷ []))
    (marks_call (numbered 4) (boxed log) (numbered 3) arguments
    ∙ ap (λ e. marking 4 (in_call e 3 (expressions_marks arguments)))
    (marks_member (numbered 1) (boxed console) (codes "log")
    ∙ ap (λ e. member_marking 1 e 3) (marks_name (numbered 0) (codes "console")))
    ∙ ap (λ ms. marking 4 (in_call (member_marking 1 (name_marking 0) 3) 3 ms))
    (marks_expressions arguments ∙ ap (λ e. in_all (e ∷ [])) (marks_number (numbered 2) one)))

pub within : All (IsWithin 15) printing.spans
within =
    All-from_recursion (IsWithin 15) printing.spans (
      (omega arith, omega arith),
      (
        (omega arith, omega arith),
        (
          (omega arith, omega arith),
          (
            (omega arith, omega arith),
            ((omega arith, omega arith), ((omega arith, omega arith), tt)),
          ),
        ),
      ),
    )

abbrev pub printer : Script
printer = record {
  number = 1;
  url = codes "a.js";
  source = printing.source;
  body = printing_body;
  spans = printing.spans;
  within = within;
}

pub is-printer : IsWorked printing printer
is-printer = record { number = refl; url = refl; source = refl; spans = refl; made = made; marks = marked }
