-- Scripts whose runs are worked out.
use Rattle.std.specs.Prelude.{◌≡◌, ℕ, List, [], ◌∷◌, Bool, codes}
use Rattle.js_tree.specs.declared.node.Span.{Span}
use Rattle.js_tree.specs.declared.script.Script.{Script}
use Rattle.js_semantics.specs.declared.form.Mark.{Mark}
use Rattle.js_semantics.specs.Makers.{MadeStatements}
use Rattle.js_semantics.specs.Sources.{statements_source}
use Rattle.locations.specs.declared.marks.Marked.{Marked}
use Rattle.locations.specs.declared.spot.SpotKind.{SpotKind}
use Rattle.locations.specs.Marks.{Marks, statements_marks}
use Rattle.cdp_host_worked_runs.specs.Journals.{Call, Outcome, outcome}

-- a text, where each node of its tree stands in it, what is made of the tree, and the marks of the tree
pub record Worked : Type 0 where
  pub source : List ℕ
  pub spans : List Span
  pub made : MadeStatements
  pub marks : Marks

-- The only script of a run, under the name `a.js`, with this text. In memory its tree isn't a function of the text: it
-- may be any tree of which this is made and that has these marks.
pub record IsWorked (w : Worked) (s : Script) : Type 0 where
  pub number : s.number ≡ 1
  pub url : s.url ≡ codes "a.js"
  pub source : s.source ≡ w.source
  pub spans : s.spans ≡ w.spans
  pub made : statements_source s.body ≡ w.made
  pub marks : statements_marks s.body ≡ w.marks

-- Whichever tree in memory it is: the journal of a program that is this script, without input, comes to this for the
-- session of this number. The program may be to wait for a client.
abbrev pub ComesTo : Worked → Bool → ℕ → List Call → Outcome → Type 0
ComesTo w wait s calls comes =
    (script : Script) → IsWorked w script → outcome (script ∷ []) [] wait s calls ≡ comes

-- a node from one offset up to another
abbrev pub span : ℕ → ℕ → Span
span i j = record { start = i; end = j }

-- a break location of this kind at a mark
abbrev pub mark_at : SpotKind → Mark → Marked
mark_at kind mark = record { mark = mark; kind = kind }
