use Rattle.js_machine_rows.proofs.CodeLemmas.{SourcesLeft}
use Rattle.js_machine_rows.proofs.codes.function_at.Given as goal

abbrev pub invariant-loop-i : goal.invariant-loop-i
invariant-loop-i l = SourcesLeft l.table l.source l.node l.i
