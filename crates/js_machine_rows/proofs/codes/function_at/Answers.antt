use Rattle.std.proofs.Common.{◌∙◌, sym, ◌<◌, length, arith}
use Rattle.js_machine_rows.proofs.CodeLemmas.{sources-found}
use Rattle.js_machine_rows.proofs.codes.function_at.Goals as goal

pub returns-then-same_source : goal.returns-then-same_source
returns-then-same_source c = λ ts.
    let l : c.loop-i.i < length c.args.table.now.sources.items = omega arith in
    c.indexed.ensures ts
    ∙ sources-found c.args.table.now c.args.source c.args.node c.loop-i.i c.at-entry.result.now ts c.requires
    c.loop-i.invariant l c.at-entry.ensures
    (sym c.if-same_source.ensures)
