use Rattle.std.proofs.Common.{List, arith, subst}
use Rattle.std.proofs.lemmas.List.{take_all}
use Rattle.js_machine_nodes.specs.declared.node.SourceEntry.{SourceEntry}
use Rattle.js_machine_compiler.specs.Index.{AreIndexed}
use Rattle.js_machine_compiler.proofs.SourceIndexes.{indexed_more}
use Rattle.js_machine_compiler.proofs.functions.indexed_sources.Goals as goal

pub loop-i-preserved : goal.loop-i-preserved
loop-i-preserved c =
    indexed_more c.args.table.now c.args.table.now.sources.items c.loop-i.i c.at.result.now
    c.in_ok-indexed_source.field-0 c.loop-i.sources.items c.push.new.self.items c.loop-i.invariant
    c.in_ok-indexed_source.ensures c.at.ensures (omega arith) c.in_ok-push.ensures.items

pub returns : goal.returns
returns c =
    let P : List SourceEntry → Type 0 = λ ss. AreIndexed c.args.table.now ss c.loop-i.sources.items in
    subst P (take_all c.loop-i.i c.args.table.now.sources.items (omega arith)) c.loop-i.invariant
