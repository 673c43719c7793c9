use Rattle.std.proofs.Common.{◌∙◌}
use Rattle.std.proofs.lemmas.Result.{on_ok_weaker}
use Rattle.js_machine_nodes.specs.Trees.{tree}
use Rattle.js_machine_engine.specs.Tasks.{gaps_of}
use Rattle.js_machine_engine.proofs.TreeLemmas.{open-tree}
use Rattle.js_machine_engine.proofs.settling.go.Goals as goal
use Rattle.js_machine_engine.proofs.GapLemmas.{plugged-resettled}

pub returns-in-Some-clause-scoped : goal.returns-in-Some-clause-scoped
returns-in-Some-clause-scoped c = on_ok_weaker c.give.result (λ d. d c.args.root) c.give.ensures.scoped

pub returns-in-None-clause-term : goal.returns-in-None-clause-term
returns-in-None-clause-term c =
    let t = c.args.table.now in
    on_ok_weaker c.descend.result
    (λ d. λ ts. plugged-resettled (gaps_of ts t c.args.stack.now) (tree ts t c.args.node)
    (open-tree ts t c.args.node c.in-None.ensures.form)
    ∙ d ts)
    c.descend.ensures.term
