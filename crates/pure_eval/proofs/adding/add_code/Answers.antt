use Rattle.std.proofs.Common.{refl, arith}
use Rattle.js_machine_terms.specs.Views.{term_view}
use Rattle.js_semantics.specs.declared.form.Source.TheVariants.{Kept as kept_source}
use Rattle.pure_eval.proofs.AddLemmas.{code-added}
use Rattle.pure_eval.proofs.adding.add_code.Goals as goal

pub returns : goal.returns
returns c =
    code-added c.args.names.now c.add_term.new.names c.args.table.now c.add_term.new.table c.args.at
    (term_view c.args.term.now) c.in-Some.root c.len-nodes.result c.len-functions.result c.in_ok-root.field-0
    (record { source = kept_source c.args.at; root = c.in-Some.root; functions = c.new.result })
    c.in_ok-entry.entry c.requires c.in_ok-root.ensures.grows c.in_ok-root.ensures.tree c.in-Some.is (grind arith)
    (c.if-not-are_closed.ensures refl) (grind arith) (c.if-not-are_placed.ensures refl)
    refl refl c.in_ok-entry.ensures (c.if-not-is_within.ensures refl)
