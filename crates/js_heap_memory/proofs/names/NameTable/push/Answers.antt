use Rattle.std.proofs.Common.{◌≡◌, None, arith, subst, sym}
use Rattle.js_heap_memory.specs.Names.{number_of}
use Rattle.js_heap_memory.proofs.IndexLemmas.{pushed, pushed-text, on-ok}
use Rattle.js_heap_memory.proofs.names.NameTable.push.Goals as goal

pub invariant_of-self-else-is_err : goal.invariant_of-self-else-is_err
invariant_of-self-else-is_err c =
    pushed c.self.inside.texts c.push.new.self c.self.inside.index c.insert.new.self c.in_ok-key.key c.args.text.now
    c.in-Ok.number c.self.invariant
    (subst (λ texts. number_of texts c.args.text.now ≡ None) (sym c.self.view_is) c.requires)
    c.in_ok-key.ensures.items c.in_ok-push.ensures.more (grind arith)
    (on-ok c.insert.result c.is_err.result c.is_err.ensures.value c.if-is_err.false c.insert.ensures.updates)

pub returns-clause-text : goal.returns-clause-text
returns-clause-text c =
    (pushed-text c.self.inside.texts c.push.new.self c.args.text.now c.in-Ok.number c.in_ok-push.ensures.more
    (grind arith)).0
