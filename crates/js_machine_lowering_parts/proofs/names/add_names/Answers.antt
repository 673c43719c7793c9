use Rattle.std.proofs.Common.{refl, ap, ◌∙◌}
use Rattle.js_semantics.specs.Sources.{statement_source}
use Rattle.js_semantics.proofs.TreeLemmas.{source_block, source_empty, source_expression, source_if, source_do_while, source_while, source_for, source_for_lexical, source_for_of, source_continue, source_break, source_return, source_throw, source_try, source_debugger}
use Rattle.js_machine_lowering_parts.proofs.SourceLemmas.{no_names}
use Rattle.js_machine_lowering_parts.proofs.names.add_names.Goals as goal

pub returns-in-Block : goal.returns-in-Block
returns-in-Block c =
    no_names c.args.names.now.items c.args.statement.now _
    (ap statement_source c.in-Block.is ∙ source_block c.in-Block.field-0) refl

pub returns-in-Empty : goal.returns-in-Empty
returns-in-Empty c =
    no_names c.args.names.now.items c.args.statement.now _
    (ap statement_source c.in-Empty.is ∙ source_empty c.in-Empty.node) refl

pub returns-in-Expression : goal.returns-in-Expression
returns-in-Expression c =
    no_names c.args.names.now.items c.args.statement.now _
    (ap statement_source c.in-Expression.is ∙ source_expression c.in-Expression.node c.in-Expression.expression)
    refl

pub returns-in-If : goal.returns-in-If
returns-in-If c =
    no_names c.args.names.now.items c.args.statement.now _
    (ap statement_source c.in-If.is ∙ source_if c.in-If.node c.in-If.test c.in-If.consequent c.in-If.alternate)
    refl

pub returns-in-DoWhile : goal.returns-in-DoWhile
returns-in-DoWhile c =
    no_names c.args.names.now.items c.args.statement.now _
    (ap statement_source c.in-DoWhile.is ∙ source_do_while c.in-DoWhile.node c.in-DoWhile.body c.in-DoWhile.test)
    refl

pub returns-in-While : goal.returns-in-While
returns-in-While c =
    no_names c.args.names.now.items c.args.statement.now _
    (ap statement_source c.in-While.is ∙ source_while c.in-While.node c.in-While.test c.in-While.body) refl

pub returns-in-For : goal.returns-in-For
returns-in-For c =
    no_names c.args.names.now.items c.args.statement.now _
    (ap statement_source c.in-For.is
    ∙ source_for c.in-For.node c.in-For.initializer c.in-For.test c.in-For.update c.in-For.body)
    refl

pub returns-in-ForLexical : goal.returns-in-ForLexical
returns-in-ForLexical c =
    no_names c.args.names.now.items c.args.statement.now _
    (ap statement_source c.in-ForLexical.is
    ∙ source_for_lexical c.in-ForLexical.node c.in-ForLexical.constant c.in-ForLexical.declarators c.in-ForLexical.test
    c.in-ForLexical.update c.in-ForLexical.body)
    refl

pub returns-in-ForOf : goal.returns-in-ForOf
returns-in-ForOf c =
    no_names c.args.names.now.items c.args.statement.now _
    (ap statement_source c.in-ForOf.is
    ∙ source_for_of c.in-ForOf.node c.in-ForOf.constant c.in-ForOf.name c.in-ForOf.list c.in-ForOf.body)
    refl

pub returns-in-Continue : goal.returns-in-Continue
returns-in-Continue c =
    no_names c.args.names.now.items c.args.statement.now _
    (ap statement_source c.in-Continue.is ∙ source_continue c.in-Continue.node) refl

pub returns-in-Break : goal.returns-in-Break
returns-in-Break c =
    no_names c.args.names.now.items c.args.statement.now _
    (ap statement_source c.in-Break.is ∙ source_break c.in-Break.node) refl

pub returns-in-Return : goal.returns-in-Return
returns-in-Return c =
    no_names c.args.names.now.items c.args.statement.now _
    (ap statement_source c.in-Return.is ∙ source_return c.in-Return.node c.in-Return.value) refl

pub returns-in-Throw : goal.returns-in-Throw
returns-in-Throw c =
    no_names c.args.names.now.items c.args.statement.now _
    (ap statement_source c.in-Throw.is ∙ source_throw c.in-Throw.node c.in-Throw.value) refl

pub returns-in-Try : goal.returns-in-Try
returns-in-Try c =
    no_names c.args.names.now.items c.args.statement.now _
    (ap statement_source c.in-Try.is ∙ source_try c.in-Try.node c.in-Try.block c.in-Try.handler c.in-Try.finalizer)
    refl

pub returns-in-Debugger : goal.returns-in-Debugger
returns-in-Debugger c =
    no_names c.args.names.now.items c.args.statement.now _
    (ap statement_source c.in-Debugger.is ∙ source_debugger c.in-Debugger.node) refl
