use Rattle.std.proofs.Common.{refl, ap, ◌∙◌}
use Rattle.js_tree.specs.Views.{statement_view}
use Rattle.js_tree.proofs.ViewLemmas.{view_block_statement, view_empty_statement, view_expression_statement, view_do_while_statement, view_while_statement, view_for_statement, view_for_lexical_statement, view_for_of_statement, view_continue_statement, view_break_statement, view_return_statement, view_throw_statement, view_try_statement, view_debugger_statement}
use Rattle.debug_host_script_files.proofs.TopNameLemmas.{no_names, if_declares_none}
use Rattle.debug_host_script_files.proofs.top_names.add_statement.Goals as goal

pub returns-in-Block : goal.returns-in-Block
returns-in-Block c =
    no_names c.args.names.now.items c.args.statement.now _
    (ap statement_view c.in-Block.is ∙ view_block_statement c.in-Block.field-0) refl

pub returns-in-Empty : goal.returns-in-Empty
returns-in-Empty c =
    no_names c.args.names.now.items c.args.statement.now _
    (ap statement_view c.in-Empty.is ∙ view_empty_statement c.in-Empty.node) refl

pub returns-in-Expression : goal.returns-in-Expression
returns-in-Expression c =
    no_names c.args.names.now.items c.args.statement.now _
    (ap statement_view c.in-Expression.is
    ∙ view_expression_statement c.in-Expression.node c.in-Expression.expression)
    refl

pub returns-in-DoWhile : goal.returns-in-DoWhile
returns-in-DoWhile c =
    no_names c.args.names.now.items c.args.statement.now _
    (ap statement_view c.in-DoWhile.is
    ∙ view_do_while_statement c.in-DoWhile.node c.in-DoWhile.body c.in-DoWhile.test)
    refl

pub returns-in-While : goal.returns-in-While
returns-in-While c =
    no_names c.args.names.now.items c.args.statement.now _
    (ap statement_view c.in-While.is ∙ view_while_statement c.in-While.node c.in-While.test c.in-While.body) refl

pub returns-in-For : goal.returns-in-For
returns-in-For c =
    no_names c.args.names.now.items c.args.statement.now _
    (ap statement_view c.in-For.is
    ∙ view_for_statement c.in-For.node c.in-For.initializer c.in-For.test c.in-For.update c.in-For.body)
    refl

pub returns-in-ForLexical : goal.returns-in-ForLexical
returns-in-ForLexical c =
    no_names c.args.names.now.items c.args.statement.now _
    (ap statement_view c.in-ForLexical.is
    ∙ view_for_lexical_statement c.in-ForLexical.node c.in-ForLexical.constant c.in-ForLexical.declarators
    c.in-ForLexical.test c.in-ForLexical.update c.in-ForLexical.body)
    refl

pub returns-in-ForOf : goal.returns-in-ForOf
returns-in-ForOf c =
    no_names c.args.names.now.items c.args.statement.now _
    (ap statement_view c.in-ForOf.is
    ∙ view_for_of_statement c.in-ForOf.node c.in-ForOf.constant c.in-ForOf.name c.in-ForOf.list c.in-ForOf.body)
    refl

pub returns-in-Continue : goal.returns-in-Continue
returns-in-Continue c =
    no_names c.args.names.now.items c.args.statement.now _
    (ap statement_view c.in-Continue.is ∙ view_continue_statement c.in-Continue.node) refl

pub returns-in-Break : goal.returns-in-Break
returns-in-Break c =
    no_names c.args.names.now.items c.args.statement.now _
    (ap statement_view c.in-Break.is ∙ view_break_statement c.in-Break.node) refl

pub returns-in-Return : goal.returns-in-Return
returns-in-Return c =
    no_names c.args.names.now.items c.args.statement.now _
    (ap statement_view c.in-Return.is ∙ view_return_statement c.in-Return.node c.in-Return.value) refl

pub returns-in-Throw : goal.returns-in-Throw
returns-in-Throw c =
    no_names c.args.names.now.items c.args.statement.now _
    (ap statement_view c.in-Throw.is ∙ view_throw_statement c.in-Throw.node c.in-Throw.value) refl

pub returns-in-Try : goal.returns-in-Try
returns-in-Try c =
    no_names c.args.names.now.items c.args.statement.now _
    (ap statement_view c.in-Try.is
    ∙ view_try_statement c.in-Try.node c.in-Try.block c.in-Try.handler c.in-Try.finalizer)
    refl

pub returns-in-Debugger : goal.returns-in-Debugger
returns-in-Debugger c =
    no_names c.args.names.now.items c.args.statement.now _
    (ap statement_view c.in-Debugger.is ∙ view_debugger_statement c.in-Debugger.node) refl

pub returns-in-If : goal.returns-in-If
returns-in-If c =
    if_declares_none c.args.names.now.items c.in-If.node c.in-If.test c.in-If.consequent c.in-If.alternate
    c.args.statement.now c.in-If.is
