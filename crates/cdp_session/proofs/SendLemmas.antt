-- A session may be sent to another thread.
use denote.Ref.{NamedLft}
use denote.Param.Send.{IsSend, IsSync, recorded_send, sendable, struct_send, view_send}
use denote.Param.SendFields.{declared_send}
use denote.Struct.Declared.{shape}
use Rattle.std.proofs.Crossing.{crosses}
use Rattle.std.proofs.alloc.Global.TheSendSync as global
use Rattle.std.proofs.option.Option.TheSendSync as options
use Rattle.std.proofs.vec.Vec.TheSendSync as vectors
use Rattle.cdp_text.proofs.units.Units.TheSendSync as units
use Rattle.js_tree_operators.proofs.operator.AssignmentOperator.TheSendSync as assignment
use Rattle.js_tree_operators.proofs.operator.BinaryOperator.TheSendSync as binary
use Rattle.js_tree_operators.proofs.operator.UnaryOperator.TheSendSync as unary
use Rattle.js_tree_operators.proofs.operator.UpdateOperator.TheSendSync as update
use Rattle.js_tree.proofs.integer.SafeInteger.TheSendSync as integer
use Rattle.js_tree.proofs.names.ParameterNames.TheSendSync as names
use Rattle.js_tree.proofs.node.NodeId.TheSendSync as node
use Rattle.js_tree.proofs.node.Spans.TheSendSync as spans
use Rattle.js_tree.proofs.tree.ArrowParameters.TheSendSync as arrow
use Rattle.js_tree.proofs.tree.Expr.TheLaws.TheKnot as tree
use Rattle.js_tree.specs.contracts.script.Expression as expression
use Rattle.js_tree.specs.contracts.script.Script as script
use Rattle.js_heap.proofs.value.Addr.TheSendSync as address
use Rattle.js_heap.proofs.value.Value.TheSendSync as value
use Rattle.js_semantics.proofs.form.Form.TheSendSync as form
use Rattle.js_semantics.proofs.form.SourceMark.TheSendSync as mark
use Rattle.js_machine_terms.proofs.term.Term.TheLaws.TheKnot as term
use Rattle.breakpoints.proofs.breakpoints.Breakpoints.TheSendSync as breakpoints
use Rattle.object_groups.proofs.handles.Handles.TheSendSync as handles
use Rattle.pure_eval.proofs.scripts_code.ScriptsCode.TheSendSync as code
use Rattle.pure_eval.proofs.workspace.Workspace.TheSendSync as workspace
use Rattle.cdp_session_messages.proofs.outbox.Outbox.TheSendSync as outbox
use Rattle.stepping.proofs.rules.Rules.TheSendSync as rules
use Rattle.cdp_session.specs.contracts.coded_scripts.CodedScripts as coded
use Rattle.cdp_session.specs.contracts.coded_scripts.CodedScripts.TheInside as coded_inside
use Rattle.cdp_session.specs.contracts.conditions.Condition as condition
use Rattle.cdp_session.specs.contracts.conditions.Condition.TheInside as condition_inside
use Rattle.cdp_session.specs.contracts.evaluations.Evaluations as evaluations
use Rattle.cdp_session.specs.contracts.evaluations.Evaluations.TheInside as evaluations_inside
use Rattle.cdp_session.specs.contracts.ready.Ready as ready
use Rattle.cdp_session.specs.contracts.ready.ReadyExpression as ready_expression
use Rattle.cdp_session.specs.contracts.ready.ReadyExpression.TheInside as ready_inside
use Rattle.cdp_session.specs.contracts.session.Session as session
use Rattle.cdp_session.specs.contracts.session.Session.TheInside as session_inside

expression-send : IsSend (expression.the_field).row
expression-send = search (
  units.the_send,
  options.the_field_send,
  options.the_send,
  assignment.the_field_send,
  binary.the_field_send,
  unary.the_field_send,
  update.the_field_send,
  integer.the_field_send,
  names.the_send,
  node.the_field_send,
  spans.the_send,
  arrow.the_field_send,
  crosses,
  tree.crosses,
  sendable,
) depth 60 fits 20000

pub script-sync : IsSync script.the_row
script-sync = search (
  units.the_sync,
  options.the_field_sync,
  options.the_sync,
  assignment.the_field_sync,
  binary.the_field_sync,
  unary.the_field_sync,
  update.the_field_sync,
  integer.the_field_sync,
  names.the_sync,
  node.the_field_sync,
  spans.the_sync,
  arrow.the_field_sync,
  crosses,
  tree.crosses,
  sendable,
) depth 60 fits 20000

ready-send : IsSend ready.the_row
ready-send = search (
  units.the_send,
  vectors.the_send,
  address.the_field_send,
  value.the_field_send,
  form.the_field_send,
  mark.the_field_send,
  crosses,
  term.crosses,
  sendable,
) depth 60 fits 20000

ready-parts : IsSend ready_inside.the_row
ready-parts =
    recorded_send ready_inside.the_field.row _ _ ready_inside.the_type.to_one
    (struct_send (shape ready_inside.the_type)
    (expression-send, (search (ready-send, options.the_field_send, crosses, sendable) depth 30, tt)))

ready-expression-send : IsSend ready_expression.the_row
ready-expression-send = view_send _ _ _ _ _ ready-parts

condition-parts : IsSend condition_inside.the_row
condition-parts =
    recorded_send condition_inside.the_field.row _ _ condition_inside.the_type.to_one
    (struct_send (shape condition_inside.the_type)
    (units.the_send, (search (ready-expression-send, crosses, sendable) depth 30, tt)))

condition-send : IsSend condition.the_row
condition-send = view_send _ _ _ _ _ condition-parts

coded-parts : (ℓ : NamedLft) → IsSend (coded_inside.the_row ℓ)
coded-parts ℓ =
    declared_send (coded_inside.the_type ℓ) (
      search (global.the_field_send, sendable) depth 30,
      (
        search (script-sync, crosses, sendable) depth 30,
        (search (code.the_send, code.the_sync, crosses, sendable) depth 30, tt),
      ),
    )

pub coded-send : (ℓ : NamedLft) → IsSend (coded.the_row ℓ)
coded-send ℓ = view_send _ _ _ _ _ (coded-parts ℓ)

evaluations-parts : (ℓ : NamedLft) → IsSend (evaluations_inside.the_row ℓ)
evaluations-parts ℓ =
    declared_send (evaluations_inside.the_type ℓ)
    (coded-send ℓ, (search (workspace.the_send, crosses, sendable) depth 30, tt))

evaluations-send : (ℓ : NamedLft) → IsSend (evaluations.the_row ℓ)
evaluations-send ℓ = view_send _ _ _ _ _ (evaluations-parts ℓ)

session-parts : (ℓ : NamedLft) → IsSend (session_inside.the_row ℓ)
session-parts ℓ =
    declared_send (session_inside.the_type ℓ) (
      search (global.the_field_send, sendable) depth 30,
      (
        search sendable,
        (
          search (rules.the_field_send, sendable) depth 30,
          (
            search sendable,
            (
              breakpoints.the_send,
              (
                handles.the_send,
                (
                  search (condition-send, vectors.the_send, crosses, sendable) depth 30,
                  (
                    evaluations-send ℓ,
                    (
                      search sendable,
                      (
                        outbox.the_send,
                        tt,
                      ),
                    ),
                  ),
                ),
              ),
            ),
          ),
        ),
      ),
    )

pub session-send : (ℓ : NamedLft) → IsSend (session.the_row ℓ)
session-send ℓ = view_send _ _ _ _ _ (session-parts ℓ)
