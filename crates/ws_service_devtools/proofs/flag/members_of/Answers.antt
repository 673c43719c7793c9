use Rattle.std.proofs.Common.{BTreeMap, String, Global, Option, Some, option_map, option_and_then, sym, ap, ◌∙◌}
use Rattle.serde_json.specs.Find.{as_object}
use Rattle.serde_json.specs.View.{members_view, view}
use Rattle.serde_json.specs.declared.value.Value.{Value}
use Rattle.serde_json.proofs.Views.{view-Object}
use Rattle.ws_service_devtools.proofs.flag.members_of.Goals as goal

pub returns-in-Some-Object : goal.returns-in-Some-Object
returns-in-Some-Object c =
    let is = c.in-Some-Object.is ∙ ap Some c.in-Some-Object.field-0-is in
    ap (λ (m : BTreeMap (String Global) Value). Some (members_view m.entries)) c.in-Some-Object.members-is ∙ sym (ap (λ (o : Option Value). option_and_then as_object (option_map view o)) is ∙ ap as_object (view-Object c.in-Some-Object.members))
