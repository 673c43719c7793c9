-- A command's name is that of its method.
use Rattle.std.proofs.Common.{◌≡◌, ℕ, List, codes, Some, refl, ap, sym, ◌∙◌}
use Rattle.serde_json.specs.Data.{Data, string}
use Rattle.cdp_json.specs.CommandForm.{IsCommand}
use Rattle.cdp_json.specs.Methods.{method_of}
use Rattle.cdp_json.specs.Parameters.{params_of}
use Rattle.cdp_json.specs.declared.method.Method.{Method}
use Rattle.cdp_json.specs.declared.method.Method.TheVariants as methods
use Rattle.cdp_json.specs.declared.params.Params.{Params}
use Rattle.cdp_json.specs.declared.params.Params.TheVariants as params
use Rattle.cdp_json.proofs.CommandLemmas.{read_is_command}
use Rattle.cdp_host_laws.specs.Naming.{CommandsAreNamed, Names}

named : (name : List ℕ) (m : Method) (command : Params) → method_of name ≡ Some m
    → ((d : Data) → params_of m d ≡ Some command)
    → Names name command
named name m command is gives = λ d id method heard reads stands.
    let c : IsCommand d id method heard = read_is_command d id method heard reads in
    let text : Some (string c.name) ≡ Some (string name) = sym c.name_stands ∙ stands in
    let same : c.name ≡ name = cc in
    let found : Some method ≡ Some m = sym c.name_means ∙ ap method_of same ∙ is in
    let e : method ≡ m = cc in
    let both : Some heard ≡ Some command = sym c.given_means ∙ ap (λ k. params_of k c.given) e ∙ gives c.given in
    cc

pub commands-named : CommandsAreNamed
commands-named = record {
  step_into = named (codes "Debugger.stepInto") methods.StepInto params.StepInto refl (λ d. refl);
  step_over = named (codes "Debugger.stepOver") methods.StepOver params.StepOver refl (λ d. refl);
  step_out = named (codes "Debugger.stepOut") methods.StepOut params.StepOut refl (λ d. refl);
  pause = named (codes "Debugger.pause") methods.Pause params.Pause refl (λ d. refl);
  resume = named (codes "Debugger.resume") methods.Resume params.Resume refl (λ d. refl);
  disable = named (codes "Debugger.disable") methods.DebuggerDisable params.DebuggerDisable refl (λ d. refl);
  run =
      named (codes "Runtime.runIfWaitingForDebugger") methods.RunIfWaitingForDebugger params.RunIfWaitingForDebugger
      refl (λ d. refl);
}
