-- What a command's text names is what its parameters have.
use Rattle.std.proofs.Common.{◌≡◌, ℕ, List, Bool, true, false, codes, if◌then◌else◌, nat_lt, ◌^◌, option_map, option_and_then, Option, Some, None, refl, ap, sym, ◌∙◌}
use Rattle.serde_json.specs.Data.{Data, number, string, unsigned}
use Rattle.serde_json.specs.Find.{as_str, get}
use Rattle.cdp_json.specs.CommandForm.{IsCommand}
use Rattle.cdp_json.specs.Commands.{given_of, value_reading}
use Rattle.cdp_json.specs.Members.{column_of, coordinate_of, position_from, required, text_of}
use Rattle.cdp_json.specs.Methods.{method_of}
use Rattle.cdp_json.specs.Parameters.{continue_of, location_from, location_of, params_of, state_named, state_of}
use Rattle.cdp_json.specs.declared.command.Reading.TheVariants.{Command}
use Rattle.cdp_json.specs.declared.method.Method.{Method}
use Rattle.cdp_json.specs.declared.method.Method.TheVariants as methods
use Rattle.cdp_json.specs.declared.params.ExceptionPauses.{ExceptionPauses}
use Rattle.cdp_json.specs.declared.params.ExceptionPauses.TheVariants as pauses
use Rattle.cdp_json.specs.declared.params.Location.{Location}
use Rattle.cdp_json.specs.declared.params.Params.{Params}
use Rattle.cdp_json.specs.declared.params.Params.TheVariants as params
use Rattle.cdp_json.proofs.CommandLemmas.{read_is_command}
use Rattle.cdp_host_laws.specs.Naming.{LocationsAreGiven, StatesAreNamed, NamesState}

-- the parameters of a command whose method has this name
given_params : (name : List ℕ) (m : Method) → method_of name ≡ Some m
    → (d : Data) (id : ℕ) (method : Method) (heard : Params) (given : Data)
    → value_reading d ≡ Command id method heard
    → get (codes "method") d ≡ Some (string name)
    → given_of d ≡ Some given
    → params_of m given ≡ Some heard
given_params name m is d id method heard given reads stands has =
    let c : IsCommand d id method heard = read_is_command d id method heard reads in
    let text : Some (string c.name) ≡ Some (string name) = sym c.name_stands ∙ stands in
    let same : c.name ≡ name = cc in
    let found : Some method ≡ Some m = sym c.name_means ∙ ap method_of same ∙ is in
    let e : method ≡ m = cc in
    let both : Some c.given ≡ Some given = sym c.given_stands ∙ has in
    let g : c.given ≡ given = cc in
    ap (λ v. params_of m v) (sym g) ∙ ap (λ k. params_of k c.given) (sym e) ∙ c.given_means

state_named_so : (name : List ℕ) (state : ExceptionPauses) → state_named name ≡ Some state → NamesState name state
state_named_so name state is = λ d id method heard given reads stands has there.
    let all : params_of methods.SetPauseOnExceptions given ≡ Some heard
    = given_params (codes "Debugger.setPauseOnExceptions") methods.SetPauseOnExceptions refl d id method heard given
    reads stands has in
    let found : state_of given ≡ Some (params.SetPauseOnExceptions state)
    = ap (λ o. option_map params.SetPauseOnExceptions (option_and_then state_named (option_and_then as_str o))) there
    ∙ ap (λ o. option_map params.SetPauseOnExceptions o) is in
    let both : Some heard ≡ Some (params.SetPauseOnExceptions state) = sym all ∙ found in
    cc

pub states-named : StatesAreNamed
states-named = record {
  all = state_named_so (codes "all") pauses.All refl;
  uncaught = state_named_so (codes "uncaught") pauses.Uncaught refl;
  none = state_named_so (codes "none") pauses.Never refl;
}

located : (o : Option (List ℕ)) (line column : ℕ) (b c : Bool) (at : Location)
    → option_map params.ContinueToLocation
    (location_from o (position_from (if b then Some line else None) (if c then Some column else None)))
    ≡ Some (params.ContinueToLocation at)
    → at.position ≡ record { line = line; col = column }
located None line column b c at is = absurd cc
located (Some id) line column false c at is = absurd cc
located (Some id) line column true false at is = absurd cc
located (Some id) line column true true at is =
    let made : Location = record { script_id = id; position = record { line = line; col = column } } in
    let e : made ≡ at = cc in
    sym (ap (λ (l : Location). l.position) e)

pub locations-given : LocationsAreGiven
locations-given = λ d id method at given l line column reads stands has there lines columns.
    let all : params_of methods.ContinueToLocation given ≡ Some (params.ContinueToLocation at)
    = given_params (codes "Debugger.continueToLocation") methods.ContinueToLocation refl d id method
    (params.ContinueToLocation at) given reads stands has in
    let found : continue_of given
    ≡ option_map params.ContinueToLocation (location_from (required text_of (codes "scriptId") l)
    (position_from (coordinate_of (number (unsigned line))) (coordinate_of (number (unsigned column)))))
    = ap (λ o. option_map params.ContinueToLocation (option_and_then location_of o)) there
    ∙ ap (λ o. option_map params.ContinueToLocation (location_from (required text_of (codes "scriptId") l)
    (position_from (option_and_then coordinate_of o) (column_of (get (codes "columnNumber") l))))) lines
    ∙ ap (λ o. option_map params.ContinueToLocation (location_from (required text_of (codes "scriptId") l)
    (position_from (coordinate_of (number (unsigned line))) (column_of o)))) columns in
    located (required text_of (codes "scriptId") l) line column (nat_lt line (2 ^ 32)) (nat_lt column (2 ^ 32)) at
    (sym found ∙ all)
