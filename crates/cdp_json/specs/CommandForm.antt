-- What it means that a JSON value is a command (JSON-RPC 2.0, section 4).
use Rattle.std.specs.Prelude.{◌≡◌, ℕ, ◌^◌, ◌<◌, List, codes, Some}
use Rattle.serde_json.specs.Data.{Data, number, unsigned, string}
use Rattle.serde_json.specs.Find.{get}
use Rattle.cdp_json.specs.Commands.{given_of, value_reading}
use Rattle.cdp_json.specs.Methods.{method_of}
use Rattle.cdp_json.specs.Parameters.{params_of}
use Rattle.cdp_json.specs.declared.command.Reading.TheVariants.{Command}
use Rattle.cdp_json.specs.declared.method.Method.{Method}
use Rattle.cdp_json.specs.declared.params.Params.{Params}

-- the value has the member `id`, an integer from 0 to 2^53-1, the member `method`, a string that names the method, and
-- these parameters
pub record IsCommand (d : Data) (id : ℕ) (method : Method) (parameters : Params) : Type 0 where
  pub id_stands : get (codes "id") d ≡ Some (number (unsigned id))
  pub id_is_safe : id < 2 ^ 53
  pub name : List ℕ
  pub name_stands : get (codes "method") d ≡ Some (string name)
  pub name_means : method_of name ≡ Some method
  pub given : Data
  pub given_stands : given_of d ≡ Some given
  pub given_means : params_of method given ≡ Some parameters

-- what is read as a command is that command
abbrev pub ReadIsCommand : Type 0
ReadIsCommand =
    (d : Data) (id : ℕ) (method : Method) (parameters : Params)
    → value_reading d ≡ Command id method parameters
    → IsCommand d id method parameters

-- what is a command is read as that command
abbrev pub CommandIsRead : Type 0
CommandIsRead =
    (d : Data) (id : ℕ) (method : Method) (parameters : Params)
    → IsCommand d id method parameters
    → value_reading d ≡ Command id method parameters
