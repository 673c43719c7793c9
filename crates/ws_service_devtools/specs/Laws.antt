-- What the host reads of a command without the flag.
use Rattle.std.specs.Prelude.{◌≡◌, ◌≢◌, ℕ, List, codes, Some, None}
use Rattle.serde_json.specs.Data.{Data}
use Rattle.serde_json.specs.Find.{as_bool, as_str, get}
use Rattle.cdp_json.specs.Commands.{given_of, id_of}
use Rattle.cdp_json.specs.Members.{optional, required}
use Rattle.ws_service_devtools.specs.Texts.{IsWithoutFlag, flag_name}

-- another command has the same id, the same method, and parameters without the flag, which are the same otherwise
pub record IsReadAlike (d e : Data) : Type 0 where
  pub id : id_of e ≡ id_of d
  pub method : required as_str (codes "method") e ≡ required as_str (codes "method") d
  pub params : Data
  pub others : Data
  pub given : given_of d ≡ Some params
  pub left : given_of e ≡ Some others
  pub unset : optional as_bool flag_name others ≡ Some None
  pub same : (name : List ℕ) → name ≢ flag_name → get name others ≡ get name params

-- a command without the flag is read alike
abbrev pub ReadsAlike : Type 0
ReadsAlike = (d e : Data) → IsWithoutFlag d e → IsReadAlike d e
