-- A value is read as a command just where it is that command.
use Rattle.std.proofs.Common.{◌≡◌, ℕ, ◌<◌, List, Bool, true, false, refl, sym, ap, ◌∙◌, subst}
use Rattle.std.specs.Prelude.{◌^◌, codes, nat_lt, if◌then◌else◌, Option, Some, None, is_some, option_and_then}
use Rattle.std.proofs.lemmas.Bool.{lt-ltb, ltb-true}
use Rattle.serde_json.specs.Data.{Data, null, boolean, number, string, array, object, unsigned, negative, float}
use Rattle.serde_json.specs.Find.{get, as_number, as_str, as_u64, as_object}
use Rattle.cdp_json.specs.Members.{required}
use Rattle.cdp_json.specs.Methods.{method_of}
use Rattle.cdp_json.specs.Parameters.{params_of}
use Rattle.cdp_json.specs.Commands.{if_safe, id_of, given_of, with_params, with_given, with_method, with_name, with_id}
use Rattle.cdp_json.specs.CommandForm.{ReadIsCommand, CommandIsRead}
use Rattle.cdp_json.specs.declared.command.Reading.{Reading}
use Rattle.cdp_json.specs.declared.command.Reading.TheVariants.{Command, Refused}
use Rattle.cdp_json.specs.declared.method.Method.{Method}
use Rattle.cdp_json.specs.declared.params.Params.{Params}
use Rattle.cdp_json.specs.declared.refusal.Refusal.TheVariants as refusals

-- ---- a command is read

has_members : (d : Data) (k : List ℕ) (x : Data) → get k d ≡ Some x → is_some (as_object d) ≡ true
has_members null k x is = cc
has_members (boolean b) k x is = cc
has_members (number n) k x is = cc
has_members (string s) k x is = cc
has_members (array ds) k x is = cc
has_members (object ms) k x is = refl

safe : (n : ℕ) → n < 2 ^ 53 → if_safe n ≡ Some n
safe n lt = ap (λ b. if b then Some n else None) (lt-ltb n (2 ^ 53) lt)

pub command_is_read : CommandIsRead
command_is_read d id method parameters is =
    let members : is_some (as_object d) ≡ true = has_members d (codes "id") (number (unsigned id)) is.id_stands in
    let numbered : id_of d ≡ Some id = ap
    (λ g. option_and_then if_safe (option_and_then as_u64 (option_and_then as_number g))) is.id_stands
    ∙ safe id is.id_is_safe in
    ap (λ b. if b then with_id d (id_of d) else Refused None refusals.NotObject) members
    ∙ ap (with_id d) numbered
    ∙ ap (λ g. with_name id d (option_and_then as_str g)) is.name_stands
    ∙ ap (with_method id is.name d) is.name_means
    ∙ ap (with_given id method) is.given_stands
    ∙ ap (with_params id method) is.given_means

-- ---- what is read is a command

module _ (id : ℕ) (method : Method) (parameters : Params) where
  from_value : (b : Bool) (r : Reading)
      → (if b then r else Refused None refusals.NotObject) ≡ Command id method parameters
      → r ≡ Command id method parameters
  from_value true r e = e
  from_value false r e = cc

  from_id : (d : Data) (o : Option ℕ) → with_id d o ≡ Command id method parameters
      → (n : ℕ) × (o ≡ Some n) × (with_name n d (required as_str (codes "method") d) ≡ Command id method parameters)
  from_id d None e = cc
  from_id d (Some n) e = (n, refl, e)

  from_name : (n : ℕ) (d : Data) (o : Option (List ℕ)) → with_name n d o ≡ Command id method parameters
      → (name : List ℕ) × (o ≡ Some name) × (with_method n name d (method_of name) ≡ Command id method parameters)
  from_name n d None e = cc
  from_name n d (Some name) e = (name, refl, e)

  from_method : (n : ℕ) (name : List ℕ) (d : Data) (o : Option Method)
      → with_method n name d o ≡ Command id method parameters
      → (m : Method) × (o ≡ Some m) × (with_given n m (given_of d) ≡ Command id method parameters)
  from_method n name d None e = cc
  from_method n name d (Some m) e = (m, refl, e)

  from_given : (n : ℕ) (m : Method) (o : Option Data) → with_given n m o ≡ Command id method parameters
      → (g : Data) × (o ≡ Some g) × (with_params n m (params_of m g) ≡ Command id method parameters)
  from_given n m None e = cc
  from_given n m (Some g) e = (g, refl, e)

  from_params : (n : ℕ) (m : Method) (o : Option Params) → with_params n m o ≡ Command id method parameters
      → (n ≡ id) × (m ≡ method) × (o ≡ Some parameters)
  from_params n m None e = cc
  from_params n m (Some p) e = (cc, cc, cc)

safe_back : (b : Bool) (k n : ℕ)
    → nat_lt k (2 ^ 53) ≡ b
    → (if b then Some k else None) ≡ Some n
    → (k ≡ n) × (k < 2 ^ 53)
safe_back true k n is e = (cc, ltb-true k (2 ^ 53) is)
safe_back false k n is e = cc

abbrev Numbered : Option Data → ℕ → Type 0
Numbered g n = (g ≡ Some (number (unsigned n))) × (n < 2 ^ 53)

numbered_by : (k n : ℕ) → (k ≡ n) × (k < 2 ^ 53) → Numbered (Some (number (unsigned k))) n
numbered_by k n both = (ap (λ i. Some (number (unsigned i))) both.0, subst (λ i. i < 2 ^ 53) both.0 both.1)

id_back : (g : Option Data) (n : ℕ)
    → option_and_then if_safe (option_and_then as_u64 (option_and_then as_number g)) ≡ Some n
    → Numbered g n
id_back None n e = cc
id_back (Some null) n e = cc
id_back (Some (boolean b)) n e = cc
id_back (Some (number (unsigned k))) n e = numbered_by k n (safe_back (nat_lt k (2 ^ 53)) k n refl e)
id_back (Some (number (negative z))) n e = cc
id_back (Some (number (float x))) n e = cc
id_back (Some (string s)) n e = cc
id_back (Some (array ds)) n e = cc
id_back (Some (object ms)) n e = cc

name_back : (g : Option Data) (name : List ℕ) → option_and_then as_str g ≡ Some name → g ≡ Some (string name)
name_back None name e = cc
name_back (Some null) name e = cc
name_back (Some (boolean b)) name e = cc
name_back (Some (number k)) name e = cc
name_back (Some (string s)) name e = cc
name_back (Some (array ds)) name e = cc
name_back (Some (object ms)) name e = cc

pub read_is_command : ReadIsCommand
read_is_command d id method parameters e =
    let v = from_value id method parameters (is_some (as_object d)) (with_id d (id_of d)) e in
    let i = from_id id method parameters d (id_of d) v in
    let n = from_name id method parameters i.0 d (required as_str (codes "method") d) i.2 in
    let m = from_method id method parameters i.0 n.0 d (method_of n.0) n.2 in
    let g = from_given id method parameters i.0 m.0 (given_of d) m.2 in
    let p = from_params id method parameters i.0 m.0 (params_of m.0 g.0) g.2 in
    let numbered = id_back (get (codes "id") d) i.0 i.1 in
    record {
      id_stands = numbered.0 ∙ ap (λ k. Some (number (unsigned k))) p.0;
      id_is_safe = subst (λ k. k < 2 ^ 53) p.0 numbered.1;
      name = n.0;
      name_stands = name_back (get (codes "method") d) n.0 n.1;
      name_means = m.1 ∙ ap Some p.1;
      given = g.0;
      given_stands = g.1;
      given_means = ap (λ k. params_of k g.0) (sym p.1) ∙ p.2;
    }
