-- A command without the flag is read as the same command.
use Rattle.std.proofs.Common.{◌≡◌, ◌≢◌, ℕ, List, Bool, true, false, bytes_eq, codes, Option, Some, None, is_some, option_and_then, if◌then◌else◌, refl, sym, ap, ◌∙◌}
use Rattle.std.proofs.lemmas.Bool.{false≢true}
use Rattle.std.proofs.lemmas.Slice.Eq.{bytes_eq-Decides}
use Rattle.serde_json.specs.Data.{Data}
use Rattle.serde_json.specs.Find.{as_bool, as_number, as_object, as_str, as_u64}
use Rattle.cdp_json.specs.Commands.{given_from, if_safe}
use Rattle.cdp_json.specs.Members.{if_given}
use Rattle.ws_service_devtools.specs.Laws.{ReadsAlike}
use Rattle.ws_service_devtools.specs.Texts.{flag_name}

-- an object is what a command is given
is_given : (d : Data) → is_some (as_object d) ≡ true → given_from (Some d) ≡ Some d
is_given d is = ap (λ b. if b then Some d else None) is

other_at : (b : Bool) (o w : Option Data) → b ≡ false → (if b then w else o) ≡ o
other_at true o w is = absurd (false≢true (sym is))
other_at false o w is = refl

differ : (name other : List ℕ) (b : Bool) → bytes_eq name other ≡ b → (other ≢ name) → b ≡ false
differ name other true is apart = absurd (apart (sym ((bytes_eq-Decides name other).0 is)))
differ name other false is apart = refl

pub reads_alike : ReadsAlike
reads_alike d e w = record {
  id = ap (λ o. option_and_then if_safe (option_and_then as_u64 (option_and_then as_number o))) (w.command.1 (codes "id"));
  method = ap (option_and_then as_str) (w.command.1 (codes "method"));
  params = w.params;
  others = w.others;
  given = ap given_from w.given ∙ is_given w.params w.is_object;
  left = ap given_from (w.command.1 (codes "params")) ∙ is_given w.others w.parameters.0;
  unset = ap (if_given as_bool) (w.parameters.1 flag_name);
  same = λ name apart. w.parameters.1 name ∙ other_at (bytes_eq flag_name name) _ _ (differ flag_name name _ refl apart);
}
