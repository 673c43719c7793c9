-- What a store does to the files of a shelf.
use Rattle.std.proofs.Common.{◌≡◌, ℕ, List, ◌∷◌, refl, sym, subst}
use Rattle.std.proofs.lemmas.Bool.{cond-true, cond-false, false_from_ne_true}
use Rattle.std.proofs.lemmas.Slice.Eq.{bytes_eq-Decides}
use Rattle.std.specs.Str.{bytes_eq}
use Rattle.cdp_edge.specs.Logs.{NamedFile}
use Rattle.cdp_edge.specs.Outside.{IsStored, OthersStay}

-- what comes first is what a read finds, and other names find what they found
pub stored_first : (name bytes : List ℕ) (old new : List NamedFile)
    → new ≡ record { name = name; bytes = bytes } ∷ old
    → IsStored name bytes old new
stored_first name bytes old new is =
    subst (λ (files : List NamedFile). IsStored name bytes old files) (sym is) (record {
      there = cond-true (bytes_eq name name) _ _ ((bytes_eq-Decides name name).1 refl);
      others = λ other differs.
          cond-false (bytes_eq name other) _ _
          (false_from_ne_true (bytes_eq name other) (λ same. differs (sym ((bytes_eq-Decides name other).0 same))));
    })

-- files that are as they were
pub others_stay : (name : List ℕ) (old new : List NamedFile) → new ≡ old → OthersStay name old new
others_stay name old new same =
    subst (λ (files : List NamedFile). OthersStay name old files) (sym same) (λ other differs. refl)

pub ruleset stores = (stored_first, others_stay)
