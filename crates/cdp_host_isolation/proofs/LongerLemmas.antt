-- Histories that go on.
use Rattle.std.proofs.Common.{◌≡◌, ℕ, zero, List, [], ◌∷◌, ◌++◌, Bool, fold, refl, ap, sym, ◌∙◌, append_assoc, append-nil}
use Rattle.std.proofs.lemmas.Grind.{fold-append}
use Rattle.cdp_host_isolation.specs.Protocols.{Protocol}
use Rattle.cdp_host_isolation.specs.Meanings.{Meaning, begin}
use Rattle.cdp_host_isolation.specs.Histories.{Entry, FitsAll, FitsEntry, apply, handed_at, handed_of, steps_of, whole}
use Rattle.cdp_host_isolation.specs.Stops.{plain}
use Rattle.cdp_host_isolation.proofs.StopLemmas.{entry-program}

-- what a history means with one more entry
pub whole-more : {C T Q X : Type 0}
    → (P : Protocol C T Q X) (c : C) (wait : Bool) (history : List Entry) (entry : Entry)
    → whole P c wait (history ++ entry ∷ []) ≡ apply P (whole P c wait history) entry
whole-more P c wait history entry = fold-append (apply P) (begin c wait) history (entry ∷ [])

-- an entry that fits behind a history makes it a longer one
pub fits-more : {C T Q X : Type 0} → (P : Protocol C T Q X) (m : Meaning C Q X) (history : List Entry) (entry : Entry)
    → FitsAll P m history → FitsEntry P (fold (apply P) m history) entry → FitsAll P m (history ++ entry ∷ [])
fits-more P m [] entry all fits = (fits, tt)
fits-more P m (here ∷ history) entry all fits = (all.0, fits-more P (apply P m here) history entry all.1 fits)

-- an entry without steps leaves the program where it is
pub call-program : {C T Q X : Type 0}
    → (P : Protocol C T Q X) (m : Meaning C Q X) (entry : Entry)
    → steps_of entry ≡ zero
    → (apply P m entry).program ≡ m.program
call-program P m entry none = entry-program P m entry ∙ ap (λ n. plain P n m.program) none

-- what a history hands out that goes on
pub handed-append : {C T Q X : Type 0} → (P : Protocol C T Q X) (s : ℕ) (m : Meaning C Q X) (history more : List Entry)
    → handed_of P s m (history ++ more) ≡ handed_of P s m history ++ handed_of P s (fold (apply P) m history) more
handed-append P s m [] more = refl
handed-append P s m (entry ∷ history) more =
    let now = handed_at P s m entry in
    let k = apply P m entry in
    ap (λ later. now ++ later) (handed-append P s k history more)
    ∙ sym (append_assoc now (handed_of P s k history) (handed_of P s (fold (apply P) k history) more))

-- with one more entry
pub handed-more : {C T Q X : Type 0} → (P : Protocol C T Q X) (s : ℕ) (m : Meaning C Q X) (history : List Entry)
    (entry : Entry)
    → handed_of P s m (history ++ entry ∷ [])
    ≡ handed_of P s m history ++ handed_at P s (fold (apply P) m history) entry
handed-more P s m history entry =
    handed-append P s m history (entry ∷ [])
    ∙ ap (λ later. handed_of P s m history ++ later) (append-nil (handed_at P s (fold (apply P) m history) entry))
