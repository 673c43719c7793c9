-- The rows of a history that goes on.
use Rattle.std.proofs.Common.{◌≡◌, ℕ, List, [], ◌∷◌, ◌++◌, None, Option, refl, ap, sym, ◌∙◌, append-nil, append_assoc}
use Rattle.history_lock_trial.specs.declared.log.Row.{Row}
use Rattle.history_lock_trial.specs.Rows.{row_of, rows_of}

rows_append : (history more : List (ℕ × Option Row)) → rows_of (history ++ more) ≡ rows_of history ++ rows_of more
rows_append [] more = refl
rows_append (e ∷ history) more =
    ap (λ rows. row_of e.1 ++ rows) (rows_append history more)
    ∙ sym (append_assoc (row_of e.1) (rows_of history) (rows_of more))

-- one entry more
rows_then : (history : List (ℕ × Option Row)) (k : ℕ) (entry : Option Row)
    → rows_of (history ++ (k, entry) ∷ []) ≡ rows_of history ++ row_of entry
rows_then history k entry =
    rows_append history ((k, entry) ∷ []) ∙ ap (λ rows. rows_of history ++ rows) (append-nil (row_of entry))

-- a log with the row of one entry more
pub rows_added : (old new : List Row) (history : List (ℕ × Option Row)) (k : ℕ) (entry : Option Row)
    → new ≡ old ++ row_of entry → old ≡ rows_of history → new ≡ rows_of (history ++ (k, entry) ∷ [])
rows_added old new history k entry is stands =
    is ∙ (ap (λ rows. rows ++ row_of entry) stands ∙ sym (rows_then history k entry))

-- an entry without a row
pub rows_same : (rows : List Row) (history : List (ℕ × Option Row)) (k : ℕ) → rows ≡ rows_of history
    → rows ≡ rows_of (history ++ (k, None) ∷ [])
rows_same rows history k stands = stands ∙ sym (rows_then history k None ∙ append-nil (rows_of history))
