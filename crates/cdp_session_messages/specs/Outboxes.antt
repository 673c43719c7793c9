-- The texts that wait for a client, and how many may.
use Rattle.std.specs.Prelude.{◌≡◌, ℕ, ◌+◌, List, [], ◌∷◌, length, Bool, true, ◌&&◌, nat_le}
use Rattle.cdp_session_messages.specs.declared.outbox.TheConstants.{MOST_BYTES, MOST_TEXTS}

-- the greatest number of texts that wait for a client
abbrev pub most_texts : ℕ
most_texts = MOST_TEXTS

-- the greatest number of their bytes
abbrev pub most_bytes : ℕ
most_bytes = MOST_BYTES

-- the bytes of texts
abbrev pub bytes_of : List (List ℕ) → ℕ
bytes_of [] = 0
bytes_of (text ∷ texts) = length text + bytes_of texts

-- so many texts may wait, and so many bytes of them
unfoldable pub fits : List (List ℕ) → Bool
fits texts = nat_le (length texts) most_texts && nat_le (bytes_of texts) most_bytes

-- the texts that wait fit, and this is the number of their bytes
pub record IsOutbox (texts : List (List ℕ)) (bytes : ℕ) : Type 0 where
  pub counted : bytes ≡ bytes_of texts
  pub fit : fits texts ≡ true
