-- What a link in memory has to give.
use Rattle.std.specs.Prelude.{◌≡◌, ◌-◌, ℕ, List, [], ◌∷◌, Bool, true, false, length, string_bytes, nat_lt, if◌then◌else◌}
use Rattle.cdp_edge_server.specs.Coming.{Coming, Text, Binary, TooBig, Quiet, Closed, Hold}
use Rattle.cdp_edge_server.specs.declared.script.Incoming.{Incoming}
use Rattle.cdp_edge_server.specs.declared.script.Incoming.TheVariants as incoming

-- a text of these bytes, which is only too big above the limit
abbrev pub text_coming : List ℕ → Coming
text_coming bytes = if nat_lt 1_048_576 (length bytes) then TooBig else Text bytes

-- what an entry of a script gives
abbrev pub coming_of : Incoming → Coming
coming_of (incoming.Text text) = text_coming (string_bytes text)
coming_of incoming.Binary = Binary
coming_of incoming.TooBig = TooBig
coming_of incoming.Quiet = Quiet
coming_of incoming.Closed = Closed
coming_of (incoming.Hold gate n) = Hold n

-- what is to come where a hold at its beginning has waited so often
abbrev pub waited_off : ℕ → List Coming → List Coming
waited_off waited [] = []
waited_off waited (Text bytes ∷ rest) = Text bytes ∷ rest
waited_off waited (Binary ∷ rest) = Binary ∷ rest
waited_off waited (TooBig ∷ rest) = TooBig ∷ rest
waited_off waited (Quiet ∷ rest) = Quiet ∷ rest
waited_off waited (Closed ∷ rest) = Closed ∷ rest
waited_off waited (Hold n ∷ rest) = Hold (n - waited) ∷ rest

-- a message, or a call that finds none, is next
abbrev pub is_passing : List Coming → Bool
is_passing [] = false
is_passing (Text bytes ∷ rest) = true
is_passing (Binary ∷ rest) = true
is_passing (TooBig ∷ rest) = true
is_passing (Quiet ∷ rest) = true
is_passing (Closed ∷ rest) = false
is_passing (Hold n ∷ rest) = false

-- a hold is next
abbrev pub BeginsWithHold : List Coming → Type 0
BeginsWithHold coming = (n : ℕ) × (rest : List Coming) × (coming ≡ Hold n ∷ rest)
