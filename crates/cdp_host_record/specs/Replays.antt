-- What the journal that a record is does to a host, and that it does what the history did.
use Rattle.std.specs.Prelude.{◌≡◌, ℕ, List, [], ◌∷◌, ◌++◌, Bool, true, false, not, fold, if◌then◌else◌, Option, Some, None}
use Rattle.std.specs.Option.{option_and_then, option_map_or}
use Rattle.cdp_text.specs.Lines.{lines_of}
use Rattle.cdp_journal.specs.Lines as journal
use Rattle.cdp_journal.specs.Lines.{Line, is_memory, line_of}
use Rattle.cdp_host_isolation.specs.Histories.{Entry, Attach, Tell, Take, Detach, Ran, Shut, apply, handed_of}
use Rattle.cdp_host_isolation.specs.Meanings.{Meaning, longest, with_seats}
use Rattle.cdp_host_isolation.specs.Protocols.{Protocol}
use Rattle.cdp_host_isolation.specs.Seats.{each, is_attached, seat_of}
use Rattle.cdp_host_isolation.specs.declared.seat.Seat.{Seat}
use Rattle.cdp_host_isolation.specs.declared.seat.Seat.TheVariants.{Attached, Lost, Left}
use Rattle.cdp_host_record.specs.Records.{is_some_there}

-- ---- a journal that is played

-- an entry of a session, if that is attached
abbrev pub if_attached : {C Q X : Type 0} → Meaning C Q X → ℕ → Entry → Option Entry
if_attached m s entry = if is_attached (seat_of s m.seats) then Some entry else None

-- the entry of a line; None where it names a session that isn't attached. A run is the longest of at most so many
-- steps, and loses nobody for want of memory.
abbrev pub entry_at : {C T Q X : Type 0} → Protocol C T Q X → Meaning C Q X → Line → Option Entry
entry_at P m journal.Attach = Some Attach
entry_at P m (journal.Tell s text) = if_attached m s (Tell s text)
entry_at P m (journal.Take s) = if_attached m s (Take s)
entry_at P m (journal.Detach s) = if_attached m s (Detach s)
entry_at P m (journal.Run most moment) = Some (Ran (longest P moment most m) moment [])
entry_at P m journal.Shut = Some Shut

-- the history of a journal's lines, up to the line `memory` or the first that is refused
abbrev pub played : {C T Q X : Type 0} → Protocol C T Q X → Meaning C Q X → List (List ℕ) → List Entry
played P m [] = []
played P m (line ∷ lines) =
    if is_memory line then []
    else option_map_or (λ entry. entry ∷ played P (apply P m entry) lines)
    (option_and_then (entry_at P m) (line_of line)) []

-- no line of a journal is refused; behind the line `memory` each would be
abbrev pub is_played : {C T Q X : Type 0} → Protocol C T Q X → Meaning C Q X → List (List ℕ) → Bool
is_played P m [] = true
is_played P m (line ∷ lines) =
    if is_memory line then not (is_some_there lines)
    else option_map_or (λ entry. is_played P (apply P m entry) lines) (option_and_then (entry_at P m) (line_of line))
    false

-- ---- what it comes to

-- a seat, whether or not the session's owner was told of its loss
abbrev pub untold : {X : Type 0} → Seat X → Seat X
untold (Attached x) = Attached x
untold (Lost loss is_reported is_told) = Lost loss is_reported false
untold Left = Left

-- what is meant but for which owners were told of losses
abbrev pub but_told : {C Q X : Type 0} → Meaning C Q X → Meaning C Q X
but_told m = with_seats (each untold m.seats) m

-- Lines that are played do what a history does: none of them is refused, they mean what it means, but for which owners
-- were told of losses, and each session is handed the same texts, in order.
pub record PlaysAs {C T Q X : Type 0} (P : Protocol C T Q X) (m : Meaning C Q X) (lines : List (List ℕ))
    (history : List Entry) : Type 0 where
  pub all : is_played P m lines ≡ true
  pub means : but_told (fold (apply P) m (played P m lines)) ≡ but_told (fold (apply P) m history)
  pub handed : (s : ℕ) → handed_of P s m (played P m lines) ≡ handed_of P s m history

-- A journal that is played does what a first part of a history did; unless it is cut, what all of it did. No line of it
-- is refused.
pub record PlaysFirst {C T Q X : Type 0} (P : Protocol C T Q X) (m : Meaning C Q X) (history : List Entry)
    (is_cut : Bool) (bytes : List ℕ) : Type 0 where
  pub first : List Entry
  pub rest : List Entry
  pub whole : history ≡ first ++ rest
  pub kept : is_cut ≡ false → rest ≡ []
  pub plays : PlaysAs P m (lines_of bytes) first

-- taking no texts leaves a session as it was
abbrev pub KeepsUntouched : {C T Q X : Type 0} → Protocol C T Q X → Type 0
KeepsUntouched {C} {T} {Q} {X} P = (x : X) → P.outbox x ≡ [] → P.emptied x ≡ x
