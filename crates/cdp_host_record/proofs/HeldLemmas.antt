-- What a record holds after a line.
use Rattle.std.proofs.Common.{◌≡◌, inr, ℕ, List, [], ◌∷◌, ◌++◌, Bool, true, false, ◌&&◌, if◌then◌else◌, String, Global, string_bytes, refl, ap, sym, subst, ◌∙◌}
use Rattle.std.specs.Prelude.{Result, Ok, Err, IfOk, MatchResult}
use Rattle.std.proofs.lemmas.Bool.{false≢true}
use Rattle.std.specs.declared.alloc.AllocError.{AllocError}
use Rattle.cdp_journal.specs.Lines.{Line, is_tellable}
use Rattle.cdp_host_isolation.specs.Histories.{Entry}
use Rattle.cdp_host_isolation.specs.Meanings.{Meaning}
use Rattle.cdp_host_isolation.specs.Protocols.{Protocol}
use Rattle.cdp_host_record.specs.Records.{bytes_of, memory_line, recorded_from}
use Rattle.cdp_host_record.specs.Recordings.{Adds, AddsAll, AddsTold, Held, Holds, IsCutShort, closed, is_going, is_lost, longer}
use Rattle.cdp_host_record.specs.declared.state.RecordState.{RecordState}
use Rattle.cdp_host_record.specs.declared.state.RecordState.TheVariants.{Going, Ended, Lost}

-- ---- one step of a record

pub longer-over : (bytes : List ℕ) (held : Held) → is_going held.state ≡ false → longer bytes held ≡ held
longer-over bytes held over = ap (λ (b : Bool). if b then record held { bytes = held.bytes ++ bytes } else held) over

pub longer-going : (bytes : List ℕ) (held : Held) → is_going held.state ≡ true
    → longer bytes held ≡ record { bytes = held.bytes ++ bytes; state = held.state }
longer-going bytes held going =
    ap (λ (b : Bool). if b then record held { bytes = held.bytes ++ bytes } else held) going

pub closed-over : (state : RecordState) (held : Held) → is_going held.state ≡ false → closed state held ≡ held
closed-over state held over =
    ap (λ (b : Bool). if b then record { bytes = held.bytes ++ memory_line; state = state } else held) over

pub closed-going : (state : RecordState) (held : Held) → is_going held.state ≡ true
    → closed state held ≡ record { bytes = held.bytes ++ memory_line; state = state }
closed-going state held going =
    ap (λ (b : Bool). if b then record { bytes = held.bytes ++ memory_line; state = state } else held) going

pub ruleset kept = (longer-over, longer-going, closed-over, closed-going)

-- ---- a line

-- one that was made, or for which there was no memory
pub made-adds : (r : Result (String Global) AllocError) (bytes : List ℕ) (old new : Held)
    → IfOk r (λ text. string_bytes text ≡ bytes)
    → MatchResult r (λ text. Adds (string_bytes text) old new) (λ error. new ≡ closed Lost old)
    → Adds bytes old new
made-adds (Ok text) bytes old new is adds = subst (λ b. Adds b old new) is adds
made-adds (Err error) bytes old new is lost = inr lost

-- one that is always the same
pub adds-as : (text bytes : List ℕ) (old new : Held) → text ≡ bytes → Adds text old new → Adds bytes old new
adds-as text bytes old new is adds = subst (λ b. Adds b old new) is adds

and-true : (b : Bool) → (b && true) ≡ b
and-true true = refl
and-true false = refl

-- one that a journal can tell, or can't
pub adds-one : (b : Bool) (line : Line) (old new : Held)
    → is_tellable line ≡ b
    → AddsTold b (bytes_of (line ∷ [])) old new
    → AddsAll (line ∷ []) old new
adds-one b line old new is adds =
    subst (λ (t : Bool). AddsTold t (bytes_of (line ∷ [])) old new) (sym (and-true (is_tellable line) ∙ is)) adds

-- ---- what it holds of a history

pub held-whole : {C T Q X : Type 0} → (P : Protocol C T Q X) (m : Meaning C Q X) (history : List Entry)
    (state : RecordState) (bytes : List ℕ)
    → Holds P m history state bytes
    → is_lost state ≡ false
    → bytes ≡ recorded_from P m history
held-whole P m history Going bytes holds kept = holds.0
held-whole P m history Ended bytes holds kept = holds.0
held-whole P m history Lost bytes holds kept = absurd (false≢true (sym kept))

pub held-cut : {C T Q X : Type 0} → (P : Protocol C T Q X) (m : Meaning C Q X) (history : List Entry)
    (state : RecordState) (bytes : List ℕ)
    → Holds P m history state bytes
    → is_lost state ≡ true
    → IsCutShort P m history bytes
held-cut P m history Going bytes holds lost = absurd (false≢true lost)
held-cut P m history Ended bytes holds lost = absurd (false≢true lost)
held-cut P m history Lost bytes holds lost = holds
