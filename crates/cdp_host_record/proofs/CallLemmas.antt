-- What each call of a host adds to its record.
use Rattle.std.proofs.Common.{◌≡◌, ℕ, ◌+◌, List, [], ◌∷◌, ◌++◌, map, Bool, true, false, ◌==◌, ◌||◌, not, if◌then◌else◌, Option, String, Global, string_bytes, refl, ap, sym, ◌∙◌, subst}
use Rattle.std.specs.List.{list_any}
use Rattle.cdp_journal.specs.Lines as journal
use Rattle.cdp_journal.specs.Lines.{Line}
use Rattle.cdp_host_isolation.specs.Histories.{Entry, Take, Detach, Ran, waiting}
use Rattle.cdp_host_isolation.specs.Meanings.{Meaning}
use Rattle.cdp_host_isolation.specs.Protocols.{Protocol}
use Rattle.cdp_host_isolation.specs.Seats.{is_attached, seat_of, some, waits_for_report}
use Rattle.cdp_host_seats.specs.Losses.{is_for_memory}
use Rattle.cdp_host_seats.specs.declared.losses.SessionLost.{SessionLost}
use Rattle.cdp_host_turns.specs.Debuggings.{Debugging, meaning}
use Rattle.cdp_host_turns.specs.Entries.{lost_for_memory, told_entry}
use Rattle.cdp_host_turns.specs.declared.answers.Told.{Told}
use Rattle.cdp_host_turns.specs.declared.answers.Told.TheVariants.{Kept, Overrun, Memory}
use Rattle.cdp_host_record.specs.Records.{is_some_there, line_if, lines_at, lists}
use Rattle.cdp_host_record.specs.Recordings.{AddsLines, AddsRun, Held, RecordsIf, ended_if, told_lines}
use Rattle.cdp_host_record.proofs.GrowthLemmas.{adds-lines, adds-run}

-- ---- who was lost

listed-at : (b : Bool) (s : ℕ) (rest : List ℕ) (found : Bool) → found ≡ is_some_there rest
    → (b || found) ≡ is_some_there (if b then s ∷ rest else rest)
listed-at true s rest found is = refl
listed-at false s rest found is = is

pub listed : (losses : List SessionLost)
    → list_any (λ (one : SessionLost). is_for_memory one.loss) losses ≡ is_some_there (lost_for_memory losses)
listed [] = refl
listed (lost ∷ losses) =
    listed-at (is_for_memory lost.loss) lost.session (lost_for_memory losses)
    (list_any (λ (one : SessionLost). is_for_memory one.loss) losses) (listed losses)

-- ---- a command

told-lines : {C T Q X : Type 0} → (P : Protocol C T Q X) (m : Meaning C Q X) (s : ℕ) (text : List ℕ) (told : Told)
    → lines_at P m (told_entry told s text) ≡ told_lines told (is_attached (seat_of s m.seats)) s text
told-lines P m s text Kept = refl
told-lines P m s text Overrun = refl
told-lines P m s text Memory = refl

told-quiet : (s : ℕ) (text : List ℕ) (told : Told) → lists (told_entry told s text) ≡ false
told-quiet s text Kept = refl
told-quiet s text Overrun = refl
told-quiet s text Memory = refl

pub tells : (d : Debugging) (h : List (ℕ × Entry)) (k s : ℕ) (text : List ℕ) (told : Told) (is_there : Bool)
    (old new : Option Held)
    → is_there ≡ is_attached (seat_of s (meaning d h).seats)
    → RecordsIf d h old
    → AddsLines (told_lines told is_there s text) old new
    → RecordsIf d (h ++ (k, told_entry told s text) ∷ []) new
tells d h k s text told is_there old new is records added =
    adds-lines d h k (told_entry told s text) (told_lines told is_there s text) old new
    (told-lines d.protocol (meaning d h) s text told ∙ ap (λ b. told_lines told b s text) (sym is))
    records (told-quiet s text told) added

-- ---- texts that are handed out

some-map : {A B : Type 0} → (f : A → B) (xs : List A) → is_some_there (map f xs) ≡ is_some_there xs
some-map f [] = refl
some-map f (x ∷ xs) = refl

pub takes : (d : Debugging) (h : List (ℕ × Entry)) (k s : ℕ) (texts : List (String Global)) (is_some : Bool)
    (old new : Option Held)
    → is_some ≡ is_some_there texts
    → map string_bytes texts ≡ waiting d.protocol (seat_of s (meaning d h).seats)
    → RecordsIf d h old
    → AddsLines (line_if is_some (journal.Take s)) old new
    → RecordsIf d (h ++ (k, Take s) ∷ []) new
takes d h k s texts is_some old new is waited records added =
    let same : is_some_there (waiting d.protocol (seat_of s (meaning d h).seats)) ≡ is_some =
    ap (λ these. is_some_there these) (sym waited) ∙ some-map string_bytes texts ∙ sym is in
    adds-lines d h k (Take s) (line_if is_some (journal.Take s)) old new (ap (λ b. line_if b (journal.Take s)) same)
    records refl added

-- a turn that leaves everything as it is
pub idles : (d : Debugging) (h : List (ℕ × Entry)) (k : ℕ) (held : Option Held) → RecordsIf d h held
    → RecordsIf d (h ++ (k, Take 0) ∷ []) held
idles d h k held records = adds-lines d h k (Take 0) [] held held refl records refl refl

-- ---- a session that is detached

pub detaches : (d : Debugging) (h : List (ℕ × Entry)) (k s : ℕ) (is_there : Bool) (old new : Option Held)
    → is_there ≡ is_attached (seat_of s (meaning d h).seats)
    → RecordsIf d h old
    → AddsLines (line_if is_there (journal.Detach s)) old new
    → RecordsIf d (h ++ (k, Detach s) ∷ []) new
detaches d h k s is_there old new is records added =
    adds-lines d h k (Detach s) (line_if is_there (journal.Detach s)) old new
    (ap (λ b. line_if b (journal.Detach s)) (sym is)) records refl added

-- ---- a run

-- one of those that were lost was for want of memory
pub adds-last : (losses : List SessionLost) (b : Bool) (lines : List Line) (old new : Option Held)
    → b ≡ list_any (λ (one : SessionLost). is_for_memory one.loss) losses
    → b ≡ true
    → new ≡ ended_if old
    → AddsRun (is_some_there (lost_for_memory losses)) lines old new
adds-last losses b lines old new is some last =
    subst (λ (b : Bool). AddsRun b lines old new) (sym some ∙ is ∙ listed losses) last

-- none of them was
pub adds-none : (losses : List SessionLost) (b is_told told : Bool) (line : Line) (old new : Option Held)
    → b ≡ list_any (λ (one : SessionLost). is_for_memory one.loss) losses
    → b ≡ false
    → is_told ≡ told
    → AddsLines (line_if is_told line) old new
    → AddsRun (is_some_there (lost_for_memory losses)) (line_if told line) old new
adds-none losses b is_told told line old new is none same added =
    subst (λ (b : Bool). AddsRun b (line_if told line) old new) (sym none ∙ is ∙ listed losses)
    (subst (λ (b : Bool). AddsLines (line_if b line) old new) same added)

pub runs : (d : Debugging) (h : List (ℕ × Entry)) (k n moment : ℕ) (seen lost : List SessionLost) (is_owed : Bool)
    (old new : Option Held)
    → is_owed ≡ some waits_for_report (meaning d h).seats
    → seen ≡ lost
    → RecordsIf d h old
    → AddsRun (is_some_there (lost_for_memory seen)) (line_if (not (n == 0) || is_owed) (journal.Run n moment)) old new
    → RecordsIf d (h ++ (k, Ran n moment (lost_for_memory lost)) ∷ []) new
runs d h k n moment seen lost is_owed old new is same records added =
    let gone = lost_for_memory lost in
    let lines = line_if (not (n == 0) || is_owed) (journal.Run n moment) in
    adds-run d h k (Ran n moment gone) (is_some_there gone) lines old new refl
    (ap (λ b. line_if (not (n == 0) || b) (journal.Run n moment)) (sym is)) records
    (subst (λ losses. AddsRun (is_some_there (lost_for_memory losses)) lines old new) same added)
