-- A record that is played does what its history did.
use Rattle.std.proofs.Common.{◌≡◌, ◌⊎◌, inl, inr, ℕ, zero, suc, ◌+◌, ◌<◌, List, [], ◌∷◌, ◌++◌, map, All, Bool, true, false, ◌||◌, ◌==◌, not, fold, if◌then◌else◌, Option, Some, None, refl, ap, sym, subst, ◌∙◌, append-nil, arith}
use Rattle.std.specs.Option.{option_and_then, option_map_or}
use Rattle.std.proofs.lemmas.Bool.{eqb-true, false≢true, or_parts}
use Rattle.std.proofs.lemmas.List.Elements.{All-head, All-tail}
use Rattle.cdp_text.specs.Lines.{lines_of}
use Rattle.cdp_journal.specs.Lines as journal
use Rattle.cdp_journal.specs.Lines.{Line, is_memory, line_of, line_text, memory_text}
use Rattle.cdp_journal.proofs.LineLemmas.{line-read}
use Rattle.cdp_journal.proofs.WrittenLemmas.{IsWritten, written-cut, written-other}
use Rattle.cdp_host_isolation.specs.Histories.{Entry, Attach, Tell, Take, Detach, Ran, Shut, FitsAll, FitsEntry, apply, detach, handed_at, handed_of, take, tell, waiting, with_seat}
use Rattle.cdp_host_isolation.specs.Meanings.{Meaning, after_steps, begin, is_enabled_seat, is_paused, is_ready, longest, resumed_seat, settle, step, with_seats}
use Rattle.cdp_host_isolation.specs.Protocols.{Protocol}
use Rattle.cdp_host_isolation.specs.Seats.{each, is_attached, put, put_in, reported, seat_in, seat_of, some, waits_for_report}
use Rattle.cdp_host_isolation.specs.Stops.{IsPausedWell, KeepsEnabled}
use Rattle.cdp_host_isolation.specs.declared.seat.Seat.{Seat}
use Rattle.cdp_host_isolation.specs.declared.seat.Seat.TheVariants.{Attached, Lost, Left}
use Rattle.cdp_host_isolation.proofs.FallenLemmas.{without-none}
use Rattle.cdp_host_isolation.proofs.SeatLemmas.{each-at}
use Rattle.cdp_host_isolation.proofs.StopLemmas.{paused-well, paused-well-from}
use Rattle.cdp_host_record.specs.Records.{are_tellable, bytes_of, ends_record, has_ended, is_some_there, line_if, lines_at, lines_from, lists, memory_line}
use Rattle.cdp_host_record.specs.Replays.{KeepsUntouched, PlaysAs, but_told, entry_at, if_attached, is_played, played, untold}
use Rattle.cdp_host_record.proofs.ReadLemmas.{cut-memory, from-written}
use Rattle.cdp_host_record.proofs.ToldLemmas.{put-untold, same-apply, same-attached, same-handed, same-longest}

-- ---- entries without lines

put-in-self : {X : Type 0} → (i : ℕ) (new : Seat X) (seats : List (Seat X)) → seat_in i seats ≡ new
    → put_in i new seats ≡ seats
put-in-self i new [] is = refl
put-in-self zero new (seat ∷ seats) is = ap (λ one. one ∷ seats) (sym is)
put-in-self (suc i) new (seat ∷ seats) is = ap (λ rest. seat ∷ rest) (put-in-self i new seats is)

-- a seat that is put where it was
put-self : {X : Type 0} → (s : ℕ) (new : Seat X) (seats : List (Seat X)) → seat_of s seats ≡ new
    → put s new seats ≡ seats
put-self zero new seats is = refl
put-self (suc i) new seats is = put-in-self i new seats is

report-none : {X : Type 0} → (seat : Seat X) → waits_for_report seat ≡ false → reported seat ≡ seat
report-none (Attached x) none = refl
report-none (Lost loss true is_told) none = refl
report-none (Lost loss false is_told) none = absurd (false≢true (sym none))
report-none Left none = refl

-- a run that reports nobody
reports-none : {X : Type 0} → (seats : List (Seat X)) → some waits_for_report seats ≡ false
    → each reported seats ≡ seats
reports-none [] none = refl
reports-none (seat ∷ seats) none =
    let parts = or_parts (waits_for_report seat) (some waits_for_report seats) none in
    rw (report-none seat parts.0, reports-none seats parts.1) refl

settles-at : {C T Q X : Type 0} → (P : Protocol C T Q X) (m : Meaning C Q X) (b p : Bool) → (p ≡ true → b ≡ true)
    → (if b then m else (if p then record m { stop = None; seats = each (resumed_seat P) m.seats } else m)) ≡ m
settles-at P m true p well = refl
settles-at P m false true well = absurd (false≢true (well refl))
settles-at P m false false well = refl

-- a program that is paused well stays so
settles : {C T Q X : Type 0} → (P : Protocol C T Q X) (m : Meaning C Q X) → IsPausedWell P m → settle P m ≡ m
settles P m well = settles-at P m (some (is_enabled_seat P) m.seats) (is_paused m) well.enabled

-- a run that makes no step and reports nobody
idle-run : {C T Q X : Type 0} → (P : Protocol C T Q X) (moment : ℕ) (m : Meaning C Q X) → IsPausedWell P m
    → some waits_for_report m.seats ≡ false
    → apply P m (Ran 0 moment []) ≡ m
idle-run P moment m well none =
    ap (λ seats. settle P (with_seats (each reported seats) m)) (without-none m.seats)
    ∙ ap (λ seats. settle P (with_seats seats m)) (reports-none m.seats none)
    ∙ settles P m well

-- an owner that is told of a loss
told-loss : {C T Q X : Type 0} → (P : Protocol C T Q X) (s : ℕ) (new : Seat X) (m : Meaning C Q X)
    → untold (seat_of s m.seats) ≡ untold new
    → but_told (with_seat s new m) ≡ but_told m
told-loss P s new m same =
    ap (λ seats. with_seats seats m)
    (sym (put-untold s new m.seats)
    ∙ put-self s (untold new) (each untold m.seats) (each-at untold refl s m.seats ∙ same))

-- ---- a run that is played

-- each step was made where the program was ready, so no step is missing
all-made : {C T Q X : Type 0} → (P : Protocol C T Q X) (moment n : ℕ) (m : Meaning C Q X)
    → ((j : ℕ) → j < n → is_ready P (after_steps P moment j m) ≡ true)
    → longest P moment n m ≡ n
all-made P moment zero m ready = refl
all-made P moment (suc n) m ready =
    let first : is_ready P m ≡ true = ready 0 (omega arith) in
    let rest = all-made P moment n (step P moment [] m) (λ j small. ready (suc j) (omega (arith, small))) in
    let made : n + 1 ≡ suc n = omega arith in
    ap (λ (b : Bool). if b then longest P moment n (step P moment [] m) + 1 else 0) first
    ∙ ap (λ k. k + 1) rest
    ∙ made

-- ---- one entry

-- An entry has no line, and then it changes nothing but who was told of a loss, and hands out nothing; or it has one,
-- which is that entry for a host that means the same.
abbrev Tells : {C T Q X : Type 0} → Protocol C T Q X → Meaning C Q X → Meaning C Q X → Entry → Type 0
Tells P k m entry =
    ((lines_at P m entry ≡ []) × (but_told (apply P m entry) ≡ but_told m) × ((s : ℕ) → handed_at P s m entry ≡ []))
    ⊎ ((line : Line) × (lines_at P m entry ≡ line ∷ []) × (entry_at P k line ≡ Some entry))

attached-if : {C Q X : Type 0} → (k m : Meaning C Q X) (s : ℕ) (entry : Entry) → but_told k ≡ but_told m
    → is_attached (seat_of s m.seats) ≡ true
    → if_attached k s entry ≡ Some entry
attached-if k m s entry same there =
    ap (λ (b : Bool). if b then Some entry else None) (same-attached s k m same ∙ there)

tell-tells : {C T Q X : Type 0} → (P : Protocol C T Q X) (k m : Meaning C Q X) (s : ℕ) (text : List ℕ) (seat : Seat X)
    → seat_of s m.seats ≡ seat → but_told k ≡ but_told m → Tells P k m (Tell s text)
tell-tells P k m s text (Attached x) is same =
    let there = ap (λ seat. is_attached seat) is in
    inr (
      journal.Tell s text,
      ap (λ b. line_if b (journal.Tell s text)) there,
      attached-if k m s (Tell s text) same there,
    )
tell-tells P k m s text (Lost loss is_reported is_told) is same =
    inl (
      ap (λ seat. line_if (is_attached seat) (journal.Tell s text)) is,
      ap (λ seat. but_told (tell P s text m seat)) is,
      λ r. refl,
    )
tell-tells P k m s text Left is same =
    inl (
      ap (λ seat. line_if (is_attached seat) (journal.Tell s text)) is,
      ap (λ seat. but_told (tell P s text m seat)) is,
      λ r. refl,
    )

-- nothing waits
none-handed : (b : Bool) (texts : List (List ℕ)) → texts ≡ [] → (if b then texts else []) ≡ []
none-handed true texts none = none
none-handed false texts none = refl

take-none : {C T Q X : Type 0} → (P : Protocol C T Q X) (k m : Meaning C Q X) (s : ℕ)
    → waiting P (seat_of s m.seats) ≡ []
    → but_told (apply P m (Take s)) ≡ but_told m
    → Tells P k m (Take s)
take-none P k m s none stays =
    inl (
      ap (λ texts. line_if (is_some_there texts) (journal.Take s)) none,
      stays,
      λ r. none-handed (s == r) (waiting P (seat_of s m.seats)) none,
    )

take-some : {C T Q X : Type 0} → (P : Protocol C T Q X) (k m : Meaning C Q X) (s : ℕ) (x : X) (texts : List (List ℕ))
    → KeepsUntouched P
    → seat_of s m.seats ≡ Attached x → P.outbox x ≡ texts → but_told k ≡ but_told m → Tells P k m (Take s)
take-some P k m s x [] idle is none same =
    take-none P k m s (ap (λ seat. waiting P seat) is ∙ none)
    (ap (λ seat. but_told (take P s m seat)) is
    ∙ ap (λ y. but_told (with_seat s (Attached y) m)) (idle x none)
    ∙ told-loss P s (Attached x) m (ap (λ seat. untold seat) is))
take-some P k m s x (text ∷ texts) idle is some same =
    inr (
      journal.Take s,
      ap (λ (texts : List (List ℕ)). line_if (is_some_there texts) (journal.Take s))
          (ap (λ seat. waiting P seat) is ∙ some),
      attached-if k m s (Take s) same (ap (λ seat. is_attached seat) is),
    )

take-tells : {C T Q X : Type 0} → (P : Protocol C T Q X) (k m : Meaning C Q X) (s : ℕ) (seat : Seat X)
    → KeepsUntouched P
    → seat_of s m.seats ≡ seat → but_told k ≡ but_told m → Tells P k m (Take s)
take-tells P k m s (Attached x) idle is same = take-some P k m s x (P.outbox x) idle is refl same
take-tells P k m s (Lost loss is_reported is_told) idle is same =
    take-none P k m s (ap (λ seat. waiting P seat) is) (ap (λ seat. but_told (take P s m seat)) is)
take-tells P k m s Left idle is same =
    take-none P k m s (ap (λ seat. waiting P seat) is) (ap (λ seat. but_told (take P s m seat)) is)

detach-tells : {C T Q X : Type 0} → (P : Protocol C T Q X) (k m : Meaning C Q X) (s : ℕ) (seat : Seat X)
    → seat_of s m.seats ≡ seat → but_told k ≡ but_told m → Tells P k m (Detach s)
detach-tells P k m s (Attached x) is same =
    let there = ap (λ seat. is_attached seat) is in
    inr (journal.Detach s, ap (λ b. line_if b (journal.Detach s)) there, attached-if k m s (Detach s) same there)
detach-tells P k m s (Lost loss is_reported is_told) is same =
    inl (
      ap (λ seat. line_if (is_attached seat) (journal.Detach s)) is,
      ap (λ seat. but_told (detach P s m seat)) is
          ∙ told-loss P s (Lost loss is_reported true) m (ap (λ seat. untold seat) is),
      λ r. refl,
    )
detach-tells P k m s Left is same =
    inl (
      ap (λ seat. line_if (is_attached seat) (journal.Detach s)) is,
      ap (λ seat. but_told (detach P s m seat)) is,
      λ r. refl,
    )

none-not : (b : Bool) → not b ≡ false → b ≡ true
none-not true is = refl
none-not false is = absurd (false≢true (sym is))

-- a run that lists nobody
run-some : {C T Q X : Type 0} → (P : Protocol C T Q X) (k m : Meaning C Q X) (n moment : ℕ) (b : Bool)
    → IsPausedWell P m
    → FitsEntry P m (Ran n moment [])
    → (not (n == 0) || some waits_for_report m.seats) ≡ b
    → but_told k ≡ but_told m
    → Tells P k m (Ran n moment [])
run-some P k m n moment true well fits is same =
    inr (
      journal.Run n moment,
      ap (λ b. line_if b (journal.Run n moment)) is,
      ap (λ made. Some (Ran made moment [])) (same-longest P moment n k m same ∙ all-made P moment n m fits),
    )
run-some P k m n moment false well fits is same =
    let parts = or_parts (not (n == 0)) (some waits_for_report m.seats) is in
    let none : n ≡ 0 = eqb-true n 0 (none-not (n == 0) parts.0) in
    inl (
      ap (λ b. line_if b (journal.Run n moment)) is,
      ap (λ made. but_told (apply P m (Ran made moment []))) none
          ∙ ap but_told (idle-run P moment m well parts.1),
      λ s. refl,
    )

run-tells : {C T Q X : Type 0} → (P : Protocol C T Q X) (k m : Meaning C Q X) (n moment : ℕ) (gone : List ℕ)
    → IsPausedWell P m
    → FitsEntry P m (Ran n moment gone)
    → lists (Ran n moment gone) ≡ false
    → but_told k ≡ but_told m
    → Tells P k m (Ran n moment gone)
run-tells P k m n moment [] well fits quiet same = run-some P k m n moment _ well fits refl same
run-tells P k m n moment (s ∷ gone) well fits quiet same = absurd (false≢true (sym quiet))

one : {C T Q X : Type 0} → (P : Protocol C T Q X) (k m : Meaning C Q X) (entry : Entry) → KeepsUntouched P
    → IsPausedWell P m
    → FitsEntry P m entry
    → lists entry ≡ false
    → but_told k ≡ but_told m
    → Tells P k m entry
one P k m Attach idle well fits quiet same = inr (journal.Attach, refl, refl)
one P k m (Tell s text) idle well fits quiet same = tell-tells P k m s text (seat_of s m.seats) refl same
one P k m (Take s) idle well fits quiet same = take-tells P k m s (seat_of s m.seats) idle refl same
one P k m (Detach s) idle well fits quiet same = detach-tells P k m s (seat_of s m.seats) refl same
one P k m (Ran n moment gone) idle well fits quiet same = run-tells P k m n moment gone well fits quiet same
one P k m Shut idle well fits quiet same = inr (journal.Shut, refl, refl)

-- ---- entries one after another

-- the history of lines that were read
abbrev plays : {C T Q X : Type 0} → Protocol C T Q X → Meaning C Q X → List Line → List Entry
plays P m [] = []
plays P m (line ∷ lines) = option_map_or (λ entry. entry ∷ plays P (apply P m entry) lines) (entry_at P m line) []

-- each of these lines has an entry
abbrev have_entries : {C T Q X : Type 0} → Protocol C T Q X → Meaning C Q X → List Line → Bool
have_entries P m [] = true
have_entries P m (line ∷ lines) =
    option_map_or (λ entry. have_entries P (apply P m entry) lines) (entry_at P m line) false

-- lines that are played by a host, and what a host that means the same comes to
record Follows {C T Q X : Type 0} (P : Protocol C T Q X) (k m : Meaning C Q X) (lines : List Line)
    (history : List Entry) : Type 0 where
  all : have_entries P k lines ≡ true
  means : but_told (fold (apply P) k (plays P k lines)) ≡ but_told (fold (apply P) m history)
  handed : (s : ℕ) → handed_of P s k (plays P k lines) ≡ handed_of P s m history

skips : {C T Q X : Type 0} → (P : Protocol C T Q X) (k m : Meaning C Q X) (entry : Entry) (lines : List Line)
    (history : List Entry)
    → ((s : ℕ) → handed_at P s m entry ≡ [])
    → Follows P k (apply P m entry) lines history
    → Follows P k m lines (entry ∷ history)
skips P k m entry lines history none follows = record {
  all = follows.all;
  means = follows.means;
  handed = λ s.
      follows.handed s ∙ ap (λ now. now ++ handed_of P s (apply P m entry) history) (sym (none s));
}

goes : {C T Q X : Type 0} → (P : Protocol C T Q X) (k m : Meaning C Q X) (entry : Entry) (line : Line)
    (lines : List Line) (history : List Entry)
    → but_told k ≡ but_told m
    → entry_at P k line ≡ Some entry
    → Follows P (apply P k entry) (apply P m entry) lines history
    → Follows P k m (line ∷ lines) (entry ∷ history)
goes P k m entry line lines history same is follows =
    let whole : plays P k (line ∷ lines) ≡ entry ∷ plays P (apply P k entry) lines =
    ap (λ o. option_map_or (λ entry. entry ∷ plays P (apply P k entry) lines) o []) is in
    record {
      all = ap (λ o. option_map_or (λ entry. have_entries P (apply P k entry) lines) o false) is ∙ follows.all;
      means = ap (λ entries. but_told (fold (apply P) k entries)) whole ∙ follows.means;
      handed = λ s.
          ap (λ entries. handed_of P s k entries) whole
          ∙ ap (λ now. now ++ handed_of P s (apply P k entry) (plays P (apply P k entry) lines))
          (same-handed P s k m entry same)
          ∙ ap (λ later. handed_at P s m entry ++ later) (follows.handed s);
    }

otherwise : {A : Type 0} → (b : Bool) (x y : A) → b ≡ false → (if b then x else y) ≡ y
otherwise b x y off = rw off refl

follows-on : {C T Q X : Type 0} → (P : Protocol C T Q X) → KeepsEnabled P → KeepsUntouched P → (k m : Meaning C Q X)
    (history : List Entry)
    → IsPausedWell P m
    → FitsAll P m history
    → has_ended P m history ≡ false
    → but_told k ≡ but_told m
    → Follows P k m (lines_from P m history) history
follows-on P keeps idle k m [] well fits none same = record { all = refl; means = same; handed = λ s. refl }
follows-on P keeps idle k m (entry ∷ history) well fits none same =
    let next = apply P m entry in
    let parts = or_parts (ends_record P m entry) (has_ended P next history) none in
    let quiet = or_parts (lists entry) (not (are_tellable (lines_at P m entry))) parts.0 in
    let rest = lines_from P next history in
    let well_next = paused-well-from P m (entry ∷ []) keeps well in
    let whole = otherwise (ends_record P m entry) [] (lines_at P m entry ++ rest) parts.0 in
    elim (one P k m entry idle well fits.0 quiet.0 same) [
      | inl told ↦
          subst (λ lines. Follows P k m lines (entry ∷ history))
          (sym (whole ∙ ap (λ now. now ++ rest) told.0))
          (skips P k m entry rest history told.2
          (follows-on P keeps idle k next history well_next fits.1 parts.1 (same ∙ sym told.1)))
      | inr told ↦
          subst (λ lines. Follows P k m lines (entry ∷ history))
          (sym (whole ∙ ap (λ now. now ++ rest) told.1))
          (goes P k m entry told.0 rest history same told.2
          (follows-on P keeps idle (apply P k entry) next history well_next fits.1 parts.1
          (same-apply P k m entry same)))
    ]

-- ---- lines as they are written

pub same-or : {A : Type 0} → (f g : A → List A) (o : Option A) → ((a : A) → f a ≡ g a)
    → option_map_or f o [] ≡ option_map_or g o []
same-or f g None same = refl
same-or f g (Some a) same = same a

-- what stands behind written lines plays nothing, and isn't refused
record IsTail {C T Q X : Type 0} (P : Protocol C T Q X) (texts : List (List ℕ)) : Type 0 where
  nothing : (m : Meaning C Q X) → played P m texts ≡ []
  all : (m : Meaning C Q X) → is_played P m texts ≡ true

no-tail : {C T Q X : Type 0} → (P : Protocol C T Q X) → IsTail P []
no-tail P = record { nothing = λ m. refl; all = λ m. refl }

memory-tail : {C T Q X : Type 0} → (P : Protocol C T Q X) → IsTail P (memory_text ∷ [])
unfolding is_memory
memory-tail P = record { nothing = λ m. refl; all = λ m. refl }

read-plays : {C T Q X : Type 0} → (P : Protocol C T Q X) (m : Meaning C Q X) (lines : List Line)
    (tail : List (List ℕ))
    → All IsWritten lines
    → IsTail P tail
    → played P m (map line_text lines ++ tail) ≡ plays P m lines
read-plays P m [] tail all last = last.nothing m
read-plays P m (line ∷ lines) tail all last =
    let texts = map line_text lines ++ tail in
    let written = All-head IsWritten line lines all in
    otherwise (is_memory (line_text line)) []
    (option_map_or (λ entry. entry ∷ played P (apply P m entry) texts)
    (option_and_then (entry_at P m) (line_of (line_text line))) [])
    (written-other line written)
    ∙ ap (λ o. option_map_or (λ entry. entry ∷ played P (apply P m entry) texts) (option_and_then (entry_at P m) o) [])
    (line-read (line_text line) line written)
    ∙ same-or (λ entry. entry ∷ played P (apply P m entry) texts)
    (λ entry. entry ∷ plays P (apply P m entry) lines) (entry_at P m line)
    (λ entry. ap (λ later. entry ∷ later)
    (read-plays P (apply P m entry) lines tail (All-tail IsWritten line lines all) last))

true-through : {A : Type 0} → (f g : A → Bool) (o : Option A) → ((a : A) → g a ≡ true → f a ≡ true)
    → option_map_or g o false ≡ true
    → option_map_or f o false ≡ true
true-through f g None goes is = is
true-through f g (Some a) goes is = goes a is

read-all : {C T Q X : Type 0} → (P : Protocol C T Q X) (m : Meaning C Q X) (lines : List Line)
    (tail : List (List ℕ))
    → All IsWritten lines
    → IsTail P tail
    → have_entries P m lines ≡ true
    → is_played P m (map line_text lines ++ tail) ≡ true
read-all P m [] tail all last have = last.all m
read-all P m (line ∷ lines) tail all last have =
    let texts = map line_text lines ++ tail in
    let written = All-head IsWritten line lines all in
    otherwise (is_memory (line_text line)) (not (is_some_there texts))
    (option_map_or (λ entry. is_played P (apply P m entry) texts)
    (option_and_then (entry_at P m) (line_of (line_text line))) false)
    (written-other line written)
    ∙ ap (λ o. option_map_or (λ entry. is_played P (apply P m entry) texts) (option_and_then (entry_at P m) o) false)
    (line-read (line_text line) line written)
    ∙ true-through (λ entry. is_played P (apply P m entry) texts)
    (λ entry. have_entries P (apply P m entry) lines) (entry_at P m line)
    (λ entry. read-all P (apply P m entry) lines tail (All-tail IsWritten line lines all) last) have

plays-as : {C T Q X : Type 0} → (P : Protocol C T Q X) (m : Meaning C Q X) (lines : List Line) (tail : List (List ℕ))
    (history : List Entry)
    → All IsWritten lines
    → IsTail P tail
    → Follows P m m lines history
    → PlaysAs P m (map line_text lines ++ tail) history
plays-as P m lines tail history all last follows =
    let same = read-plays P m lines tail all last in
    record {
      all = read-all P m lines tail all last follows.all;
      means = ap (λ entries. but_told (fold (apply P) m entries)) same ∙ follows.means;
      handed = λ s. ap (λ entries. handed_of P s m entries) same ∙ follows.handed s;
    }

-- the lines of a history that doesn't end its record are played, with the line `memory` behind them or without it
pub play-again : {C T Q X : Type 0} → (P : Protocol C T Q X) (c : C) (wait : Bool) (history : List Entry) (b : Bool)
    → KeepsEnabled P
    → KeepsUntouched P
    → FitsAll P (begin c wait) history
    → has_ended P (begin c wait) history ≡ false
    → PlaysAs P (begin c wait)
    (lines_of (bytes_of (lines_from P (begin c wait) history) ++ (if b then memory_line else []))) history
play-again P c wait history false keeps idle fits none =
    let m = begin c wait in
    let lines = lines_from P m history in
    subst (λ texts. PlaysAs P m texts history)
    (append-nil (map line_text lines)
    ∙ sym (ap lines_of (append-nil (bytes_of lines)) ∙ written-cut lines))
    (plays-as P m lines [] history (from-written P m history) (no-tail P)
    (follows-on P keeps idle m m history (paused-well P c wait [] keeps) fits none refl))
play-again P c wait history true keeps idle fits none =
    let m = begin c wait in
    let lines = lines_from P m history in
    subst (λ texts. PlaysAs P m texts history) (sym (cut-memory lines))
    (plays-as P m lines (memory_text ∷ []) history (from-written P m history) (memory-tail P)
    (follows-on P keeps idle m m history (paused-well P c wait [] keeps) fits none refl))
