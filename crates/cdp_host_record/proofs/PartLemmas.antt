-- A record, when it is played, does what a first part of its history did.
use Rattle.std.proofs.Common.{◌≡◌, ℕ, List, [], ◌∷◌, ◌++◌, Bool, true, false, ◌||◌, not, if◌then◌else◌, refl, ap, sym, subst, ◌∙◌}
use Rattle.std.proofs.lemmas.Bool.{false≢true, or_from}
use Rattle.cdp_text.specs.Lines.{lines_of}
use Rattle.cdp_host_isolation.specs.Histories.{Entry, FitsAll, apply}
use Rattle.cdp_host_isolation.specs.Meanings.{Meaning, begin}
use Rattle.cdp_host_isolation.specs.Protocols.{Protocol}
use Rattle.cdp_host_isolation.specs.Stops.{KeepsEnabled}
use Rattle.cdp_host_record.specs.Records.{bytes_of, ends_record, has_ended, lines_at, lines_from, memory_line, recorded_from}
use Rattle.cdp_host_record.specs.Recordings.{Holds, is_going}
use Rattle.cdp_host_record.specs.Replays.{KeepsUntouched, PlaysAs, PlaysFirst}
use Rattle.cdp_host_record.specs.declared.state.RecordState.{RecordState}
use Rattle.cdp_host_record.specs.declared.state.RecordState.TheVariants.{Going, Ended, Lost}
use Rattle.cdp_host_record.proofs.GrowthLemmas.{recorded-plain}
use Rattle.cdp_host_record.proofs.ReplayLemmas.{play-again}

-- ---- the first entries of a history

fits-first : {C T Q X : Type 0} → (P : Protocol C T Q X) (m : Meaning C Q X) (first rest : List Entry)
    → FitsAll P m (first ++ rest)
    → FitsAll P m first
fits-first P m [] rest fits = tt
fits-first P m (entry ∷ first) rest fits = (fits.0, fits-first P (apply P m entry) first rest fits.1)

-- A history up to the first entry that ends the record: it has the same lines, and is all of it where there is none.
record Splits {C T Q X : Type 0} (P : Protocol C T Q X) (m : Meaning C Q X) (history : List Entry) : Type 0 where
  first : List Entry
  rest : List Entry
  whole : history ≡ first ++ rest
  none : has_ended P m first ≡ false
  lines : lines_from P m history ≡ lines_from P m first
  kept : has_ended P m history ≡ false → rest ≡ []

split-at : {C T Q X : Type 0} → (P : Protocol C T Q X) (m : Meaning C Q X) (entry : Entry) (history : List Entry)
    → Splits P (apply P m entry) history
    → (b : Bool)
    → ends_record P m entry ≡ b
    → Splits P m (entry ∷ history)
split-at P m entry history s true is = record {
  first = [];
  rest = entry ∷ history;
  whole = refl;
  none = refl;
  lines = ap (λ (b : Bool). if b then [] else lines_at P m entry ++ lines_from P (apply P m entry) history) is;
  kept = λ unended. absurd
      (false≢true (sym unended ∙ ap (λ (b : Bool). b || has_ended P (apply P m entry) history) is));
}
split-at P m entry history s false is = record {
  first = entry ∷ s.first;
  rest = s.rest;
  whole = ap (λ entries. entry ∷ entries) s.whole;
  none = or_from (ends_record P m entry) (has_ended P (apply P m entry) s.first) is s.none;
  lines =
      ap (λ later. if ends_record P m entry then [] else lines_at P m entry ++ later) s.lines;
  kept = λ unended. s.kept (sym (ap (λ (b : Bool). b || has_ended P (apply P m entry) history) is) ∙ unended);
}

splits : {C T Q X : Type 0} → (P : Protocol C T Q X) (m : Meaning C Q X) (history : List Entry) → Splits P m history
splits P m [] = record { first = []; rest = []; whole = refl; none = refl; lines = refl; kept = λ unended. refl }
splits P m (entry ∷ history) =
    split-at P m entry history (splits P (apply P m entry) history) (ends_record P m entry) refl

-- ---- a record

pub plays-first : {C T Q X : Type 0} → (P : Protocol C T Q X) (c : C) (wait : Bool) (history : List Entry)
    → KeepsEnabled P
    → KeepsUntouched P
    → FitsAll P (begin c wait) history
    → PlaysFirst P (begin c wait) history (has_ended P (begin c wait) history)
    (recorded_from P (begin c wait) history)
plays-first P c wait history keeps idle fits =
    let m = begin c wait in
    let s = splits P m history in
    record {
      first = s.first;
      rest = s.rest;
      whole = s.whole;
      kept = s.kept;
      plays = subst
          (λ lines. PlaysAs P m (lines_of (bytes_of lines ++ (if has_ended P m history then memory_line else []))) s.first)
          (sym s.lines)
          (play-again P c wait s.first (has_ended P m history) keeps idle
          (fits-first P m s.first s.rest (subst (FitsAll P m) s.whole fits)) s.none);
    }

-- and what a host holds as one
pub plays-held : {C T Q X : Type 0} → (P : Protocol C T Q X) (c : C) (wait : Bool) (history : List Entry)
    (state : RecordState) (bytes : List ℕ)
    → KeepsEnabled P
    → KeepsUntouched P
    → FitsAll P (begin c wait) history
    → Holds P (begin c wait) history state bytes
    → PlaysFirst P (begin c wait) history (not (is_going state)) bytes
plays-held P c wait history Going bytes keeps idle fits holds =
    let m = begin c wait in
    subst (PlaysFirst P m history false) (sym holds.0)
    (subst (λ (b : Bool). PlaysFirst P m history b (recorded_from P m history)) holds.1
    (plays-first P c wait history keeps idle fits))
plays-held P c wait history Ended bytes keeps idle fits holds =
    let m = begin c wait in
    subst (PlaysFirst P m history true) (sym holds.0)
    (subst (λ (b : Bool). PlaysFirst P m history b (recorded_from P m history)) holds.1
    (plays-first P c wait history keeps idle fits))
plays-held P c wait history Lost bytes keeps idle fits holds =
    let m = begin c wait in
    let more = holds.entry ∷ holds.rest in
    record {
      first = holds.first;
      rest = more;
      whole = holds.whole;
      kept = λ is. absurd (false≢true (sym is));
      plays = subst (λ held. PlaysAs P m (lines_of held) holds.first)
          (sym (holds.is ∙ ap (λ before. before ++ memory_line) (recorded-plain P m holds.first holds.none_ended)))
          (play-again P c wait holds.first true keeps idle
          (fits-first P m holds.first more (subst (FitsAll P m) holds.whole fits)) holds.none_ended);
    }
