-- What a journal's replay writes, by the lines that are applied.
use Rattle.std.proofs.Common.{◌≡◌, ◌⊎◌, ℕ, List, Bool, Option, Some, None, refl, sym, inl, inr}
use Rattle.cdp_edge.specs.Outside.{gains, GainsPrefix, GainsLess}
use Rattle.cdp_text.specs.Lines.{lines_of}
use Rattle.js_tree.specs.declared.script.Script.{Script}
use Rattle.cdp_host.specs.Histories.{begin}
use Rattle.debug_host_commands.specs.Journal.{entries, refused}
use Rattle.debug_host_commands.specs.Played.{IsCut, end_of, journal_output}
use Rattle.debug_host_commands.specs.Replays.{AppliesUpTo, IsReplay, WritesLess, WritesPart, WritesReplay}
use Rattle.debug_host_commands.specs.declared.journal.ReplayEnd.{ReplayEnd}
use Rattle.debug_host_commands.specs.declared.journal.ReplayEnd.TheVariants as ends
use Rattle.debug_host_commands.proofs.AppliedLemmas.{applied-all, refused-one}
use Rattle.debug_host_commands.proofs.HeadlineLemmas.{headline-of}

-- ---- the replay

applies : (scripts : List Script) (input : List (List ℕ)) (wait : Bool) (texts : List (List ℕ)) (line : Option ℕ)
    → refused scripts 1 (begin scripts input wait) texts ≡ line
    → AppliesUpTo line scripts input wait texts (entries scripts (begin scripts input wait) texts)
applies scripts input wait texts None is = applied-all 1 scripts (begin scripts input wait) texts is
applies scripts input wait texts (Some number) is = refused-one 1 number scripts (begin scripts input wait) texts is

replays : (scripts : List Script) (input : List (List ℕ)) (wait : Bool) (journal : List ℕ) (line : Option ℕ)
    → refused scripts 1 (begin scripts input wait) (lines_of journal) ≡ line
    → IsReplay scripts input wait journal line (journal_output scripts (begin scripts input wait) (lines_of journal))
replays scripts input wait journal line is = record {
  history = entries scripts (begin scripts input wait) (lines_of journal);
  applied = applies scripts input wait (lines_of journal) line is;
  writes = refl;
  headline = headline-of (lines_of journal) scripts input wait;
  decided = sym is;
  only = refl;
}

-- ---- what is written of it

writes-whole : (scripts : List Script) (input : List (List ℕ)) (wait : Bool) (journal : List ℕ) (line : Option ℕ)
    (old new : List ℕ)
    → refused scripts 1 (begin scripts input wait) (lines_of journal) ≡ line
    → new ≡ gains old (journal_output scripts (begin scripts input wait) (lines_of journal))
    → WritesReplay scripts input wait journal line old new
writes-whole scripts input wait journal line old new is whole = record {
  output = journal_output scripts (begin scripts input wait) (lines_of journal);
  replay = replays scripts input wait journal line is;
  whole = whole;
}

pub writes-part : (scripts : List Script) (input : List (List ℕ)) (wait : Bool) (journal : List ℕ)
    (old new : List ℕ)
    → GainsPrefix old new (journal_output scripts (begin scripts input wait) (lines_of journal))
    → WritesPart scripts input wait journal old new
writes-part scripts input wait journal old new part = record {
  line = refused scripts 1 (begin scripts input wait) (lines_of journal);
  output = journal_output scripts (begin scripts input wait) (lines_of journal);
  replay = replays scripts input wait journal (refused scripts 1 (begin scripts input wait) (lines_of journal)) refl;
  part = part;
}

pub writes-less : (scripts : List Script) (input : List (List ℕ)) (wait : Bool) (journal : List ℕ)
    (old new : List ℕ)
    → GainsLess old new (journal_output scripts (begin scripts input wait) (lines_of journal))
    → WritesLess scripts input wait journal old new
writes-less scripts input wait journal old new less = record {
  line = refused scripts 1 (begin scripts input wait) (lines_of journal);
  output = journal_output scripts (begin scripts input wait) (lines_of journal);
  replay = replays scripts input wait journal (refused scripts 1 (begin scripts input wait) (lines_of journal)) refl;
  less = less;
}

-- ---- by its end

ended_by : (e : ReplayEnd) (o : Option ℕ) → ¬ (IsCut e) → IsCut e ⊎ (e ≡ end_of o) → e ≡ end_of o
ended_by e o uncut (inl cut) = absurd (uncut cut)
ended_by e o uncut (inr is) = is

wrote_by : (e : ReplayEnd) (old new : List ℕ) (bytes : List ℕ)
    → ¬ (IsCut e)
    → IsCut e ⊎ (new ≡ gains old bytes)
    → new ≡ gains old bytes
wrote_by e old new bytes uncut (inl cut) = absurd (uncut cut)
wrote_by e old new bytes uncut (inr is) = is

none_of : (o : Option ℕ) → ends.Done ≡ end_of o → o ≡ None
none_of None is = refl
none_of (Some n) is = cc

some_of : (o : Option ℕ) (number : ℕ) → ends.Refused number ≡ end_of o → o ≡ Some number
some_of None number is = cc
some_of (Some n) number is = cc

uncut-done : ¬ (IsCut ends.Done)
uncut-done (inl is) = cc
uncut-done (inr is) = cc

uncut-refused : (number : ℕ) → ¬ (IsCut (ends.Refused number))
uncut-refused number (inl is) = cc
uncut-refused number (inr is) = cc

-- what is known of the end of the lines, and of what was written by then
abbrev HasEnd : ReplayEnd → List Script → List (List ℕ) → Bool → List ℕ → Type 0
HasEnd e scripts input wait journal =
    IsCut e ⊎ (e ≡ end_of (refused scripts 1 (begin scripts input wait) (lines_of journal)))

abbrev HasOutput : ReplayEnd → List Script → List (List ℕ) → Bool → List ℕ → List ℕ → List ℕ → Type 0
HasOutput e scripts input wait journal old new =
    IsCut e ⊎ (new ≡ gains old (journal_output scripts (begin scripts input wait) (lines_of journal)))

writes-done : (scripts : List Script) (input : List (List ℕ)) (wait : Bool) (journal : List ℕ)
    (old new : List ℕ)
    → HasEnd ends.Done scripts input wait journal → HasOutput ends.Done scripts input wait journal old new
    → WritesReplay scripts input wait journal None old new
writes-done scripts input wait journal old new end output =
    let o = refused scripts 1 (begin scripts input wait) (lines_of journal) in
    writes-whole scripts input wait journal None old new (none_of o (ended_by ends.Done o uncut-done end))
    (wrote_by ends.Done old new _ uncut-done output)

writes-refused : (scripts : List Script) (input : List (List ℕ)) (wait : Bool) (journal : List ℕ) (line : ℕ)
    (old new : List ℕ)
    → HasEnd (ends.Refused line) scripts input wait journal
    → HasOutput (ends.Refused line) scripts input wait journal old new
    → WritesReplay scripts input wait journal (Some line) old new
writes-refused scripts input wait journal line old new end output =
    let o = refused scripts 1 (begin scripts input wait) (lines_of journal) in
    writes-whole scripts input wait journal (Some line) old new
    (some_of o line (ended_by (ends.Refused line) o (uncut-refused line) end))
    (wrote_by (ends.Refused line) old new _ (uncut-refused line) output)

pub done-writes : (e : ReplayEnd) (scripts : List Script) (input : List (List ℕ)) (wait : Bool) (journal : List ℕ)
    (old new : List ℕ)
    → HasEnd e scripts input wait journal → HasOutput e scripts input wait journal old new
    → e ≡ ends.Done → WritesReplay scripts input wait journal None old new
done-writes ends.Done scripts input wait journal old new end output is =
    writes-done scripts input wait journal old new end output
done-writes (ends.Refused line) scripts input wait journal old new end output is = cc
done-writes ends.WriteFault scripts input wait journal old new end output is = cc
done-writes ends.Memory scripts input wait journal old new end output is = cc

same-line : (n line : ℕ) → ends.Refused n ≡ ends.Refused line → n ≡ line
same-line n line is = cc

pub refused-writes : (e : ReplayEnd) (scripts : List Script) (input : List (List ℕ)) (wait : Bool) (journal : List ℕ)
    (old new : List ℕ)
    → HasEnd e scripts input wait journal → HasOutput e scripts input wait journal old new
    → (line : ℕ) → e ≡ ends.Refused line → WritesReplay scripts input wait journal (Some line) old new
refused-writes ends.Done scripts input wait journal old new end output line is = cc
refused-writes (ends.Refused n) scripts input wait journal old new end output line is =
    rw (← same-line n line is) (writes-refused scripts input wait journal n old new end output)
refused-writes ends.WriteFault scripts input wait journal old new end output line is = cc
refused-writes ends.Memory scripts input wait journal old new end output line is = cc
