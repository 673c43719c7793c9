-- A journal's lines, one after another.
use Rattle.std.proofs.Common.{◌≡◌, ℕ, ◌+◌, ◌<◌, List, [], ◌∷◌, ◌++◌, Bool, length, get_or, take, drop, map, if◌then◌else◌, Option, Some, None, refl, ap, sym, ◌∙◌, append_assoc, append-nil, false, true, arith}
use Rattle.std.proofs.lemmas.Grind.{common_steps}
use Rattle.std.proofs.lemmas.List.{take_more, take-append-drop, map-append}
use Rattle.std.specs.Option.{option_and_then, option_map_or}
use Rattle.cdp_edge.specs.Outside.{gains, GainsPrefix, GainsLess}
use Rattle.cdp_edge.proofs.Gains.{gains-append, gains-nil, GainsPrefix-behind, GainsLess-behind}
use Rattle.cdp_host_isolation.specs.Histories.{Entry}
use Rattle.js_tree.specs.declared.script.Script.{Script}
use Rattle.js_semantics.specs.Run.{Run as Program}
use Rattle.cdp_host.specs.Histories.{Meaning, apply, begin, whole}
use Rattle.cdp_host.specs.Hosts.{HostState, StandsFor}
use Rattle.cdp_host.proofs.HistoryLemmas.{longer}
use Rattle.cdp_journal.specs.Lines.{is_memory}
use Rattle.cdp_journal.proofs.WrittenLemmas.{memory-none}
use Rattle.debug_host_commands.specs.Journal.{behind_memory, entry_at, entry_of, refused}
use Rattle.debug_host_commands.specs.Output.{joined, output_text, output_at, output_bytes}
use Rattle.debug_host_commands.specs.Played.{Plays, line_output, journal_output}

pub joined-append : (xs ys : List (List ℕ)) → joined (xs ++ ys) ≡ joined xs ++ joined ys
joined-append [] ys = refl
joined-append (x ∷ xs) ys = ap (λ rest. x ++ rest) (joined-append xs ys) ∙ sym (append_assoc x (joined xs) (joined ys))

-- one text more
pub joined-more : {A : Type 0} (f : A → List ℕ) (xs : List A) (i : ℕ) (x : A) → i < length xs → x ≡ get_or xs i x
    → joined (map f (take (i + 1) xs)) ≡ joined (map f (take i xs)) ++ f x
joined-more f xs i x within is = let t = take_more xs i x within in
    rw (t, ← is) (grind (arith, common_steps, joined-append))

-- a text among all
pub joined-at : {A : Type 0} (f : A → List ℕ) (xs : List A) (i : ℕ) (x : A) → i < length xs → x ≡ get_or xs i x
    → joined (map f xs) ≡ joined (map f (take i xs)) ++ f x ++ joined (map f (drop (i + 1) xs))
joined-at f xs i x within is =
    let whole : joined (map f xs) ≡ joined (map f (take (i + 1) xs ++ drop (i + 1) xs)) = ap (λ all. joined (map f all))
    (sym (take-append-drop (i + 1) xs)) in
    whole ∙ grind (arith, common_steps, joined-append, joined-more f xs i x within is)

-- ---- a line and those behind it

-- what is written so far, and what is left to write
pub record Written (old now : List ℕ) (all left : List ℕ) : Type 0 where
  pub done : List ℕ
  pub is : now ≡ gains old done
  pub parts : all ≡ done ++ left

pub Written-next : (old now new : List ℕ) (all left bytes rest : List ℕ) → Written old now all left
    → left ≡ bytes ++ rest → new ≡ gains now bytes → Written old new all rest
Written-next old now new all left bytes rest before next gained = record {
  done = before.done ++ bytes;
  is = gained ∙ ap (λ o. gains o bytes) before.is ∙ gains-append old before.done bytes;
  parts = before.parts ∙ ap (λ l. before.done ++ l) next ∙ sym (append_assoc before.done bytes rest);
}

pub Written-part : (old now new : List ℕ) (all left bytes rest : List ℕ) → Written old now all left
    → left ≡ bytes ++ rest → GainsPrefix now new bytes → GainsPrefix old new all
Written-part old now new all left bytes rest before next part =
    GainsPrefix-behind old now new before.done bytes rest all before.is
    (before.parts ∙ ap (λ l. before.done ++ l) next ∙ sym (append_assoc before.done bytes rest)) part

pub Written-less : (old now new : List ℕ) (all left bytes rest : List ℕ) → Written old now all left
    → left ≡ bytes ++ rest → GainsLess now new bytes → GainsLess old new all
Written-less old now new all left bytes rest before next less =
    GainsLess-behind old now new before.done bytes rest all before.is
    (before.parts ∙ ap (λ l. before.done ++ l) next ∙ sym (append_assoc before.done bytes rest)) less

pub Written-all : (old now : List ℕ) (all left : List ℕ)
    → Written old now all left
    → left ≡ []
    → now ≡ gains old all
Written-all old now all left before nothing =
    let e : all ≡ before.done = before.parts ∙ ap (λ l. before.done ++ l) nothing ∙ append-nil before.done in
    before.is ∙ ap (λ bytes. gains old bytes) (sym e)

-- what the lines write is what the first writes, and then the others
journal_output-line : (scripts : List Script) (m : Meaning Program) (line : List ℕ) (lines : List (List ℕ))
    (o : Option Entry)
    → entry_of scripts m line ≡ o
    → journal_output scripts m (line ∷ lines) ≡ line_output scripts m o ++ option_map_or
    (λ entry. journal_output scripts (apply scripts m entry) lines) o []
journal_output-line scripts m line lines None is = rw is refl
journal_output-line scripts m line lines (Some entry) is =
    rw is (ap joined (map-append output_text (output_at scripts m entry) _)
    ∙ joined-append (map output_text (output_at scripts m entry)) _)

-- the lines that are left begin with the one that was cut off
left-output : (scripts : List Script) (m : Meaning Program) (rest : List (List ℕ)) (line : List ℕ)
    (lines : List (List ℕ))
    → rest ≡ line ∷ lines
    → journal_output scripts m rest ≡ line_output scripts m (entry_of scripts m line) ++ option_map_or
    (λ entry. journal_output scripts (apply scripts m entry) lines) (entry_of scripts m line) []
left-output scripts m rest line lines is =
    ap (λ all. journal_output scripts m all) is
    ∙ journal_output-line scripts m line lines (entry_of scripts m line) refl

-- ---- the first line that is refused

-- a line that isn't `memory` is refused, or one behind it is
refused-line : (scripts : List Script) (number : ℕ) (m : Meaning Program) (line : List ℕ) (lines : List (List ℕ))
    → is_memory line ≡ false
    → refused scripts number m (line ∷ lines)
    ≡ option_map_or (λ entry. refused scripts (number + 1) (apply scripts m entry) lines) (entry_of scripts m line)
    (Some number)
refused-line scripts number m line lines other =
    ap (λ (b : Bool). if b then behind_memory (number + 1) lines
    else option_map_or (λ entry. refused scripts (number + 1) (apply scripts m entry) lines) (entry_of scripts m line)
    (Some number)) other

-- behind the line `memory` the next one is
refused-memory : (scripts : List Script) (number : ℕ) (m : Meaning Program) (line : List ℕ) (lines : List (List ℕ))
    → is_memory line ≡ true
    → refused scripts number m (line ∷ lines) ≡ behind_memory (number + 1) lines
refused-memory scripts number m line lines is =
    ap (λ (b : Bool). if b then behind_memory (number + 1) lines
    else option_map_or (λ entry. refused scripts (number + 1) (apply scripts m entry) lines) (entry_of scripts m line)
    (Some number)) is

-- the line `memory` has no entry
pub memory-entry : (scripts : List Script) (m : Meaning Program) (line : List ℕ)
    → is_memory line ≡ true
    → entry_of scripts m line ≡ None
memory-entry scripts m line is = ap (λ o. option_and_then (entry_at scripts m) o) (memory-none line is)

-- ---- how far a replay came

-- A host stands for the history of the lines so far; what was written and what the lines that are left write make up
-- all, and the first line that is refused is one of those that are left.
pub record IsBehind (scripts : List Script) (input : List (List ℕ)) (wait : Bool) (all rest : List (List ℕ))
    (number : ℕ) (host : HostState) (before now : List ℕ) : Type 0 where
  pub history : List Entry
  pub stands : StandsFor scripts input wait host history
  pub works : host.broken ≡ false
  pub refused : refused scripts number (whole scripts input wait history) rest ≡ refused scripts 1
      (begin scripts input wait) all
  pub written : Written before now (journal_output scripts (begin scripts input wait) all)
      (journal_output scripts (whole scripts input wait history) rest)

pub behind-start : (scripts : List Script) (input : List (List ℕ)) (wait : Bool) (all : List (List ℕ))
    (host : HostState) (before : List ℕ)
    → StandsFor scripts input wait host [] → host.broken ≡ false → IsBehind scripts input wait all all 1 host before before
behind-start scripts input wait all host before stands works = record {
  history = [];
  stands = stands;
  works = works;
  refused = refl;
  written = record { done = []; is = sym (gains-nil before); parts = refl };
}

behind-by : (scripts : List Script) (input : List (List ℕ)) (wait : Bool) (all rest : List (List ℕ)) (number : ℕ)
    (host new : HostState) (before now next : List ℕ) (line : List ℕ) (lines : List (List ℕ))
    → rest ≡ line ∷ lines
    → is_memory line ≡ false
    → (b : IsBehind scripts input wait all rest number host before now)
    → (o : Option Entry)
    → entry_of scripts (whole scripts input wait b.history) line ≡ o
    → Plays scripts input wait b.history o new now next
    → IsBehind scripts input wait all lines (number + 1) new before next
behind-by scripts input wait all rest number host new before now next line lines is other b None none plays =
    absurd plays
behind-by scripts input wait all rest number host new before now next line lines is other b (Some entry) some plays =
    let m : Meaning Program = whole scripts input wait b.history in
    let more : whole scripts input wait (b.history ++ entry ∷ [])
    ≡ apply scripts m entry = longer scripts input wait b.history entry in
    record {
      history = b.history ++ entry ∷ [];
      stands = plays.1.stands;
      works = plays.1.works;
      refused = ap (λ k. refused scripts (number + 1) k lines) more
          ∙ ap (λ o. option_map_or (λ e. refused scripts (number + 1) (apply scripts m e) lines) o (Some number))
          (sym some)
          ∙ sym (refused-line scripts number m line lines other)
          ∙ ap (λ xs. refused scripts number m xs) (sym is)
          ∙ b.refused;
      written =
          Written-next before now next _ _ (output_bytes (output_at scripts m entry))
          (journal_output scripts (whole scripts input wait (b.history ++ entry ∷ [])) lines) b.written
          (ap (λ xs. journal_output scripts m xs) is ∙ journal_output-line scripts m line lines (Some entry) some
          ∙ ap (λ k. output_bytes (output_at scripts m entry) ++ journal_output scripts k lines) (sym more)) plays.0;
    }

-- a line was played
pub behind-next : (scripts : List Script) (input : List (List ℕ)) (wait : Bool) (all rest : List (List ℕ)) (number : ℕ)
    (host new : HostState) (before now next : List ℕ) (line : List ℕ) (lines : List (List ℕ))
    → rest ≡ line ∷ lines → is_memory line ≡ false → IsBehind scripts input wait all rest number host before now
    → ((s : List Script) (i : List (List ℕ)) (w : Bool) (h : List Entry)
    → StandsFor s i w host h
    → Plays s i w h (entry_of s (whole s i w h) line) new now next)
    → IsBehind scripts input wait all lines (number + 1) new before next
behind-next scripts input wait all rest number host new before now next line lines is other b plays =
    behind-by scripts input wait all rest number host new before now next line lines is other b
    (entry_of scripts (whole scripts input wait b.history) line) refl (plays scripts input wait b.history b.stands)

-- a first part of what the line writes was written
pub behind-part : (scripts : List Script) (input : List (List ℕ)) (wait : Bool) (all rest : List (List ℕ)) (number : ℕ)
    (host : HostState) (before now next : List ℕ) (line : List ℕ) (lines : List (List ℕ))
    → rest ≡ line ∷ lines → IsBehind scripts input wait all rest number host before now
    → ((s : List Script) (i : List (List ℕ)) (w : Bool) (h : List Entry)
    → StandsFor s i w host h
    → GainsPrefix now next (line_output s (whole s i w h) (entry_of s (whole s i w h) line)))
    → GainsPrefix before next (journal_output scripts (begin scripts input wait) all)
behind-part scripts input wait all rest number host before now next line lines is b part =
    Written-part before now next _ _ _ _ b.written
    (left-output scripts (whole scripts input wait b.history) rest line lines is)
    (part scripts input wait b.history b.stands)

pub behind-less : (scripts : List Script) (input : List (List ℕ)) (wait : Bool) (all rest : List (List ℕ)) (number : ℕ)
    (host : HostState) (before now next : List ℕ) (line : List ℕ) (lines : List (List ℕ))
    → rest ≡ line ∷ lines → IsBehind scripts input wait all rest number host before now
    → ((s : List Script) (i : List (List ℕ)) (w : Bool) (h : List Entry)
    → StandsFor s i w host h
    → GainsLess now next (line_output s (whole s i w h) (entry_of s (whole s i w h) line)))
    → GainsLess before next (journal_output scripts (begin scripts input wait) all)
behind-less scripts input wait all rest number host before now next line lines is b less =
    Written-less before now next _ _ _ _ b.written
    (left-output scripts (whole scripts input wait b.history) rest line lines is)
    (less scripts input wait b.history b.stands)

-- the line is refused
pub behind-refused : (scripts : List Script) (input : List (List ℕ)) (wait : Bool) (all rest : List (List ℕ))
    (number : ℕ) (host : HostState) (before now : List ℕ) (line : List ℕ) (lines : List (List ℕ))
    → rest ≡ line ∷ lines → is_memory line ≡ false → IsBehind scripts input wait all rest number host before now
    → ((s : List Script) (i : List (List ℕ)) (w : Bool) (h : List Entry)
    → StandsFor s i w host h
    → entry_of s (whole s i w h) line ≡ None)
    → refused scripts 1 (begin scripts input wait) all ≡ Some number
behind-refused scripts input wait all rest number host before now line lines is other b none =
    let m : Meaning Program = whole scripts input wait b.history in
    sym b.refused ∙ ap (λ xs. refused scripts number m xs) is
    ∙ refused-line scripts number m line lines other
    ∙ ap (λ o. option_map_or (λ e. refused scripts (number + 1) (apply scripts m e) lines) o (Some number))
    (none scripts input wait b.history b.stands)

-- and then all is written
pub behind-refused-whole : (scripts : List Script) (input : List (List ℕ)) (wait : Bool) (all rest : List (List ℕ))
    (number : ℕ) (host : HostState) (before now : List ℕ) (line : List ℕ) (lines : List (List ℕ))
    → rest ≡ line ∷ lines → IsBehind scripts input wait all rest number host before now
    → ((s : List Script) (i : List (List ℕ)) (w : Bool) (h : List Entry)
    → StandsFor s i w host h
    → entry_of s (whole s i w h) line ≡ None)
    → now ≡ gains before (journal_output scripts (begin scripts input wait) all)
behind-refused-whole scripts input wait all rest number host before now line lines is b none =
    let m : Meaning Program = whole scripts input wait b.history in
    Written-all before now _ (journal_output scripts m rest) b.written
    (left-output scripts m rest line lines is
    ∙ ap (λ o. line_output scripts m o ++ option_map_or (λ e. journal_output scripts (apply scripts m e) lines)
    o [])
    (none scripts input wait b.history b.stands))

-- the line is `memory`
pub behind-memory : (scripts : List Script) (input : List (List ℕ)) (wait : Bool) (all rest : List (List ℕ))
    (number : ℕ) (host : HostState) (before now : List ℕ) (line : List ℕ) (lines : List (List ℕ))
    → rest ≡ line ∷ lines → is_memory line ≡ true → IsBehind scripts input wait all rest number host before now
    → refused scripts 1 (begin scripts input wait) all ≡ behind_memory (number + 1) lines
behind-memory scripts input wait all rest number host before now line lines is memory b =
    let m : Meaning Program = whole scripts input wait b.history in
    sym b.refused ∙ ap (λ xs. refused scripts number m xs) is ∙ refused-memory scripts number m line lines memory

-- and then all is written
pub behind-memory-whole : (scripts : List Script) (input : List (List ℕ)) (wait : Bool) (all rest : List (List ℕ))
    (number : ℕ) (host : HostState) (before now : List ℕ) (line : List ℕ) (lines : List (List ℕ))
    → rest ≡ line ∷ lines → is_memory line ≡ true → IsBehind scripts input wait all rest number host before now
    → now ≡ gains before (journal_output scripts (begin scripts input wait) all)
behind-memory-whole scripts input wait all rest number host before now line lines is memory b =
    behind-refused-whole scripts input wait all rest number host before now line lines is b
    (λ s i w h stood. memory-entry s (whole s i w h) line memory)

-- no line is left
pub behind-done : (scripts : List Script) (input : List (List ℕ)) (wait : Bool) (all rest : List (List ℕ)) (number : ℕ)
    (host : HostState) (before now : List ℕ)
    → rest ≡ []
    → IsBehind scripts input wait all rest number host before now
    → refused scripts 1 (begin scripts input wait) all ≡ None
behind-done scripts input wait all rest number host before now is b =
    sym b.refused ∙ ap (λ xs. refused scripts number (whole scripts input wait b.history) xs) is

pub behind-done-whole : (scripts : List Script) (input : List (List ℕ)) (wait : Bool) (all rest : List (List ℕ))
    (number : ℕ) (host : HostState) (before now : List ℕ)
    → rest ≡ []
    → IsBehind scripts input wait all rest number host before now
    → now ≡ gains before (journal_output scripts (begin scripts input wait) all)
behind-done-whole scripts input wait all rest number host before now is b =
    Written-all before now _ _ b.written (ap (λ xs. journal_output scripts (whole scripts input wait b.history) xs) is)

-- what was written is a first part of all
pub behind-first : (scripts : List Script) (input : List (List ℕ)) (wait : Bool) (all rest : List (List ℕ)) (number : ℕ)
    (host : HostState) (before now : List ℕ)
    → IsBehind scripts input wait all rest number host before now
    → GainsPrefix before now (journal_output scripts (begin scripts input wait) all)
behind-first scripts input wait all rest number host before now b =
    (b.written.done, journal_output scripts (whole scripts input wait b.history) rest, b.written.parts, b.written.is)
