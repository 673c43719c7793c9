-- The lines that are applied, and the one that is refused.
use Rattle.std.proofs.Common.{◌≡◌, inl, inr, ℕ, ◌+◌, Bool, true, false, if◌then◌else◌, List, [], ◌∷◌, length, Option, Some, None, refl, ap, sym, subst, ◌∙◌, arith}
use Rattle.std.specs.Option.{option_and_then, option_map_or}
use Rattle.std.proofs.lemmas.Option.{none-some, same_Some}
use Rattle.cdp_host_isolation.specs.Histories.{Entry, Attach as Attached, Tell as Told, Take as Taken, Detach as Detached, Ran, Shut as ShutDown}
use Rattle.cdp_host_isolation.specs.Meanings.{longest}
use Rattle.cdp_host_isolation.proofs.MadeLemmas.{longest-exact}
use Rattle.js_tree.specs.declared.script.Script.{Script}
use Rattle.js_semantics.specs.Run.{Run as Program}
use Rattle.cdp_host.specs.Histories.{Meaning, apply}
use Rattle.cdp_host.specs.Protocols.{protocol}
use Rattle.debug_host_commands.specs.Applied.{MayStand, IsEntry, AreEntries, MayNotFollow, RefusesAt}
use Rattle.debug_host_commands.specs.Journal.{behind_memory, entry_at, entry_of, entries, is_there, refused}
use Rattle.cdp_journal.specs.Lines.{Line, Attach, Tell, Take, Detach, Run, Shut, is_memory, line_of}
use Rattle.cdp_journal.proofs.LineLemmas.{choice-some, line-read, line-some}
use Rattle.cdp_journal.proofs.WrittenLemmas.{memory-is, other-text}
use Rattle.debug_host_commands.proofs.PlayLemmas.{memory-entry}

-- ---- one line

unchosen : (b : Bool) (entry : Entry) → (if b then Some entry else None) ≡ None → b ≡ false
unchosen true entry is = absurd (none-some entry (sym is))
unchosen false entry is = refl

-- the entry of a line is one with which it may stand there
may-stand : (scripts : List Script) (m : Meaning Program) (line : Line) (entry : Entry)
    → entry_at scripts m line ≡ Some entry
    → MayStand scripts m line entry
may-stand scripts m Attach entry is = sym (same_Some Attached entry is)
may-stand scripts m (Tell s text) entry is =
    let choice = choice-some (is_there m s) (Told s text) entry is in (choice.0, sym choice.1)
may-stand scripts m (Take s) entry is =
    let choice = choice-some (is_there m s) (Taken s) entry is in (choice.0, sym choice.1)
may-stand scripts m (Detach s) entry is =
    let choice = choice-some (is_there m s) (Detached s) entry is in (choice.0, sym choice.1)
may-stand scripts m (Run most moment) entry is =
    let n : ℕ = longest (protocol scripts) moment most m in
    (n, longest-exact (protocol scripts) moment most m, sym (same_Some (Ran n moment []) entry is))
may-stand scripts m Shut entry is = sym (same_Some ShutDown entry is)

-- and where it has none, it may stand with none
may-not-stand : (scripts : List Script) (m : Meaning Program) (line : Line) (entry : Entry)
    → entry_at scripts m line ≡ None
    → ¬ (MayStand scripts m line entry)
may-not-stand scripts m Attach entry none stands = none-some Attached (sym none)
may-not-stand scripts m (Tell s text) entry none stands =
    let e = unchosen (is_there m s) (Told s text) none in let t = stands.0 in cc
may-not-stand scripts m (Take s) entry none stands =
    let e = unchosen (is_there m s) (Taken s) none in let t = stands.0 in cc
may-not-stand scripts m (Detach s) entry none stands =
    let e = unchosen (is_there m s) (Detached s) none in let t = stands.0 in cc
may-not-stand scripts m (Run most moment) entry none stands =
    none-some (Ran (longest (protocol scripts) moment most m) moment []) (sym none)
may-not-stand scripts m Shut entry none stands = none-some ShutDown (sym none)

entry-some : (scripts : List Script) (m : Meaning Program) (text : List ℕ) (entry : Entry) (o : Option Line)
    → line_of text ≡ o
    → option_and_then (entry_at scripts m) o ≡ Some entry
    → IsEntry scripts m text entry
entry-some scripts m text entry None read is = absurd (none-some entry is)
entry-some scripts m text entry (Some line) read is =
    record { line = line; is = line-some text line read; stands = may-stand scripts m line entry is }

entry-none : (scripts : List Script) (m : Meaning Program) (text : List ℕ)
    → entry_of scripts m text ≡ None
    → (entry : Entry)
    → ¬ (IsEntry scripts m text entry)
entry-none scripts m text none entry is =
    may-not-stand scripts m is.line entry
    (ap (λ o. option_and_then (entry_at scripts m) o) (sym (line-read text is.line is.is)) ∙ none) is.stands

-- ---- all lines, where none is refused

-- the line `memory` has no entry, and nothing behind it has one
pub memory-last : (scripts : List Script) (m : Meaning Program) (text : List ℕ) (texts : List (List ℕ))
    → is_memory text ≡ true
    → entries scripts m (text ∷ texts) ≡ []
memory-last scripts m text texts is =
    ap (λ o. option_map_or (λ entry. entry ∷ entries scripts (apply scripts m entry) texts) o [])
    (memory-entry scripts m text is)

none-behind : (number : ℕ) (texts : List (List ℕ)) → behind_memory number texts ≡ None → texts ≡ []
none-behind number [] none = refl
none-behind number (text ∷ texts) none = absurd (none-some number (sym none))

applied-first : (n : ℕ) (scripts : List Script) (m : Meaning Program) (text : List ℕ) (texts : List (List ℕ))
    → ((entry : Entry)
    → refused scripts (n + 1) (apply scripts m entry) texts ≡ None
    → AreEntries scripts (apply scripts m entry) texts (entries scripts (apply scripts m entry) texts))
    → (o : Option Entry)
    → entry_of scripts m text ≡ o
    → option_map_or (λ entry. refused scripts (n + 1) (apply scripts m entry) texts) o (Some n) ≡ None
    → AreEntries scripts m (text ∷ texts)
    (option_map_or (λ entry. entry ∷ entries scripts (apply scripts m entry) texts) o [])
applied-first n scripts m text texts behind None is none = absurd (none-some n (sym none))
applied-first n scripts m text texts behind (Some entry) is none =
    (entry-some scripts m text entry (line_of text) refl is, behind entry none)

applied-text : (n : ℕ) (scripts : List Script) (m : Meaning Program) (text : List ℕ) (texts : List (List ℕ))
    → ((entry : Entry)
    → refused scripts (n + 1) (apply scripts m entry) texts ≡ None
    → AreEntries scripts (apply scripts m entry) texts (entries scripts (apply scripts m entry) texts))
    → (b : Bool)
    → is_memory text ≡ b
    → (if b then behind_memory (n + 1) texts
    else option_map_or (λ entry. refused scripts (n + 1) (apply scripts m entry) texts) (entry_of scripts m text)
    (Some n)) ≡ None
    → AreEntries scripts m (text ∷ texts) (entries scripts m (text ∷ texts))
applied-text n scripts m text texts behind true is none =
    subst (AreEntries scripts m (text ∷ texts)) (sym (memory-last scripts m text texts is))
    (memory-is text is, none-behind (n + 1) texts none)
applied-text n scripts m text texts behind false other none =
    applied-first n scripts m text texts behind (entry_of scripts m text) refl none

pub applied-all : (n : ℕ) (scripts : List Script) (m : Meaning Program) (texts : List (List ℕ))
    → refused scripts n m texts ≡ None
    → AreEntries scripts m texts (entries scripts m texts)
applied-all n scripts m [] none = tt
applied-all n scripts m (text ∷ texts) none =
    applied-text n scripts m text texts (λ entry. applied-all (n + 1) scripts (apply scripts m entry) texts)
    (is_memory text) refl none

-- ---- the first that is refused

follows-more : (scripts : List Script) (m : Meaning Program) (text : List ℕ) (entry : Entry) (before : List (List ℕ))
    (behind : List Entry) (last : List ℕ)
    → MayNotFollow scripts (apply scripts m entry) before behind last
    → MayNotFollow scripts m (text ∷ before) (entry ∷ behind) last
follows-more scripts m text entry before behind last (inl ends) =
    inl (text ∷ ends.0, ap (λ all. text ∷ all) ends.1)
follows-more scripts m text entry before behind last (inr other) = inr other

one-more : (n number : ℕ) (scripts : List Script) (m : Meaning Program) (text : List ℕ) (texts : List (List ℕ))
    (entry : Entry) (behind : List Entry)
    → IsEntry scripts m text entry
    → RefusesAt scripts (n + 1) (apply scripts m entry) texts behind number
    → RefusesAt scripts n m (text ∷ texts) (entry ∷ behind) number
one-more n number scripts m text texts entry behind is at = record {
  before = text ∷ at.before;
  text = at.text;
  behind = at.behind;
  parts = ap (λ all. text ∷ all) at.parts;
  numbered = let e : number ≡ n + 1 + length at.before = at.numbered in omega arith;
  applied = (is, at.applied);
  refused = follows-more scripts m text entry at.before behind at.text at.refused;
}

refused-first : (n number : ℕ) (scripts : List Script) (m : Meaning Program) (text : List ℕ) (texts : List (List ℕ))
    → ((entry : Entry)
    → refused scripts (n + 1) (apply scripts m entry) texts ≡ Some number
    → RefusesAt scripts (n + 1) (apply scripts m entry) texts (entries scripts (apply scripts m entry) texts)
    number)
    → is_memory text ≡ false
    → (o : Option Entry)
    → entry_of scripts m text ≡ o
    → option_map_or (λ entry. refused scripts (n + 1) (apply scripts m entry) texts) o (Some n) ≡ Some number
    → RefusesAt scripts n m (text ∷ texts)
    (option_map_or (λ entry. entry ∷ entries scripts (apply scripts m entry) texts) o []) number
refused-first n number scripts m text texts behind other None is some = record {
  before = [];
  text = text;
  behind = texts;
  parts = refl;
  numbered = let e : n ≡ number = same_Some n number some in omega arith;
  applied = tt;
  refused = inr (other-text text other, entry-none scripts m text is);
}
refused-first n number scripts m text texts behind other (Some entry) is some =
    one-more n number scripts m text texts entry (entries scripts (apply scripts m entry) texts)
    (entry-some scripts m text entry (line_of text) refl is) (behind entry some)

-- a line behind the line `memory`
refused-behind : (n number : ℕ) (scripts : List Script) (m : Meaning Program) (text : List ℕ) (texts : List (List ℕ))
    → is_memory text ≡ true
    → behind_memory (n + 1) texts ≡ Some number
    → RefusesAt scripts n m (text ∷ texts) [] number
refused-behind n number scripts m text [] is some = absurd (none-some number some)
refused-behind n number scripts m text (next ∷ texts) is some = record {
  before = text ∷ [];
  text = next;
  behind = texts;
  parts = refl;
  numbered = let e : n + 1 ≡ number = same_Some (n + 1) number some in omega arith;
  applied = (memory-is text is, refl);
  refused = inl ([], ap (λ last. last ∷ []) (memory-is text is));
}

refused-text : (n number : ℕ) (scripts : List Script) (m : Meaning Program) (text : List ℕ) (texts : List (List ℕ))
    → ((entry : Entry)
    → refused scripts (n + 1) (apply scripts m entry) texts ≡ Some number
    → RefusesAt scripts (n + 1) (apply scripts m entry) texts (entries scripts (apply scripts m entry) texts)
    number)
    → (b : Bool)
    → is_memory text ≡ b
    → (if b then behind_memory (n + 1) texts
    else option_map_or (λ entry. refused scripts (n + 1) (apply scripts m entry) texts) (entry_of scripts m text)
    (Some n)) ≡ Some number
    → RefusesAt scripts n m (text ∷ texts) (entries scripts m (text ∷ texts)) number
refused-text n number scripts m text texts behind true is some =
    subst (λ history. RefusesAt scripts n m (text ∷ texts) history number)
    (sym (memory-last scripts m text texts is)) (refused-behind n number scripts m text texts is some)
refused-text n number scripts m text texts behind false other some =
    refused-first n number scripts m text texts behind other (entry_of scripts m text) refl some

pub refused-one : (n number : ℕ) (scripts : List Script) (m : Meaning Program) (texts : List (List ℕ))
    → refused scripts n m texts ≡ Some number
    → RefusesAt scripts n m texts (entries scripts m texts) number
refused-one n number scripts m [] some = absurd (none-some number some)
refused-one n number scripts m (text ∷ texts) some =
    refused-text n number scripts m text texts
    (λ entry. refused-one (n + 1) number scripts (apply scripts m entry) texts) (is_memory text) refl some
