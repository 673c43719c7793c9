-- Hosts and histories: one entry behind others.
use Rattle.std.proofs.Common.{◌≡◌, ℕ, zero, List, [], ◌∷◌, ◌++◌, Bool, true, false, refl, ap, sym, subst, ◌∙◌}
use Rattle.cdp_host_isolation.specs.Histories.{Entry, FitsEntry, steps_of}
use Rattle.cdp_host_isolation.specs.Standing.{BrokenAs, IsHeld, LeavesAs, StandsAs}
use Rattle.cdp_host_isolation.proofs.LongerLemmas.{call-program, fits-more, whole-more}
use Rattle.cdp_host_isolation.proofs.StandingLemmas.{stands-more}
use Rattle.js_tree.specs.declared.script.Script.{Script}
use Rattle.js_semantics.specs.Run.{Run}
use Rattle.cdp_host_seats.specs.declared.losses.SessionLost.{SessionLost}
use Rattle.cdp_host.specs.Histories.{Meaning, apply, begin, whole}
use Rattle.cdp_host.specs.Hosts.{HostState, Leaves, StandsFor, meaning_with}
use Rattle.cdp_host.specs.Programs.{printed_of, start}
use Rattle.cdp_host.specs.Protocols.{protocol}
use Rattle.cdp_host.proofs.ProgramLemmas.{start-prints}

-- a history with one more entry means what that entry makes of it
pub longer : (scripts : List Script) (input : List (List ℕ)) (wait : Bool) (history : List Entry) (entry : Entry)
    → whole scripts input wait (history ++ entry ∷ []) ≡ apply scripts (whole scripts input wait history) entry
longer scripts input wait history entry = whole-more (protocol scripts) (start scripts input) wait history entry

-- where it begins
pub stands-start : (scripts : List Script) (input : List (List ℕ)) (wait : Bool) (host : HostState)
    → host.scripts ≡ scripts
    → host.broken ≡ false
    → meaning_with host [] ≡ begin scripts input wait → StandsFor scripts input wait host []
stands-start scripts input wait host same works is = record {
  runs = same;
  fits = tt;
  means = λ _.
      let here : meaning_with host (printed_of (start scripts input)) ≡ begin scripts input wait = ap
      (meaning_with host) (start-prints scripts input)
      ∙ is in
      let P : Meaning Run → Type 0 = λ m. StandsAs m (begin scripts input wait) in
      subst P (sym here) (record { is = refl; all_there = λ paused. refl });
  lost = λ fails. absurd cc;
}

-- a host that works, behind an entry that leads from what it stands for to what it is then
pub stands-behind : (scripts : List Script) (input : List (List ℕ)) (wait : Bool) (old new : HostState)
    (history : List Entry) (entry : Entry)
    → StandsFor scripts input wait old history → new.scripts ≡ old.scripts → new.broken ≡ false
    → FitsEntry (protocol scripts) (whole scripts input wait history) entry
    → StandsAs (meaning_with new (printed_of (apply scripts (whole scripts input wait history) entry).program))
    (apply scripts (whole scripts input wait history) entry)
    → StandsFor scripts input wait new (history ++ entry ∷ [])
stands-behind scripts input wait old new history entry stood same works fit stands =
    let more = longer scripts input wait history entry in
    let P : Meaning Run → Type 0 = λ m. StandsAs (meaning_with new (printed_of m.program)) m in
    record {
      runs = same ∙ stood.runs;
      fits = fits-more (protocol scripts) (begin scripts input wait) history entry stood.fits fit;
      means = λ _. subst P (sym more) stands;
      lost = λ fails. absurd cc;
    }

-- the same of an entry that makes no steps
pub stands-call : (scripts : List Script) (input : List (List ℕ)) (wait : Bool) (old new : HostState)
    (history : List Entry) (entry : Entry)
    → StandsFor scripts input wait old history
    → steps_of entry ≡ zero
    → FitsEntry (protocol scripts) (whole scripts input wait history) entry
    → IsHeld old.meaning entry
    → Leaves old entry new
    → old.broken ≡ false
    → StandsFor scripts input wait new (history ++ entry ∷ [])
stands-call scripts input wait old new history entry stood none fit held leaves works =
    let m : Meaning Run = whole scripts input wait history in
    let taken : List (List ℕ) = printed_of m.program in
    let before = stood.means works in
    let same : printed_of (apply scripts m entry).program ≡ taken = ap printed_of
    (call-program (protocol scripts) m entry none) in
    let P : List Script
    → Type 0 = λ ss. LeavesAs (protocol ss) (meaning_with old taken) entry (meaning_with new taken) in
    let Q : List (List ℕ) → Type 0 = λ texts. StandsAs (meaning_with new texts) (apply scripts m entry) in
    stands-behind scripts input wait old new history entry stood leaves.runs (leaves.works ∙ works) fit
    (subst Q (sym same)
    (stands-more (protocol scripts) (meaning_with old taken) m entry (meaning_with new taken) before held
    (subst P stood.runs (leaves.means taken before.all_there))))

-- a broken host, behind an entry that leaves its seats
pub stands-broken : (scripts : List Script) (input : List (List ℕ)) (wait : Bool) (old new : HostState)
    (history : List Entry) (entry : Entry)
    → StandsFor scripts input wait old history → new.scripts ≡ old.scripts → new.broken ≡ true
    → FitsEntry (protocol scripts) (whole scripts input wait history) entry
    → BrokenAs new.meaning.seats (apply scripts (whole scripts input wait history) entry).seats
    → StandsFor scripts input wait new (history ++ entry ∷ [])
stands-broken scripts input wait old new history entry stood same fails fit left =
    let more = longer scripts input wait history entry in
    let P : Meaning Run → Type 0 = λ m. BrokenAs new.meaning.seats m.seats in
    record {
      runs = same ∙ stood.runs;
      fits = fits-more (protocol scripts) (begin scripts input wait) history entry stood.fits fit;
      means = λ works. absurd cc;
      lost = λ _. subst P (sym more) left;
    }

-- what it has to hand out doesn't matter
pub stands-handed : (scripts : List Script) (input : List (List ℕ)) (wait : Bool) (host : HostState)
    (history : List Entry) (losses : List SessionLost)
    → StandsFor scripts input wait host history → StandsFor scripts input wait (record host { fallen = losses }) history
stands-handed scripts input wait host history losses stood = record {
  runs = stood.runs;
  fits = stood.fits;
  means = stood.means;
  lost = stood.lost;
}
