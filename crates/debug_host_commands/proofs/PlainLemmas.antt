-- Where a host's program goes, and what it prints, in the words of the run without a debugger.
use Rattle.std.proofs.Common.{◌≡◌, ℕ, zero, suc, ◌+◌, List, ◌++◌, drop, length, refl, ap, sym, ◌∙◌, arith}
use Rattle.std.proofs.Math.Seq.{drop-append_seam}
use Rattle.cdp_host_isolation.specs.Histories.{Entry, steps_of}
use Rattle.cdp_host_isolation.specs.Meanings as meanings
use Rattle.cdp_host_isolation.specs.Meanings.{after_run, after_steps}
use Rattle.cdp_host_isolation.specs.Protocols.{Protocol}
use Rattle.cdp_host_isolation.specs.Stops.{plain as plain_from}
use Rattle.cdp_host_isolation.proofs.StepLemmas.{after-suc}
use Rattle.cdp_host_isolation.proofs.StopLemmas.{entry-program}
use Rattle.js_tree.specs.declared.script.Script.{Script}
use Rattle.js_semantics.specs.Run.{Run}
use Rattle.js_semantics.specs.Laws.{IsPrefix}
use Rattle.cdp_host.specs.Histories.{Meaning, apply}
use Rattle.cdp_host.specs.Programs.{next, plain, printed_of}
use Rattle.cdp_host.specs.Protocols.{protocol}
use Rattle.cdp_host.specs.Rules.{printed_between}
use Rattle.cdp_host.proofs.ProgramLemmas.{next-prints, plain-next}
use Rattle.js_semantics.proofs.FollowLemmas.{prefix-trans, prefix-same}

-- ---- the program's way

-- steps from a plain run are those of the plain run
pub plain-as : (k made : ℕ) (scripts : List Script) (input : List (List ℕ))
    → plain_from (protocol scripts) k (plain made scripts input) ≡ plain (made + k) scripts input
plain-as zero made scripts input = let e : made ≡ made + 0 = omega arith in ap (λ n. plain n scripts input) e
plain-as (suc k) made scripts input =
    let e : suc (made + k) ≡ made + suc k = omega arith in
    ap (next scripts) (plain-as k made scripts input)
    ∙ plain-next (made + k) scripts input
    ∙ ap (λ n. plain n scripts input) e

-- the program goes its plain way, whatever an entry does
pub apply-plain : (scripts : List Script) (input : List (List ℕ)) (made : ℕ) (m : Meaning Run) (entry : Entry)
    → m.program ≡ plain made scripts input
    → (apply scripts m entry).program ≡ plain (made + steps_of entry) scripts input
apply-plain scripts input made m entry is =
    entry-program (protocol scripts) m entry
    ∙ ap (plain_from (protocol scripts) (steps_of entry)) is
    ∙ plain-as (steps_of entry) made scripts input

after-program : {C T Q X : Type 0}
    → (P : Protocol C T Q X) (moment n : ℕ) (m : meanings.Meaning C Q X)
    → (after_steps P moment n m).program ≡ plain_from P n m.program
after-program P moment zero m = refl
after-program P moment (suc n) m = ap (λ k. k.program) (after-suc P n moment m) ∙ ap P.next (after-program P moment n m)

run-program : {C T Q X : Type 0}
    → (P : Protocol C T Q X) (moment : ℕ) (gone : List ℕ) (n : ℕ) (m : meanings.Meaning C Q X)
    → (after_run P moment gone n m).program ≡ plain_from P n m.program
run-program P moment gone zero m = refl
run-program P moment gone (suc n) m = ap P.next (after-program P moment n m)

pub steps-plain : (scripts : List Script) (input : List (List ℕ)) (made moment n : ℕ) (m : Meaning Run)
    → m.program ≡ plain made scripts input
    → (after_steps (protocol scripts) moment n m).program ≡ plain (made + n) scripts input
steps-plain scripts input made moment n m is =
    after-program (protocol scripts) moment n m
    ∙ ap (plain_from (protocol scripts) n) is
    ∙ plain-as n made scripts input

-- ---- output

steps-grow : (n : ℕ) (scripts : List Script) (r : Run)
    → IsPrefix (printed_of r) (printed_of (plain_from (protocol scripts) n r))
steps-grow zero scripts r = prefix-same (printed_of r)
steps-grow (suc n) scripts r =
    let q : Run = plain_from (protocol scripts) n r in
    prefix-trans (printed_of r) (printed_of q) (printed_of (next scripts q)) (steps-grow n scripts r)
    (next-prints scripts q)

between : (before after : List (List ℕ)) → IsPrefix before after → before ++ drop (length before) after ≡ after
between before after part =
    ap (λ xs. before ++ drop (length before) xs) part.1
    ∙ ap (λ xs. before ++ xs) (drop-append_seam before part.0)
    ∙ sym part.1

-- what a run prints comes behind what was printed before
pub run-prints : (scripts : List Script) (moment : ℕ) (gone : List ℕ) (n : ℕ) (m : Meaning Run)
    → printed_of m.program ++ printed_between m.program
    (after_run (protocol scripts) moment gone n m).program ≡ printed_of (plain_from (protocol scripts) n m.program)
run-prints scripts moment gone n m =
    ap (λ r. printed_of m.program ++ printed_between m.program r) (run-program (protocol scripts) moment gone n m)
    ∙ between (printed_of m.program) (printed_of (plain_from (protocol scripts) n m.program))
    (steps-grow n scripts m.program)
