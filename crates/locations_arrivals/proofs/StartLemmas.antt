-- Scripts belong to their sources before the first step.
use Rattle.std.proofs.Common.{◌≡◌, ℕ, zero, suc, ◌+◌, ◌<◌, List, [], ◌∷◌, Option, Some, None, length, refl, sym, ap, subst, ◌∙◌, inl, inr, arith}
use Rattle.std.specs.Prelude.{slice_index_or}
use Rattle.std.specs.List.{Contains}
use Rattle.std.proofs.lemmas.List.{get_or_default}
use Rattle.js_tree.specs.declared.script.Script.{Script}
use Rattle.js_heap.specs.declared.value.Addr.{Addr}
use Rattle.js_heap.specs.declared.value.Addr.TheVariants.{Base}
use Rattle.js_heap.specs.BuiltIns.{script_scope, first_literal}
use Rattle.js_semantics.specs.declared.form.Source.{Source}
use Rattle.js_semantics.specs.declared.form.Source.TheVariants.{Script as script_source}
use Rattle.js_semantics.specs.declared.form.Mark.{Mark}
use Rattle.js_semantics.specs.declared.form.Form.{Form}
use Rattle.js_semantics.specs.declared.form.Form.TheVariants.{Sequence as sequence, Enter as enter, Return as return_, Function as function, Method as method, Literal as literal}
use Rattle.js_semantics.specs.Terms.{Term, done, standing, part, Terms, end, more}
use Rattle.js_semantics.specs.State.{State, StepTold, spot_of}
use Rattle.js_semantics.specs.Makers.{LoweringContext, MadeStatements}
use Rattle.js_semantics.specs.Sources.{statements_source, term_of_script, terms_of_scripts}
use Rattle.js_semantics.specs.Run.{literals, literals_of, with_literals, all_with_literals, placed_scripts, program_from, program_of, first_state, start as start_of, plain as plain_run, Run, running, over}
use Rattle.js_semantics.specs.Frames.{active, at}
use Rattle.locations.specs.declared.spot.SpotKind.TheVariants as kinds
use Rattle.locations.specs.declared.marks.Marked.{Marked}
use Rattle.locations.specs.Marks.{Marks}
use Rattle.locations.specs.Locations.{script_marks, break_locations}
use Rattle.locations.proofs.CoverLemmas.{mark_found}
use Rattle.locations_arrivals.specs.Belonging.{Returns, FirstReturns, Closes, FormBelongs, Belongs, AllBelong, MarkedSources, behind_step, top_marks, sources_of, ProgramBelongs, AllWait, RunStands}
use Rattle.locations_arrivals.specs.Arrivals.{ScriptsAreNumbered, RunsIn, Arrives, RunArrives}
use Rattle.locations_arrivals.proofs.StrengthLemmas.{mark-located}
use Rattle.locations_arrivals.proofs.MakerLemmas.{AllMarks}
use Rattle.locations_arrivals.proofs.TreeLemmas.{statements-fit}
use Rattle.locations_arrivals.proofs.RunLemmas.{RunStandsBehind, steps-stand, start-stands}
use Rattle.locations_arrivals.proofs.ActiveLemmas.{ActiveStands, running-active, top-source, arrival-marked, debugger-marked, frame-runs}

-- ---- the cells of literals in their places

mutual
  returns-placed : (address : ℕ → Addr) (n : ℕ) (t : Term) → Returns t → Returns (with_literals address n t)
  returns-placed address n (done v) h = absurd h
  returns-placed address n (standing v place) h = absurd h
  returns-placed address n (part return_ now later) h = tt
  returns-placed address n (part (enter node) now end) h = absurd h
  returns-placed address n (part (enter node) now (more t ts)) h =
      returns-placed address (n + length (literals_of now)) t h
  returns-placed address n (part sequence end later) h = absurd h
  returns-placed address n (part sequence (more t ts) later) h = returns-placed address n t h
  returns-placed address n (part f now later) h = absurd h

first-placed : (address : ℕ → Addr) (n : ℕ) (ts : Terms)
    → FirstReturns ts
    → FirstReturns (all_with_literals address n ts)
first-placed address n end h = absurd h
first-placed address n (more t ts) h = returns-placed address n t h

closes-placed : (P : Marked → Type 0) (address : ℕ → Addr) (n node : ℕ) (ts : Terms)
    → Closes P node ts
    → Closes P node (all_with_literals address n ts)
closes-placed P address n node ts (inl r) = inl (first-placed address n ts r)
closes-placed P address n node ts (inr m) = inr m

form-placed : (P : Marked → Type 0) (address : ℕ → Addr) (n : ℕ) (f : Form) (later : Terms)
    → FormBelongs P f later
    → FormBelongs P f (all_with_literals address n later)
form-placed P address n (function f) later h = closes-placed P address n f.node later h
form-placed P address n (method f) later h = closes-placed P address n f.node later h
form-placed P address n f later h = h

mutual
  placed-belongs : (P : Marked → Type 0) (address : ℕ → Addr) (n : ℕ) (t : Term)
      → Belongs P t
      → Belongs P (with_literals address n t)
  placed-belongs P address n (done v) h = tt
  placed-belongs P address n (standing v place) h = h
  placed-belongs P address n (part (literal us) now later) h = tt
  placed-belongs P address n (part f now later) h = (
    form-placed P address (n + length (literals_of now)) f later h.0,
    placed-belong P address n now h.1,
    placed-belong P address (n + length (literals_of now)) later h.2,
  )

  pub placed-belong : (P : Marked → Type 0) (address : ℕ → Addr) (n : ℕ) (ts : Terms)
      → AllBelong P ts
      → AllBelong P (all_with_literals address n ts)
  placed-belong P address n end h = tt
  placed-belong P address n (more t ts) h =
      (placed-belongs P address n t h.0, placed-belong P address (n + length (literals t)) ts h.1)

-- ---- numbers of scripts

-- the scripts' sources, and the marks of each
abbrev known : List Script → MarkedSources
known scripts = record {
  runs = λ source. (script : Script) × Contains scripts script × (source ≡ script_source script.number);
  marks =
      λ source m. (script : Script)
      → Contains scripts script
      → source ≡ script_source script.number
      → Contains (script_marks script) m;
  raises = ⊥;
}

pub number-at : (n : ℕ) (ss : List Script) (i : ℕ) (other : Script)
    → ScriptsAreNumbered n ss
    → i < length ss
    → (slice_index_or ss i other).number ≡ n + i
number-at n [] i other h l = absurd (omega (arith, l))
number-at n (s ∷ ss) zero other h l = omega (arith, h.0)
number-at n (s ∷ ss) (suc i) other h l =
    let k : (slice_index_or ss i other).number ≡ (n + 1) + i = number-at (n + 1) ss i other h.1 (omega (arith, l)) in
    omega (arith, k)

-- a script is the only one of its number
only-one : (n : ℕ) (ss : List Script) (a b : Script)
    → ScriptsAreNumbered n ss
    → Contains ss a
    → Contains ss b
    → a.number ≡ b.number
    → a ≡ b
only-one n ss a b h k l e =
    let i : (slice_index_or ss k.0 a).number ≡ n + k.0 = number-at n ss k.0 a h k.1 in
    let j : (slice_index_or ss l.0 b).number ≡ n + l.0 = number-at n ss l.0 b h l.1 in
    let x : a.number ≡ n + k.0 = ap (λ (s : Script). s.number) (sym k.2) ∙ i in
    let y : b.number ≡ n + l.0 = ap (λ (s : Script). s.number) (sym l.2) ∙ j in
    let same : l.0 ≡ k.0 = omega (arith, x, y, e) in
    sym k.2 ∙ get_or_default ss k.0 a b k.1 ∙ ap (λ (m : ℕ). slice_index_or ss m b) (sym same) ∙ l.2

same_number : (m n : ℕ) → script_source m ≡ script_source n → m ≡ n
same_number m n e = cc

-- ---- the marks of one script

pub each-mark : (Q : Marked → Type 0) (ms : Marks) → ((m : Marked) → Contains ms m → Q m) → AllMarks Q ms
each-mark Q [] h = tt
each-mark Q (m ∷ ms) h = (h m (0, omega arith, refl), each-mark Q ms (λ x c. h x (suc c.0, omega (arith, c.1), c.2)))

own-marks : (scripts : List Script) (s : Script)
    → ScriptsAreNumbered 1 scripts
    → Contains scripts s
    → AllMarks ((known scripts).marks (script_source s.number)) (script_marks s)
own-marks scripts s h k = each-mark ((known scripts).marks (script_source s.number)) (script_marks s)
    (λ m c other l e. subst (λ (x : Script). Contains (script_marks x) m)
    (only-one 1 scripts s other h k l (same_number s.number other.number e)) c)

-- the parts of a script's term
abbrev pub kept_parts : Script → Terms
kept_parts s =
    let body : MadeStatements = statements_source s.body in
    let c : LoweringContext = record { source = script_source s.number; statement = 0; name = [] } in
    more (part sequence (body.terms c) end) (body.functions c)

pub parts-belong : (P : Marked → Type 0) (s : Script) → AllMarks P (script_marks s) → AllBelong P (kept_parts s)
parts-belong P s own =
    let f = statements-fit P s.body in
    let c : LoweringContext = record { source = script_source s.number; statement = 0; name = [] } in
    ((tt, f.belong c own, tt), f.functions_belong c own)

-- ---- the start

scripts-wait : (scripts : List Script) (ss : List Script) (n : ℕ)
    → ScriptsAreNumbered 1 scripts
    → ((s : Script) → Contains ss s → Contains scripts s)
    → AllWait (known scripts) (all_with_literals (λ i. Base i) n (terms_of_scripts ss))
scripts-wait scripts [] n h k = tt
scripts-wait scripts (s ∷ ss) n h k =
    let here : Contains scripts s = k s (0, omega arith, refl) in (
      (
        (s, here, refl),
        placed-belong ((known scripts).marks (script_source s.number)) (λ i. Base i) (n + 0) (kept_parts s)
            (parts-belong ((known scripts).marks (script_source s.number)) s (own-marks scripts s h here)),
      ),
      scripts-wait scripts ss (n + length (literals (term_of_script s))) h
          (λ x c. k x (suc c.0, omega (arith, c.1), c.2)),
    )

program-belongs : (scripts : List Script) (ss : List Script) (n first : ℕ)
    → ScriptsAreNumbered 1 scripts
    → ScriptsAreNumbered n ss
    → ((s : Script) → Contains ss s → Contains scripts s)
    → ProgramBelongs (known scripts) (program_from n (all_with_literals (λ i. Base i) first (terms_of_scripts ss)))
program-belongs scripts [] n first h g k = tt
program-belongs scripts (s ∷ ss) n first h g k =
    let here : Contains scripts s = k s (0, omega arith, refl) in
    let placed = placed-belong ((known scripts).marks (script_source s.number)) (λ i. Base i) (first + 0) (kept_parts s)
    (parts-belong ((known scripts).marks (script_source s.number)) s (own-marks scripts s h here)) in
    let marked : AllBelong ((known scripts).marks (script_source n))
    (all_with_literals (λ i. Base i) (first + 0) (kept_parts s)) = subst
    (λ (m : ℕ). AllBelong ((known scripts).marks (script_source m))
    (all_with_literals (λ i. Base i) (first + 0) (kept_parts s)))
    g.0 placed in (
      ((s, here, ap (λ (m : ℕ). script_source m) (sym g.0)), tt, marked),
      program-belongs scripts ss (n + 1) (first + length (literals (term_of_script s))) h g.1
          (λ x c. k x (suc c.0, omega (arith, c.1), c.2)),
    )

begins : (scripts : List Script) (ss : List Script) (input : List (List ℕ))
    → ss ≡ scripts
    → ScriptsAreNumbered 1 scripts
    → RunStands (behind_step (known scripts) None) (start_of (terms_of_scripts ss) input)
begins scripts [] input e h = tt
begins scripts (s ∷ ss) input e h =
    let within : (x : Script)
    → Contains (s ∷ ss) x
    → Contains scripts x = λ x c. subst (λ (xs : List Script). Contains xs x) e c in
    let numbered : ScriptsAreNumbered 1 (s ∷ ss) = subst (ScriptsAreNumbered 1) (sym e) h in
    start-stands (behind_step (known scripts) None) (script_source 1) (placed_scripts (terms_of_scripts (s ∷ ss)))
    (first_state (terms_of_scripts (s ∷ ss)) input) refl
    (s, within s (0, omega arith, refl), ap (λ (m : ℕ). script_source m) (sym numbered.0))
    (scripts-wait scripts (s ∷ ss) first_literal h within)

-- ---- the law

arrives : (scripts : List Script) (told : Option StepTold) (t : Term) (s : State)
    → ActiveStands (behind_step (known scripts) told) (sources_of s.frames) (active t)
    → Arrives scripts t s
arrives scripts told t s h =
    let source : Source = (spot_of s).source in
    let stands : (known scripts).runs source = subst (known scripts).runs (top-source s.frames) h.all_run.0 in
    let marked = λ (x : Script) (m : Mark) (e : at x.spans t ≡ Some m). arrival-marked
    (top_marks (known scripts) (sources_of s.frames)) x.spans (active t) m h.belongs e in
    let here = λ (x : Script) (r : RunsIn x s). top-source s.frames ∙ r in
    record {
      in_a_script = stands;
      each_frame = λ d f e. frame-runs (behind_step (known scripts) told) script_scope t s d f h e;
      at_a_mark = λ x m c r e. let k = marked x m e in (k.0, k.1 x c (here x r));
      at_a_location =
          λ x m c r e. let k = marked x m e in
          mark_found x (break_locations x) refl (record { mark = m; kind = k.0 }) (k.1 x c (here x r));
      at_a_debugger = λ x m c r e d.
          let k = debugger-marked (top_marks (known scripts) (sources_of s.frames)) x.spans (active t)
          m h.belongs d e x c (here x r) in
          (k, mark-located x m kinds.Debugger k);
    }

run-arrives : (scripts : List Script) (r : Run) → RunStandsBehind (known scripts) r → RunArrives scripts r
run-arrives scripts (running t s) h =
    arrives scripts h.0 t s (running-active (behind_step (known scripts) h.0) t (sources_of s.frames) h.1)
run-arrives scripts (over f s) h = tt

pub plain-arrives : (k : ℕ) (scripts : List Script) (input : List (List ℕ))
    → ScriptsAreNumbered 1 scripts
    → RunArrives scripts (plain_run k (terms_of_scripts scripts) input)
plain-arrives k scripts input h =
    run-arrives scripts (plain_run k (terms_of_scripts scripts) input)
    (steps-stand (known scripts) k (program_of (terms_of_scripts scripts)) script_scope
    (start_of (terms_of_scripts scripts) input)
    (program-belongs scripts scripts 1 first_literal h h (λ s c. c)) (None, begins scripts scripts input refl h))
