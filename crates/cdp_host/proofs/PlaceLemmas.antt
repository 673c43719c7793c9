-- Places of arrivals are break locations of the scripts that run.
use Rattle.std.proofs.Common.{◌≡◌, ℕ, zero, suc, ◌+◌, ◌-◌, ◌<◌, List, [], ◌∷◌, length, slice_get, slice_index_or, Bool, true, false, nat_eq, refl, ap, sym, subst, ◌∙◌, arith, if◌then◌else◌, Option, Some, None}
use Rattle.std.proofs.lemmas.Bool.{ne_eqb}
use Rattle.std.specs.List.{Contains}
use Rattle.std.specs.Option.{option_map}
use Rattle.cdp_text.specs.declared.position.Place.{Place}
use Rattle.js_tree.specs.declared.script.Script.{Script}
use Rattle.js_semantics.specs.declared.form.Source.{Source}
use Rattle.js_semantics.specs.declared.form.Source.TheVariants.{Script as script_source}
use Rattle.js_semantics.specs.declared.form.Mark.{Mark}
use Rattle.js_semantics.specs.Terms.{Term}
use Rattle.js_semantics.specs.State.{State, spot_of}
use Rattle.js_semantics.specs.Frames.{at}
use Rattle.js_semantics.specs.Run.{Run, running, over}
use Rattle.js_machine_inspection.specs.Sources.{spans_in, script_spans}
use Rattle.locations.specs.Locations.{break_locations}
use Rattle.locations.specs.Order.{IsAt}
use Rattle.locations_arrivals.specs.Arrivals.{ScriptsAreNumbered, Arrives, RunArrives, RunsIn}
use Rattle.locations_arrivals.proofs.StartLemmas.{number-at, plain-arrives}
use Rattle.cdp_host.specs.Arrivals.{place_at, place_in}
use Rattle.cdp_host.specs.Programs.{arrival_of, plain}
use Rattle.cdp_host.specs.Places.{ArrivesAtLocations, IsBreakLocation}

-- ---- a script by its number

there : (ss : List Script) (i : ℕ) (s : Script) → i < length ss → slice_index_or ss i s ≡ s → slice_get ss i ≡ Some s
there [] i s l e = absurd (omega (arith, l))
there (x ∷ ss) zero s l e = ap Some e
there (x ∷ ss) (suc i) s l e = there ss i s (omega (arith, l)) e

-- what is looked up by the number of a script
abbrev numbered : {A : Type 0} → A → (Option Script → A) → List Script → ℕ → A
numbered none f scripts number = if nat_eq number 0 then none else f (slice_get scripts (number - 1))

choose : {A : Type 0} (b : Bool) (x y : A) → b ≡ false → (if b then x else y) ≡ y
choose true x y e = absurd cc
choose false x y e = refl

by_number : {A : Type 0} (none : A) (f : Option Script → A) (scripts : List Script) (s : Script)
    → ScriptsAreNumbered 1 scripts
    → Contains scripts s
    → numbered none f scripts s.number ≡ f (Some s)
by_number none f scripts s h k =
    let i : (slice_index_or scripts k.0 s).number ≡ 1 + k.0 = number-at 1 scripts k.0 s h k.1 in
    let j : s.number ≡ 1 + k.0 = ap (λ (x : Script). x.number) (sym k.2) ∙ i in
    let e : s.number - 1 ≡ k.0 = omega (arith, j) in
    choose (nat_eq s.number 0) none (f (slice_get scripts (s.number - 1))) (ne_eqb s.number 0 (omega (arith, j)))
    ∙ ap (λ (n : ℕ). f (slice_get scripts n)) e ∙ ap f (there scripts k.0 s k.1 k.2)

-- ---- places

place-there : (scripts : List Script) (s : Script) (o : Option Mark)
    → ScriptsAreNumbered 1 scripts
    → Contains scripts s
    → place_at scripts (script_source s.number) o ≡ option_map (λ mark. place_in mark s) o
place-there scripts s None h k = refl
place-there scripts s (Some mark) h k = ap (option_map (place_in mark)) (by_number None (λ o. o) scripts s h k)

spans-there : (scripts : List Script) (s : Script)
    → ScriptsAreNumbered 1 scripts
    → Contains scripts s
    → spans_in scripts (script_source s.number) ≡ s.spans
spans-there scripts s h k = by_number [] script_spans scripts s h k

arrived : (scripts : List Script) (source : Source) (t : Term) (s : Script)
    → ScriptsAreNumbered 1 scripts
    → Contains scripts s
    → source ≡ script_source s.number
    → place_at scripts source (at (spans_in scripts source) t) ≡ option_map (λ mark. place_in mark s) (at s.spans t)
arrived scripts source t s h k e =
    ap (λ x. place_at scripts x (at (spans_in scripts x) t)) e
    ∙ ap (λ x. place_at scripts (script_source s.number) (at x t)) (spans-there scripts s h k)
    ∙ place-there scripts s (at s.spans t) h k

-- a place that is made of a mark is the place of the mark
mark_of : (s : Script) (o : Option Mark) (place : Place)
    → option_map (λ mark. place_in mark s) o ≡ Some place
    → (mark : Mark) × (o ≡ Some mark) × (place_in mark s ≡ place)
mark_of s None place e = absurd cc
mark_of s (Some mark) place e = (mark, refl, cc)

located : (scripts : List Script) (t : Term) (s : State) (script : Script)
    → Arrives scripts t s
    → Contains scripts script
    → RunsIn script s
    → (place : Place)
    → option_map (λ mark. place_in mark script) (at script.spans t) ≡ Some place
    → IsBreakLocation scripts place
located scripts t s script arrives k runs place e =
    let m = mark_of script (at script.spans t) place e in (
      script,
      k,
      ap (λ (p : Place). p.script) m.2,
      subst (λ (p : Place). IsAt (break_locations script) p.pos) m.2 (arrives.at_a_location script m.0 k runs m.1),
    )

-- ---- runs

run-located : (scripts : List Script) (r : Run)
    → ScriptsAreNumbered 1 scripts
    → RunArrives scripts r
    → ArrivesAtLocations scripts r
unfolding arrival_of
run-located scripts (running t s) h arrives =
    let i = arrives.in_a_script in
    record {
      at_a_location =
          λ place e. located scripts t s i.0 arrives i.1 i.2 place
          (sym (arrived scripts (spot_of s).source t i.0 h i.1 i.2) ∙ e);
      at_its_mark = λ u v script e k runs.
          let same_term : t ≡ u = cc in
          let same_state : s ≡ v = cc in
          arrived scripts (spot_of s).source t script h k (ap (λ (x : State). (spot_of x).source) same_state ∙ runs)
          ∙ ap (λ (x : Term). option_map (λ mark. place_in mark script) (at script.spans x)) same_term;
    }
run-located scripts (over f s) h arrives =
    record { at_a_location = λ place e. absurd cc; at_its_mark = λ t u script e. absurd cc }

pub plain-located : (k : ℕ) (scripts : List Script) (input : List (List ℕ))
    → ScriptsAreNumbered 1 scripts
    → ArrivesAtLocations scripts (plain k scripts input)
unfolding plain
plain-located k scripts input h = run-located scripts _ h (plain-arrives k scripts input h)
