-- Each mark of a script stands at one of its locations.
use Rattle.std.proofs.Common.{◌≡◌, ℕ, zero, suc, ◌<◌, ◌≤◌, Bool, true, false, List, [], ◌∷◌, length, get_or, Option, Some, None, nat_eq, if◌then◌else◌, refl, sym, ap, subst, arith, inl, inr}
use Rattle.std.specs.Prelude.{All}
use Rattle.std.specs.List.{Contains}
use Rattle.std.proofs.lemmas.List.{get_or_past}
use Rattle.js_tree.specs.Spans.{span_of, IsWithin}
use Rattle.js_semantics.specs.declared.form.Mark.{Mark}
use Rattle.js_semantics.specs.declared.form.Mark.TheVariants.{Beginning, Start, BeforeEnd}
use Rattle.std.proofs.lemmas.Bool.{cases_lt, eq-eqb}
use Rattle.std.proofs.lemmas.List.Elements.{Contains-append_left, Contains-append_right}
use Rattle.cdp_text.specs.Position.{position}
use Rattle.js_tree.specs.declared.node.Span.{Span}
use Rattle.js_tree.specs.declared.script.Script.{Script}
use Rattle.js_semantics.specs.Frames.{offset_of}
use Rattle.locations.specs.declared.marks.Marked.{Marked}
use Rattle.locations.specs.declared.spot.SpotKind.{SpotKind}
use Rattle.locations.specs.declared.spot.Spot.{Spot}
use Rattle.locations.specs.Marks.{Marks}
use Rattle.locations.specs.Kinds.{stronger, strongest, kind_at}
use Rattle.locations.specs.Locations.{here, locations_below, script_marks, break_locations}

-- something stands at an offset
abbrev pub HasKind : Option SpotKind → Type 0
HasKind o = (kind : SpotKind) × (o ≡ Some kind)

strongest_stands : (k : SpotKind) (o : Option SpotKind) → HasKind (strongest k o)
strongest_stands k None = (k, refl)
strongest_stands k (Some l) = (stronger k l, refl)

later_stands : (b : Bool) (k : SpotKind) (o : Option SpotKind) → HasKind o → HasKind (if b then strongest k o else o)
later_stands true k o h = strongest_stands k o
later_stands false k o h = h

pub mark_stands : (spans : List Span) (ms : Marks) (i : ℕ) (m : Marked)
    → i < length ms
    → get_or ms i m ≡ m
    → HasKind (kind_at spans ms (offset_of spans m.mark))
mark_stands spans [] i m l e = absurd (omega arith)
mark_stands spans (x ∷ ms) zero m l e =
    let there : nat_eq (offset_of spans x.mark) (offset_of spans m.mark) ≡ true = eq-eqb (offset_of spans x.mark)
    (offset_of spans m.mark) (ap (λ (y : Marked). offset_of spans y.mark) e) in
    subst (λ b. HasKind
    (if b then strongest x.kind (kind_at spans ms (offset_of spans m.mark)) else kind_at spans ms
    (offset_of spans m.mark)))
    (sym there) (strongest_stands x.kind (kind_at spans ms (offset_of spans m.mark)))
mark_stands spans (x ∷ ms) (suc i) m l e =
    later_stands (nat_eq (offset_of spans x.mark) (offset_of spans m.mark)) x.kind
    (kind_at spans ms (offset_of spans m.mark)) (mark_stands spans ms i m (omega arith) e)

-- what stands at an offset is a location
spot_here : (u : List ℕ) (x : ℕ) (k : SpotKind) (o : Option SpotKind)
    → o ≡ Some k
    → Contains (here u x o) (record { pos = position u x; kind = k })
spot_here u x k o e =
    subst (λ (q : Option SpotKind). Contains (here u x q) (record { pos = position u x; kind = k })) (sym e)
    (0, omega arith, refl)

pub location_stands : (u : List ℕ) (kinds : ℕ → Option SpotKind) (n x : ℕ) (k : SpotKind)
    → x < n
    → kinds x ≡ Some k
    → Contains (locations_below u kinds n) (record { pos = position u x; kind = k })
location_stands u kinds zero x k l e = absurd (omega arith)
location_stands u kinds (suc n) x k l e =
    elim (cases_lt x n) [
      | inl lt ↦ Contains-append_left (locations_below u kinds n) (here u n (kinds n))
          (record { pos = position u x; kind = k }) (location_stands u kinds n x k lt e)
      | inr ge ↦
          let same : x ≡ n = omega arith in
          Contains-append_right (locations_below u kinds n) (here u n (kinds n))
          (record { pos = position u x; kind = k })
          (subst (λ (y : ℕ). Contains (here u y (kinds y)) (record { pos = position u x; kind = k })) same
          (spot_here u x k (kinds x) e))
    ]

-- a mark within the source stands at a location
pub mark_located : (s : Script) (m : Marked)
    → Contains (script_marks s) m
    → offset_of s.spans m.mark ≤ length s.source
    → (kind : SpotKind)
    × Contains (break_locations s) (record { pos = position s.source (offset_of s.spans m.mark); kind = kind })
mark_located s m h within =
    let at : HasKind (kind_at s.spans (script_marks s) (offset_of s.spans m.mark)) = mark_stands s.spans
    (script_marks s) h.0 m h.1 h.2 in (
      at.0,
      location_stands s.source (kind_at s.spans (script_marks s)) (suc (length s.source))
          (offset_of s.spans m.mark) at.0 (omega arith) at.1,
    )

-- ---- marks within the source

span_within : (n : ℕ) (spans : List Span) → All (IsWithin n) spans → (node : ℕ) → IsWithin n (span_of spans node)
span_within n spans h node =
    let none : Span = record { start = 0; end = 0 } in
    elim (cases_lt node (length spans)) [
      | inl lt ↦ h node none lt
      | inr ge ↦ subst (IsWithin n) (sym (get_or_past spans node none ge)) (omega arith, omega arith)
    ]

pub mark_within : (n : ℕ) (spans : List Span) → All (IsWithin n) spans → (m : Mark) → offset_of spans m ≤ n
mark_within n spans h Beginning = omega arith
mark_within n spans h (Start node) =
    let w : IsWithin n (span_of spans node) = span_within n spans h node in omega (arith, w.0, w.1)
mark_within n spans h (BeforeEnd node back) =
    let w : IsWithin n (span_of spans node) = span_within n spans h node in omega (arith, w.1)

pub mark_found : (s : Script) (spots : List Spot)
    → spots ≡ break_locations s
    → (m : Marked)
    → Contains (script_marks s) m
    → (kind : SpotKind) × Contains spots (record { pos = position s.source (offset_of s.spans m.mark); kind = kind })
mark_found s spots is m h =
    let at : (kind : SpotKind)
    × Contains (break_locations s) (record { pos = position s.source (offset_of s.spans m.mark); kind = kind })
    = mark_located s m h (mark_within (length s.source) s.spans s.within m.mark) in (
      at.0,
      subst
          (λ (xs : List Spot). Contains xs (record { pos = position s.source (offset_of s.spans m.mark); kind = at.0 }))
          (sym is) at.1,
    )
