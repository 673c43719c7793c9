-- At the place of a mark stands a break location of the mark's kind or a stronger one.
use Rattle.std.proofs.Common.{◌≡◌, ℕ, zero, suc, ◌<◌, ◌≤◌, Bool, true, false, List, [], ◌∷◌, length, get_or, Option, Some, None, nat_eq, if◌then◌else◌, refl, sym, ap, subst, arith}
use Rattle.std.specs.List.{Contains}
use Rattle.std.proofs.lemmas.Bool.{eq-eqb}
use Rattle.js_tree.specs.declared.node.Span.{Span}
use Rattle.js_tree.specs.declared.script.Script.{Script}
use Rattle.js_semantics.specs.declared.form.Mark.{Mark}
use Rattle.js_semantics.specs.Frames.{offset_of}
use Rattle.locations.specs.declared.spot.SpotKind.{SpotKind}
use Rattle.locations.specs.declared.spot.SpotKind.TheVariants.{Plain, Debugger, Return, Call}
use Rattle.locations.specs.declared.marks.Marked.{Marked}
use Rattle.locations.specs.Marks.{Marks}
use Rattle.locations.specs.Kinds.{stronger, strongest, kind_at}
use Rattle.locations.specs.Locations.{script_marks}
use Rattle.locations.proofs.CoverLemmas.{location_stands, mark_within}
use Rattle.locations_arrivals.specs.Arrivals.{IsLocated}

stronger-self : (k : SpotKind) → stronger k k ≡ k
stronger-self Plain = refl
stronger-self Debugger = refl
stronger-self Return = refl
stronger-self Call = refl

stronger-first : (k l : SpotKind) → stronger k (stronger k l) ≡ stronger k l
stronger-first Plain l = refl
stronger-first Call l = refl
stronger-first Debugger Plain = refl
stronger-first Debugger Debugger = refl
stronger-first Debugger Return = refl
stronger-first Debugger Call = refl
stronger-first Return Plain = refl
stronger-first Return Debugger = refl
stronger-first Return Return = refl
stronger-first Return Call = refl

-- what is at least as strong stays so beside another kind
stronger-stays : (k x l : SpotKind) → stronger k l ≡ l → stronger k (stronger x l) ≡ stronger x l
stronger-stays Plain x l e = refl
stronger-stays k Plain l e = e
stronger-stays Debugger Debugger Plain e = refl
stronger-stays Debugger Debugger Debugger e = refl
stronger-stays Debugger Debugger Return e = refl
stronger-stays Debugger Debugger Call e = refl
stronger-stays Debugger Return Plain e = refl
stronger-stays Debugger Return Debugger e = refl
stronger-stays Debugger Return Return e = refl
stronger-stays Debugger Return Call e = refl
stronger-stays Debugger Call l e = refl
stronger-stays Return Debugger Plain e = cc
stronger-stays Return Debugger Debugger e = cc
stronger-stays Return Debugger Return e = refl
stronger-stays Return Debugger Call e = refl
stronger-stays Return Return Plain e = refl
stronger-stays Return Return Debugger e = refl
stronger-stays Return Return Return e = refl
stronger-stays Return Return Call e = refl
stronger-stays Return Call l e = refl
stronger-stays Call Debugger Plain e = cc
stronger-stays Call Debugger Debugger e = cc
stronger-stays Call Debugger Return e = cc
stronger-stays Call Debugger Call e = refl
stronger-stays Call Return Plain e = cc
stronger-stays Call Return Debugger e = cc
stronger-stays Call Return Return e = cc
stronger-stays Call Return Call e = refl
stronger-stays Call Call l e = refl

-- something of a kind or a stronger one stands at an offset
abbrev IsOver : SpotKind → Option SpotKind → Type 0
IsOver k o = (l : SpotKind) × (stronger k l ≡ l) × (o ≡ Some l)

first-over : (k : SpotKind) (o : Option SpotKind) → IsOver k (strongest k o)
first-over k None = (k, stronger-self k, refl)
first-over k (Some l) = (stronger k l, stronger-first k l, refl)

over-strongest : (k x : SpotKind) (o : Option SpotKind) → IsOver k o → IsOver k (strongest x o)
over-strongest k x None h = cc
over-strongest k x (Some l) h = (stronger x h.0, stronger-stays k x h.0 h.1, ap (strongest x) h.2)

later-over : (b : Bool) (k x : SpotKind) (o : Option SpotKind) → IsOver k o → IsOver k (if b then strongest x o else o)
later-over true k x o h = over-strongest k x o h
later-over false k x o h = h

mark-over : (spans : List Span) (ms : Marks) (i : ℕ) (m : Marked)
    → i < length ms
    → get_or ms i m ≡ m
    → IsOver m.kind (kind_at spans ms (offset_of spans m.mark))
mark-over spans [] i m l e = absurd (omega arith)
mark-over spans (x ∷ ms) zero m l e =
    let there : nat_eq (offset_of spans m.mark) (offset_of spans m.mark) ≡ true = eq-eqb (offset_of spans m.mark)
    (offset_of spans m.mark) refl in
    let own : IsOver m.kind
    (if nat_eq (offset_of spans m.mark) (offset_of spans m.mark) then strongest m.kind
    (kind_at spans ms (offset_of spans m.mark)) else kind_at spans ms (offset_of spans m.mark))
    =
    subst (λ b. IsOver m.kind
    (if b then strongest m.kind (kind_at spans ms (offset_of spans m.mark)) else kind_at spans ms
    (offset_of spans m.mark)))
    (sym there) (first-over m.kind (kind_at spans ms (offset_of spans m.mark))) in
    subst (λ (y : Marked). IsOver m.kind (kind_at spans (y ∷ ms) (offset_of spans m.mark))) (sym e) own
mark-over spans (x ∷ ms) (suc i) m l e =
    later-over (nat_eq (offset_of spans x.mark) (offset_of spans m.mark)) m.kind x.kind
    (kind_at spans ms (offset_of spans m.mark)) (mark-over spans ms i m (omega arith) e)

pub mark-located : (s : Script) (m : Mark) (kind : SpotKind)
    → Contains (script_marks s) (record { mark = m; kind = kind })
    → IsLocated s m kind
mark-located s m kind h =
    let over : IsOver kind (kind_at s.spans (script_marks s) (offset_of s.spans m)) = mark-over s.spans (script_marks s)
    h.0 (record { mark = m; kind = kind }) h.1 h.2 in
    let within : offset_of s.spans m ≤ length s.source = mark_within (length s.source) s.spans s.within m in (
      over.0,
      over.1,
      location_stands s.source (kind_at s.spans (script_marks s)) (suc (length s.source)) (offset_of s.spans m) over.0
          (omega (arith, within)) over.2,
    )
