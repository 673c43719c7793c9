-- What stands at an offset once one more mark is put there.
use Rattle.std.proofs.Common.{◌≡◌, ℕ, ◌+◌, ◌<◌, ◌≤◌, Bool, true, false, List, ◌∷◌, length, drop, get_or, Option, Some, None, nat_eq, if◌then◌else◌, refl, sym, ap, subst, ◌∙◌, add-one}
use Rattle.std.proofs.Math.ListN.{set}
use Rattle.std.proofs.lemmas.List.{drop_all, get_or_default, get_or-set_same, get_or-set_other, length-set}
use Rattle.std.proofs.lemmas.Bool.{eqb-true, eqb-false}
use Rattle.std.proofs.Math.Seq.{drop-cons}
use Rattle.js_tree.specs.declared.node.Span.{Span}
use Rattle.js_semantics.specs.Frames.{offset_of}
use Rattle.locations.specs.declared.marks.Marked.{Marked}
use Rattle.locations.specs.declared.spot.SpotKind.{SpotKind}
use Rattle.locations.specs.declared.spot.SpotKind.TheVariants.{Plain, Debugger, Return, Call}
use Rattle.locations.specs.Marks.{Marks}
use Rattle.locations.specs.Kinds.{stronger, strongest, with_mark, kind_of, kind_at}

-- what stands where marks follow what stood there
abbrev pub merged : Option SpotKind → Option SpotKind → Option SpotKind
merged None after = after
merged (Some before) after = strongest before after

stronger_stronger : (a b c : SpotKind) → stronger (stronger a b) c ≡ stronger a (stronger b c)
stronger_stronger Plain b c = refl
stronger_stronger Call b c = refl
stronger_stronger Debugger Plain c = refl
stronger_stronger Debugger Debugger Plain = refl
stronger_stronger Debugger Debugger Debugger = refl
stronger_stronger Debugger Debugger Return = refl
stronger_stronger Debugger Debugger Call = refl
stronger_stronger Debugger Return Plain = refl
stronger_stronger Debugger Return Debugger = refl
stronger_stronger Debugger Return Return = refl
stronger_stronger Debugger Return Call = refl
stronger_stronger Debugger Call c = refl
stronger_stronger Return Plain c = refl
stronger_stronger Return Debugger Plain = refl
stronger_stronger Return Debugger Debugger = refl
stronger_stronger Return Debugger Return = refl
stronger_stronger Return Debugger Call = refl
stronger_stronger Return Return Plain = refl
stronger_stronger Return Return Debugger = refl
stronger_stronger Return Return Return = refl
stronger_stronger Return Return Call = refl
stronger_stronger Return Call c = refl

merged_mark : (before : Option SpotKind) (kind : SpotKind) (after : Option SpotKind)
    → merged (with_mark before kind) after ≡ merged before (strongest kind after)
merged_mark None kind after = refl
merged_mark (Some before) kind None = refl
merged_mark (Some before) kind (Some after) = ap Some (stronger_stronger before kind after)

pub none_yet : (kinds : List (Option SpotKind))
    → ((x : ℕ) → kind_of kinds x ≡ None)
    → (spans : List Span) (ms : Marks) (x : ℕ)
    → merged (kind_of kinds x) (kind_at spans ms x) ≡ kind_at spans ms x
none_yet kinds h spans ms x = ap (λ k. merged k (kind_at spans ms x)) (h x)

-- the place of a mark
kind_here : (spans : List Span) (m : Marked) (ms : Marks) (x : ℕ) (b : Bool)
    → nat_eq (offset_of spans m.mark) x ≡ b
    → kind_at spans (m ∷ ms) x ≡ (if b then strongest m.kind (kind_at spans ms x) else kind_at spans ms x)
kind_here spans m ms x b e = ap (λ t. if t then strongest m.kind (kind_at spans ms x) else kind_at spans ms x) e

put_here : (spans : List Span) (m : Marked) (ms : Marks) (kinds : List (Option SpotKind)) (off x : ℕ)
    (k : Option SpotKind)
    → off ≡ offset_of spans m.mark
    → k ≡ with_mark (kind_of kinds off) m.kind
    → x < length kinds
    → (b : Bool)
    → nat_eq off x ≡ b
    → merged (kind_of (set kinds off k) x) (kind_at spans ms x) ≡ merged (kind_of kinds x) (kind_at spans (m ∷ ms) x)
put_here spans m ms kinds off x k is with l true e =
    let same : off ≡ x = eqb-true off x e in
    let there : nat_eq (offset_of spans m.mark) x ≡ true = ap (λ o. nat_eq o x) (sym is) ∙ e in
    ap (λ q. merged q (kind_at spans ms x))
    (ap (λ o. get_or (set kinds o k) x None) same
    ∙ get_or-set_same kinds x k None l
    ∙ with
    ∙ ap (λ o. with_mark (kind_of kinds o) m.kind) same)
    ∙ merged_mark (kind_of kinds x) m.kind (kind_at spans ms x)
    ∙ ap (merged (kind_of kinds x)) (sym (kind_here spans m ms x true there))
put_here spans m ms kinds off x k is with l false e =
    let there : nat_eq (offset_of spans m.mark) x ≡ false = ap (λ o. nat_eq o x) (sym is) ∙ e in
    ap (λ q. merged q (kind_at spans ms x)) (get_or-set_other kinds off x k None (λ q. eqb-false off x e (sym q)))
    ∙ ap (merged (kind_of kinds x)) (sym (kind_here spans m ms x false there))

pub put_more : (spans : List Span) (ms : Marks) (i : ℕ) (d : Marked) (kinds : List (Option SpotKind)) (off : ℕ)
    (here k : Option SpotKind) (whole : Option SpotKind)
    → i < length ms
    → off ≡ offset_of spans (get_or ms i d).mark
    → off < length kinds
    → here ≡ get_or kinds off here
    → k ≡ with_mark here (get_or ms i d).kind
    → (x : ℕ)
    → x < length (set kinds off k)
    → merged (kind_of kinds x) (kind_at spans (drop i ms) x) ≡ whole
    → merged (kind_of (set kinds off k) x) (kind_at spans (drop (i + 1) ms) x) ≡ whole
put_more spans ms i d kinds off here k whole h there in_it was with x l before =
    let e : here ≡ kind_of kinds off = was ∙ get_or_default kinds off here None in_it in
    let rest : drop i ms ≡ get_or ms i d ∷ drop (i + 1) ms = rw add-one (drop-cons ms i d h) in
    let n : x < length kinds = subst (λ (y : ℕ). x < y) (length-set kinds off k) l in
    put_here spans (get_or ms i d) (drop (i + 1) ms) kinds off x k there
    (with ∙ ap (λ o. with_mark o (get_or ms i d).kind) e) n (nat_eq off x) refl
    ∙ ap (λ (ys : Marks). merged (kind_of kinds x) (kind_at spans ys x)) (sym rest)
    ∙ before

pub put_all : (spans : List Span) (ms : Marks) (i : ℕ) (kind whole : Option SpotKind) (x : ℕ)
    → length ms ≤ i
    → merged kind (kind_at spans (drop i ms) x) ≡ whole
    → kind ≡ whole
put_all spans ms i kind whole x h e =
    sym (merged_none kind) ∙ ap (λ (ys : Marks). merged kind (kind_at spans ys x)) (sym (drop_all i ms h)) ∙ e
  where
    merged_none : (k : Option SpotKind) → merged k None ≡ k
    merged_none None = refl
    merged_none (Some k) = refl
