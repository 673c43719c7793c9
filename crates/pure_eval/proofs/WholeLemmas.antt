-- What a table names is there also when it goes on.
use Rattle.std.proofs.Common.{◌≡◌, ◌⊎◌, inl, inr, ℕ, zero, suc, ◌+◌, ◌<◌, ◌≤◌, Bool, true, false, List, [], ◌∷◌, length, get_or, Option, Some, refl, sym, ap, ◌∙◌, subst, arith}
use Rattle.std.specs.Prelude.{slice_get, nat_lt}
use Rattle.std.proofs.lemmas.Option.{slice_get_within}
use Rattle.js_machine_nodes.specs.declared.op.Op.{Op}
use Rattle.js_machine_nodes.specs.declared.op.Op.TheVariants as ops
use Rattle.js_machine_nodes.specs.declared.node.Node.{Node}
use Rattle.js_machine_nodes.specs.declared.node.FunctionEntry.{FunctionEntry}
use Rattle.js_machine_nodes.specs.declared.node.SourceEntry.{SourceEntry}
use Rattle.js_machine_nodes.specs.declared.table.NodeTable.{NodeTable}
use Rattle.js_machine_compiler.specs.Grown.{Begins, Extends}
use Rattle.js_machine_compiler.proofs.GrownLemmas.{begins_length}
use Rattle.pure_eval.specs.Whole.{names_entry, AreClosed, ArePlaced, IsWithin}
use Rattle.pure_eval.proofs.StayLemmas.{here}

lt_more : (m n k : ℕ) → n ≤ k → nat_lt m n ≡ true → nat_lt m k ≡ true
lt_more m n k h e = grind arith

more_entries : {X : Type 0} (xs ys : List X) (n : ℕ)
    → Begins xs ys
    → nat_lt n (length xs) ≡ true
    → nat_lt n (length ys) ≡ true
more_entries xs ys n b e = lt_more n (length xs) (length ys) (begins_length xs ys b) e

names_more : (t u : NodeTable) (op : Op) (n : ℕ) → Extends t u → names_entry t op n ≡ true → names_entry u op n ≡ true
names_more t u ops.Literal n x e = more_entries t.constants.items u.constants.items n x.constants e
names_more t u ops.Script n x e = more_entries t.scripts.items u.scripts.items n x.scripts e
names_more t u ops.EnterFor n x e = more_entries t.fors.items u.fors.items n x.fors e
names_more t u ops.EnterForOf n x e = more_entries t.for_ofs.items u.for_ofs.items n x.for_ofs e
names_more t u ops.Block n x e = more_entries t.blocks.items u.blocks.items n x.blocks e
names_more t u ops.Function n x e = more_entries t.functions.items u.functions.items n x.functions e
names_more t u ops.Method n x e = more_entries t.functions.items u.functions.items n x.functions e
names_more t u ops.Object n x e = more_entries t.objects.items u.objects.items n x.objects e
names_more t u ops.Call n x e = more_entries t.calls.items u.calls.items n x.calls e
names_more t u ops.CallOfName n x e = more_entries t.calls.items u.calls.items n x.calls e
names_more t u ops.CallOfMember n x e = more_entries t.calls.items u.calls.items n x.calls e
names_more t u ops.CallOfIndex n x e = more_entries t.calls.items u.calls.items n x.calls e
names_more t u _ n x e = refl

-- on either side of a number
sides : (b : Bool) (m n : ℕ) → nat_lt m n ≡ b → (m < n) ⊎ (n ≤ m)
sides true m n e = inl (grind arith)
sides false m n e = inr (grind arith)

pub either_side : (m n : ℕ) → (m < n) ⊎ (n ≤ m)
either_side m n = sides (nat_lt m n) m n refl

closed_at : (t u : NodeTable) (n : ℕ) (node : Node)
    → AreClosed t 0
    → Extends t u
    → AreClosed u (length t.nodes.items)
    → slice_get u.nodes.items n ≡ Some node
    → (n < length t.nodes.items) ⊎ (length t.nodes.items ≤ n)
    → names_entry u node.op node.info ≡ true
closed_at t u n node c x d e (inl h) =
    names_more t u node.op node.info x (c n node (omega arith) (sym (here t.nodes.items u.nodes.items n x.nodes h) ∙ e))
closed_at t u n node c x d e (inr h) = d n node h e

pub closed-more : (t u : NodeTable) → AreClosed t 0 → Extends t u → AreClosed u (length t.nodes.items) → AreClosed u 0
closed-more t u c x d = λ n node h e. closed_at t u n node c x d e (either_side n (length t.nodes.items))

placed_at : (t u : NodeTable) (i : ℕ) (f : FunctionEntry)
    → ArePlaced t 0
    → Extends t u
    → ArePlaced u (length t.functions.items)
    → slice_get u.functions.items i ≡ Some f
    → (i < length t.functions.items) ⊎ (length t.functions.items ≤ i)
    → f.at < length u.nodes.items
placed_at t u i f c x d e (inl h) =
    omega (
      arith,
      c i f (omega arith) (sym (here t.functions.items u.functions.items i x.functions h) ∙ e),
      begins_length t.nodes.items u.nodes.items x.nodes,
    )
placed_at t u i f c x d e (inr h) = d i f h e

pub placed-more : (t u : NodeTable)
    → ArePlaced t 0
    → Extends t u
    → ArePlaced u (length t.functions.items)
    → ArePlaced u 0
placed-more t u c x d = λ i f h e. placed_at t u i f c x d e (either_side i (length t.functions.items))

pub within-more : (t u : NodeTable) (e : SourceEntry) → Extends t u → IsWithin t e → IsWithin u e
within-more t u e x w = record {
  root = omega (arith, w.root, begins_length t.nodes.items u.nodes.items x.nodes);
  numbers = λ i m h. omega (arith, w.numbers i m h, begins_length t.functions.items u.functions.items x.functions);
}

-- nothing stands behind the end
pub closed-end : (t : NodeTable) (from : ℕ) → length t.nodes.items ≤ from → AreClosed t from
closed-end t from l = λ n node h e. absurd (omega (arith, slice_get_within t.nodes.items n node e))

pub placed-end : (t : NodeTable) (from : ℕ) → length t.functions.items ≤ from → ArePlaced t from
placed-end t from l = λ i f h e. absurd (omega (arith, slice_get_within t.functions.items i f e))

-- ---- tests of one after another

pub up-one : (P : ℕ → Type 0) (from i : ℕ)
    → ((n : ℕ) → from ≤ n → n < i → P n)
    → P i
    → (n : ℕ)
    → from ≤ n
    → n < i + 1
    → P n
up-one P from i c h n l g = turn (either_side n i)
  where
    turn : (n < i) ⊎ (i ≤ n) → P n
    turn (inl k) = c n l k
    turn (inr k) = let q : i ≡ n = omega arith in subst P q h

-- what holds of the entry at a place
abbrev pub HoldsAt : {X : Type 0} → (X → Type 0) → List X → ℕ → Type 0
HoldsAt P xs i = (x : _) → slice_get xs i ≡ Some x → P x

some_same : {X : Type 0} (x y : X) (o : Option X) → o ≡ Some x → o ≡ Some y → x ≡ y
some_same x y o e f = let g : Some x ≡ Some y = sym e ∙ f in cc

get_here : {X : Type 0} (xs : List X) (i : ℕ) (x : X) → i < length xs → x ≡ get_or xs i x → slice_get xs i ≡ Some x
get_here [] i x h e = absurd (omega arith)
get_here (y ∷ xs) zero x h e = ap (λ z. Some z) (sym e)
get_here (y ∷ xs) (suc i) x h e = get_here xs i x (omega arith) e

pub holds-here : {X : Type 0} (P : X → Type 0) (xs : List X) (i : ℕ) (x : X)
    → i < length xs
    → x ≡ get_or xs i x
    → P x
    → HoldsAt P xs i
holds-here P xs i x h e p = λ y f. subst P (some_same x y (slice_get xs i) (get_here xs i x h e) f) p

pub holds-all : {X : Type 0} (P : X → Type 0) (xs : List X) (from i : ℕ)
    → length xs ≤ i
    → ((n : ℕ) → from ≤ n → n < i → HoldsAt P xs n)
    → (n : ℕ) (x : X)
    → from ≤ n
    → slice_get xs n ≡ Some x
    → P x
holds-all P xs from i l h n x k e = h n k (omega (arith, slice_get_within xs n x e)) x e
