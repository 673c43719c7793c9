-- Tables that go on keep what they have.
use Rattle.std.proofs.Common.{◌≡◌, ◌⊎◌, inl, inr, ℕ, zero, suc, ◌+◌, ◌-◌, ◌<◌, ◌≤◌, true, false, List, [], ◌∷◌, ◌++◌, length, take, drop, Option, None, Some, if◌then◌else◌, refl, sym, ap, ◌∙◌, subst, arith, append_assoc, append-nil, length-append, length-drop}
use Rattle.std.specs.Prelude.{slice_get, unwrap_or}
use Rattle.std.proofs.lemmas.Option.{slice_get_within}
use Rattle.std.proofs.lemmas.List.{take-append-le, drop-append-le}
use Rattle.std.proofs.Math.Seq.{drop-append_seam, take-append_seam}
use Rattle.js_heap.specs.declared.value.Value.{Value}
use Rattle.js_heap.specs.declared.value.Value.TheVariants as values
use Rattle.js_semantics.specs.declared.form.Form.{Form}
use Rattle.js_semantics.specs.Terms.{Term, done, part, Terms, end, more, one, joined}
use Rattle.js_heap_memory.specs.Names.{GoesOn}
use Rattle.js_machine_nodes.specs.declared.op.Op.{Op}
use Rattle.js_machine_nodes.specs.declared.op.Op.TheVariants as ops
use Rattle.js_machine_nodes.specs.declared.node.Node.{Node}
use Rattle.js_machine_nodes.specs.declared.node.FunctionEntry.{FunctionEntry}
use Rattle.js_machine_nodes.specs.declared.table.NodeTable.{NodeTable}
use Rattle.js_machine_nodes.specs.Ops.{is_task_only, is_loop}
use Rattle.js_machine_nodes.specs.Forms.{form_of}
use Rattle.js_machine_nodes.specs.Trees.{constant_at, kids_between, terms, node_term, tree_within, EachBelow, IsNode, IsNodeAt, IsTable}
use Rattle.js_machine_compiler.specs.Added.{node_behind, IsNodeAdded}
use Rattle.js_machine_compiler.specs.Grown.{IsEntryAt, IsPlacedAt, IsPlacedNode, HasPlaces, Begins, Extends, KeepsTable, Grows, HasForm, HasTree, HaveTrees}
use Rattle.js_machine_compiler.proofs.NameLemmas.{goes_on_same}
use Rattle.js_heap_memory.proofs.StartLemmas.{goes-then}
use Rattle.cdp_text.proofs.ListLemmas.{last_there}

-- ---- lists that go on

pub begins_same : {X : Type 0} (xs : List X) → Begins xs xs
begins_same xs = record { rest = []; is = sym (append-nil xs) }

pub begins_more : {X : Type 0} (xs ys zs : List X) → ys ≡ xs ++ zs → Begins xs ys
begins_more xs ys zs e = record { rest = zs; is = e }

pub begins_twice : {X : Type 0} (xs ys zs : List X) → Begins xs ys → Begins ys zs → Begins xs zs
begins_twice xs ys zs b c =
    record { rest = b.rest ++ c.rest; is = c.is ∙ ap (λ us. us ++ c.rest) b.is ∙ append_assoc xs b.rest c.rest }

pub begins_length : {X : Type 0} (xs ys : List X) → Begins xs ys → length xs ≤ length ys
begins_length xs ys b = omega (arith, ap length b.is, length-append xs b.rest)

pub front : {X : Type 0} (xs ys : List X) (i : ℕ) → i < length xs → slice_get (xs ++ ys) i ≡ slice_get xs i
front [] ys i h = absurd (omega arith)
front (x ∷ xs) ys zero h = refl
front (x ∷ xs) ys (suc i) h = front xs ys i (omega arith)

past : {X : Type 0} (xs : List X) (x : X) (i : ℕ) → length xs < i → slice_get (xs ++ x ∷ []) i ≡ None
past [] x zero h = absurd (omega arith)
past [] x (suc i) h = refl
past (y ∷ xs) x zero h = absurd (omega arith)
past (y ∷ xs) x (suc i) h = past xs x i (omega arith)

-- what was added stands at the old length
pub added_at : {X : Type 0} (xs ys : List X) (x : X) (n : ℕ)
    → ys ≡ xs ++ x ∷ []
    → n ≡ length xs
    → slice_get ys n ≡ Some x
added_at xs ys x n e h = ap (slice_get ys) h ∙ ap (λ zs. slice_get zs (length xs)) e ∙ last_there xs x

pub begins_at : {X : Type 0} (xs ys : List X) (i : ℕ) (x : X)
    → Begins xs ys
    → slice_get xs i ≡ Some x
    → slice_get ys i ≡ Some x
begins_at xs ys i x b e = ap (λ zs. slice_get zs i) b.is ∙ front xs b.rest i (slice_get_within xs i x e) ∙ e

pub begins_between : (xs ys : List ℕ) (from to : ℕ)
    → Begins xs ys
    → from ≤ to
    → to ≤ length xs
    → take (to - from) (drop from ys) ≡ take (to - from) (drop from xs)
begins_between xs ys from to b h k =
    ap (λ zs. take (to - from) (drop from zs)) b.is
    ∙ ap (λ zs. take (to - from) zs) (drop-append-le from xs b.rest (omega arith))
    ∙ take-append-le (to - from) (drop from xs) b.rest (omega (arith, length-drop from xs))

-- ---- tables that go on

pub extends_same : (t : NodeTable) → Extends t t
extends_same t = record {
  nodes = begins_same t.nodes.items;
  kids = begins_same t.kids.items;
  constants = begins_same t.constants.items;
  blocks = begins_same t.blocks.items;
  scripts = begins_same t.scripts.items;
  fors = begins_same t.fors.items;
  for_ofs = begins_same t.for_ofs.items;
  functions = begins_same t.functions.items;
  objects = begins_same t.objects.items;
  calls = begins_same t.calls.items;
}

pub extends_twice : (t u v : NodeTable) → Extends t u → Extends u v → Extends t v
extends_twice t u v g h = record {
  nodes = begins_twice t.nodes.items u.nodes.items v.nodes.items g.nodes h.nodes;
  kids = begins_twice t.kids.items u.kids.items v.kids.items g.kids h.kids;
  constants = begins_twice t.constants.items u.constants.items v.constants.items g.constants h.constants;
  blocks = begins_twice t.blocks.items u.blocks.items v.blocks.items g.blocks h.blocks;
  scripts = begins_twice t.scripts.items u.scripts.items v.scripts.items g.scripts h.scripts;
  fors = begins_twice t.fors.items u.fors.items v.fors.items g.fors h.fors;
  for_ofs = begins_twice t.for_ofs.items u.for_ofs.items v.for_ofs.items g.for_ofs h.for_ofs;
  functions = begins_twice t.functions.items u.functions.items v.functions.items g.functions h.functions;
  objects = begins_twice t.objects.items u.objects.items v.objects.items g.objects h.objects;
  calls = begins_twice t.calls.items u.calls.items v.calls.items g.calls h.calls;
}

pub keeps_same : (t : NodeTable) → KeepsTable t t
keeps_same t = record { entries = extends_same t; table = λ h. h; places = λ h. h; sources = refl }

pub keeps_twice : (t u v : NodeTable) → KeepsTable t u → KeepsTable u v → KeepsTable t v
keeps_twice t u v g h =
    record {
      entries = extends_twice t u v g.entries h.entries;
      table = λ k. h.table (g.table k);
      places = λ k. h.places
          (g.places k);
      sources = h.sources
          ∙ g.sources;
    }

pub grows_same : (ts : List (List ℕ)) (t : NodeTable) → Grows ts t ts t
grows_same ts t = record { names = goes_on_same ts; table = keeps_same t }

pub grows_twice : (ts us vs : List (List ℕ)) (t u v : NodeTable) → Grows ts t us u → Grows us u vs v → Grows ts t vs v
grows_twice ts us vs t u v g h =
    record { names = goes-then ts us vs g.names h.names; table = keeps_twice t u v g.table h.table }

pub grows_then : (ts us : List (List ℕ)) (t u : NodeTable) → GoesOn ts us → KeepsTable t u → Grows ts t us u
grows_then ts us t u g k = record { names = g; table = k }

-- a table with more entries and the same nodes
node_kept : (t u : NodeTable) (n : ℕ) (o : Option Node)
    → Begins t.kids.items u.kids.items
    → IsNodeAt t n o
    → IsNodeAt u n o
node_kept t u n None b i = tt
node_kept t u n (Some node) b i = record {
  before =
      subst (EachBelow n)
      (sym (begins_between t.kids.items u.kids.items node.first node.end b (omega (arith, i.now, i.later))
      i.within))
      i.before;
  now = i.now;
  later = i.later;
  within = omega (arith, i.within, begins_length t.kids.items u.kids.items b);
  source = i.source;
  turns = i.turns;
}

pub same_nodes : (t u : NodeTable) → u.nodes ≡ t.nodes → u.kids ≡ t.kids → IsTable t → IsTable u
same_nodes t u e k i =
    let b : Begins t.kids.items u.kids.items = record {
      rest = [];
      is = ap (λ v. v.items) k
          ∙ sym (append-nil t.kids.items);
    } in
    record {
      nodes =
          λ n. subst (λ (o : Option Node). IsNodeAt u n o) (ap (λ v. slice_get v.items n) (sym e))
          (node_kept t u n (slice_get t.nodes.items n) b (i.nodes n));
    }

entry_kept : (xs ys : List FunctionEntry) (i n : ℕ) (o : Option FunctionEntry)
    → slice_get xs i ≡ o
    → Begins xs ys
    → IsEntryAt n o
    → IsEntryAt n (slice_get ys i)
entry_kept xs ys i n None e b h = absurd h
entry_kept xs ys i n (Some x) e b h = subst (IsEntryAt n) (sym (begins_at xs ys i x b e)) h

placed_kept : (t u : NodeTable) (op : Op) (info n : ℕ)
    → Begins t.functions.items u.functions.items
    → IsPlacedAt t op info n
    → IsPlacedAt u op info n
placed_kept t u ops.Function info n b h =
    entry_kept t.functions.items u.functions.items info n (slice_get t.functions.items info) refl b h
placed_kept t u ops.Method info n b h =
    entry_kept t.functions.items u.functions.items info n (slice_get t.functions.items info) refl b h
placed_kept t u _ info n b h = tt

node_placed : (t u : NodeTable) (n : ℕ) (o : Option Node)
    → Begins t.functions.items u.functions.items
    → IsPlacedNode t n o
    → IsPlacedNode u n o
node_placed t u n None b h = tt
node_placed t u n (Some node) b h = placed_kept t u node.op node.info n b h

pub same_places : (t u : NodeTable)
    → u.nodes ≡ t.nodes
    → Begins t.functions.items u.functions.items
    → HasPlaces t
    → HasPlaces u
same_places t u e b h =
    record {
      nodes = λ n. subst (λ (o : Option Node). IsPlacedNode u n o) (ap (λ v. slice_get v.items n) (sym e))
          (node_placed t u n (slice_get t.nodes.items n) b (h.nodes n));
    }

-- ---- one more node

pub node_extends : (t u : NodeTable) (op : Op) (info n : ℕ) (now later : List ℕ)
    → IsNodeAdded t u op info now later n
    → Extends t u
node_extends t u op info n now later a = record {
  nodes = begins_more t.nodes.items u.nodes.items (node_behind t.kids.items op info now later ∷ []) a.nodes;
  kids = begins_more t.kids.items u.kids.items (now ++ later) (a.kids ∙ append_assoc t.kids.items now later);
  constants = record { rest = []; is = ap (λ v. v.items) a.constants ∙ sym (append-nil t.constants.items) };
  blocks = record { rest = []; is = ap (λ v. v.items) a.blocks ∙ sym (append-nil t.blocks.items) };
  scripts = record { rest = []; is = ap (λ v. v.items) a.scripts ∙ sym (append-nil t.scripts.items) };
  fors = record { rest = []; is = ap (λ v. v.items) a.fors ∙ sym (append-nil t.fors.items) };
  for_ofs = record { rest = []; is = ap (λ v. v.items) a.for_ofs ∙ sym (append-nil t.for_ofs.items) };
  functions = record { rest = []; is = ap (λ v. v.items) a.functions ∙ sym (append-nil t.functions.items) };
  objects = record { rest = []; is = ap (λ v. v.items) a.objects ∙ sym (append-nil t.objects.items) };
  calls = record { rest = []; is = ap (λ v. v.items) a.calls ∙ sym (append-nil t.calls.items) };
}

take_whole : (xs : List ℕ) → take (length xs) xs ≡ xs
take_whole [] = refl
take_whole (x ∷ xs) = ap (λ ys. x ∷ ys) (take_whole xs)

-- the parts of the node that was added
now_behind : (ks now later kids : List ℕ) (from mid : ℕ)
    → kids ≡ (ks ++ now) ++ later
    → from ≡ length ks
    → mid ≡ length ks + length now
    → take (mid - from) (drop from kids) ≡ now
now_behind ks now later kids from mid e f m =
    let n : mid - from ≡ length now = omega arith in
    ap (λ k. take k (drop from kids)) n ∙ ap (λ k. take (length now) (drop k kids)) f
    ∙ ap (λ zs. take (length now) (drop (length ks) zs)) (e ∙ append_assoc ks now later)
    ∙ ap (λ zs. take (length now) zs) (drop-append_seam ks (now ++ later)) ∙ take-append_seam now later

later_behind : (ks now later kids : List ℕ) (mid until : ℕ)
    → kids ≡ (ks ++ now) ++ later
    → mid ≡ length ks + length now
    → until ≡ length ks + length now + length later
    → take (until - mid) (drop mid kids) ≡ later
later_behind ks now later kids mid until e f m =
    let n : until - mid ≡ length later = omega arith in
    let k : mid ≡ length (ks ++ now) = omega (arith, length-append ks now) in
    ap (λ k. take k (drop mid kids)) n ∙ ap (λ k. take (length later) (drop k kids)) k
    ∙ ap (λ zs. take (length later) (drop (length (ks ++ now)) zs)) e
    ∙ ap (λ zs. take (length later) zs) (drop-append_seam (ks ++ now) later) ∙ take_whole later

all_behind : (ks now later kids : List ℕ) (from until : ℕ)
    → kids ≡ (ks ++ now) ++ later
    → from ≡ length ks
    → until ≡ length ks + length now + length later
    → take (until - from) (drop from kids) ≡ now ++ later
all_behind ks now later kids from until e f m =
    let n : until - from ≡ length (now ++ later) = omega (arith, length-append now later) in
    ap (λ k. take k (drop from kids)) n ∙ ap (λ k. take (length (now ++ later)) (drop k kids)) f
    ∙ ap (λ zs. take (length (now ++ later)) (drop (length ks) zs)) (e ∙ append_assoc ks now later)
    ∙ ap (λ zs. take (length (now ++ later)) zs) (drop-append_seam ks (now ++ later)) ∙ take_whole (now ++ later)

below_both : (n : ℕ) (xs ys : List ℕ) → EachBelow n xs → EachBelow n ys → EachBelow n (xs ++ ys)
below_both n [] ys h k = k
below_both n (x ∷ xs) ys h k = (h.0, below_both n xs ys h.1 k)

pub below_more : (m n : ℕ) (ks : List ℕ) → m ≤ n → EachBelow m ks → EachBelow n ks
below_more m n [] h b = tt
below_more m n (k ∷ ks) h b = (omega (arith, b.0), below_more m n ks h b.1)

length_both : (t u : NodeTable) (op : Op) (info n : ℕ) (now later : List ℕ)
    → IsNodeAdded t u op info now later n
    → length u.kids.items ≡ length t.kids.items + length now + length later
length_both t u op info n now later a =
    ap length a.kids
    ∙ length-append (t.kids.items ++ now) later
    ∙ ap (λ k. k + length later) (length-append t.kids.items now)

node_new : (t u : NodeTable) (op : Op) (info n : ℕ) (now later : List ℕ)
    → IsNodeAdded t u op info now later n
    → EachBelow (length t.nodes.items) now
    → EachBelow (length t.nodes.items) later
    → is_task_only op ≡ false
    → (is_loop op ≡ true → info ≡ 0)
    → IsNode u (length t.nodes.items) (node_behind t.kids.items op info now later)
node_new t u op info n now later a b c s l = record {
  before =
      subst (EachBelow (length t.nodes.items))
      (sym (all_behind t.kids.items now later u.kids.items (length t.kids.items)
      (length t.kids.items + length now + length later) a.kids refl refl))
      (below_both (length t.nodes.items) now later b c);
  now = omega arith;
  later = omega arith;
  within = omega (arith, length_both t u op info n now later a);
  source = s;
  turns = l;
}

cases : (i n : ℕ) → (i < n) ⊎ ((i ≡ n) ⊎ (n < i))
cases zero zero = inr (inl refl)
cases zero (suc n) = inl (omega arith)
cases (suc i) zero = inr (inr (omega arith))
cases (suc i) (suc n) =
    elim (cases i n)
    [ inl h ↦ inl (omega arith) | inr (inl e) ↦ inr (inl (ap suc e)) | inr (inr h) ↦ inr (inr (omega arith)) ]

nodes_more : (t u : NodeTable) (node : Node)
    → IsTable t
    → Begins t.kids.items u.kids.items
    → u.nodes.items ≡ t.nodes.items ++ node ∷ []
    → IsNode u (length t.nodes.items) node
    → (k : ℕ)
    → (k < length t.nodes.items) ⊎ ((k ≡ length t.nodes.items) ⊎ (length t.nodes.items < k))
    → IsNodeAt u k (slice_get u.nodes.items k)
nodes_more t u node i b e new k (inl h) =
    subst (λ (o : Option Node). IsNodeAt u k o)
    (sym (ap (λ ns. slice_get ns k) e ∙ front t.nodes.items (node ∷ []) k h))
    (node_kept t u k (slice_get t.nodes.items k) b (i.nodes k))
nodes_more t u node i b e new k (inr (inl h)) =
    let P : ℕ → Type 0 = λ j. IsNodeAt u j (slice_get u.nodes.items j) in
    subst P (sym h)
    (subst (λ (o : Option Node). IsNodeAt u (length t.nodes.items) o)
    (sym (ap (λ ns. slice_get ns (length t.nodes.items)) e ∙ last_there t.nodes.items node)) new)
nodes_more t u node i b e new k (inr (inr h)) =
    subst (λ (o : Option Node). IsNodeAt u k o) (sym (ap (λ ns. slice_get ns k) e ∙ past t.nodes.items node k h)) tt

places_more : (t u : NodeTable) (node : Node)
    → HasPlaces t
    → Begins t.functions.items u.functions.items
    → u.nodes.items ≡ t.nodes.items ++ node ∷ []
    → IsPlacedAt t node.op node.info (length t.nodes.items)
    → (k : ℕ)
    → (k < length t.nodes.items) ⊎ ((k ≡ length t.nodes.items) ⊎ (length t.nodes.items < k))
    → IsPlacedNode u k (slice_get u.nodes.items k)
places_more t u node h b e p k (inl l) =
    subst (λ (o : Option Node). IsPlacedNode u k o)
    (sym (ap (λ ns. slice_get ns k) e ∙ front t.nodes.items (node ∷ []) k l))
    (node_placed t u k (slice_get t.nodes.items k) b (h.nodes k))
places_more t u node h b e p k (inr (inl l)) =
    let P : ℕ → Type 0 = λ j. IsPlacedNode u j (slice_get u.nodes.items j) in
    subst P (sym l)
    (subst (λ (o : Option Node). IsPlacedNode u (length t.nodes.items) o)
    (sym (ap (λ ns. slice_get ns (length t.nodes.items)) e ∙ last_there t.nodes.items node))
    (placed_kept t u node.op node.info (length t.nodes.items) b p))
places_more t u node h b e p k (inr (inr l)) =
    subst (λ (o : Option Node). IsPlacedNode u k o) (sym (ap (λ ns. slice_get ns k) e ∙ past t.nodes.items node k l)) tt

pub node_keeps : (t u : NodeTable) (op : Op) (info n : ℕ) (now later : List ℕ)
    → IsNodeAdded t u op info now later n
    → EachBelow (length t.nodes.items) now
    → EachBelow (length t.nodes.items) later
    → is_task_only op ≡ false
    → (is_loop op ≡ true → info ≡ 0)
    → IsPlacedAt t op info (length t.nodes.items)
    → KeepsTable t u
node_keeps t u op info n now later a b c s l p =
    let g = node_extends t u op info n now later a in record {
      entries = g;
      table =
          λ i. record {
            nodes = λ k. nodes_more t u (node_behind t.kids.items op info now later) i g.kids a.nodes
                (node_new t u op info n now later a b c s l) k (cases k (length t.nodes.items));
          };
      places =
          λ h. record {
            nodes = λ k. places_more t u (node_behind t.kids.items op info now later)
                h g.functions a.nodes p k (cases k (length t.nodes.items));
          };
      sources = a.sources;
    }

node_below : (t u : NodeTable) (op : Op) (info n : ℕ) (now later : List ℕ)
    → IsNodeAdded t u op info now later n
    → n < length u.nodes.items
node_below t u op info n now later a =
    omega (
      arith,
      a.number,
      ap length a.nodes,
      length-append t.nodes.items (node_behind t.kids.items op info now later ∷ []),
    )

node_later : (t u v : NodeTable) (op : Op) (info n : ℕ) (now later : List ℕ)
    → IsNodeAdded t u op info now later n
    → Extends u v
    → slice_get v.nodes.items n ≡ Some (node_behind t.kids.items op info now later)
node_later t u v op info n now later a g =
    begins_at u.nodes.items v.nodes.items n (node_behind t.kids.items op info now later) g.nodes
    (added_at t.nodes.items u.nodes.items (node_behind t.kids.items op info now later) n a.nodes a.number)

now_later : (t u v : NodeTable) (op : Op) (info n : ℕ) (now later : List ℕ)
    → IsNodeAdded t u op info now later n
    → Extends u v
    → kids_between v (length t.kids.items) (length t.kids.items + length now) ≡ now
now_later t u v op info n now later a g =
    begins_between u.kids.items v.kids.items (length t.kids.items) (length t.kids.items + length now) g.kids
    (omega arith) (omega (arith, length_both t u op info n now later a))
    ∙ now_behind t.kids.items now later u.kids.items (length t.kids.items) (length t.kids.items + length now)
    a.kids refl refl

later_later : (t u v : NodeTable) (op : Op) (info n : ℕ) (now later : List ℕ)
    → IsNodeAdded t u op info now later n
    → Extends u v
    → kids_between v (length t.kids.items + length now) (length t.kids.items + length now + length later) ≡ later
later_later t u v op info n now later a g =
    begins_between u.kids.items v.kids.items (length t.kids.items + length now)
    (length t.kids.items + length now + length later) g.kids (omega arith)
    (omega (arith, length_both t u op info n now later a))
    ∙ later_behind t.kids.items now later u.kids.items (length t.kids.items + length now)
    (length t.kids.items + length now + length later) a.kids refl refl

-- a form over parts
inner_tree : (ts us : List (List ℕ)) (t u v : NodeTable) (op : Op) (info n : ℕ) (now later : List ℕ) (f : Form)
    (xs ys : Terms)
    → IsNodeAdded t u op info now later n
    → HasForm ts t op info f
    → HaveTrees ts t now xs
    → HaveTrees ts t later ys
    → (fuel : ℕ)
    → n < fuel
    → GoesOn ts us
    → Extends u v
    → tree_within us v fuel n ≡ part f xs ys
inner_tree ts us t u v op info n now later f xs ys a h x y zero l g e = absurd (omega arith)
inner_tree ts us t u v op info n now later f xs ys a h x y (suc fuel) l g e =
    let w = extends_twice t u v (node_extends t u op info n now later a) e in
    let at = tree_within us v fuel in
    let first = length t.kids.items in
    let mid = length t.kids.items + length now in
    let last = length t.kids.items + length now + length later in
    let k : length t.nodes.items ≤ fuel = omega (arith, a.number) in
    ap (node_term us v at) (node_later t u v op info n now later a e)
    ∙ ap (λ b. if b then done (constant_at v info) else part (form_of us v op info)
    (terms at (kids_between v first mid)) (terms at (kids_between v mid last)))
    h.inner
    ∙ ap (λ q. part q (terms at (kids_between v first mid)) (terms at (kids_between v mid last))) (h.is us v g w)
    ∙ ap (λ q. part f q (terms at (kids_between v mid last)))
    (ap (terms at) (now_later t u v op info n now later a e) ∙ x.are us v fuel k g w)
    ∙ ap (λ q. part f xs q) (ap (terms at) (later_later t u v op info n now later a e) ∙ y.are us v fuel k g w)

pub node_tree : (ts : List (List ℕ)) (t u : NodeTable) (op : Op) (info n : ℕ) (now later : List ℕ) (f : Form)
    (xs ys : Terms)
    → IsNodeAdded t u op info now later n
    → HasForm ts t op info f
    → HaveTrees ts t now xs
    → HaveTrees ts t later ys
    → HasTree ts u n (part f xs ys)
node_tree ts t u op info n now later f xs ys a h x y = record {
  below = node_below t u op info n now later a;
  is = λ us v fuel l g e. inner_tree ts us t u v op info n now later f xs ys a h x y fuel l g e;
}

-- a value
literal_tree : (us : List (List ℕ)) (t u v : NodeTable) (info n : ℕ) (now later : List ℕ) (x : Value)
    → IsNodeAdded t u ops.Literal info now later n
    → slice_get t.constants.items info ≡ Some x
    → (fuel : ℕ)
    → n < fuel
    → Extends u v
    → tree_within us v fuel n ≡ done x
unfolding constant_at
literal_tree us t u v info n now later x a c zero l e = absurd (omega arith)
literal_tree us t u v info n now later x a c (suc fuel) l e =
    let w = extends_twice t u v (node_extends t u ops.Literal info n now later a) e in
    ap (node_term us v (tree_within us v fuel)) (node_later t u v ops.Literal info n now later a e)
    ∙ ap (λ o. done (unwrap_or o values.Undefined)) (begins_at t.constants.items v.constants.items info x w.constants c)

pub literal_node : (ts : List (List ℕ)) (t u : NodeTable) (info n : ℕ) (now later : List ℕ) (x : Value)
    → IsNodeAdded t u ops.Literal info now later n
    → slice_get t.constants.items info ≡ Some x
    → HasTree ts u n (done x)
literal_node ts t u info n now later x a c = record {
  below = node_below t u ops.Literal info n now later a;
  is = λ us v fuel l g e. literal_tree us t u v info n now later x a c fuel l e;
}

-- ---- trees that stay

pub trees_go_on : (ts us : List (List ℕ)) (t u : NodeTable) (ns : List ℕ) (xs : Terms)
    → GoesOn ts us
    → Extends t u
    → HaveTrees ts t ns xs
    → HaveTrees us u ns xs
trees_go_on ts us t u ns xs g w h =
    let m = begins_length t.nodes.items u.nodes.items w.nodes in record {
      below = below_more (length t.nodes.items) (length u.nodes.items) ns m h.below;
      are = λ vs v fuel l k e. h.are vs v fuel (omega arith) (goes-then ts us vs g k) (extends_twice t u v w e);
    }

pub trees_stay : (ts us : List (List ℕ)) (t u : NodeTable) (ns : List ℕ) (xs : Terms)
    → Grows ts t us u
    → HaveTrees ts t ns xs
    → HaveTrees us u ns xs
trees_stay ts us t u ns xs g h = trees_go_on ts us t u ns xs g.names g.table.entries h

pub no_trees : (ts : List (List ℕ)) (t : NodeTable) → HaveTrees ts t [] end
no_trees ts t = record { below = tt; are = λ us u fuel l g e. refl }

below_push : (n k : ℕ) (ks : List ℕ) → EachBelow n ks → k < n → EachBelow n (ks ++ k ∷ [])
below_push n k [] b h = (h, tt)
below_push n k (x ∷ ks) b h = (b.0, below_push n k ks b.1 h)

terms_push : (at : ℕ → Term) (ks : List ℕ) (k : ℕ) → terms at (ks ++ k ∷ []) ≡ joined (terms at ks) (one (at k))
terms_push at [] k = refl
terms_push at (x ∷ ks) k = ap (more (at x)) (terms_push at ks k)

pub trees_more : (ts : List (List ℕ)) (t : NodeTable) (ns ms : List ℕ) (xs : Terms) (n : ℕ) (x : Term)
    → HaveTrees ts t ns xs
    → HasTree ts t n x
    → ms ≡ ns ++ n ∷ []
    → HaveTrees ts t ms (joined xs (one x))
trees_more ts t ns ms xs n x h k e = record {
  below = subst (EachBelow (length t.nodes.items)) (sym e) (below_push (length t.nodes.items) n ns h.below k.below);
  are = λ us u fuel l g w. ap (terms (tree_within us u fuel)) e ∙ terms_push (tree_within us u fuel) ns n
      ∙ ap (λ q. joined q (one (tree_within us u fuel n))) (h.are us u fuel l g w)
      ∙ ap (λ q. joined xs (one q)) (k.is us u fuel (omega (arith, k.below)) g w);
}
