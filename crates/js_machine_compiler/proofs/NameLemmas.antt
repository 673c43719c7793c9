-- Names that stay known.
use Rattle.std.proofs.Common.{◌≡◌, ℕ, ◌+◌, ◌<◌, List, [], ◌∷◌, ◌++◌, length, get_or, take, refl, sym, ap, ◌∙◌, append-nil}
use Rattle.std.proofs.lemmas.List.{take_more}
use Rattle.js_heap.specs.declared.cell.Binding.{Binding}
use Rattle.js_semantics.specs.declared.form.Member.{Member}
use Rattle.js_heap_memory.specs.Names.{name_of, GoesOn}
use Rattle.js_heap_memory.specs.Cells.{binding_at, bindings, texts_of}
use Rattle.js_heap_memory.specs.declared.names.NameId.{NameId}
use Rattle.js_heap_memory.specs.declared.stored.Slot.{Slot}
use Rattle.js_machine_nodes.specs.declared.node.MemberEntry.{MemberEntry}
use Rattle.js_machine_nodes.specs.Forms.{member_of, members_of}
use Rattle.js_heap_memory.proofs.GrowLemmas.{name-stays}
use Rattle.js_heap_memory.proofs.ScopeLemmas.{bindings-append}
use Rattle.js_machine_compiler.specs.Grown.{Known, IsBinding, AreBindings, AreTexts, IsMember, AreMembers}
use Rattle.js_heap_memory.proofs.StartLemmas.{goes-then}

pub goes_on_same : (ts : List (List ℕ)) → GoesOn ts ts
goes_on_same ts = record { more = []; is = sym (append-nil ts) }

pub known : (ts : List (List ℕ)) (n : ℕ) (text : List ℕ) → name_of ts n ≡ text → n < length ts → Known ts n text
known ts n text e h us g = ap (λ xs. name_of xs n) g.is ∙ name-stays ts g.more n h ∙ e

pub binding_known : (ts : List (List ℕ)) (s : Slot) (b : Binding)
    → Known ts s.name.number b.name
    → s.constant ≡ b.constant
    → s.value ≡ b.value
    → IsBinding ts s b
binding_known ts s b k c v us g = rw (k us g, c, v) refl

-- ---- one more

bindings_more : (ts us : List (List ℕ)) (ss : List Slot) (s : Slot) (bs : List Binding) (b : Binding)
    → AreBindings ts ss bs
    → GoesOn ts us
    → IsBinding us s b
    → AreBindings us (ss ++ s ∷ []) (bs ++ b ∷ [])
bindings_more ts us ss s bs b h g k vs l =
    bindings-append vs ss (s ∷ [])
    ∙ ap (λ xs. xs ++ binding_at vs s ∷ []) (h vs (goes-then ts us vs g l))
    ∙ ap (λ x. bs ++ x ∷ []) (k vs l)

pub bindings_step : (ts us : List (List ℕ)) (ss rs : List Slot) (s : Slot) (items : List Binding) (i : ℕ) (b : Binding)
    → AreBindings ts ss (take i items)
    → GoesOn ts us
    → IsBinding us s b
    → rs ≡ ss ++ s ∷ []
    → i < length items
    → b ≡ get_or items i b
    → AreBindings us rs (take (i + 1) items)
bindings_step ts us ss rs s items i b h g k e l is vs m =
    ap (bindings vs) e ∙ bindings_more ts us ss s (take i items) b h g k vs m
    ∙ ap (λ x. take i items ++ x ∷ []) is ∙ sym (take_more items i b l)

texts_append : (ts : List (List ℕ)) (ns : List NameId) (n : NameId)
    → texts_of ts (ns ++ n ∷ []) ≡ texts_of ts ns ++ name_of ts n.number ∷ []
texts_append ts [] n = refl
texts_append ts (m ∷ ns) n = ap (λ xs. name_of ts m.number ∷ xs) (texts_append ts ns n)

pub texts_step : (ts us : List (List ℕ)) (ns rs : List NameId) (n : NameId) (items : List (List ℕ)) (i : ℕ) (x : List ℕ)
    → AreTexts ts ns (take i items)
    → GoesOn ts us
    → Known us n.number x
    → rs ≡ ns ++ n ∷ []
    → i < length items
    → x ≡ get_or items i x
    → AreTexts us rs (take (i + 1) items)
texts_step ts us ns rs n items i x h g k e l is vs m =
    ap (texts_of vs) e
    ∙ texts_append vs ns n
    ∙ ap (λ xs. xs ++ name_of vs n.number ∷ []) (h vs (goes-then ts us vs g m))
    ∙ ap (λ y. take i items ++ y ∷ []) (k vs m)
    ∙ ap (λ y. take i items ++ y ∷ []) is ∙ sym (take_more items i x l)

members_append : (ts : List (List ℕ)) (es : List MemberEntry) (e : MemberEntry)
    → members_of ts (es ++ e ∷ []) ≡ members_of ts es ++ member_of ts e ∷ []
members_append ts [] e = refl
members_append ts (d ∷ es) e = ap (λ xs. member_of ts d ∷ xs) (members_append ts es e)

pub members_step : (ts us : List (List ℕ)) (es rs : List MemberEntry) (n : MemberEntry) (items : List Member) (i : ℕ)
    (x : Member)
    → AreMembers ts es (take i items)
    → GoesOn ts us
    → IsMember us n x
    → rs ≡ es ++ n ∷ []
    → i < length items
    → x ≡ get_or items i x
    → AreMembers us rs (take (i + 1) items)
members_step ts us es rs n items i x h g k e l is vs m =
    ap (members_of vs) e
    ∙ members_append vs es n
    ∙ ap (λ xs. xs ++ member_of vs n ∷ []) (h vs (goes-then ts us vs g m))
    ∙ ap (λ y. take i items ++ y ∷ []) (k vs m)
    ∙ ap (λ y. take i items ++ y ∷ []) is ∙ sym (take_more items i x l)
