-- The number of cells never ends a chain of scopes.
use Rattle.std.proofs.Common.{◌≡◌, ℕ, zero, suc, ◌+◌, ◌<◌, Bool, true, false, List, [], ◌∷◌, length, Option, None, Some, refl, sym, ap, subst, arith}
use Rattle.js_heap.specs.declared.value.Addr.{Addr}
use Rattle.js_heap.specs.declared.value.Addr.TheVariants.{Base, Scratch}
use Rattle.js_heap.specs.declared.cell.Cell.{Cell}
use Rattle.js_heap.specs.declared.cell.Cell.TheVariants as cells
use Rattle.js_heap.specs.declared.cell.ScopeKind.{ScopeKind}
use Rattle.js_heap.specs.declared.cell.ScopeKind.TheVariants as kinds
use Rattle.js_heap.specs.World.{World, read_cell}
use Rattle.js_heap.specs.Worlds.{Leads, IsScopeKind, SoundScope, SoundCell, IsSound}
use Rattle.js_heap.proofs.SoundLemmas.{read-sound}
use Rattle.js_semantics.specs.Frames.{as_local, ListedScope, listed_as, still_inside, outward, scope_listed, listed_within, scope_chain}
use Rattle.frames_scopes.specs.Scopes.{scope_parts}
use Rattle.frames_scopes.specs.Chains.{HasNoLocal, HasOneLocal, IsChain, HasWholeChain, IsOlder, IsWithinOlder, IsNested}
use Rattle.frames_scopes.proofs.NestLemmas.{live-below}

-- how many cells came before an address
abbrev age : World → Addr → ℕ
age w (Base i) = i
age w (Scratch i) = length w.base + i

-- a live older cell has fewer before it
older-age : (w : World) (a b : Addr) → SoundScope w (Some a) → IsOlder a b → age w a < age w b
older-age w (Base i) (Base j) h k = k
older-age w (Base i) (Scratch j) h k = let l : i < length w.base = live-below IsScopeKind w.base i h in omega arith
older-age w (Scratch i) (Base j) h k = absurd k
older-age w (Scratch i) (Scratch j) h k = omega arith

live-age : (w : World) (a : Addr) → SoundScope w (Some a) → age w a < length w.base + length w.scratch
live-age w (Base i) h = let l : i < length w.base = live-below IsScopeKind w.base i h in omega arith
live-age w (Scratch i) h = let l : i < length w.scratch = live-below IsScopeKind w.scratch i h in omega arith

-- what a cell that is a scope has around it
abbrev OuterOf : World → Addr → Option Cell → Type 0
OuterOf w a (Some (cells.Bindings kind name outer names)) =
    SoundScope w outer × IsWithinOlder a (Some (cells.Bindings kind name outer names))
OuterOf w a c = Unit {0}

outer-of : (w : World) (a : Addr) (c : Option Cell) → IsSound w → IsNested w → read_cell w a ≡ c → OuterOf w a c
outer-of w a None s n e = tt
outer-of w a (Some (cells.Object ps)) s n e = tt
outer-of w a (Some (cells.Error class ps)) s n e = tt
outer-of w a (Some (cells.Array vs)) s n e = tt
outer-of w a (Some (cells.Text us)) s n e = tt
outer-of w a (Some (cells.Function code m l o t)) s n e = tt
outer-of w a (Some (cells.Bindings kind name outer names)) s n e =
    let k : SoundCell w (cells.Bindings kind name outer names) = read-sound w a (cells.Bindings kind name outer names)
    e s in
    (k.0, subst (λ o. IsWithinOlder a o) e (n.outward a))

-- the rest of a chain behind a scope
rest-chain : (n : ℕ) (w : World) (inside : Bool) (a : Addr) (kind : _) (name : List ℕ) (outer : Option Addr) (names : _)
    → age w a < suc n
    → ((b : Addr)
    → SoundScope w (Some b)
    → age w b < n
    → IsChain w (still_inside kind inside) (Some b) (listed_within n w (still_inside kind inside) b))
    → OuterOf w a (Some (cells.Bindings kind name outer names))
    → IsChain w (still_inside kind inside) outer (outward outer (listed_within n w (still_inside kind inside)))
rest-chain n w inside a kind name None names l rec h = tt
rest-chain n w inside a kind name (Some b) names l rec h =
    let k : age w b < age w a = older-age w b a h.0 h.1 in
    rec b h.0 (omega arith)

link : (n : ℕ) (w : World) (inside : Bool) (a : Addr) (c : Option Cell)
    → read_cell w a ≡ c
    → Leads IsScopeKind c
    → age w a < suc n
    → ((inner : Bool) (b : Addr)
    → SoundScope w (Some b)
    → age w b < n
    → IsChain w inner (Some b) (listed_within n w inner b))
    → OuterOf w a c
    → IsChain w inside (Some a) (scope_listed inside a c (listed_within n w))
link n w inside a None e h l rec o = absurd h
link n w inside a (Some (cells.Object ps)) e h l rec o = absurd (cc)
link n w inside a (Some (cells.Error class ps)) e h l rec o = absurd (cc)
link n w inside a (Some (cells.Array vs)) e h l rec o = absurd (cc)
link n w inside a (Some (cells.Text us)) e h l rec o = absurd (cc)
link n w inside a (Some (cells.Function code m k s t)) e h l rec o = absurd (cc)
link n w inside a (Some (cells.Bindings kind name outer names)) e h l rec o = (
  record { kind = kind; name = name; outer = outer },
  ap scope_parts e,
  refl,
  rest-chain n w inside a kind name outer names l (rec (still_inside kind inside)) o,
)

pub chain-within : (n : ℕ) (w : World) (inside : Bool) (a : Addr)
    → IsSound w
    → IsNested w
    → SoundScope w (Some a)
    → age w a < n
    → IsChain w inside (Some a) (listed_within n w inside a)
chain-within zero w inside a s d h l = absurd (omega arith)
chain-within (suc n) w inside a s d h l =
    link n w inside a (read_cell w a) refl h l (λ inner b k m. chain-within n w inner b s d k m)
    (outer-of w a (read_cell w a) s d refl)

pub whole-chain : (w : World) (a : Addr) → IsSound w → IsNested w → SoundScope w (Some a) → HasWholeChain w a
whole-chain w a s d h = chain-within (length w.base + length w.scratch) w true a s d h (live-age w a h)

-- ---- the scope of the frame's own call

none-local : (kind : ScopeKind) → listed_as kind false ≡ as_local → ⊥
none-local kinds.Block e = cc
none-local kinds.Catch e = cc
none-local kinds.Function e = cc
none-local kinds.Named e = cc
none-local kinds.Script e = cc
none-local kinds.Global e = cc

still-beyond : (kind : ScopeKind) → still_inside kind false ≡ false
still-beyond kinds.Block = refl
still-beyond kinds.Catch = refl
still-beyond kinds.Function = refl
still-beyond kinds.Named = refl
still-beyond kinds.Script = refl
still-beyond kinds.Global = refl

outward-holds : (P : List ListedScope → Type 0) (o : Option Addr) (further : Addr → List ListedScope)
    → P []
    → ((a : Addr) → P (further a))
    → P (outward o further)
outward-holds P None further h k = h
outward-holds P (Some a) further h k = k a

no-local-at : (a : Addr) (c : Option Cell) (further : Bool → Addr → List ListedScope)
    → ((b : Addr) → HasNoLocal (further false b))
    → HasNoLocal (scope_listed false a c further)
no-local-at a (Some (cells.Bindings kind name outer names)) further h = (
  none-local kind,
  outward-holds HasNoLocal outer (further (still_inside kind false)) tt
      (λ b. subst (λ i. HasNoLocal (further i b)) (sym (still-beyond kind)) (h b)),
)
no-local-at a None further h = tt
no-local-at a (Some (cells.Object ps)) further h = tt
no-local-at a (Some (cells.Error class ps)) further h = tt
no-local-at a (Some (cells.Array vs)) further h = tt
no-local-at a (Some (cells.Text us)) further h = tt
no-local-at a (Some (cells.Function code m l s t)) further h = tt

no-local : (n : ℕ) (w : World) (a : Addr) → HasNoLocal (listed_within n w false a)
no-local zero w a = tt
no-local (suc n) w a = no-local-at a (read_cell w a) (listed_within n w) (no-local n w)

one-local-behind : (kind : ScopeKind) (o : Option Addr) (further : Bool → Addr → List ListedScope)
    → ((b : Addr) → HasNoLocal (further false b))
    → listed_as kind true ≡ as_local
    → HasNoLocal (outward o (further (still_inside kind true)))
one-local-behind kinds.Function o further h e = outward-holds HasNoLocal o (further false) tt h
one-local-behind kinds.Block o further h e = cc
one-local-behind kinds.Catch o further h e = cc
one-local-behind kinds.Named o further h e = cc
one-local-behind kinds.Script o further h e = cc
one-local-behind kinds.Global o further h e = cc

either-inside : (P : Bool → Type 0) → P true → P false → (b : Bool) → P b
either-inside P h k true = h
either-inside P h k false = k

weaker : (ls : List ListedScope) → HasNoLocal ls → HasOneLocal ls
weaker [] h = tt
weaker (l ∷ ls) h = (λ e. absurd (h.0 e), weaker ls h.1)

one-local-at : (a : Addr) (c : Option Cell) (further : Bool → Addr → List ListedScope)
    → ((b : Addr) → HasNoLocal (further false b))
    → ((b : Addr) → HasOneLocal (further true b))
    → HasOneLocal (scope_listed true a c further)
one-local-at a (Some (cells.Bindings kind name outer names)) further h k = (
  one-local-behind kind outer further h,
  outward-holds HasOneLocal outer (further (still_inside kind true)) tt
      (λ b. either-inside (λ i. HasOneLocal (further i b)) (k b) (weaker (further false b) (h b))
      (still_inside kind true)),
)
one-local-at a None further h k = tt
one-local-at a (Some (cells.Object ps)) further h k = tt
one-local-at a (Some (cells.Error class ps)) further h k = tt
one-local-at a (Some (cells.Array vs)) further h k = tt
one-local-at a (Some (cells.Text us)) further h k = tt
one-local-at a (Some (cells.Function code m l s t)) further h k = tt

one-local-within : (n : ℕ) (w : World) (a : Addr) → HasOneLocal (listed_within n w true a)
one-local-within zero w a = tt
one-local-within (suc n) w a = one-local-at a (read_cell w a) (listed_within n w) (no-local n w) (one-local-within n w)

pub one-local : (w : World) (a : Addr) → HasOneLocal (scope_chain w a)
one-local w a = one-local-within (length w.base + length w.scratch) w a
