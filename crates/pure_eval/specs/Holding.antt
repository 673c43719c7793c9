-- Code that is held behind all sources, for evaluations that come again.
use Rattle.std.specs.Prelude.{◌≡◌, ◌⊎◌, ℕ, List, [], ◌∷◌, ◌++◌, Option, Some, None, slice_get}
use Rattle.js_heap.specs.declared.value.Addr.{Addr}
use Rattle.js_semantics.specs.declared.form.Source.TheVariants.{Kept as kept_source}
use Rattle.js_semantics.specs.Terms.{Term}
use Rattle.js_heap_memory.specs.Names.{GoesOn}
use Rattle.js_machine_nodes.specs.declared.node.SourceEntry.{SourceEntry}
use Rattle.js_machine_nodes.specs.declared.table.NodeTable.{NodeTable}
use Rattle.js_machine_nodes.specs.Trees.{tree}
use Rattle.js_machine_compiler.specs.Grown.{HasTree}
use Rattle.js_machine_terms.specs.Views.{term_view}
use Rattle.pure_eval.specs.declared.holding.CodeChoice.{CodeChoice}
use Rattle.pure_eval.specs.declared.holding.CodeChoice.TheVariants as choices
use Rattle.pure_eval.specs.declared.holding.HeldCode.{HeldCode}
use Rattle.pure_eval.specs.declared.holding.HeldCodes.{HeldCodes}
use Rattle.pure_eval.specs.declared.prepared.PreparedSource.{PreparedSource}
use Rattle.pure_eval.specs.Whole.{IsWithin, Finds}
use Rattle.pure_eval.specs.Cutting.{IsBack}

-- ---- the code of a source that a table hasn't

-- an entry is that of a source of this term that is kept at an address, however names and table go on
pub record HasCode (names : List (List ℕ)) (t : NodeTable) (at : Addr) (x : Term) (e : SourceEntry) : Type 0 where
  pub source : e.source ≡ kept_source at
  pub tree : HasTree names t e.root x
  pub within : IsWithin t e
  pub finds : Finds t e

-- the code of such a source is added, and the sources are as they were
pub record IsCodeAdded (names : List (List ℕ)) (t : NodeTable) (at : Addr) (x : Term) (more : List (List ℕ))
    (u : NodeTable) (e : SourceEntry) : Type 0 where
  pub goes_on : GoesOn names more
  pub back : IsBack t u
  pub code : HasCode more u at x e

-- the term of code that is held; where none is, that of code that is added
abbrev pub code_term : List (List ℕ) → NodeTable → Term → Option SourceEntry → Term
code_term names t x None = x
code_term names t x (Some e) = tree names t e.root

-- code that is held, if it is, is that of a source that is kept at an address
abbrev pub IsHeldAt : List (List ℕ) → NodeTable → Addr → Option SourceEntry → Type 0
IsHeldAt names t at None = Unit {0}
IsHeldAt names t at (Some e) = HasCode names t at (tree names t e.root) e

-- ---- the codes that are held

-- a source of which the code is held: its text, the address at which it would be kept, and its term
pub record HeldSource : Type 0 where
  pub source : List ℕ
  pub at : Addr
  pub term : Term

-- that of a source which was prepared for an address
abbrev pub source_for : Addr → PreparedSource → HeldSource
source_for at p = record { source = p.source; at = at; term = term_view p.term }

-- the sources of codes in a table
abbrev pub held_sources : List (List ℕ) → NodeTable → List HeldCode → List HeldSource
held_sources names t [] = []
held_sources names t (c ∷ cs) =
    record { source = c.source; at = c.at; term = tree names t c.entry.root } ∷ held_sources names t cs

-- the sources of the codes that are held, if any are
abbrev pub sources_held : List (List ℕ) → NodeTable → Option HeldCodes → List HeldSource
sources_held names t None = []
sources_held names t (Some h) = held_sources names t h.codes.items

-- each code has its term, however names and table go on
abbrev pub AreCodes : List (List ℕ) → NodeTable → List HeldCode → Type 0
AreCodes names t [] = Unit {0}
AreCodes names t (c ∷ cs) = HasCode names t c.at (tree names t c.entry.root) c.entry × AreCodes names t cs

-- ---- finding one

-- what is held of a source's text at an address has its term
abbrev pub AreOf : Addr → PreparedSource → List HeldSource → Type 0
AreOf at p [] = Unit {0}
AreOf at p (h ∷ hs) = (h.source ≡ p.source → h.at ≡ at → h.term ≡ term_view p.term) × AreOf at p hs

-- the same entry
pub record IsCopy (e f : SourceEntry) : Type 0 where
  pub source : f.source ≡ e.source
  pub root : f.root ≡ e.root
  pub functions : f.functions.items ≡ e.functions.items

-- at a place stands the code of a text at an address
pub record StandsAt (codes : List HeldCode) (at : Addr) (source : List ℕ) (place : ℕ) : Type 0 where
  pub code : HeldCode
  pub there : slice_get codes place ≡ Some code
  pub source_is : code.source ≡ source
  pub at_is : code.at ≡ at

-- an entry is a copy of the one of such code
pub record IsFound (codes : List HeldCode) (at : Addr) (source : List ℕ) (e : SourceEntry) : Type 0 where
  pub place : ℕ
  pub stands : StandsAt codes at source place
  pub copy : IsCopy stands.code.entry e

-- the code that is held of a text at an address, if there is one
abbrev pub IsEntryOf : Option HeldCodes → Addr → List ℕ → Option SourceEntry → Type 0
IsEntryOf held at source None = Unit {0}
IsEntryOf None at source (Some e) = ⊥
IsEntryOf (Some h) at source (Some e) = IsFound h.codes.items at source e

-- at a place of what is held stands the code of a text at an address
abbrev pub IsHeldThere : Option HeldCodes → Addr → List ℕ → ℕ → Type 0
IsHeldThere None at source place = ⊥
IsHeldThere (Some h) at source place = StandsAt h.codes.items at source place

-- the same where held code is to be taken, else none
abbrev pub IsChosen : CodeChoice → Option HeldCodes → Addr → List ℕ → Option SourceEntry → Type 0
IsChosen choices.New held at source None = Unit {0}
IsChosen choices.New held at source (Some e) = ⊥
IsChosen choices.Held held at source o = IsEntryOf held at source o

-- where held code is to be taken, what is held of a source's text at an address has its term
abbrev pub AreOfChoice : CodeChoice → Addr → PreparedSource → List HeldSource → Type 0
AreOfChoice choices.New at p hs = Unit {0}
AreOfChoice choices.Held at p hs = AreOf at p hs

-- ---- holding one more

-- a source more is held, or no other than before; all others may have been given up
abbrev pub HoldsToo : HeldSource → List HeldSource → List HeldSource → Type 0
HoldsToo h old new = (new ≡ old) ⊎ ((new ≡ old ++ h ∷ []) ⊎ (new ≡ h ∷ []))
