-- What is kept of an expression that was made ready, and code that is held of its text.
use Rattle.std.proofs.Common.{◌≡◌, true, List, [], ◌∷◌, ◌++◌, inl, inr, length, subst, sym, ap, ◌∙◌, Option, Some}
use Rattle.std.proofs.lemmas.Bool.{eqb-true}
use Rattle.js_heap.specs.Values.{same_address}
use Rattle.js_heap.specs.declared.value.Addr.{Addr}
use Rattle.js_heap.specs.declared.value.Addr.TheVariants.{Base, Scratch}
use Rattle.js_parser.specs.Expressions.{expression_of}
use Rattle.js_parser_numbering.specs.Numbered.{numbered_made}
use Rattle.js_parser_numbering.proofs.NumberedLaws.{numbered_same}
use Rattle.js_semantics.specs.Evaluation.{kept_tree}
use Rattle.js_tree.specs.Trees as trees
use Rattle.js_tree.specs.Views.{expression_view}
use Rattle.js_tree.specs.declared.script.Expression.{Expression}
use Rattle.pure_eval.specs.Holding.{AreOf, HeldSource, HoldsToo, source_for}
use Rattle.pure_eval.specs.Preparing.{IsPrepared}
use Rattle.pure_eval.specs.declared.prepared.PreparedSource.{PreparedSource}
use Rattle.cdp_session.specs.Conditions.{AreRead, IsKeptReady, IsParsedTo, IsRead, IsReadyText}
use Rattle.cdp_session.specs.declared.ready.Ready.{Ready}

same-place : (a b : Addr) → same_address a b ≡ true → a ≡ b
same-place (Base m) (Base n) same = ap Base (eqb-true m n same)
same-place (Base m) (Scratch n) same = absurd cc
same-place (Scratch m) (Base n) same = absurd cc
same-place (Scratch m) (Scratch n) same = ap Scratch (eqb-true m n same)

-- what is kept for an address is ready at that address
pub kept-ready : (e now : Expression) (o : Option Ready) (r : Ready) (at : Addr)
    → IsKeptReady e o
    → o ≡ Some r
    → e ≡ now
    → same_address r.at at ≡ true
    → IsPrepared at now r.source
kept-ready e now o r at kept is view same =
    subst (λ k. IsPrepared at k r.source) view
    (subst (λ k. IsPrepared k e r.source) (same-place r.at at same) (subst (IsKeptReady e) is kept))

-- ---- by their texts

-- an expression that its text was parsed to has the term of that text where it is ready
pub ready-text : (e : Expression) (at : Addr) (p : PreparedSource)
    → IsParsedTo e.source e
    → IsPrepared at e p
    → IsReadyText at p
ready-text e at p parsed ready = record {
  tree = expression_view e.tree;
  is = ap expression_of ready.source ∙ parsed.tree;
  term = ready.term ∙ ap (kept_tree at) (sym (numbered_same e.tree (length e.spans) parsed.numbered));
}

read_for : (at : Addr) (p : PreparedSource) → IsReadyText at p → IsRead (source_for at p)
read_for at p r e is =
    let some : Some r.tree ≡ Some e = sym r.is ∙ is in
    let same : r.tree ≡ e = cc in
    r.term ∙ ap (λ (t : trees.Expression). kept_tree at (numbered_made t)) same

read_behind : (hs : List HeldSource) (h : HeldSource) → AreRead hs → IsRead h → AreRead (hs ++ h ∷ [])
read_behind [] h a r = (r, tt)
read_behind (k ∷ hs) h a r = (a.0, read_behind hs h a.1 r)

-- what is held has the terms of its texts, with one source more too that is ready
pub read-more : (at : Addr) (p : PreparedSource) (old new : List HeldSource)
    → IsReadyText at p
    → AreRead old
    → HoldsToo (source_for at p) old new
    → AreRead new
read-more at p old new r a (inl same) = subst AreRead (sym same) a
read-more at p old new r a (inr (inl more)) =
    subst AreRead (sym more) (read_behind old (source_for at p) a (read_for at p r))
read-more at p old new r a (inr (inr one)) = subst AreRead (sym one) (read_for at p r, tt)

-- what is held of the text of a source that is ready has its term
pub are-of : (at : Addr) (p : PreparedSource) (hs : List HeldSource) → IsReadyText at p → AreRead hs → AreOf at p hs
are-of at p [] r a = tt
are-of at p (h ∷ hs) r a = (
  λ text place. a.0 r.tree (ap expression_of text ∙ r.is)
      ∙ ap (λ b. kept_tree b (numbered_made r.tree)) place
      ∙ sym r.term,
  are-of at p hs r a.1,
)
