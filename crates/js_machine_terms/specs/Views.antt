-- What the code's terms are: the terms of the definitions.
use Rattle.std.specs.Prelude.{List, [], ◌∷◌, map}
use Rattle.js_semantics.specs.Terms as semantics
use Rattle.js_machine_terms.specs.declared.term.Term.{Term}
use Rattle.js_machine_terms.specs.declared.term.Terms.{Terms}
use Rattle.js_machine_terms.specs.declared.term.Term.TheOpen.{Term-F, Terms-F}
use Rattle.js_machine_terms.specs.declared.term.Term.TheFolds.{fold-Term, fold-Terms}

-- parts in order
abbrev pub listed : List semantics.Term → semantics.Terms
listed [] = semantics.end
listed (t ∷ ts) = semantics.more t (listed ts)

-- one level of each type, with the views of its parts
abbrev pub term_layer : Term-F semantics.Term semantics.Terms → semantics.Term
term_layer (Term-F.Done v) = semantics.done v
term_layer (Term-F.Standing v s) = semantics.standing v s
term_layer (Term-F.Part f now later) = semantics.part f.value now later

-- some parts, in order
abbrev pub terms_layer : Terms-F semantics.Term semantics.Terms → semantics.Terms
terms_layer ts = listed ts.items.items

-- the term of the definitions that a term of the code is
unfoldable pub term_view : Term → semantics.Term
term_view = fold-Term semantics.Term semantics.Terms term_layer terms_layer

-- the parts of the definitions that parts of the code are
unfoldable pub terms_view : Terms → semantics.Terms
terms_view = fold-Terms semantics.Term semantics.Terms term_layer terms_layer

-- the parts of the definitions that a list of terms is
abbrev pub listed_view : List Term → semantics.Terms
listed_view ts = listed (map term_view ts)
