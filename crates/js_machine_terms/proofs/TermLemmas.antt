-- What a term of each kind looks like.
use Rattle.std.proofs.Common.{◌≡◌, List, [], ◌∷◌, ◌++◌, map, refl, sym, ap, ◌∙◌}
use Rattle.std.proofs.lemmas.List.{map-append}
use Rattle.std.specs.Global.{Vec, Box}
use Rattle.js_heap.specs.declared.value.Value.{Value}
use Rattle.js_semantics.specs.Terms as semantics
use Rattle.js_semantics.specs.declared.form.SourceMark.{SourceMark}
use Rattle.js_semantics.specs.declared.form.Form.{Form}
use Rattle.js_machine_terms.specs.declared.term.Term.{Term}
use Rattle.js_machine_terms.specs.declared.term.Terms.{Terms}
use Rattle.js_machine_terms.specs.declared.term.Term.TheOpen.{Term-F}
use Rattle.js_machine_terms.specs.declared.term.Term.TheFolds.{fold-roll-Term, fold-roll-Terms, fold_out-Terms}
use Rattle.js_machine_terms.specs.declared.term.Term.TheVariants.{rolls-Done, rolls-Standing, rolls-Part}
use Rattle.js_machine_terms.specs.declared.term.Term.TheViews as views
use Rattle.js_machine_terms.specs.Views.{term_view, terms_view, term_layer, terms_layer, listed, listed_view}

pub view_done : (v : Value) → term_view (Term.Done v) ≡ semantics.done v
unfolding term_view terms_view
view_done v =
    ap term_view (sym (rolls-Done v))
    ∙ fold-roll-Term semantics.Term semantics.Terms term_layer terms_layer (Term-F.Done v)

pub view_standing : (v : Value) (s : SourceMark) → term_view (Term.Standing v s) ≡ semantics.standing v s
unfolding term_view terms_view
view_standing v s =
    ap term_view (sym (rolls-Standing v s))
    ∙ fold-roll-Term semantics.Term semantics.Terms term_layer terms_layer (Term-F.Standing v s)

pub view_part : (f : Box Form) (now later : Terms)
    → term_view (views.Part f now later) ≡ semantics.part f.value (terms_view now) (terms_view later)
unfolding term_view terms_view
view_part f now later =
    ap term_view (sym (rolls-Part f now later))
    ∙ fold-roll-Term semantics.Term semantics.Terms term_layer terms_layer (Term-F.Part f now later)

pub view_terms : (items : Vec Term) → terms_view (views.roll-Terms (record { items = items })) ≡ listed_view items.items
unfolding term_view terms_view
view_terms items = fold-roll-Terms semantics.Term semantics.Terms term_layer terms_layer (record { items = items })

pub terms_listed : (ts : Terms) → terms_view ts ≡ listed_view ts.items.items
unfolding term_view terms_view
terms_listed ts = fold_out-Terms semantics.Term semantics.Terms term_layer terms_layer ts

pub ruleset term_laws = (view_done, view_standing, view_part)

pub listed-append : (xs ys : List semantics.Term) → listed (xs ++ ys) ≡ semantics.joined (listed xs) (listed ys)
listed-append [] ys = refl
listed-append (x ∷ xs) ys = ap (semantics.more x) (listed-append xs ys)

-- parts after parts
pub listed_view-append : (xs ys : List Term)
    → listed_view (xs ++ ys) ≡ semantics.joined (listed_view xs) (listed_view ys)
listed_view-append xs ys = ap listed (map-append term_view xs ys) ∙ listed-append (map term_view xs) (map term_view ys)

pub ruleset joined_laws = (listed_view-append)
