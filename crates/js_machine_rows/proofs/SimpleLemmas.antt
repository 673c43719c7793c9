-- Lemmas on rows that touch no cell.
use Rattle.std.proofs.Common.{◌≡◌, ℕ, List, [], ◌∷◌, drop, Some, None, sym, ap, ◌∙◌}
use Rattle.std.specs.Prelude.{slice_get}
use Rattle.js_heap.specs.declared.value.Value.{Value}
use Rattle.js_heap.specs.declared.value.Value.TheVariants as values
use Rattle.js_heap.specs.World.{World}
use Rattle.js_semantics.specs.declared.form.Mark.{Mark}
use Rattle.js_semantics.specs.declared.form.Completion.TheVariants.{Returns as returning}
use Rattle.js_semantics.specs.Terms.{Term, Terms, part, one, end, more}
use Rattle.js_semantics.specs.declared.form.Form.TheVariants.{Comma as comma}
use Rattle.js_semantics.specs.State.{State, give, raise, leave, go, set_here, pop_frame, this_of}
use Rattle.js_semantics.specs.Rows.{comma_row}
use Rattle.js_machine_nodes.specs.declared.table.NodeTable.{NodeTable}
use Rattle.js_machine_nodes.specs.Trees.{tree, terms, kids_between}
use Rattle.js_machine_actions.specs.Contexts.{Context, state_of, Turns}
use Rattle.js_machine_actions.specs.Flow.{performed}
use Rattle.js_machine_engine.specs.declared.reduced.Reduced.TheVariants as reduced
use Rattle.js_machine_engine.specs.Tasks.{Wide, later_of}
use Rattle.js_machine_engine.specs.Answers.{reduced_move, reduced_term, head_of, rest_of}
use Rattle.js_machine_rows.specs.Calls.{ActsAnywhere}
use Rattle.js_machine_rows.specs.Does.{Does}
use Rattle.js_machine_rows.specs.Simple.{CommaOf}
use Rattle.js_machine_rows.proofs.PartLemmas.{no-trees, first-trees}

pub this-acts : (ts : List (List ℕ)) (w : World) (c : Context) (v : Value)
    → (taken : List (List ℕ))
    → (t : NodeTable) (e : Wide)
    → v ≡ this_of (state_of w c taken)
    → Does ts t e (give (this_of (state_of w c taken))) (state_of w c taken) (reduced.Gives v) (state_of w c taken)
unfolding performed reduced_move reduced_term
this-acts ts w c v taken t e h = ap (λ x. performed (give x) (state_of w c taken)) (sym h)

pub given-acts : (ts : List (List ℕ)) (w : World) (c : Context) (v u : Value)
    → v ≡ u
    → ActsAnywhere ts (λ s. give u) w c (reduced.Gives v) w c
unfolding performed reduced_move reduced_term
given-acts ts w c v u h = λ t e taken. ap (λ x. performed (give x) (state_of w c taken)) (sym h)

pub returned-acts : (ts : List (List ℕ)) (w : World) (c : Context) (v u : Value)
    → v ≡ u
    → ActsAnywhere ts (λ s. leave (returning u)) w c (reduced.Returns v) w c
unfolding performed reduced_move
returned-acts ts w c v u h = λ t e taken. ap (λ x. performed (leave (returning x)) (state_of w c taken)) (sym h)

pub thrown-acts : (ts : List (List ℕ)) (w : World) (c d : Context) (m : Mark) (v u : Value)
    → v ≡ u
    → Turns (set_here m) c d
    → ActsAnywhere ts (λ s. set_here m (raise u)) w c (reduced.Raises v) w d
unfolding performed reduced_move
thrown-acts ts w c d m v u h g =
    λ t e taken. g w taken (raise u) ∙ ap (λ x. performed (raise x) (state_of w d taken)) (sym h)

pub frame-acts : (ts : List (List ℕ)) (w : World) (c d : Context)
    → Turns pop_frame c d
    → ActsAnywhere ts (λ s. pop_frame (give values.Undefined)) w c (reduced.Gives values.Undefined) w d
unfolding performed reduced_move reduced_term
frame-acts ts w c d g = λ t e taken. g w taken (give values.Undefined)

-- ---- commas

comma_none : (ts : List (List ℕ)) (t : NodeTable) (e : Wide) (s : State) (l : Terms)
    → l ≡ end
    → Does ts t e (comma_row l) s (reduced.Gives values.Undefined) s
unfolding performed reduced_move reduced_term
comma_none ts t e s l h = ap (λ x. performed (comma_row x) s) h

comma_one : (ts : List (List ℕ)) (t : NodeTable) (e : Wide) (s : State) (l : Terms) (k : ℕ)
    → l ≡ more (tree ts t k) end
    → Does ts t e (comma_row l) s (reduced.Goes k) s
unfolding performed reduced_move reduced_term
comma_one ts t e s l k h = ap (λ x. performed (comma_row x) s) h

comma_on : (l : Terms) (a b : Term) (us : Terms)
    → l ≡ more a (more b us)
    → comma_row l ≡ go (part comma (one (head_of l)) (rest_of l))
comma_on l a b us h = ap (λ x. comma_row x) h ∙ ap (λ x. go (part comma (one (head_of x)) (rest_of x))) (sym h)

comma_two : (a b : Term) (us : Terms) (ts : List (List ℕ)) (t : NodeTable) (e : Wide) (s : State)
    → later_of ts t e ≡ more a (more b us)
    → Does ts t e (comma_row (later_of ts t e)) s reduced.Commas s
unfolding performed reduced_move reduced_term
comma_two a b us ts t e s h = ap (λ x. performed x s) (comma_on (later_of ts t e) a b us h)

one_only : (f : ℕ → Term) (ks : List ℕ) (k : ℕ)
    → Some k ≡ slice_get ks 0
    → None ≡ slice_get ks 1
    → terms f ks ≡ more (f k) end
one_only f [] k h g = cc
one_only f (j ∷ []) k h g = ap (λ x. more (f x) end) cc
one_only f (j ∷ i ∷ ks) k h g = cc

pub comma-none : (t : NodeTable) (from to : ℕ)
    → None ≡ slice_get (kids_between t from to) 0
    → CommaOf t from to (reduced.Gives values.Undefined)
comma-none t from to h = λ ts e s i. comma_none ts t e s (later_of ts t e) (i ∙ no-trees ts t from to h)

pub comma-one : (t : NodeTable) (from to k : ℕ)
    → Some k ≡ slice_get (kids_between t from to) 0
    → None ≡ slice_get (kids_between t from to) 1
    → CommaOf t from to (reduced.Goes k)
comma-one t from to k h g =
    λ ts e s i. comma_one ts t e s (later_of ts t e) k (i ∙ one_only (tree ts t) (kids_between t from to) k h g)

pub comma-more : (t : NodeTable) (from to k l : ℕ)
    → Some k ≡ slice_get (kids_between t from to) 0
    → Some l ≡ slice_get (kids_between t from to) 1
    → CommaOf t from to reduced.Commas
comma-more t from to k l h g =
    λ ts e s i. comma_two (tree ts t k) (tree ts t l) (terms (tree ts t) (drop 2 (kids_between t from to))) ts t e s
    (i ∙ first-trees ts t from to k l h g)
