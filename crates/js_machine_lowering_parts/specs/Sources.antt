-- Where a part of a tree stands, and what is made of functions, declarators and object literals.
use Rattle.std.specs.Prelude.{ℕ, true, false, List, Option, Some, None}
use Rattle.js_heap.specs.declared.cell.Binding.{Binding}
use Rattle.js_semantics.specs.declared.form.FunctionForm.{FunctionForm}
use Rattle.js_semantics.specs.Terms as semantics
use Rattle.js_semantics.specs.declared.form.Form.TheVariants as forms
use Rattle.js_semantics.specs.Makers.{form_of, initializer_terms, Parts, LoweringContext, MadeExpression, MadeDeclarator}
use Rattle.js_machine_lowering_parts.specs.declared.places.LoweringContext.{LoweringContext as Held}
use Rattle.js_machine_lowering_parts.specs.declared.objects.ObjectParts.{ObjectParts}
use Rattle.js_machine_terms.specs.Views.{terms_view}

-- where a part stands
abbrev pub context_of : Held → LoweringContext
context_of p = record { source = p.source; statement = p.statement; name = p.name.now }

-- the form of a function with its own name, or with that of its place
abbrev pub own_form : ℕ → Option (List ℕ) → List (List ℕ) → List Binding → LoweringContext → FunctionForm
own_form node (Some n) ps names c = form_of node c.source n ps names false true
own_form node None ps names c = form_of node c.source c.name ps names false false

-- a declarator
abbrev pub declarator_term : MadeDeclarator → LoweringContext → semantics.Term
declarator_term d c = semantics.part (forms.Initialize d.name) (initializer_terms d.name d.initializer c) semantics.end

-- the parts of an object literal
abbrev pub parts_view : ObjectParts → Parts
parts_view p = record { now = terms_view p.now; later = terms_view p.later }

-- the value of a declarator, where it has one, in the place that gives it its name
abbrev pub initialized : Option MadeExpression → LoweringContext → semantics.Terms
initialized None c = semantics.end
initialized (Some e) c = semantics.one (e.term c)
