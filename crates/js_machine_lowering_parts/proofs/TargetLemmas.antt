-- What is made of a term that is read, and of every other.
use Rattle.std.proofs.Common.{◌≡◌, ℕ, Bool, Option, Some, None, refl, sym, ap, ◌∙◌}
use Rattle.js_tree_operators.specs.declared.operator.UnaryOperator.TheVariants as unaries
use Rattle.js_tree_operators.specs.declared.operator.UpdateOperator.{UpdateOperator}
use Rattle.js_tree_operators.specs.declared.operator.BinaryOperator.{BinaryOperator}
use Rattle.js_tree_operators.specs.declared.operator.BinaryOperator.TheVariants as binaries
use Rattle.js_heap.specs.declared.value.Value.TheVariants as values
use Rattle.js_semantics.specs.declared.form.Mark.{Mark}
use Rattle.js_semantics.specs.declared.form.Reference.{Reference}
use Rattle.js_semantics.specs.declared.form.Form.{Form}
use Rattle.js_semantics.specs.declared.form.Form.TheVariants as forms
use Rattle.js_semantics.specs.Terms as semantics
use Rattle.js_semantics.specs.Terms.{Term, Terms}
use Rattle.js_semantics.specs.Makers as makers
use Rattle.js_machine_lowering_parts.specs.Targets.{ReadTerm, read_of, deciding_form}

-- ---- by what is read

abbrev assigned_by : Option ReadTerm → Term → Term → Term
assigned_by (Some x) t e =
    semantics.part (forms.Assign x.reference) (semantics.joined x.now (semantics.one e)) semantics.end
assigned_by None t e = t

assigned_is : (t e : Term) → makers.assigned_to t e ≡ assigned_by (read_of t) t e
assigned_is (semantics.part (forms.Read r) now later) e = refl
assigned_is _ e = refl

abbrev compounded_by : Option ReadTerm → BinaryOperator → Term → Term → Term
compounded_by (Some x) o t e = semantics.part (forms.Compound o x.reference) x.now (semantics.one e)
compounded_by None o t e = t

compounded_is : (o : BinaryOperator) (t e : Term) → makers.compounded o t e ≡ compounded_by (read_of t) o t e
compounded_is o (semantics.part (forms.Read r) now later) e = refl
compounded_is o _ e = refl

abbrev updated_by : Option ReadTerm → UpdateOperator → Bool → Term → Term
updated_by (Some x) o prefix t = semantics.part (forms.Update o prefix x.reference) x.now semantics.end
updated_by None o prefix t = t

updated_is : (o : UpdateOperator) (prefix : Bool) (t : Term)
    → makers.updated o prefix t ≡ updated_by (read_of t) o prefix t
updated_is o prefix (semantics.part (forms.Read r) now later) = refl
updated_is o prefix _ = refl

abbrev deleted_by : Option ReadTerm → Term → Term
deleted_by (Some x) t = semantics.part (forms.Delete x.reference) x.now semantics.end
deleted_by None t = t

deleted_is : (t : Term) → makers.deleted t ≡ deleted_by (read_of t) t
deleted_is (semantics.part (forms.Read r) now later) = refl
deleted_is _ = refl

abbrev call_by : Option ReadTerm → Mark → ℕ → Term → Terms → Term
call_by (Some x) place node t args = semantics.part (forms.CallOf x.reference place node) x.now args
call_by None place node t args =
    semantics.part (forms.Call place node) (semantics.more (semantics.done values.Undefined) (semantics.more t args))
    semantics.end

call_is : (place : Mark) (node : ℕ) (t : Term) (args : Terms)
    → makers.call_term place node t args ≡ call_by (read_of t) place node t args
call_is place node (semantics.part (forms.Read r) now later) args = refl
call_is place node _ args = refl

abbrev type_by : Option ReadTerm → Term → Term
type_by (Some x) t = makers.type_of (semantics.part (forms.Read x.reference) x.now x.later)
type_by None t = semantics.part (forms.Unary unaries.Typeof) (semantics.one t) semantics.end

type_is : (t : Term) → makers.type_of t ≡ type_by (read_of t) t
type_is (semantics.part (forms.Read r) now later) = refl
type_is _ = refl

-- ---- of a term that is read

pub assigned_read : (t e : Term) (r : Reference) (now later : Terms)
    → read_of t ≡ Some (record { reference = r; now = now; later = later })
    → makers.assigned_to t e ≡ semantics.part (forms.Assign r) (semantics.joined now (semantics.one e)) semantics.end
assigned_read t e r now later h = assigned_is t e ∙ ap (λ o. assigned_by o t e) h

pub compounded_read : (o : BinaryOperator) (t e : Term) (r : Reference) (now later : Terms)
    → read_of t ≡ Some (record { reference = r; now = now; later = later })
    → makers.compounded o t e ≡ semantics.part (forms.Compound o r) now (semantics.one e)
compounded_read o t e r now later h = compounded_is o t e ∙ ap (λ x. compounded_by x o t e) h

pub updated_read : (o : UpdateOperator) (prefix : Bool) (t : Term) (r : Reference) (now later : Terms)
    → read_of t ≡ Some (record { reference = r; now = now; later = later })
    → makers.updated o prefix t ≡ semantics.part (forms.Update o prefix r) now semantics.end
updated_read o prefix t r now later h = updated_is o prefix t ∙ ap (λ x. updated_by x o prefix t) h

pub deleted_read : (t : Term) (r : Reference) (now later : Terms)
    → read_of t ≡ Some (record { reference = r; now = now; later = later })
    → makers.deleted t ≡ semantics.part (forms.Delete r) now semantics.end
deleted_read t r now later h = deleted_is t ∙ ap (λ x. deleted_by x t) h

pub call_read : (place : Mark) (node : ℕ) (t : Term) (args : Terms) (r : Reference) (now later : Terms)
    → read_of t ≡ Some (record { reference = r; now = now; later = later })
    → makers.call_term place node t args ≡ semantics.part (forms.CallOf r place node) now args
call_read place node t args r now later h = call_is place node t args ∙ ap (λ x. call_by x place node t args) h

pub type_read : (t : Term) (r : Reference) (now later : Terms)
    → read_of t ≡ Some (record { reference = r; now = now; later = later })
    → makers.type_of t ≡ makers.type_of (semantics.part (forms.Read r) now later)
type_read t r now later h = type_is t ∙ ap (λ x. type_by x t) h

-- ---- of every other

pub assigned_other : (t e : Term) → read_of t ≡ None → makers.assigned_to t e ≡ t
assigned_other t e h = assigned_is t e ∙ ap (λ o. assigned_by o t e) h

pub compounded_other : (o : BinaryOperator) (t e : Term) → read_of t ≡ None → makers.compounded o t e ≡ t
compounded_other o t e h = compounded_is o t e ∙ ap (λ x. compounded_by x o t e) h

pub updated_other : (o : UpdateOperator) (prefix : Bool) (t : Term) → read_of t ≡ None → makers.updated o prefix t ≡ t
updated_other o prefix t h = updated_is o prefix t ∙ ap (λ x. updated_by x o prefix t) h

pub deleted_other : (t : Term) → read_of t ≡ None → makers.deleted t ≡ t
deleted_other t h = deleted_is t ∙ ap (λ x. deleted_by x t) h

pub call_other : (place : Mark) (node : ℕ) (t : Term) (args : Terms)
    → read_of t ≡ None
    → makers.call_term place node t args ≡ semantics.part (forms.Call place node)
    (semantics.more (semantics.done values.Undefined) (semantics.more t args)) semantics.end
call_other place node t args h = call_is place node t args ∙ ap (λ x. call_by x place node t args) h

pub type_other : (t : Term)
    → read_of t ≡ None
    → makers.type_of t ≡ semantics.part (forms.Unary unaries.Typeof) (semantics.one t) semantics.end
type_other t h = type_is t ∙ ap (λ x. type_by x t) h

-- ---- operators

abbrev binary_by : Option Form → BinaryOperator → Term → Term → Term
binary_by (Some f) o l r = semantics.part f (semantics.one l) (semantics.one r)
binary_by None o l r = semantics.part (forms.Binary o) (semantics.more l (semantics.one r)) semantics.end

binary_is : (o : BinaryOperator) (l r : Term) → makers.binary_term o l r ≡ binary_by (deciding_form o) o l r
binary_is binaries.LogicalAnd l r = refl
binary_is binaries.LogicalOr l r = refl
binary_is _ l r = refl

pub binary_deciding : (o : BinaryOperator) (f : Form) (l r : Term)
    → Some f ≡ deciding_form o
    → makers.binary_term o l r ≡ semantics.part f (semantics.one l) (semantics.one r)
binary_deciding o f l r h = binary_is o l r ∙ ap (λ d. binary_by d o l r) (sym h)

pub binary_plain : (o : BinaryOperator) (l r : Term)
    → None ≡ deciding_form o
    → makers.binary_term o l r ≡ semantics.part (forms.Binary o) (semantics.more l (semantics.one r)) semantics.end
binary_plain o l r h = binary_is o l r ∙ ap (λ d. binary_by d o l r) (sym h)

pub assignment_plain : (o : Option BinaryOperator) (t e : Term)
    → None ≡ o
    → makers.assignment o t e ≡ makers.assigned_to t e
assignment_plain o t e h = ap (λ p. makers.assignment p t e) (sym h)

pub assignment_with : (o : Option BinaryOperator) (p : BinaryOperator) (t e : Term)
    → Some p ≡ o
    → makers.assignment o t e ≡ makers.compounded p t e
assignment_with o p t e h = ap (λ q. makers.assignment q t e) (sym h)

pub ruleset binary_laws = (binary_deciding, binary_plain)

pub ruleset assignment_laws = (assignment_plain, assignment_with)

pub ruleset assigned_laws = (assigned_read, assigned_other)

pub ruleset compounded_laws = (compounded_read, compounded_other)

pub ruleset updated_laws = (updated_read, updated_other)

pub ruleset deleted_laws = (deleted_read, deleted_other)

pub ruleset call_laws = (call_read, call_other)

pub ruleset type_laws = (type_read, type_other)
