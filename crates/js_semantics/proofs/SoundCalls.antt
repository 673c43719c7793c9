-- Built-in functions, scopes, functions and calls keep configurations sound.
use Rattle.std.proofs.Common.{◌≡◌, ℕ, zero, suc, ◌+◌, ◌-◌, Bool, true, false, List, [], ◌∷◌, ◌++◌, Option, None, Some, length, take, drop, refl, if◌then◌else◌}
use Rattle.std.specs.Prelude.{slice_get, pos, negsuc, nat_eq, nat_lt, codes}
use Rattle.js_heap.specs.declared.value.Addr.{Addr}
use Rattle.js_heap.specs.declared.value.Value.{Value}
use Rattle.js_heap.specs.declared.value.Value.TheVariants as values
use Rattle.js_heap.specs.declared.built_in.BuiltIn.{BuiltIn}
use Rattle.js_heap.specs.declared.built_in.BuiltIn.TheVariants as built_ins
use Rattle.js_heap.specs.declared.built_in.Code.TheVariants as code
use Rattle.js_heap.specs.declared.built_in.ErrorClass.{ErrorClass}
use Rattle.js_heap.specs.declared.built_in.ErrorClass.TheVariants as classes
use Rattle.js_heap.specs.declared.cell.Cell.{Cell}
use Rattle.js_heap.specs.declared.cell.Cell.TheVariants as cells
use Rattle.js_heap.specs.declared.cell.Binding.{Binding}
use Rattle.js_heap.specs.declared.cell.ScopeKind.{ScopeKind}
use Rattle.js_heap.specs.declared.cell.ScopeKind.TheVariants as scopes
use Rattle.js_heap.specs.Cells.{kind_of, declared}
use Rattle.js_heap.specs.World.{World, read_cell}
use Rattle.js_heap.specs.Worlds.{Leads, IsObjectKind, IsScopeKind, SoundValue, SoundScope, SoundValues, SoundNames, SoundCell, IsSound, Later}
use Rattle.js_heap.specs.BuiltIns.{message_property}
use Rattle.js_heap.proofs.SoundLemmas.{sound-value, sound_values, sound-scope, read-sound}
use Rattle.js_semantics.specs.Terms.{Source, script_source, kept_source, Mark, FunctionForm, Form, function, method, Term, done, standing, part, Terms, end, more}
use Rattle.js_heap.specs.Values.{between, text_of, units_at}
use Rattle.js_heap.specs.Operators.{not_a_text, not_safe}
use Rattle.js_semantics.specs.State.{Frame, State, Action, make, give, this_of, top_this}
use Rattle.js_semantics.specs.BuiltIns.{argument, wrong_type, line_value, error_of, text_or_fail, string_of, keys_of_cell, make_texts, new_array, keys_of, push_all, last_of, pop_last, joined_or_fail, joined_parts, join, place, part_between, slice_places, array_or_wrong, text_or_wrong, occurrence_of, unit_or_fail, unit_at, array_call, on_array_cell, on_array, string_call, on_string, built_in_call}
use Rattle.js_semantics.specs.Functions.{Program, FunctionCode, first_code, code_if, code_here, function_in, function_in_all, same_source, function_at, function_cell, receiver_of, named_function, function_row, with_functions, new_scope, with_names, parameters_from, too_deep, not_a_function, called_this, frame_entered, entered, frame_limit, call_code, call_cell, call_value, call_row}
use Rattle.js_semantics.specs.Sound.{SoundForm, SoundTerm, SoundTerms, SoundProgram, SoundFrames, SoundState, SoundAction}
use Rattle.js_semantics.proofs.SoundTerms.{later-same, later-trans, sound-term, settle-sound}
use Rattle.js_semantics.proofs.SoundValues.{SoundThen, give-sound, leads-as, make_text-sound, make_object-sound, fail-sound, with_result-sound}

-- ---- lists of values

pub argument-sound : (w : World) (vs : List Value) (i : ℕ) → SoundValues w vs → SoundValue w (argument vs i)
argument-sound w [] i h = tt
argument-sound w (v ∷ vs) zero h = h.0
argument-sound w (v ∷ vs) (suc i) h = argument-sound w vs i h.1

pub last_of-sound : (w : World) (vs : List Value) → SoundValues w vs → SoundValue w (last_of vs)
last_of-sound w [] h = tt
last_of-sound w (v ∷ []) h = h.0
last_of-sound w (v ∷ u ∷ vs) h = last_of-sound w (u ∷ vs) h.1

take-sound : (w : World) (n : ℕ) (vs : List Value) → SoundValues w vs → SoundValues w (take n vs)
take-sound w zero vs h = tt
take-sound w (suc n) [] h = tt
take-sound w (suc n) (v ∷ vs) h = (h.0, take-sound w n vs h.1)

drop-sound : (w : World) (n : ℕ) (vs : List Value) → SoundValues w vs → SoundValues w (drop n vs)
drop-sound w zero vs h = h
drop-sound w (suc n) [] h = tt
drop-sound w (suc n) (v ∷ vs) h = drop-sound w n vs h.1

-- ---- built-in functions

wrong-sound : (w : World) → SoundAction w wrong_type
wrong-sound w = fail-sound w classes.TypeError (codes "Argument has a wrong type")

line-sound : (w : World) (o : Option (List ℕ)) → SoundAction w (line_value o)
line-sound w None = tt
line-sound w (Some us) = make_text-sound w us give (give-sound w)

error-sound : (w : World) (class : ErrorClass) (x : Value) → SoundValue w x → SoundAction w (error_of class x)
error-sound w class (values.Text a) h =
    make_object-sound w (cells.Error class (message_property (values.Text a) ∷ [])) (h, tt) tt
error-sound w class values.Undefined h = make_object-sound w (cells.Error class []) tt tt
error-sound w class _ h = wrong-sound w

text_or_fail-sound : (w : World) (o : Option (List ℕ)) → SoundAction w (text_or_fail o)
text_or_fail-sound w None = with_result-sound w not_a_text give tt (give-sound w)
text_or_fail-sound w (Some us) = make_text-sound w us give (give-sound w)

string-sound : (w : World) (x : Value) → SoundValue w x → SoundAction w (string_of w x)
string-sound w (values.Text a) h = h
string-sound w values.Undefined h = text_or_fail-sound w (text_of w values.Undefined)
string-sound w values.Null h = text_or_fail-sound w (text_of w values.Null)
string-sound w (values.Bool b) h = text_or_fail-sound w (text_of w (values.Bool b))
string-sound w (values.Number z) h = text_or_fail-sound w (text_of w (values.Number z))
string-sound w (values.Object a) h = text_or_fail-sound w (text_of w (values.Object a))

texts-sound : (w : World) (ts : List (List ℕ)) (k : List Value → Action)
    → ((v : World) → Later w v → (xs : List Value) → SoundValues v xs → SoundAction v (k xs))
    → SoundAction w (make_texts ts k)
texts-sound w [] k h = h w (later-same w) [] tt
texts-sound w (t ∷ ts) k h =
    make_text-sound w t (λ x. make_texts ts (λ xs. k (x ∷ xs)))
    (λ v l x s. texts-sound v ts (λ xs. k (x ∷ xs))
    (λ u m xs t. h u (later-trans w v u l m) (x ∷ xs) (sound-value v u m x s, t)))

new_array-sound : (w : World) (vs : List Value) → SoundValues w vs → SoundAction w (new_array vs)
new_array-sound w vs h = make_object-sound w (cells.Array vs) h tt

keys-sound : (w : World) (x : Value) → SoundAction w (keys_of w x)
keys-sound w (values.Object a) =
    texts-sound w (keys_of_cell (read_cell w a)) new_array (λ v l xs h. new_array-sound v xs h)
keys-sound w _ = wrong-sound w

push-sound : (w : World) (a : Addr) (l : ℕ) (xs : List Value) → SoundValues w xs → SoundAction w (push_all a l xs)
push-sound w a l [] h = tt
push-sound w a l (x ∷ xs) h = (h.0, λ v m. push-sound v a (l + 1) xs (sound_values w v m xs h.1))

pop-sound : (w : World) (a : Addr) (xs : List Value) → SoundValues w xs → SoundAction w (pop_last a xs)
pop-sound w a [] h = tt
pop-sound w a (x ∷ xs) h = (tt, λ v m. sound-value w v m (last_of (x ∷ xs)) (last_of-sound w (x ∷ xs) h))

joined-sound : (w : World) (us : List ℕ) (o : Option (List (List ℕ))) → SoundAction w (joined_or_fail us o)
joined-sound w us None = with_result-sound w not_a_text give tt (give-sound w)
joined-sound w us (Some ts) = make_text-sound w (between us ts) give (give-sound w)

join-sound : (w : World) (vs : List Value) (x : Value) → SoundAction w (join w vs x)
join-sound w vs values.Undefined = joined-sound w (codes ",") (joined_parts w vs)
join-sound w vs (values.Text a) = joined-sound w (units_at w a) (joined_parts w vs)
join-sound w vs _ = wrong-sound w

abbrev SoundPart : World → Option (List Value) → Type 0
SoundPart w None = Unit {0}
SoundPart w (Some vs) = SoundValues w vs

between-sound : (w : World) (vs : List Value) (i j : Option ℕ) → SoundValues w vs → SoundPart w (part_between vs i j)
between-sound w vs (Some i) (Some j) h = take-sound w (j - i) (drop i vs) (drop-sound w i vs h)
between-sound w vs (Some i) None h = tt
between-sound w vs None j h = tt

array_or_wrong-sound : (w : World) (o : Option (List Value)) → SoundPart w o → SoundAction w (array_or_wrong o)
array_or_wrong-sound w None h = wrong-sound w
array_or_wrong-sound w (Some vs) h = new_array-sound w vs h

text_or_wrong-sound : (w : World) (o : Option (List ℕ)) → SoundAction w (text_or_wrong o)
text_or_wrong-sound w None = wrong-sound w
text_or_wrong-sound w (Some us) = make_text-sound w us give (give-sound w)

occurrence-sound : (w : World) (us : List ℕ) (x : Value) → SoundAction w (occurrence_of w us x)
occurrence-sound w us (values.Text b) = tt
occurrence-sound w us _ = wrong-sound w

unit_or_fail-sound : (w : World) (o : Option ℕ) → SoundAction w (unit_or_fail o)
unit_or_fail-sound w (Some u) = tt
unit_or_fail-sound w None = with_result-sound w not_safe give tt (give-sound w)

unit_at-sound : (w : World) (us : List ℕ) (x : Value) → SoundAction w (unit_at us x)
unit_at-sound w us (values.Number (pos i)) = unit_or_fail-sound w (slice_get us i)
unit_at-sound w us (values.Number (negsuc i)) = unit_or_fail-sound w None
unit_at-sound w us _ = wrong-sound w

array_call-sound : (w : World) (f : BuiltIn) (a : Addr) (vs args : List Value)
    → SoundValues w vs
    → SoundValues w args
    → SoundAction w (array_call w f a vs args)
array_call-sound w built_ins.ArrayPush a vs args h k = push-sound w a (length vs) args k
array_call-sound w built_ins.ArrayPop a vs args h k = pop-sound w a vs h
array_call-sound w built_ins.ArrayIndexOf a vs args h k = tt
array_call-sound w built_ins.ArrayJoin a vs args h k = join-sound w vs (argument args 0)
array_call-sound w built_ins.ArraySlice a vs args h k =
    array_or_wrong-sound w (slice_places vs args)
    (between-sound w vs (place (length vs) 0 (argument args 0)) (place (length vs) (length vs) (argument args 1)) h)
array_call-sound w _ a vs args h k = wrong-sound w

on_cell-sound : (w : World) (f : BuiltIn) (a : Addr) (o : Option Cell) (args : List Value)
    → ((c : Cell) → o ≡ Some c → SoundCell w c)
    → SoundValues w args
    → SoundAction w (on_array_cell w f a o args)
on_cell-sound w f a None args h k = wrong-sound w
on_cell-sound w f a (Some (cells.Array vs)) args h k = array_call-sound w f a vs args (h (cells.Array vs) refl) k
on_cell-sound w f a _ args h k = wrong-sound w

on_array-sound : (w : World)
    → IsSound w
    → (f : BuiltIn) (x : Value) (args : List Value)
    → SoundValues w args
    → SoundAction w (on_array w f x args)
on_array-sound w s f (values.Object a) args k = on_cell-sound w f a (read_cell w a) args (λ c e. read-sound w a c e s) k
on_array-sound w s f _ args k = wrong-sound w

string_call-sound : (w : World) (f : BuiltIn) (us : List ℕ) (args : List Value)
    → SoundAction w (string_call w f us args)
string_call-sound w built_ins.StringIndexOf us args = occurrence-sound w us (argument args 0)
string_call-sound w built_ins.StringSlice us args = text_or_wrong-sound w (slice_places us args)
string_call-sound w built_ins.StringCharCodeAt us args = unit_at-sound w us (argument args 0)
string_call-sound w _ us args = wrong-sound w

on_string-sound : (w : World) (f : BuiltIn) (x : Value) (args : List Value) → SoundAction w (on_string w f x args)
on_string-sound w f (values.Text a) args = string_call-sound w f (units_at w a) args
on_string-sound w f _ args = wrong-sound w

pub built_in-sound : (w : World)
    → IsSound w
    → (f : BuiltIn) (x : Value) (args : List Value)
    → SoundValues w args
    → SoundAction w (built_in_call w f x args)
built_in-sound w s built_ins.ConsoleLog x args k = tt
built_in-sound w s built_ins.ReadLine x args k = λ line. line-sound w line
built_in-sound w s (built_ins.MakeError class) x args k =
    error-sound w class (argument args 0) (argument-sound w args 0 k)
built_in-sound w s built_ins.ObjectKeys x args k = keys-sound w (argument args 0)
built_in-sound w s built_ins.ArrayIsArray x args k = tt
built_in-sound w s built_ins.MakeString x args k = string-sound w (argument args 0) (argument-sound w args 0 k)
built_in-sound w s built_ins.StringIndexOf x args k = on_string-sound w built_ins.StringIndexOf x args
built_in-sound w s built_ins.StringSlice x args k = on_string-sound w built_ins.StringSlice x args
built_in-sound w s built_ins.StringCharCodeAt x args k = on_string-sound w built_ins.StringCharCodeAt x args
built_in-sound w s f x args k = on_array-sound w s f x args k

-- ---- code

abbrev pub SoundCode : World → Option FunctionCode → Type 0
SoundCode w None = Unit {0}
SoundCode w (Some c) = SoundNames w c.form.names × SoundTerm w c.body × SoundTerms w c.functions

first-sound : (w : World) (o p : Option FunctionCode) → SoundCode w o → SoundCode w p → SoundCode w (first_code o p)
first-sound w (Some c) p h k = h
first-sound w None p h k = k

code_if-sound : (w : World) (b : Bool) (f : FunctionForm) (later : Terms)
    → SoundNames w f.names
    → SoundTerms w later
    → SoundCode w (code_if b f later)
code_if-sound w true f (more t ts) h k = (h, k.0, k.1)
code_if-sound w true f end h k = tt
code_if-sound w false f later h k = tt

here-sound : (w : World) (f : Form) (node : ℕ) (later : Terms)
    → SoundForm w f
    → SoundTerms w later
    → SoundCode w (code_here f node later)
here-sound w (function f) node later h k = code_if-sound w (nat_eq f.node node) f later h k
here-sound w (method f) node later h k = code_if-sound w (nat_eq f.node node) f later h k
here-sound w _ node later h k = tt

mutual
  function_in-sound : (w : World) (node : ℕ) (t : Term) → SoundTerm w t → SoundCode w (function_in node t)
  function_in-sound w node (done v) h = tt
  function_in-sound w node (standing v place) h = tt
  function_in-sound w node (part f now later) h =
      first-sound w (code_here f node later) (first_code (function_in_all node now) (function_in_all node later))
      (here-sound w f node later h.0 h.2)
      (first-sound w (function_in_all node now) (function_in_all node later) (function_in_all-sound w node now h.1)
      (function_in_all-sound w node later h.2))

  function_in_all-sound : (w : World) (node : ℕ) (ts : Terms) → SoundTerms w ts → SoundCode w (function_in_all node ts)
  function_in_all-sound w node end h = tt
  function_in_all-sound w node (more t ts) h =
      first-sound w (function_in node t) (function_in_all node ts) (function_in-sound w node t h.0)
      (function_in_all-sound w node ts h.1)

at_if : (w : World) (b : Bool) (o p : Option FunctionCode)
    → SoundCode w o
    → SoundCode w p
    → SoundCode w (if b then o else p)
at_if w true o p h k = h
at_if w false o p h k = k

function_at-sound : (w : World) (p : Program) (source : Source) (node : ℕ)
    → SoundProgram w p
    → SoundCode w (function_at p source node)
function_at-sound w [] source node h = tt
function_at-sound w (t ∷ ts) source node h =
    at_if w (same_source t.source source) (function_in node t.tree) (function_at ts source node)
    (function_in-sound w node t.tree h.0) (function_at-sound w ts source node h.1)

-- ---- functions and scopes

pub is-scope : (w : World) (kind : ScopeKind) (name : List ℕ) (outer : Option Addr) (names : List Binding) (a : Addr)
    → Leads (λ k. k ≡ kind_of (cells.Bindings kind name outer names)) (read_cell w a)
    → SoundScope w (Some a)
is-scope w kind name outer names a h =
    leads-as IsScopeKind (cells.Bindings kind name outer names) (read_cell w a) refl h

is-function : (w : World) (f : FunctionForm) (name : List ℕ) (scope : Addr) (x : Value) (a : Addr)
    → Leads (λ k. k ≡ kind_of (function_cell f name scope x)) (read_cell w a)
    → SoundValue w (values.Object a)
is-function w f name scope x a h = leads-as IsObjectKind (function_cell f name scope x) (read_cell w a) tt h

receiver-sound : (w : World) (b : Bool) (x : Value) → SoundValue w x → SoundValue w (if b then x else values.Undefined)
receiver-sound w true x h = h
receiver-sound w false x h = tt

this-sound : (w : World) (fs : List Frame) (x : Value)
    → SoundFrames w fs
    → SoundValue w x
    → SoundValue w (top_this fs x)
this-sound w [] x h k = k
this-sound w (f ∷ fs) x h k = h.0.0

pub this_of-sound : (p : Program) (s : State) → SoundState p s → SoundValue s.world (this_of s)
this_of-sound p s h = this-sound s.world s.frames s.outer_this h.frames h.outer

named-sound : (w : World) (f : FunctionForm) (scope : Addr)
    → SoundScope w (Some scope)
    → SoundAction w (named_function f scope)
named-sound w f scope h = (
  (h, (tt, tt)),
  λ v a l e. (
    (is-scope v scopes.Named f.name (Some scope) (declared f.name true ∷ []) a e, tt),
    λ u b m g. (
      is-function u f f.name a values.Undefined b g,
      λ z n. sound-value u z n (values.Object b) (is-function u f f.name a values.Undefined b g),
    ),
  ),
)

pub choose_action : (w : World) (b : Bool) (x y : Action)
    → SoundAction w x
    → SoundAction w y
    → SoundAction w (if b then x else y)
choose_action w true x y h k = h
choose_action w false x y h k = k

pub function-sound : (p : Program) (s : State) (scope : Addr) (f : FunctionForm)
    → SoundState p s
    → SoundScope s.world (Some scope)
    → SoundAction s.world (function_row s scope f)
function-sound p s scope f h k =
    choose_action s.world f.is_named (named_function f scope)
    (make (function_cell f f.name scope (receiver_of f (this_of s))) (λ a. give (values.Object a)))
    (named-sound s.world f scope k)
    (make_object-sound s.world (function_cell f f.name scope (receiver_of f (this_of s)))
    (k, receiver-sound s.world f.is_arrow (this_of s) (this_of-sound p s h)) tt)

pub functions-sound : (w : World) (scope : Addr) (ts : Terms) (k : Action)
    → SoundScope w (Some scope)
    → SoundThen w k
    → SoundAction w (with_functions scope ts k)
functions-sound w scope end k h t = t w (later-same w)
functions-sound w scope (more (part (function f) now later) ts) k h t = (
  (h, tt),
  λ v a l e. (
    is-function v f f.name scope values.Undefined a e,
    λ u m. functions-sound u scope ts k (sound-scope w u (later-trans w v u l m) (Some scope) h)
        (λ x n. t x (later-trans w u x (later-trans w v u l m) n)),
  ),
)
functions-sound w scope (more _ ts) k h t = functions-sound w scope ts k h t

pub names-sound : (w : World) (scope : Addr) (bs : List Binding) (k : Action)
    → SoundThen w k
    → SoundAction w (with_names scope bs k)
names-sound w scope [] k t = t w (later-same w)
names-sound w scope (b ∷ bs) k t = (tt, λ v l. names-sound v scope bs k (λ u m. t u (later-trans w v u l m)))

-- a new scope, and what goes on with it
pub new_scope-sound : (w : World) (kind : ScopeKind) (name : List ℕ) (outer : Addr) (names : List Binding)
    (k : Addr → Action)
    → SoundScope w (Some outer)
    → SoundNames w names
    → ((v : World) → Later w v → (a : Addr) → SoundScope v (Some a) → SoundAction v (k a))
    → SoundAction w (new_scope kind name outer names k)
new_scope-sound w kind name outer names k h n t =
    ((h, n), λ v a l e. t v l a (is-scope v kind name (Some outer) names a e))

-- ---- calls

parameters-sound : (w : World) (i : ℕ) (ns : List (List ℕ)) (args : List Value)
    → SoundValues w args
    → SoundNames w (parameters_from i ns args)
parameters-sound w i [] args h = tt
parameters-sound w i (n ∷ ns) args h = (argument-sound w args i h, parameters-sound w (i + 1) ns args h)

names-joined : (w : World) (bs cs : List Binding) → SoundNames w bs → SoundNames w cs → SoundNames w (bs ++ cs)
names-joined w [] cs h k = k
names-joined w (b ∷ bs) cs h k = (h.0, names-joined w bs cs h.1 k)

called-sound : (w : World) (b : Bool) (x y : Value) → SoundValue w x → SoundValue w y → SoundValue w (called_this b x y)
called-sound w true x y h k = h
called-sound w false x y h k = k

frame-sound : (w : World) (c : FunctionCode) (source : Source) (a : Addr) (x : Value) (s : Addr)
    → SoundTerm w c.body
    → SoundValue w x
    → SoundScope w (Some s)
    → SoundAction w (frame_entered c source a x s)
frame-sound w c source a x s h r e = ((r, e), (e, (settle-sound w c.body h, tt), tt))

entered-sound : (w : World) (c : FunctionCode) (source : Source) (a : Addr) (name : List ℕ) (outer : Addr) (x : Value)
    (args : List Value)
    → SoundCode w (Some c)
    → SoundScope w (Some outer)
    → SoundValue w x
    → SoundValues w args
    → SoundAction w (entered c source a name outer x args)
entered-sound w c source a name outer x args h o r k =
    new_scope-sound w scopes.Function name outer (parameters_from 0 c.form.parameters args ++ c.form.names)
    (λ s. with_functions s c.functions (frame_entered c source a x s)) o
    (names-joined w (parameters_from 0 c.form.parameters args) c.form.names
    (parameters-sound w 0 c.form.parameters args k) h.0)
    (λ v l s e. functions-sound v s c.functions (frame_entered c source a x s) e
    (λ u m. let n : Later w u = later-trans w v u l m in
    frame-sound u c source a x s (sound-term w u n c.body h.1) (sound-value w u n x r) (sound-scope v u m (Some s) e)))

deep-sound : (w : World) → SoundAction w too_deep
deep-sound w = fail-sound w classes.RangeError (codes "Maximum call stack size exceeded")

not_function-sound : (w : World) → SoundAction w not_a_function
not_function-sound w = fail-sound w classes.TypeError (codes "Value is not a function")

code-sound : (s : State) (o : Option FunctionCode) (source : Source) (a : Addr) (name : List ℕ) (outer : Option Addr)
    (x y : Value) (args : List Value)
    → SoundCode s.world o
    → SoundScope s.world outer
    → SoundValue s.world x
    → SoundValue s.world y
    → SoundValues s.world args
    → SoundAction s.world (call_code s o source a name outer x y args)
code-sound s None source a name outer x y args h o r q k = not_function-sound s.world
code-sound s (Some c) source a name None x y args h o r q k = not_function-sound s.world
code-sound s (Some c) source a name (Some outer) x y args h o r q k =
    choose_action s.world (nat_lt (length s.frames) frame_limit)
    (entered c source a name outer (called_this c.form.is_arrow x y) args) too_deep
    (entered-sound s.world c source a name outer (called_this c.form.is_arrow x y) args h o
    (called-sound s.world c.form.is_arrow x y r q) k)
    (deep-sound s.world)

cell-sound : (p : Program) (s : State) (a : Addr) (o : Option Cell) (y : Value) (args : List Value)
    → SoundState p s
    → ((c : Cell) → o ≡ Some c → SoundCell s.world c)
    → SoundValue s.world y
    → SoundValues s.world args
    → SoundAction s.world (call_cell p s a o y args)
cell-sound p s a None y args h c q k = not_function-sound s.world
cell-sound p s a (Some (cells.Function (code.BuiltIn f) n l outer x)) y args h c q k =
    built_in-sound s.world h.world f y args k
cell-sound p s a (Some (cells.Function (code.Script number node) n l outer x)) y args h c q k =
    let d = c (cells.Function (code.Script number node) n l outer x) refl in
    code-sound s (function_at p (script_source number) node) (script_source number) a n outer x y args
    (function_at-sound s.world p (script_source number) node h.program) d.0 d.1 q k
cell-sound p s a (Some (cells.Function (code.Kept at node) n l outer x)) y args h c q k =
    let d = c (cells.Function (code.Kept at node) n l outer x) refl in
    code-sound s (function_at p (kept_source at) node) (kept_source at) a n outer x y args
    (function_at-sound s.world p (kept_source at) node h.program) d.0 d.1 q k
cell-sound p s a _ y args h c q k = not_function-sound s.world

value-sound : (p : Program) (s : State) (f y : Value) (args : List Value)
    → SoundState p s
    → SoundValue s.world y
    → SoundValues s.world args
    → SoundAction s.world (call_value p s f y args)
value-sound p s (values.Object a) y args h q k =
    cell-sound p s a (read_cell s.world a) y args h (λ c e. let i = h.world in read-sound s.world a c e i) q k
value-sound p s _ y args h q k = not_function-sound s.world

pub call-sound : (p : Program) (s : State) (m : Mark) (vs : List Value)
    → SoundState p s
    → SoundValues s.world vs
    → SoundAction s.world (call_row p s m vs)
call-sound p s m [] h k = tt
call-sound p s m (x ∷ []) h k = tt
call-sound p s m (x ∷ f ∷ args) h k = value-sound p s f x args h k.0 k.1.1
