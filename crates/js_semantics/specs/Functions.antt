-- Scopes, functions and calls.
use Rattle.std.specs.Prelude.{ℕ, Bool, true, false, List, [], ◌∷◌, ◌++◌, length, Option, Some, None, nat_eq, nat_lt, codes, if◌then◌else◌}
use Rattle.js_heap.specs.declared.value.Addr.{Addr}
use Rattle.js_heap.specs.declared.value.Value.{Value}
use Rattle.js_heap.specs.declared.value.Value.TheVariants as values
use Rattle.js_heap.specs.declared.built_in.Code.TheVariants as code
use Rattle.js_heap.specs.declared.built_in.ErrorClass.TheVariants as classes
use Rattle.js_heap.specs.declared.cell.Binding.{Binding}
use Rattle.js_heap.specs.declared.cell.ScopeKind.{ScopeKind}
use Rattle.js_heap.specs.declared.cell.ScopeKind.TheVariants as scopes
use Rattle.js_heap.specs.declared.cell.Cell.{Cell}
use Rattle.js_heap.specs.declared.cell.Cell.TheVariants as cells
use Rattle.js_heap.specs.declared.change.Change.TheVariants as changes
use Rattle.js_heap.specs.Cells.{declared}
use Rattle.js_heap.specs.World.{read_cell}
use Rattle.js_semantics.specs.Terms.{Source, script_source, kept_source, Mark, start, FunctionForm, Form, function, method, frame, Term, done, standing, part, Terms, end, more, one, settle}
use Rattle.js_heap.specs.Values.{same_address}
use Rattle.js_semantics.specs.State.{State, Action, go, make, write, set_here, push_frame, give, fail, this_of}
use Rattle.js_semantics.specs.declared.bounds.TheConstants.{MOST_FRAMES}
use Rattle.js_semantics.specs.BuiltIns.{built_in_call}
pub use Rattle.js_heap.specs.Arguments.{parameters_from}

-- ---- sources: the untouched trees by which a function's code is found

-- a source with its term before the first step
pub record SourceTree : Type 0 where
  pub source : Source
  pub tree : Term

-- the sources in which a run looks up the code of its functions
abbrev pub Program : Type 0
Program = List SourceTree

-- a function's form, its body, and the functions that its body declares
pub record FunctionCode : Type 0 where
  pub form : FunctionForm
  pub body : Term
  pub functions : Terms

-- the code that one place has, or else another
abbrev pub first_code : Option FunctionCode → Option FunctionCode → Option FunctionCode
first_code (Some c) other = Some c
first_code None other = other

-- the code of a function's form and its kept parts, where it is the one that is looked for
abbrev pub code_if : Bool → FunctionForm → Terms → Option FunctionCode
code_if true f (more body functions) = Some (record { form = f; body = body; functions = functions })
code_if _ f later = None

-- the function of a node, if the part is that function
abbrev pub code_here : Form → ℕ → Terms → Option FunctionCode
code_here (function f) node later = code_if (nat_eq f.node node) f later
code_here (method f) node later = code_if (nat_eq f.node node) f later
code_here _ node later = None

-- the code of a node's function in a term, and in several: of the first such function from the left
abbrev mutual
  -- the code of a node's function in a term
  pub function_in : ℕ → Term → Option FunctionCode
  function_in node (done v) = None
  function_in node (standing v s) = None
  function_in node (part f now later) =
      first_code (code_here f node later) (first_code (function_in_all node now) (function_in_all node later))

  -- the code of a node's function in the first of these terms that has it
  pub function_in_all : ℕ → Terms → Option FunctionCode
  function_in_all node end = None
  function_in_all node (more t ts) = first_code (function_in node t) (function_in_all node ts)

-- two sources are the same
abbrev pub same_source : Source → Source → Bool
same_source (script_source m) (script_source n) = nat_eq m n
same_source (kept_source a) (kept_source b) = same_address a b
same_source _ _ = false

-- the code of a node's function in a source of a program
abbrev pub function_at : Program → Source → ℕ → Option FunctionCode
function_at [] source node = None
function_at (t ∷ ts) source node =
    if same_source t.source source then function_in node t.tree else function_at ts source node

-- ---- making functions

-- the cell of a function: its length is the number of its parameters (10.2.10)
abbrev pub function_cell : FunctionForm → List ℕ → Addr → Value → Cell
function_cell f name scope receiver = cells.Function f.code name (length f.parameters) (Some scope) receiver

-- an arrow has the enclosing `this` (15.3.4)
abbrev pub receiver_of : FunctionForm → Value → Value
receiver_of f receiver = if f.is_arrow then receiver else values.Undefined

-- a named function expression has a scope with its own name, which is constant (15.2.5)
abbrev pub named_function : FunctionForm → Addr → Action
named_function f scope =
    make (cells.Bindings scopes.Named f.name (Some scope) (declared f.name true ∷ []))
    (λ s. make (function_cell f f.name s values.Undefined)
    (λ a. write s (changes.Bind f.name (values.Object a)) (give (values.Object a))))

-- a function expression, an arrow, or a method with a fixed key becomes a function (15.2.5, 15.3.4, 15.4.4)
abbrev pub function_row : State → Addr → FunctionForm → Action
function_row s scope f =
    if f.is_named then named_function f scope
    else make (function_cell f f.name scope (receiver_of f (this_of s))) (λ a. give (values.Object a))

-- ---- scopes with their functions

-- makes the functions that a list of items declares, in order, each the value of its name (14.2.3, 10.2.11)
abbrev pub with_functions : Addr → Terms → Action → Action
with_functions scope (more (part (function f) now later) ts) k =
    make (function_cell f f.name scope values.Undefined)
    (λ a. write scope (changes.Bind f.name (values.Object a)) (with_functions scope ts k))
with_functions scope (more t ts) k = with_functions scope ts k
with_functions scope end k = k

-- a new scope around which another one stands, with these names
abbrev pub new_scope : ScopeKind → List ℕ → Addr → List Binding → (Addr → Action) → Action
new_scope kind name outer names k = make (cells.Bindings kind name (Some outer) names) k

-- adds names to a scope
abbrev pub with_names : Addr → List Binding → Action → Action
with_names scope [] k = k
with_names scope (b ∷ bs) k = write scope (changes.Declare b.name b.constant) (with_names scope bs k)

-- ---- calls (10.2.1)

-- the error of a call where as many frames are active as may be
abbrev pub too_deep : Action
too_deep = fail classes.RangeError (codes "Maximum call stack size exceeded")

-- the error of a call of what is no function
abbrev pub not_a_function : Action
not_a_function = fail classes.TypeError (codes "Value is not a function")

-- an arrow's `this` is the one it was made with
abbrev pub called_this : Bool → Value → Value → Value
called_this arrow made given = if arrow then made else given

-- the frame of a call whose scope and functions are made
abbrev pub frame_entered : FunctionCode → Source → Addr → Value → Addr → Action
frame_entered c source a receiver s =
    push_frame (record { function = Some a; source = source; receiver = receiver; scope = s; here = start c.form.node })
    (go (part (frame c.form.node s) (one (settle c.body)) end))

-- the scope, the functions, then the frame
abbrev pub entered : FunctionCode → Source → Addr → List ℕ → Addr → Value → List Value → Action
entered c source a name outer receiver args =
    new_scope scopes.Function name outer (parameters_from 0 c.form.parameters args ++ c.form.names)
    (λ s. with_functions s c.functions (frame_entered c source a receiver s))

-- the limit of 1,000 frames comes before the world's
abbrev pub frame_limit : ℕ
frame_limit = MOST_FRAMES

-- a call of a function whose code stands in a source, with the `this` that it was made with and the one that is given
abbrev pub call_code : State
    → Option FunctionCode
    → Source
    → Addr
    → List ℕ
    → Option Addr
    → Value
    → Value
    → List Value
    → Action
call_code s (Some c) source a name (Some outer) made given args =
    if nat_lt (length s.frames) frame_limit then entered c source a name outer (called_this c.form.is_arrow made given)
    args else too_deep
call_code s _ source a name outer made given args = not_a_function

-- a call of what a cell holds: of a built-in function, or of one whose code stands in a source
abbrev pub call_cell : Program → State → Addr → Option Cell → Value → List Value → Action
call_cell p s a (Some (cells.Function (code.BuiltIn f) n l outer made)) given args = built_in_call s.world f given args
call_cell p s a (Some (cells.Function (code.Script number node) n l outer made)) given args =
    call_code s (function_at p (script_source number) node) (script_source number) a n outer made given args
call_cell p s a (Some (cells.Function (code.Kept at node) n l outer made)) given args =
    call_code s (function_at p (kept_source at) node) (kept_source at) a n outer made given args
call_cell p s a _ given args = not_a_function

-- a call of a value with a `this` and arguments; functions alone can be called
abbrev pub call_value : Program → State → Value → Value → List Value → Action
call_value p s (values.Object a) given args = call_cell p s a (read_cell s.world a) given args
call_value p s _ given args = not_a_function

-- the values of a call are its `this`, its callee and its arguments; its place is `here` from now on, also where it
-- raises
abbrev pub call_row : Program → State → Mark → List Value → Action
call_row p s place (given ∷ callee ∷ args) = set_here place (call_value p s callee given args)
call_row p s place _ = give values.Undefined
