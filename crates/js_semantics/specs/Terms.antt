-- Residual terms: trees in which the parts that were reduced are replaced by their values.
use Rattle.std.specs.Prelude.{Bool, true, false, ◌&&◌, List, [], ◌∷◌, Option, Some, None, if◌then◌else◌}
use Rattle.js_heap.specs.declared.value.Addr.{Addr}
use Rattle.js_heap.specs.declared.value.Value.{Value}
use Rattle.js_heap.specs.declared.value.Value.TheVariants as values
-- ---- places and forms, under the names that the definitions use

pub use Rattle.js_semantics.specs.declared.form.Source.{Source}
pub use Rattle.js_semantics.specs.declared.form.Source.TheVariants.{Script as script_source, Kept as kept_source}
pub use Rattle.js_semantics.specs.declared.form.Mark.{Mark}
pub use Rattle.js_semantics.specs.declared.form.Mark.TheVariants.{Beginning as beginning, Start as start, BeforeEnd as before_end}
pub use Rattle.js_semantics.specs.declared.form.SourceMark.{SourceMark}
pub use Rattle.js_semantics.specs.declared.form.Completion.{Completion}
pub use Rattle.js_semantics.specs.declared.form.Completion.TheVariants.{Throws as throws, Returns as returns, Breaks as breaks, Continues as continues}
pub use Rattle.js_semantics.specs.declared.form.Reference.{Reference}
pub use Rattle.js_semantics.specs.declared.form.Reference.TheVariants.{Name as to_name, Member as to_member, Index as to_index}
pub use Rattle.js_semantics.specs.declared.form.FunctionForm.{FunctionForm}
pub use Rattle.js_semantics.specs.declared.form.Member.{Member}
pub use Rattle.js_semantics.specs.declared.form.Member.TheVariants.{Keyed as keyed, Computed as computed}
pub use Rattle.js_semantics.specs.declared.form.Stage.{Stage}
pub use Rattle.js_semantics.specs.declared.form.Stage.TheVariants.{First as first, Doing as doing, Testing as testing, Body as body, Updating as updating}
pub use Rattle.js_semantics.specs.declared.form.Form.{Form}
pub use Rattle.js_semantics.specs.declared.form.Form.TheVariants.{Scripts as scripts, Script as script, Sequence as sequence, Enter as enter, EnterDebugger as enter_debugger, EnterFor as enter_for, EnterForOf as enter_for_of, Block as block, Scoped as scoped, Frame as frame, Initialize as initialize, Choose as choose, Both as both, Either as either, Loop as loop, ListOf as list_of, TurnOf as turn_of, BodyOf as body_of, Break as break_, Continue as continue_, Return as return_, Throw as throw_, Catching as catching, Finishing as finishing, Ending as ending, This as this, Read as read, TypeofName as typeof_name, Literal as literal, Unary as unary, Binary as binary, Comma as comma, Function as function, Array as array, Object as object, Method as method, Assign as assign, Compound as compound, Update as update, Delete as delete, Call as call, CallOf as call_of}

-- ---- terms

-- a value, a throw that stands, or a form with the parts that are reduced from left to right and those that are kept
-- for later
mutual
  pub data Term : Type 0 where
    done : Value → Term
    standing : Value → SourceMark → Term
    part : Form → Terms → Terms → Term

  pub data Terms : Type 0 where
    end : Terms
    more : Term → Terms → Terms

-- a single part
abbrev pub one : Term → Terms
one t = more t end

-- parts, and others behind them
abbrev pub joined : Terms → Terms → Terms
joined end us = us
joined (more t ts) us = more t (joined ts us)

-- parts that are values
abbrev pub dones : List Value → Terms
dones [] = end
dones (v ∷ vs) = more (done v) (dones vs)

-- a part has its value
abbrev pub is_done : Term → Bool
is_done (done v) = true
is_done (standing v s) = false
is_done (part f now later) = false

-- all parts have their values
abbrev pub all_done : Terms → Bool
all_done end = true
all_done (more t ts) = is_done t && all_done ts

-- the value of the last part; undefined where there is none
abbrev pub last_value : Value → Terms → Value
last_value v end = v
last_value v (more (done u) ts) = last_value u ts
last_value v (more (standing u s) ts) = last_value v ts
last_value v (more (part f now later) ts) = last_value v ts

-- ---- what takes no step

-- a loop's test, the first part that it keeps
abbrev pub test_of : Terms → Term
test_of (more t ts) = t
test_of end = done values.Undefined

-- a loop's update, the second part that it keeps
abbrev pub update_of : Terms → Term
update_of (more t (more u ts)) = u
update_of _ = done values.Undefined

-- a loop's body, the third part that it keeps
abbrev pub body_of_loop : Terms → Term
body_of_loop (more t (more u (more b ts))) = b
body_of_loop _ = done values.Undefined

-- the loop at its test
abbrev pub at_test : Option Addr → Terms → Term
at_test scope later = part (loop testing scope) (one (test_of later)) later

-- an update that is a value or absent is finished
abbrev pub at_update : Option Addr → Terms → Term
at_update scope later =
    if is_done (update_of later) then at_test scope later else part (loop updating scope) (one (update_of later)) later

-- behind the body: the scope of a `for` with `let` is copied first, which is a step
abbrev pub behind_body : Option Addr → Terms → Term
behind_body None later = at_update None later
behind_body (Some a) later = part (loop body (Some a)) end later

-- the loop in its body; a body that is a value is finished at once
abbrev pub at_body : Option Addr → Terms → Term
at_body scope later =
    if is_done (body_of_loop later) then behind_body scope later else part (loop body scope) (one (body_of_loop later))
    later

-- behind the initialiser: the scope of a `for` with `let` is copied first, which is a step
abbrev pub behind_first : Option Addr → Terms → Term
behind_first None later = at_test None later
behind_first (Some a) later = part (loop first (Some a)) end later

-- what a form whose parts all have their values becomes at once; every other form waits for its step
abbrev pub finished : Form → Terms → Terms → Term
finished scripts now later = done values.Undefined
finished sequence now later = done values.Undefined
finished (scoped a) now later = done (last_value values.Undefined now)
finished (loop first scope) now later = behind_first scope later
finished (loop doing scope) now later = at_body scope later
finished (loop body scope) now later = behind_body scope later
finished (loop updating scope) now later = at_test scope later
finished (body_of b i) now later = part (turn_of b i) end later
finished (catching n) now later = done values.Undefined
finished finishing now later = part (ending None) later end
finished (ending None) now later = done values.Undefined
finished f now later = part f now later

-- a part of a tree after a step in it: statements, blocks and tries that are finished are dropped
abbrev pub settled : Form → Terms → Terms → Term
settled f now later = if all_done now then finished f now later else part f now later

-- a term whose parts may have their values already, put together again
abbrev pub settle : Term → Term
settle (done v) = done v
settle (standing v s) = standing v s
settle (part f now later) = settled f now later
