-- Lemmas on calls.
use Rattle.std.proofs.Common.{◌≡◌, ℕ, ◌<◌, ◌≤◌, Bool, false, List, [], ◌∷◌, length, take, drop, get_or, ◌-◌, Option, Some, None, refl, sym, ap, ◌∙◌, subst, arith, if◌then◌else◌}
use Rattle.std.specs.Prelude.{Result, Ok, Err, nat_lt, slice_get, map, codes}
use Rattle.js_heap.specs.declared.value.Addr.{Addr}
use Rattle.js_heap.specs.declared.value.Value.{Value}
use Rattle.js_heap.specs.declared.value.Value.TheVariants as values
use Rattle.js_heap.specs.declared.built_in.Code.TheVariants as code
use Rattle.js_heap.specs.declared.cell.Cell.{Cell}
use Rattle.js_heap.specs.declared.cell.Cell.TheVariants as cells
use Rattle.js_heap.specs.World.{World, read_cell}
use Rattle.js_semantics.specs.declared.form.Mark.{Mark}
use Rattle.js_semantics.specs.declared.form.Mark.TheVariants.{Start as at_start}
use Rattle.js_semantics.specs.declared.form.Source.{Source}
use Rattle.js_semantics.specs.declared.form.Source.TheVariants.{Script as script_source, Kept as kept_source}
use Rattle.js_semantics.specs.declared.form.Form.TheVariants.{Frame as frame}
use Rattle.js_semantics.specs.Terms.{Term, done, part, one, end, settle}
use Rattle.js_semantics.specs.State.{State, with_world, Move, goes, travels, has_effect, is_full, Action, go, set_here, push_frame, print, take_line, printed_values, with_here}
use Rattle.js_semantics.specs.Functions.{Program, FunctionCode, function_at, frame_limit, called_this, frame_entered, entered, too_deep, not_a_function, call_code, call_cell, call_value, call_row}
use Rattle.js_machine_nodes.specs.declared.table.NodeTable.{NodeTable}
use Rattle.js_machine_nodes.specs.Trees.{tree}
use Rattle.js_machine_actions.specs.declared.action_end.ActionEnd.{ActionEnd}
use Rattle.js_machine_actions.specs.Flow.{performed, Stops, Ends, Gives}
use Rattle.js_machine_actions.specs.Contexts.{Context, state_of, Turns, Prints, Takes}
use Rattle.js_semantics.specs.BuiltIns.{log, line_value, built_in_call}
use Rattle.js_heap.specs.declared.built_in.BuiltIn.{BuiltIn}
use Rattle.js_heap.specs.declared.built_in.BuiltIn.TheVariants as built_ins
use Rattle.std.proofs.lemmas.List.{take_all}
use Rattle.js_heap.specs.Values.{shown, between}
use Rattle.js_machine_engine.specs.declared.reduced.Reduced.{Reduced}
use Rattle.js_machine_engine.specs.declared.reduced.Reduced.TheVariants as reduced
use Rattle.js_machine_engine.specs.Tasks.{Wide}
use Rattle.js_machine_engine.specs.Answers.{Reduces, reduced_move, reduced_term}
use Rattle.js_machine_rows.specs.declared.codes.CodePlace.{CodePlace}
use Rattle.js_machine_nodes.specs.declared.node.FunctionEntry.{FunctionEntry}
use Rattle.js_machine_rows.specs.Codes.{code_at, placed_code}
use Rattle.js_machine_rows.specs.Calls.{entry_code, CalleeView, called_of, called, call_scope, ActsOn, ActsIn, ActsOf, ActsAlways, ActsAnywhere, EntersFrame, entered_within}
use Rattle.js_machine_rows.specs.Does.{Does, stopped, replied}
use Rattle.js_machine_rows.proofs.AnswerLemmas.{stops-does, replies-by}
use Rattle.js_machine_rows.proofs.OverLemmas.{give-does}
use Rattle.js_semantics.proofs.DepthLemmas.{moved-length}

-- ---- an action that comes to another

pub does-then : (ts : List (List ℕ)) (t : NodeTable) (e : Wide) (a b : Action) (s u : State) (r : Reduced) (x : State)
    → performed a s ≡ performed b u
    → Does ts t e b u r x
    → Does ts t e a s r x
does-then ts t e a b s u r x h d = let P : Move Term → Type 0 = λ m. Reduces ts t e m r x in subst P (sym h) d

pub stops-by : (ts : List (List ℕ)) (t : NodeTable) (e : Wide) (a : Action) (s : State) (x : ActionEnd) (u : State)
    (q : Reduced)
    → Stops a s x u
    → q ≡ stopped x
    → Does ts t e a s q u
stops-by ts t e a s x u q h i =
    let P : Reduced → Type 0 = λ r. Does ts t e a s r u in subst P (sym i) (stops-does ts t e a s x u h)

pub ends-act : (ts : List (List ℕ)) (t : NodeTable) (a : Action) (v : World) (x : ActionEnd) (w : World) (c : Context)
    (q : Reduced)
    → Ends a v x w
    → q ≡ stopped x
    → ActsAlways ts t (λ s. a) v c q w c
ends-act ts t a v x w c q h i =
    λ e taken. stops-by ts t e a (state_of v c taken) x (state_of w c taken) q (h (state_of v c taken)) i

-- ---- frames

enters_by : (ts : List (List ℕ)) (t : NodeTable) (e : Wide) (code : FunctionCode) (source : Source) (a : Addr)
    (receiver : Value) (own : Addr) (body : ℕ) (w : World) (c d : Context) (taken : List (List ℕ))
    → tree ts t body ≡ code.body →
    Turns (push_frame
    (record { function = Some a; source = source; receiver = receiver; scope = own; here = at_start code.form.node }))
    c d →
    Does ts t e (frame_entered code source a receiver own) (state_of w c taken) (reduced.Enters code.form.node own body)
    (state_of w d taken)
unfolding reduced_move reduced_term performed
enters_by ts t e code source a receiver own body w c d taken h g =
    g w taken (go (part (frame code.form.node own) (one (settle code.body)) end))
    ∙ ap (λ x. performed (go (part (frame code.form.node own) (one (settle x)) end)) (state_of w d taken)) (sym h)

pub frame-enters : (node body : ℕ) (source : Source) (a : Addr) (receiver : Value) (own : Addr) (c d : Context) →
    Turns (push_frame
    (record { function = Some a; source = source; receiver = receiver; scope = own; here = at_start node }))
    c d
    → EntersFrame node body source a receiver own c (reduced.Enters node own body) d
frame-enters node body source a receiver own c d g = λ ts t e w taken code n b.
    let P : ℕ
    → Type 0 = λ m. Does ts t e (frame_entered code source a receiver own) (state_of w c taken)
    (reduced.Enters m own body) (state_of w d taken) in
    let Q : ℕ
    → Type 0 = λ m. Turns
    (push_frame
    (record { function = Some a; source = source; receiver = receiver; scope = own; here = at_start m }))
    c d in
    subst P (sym n) (enters_by ts t e code source a receiver own body w c d taken b (subst Q n g))

-- ---- entering

pub enters-scope : (ts : List (List ℕ)) (t : NodeTable) (code : FunctionCode) (source : Source) (a : Addr)
    (name : List ℕ) (outer : Addr) (receiver : Value) (args : List Value) (own : Addr) (node body : ℕ) (v w : World)
    (c d : Context) (q : Reduced) →
    ((s : State) (k : Addr → Action)
    → performed (call_scope code name outer args k) (with_world s v) ≡ performed (k own) (with_world s w))
    → EntersFrame node body source a receiver own c q d
    → node ≡ code.form.node
    → tree ts t body ≡ code.body →
    ActsAlways ts t (λ s. entered code source a name outer receiver args) v c q w d
enters-scope ts t code source a name outer receiver args own node body v w c d q h g n b = λ e taken.
    does-then ts t e (entered code source a name outer receiver args) (frame_entered code source a receiver own)
    (state_of v c taken) (state_of w c taken) q (state_of w d taken)
    (h (state_of v c taken) (λ s. frame_entered code source a receiver s)) (g ts t e w taken code n b)

pub enters-not : (ts : List (List ℕ)) (t : NodeTable) (code : FunctionCode) (source : Source) (a : Addr) (name : List ℕ)
    (outer : Addr) (receiver : Value) (args : List Value) (v w : World) (c : Context) (x : ActionEnd) (q : Reduced) →
    ((s : State) (k : Addr → Action) → Stops (call_scope code name outer args k) (with_world s v) x (with_world s w))
    → q ≡ stopped x
    → ActsAlways ts t (λ s. entered code source a name outer receiver args) v c q w c
enters-not ts t code source a name outer receiver args v w c x q h i = λ e taken.
    stops-by ts t e (entered code source a name outer receiver args) (state_of v c taken) x (state_of w c taken) q
    (h (state_of v c taken) (λ s. frame_entered code source a receiver s)) i

-- ---- the limit of frames

within_if : (ts : List (List ℕ)) (t : NodeTable) (b : Bool) (x y z : Action) (v : World) (c : Context) (q : Reduced)
    (w : World) (d : Context)
    → (if b then x else y) ≡ z
    → ActsAlways ts t (λ s. z) v c q w d
    → ActsAlways ts t (λ s. if b then x else y) v c q w d
within_if ts t b x y z v c q w d h g =
    let P : Action → Type 0 = λ a. ActsAlways ts t (λ s. a) v c q w d in subst P (sym h) g

pub past-limit : (ts : List (List ℕ)) (t : NodeTable) (code : FunctionCode) (source : Source) (a : Addr) (name : List ℕ)
    (outer : Addr) (receiver : Value) (args : List Value) (v w : World) (c : Context) (x : ActionEnd) (q : Reduced)
    → nat_lt (length c.frames) 1000 ≡ false →
    Ends too_deep v x w
    → q ≡ stopped x
    → ActsAlways ts t (λ s. entered_within s code source a name outer receiver args) v c q w c
past-limit ts t code source a name outer receiver args v w c x q h g i =
    let e : (if nat_lt (length c.frames) frame_limit then entered code source a name outer receiver args else too_deep)
    ≡ too_deep = rw h refl in
    within_if ts t (nat_lt (length c.frames) frame_limit) (entered code source a name outer receiver args)
    too_deep too_deep v c q w c e (ends-act ts t too_deep v x w c q g i)

-- ---- code that is there or not

pub acts-by : (ts : List (List ℕ)) (t : NodeTable) (f g : State → Action) (v : World) (c : Context) (q : Reduced)
    (w : World) (d : Context)
    → ((s : State) → f s ≡ g s)
    → ActsAlways ts t g v c q w d
    → ActsAlways ts t f v c q w d
acts-by ts t f g v c q w d h k =
    λ e taken. let P : Action → Type 0 = λ a. Does ts t e a (state_of v c taken) q (state_of w d taken) in
    subst P (sym (h (state_of v c taken))) (k e taken)

pub code-none : (ts : List (List ℕ)) (t : NodeTable) (p : Option CodePlace) → p ≡ None → code_at ts t p ≡ None
code-none ts t p h = ap (λ x. code_at ts t x) h

pub code-missing : (ts : List (List ℕ)) (t : NodeTable) (p : Option CodePlace) (x : CodePlace)
    → p ≡ Some x
    → None ≡ slice_get t.functions.items x.number
    → code_at ts t p ≡ None
code-missing ts t p x h g = ap (λ y. code_at ts t y) h ∙ ap (λ o. placed_code ts t x o) (sym g)

pub code-there : (ts : List (List ℕ)) (t : NodeTable) (p : Option CodePlace) (x : CodePlace) (f : FunctionEntry)
    → p ≡ Some x
    → Some f ≡ slice_get t.functions.items x.number
    → code_at ts t p ≡ Some (entry_code ts t x f)
code-there ts t p x f h g = ap (λ y. code_at ts t y) h ∙ ap (λ o. placed_code ts t x o) (sym g)

pub no-code : (s : State) (c : Option FunctionCode) (source : Source) (a : Addr) (name : List ℕ) (outer : Option Addr)
    (made given : Value) (args : List Value)
    → c ≡ None
    → call_code s c source a name outer made given args ≡ not_a_function
no-code s c source a name outer made given args h = ap (λ x. call_code s x source a name outer made given args) h

no_outer : (s : State) (c : Option FunctionCode) (source : Source) (a : Addr) (name : List ℕ) (made given : Value)
    (args : List Value)
    → call_code s c source a name None made given args ≡ not_a_function
no_outer s None source a name made given args = refl
no_outer s (Some c) source a name made given args = refl

pub no-outer : (s : State) (c : Option FunctionCode) (source : Source) (a : Addr) (name : List ℕ) (outer : Option Addr)
    (made given : Value) (args : List Value)
    → outer ≡ None
    → call_code s c source a name outer made given args ≡ not_a_function
no-outer s c source a name outer made given args h =
    ap (λ x. call_code s c source a name x made given args) h ∙ no_outer s c source a name made given args

pub code-called : (s : State) (c : Option FunctionCode) (x : FunctionCode) (source : Source) (a : Addr) (name : List ℕ)
    (outer : Option Addr) (o : Addr) (made given receiver : Value) (args : List Value)
    → c ≡ Some x
    → outer ≡ Some o
    → receiver ≡ called_this x.form.is_arrow made given →
    call_code s c source a name outer made given args ≡ entered_within s x source a name o receiver args
code-called s c x source a name outer o made given receiver args h g r =
    ap (λ y. call_code s y source a name outer made given args) h
    ∙ ap (λ y. call_code s (Some x) source a name y made given args) g
    ∙ ap (λ y. entered_within s x source a name o y args) (sym r)

-- ---- built-in functions

prints_by : (ts : List (List ℕ)) (args vs : List Value) (text : List ℕ) (v : World) (c d : Context)
    → vs ≡ args
    → Prints text v c (Ok tt) d
    → ActsOn ts args (λ s. print vs text) v c reduced.Prints v d
unfolding reduced_move
prints_by ts args vs text v c d h g =
    λ t e a taken. g taken vs ∙ ap (λ xs. goes (done values.Undefined) (state_of v d taken) (printed_values xs)) (h ∙ a)

pub log-prints : (ts : List (List ℕ)) (args : List Value) (text : List ℕ) (v : World) (c d : Context)
    → text ≡ between (codes " ") (map (shown v) args)
    → Prints text v c (Ok tt) d
    → ActsOn ts args (λ s. log v args) v c reduced.Prints v d
log-prints ts args text v c d h g =
    let P : List ℕ → Type 0 = λ x. ActsOn ts args (λ s. print args x) v c reduced.Prints v d in
    subst P h (prints_by ts args args text v c d refl g)

pub log-stops : (ts : List (List ℕ)) (args : List Value) (text : List ℕ) (v : World) (c d : Context) (x : ActionEnd)
    (q : Reduced)
    → text ≡ between (codes " ") (map (shown v) args)
    → Prints text v c (Err x) d
    → q ≡ stopped x
    → ActsOn ts args (λ s. log v args) v c q v d
log-stops ts args text v c d x q h g i =
    let P : List ℕ → Type 0 = λ y. ActsOn ts args (λ s. print args y) v c q v d in
    subst P h
    (λ t e a taken. stops-by ts t e (print args text) (state_of v c taken) x (state_of v d taken) q (g taken args)
    i)

pub line-read : (ts : List (List ℕ)) (line : Option (List ℕ)) (r : Result Value ActionEnd) (v w : World) (c d : Context)
    (q : Reduced)
    → Takes v c (Ok line) d
    → Gives (line_value line) v r w
    → q ≡ replied r
    → ActsAnywhere ts (λ s. take_line line_value) v c q w d
line-read ts line r v w c d q h g i =
    λ t e taken. does-then ts t e (take_line line_value) (line_value line) (state_of v c taken) (state_of v d taken) q
    (state_of w d taken) (h taken line_value)
    (replies-by ts (line_value line) v r w q g i t e (state_of v d taken))

pub line-stops : (ts : List (List ℕ)) (x : ActionEnd) (v : World) (c d : Context) (q : Reduced)
    → Takes v c (Err x) d
    → q ≡ stopped x
    → ActsAnywhere ts (λ s. take_line line_value) v c q v d
line-stops ts x v c d q h i =
    λ t e taken. stops-by ts t e (take_line line_value) (state_of v c taken) x (state_of v d taken) q
    (h taken line_value) i

pub given-acts : (ts : List (List ℕ)) (args : List Value) (a : Action) (v : World) (r : Result Value ActionEnd)
    (w : World) (c : Context) (q : Reduced)
    → Gives a v r w
    → q ≡ replied r
    → ActsOn ts args (λ s. a) v c q w c
given-acts ts args a v r w c q g i = λ t e h taken. replies-by ts a v r w q g i t e (state_of v c taken)

built_in_by : (ts : List (List ℕ)) (args : List Value) (f h : BuiltIn) (given : Value) (v : World) (c : Context)
    (q : Reduced) (w : World) (d : Context)
    → f ≡ h
    → ActsOn ts args (λ s. built_in_call v h given args) v c q w d
    → ActsOn ts args (λ s. built_in_call v f given args) v c q w d
built_in_by ts args f h given v c q w d e k =
    let P : BuiltIn → Type 0 = λ b. ActsOn ts args (λ s. built_in_call v b given args) v c q w d in subst P (sym e) k

pub log-called : (ts : List (List ℕ)) (args : List Value) (f : BuiltIn) (given : Value) (v : World) (c : Context)
    (q : Reduced) (w : World) (d : Context)
    → f ≡ built_ins.ConsoleLog
    → ActsOn ts args (λ s. log v args) v c q w d
    → ActsOn ts args (λ s. built_in_call v f given args) v c q w d
log-called ts args f given v c q w d e k = built_in_by ts args f built_ins.ConsoleLog given v c q w d e k

pub line-called : (ts : List (List ℕ)) (args : List Value) (f : BuiltIn) (given : Value) (v : World) (c : Context)
    (q : Reduced) (w : World) (d : Context)
    → f ≡ built_ins.ReadLine
    → ActsAnywhere ts (λ s. take_line line_value) v c q w d
    → ActsOn ts args (λ s. built_in_call v f given args) v c q w d
line-called ts args f given v c q w d e k =
    built_in_by ts args f built_ins.ReadLine given v c q w d e (λ t x h taken. k t x taken)

-- ---- callees

acts_in : (ts : List (List ℕ)) (t : NodeTable) (args : List Value) (f g : State → Action) (v : World) (c : Context)
    (q : Reduced) (w : World) (d : Context)
    → ((taken : List (List ℕ)) → f (state_of v c taken) ≡ g (state_of v c taken))
    → ActsIn ts t args g v c q w d
    → ActsIn ts t args f v c q w d
acts_in ts t args f g v c q w d h k =
    λ e i taken. let P : Action → Type 0 = λ a. Does ts t e a (state_of v c taken) q (state_of w d taken) in
    subst P (sym (h taken)) (k e i taken)

-- ---- what a call needs of a cell is all that it asks

cell_called : (p : Program) (s : State) (a : Addr) (c : Option Cell) (given : Value) (args : List Value)
    → call_cell p s a c given args ≡ called p s a (called_of c) given args
cell_called p s a None given args = refl
cell_called p s a (Some (cells.Object ps)) given args = refl
cell_called p s a (Some (cells.Error e ps)) given args = refl
cell_called p s a (Some (cells.Array vs)) given args = refl
cell_called p s a (Some (cells.Text us)) given args = refl
cell_called p s a (Some (cells.Bindings k n o ns)) given args = refl
cell_called p s a (Some (cells.Function (code.BuiltIn f) n l o made)) given args = refl
cell_called p s a (Some (cells.Function (code.Script number node) n l o made)) given args = refl
cell_called p s a (Some (cells.Function (code.Kept at node) n l o made)) given args = refl

pub cell-acts : (ts : List (List ℕ)) (t : NodeTable) (p : Program) (args : List Value) (a : Addr) (cell : Option Cell)
    (k : Option CalleeView) (given : Value) (v : World) (c : Context) (q : Reduced) (w : World) (d : Context)
    → k ≡ called_of cell →
    ActsIn ts t args (λ s. called p s a k given args) v c q w d
    → ActsIn ts t args (λ s. call_cell p s a cell given args) v c q w d
cell-acts ts t p args a cell k given v c q w d h g =
    acts_in ts t args (λ s. call_cell p s a cell given args) (λ s. called p s a k given args) v c q w d
    (λ taken. cell_called p (state_of v c taken) a cell given args
    ∙ ap (λ x. called p (state_of v c taken) a x given args) (sym h))
    g

-- ---- another place of the top frame

move_state : Move Term → State
move_state (goes t s told) = s
move_state (travels c s) = s
move_state (has_effect s) = s
move_state (is_full what s) = s

-- the state whose top frame has another place
set_is : (w : World) (c d : Context) (taken : List (List ℕ)) (m : Mark)
    → Turns (set_here m) c d
    → with_here (state_of w c taken) m ≡ state_of w d taken
unfolding performed move_state
set_is w c d taken m h = ap move_state (h w taken (go (done values.Undefined)))

-- a call asks the world, and how many frames there are
code_here : (s : State) (m : Mark) (c : Option FunctionCode) (source : Source) (a : Addr) (name : List ℕ)
    (outer : Option Addr) (made given : Value) (args : List Value)
    → call_code (with_here s m)
    c source a name outer made given args ≡ call_code s c source a name outer made given args
code_here s m None source a name outer made given args = refl
code_here s m (Some c) source a name None made given args = refl
code_here s m (Some c) source a name (Some outer) made given args =
    ap (λ n. if nat_lt n frame_limit then entered c source a name outer (called_this c.form.is_arrow made given)
    args else too_deep)
    (moved-length s.frames m)

cell_here : (p : Program) (s : State) (m : Mark) (a : Addr) (c : Option Cell) (given : Value) (args : List Value)
    → call_cell p (with_here s m) a c given args ≡ call_cell p s a c given args
cell_here p s m a None given args = refl
cell_here p s m a (Some (cells.Object ps)) given args = refl
cell_here p s m a (Some (cells.Error e ps)) given args = refl
cell_here p s m a (Some (cells.Array vs)) given args = refl
cell_here p s m a (Some (cells.Text us)) given args = refl
cell_here p s m a (Some (cells.Bindings k n o ns)) given args = refl
cell_here p s m a (Some (cells.Function (code.BuiltIn f) n l o made)) given args = refl
cell_here p s m a (Some (cells.Function (code.Script number node) n l o made)) given args =
    code_here s m (function_at p (script_source number) node) (script_source number) a n o made given args
cell_here p s m a (Some (cells.Function (code.Kept at node) n l o made)) given args =
    code_here s m (function_at p (kept_source at) node) (kept_source at) a n o made given args

value_here : (p : Program) (s : State) (m : Mark) (x given : Value) (args : List Value)
    → call_value p (with_here s m) x given args ≡ call_value p s x given args
value_here p s m (values.Object a) given args = cell_here p s m a (read_cell s.world a) given args
value_here p s m x given args = refl

-- the place is set before the call
call_on : (ts : List (List ℕ)) (t : NodeTable) (p : Program) (m : Mark) (x given : Value) (args : List Value)
    (v : World) (b c : Context) (q : Reduced) (w : World) (d : Context)
    → Turns (set_here m) b c
    → ActsIn ts t args (λ s. call_value p s x given args) v c q w d
    → ActsIn ts t args (λ s. set_here m (call_value p s x given args)) v b q w d
call_on ts t p m x given args v b c q w d h g = λ e i taken.
    let k : call_value p (state_of v c taken) x given args ≡ call_value p (state_of v b taken) x given args = ap
    (λ s. call_value p s x given args) (sym (set_is v b c taken m h))
    ∙ value_here p (state_of v b taken) m x given args in
    let P : Action → Type 0 = λ a. Does ts t e a (state_of v c taken) q (state_of w d taken) in
    does-then ts t e (set_here m (call_value p (state_of v b taken) x given args))
    (call_value p (state_of v b taken) x given args) (state_of v b taken) (state_of v c taken) q
    (state_of w d taken) (h v taken (call_value p (state_of v b taken) x given args)) (subst P k (g e i taken))

-- with the values of a call one by one
pub call-split : (ts : List (List ℕ)) (t : NodeTable) (p : Program) (m : Mark) (vs : List Value) (v : World)
    (b c : Context) (q : Reduced) (w : World) (d : Context)
    → 2 ≤ length vs
    → Turns (set_here m) b c →
    ActsIn ts t (take (length vs - 2) (drop 2 vs))
    (λ s. call_value p s (get_or vs 1 values.Undefined) (get_or vs 0 values.Undefined)
    (take (length vs - 2) (drop 2 vs)))
    v c q w d
    → ActsOf ts t vs (λ s. call_row p s m vs) v b q w d
call-split ts t p m [] v b c q w d l h g = absurd (omega (arith, l))
call-split ts t p m (given ∷ []) v b c q w d l h g = absurd (omega (arith, l))
call-split ts t p m (given ∷ x ∷ args) v b c q w d l h g = λ e i.
    let Q : List Value → Type 0 = λ zs. ActsIn ts t zs (λ s. call_value p s x given zs) v c q w d in
    call_on ts t p m x given args v b c q w d h
    (subst Q (take_all (length (given ∷ x ∷ args) - 2) args (omega arith)) g) e (ap (λ zs. drop 2 zs) i)

-- without a `this` and a callee there is nothing to call
pub no-call-split : (ts : List (List ℕ)) (t : NodeTable) (p : Program) (m : Mark) (vs : List Value) (v : World)
    (c : Context)
    → length vs < 2
    → ActsOf ts t vs (λ s. call_row p s m vs) v c (reduced.Gives values.Undefined) v c
no-call-split ts t p m [] v c l = λ e i taken. give-does ts t e values.Undefined (state_of v c taken)
no-call-split ts t p m (given ∷ []) v c l = λ e i taken. give-does ts t e values.Undefined (state_of v c taken)
no-call-split ts t p m (given ∷ x ∷ args) v c l = absurd (omega (arith, l))

pub ends-in : (ts : List (List ℕ)) (t : NodeTable) (args : List Value) (a : Action) (v : World) (x : ActionEnd)
    (w : World) (c : Context) (q : Reduced)
    → Ends a v x w
    → q ≡ stopped x
    → ActsIn ts t args (λ s. a) v c q w c
ends-in ts t args a v x w c q h i = λ e k taken. ends-act ts t a v x w c q h i e taken

not_object : (p : Program) (s : State) (x given : Value) (args : List Value)
    → ((a : Addr) → x ≡ values.Object a → ⊥)
    → call_value p s x given args ≡ not_a_function
not_object p s values.Undefined given args h = refl
not_object p s values.Null given args h = refl
not_object p s (values.Bool b) given args h = refl
not_object p s (values.Number z) given args h = refl
not_object p s (values.Text a) given args h = refl
not_object p s (values.Object a) given args h = absurd (h a refl)

pub not-called : (ts : List (List ℕ)) (t : NodeTable) (p : Program) (args : List Value) (x given : Value) (v : World)
    (y : ActionEnd) (w : World) (c : Context) (q : Reduced)
    → ((a : Addr) → x ≡ values.Object a → ⊥)
    → Ends not_a_function v y w
    → q ≡ stopped y
    → ActsIn ts t args (λ s. call_value p s x given args) v c q w c
not-called ts t p args x given v y w c q h g i =
    acts_in ts t args (λ s. call_value p s x given args) (λ s. not_a_function) v c q w c
    (λ taken. not_object p (state_of v c taken) x given args h) (ends-in ts t args not_a_function v y w c q g i)
