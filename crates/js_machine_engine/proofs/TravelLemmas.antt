-- What takes a completion that travels outward.
use Rattle.std.proofs.Common.{◌≡◌, ℕ, false, List, [], ◌∷◌, Option, None, Some, slice_get, refl, sym, ap, subst, ◌∙◌, Result, OnOk}
use Rattle.std.specs.declared.alloc.AllocError.{AllocError}
use Rattle.js_heap.specs.declared.value.Addr.{Addr}
use Rattle.js_heap.specs.declared.value.Value.{Value}
use Rattle.js_heap.specs.declared.value.Value.TheVariants as values
use Rattle.js_heap.specs.World.{World}
use Rattle.js_semantics.specs.declared.form.Completion.{Completion}
use Rattle.js_semantics.specs.declared.form.Completion.TheVariants.{Throws as throws, Returns as returns, Breaks as breaks, Continues as continues}
use Rattle.js_semantics.specs.declared.form.Form.TheVariants.{Ending as ending}
use Rattle.js_semantics.specs.declared.form.SourceMark.{SourceMark}
use Rattle.js_semantics.specs.Terms.{Term, done, end, part, settled}
use Rattle.js_semantics.specs.State.{State, Move, goes, travels, go, give, pop_frame, went}
use Rattle.js_semantics.specs.Next.{scope_in}
use Rattle.js_semantics.specs.Rows.{taken}
use Rattle.js_machine_actions.specs.Flow.{performed}
use Rattle.js_machine_actions.specs.Contexts.{Context, state_of, Turns}
use Rattle.js_machine_nodes.specs.declared.op.Op.{Op}
use Rattle.js_machine_nodes.specs.declared.op.Op.TheVariants as ops
use Rattle.js_machine_nodes.specs.declared.node.ForOfEntry.{ForOfEntry}
use Rattle.js_machine_nodes.specs.declared.table.NodeTable.{NodeTable}
use Rattle.js_machine_nodes.specs.Trees.{trees}
use Rattle.js_machine_engine.specs.declared.answer.Demand.{Demand}
use Rattle.js_machine_engine.specs.declared.passing.Passing.TheVariants as passings
use Rattle.js_machine_engine.specs.declared.passing.Taking.{Taking}
use Rattle.js_machine_engine.specs.declared.passing.Taking.TheVariants as takings
use Rattle.js_machine_engine.specs.declared.reduced.Reduced.{Reduced}
use Rattle.js_machine_engine.specs.declared.stepped.Stepped.{Stepped}
use Rattle.js_machine_engine.specs.declared.task.Extra.{Extra}
use Rattle.js_machine_engine.specs.declared.task.Extra.TheVariants as extras
use Rattle.js_machine_engine.specs.declared.task.Point.{Point}
use Rattle.js_machine_engine.specs.declared.task.Redex.{Redex}
use Rattle.js_machine_engine.specs.declared.task.Task.{Task}
use Rattle.js_machine_engine.specs.Gaps.{plugged, resettled, scope_at, all_risen}
use Rattle.js_machine_engine.specs.Tasks.{Wide, gaps_of, task_form, later_of, scope_of, InScopes}
use Rattle.js_machine_engine.specs.Points.{term_at, IsAt}
use Rattle.js_machine_engine.specs.Rows.{IsCatching, CatchOf, redex}
use Rattle.js_machine_engine.specs.Stacks.{has_extra, wide, begun, outer_of, values_of, extra_of, without_values, at_part, OwnsOnly}
use Rattle.js_machine_engine.specs.Settling.{proceeding, settled_row, IsInnermost}
use Rattle.js_machine_engine.specs.Following.{innermost}
use Rattle.js_machine_engine.specs.Passing.{passing_try, passing_call, passing_turn, passing_entry, passing_of, TakesSo}
use Rattle.js_machine_engine.proofs.Taking.{took}
use Rattle.js_machine_engine.specs.Stepping.{Tells, TellsWithin, IfGoesOn, StandsIn, demand_of, Says, went_of}
use Rattle.std.proofs.lemmas.Result.{on_ok_weaker}
use Rattle.js_machine_engine.specs.Answers.{Reduces}
use Rattle.js_machine_engine.proofs.SettleLemmas.{resettled-part}
use Rattle.js_machine_engine.proofs.ClosingLemmas.{innermost-none}
use Rattle.js_machine_engine.proofs.ScopeLemmas.{has_scope, scopes-same}
use Rattle.js_machine_engine.proofs.FollowLemmas.{trees-none, waits-settled}
use Rattle.js_machine_engine.proofs.PassLemmas.{risen-by}
use Rattle.js_machine_engine.proofs.ConcludeLemmas.{says, went-follows, went-stands, goes-on-weaker}

-- ---- scopes

-- the scope in the innermost gap is that of the innermost task
pub scopes-at : (ts : List (List ℕ)) (t : NodeTable) (root : Addr) (ws : List Wide)
    → InScopes t root ws
    → scope_at root (gaps_of ts t ws) ≡ scope_of root ws
scopes-at ts t root [] s = refl
scopes-at ts t root (w ∷ ws) s = ap (scope_in (task_form ts t w)) (scopes-at ts t root ws s.1) ∙ s.0 ts

-- ---- which tasks take a completion so

keeps_turn : (c : Completion) → passing_turn c ≡ passings.Takes takings.Keeps → ⊥
keeps_turn (throws v place) e = cc
keeps_turn (returns v) e = cc
keeps_turn breaks e = cc
keeps_turn continues e = cc

keeps_entry : (o : Option ForOfEntry) (c : Completion) → passing_entry o c ≡ passings.Takes takings.Keeps → ⊥
keeps_entry None c e = cc
keeps_entry (Some x) c e = keeps_turn c e

keeps_call : (c : Completion) → passing_call c ≡ passings.Takes takings.Keeps → ⊥
keeps_call (throws v place) e = cc
keeps_call (returns v) e = cc
keeps_call breaks e = cc
keeps_call continues e = cc

keeps_try : (c : Completion) → passing_try c ≡ passings.Takes takings.Keeps → ⊥
keeps_try (throws v place) e = cc
keeps_try (returns v) e = cc
keeps_try breaks e = cc
keeps_try continues e = cc

keeps_op : (t : NodeTable) (op : Op) (info : ℕ) (c : Completion)
    → passing_of t op info c ≡ passings.Takes takings.Keeps
    → op ≡ ops.Finishing
keeps_op t ops.Finishing info c e = refl
keeps_op t ops.Catching info c e = absurd (keeps_try c e)
keeps_op t ops.CatchingName info c e = absurd (keeps_try c e)
keeps_op t ops.Frame info c e = absurd (keeps_call c e)
keeps_op t ops.LoopBody info c e = absurd (keeps_turn c e)
keeps_op t ops.BodyOf info c e = absurd (keeps_entry (slice_get t.for_ofs.items info) c e)
keeps_op t op info c e = cc

-- a throw, of this value
pub record IsThrow (c : Completion) (v : Value) : Type 0 where
  pub place : SourceMark
  pub is : c ≡ throws v place

catches_turn : (c : Completion) (v : Value) → passing_turn c ≡ passings.Takes (takings.Catches v) → ⊥
catches_turn (throws u place) v e = cc
catches_turn (returns u) v e = cc
catches_turn breaks v e = cc
catches_turn continues v e = cc

catches_entry : (o : Option ForOfEntry) (c : Completion) (v : Value)
    → passing_entry o c ≡ passings.Takes (takings.Catches v)
    → ⊥
catches_entry None c v e = cc
catches_entry (Some x) c v e = catches_turn c v e

catches_call : (c : Completion) (v : Value) → passing_call c ≡ passings.Takes (takings.Catches v) → ⊥
catches_call (throws u place) v e = cc
catches_call (returns u) v e = cc
catches_call breaks v e = cc
catches_call continues v e = cc

catches_try : (c : Completion) (v : Value) → passing_try c ≡ passings.Takes (takings.Catches v) → IsThrow c v
catches_try (throws u place) v e = record { place = place; is = cc }
catches_try (returns u) v e = cc
catches_try breaks v e = cc
catches_try continues v e = cc

-- what takes a throw
pub record Catches (op : Op) (c : Completion) (v : Value) : Type 0 where
  pub form : IsCatching op
  pub throw : IsThrow c v

catches_op : (t : NodeTable) (op : Op) (info : ℕ) (c : Completion) (v : Value)
    → passing_of t op info c ≡ passings.Takes (takings.Catches v)
    → Catches op c v
catches_op t ops.Catching info c v e = record { form = tt; throw = catches_try c v e }
catches_op t ops.CatchingName info c v e = record { form = tt; throw = catches_try c v e }
catches_op t ops.Frame info c v e = absurd (catches_call c v e)
catches_op t ops.LoopBody info c v e = absurd (catches_turn c v e)
catches_op t ops.BodyOf info c v e = absurd (catches_entry (slice_get t.for_ofs.items info) c v e)
catches_op t op info c v e = cc

catching_owns : (op : Op) (info : ℕ) → IsCatching op → has_extra op info ≡ false
catching_owns ops.Catching info h = refl
catching_owns ops.CatchingName info h = refl
catching_owns op info h = absurd h

takes_task : (t : NodeTable) (old : List Wide) (task : Task) (e : Option Extra) (c : Completion) (k : Taking)
    → IsInnermost task e old
    → TakesSo t old c (Some k)
    → passing_of t task.op task.info c ≡ passings.Takes k
takes_task t old task e c k i h =
    let P : List Wide → Type 0 = λ ws. TakesSo t ws c (Some k) in
    subst P i h

pub keeps-op : (t : NodeTable) (old : List Wide) (task : Task) (e : Option Extra) (c : Completion)
    → IsInnermost task e old
    → TakesSo t old c (Some takings.Keeps)
    → task.op ≡ ops.Finishing
keeps-op t old task e c i h = keeps_op t task.op task.info c (takes_task t old task e c takings.Keeps i h)

pub catches : (t : NodeTable) (old : List Wide) (task : Task) (e : Option Extra) (c : Completion) (v : Value)
    → IsInnermost task e old
    → TakesSo t old c (Some (takings.Catches v))
    → Catches task.op c v
catches t old task e c v i h = catches_op t task.op task.info c v (takes_task t old task e c (takings.Catches v) i h)

-- ---- a `finally`

keep_at : (ts : List (List ℕ)) (t : NodeTable) (task : Task) (vs : List Value) (ws : List Wide) (c : Completion)
    → resettled (gaps_of ts t ws) (settled (ending (Some c)) (later_of ts t (wide task vs None)) end) ≡ proceeding ts t
    (begun ops.Ending 1 task.mid task.end task.end task.inner (Some (extras.Kept c)) ∷ ws)
unfolding task_form
keep_at ts t task vs ws c =
    ap (resettled (gaps_of ts t ws)) (waits-settled (ending (Some c)) (trees ts t task.mid task.end) end refl)
    ∙ resettled-part (gaps_of ts t ws) (ending (Some c)) (trees ts t task.mid task.end) end
    ∙ ap (λ x. plugged (gaps_of ts t ws) (part (ending (Some c)) (trees ts t task.mid task.end) x))
    (sym (trees-none ts t task.end))

pub keep-term : (ts : List (List ℕ)) (t : NodeTable) (old us new : List Wide) (task : Task) (c : Completion)
    → IsInnermost task None old
    → us ≡ outer_of old
    → new ≡ begun ops.Ending 1 task.mid task.end task.end task.inner (Some (extras.Kept c)) ∷ us
    → resettled (gaps_of ts t (outer_of old)) (settled (ending (Some c)) (later_of ts t (innermost old)) end)
    ≡ proceeding ts t new
keep-term ts t old us new task c i o n =
    ap (λ ws. resettled (gaps_of ts t (outer_of ws)) (settled (ending (Some c)) (later_of ts t (innermost ws)) end)) i
    ∙ keep_at ts t task (values_of old) (outer_of old) c
    ∙ ap (λ ws. proceeding ts t (begun ops.Ending 1 task.mid task.end task.end task.inner (Some (extras.Kept c)) ∷ ws))
    (sym o)
    ∙ ap (proceeding ts t) (sym n)

finishing_scope : (op : Op) (info : ℕ) → op ≡ ops.Finishing → has_scope op info ≡ false
finishing_scope op info e = ap (λ x. has_scope x info) e

pub keep-scopes : (t : NodeTable) (old us new : List Wide) (task : Task) (c : Completion)
    → IsInnermost task None old
    → task.op ≡ ops.Finishing
    → us ≡ outer_of old
    → new ≡ begun ops.Ending 1 task.mid task.end task.end task.inner (Some (extras.Kept c)) ∷ us
    → (root : Addr)
    → InScopes t root old
    → InScopes t root new
keep-scopes t old us new task c i f o n root s =
    let P : List Wide → Type 0 = InScopes t root in
    let b : Wide = begun ops.Ending 1 task.mid task.end task.end task.inner (Some (extras.Kept c)) in
    subst P (sym (n ∙ ap (λ ws. b ∷ ws) o))
    (scopes-same t root (wide task (values_of old) None) b (outer_of old) (finishing_scope task.op task.info f)
    refl refl (subst P i s))

-- ---- a turn

turn_at : (ts : List (List ℕ)) (t : NodeTable) (w : Wide) (ws : List Wide) (at : ℕ)
    → resettled (gaps_of ts t ws) (settled (task_form ts t w) end (later_of ts t w)) ≡ settled_row ts t
    (at_part at (without_values (w ∷ ws)))
unfolding task_form
turn_at ts t w ws at = refl

pub turn-term : (ts : List (List ℕ)) (t : NodeTable) (old us new : List Wide) (task : Task) (e : Option Extra)
    → IsInnermost task e old
    → us ≡ without_values old
    → new ≡ at_part task.mid us
    → resettled (gaps_of ts t (outer_of old))
    (settled (task_form ts t (innermost old)) end (later_of ts t (innermost old))) ≡ settled_row ts t new
turn-term ts t old us new task e i u n =
    ap (λ ws. resettled (gaps_of ts t (outer_of ws))
    (settled (task_form ts t (innermost ws)) end (later_of ts t (innermost ws))))
    i
    ∙ turn_at ts t (wide task (values_of old) e) (outer_of old) task.mid
    ∙ ap (λ ws. settled_row ts t (at_part task.mid (without_values ws))) (sym i)
    ∙ ap (λ ws. settled_row ts t (at_part task.mid ws)) (sym u)
    ∙ ap (settled_row ts t) (sym n)

same_scopes : (t : NodeTable) (root : Addr) (w : Wide) (ws : List Wide) (at : ℕ)
    → InScopes t root (w ∷ ws)
    → InScopes t root (at_part at (without_values (w ∷ ws)))
unfolding task_form
same_scopes t root w ws at s = s

pub turn-scopes : (t : NodeTable) (old us new : List Wide) (task : Task) (e : Option Extra)
    → IsInnermost task e old
    → us ≡ without_values old
    → new ≡ at_part task.mid us
    → (root : Addr)
    → InScopes t root old
    → InScopes t root new
turn-scopes t old us new task e i u n root s =
    let P : List Wide → Type 0 = InScopes t root in
    subst P (sym (n ∙ ap (at_part task.mid) (u ∙ ap without_values i)))
    (same_scopes t root (wide task (values_of old) e) (outer_of old) task.mid (subst P i s))

-- ---- what the innermost task makes of it

takes_inner : (ts : List (List ℕ)) (t : NodeTable) (root : Addr) (old : List Wide) (c : Completion) (k : Taking)
    (s : State)
    → TakesSo t old c (Some k)
    → all_risen root (gaps_of ts t old) (travels c s) ≡ all_risen root (gaps_of ts t (outer_of old))
    (performed
    (took (scope_at root (gaps_of ts t (outer_of old))) (task_form ts t (innermost old)) c
    (later_of ts t (innermost old)) (passings.Takes k))
    s)
takes_inner ts t root [] c k s h = absurd h
takes_inner ts t root (w ∷ ws) c k s h = risen-by ts t root w ws c (passings.Takes k) s h

pub told-by : (ts : List (List ℕ)) (t : NodeTable) (root : Addr) (old new : List Wide) (p : Point) (c : Completion)
    (k : Taking) (stepped : Stepped) (s u : State)
    → TakesSo t old c (Some k)
    → TellsWithin ts t root (outer_of old)
    (performed
    (took (scope_at root (gaps_of ts t (outer_of old))) (task_form ts t (innermost old)) c
    (later_of ts t (innermost old)) (passings.Takes k))
    s)
    stepped new p u
    → TellsWithin ts t root old (travels c s) stepped new p u
told-by ts t root old new p c k stepped s u h g =
    let P : Move Term → Type 0 = λ m. Tells m stepped (term_at ts t new p) u in
    subst P (sym (takes_inner ts t root old c k s h)) g

gone : (x : Term) (s : State) → performed (go x) s ≡ goes x s went
unfolding performed
gone x s = refl

-- a call returns
pub returns-told : (ts : List (List ℕ)) (t : NodeTable) (root : Addr) (old new : List Wide) (p : Point) (c : Completion)
    (v : Value) (stepped : Stepped) (r : Result (Unit {0}) AllocError) (w : World) (before after : Context)
    (taken : List (List ℕ))
    → TakesSo t old c (Some (takings.Returns v))
    → Turns pop_frame before after
    → stepped ≡ went_of r
    → OnOk r ((names : List (List ℕ)) → resettled (gaps_of names t (outer_of old)) (done v) ≡ term_at names t new p)
    → TellsWithin ts t root old (travels c (state_of w before taken)) stepped new p (state_of w after taken)
returns-told ts t root old new p c v stepped r w before after taken h f e x =
    told-by ts t root old new p c (takings.Returns v) stepped (state_of w before taken) (state_of w after taken) h
    (went-follows r stepped ts t root (outer_of old) new p (performed (pop_frame (give v)) (state_of w before taken))
    (λ names. done v) (state_of w after taken) e (f w taken (give v) ∙ gone (done v) (state_of w after taken)) x)

-- a loop ends
pub breaks-told : (ts : List (List ℕ)) (t : NodeTable) (root : Addr) (old new : List Wide) (p : Point) (c : Completion)
    (stepped : Stepped) (r : Result (Unit {0}) AllocError) (s : State)
    → TakesSo t old c (Some takings.Breaks)
    → stepped ≡ went_of r
    → OnOk r ((names : List (List ℕ))
    → resettled (gaps_of names t (outer_of old)) (done values.Undefined) ≡ term_at names t new p)
    → TellsWithin ts t root old (travels c s) stepped new p s
breaks-told ts t root old new p c stepped r s h e x =
    told-by ts t root old new p c takings.Breaks stepped s s h
    (went-follows r stepped ts t root (outer_of old) new p (performed (give values.Undefined) s)
    (λ names. done values.Undefined) s e (gone (done values.Undefined) s) x)

-- a loop goes on
pub turns-told : (ts : List (List ℕ)) (t : NodeTable) (root : Addr) (old new : List Wide) (p : Point) (c : Completion)
    (stepped : Stepped) (r : Result (Unit {0}) AllocError) (s : State)
    → TakesSo t old c (Some takings.Turns)
    → stepped ≡ went_of r
    → OnOk r ((names : List (List ℕ))
    → resettled (gaps_of names t (outer_of old))
    (settled (task_form names t (innermost old)) end (later_of names t (innermost old)))
    ≡ term_at names t new p)
    → TellsWithin ts t root old (travels c s) stepped new p s
turns-told ts t root old new p c stepped r s h e x =
    let u : List (List ℕ)
    → Term = λ names. settled (task_form names t (innermost old)) end (later_of names t (innermost old)) in
    told-by ts t root old new p c takings.Turns stepped s s h
    (went-follows r stepped ts t root (outer_of old) new p (performed (go (u ts)) s) u s e (gone (u ts) s) x)

-- a `finally` runs
pub keeps-told : (ts : List (List ℕ)) (t : NodeTable) (root : Addr) (old new : List Wide) (p : Point) (c : Completion)
    (stepped : Stepped) (r : Result (Unit {0}) AllocError) (s : State)
    → TakesSo t old c (Some takings.Keeps)
    → stepped ≡ went_of r
    → OnOk r ((names : List (List ℕ))
    → resettled (gaps_of names t (outer_of old)) (settled (ending (Some c)) (later_of names t (innermost old)) end)
    ≡ term_at names t new p)
    → TellsWithin ts t root old (travels c s) stepped new p s
keeps-told ts t root old new p c stepped r s h e x =
    let u : List (List ℕ) → Term = λ names. settled (ending (Some c)) (later_of names t (innermost old)) end in
    told-by ts t root old new p c takings.Keeps stepped s s h
    (went-follows r stepped ts t root (outer_of old) new p (performed (go (u ts)) s) u s e (gone (u ts) s) x)

-- ---- a `catch`

-- the innermost task as what is about to be reduced
abbrev pub task_redex : Task → Redex
task_redex task = record { op = task.op; info = task.info; mid = task.mid; end = task.end; inner = task.inner }

pub at-outer : (old mid : List Wide) (at : ℕ) → mid ≡ at_part at old → outer_of mid ≡ outer_of old
at-outer [] mid at e = ap outer_of e
at-outer (w ∷ ws) mid at e = ap outer_of e

at_scoped : (t : NodeTable) (root : Addr) (old : List Wide) (at : ℕ)
    → InScopes t root old
    → InScopes t root (at_part at old)
unfolding task_form
at_scoped t root [] at s = tt
at_scoped t root (w ∷ ws) at s = s

pub at-scopes : (t : NodeTable) (root : Addr) (old mid : List Wide) (at : ℕ)
    → mid ≡ at_part at old
    → InScopes t root old
    → InScopes t root mid
at-scopes t root old mid at e s =
    let P : List Wide → Type 0 = InScopes t root in
    subst P (sym e) (at_scoped t root old at s)

catch_at : (ts : List (List ℕ)) (t : NodeTable) (root : Addr) (task : Task) (vs : List Value) (ws : List Wide)
    (c : Completion) (v : Value) (place : SourceMark) (r : Reduced) (s u : State)
    → c ≡ throws v place
    → CatchOf ts t (redex (task_redex task) vs None) (scope_at root (gaps_of ts t ws)) v place s r u
    → InScopes t root (wide task vs None ∷ ws)
    → Reduces ts t (redex (task_redex task) vs None)
    (performed
    (taken (scope_at root (gaps_of ts t ws)) (task_form ts t (wide task vs None)) c
    (later_of ts t (wide task vs None)))
    s)
    r u
unfolding task_form
catch_at ts t root task vs ws c v place r s u e h i =
    let P : Completion
    → Type 0 = λ x. Reduces ts t (redex (task_redex task) vs None)
    (performed
    (taken (scope_at root (gaps_of ts t ws)) (task_form ts t (wide task vs None)) x
    (later_of ts t (wide task vs None)))
    s)
    r u in
    subst P (sym e) (h (ap (scope_in (task_form ts t (wide task vs None))) (scopes-at ts t root ws i.1) ∙ i.0 ts))

catch_within : (ts : List (List ℕ)) (t : NodeTable) (root : Addr) (old mid : List Wide) (task : Task) (c : Completion)
    (v : Value) (place : SourceMark) (r : Reduced) (a : Demand) (s u : State)
    → IsInnermost task None old
    → mid ≡ at_part task.mid old
    → a ≡ demand_of r
    → c ≡ throws v place
    → CatchOf ts t (redex (task_redex task) (values_of old) None) (scope_at root (gaps_of ts t (outer_of old)))
    v place s r u
    → InScopes t root old
    → Says ts t (innermost mid)
    (performed
    (taken (scope_at root (gaps_of ts t (outer_of old))) (task_form ts t (innermost old)) c
    (later_of ts t (innermost old)))
    s)
    r a u
catch_within ts t root old mid task c v place r a s u i n b e h o =
    let scope : Addr = scope_at root (gaps_of ts t (outer_of old)) in
    let at : Wide = redex (task_redex task) (values_of old) None in
    let P : List Wide → Type 0 = InScopes t root in
    let m : Wide → Move Term = λ w. performed (taken scope (task_form ts t w) c (later_of ts t w)) s in
    let Q : Demand → Type 0 = λ x. Says ts t (innermost mid) (m (innermost old)) r x u in
    let R : Wide → Type 0 = λ w. Says ts t w (m (innermost old)) r (demand_of r) u in
    let S : Wide → Type 0 = λ w. Says ts t at (m w) r (demand_of r) u in
    let k : Says ts t at (m (wide task (values_of old) None)) r (demand_of r) u = says ts t at
    (m (wide task (values_of old) None)) r u
    (catch_at ts t root task (values_of old) (outer_of old) c v place r s u e h (subst P i o)) in
    subst Q (sym b) (subst R (sym (ap innermost (n ∙ ap (at_part task.mid) i))) (subst S (sym (ap innermost i)) k))

pub catch-told : (ts : List (List ℕ)) (t : NodeTable) (root : Addr) (old mid new : List Wide) (p : Point) (task : Task)
    (c : Completion) (v : Value) (r : Reduced) (a : Demand) (stepped : Stepped) (s u : State)
    → IsInnermost task (extra_of old) old
    → OwnsOnly old
    → TakesSo t old c (Some (takings.Catches v))
    → InScopes t root old
    → mid ≡ at_part task.mid old
    → a ≡ demand_of r
    → ((outer : Addr) (place : SourceMark) (vs : List Value)
    → CatchOf ts t (redex (task_redex task) vs None) outer v place s r u)
    → ((m : Move Term) → Says ts t (innermost mid) m r a u → TellsWithin ts t root (outer_of mid) m stepped new p u)
    → TellsWithin ts t root old (travels c s) stepped new p u
catch-told ts t root old mid new p task c v r a stepped s u i o k h n b caught told =
    let x : Catches task.op c v = catches t old task (extra_of old) c v i k in
    let j : IsInnermost task None old = innermost-none old task i o (catching_owns task.op task.info x.form) in
    let m : Move Term = performed
    (taken (scope_at root (gaps_of ts t (outer_of old))) (task_form ts t (innermost old)) c
    (later_of ts t (innermost old)))
    s in
    let P : List Wide → Type 0 = λ ws. TellsWithin ts t root ws m stepped new p u in
    told-by ts t root old new p c (takings.Catches v) stepped s u k
    (subst P (at-outer old mid task.mid n)
    (told m (catch_within ts t root old mid task c v x.throw.place r a s u j n b x.throw.is
    (caught (scope_at root (gaps_of ts t (outer_of old))) x.throw.place (values_of old)) h)))

-- ---- where it stands afterwards

pub went-stood : (r : Result (Unit {0}) AllocError) (stepped : Stepped) (t : NodeTable) (root : Addr)
    (old new : List Wide) (p : Point)
    → stepped ≡ went_of r
    → OnOk r (IsAt t new p)
    → OnOk r ((a : Addr) → InScopes t a old → InScopes t a new)
    → InScopes t root old
    → IfGoesOn stepped (StandsIn t root new p)
went-stood r stepped t root old new p w a h s =
    goes-on-weaker stepped (λ k. k s) (went-stands r stepped t root old new p w a (on_ok_weaker r (λ k. k root) h))

pub takes-as : (t : NodeTable) (ws : List Wide) (c : Completion) (k j : Taking)
    → k ≡ j
    → TakesSo t ws c (Some k)
    → TakesSo t ws c (Some j)
takes-as t ws c k j e h =
    let P : Taking → Type 0 = λ x. TakesSo t ws c (Some x) in
    subst P e h
