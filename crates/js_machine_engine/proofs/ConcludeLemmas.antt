-- What a step tells, from what its row answers.
use Rattle.std.proofs.Common.{◌≡◌, ℕ, List, refl, sym, ap, subst, ◌∙◌, Result, Ok, Err, OnOk}
use Rattle.std.proofs.lemmas.Result.{on_ok_weaker}
use Rattle.std.specs.declared.alloc.AllocError.{AllocError}
use Rattle.std.specs.declared.alloc.Global.{Global}
use Rattle.std.specs.declared.vec.Vec.{Vec}
use Rattle.js_heap.specs.declared.value.Addr.{Addr}
use Rattle.js_heap.specs.declared.value.Value.{Value}
use Rattle.js_heap.specs.declared.value.Value.TheVariants as values
use Rattle.js_heap.specs.declared.change.Counted.{Counted}
use Rattle.js_heap.specs.World.{World}
use Rattle.js_semantics.specs.Terms.{Term, done, standing, settle}
use Rattle.js_semantics.specs.State.{State, Move, goes, has_effect, is_full, StepTold, went, raised, printed_values, spot_of, top_spot}
use Rattle.js_machine_actions.specs.Contexts.{Context, state_of}
use Rattle.js_machine_nodes.specs.declared.table.NodeTable.{NodeTable}
use Rattle.js_machine_nodes.specs.Trees.{tree}
use Rattle.js_machine_engine.specs.declared.answer.Demand.{Demand}
use Rattle.js_machine_engine.specs.declared.reduced.Reduced.{Reduced}
use Rattle.js_machine_engine.specs.declared.reduced.Reduced.TheVariants as reduced
use Rattle.js_machine_engine.specs.declared.stepped.Stepped.{Stepped}
use Rattle.js_machine_engine.specs.declared.stepped.Stepped.TheVariants as steppeds
use Rattle.js_machine_engine.specs.declared.task.Point.{Point}
use Rattle.js_machine_engine.specs.declared.task.Point.TheVariants as points
use Rattle.js_machine_engine.specs.Gaps.{resettled, all_risen}
use Rattle.js_machine_engine.specs.Tasks.{Wide, gaps_of, InScopes}
use Rattle.js_machine_engine.specs.Points.{term_at, IsAt}
use Rattle.js_machine_engine.specs.Answers.{reduced_move, reduced_term, Reduces}
use Rattle.js_machine_engine.specs.Stacks.{outer_of}
use Rattle.js_machine_engine.specs.Stepping.{IfGoesOn, StandsIn, demand_of, Says, Raises, went_of, TellsWithin}
use Rattle.js_machine_engine.proofs.GapLemmas.{goes-risen, effect-risen, full-risen, plugged-resettled}

-- what an answer says, by what it asks for
pub says : (ts : List (List ℕ)) (t : NodeTable) (w : Wide) (m : Move Term) (r : Reduced) (s : State)
    → Reduces ts t w m r s
    → Says ts t w m r (demand_of r) s
unfolding reduced_move
says ts t w m reduced.Memory s h = tt
says ts t w m (reduced.Raises v) s h = h
says ts t w m (reduced.Returns v) s h = h
says ts t w m reduced.Breaks s h = h
says ts t w m reduced.Continues s h = h
says ts t w m reduced.Resumes s h = h
says ts t w m reduced.Prints s h = h
says ts t w m reduced.Effect s h = h
says ts t w m (reduced.Full what) s h = h
says ts t w m r s h = h

pub says-as : (ts : List (List ℕ)) (t : NodeTable) (w : Wide) (m : Move Term) (r : Reduced) (a b : Demand) (s : State)
    → a ≡ b
    → Says ts t w m r a s
    → Says ts t w m r b s
says-as ts t w m r a b s e h =
    let P : Demand → Type 0 = λ x. Says ts t w m r x s in
    subst P e h

-- ---- a move that goes on

goes_to : (ts : List (List ℕ)) (t : NodeTable) (root : Addr) (old new : List Wide) (p : Point) (u : Term) (s : State)
    (told : StepTold)
    → resettled (gaps_of ts t old) u ≡ term_at ts t new p
    → all_risen root (gaps_of ts t old) (goes u s told) ≡ goes (term_at ts t new p) s told
goes_to ts t root old new p u s told e = goes-risen root (gaps_of ts t old) u s told ∙ ap (λ x. goes x s told) e

-- with the part that a call put there, if there was memory
pub went-told : (r : Result (Unit {0}) AllocError) (stepped : Stepped) (ts : List (List ℕ)) (t : NodeTable)
    (root : Addr) (old new : List Wide) (p : Point) (m : Move Term) (u : Term) (s : State)
    → stepped ≡ went_of r
    → m ≡ goes u s went
    → OnOk r (resettled (gaps_of ts t old) u ≡ term_at ts t new p)
    → TellsWithin ts t root old m stepped new p s
went-told (Ok x) stepped ts t root old new p m u s w e h =
    let P : Stepped → Type 0 = λ x. TellsWithin ts t root old m x new p s in
    subst P (sym w) (ap (all_risen root (gaps_of ts t old)) e ∙ goes_to ts t root old new p u s went h)
went-told (Err x) stepped ts t root old new p m u s w e h =
    let P : Stepped → Type 0 = λ x. TellsWithin ts t root old m x new p s in
    subst P (sym w) tt

-- the same of what a call says for all names
pub went-follows : (r : Result (Unit {0}) AllocError) (stepped : Stepped) (ts : List (List ℕ)) (t : NodeTable)
    (root : Addr) (old new : List Wide) (p : Point) (m : Move Term) (u : List (List ℕ) → Term) (s : State)
    → stepped ≡ went_of r
    → m ≡ goes (u ts) s went
    → OnOk r ((names : List (List ℕ)) → resettled (gaps_of names t old) (u names) ≡ term_at names t new p)
    → TellsWithin ts t root old m stepped new p s
went-follows r stepped ts t root old new p m u s w e h =
    went-told r stepped ts t root old new p m (u ts) s w e (on_ok_weaker r (λ f. f ts) h)

-- what it says of an answer that is this one
pub says-of : (ts : List (List ℕ)) (t : NodeTable) (w : Wide) (m : Move Term) (r x : Reduced) (s : State)
    → r ≡ x
    → Says ts t w m r (demand_of r) s
    → Says ts t w m x (demand_of x) s
says-of ts t w m r x s e h =
    let P : Reduced → Type 0 = λ x. Says ts t w m x (demand_of x) s in
    subst P e h

-- a value came
pub gives-told : (o : Result (Unit {0}) AllocError) (stepped : Stepped) (ts : List (List ℕ)) (t : NodeTable)
    (root : Addr) (old new : List Wide) (p : Point) (m : Move Term) (w : Wide) (r : Reduced) (v : Value) (s : State)
    → stepped ≡ went_of o
    → r ≡ reduced.Gives v
    → Says ts t w m r (demand_of r) s
    → OnOk o ((names : List (List ℕ)) → resettled (gaps_of names t old) (done v) ≡ term_at names t new p)
    → TellsWithin ts t root old m stepped new p s
unfolding reduced_term
gives-told o stepped ts t root old new p m w r v s y e says h =
    went-follows o stepped ts t root old new p m (λ names. done v) s y (says-of ts t w m r (reduced.Gives v) s e says) h

-- a part came uncovered
pub uncovers-told : (o : Result (Unit {0}) AllocError) (stepped : Stepped) (ts : List (List ℕ)) (t : NodeTable)
    (root : Addr) (old new : List Wide) (p : Point) (m : Move Term) (w : Wide) (r : Reduced) (n : ℕ) (s : State)
    → stepped ≡ went_of o
    → r ≡ reduced.Uncovers n
    → Says ts t w m r (demand_of r) s
    → OnOk o ((names : List (List ℕ))
    → resettled (gaps_of names t old) (settle (tree names t n)) ≡ term_at names t new p)
    → TellsWithin ts t root old m stepped new p s
unfolding reduced_term
uncovers-told o stepped ts t root old new p m w r n s y e says h =
    went-follows o stepped ts t root old new p m (λ names. settle (tree names t n)) s y
    (says-of ts t w m r (reduced.Uncovers n) s e says) h

pub went-stands : (r : Result (Unit {0}) AllocError) (stepped : Stepped) (t : NodeTable) (root : Addr)
    (old new : List Wide) (p : Point)
    → stepped ≡ went_of r
    → OnOk r (IsAt t new p)
    → OnOk r (InScopes t root old → InScopes t root new)
    → IfGoesOn stepped (InScopes t root old → StandsIn t root new p)
went-stands (Ok x) stepped t root old new p w a h =
    let P : Stepped → Type 0 = λ x. IfGoesOn x (InScopes t root old → StandsIn t root new p) in
    subst P (sym w) (λ s. record { at = a; scoped = h s })
went-stands (Err x) stepped t root old new p w a h =
    let P : Stepped → Type 0 = λ x. IfGoesOn x (InScopes t root old → StandsIn t root new p) in
    subst P (sym w) tt

-- ---- a throw

stands_at : (ts : List (List ℕ)) (t : NodeTable) (ws : List Wide) (v : Value) (c : Context)
    → resettled (gaps_of ts t ws) (standing v (top_spot c.frames)) ≡ term_at ts t ws
    (points.Stands v (top_spot c.frames))
unfolding term_at
stands_at ts t ws v c = plugged-resettled (gaps_of ts t ws) (standing v (top_spot c.frames)) refl

pub raise-told : (ts : List (List ℕ)) (t : NodeTable) (root : Addr) (ws : List Wide) (v : Value) (c : Context)
    (w : World) (taken : List (List ℕ)) (stepped : Stepped) (p : Point) (m : Move Term)
    → Raises v c stepped p
    → m ≡ goes (standing v (spot_of (state_of w c taken))) (state_of w c taken) raised
    → TellsWithin ts t root ws m stepped ws p (state_of w c taken)
raise-told ts t root ws v c w taken stepped p m h e =
    let s : State = state_of w c taken in
    let P : Stepped → Type 0 = λ x. TellsWithin ts t root ws m x ws p s in
    let Q : Point → Type 0 = λ x. TellsWithin ts t root ws m steppeds.Raised ws x s in
    subst P (sym h.0)
    (subst Q (sym h.1)
    (ap (all_risen root (gaps_of ts t ws)) e
    ∙ goes_to ts t root ws ws (points.Stands v (top_spot c.frames)) (standing v (top_spot c.frames))
    s raised (stands_at ts t ws v c)))

pub goes-on-weaker : {P Q : Type 0} (stepped : Stepped) → (P → Q) → IfGoesOn stepped P → IfGoesOn stepped Q
goes-on-weaker steppeds.Went f h = f h
goes-on-weaker steppeds.Raised f h = f h
goes-on-weaker (steppeds.Printed vs) f h = f h
goes-on-weaker (steppeds.Over g) f h = tt
goes-on-weaker steppeds.Effect f h = tt
goes-on-weaker (steppeds.Full what) f h = tt
goes-on-weaker steppeds.Memory f h = tt

-- ---- the end of an evaluation

pub effect-told : (ts : List (List ℕ)) (t : NodeTable) (root : Addr) (old new : List Wide) (p : Point) (m : Move Term)
    (s : State)
    → m ≡ has_effect s
    → TellsWithin ts t root old m steppeds.Effect new p s
effect-told ts t root old new p m s e =
    ap (all_risen root (gaps_of ts t old)) e ∙ effect-risen root (gaps_of ts t old) s

pub full-told : (ts : List (List ℕ)) (t : NodeTable) (root : Addr) (old new : List Wide) (p : Point) (what : Counted)
    (m : Move Term) (s : State)
    → m ≡ is_full what s
    → TellsWithin ts t root old m (steppeds.Full what) new p s
full-told ts t root old new p what m s e =
    ap (all_risen root (gaps_of ts t old)) e ∙ full-risen root (gaps_of ts t old) what s

-- ---- what is printed

pub printed-told : (ts : List (List ℕ)) (t : NodeTable) (root : Addr) (old new : List Wide) (p : Point)
    (vs : Vec Value Global) (s : State)
    → resettled (gaps_of ts t old) (done values.Undefined) ≡ term_at ts t new p
    → TellsWithin ts t root old (goes (done values.Undefined) s (printed_values vs.items)) (steppeds.Printed vs) new p s
printed-told ts t root old new p vs s e =
    goes_to ts t root old new p (done values.Undefined) s (printed_values vs.items) e

-- the same behind what was popped
pub told-popped : (ts : List (List ℕ)) (t : NodeTable) (root : Addr) (old us new : List Wide) (p : Point)
    (m : Move Term) (stepped : Stepped) (s : State)
    → us ≡ outer_of old
    → TellsWithin ts t root us m stepped new p s
    → TellsWithin ts t root (outer_of old) m stepped new p s
told-popped ts t root old us new p m stepped s o h =
    let P : List Wide → Type 0 = λ ws. TellsWithin ts t root ws m stepped new p s in
    subst P o h
