-- An evaluation that begins in a sound world answers a sound value in a sound world.
use Rattle.std.proofs.Common.{◌≡◌, ◌⊎◌, inl, inr, ℕ, zero, suc, ◌+◌, ◌-◌, ◌<◌, ◌≤◌, Bool, true, false, List, [], ◌∷◌, ◌++◌, Option, None, Some, length, refl, sym, ap, ◌∙◌, subst, arith, length-append, if◌then◌else◌}
use Rattle.std.specs.Prelude.{nat_lt, nat_le, slice_get}
use Rattle.js_heap.specs.declared.value.Addr.{Addr}
use Rattle.js_heap.specs.declared.value.Addr.TheVariants.{Scratch}
use Rattle.js_heap.specs.declared.value.Value.{Value}
use Rattle.js_heap.specs.declared.value.Value.TheVariants as values
use Rattle.js_heap.specs.declared.cell.Cell.{Cell}
use Rattle.js_heap.specs.declared.cell.Cell.TheVariants as cells
use Rattle.js_heap.specs.declared.cell.Property.{Property}
use Rattle.js_heap.specs.declared.change.Counted.{Counted}
use Rattle.js_heap.specs.declared.change.Counted.TheVariants as counted
use Rattle.js_heap.specs.Keys.{put_property}
use Rattle.js_heap.specs.Cells.{kind_of, weight}
use Rattle.js_heap.specs.World.{Room, World, Tried, fine, effect, full, read_cell, next_address, with_cell, room_less, make_cell}
use Rattle.js_heap.specs.Worlds.{Leads, IsTextKind, IsObjectKind, Keeps, AfterFine, SoundValue, SoundScope, SoundValues, SoundProperties, SoundCell, IsSound, Later}
use Rattle.js_heap.specs.BuiltIns.{script_scope}
use Rattle.js_heap.proofs.MapLemmas.{get-last}
use Rattle.js_heap.proofs.KeepLemmas.{made_kinds, making-keeps}
use Rattle.js_heap.proofs.SoundLemmas.{sound-value, sound-scope, sound_properties, made_sound, making-sound, making-leads, leads-to, leads-stays, put_sound}
use Rattle.js_semantics.specs.Terms.{Term}
use Rattle.js_semantics.specs.State.{State}
use Rattle.js_semantics.specs.Functions.{Program}
use Rattle.js_semantics.specs.Makers.{LoweringContext, MadeExpression}
use Rattle.js_semantics.specs.Untouched.{IsUntouched}
use Rattle.js_semantics.specs.Run.{ended, threw, by_effect, by_full, Run, running, over, run_of, steps_in, literals}
use Rattle.js_semantics.specs.Evaluation.{ScratchSpace, copied_world, after_try, keep_source, make_literals, place_literals, Json, json_null, json_bool, json_number, json_string, json_array, json_object, Jsons, no_jsons, a_json, Members, no_members, a_member, object_value, make_json, make_jsons, make_members, Argument, given, made_of, make_argument, make_arguments, budget, Answer, answer_of, evaluation_state, answered, next_kept, kept_term, kept_tree, with_source, prepared, evaluated, evaluate, call_with_values, with_arguments, evaluate_call}
use Rattle.js_semantics.specs.Sound.{SoundTerm, SoundRun, SoundArguments, IsReady, SoundAnswer}
use Rattle.js_semantics.proofs.FollowLemmas.{run_of-state}
use Rattle.js_semantics.proofs.SoundTerms.{later-same, later-trans, sound-term, sound-program, sound-built_ins, dones-sound}
use Rattle.js_semantics.proofs.SoundValues.{leads-as}
use Rattle.js_semantics.proofs.SoundSteps.{of-sound, steps-sound}
use Rattle.js_semantics.proofs.StartLemmas.{AreTexts, placed-sound}

-- ---- what is made, in a later sound world

abbrev Good : {A : Type 0} → World → Tried A → (World → A → Type 0) → Type 0
Good w (fine a v) P = IsSound v × Later w v × P v a
Good w effect P = Unit {0}
Good w (full what) P = Unit {0}

widened : {A : Type 0} (w v : World) (t : Tried A) (P : World → A → Type 0) → Later w v → Good v t P → Good w t P
widened w v (fine a u) P l h = (h.0, later-trans w v u l h.1, h.2)
widened w v effect P l h = tt
widened w v (full what) P l h = tt

then-good : {A B : Type 0} (w : World) (t : Tried A) (k : A → World → Tried B) (P : World → A → Type 0)
    (Q : World → B → Type 0)
    → Good w t P
    → ((a : A) (v : World) → IsSound v → Later w v → P v a → Good v (k a v) Q)
    → Good w (after_try t k) Q
then-good w (fine a v) k P Q h rest = widened w v (k a v) Q h.1 (rest a v h.0 h.1 h.2)
then-good w effect k P Q h rest = tt
then-good w (full what) k P Q h rest = tt

mapped : {A : Type 0} (w : World) (t : Tried A) (P Q : World → A → Type 0)
    → Good w t P
    → ((v : World) (a : A) → Later w v → P v a → Q v a)
    → Good w t Q
mapped w (fine a v) P Q h f = (h.0, h.1, f v a h.1 h.2)
mapped w effect P Q h f = tt
mapped w (full what) P Q h f = tt

good_if : {A : Type 0} (w : World) (b : Bool) (what : Counted) (t : Tried A) (P : World → A → Type 0)
    → Good w t P
    → Good w (if b then t else full what) P
good_if w true what t P h = h
good_if w false what t P h = tt

combined : {A : Type 0} (w : World) (t : Tried A) (P : World → A → Type 0)
    → AfterFine t (λ a v. Keeps w v)
    → AfterFine t (λ a v. IsSound v)
    → AfterFine t (λ a v. P v a)
    → Good w t P
combined w (fine a v) P k s h = (s, k.kinds, h)
combined w effect P k s h = tt
combined w (full what) P k s h = tt

made-good : (w : World) (c : Cell)
    → IsSound w
    → SoundCell w c
    → Good w (make_cell w c) (λ v a. Leads (λ kind. kind ≡ kind_of c) (read_cell v a))
made-good w c s h =
    combined w (make_cell w c) (λ v a. Leads (λ kind. kind ≡ kind_of c) (read_cell v a)) (making-keeps w c)
    (making-sound w c s h) (making-leads w c)

-- ---- the cells of an evaluation's literals

-- a new cell is behind the session's others
pub record StandsBehind (w v : World) (a : Addr) : Type 0 where
  pub address : a ≡ Scratch (length w.scratch)
  pub text : Leads IsTextKind (read_cell v (Scratch (length w.scratch)))
  pub longer : length v.scratch ≡ suc (length w.scratch)
  pub same_start : v.start ≡ w.start

behind : (k : ℕ) (w : World) (r : Room) (us : List ℕ) (o : Option ℕ)
    → o ≡ Some k
    → w.start ≡ o
    → StandsBehind w (record (with_cell w o (cells.Text us)) { room = r }) (next_address w o)
behind k w r us None e f = cc
behind k w r us (Some j) e f = record {
  address = refl;
  text =
      leads-to (cells.Text us) (slice_get (w.scratch ++ cells.Text us ∷ []) (length w.scratch))
      (get-last w.scratch (cells.Text us));
  longer = omega (arith, length-append w.scratch (cells.Text us ∷ []));
  same_start = refl;
}

text-good : (k : ℕ) (w : World) (us : List ℕ)
    → IsSound w
    → w.start ≡ Some k
    → Good w (make_cell w (cells.Text us)) (λ v a. StandsBehind w v a)
text-good k w us s e =
    let c : Cell = cells.Text us in
    let v : World = record (with_cell w w.start c) { room = room_less w.room (weight c) } in
    let P : World → Addr → Type 0 = λ u a. StandsBehind w u a in
    good_if w (nat_lt 0 w.room.cells) counted.Cells
    (if nat_le (weight c) w.room.units then fine (next_address w w.start) v else full counted.Units) P
    (good_if w (nat_le (weight c) w.room.units) counted.Units (fine (next_address w w.start) v) P
    (made_sound w v.room w.start c s tt, made_kinds w v.room w.start c, behind k w v.room us w.start e refl))

raised_by_one : (n i : ℕ) → (n ≡ i) ⊎ (suc n ≤ i) → (suc n ≡ suc i) ⊎ (suc (suc n) ≤ suc i)
raised_by_one n i (inl e) = inl (ap (λ m. suc m) e)
raised_by_one n i (inr h) = inr (omega (arith, h))

at_or_above : (n i : ℕ) → n ≤ i → (n ≡ i) ⊎ (suc n ≤ i)
at_or_above zero zero h = inl refl
at_or_above zero (suc i) h = inr (omega arith)
at_or_above (suc n) zero h = absurd (omega (arith, h))
at_or_above (suc n) (suc i) h = raised_by_one n i (at_or_above n i (omega (arith, h)))

first-or-later : (w v z : World) (a : Addr) (n i : ℕ)
    → StandsBehind w v a
    → Later v z
    → AreTexts z (λ j. Scratch j) (length v.scratch) (length v.scratch + n)
    → i < length w.scratch + suc n
    → (length w.scratch ≡ i) ⊎ (suc (length w.scratch) ≤ i)
    → Leads IsTextKind (read_cell z (Scratch i))
first-or-later w v z a n i b l h high (inl e) =
    let P : ℕ → Type 0 = λ j. Leads IsTextKind (read_cell z (Scratch j)) in
    subst P e
    (leads-stays IsTextKind (read_cell v (Scratch (length w.scratch))) (read_cell z (Scratch (length w.scratch)))
    (l (Scratch (length w.scratch))) b.text)
first-or-later w v z a n i b l h high (inr low) = h i (omega (arith, b.longer, low)) (omega (arith, b.longer, high))

literals-good : (k : ℕ) (w : World) (ts : List (List ℕ))
    → IsSound w
    → w.start ≡ Some k
    → Good w (make_literals w ts) (λ z u. AreTexts z (λ i. Scratch i) (length w.scratch) (length w.scratch + length ts))
literals-good k w [] s e = (s, later-same w, λ i low high. absurd (omega (arith, low, high)))
literals-good k w (us ∷ ts) s e =
    then-good w (make_cell w (cells.Text us)) (λ a v. make_literals v ts) (λ v a. StandsBehind w v a)
    (λ z u. AreTexts z (λ i. Scratch i) (length w.scratch) (length w.scratch + suc (length ts)))
    (text-good k w us s e)
    (λ a v t l b. mapped v (make_literals v ts)
    (λ z u. AreTexts z (λ i. Scratch i) (length v.scratch) (length v.scratch + length ts))
    (λ z u. AreTexts z (λ i. Scratch i) (length w.scratch) (length w.scratch + suc (length ts)))
    (literals-good k v ts t (b.same_start ∙ e))
    (λ z u m h i low high. first-or-later w v z a (length ts) i b m h high (at_or_above (length w.scratch) i low)))

-- ---- the source that is kept

source-good : (k : ℕ) (w : World) (us : List ℕ)
    → IsSound w
    → w.start ≡ Some k
    → Good w (keep_source w us) (λ v a. StandsBehind w v a)
source-good k w us s e =
    let r : Room = record { cells = w.room.cells; units = w.room.units - length us } in
    let v : World = record w { scratch = w.scratch ++ cells.Text us ∷ []; room = r } in
    good_if w (nat_le (length us) w.room.units) counted.Units (fine (Scratch (length w.scratch)) v)
    (λ u a. StandsBehind w u a) (
      made_sound w r (Some k) (cells.Text us) s tt,
      made_kinds w r (Some k) (cells.Text us),
      behind k w r us (Some k) refl e,
    )

abbrev IsTree : ScratchSpace → MadeExpression → World → Term → Type 0
IsTree x e z t = SoundTerm z t × SoundTerm z (kept_tree (next_kept x) e)

-- refused as the first call is, else the second one's answer in the same world
second-good : {A B : Type 0} (w : World) (t : Tried A) (u : Tried B) (P : World → B → Type 0)
    → Good w u P
    → Good w (after_try t (λ a v. u)) P
second-good w (fine a v) u P h = h
second-good w effect u P h = tt
second-good w (full what) u P h = tt

-- what is made holds no address, wherever it stands
abbrev pub MadeUntouched : MadeExpression → Type 0
MadeUntouched e = (c : LoweringContext) → IsUntouched (e.term c)

placed-good : (k : ℕ) (x : ScratchSpace) (order : List (List ℕ)) (e : MadeExpression) (v : World)
    → MadeUntouched e
    → IsSound v
    → v.start ≡ Some k
    → length v.scratch ≡ suc (length x.cells)
    → Good v (after_try (place_literals v order (literals (kept_term (next_kept x) e)))
    (λ u z. fine (kept_tree (next_kept x) e) z))
    (IsTree x e)
placed-good k x order e v f s q n =
    let t : Term = kept_term (next_kept x) e in
    let P : World
    → Unit {0}
    → Type 0 = λ z u. AreTexts z (λ i. Scratch i) (length v.scratch) (length v.scratch + length (literals t)) in
    then-good v (place_literals v order (literals t)) (λ u z. fine (kept_tree (next_kept x) e) z) P (IsTree x e)
    (second-good v _ (make_literals v (literals t)) P (literals-good k v (literals t) s q))
    (λ u z t_sound l h.
    let tree : SoundTerm z (kept_tree (next_kept x) e) = placed-sound z (λ i. Scratch i) (length x.cells + 1) t (f _)
    (λ i low high. h i (omega (arith, n, low)) (omega (arith, n, high))) in
    (t_sound, later-same z, (tree, tree)))

prepared-good : (w : World) (x : ScratchSpace) (source : List ℕ) (order : List (List ℕ)) (e : MadeExpression)
    → MadeUntouched e
    → IsSound (copied_world w x)
    → Good (copied_world w x) (prepared w x source order e) (IsTree x e)
prepared-good w x source order e f s =
    let c : World = copied_world w x in
    let k : Addr
    → World
    → Tried Term = λ at v. after_try (place_literals v order (literals (kept_term at e)))
    (λ u z. fine (kept_tree at e) z) in
    then-good c (keep_source c source) k (λ v a. StandsBehind c v a) (IsTree x e)
    (source-good (length x.cells) c source s refl)
    (λ at v t l b.
    let P : Addr → Type 0 = λ a. Good v (k a v) (IsTree x e) in
    subst P (sym b.address) (placed-good (length x.cells) x order e v f t b.same_start b.longer))

-- ---- arguments

object-good : (w : World) (c : Cell)
    → IsSound w
    → SoundCell w c
    → IsObjectKind (kind_of c)
    → Good w (object_value (make_cell w c)) (λ v x. SoundValue v x)
object-good w c s h i =
    then-good w (make_cell w c) (λ a v. fine (values.Object a) v)
    (λ v a. Leads (λ kind. kind ≡ kind_of c) (read_cell v a)) (λ v x. SoundValue v x) (made-good w c s h)
    (λ a v t l k. (t, later-same v, leads-as IsObjectKind c (read_cell v a) i k))

mutual
  json-good : (w : World) (j : Json) → IsSound w → Good w (make_json w j) (λ v x. SoundValue v x)
  json-good w json_null s = (s, later-same w, tt)
  json-good w (json_bool b) s = (s, later-same w, tt)
  json-good w (json_number z) s = (s, later-same w, tt)
  json-good w (json_string us) s =
      then-good w (make_cell w (cells.Text us)) (λ a v. fine (values.Text a) v)
      (λ v a. Leads (λ kind. kind ≡ kind_of (cells.Text us)) (read_cell v a)) (λ v x. SoundValue v x)
      (made-good w (cells.Text us) s tt)
      (λ a v t l k. (t, later-same v, leads-as IsTextKind (cells.Text us) (read_cell v a) refl k))
  json-good w (json_array js) s =
      then-good w (make_jsons w js) (λ vs v. object_value (make_cell v (cells.Array vs))) (λ v xs. SoundValues v xs)
      (λ v x. SoundValue v x) (jsons-good w js s)
      (λ vs v t l h. object-good v (cells.Array vs) t h tt)
  json-good w (json_object ms) s =
      then-good w (make_members w [] ms) (λ ps v. object_value (make_cell v (cells.Object ps)))
      (λ v ps. SoundProperties v ps) (λ v x. SoundValue v x) (members-good w [] ms s tt)
      (λ ps v t l h. object-good v (cells.Object ps) t h tt)

  jsons-good : (w : World) (js : Jsons) → IsSound w → Good w (make_jsons w js) (λ v xs. SoundValues v xs)
  jsons-good w no_jsons s = (s, later-same w, tt)
  jsons-good w (a_json j js) s =
      then-good w (make_json w j) (λ x v. after_try (make_jsons v js) (λ xs u. fine (x ∷ xs) u)) (λ v x. SoundValue v x)
      (λ v xs. SoundValues v xs) (json-good w j s)
      (λ x v t l h. then-good v (make_jsons v js) (λ xs u. fine (x ∷ xs) u) (λ u xs. SoundValues u xs)
      (λ u xs. SoundValues u xs) (jsons-good v js t)
      (λ xs u r m k. (r, later-same u, (sound-value v u m x h, k))))

  members-good : (w : World) (ps : List Property) (ms : Members)
      → IsSound w
      → SoundProperties w ps
      → Good w (make_members w ps ms) (λ v qs. SoundProperties v qs)
  members-good w ps no_members s h = (s, later-same w, h)
  members-good w ps (a_member key j ms) s h =
      then-good w (make_json w j) (λ x v. make_members v (put_property ps key x) ms) (λ v x. SoundValue v x)
      (λ v qs. SoundProperties v qs) (json-good w j s)
      (λ x v t l k. members-good v (put_property ps key x) ms t (put_sound v ps key x (sound_properties w v l ps h) k))

sound_arguments : (w v : World) → Later w v → (args : List Argument) → SoundArguments w args → SoundArguments v args
sound_arguments w v l [] h = tt
sound_arguments w v l (given x ∷ rest) h = (sound-value w v l x h.0, sound_arguments w v l rest h.1)
sound_arguments w v l (made_of j ∷ rest) h = sound_arguments w v l rest h

arguments-good : (w : World) (args : List Argument)
    → IsSound w
    → SoundArguments w args
    → Good w (make_arguments w args) (λ v xs. SoundValues v xs)
arguments-good w [] s h = (s, later-same w, tt)
arguments-good w (given x ∷ rest) s h =
    then-good w (make_argument w (given x)) (λ y v. after_try (make_arguments v rest) (λ ys u. fine (y ∷ ys) u))
    (λ v y. SoundValue v y) (λ v xs. SoundValues v xs) (s, later-same w, h.0)
    (λ y v t l k. then-good v (make_arguments v rest) (λ ys u. fine (y ∷ ys) u) (λ u xs. SoundValues u xs)
    (λ u xs. SoundValues u xs) (arguments-good v rest t (sound_arguments w v l rest h.1))
    (λ ys u r m q. (r, later-same u, (sound-value v u m y k, q))))
arguments-good w (made_of j ∷ rest) s h =
    then-good w (make_argument w (made_of j)) (λ y v. after_try (make_arguments v rest) (λ ys u. fine (y ∷ ys) u))
    (λ v y. SoundValue v y) (λ v xs. SoundValues v xs) (json-good w j s)
    (λ y v t l k. then-good v (make_arguments v rest) (λ ys u. fine (y ∷ ys) u) (λ u xs. SoundValues u xs)
    (λ u xs. SoundValues u xs) (arguments-good v rest t (sound_arguments w v l rest h))
    (λ ys u r m q. (r, later-same u, (sound-value v u m y k, q))))

-- ---- the steps

answer-sound : (p : Program) (r : Run) → SoundRun p r → SoundAnswer p (answer_of r)
answer-sound p (running t s) h = tt
answer-sound p (over (ended v) s) h = let q = h.0 in (h.1, q.world, q.program)
answer-sound p (over (threw v place) s) h = let q = h.0 in (h.1, q.world, q.program)
answer-sound p (over by_effect s) h = tt
answer-sound p (over (by_full what) s) h = tt

evaluated-sound : (p : Program) (scope : Addr) (receiver : Value) (w : World) (t : Term)
    → IsReady p w scope receiver
    → SoundTerm w t
    → SoundAnswer p (evaluated p scope receiver w t)
evaluated-sound p scope receiver w t h k =
    let s : State = evaluation_state w receiver in
    let r : Run = run_of t s in
    let P : State → Type 0 = λ z. SoundScope z.world (Some scope) in
    answer-sound p (steps_in budget p scope r)
    (steps-sound budget p scope r (subst P (sym (run_of-state t s)) h.scope_lives)
    (of-sound p t s
    (record { world = h.world; built_ins = h.built_ins; program = h.program; frames = tt; outer = h.receiver_lives })
    k))

answered-sound : (w : World) (p : Program) (t : Tried Term) (k : World → Term → Answer) (P : World → Term → Type 0)
    → Good w t P
    → ((v : World) (u : Term) → IsSound v → Later w v → P v u → SoundAnswer p (k v u))
    → SoundAnswer p (answered t k)
answered-sound w p (fine u v) k P h rest = rest v u h.0 h.1 h.2
answered-sound w p effect k P h rest = tt
answered-sound w p (full what) k P h rest = tt

-- what an evaluation begins in, in a later world, with its own source
ready-later : (p : Program) (w v : World) (scope : Addr) (receiver : Value) (x : ScratchSpace) (e : MadeExpression)
    → IsReady p w scope receiver
    → IsSound v
    → Later w v
    → SoundTerm v (kept_tree (next_kept x) e)
    → IsReady (with_source p x e) v scope receiver
ready-later p w v scope receiver x e h s l tree = record {
  world = s;
  built_ins = sound-built_ins w v l h.built_ins;
  program = (tree, sound-program w v l p h.program);
  scope_lives = sound-scope w v l (Some scope) h.scope_lives;
  receiver_lives = sound-value w v l receiver h.receiver_lives;
}

pub evaluate-sound : (p : Program) (w : World) (x : ScratchSpace) (scope : Addr) (receiver : Value) (source : List ℕ)
    (order : List (List ℕ)) (e : MadeExpression)
    → MadeUntouched e
    → IsReady p (copied_world w x) scope receiver
    → SoundAnswer (with_source p x e) (evaluate p w x scope receiver source order e)
evaluate-sound p w x scope receiver source order e f h =
    let c : World = copied_world w x in
    let q : Program = with_source p x e in
    answered-sound c q (prepared w x source order e) (evaluated q scope receiver) (IsTree x e)
    (prepared-good w x source order e f h.world)
    (λ v u s l k. evaluated-sound q scope receiver v u (ready-later p c v scope receiver x e h s l k.1) k.0)

called-good : (w : World) (x : ScratchSpace) (source : List ℕ) (order : List (List ℕ)) (e : MadeExpression) (receiver : Value)
    (args : List Argument)
    → MadeUntouched e
    → IsSound (copied_world w x)
    → SoundValue (copied_world w x) receiver
    → SoundArguments (copied_world w x) args
    → Good (copied_world w x) (with_arguments receiver args (prepared w x source order e)) (IsTree x e)
called-good w x source order e receiver args f s h a =
    let c : World = copied_world w x in
    then-good c (prepared w x source order e)
    (λ g v. after_try (make_arguments v args) (λ vs u. fine (call_with_values receiver g vs) u)) (IsTree x e)
    (IsTree x e) (prepared-good w x source order e f s)
    (λ g v t l k. then-good v (make_arguments v args) (λ vs u. fine (call_with_values receiver g vs) u)
    (λ u vs. SoundValues u vs) (IsTree x e) (arguments-good v args t (sound_arguments c v l args a))
    (λ vs u r m q. (
      r,
      later-same u,
      (
        (tt, (sound-value c u (later-trans c v u l m) receiver h, (sound-term v u m g k.0, dones-sound u vs q)), tt),
        sound-term v u m (kept_tree (next_kept x) e) k.1,
      ),
    )))

pub evaluate_call-sound : (p : Program) (w : World) (x : ScratchSpace) (source : List ℕ) (order : List (List ℕ))
    (e : MadeExpression) (receiver : Value) (args : List Argument)
    → MadeUntouched e
    → IsReady p (copied_world w x) script_scope receiver
    → SoundArguments (copied_world w x) args
    → SoundAnswer (with_source p x e) (evaluate_call p w x source order e receiver args)
evaluate_call-sound p w x source order e receiver args f h a =
    let c : World = copied_world w x in
    let q : Program = with_source p x e in
    let outside : IsReady p c script_scope values.Undefined = record {
      world = h.world;
      built_ins = h.built_ins;
      program = h.program;
      scope_lives = h.scope_lives;
      receiver_lives = tt;
    } in
    answered-sound c q (with_arguments receiver args (prepared w x source order e))
    (evaluated q script_scope values.Undefined) (IsTree x e)
    (called-good w x source order e receiver args f h.world h.receiver_lives a)
    (λ v u s l k. evaluated-sound q script_scope values.Undefined v u
    (ready-later p c v script_scope values.Undefined x e outside s l k.1) k.0)
