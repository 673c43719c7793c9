-- Where a session names no stop, whatever its conditions come to, and which hits it is told of.
use Rattle.std.proofs.Common.{◌≡◌, ℕ, List, [], ◌∷◌, Bool, true, false, not, ◌||◌, is_some, refl, ap, sym, ◌∙◌, filter, map, Option, Some, None, if◌then◌else◌}
use Rattle.cdp_text.specs.declared.position.Place.{Place}
use Rattle.stepping.specs.declared.arrival.Arrival.{Arrival}
use Rattle.stepping.specs.declared.cause.Cause.{Cause}
use Rattle.stepping.specs.declared.cause.Cause.TheVariants as causes
use Rattle.stepping.specs.declared.rules.Rules.{Rules}
use Rattle.stepping.specs.Causes.{cause_at, cause_there, first_cause, stops_at_raise}
use Rattle.breakpoints.specs.Breakpoints as breakpoints
use Rattle.breakpoints.specs.Breakpoints.{id_of, is_hit}
use Rattle.breakpoints.specs.declared.breakpoint.Breakpoint.{Breakpoint}
use Rattle.breakpoints.proofs.HitLemmas.{is_hit-none}
use Rattle.pure_eval.specs.Workspaces.{Workspace}
use Rattle.cdp_session.specs.Conditions.{hits, is_met, is_some_hit}
use Rattle.cdp_session.specs.Sessions.{Session, is_silent}
use Rattle.cdp_session.specs.Situations.{Standing}
use Rattle.cdp_session.specs.Stops.{AreHits, cause_of, hit_ids, hits_of, may_be_hit, may_name, wants}

-- no breakpoint is hit where none stands
pub none-hit : (s : Standing) (w : Workspace) (place : Place) (b : breakpoints.HeldBreakpoints)
    → is_hit place b ≡ false
    → is_some_hit (hits s w b (Some place)) ≡ false
none-hit s w place b never = ap (λ bs. is_some_hit (filter (is_met s w) bs)) (is_hit-none place b never)

none-anywhere : (s : Standing) (w : Workspace) (o : Option Place) (b : breakpoints.HeldBreakpoints)
    → may_be_hit o b ≡ false
    → is_some_hit (hits s w b o) ≡ false
none-anywhere s w None b never = refl
none-anywhere s w (Some place) b never = none-hit s w place b never

-- ---- fewer hits, fewer causes

-- where a hit breakpoint would be no cause, nothing is
without_hit : (silent raised hit : Bool) (r : Rules) (a : Arrival) (o : Option Place)
    → is_some (if silent then None else if raised then Some causes.Exception else cause_at r a true o) ≡ false
    → is_some (if silent then None else if raised then Some causes.Exception else cause_at r a hit o) ≡ false
without_hit true raised hit r a o never = refl
without_hit false true hit r a o never = absurd cc
without_hit false false hit r a None never = refl
without_hit false false hit r a (Some place) never = absurd cc

fewer : (may hit : Bool) (r : Rules) (a : Arrival)
    → (may ≡ false → hit ≡ false)
    → is_some (first_cause r a may) ≡ false
    → is_some (first_cause r a hit) ≡ false
fewer true hit r a less never =
    without_hit (not r.enabled || r.skip) (stops_at_raise r.exceptions a.raised) hit r a a.place never
fewer false hit r a less never = ap (λ b. is_some (first_cause r a b)) (less refl) ∙ never

-- a session that may name no stop names none, however the program stands
pub never-causes : (s : Standing) (a : Arrival) (x : Session) → may_name a x ≡ false → is_some (cause_of s a x) ≡ false
never-causes s a x never =
    fewer (may_be_hit a.place x.breakpoints) (is_some_hit (hits s x.workspace x.breakpoints a.place)) x.rules a
    (none-anywhere s x.workspace a.place x.breakpoints) never

-- nor does a rule of it other than that of breakpoints
pub never-wants : (a : Arrival) (x : Session) → may_name a x ≡ false → wants a x ≡ false
never-wants a x never = fewer (may_be_hit a.place x.breakpoints) false x.rules a (λ _. refl) never

-- where none of these names a stop and no breakpoint stands, nothing does
pub unwanted-names : (a : Arrival) (x : Session)
    → wants a x ≡ false
    → may_be_hit a.place x.breakpoints ≡ false
    → may_name a x ≡ false
unwanted-names a x unwanted none = ap (λ b. is_some (first_cause x.rules a b)) none ∙ unwanted

-- ---- the hits of a session

-- one that skips pauses is told of none
skipped-hits : (s : Standing) (a : Arrival) (x : Session) → x.rules.skip ≡ true → [] ≡ hit_ids s a x
skipped-hits s a x skips = sym (ap (λ k. if k then [] else map id_of (hits_of s a x)) skips)

-- another one of all
heeded-hits : (s : Standing) (a : Arrival) (x : Session)
    → x.rules.skip ≡ false
    → hit_ids s a x ≡ map id_of (hits_of s a x)
heeded-hits s a x heeds = ap (λ k. if k then [] else map id_of (hits_of s a x)) heeds

-- whether an enabled session is silent is whether it skips
on-skips : (x : Session) (k : Bool) → is_silent x ≡ k → x.rules.enabled ≡ true → x.rules.skip ≡ k
on-skips x k is on = ap (λ b. not b || x.rules.skip) (sym on) ∙ is

pub silent-hits : (s : Standing) (a : Arrival) (x : Session) → is_silent x ≡ true → AreHits s a x []
silent-hits s a x silent = λ on. skipped-hits s a x (on-skips x true silent on)

pub found-hits : (s : Standing) (a : Arrival) (x : Session) (ids : List (List ℕ))
    → is_silent x ≡ false
    → ids ≡ map id_of (hits_of s a x)
    → AreHits s a x ids
found-hits s a x ids heard found = λ on. found ∙ sym (heeded-hits s a x (on-skips x false heard on))

-- ---- a session that names no stop has no hits

no_hit-there : (bs : List Breakpoint) (r : Rules) (a : Arrival) (place : Place)
    → is_some (cause_there r a (is_some_hit bs) place) ≡ false
    → bs ≡ []
no_hit-there [] r a place never = refl
no_hit-there (b ∷ bs) r a place never = absurd cc

no_hit-at : (s : Standing) (w : Workspace) (b : breakpoints.HeldBreakpoints) (o : Option Place) (raised : Bool)
    (r : Rules) (a : Arrival)
    → is_some (if raised then Some causes.Exception else cause_at r a (is_some_hit (hits s w b o)) o) ≡ false
    → hits s w b o ≡ []
no_hit-at s w b None raised r a never = refl
no_hit-at s w b (Some place) true r a never = absurd cc
no_hit-at s w b (Some place) false r a never = no_hit-there (hits s w b (Some place)) r a place never

unnamed-by : (k : Bool) (s : Standing) (a : Arrival) (x : Session)
    → is_silent x ≡ k
    → is_some (cause_of s a x) ≡ false
    → AreHits s a x []
unnamed-by true s a x silent never = silent-hits s a x silent
unnamed-by false s a x heard never =
    let raised : Bool = stops_at_raise x.rules.exceptions a.raised in
    let at : Option Cause = cause_at x.rules a (is_some_hit (hits_of s a x)) a.place in
    let here : is_some (if raised then Some causes.Exception else at) ≡ false =
    ap (λ b. is_some (if b then None else if raised then Some causes.Exception else at)) (sym heard) ∙ never in
    found-hits s a x [] heard
    (sym (ap (map id_of) (no_hit-at s x.workspace x.breakpoints a.place raised x.rules a here)))

pub unnamed-hits : (s : Standing) (a : Arrival) (x : Session) → is_some (cause_of s a x) ≡ false → AreHits s a x []
unnamed-hits s a x never = unnamed-by (is_silent x) s a x refl never

-- ---- the cause of a session that was told of hits

silenced : (e : Bool) (rest : Option Cause) → (if not e || true then None else rest) ≡ None
silenced true rest = refl
silenced false rest = refl

skipped-cause : (r : Rules) (a : Arrival) (hit : Bool) → r.skip ≡ true → first_cause r a hit ≡ None
skipped-cause r a hit skips =
    let rest : Option Cause = if stops_at_raise r.exceptions a.raised then Some causes.Exception
    else cause_at r a hit a.place in
    ap (λ k. if not r.enabled || k then None else rest) skips ∙ silenced r.enabled rest

told-by : (k : Bool) (s : Standing) (a : Arrival) (x : Session) (ids : List (List ℕ)) (cause : Option Cause)
    → x.rules.skip ≡ k
    → ids ≡ hit_ids s a x
    → ((bs : List Breakpoint) → ids ≡ map id_of bs → cause ≡ first_cause x.rules a (is_some_hit bs))
    → cause ≡ cause_of s a x
told-by true s a x ids cause skips are by =
    by [] (are ∙ sym (skipped-hits s a x skips))
    ∙ skipped-cause x.rules a false skips
    ∙ sym (skipped-cause x.rules a (is_some_hit (hits_of s a x)) skips)
told-by false s a x ids cause heeds are by = by (hits_of s a x) (are ∙ heeded-hits s a x heeds)

pub told-cause : (s : Standing) (a : Arrival) (x : Session) (ids : List (List ℕ)) (cause : Option Cause)
    → ids ≡ hit_ids s a x
    → ((bs : List Breakpoint) → ids ≡ map id_of bs → cause ≡ first_cause x.rules a (is_some_hit bs))
    → cause ≡ cause_of s a x
told-cause s a x ids cause are by = told-by x.rules.skip s a x ids cause refl are by
