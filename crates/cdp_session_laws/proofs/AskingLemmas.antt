-- What commands leave of what a session asks for.
use Rattle.std.proofs.Common.{◌≡◌, ℕ, Bool, true, false, not, ◌&&◌, ◌||◌, List, [], ◌∷◌, filter, refl, ap, subst, sym, ◌∙◌}
use Rattle.std.specs.Prelude.{bytes_eq, if◌then◌else◌, Some, None}
use Rattle.std.specs.List.{list_any}
use Rattle.std.specs.Option.{option_map_or}
use Rattle.cdp_text.specs.declared.position.Place.{Place}
use Rattle.cdp_json.specs.declared.params.Params.{Params}
use Rattle.cdp_json.specs.declared.params.Params.TheVariants as params
use Rattle.cdp_json.specs.declared.refusal.Refusal.TheVariants as refusals
use Rattle.breakpoints.specs.Breakpoints.{has_another_id}
use Rattle.breakpoints.specs.Hits.{stands_at}
use Rattle.breakpoints.specs.declared.breakpoint.Breakpoint.{Breakpoint}
use Rattle.cdp_session.specs.Replies.{answer_by, comes_to, outcome_by, outcome_for}
use Rattle.cdp_session.specs.Rows.{Refuses, Row, row}
use Rattle.cdp_session.specs.Sessions.{Session}
use Rattle.cdp_session.specs.Situations.{Situation}
use Rattle.cdp_session_laws.specs.Asking.{AsksNothing, HasOthersThan, IsRead, stands_beside}
use Rattle.cdp_session_laws.specs.Events.{Texted, after_event}

-- ---- the session after a command

abbrev left_by : ℕ → Session → Row → Session
left_by id x r = (answer_by x (outcome_by id r)).session

read_so : (s : Situation) (x : Session) (text : List ℕ) (command : Params) (told : IsRead text command)
    → after_event (Texted s text) x ≡ (answer_by x (outcome_by told.id (comes_to s x command))).session
read_so s x text command told = ap (λ r. (answer_by x (outcome_for s x r)).session) told.reads

-- a command that wants the debugger enabled, and no pause
heard : (b : Bool) (r : Row) → b ≡ true
    → option_map_or Refuses (if not b then Some refusals.NotEnabled else None) r ≡ r
heard true r is = refl
heard false r is = absurd cc

-- ---- breakpoints

any_if : (test : Breakpoint → Bool) (is : Bool) (b : Breakpoint) (bs : List Breakpoint)
    → list_any test (if is then b ∷ bs else bs) ≡ (if is then test b || list_any test bs else list_any test bs)
any_if test true b bs = refl
any_if test false b bs = refl

beside : (stands same l r : Bool) → l ≡ r → (if not same then stands || l else l) ≡ ((stands && not same) || r)
beside true true l r is = is
beside false true l r is = is
beside true false l r is = refl
beside false false l r is = is

any_beside : (id : List ℕ) (place : Place) (bs : List Breakpoint)
    → list_any (stands_at place) (filter (has_another_id id) bs) ≡ list_any (stands_beside id place) bs
any_beside id place [] = refl
any_beside id place (b ∷ bs) =
    any_if (stands_at place) (has_another_id id b) b (filter (has_another_id id) bs)
    ∙ beside (stands_at place b) (bytes_eq b.id id) (list_any (stands_at place) (filter (has_another_id id) bs))
    (list_any (stands_beside id place) bs) (any_beside id place bs)

pub removed : (s : Situation) (x : Session) (text id : List ℕ)
    → x.rules.enabled ≡ true
    → IsRead text (params.RemoveBreakpoint id)
    → HasOthersThan id x (after_event (Texted s text) x)
removed s x text id enabled told =
    subst (λ y. HasOthersThan id x y)
    (sym (read_so s x text (params.RemoveBreakpoint id) told
    ∙ ap (left_by told.id x) (heard x.rules.enabled (row s x (params.RemoveBreakpoint id)) enabled)))
    (λ place. ap (λ b. x.breakpoints.active && b) (any_beside id place x.breakpoints.set))

-- ---- a session that disables the debugger

pub disabled : (s : Situation) (x : Session) (text : List ℕ) → IsRead text params.DebuggerDisable
    → AsksNothing (after_event (Texted s text) x)
disabled s x text told =
    subst AsksNothing (sym (read_so s x text params.DebuggerDisable told)) (record {
      disabled = refl;
      heeds = refl;
      no_throws = refl;
      no_pause = refl;
      no_step = refl;
      no_place = refl;
      no_breakpoint = λ place. refl;
      active = refl;
    })

-- ---- flags

pub skip-set : (s : Situation) (x : Session) (text : List ℕ) (b : Bool)
    → x.rules.enabled ≡ true
    → IsRead text (params.SetSkipAllPauses b)
    → (after_event (Texted s text) x).rules.skip ≡ b
skip-set s x text b enabled told =
    ap (λ y. y.rules.skip) (read_so s x text (params.SetSkipAllPauses b) told
    ∙ ap (left_by told.id x) (heard x.rules.enabled (row s x (params.SetSkipAllPauses b)) enabled))

pub active-set : (s : Situation) (x : Session) (text : List ℕ) (b : Bool)
    → x.rules.enabled ≡ true
    → IsRead text (params.SetBreakpointsActive b)
    → (after_event (Texted s text) x).breakpoints.active ≡ b
active-set s x text b enabled told =
    ap (λ y. y.breakpoints.active) (read_so s x text (params.SetBreakpointsActive b) told
    ∙ ap (left_by told.id x) (heard x.rules.enabled (row s x (params.SetBreakpointsActive b)) enabled))

pub runtime-on : (s : Situation) (x : Session) (text : List ℕ) → IsRead text params.RuntimeEnable
    → (after_event (Texted s text) x).runtime ≡ true
runtime-on s x text told = ap (λ y. y.runtime) (read_so s x text params.RuntimeEnable told)

pub runtime-off : (s : Situation) (x : Session) (text : List ℕ) → IsRead text params.RuntimeDisable
    → (after_event (Texted s text) x).runtime ≡ false
runtime-off s x text told = ap (λ y. y.runtime) (read_so s x text params.RuntimeDisable told)
