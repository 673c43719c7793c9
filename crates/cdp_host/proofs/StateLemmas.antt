-- What a host tells of its program, by what was found out one after another.
use Rattle.std.proofs.Common.{◌≡◌, ℕ, ◌<◌, ◌≤◌, List, Bool, true, false, not, ◌&&◌, nat_lt, if◌then◌else◌, ap, sym, ◌∙◌}
use Rattle.std.proofs.lemmas.Bool.{and_parts, not-true, ltb-true, le-ltb, lt-ltb}
use Rattle.js_tree.specs.declared.script.Script.{Script}
use Rattle.js_semantics.specs.Run.{Run}
use Rattle.cdp_host.specs.Programs.{is_over, has_thrown}
use Rattle.cdp_host_isolation.specs.Meanings.{is_held, is_paused, is_ready, waits}
use Rattle.cdp_host.specs.Histories.{Meaning}
use Rattle.cdp_host.specs.Protocols.{protocol}
use Rattle.cdp_host.specs.States.{state_of}
use Rattle.cdp_host.specs.Hosts.{HostState, meaning_with, state_at}
use Rattle.cdp_host_turns.specs.declared.state.State.TheVariants.{Broken, Shut, Threw, Ended, Paused, Waiting, Ready}

-- ---- states

pub state-broken : (h : HostState) (taken : List (List ℕ)) → h.broken ≡ true → Broken ≡ state_at h taken
state-broken h taken fails = ap (λ b. if b then Broken else state_of (meaning_with h taken)) (sym fails)

works_as : (h : HostState) (taken : List (List ℕ))
    → h.broken ≡ false
    → state_of (meaning_with h taken) ≡ state_at h taken
works_as h taken works = ap (λ b. if b then Broken else state_of (meaning_with h taken)) (sym works)

-- where it wasn't shut, the state is that of its program
unshut_as : (m : Meaning Run) → m.shut ≡ false
    → (if has_thrown m.program then Threw else if is_over m.program then Ended else if is_paused m then Paused
    else if waits m.phase then Waiting else Ready)
    ≡ state_of m
unshut_as m is =
    ap (λ b. if b then Shut else if has_thrown m.program then Threw else if is_over m.program then Ended
    else if is_paused m then Paused else if waits m.phase then Waiting else Ready)
    (sym is)

pub state-shut : (h : HostState) (taken : List (List ℕ))
    → h.broken ≡ false
    → h.meaning.shut ≡ true
    → Shut ≡ state_at h taken
state-shut h taken works is =
    let m : Meaning Run = meaning_with h taken in
    ap (λ b. if b then Shut else if has_thrown m.program then Threw else if is_over m.program then Ended
    else if is_paused m then Paused else if waits m.phase then Waiting else Ready)
    (sym is) ∙ works_as h taken works

open_as : (h : HostState) (taken : List (List ℕ)) → h.broken ≡ false → h.meaning.shut ≡ false
    → (let m : Meaning Run = meaning_with h taken in
    (if has_thrown m.program then Threw else if is_over m.program then Ended else if is_paused m then Paused
    else if waits m.phase then Waiting else Ready)
    ≡ state_at h taken)
open_as h taken works unshut = unshut_as (meaning_with h taken) unshut ∙ works_as h taken works

pub state-threw : (h : HostState) (taken : List (List ℕ))
    → h.broken ≡ false
    → h.meaning.shut ≡ false
    → true ≡ has_thrown (meaning_with h taken).program
    → Threw ≡ state_at h taken
state-threw h taken works unshut is =
    let m : Meaning Run = meaning_with h taken in
    ap (λ b. if b then Threw else if is_over m.program then Ended else if is_paused m then Paused else if waits m.phase
    then Waiting else Ready)
    is
    ∙ open_as h taken works unshut

unthrown_as : (h : HostState) (taken : List (List ℕ))
    → h.broken ≡ false
    → h.meaning.shut ≡ false
    → false ≡ has_thrown (meaning_with h taken).program
    → (let m : Meaning Run = meaning_with h taken in
    (if is_over m.program then Ended else if is_paused m then Paused else if waits m.phase then Waiting else Ready)
    ≡ state_at h taken)
unthrown_as h taken works unshut is =
    let m : Meaning Run = meaning_with h taken in
    ap (λ b. if b then Threw else if is_over m.program then Ended else if is_paused m then Paused else if waits m.phase
    then Waiting else Ready)
    is
    ∙ open_as h taken works unshut

pub state-ended : (h : HostState) (taken : List (List ℕ))
    → h.broken ≡ false
    → h.meaning.shut ≡ false
    → false ≡ has_thrown (meaning_with h taken).program
    → true ≡ is_over (meaning_with h taken).program → Ended ≡ state_at h taken
state-ended h taken works unshut thrown is =
    let m : Meaning Run = meaning_with h taken in
    ap (λ b. if b then Ended else if is_paused m then Paused else if waits m.phase then Waiting else Ready) is
    ∙ unthrown_as h taken works unshut thrown

going_as : (h : HostState) (taken : List (List ℕ))
    → h.broken ≡ false
    → h.meaning.shut ≡ false
    → false ≡ has_thrown (meaning_with h taken).program
    → false ≡ is_over (meaning_with h taken).program
    → (if is_paused h.meaning then Paused else if waits h.meaning.phase then Waiting else Ready) ≡ state_at h taken
going_as h taken works unshut thrown over =
    ap (λ b. if b then Ended else if is_paused h.meaning then Paused else if waits h.meaning.phase then Waiting
    else Ready)
    over
    ∙ unthrown_as h taken works unshut thrown

pub state-paused : (h : HostState) (taken : List (List ℕ))
    → h.broken ≡ false
    → h.meaning.shut ≡ false
    → false ≡ has_thrown (meaning_with h taken).program
    → false ≡ is_over (meaning_with h taken).program
    → is_paused h.meaning ≡ true → Paused ≡ state_at h taken
state-paused h taken works unshut thrown over is =
    ap (λ b. if b then Paused else if waits h.meaning.phase then Waiting else Ready) (sym is)
    ∙ going_as h taken works unshut thrown over

pub state-waiting : (h : HostState) (taken : List (List ℕ))
    → h.broken ≡ false
    → h.meaning.shut ≡ false
    → false ≡ has_thrown (meaning_with h taken).program
    → false ≡ is_over (meaning_with h taken).program
    → is_paused h.meaning ≡ false → waits h.meaning.phase ≡ true → Waiting ≡ state_at h taken
state-waiting h taken works unshut thrown over free is =
    ap (λ b. if b then Waiting else Ready) (sym is)
    ∙ ap (λ b. if b then Paused else if waits h.meaning.phase then Waiting else Ready) (sym free)
    ∙ going_as h taken works unshut thrown over

pub state-ready : (h : HostState) (taken : List (List ℕ))
    → h.broken ≡ false
    → h.meaning.shut ≡ false
    → false ≡ has_thrown (meaning_with h taken).program
    → false ≡ is_over (meaning_with h taken).program
    → is_paused h.meaning ≡ false → waits h.meaning.phase ≡ false → Ready ≡ state_at h taken
state-ready h taken works unshut thrown over free is =
    ap (λ b. if b then Waiting else Ready) (sym is)
    ∙ ap (λ b. if b then Paused else if waits h.meaning.phase then Waiting else Ready) (sym free)
    ∙ going_as h taken works unshut thrown over

-- ---- whether a step may be made

pub goes-held : (scripts : List Script) (m : Meaning Run) → is_held m ≡ true → false ≡ is_ready (protocol scripts) m
goes-held scripts m is = ap (λ b. not b && not (is_over m.program)) (sym is)

pub goes-ready : (scripts : List Script) (m : Meaning Run) (over : Bool)
    → is_held m ≡ false
    → over ≡ is_over m.program
    → not over ≡ is_ready (protocol scripts) m
goes-ready scripts m over is same = ap not same ∙ ap (λ b. not b && not (is_over m.program)) (sym is)

pub ready-broken : (broken ready : Bool) → broken ≡ true → false ≡ (not broken && ready)
ready-broken broken ready is = ap (λ b. not b && ready) (sym is)

pub ready-works : (broken goes ready : Bool) → broken ≡ false → goes ≡ ready → goes ≡ (not broken && ready)
ready-works broken goes ready is same = same ∙ ap (λ b. not b && ready) (sym is)

pub spent-none : (left : ℕ) (ready : Bool) → left ≤ 0 → false ≡ (nat_lt 0 left && ready)
spent-none left ready none = ap (λ b. b && ready) (sym (le-ltb 0 left none))

pub some-left : (left : ℕ) (may ready : Bool) → 0 < left → may ≡ ready → may ≡ (nat_lt 0 left && ready)
some-left left may ready some same = same ∙ ap (λ b. b && ready) (sym (lt-ltb 0 left some))

-- what holds where it may
pub may-parts : (left : ℕ) (broken ready : Bool)
    → (nat_lt 0 left && (not broken && ready)) ≡ true
    → (0 < left) × (broken ≡ false) × (ready ≡ true)
may-parts left broken ready test =
    let parts = and_parts (nat_lt 0 left) (not broken && ready) test in
    let more = and_parts (not broken) ready parts.1 in
    (ltb-true 0 left parts.0, not-true broken more.0, more.1)
