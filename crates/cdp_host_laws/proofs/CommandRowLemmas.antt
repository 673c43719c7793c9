-- What a command that isn't refused answers: what its method's row says.
use Rattle.std.proofs.Common.{◌≡◌, ℕ, List, Bool, true, false, ◌&&◌, not, is_some, if◌then◌else◌, Some, None, refl, ap, ◌∙◌}
use Rattle.std.specs.Option.{option_map_or}
use Rattle.serde_json.specs.Read.{read}
use Rattle.cdp_json.specs.Commands.{reading_of}
use Rattle.cdp_json.specs.declared.command.Reading.TheVariants.{Command}
use Rattle.cdp_json.specs.declared.method.Method.{Method}
use Rattle.cdp_json.specs.declared.params.Params.{Params}
use Rattle.cdp_json.specs.declared.refusal.Refusal.TheVariants as refusals
use Rattle.cdp_session.specs.Replies.{answer_by, answer_of, comes_to, outcome_by, outcome_for, outcome_of, wants_enabled, wants_pause}
use Rattle.cdp_session.specs.Rows.{Row, Refuses, row}
use Rattle.cdp_session.specs.Sessions.{Session}
use Rattle.cdp_session.specs.Situations.{Situation}

heard : (wants enabled unpaused : Bool) (r : Row)
    → enabled ≡ true
    → unpaused ≡ false
    → option_map_or Refuses
    (if wants && not enabled then Some refusals.NotEnabled
    else if unpaused then Some refusals.NotPaused else None) r
    ≡ r
heard true true false r on paused = refl
heard false true false r on paused = refl
heard true false unpaused r on paused = absurd cc
heard false false unpaused r on paused = absurd cc
heard true true true r on paused = absurd cc
heard false true true r on paused = absurd cc

-- a command is heard where the debugger is enabled, and the program paused if the command wants that
comes_to_row : (s : Situation) (x : Session) (command : Params)
    → x.rules.enabled ≡ true
    → (wants_pause command && not (is_some s.paused)) ≡ false
    → comes_to s x command ≡ row s x command
comes_to_row s x command on paused =
    heard (wants_enabled command) x.rules.enabled (wants_pause command && not (is_some s.paused)) (row s x command)
    on paused

-- so it comes to what its row says
pub outcome-heard : (s : Situation) (x : Session) (text : List ℕ) (id : ℕ) (method : Method) (command : Params)
    → reading_of (read text) ≡ Command id method command
    → x.rules.enabled ≡ true
    → (wants_pause command && not (is_some s.paused)) ≡ false
    → outcome_of s x text ≡ outcome_by id (row s x command)
outcome-heard s x text id method command reads on paused =
    ap (λ r. outcome_for s x r) reads ∙ ap (λ w. outcome_by id w) (comes_to_row s x command on paused)

-- and its answer is that of its row
pub answered : (s : Situation) (x : Session) (text : List ℕ) (id : ℕ) (method : Method) (command : Params)
    → reading_of (read text) ≡ Command id method command
    → x.rules.enabled ≡ true
    → (wants_pause command && not (is_some s.paused)) ≡ false
    → answer_of s x text ≡ answer_by x (outcome_by id (row s x command))
answered s x text id method command reads on paused =
    ap (λ o. answer_by x o) (outcome-heard s x text id method command reads on paused)
