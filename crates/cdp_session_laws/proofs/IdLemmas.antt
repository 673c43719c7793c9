-- Ids of objects and of frames: which are found, and which are unknown.
use Rattle.std.proofs.Common.{◌≡◌, ℕ, ◌+◌, ◌<◌, ◌^◌, false, List, [], ◌∷◌, ◌++◌, slice_get, bytes_eq, decimal, Option, Some, None, option_and_then, option_map, if◌then◌else◌, refl, sym, ap, ◌∙◌, arith}
use Rattle.std.specs.Option.{option_map_or}
use Rattle.std.proofs.lemmas.Bool.{false_from_ne_true}
use Rattle.std.proofs.lemmas.Fmt.{decimal_injective}
use Rattle.std.proofs.lemmas.Slice.Eq.{bytes_eq-Decides}
use Rattle.cdp_text.specs.Parts.{Halves, halves}
use Rattle.cdp_text.proofs.PartsLemmas.{halves-decimal}
use Rattle.cdp_json.specs.Arguments.{Argument, an_object}
use Rattle.cdp_json.specs.SafeValues.{both}
use Rattle.cdp_json.specs.declared.params.Evaluation.{Evaluation}
use Rattle.cdp_json.specs.declared.params.FunctionCall.{FunctionCall}
use Rattle.cdp_json.specs.declared.params.Params.TheVariants as params
use Rattle.cdp_json.specs.declared.refusal.Refusal.{Refusal}
use Rattle.cdp_json.specs.declared.refusal.Refusal.TheVariants as refusals
use Rattle.frames_scopes_types.specs.Frames.{ShownFrame}
use Rattle.js_heap.specs.declared.value.Value.{Value}
use Rattle.js_semantics.specs.Evaluation.{given}
use Rattle.remote_objects.specs.Ids.{point, object_id, frame_id}
use Rattle.remote_objects.proofs.IdLemmas.{read-value}
use Rattle.cdp_session.proofs.FrameIdLemmas.{same-rest, found-from}
use Rattle.cdp_session.specs.Calls.{arguments_of, argument_of, calls_given, handle_object, object_of, receiver_of}
use Rattle.cdp_session.specs.Evaluations.{Stops, evaluates_at, frame_from, frame_of}
use Rattle.cdp_session.specs.Objects.{handle_of, numbered}
use Rattle.cdp_session.specs.Replies.{refusal_of}
use Rattle.cdp_session.specs.Rows.{Row, Refuses, properties_of, releases, row, row_of}
use Rattle.cdp_session.specs.Sessions.{Session}
use Rattle.cdp_session.specs.Situations.{Situation}
use Rattle.cdp_session.specs.declared.situation.Pause.{Pause}
use Rattle.cdp_session_laws.specs.Unknown.{IsElsewhere, IsRefused, IsUnknownFrame, IsUnknownObject}

-- ---- objects

-- two parts of which the second is missing
both-none : {A B C : Type 0} (f : A → B → C) (o : Option A) → both f o None ≡ None
both-none f None = refl
both-none f (Some a) = refl

-- a list of arguments is missing where the object of one is
lost-argument : (x : Session) (id : List ℕ) (front back : List Argument)
    → object_of x id ≡ None
    → arguments_of x (front ++ (an_object id ∷ back)) ≡ None
lost-argument x id [] back lost = ap (λ o. both ◌∷◌ (option_map given o) (arguments_of x back)) lost
lost-argument x id (a ∷ front) back lost =
    ap (both ◌∷◌ (argument_of x a)) (lost-argument x id front back lost) ∙ both-none ◌∷◌ (argument_of x a)

-- a call whose arguments are missing is refused, whatever its `this`
lost-call : (s : Situation) (x : Session) (call : FunctionCall) (o : Option Value)
    → calls_given s x call o None ≡ Stops refusals.UnknownObject
lost-call s x call None = refl
lost-call s x call (Some v) = refl

-- an id by which no handle is found is unknown
pub unknown-object : (s : Situation) (x : Session) (id : List ℕ) → handle_of x id ≡ None → IsUnknownObject s x id
unknown-object s x id lost =
    let gone : object_of x id ≡ None = ap (option_and_then handle_object) lost in
    record {
      no_handle = lost;
      no_object = gone;
      properties = λ own preview. ap (properties_of s x preview) lost;
      releasing = ap (releases x) lost;
      receiver = λ call is.
          ap (λ o. row_of (calls_given s x call (receiver_of x o) (arguments_of x call.arguments))) is
          ∙ ap (λ o. row_of (calls_given s x call o (arguments_of x call.arguments))) gone;
      argument = λ call front back is.
          ap (λ o. row_of (calls_given s x call (receiver_of x call.object_id) o))
          (ap (arguments_of x) is ∙ lost-argument x id front back gone)
          ∙ ap row_of (lost-call s x call (receiver_of x call.object_id));
    }

-- the id of a handle is read back
pub id-found : (x : Session) (n : ℕ) → x.number < 2 ^ 64 → n < 2 ^ 64
    → handle_of x (object_id x.number n) ≡ numbered x.handles.held n
id-found x n small few =
    ap (option_and_then (numbered x.handles.held))
    (sym (read-value x.number (object_id x.number n) (Some n) small (record { written = refl; small = few }) tt))

-- ---- frames

-- what stands before and after the point of an id
front_of : Option Halves → List ℕ
front_of None = []
front_of (Some parts) = parts.front

-- two texts that begin with numbers before points and are the same have the same number there
same-front : (m k : ℕ) (first second : List ℕ)
    → m < 2 ^ 64
    → k < 2 ^ 64
    → decimal m ++ (point ++ first) ≡ decimal k ++ (point ++ second)
    → m ≡ k
unfolding front_of
same-front m k first second m_small k_small is =
    let fronts : decimal m ≡ decimal k = sym (ap front_of (halves-decimal m 46 first m_small (λ digit. omega arith)))
    ∙ ap (λ text. front_of (halves 46 text)) is
    ∙ ap front_of (halves-decimal k 46 second k_small (λ digit. omega arith)) in
    decimal_injective m k m_small k_small fronts

-- the frames of two stops of a session have other ids
same-stop : (session k stop d n : ℕ)
    → k < 2 ^ 64
    → stop < 2 ^ 64
    → frame_id session k d ≡ frame_id session stop n
    → k ≡ stop
same-stop session k stop d n k_small stop_small is =
    let rest = same-rest (decimal session) (point ++ (decimal k ++ (point ++ decimal d)))
    (point ++ (decimal stop ++ (point ++ decimal n))) is in
    let after = same-rest point (decimal k ++ (point ++ decimal d)) (decimal stop ++ (point ++ decimal n)) rest in
    same-front k stop (decimal d) (decimal n) k_small stop_small after

-- the id that the n-th frame of the present stop has is read back as that frame
pub frame-found : (s : Situation) (x : Session) (p : Pause) (n : ℕ)
    → n < 2 ^ 64
    → frame_of s x (Some p) (frame_id x.number p.number n) ≡ slice_get s.standing.frames n
frame-found s x p n small =
    let here : 0 + n ≡ n = omega arith in
    ap (λ m. frame_from x.number p.number (frame_id x.number p.number m) 0 s.standing.frames) (sym here)
    ∙ found-from x.number p.number n 0 s.standing.frames (omega (arith, small))

-- no frame is found by an id that is none of theirs
none-found : (m k : ℕ) (id : List ℕ) (d : ℕ) (fs : List ShownFrame)
    → ((e : ℕ) → bytes_eq (frame_id m k e) id ≡ false)
    → frame_from m k id d fs ≡ None
none-found m k id d [] never = refl
none-found m k id d (f ∷ fs) never =
    ap (λ b. if b then Some f else frame_from m k id (d + 1) fs) (never d) ∙ none-found m k id (d + 1) fs never

-- where the program isn't paused at the stop, none is found by the id of one of its frames
none-there : (s : Situation) (x : Session) (stop depth : ℕ) (o : Option Pause)
    → stop < 2 ^ 64
    → IsElsewhere stop o
    → frame_of s x o (frame_id x.number stop depth) ≡ None
none-there s x stop depth None small elsewhere = refl
none-there s x stop depth (Some p) small elsewhere =
    none-found x.number p.number (frame_id x.number stop depth) 0 s.standing.frames
    (λ e. false_from_ne_true (bytes_eq (frame_id x.number p.number e) (frame_id x.number stop depth))
    (λ same. elsewhere.0 (same-stop x.number p.number stop e depth elsewhere.1 small
    ((bytes_eq-Decides (frame_id x.number p.number e) (frame_id x.number stop depth)).0 same))))

-- what is refused by its row comes to a refusal
refused-anyway : (o : Option Refusal) (r : Row) (why : Refusal)
    → r ≡ Refuses why
    → IsRefused (option_map_or Refuses o r)
refused-anyway None r why is = (why, is)
refused-anyway (Some first) r why is = (first, refl)

-- so it is unknown
pub unknown-frame : (s : Situation) (x : Session) (stop depth : ℕ)
    → stop < 2 ^ 64
    → IsElsewhere stop s.paused
    → IsUnknownFrame s x (frame_id x.number stop depth)
unknown-frame s x stop depth small elsewhere =
    let id : List ℕ = frame_id x.number stop depth in
    let by_row : (ev : Evaluation) → row s x (params.EvaluateOnCallFrame id ev) ≡ Refuses refusals.UnknownFrame =
    λ ev. ap (λ o. row_of (evaluates_at s x o ev)) (none-there s x stop depth s.paused small elsewhere) in
    record {
      by_row = by_row;
      refused = λ ev.
          refused-anyway (refusal_of s x (params.EvaluateOnCallFrame id ev))
          (row s x (params.EvaluateOnCallFrame id ev)) refusals.UnknownFrame (by_row ev);
    }
