-- Ids of another session are none of a session's.
use Rattle.std.proofs.Common.{◌≡◌, ℕ, ◌+◌, ◌<◌, ◌^◌, List, [], ◌∷◌, ◌++◌, true, false, not, is_some, bytes_eq, decimal, Option, Some, None, option_and_then, option_map, if◌then◌else◌, refl, sym, ap, ◌∙◌, arith}
use Rattle.std.specs.Option.{option_map_or}
use Rattle.std.proofs.lemmas.Fmt.{decimal_injective}
use Rattle.std.proofs.lemmas.Slice.Eq.{bytes_eq-Decides}
use Rattle.cdp_text.specs.Parts.{Halves, halves}
use Rattle.cdp_text.proofs.PartsLemmas.{halves-decimal}
use Rattle.cdp_text.specs.Decimal.{decimal_value}
use Rattle.cdp_json.specs.Arguments.{Argument, an_object}
use Rattle.cdp_json.specs.SafeValues.{both}
use Rattle.cdp_json.specs.declared.params.Evaluation.{Evaluation}
use Rattle.cdp_json.specs.declared.params.FunctionCall.{FunctionCall}
use Rattle.cdp_json.specs.declared.params.Params.TheVariants as params
use Rattle.cdp_json.specs.declared.refusal.Refusal.{Refusal}
use Rattle.cdp_json.specs.declared.refusal.Refusal.TheVariants as refusals
use Rattle.frames_scopes_types.specs.Frames.{ShownFrame}
use Rattle.js_heap.specs.declared.value.Value.{Value}
use Rattle.js_semantics.specs.Evaluation.{given}
use Rattle.remote_objects.specs.Ids.{point, object_id, frame_id, number_behind, number_in_id}
use Rattle.cdp_session.specs.Calls.{arguments_of, argument_of, calls_given, handle_object, object_of, receiver_of}
use Rattle.cdp_session.specs.Evaluations.{Stops, evaluates_at, frame_from, frame_of}
use Rattle.cdp_session.specs.Objects.{handle_of, numbered}
use Rattle.cdp_session.specs.Replies.{refusal_of}
use Rattle.cdp_session.specs.Rows.{Row, Refuses, properties_of, releases, row, row_of}
use Rattle.cdp_session.specs.Sessions.{Session}
use Rattle.cdp_session.specs.Situations.{Situation}
use Rattle.cdp_session.specs.declared.situation.Pause.{Pause}
use Rattle.cdp_host.specs.Foreign.{IsOfAnother, IsRefusal, RefusesFrame, RefusesObject}
use Rattle.std.proofs.lemmas.Bool.{false_from_ne_true}

-- ---- texts of ids

-- what stands before the point of an id
front-number : (m : ℕ) (back : List ℕ)
    → m < 2 ^ 64
    → halves 46 (decimal m ++ (point ++ back)) ≡ Some record { front = decimal m; back = back }
front-number m back small = halves-decimal m 46 back small (λ digit. omega arith)

front_of : Option Halves → List ℕ
front_of None = []
front_of (Some parts) = parts.front

-- two ids that are the same text are of one session
same-session : (m r : ℕ) (first second : List ℕ)
    → m < 2 ^ 64
    → r < 2 ^ 64
    → decimal m ++ (point ++ first) ≡ decimal r ++ (point ++ second)
    → r ≡ m
unfolding front_of
same-session m r first second m_small r_small is =
    let fronts : decimal m ≡ decimal r = sym (ap front_of (front-number m first m_small))
    ∙ ap (λ text. front_of (halves 46 text)) is
    ∙ ap front_of (front-number r second r_small) in
    sym (decimal_injective m r m_small r_small fronts)

-- the numbers of two sessions are two texts
other-number : (x : Session) (r : ℕ) → IsOfAnother r x → bytes_eq (decimal r) (decimal x.number) ≡ false
other-number x r h = false_from_ne_true (bytes_eq (decimal r) (decimal x.number))
    (λ same. h.differs
    (decimal_injective r x.number h.small h.own_small ((bytes_eq-Decides (decimal r) (decimal x.number)).0 same)))

-- the id of another session's object has no number for this one
no-number : (x : Session) (r n : ℕ) → IsOfAnother r x → number_in_id x.number (object_id r n) ≡ None
no-number x r n h =
    ap (option_and_then (number_behind x.number)) (front-number r (decimal n) h.small)
    ∙ ap (λ b. if b then decimal_value (decimal n) else None) (other-number x r h)

-- the id of another session's frame is that of none of this one's
other-frame : (x : Session) (r stop depth k d : ℕ)
    → IsOfAnother r x
    → bytes_eq (frame_id x.number k d) (frame_id r stop depth) ≡ false
other-frame x r stop depth k d h = false_from_ne_true (bytes_eq (frame_id x.number k d) (frame_id r stop depth))
    (λ same. h.differs
    (same-session x.number r (decimal k ++ (point ++ decimal d)) (decimal stop ++ (point ++ decimal depth))
    h.own_small h.small
    ((bytes_eq-Decides (frame_id x.number k d) (frame_id r stop depth)).0 same)))

-- ---- objects

-- no handle is found by it
no-handle : (x : Session) (r n : ℕ) → IsOfAnother r x → handle_of x (object_id r n) ≡ None
no-handle x r n h = ap (option_and_then (numbered x.handles.held)) (no-number x r n h)

-- two parts of which the second is missing
both-none : {A B C : Type 0} (f : A → B → C) (o : Option A) → both f o None ≡ None
both-none f None = refl
both-none f (Some a) = refl

-- a list of arguments is missing where the object of one is
lost-argument : (x : Session) (id : List ℕ) (front back : List Argument)
    → object_of x id ≡ None
    → arguments_of x (front ++ (an_object id ∷ back)) ≡ None
lost-argument x id [] back lost = ap (λ o. both ◌∷◌ (option_map given o) (arguments_of x back)) lost
lost-argument x id (a ∷ front) back lost =
    ap (both ◌∷◌ (argument_of x a)) (lost-argument x id front back lost) ∙ both-none ◌∷◌ (argument_of x a)

-- a call whose arguments are missing is refused, whatever its `this`
lost-call : (s : Situation) (x : Session) (call : FunctionCall) (o : Option Value)
    → calls_given s x call o None ≡ Stops refusals.UnknownObject
lost-call s x call None = refl
lost-call s x call (Some v) = refl

-- an id by which no handle is found is refused
refuses-object : (s : Situation) (x : Session) (id : List ℕ) → handle_of x id ≡ None → RefusesObject s x id
refuses-object s x id lost =
    let gone : object_of x id ≡ None = ap (option_and_then handle_object) lost in
    record {
      no_handle = lost;
      no_object = gone;
      properties = λ own preview. ap (properties_of s x preview) lost;
      releasing = ap (releases x) lost;
      receiver = λ call is.
          ap (λ o. row_of (calls_given s x call (receiver_of x o) (arguments_of x call.arguments))) is
          ∙ ap (λ o. row_of (calls_given s x call o (arguments_of x call.arguments))) gone;
      argument = λ call front back is.
          ap (λ o. row_of (calls_given s x call (receiver_of x call.object_id) o))
          (ap (arguments_of x) is ∙ lost-argument x id front back gone)
          ∙ ap row_of (lost-call s x call (receiver_of x call.object_id));
    }

-- so is each id of another session's object
pub foreign-object : (s : Situation) (x : Session) (r n : ℕ) → IsOfAnother r x → RefusesObject s x (object_id r n)
foreign-object s x r n h = refuses-object s x (object_id r n) (no-handle x r n h)

-- ---- frames

-- no frame is found by an id that is none of theirs
none-found : (m k : ℕ) (id : List ℕ) (d : ℕ) (fs : List ShownFrame)
    → ((e : ℕ) → bytes_eq (frame_id m k e) id ≡ false)
    → frame_from m k id d fs ≡ None
none-found m k id d [] never = refl
none-found m k id d (f ∷ fs) never =
    ap (λ b. if b then Some f else frame_from m k id (d + 1) fs) (never d) ∙ none-found m k id (d + 1) fs never

-- wherever the program is paused
no-frame : (s : Situation) (x : Session) (paused : Option Pause) (id : List ℕ)
    → ((k e : ℕ) → bytes_eq (frame_id x.number k e) id ≡ false)
    → frame_of s x paused id ≡ None
no-frame s x None id never = refl
no-frame s x (Some p) id never = none-found x.number p.number id 0 s.standing.frames (never p.number)

-- what is refused by its row comes to a refusal
refused-anyway : (o : Option Refusal) (w : Row) (why : Refusal)
    → w ≡ Refuses why
    → IsRefusal (option_map_or Refuses o w)
refused-anyway None w why is = (why, is)
refused-anyway (Some first) w why is = (first, refl)

-- nothing refuses it before its row
not-before : (s : Situation) (x : Session) (id : List ℕ) (ev : Evaluation)
    → x.rules.enabled ≡ true
    → is_some s.paused ≡ true
    → refusal_of s x (params.EvaluateOnCallFrame id ev) ≡ None
not-before s x id ev enabled paused =
    ap (λ b. if not b then Some refusals.NotEnabled else if not (is_some s.paused)
    then Some refusals.NotPaused else None)
    enabled
    ∙ ap (λ b. if not b then Some refusals.NotPaused else None) paused

-- an id by which no frame is found is refused
refuses-frame : (s : Situation) (x : Session) (id : List ℕ)
    → ((paused : Option Pause) → frame_of s x paused id ≡ None)
    → RefusesFrame s x id
refuses-frame s x id lost =
    let wanting : (ev : Evaluation)
    → row s x (params.EvaluateOnCallFrame id ev) ≡ Refuses refusals.UnknownFrame = λ ev. ap
    (λ o. row_of (evaluates_at s x o ev)) (lost s.paused) in
    record {
      no_frame = lost;
      by_row = wanting;
      refused =
          λ ev. refused-anyway (refusal_of s x (params.EvaluateOnCallFrame id ev))
          (row s x (params.EvaluateOnCallFrame id ev)) refusals.UnknownFrame (wanting ev);
      unknown = λ ev enabled paused.
          ap (λ o. option_map_or Refuses o (row s x (params.EvaluateOnCallFrame id ev)))
          (not-before s x id ev enabled paused)
          ∙ wanting ev;
    }

-- so is each id of another session's frame
pub foreign-frame : (s : Situation) (x : Session) (r stop depth : ℕ)
    → IsOfAnother r x
    → RefusesFrame s x (frame_id r stop depth)
foreign-frame s x r stop depth h =
    refuses-frame s x (frame_id r stop depth)
    (λ paused. no-frame s x paused (frame_id r stop depth) (λ k e. other-frame x r stop depth k e h))
