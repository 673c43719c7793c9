-- The text of a pause, piece by piece.
use Rattle.std.proofs.Common.{◌≡◌, ℕ, ◌+◌, ◌<◌, List, [], ◌∷◌, ◌++◌, length, drop, get_or, map, codes, Option, Some, None, refl, sym, ap, ◌∙◌}
use Rattle.std.specs.Char.{encode_utf8}
use Rattle.std.specs.Char.Utf16.{utf16_chars}
use Rattle.std.proofs.lemmas.List.{at_drop_more}
use Rattle.json.specs.Print.{escape_byte}
use Rattle.cdp_text.specs.Units.{utf8_of}
use Rattle.js_heap.specs.declared.value.Value.{Value}
use Rattle.stepping.specs.declared.cause.Cause.{Cause}
use Rattle.stepping.specs.declared.cause.Cause.TheVariants as causes
use Rattle.frames_scopes_types.specs.Frames.{ShownFrame}
use Rattle.object_groups.specs.Handles.{HeldHandles}
use Rattle.cdp_json.specs.Json as json
use Rattle.cdp_json.specs.Compact.{compact_text, string_text, with_commas}
use Rattle.cdp_json.specs.Envelopes.{event_front, message_back}
use Rattle.cdp_json.specs.Messages.{event_text}
use Rattle.cdp_json.specs.Parts.{list_of}
use Rattle.cdp_json.specs.Pieces.{Wrote, object_in_order}
use Rattle.cdp_json.proofs.EnvelopeLemmas.{event-written}
use Rattle.cdp_json.proofs.PieceLemmas.{further, list-behind, object-is}
use Rattle.remote_objects.specs.CallFrames.{backtrace}
use Rattle.remote_objects.specs.Remote.{remote}
use Rattle.remote_objects.specs.Sights.{Sight}
use Rattle.cdp_session_messages.specs.Results.{paused_params}
use Rattle.cdp_session.specs.Pauses.{data_made, reason_of}
use Rattle.cdp_session.specs.PauseTexts.{data_text, pause_params, reason_back}

-- ---- parts

reason_written : (cause : Option Cause)
    → codes "]" ++ (codes ",\"reason\":" ++ (string_text (reason_of cause) ++ codes "}")) ≡ reason_back cause
unfolding utf8_of utf16_chars encode_utf8 escape_byte
reason_written None = refl
reason_written (Some causes.Exception) = refl
reason_written (Some causes.Breakpoint) = refl
reason_written (Some causes.DebuggerStatement) = refl
reason_written (Some causes.Pause) = refl
reason_written (Some causes.Step) = refl
reason_written (Some causes.ContinueTo) = refl

texts_of : (hits : List (List ℕ)) → map compact_text (map json.text hits) ≡ map string_text hits
texts_of [] = refl
texts_of (h ∷ hs) = ap (λ ts. string_text h ∷ ts) (texts_of hs)

pub hit-here : (hits : List (List ℕ)) (i : ℕ) (h : List ℕ) → i < length hits → h ≡ get_or hits i h
    → map string_text (drop i hits) ≡ string_text h ∷ map string_text (drop (i + 1) hits)
hit-here hits i h lt is =
    at_drop_more (map string_text) hits i h lt
    ∙ ap (λ x. string_text x ∷ map string_text (drop (i + 1) hits)) (sym is)

hits_behind : (hits : List (List ℕ)) (rest : List ℕ)
    → codes "[" ++ (with_commas (map string_text hits) ++ (codes "]" ++ rest))
    ≡ compact_text (list_of (map json.text hits)) ++ rest
hits_behind hits rest =
    ap (λ ts. codes "[" ++ (with_commas ts ++ (codes "]" ++ rest))) (sym (texts_of hits))
    ∙ list-behind (map json.text hits) rest

plain_pieces : (f h r : List ℕ)
    → object_in_order ((codes "callFrames", f) ∷ (codes "hitBreakpoints", h) ∷ (codes "reason", r) ∷ [])
    ≡ codes "{\"callFrames\":" ++
    (f ++ (codes ",\"hitBreakpoints\":" ++ (h ++ (codes ",\"reason\":" ++ (r ++ codes "}")))))
unfolding utf8_of utf16_chars encode_utf8 escape_byte
plain_pieces f h r = refl

thrown_pieces : (f d h r : List ℕ)
    → object_in_order
    ((codes "callFrames", f) ∷ (codes "data", d) ∷ (codes "hitBreakpoints", h) ∷ (codes "reason", r) ∷ [])
    ≡ codes "{\"callFrames\":" ++
    (f ++ (codes ",\"data\":" ++
    (d ++ (codes ",\"hitBreakpoints\":" ++ (h ++ (codes ",\"reason\":" ++ (r ++ codes "}")))))))
unfolding utf8_of utf16_chars encode_utf8 escape_byte
thrown_pieces f d h r = refl

-- the lists in place of their pieces
lists_written : (frames : List json.Json) (data_piece : List ℕ) (hits : List (List ℕ)) (cause : Option Cause)
    → codes "{\"callFrames\":[" ++
    (with_commas (map compact_text frames) ++
    (codes "]" ++
    (data_piece ++ (codes ",\"hitBreakpoints\":[" ++ (with_commas (map string_text hits) ++ reason_back cause)))))
    ≡ codes "{\"callFrames\":" ++
    (compact_text (list_of frames) ++
    (data_piece ++
    (codes ",\"hitBreakpoints\":" ++
    (compact_text (list_of (map json.text hits)) ++
    (codes ",\"reason\":" ++ (string_text (reason_of cause) ++ codes "}"))))))
lists_written frames data_piece hits cause =
    let back = codes ",\"reason\":" ++ (string_text (reason_of cause) ++ codes "}") in
    let f = with_commas (map compact_text frames) in
    let h = with_commas (map string_text hits) in
    ap (λ r. codes "{\"callFrames\":[" ++
    (f ++ (codes "]" ++ (data_piece ++ (codes ",\"hitBreakpoints\":[" ++ (h ++ r))))))
    (sym (reason_written cause))
    ∙ (ap (λ s. codes "{\"callFrames\":[" ++ (f ++ (codes "]" ++ (data_piece ++ (codes ",\"hitBreakpoints\":" ++ s)))))
    (hits_behind hits back)
    ∙ ap (λ s. codes "{\"callFrames\":" ++ s)
    (list-behind frames
    (data_piece ++
    (codes ",\"hitBreakpoints\":" ++ (compact_text (list_of (map json.text hits)) ++ back)))))

-- ---- the whole

pub pause-written : (sight : Sight) (value : Option Value) (h : HeldHandles) (frames : List json.Json)
    (hits : List (List ℕ)) (cause : Option Cause)
    → codes "{\"callFrames\":[" ++
    (with_commas (map compact_text frames) ++
    (codes "]" ++
    (data_text (data_made sight value h).made ++
    (codes ",\"hitBreakpoints\":[" ++ (with_commas (map string_text hits) ++ reason_back cause)))))
    ≡ compact_text (paused_params frames (data_made sight value h).made hits (reason_of cause))
pause-written sight None h frames hits cause =
    let f = compact_text (list_of frames) in
    let b = compact_text (list_of (map json.text hits)) in
    let r = string_text (reason_of cause) in
    lists_written frames [] hits cause
    ∙ sym (object-is
    ((codes "callFrames", list_of frames) ∷ (codes "hitBreakpoints", list_of (map json.text hits))
    ∷ (codes "reason", json.text (reason_of cause)) ∷ [])
    ((codes "callFrames", f) ∷ (codes "hitBreakpoints", b) ∷ (codes "reason", r) ∷ []) refl
    ∙ plain_pieces f b r)
pause-written sight (Some v) h frames hits cause =
    let thrown = (remote sight (Some backtrace) v h).made in
    let f = compact_text (list_of frames) in
    let d = compact_text thrown in
    let b = compact_text (list_of (map json.text hits)) in
    let r = string_text (reason_of cause) in
    lists_written frames (codes ",\"data\":" ++ d) hits cause
    ∙ sym (object-is
    ((codes "callFrames", list_of frames) ∷ (codes "data", thrown)
    ∷ (codes "hitBreakpoints", list_of (map json.text hits)) ∷ (codes "reason", json.text (reason_of cause)) ∷ [])
    ((codes "callFrames", f) ∷ (codes "data", d) ∷ (codes "hitBreakpoints", b) ∷ (codes "reason", r) ∷ []) refl
    ∙ thrown_pieces f d b r)

-- the same pause in other words
pub params-as : (s t : Sight) (number : ℕ) (fs gs : List ShownFrame) (v w : Option Value) (hits hs : List (List ℕ))
    (cause : Option Cause) (h : HeldHandles)
    → s ≡ t → fs ≡ gs → v ≡ w → hits ≡ hs
    → pause_params s number fs v hits cause h ≡ pause_params t number gs w hs cause h
params-as s t number fs gs v w hits hs cause h sights frames values ids =
    ap (λ x. pause_params x number fs v hits cause h) sights
    ∙ (ap (λ x. pause_params t number x v hits cause h) frames
    ∙ (ap (λ x. pause_params t number gs x hits cause h) values
    ∙ ap (λ x. pause_params t number gs w x cause h) ids))

pub event-told : {text old one two three : List ℕ} (params : json.Json)
    → old ≡ [] → Wrote old (event_front (codes "Debugger.paused")) one → Wrote one (compact_text params) two
    → Wrote two message_back three → text ≡ three
    → text ≡ event_text (codes "Debugger.paused") params
event-told params none front said back is =
    is
    ∙ ((further front (further said back)).is
    ∙ (ap (λ s. s ++ (event_front (codes "Debugger.paused") ++ (compact_text params ++ message_back))) none
    ∙ event-written (codes "Debugger.paused") params))
