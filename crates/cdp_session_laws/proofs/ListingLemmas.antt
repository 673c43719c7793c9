-- Frames as the event of a stop lists them.
use Rattle.std.proofs.Common.{◌≡◌, ℕ, zero, suc, ◌+◌, true, List, [], ◌∷◌, length, slice_get, codes, refl, sym, ap, subst, arith}
use Rattle.std.specs.Prelude.{if◌then◌else◌, Option, Some, None}
use Rattle.cdp_text.specs.declared.position.Place.{Place}
use Rattle.stepping.specs.declared.arrival.Arrival.{Arrival}
use Rattle.stepping.specs.declared.cause.Cause.{Cause}
use Rattle.object_groups.specs.Handles.{HeldHandles}
use Rattle.cdp_json.specs.Json.{Json, text}
use Rattle.cdp_json.specs.Parts.{list_of, location}
use Rattle.frames_scopes_types.specs.Frames.{ShownFrame}
use Rattle.remote_objects.specs.CallFrames.{frame_made, frame_object, frames_from, receiver_made, scopes_made}
use Rattle.remote_objects.specs.Sights.{Sight}
use Rattle.cdp_session_messages.specs.Results.{paused_params}
use Rattle.cdp_session.specs.Pauses.{data_told, frames_told, pause_told, reason_of, sight_of}
use Rattle.cdp_session.specs.Sessions.{Session}
use Rattle.cdp_session.specs.Situations.{Situation}
use Rattle.cdp_session.specs.Stops.{cause_of, hit_ids, stop_texts, stop_told}
use Rattle.cdp_session_laws.specs.Listing.{IsListed, ListsFrame, TellsFrames, TellsStop}
use Rattle.cdp_session_laws.specs.Members.{value_of}

-- ---- the members of a frame

name-there : (s : Sight) (stop depth : ℕ) (f : ShownFrame) (o : Option Place) (scopes : List Json) (receiver : Json)
    → value_of (codes "functionName") (frame_object s stop depth (record f { function_place = o }) scopes receiver)
    ≡ Some (text f.name)
name-there s stop depth f None scopes receiver = refl
name-there s stop depth f (Some p) scopes receiver = refl

place-there : (s : Sight) (stop depth : ℕ) (f : ShownFrame) (o : Option Place) (scopes : List Json) (receiver : Json)
    → value_of (codes "location") (frame_object s stop depth (record f { function_place = o }) scopes receiver)
    ≡ Some (location f.place)
place-there s stop depth f None scopes receiver = refl
place-there s stop depth f (Some p) scopes receiver = refl

scopes-there : (s : Sight) (stop depth : ℕ) (f : ShownFrame) (o : Option Place) (scopes : List Json) (receiver : Json)
    → value_of (codes "scopeChain") (frame_object s stop depth (record f { function_place = o }) scopes receiver)
    ≡ Some (list_of scopes)
scopes-there s stop depth f None scopes receiver = refl
scopes-there s stop depth f (Some p) scopes receiver = refl

receiver-there : (s : Sight) (stop depth : ℕ) (f : ShownFrame) (o : Option Place) (scopes : List Json) (receiver : Json)
    → value_of (codes "this") (frame_object s stop depth (record f { function_place = o }) scopes receiver)
    ≡ Some receiver
receiver-there s stop depth f None scopes receiver = refl
receiver-there s stop depth f (Some p) scopes receiver = refl

lists-frame : (s : Sight) (stop n : ℕ) (f : ShownFrame) (h : HeldHandles)
    → ListsFrame s stop n f (frame_made s stop n f h).made
lists-frame s stop n f h =
    let scopes : List Json = (scopes_made s f.scopes h).made in
    let receiver : Json = (receiver_made s f h).made in
    record {
      id = refl;
      name = name-there s stop n f f.function_place scopes receiver;
      place = place-there s stop n f f.function_place scopes receiver;
      before = h;
      scopes = scopes-there s stop n f f.function_place scopes receiver;
      receiver = receiver-there s stop n f f.function_place scopes receiver;
    }

-- ---- all frames

counted : (s : Sight) (stop d : ℕ) (fs : List ShownFrame) (h : HeldHandles)
    → length (frames_from s stop d fs h).made ≡ length fs
counted s stop d [] h = refl
counted s stop d (f ∷ fs) h = ap suc (counted s stop (d + 1) fs (frame_made s stop d f h).handles)

listed-from : (s : Sight) (stop n d : ℕ) (fs : List ShownFrame) (h : HeldHandles) (f : ShownFrame)
    → slice_get fs n ≡ Some f
    → (j : Json) × (slice_get (frames_from s stop d fs h).made n ≡ Some j) × ListsFrame s stop (d + n) f j
listed-from s stop n d [] h f is = absurd cc
listed-from s stop zero d (g ∷ fs) h f is =
    let same : g ≡ f = cc in
    let here : d ≡ d + zero = omega arith in
    let j : Json = (frame_made s stop d g h).made in (
      j,
      refl,
      subst (λ n. ListsFrame s stop n f j) here (subst (λ k. ListsFrame s stop d k j) same (lists-frame s stop d g h)),
    )
listed-from s stop (suc n) d (g ∷ fs) h f is =
    let rest = listed-from s stop n (d + 1) fs (frame_made s stop d g h).handles f is in
    let on : d + 1 + n ≡ d + suc n = omega arith in
    (rest.0, rest.1, subst (λ k. ListsFrame s stop k f rest.0) on rest.2)

listed : (s : Situation) (number : ℕ) (x : Session) (n : ℕ) (f : ShownFrame)
    → slice_get s.standing.frames n ≡ Some f
    → IsListed (sight_of s x) number n f (frames_told s number x).made
listed s number x n f is =
    let there = listed-from (sight_of s x) number n 0 s.standing.frames x.handles f is in
    let from : 0 + n ≡ n = omega arith in
    (there.0, there.1, subst (λ k. ListsFrame (sight_of s x) number k f there.0) from there.2)

pub tells-frames : (s : Situation) (number : ℕ) (hits : List (List ℕ)) (cause : Option Cause) (x : Session)
    → TellsFrames s number x (pause_told s number hits cause x).made
tells-frames s number hits cause x = record {
  params = paused_params (frames_told s number x).made (data_told s number cause x).made hits (reason_of cause);
  is = refl;
  listed = (frames_told s number x).made;
  frames = refl;
  count = counted (sight_of s x) number 0 s.standing.frames x.handles;
  each = λ n f is. listed s number x n f is;
}

pub tells-stop : (s : Situation) (number : ℕ) (a : Arrival) (x : Session)
    → x.rules.enabled ≡ true
    → TellsStop s number x (stop_texts s number a x)
tells-stop s number a x enabled =
    subst (λ b. TellsStop s number x (if b then (stop_told s number a x).made ∷ [] else [])) (sym enabled)
    (tells-frames s number (hit_ids s.standing a x) (cause_of s.standing a x) x)
