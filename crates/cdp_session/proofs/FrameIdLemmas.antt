-- Frames that are found by their ids.
use Rattle.std.proofs.Common.{◌≡◌, ℕ, zero, suc, ◌+◌, ◌<◌, ◌≤◌, ◌^◌, true, false, List, [], ◌∷◌, ◌++◌, length, slice_get, bytes_eq, decimal, Option, Some, None, option_and_then, if◌then◌else◌, refl, sym, ap, subst, ◌∙◌, arith}
use Rattle.std.proofs.lemmas.Bool.{false_from_ne_true}
use Rattle.std.proofs.lemmas.Fmt.{decimal_injective}
use Rattle.std.proofs.lemmas.Option.{slice_get_past}
use Rattle.std.proofs.lemmas.Slice.Eq.{bytes_eq-Decides}
use Rattle.frames_scopes_types.specs.Frames.{ShownFrame}
use Rattle.remote_objects.specs.Ids.{IsFrameId, point, frame_id}
use Rattle.cdp_session.specs.Evaluations.{frame_from}

-- ---- ids of frames

-- lists that begin alike and are the same go on alike
pub same-rest : (front first second : List ℕ) → front ++ first ≡ front ++ second → first ≡ second
same-rest [] first second is = is
same-rest (u ∷ front) first second is = same-rest front first second cc

-- the ids of two frames of a stop are two texts
same-depth : (session stop d n : ℕ)
    → d < 2 ^ 64
    → n < 2 ^ 64
    → frame_id session stop d ≡ frame_id session stop n
    → d ≡ n
same-depth session stop d n d_small n_small is =
    let rest = same-rest (decimal session) (point ++ (decimal stop ++ (point ++ decimal d)))
    (point ++ (decimal stop ++ (point ++ decimal n))) is in
    let after = same-rest point (decimal stop ++ (point ++ decimal d)) (decimal stop ++ (point ++ decimal n)) rest in
    let last = same-rest (decimal stop) (point ++ decimal d) (point ++ decimal n) after in
    decimal_injective d n d_small n_small (same-rest point (decimal d) (decimal n) last)

-- ---- which frame has an id

-- of frames outward from one that is so far from the top, the one that is `i` further is found by its id
pub found-from : (session stop i d : ℕ) (fs : List ShownFrame)
    → d + i < 2 ^ 64
    → frame_from session stop (frame_id session stop (d + i)) d fs ≡ slice_get fs i
found-from session stop i d [] small = refl
found-from session stop zero d (f ∷ fs) small =
    let same : d ≡ d + zero = omega arith in
    let here : bytes_eq (frame_id session stop d) (frame_id session stop (d + zero)) ≡ true =
    (bytes_eq-Decides (frame_id session stop d) (frame_id session stop (d + zero))).1
    (ap (frame_id session stop) same) in
    ap (λ b. if b then Some f else frame_from session stop (frame_id session stop (d + zero)) (d + 1) fs) here
found-from session stop (suc i) d (f ∷ fs) small =
    let other : bytes_eq (frame_id session stop d) (frame_id session stop (d + suc i)) ≡ false =
    false_from_ne_true (bytes_eq (frame_id session stop d) (frame_id session stop (d + suc i)))
    (λ same. absurd (omega (
      arith,
      same-depth session stop d (d + suc i) (omega (arith, small)) small
          ((bytes_eq-Decides (frame_id session stop d) (frame_id session stop (d + suc i))).0 same),
    ))) in
    let on : d + suc i ≡ d + 1 + i = omega arith in
    ap (λ b. if b then Some f else frame_from session stop (frame_id session stop (d + suc i)) (d + 1) fs) other
    ∙ ap (λ n. frame_from session stop (frame_id session stop n) (d + 1) fs) on
    ∙ found-from session stop i (d + 1) fs (omega (arith, small))

-- a frame has the id that is that of its distance from the top
found-at : (session stop n : ℕ) (id : List ℕ) (fs : List ShownFrame)
    → IsFrameId session stop id n
    → frame_from session stop id 0 fs ≡ slice_get fs n
found-at session stop n id fs is =
    let here : n ≡ 0 + n = omega arith in
    ap (λ text. frame_from session stop text 0 fs) (is.written ∙ ap (frame_id session stop) here)
    ∙ found-from session stop n 0 fs (omega (arith, is.small))

-- a text that is no id of a frame is that of none of so many frames
none-within : (session stop : ℕ) (id : List ℕ) (d : ℕ) (fs : List ShownFrame)
    → d + length fs ≤ 2 ^ 64
    → ((depth : ℕ) → ¬ (IsFrameId session stop id depth))
    → frame_from session stop id d fs ≡ None
none-within session stop id d [] few lacks = refl
none-within session stop id d (f ∷ fs) few lacks =
    let other : bytes_eq (frame_id session stop d) id ≡ false =
    false_from_ne_true (bytes_eq (frame_id session stop d) id)
    (λ same. lacks d
    (record {
      written = sym ((bytes_eq-Decides (frame_id session stop d) id).0 same);
      small = omega (arith, few);
    })) in
    ap (λ b. if b then Some f else frame_from session stop id (d + 1) fs) other
    ∙ none-within session stop id (d + 1) fs (omega (arith, few)) lacks

-- ---- what was read of an id

-- a number
pub depth-some : (session stop n : ℕ) (text id : List ℕ) (fs : List ShownFrame)
    → text ≡ id
    → IsFrameId session stop text n
    → option_and_then (slice_get fs) (Some n) ≡ frame_from session stop id 0 fs
depth-some session stop n text id fs same is =
    sym (found-at session stop n id fs (subst (λ t. IsFrameId session stop t n) same is))

-- one that so many frames don't reach
pub depth-past : (session stop n count : ℕ) (text id : List ℕ) (fs : List ShownFrame)
    → text ≡ id
    → IsFrameId session stop text n
    → count ≤ n
    → length fs ≡ count
    → option_and_then (slice_get fs) None ≡ frame_from session stop id 0 fs
depth-past session stop n count text id fs same is past long =
    let gone : slice_get fs n ≡ None = slice_get_past fs n (omega (arith, past, long)) in
    sym gone ∙ depth-some session stop n text id fs same is

-- none
pub depth-none : (session stop count : ℕ) (text id : List ℕ) (fs : List ShownFrame) (r : Option ℕ)
    → text ≡ id
    → ((depth : ℕ) → ¬ (IsFrameId session stop text depth))
    → count < 2 ^ 64
    → length fs ≡ count
    → r ≡ None
    → option_and_then (slice_get fs) r ≡ frame_from session stop id 0 fs
depth-none session stop count text id fs r same lacks few long none =
    ap (option_and_then (slice_get fs)) none
    ∙ sym (none-within session stop id 0 fs (omega (arith, few, long))
    (subst (λ t. (depth : ℕ) → ¬ (IsFrameId session stop t depth)) same lacks))
