-- The texts of the results of evaluations, piece by piece.
use Rattle.std.proofs.Common.{◌≡◌, ℕ, pos, List, [], ◌∷◌, ◌++◌, codes, decimal, map, string_bytes, Option, option_map, option_to_list, Some, None, Ok, refl, sym, ap, ◌∙◌}
use Rattle.std.specs.Char.{encode_utf8}
use Rattle.std.specs.Char.Utf16.{utf16_chars}
use Rattle.std.specs.Fmt.{digits, signed_decimal}
use Rattle.json.specs.Print.{escape_byte}
use Rattle.cdp_text.specs.Units.{utf8_of}
use Rattle.cdp_json.specs.Json.{Json, number, text}
use Rattle.cdp_json.specs.Compact.{compact_text, string_text}
use Rattle.cdp_json.specs.Pieces.{Wrote, object_in_order}
use Rattle.cdp_json.proofs.PieceLemmas.{object-is}
use Rattle.object_groups.specs.Handles.{HeldHandles}
use Rattle.remote_objects.specs.Making.{Made}
use Rattle.cdp_session_messages.specs.Exceptions.{details, thrown_result, value_result}
use Rattle.cdp_session.specs.Evaluations.{answered_by}
use Rattle.cdp_session.specs.Made.{DoesSo, Makes, WrittenRow, answer_text, spelt, spelt_made}
use Rattle.cdp_session.specs.ResultTexts.{thrown_text, uncaught_text, value_text}
use Rattle.cdp_session.specs.Rows.{row_of}
use Rattle.cdp_session.specs.Sessions.{Session, with_handles}
use Rattle.cdp_session.specs.declared.asks.Asks.{Asks}
use Rattle.cdp_session.specs.declared.asks.Asks.TheVariants.{Nothing}
use Rattle.cdp_session.specs.declared.done.Done.{Done as Held}

-- ---- a value

pub result-pieces : (v : List ℕ) → object_in_order ((codes "result", v) ∷ []) ≡ codes "{\"result\":" ++ (v ++ codes "}")
unfolding utf8_of utf16_chars encode_utf8 escape_byte
result-pieces v = refl

pub value-spelt : (j : Json) → spelt (value_result j) ≡ value_text (spelt j)
unfolding spelt
value-spelt j =
    object-is ((codes "result", j) ∷ []) ((codes "result", compact_text j) ∷ []) refl ∙ result-pieces (compact_text j)

-- ---- a throw

uncaught_pieces : (v n : List ℕ)
    → object_in_order
    ((codes "columnNumber", signed_decimal (pos 0)) ∷ (codes "exception", v) ∷ (codes "exceptionId", n)
    ∷ (codes "lineNumber", signed_decimal (pos 0)) ∷ (codes "text", string_text (codes "Uncaught")) ∷ [])
    ≡ codes "{\"columnNumber\":0,\"exception\":" ++
    (v ++ (codes ",\"exceptionId\":" ++ (n ++ codes ",\"lineNumber\":0,\"text\":\"Uncaught\"}")))
unfolding utf8_of utf16_chars encode_utf8 escape_byte digits
uncaught_pieces v n = refl

uncaught_spelt : (id : ℕ) (j : Json)
    → compact_text (details ((codes "exception", j) ∷ []) id (codes "Uncaught")) ≡ uncaught_text id (compact_text j)
uncaught_spelt id j =
    object-is
    ((codes "columnNumber", number (pos 0)) ∷ (codes "exception", j) ∷ (codes "exceptionId", number (pos id))
    ∷ (codes "lineNumber", number (pos 0)) ∷ (codes "text", text (codes "Uncaught")) ∷ [])
    ((codes "columnNumber", signed_decimal (pos 0)) ∷ (codes "exception", compact_text j)
    ∷ (codes "exceptionId", decimal id) ∷ (codes "lineNumber", signed_decimal (pos 0))
    ∷ (codes "text", string_text (codes "Uncaught")) ∷ []) refl
    ∙ uncaught_pieces (compact_text j) (decimal id)

thrown_pieces : (d v : List ℕ)
    → object_in_order ((codes "exceptionDetails", d) ∷ (codes "result", v) ∷ [])
    ≡ codes "{\"exceptionDetails\":" ++ (d ++ (codes ",\"result\":" ++ (v ++ codes "}")))
unfolding utf8_of utf16_chars encode_utf8 escape_byte
thrown_pieces d v = refl

pub thrown-spelt : (id : ℕ) (j : Json) → spelt (thrown_result id j) ≡ thrown_text id (spelt j)
unfolding spelt
thrown-spelt id j =
    let says = details ((codes "exception", j) ∷ []) id (codes "Uncaught") in
    let v = compact_text j in
    object-is ((codes "exceptionDetails", says) ∷ (codes "result", j) ∷ [])
    ((codes "exceptionDetails", compact_text says) ∷ (codes "result", v) ∷ []) refl
    ∙ (thrown_pieces (compact_text says) v
    ∙ ap (λ d. codes "{\"exceptionDetails\":" ++ (d ++ (codes ",\"result\":" ++ (v ++ codes "}"))))
    (uncaught_spelt id j))

-- ---- texts

-- what a pen wrote that had written nothing
pub from-nothing : {text old new a : List ℕ} → old ≡ [] → Wrote old a new → text ≡ new → text ≡ a
from-nothing {text} {old} {new} {a} none wrote is = is ∙ (wrote.is ∙ ap (λ s. s ++ a) none)

pub spelt-told : {text old new : List ℕ} (j : Json)
    → old ≡ []
    → Wrote old (compact_text j) new
    → text ≡ new
    → text ≡ spelt j
unfolding spelt
spelt-told j none wrote is = from-nothing none wrote is

-- ---- answers

abbrev told_as : List ℕ → HeldHandles → Made (List ℕ)
told_as t h = record { made = t; handles = h }

made_same : (m : Made Json) (t : List ℕ) (n : Session)
    → Some (spelt_made m) ≡ Some (told_as t n.handles)
    → (spelt m.made ≡ t) × (m.handles ≡ n.handles)
made_same m t n e = (ap spelt_in e, ap handles_in e)
  where
    spelt_in : Option (Made (List ℕ)) → List ℕ
    spelt_in None = spelt m.made
    spelt_in (Some k) = k.made

    handles_in : Option (Made (List ℕ)) → HeldHandles
    handles_in None = m.handles
    handles_in (Some k) = k.handles

-- done, with what was described in a result of this form
pub text-answered : (form : Json → Json) (tell : List ℕ → List ℕ) (leaves : Session → Session) (x n : Session)
    (o : Option (Made Json)) (t : List ℕ) (d : Held)
    → ((j : Json) → spelt (form j) ≡ tell (spelt j))
    → option_map spelt_made o ≡ Some (told_as t n.handles) → n ≡ with_handles n.handles x
    → d.before.items ≡ [] → answer_text d.answer ≡ tell t → d.event ≡ None → d.asks ≡ Nothing
    → Makes (Ok d) (leaves n) (row_of (answered_by form leaves x o))
text-answered form tell leaves x n None t d spells told same before answer event asks = absurd cc
text-answered form tell leaves x n (Some m) t d spells told same before answer event asks =
    let row : Session → List (List ℕ) → List ℕ → List (List ℕ) → Asks → WrittenRow = λ s b r e a.
    DoesSo (record { session = s; before = b; result = r; events = e; asks = a }) in
    let is : (spelt m.made ≡ t) × (m.handles ≡ n.handles) = made_same m t n told in
    let session : leaves (with_handles m.handles x) ≡ leaves n =
    ap leaves (ap (λ h. with_handles h x) is.1 ∙ sym same) in
    let result : spelt (form m.made) ≡ answer_text d.answer = spells m.made ∙ (ap tell is.0 ∙ sym answer) in
    ap (λ s. row s [] (spelt (form m.made)) [] Nothing) session
    ∙ (ap (λ r. row (leaves n) [] r [] Nothing) result
    ∙ (ap (λ b. row (leaves n) (map string_bytes b) (answer_text d.answer) [] Nothing) (sym before)
    ∙ (ap (λ e. row (leaves n) (map string_bytes d.before.items) (answer_text d.answer)
    (map string_bytes (option_to_list e)) Nothing) (sym event)
    ∙ ap (row (leaves n) (map string_bytes d.before.items) (answer_text d.answer)
    (map string_bytes (option_to_list d.event))) (sym asks))))
