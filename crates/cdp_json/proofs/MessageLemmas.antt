-- The text of each message is the compact text of an object.
use Rattle.std.proofs.Common.{◌≡◌, ℕ, pos, List, [], ◌∷◌, ◌++◌, codes, decimal, Some, None, refl, sym, ap, ap₂, ◌∙◌, append_assoc, append-nil, Greater}
use Rattle.std.specs.Ordering.{nat_cmp}
use Rattle.std.specs.Cmp.Lexicographic.{slice_cmp}
use Rattle.std.specs.Fmt.{signed_decimal}
use Rattle.std.specs.Char.{encode_utf8}
use Rattle.std.specs.Char.Utf16.{utf16_chars}
use Rattle.json.specs.Print.{escape_byte, quoted}
use Rattle.cdp_text.specs.Units.{utf8_of, utf16_of}
use Rattle.cdp_text.proofs.UnitsLemmas.{utf8_of-utf16_of}
use Rattle.cdp_json.specs.Json.{Json, number, text, object, no_members, member}
use Rattle.cdp_json.specs.Compact.{compact_text, string_text}
use Rattle.cdp_json.specs.Messages.{id_text, error_text}
use Rattle.cdp_json.specs.MessageForm.{error_value, ResultIsValue, RefusalIsValue, EventIsValue}
use Rattle.cdp_json.specs.Refusals.{code_of, message_of}
use Rattle.cdp_json.specs.declared.refusal.Refusal.{Refusal}

-- ---- objects of one and of two members

one_member : (k : List ℕ) (a : Json)
    → compact_text (object (member k a no_members)) ≡ 123 ∷ (string_text k ++ 58 ∷ (compact_text a ++ 125 ∷ []))
one_member k a = simp (append_assoc, append-nil) refl

two_members : (k l : List ℕ) (a b : Json) → slice_cmp nat_cmp l k ≡ Greater
    → compact_text (object (member k a (member l b no_members))) ≡ 123 ∷
    (string_text k ++ 58 ∷ (compact_text a ++ 44 ∷ (string_text l ++ 58 ∷ (compact_text b ++ 125 ∷ []))))
two_members k l a b above = rw above (simp (append_assoc, append-nil) refl)

-- ---- keys

id_key : string_text (codes "id") ≡ codes "\"id\""
unfolding utf8_of utf16_chars encode_utf8 escape_byte
id_key = refl

result_key : string_text (codes "result") ≡ codes "\"result\""
unfolding utf8_of utf16_chars encode_utf8 escape_byte
result_key = refl

error_key : string_text (codes "error") ≡ codes "\"error\""
unfolding utf8_of utf16_chars encode_utf8 escape_byte
error_key = refl

code_key : string_text (codes "code") ≡ codes "\"code\""
unfolding utf8_of utf16_chars encode_utf8 escape_byte
code_key = refl

message_key : string_text (codes "message") ≡ codes "\"message\""
unfolding utf8_of utf16_chars encode_utf8 escape_byte
message_key = refl

method_key : string_text (codes "method") ≡ codes "\"method\""
unfolding utf8_of utf16_chars encode_utf8 escape_byte
method_key = refl

params_key : string_text (codes "params") ≡ codes "\"params\""
unfolding utf8_of utf16_chars encode_utf8 escape_byte
params_key = refl

-- ---- messages

pub result_is_value : ResultIsValue
result_is_value id result =
    sym (two_members (codes "id") (codes "result") (number (pos id)) result refl
    ∙ ap₂ (λ k l. 123 ∷ (k ++ 58 ∷ (decimal id ++ 44 ∷ (l ++ 58 ∷ (compact_text result ++ 125 ∷ [])))))
    id_key result_key)

error_begins : (refusal : Refusal) → error_text refusal ≡ codes "{\"error\":" ++ compact_text (error_value refusal)
error_begins refusal =
    let code = signed_decimal (code_of refusal) in
    let message = string_text (message_of refusal) in
    sym (ap (λ s. codes "{\"error\":" ++ s)
    (two_members (codes "code") (codes "message") (number (code_of refusal)) (text (message_of refusal)) refl
    ∙ ap₂ (λ k l. 123 ∷ (k ++ 58 ∷ (code ++ 44 ∷ (l ++ 58 ∷ (message ++ 125 ∷ []))))) code_key message_key))

pub refusal_is_value : RefusalIsValue
refusal_is_value None refusal =
    ap (λ s. s ++ 125 ∷ []) (error_begins refusal)
    ∙ sym (one_member (codes "error") (error_value refusal)
    ∙ ap (λ k. 123 ∷ (k ++ 58 ∷ (compact_text (error_value refusal) ++ 125 ∷ []))) error_key)
refusal_is_value (Some id) refusal =
    ap (λ s. s ++ (id_text (Some id) ++ 125 ∷ [])) (error_begins refusal)
    ∙ sym (two_members (codes "error") (codes "id") (error_value refusal) (number (pos id)) refl
    ∙ ap₂ (λ k l. 123 ∷ (k ++ 58 ∷ (compact_text (error_value refusal) ++ 44 ∷ (l ++ 58 ∷ (decimal id ++ 125 ∷ [])))))
    error_key id_key)

pub event_is_value : EventIsValue
event_is_value method params utf8 =
    sym (two_members (codes "method") (codes "params") (text (utf16_of method)) params refl
    ∙ ap₂ (λ k l. 123 ∷
    (k ++ 58 ∷ (string_text (utf16_of method) ++ 44 ∷ (l ++ 58 ∷ (compact_text params ++ 125 ∷ [])))))
    method_key params_key
    ∙ ap (λ m. codes "{\"method\":" ++ (quoted m ++ (codes ",\"params\":" ++ (compact_text params ++ 125 ∷ []))))
    (utf8_of-utf16_of method utf8))
