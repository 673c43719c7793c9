-- Heads, and bytes that hold none.
use Rattle.std.proofs.Common.{◌≡◌, ◌≢◌, ℕ, ◌+◌, ◌*◌, ◌<◌, ◌≤◌, inl, inr, List, [], ◌∷◌, ◌++◌, length, drop, flat_map, All, Some, None, Result, Err, ap, subst, ◌∙◌, append-nil, arith}
use Rattle.std.proofs.lemmas.List.{length-append}
use Rattle.std.proofs.lemmas.List.Elements.{All-head, All-tail}
use Rattle.httparse.specs.Grammar.{LineEnd, crlf, lf, print_end, print_blank, print_version, Field, print_field, IsField, print_section, RequestHead, ReadsRequest, HasNoRequest, NeverHasRequest, MayBecomeRequest}
use Rattle.httparse.proofs.GrammarLemmas.{print_request-append}
use Rattle.httparse.specs.Spans.{IsRequestAt, IsRequestOf, RequestExceeds}
use Rattle.httparse.specs.declared.Error.{Error}
use Rattle.httparse.specs.declared.Error.TheVariants as error
use Rattle.httparse.specs.declared.Status.{Status}
use Rattle.httparse.specs.declared.spans.HeaderSpan.{HeaderSpan}
use Rattle.httparse.specs.declared.spans.RequestSpans.{RequestSpans}
use Rattle.cdp_door.specs.Answers.{answer_of}
use Rattle.cdp_door.specs.Greetings.{Owes, answer_without_head}
use Rattle.cdp_door.specs.Requests.{asked_by, asked_at}
use Rattle.cdp_door.specs.declared.answer.Response.{Response}

-- ---- how many fields a head can have

-- a line end has a byte at least
end-length : (end : LineEnd) → 1 ≤ length (print_end end)
end-length crlf = omega arith
end-length lf = omega arith

-- a name, a colon, a value and a line end have three bytes at least
three-bytes : (name raw end : List ℕ) → 0 < length name → 1 ≤ length end → 3 ≤ length ((name ++ 58 ∷ raw) ++ end)
three-bytes name raw end some one =
    omega (arith, some, one, length-append (name ++ 58 ∷ raw) end, length-append name (58 ∷ raw))

-- a field has three bytes at least
field-length : (f : Field) → IsField f → 3 ≤ length (print_field f)
field-length f is = three-bytes f.name f.raw (print_end f.end) is.name.0 (end-length f.end)

-- and so many fields as often
fields-length : (fields : List Field) → All IsField fields → 3 * length fields ≤ length (flat_map print_field fields)
fields-length [] all = omega arith
fields-length (f ∷ fields) all =
    omega (
      arith,
      field-length f (All-head IsField f fields all),
      fields-length fields (All-tail IsField f fields all),
      length-append (print_field f) (flat_map print_field fields),
    )

-- with the line end after them
section-length : (fields : List Field) (last : LineEnd) → All IsField fields
    → 3 * length fields + 1 ≤ length (print_section fields last)
section-length fields last all =
    omega (arith, fields-length fields all, end-length last, length-append (flat_map print_field fields) (print_end last))

-- what stands before the fields has two bytes at least
before-length : (a b c d e f r : List ℕ)
    → length f + 2 ≤ length (a ++ (b ++ 32 ∷ (c ++ 32 ∷ (d ++ (e ++ (f ++ r))))))
before-length a b c d e f r =
    omega (
      arith,
      length-append a (b ++ 32 ∷ (c ++ 32 ∷ (d ++ (e ++ (f ++ r))))),
      length-append b (32 ∷ (c ++ 32 ∷ (d ++ (e ++ (f ++ r))))),
      length-append c (32 ∷ (d ++ (e ++ (f ++ r)))),
      length-append d (e ++ (f ++ r)),
      length-append e (f ++ r),
      length-append f r,
    )

-- bytes that begin with a head are more than three times its fields
head-length : (buf : List ℕ) (h : RequestHead) (rest : List ℕ) → ReadsRequest buf h rest
    → 3 * length h.fields + 3 ≤ length buf
head-length buf h rest reads =
    omega (
      arith,
      section-length h.fields h.last reads.0.fields,
      ap length (reads.1 ∙ print_request-append h rest),
      before-length (print_blank h.blank) h.method h.target (print_version h.minor) (print_end h.line_end)
          (print_section h.fields h.last) rest,
    )

-- in 8,192 bytes there are at most 2,730 fields
few-fields : (buf : List ℕ) → length buf ≤ 8_192 → RequestExceeds 2_730 buf → ⊥
few-fields buf short (front, rest, is, h, reads, over) =
    omega (
      arith,
      short,
      over,
      head-length (front ++ print_end lf) h [] reads,
      length-append front (print_end lf),
      length-append front rest,
      ap length is,
    )

-- ---- what is owed

-- what is asked where the parts of a head lie is what the head asks
asked-is : (buf : List ℕ) (headers : List HeaderSpan) (r : RequestSpans) (h : RequestHead)
    → IsRequestAt buf headers r h → asked_at buf headers r ≡ asked_by h
asked-is buf headers r h at =
    λ i. record { minor = at.version i; method = at.method i; target = at.path i; fields = at.fields i }

-- the answer to a head
pub owes-head : (buf : List ℕ) (headers : List HeaderSpan) (r : RequestSpans) (answer : Response)
    → IsRequestOf buf headers r → answer ≡ answer_of (asked_at buf headers r) → Owes buf (Some answer)
owes-head buf headers r answer (h, at) is =
    inl (h, drop r.len buf, at.reads, is ∙ ap answer_of (asked-is buf headers r h at))

-- more is to be read
pub owes-more : (buf : List ℕ) → HasNoRequest buf → MayBecomeRequest buf → length buf < 8_192 → Owes buf None
owes-more buf none may short = (record { no_head = none; may_become = may }, short)

-- the answer to too many bytes
pub owes-long : (buf : List ℕ) (answer : Response) → HasNoRequest buf → ¬ (length buf < 8_192) → length buf ≤ 8_192
    → answer ≡ answer_without_head buf → Owes buf (Some answer)
owes-long buf answer none long short is = inr ((none, λ other. absurd (other (omega (arith, long, short)))), is)

-- no bytes can follow that make a head, so there is none
never-none : (buf : List ℕ) → NeverHasRequest buf → HasNoRequest buf
never-none buf never = subst HasNoRequest (append-nil buf) (never [])

-- what the parser answers at an error
abbrev failed : Error → Result (Status RequestSpans) Error
failed e = Err e

-- the answer to bytes that are no request
pub owes-bad : (buf : List ℕ) (room : ℕ) (e : Error) (answer : Response)
    → (e ≢ error.TooManyHeaders → NeverHasRequest buf)
    → (failed e ≡ failed error.TooManyHeaders → RequestExceeds room buf)
    → room ≡ 2_730 → length buf ≤ 8_192 → answer ≡ answer_without_head buf → Owes buf (Some answer)
owes-bad buf room e answer invalid many full short is =
    let few : e ≢ error.TooManyHeaders = λ same. few-fields buf short (subst (λ n. RequestExceeds n buf) full (many (ap failed same))) in
    inr ((never-none buf (invalid few), λ other. invalid few), is)

-- for the bytes of a head
pub ruleset heads = (owes-head, owes-more, owes-long, owes-bad)
