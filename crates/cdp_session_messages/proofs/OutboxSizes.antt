-- How many texts wait, and how many bytes of them: what fits, and what doesn't.
use Rattle.std.proofs.Common.{◌≡◌, ℕ, ◌+◌, ◌-◌, ◌<◌, ◌≤◌, List, [], ◌∷◌, ◌++◌, length, Bool, true, false, ◌&&◌, nat_le, refl, ap, sym, subst, ◌∙◌, arith}
use Rattle.std.proofs.lemmas.Bool.{and_parts, leb-true, le-leb}
use Rattle.std.proofs.lemmas.List.{length-append}
use Rattle.json.specs.Print.{escape_byte}
use Rattle.cdp_session_messages.specs.Outboxes.{fits, bytes_of, most_texts, most_bytes, IsOutbox}
use Rattle.cdp_session_messages.specs.Results.{resumed_text}

-- the bytes of the event of a resume
pub resumed_size : length resumed_text ≡ 41
unfolding escape_byte
resumed_size = refl

-- the bytes of texts behind others come to theirs
bytes-append : (xs ys : List (List ℕ)) → bytes_of (xs ++ ys) ≡ bytes_of xs + bytes_of ys
bytes-append [] ys = omega arith
bytes-append (x ∷ xs) ys = let e = bytes-append xs ys in omega (arith, e)

le_by : (a b c d : ℕ) (x y : Bool) → nat_le a b ≡ x → nat_le c d ≡ y → (a ≤ b → c ≤ d) → (c ≤ d → a ≤ b) → x ≡ y
le_by a b c d true true first second to from = refl
le_by a b c d false false first second to from = refl
le_by a b c d true false first second to from = let e = le-leb c d (to (leb-true a b first)) in absurd cc
le_by a b c d false true first second to from = let e = le-leb a b (from (leb-true c d second)) in absurd cc

-- two tests that tell the same come to the same
le-same : (a b c d : ℕ) → (a ≤ b → c ≤ d) → (c ≤ d → a ≤ b) → nat_le a b ≡ nat_le c d
le-same a b c d to from = le_by a b c d (nat_le a b) (nat_le c d) refl refl to from

lt_by : (a b : ℕ) (x : Bool) → nat_le b a ≡ x → a < b → x ≡ false
lt_by a b true is less = let e = leb-true b a is in absurd (omega (arith, e, less))
lt_by a b false is less = refl

lt-nleb : (a b : ℕ) → a < b → nat_le b a ≡ false
lt-nleb a b less = lt_by a b (nat_le b a) refl less

-- what fits is few enough, and short enough
pub fit-parts : (xs : List (List ℕ)) → fits xs ≡ true → (length xs ≤ most_texts) × (bytes_of xs ≤ most_bytes)
unfolding fits
fit-parts xs is =
    let parts = and_parts (nat_le (length xs) most_texts) (nat_le (bytes_of xs) most_bytes) is in
    (leb-true (length xs) most_texts parts.0, leb-true (bytes_of xs) most_bytes parts.1)

fit-whole : (xs : List (List ℕ)) → length xs ≤ most_texts → bytes_of xs ≤ most_bytes → fits xs ≡ true
unfolding fits
fit-whole xs few small = rw (le-leb (length xs) most_texts few, le-leb (bytes_of xs) most_bytes small) refl

by_test : (xs ys : List (List ℕ)) (b : Bool) → fits (xs ++ ys) ≡ b → fits xs ≡ false → fits (xs ++ ys) ≡ false
by_test xs ys false is not_first = is
by_test xs ys true is not_first =
    let both = fit-parts (xs ++ ys) is in
    let few : length xs ≤ most_texts = let e = length-append xs ys in omega (arith, both.0, e) in
    let small : bytes_of xs ≤ most_bytes = let e = bytes-append xs ys in omega (arith, both.1, e) in
    let fit = fit-whole xs few small in
    absurd cc

-- what doesn't fit doesn't with more behind it
pub unfit-more : (xs ys : List (List ℕ)) → fits xs ≡ false → fits (xs ++ ys) ≡ false
unfit-more xs ys not_first = by_test xs ys (fits (xs ++ ys)) refl not_first

-- ---- an outbox

-- none wait
pub outbox-none : (texts : List (List ℕ)) → texts ≡ [] → IsOutbox texts 0
unfolding fits
outbox-none texts none =
    let P : List (List ℕ) → Type 0 = λ xs. IsOutbox xs 0 in
    subst P (sym none) (record { counted = refl; fit = refl })

-- one more waits, which fits
pub outbox-more : (texts all : List (List ℕ)) (bytes size : ℕ) (text : List ℕ)
    → IsOutbox texts bytes
    → all ≡ texts ++ text ∷ []
    → size ≡ length text
    → fits (texts ++ text ∷ []) ≡ true
    → IsOutbox all (bytes + size)
outbox-more texts all bytes size text is pushed sized fit = record {
  counted =
      let e : bytes_of all ≡ bytes_of texts + (length text + 0) = ap bytes_of pushed ∙ bytes-append texts (text ∷ []) in
      let f = is.counted in
      omega (arith, e, f, sized);
  fit = ap fits pushed ∙ fit;
}

-- the bytes are no more than there may be
pub bytes-below : (texts : List (List ℕ)) (bytes : ℕ) → IsOutbox texts bytes → bytes ≤ most_bytes
bytes-below texts bytes is = let both = fit-parts texts is.fit in let e = is.counted in omega (arith, both.1, e)

-- nor with one more that fits
pub bytes-more : (texts : List (List ℕ)) (bytes size : ℕ) (text : List ℕ)
    → IsOutbox texts bytes
    → size ≡ length text
    → fits (texts ++ text ∷ []) ≡ true
    → bytes + size ≤ most_bytes
bytes-more texts bytes size text is sized fit =
    let both = fit-parts (texts ++ text ∷ []) fit in
    let e : bytes_of (texts ++ text ∷ []) ≡ bytes_of texts + (length text + 0) = bytes-append texts (text ∷ []) in
    let f = is.counted in
    omega (arith, both.1, e, f, sized)

room_by : (few small fit : Bool) → fit ≡ (few && small) → few ≡ true → small ≡ fit
room_by true small fit is few = sym is
room_by false small fit is few = absurd cc

-- where there aren't too many, one more fits where its bytes do
pub room-few : (texts : List (List ℕ)) (bytes size : ℕ) (text : List ℕ)
    → IsOutbox texts bytes
    → length texts < most_texts
    → size ≡ length text
    → nat_le size (most_bytes - bytes) ≡ fits (texts ++ text ∷ [])
unfolding fits
room-few texts bytes size text is few sized =
    let all : List (List ℕ) = texts ++ text ∷ [] in
    let n = length-append texts (text ∷ []) in
    let e : bytes_of all ≡ bytes_of texts + (length text + 0) = bytes-append texts (text ∷ []) in
    let f = is.counted in
    let low = bytes-below texts bytes is in
    let same : nat_le size (most_bytes - bytes) ≡ nat_le (bytes_of all) most_bytes = le-same size (most_bytes - bytes)
    (bytes_of all) most_bytes (λ a. omega (arith, a, e, f, low, sized)) (λ a. omega (arith, a, e, f, low, sized))
    in
    room_by (nat_le (length all) most_texts) (nat_le size (most_bytes - bytes)) (fits all)
    (ap (λ b. nat_le (length all) most_texts && b) (sym same))
    (le-leb (length all) most_texts (omega (arith, n, few)))

-- one more than there may be doesn't
pub room-full : (texts : List (List ℕ)) (text : List ℕ) (b : Bool)
    → b ≡ false
    → most_texts ≤ length texts
    → b ≡ fits (texts ++ text ∷ [])
unfolding fits
room-full texts text b full many =
    let all : List (List ℕ) = texts ++ text ∷ [] in
    let n = length-append texts (text ∷ []) in
    full
    ∙ ap (λ c. c && nat_le (bytes_of all) most_bytes) (sym (lt-nleb most_texts (length all) (omega (arith, n, many))))

-- the same of texts that begin with these
pub unfit-as : (xs ys all : List (List ℕ)) → all ≡ xs ++ ys → fits xs ≡ false → fits all ≡ false
unfit-as xs ys all is unfit = ap fits is ∙ unfit-more xs ys unfit
