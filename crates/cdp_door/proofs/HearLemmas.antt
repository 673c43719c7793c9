-- The bytes of a head as they come, and what a greeting comes to.
use Rattle.std.proofs.Common.{◌≡◌, ◌≢◌, ℕ, ◌+◌, ◌≤◌, inl, inr, List, [], ◌∷◌, ◌++◌, length, drop, get_or, Option, Some, None, refl, ap, sym, subst, ◌∙◌, append-nil, append_assoc, arith}
use Rattle.std.proofs.lemmas.List.{length-append, nil_from_length}
use Rattle.std.proofs.lemmas.List.Elements.{All-nil, All-push}
use Rattle.httparse.specs.Grammar.{print_request}
use Rattle.cdp_edge_wire.specs.Written.{gains, GainsLess}
use Rattle.cdp_edge_wire.specs.Arrived.{Arrived, Byte, Quiet, End, adds}
use Rattle.cdp_door.specs.Greetings.{Traffic, Gave, Took, Came, Comes, Hears, Looks, Owes, IsAnswerTo, IsUnfinished, IsReadInTime, Stops, Greets, Writes, WritesLess, bytes_of}
use Rattle.cdp_door.specs.Texts.{text_of}
use Rattle.cdp_door.specs.declared.answer.Response.{Response}
use Rattle.cdp_door.specs.declared.greeting.Greeted.{Greeted}
use Rattle.cdp_door.specs.declared.greeting.Greeted.TheVariants as greeted
use Rattle.cdp_door.specs.declared.hear.HeadEnd.{HeadEnd}
use Rattle.cdp_door.specs.declared.hear.HeadEnd.TheVariants as heard

-- ---- answers of a wire

-- to add these and then those is to add both
pub adds-append : (old : Option (List Arrived)) (xs ys : List Arrived) → adds (adds old xs) ys ≡ adds old (xs ++ ys)
adds-append None xs ys = refl
adds-append (Some all) xs ys = ap (λ t. Some t) (append_assoc all xs ys)

-- to add none changes nothing
pub adds-nil : (old : Option (List Arrived)) → adds old [] ≡ old
adds-nil None = refl
adds-nil (Some all) = ap (λ t. Some t) (append-nil all)

-- these answers and then those
gave-more : (old mid new : Traffic) (xs ys : List Arrived) → Gave old mid xs → Gave mid new ys → Gave old new (xs ++ ys)
gave-more old mid new xs ys first then =
    then ∙ ap (λ o. adds o ys) first ∙ adds-append old.answers xs ys

-- the bytes of these answers and then of those
bytes_of-append : (xs ys : List Arrived) → bytes_of (xs ++ ys) ≡ bytes_of xs ++ bytes_of ys
bytes_of-append [] ys = refl
bytes_of-append (Byte byte ∷ xs) ys = ap (λ t. byte ∷ t) (bytes_of-append xs ys)
bytes_of-append (Quiet ∷ xs) ys = bytes_of-append xs ys
bytes_of-append (End ∷ xs) ys = bytes_of-append xs ys

-- an answer has one byte at most
one-byte : (arrived : Arrived) → length (bytes_of (arrived ∷ [])) ≤ 1
one-byte (Byte byte) = omega arith
one-byte Quiet = omega arith
one-byte End = omega arith

-- ---- fronts

-- a list with a first element isn't empty
some : {A : Type 0} (x : A) (xs : List A) → x ∷ xs ≢ []
some x xs none = absurd (omega (arith, ap length none))

-- a shorter front of bytes and at most one more is a front of the bytes
front-of : (bytes tail front rest : List ℕ) → length tail ≤ 1 → bytes ++ tail ≡ front ++ rest → rest ≢ []
    → (left : List ℕ) × (bytes ≡ front ++ left)
front-of bytes tail [] rest one is more = (bytes, refl)
front-of [] tail (f ∷ front) rest one is more =
    absurd (more (nil_from_length rest (omega (arith, one, ap length is, length-append front rest))))
front-of (b ∷ bytes) tail (f ∷ front) rest one is more =
    let later : bytes ++ tail ≡ front ++ rest = ap (drop 1) is in
    let first : b ≡ f = ap (λ t. get_or t 0 b) is in
    let found = front-of bytes tail front rest one later more in
    (found.0, (λ i. first i ∷ found.1 i))

-- one byte more is read in time where the others are unfinished
in-time-more : (bytes tail : List ℕ) → length tail ≤ 1 → IsReadInTime bytes → IsUnfinished bytes
    → IsReadInTime (bytes ++ tail)
in-time-more bytes tail one in_time unfinished front rest is more =
    let found = front-of bytes tail front rest one is more in by_left found.0 found.1
  where
    by_left : (left : List ℕ) → bytes ≡ front ++ left → IsUnfinished front
    by_left [] e = subst IsUnfinished (e ∙ append-nil front) unfinished
    by_left (l ∷ left) e = in_time front (l ∷ left) e (some l left)

-- ---- the reading

-- nothing came
pub came-none : (old : Traffic) → Came old old []
came-none old = record {
  took = record {
    given = [];
    answers = sym (adds-nil old.answers);
    present = All-nil (λ answer. answer ≢ End);
    bytes_are = refl;
    in_time = λ front rest is more. absurd (more (nil_from_length rest (omega (arith, ap length is, length-append front rest))));
  };
  nothing = refl;
}

-- one answer more
came-more : (old mid new : Traffic) (bytes after : List ℕ)
    → Came old mid bytes → IsUnfinished bytes → Comes bytes after mid new → Came old new after
came-more old mid new bytes after came unfinished comes =
    let took = came.took in
    let one = comes.arrived ∷ [] in
    record {
      took = record {
        given = took.given ++ one;
        answers = gave-more old mid new took.given one took.answers comes.answers;
        present = All-push (λ answer. answer ≢ End) took.given comes.arrived took.present comes.present;
        bytes_are =
            comes.after_is
            ∙ ap (λ t. t ++ bytes_of one) took.bytes_are
            ∙ sym (bytes_of-append took.given one);
        in_time =
            subst IsReadInTime (sym comes.after_is)
            (in-time-more bytes (bytes_of one) (one-byte comes.arrived) took.in_time unfinished);
      };
      nothing = comes.nothing ∙ came.nothing;
    }

-- the reading goes on
pub looks-on : (old mid new : Traffic) (bytes after : List ℕ)
    → Came old mid bytes → Looks None bytes after mid new → Came old new after
looks-on old mid new bytes after came (unfinished, comes) = came-more old mid new bytes after came unfinished comes

-- what is owed to bytes that were read in time is owed to a whole head or to none
owed-in-time : (bytes : List ℕ) (answer : Response) → IsReadInTime bytes → Owes bytes (Some answer)
    → length bytes ≤ 8_192 → IsAnswerTo bytes answer
owed-in-time bytes answer in_time (inr other) short = (short, inr other)
owed-in-time bytes answer in_time (inl (head, [], reads, is)) short = (short, inl (head, reads, is))
owed-in-time bytes answer in_time (inl (head, r ∷ rest, reads, is)) short =
    let early = in_time (print_request head) (r ∷ rest) reads.1 (some r rest) in
    absurd (early.no_head head [] (reads.0, sym (append-nil (print_request head))))

-- a byte is no end
pub byte-present : (byte : ℕ) → Byte byte ≢ End
byte-present byte same = cc

-- the reading ends
pub looks-end : (old mid new : Traffic) (bytes after : List ℕ) (end : HeadEnd)
    → Came old mid bytes → Looks (Some end) bytes after mid new → Hears end old new
looks-end old mid new bytes after (heard.Answer answer) came (owes, short, same) =
    (bytes, subst (λ t. Came old t bytes) (sym same) came, owed-in-time bytes answer came.took.in_time owes short)
looks-end old mid new bytes after (heard.Closed taken) came (unfinished, count, gave, nothing) = record {
  given = came.took.given;
  answers = gave-more old mid new came.took.given (End ∷ []) came.took.answers gave;
  present = came.took.present;
  count_is = count ∙ ap length came.took.bytes_are;
  unfinished = subst IsUnfinished came.took.bytes_are unfinished;
  nothing = nothing ∙ came.nothing;
}
looks-end old mid new bytes after heard.Fault came (gave, nothing) =
    let took = came.took in (
      bytes,
      record {
        took = record {
          given = took.given;
          answers = gave ∙ adds-nil mid.answers ∙ took.answers;
          present = took.present;
          bytes_are = took.bytes_are;
          in_time = took.in_time;
        };
        nothing = nothing ∙ came.nothing;
      },
    )
looks-end old mid new bytes after heard.Memory came (inl same) = (bytes, subst (λ t. Came old t bytes) (sym same) came)
looks-end old mid new bytes after heard.Memory came (inr (unfinished, more, comes)) =
    (more, came-more old mid new bytes more came unfinished comes)

-- an end is the end that it is
pub same-end : (end other : HeadEnd) → Some end ≡ Some other → end ≡ other
same-end end other same = cc

-- no end is none
pub no-end : (end : HeadEnd) → None ≢ Some end
no-end end same = cc

-- ---- the greeting

-- nothing but writes came between
took-same : (old mid new : Traffic) (bytes : List ℕ) → Took old mid bytes → new.answers ≡ mid.answers → Took old new bytes
took-same old mid new bytes took same = record {
  given = took.given;
  answers = same ∙ took.answers;
  present = took.present;
  bytes_are = took.bytes_are;
  in_time = took.in_time;
}

-- an answer of which a part was written
stops-less : (old mid new : Traffic) (port : ℕ) (url bytes : List ℕ) (answer : Response)
    → Came old mid bytes → IsAnswerTo bytes answer → WritesLess mid new (text_of port url answer)
    → new.answers ≡ mid.answers → Stops old new port url
stops-less old mid new port url bytes answer came owed (inl same) answers = record {
  bytes = bytes;
  took = took-same old mid new bytes came.took answers;
  written = inl (same ∙ came.nothing);
}
stops-less old mid new port url bytes answer came owed (inr less) answers = record {
  bytes = bytes;
  took = took-same old mid new bytes came.took answers;
  written = inr (answer, owed, subst (λ o. GainsLess o new.content (text_of port url answer)) came.nothing less);
}

-- an answer was owed, and written or not
pub greets-said : (old mid new : Traffic) (port : ℕ) (url : List ℕ) (answer : Response) (result : Greeted)
    → Hears (heard.Answer answer) old mid → Writes result answer (text_of port url answer) mid new
    → new.answers ≡ mid.answers → Greets result port url old new
greets-said old mid new port url answer greeted.Upgraded (bytes, came, owed) (ends, written) answers = record {
  bytes = bytes;
  answer = answer;
  took = took-same old mid new bytes came.took answers;
  owed = owed;
  ends = ends;
  written = written ∙ ap (λ o. gains o (text_of port url answer)) came.nothing;
}
greets-said old mid new port url answer (greeted.Answered status) (bytes, came, owed) (ends, written) answers = record {
  bytes = bytes;
  answer = answer;
  took = took-same old mid new bytes came.took answers;
  owed = owed;
  ends = ends;
  written = written ∙ ap (λ o. gains o (text_of port url answer)) came.nothing;
}
greets-said old mid new port url answer (greeted.Closed taken) heard writes answers = absurd writes
greets-said old mid new port url answer greeted.Fault (bytes, came, owed) less answers =
    stops-less old mid new port url bytes answer came owed less answers
greets-said old mid new port url answer greeted.Memory (bytes, came, owed) less answers =
    stops-less old mid new port url bytes answer came owed less answers

-- no answer was reached
pub stops-heard : (old new : Traffic) (port : ℕ) (url : List ℕ) → (bytes : List ℕ) × Came old new bytes
    → Stops old new port url
stops-heard old new port url (bytes, came) = record { bytes = bytes; took = came.took; written = inl came.nothing }
