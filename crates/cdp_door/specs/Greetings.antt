-- What a door does with the bytes of a wire: it reads a head, and nothing past it, and answers.
use Rattle.std.specs.Prelude.{◌≡◌, ◌≢◌, ◌<◌, ◌≤◌, ◌⊎◌, ◌==◌, if◌then◌else◌, ℕ, List, [], ◌∷◌, ◌++◌, length, All, Option, Some, None}
use Rattle.httparse.specs.Grammar.{RequestHead, ReadsRequest, HasNoRequest, NeverHasRequest, MayBecomeRequest}
use Rattle.cdp_edge_wire.specs.Written.{gains, GainsLess}
use Rattle.cdp_edge_wire.specs.Arrived.{Arrived, Byte, Quiet, End, adds}
use Rattle.cdp_door.specs.declared.answer.Response.{Response}
use Rattle.cdp_door.specs.declared.answer.Response.TheVariants.{Refusal}
use Rattle.cdp_door.specs.declared.answer.ErrorStatus.TheVariants.{HeadTooLarge, BadRequest}
use Rattle.cdp_door.specs.declared.greeting.Greeted.{Greeted}
use Rattle.cdp_door.specs.declared.greeting.Greeted.TheVariants.{Upgraded, Answered, Closed, Fault, Memory}
use Rattle.cdp_door.specs.declared.hear.HeadEnd.{HeadEnd}
use Rattle.cdp_door.specs.declared.hear.HeadEnd.TheVariants as heard
use Rattle.cdp_door.specs.Answers.{answer_to}
use Rattle.cdp_door.specs.Texts.{text_of, status_of}

-- the bytes among these answers of a wire
abbrev pub bytes_of : List Arrived → List ℕ
bytes_of [] = []
bytes_of (Byte byte ∷ given) = byte ∷ bytes_of given
bytes_of (Quiet ∷ given) = bytes_of given
bytes_of (End ∷ given) = bytes_of given

-- no prefix of these bytes is a head, and some bytes can follow that make one, or the target is still being read
pub record IsUnfinished (bytes : List ℕ) : Type 0 where
  pub no_head : HasNoRequest bytes
  pub may_become : MayBecomeRequest bytes

-- each shorter front of these bytes is unfinished
abbrev pub IsReadInTime : List ℕ → Type 0
IsReadInTime bytes = (front rest : List ℕ) → bytes ≡ front ++ rest → rest ≢ [] → IsUnfinished front

-- what a wire tells: its answers, and the bytes that it took
pub record Traffic : Type 0 where
  pub answers : Option (List Arrived)
  pub content : Option (List ℕ)

-- from the one to the other a wire gave these answers
abbrev pub Gave : Traffic → Traffic → List Arrived → Type 0
Gave old new given = new.answers ≡ adds old.answers given

-- these bytes came, and none after them; the peer was still there
pub record Took (old new : Traffic) (bytes : List ℕ) : Type 0 where
  pub given : List Arrived
  pub answers : Gave old new given
  pub present : All (λ answer. answer ≢ End) given
  pub bytes_are : bytes ≡ bytes_of given
  pub in_time : IsReadInTime bytes

-- the answer to bytes that are no head and will be none: there are too many, or they are no request
abbrev pub answer_without_head : List ℕ → Response
answer_without_head bytes =
    if length bytes == 8_192 then Refusal HeadTooLarge else Refusal BadRequest

-- these bytes are no whole head: there are 8,192 of them, or fewer and no bytes can follow that make a head
abbrev pub IsNoHead : List ℕ → Type 0
IsNoHead bytes = HasNoRequest bytes × (length bytes ≢ 8_192 → NeverHasRequest bytes)

-- the answer that is owed to these bytes: to a whole head, to 8,192 bytes that hold none, and to fewer that never will
abbrev pub IsAnswerTo : List ℕ → Response → Type 0
IsAnswerTo bytes answer =
    (length bytes ≤ 8_192)
    × (((head : RequestHead) × ReadsRequest bytes head [] × (answer ≡ answer_to head))
    ⊎ (IsNoHead bytes × (answer ≡ answer_without_head bytes)))

-- the answer that is owed to bytes that begin with a head, or are none; or they are unfinished, and more can be read
abbrev pub Owes : List ℕ → Option Response → Type 0
Owes bytes (Some answer) =
    ((head : RequestHead) × (rest : List ℕ) × ReadsRequest bytes head rest × (answer ≡ answer_to head))
    ⊎ (IsNoHead bytes × (answer ≡ answer_without_head bytes))
Owes bytes None = IsUnfinished bytes × (length bytes < 8_192)

-- ---- the reading of a head

-- bytes came so far, and nothing was written
pub record Came (old new : Traffic) (bytes : List ℕ) : Type 0 where
  pub took : Took old new bytes
  pub nothing : new.content ≡ old.content

-- so many bytes came, which hold no head and may become one, then the end; nothing was written
pub record Ends (old new : Traffic) (count : ℕ) : Type 0 where
  pub given : List Arrived
  pub answers : Gave old new (given ++ End ∷ [])
  pub present : All (λ answer. answer ≢ End) given
  pub count_is : count ≡ length (bytes_of given)
  pub unfinished : IsUnfinished (bytes_of given)
  pub nothing : new.content ≡ old.content

-- what was heard, by how it ended
abbrev pub Hears : HeadEnd → Traffic → Traffic → Type 0
Hears (heard.Answer answer) old new = (bytes : List ℕ) × Came old new bytes × IsAnswerTo bytes answer
Hears (heard.Closed taken) old new = Ends old new taken
Hears heard.Fault old new = (bytes : List ℕ) × Came old new bytes
Hears heard.Memory old new = (bytes : List ℕ) × Came old new bytes

-- one answer that isn't the end was given, and its byte, if it is one, came behind the others; nothing was written
pub record Comes (bytes after : List ℕ) (old new : Traffic) : Type 0 where
  pub arrived : Arrived
  pub present : arrived ≢ End
  pub answers : Gave old new (arrived ∷ [])
  pub after_is : after ≡ bytes ++ bytes_of (arrived ∷ [])
  pub nothing : new.content ≡ old.content

-- what one look at bytes and wire does: an answer is owed; or they are unfinished, and the wire is asked
abbrev pub Looks : Option HeadEnd → List ℕ → List ℕ → Traffic → Traffic → Type 0
Looks None bytes after old new = IsUnfinished bytes × Comes bytes after old new
Looks (Some (heard.Answer answer)) bytes after old new = Owes bytes (Some answer) × (length bytes ≤ 8_192) × (new ≡ old)
Looks (Some (heard.Closed taken)) bytes after old new =
    IsUnfinished bytes × (taken ≡ length bytes) × Gave old new (End ∷ []) × (new.content ≡ old.content)
Looks (Some heard.Fault) bytes after old new = Gave old new [] × (new.content ≡ old.content)
Looks (Some heard.Memory) bytes after old new =
    (new ≡ old) ⊎ (IsUnfinished bytes × (more : List ℕ) × Comes bytes more old new)

-- ---- the answer

-- how a greeting ends whose answer was written
abbrev pub EndsWith : Greeted → Response → Type 0
EndsWith Upgraded answer = status_of answer ≡ 101
EndsWith (Answered status) answer = (status ≡ status_of answer) × (status ≢ 101)
EndsWith (Closed taken) answer = ⊥
EndsWith Fault answer = ⊥
EndsWith Memory answer = ⊥

-- nothing was written, or a part of this text
abbrev pub WritesLess : Traffic → Traffic → List ℕ → Type 0
WritesLess old new text = (new.content ≡ old.content) ⊎ GainsLess old.content new.content text

-- what was written of an answer, by how the greeting ended
abbrev pub Writes : Greeted → Response → List ℕ → Traffic → Traffic → Type 0
Writes Upgraded answer text old new = EndsWith Upgraded answer × (new.content ≡ gains old.content text)
Writes (Answered status) answer text old new =
    EndsWith (Answered status) answer × (new.content ≡ gains old.content text)
Writes (Closed taken) answer text old new = ⊥
Writes Fault answer text old new = WritesLess old new text
Writes Memory answer text old new = WritesLess old new text

-- bytes came, and their answer was written
pub record Answers (result : Greeted) (old new : Traffic) (port : ℕ) (url : List ℕ) : Type 0 where
  pub bytes : List ℕ
  pub answer : Response
  pub took : Took old new bytes
  pub owed : IsAnswerTo bytes answer
  pub ends : EndsWith result answer
  pub written : new.content ≡ gains old.content (text_of port url answer)

-- bytes came, and nothing was written, or a part of their answer
pub record Stops (old new : Traffic) (port : ℕ) (url : List ℕ) : Type 0 where
  pub bytes : List ℕ
  pub took : Took old new bytes
  pub written : (new.content ≡ old.content)
      ⊎ ((answer : Response) × IsAnswerTo bytes answer × GainsLess old.content new.content (text_of port url answer))

-- what was done, by how it ended
abbrev pub Greets : Greeted → ℕ → List ℕ → Traffic → Traffic → Type 0
Greets Upgraded port url old new = Answers Upgraded old new port url
Greets (Answered status) port url old new = Answers (Answered status) old new port url
Greets (Closed taken) port url old new = Ends old new taken
Greets Fault port url old new = Stops old new port url
Greets Memory port url old new = Stops old new port url
