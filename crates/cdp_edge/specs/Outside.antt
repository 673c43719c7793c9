-- What the calls of the outside say of its counts, its content, its logs and the calls that failed.
use Rattle.std.specs.Prelude.{Result, Ok, Err, ◌<◌, ◌+◌, ◌==◌, ◌≡◌, ◌≢◌, ◌⊎◌, ℕ, List, [], ◌∷◌, ◌++◌, Option, Some, None, bytes_eq, if◌then◌else◌}
use Rattle.std.specs.declared.vec.Vec.{Vec}
use Rattle.std.specs.declared.alloc.Global.{Global}
use Rattle.cdp_edge.specs.Blame.{Call, Faults, Blames, blamed}
pub use Rattle.cdp_edge.specs.Logs.{NamedFile, one_file, with_file}
use Rattle.cdp_edge.specs.declared.shelf.ShelfFault.{ShelfFault}
use Rattle.cdp_edge.specs.declared.sink.SinkFault.{SinkFault}
use Rattle.cdp_edge.specs.declared.sink.SinkFault.TheVariants as sink
use Rattle.cdp_edge.specs.declared.shelf.ShelfFault.TheVariants.{NotThere, Failed, Memory}

-- ---- counts

-- the count rose, or stands at the greatest u64
abbrev pub Rose : ℕ → ℕ → Type 0
Rose before after = before < after ⊎ before ≡ 0xffff_ffff_ffff_ffff

-- the next count, which stays at the greatest u64
abbrev pub one_more : ℕ → ℕ
one_more n = if n == 0xffff_ffff_ffff_ffff then n else n + 1

-- the count of a sink that adds one at each fault
abbrev pub count_after : {A : Type 0} → Result A SinkFault → ℕ → ℕ
count_after (Ok done) old = old
count_after (Err sink.Failed) old = one_more old
count_after (Err sink.Memory) old = old

-- what holds of something, where it is told
abbrev pub IfTold : {A : Type 0} → Option A → (A → Type 0) → Type 0
IfTold None P = Unit {0}
IfTold (Some content) P = P content

-- ---- what a sink took

-- what it took, with these bytes after it
abbrev pub gains : List ℕ → List ℕ → List ℕ
gains old bytes = old ++ bytes

-- it took some first bytes of these, and nothing else
abbrev pub GainsPrefix : List ℕ → List ℕ → List ℕ → Type 0
GainsPrefix old new bytes = (part rest : List ℕ) × (bytes ≡ part ++ rest) × (new ≡ gains old part)

-- it took some first bytes of these, but not all of them, and nothing else
abbrev pub GainsLess : List ℕ → List ℕ → List ℕ → Type 0
GainsLess old new bytes = (part rest : List ℕ) × (rest ≢ []) × (bytes ≡ part ++ rest) × (new ≡ gains old part)

-- ---- what a shelf handed in

-- the files that a shelf handed in, after a read of this name with this answer
abbrev pub handed_after : Result (Vec ℕ Global) ShelfFault → List ℕ → List NamedFile → List NamedFile
handed_after (Ok bytes) name old = with_file old name bytes.items
handed_after (Err fault) name old = old

-- the content of the first file of this name
abbrev pub content_of : List ℕ → List NamedFile → Option (List ℕ)
content_of name [] = None
content_of name (file ∷ files) = if bytes_eq file.name name then Some file.bytes else content_of name files

-- what a read tells of its file, where the files are told
abbrev pub Tells : Result (Vec ℕ Global) ShelfFault → List ℕ → List NamedFile → Type 0
Tells (Ok bytes) name files = content_of name files ≡ Some bytes.items
Tells (Err NotThere) name files = content_of name files ≡ None
Tells (Err Failed) name files = Unit {0}
Tells (Err Memory) name files = Unit {0}

-- each of these has the bytes that those files hold under its name
abbrev pub AreOf : List NamedFile → List NamedFile → Type 0
AreOf files [] = Unit {0}
AreOf files (given ∷ more) = (content_of given.name files ≡ Some given.bytes) × AreOf files more

-- A shelf with these files, where they are told, had handed in the first list, and now the second: it handed in these
-- since, in order, and nothing else. Where it tells its files, it handed in what they hold.
pub record HandsIn (told : Option (List NamedFile)) (old new given : List NamedFile) : Type 0 where
  pub log : new ≡ old ++ given
  pub held : IfTold told (λ files. AreOf files given)

-- what holds of the files that were handed in
abbrev pub Given : (List NamedFile → Type 0) → (List NamedFile → Type 0) → Type 0
Given Hands P = (given : List NamedFile) × Hands given × P given

-- ---- what a shelf stored

-- the files that it stored, after a store of these bytes under this name with this answer
abbrev pub stored_after : {A : Type 0} → Result A ShelfFault → List ℕ → List ℕ → List NamedFile → List NamedFile
stored_after (Ok done) name bytes old = with_file old name bytes
stored_after (Err fault) name bytes old = old

-- all files of other names are as they were
abbrev pub OthersStay : List ℕ → List NamedFile → List NamedFile → Type 0
OthersStay name old new = (other : List ℕ) → other ≢ name → content_of other new ≡ content_of other old

-- the file of this name has exactly these bytes, and all others are as they were
pub record IsStored (name bytes : List ℕ) (old new : List NamedFile) : Type 0 where
  pub there : content_of name new ≡ Some bytes
  pub others : OthersStay name old new

-- what a store of these bytes under this name does to the files; after a failure nothing is known of that file
abbrev pub Stores : {A : Type 0} → Result A ShelfFault → List ℕ → List ℕ → List NamedFile → List NamedFile → Type 0
Stores (Ok done) name bytes old new = IsStored name bytes old new
Stores (Err NotThere) name bytes old new = ⊥
Stores (Err Failed) name bytes old new = OthersStay name old new
Stores (Err Memory) name bytes old new = new ≡ old

-- the same of files that are told before and after, or neither
abbrev pub StoresTold : {A : Type 0} → Result A ShelfFault → List ℕ → List ℕ → Option (List NamedFile)
    → Option (List NamedFile) → Type 0
StoresTold answer name bytes None new = new ≡ None
StoresTold answer name bytes (Some old) None = ⊥
StoresTold answer name bytes (Some old) (Some new) = Stores answer name bytes old new

-- ---- which calls of a shelf failed

-- a call is blamed exactly where it says that the file isn't there or that it failed
abbrev pub Accounts : {A : Type 0} → Result A ShelfFault → Call → Faults → Faults → Type 0
Accounts (Ok done) call old new = new ≡ old
Accounts (Err NotThere) call old new = Blames call old new
Accounts (Err Failed) call old new = Blames call old new
Accounts (Err Memory) call old new = new ≡ old

-- the faults of a shelf that adds one at each
abbrev pub faults_after : {A : Type 0} → Result A ShelfFault → Call → Faults → Faults
faults_after (Ok done) call old = old
faults_after (Err NotThere) call old = blamed call old
faults_after (Err Failed) call old = blamed call old
faults_after (Err Memory) call old = old
