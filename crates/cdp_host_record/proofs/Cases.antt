-- Some records, by computation, of a program of six steps whose sessions stop it after the second, and for each of whom
-- two texts may wait.
use Rattle.std.proofs.Common.{◌≡◌, ℕ, suc, List, [], ◌∷◌, ◌++◌, length, true, false, ◌==◌, nat_lt, bytes_eq, refl, codes}
use Rattle.std.specs.Fmt.{digits}
use Rattle.cdp_host_isolation.specs.Histories.{Entry, Attach, Tell, Take, Detach, Ran, Shut}
use Rattle.cdp_host_isolation.specs.Meanings.{begin}
use Rattle.cdp_host_isolation.specs.Protocols.{Protocol}
use Rattle.cdp_host_record.specs.Records.{recorded_from}
use Rattle.cdp_host_record.specs.Replays.{is_played}
use Rattle.cdp_journal.specs.Lines.{is_memory, is_tellable, memory_text}
use Rattle.cdp_journal.proofs.WrittenLemmas.{all_ascii, ascii-of, utf8-of}
use Rattle.std.specs.Str.{is_utf8}

abbrev of_two : Protocol ℕ ℕ ℕ (List (List ℕ))
of_two = record {
  next = λ c. suc c;
  is_over = λ c. c == 6;
  tells = λ first c. c;
  pause = λ number c. number;
  fresh = λ s. [];
  is_enabled = λ x. true;
  outbox = λ x. x;
  fits = λ x. nat_lt (length x) 3;
  emptied = λ x. [];
  reply = λ q c text x. x ++ text ∷ [];
  resumes = λ q c text x. bytes_eq text (codes "go");
  wakes = λ q c text x. false;
  resumed = λ x. x ++ codes "on" ∷ [];
  told = λ moment t x. x;
  names = λ t x. t == 1;
  stopped = λ number t x. x ++ codes "stop" ∷ [];
}

abbrev recorded_of : List Entry → List ℕ
recorded_of history = recorded_from of_two (begin 0 false) history

-- a text of ASCII
plain : (text : List ℕ) → all_ascii text ≡ true → is_utf8 text ≡ true
plain text ascii = utf8-of text (ascii-of text ascii)

-- nothing happened
nothing : recorded_of [] ≡ codes ""
nothing = refl

-- the second taking hands out nothing, the second detach finds nobody, and nobody takes
once : recorded_of (Attach ∷ Tell 1 (codes "hi") ∷ Take 1 ∷ Take 1 ∷ Take 0 ∷ Detach 1 ∷ Detach 1 ∷ [])
    ≡ codes "attach\ntell 1 hi\ntake 1\ndetach 1\n"
unfolding digits is_tellable
once = rw (plain (codes "hi") refl) refl

-- a text of several lines
escapes : recorded_of (Attach ∷ Tell 1 (codes "5%\n\r6") ∷ []) ≡ codes "attach\ntell 1 5%25%0A%0D6\n"
unfolding digits is_tellable
escapes = rw (plain (codes "5%\n\r6") refl) refl

-- nobody is attached
strangers : recorded_of (Tell 1 (codes "hi") ∷ Take 1 ∷ Detach 1 ∷ []) ≡ codes ""
strangers = refl

-- a run is told by the steps that it made, and one that makes none isn't told
stops : recorded_of (Attach ∷ Ran 2 7 [] ∷ Ran 0 8 [] ∷ Take 1 ∷ []) ≡ codes "attach\nrun 2 7\ntake 1\n"
unfolding digits is_tellable
stops = refl

-- too many texts wait after a command: its session is detached by it
overruns : recorded_of
    (Attach ∷ Tell 1 (codes "a") ∷ Tell 1 (codes "b") ∷ Tell 1 (codes "c") ∷ Take 1 ∷ Detach 1 ∷ [])
    ≡ codes "attach\ntell 1 a\ntell 1 b\ntell 1 c\n"
unfolding digits is_tellable
overruns = rw (plain (codes "a") refl, plain (codes "b") refl, plain (codes "c") refl) refl

-- a resume loses the first session: the next run makes no step and tells of it, and the one after that isn't told
reports : recorded_of (Attach ∷ Attach ∷ Ran 2 7 [] ∷ Tell 1 (codes "go") ∷ Ran 0 8 [] ∷ Ran 0 9 [] ∷ Take 2 ∷ [])
    ≡ codes "attach\nattach\nrun 2 7\ntell 1 go\nrun 0 8\ntake 2\n"
unfolding digits is_tellable
reports = rw (plain (codes "go") refl) refl

-- want of memory for a command detaches its session
forgets : recorded_of (Attach ∷ Attach ∷ Detach 2 ∷ Take 2 ∷ []) ≡ codes "attach\nattach\ndetach 2\n"
unfolding digits is_tellable
forgets = refl

-- a run that loses a session for want of memory is the last thing that is told
ends : recorded_of (Attach ∷ Ran 1 7 (1 ∷ []) ∷ Attach ∷ Shut ∷ []) ≡ codes "attach\nmemory\n"
unfolding is_tellable
ends = refl

-- so do a run at a moment that no line tells, and one of more steps than that
late : recorded_of (Attach ∷ Ran 1 9007199254740992 [] ∷ Attach ∷ []) ≡ codes "attach\nmemory\n"
unfolding is_tellable
late = refl

long : recorded_of (Attach ∷ Ran 4294967296 7 [] ∷ Attach ∷ []) ≡ codes "attach\nmemory\n"
unfolding is_tellable
long = refl

-- an entry without a line ends nothing
silent : recorded_of (Ran 0 9007199254740992 [] ∷ Attach ∷ []) ≡ codes "attach\n"
unfolding is_tellable
silent = refl

shuts : recorded_of (Ran 3 4 [] ∷ Shut ∷ Ran 0 5 [] ∷ []) ≡ codes "run 3 4\nshut\n"
unfolding digits is_tellable
shuts = refl

-- the line `memory` ends a journal, and not even an empty line stands behind it
cut : is_played of_two (begin 0 false) (memory_text ∷ []) ≡ true
unfolding is_memory
cut = refl

behind : is_played of_two (begin 0 false) (memory_text ∷ [] ∷ []) ≡ false
unfolding is_memory
behind = refl
