-- Parts that count as values before the first step.
use Rattle.std.specs.Prelude.{Bool, true, false, ◌&&◌}
use Rattle.js_semantics.specs.Terms.{literal, Term, done, part, Terms, end, more, joined}
use Rattle.js_semantics.specs.Waiting.{AllWait}

-- before the first step a string literal counts as a value
abbrev pub is_ready : Term → Bool
is_ready (done v) = true
is_ready (part (literal us) now later) = true
is_ready t = false

-- all parts count as values before the first step
abbrev pub all_ready : Terms → Bool
all_ready end = true
all_ready (more t ts) = is_ready t && all_ready ts

-- parts that wait behind others that do
pub joined-waits : (ready : Terms → Bool) (ts us : Terms)
    → AllWait ready ts
    → AllWait ready us
    → AllWait ready (joined ts us)
joined-waits ready end us h k = k
joined-waits ready (more t ts) us h k = (h.0, joined-waits ready ts us h.1 k)
