-- What a session asks for.
use Rattle.std.specs.Prelude.{Bool, false, ◌||◌, is_some, None}
use Rattle.stepping.specs.declared.rules.Rules.{Rules}
use Rattle.stepping.specs.declared.rules.Exceptions.TheVariants as throws

-- nothing at all
abbrev pub no_rules : Rules
no_rules = record { enabled = false; skip = false; exceptions = throws.Never; pause = false; step = None; to = None }

-- what a session asks for, without its requests
abbrev pub without_requests : Rules → Rules
without_requests r = record r { pause = false; step = None; to = None }

-- a pause, a step or a place to run to is asked for
abbrev pub has_request : Rules → Bool
has_request r = r.pause || (is_some r.step || is_some r.to)
