-- The objects that a session holds (Chrome DevTools Protocol 1.3, domain Runtime).
use Rattle.std.specs.Prelude.{ℕ, List, Option, option_and_then}
use Rattle.std.specs.List.{find}
use Rattle.object_groups.specs.Handles.{has_number}
use Rattle.object_groups.specs.declared.handle.Handle.{Handle}
use Rattle.remote_objects.specs.Ids.{number_in_id}
use Rattle.cdp_session.specs.Sessions.{Session}

-- the handle of a number, if it is held
abbrev pub numbered : List Handle → ℕ → Option Handle
numbered held n = find (has_number n) held

-- the handle whose id this is; an id is read whole, the number of the session included
abbrev pub handle_of : Session → List ℕ → Option Handle
handle_of x id = option_and_then (numbered x.handles.held) (number_in_id x.number id)
