use Rattle.cdp_session_laws.proofs.ListingLemmas.{tells-frames, tells-stop}
use Rattle.cdp_session_laws.proofs.stops.a_stop_lists_the_frames_from_the_top.Goals as goal

pub returns : goal.returns
returns c = record { stops = tells-stop; events = tells-frames }
