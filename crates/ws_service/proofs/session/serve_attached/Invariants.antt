use Rattle.std.proofs.Common.{◌≡◌, ◌≤◌}
use Rattle.ws_service.proofs.SessionLemmas.{Sits}
use Rattle.ws_service.proofs.session.serve_attached.Given as goal

-- the session goes on so far, and nothing was closed
abbrev pub invariant-loop : goal.invariant-loop
invariant-loop g l = record {
  sits : Sits g.H.Hosted.debugs l.session l.fn.p l.p (record { answers = g.L.Link.answers l.fn.link; sent = g.L.Link.sent l.fn.link }) (record { answers = g.L.Link.answers l.link; sent = g.L.Link.sent l.link });
  closed : g.L.Link.closed l.link ≡ g.L.Link.closed l.fn.link;
  count : g.L.Link.faults l.fn.link ≤ g.L.Link.faults l.link;
}
