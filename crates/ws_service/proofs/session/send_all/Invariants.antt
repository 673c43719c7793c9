use Rattle.std.proofs.Common.{◌≡◌, ◌≤◌, map, take, string_bytes}
use Rattle.cdp_edge_server.specs.Contents.{adds}
use Rattle.ws_service.proofs.session.send_all.Given as goal

-- the texts so far were sent, and nothing else was done
abbrev pub invariant-loop-text : goal.invariant-loop-text
invariant-loop-text g l = record {
  sent : g.L.Link.sent l.link ≡ adds (g.L.Link.sent l.fn.link) (map string_bytes (take l.text-index l.texts));
  answers : g.L.Link.answers l.link ≡ g.L.Link.answers l.fn.link;
  closed : g.L.Link.closed l.link ≡ g.L.Link.closed l.fn.link;
  count : g.L.Link.faults l.fn.link ≤ g.L.Link.faults l.link;
}
