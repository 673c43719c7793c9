use Rattle.std.proofs.Common.{◌≡◌}
use Rattle.cdp_client.proofs.TalkLemmas.{HasCome}
use Rattle.cdp_client.proofs.conversation.talk.Given as goal

-- the turns so far, and no fault
abbrev pub invariant-loop : goal.invariant-loop
invariant-loop g l = record {
  come : HasCome l.fn.course
      (record {
        answers = g.L.Link.answers l.fn.link;
        sent = g.L.Link.sent l.fn.link;
        written = g.O.Sink.content l.fn.out;
      })
      l.course
      (record { answers = g.L.Link.answers l.link; sent = g.L.Link.sent l.link; written = g.O.Sink.content l.out });
  closed : g.L.Link.closed l.link ≡ g.L.Link.closed l.fn.link;
  link_count : g.L.Link.faults l.link ≡ g.L.Link.faults l.fn.link;
  sink_count : g.O.Sink.faults l.out ≡ g.O.Sink.faults l.fn.out;
}
