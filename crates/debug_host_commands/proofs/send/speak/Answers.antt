use Rattle.cdp_edge_server.specs.Contents.{Spoken}
use Rattle.debug_host_commands.proofs.ClientLemmas.{counts}
use Rattle.debug_host_commands.proofs.send.speak.Goals as goal

pub returns-clause-speaks : goal.returns-clause-speaks
returns-clause-speaks g c =
    let fresh : Spoken = record {
      faults = g.H.Link.Link.faults c.args.link;
      answers = g.H.Link.Link.answers c.args.link;
      sent = g.H.Link.Link.sent c.args.link;
      closed = g.H.Link.Link.closed c.args.link;
    } in
    let link : Spoken = record {
      faults = g.H.Link.Link.faults c.converse-end.new.link;
      answers = g.H.Link.Link.answers c.converse-end.new.link;
      sent = g.H.Link.Link.sent c.converse-end.new.link;
      closed = g.H.Link.Link.closed c.converse-end.new.link;
    } in
    record {
      fresh = fresh;
      link = link;
      unused = c.requires.unused;
      converses = c.converse-end.ensures.converses;
      closed = c.converse-end.ensures.closed;
      hung_up = c.hang_up.ensures.hung_up;
      writes = c.converse-end.ensures.sink_count;
      faults =
          counts c.converse-end.result fresh.faults link.faults (g.H.Harbor.faults c.args.harbor.now)
          (g.H.Harbor.faults c.hang_up.new.self) c.requires.unused.0 c.converse-end.ensures.link_count
          c.hang_up.ensures.count;
    }
