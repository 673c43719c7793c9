use Rattle.std.proofs.Common.{map, subst}
use Rattle.cdp_client.specs.Conversations.{EndsTalk, Traffic}
use Rattle.cdp_client.specs.LineRead.{line_held}
use Rattle.cdp_client.specs.Talks.{Course}
use Rattle.cdp_client.proofs.EndLemmas.{closed-unread, converses-by, converses-unread, link-unread, sink-unread}
use Rattle.cdp_client.proofs.conversation.converse.Goals as goal

pub returns-in-Ok-clause-converses : goal.returns-in-Ok-clause-converses
returns-in-Ok-clause-converses g c =
    let old : Traffic = record {
      answers = g.L.Link.answers c.args.link.now;
      sent = g.L.Link.sent c.args.link.now;
      written = g.O.Sink.content c.args.out.now;
    } in
    let new : Traffic = record {
      answers = g.L.Link.answers c.talk.new.link;
      sent = g.L.Link.sent c.talk.new.link;
      written = g.O.Sink.content c.talk.new.out;
    } in
    converses-by c.args.commands.now (map line_held c.in-Ok.lines.items) c.talk.result old new c.in-Ok.ensures.lines
    (subst (λ (first : Course). EndsTalk first c.talk.result old new) c.new-course.ensures c.talk.ensures.ends)

pub returns-in-Err-clause-converses : goal.returns-in-Err-clause-converses
returns-in-Err-clause-converses g c =
    let old : Traffic = record {
      answers = g.L.Link.answers c.args.link.now;
      sent = g.L.Link.sent c.args.link.now;
      written = g.O.Sink.content c.args.out.now;
    } in
    converses-unread c.args.commands.now c.in-Err.end old c.in-Err.ensures.fault

pub returns-in-Err-clause-closed : goal.returns-in-Err-clause-closed
returns-in-Err-clause-closed g c =
    closed-unread c.args.commands.now c.in-Err.end (g.L.Link.closed c.args.link.now) c.in-Err.ensures.fault

pub returns-in-Err-clause-link_count : goal.returns-in-Err-clause-link_count
returns-in-Err-clause-link_count g c =
    link-unread c.args.commands.now c.in-Err.end (g.L.Link.faults c.args.link.now) c.in-Err.ensures.fault

pub returns-in-Err-clause-sink_count : goal.returns-in-Err-clause-sink_count
returns-in-Err-clause-sink_count g c =
    sink-unread c.args.commands.now c.in-Err.end (g.O.Sink.faults c.args.out.now) c.in-Err.ensures.fault
