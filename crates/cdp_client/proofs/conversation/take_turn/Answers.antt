use Rattle.std.proofs.Common.{refl, sym, ◌∙◌}
use Rattle.cdp_client.specs.Conversations.{Traffic}
use Rattle.cdp_client.specs.LineRead.{command_held}
use Rattle.cdp_client.proofs.TurnLemmas.{closed-ask, closed-hear, sink-ask, sink-close, turns-ask, turns-close, turns-hear}
use Rattle.cdp_client.proofs.conversation.take_turn.Goals as goal

pub returns-in-Some-clause-turns : goal.returns-in-Some-clause-turns
returns-in-Some-clause-turns g c =
    let old : Traffic = record {
      answers = g.L.Link.answers c.args.link.now;
      sent = g.L.Link.sent c.args.link.now;
      written = g.O.Sink.content c.args.out.now;
    } in
    let new : Traffic = record {
      answers = g.L.Link.answers c.ask.new.link;
      sent = g.L.Link.sent c.ask.new.link;
      written = g.O.Sink.content c.args.out.now;
    } in
    turns-ask c.args.course.now c.take_command.new.self old new (command_held c.in-Some.command) c.ask.result
    c.in-Some.ensures.command c.in-Some.ensures.course c.ask.ensures.answers refl c.ask.ensures.sends

pub returns-in-Some-clause-closed : goal.returns-in-Some-clause-closed
returns-in-Some-clause-closed g c =
    closed-ask (command_held c.in-Some.command) (g.L.Link.sent c.args.link.now) (g.L.Link.sent c.ask.new.link)
    c.ask.result (g.L.Link.closed c.args.link.now) (g.L.Link.closed c.ask.new.link)
    c.ask.ensures.sends c.ask.ensures.closed

pub returns-in-Some-clause-sink_count : goal.returns-in-Some-clause-sink_count
returns-in-Some-clause-sink_count g c =
    sink-ask (command_held c.in-Some.command) (g.L.Link.sent c.args.link.now) (g.L.Link.sent c.ask.new.link)
    c.ask.result (g.O.Sink.faults c.args.out.now) c.ask.ensures.sends

pub returns-then-is_over-clause-turns : goal.returns-then-is_over-clause-turns
returns-then-is_over-clause-turns g c =
    let old : Traffic = record {
      answers = g.L.Link.answers c.args.link.now;
      sent = g.L.Link.sent c.args.link.now;
      written = g.O.Sink.content c.args.out.now;
    } in
    let new : Traffic = record {
      answers = g.L.Link.answers c.close.new.link;
      sent = g.L.Link.sent c.close.new.link;
      written = g.O.Sink.content c.args.out.now;
    } in
    turns-close c.args.course.now c.take_command.new.self old new c.close.result
    c.in-None.ensures.command c.in-None.ensures.course (sym c.is_over.ensures ∙ c.if-is_over.true)
    c.close.ensures.closes c.close.ensures.answers c.close.ensures.sent refl

pub returns-then-is_over-clause-sink_count : goal.returns-then-is_over-clause-sink_count
returns-then-is_over-clause-sink_count g c =
    sink-close c.close.result (g.O.Sink.faults c.args.out.now) c.close.ensures.closes

pub returns-else-is_over-clause-turns : goal.returns-else-is_over-clause-turns
returns-else-is_over-clause-turns g c =
    let old : Traffic = record {
      answers = g.L.Link.answers c.args.link.now;
      sent = g.L.Link.sent c.args.link.now;
      written = g.O.Sink.content c.args.out.now;
    } in
    let new : Traffic = record {
      answers = g.L.Link.answers c.hear.new.link;
      sent = g.L.Link.sent c.hear.new.link;
      written = g.O.Sink.content c.hear.new.out;
    } in
    turns-hear c.args.course.now c.take_command.new.self c.hear.new.course old new c.hear.result
    c.in-None.ensures.command c.in-None.ensures.course (sym c.is_over.ensures ∙ c.if-is_over.false) c.hear.ensures.hears

pub returns-else-is_over-clause-closed : goal.returns-else-is_over-clause-closed
returns-else-is_over-clause-closed g c =
    let old : Traffic = record {
      answers = g.L.Link.answers c.args.link.now;
      sent = g.L.Link.sent c.args.link.now;
      written = g.O.Sink.content c.args.out.now;
    } in
    let new : Traffic = record {
      answers = g.L.Link.answers c.hear.new.link;
      sent = g.L.Link.sent c.hear.new.link;
      written = g.O.Sink.content c.hear.new.out;
    } in
    closed-hear c.take_command.new.self c.hear.new.course old new c.hear.result (g.L.Link.closed c.args.link.now)
    (g.L.Link.closed c.hear.new.link) c.hear.ensures.hears c.hear.ensures.closed
