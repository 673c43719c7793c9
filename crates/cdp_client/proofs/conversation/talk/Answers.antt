use Rattle.std.proofs.Common.{ℕ, Option, Some, refl, subst, ◌∙◌}
use Rattle.cdp_client.specs.Conversations.{CountsLink, CountsSink, IsClosedBy, Traffic}
use Rattle.cdp_client.proofs.EndLemmas.{turn-ends, turn-goes}
use Rattle.cdp_client.proofs.TalkLemmas.{come-none}
use Rattle.cdp_client.proofs.conversation.talk.Goals as goal

pub loop-init : goal.loop-init
loop-init g c =
    let old : Traffic = record {
      answers = g.L.Link.answers c.args.link.now;
      sent = g.L.Link.sent c.args.link.now;
      written = g.O.Sink.content c.args.out.now;
    } in
    record { come = come-none c.args.course.now old; closed = refl; link_count = refl; sink_count = refl }

pub returns-in-Some-take_turn-clause-ends : goal.returns-in-Some-take_turn-clause-ends
returns-in-Some-take_turn-clause-ends g c =
    let old : Traffic = record {
      answers = g.L.Link.answers c.args.link.now;
      sent = g.L.Link.sent c.args.link.now;
      written = g.O.Sink.content c.args.out.now;
    } in
    let mid : Traffic = record {
      answers = g.L.Link.answers c.loop.link;
      sent = g.L.Link.sent c.loop.link;
      written = g.O.Sink.content c.loop.out;
    } in
    let new : Traffic = record {
      answers = g.L.Link.answers c.take_turn.new.link;
      sent = g.L.Link.sent c.take_turn.new.link;
      written = g.O.Sink.content c.take_turn.new.out;
    } in
    turn-ends c.args.course.now old c.loop.course c.take_turn.new.course mid new c.in-Some-take_turn.end
    c.loop.invariant.come c.in-Some-take_turn.ensures.turns

pub returns-in-Some-take_turn-clause-closed : goal.returns-in-Some-take_turn-clause-closed
returns-in-Some-take_turn-clause-closed g c =
    subst
    (λ (o : Option (Option ℕ)). IsClosedBy (Some c.in-Some-take_turn.end) o (g.L.Link.closed c.take_turn.new.link))
    c.loop.invariant.closed c.in-Some-take_turn.ensures.closed

pub returns-in-Some-take_turn-clause-link_count : goal.returns-in-Some-take_turn-clause-link_count
returns-in-Some-take_turn-clause-link_count g c =
    subst (λ (n : ℕ). CountsLink (Some c.in-Some-take_turn.end) n (g.L.Link.faults c.take_turn.new.link))
    c.loop.invariant.link_count c.in-Some-take_turn.ensures.link_count

pub returns-in-Some-take_turn-clause-sink_count : goal.returns-in-Some-take_turn-clause-sink_count
returns-in-Some-take_turn-clause-sink_count g c =
    subst (λ (n : ℕ). CountsSink (Some c.in-Some-take_turn.end) n (g.O.Sink.faults c.take_turn.new.out))
    c.loop.invariant.sink_count c.in-Some-take_turn.ensures.sink_count

pub loop-preserved : goal.loop-preserved
loop-preserved g c =
    let old : Traffic = record {
      answers = g.L.Link.answers c.args.link.now;
      sent = g.L.Link.sent c.args.link.now;
      written = g.O.Sink.content c.args.out.now;
    } in
    let mid : Traffic = record {
      answers = g.L.Link.answers c.loop.link;
      sent = g.L.Link.sent c.loop.link;
      written = g.O.Sink.content c.loop.out;
    } in
    let new : Traffic = record {
      answers = g.L.Link.answers c.take_turn.new.link;
      sent = g.L.Link.sent c.take_turn.new.link;
      written = g.O.Sink.content c.take_turn.new.out;
    } in
    let turn = c.in_default.ensures in
    record {
      come =
          turn-goes c.args.course.now old c.loop.course c.take_turn.new.course mid new c.loop.invariant.come turn.turns;
      closed = turn.closed ∙ c.loop.invariant.closed;
      link_count = turn.link_count ∙ c.loop.invariant.link_count;
      sink_count = turn.sink_count ∙ c.loop.invariant.sink_count;
    }
