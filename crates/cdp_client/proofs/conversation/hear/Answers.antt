use Rattle.std.proofs.Common.{[], ◌∷◌, refl, rules, ap, sym, ◌∙◌}
use Rattle.cdp_edge_server.specs.Contents.{adds}
use Rattle.cdp_edge_server.specs.Heard as heard
use Rattle.cdp_client.specs.Conversations.{Traffic}
use Rattle.cdp_client.proofs.TurnLemmas.{hears-text, link-text, passes-one}
use Rattle.cdp_client.proofs.conversation.hear.Goals as goal

pub returns-in-Text-clause-hears : goal.returns-in-Text-clause-hears
returns-in-Text-clause-hears g c =
    let old : Traffic = record {
      answers = g.L.Link.answers c.args.link.now;
      sent = g.L.Link.sent c.args.link.now;
      written = g.O.Sink.content c.args.out.now;
    } in
    let new : Traffic = record {
      answers = g.L.Link.answers c.recv.new.self;
      sent = g.L.Link.sent c.recv.new.self;
      written = g.O.Sink.content c.note.new.out;
    } in
    hears-text c.args.course.now c.note.new.course old new c.as_str.result.now c.note.result
    (c.in-Text.ensures.answers ∙ ap (λ t. adds old.answers (heard.Text t ∷ [])) (sym c.as_str.ensures.value))
    c.recv.ensures.sent c.note.ensures.writes

pub returns-in-Text-clause-link_count : goal.returns-in-Text-clause-link_count
returns-in-Text-clause-link_count g c =
    link-text c.args.course.now c.note.new.course c.as_str.result.now (g.O.Sink.content c.args.out.now)
    (g.O.Sink.content c.note.new.out) c.note.result (g.L.Link.faults c.args.link.now) (g.L.Link.faults c.recv.new.self)
    c.note.ensures.writes (search rules)

pub returns-in-Binary-clause-hears : goal.returns-in-Binary-clause-hears
returns-in-Binary-clause-hears g c =
    let old : Traffic = record {
      answers = g.L.Link.answers c.args.link.now;
      sent = g.L.Link.sent c.args.link.now;
      written = g.O.Sink.content c.args.out.now;
    } in
    let new : Traffic = record {
      answers = g.L.Link.answers c.recv.new.self;
      sent = g.L.Link.sent c.recv.new.self;
      written = g.O.Sink.content c.args.out.now;
    } in
    (heard.Binary, tt, refl, passes-one old new heard.Binary c.in-Binary.ensures.answers c.recv.ensures.sent refl)

pub returns-in-TooBig-clause-hears : goal.returns-in-TooBig-clause-hears
returns-in-TooBig-clause-hears g c =
    let old : Traffic = record {
      answers = g.L.Link.answers c.args.link.now;
      sent = g.L.Link.sent c.args.link.now;
      written = g.O.Sink.content c.args.out.now;
    } in
    let new : Traffic = record {
      answers = g.L.Link.answers c.recv.new.self;
      sent = g.L.Link.sent c.recv.new.self;
      written = g.O.Sink.content c.args.out.now;
    } in
    (heard.TooBig, tt, refl, passes-one old new heard.TooBig c.in-TooBig.ensures.answers c.recv.ensures.sent refl)

pub returns-in-Quiet-clause-hears : goal.returns-in-Quiet-clause-hears
returns-in-Quiet-clause-hears g c =
    let old : Traffic = record {
      answers = g.L.Link.answers c.args.link.now;
      sent = g.L.Link.sent c.args.link.now;
      written = g.O.Sink.content c.args.out.now;
    } in
    let new : Traffic = record {
      answers = g.L.Link.answers c.recv.new.self;
      sent = g.L.Link.sent c.recv.new.self;
      written = g.O.Sink.content c.args.out.now;
    } in
    (heard.Quiet, tt, refl, passes-one old new heard.Quiet c.in-Quiet.ensures.answers c.recv.ensures.sent refl)

pub returns-in-Closed-clause-hears : goal.returns-in-Closed-clause-hears
returns-in-Closed-clause-hears g c =
    let old : Traffic = record {
      answers = g.L.Link.answers c.args.link.now;
      sent = g.L.Link.sent c.args.link.now;
      written = g.O.Sink.content c.args.out.now;
    } in
    let new : Traffic = record {
      answers = g.L.Link.answers c.recv.new.self;
      sent = g.L.Link.sent c.recv.new.self;
      written = g.O.Sink.content c.args.out.now;
    } in
    (c.replies-replies.ensures, passes-one old new heard.Closed c.in-Closed.ensures.answers c.recv.ensures.sent refl)

pub returns-in-Failed-clause-hears : goal.returns-in-Failed-clause-hears
returns-in-Failed-clause-hears g c =
    let old : Traffic = record {
      answers = g.L.Link.answers c.args.link.now;
      sent = g.L.Link.sent c.args.link.now;
      written = g.O.Sink.content c.args.out.now;
    } in
    let new : Traffic = record {
      answers = g.L.Link.answers c.recv.new.self;
      sent = g.L.Link.sent c.recv.new.self;
      written = g.O.Sink.content c.args.out.now;
    } in
    passes-one old new heard.Failed c.in-Failed.ensures.answers c.recv.ensures.sent refl
