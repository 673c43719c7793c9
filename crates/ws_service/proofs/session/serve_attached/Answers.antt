use Rattle.std.proofs.Common.{rules, refl, ◌∙◌}
use Rattle.ws_service.specs.Connections.{turns}
use Rattle.ws_service.specs.Sessions.{Talk}
use Rattle.ws_service.proofs.PassingLemmas.{still-owns}
use Rattle.ws_service.proofs.SessionLemmas.{sits-down, sits-end, sits-on}
use Rattle.ws_service.proofs.session.serve_attached.Goals as goal

pub loop-init : goal.loop-init
loop-init g c =
    let d = g.H.Hosted.debugs in let s = c.args.session in let p = c.args.p.now in
    let old : Talk = record { answers = g.L.Link.answers c.args.link.now; sent = g.L.Link.sent c.args.link.now } in
    record { sits = sits-down d s p old c.requires.free c.requires.session; closed = refl; count = search rules }

pub hear-requires-clause-lock : goal.hear-requires-clause-lock
hear-requires-clause-lock g c = c.loop.invariant.sits.serves.goes.same.0 ∙ c.requires.lock

pub hear-requires-clause-free : goal.hear-requires-clause-free
hear-requires-clause-free g c = c.loop.invariant.sits.serves.goes.free

pub hear-requires-clause-session : goal.hear-requires-clause-session
hear-requires-clause-session g c =
    let i = c.loop.invariant.sits in
    still-owns g.H.Hosted.debugs c.args.session c.args.p.now c.loop.p (turns c.args.session i.answers) i.texts i.serves

pub returns-in-Some-hear-clause-hears : goal.returns-in-Some-hear-clause-hears
returns-in-Some-hear-clause-hears g c =
    let d = g.H.Hosted.debugs in let s = c.args.session in let p = c.args.p.now in let m = c.loop.p in let q = c.hear.new.p in
    let old : Talk = record { answers = g.L.Link.answers c.args.link.now; sent = g.L.Link.sent c.args.link.now } in
    let mid : Talk = record { answers = g.L.Link.answers c.loop.link; sent = g.L.Link.sent c.loop.link } in
    let new : Talk = record { answers = g.L.Link.answers c.hear.new.link; sent = g.L.Link.sent c.hear.new.link } in
    sits-end d s p m q old mid new c.in-Some-hear.end c.loop.invariant.sits c.in-Some-hear.ensures.hears

pub loop-preserved : goal.loop-preserved
loop-preserved g c =
    let d = g.H.Hosted.debugs in let s = c.args.session in let p = c.args.p.now in let m = c.loop.p in let q = c.hear.new.p in
    let old : Talk = record { answers = g.L.Link.answers c.args.link.now; sent = g.L.Link.sent c.args.link.now } in
    let mid : Talk = record { answers = g.L.Link.answers c.loop.link; sent = g.L.Link.sent c.loop.link } in
    let new : Talk = record { answers = g.L.Link.answers c.hear.new.link; sent = g.L.Link.sent c.hear.new.link } in
    record {
      sits = sits-on d s p m q old mid new c.loop.invariant.sits c.in_default.ensures.hears;
      closed = c.hear.ensures.closed ∙ c.loop.invariant.closed;
      count = search rules;
    }
