use Rattle.std.proofs.Common.{[]}
use Rattle.cdp_door.specs.Greetings.{Traffic}
use Rattle.cdp_door.proofs.HearLemmas.{came-none, greets-said, stops-heard}
use Rattle.cdp_door.proofs.greeting.greet.Goals as goal

pub returns-in_default-clause-greets : goal.returns-in_default-clause-greets
returns-in_default-clause-greets g c =
    let old : Traffic = record { answers = g.W.Wire.answers c.args.wire.now; content = g.W.Wire.content c.args.wire.now } in
    stops-heard old old c.args.port c.args.url.now ([], came-none old)

pub returns-in-Answer-clause-greets : goal.returns-in-Answer-clause-greets
returns-in-Answer-clause-greets g c =
    let old : Traffic = record { answers = g.W.Wire.answers c.args.wire.now; content = g.W.Wire.content c.args.wire.now } in
    let mid : Traffic = record { answers = g.W.Wire.answers c.hear.new.wire; content = g.W.Wire.content c.hear.new.wire } in
    let new : Traffic = record { answers = g.W.Wire.answers c.say.new.wire; content = g.W.Wire.content c.say.new.wire } in
    greets-said old mid new c.args.port c.args.url.now c.in-Answer.answer c.say.result c.in-Answer.ensures.hears
    c.say.ensures.writes c.say.ensures.answers
