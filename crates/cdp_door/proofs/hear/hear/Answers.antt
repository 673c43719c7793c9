use Rattle.std.proofs.Common.{ℕ, List, Some, refl, ap, sym, subst, ◌∙◌}
use Rattle.cdp_edge.specs.Outside.{Rose}
use Rattle.cdp_door.specs.Greetings.{Came, Traffic}
use Rattle.cdp_door.proofs.HearLemmas.{came-none, looks-on, looks-end, same-end, no-end}
use Rattle.cdp_door.proofs.hear.hear.Goals as goal

pub loop-init : goal.loop-init
loop-init g c =
    let old : Traffic = record { answers = g.W.Wire.answers c.args.wire.now; content = g.W.Wire.content c.args.wire.now } in
    record { come = subst (λ (bytes : List ℕ). Came old old bytes) (sym c.requires) (came-none old); quiet = refl }

pub returns-in-Some-look-clause-hears : goal.returns-in-Some-look-clause-hears
returns-in-Some-look-clause-hears g c =
    let old : Traffic = record { answers = g.W.Wire.answers c.args.wire.now; content = g.W.Wire.content c.args.wire.now } in
    let mid : Traffic = record { answers = g.W.Wire.answers c.loop.wire; content = g.W.Wire.content c.loop.wire } in
    let new : Traffic = record { answers = g.W.Wire.answers c.look.new.wire; content = g.W.Wire.content c.look.new.wire } in
    looks-end old mid new c.loop.reader c.look.new.reader c.in-Some-look.end c.loop.invariant.come
    c.in-Some-look.ensures.looks

pub returns-in-Some-look-clause-quiet : goal.returns-in-Some-look-clause-quiet
returns-in-Some-look-clause-quiet g c =
    λ other. c.in-Some-look.ensures.quiet (λ same. other (same-end _ _ same)) ∙ c.loop.invariant.quiet

pub returns-in-Some-look-clause-failed : goal.returns-in-Some-look-clause-failed
returns-in-Some-look-clause-failed g c =
    λ same. subst (λ (n : ℕ). Rose n (g.W.Wire.faults c.look.new.wire)) c.loop.invariant.quiet
    (c.in-Some-look.ensures.failed (ap (λ e. Some e) same))

pub loop-preserved : goal.loop-preserved
loop-preserved g c =
    let old : Traffic = record { answers = g.W.Wire.answers c.args.wire.now; content = g.W.Wire.content c.args.wire.now } in
    let mid : Traffic = record { answers = g.W.Wire.answers c.loop.wire; content = g.W.Wire.content c.loop.wire } in
    let new : Traffic = record { answers = g.W.Wire.answers c.look.new.wire; content = g.W.Wire.content c.look.new.wire } in
    record {
      come =
          looks-on old mid new c.loop.reader c.look.new.reader c.loop.invariant.come c.in_default.ensures.looks;
      quiet = c.in_default.ensures.quiet (no-end _) ∙ c.loop.invariant.quiet;
    }
