use Rattle.std.proofs.Common.{◌≡◌, ◌∷◌, ◌++◌, ◌-◌, [], ap, arith, rules}
use Rattle.std.specs.Prelude.{nat_lt}
use Rattle.cdp_json.specs.Compact.{with_commas}
use Rattle.cdp_json.proofs.PieceLemmas.{further}
use Rattle.js_heap_parts.specs.Shown.{part_shown}
use Rattle.remote_objects.specs.Previews.{property_preview}
use Rattle.remote_objects.proofs.PreviewTextLemmas.{entries-full, entries-over, entry-more, first_texts}
use Rattle.remote_objects.proofs.describer.Describer.write_first.Goals as goal

pub loop-turn-init : goal.loop-turn-init
loop-turn-init g c =
    let short = property_preview (g.W.World.world c.args.self.now.names.now c.args.self.now.world.now) in
    let start : c.args.most - 0 ≡ c.args.most = omega arith in
    ap (λ n. c.args.pen.now ++ with_commas (first_texts short n c.args.parts)) start

pub loop-turn-preserved : goal.loop-turn-preserved
loop-turn-preserved g c =
    let short = property_preview (g.W.World.world c.args.self.now.names.now c.args.self.now.world.now) in
    let here : c.loop-turn.parts ≡ part_shown c.in-Some.part ∷ c.next.new.self = search rules in
    entry-more short c.loop-turn.parts c.next.new.self (part_shown c.in-Some.part) c.loop-turn.turn c.args.most
    c.loop-turn.pen c.write_entry.new.pen
    (c.args.pen.now ++ with_commas (first_texts short c.args.most c.args.parts)) here c.loop-turn-test.true
    (further c.in_ok-comma.ensures.put c.in_ok-write_entry.ensures) c.loop-turn.invariant

pub returns-in_default : goal.returns-in_default
returns-in_default g c =
    let short = property_preview (g.W.World.world c.args.self.now.names.now c.args.self.now.world.now) in
    let none : c.loop-turn.parts ≡ [] = search rules in
    record {
      is =
          entries-over short c.loop-turn.parts (nat_lt 0 c.loop-turn.turn) (c.args.most - c.loop-turn.turn)
          c.loop-turn.pen (c.args.pen.now ++ with_commas (first_texts short c.args.most c.args.parts)) none
          c.loop-turn.invariant;
    }

pub returns : goal.returns
returns g c =
    let short = property_preview (g.W.World.world c.args.self.now.names.now c.args.self.now.world.now) in
    record {
      is =
          entries-full short c.loop-turn.parts (nat_lt 0 c.loop-turn.turn) c.loop-turn.turn c.args.most
          c.loop-turn.pen (c.args.pen.now ++ with_commas (first_texts short c.args.most c.args.parts))
          (omega (arith, c.loop-turn-test.false)) c.loop-turn.invariant;
    }
