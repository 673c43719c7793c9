use Rattle.std.proofs.Common.{◌≡◌, length, map, sym, ◌∙◌, arith}
use Rattle.std.proofs.lemmas.List.{length-map}
use Rattle.cdp_text.proofs.PartsLemmas.{halves-at, halves-none, lacks-more}
use Rattle.cdp_text.proofs.parts.unit_halves.Goals as goal

pub returns-then-code : goal.returns-then-code
returns-then-code g c =
    let code = g.C.CodeUnit.code in
    halves-at code (code c.args.separator) c.args.units.now c.loop-i.i c.index-units-i.result c.loop-i-test.true
    c.loop-i.invariant c.index-units-i.is (sym c.code.ensures ∙ (c.if-code.true ∙ c.code-code.ensures))

pub loop-i-preserved : goal.loop-i-preserved
loop-i-preserved g c =
    let code = g.C.CodeUnit.code in
    lacks-more code (code c.args.separator) c.args.units.now c.loop-i.i c.index-units-i.result c.loop-i-test.true
    c.loop-i.invariant c.index-units-i.is
    (λ same. c.if-code.false (c.code.ensures ∙ (same ∙ sym c.code-code.ensures)))

pub returns : goal.returns
returns g c =
    let code = g.C.CodeUnit.code in
    let len : length (map code c.args.units.now) ≡ length c.args.units.now = length-map c.args.units.now code in
    sym (halves-none (code c.args.separator) (map code c.args.units.now)
    (λ k below. c.loop-i.invariant k (omega (arith, len, below, c.loop-i-test.false))))
