use Rattle.std.proofs.Common.{◌+◌, ◌++◌, ◌≤◌, length, drop, map, refl, sym, ap, ◌∙◌, arith, drop_of_length-le}
use Rattle.std.specs.Prelude.{nat_lt}
use Rattle.std.proofs.lemmas.Bool.{lt-ltb}
use Rattle.cdp_json.specs.Compact.{string_text, with_commas}
use Rattle.cdp_json.specs.Pieces.{commas_after}
use Rattle.cdp_json.proofs.PieceLemmas.{further, text_all, text_more, written-as}
use Rattle.cdp_session.proofs.PauseTextLemmas.{hit-here}
use Rattle.cdp_session.proofs.pausing.write_hits.Goals as goal

pub loop-i-init : goal.loop-i-init
loop-i-init c = refl

pub loop-i-preserved : goal.loop-i-preserved
loop-i-preserved c =
    let hits = c.args.hits.now in
    let i = c.loop-i.i in
    let hit = c.index-hits-i.result in
    let behind = nat_lt 0 i in
    text_more behind (nat_lt 0 (i + 1)) c.loop-i.pen c.quoted.new.self (string_text hit)
    (c.args.pen.now ++ with_commas (map string_text hits)) (map string_text (drop (i + 1) hits))
    (lt-ltb 0 (i + 1) (omega arith))
    (further c.in_ok-comma.ensures.put (written-as (ap string_text c.as_slice.ensures) c.in_ok-quoted.ensures.put))
    (ap (λ ts. c.loop-i.pen ++ commas_after behind ts)
    (sym (hit-here hits i hit c.loop-i-test.true c.index-hits-i.is))
    ∙ c.loop-i.invariant)

pub returns : goal.returns
returns c =
    let hits = c.args.hits.now in
    let i = c.loop-i.i in
    let past : length hits ≤ i = omega (arith, c.loop-i-test.false) in
    record {
      is =
          text_all (nat_lt 0 i) c.loop-i.pen (c.args.pen.now ++ with_commas (map string_text hits))
          (map string_text (drop i hits)) (ap (map string_text) (drop_of_length-le hits past)) c.loop-i.invariant;
    }
