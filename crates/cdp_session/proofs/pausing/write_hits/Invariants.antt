use Rattle.std.proofs.Common.{◌≡◌, ◌++◌, drop, map}
use Rattle.std.specs.Prelude.{nat_lt}
use Rattle.cdp_json.specs.Compact.{string_text, with_commas}
use Rattle.cdp_json.specs.Pieces.{commas_after}
use Rattle.cdp_session.proofs.pausing.write_hits.Given as goal

abbrev pub invariant-loop-i : goal.invariant-loop-i
invariant-loop-i l =
    l.pen ++ commas_after (nat_lt 0 l.i) (map string_text (drop l.i l.hits))
    ≡ l.fn.pen ++ with_commas (map string_text l.hits)
