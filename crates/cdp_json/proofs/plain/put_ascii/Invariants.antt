use Rattle.std.proofs.Common.{◌≡◌, ◌+◌, ◌++◌, ◌≤◌, string_bytes, take}
use Rattle.std.specs.Prelude.{string_capacity, string_len}
use Rattle.cdp_json.proofs.plain.put_ascii.Given as goal

abbrev pub invariant-loop-unit : goal.invariant-loop-unit
invariant-loop-unit l = record {
  bytes : string_bytes l.out ≡ string_bytes l.fn.out ++ take l.unit-index l.units;
  len : string_len l.out ≡ string_len l.fn.out + l.unit-index;
  capacity : string_capacity l.fn.out ≤ string_capacity l.out;
}
