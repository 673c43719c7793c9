use Rattle.std.proofs.Common.{◌≡◌, length, map, All}
use Rattle.httparse.specs.Spans.{header_bytes, IsHeaderWithin}
use Rattle.cdp_door.specs.Fields.{first_value}
use Rattle.cdp_door.proofs.fields.first_in.Given as goal

-- no field so far has the name
abbrev pub invariant-loop-span : goal.invariant-loop-span
invariant-loop-span l = record {
  left : first_value l.name (map (header_bytes l.bytes) l.spans) ≡ first_value l.name (map (header_bytes l.bytes) l.rest);
  within : All (IsHeaderWithin (length l.bytes)) l.rest;
}

abbrev pub decreases-loop-span : goal.decreases-loop-span
decreases-loop-span l = length l.rest
