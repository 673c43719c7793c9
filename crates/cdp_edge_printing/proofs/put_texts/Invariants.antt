use Rattle.std.proofs.Common.{◌≡◌, take}
use Rattle.cdp_edge.specs.Outside.{gains}
use Rattle.cdp_edge_printing.specs.Printing.{printed_lines}
use Rattle.cdp_edge_printing.proofs.put_texts.Given as goal

-- the texts so far are taken, and no write failed
abbrev pub invariant-loop-text : goal.invariant-loop-text
invariant-loop-text g l = record {
  taken : g.O.Sink.content l.out ≡ gains (g.O.Sink.content l.fn.out) (printed_lines (take l.text-index l.texts));
  quiet : g.O.Sink.faults l.out ≡ g.O.Sink.faults l.fn.out;
}
