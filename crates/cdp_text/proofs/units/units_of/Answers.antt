-- At the end the loop has seen each character of the text.
use Rattle.std.proofs.Common.{◌≡◌, ap, sym, ◌∙◌}
use Rattle.std.specs.Prelude.{flat_map}
use Rattle.std.specs.Char.Escape.{encode_utf16}
use Rattle.std.proofs.lemmas.Iterator.{YieldsList-from_chars}
use Rattle.std.proofs.lemmas.Iterator.Consumers.{YieldsList-end}
use Rattle.std.proofs.lemmas.List.{map-id}
use Rattle.cdp_text.specs.Units.{utf16_of}
use Rattle.cdp_text.proofs.UnitsLemmas.{utf8_of-utf16_of}
use Rattle.cdp_text.proofs.units.units_of.Goals as goal

form : (c : goal.In-None) → c.loop-c.items.items ≡ utf16_of c.args.s.now
unfolding utf16_of
form c =
    let all = YieldsList-end (YieldsList-from_chars c.args.s.now c.utf8.s cc)
    c.loop-c.yielded _ c.loop-c.yielded_by _ _ c.in-None.is c.next.ensures.steps in
    c.loop-c.invariant ∙ ap (flat_map encode_utf16) (sym (map-id c.loop-c.yielded) ∙ all.0)

pub returns-clause-form : goal.returns-clause-form
returns-clause-form c = form c

pub returns-clause-undone : goal.returns-clause-undone
returns-clause-undone c = rw (form c) (utf8_of-utf16_of c.args.s.now c.utf8.s)
