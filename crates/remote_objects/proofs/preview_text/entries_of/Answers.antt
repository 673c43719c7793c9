use Rattle.std.proofs.Common.{map, ap, ◌∙◌}
use Rattle.std.specs.Prelude.{option_copied}
use Rattle.js_heap_memory.specs.Cells.{cell_at}
use Rattle.js_heap_parts.specs.Parts.{enumerable}
use Rattle.remote_objects.specs.Slots.{part_entry}
use Rattle.remote_objects.proofs.PreviewTextLemmas.{cell-entries}
use Rattle.remote_objects.proofs.preview_text.entries_of.Goals as goal

pub returns : goal.returns
returns c =
    λ names. ap (map part_entry) (c.enumerable.ensures ∙ ap enumerable (c.of_object.ensures names))
    ∙ cell-entries (cell_at names (option_copied c.args.cell))
