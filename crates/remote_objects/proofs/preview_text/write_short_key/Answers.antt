use Rattle.std.proofs.Common.{rules, sym, ap, ◌∙◌}
use Rattle.cdp_json.specs.Compact.{string_text}
use Rattle.cdp_json.proofs.PieceLemmas.{on-written, written-as}
use Rattle.js_heap_parts.specs.Shown.{key_text}
use Rattle.remote_objects.specs.Previews.{shortened}
use Rattle.remote_objects.proofs.PreviewTextLemmas.{short-decimal}
use Rattle.remote_objects.proofs.preview_text.write_short_key.Goals as goal

pub returns-in-Index : goal.returns-in-Index
returns-in-Index c =
    on-written c.quoted_natural.result c.quoted_natural.ensures
    (λ e. written-as
    (short-decimal c.in-Index.index (search rules)
    ∙ ap (λ k. string_text (shortened (key_text k))) (sym c.in-Index.is))
    e)
