use Rattle.std.proofs.Common.{ℕ, Err, sym, ap, ◌∙◌}
use Rattle.std.proofs.lemmas.List.{length-map}
use Rattle.js_tree.specs.Trees.{Identifier}
use Rattle.js_parser_readers.specs.Reading.{stuck, Read}
use Rattle.js_parser_readers.specs.Views.{token_view, tokens_view}
use Rattle.js_parser_readers.proofs.NewNameLemmas.{fresh_taken}
use Rattle.js_parser_readers.proofs.names.fresh_name.Goals as goal

abbrev stuck_at : ℕ → Read Identifier
stuck_at n = Err (stuck n)

pub returns-then-contains : goal.returns-then-contains
returns-then-contains c =
    fresh_taken c.args.names.now (tokens_view c.args.tokens.now) c.in_ok-name.name.now
    (tokens_view c.in_ok-name.rest.now) c.in_ok-name.ensures (sym c.contains.ensures ∙ c.if-contains.true)
    ∙ ap stuck_at (length-map c.args.tokens.now token_view)
