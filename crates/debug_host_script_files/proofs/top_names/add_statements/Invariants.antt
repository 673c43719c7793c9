use Rattle.std.proofs.Common.{◌≡◌, ◌++◌, drop, map}
use Rattle.js_parser_language.specs.Well.{declared_names}
use Rattle.js_tree.specs.Views.{statement_view, statements}
use Rattle.debug_host_script_files.proofs.top_names.add_statements.Given as goal

abbrev pub invariant-loop-item : goal.invariant-loop-item
invariant-loop-item l =
    l.names.items ++ declared_names (statements (map statement_view (drop l.item-index l.items)))
    ≡ l.fn.names.items ++ declared_names (statements (map statement_view l.items))
