use Rattle.std.proofs.Common.{◌≡◌, ◌++◌, drop, map}
use Rattle.js_parser_language.specs.Well.{names_of_declarators}
use Rattle.js_tree.specs.Views.{declarator_view, declarators}
use Rattle.debug_host_script_files.proofs.top_names.add_each.Given as goal

abbrev pub invariant-loop-item : goal.invariant-loop-item
invariant-loop-item l =
    l.names.items ++ names_of_declarators (declarators (map declarator_view (drop l.item-index l.items)))
    ≡ l.fn.names.items ++ names_of_declarators (declarators (map declarator_view l.items))
