-- Expressions of one token.
use Rattle.std.specs.Prelude.{Ok, Err, length}
use Rattle.js_parser_language.specs.Tokens.{tail_of}
use Rattle.js_tree.specs.Trees as trees
use Rattle.js_tree.specs.Trees.{Expression}
use Rattle.js_parser_readers.specs.Classes as classes
use Rattle.js_parser_readers.specs.Classes.{PrimaryStart}
use Rattle.js_parser_readers.specs.Reading.{Reader, stuck}

-- the primary expression of one token that begins so
abbrev pub leaf_by : PrimaryStart → Reader Expression
leaf_by classes.this_word ts = Ok (trees.this, tail_of ts)
leaf_by (classes.a_name s) ts = Ok (trees.name s, tail_of ts)
leaf_by (classes.a_number v) ts = Ok (trees.number v, tail_of ts)
leaf_by (classes.a_string s) ts = Ok (trees.string s, tail_of ts)
leaf_by (classes.a_boolean v) ts = Ok (trees.boolean v, tail_of ts)
leaf_by classes.null_word ts = Ok (trees.null, tail_of ts)
leaf_by _ ts = Err (stuck (length ts))
