-- What a statement stands in, as the grammar sees it.
use Rattle.js_parser_language.specs.Well as well
use Rattle.js_parser_readers.specs.declared.context.StatementContext.{StatementContext}

-- what a statement stands in
abbrev pub context_view : StatementContext → well.StatementContext
context_view c = record { in_loop = c.in_loop; in_function = c.in_function }
