use Rattle.js_lexer.proofs.TilingLemmas.{tiles}
use Rattle.js_lexer.proofs.tokens.Tokens.new.Goals as goal

pub returns-clause-tile : goal.returns-clause-tile
returns-clause-tile c = tiles 0 c.args.source.now
