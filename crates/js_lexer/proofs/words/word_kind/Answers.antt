use Rattle.js_lexer.specs.Words.{reserved_words}
use Rattle.js_lexer.proofs.words.word_kind.Goals as goal

pub returns : goal.returns
unfolding reserved_words
returns c = c.kind_in.ensures
