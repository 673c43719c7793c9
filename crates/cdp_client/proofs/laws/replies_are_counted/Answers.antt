use Rattle.cdp_text.specs.Lines.{lines_of}
use Rattle.cdp_client.proofs.NumberLemmas.{counted-from, numbered-from}
use Rattle.cdp_client.proofs.laws.replies_are_counted.Goals as goal

pub returns : goal.returns
returns c = record {
  numbered = λ file lines. numbered-from 1 1 (lines_of file) lines;
  counted = counted-from;
}
