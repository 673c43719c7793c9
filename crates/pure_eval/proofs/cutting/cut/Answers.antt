use Rattle.pure_eval.proofs.CutLemmas.{cut-back}
use Rattle.pure_eval.proofs.cutting.cut.Goals as goal

pub returns-clause-back : goal.returns-clause-back
returns-clause-back c = cut-back _ _ c.args.mark (record {
  nodes = c.cut_list.ensures;
  kids = c.cut_list-2.ensures;
  constants = c.cut_list-3.ensures;
  blocks = c.cut_list-4.ensures;
  scripts = c.cut_list-5.ensures;
  fors = c.cut_list-6.ensures;
  for_ofs = c.cut_list-7.ensures;
  functions = c.cut_list-8.ensures;
  objects = c.cut_list-9.ensures;
  calls = c.cut_list-10.ensures;
  sources = c.cut_list-11.ensures;
})
