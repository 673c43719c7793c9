-- A table that is cut back to where it was.
use Rattle.std.specs.Prelude.{◌≡◌, ℕ, List, length, take, []}
use Rattle.js_machine_nodes.specs.declared.table.NodeTable.{NodeTable}
use Rattle.js_machine_nodes.specs.Trees.{program_of}
use Rattle.pure_eval.specs.declared.cutting.TableMark.{TableMark}
use Rattle.pure_eval.specs.Whole.{IsWhole}
use Rattle.pure_eval.specs.Adding.{GoesOnWith}

-- how long each list of a table is
pub record IsMarkOf (t : NodeTable) (m : TableMark) : Type 0 where
  pub nodes : m.nodes ≡ length t.nodes.items
  pub kids : m.kids ≡ length t.kids.items
  pub constants : m.constants ≡ length t.constants.items
  pub blocks : m.blocks ≡ length t.blocks.items
  pub scripts : m.scripts ≡ length t.scripts.items
  pub fors : m.fors ≡ length t.fors.items
  pub for_ofs : m.for_ofs ≡ length t.for_ofs.items
  pub functions : m.functions ≡ length t.functions.items
  pub objects : m.objects ≡ length t.objects.items
  pub calls : m.calls ≡ length t.calls.items
  pub sources : m.sources ≡ length t.sources.items

-- each list is cut to its length at a mark
pub record IsCut (m : TableMark) (t u : NodeTable) : Type 0 where
  pub nodes : u.nodes.items ≡ take m.nodes t.nodes.items
  pub kids : u.kids.items ≡ take m.kids t.kids.items
  pub constants : u.constants.items ≡ take m.constants t.constants.items
  pub blocks : u.blocks.items ≡ take m.blocks t.blocks.items
  pub scripts : u.scripts.items ≡ take m.scripts t.scripts.items
  pub fors : u.fors.items ≡ take m.fors t.fors.items
  pub for_ofs : u.for_ofs.items ≡ take m.for_ofs t.for_ofs.items
  pub functions : u.functions.items ≡ take m.functions t.functions.items
  pub objects : u.objects.items ≡ take m.objects t.objects.items
  pub calls : u.calls.items ≡ take m.calls t.calls.items
  pub sources : u.sources.items ≡ take m.sources t.sources.items

-- a table of the same sources with the same trees
pub record IsBack (t u : NodeTable) : Type 0 where
  pub whole : IsWhole u
  pub table : GoesOnWith t u []
  pub program : (ts : List (List ℕ)) → program_of ts u ≡ program_of ts t
