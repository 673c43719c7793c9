use Rattle.cdp_session_laws.proofs.CellLemmas.{cell-of-id}
use Rattle.cdp_session_laws.proofs.identity.the_cell_of_an_id_stays.Goals as goal

pub returns : goal.returns
returns c = cell-of-id
