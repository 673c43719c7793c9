use Rattle.js_semantics.specs.Frames.{active}
use Rattle.js_semantics.proofs.DepthLaws.{debugger-arrives}
use Rattle.js_semantics.proofs.laws.a_debugger_statement_is_an_arrival.Goals as goal

pub returns : goal.returns
returns c = λ spans t e. debugger-arrives spans (active t) e
