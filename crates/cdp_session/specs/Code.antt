-- The code that the evaluations of a session run.
use Rattle.std.specs.Prelude.{List}
use Rattle.js_tree.specs.declared.script.Script.{Script}
use Rattle.js_semantics.specs.Functions.{Program}
use Rattle.js_semantics.specs.Run.{program_of}
use Rattle.js_semantics.specs.Sources.{terms_of_scripts}
use Rattle.pure_eval.specs.Workspaces.{Workspace, begun}
use Rattle.cdp_session.specs.Sessions.{no_workspace}
use Rattle.cdp_session.specs.declared.evaluations.Making.{Making}
use Rattle.cdp_session.specs.declared.evaluations.Making.TheVariants as makings

-- the sources in which the code of the scripts' functions is looked up
unfoldable pub code_of : List Script → Program
code_of scripts = program_of (terms_of_scripts scripts)

-- what the evaluations of a session go on from, over a program of these scripts: it is as if it had been made before
-- the first of them
abbrev pub workspace_in : List Script → Making → Workspace
workspace_in scripts makings.NotMade = begun (code_of scripts)
workspace_in scripts (makings.Made w) = w.workspace
workspace_in scripts makings.GivenUp = no_workspace
