-- The terms of some scripts as parts.
use Rattle.std.proofs.Common.{◌≡◌, List, [], ◌∷◌, map, refl, ap}
use Rattle.js_tree.specs.declared.script.Script.{Script}
use Rattle.js_machine_terms.specs.Views.{listed}
use Rattle.js_semantics.specs.Terms as semantics
use Rattle.js_semantics.specs.Sources.{term_of_script, terms_of_scripts}

pub scripts_listed : (ss : List Script) → terms_of_scripts ss ≡ listed (map term_of_script ss)
scripts_listed [] = refl
scripts_listed (s ∷ ss) = ap (semantics.more (term_of_script s)) (scripts_listed ss)
