-- The start of a machine, from its parts.
use Rattle.std.proofs.Common.{◌≡◌, ℕ, List, [], sym, ap, ◌∙◌}
use Rattle.js_heap.specs.World.{World}
use Rattle.js_heap.specs.BuiltIns.{first_world}
use Rattle.js_semantics.specs.declared.form.Form.TheVariants.{Scripts as scripts}
use Rattle.js_semantics.specs.Terms.{Term, Terms, end, settle, settled}
use Rattle.js_semantics.specs.Run.{run_of, literals_of, placed_scripts, start}
use Rattle.js_machine_actions.specs.Contexts.{Context, state_of, start_context}
use Rattle.js_machine_nodes.specs.declared.table.NodeTable.{NodeTable}
use Rattle.js_machine_nodes.specs.Trees.{tree}
use Rattle.js_machine_engine.specs.Gaps.{resettled}
use Rattle.js_machine_engine.specs.Tasks.{Wide, gaps_of}
use Rattle.js_machine_compiler.specs.Scripts.{IsCompiled}
use Rattle.js_machine_compiler.proofs.NameLemmas.{goes_on_same}

-- the term and the state are those of the start
pub starts-so : (xs : Terms) (input : List (List ℕ)) (ts : List (List ℕ)) (t : NodeTable) (root : ℕ) (u : Term)
    (w : World) (c : Context) (ws : List Wide)
    → IsCompiled ts (placed_scripts xs) t root
    → ws ≡ []
    → resettled (gaps_of ts t ws) (settle (tree ts t root)) ≡ u
    → w ≡ first_world (literals_of xs)
    → c ≡ start_context input
    → run_of u (state_of w c []) ≡ start xs input
starts-so xs input ts t root u w c ws h none e hw hc =
    ap (λ x. run_of x (state_of w c []))
    (sym e
    ∙ ap (λ vs. resettled (gaps_of ts t vs) (settle (tree ts t root))) none
    ∙ ap settle (h.tree ts (goes_on_same ts)))
    ∙ ap (λ x. run_of (settled scripts (placed_scripts xs) end) (state_of x c [])) hw
    ∙ ap (λ x. run_of (settled scripts (placed_scripts xs) end) (state_of (first_world (literals_of xs)) x [])) hc
