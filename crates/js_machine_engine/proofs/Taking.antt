-- What a form makes of a completion.
use Rattle.std.specs.Prelude.{Some}
use Rattle.js_heap.specs.declared.value.Addr.{Addr}
use Rattle.js_heap.specs.declared.value.Value.TheVariants as values
use Rattle.js_semantics.specs.declared.form.Completion.{Completion}
use Rattle.js_semantics.specs.declared.form.Form.{Form}
use Rattle.js_semantics.specs.declared.form.Form.TheVariants.{Ending as ending}
use Rattle.js_semantics.specs.Terms.{Terms, end, settled}
use Rattle.js_semantics.specs.State.{Action, go, leave, pop_frame, give}
use Rattle.js_semantics.specs.Rows.{taken}
use Rattle.js_machine_engine.specs.declared.passing.Taking.TheVariants as takings
use Rattle.js_machine_engine.specs.declared.passing.Passing.{Passing}
use Rattle.js_machine_engine.specs.declared.passing.Passing.TheVariants as passings

-- what a form does with a completion that it takes so, or lets pass
abbrev pub took : Addr → Form → Completion → Terms → Passing → Action
took scope f c later passings.Lets = leave c
took scope f c later passings.Unframes = pop_frame (leave c)
took scope f c later (passings.Takes (takings.Catches v)) = taken scope f c later
took scope f c later (passings.Takes takings.Keeps) = go (settled (ending (Some c)) later end)
took scope f c later (passings.Takes (takings.Returns v)) = pop_frame (give v)
took scope f c later (passings.Takes takings.Breaks) = give values.Undefined
took scope f c later (passings.Takes takings.Turns) = go (settled f end later)
