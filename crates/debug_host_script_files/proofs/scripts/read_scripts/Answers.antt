use Rattle.std.proofs.Common.{take, ◌∙◌}
use Rattle.debug_host_script_files.specs.Scripts.{names_held}
use Rattle.debug_host_script_files.proofs.ScriptLemmas.{fails_at, stands_behind, given_are_more, none_refused}
use Rattle.debug_host_script_files.proofs.scripts.read_scripts.Goals as goal

pub returns-in-Err-clause-fault : goal.returns-in-Err-clause-fault
returns-in-Err-clause-fault g c =
    let i = c.loop-name.invariant in
    let names = c.args.names.now in
    fails_at c.in-Err.fault _ _ _ _ _ (names_held names) (names_held (take c.loop-name.name-index names)) _
    c.loop-name.scripts.items _ _ _ i.files i.quiet
    (stands_behind names c.loop-name.name-index _ c.loop-name-test.true) i.are c.in-Err.ensures.fault

pub returns-in-Err-clause-one : goal.returns-in-Err-clause-one
returns-in-Err-clause-one g c = λ given ss name r. none_refused given (names_held c.args.names.now) ss name r

pub returns-clause-one : goal.returns-clause-one
returns-clause-one g c = λ given ss name r. none_refused given (names_held c.args.names.now) ss name r

pub loop-name-preserved : goal.loop-name-preserved
loop-name-preserved g c =
    let i = c.loop-name.invariant in
    let e = c.in-Ok.ensures in
    record {
      are =
          given_are_more _ _ _ _ _ c.args.names.now c.loop-name.name-index _ c.loop-name.scripts.items
          c.add_script.new.scripts.items i.files c.loop-name-test.true i.are e.script;
      declared = e.declared;
      files = e.files ∙ i.files;
      quiet = e.quiet ∙ i.quiet;
      stored = e.stored ∙ i.stored;
    }
