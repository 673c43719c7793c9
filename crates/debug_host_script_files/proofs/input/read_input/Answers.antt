use Rattle.debug_host_script_files.proofs.InputLemmas.{given_no_text, given_input}
use Rattle.debug_host_script_files.proofs.input.read_input.Goals as goal

pub returns-in_default-clause-fault : goal.returns-in_default-clause-fault
returns-in_default-clause-fault g c = (
  c.in-Ok.ensures.faults,
  given_no_text _ _ _ c.in-Ok.bytes c.args.name.now c.deref.result.now c.in-Ok.ensures.content c.in-Ok.ensures.handed
      c.deref.ensures.value
      c.in_default.ensures.cases.0,
)

pub returns-in-Ok-lines_of-clause-lines : goal.returns-in-Ok-lines_of-clause-lines
returns-in-Ok-lines_of-clause-lines g c =
    given_input _ _ _ c.in-Ok.bytes c.args.name.now c.deref.result.now c.in-Ok-from_utf8.text.now _ c.in-Ok.ensures.content
    c.in-Ok.ensures.handed
    c.deref.ensures.value
    c.in-Ok-from_utf8.ensures.cases.0 c.in-Ok-from_utf8.ensures.cases.1 c.in-Ok-lines_of.ensures
