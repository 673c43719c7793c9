use Rattle.js_machine_actions.proofs.objects.object_or_fail.Goals as goal

pub returns-in-None : goal.returns-in-None
returns-in-None g c = rw c.in-None.is c.fail_with.ensures
