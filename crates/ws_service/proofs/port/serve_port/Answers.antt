use Rattle.ws_service.proofs.port.serve_port.Goals as goal

pub returns-in-Plain-clause-serves : goal.returns-in-Plain-clause-serves
returns-in-Plain-clause-serves g c = rw c.in-Plain.is c.serve_through.ensures.serves

pub returns-in-Devtools-clause-serves : goal.returns-in-Devtools-clause-serves
returns-in-Devtools-clause-serves g c = rw c.in-Devtools.is c.serve_through-in-Devtools.ensures.serves
