use Rattle.ws_service_devtools.proofs.LinkLemmas.{replied, unsent}
use Rattle.ws_service_devtools.proofs.link.DevtoolsLink.answer.Goals as goal

pub returns-in-Ok-clause-hands : goal.returns-in-Ok-clause-hands
returns-in-Ok-clause-hands g c = replied _ _ _ _ c.requires.none c.requires.answered c.in-Ok.ensures.replies

pub returns-in-Err-Failed-clause-hands : goal.returns-in-Err-Failed-clause-hands
returns-in-Err-Failed-clause-hands g c = unsent _ _ _ _ c.requires.none c.requires.answered c.in-Err-Failed.ensures.replies
