use Rattle.std.proofs.Common.{inr, refl}
use Rattle.ws_service_devtools.proofs.FateLemmas.{answered, changed, comes, read_as, too_big}
use Rattle.ws_service_devtools.proofs.LinkLemmas.{handed}
use Rattle.ws_service_devtools.proofs.link.DevtoolsLink.hand_in.Goals as goal

pub answer-requires-clause-answered : goal.answer-requires-clause-answered
answer-requires-clause-answered g c =
    answered _ _ (read_as _ _ _ _ c.as_str.ensures.value c.in-Ok-Answered.field-0-is c.in-Ok-Answered.ensures)

pub returns-in-Ok-HandedIn-clause-hands : goal.returns-in-Ok-HandedIn-clause-hands
returns-in-Ok-HandedIn-clause-hands g c =
    let handed_in = comes _ (read_as _ _ _ _ c.as_str.ensures.value c.in-Ok-HandedIn.field-0-is c.in-Ok-HandedIn.ensures) in
    handed _ _ _ c.requires.none (_, (refl, refl), handed_in)

pub returns-in-Ok-Changed-clause-hands : goal.returns-in-Ok-Changed-clause-hands
returns-in-Ok-Changed-clause-hands g c =
    let handed_in = changed _ _ (read_as _ _ _ _ c.as_str.ensures.value c.in-Ok-Changed.field-0-is c.in-Ok-Changed.ensures) in
    handed _ _ _ c.requires.none (_, (refl, refl), handed_in)

pub returns-in-Ok-TooBig-clause-hands : goal.returns-in-Ok-TooBig-clause-hands
returns-in-Ok-TooBig-clause-hands g c =
    let clears = too_big _ (read_as _ _ _ _ c.as_str.ensures.value c.in-Ok-TooBig.field-0-is c.in-Ok-TooBig.ensures) in
    handed _ _ _ c.requires.none (inr (_, (refl, refl), clears))
