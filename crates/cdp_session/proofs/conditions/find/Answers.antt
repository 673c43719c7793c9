use Rattle.std.proofs.Common.{sym, ap, ◌∙◌, refl, Some}
use Rattle.std.proofs.lemmas.Option.{slice_get_read}
use Rattle.std.proofs.lemmas.Slice.Eq.{bytes_eq-Decides}
use Rattle.cdp_session.proofs.conditions.find.Goals as goal

pub returns-then-eq : goal.returns-then-eq
returns-then-eq c =
    slice_get_read c.args.parsed.now _ c.loop-at.at c.index-parsed-at.result refl c.loop-at-test.true
    c.index-parsed-at.is
    ∙ ap Some
    (sym c.condition.view_is
    ∙ (bytes_eq-Decides c.condition.inside.text c.args.text.now).0 (sym c.eq.ensures ∙ c.if-eq.true))
