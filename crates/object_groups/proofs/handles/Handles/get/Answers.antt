use Rattle.std.proofs.Common.{◌∙◌, ap}
use Rattle.std.specs.List.{list_any}
use Rattle.std.specs.Option.{is_some}
use Rattle.object_groups.specs.Handles.{has_number}
use Rattle.object_groups.proofs.NumberLemmas.{copied-some, find-any}
use Rattle.object_groups.proofs.handles.Handles.get.Goals as goal

pub returns-clause-held : goal.returns-clause-held
returns-clause-held c =
    copied-some c.get.result ∙ ap is_some c.get.ensures ∙ find-any c.args.number c.self.inside.table
    ∙ ap (λ s. list_any (has_number c.args.number) s.held) c.self.view_is
