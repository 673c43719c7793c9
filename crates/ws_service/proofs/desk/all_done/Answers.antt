use Rattle.std.proofs.Common.{rules, ◌≡◌, ℕ, ◌++◌, length, ap, subst, sym, ◌∙◌}
use Rattle.std.proofs.Math.Seq.{take-append_seam}
use lib.ListN.{take, drop}
use Rattle.ws_service.specs.Works.{AreDone}
use Rattle.ws_service.proofs.desk.all_done.Goals as goal

pub returns : goal.returns
returns g c =
    let olds = c.args.works.items in
    let news = c.work_all.new.works in
    let many : c.args.works.len ≡ length news = search rules in
    let same = ap (λ (n : ℕ). take n (news ++ drop (length news) olds)) many
    ∙ take-append_seam news (drop (length news) olds) in
    let done = c.work_all.ensures in
    subst (λ l. AreDone g.W.Work.does olds l) (sym same)
    (subst (λ l. AreDone g.W.Work.does l news) c.as_mut_slice.ensures.value (done.length, done.works))
