use Rattle.std.proofs.Common.{◌≡◌, ◌<◌, length, map, refl, ap, sym, subst, ◌∙◌}
use Rattle.cdp_client.specs.LineRead.{line_held}
use Rattle.cdp_client.specs.Talks.{without_wait}
use Rattle.cdp_client.proofs.WaitLemmas.{NoneSoFar, none-start, wait-found}
use Rattle.cdp_client.proofs.course.take_wait.Goals as goal

pub loop-place-init : goal.loop-place-init
loop-place-init c = record { same = refl; none = none-start c.args.method.now c.args.lines.now.items }

pub returns-then-is_wait_for : goal.returns-then-is_wait_for
returns-then-is_wait_for c =
    let items = c.loop-place.lines.items in
    let same : items ≡ c.args.lines.now.items = ap (λ d. d.items) c.loop-place.invariant.same in
    let full : c.len-place-end.result ≡ length items =
    c.len-place-end.ensures ∙ ap (λ d. d.len) (sym c.loop-place.invariant.same) ∙ c.loop-place.lines.ok.0 in
    let within : c.loop-place.place < length items = subst (λ n. c.loop-place.place < n) full c.loop-place-test.true in
    let there : c.loop-place.place < c.loop-place.lines.len =
    subst (λ n. c.loop-place.place < n) (sym c.loop-place.lines.ok.0) within in
    let removed = rw (c.remove.ensures.succeeds c.index.result.now there) at c.remove.ensures.items in
    ap (map line_held) removed
    ∙ wait-found c.args.method.now items c.loop-place.place c.index.result.now within c.index.ensures
    (sym c.is_wait_for.ensures ∙ c.if-is_wait_for.true)
    (subst (λ l. NoneSoFar c.args.method.now l c.loop-place.place) (sym same) c.loop-place.invariant.none)
    ∙ ap (λ l. without_wait c.args.method.now (map line_held l)) same
