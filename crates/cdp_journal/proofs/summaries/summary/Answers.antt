use Rattle.std.proofs.Common.{◌<◌, ◌^◌, ◌∷◌, [], List, ℕ, length, ap, ◌∙◌, arith}
use Rattle.std.proofs.lemmas.Result.{IfOk-weaker}
use Rattle.cdp_text.specs.Lines.{lines_of}
use Rattle.cdp_journal.specs.Summaries.{both, tally_of}
use Rattle.cdp_journal.proofs.TallyLemmas.{tally-end, tally-next, tally-room}
use Rattle.cdp_journal.proofs.summaries.summary.Goals as goal

pub add-requires : goal.add-requires
add-requires c =
    let line : List ℕ = c.in-Some.line.now in
    let lines : List (List ℕ) = lines_of c.in-Some.after.now in
    let short : length c.args.output.now < 2 ^ 63 = omega arith in
    let next = tally-next c.loop-line.tally _ line lines _ c.in-Some.ensures.lines c.loop-line.invariant in
    tally-room (both c.loop-line.tally (tally_of (line ∷ []))) (tally_of lines) c.args.output.now short next

pub loop-line-preserved : goal.loop-line-preserved
loop-line-preserved c =
    let line : List ℕ = c.in-Some.line.now in
    let lines : List (List ℕ) = lines_of c.in-Some.after.now in
    ap (λ tally. both tally (tally_of lines)) c.in_ok-add.ensures
    ∙ tally-next c.loop-line.tally _ line lines _ c.in-Some.ensures.lines c.loop-line.invariant

pub returns : goal.returns
returns c =
    let rest : List (List ℕ) = lines_of c.loop-line.rest.now in
    let end = tally-end c.loop-line.tally c.args.output.now rest c.in_default.ensures.lines c.loop-line.invariant in
    IfOk-weaker c.into_text.result _ _ (λ text is. is ∙ end) c.into_text.ensures
