-- Runs of quiet answers in a log.
use Rattle.std.proofs.Common.{◌≡◌, ℕ, ◌+◌, List, [], ◌∷◌, ◌++◌, replicate, flat_map, ap, sym, ◌∙◌, append_assoc}
use Rattle.std.proofs.lemmas.Grind.{flat_map-append}
use Rattle.std.proofs.lemmas.List.{replicate-append-replicate, append-nil}
use Rattle.cdp_edge_server.specs.AnswerLog.{answers_of}
use Rattle.cdp_edge_server.specs.Heard.{Quiet}
use Rattle.cdp_edge_server.specs.declared.answer_log.LoggedAnswer.{LoggedAnswer}
use Rattle.cdp_edge_server.specs.declared.answer_log.LoggedAnswer.TheVariants as answer

-- two runs are one of both
pub runs-join : (xs : List LoggedAnswer) (r n : ℕ)
    → flat_map answers_of (xs ++ answer.Quiet (r + n) ∷ []) ≡ (flat_map answers_of xs ++ replicate r Quiet) ++ replicate n Quiet
runs-join xs r n =
    flat_map-append answers_of xs (answer.Quiet (r + n) ∷ [])
    ∙ ap (λ t. flat_map answers_of xs ++ t)
    (append-nil (replicate (r + n) Quiet) ∙ sym (replicate-append-replicate r n Quiet))
    ∙ sym (append_assoc (flat_map answers_of xs) (replicate r Quiet) (replicate n Quiet))

-- for a log that keeps quiet answers
pub ruleset runs = (runs-join)
