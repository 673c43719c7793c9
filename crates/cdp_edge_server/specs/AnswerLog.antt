-- What a link in memory keeps of its answers.
use Rattle.std.specs.Prelude.{◌<◌, List, [], ◌∷◌, string_bytes, vec_len, vec_capacity, flat_map, replicate}
use Rattle.cdp_edge_server.specs.Heard.{Heard, Text, Binary, TooBig, Quiet, Closed, Failed}
use Rattle.cdp_edge_server.specs.declared.answer_log.AnswerLog.{AnswerLog}
use Rattle.cdp_edge_server.specs.declared.answer_log.LoggedAnswer.{LoggedAnswer}
use Rattle.cdp_edge_server.specs.declared.answer_log.LoggedAnswer.TheVariants as answer

-- the answers that an entry stands for
abbrev pub answers_of : LoggedAnswer → List Heard
answers_of (answer.Text text) = Text (string_bytes text) ∷ []
answers_of answer.Binary = Binary ∷ []
answers_of answer.TooBig = TooBig ∷ []
answers_of (answer.Quiet n) = replicate n Quiet
answers_of answer.Closed = Closed ∷ []
answers_of answer.Failed = Failed ∷ []

-- all answers of a log
abbrev pub answers_in : AnswerLog → List Heard
answers_in log = flat_map answers_of log.answers.items

-- there is room for one more entry
abbrev pub HasRoom : AnswerLog → Type 0
HasRoom log = vec_len log.answers < vec_capacity log.answers
