-- Without a session four steps of a print leave the program ready; the fifth prints and ends it, and then it makes
-- none.
use Rattle.std.specs.Prelude.{List, [], ◌∷◌, codes}
use Rattle.cdp_host_turns.specs.declared.state.State.TheVariants as states
use Rattle.cdp_host_worked_runs.specs.Journals.{Call, Outcome, run}

-- the journal
abbrev pub print : List Call
print =
    run 4 0
    ∷ run 4 0
    ∷ run 4 0
    ∷ []

-- what it comes to
abbrev pub print_outcome : Outcome
print_outcome = record {
  runs = (4, states.Ready) ∷ (1, states.Ended) ∷ (0, states.Ended) ∷ [];
  printed = codes "1"
      ∷ [];
  sent = [];
}
