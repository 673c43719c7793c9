-- Entries of a history in which nobody tells anything.
use Rattle.std.specs.Prelude.{List, [], ◌∷◌}
use Rattle.cdp_host_isolation.specs.Histories.{Entry, Attach, Tell, Take, Detach, Ran, Shut}

-- no session tells a text
abbrev pub IsQuiet : Entry → Type 0
IsQuiet Attach = Unit {0}
IsQuiet (Tell s text) = ⊥
IsQuiet (Take s) = Unit {0}
IsQuiet (Detach s) = Unit {0}
IsQuiet (Ran n moment gone) = Unit {0}
IsQuiet Shut = Unit {0}

-- in none of these
abbrev pub AreQuiet : List Entry → Type 0
AreQuiet [] = Unit {0}
AreQuiet (entry ∷ more) = IsQuiet entry × AreQuiet more
