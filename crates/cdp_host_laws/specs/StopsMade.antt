-- The stops of a history, in order.
use Rattle.std.specs.Prelude.{◌≡◌, ℕ, zero, suc, List, [], ◌∷◌, ◌++◌, option_to_list, Option, Some, None}
use Rattle.cdp_host_isolation.specs.Protocols.{Protocol}
use Rattle.cdp_host_isolation.specs.Meanings.{Meaning, after_run}
use Rattle.cdp_host_isolation.specs.Histories.{Entry, Attach, Tell, Take, Detach, Ran, Shut, apply}

-- the pause at which so many steps left the program, if there were any and the last of them stopped it
abbrev pub stop_behind : {C T Q X : Type 0} → Protocol C T Q X → ℕ → List ℕ → ℕ → Meaning C Q X → Option Q
stop_behind P moment gone zero m = None
stop_behind P moment gone (suc n) m = (after_run P moment gone (suc n) m).stop

-- the pause of the stop that an entry made, if it made one
abbrev pub stop_at : {C T Q X : Type 0} → Protocol C T Q X → Meaning C Q X → Entry → Option Q
stop_at P m Attach = None
stop_at P m (Tell s text) = None
stop_at P m (Take s) = None
stop_at P m (Detach s) = None
stop_at P m (Ran n moment gone) = stop_behind P moment gone n m
stop_at P m Shut = None

-- the pauses of all stops that a history made, also of those at which nobody stayed for whom the program is paused
abbrev pub stops_of : {C T Q X : Type 0} → Protocol C T Q X → Meaning C Q X → List Entry → List Q
stops_of P m [] = []
stops_of P m (entry ∷ history) = option_to_list (stop_at P m entry) ++ stops_of P (apply P m entry) history

-- the pause, if there is one, is the last of these
abbrev pub IsLast : {Q : Type 0} → List Q → Option Q → Type 0
IsLast {Q} stops stop = (q : Q) → stop ≡ Some q → (before : List Q) × (stops ≡ before ++ q ∷ [])
