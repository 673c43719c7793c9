-- The ids of breakpoints.
use Rattle.std.specs.Prelude.{ℕ, List, ◌++◌, codes, decimal}
use Rattle.cdp_text.specs.declared.position.Pos.{Pos}
use Rattle.cdp_text.specs.declared.position.Place.{Place}

-- a line and a column, each with a colon behind it
abbrev pub position_text : Pos → List ℕ
position_text p = decimal p.line ++ (codes ":" ++ (decimal p.col ++ codes ":"))

-- the id of a breakpoint at a position of the scripts of a URL
abbrev pub url_id : Pos → List ℕ → List ℕ
url_id p url = (codes "1:" ++ position_text p) ++ url

-- the id of a breakpoint at a place of one script
abbrev pub place_id : Place → List ℕ
place_id place =
    codes "4:" ++
    (decimal place.pos.line ++ (codes ":" ++ (decimal place.pos.col ++ (codes ":" ++ decimal place.script))))
