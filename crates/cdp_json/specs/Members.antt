-- Members of a JSON value, read as values of a kind.
use Rattle.std.specs.Prelude.{ℕ, ◌^◌, List, Bool, ◌||◌, nat_lt, if◌then◌else◌, Option, Some, None, option_map, option_and_then, is_some, codes}
use Rattle.cdp_text.specs.Units.{utf16_of}
use Rattle.cdp_text.specs.declared.position.Pos.{Pos}
use Rattle.serde_json.specs.Data.{Data}
use Rattle.serde_json.specs.Find.{get, as_number, as_str, as_u64, as_i64}

-- a member that must be there
abbrev pub required : {A : Type 0} → (Data → Option A) → List ℕ → Data → Option A
required kind name d = option_and_then kind (get name d)

-- a member that may be absent
abbrev pub if_given : {A : Type 0} → (Data → Option A) → Option Data → Option (Option A)
if_given kind None = Some None
if_given kind (Some d) = option_map Some (kind d)

-- a member that may be absent, and is of this kind where it is there
abbrev pub optional : {A : Type 0} → (Data → Option A) → List ℕ → Data → Option (Option A)
optional kind name d = if_given kind (get name d)

-- a text, in units
abbrev pub text_of : Data → Option (List ℕ)
text_of d = option_map utf16_of (as_str d)

-- an integer without fraction or exponent
abbrev pub is_integer : Data → Bool
is_integer d = is_some (option_and_then as_u64 (as_number d)) || is_some (option_and_then as_i64 (as_number d))

-- a line or a column: an integer from 0 to 2^32-1
abbrev pub if_coordinate : ℕ → Option ℕ
if_coordinate n = if nat_lt n (2 ^ 32) then Some n else None

-- a line or a column: an integer from 0 to 2^32-1
abbrev pub coordinate_of : Data → Option ℕ
coordinate_of d = option_and_then if_coordinate (option_and_then as_u64 (as_number d))

-- a column that is absent is 0
abbrev pub column_of : Option Data → Option ℕ
column_of None = Some 0
column_of (Some d) = coordinate_of d

-- a position of a line and a column
abbrev pub position_from : Option ℕ → Option ℕ → Option Pos
position_from None column = None
position_from (Some line) None = None
position_from (Some line) (Some column) = Some (record { line = line; col = column })

-- a line with a column
abbrev pub position_of : Data → Option Pos
position_of d = position_from (required coordinate_of (codes "lineNumber") d) (column_of (get (codes "columnNumber") d))
