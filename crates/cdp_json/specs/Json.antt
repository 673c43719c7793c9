-- JSON values (RFC 8259): texts and keys are lists of UTF-16 code units, and numbers are integers.
use Rattle.std.specs.Prelude.{ℕ, ℤ, List, [], ◌∷◌, Bool}

-- a value: null, a boolean, an integer, a text, a list or an object
mutual
  pub data Json : Type 0 where
    null : Json
    boolean : Bool → Json
    number : ℤ → Json
    text : List ℕ → Json
    list : Items → Json
    object : Members → Json

  -- values in order
  pub data Items : Type 0 where
    no_items : Items
    item : Json → Items → Items

  -- keys with their values, in the order in which they were given
  pub data Members : Type 0 where
    no_members : Members
    member : List ℕ → Json → Members → Members

-- the values of a list
abbrev pub items_of : List Json → Items
items_of [] = no_items
items_of (j ∷ js) = item j (items_of js)

-- the members of a list of pairs
abbrev pub members_of : List (List ℕ × Json) → Members
members_of [] = no_members
members_of (m ∷ ms) = member m.0 m.1 (members_of ms)
