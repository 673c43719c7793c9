-- Numbers that are given to the nodes of a tree one after another, in the order in which the nodes end.
use Rattle.std.specs.Prelude.{ℕ, suc}

-- what is made of a part of a tree, and the number after those of its nodes
pub record Numbered (A : Type 0) : Type 0 where
  pub value : A
  pub next : ℕ

-- what makes something of a part of a tree, from the first number for its nodes
abbrev pub Numbering : Type 0 → Type 0
Numbering A = ℕ → Numbered A

-- this, of no nodes
unfoldable pub give : {A : Type 0} → A → Numbering A
give a n = record { value = a; next = n }

-- a part, and behind it another
abbrev pub and_then : {A B : Type 0} → Numbered A → Numbered B → Numbered (A × B)
and_then x y = record { value = (x.value, y.value); next = y.next }

-- a part, and behind it another
unfoldable pub both : {A B : Type 0} → Numbering A → Numbering B → Numbering (A × B)
both f g n = and_then (f n) (g (f n).next)

-- something is made of a part
abbrev pub changed : {A B : Type 0} → (A → B) → Numbered A → Numbered B
changed make x = record { value = make x.value; next = x.next }

-- something made of a part, which adds no node
unfoldable pub of_part : {A B : Type 0} → (A → B) → Numbering A → Numbering B
of_part make f n = changed make (f n)

-- a node around its parts, which has the number after theirs
abbrev pub closed : {A B : Type 0} → (ℕ → A → B) → Numbered A → Numbered B
closed make x = record { value = make x.next x.value; next = suc x.next }

-- a node around its parts, which has the number after theirs
unfoldable pub node : {A B : Type 0} → (ℕ → A → B) → Numbering A → Numbering B
node make f n = closed make (f n)

-- a node without parts
unfoldable pub leaf : {B : Type 0} → (ℕ → B) → Numbering B
leaf make n = record { value = make n; next = suc n }
