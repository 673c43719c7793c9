-- Logs that only clauses read: of the files that a shelf handed in or stored, and of the bytes that a sink took.
use Rattle.std.specs.Prelude.{ℕ, List, [], ◌∷◌, ◌++◌}

-- a file's name and content
pub record NamedFile : Type 0 where
  pub name : List ℕ
  pub bytes : List ℕ

-- one file, of this name and with these bytes
abbrev pub one_file : List ℕ → List ℕ → List NamedFile
one_file name bytes = record { name = name; bytes = bytes } ∷ []

-- these files, and then one of this name with these bytes
abbrev pub with_file : List NamedFile → List ℕ → List ℕ → List NamedFile
with_file files name bytes = files ++ one_file name bytes
