-- Which words ask that causes are explained.
use Rattle.std.specs.Prelude.{ℕ, List, [], ◌∷◌, Bool, true, false, bytes_eq, codes, map, string_bytes, Option, Some, None, if◌then◌else◌}
use Rattle.std.specs.declared.string.String.{String}
use Rattle.std.specs.declared.alloc.Global.{Global}
use Rattle.debug_host_options.specs.Requests.{Request, Run, Replay, Drill, Serve, Send, Help, Version, asked}

-- the option's name is one of the words, before those that are all operands
abbrev pub names_explain : List (List ℕ) → Bool
names_explain [] = false
names_explain (word ∷ words) =
    if bytes_eq word (codes "--") then false
    else if bytes_eq word (codes "--explain") then true else names_explain words

-- what is asked for has the option, or the words that ask for nothing name it
abbrev pub is_explained : Option Request → List (List ℕ) → Bool
is_explained (Some (Run request)) words = request.explain
is_explained (Some (Replay request)) words = request.explain
is_explained (Some (Drill number)) words = false
is_explained (Some (Serve request)) words = request.explain
is_explained (Some (Send request)) words = request.explain
is_explained (Some (Help topic)) words = false
is_explained (Some Version) words = false
is_explained None words = names_explain words

-- the words ask that causes are explained
abbrev pub explains : List (String Global) → Bool
explains words = is_explained (asked words) (map string_bytes words)
