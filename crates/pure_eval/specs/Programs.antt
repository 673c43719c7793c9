-- Programs in which the same functions are found.
use Rattle.std.specs.Prelude.{◌≡◌, ℕ, false, [], ◌∷◌}
use Rattle.js_semantics.specs.declared.form.Source.{Source}
use Rattle.js_semantics.specs.Functions.{Program, same_source, function_at}

-- the code of each function of each source
abbrev pub HasSameFunctions : Program → Program → Type 0
HasSameFunctions p q = (source : Source) (node : ℕ) → function_at p source node ≡ function_at q source node

-- a source that a program hasn't
abbrev pub IsNewSource : Source → Program → Type 0
IsNewSource source [] = Unit {0}
IsNewSource source (t ∷ ts) = (same_source t.source source ≡ false) × IsNewSource source ts
