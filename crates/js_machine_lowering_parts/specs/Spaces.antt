-- The addresses of a space.
use Rattle.std.specs.Prelude.{ℕ}
use Rattle.js_heap.specs.declared.value.Addr.{Addr}
use Rattle.js_heap.specs.declared.value.Addr.TheVariants.{Base, Scratch}
use Rattle.js_machine_lowering_parts.specs.declared.spaces.Space.{Space}
use Rattle.js_machine_lowering_parts.specs.declared.spaces.Space.TheVariants as spaces

-- the address with a number in a space
abbrev pub address : Space → ℕ → Addr
address spaces.Program = λ n. Base n
address spaces.Session = λ n. Scratch n
