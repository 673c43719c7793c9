-- The built-in functions that touch nothing but a world.
use Rattle.js_heap.specs.declared.built_in.BuiltIn.{BuiltIn}
use Rattle.js_heap.specs.declared.built_in.BuiltIn.TheVariants as built_ins

-- it neither prints nor reads a line
abbrev pub StaysInside : BuiltIn → Type 0
StaysInside built_ins.ConsoleLog = ⊥
StaysInside built_ins.ReadLine = ⊥
StaysInside f = Unit {0}
