-- Names of options as `==` compares them.
use Rattle.std.proofs.Common.{◌≡◌, refl}
use denote.Enum.Bare.{sameb}
use Rattle.debug_host_options.specs.declared.command.OptionName.{OptionName}
use Rattle.debug_host_options.specs.declared.command.OptionName.TheVariants.{Port, Sessions, Input, Journal, Wait, Devtools, Explain}
use Rattle.debug_host_options.specs.contracts.command.OptionName.{the_type}
use Rattle.debug_host_options.specs.Commands.{same_option}

pub same-option : (option other : OptionName) → sameb the_type option other ≡ same_option option other
same-option Port Port = refl
same-option Port Sessions = refl
same-option Port Input = refl
same-option Port Journal = refl
same-option Port Wait = refl
same-option Port Devtools = refl
same-option Port Explain = refl
same-option Sessions Port = refl
same-option Sessions Sessions = refl
same-option Sessions Input = refl
same-option Sessions Journal = refl
same-option Sessions Wait = refl
same-option Sessions Devtools = refl
same-option Sessions Explain = refl
same-option Input Port = refl
same-option Input Sessions = refl
same-option Input Input = refl
same-option Input Journal = refl
same-option Input Wait = refl
same-option Input Devtools = refl
same-option Input Explain = refl
same-option Journal Port = refl
same-option Journal Sessions = refl
same-option Journal Input = refl
same-option Journal Journal = refl
same-option Journal Wait = refl
same-option Journal Devtools = refl
same-option Journal Explain = refl
same-option Wait Port = refl
same-option Wait Sessions = refl
same-option Wait Input = refl
same-option Wait Journal = refl
same-option Wait Wait = refl
same-option Wait Devtools = refl
same-option Wait Explain = refl
same-option Devtools Port = refl
same-option Devtools Sessions = refl
same-option Devtools Input = refl
same-option Devtools Journal = refl
same-option Devtools Wait = refl
same-option Devtools Devtools = refl
same-option Devtools Explain = refl
same-option Explain Port = refl
same-option Explain Sessions = refl
same-option Explain Input = refl
same-option Explain Journal = refl
same-option Explain Wait = refl
same-option Explain Devtools = refl
same-option Explain Explain = refl

pub ruleset same_tests = (same-option)
