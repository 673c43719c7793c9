-- Which end has a status.
use Rattle.std.proofs.Common.{◌≡◌, ℕ, List, refl}
use Rattle.std.specs.Borrow.{Bor}
use Rattle.debug_host_script_files.specs.declared.fault.TextFault.{TextFault}
use Rattle.debug_host_commands.specs.Status.{status_of}
use Rattle.debug_host_commands.specs.declared.outcome.CommandEnd.{CommandEnd}
use Rattle.debug_host_commands.specs.declared.outcome.CommandEnd.TheVariants as ends

-- that of a command that did all
pub done_only : (end : CommandEnd) → status_of end ≡ 0 → end ≡ ends.Done
done_only ends.Done is = refl
done_only ends.OutOfMemory is = absurd cc
done_only ends.Usage is = absurd cc
done_only (ends.Refused name r) is = absurd cc
done_only (ends.CannotRead name) is = absurd cc
done_only (ends.CannotStore name) is = absurd cc
done_only ends.CannotWrite is = absurd cc
done_only (ends.LineRefused number) is = absurd cc
done_only ends.NetworkFault is = absurd cc
done_only (ends.Threw text) is = absurd cc
done_only ends.ThrewUnshown is = absurd cc
done_only (ends.PeerClosed replies) is = absurd cc
done_only ends.TicketsSpent is = absurd cc

-- that of an output that can't be written
pub cut_only : (end : CommandEnd) → status_of end ≡ 5 → end ≡ ends.CannotWrite
cut_only ends.CannotWrite is = refl
cut_only ends.Done is = absurd cc
cut_only ends.OutOfMemory is = absurd cc
cut_only ends.Usage is = absurd cc
cut_only (ends.Refused name r) is = absurd cc
cut_only (ends.CannotRead name) is = absurd cc
cut_only (ends.CannotStore name) is = absurd cc
cut_only (ends.LineRefused number) is = absurd cc
cut_only ends.NetworkFault is = absurd cc
cut_only (ends.Threw text) is = absurd cc
cut_only ends.ThrewUnshown is = absurd cc
cut_only (ends.PeerClosed replies) is = absurd cc
cut_only ends.TicketsSpent is = absurd cc

-- that of a refused file
pub refused_only : (end : CommandEnd) → status_of end ≡ 3 → (name : Bor (List ℕ)) × (r : TextFault) × (end ≡ ends.Refused name r)
refused_only (ends.Refused name r) is = (name, r, refl)
refused_only ends.Done is = absurd cc
refused_only ends.OutOfMemory is = absurd cc
refused_only ends.Usage is = absurd cc
refused_only (ends.CannotRead name) is = absurd cc
refused_only (ends.CannotStore name) is = absurd cc
refused_only ends.CannotWrite is = absurd cc
refused_only (ends.LineRefused number) is = absurd cc
refused_only ends.NetworkFault is = absurd cc
refused_only (ends.Threw text) is = absurd cc
refused_only ends.ThrewUnshown is = absurd cc
refused_only (ends.PeerClosed replies) is = absurd cc
refused_only ends.TicketsSpent is = absurd cc

-- that of a refused line
pub line_only : (end : CommandEnd) → status_of end ≡ 6 → (number : ℕ) × (end ≡ ends.LineRefused number)
line_only (ends.LineRefused number) is = (number, refl)
line_only ends.Done is = absurd cc
line_only ends.OutOfMemory is = absurd cc
line_only ends.Usage is = absurd cc
line_only (ends.Refused name r) is = absurd cc
line_only (ends.CannotRead name) is = absurd cc
line_only (ends.CannotStore name) is = absurd cc
line_only ends.CannotWrite is = absurd cc
line_only ends.NetworkFault is = absurd cc
line_only (ends.Threw text) is = absurd cc
line_only ends.ThrewUnshown is = absurd cc
line_only (ends.PeerClosed replies) is = absurd cc
line_only ends.TicketsSpent is = absurd cc
