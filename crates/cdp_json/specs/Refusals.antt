-- The codes and messages of refusals (JSON-RPC 2.0, section 5.1).
use Rattle.std.specs.Prelude.{ℕ, ℤ, negsuc, List, ◌++◌, codes, decimal}
use Rattle.cdp_json.specs.declared.refusal.Refusal.{Refusal}
use Rattle.cdp_json.specs.declared.refusal.Refusal.TheVariants.{NotJson, NotObject, NoId, NoMethod, UnknownMethod, InvalidParameters, NotPaused, UnknownObject, UnknownFrame, UnknownScript, Unresolved, BreakpointExists, NotEnabled, BreakpointsFull, NeedsNoSideEffect, BudgetSpent, ScratchFull, ReferenceChainTooLong}
use Rattle.cdp_json.specs.declared.refusal.ScratchLimit.{ScratchLimit}
use Rattle.cdp_json.specs.declared.refusal.ScratchLimit.TheVariants.{Cells, Units}

-- -32700 of a text that isn't JSON, -32600 of what is no command, -32601 of an unknown method, -32602 of wrong
-- parameters, else -32000
abbrev pub code_of : Refusal → ℤ
code_of NotJson = negsuc 32699
code_of NotObject = negsuc 32599
code_of NoId = negsuc 32599
code_of NoMethod = negsuc 32599
code_of (UnknownMethod name) = negsuc 32600
code_of InvalidParameters = negsuc 32601
code_of NotPaused = negsuc 31999
code_of UnknownObject = negsuc 31999
code_of UnknownFrame = negsuc 31999
code_of (UnknownScript id) = negsuc 31999
code_of Unresolved = negsuc 31999
code_of BreakpointExists = negsuc 31999
code_of NotEnabled = negsuc 31999
code_of (BreakpointsFull count) = negsuc 31999
code_of NeedsNoSideEffect = negsuc 31999
code_of BudgetSpent = negsuc 31999
code_of (ScratchFull count what) = negsuc 31999
code_of ReferenceChainTooLong = negsuc 31999

-- what a limit counts
abbrev pub counted : ScratchLimit → List ℕ
counted Cells = codes " cells"
counted Units = codes " units"

-- the message, in units
abbrev pub message_of : Refusal → List ℕ
message_of NotJson = codes "Message must be a valid JSON"
message_of NotObject = codes "Message must be an object"
message_of NoId = codes "Message must have integer 'id' property"
message_of NoMethod = codes "Message must have string 'method' property"
message_of (UnknownMethod name) = codes "'" ++ name ++ codes "' wasn't found"
message_of InvalidParameters = codes "Invalid parameters"
message_of NotPaused = codes "Can only perform operation while paused."
message_of UnknownObject = codes "Could not find object with given id"
message_of UnknownFrame = codes "Could not find call frame with given id"
message_of (UnknownScript id) = codes "No script for id: " ++ id
message_of Unresolved = codes "Could not resolve breakpoint"
message_of BreakpointExists = codes "Breakpoint at specified location already exists."
message_of NotEnabled = codes "Debugger agent is not enabled"
message_of (BreakpointsFull count) = codes "Breakpoints are full: " ++ decimal count
message_of NeedsNoSideEffect = codes "Evaluation needs throwOnSideEffect"
message_of BudgetSpent = codes "Evaluation spent its budget of 100000 steps"
message_of (ScratchFull count what) = codes "Scratch heap is full: " ++ decimal count ++ counted what
message_of ReferenceChainTooLong = codes "Object reference chain is too long"
