-- The names of the methods (Chrome DevTools Protocol 1.3).
use Rattle.std.specs.Prelude.{ℕ, List, bytes_eq, if◌then◌else◌, codes, Option, Some, None}
use Rattle.cdp_json.specs.declared.method.Method.{Method}
use Rattle.cdp_json.specs.declared.method.Method.TheVariants.{DebuggerEnable, DebuggerDisable, Pause, Resume, StepInto, StepOver, StepOut, ContinueToLocation, SetBreakpointByUrl, SetBreakpoint, RemoveBreakpoint, SetBreakpointsActive, SetSkipAllPauses, SetPauseOnExceptions, SetAsyncCallStackDepth, GetPossibleBreakpoints, GetScriptSource, EvaluateOnCallFrame, RuntimeEnable, RuntimeDisable, Evaluate, CallFunctionOn, GetProperties, ReleaseObject, ReleaseObjectGroup, GlobalLexicalScopeNames, RunIfWaitingForDebugger}

-- the method of this name
abbrev pub method_of : List ℕ → Option Method
method_of name =
    if bytes_eq name (codes "Debugger.enable") then Some DebuggerEnable
    else if bytes_eq name (codes "Debugger.disable") then Some DebuggerDisable
    else if bytes_eq name (codes "Debugger.pause") then Some Pause
    else if bytes_eq name (codes "Debugger.resume") then Some Resume
    else if bytes_eq name (codes "Debugger.stepInto") then Some StepInto
    else if bytes_eq name (codes "Debugger.stepOver") then Some StepOver
    else if bytes_eq name (codes "Debugger.stepOut") then Some StepOut
    else if bytes_eq name (codes "Debugger.continueToLocation") then Some ContinueToLocation
    else if bytes_eq name (codes "Debugger.setBreakpointByUrl") then Some SetBreakpointByUrl
    else if bytes_eq name (codes "Debugger.setBreakpoint") then Some SetBreakpoint
    else if bytes_eq name (codes "Debugger.removeBreakpoint") then Some RemoveBreakpoint
    else if bytes_eq name (codes "Debugger.setBreakpointsActive") then Some SetBreakpointsActive
    else if bytes_eq name (codes "Debugger.setSkipAllPauses") then Some SetSkipAllPauses
    else if bytes_eq name (codes "Debugger.setPauseOnExceptions") then Some SetPauseOnExceptions
    else if bytes_eq name (codes "Debugger.setAsyncCallStackDepth") then Some SetAsyncCallStackDepth
    else if bytes_eq name (codes "Debugger.getPossibleBreakpoints") then Some GetPossibleBreakpoints
    else if bytes_eq name (codes "Debugger.getScriptSource") then Some GetScriptSource
    else if bytes_eq name (codes "Debugger.evaluateOnCallFrame") then Some EvaluateOnCallFrame
    else if bytes_eq name (codes "Runtime.enable") then Some RuntimeEnable
    else if bytes_eq name (codes "Runtime.disable") then Some RuntimeDisable
    else if bytes_eq name (codes "Runtime.evaluate") then Some Evaluate
    else if bytes_eq name (codes "Runtime.callFunctionOn") then Some CallFunctionOn
    else if bytes_eq name (codes "Runtime.getProperties") then Some GetProperties
    else if bytes_eq name (codes "Runtime.releaseObject") then Some ReleaseObject
    else if bytes_eq name (codes "Runtime.releaseObjectGroup") then Some ReleaseObjectGroup
    else if bytes_eq name (codes "Runtime.globalLexicalScopeNames") then Some GlobalLexicalScopeNames
    else if bytes_eq name (codes "Runtime.runIfWaitingForDebugger") then Some RunIfWaitingForDebugger
    else None
