use Rattle.std.proofs.Common.{◌≡◌, map, string_bytes, take}
use Rattle.cdp_session_messages.specs.Scripts.{script_parsed_text}
use Rattle.cdp_session_messages.proofs.scripts.script_texts.Given as goal

abbrev pub invariant-loop-script : goal.invariant-loop-script
invariant-loop-script l = map string_bytes l.texts.items ≡ map script_parsed_text (take l.script-index l.scripts)
