use Rattle.std.proofs.Common.{rules, string_bytes}
use Rattle.serde_json.proofs.FreeTexts.{text_of_str}
use Rattle.cdp_door.proofs.text.quoted.Goals as goal

pub returns-in-Ok : goal.returns-in-Ok
returns-in-Ok c =
    let events = c.in-Ok.ensures.events in
    let text = text_of_str c.args.text.now events.0 (string_bytes c.in-Ok.quotation) events.1 events.2 in
    search (rules, text)
