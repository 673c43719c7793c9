-- What a text that arrives is, as the code holds it.
use Rattle.std.specs.Option.{option_map}
use Rattle.cdp_client.specs.declared.arrival.ArrivedText.{ArrivedText as Held}
use Rattle.cdp_client.specs.declared.arrival.ArrivedText.TheVariants as held
use Rattle.cdp_client.specs.Arrivals.{ArrivedText, Reply, Event, Other}
use Rattle.cdp_client.specs.LineRead.{command_held}

-- what is held
abbrev pub arrival_held : Held → ArrivedText
arrival_held (held.Reply command) = Reply (command_held command)
arrival_held (held.Event method) = Event (option_map (λ text. text.now) method)
arrival_held held.Other = Other
