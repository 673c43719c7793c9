use Rattle.std.proofs.Common.{decimal, ap}
use Rattle.cdp_json.specs.Compact.{string_text}
use Rattle.cdp_json.proofs.PieceLemmas.{further, on-written, written-as}
use Rattle.cdp_json.proofs.PlaceTextLemmas.{place-written}
use Rattle.cdp_json.proofs.place_text.write_location.Goals as goal

pub returns : goal.returns
returns c =
    on-written c.put-4.result c.put-4.ensures.put
    (λ e. written-as (place-written c.args.place)
    (further c.in_ok-put.ensures.put
    (further (written-as (ap decimal c.from.ensures) c.in_ok-natural.ensures.put)
    (further c.in_ok-put-2.ensures.put
    (further (written-as (ap decimal c.from-2.ensures) c.in_ok-natural-2.ensures.put)
    (further c.in_ok-put-3.ensures.put
    (further (written-as (ap (λ n. string_text (decimal n)) c.from-3.ensures) c.in_ok-quoted_natural.ensures) e)))))))
