use Rattle.std.proofs.Common.{rules, ◌≡◌, ◌∷◌, [], true, map, string_bytes, refl, ap}
use Rattle.cdp_host_isolation.specs.Seats.{is_attached, seat_of}
use Rattle.debug_host_commands.specs.Output.{Overran, output_text}
use Rattle.debug_host_commands.proofs.ActLemmas.{tell-kept, tell-overrun}
use Rattle.debug_host_commands.proofs.act.tell.Goals as goal

pub returns-in-Kept-clause-acts : goal.returns-in-Kept-clause-acts
returns-in-Kept-clause-acts c =
    let told = c.in-Kept.ensures in
    let held : is_attached (seat_of c.args.session c.args.host.now.meaning.seats) ≡ true = search rules in
    tell-kept c.args.host.now c.tell.new.self c.args.session c.args.text.now (map string_bytes c.new.result.items)
    c.requires held (told.kept refl) (told.stands_kept refl) (told.fits refl)
    (ap (map string_bytes) c.new.ensures.items)

pub returns-in_ok-vec-in-Overrun-clause-acts : goal.returns-in_ok-vec-in-Overrun-clause-acts
returns-in_ok-vec-in-Overrun-clause-acts c =
    let told = c.in-Overrun.ensures in
    let held : is_attached (seat_of c.args.session c.args.host.now.meaning.seats) ≡ true = search rules in
    let line : map string_bytes c.in_ok-vec-in-Overrun.field-0.items ≡ output_text (Overran c.args.session)
    ∷ [] = search rules in
    tell-overrun c.args.host.now c.tell.new.self c.args.session c.args.text.now
    (map string_bytes c.in_ok-vec-in-Overrun.field-0.items) c.requires held
    (told.overrun refl) (told.stands_overrun refl) (told.over refl) line
