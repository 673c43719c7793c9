use Rattle.std.proofs.Common.{◌≡◌, ◌++◌, take, drop, length, false, refl, ap, subst, sym, ◌∙◌}
use Rattle.cdp_host_isolation.specs.Histories.{Detach}
use Rattle.cdp_host_isolation.specs.Runs.{AllFit}
use Rattle.cdp_host_isolation.specs.Seats.{is_attached, put, seat_of}
use Rattle.cdp_host_seats.specs.Losses.{owner_told}
use Rattle.cdp_host_seats.proofs.PlacedLemmas.{put-back}
use Rattle.cdp_host.specs.Hosts.{CarriesOn, HostState, NoneAttached}
use Rattle.cdp_host.specs.Protocols.{protocol}
use Rattle.cdp_host.proofs.IndexLemmas.{put-indexed, told-stands}
use Rattle.cdp_host.proofs.LossLemmas.{loss-stands, put-gone, told-fits, told-gone}
use Rattle.cdp_host.proofs.ViewLemmas.{seen_as}
use Rattle.cdp_host.proofs.host.Host.tell_loss.Goals as goal
use Rattle.cdp_host_isolation.proofs.RoomLemmas.{put-fits}

pub invariant_of-self : goal.invariant_of-self
invariant_of-self c =
    let a = c.self.inside in
    let P = protocol a.scripts.now in
    let s = c.args.s in
    let news = c.tell_loss.new.seats in
    let rest = drop (length news) a.seats.items in
    let w = take a.seats.len (news ++ rest) in
    let gone : is_attached (seat_of s a.seats.items) ≡ false = subst
    (λ o. is_attached (seat_of s o.meaning.seats) ≡ false) (sym c.self.view_is) c.requires in
    let back : w ≡ put s (owner_told (seat_of s a.seats.items)) a.seats.items =
    put-back a.seats.len s (owner_told (seat_of s a.seats.items)) a.seats.items news rest
    (sym c.as_mut_slice.ensures.len ∙ ap length c.as_mut_slice.ensures.value)
    (c.tell_loss.ensures.seats ∙ ap (λ ss. put s (owner_told (seat_of s ss)) ss) c.as_mut_slice.ensures.value) in
    record {
      lines = c.self.invariant.lines;
      spots = c.self.invariant.spots;
      code = c.self.invariant.code;
      shared = c.self.invariant.shared;
      handed = c.self.invariant.handed;
      kept = c.self.invariant.kept;
      quiet = c.self.invariant.quiet;
      room = c.self.invariant.room;
      gone = c.self.invariant.gone;
      indexed =
          put-indexed s (owner_told (seat_of s a.seats.items)) a.seats.items w a.index
          (λ place. told-stands place (seat_of s a.seats.items)) back c.self.invariant.indexed;
      alone =
          λ fails. subst NoneAttached (sym back)
          (put-gone s (owner_told (seat_of s a.seats.items)) a.seats.items
          (told-gone (seat_of s a.seats.items) gone) (c.self.invariant.alone fails));
      fit =
          subst (AllFit P) (sym back)
          (put-fits P s (owner_told (seat_of s a.seats.items)) a.seats.items
          (told-fits a.scripts.now (seat_of s a.seats.items) gone) c.self.invariant.fit);
    }

pub returns-clause-stands : goal.returns-clause-stands
returns-clause-stands c =
    let a = c.self.inside in
    let now = c.args.self.now in
    let s = c.args.s in
    let news = c.tell_loss.new.seats in
    let rest = drop (length news) a.seats.items in
    let w = take a.seats.len (news ++ rest) in
    let h : HostState = seen_as a in
    let gone : is_attached (seat_of s a.seats.items) ≡ false = subst
    (λ o. is_attached (seat_of s o.meaning.seats) ≡ false) (sym c.self.view_is) c.requires in
    let back : w ≡ put s (owner_told (seat_of s a.seats.items)) a.seats.items =
    put-back a.seats.len s (owner_told (seat_of s a.seats.items)) a.seats.items news rest
    (sym c.as_mut_slice.ensures.len ∙ ap length c.as_mut_slice.ensures.value)
    (c.tell_loss.ensures.seats ∙ ap (λ ss. put s (owner_told (seat_of s ss)) ss) c.as_mut_slice.ensures.value) in
    subst (λ o. CarriesOn o (Detach s) (record h { meaning = record h.meaning { seats = w } })) c.self.view_is
    (subst (λ ss. CarriesOn h (Detach s) (record h { meaning = record h.meaning { seats = ss } })) (sym back)
    (loss-stands h s a.broken refl gone))
