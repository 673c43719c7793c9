use Rattle.std.proofs.Common.{◌∙◌, map, length, ap, sym, arith}
use Rattle.std.proofs.lemmas.List.{length-map}
use Rattle.breakpoints.specs.PlaceIndex.{is_of_another, session_of, without_session}
use Rattle.breakpoints.proofs.HoldingLemmas.{kept-order}
use Rattle.breakpoints.proofs.place_index.PlaceIndex.forget.Goals as goal

pub write_sessions-requires : goal.write_sessions-requires
write_sessions-requires c =
    let beside = c.self.inside.sessions.ok.0 ∙ ap length c.self.invariant.beside
    ∙ length-map c.self.inside.pairs.items session_of ∙ sym c.self.inside.pairs.ok.0 in
    omega (arith, c.as_slice.ensures.len, c.take_all.ensures.len, beside, c.self.inside.sessions.ok.1)

pub invariant_of-self : goal.invariant_of-self
invariant_of-self c = record {
  ordered =
      kept-order (is_of_another c.args.session) c.self.inside.pairs.items c.take_all.new.pairs.items
      c.take_all.ensures.kept c.self.invariant.ordered;
  beside = c.write_sessions.ensures ∙ ap (map session_of) c.as_slice.ensures.value;
}

pub returns : goal.returns
returns c = c.take_all.ensures.kept ∙ ap (without_session c.args.session) c.self.view_is
