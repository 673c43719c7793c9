use Rattle.std.proofs.Common.{◌∙◌, map, length, ap, sym, subst, arith}
use Rattle.std.proofs.lemmas.List.{length-map}
use Rattle.breakpoints.specs.PlaceIndex.{AreInOrder, HasOnly, session_of, stays, without_session}
use Rattle.breakpoints.proofs.HoldingLemmas.{kept-order, only-kept, others-kept}
use Rattle.breakpoints.proofs.place_index.PlaceIndex.set.Goals as goal

pub add-requires : goal.add-requires
add-requires c = record {
  ordered = c.self.invariant.ordered;
  beside =
      c.self.inside.sessions.ok.0 ∙ ap length c.self.invariant.beside
      ∙ length-map c.self.inside.pairs.items session_of ∙ sym c.self.inside.pairs.ok.0;
}

pub write_sessions-requires : goal.write_sessions-requires
write_sessions-requires c =
    omega (arith, c.as_slice.ensures.len, c.keep_only.ensures.len, c.in_ok-add.ensures.room)

pub invariant_of-self : goal.invariant_of-self
invariant_of-self c = record {
  ordered = subst AreInOrder (sym (c.in_err-add.ensures.kept)) c.self.invariant.ordered;
  beside = c.add.ensures.beside ∙ c.self.invariant.beside ∙ ap (map session_of) (sym c.in_err-add.ensures.kept);
}

pub invariant_of-self-2 : goal.invariant_of-self-2
invariant_of-self-2 c = record {
  ordered =
      kept-order (stays c.args.session c.args.places.now) c.add.new.pairs.items c.keep_only.new.pairs.items
      c.keep_only.ensures.kept c.in_ok-add.ensures.ordered;
  beside = c.write_sessions.ensures ∙ ap (map session_of) c.as_slice.ensures.value;
}

pub returns-clause-own : goal.returns-clause-own
returns-clause-own c =
    subst (HasOnly c.args.session c.args.places.now) (sym c.keep_only.ensures.kept)
    (only-kept c.args.session c.args.places.now c.self.inside.pairs.items c.add.new.pairs.items
    c.in_ok-add.ensures.added)

pub returns-clause-others : goal.returns-clause-others
returns-clause-others c =
    ap (without_session c.args.session) c.keep_only.ensures.kept
    ∙ others-kept c.args.session c.args.places.now c.self.inside.pairs.items c.add.new.pairs.items
    c.in_ok-add.ensures.added
    ∙ ap (without_session c.args.session) c.self.view_is
