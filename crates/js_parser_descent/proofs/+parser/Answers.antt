use Rattle.std.proofs.Common.{rules, ◌≡◌, ◌≤◌, ◌-◌, ℕ, zero, suc, List, refl, sym, ◌∙◌, arith, true, false, map}
use Rattle.std.proofs.lemmas.Result.{err_from_is_err_and}
use Rattle.js_lexer.specs.declared.token.TokenKind.TheVariants as kinds
use Rattle.js_parser_language.specs.Tokens.{Token, fixed, head_of}
use Rattle.js_tree.specs.Trees.{Identifier}
use Rattle.js_parser_language.specs.Well.{StatementContext}
use Rattle.js_tree.specs.Views.{declarator_view, expression_view, parameters_view, statement_view}
use Rattle.js_parser_readers.specs.Reading.{no_state, after, goes_on, ends}
use Rattle.js_parser_readers.specs.Productions.{braces, one_of}
use Rattle.js_parser_readers.specs.Parsing.{below, property_at, if_at, statement}
use Rattle.js_parser_readers.specs.Views.{tokens_view}
use Rattle.js_parser_readers.proofs.LeafLemmas.{short, shorter}
use Rattle.js_parser_readers.proofs.LinkLemmas.{links_deep, links_more, chain_deep, chain_more}
use Rattle.js_parser_readers.proofs.ListReadLemmas.{elements_init, elements_next, others_init, others_next, others_smaller, members_init, members_next, member_shorter, last_height, last_property_height}
use Rattle.js_parser_readers.proofs.LoopStepLemmas.{elements_none, elements_fail, elements_end, elements_stop, others_none, others_fail, map_push, less_by_view, length_view, less_in_view}
use Rattle.js_parser_descent.proofs.+parser.Goals as goal
use Rattle.js_parser_descent.proofs.+parser.Goals.{primaries::function_at-then-is_name_next+in_ok-text+in_ok-from_slice, primaries::function_at-else-is_name_next}
use Rattle.js_parser_readers.specs.Context.{context_view}
use Rattle.js_parser_readers.proofs.ListLemmas.{map_push as map_pushed, statements_begin, statements_go_on, statements_end, statements_fail, declarators_begin, declarators_go_on, declarators_shorten, declarators_end, declarators_fail}
use Rattle.js_parser_readers.proofs.ShorterLemmas.{item_shorter}
use Rattle.js_parser_readers.proofs.StatementLemmas.{expect_found, names_kept, no_finalizer}
use Rattle.js_parser_readers.proofs.ClassLemmas.{first_function, first_lexical, first_semicolon, from_next, key_number, key_string, key_word, link_dot, prefix_delete, prefix_unary, prefix_update, start_brace, start_function, update_next}
use Rattle.js_parser_readers.proofs.PlacedLemmas.{closed, closed_twice, loosely, nothing, then, then_both}
use Rattle.js_parser_readers.proofs.PlacedListLemmas.{element_last, element_more, elements_over, listed_more, other_more, turn_next}
use Rattle.js_parser_readers.proofs.PlacedNameLemmas.{listed, parameters_placed}
use Rattle.js_parser_readers.proofs.PlacedTokenLemmas.{ended_so, expected, expected_near, let_expected, let_here, named, named_freshly, named_so, symbol, tested, worded}
use Rattle.js_parser_readers.specs.Placed.{Placed}
use Rattle.js_parser_language.specs.Flat.{a, flat_arrow_parameters, flat_optional_name}
use Rattle.js_parser_language.specs.Boxes.{unboxed}
use Rattle.js_parser_language.specs.Places.{declarator_places, expression_places, optional_places, plain, property_places, statement_places}

-- a block with room for it is read with one level less
block_read : (n : ℕ)
    → 1 ≤ n
    → (context : StatementContext) (names : List Identifier) (ts : List Token)
    → (below n).block context names ts ≡ braces (below (n - 1)) context names ts
unfolding below
block_read zero l context names ts = absurd (omega (arith, l))
block_read (suc n) l context names ts = let e : (suc n) - 1 ≡ n = omega arith in rw e refl

pub lists::elements_before-elements-init : goal.lists::elements_before-elements-init
lists::elements_before-elements-init t c = record {
  read = rw c.new-items.ensures.items (elements_init c.args.room c.args.closer (tokens_view c.args.tokens.now));
  placed = rw c.new-items.ensures.items nothing;
}

pub lists::elements_before-returns-then-is_next-clause-gives :
    goal.lists::elements_before-returns-then-is_next-clause-gives
lists::elements_before-returns-then-is_next-clause-gives t c = rw c.tail.ensures
    (elements_none (one_of (below c.args.room).assignment)
    no_state c.args.closer _ _ tt _ c.elements.invariant.read.reads (sym c.is_next.ensures ∙ c.if-is_next.true))

pub lists::elements_before-returns-in_err-item-clause-gives :
    goal.lists::elements_before-returns-in_err-item-clause-gives
lists::elements_before-returns-in_err-item-clause-gives t c =
    let p = err_from_is_err_and c.from_residual.result c.from_residual.ensures.1 in
    rw (p.1, p.2)
    (elements_fail (one_of (below c.args.room).assignment)
    no_state c.args.closer _ _ tt _ c.in_err-item.field-0.0 c.elements.invariant.read.reads
    (sym c.is_next.ensures ∙ c.if-is_next.false) c.in_err-item.ensures.gives)

pub lists::elements_before-elements-smaller : goal.lists::elements_before-elements-smaller
lists::elements_before-elements-smaller t c = less_by_view c.elements.rest.now c.in_ok-item.later.now
    c.tail-rest.result.now c.tail-rest.ensures
    (shorter (below c.args.room).assignment _ _ _ (short c.args.room).assignment c.in_ok-item.ensures.gives)

pub lists::elements_before-elements-preserved : goal.lists::elements_before-elements-preserved
lists::elements_before-elements-preserved t c = record {
  read = let g : after c.args.closer (head_of (tokens_view c.in_ok-item.later.now)) ≡ goes_on = search rules in
      rw (c.in_ok-push.ensures.items, c.into_inner.ensures, c.deeper-height.ensures, c.tail-rest.ensures)
      (elements_next c.args.room c.args.closer (tokens_view c.args.tokens.now)
      c.elements.items.items c.elements.height (tokens_view c.elements.rest.now)
      c.in_ok-item.item.value c.in_ok-item.item_height (tokens_view c.in_ok-item.later.now)
      c.elements.invariant.read (sym c.is_next.ensures ∙ c.if-is_next.false)
      c.in_ok-item.ensures.gives c.in_ok-item.ensures.height.0 c.in_ok-item.ensures.height.1 g);
  placed =
      let g : after c.args.closer (head_of (tokens_view c.in_ok-item.later.now)) ≡ goes_on = search rules in
      rw (c.in_ok-push.ensures.items, c.into_inner.ensures, map_pushed)
      (element_more c.args.closer (map expression_places c.elements.items.items)
      (expression_places c.in_ok-item.item.value)
      _ c.elements.invariant.placed c.in_ok-item.ensures.placed g c.tail-rest.ensures);
}

pub lists::elements_before-returns-in-Some-Ends-clause-gives :
    goal.lists::elements_before-returns-in-Some-Ends-clause-gives
lists::elements_before-returns-in-Some-Ends-clause-gives t c =
    let g : after c.args.closer (head_of (tokens_view c.in_ok-item.later.now)) ≡ ends = search rules in
    rw (c.in_ok-push.ensures.items, c.into_inner.ensures, map_push, c.tail-in-Some-Ends.ensures)
    (elements_end (one_of (below c.args.room).assignment)
    no_state c.args.closer _ _ tt _ _ _ c.elements.invariant.read.reads
    (sym c.is_next.ensures ∙ c.if-is_next.false) c.in_ok-item.ensures.gives g)

pub lists::elements_before-returns-in-Some-Ends-clause-height :
    goal.lists::elements_before-returns-in-Some-Ends-clause-height
lists::elements_before-returns-in-Some-Ends-clause-height t c = rw
    (c.in_ok-push.ensures.items, c.into_inner.ensures, c.deeper-height.ensures) (
      last_height c.elements.items.items c.in_ok-item.item.value c.elements.height c.in_ok-item.item_height
          c.elements.invariant.read.is_height c.in_ok-item.ensures.height.0,
      omega (arith, c.elements.invariant.read.low, c.in_ok-item.ensures.height.1),
    )

pub lists::elements_before-returns-in-None-clause-gives : goal.lists::elements_before-returns-in-None-clause-gives
lists::elements_before-returns-in-None-clause-gives t c = rw (← length_view c.in_ok-item.later.now)
    (elements_stop (one_of (below c.args.room).assignment)
    no_state c.args.closer _ _ tt _ _ _ c.elements.invariant.read.reads
    (sym c.is_next.ensures ∙ c.if-is_next.false) c.in_ok-item.ensures.gives (sym c.in-None.ensures))

pub objects::members_before-members-init : goal.objects::members_before-members-init
objects::members_before-members-init t c = record {
  read = rw c.new-members.ensures.items (members_init c.args.room (tokens_view c.args.tokens.now));
  placed = rw c.new-members.ensures.items nothing;
}

pub objects::members_before-returns-then-is_next-clause-gives :
    goal.objects::members_before-returns-then-is_next-clause-gives
objects::members_before-returns-then-is_next-clause-gives t c = rw c.tail.ensures
    (elements_none (one_of (λ r. property_at (below c.args.room) c.args.room r))
    no_state kinds.RightBrace _ _ tt _ c.members.invariant.read.reads (sym c.is_next.ensures ∙ c.if-is_next.true))

pub objects::members_before-returns-in_err-member-clause-gives :
    goal.objects::members_before-returns-in_err-member-clause-gives
objects::members_before-returns-in_err-member-clause-gives t c =
    let p = err_from_is_err_and c.from_residual.result c.from_residual.ensures.1 in
    rw (p.1, p.2)
    (elements_fail (one_of (λ r. property_at (below c.args.room) c.args.room r))
    no_state kinds.RightBrace _ _ tt _ c.in_err-member.field-0.0 c.members.invariant.read.reads
    (sym c.is_next.ensures ∙ c.if-is_next.false) c.in_err-member.ensures.gives)

pub objects::members_before-members-smaller : goal.objects::members_before-members-smaller
objects::members_before-members-smaller t c = less_by_view c.members.rest.now c.in_ok-member.later.now
    c.tail-rest.result.now c.tail-rest.ensures
    (member_shorter c.args.room _ _ _ c.in_ok-member.ensures.gives)

pub objects::members_before-members-preserved : goal.objects::members_before-members-preserved
objects::members_before-members-preserved t c = record {
  read = let g : after kinds.RightBrace (head_of (tokens_view c.in_ok-member.later.now)) ≡ goes_on = search rules in
      rw (c.in_ok-push.ensures.items, c.deeper-height.ensures, c.tail-rest.ensures)
      (members_next c.args.room (tokens_view c.args.tokens.now) c.members.members.items c.members.height
      (tokens_view c.members.rest.now) c.in_ok-member.member c.in_ok-member.member_height
      (tokens_view c.in_ok-member.later.now) c.members.invariant.read
      (sym c.is_next.ensures ∙ c.if-is_next.false)
      c.in_ok-member.ensures.gives c.in_ok-member.ensures.height.0 c.in_ok-member.ensures.height.1 g);
  placed =
      let g : after kinds.RightBrace (head_of (tokens_view c.in_ok-member.later.now)) ≡ goes_on = search rules in
      rw (c.in_ok-push.ensures.items, map_pushed)
      (element_more kinds.RightBrace (map property_places c.members.members.items)
      (property_places c.in_ok-member.member)
      _ c.members.invariant.placed c.in_ok-member.ensures.placed g c.tail-rest.ensures);
}

pub objects::members_before-returns-in-Some-Ends-clause-gives :
    goal.objects::members_before-returns-in-Some-Ends-clause-gives
objects::members_before-returns-in-Some-Ends-clause-gives t c =
    let g : after kinds.RightBrace (head_of (tokens_view c.in_ok-member.later.now)) ≡ ends = search rules in
    rw (c.in_ok-push.ensures.items, map_push, c.tail-in-Some-Ends.ensures)
    (elements_end (one_of (λ r. property_at (below c.args.room) c.args.room r))
    no_state kinds.RightBrace _ _ tt _ _ _ c.members.invariant.read.reads
    (sym c.is_next.ensures ∙ c.if-is_next.false) c.in_ok-member.ensures.gives g)

pub objects::members_before-returns-in-Some-Ends-clause-height :
    goal.objects::members_before-returns-in-Some-Ends-clause-height
objects::members_before-returns-in-Some-Ends-clause-height t c = rw
    (c.in_ok-push.ensures.items, c.deeper-height.ensures) (
      last_property_height c.members.members.items c.in_ok-member.member c.members.height c.in_ok-member.member_height
          c.members.invariant.read.is_height c.in_ok-member.ensures.height.0,
      omega (arith, c.members.invariant.read.low, c.in_ok-member.ensures.height.1),
    )

pub objects::members_before-returns-in-None-clause-gives : goal.objects::members_before-returns-in-None-clause-gives
objects::members_before-returns-in-None-clause-gives t c = rw (← length_view c.in_ok-member.later.now)
    (elements_stop (one_of (λ r. property_at (below c.args.room) c.args.room r))
    no_state kinds.RightBrace _ _ tt _ _ _ c.members.invariant.read.reads
    (sym c.is_next.ensures ∙ c.if-is_next.false) c.in_ok-member.ensures.gives (sym c.in-None.ensures))

pub lists::more_assignments-others-init : goal.lists::more_assignments-others-init
lists::more_assignments-others-init t c = record {
  read =
      rw (c.new-items.ensures.items, c.nothing_read-height.ensures.height, c.nothing_read-height.ensures.tokens)
      (others_init c.args.room (tokens_view c.args.tokens.now));
  placed = rw (c.new-items.ensures.items, c.nothing_read-height.ensures.tokens) nothing;
}

pub lists::more_assignments-returns-then-not-is_next-clause-gives :
    goal.lists::more_assignments-returns-then-not-is_next-clause-gives
lists::more_assignments-returns-then-not-is_next-clause-gives t c = others_none (one_of (below c.args.room).assignment)
    no_state _ _ tt _ c.others.invariant.read.reads (sym c.is_next.ensures ∙ c.if-not-is_next.true)

pub lists::more_assignments-returns-in_err-item-clause-gives :
    goal.lists::more_assignments-returns-in_err-item-clause-gives
lists::more_assignments-returns-in_err-item-clause-gives t c =
    let p = err_from_is_err_and c.from_residual.result c.from_residual.ensures.1 in
    rw (p.1, p.2)
    (others_fail (one_of (below c.args.room).assignment)
    no_state _ _ tt _ c.in_err-item.field-0.0 c.others.invariant.read.reads
    (sym c.is_next.ensures ∙ c.if-not-is_next.false) (rw c.tail.ensures at c.in_err-item.ensures.gives))

pub lists::more_assignments-others-smaller : goal.lists::more_assignments-others-smaller
lists::more_assignments-others-smaller t c = others_smaller c.args.room c.others.rest.now c.in_ok-item.later.now _
    (rw c.tail.ensures at c.in_ok-item.ensures.gives)

pub lists::more_assignments-others-preserved : goal.lists::more_assignments-others-preserved
lists::more_assignments-others-preserved t c = record {
  read =
      rw (c.in_ok-push.ensures.items, c.into_inner.ensures, c.deeper-height.ensures)
      (others_next c.args.room (tokens_view c.args.tokens.now) c.others.items.items c.others.height
      (tokens_view c.others.rest.now) c.in_ok-item.item.value c.in_ok-item.item_height
      (tokens_view c.in_ok-item.later.now) c.others.invariant.read
      (sym c.is_next.ensures ∙ c.if-not-is_next.false) (rw c.tail.ensures at c.in_ok-item.ensures.gives)
      c.in_ok-item.ensures.height.0 c.in_ok-item.ensures.height.1);
  placed =
      rw (c.in_ok-push.ensures.items, c.into_inner.ensures, map_pushed)
      (other_more (map expression_places c.others.items.items) (expression_places c.in_ok-item.item.value)
      _ c.others.invariant.placed (sym c.is_next.ensures ∙ c.if-not-is_next.false)
      c.tail.ensures c.in_ok-item.ensures.placed);
}

pub calls::links_at-returns-then-object_height-room-clause-gives :
    goal.calls::links_at-returns-then-object_height-room-clause-gives
calls::links_at-returns-then-object_height-room-clause-gives t c = rw (← length_view c.tail.result.now, c.tail.ensures)
    (links_deep (below c.args.room) c.args.room c.args.turns (expression_view c.args.object.value) c.in-Some.link
    (tokens_view c.args.tokens.now) c.in-Some.ensures (omega arith) (omega arith))

pub calls::links_at-returns-clause-gives : goal.calls::links_at-returns-clause-gives
calls::links_at-returns-clause-gives t c = rw
    (links_more (below c.args.room) c.args.room c.args.turns (expression_view c.args.object.value)
    (expression_view c.in_ok-tree.tree.value) c.in-Some.link (tokens_view c.args.tokens.now)
    (tokens_view c.in_ok-tree.rest.now) c.in-Some.ensures (omega arith) c.in_ok-tree.ensures.gives (omega arith))
    c.links_at.ensures.gives

pub operators::chain_at-returns-then-left_height-room-clause-gives :
    goal.operators::chain_at-returns-then-left_height-room-clause-gives
operators::chain_at-returns-then-left_height-room-clause-gives t c = rw
    (← length_view c.tail.result.now, c.tail.ensures)
    (chain_deep (below c.args.room) c.args.room c.args.least c.args.turns (expression_view c.args.left.value)
    c.in-Some.operator (tokens_view c.args.tokens.now) c.in-Some.ensures (omega arith) (omega arith))

pub operators::chain_at-returns-clause-gives : goal.operators::chain_at-returns-clause-gives
operators::chain_at-returns-clause-gives t c =
    let o = rw (c.above.ensures, c.tail-2.ensures) at c.in_ok-right.ensures.gives in
    let g = rw c.in_ok-joined.ensures.view at c.chain_at.ensures.gives in
    rw (chain_more (below c.args.room) c.args.room c.args.least c.args.turns (expression_view c.args.left.value)
    (expression_view c.in_ok-right.right.value) c.in-Some.operator (tokens_view c.args.tokens.now)
    (tokens_view c.in_ok-right.rest.now) c.in-Some.ensures (omega arith) o (omega arith))
    g

pub blocks::items_at-returns-in_err-item-clause-gives : goal.blocks::items_at-returns-in_err-item-clause-gives
blocks::items_at-returns-in_err-item-clause-gives t c =
    let p = err_from_is_err_and c.from_residual.result c.from_residual.ensures.1 in
    rw (p.1, p.2)
    (statements_fail c.args.room (context_view c.args.context) c.args.names (tokens_view c.args.tokens.now)
    (map statement_view c.items.items.items) c.items.read.0 c.items.names (tokens_view c.items.read.1.now)
    c.in_err-item.field-0.0 c.items.invariant.read (sym c.ends_list.ensures ∙ c.items-test.true)
    c.in_err-item.ensures.gives)

pub blocks::items_at-items-smaller : goal.blocks::items_at-items-smaller
blocks::items_at-items-smaller t c = less_in_view c.items.read.1.now c.in_ok-item.rest.now
    (item_shorter c.args.room (context_view c.args.context) c.items.names (tokens_view c.items.read.1.now)
    (statement_view c.in_ok-item.item) (tokens_view c.in_ok-item.rest.now) c.in_ok-item.ensures.gives)

pub blocks::items_at-items-preserved : goal.blocks::items_at-items-preserved
blocks::items_at-items-preserved t c = record {
  read =
      rw (c.in_ok-push.ensures.items, map_pushed, c.deeper.ensures, c.in_ok-item.ensures.names)
      (statements_go_on c.args.room (context_view c.args.context) c.args.names (tokens_view c.args.tokens.now)
      (map statement_view c.items.items.items) c.items.read.0 c.items.names (tokens_view c.items.read.1.now)
      (statement_view c.in_ok-item.item) c.in_ok-item.height (tokens_view c.in_ok-item.rest.now)
      c.items.invariant.read (sym c.ends_list.ensures ∙ c.items-test.true)
      c.in_ok-item.ensures.gives c.in_ok-item.ensures.height.0 c.in_ok-item.ensures.height.1);
  placed =
      rw (c.in_ok-push.ensures.items, map_pushed)
      (turn_next (map statement_places c.items.items.items) (statement_places c.in_ok-item.item)
      c.items.invariant.placed c.in_ok-item.ensures.placed);
}

pub blocks::items_at-returns-clause-gives : goal.blocks::items_at-returns-clause-gives
blocks::items_at-returns-clause-gives t c =
    rw c.statements_of.ensures.view
    (statements_end c.args.room (context_view c.args.context) c.args.names (tokens_view c.args.tokens.now)
    (map statement_view c.items.items.items) c.items.read.0 c.items.names (tokens_view c.items.read.1.now)
    c.items.invariant.read (sym c.ends_list.ensures ∙ c.items-test.false))

pub declarations::declarators_at-others-init : goal.declarations::declarators_at-others-init
declarations::declarators_at-others-init t c = record {
  read =
      rw (c.in_ok-push.ensures.items, c.new-items.ensures.items, c.in_ok-first.ensures.names)
      (declarators_begin c.args.room c.args.constant c.args.names.now (tokens_view c.args.tokens.now)
      (declarator_view c.in_ok-first.first) c.in_ok-first.height (tokens_view c.in_ok-first.rest.now)
      c.in_ok-first.ensures.gives c.in_ok-first.ensures.height.0 c.in_ok-first.ensures.height.1);
  placed = rw (c.in_ok-push.ensures.items, c.new-items.ensures.items) (then c.in_ok-first.ensures.placed nothing);
}

pub declarations::declarators_at-returns-in_err-item-clause-gives :
    goal.declarations::declarators_at-returns-in_err-item-clause-gives
declarations::declarators_at-returns-in_err-item-clause-gives t c =
    let p = err_from_is_err_and c.from_residual-in_err-item.result c.from_residual-in_err-item.ensures.1 in
    rw (p.1, p.2)
    (declarators_fail c.args.room c.args.constant c.args.names.now (tokens_view c.args.tokens.now)
    (map declarator_view c.others.items.items) c.others.read.0 c.others.names (tokens_view c.others.read.1.now)
    c.in_err-item.field-0.0 c.others.invariant.read (sym c.is_next.ensures ∙ c.others-test.true)
    (rw c.tail.ensures at c.in_err-item.ensures.gives))

pub declarations::declarators_at-others-smaller : goal.declarations::declarators_at-others-smaller
declarations::declarators_at-others-smaller t c = less_in_view c.others.read.1.now c.in_ok-item.rest.now
    (declarators_shorten c.args.room c.args.constant c.others.names (tokens_view c.others.read.1.now)
    (declarator_view c.in_ok-item.item) (tokens_view c.in_ok-item.rest.now)
    (sym c.is_next.ensures ∙ c.others-test.true) (rw c.tail.ensures at c.in_ok-item.ensures.gives))

pub declarations::declarators_at-others-preserved : goal.declarations::declarators_at-others-preserved
declarations::declarators_at-others-preserved t c = record {
  read =
      rw (c.in_ok-push-2.ensures.items, map_pushed, c.deeper.ensures, c.in_ok-item.ensures.names)
      (declarators_go_on c.args.room c.args.constant c.args.names.now (tokens_view c.args.tokens.now)
      (map declarator_view c.others.items.items) c.others.read.0 c.others.names
      (tokens_view c.others.read.1.now) (declarator_view c.in_ok-item.item) c.in_ok-item.height
      (tokens_view c.in_ok-item.rest.now) c.others.invariant.read (sym c.is_next.ensures ∙ c.others-test.true)
      (rw c.tail.ensures at c.in_ok-item.ensures.gives)
      c.in_ok-item.ensures.height.0 c.in_ok-item.ensures.height.1);
  placed =
      rw (c.in_ok-push-2.ensures.items, map_pushed)
      (listed_more (map declarator_places c.others.items.items) (declarator_places c.in_ok-item.item)
      _ c.others.invariant.placed (sym c.is_next.ensures ∙ c.others-test.true)
      c.tail.ensures c.in_ok-item.ensures.placed);
}

pub declarations::declarators_at-returns-clause-gives : goal.declarations::declarators_at-returns-clause-gives
declarations::declarators_at-returns-clause-gives t c =
    rw c.declarators_of.ensures.view
    (declarators_end c.args.room c.args.constant c.args.names.now (tokens_view c.args.tokens.now)
    (map declarator_view c.others.items.items) c.others.read.0 c.others.names (tokens_view c.others.read.1.now)
    c.others.invariant.read (sym c.is_next.ensures ∙ c.others-test.false))

pub declarations::item_at-returns-in-Block-clause-names : goal.declarations::item_at-returns-in-Block-clause-names
declarations::item_at-returns-in-Block-clause-names t c = names_kept c.args.room (context_view c.args.context)
    c.args.names.now (tokens_view c.args.tokens.now) c.statement_at.result
    (λ x. (statement_view x.0, tokens_view x.2.now)) c.statement_at.ensures.gives

pub declarations::item_at-returns-in-Continue-clause-names : goal.declarations::item_at-returns-in-Continue-clause-names
declarations::item_at-returns-in-Continue-clause-names t c = names_kept c.args.room (context_view c.args.context)
    c.args.names.now (tokens_view c.args.tokens.now) c.statement_at-in-Continue.result
    (λ x. (statement_view x.0, tokens_view x.2.now)) c.statement_at-in-Continue.ensures.gives

pub declarations::item_at-returns-in-Debugger-clause-names : goal.declarations::item_at-returns-in-Debugger-clause-names
declarations::item_at-returns-in-Debugger-clause-names t c = names_kept c.args.room (context_view c.args.context)
    c.args.names.now (tokens_view c.args.tokens.now) c.statement_at-in-Debugger.result
    (λ x. (statement_view x.0, tokens_view x.2.now)) c.statement_at-in-Debugger.ensures.gives

pub exceptions::finalizer_at-returns-clause-gives : goal.exceptions::finalizer_at-returns-clause-gives
exceptions::finalizer_at-returns-clause-gives t c =
    no_finalizer (below c.args.room) (context_view c.args.context) c.args.handler.now (tokens_view c.args.tokens.now)
    (rw c.if-is_none.false at c.is_none.ensures) (sym c.is_next.ensures ∙ c.if-is_next.false)

pub statements::if_at-returns-in_err-alternate-clause-gives :
    goal.statements::if_at-returns-in_err-alternate-clause-gives
unfolding if_at
statements::if_at-returns-in_err-alternate-clause-gives t c =
    let e = expect_found kinds.Else (tokens_view c.in_ok-consequent.rest.now)
    (sym c.is_next.ensures ∙ c.if-is_next.true) in
    search (rules, e)

pub statements::if_at-returns-then-is_next-clause-gives : goal.statements::if_at-returns-then-is_next-clause-gives
unfolding if_at
statements::if_at-returns-then-is_next-clause-gives t c =
    let e = expect_found kinds.Else (tokens_view c.in_ok-consequent.rest.now)
    (sym c.is_next.ensures ∙ c.if-is_next.true) in
    search (rules, e)

pub statements::statement_at-returns-in-Debugger-clause-gives :
    goal.statements::statement_at-returns-in-Debugger-clause-gives
unfolding statement
statements::statement_at-returns-in-Debugger-clause-gives t c =
    let e = c.debugger_at.ensures.gives c.args.room (context_view c.args.context) in
    search (rules, e)

pub statements::return_at-returns-then-ends_return-clause-placed :
    goal.statements::return_at-returns-then-ends_return-clause-placed
statements::return_at-returns-then-ends_return-clause-placed t c = closed _
    (then (expected _ _ _ _ c.in_ok-rest.ensures) (ended_so _ _ _ _ c.in_ok-rest-2.ensures))
    c.in_ok-node.ensures.span c.in_ok-node.ensures.number c.return_statement.ensures.places

pub statements::return_at-returns-clause-placed : goal.statements::return_at-returns-clause-placed
statements::return_at-returns-clause-placed t c = closed _
    (then (expected _ _ _ _ c.in_ok-rest.ensures) c.in_ok-value.ensures.placed)
    c.in_ok-node-2.ensures.span c.in_ok-node-2.ensures.number c.return_statement-2.ensures.places

pub statements::if_at-returns-then-is_next-clause-placed : goal.statements::if_at-returns-then-is_next-clause-placed
statements::if_at-returns-then-is_next-clause-placed t c = closed _
    (then (expected _ _ _ _ c.in_ok-rest.ensures)
    (then (then (expected _ _ _ _ c.in_ok-rest-2.ensures)
    (then c.in_ok-test.ensures.placed (expected _ _ _ _ c.in_ok-rest-3.ensures)))
    (then c.in_ok-consequent.ensures.placed
    (then (tested _ _ _ _ (sym c.is_next.ensures ∙ c.if-is_next.true) c.tail.ensures)
    (then c.in_ok-alternate.ensures.placed nothing)))))
    c.in_ok-node.ensures.span c.in_ok-node.ensures.number c.if_else_statement-tree.ensures.places

pub statements::if_at-returns-clause-placed : goal.statements::if_at-returns-clause-placed
statements::if_at-returns-clause-placed t c = closed _
    (then (expected _ _ _ _ c.in_ok-rest.ensures)
    (then (then (expected _ _ _ _ c.in_ok-rest-2.ensures)
    (then c.in_ok-test.ensures.placed (expected _ _ _ _ c.in_ok-rest-3.ensures)))
    (then c.in_ok-consequent.ensures.placed nothing)))
    c.in_ok-node-2.ensures.span c.in_ok-node-2.ensures.number c.if_statement-tree.ensures.places

pub statements::block_at-returns-clause-placed : goal.statements::block_at-returns-clause-placed
statements::block_at-returns-clause-placed t c = closed _ (then c.in_ok-body.ensures.placed nothing)
    c.in_ok-node.ensures.span c.in_ok-node.ensures.number (c.block_statement.ensures.places ∙ c.block.ensures.places)

pub statements::ended_expression-returns-clause-placed : goal.statements::ended_expression-returns-clause-placed
statements::ended_expression-returns-clause-placed t c = (then c.in_ok-tree.ensures.placed
    (ended_so _ _ _ _ c.in_ok-rest.ensures))

pub statements::optional_before-returns-then-is_next-clause-placed :
    goal.statements::optional_before-returns-then-is_next-clause-placed
statements::optional_before-returns-then-is_next-clause-placed t c = (tested _ _ _ _
    (sym c.is_next.ensures ∙ c.if-is_next.true) c.tail.ensures)

pub statements::optional_before-returns-clause-placed : goal.statements::optional_before-returns-clause-placed
statements::optional_before-returns-clause-placed t c = (then c.in_ok-tree.ensures.placed
    (expected _ _ _ _ c.in_ok-rest.ensures))

pub statements::expression_statement_at-returns-clause-placed :
    goal.statements::expression_statement_at-returns-clause-placed
statements::expression_statement_at-returns-clause-placed t c = closed _ c.in_ok-tree.ensures.placed
    c.in_ok-node.ensures.span c.in_ok-node.ensures.number c.expression_statement.ensures.places

pub statements::throw_at-returns-clause-placed : goal.statements::throw_at-returns-clause-placed
statements::throw_at-returns-clause-placed t c = closed _
    (then (expected _ _ _ _ c.in_ok-rest.ensures) c.in_ok-value.ensures.placed)
    c.in_ok-node.ensures.span c.in_ok-node.ensures.number c.throw_statement.ensures.places

pub statements::statement_below-returns-clause-placed : goal.statements::statement_below-returns-clause-placed
statements::statement_below-returns-clause-placed t c = rw c.in_ok-boxed.ensures c.in_ok-tree.ensures.placed

pub statements::statement_at-returns-in_ok-node-in-Semicolon-clause-placed :
    goal.statements::statement_at-returns-in_ok-node-in-Semicolon-clause-placed
statements::statement_at-returns-in_ok-node-in-Semicolon-clause-placed t c = rw c.empty_statement.ensures.places
    (c.in_ok-node-in-Semicolon.ensures.placed (fixed kinds.Semicolon) (first_semicolon _ (sym c.in-Semicolon.ensures)))

pub statements::statement_at-returns-in-Block-clause-placed :
    goal.statements::statement_at-returns-in-Block-clause-placed
statements::statement_at-returns-in-Block-clause-placed t c = c.block_at.ensures.placed

pub statements::statement_at-returns-in-If-clause-placed : goal.statements::statement_at-returns-in-If-clause-placed
statements::statement_at-returns-in-If-clause-placed t c = c.if_at.ensures.placed

pub statements::statement_at-returns-in-Do-clause-placed : goal.statements::statement_at-returns-in-Do-clause-placed
statements::statement_at-returns-in-Do-clause-placed t c = c.do_at.ensures.placed

pub statements::statement_at-returns-in-While-clause-placed :
    goal.statements::statement_at-returns-in-While-clause-placed
statements::statement_at-returns-in-While-clause-placed t c = c.while_at.ensures.placed

pub statements::statement_at-returns-in-For-clause-placed : goal.statements::statement_at-returns-in-For-clause-placed
statements::statement_at-returns-in-For-clause-placed t c = c.for_at.ensures.placed

pub statements::statement_at-returns-in-Continue-clause-placed :
    goal.statements::statement_at-returns-in-Continue-clause-placed
statements::statement_at-returns-in-Continue-clause-placed t c = c.continue_at.ensures.placed

pub statements::statement_at-returns-in-Break-clause-placed :
    goal.statements::statement_at-returns-in-Break-clause-placed
statements::statement_at-returns-in-Break-clause-placed t c = c.break_at.ensures.placed

pub statements::statement_at-returns-in-Return-clause-placed :
    goal.statements::statement_at-returns-in-Return-clause-placed
statements::statement_at-returns-in-Return-clause-placed t c = c.return_at.ensures.placed

pub statements::statement_at-returns-in-Throw-clause-placed :
    goal.statements::statement_at-returns-in-Throw-clause-placed
statements::statement_at-returns-in-Throw-clause-placed t c = c.throw_at.ensures.placed

pub statements::statement_at-returns-in-Try-clause-placed : goal.statements::statement_at-returns-in-Try-clause-placed
statements::statement_at-returns-in-Try-clause-placed t c = c.try_at.ensures.placed

pub statements::statement_at-returns-in-Debugger-clause-placed :
    goal.statements::statement_at-returns-in-Debugger-clause-placed
statements::statement_at-returns-in-Debugger-clause-placed t c = c.debugger_at.ensures.placed

pub statements::statement_at-returns-in-Expression-clause-placed :
    goal.statements::statement_at-returns-in-Expression-clause-placed
statements::statement_at-returns-in-Expression-clause-placed t c = c.expression_statement_at.ensures.placed

pub loops::do_at-returns-clause-placed : goal.loops::do_at-returns-clause-placed
loops::do_at-returns-clause-placed t c = closed _
    (then (expected _ _ _ _ c.in_ok-rest.ensures)
    (then c.in_ok-body.ensures.placed
    (then (expected _ _ _ _ c.in_ok-rest-2.ensures)
    (then (then (expected _ _ _ _ c.in_ok-rest-3.ensures)
    (then c.in_ok-test.ensures.placed (expected _ _ _ _ c.in_ok-rest-4.ensures)))
    (ended_so _ _ _ _ c.in_ok-rest-5.ensures)))))
    c.in_ok-node.ensures.span c.in_ok-node.ensures.number c.do_while_statement-tree.ensures.places

pub loops::while_at-returns-clause-placed : goal.loops::while_at-returns-clause-placed
loops::while_at-returns-clause-placed t c = closed _
    (then (expected _ _ _ _ c.in_ok-rest.ensures)
    (then (then (expected _ _ _ _ c.in_ok-rest-2.ensures)
    (then c.in_ok-test.ensures.placed (expected _ _ _ _ c.in_ok-rest-3.ensures)))
    (then c.in_ok-body.ensures.placed nothing)))
    c.in_ok-node.ensures.span c.in_ok-node.ensures.number c.while_statement-tree.ensures.places

pub loops::for_at-returns-in-Some-Each-clause-placed : goal.loops::for_at-returns-in-Some-Each-clause-placed
loops::for_at-returns-in-Some-Each-clause-placed t c = c.for_of_at.ensures.placed

pub loops::for_at-returns-in-Some-Declares-clause-placed : goal.loops::for_at-returns-in-Some-Declares-clause-placed
loops::for_at-returns-in-Some-Declares-clause-placed t c = c.for_lexical_at.ensures.placed

pub loops::for_at-returns-in-None-clause-placed : goal.loops::for_at-returns-in-None-clause-placed
loops::for_at-returns-in-None-clause-placed t c = c.for_plain_at.ensures.placed

pub loops::for_of_at-returns-clause-placed : goal.loops::for_of_at-returns-clause-placed
loops::for_of_at-returns-clause-placed t c = closed _
    (then (expected _ _ _ _ c.in_ok-rest.ensures)
    (then (expected _ _ _ _ c.in_ok-rest-2.ensures)
    (then (let_expected _ _ _ _ (rw c.let_kind.ensures at c.in_ok-rest-3.ensures))
    (then (named _ _ _ _ c.in_ok-text.ensures)
    (then (named_so _ _ _ _ c.in_ok-rest-4.ensures)
    (then c.in_ok-list.ensures.placed
    (then (expected _ _ _ _ c.in_ok-rest-5.ensures)
    (then c.in_ok-body.ensures.placed nothing))))))))
    c.in_ok-node.ensures.span c.in_ok-node.ensures.number
    (rw c.in_ok-name.ensures at c.for_of_statement-tree.ensures.places)

pub loops::for_plain_at-returns-clause-placed : goal.loops::for_plain_at-returns-clause-placed
loops::for_plain_at-returns-clause-placed t c = closed _
    (then (expected _ _ _ _ c.in_ok-rest.ensures)
    (then (expected _ _ _ _ c.in_ok-rest-2.ensures)
    (then_both (optional_places (unboxed c.in_ok-initializer.initializer)) (plain (a kinds.Semicolon))
    c.in_ok-initializer.ensures.placed
    (then_both (optional_places (unboxed c.in_ok-test.test)) (plain (a kinds.Semicolon))
    c.in_ok-test.ensures.placed
    (then_both (optional_places (unboxed c.in_ok-update.update)) (plain (a kinds.RightParenthesis))
    c.in_ok-update.ensures.placed (then c.in_ok-body.ensures.placed nothing))))))
    c.in_ok-node.ensures.span c.in_ok-node.ensures.number c.for_statement-tree.ensures.places

pub loops::for_lexical_at-returns-clause-placed : goal.loops::for_lexical_at-returns-clause-placed
loops::for_lexical_at-returns-clause-placed t c = closed _
    (then (expected _ _ _ _ c.in_ok-rest.ensures)
    (then (expected _ _ _ _ c.in_ok-rest-2.ensures)
    (then (let_expected _ _ _ _ (rw c.let_kind.ensures at c.in_ok-rest-3.ensures))
    (then c.in_ok-declarators.ensures.placed
    (then (expected _ _ _ _ c.in_ok-rest-4.ensures)
    (then_both (optional_places (unboxed c.in_ok-test.test)) (plain (a kinds.Semicolon))
    c.in_ok-test.ensures.placed
    (then_both (optional_places (unboxed c.in_ok-update.update))
    (plain (a kinds.RightParenthesis)) c.in_ok-update.ensures.placed
    (then c.in_ok-body.ensures.placed nothing))))))))
    c.in_ok-node.ensures.span c.in_ok-node.ensures.number c.for_lexical_statement-tree.ensures.places

pub exceptions::try_at-returns-clause-placed : goal.exceptions::try_at-returns-clause-placed
exceptions::try_at-returns-clause-placed t c = closed _
    (then (expected _ _ _ _ c.in_ok-rest.ensures)
    (then c.in_ok-block.ensures.placed
    (then c.in_ok-handler.ensures.placed (then c.in_ok-finalizer.ensures.placed nothing))))
    c.in_ok-node.ensures.span c.in_ok-node.ensures.number c.try_statement-tree.ensures.places

pub exceptions::handler_at-returns-then-not-is_next-clause-placed :
    goal.exceptions::handler_at-returns-then-not-is_next-clause-placed
exceptions::handler_at-returns-then-not-is_next-clause-placed t c = nothing

pub exceptions::handler_at-returns-clause-placed : goal.exceptions::handler_at-returns-clause-placed
exceptions::handler_at-returns-clause-placed t c = loosely
    (c.in_ok-handler.ensures.placed c.args.nodes.now (tokens_view c.args.tokens.now)
    (tested _ _ _ _ (sym c.is_next.ensures ∙ c.if-not-is_next.false) c.tail.ensures))

pub exceptions::catch_at-returns-then-not-is_next-clause-placed :
    goal.exceptions::catch_at-returns-then-not-is_next-clause-placed
exceptions::catch_at-returns-then-not-is_next-clause-placed t c = λ old ts p. rw c.catch_clause.ensures.places
    (then p (then c.in_ok-block.ensures.placed nothing))

pub exceptions::catch_at-returns-clause-placed : goal.exceptions::catch_at-returns-clause-placed
exceptions::catch_at-returns-clause-placed t c = λ old ts p. rw (c.catch_clause-2.ensures.places, c.in_ok-name.ensures)
    (then p (then
    (then (expected _ _ _ _ c.in_ok-rest.ensures)
    (then (named _ _ _ _ c.in_ok-text.ensures) (expected _ _ _ _ c.in_ok-rest-2.ensures)))
    (then c.in_ok-block-2.ensures.placed nothing)))

pub exceptions::finalizer_at-returns-then-is_next-clause-placed :
    goal.exceptions::finalizer_at-returns-then-is_next-clause-placed
exceptions::finalizer_at-returns-then-is_next-clause-placed t c = loosely
    (then (expected _ _ _ _ c.in_ok-rest.ensures) c.in_ok-block.ensures.placed)

pub exceptions::finalizer_at-returns-clause-placed : goal.exceptions::finalizer_at-returns-clause-placed
exceptions::finalizer_at-returns-clause-placed t c = nothing

pub blocks::block_below-returns-clause-gives : goal.blocks::block_below-returns-clause-gives
blocks::block_below-returns-clause-gives t c = rw c.block.ensures.view
    (block_read c.args.room (omega (arith, c.if-room-eq0.false)) _ _ _ ∙ c.in_ok-body.ensures.gives)

pub blocks::block_below-returns-clause-placed : goal.blocks::block_below-returns-clause-placed
blocks::block_below-returns-clause-placed t c = closed _ (then c.in_ok-body.ensures.placed nothing)
    c.in_ok-node.ensures.span c.in_ok-node.ensures.number c.block.ensures.places

pub blocks::function_below-returns-clause-placed : goal.blocks::function_below-returns-clause-placed
blocks::function_below-returns-clause-placed t c = c.code_at.ensures.placed

pub blocks::braces_at-returns-clause-placed : goal.blocks::braces_at-returns-clause-placed
blocks::braces_at-returns-clause-placed t c = (then (expected _ _ _ _ c.in_ok-rest.ensures)
    (then c.in_ok-body.ensures.placed (expected _ _ _ _ c.in_ok-rest-2.ensures)))

pub blocks::code_at-returns-clause-placed : goal.blocks::code_at-returns-clause-placed
blocks::code_at-returns-clause-placed t c = (then (parameters_placed _ _ _ _ c.in_ok-parameters.ensures.gives)
    (then c.in_ok-body.ensures.placed nothing))

pub blocks::items_at-items-init : goal.blocks::items_at-items-init
blocks::items_at-items-init t c = record {
  read =
      rw c.new-items.ensures.items
      (statements_begin c.args.room (context_view c.args.context) c.args.names (tokens_view c.args.tokens.now));
  placed = rw c.new-items.ensures.items nothing;
}

pub blocks::items_at-returns-clause-placed : goal.blocks::items_at-returns-clause-placed
blocks::items_at-returns-clause-placed t c = rw c.statements_of.ensures.places c.items.invariant.placed

pub declarations::item_below-returns-clause-placed : goal.declarations::item_below-returns-clause-placed
declarations::item_below-returns-clause-placed t c = c.item_at.ensures.placed

pub declarations::lexical_at-returns-clause-placed : goal.declarations::lexical_at-returns-clause-placed
declarations::lexical_at-returns-clause-placed t c = λ h. closed _
    (then (let_here _ _ _ _ h c.tail.ensures)
    (then c.in_ok-declarators.ensures.placed (ended_so _ _ _ _ c.in_ok-rest.ensures)))
    c.in_ok-node.ensures.span c.in_ok-node.ensures.number c.lexical_declaration-tree.ensures.places

pub declarations::declaration_at-returns-clause-placed : goal.declarations::declaration_at-returns-clause-placed
declarations::declaration_at-returns-clause-placed t c = λ h. closed _
    (then (symbol _ _ _ _ h c.tail.ensures)
    (then (named_freshly _ _ _ _ _ c.in_ok-text.ensures) c.in_ok-function.ensures.placed))
    c.in_ok-node.ensures.span c.in_ok-node.ensures.number
    (rw c.in_ok-name.ensures at c.function_declaration-tree.ensures.places)

pub declarations::declarator_at-returns-then-is_next-clause-placed :
    goal.declarations::declarator_at-returns-then-is_next-clause-placed
declarations::declarator_at-returns-then-is_next-clause-placed t c = rw
    (c.declarator.ensures.places, c.in_ok-name.ensures)
    (then (named_freshly _ _ _ _ _ c.in_ok-text.ensures)
    (then (tested _ _ _ _ (sym c.is_next.ensures ∙ c.if-is_next.true) c.tail.ensures) c.in_ok-value.ensures.placed))

pub declarations::declarator_at-returns-clause-placed : goal.declarations::declarator_at-returns-clause-placed
declarations::declarator_at-returns-clause-placed t c = rw (c.declarator-2.ensures.places, c.in_ok-name.ensures)
    (named_freshly _ _ _ _ _ c.in_ok-text.ensures)

pub declarations::declarators_at-returns-clause-placed : goal.declarations::declarators_at-returns-clause-placed
declarations::declarators_at-returns-clause-placed t c = rw c.declarators_of.ensures.places c.others.invariant.placed

pub declarations::item_at-returns-in-Lexical-clause-placed : goal.declarations::item_at-returns-in-Lexical-clause-placed
declarations::item_at-returns-in-Lexical-clause-placed t c = c.lexical_at.ensures.placed
    (first_lexical _ _ (sym c.in-Lexical.ensures))

pub declarations::item_at-returns-in-Function-clause-placed :
    goal.declarations::item_at-returns-in-Function-clause-placed
declarations::item_at-returns-in-Function-clause-placed t c = c.declaration_at.ensures.placed
    (first_function _ (sym c.in-Function.ensures))

pub declarations::item_at-returns-in-Block-clause-placed : goal.declarations::item_at-returns-in-Block-clause-placed
declarations::item_at-returns-in-Block-clause-placed t c = c.statement_at.ensures.placed

pub declarations::item_at-returns-in-Continue-clause-placed :
    goal.declarations::item_at-returns-in-Continue-clause-placed
declarations::item_at-returns-in-Continue-clause-placed t c = c.statement_at-in-Continue.ensures.placed

pub declarations::item_at-returns-in-Debugger-clause-placed :
    goal.declarations::item_at-returns-in-Debugger-clause-placed
declarations::item_at-returns-in-Debugger-clause-placed t c = c.statement_at-in-Debugger.ensures.placed

pub arrows::arrow_of_one-returns-clause-placed : goal.arrows::arrow_of_one-returns-clause-placed
arrows::arrow_of_one-returns-clause-placed t c = c.arrow_rest.ensures.placed c.args.nodes.now
    (rw c.in_ok-from_slice.ensures (named _ _ _ _ c.in_ok-text.ensures))

pub arrows::arrow_of_list-returns-clause-placed : goal.arrows::arrow_of_list-returns-clause-placed
arrows::arrow_of_list-returns-clause-placed t c = c.arrow_of_names.ensures.placed c.args.nodes.now
    (rw c.deref.ensures.value (listed _ _ _ _ _ c.in_ok-rest.ensures c.in_ok-names.ensures))

pub arrows::arrow_of_names-returns-clause-placed : goal.arrows::arrow_of_names-returns-clause-placed
arrows::arrow_of_names-returns-clause-placed t c = λ old p. c.arrow_rest.ensures.placed old
    (rw c.in_ok-names_of.ensures p)

pub arrows::arrow_rest-returns-then-is_next-clause-placed : goal.arrows::arrow_rest-returns-then-is_next-clause-placed
arrows::arrow_rest-returns-then-is_next-clause-placed t c = λ old p. c.arrow_block_at.ensures.placed old
    (then p (expected_near _ _ _ _ c.in_ok-rest.ensures))

pub arrows::arrow_rest-returns-clause-placed : goal.arrows::arrow_rest-returns-clause-placed
arrows::arrow_rest-returns-clause-placed t c = λ old p. closed _
    (then p (then (expected_near _ _ _ _ c.in_ok-rest.ensures) (then c.in_ok-body.ensures.placed nothing)))
    c.in_ok-node.ensures.span c.in_ok-node.ensures.number c.in_ok-tree.ensures.places

pub arrows::arrow_block_at-returns-clause-placed : goal.arrows::arrow_block_at-returns-clause-placed
arrows::arrow_block_at-returns-clause-placed t c = λ old p. closed _
    (then_both (plain (flat_arrow_parameters (parameters_view c.args.parameters))) (plain (a kinds.Arrow)) p
    (then c.in_ok-body.ensures.placed nothing))
    c.in_ok-node.ensures.span c.in_ok-node.ensures.number c.in_ok-tree.ensures.places

pub calls::call_below-returns-clause-placed : goal.calls::call_below-returns-clause-placed
calls::call_below-returns-clause-placed t c = c.call_at.ensures.placed

pub calls::call_at-returns-clause-placed : goal.calls::call_at-returns-clause-placed
calls::call_at-returns-clause-placed t c = c.links_at.ensures.placed c.args.nodes.now
    (rw c.in_ok-callee-2.ensures c.in_ok-callee.ensures.placed)

pub calls::links_at-returns-in_default-clause-placed : goal.calls::links_at-returns-in_default-clause-placed
calls::links_at-returns-in_default-clause-placed t c = λ old p. p

pub calls::links_at-returns-clause-placed : goal.calls::links_at-returns-clause-placed
calls::links_at-returns-clause-placed t c = λ old p. c.links_at.ensures.placed old
    (c.in_ok-tree.ensures.placed old c.in-Some.ensures p)

pub calls::linked_at-returns-in_ok-tree-in-Dot-clause-placed :
    goal.calls::linked_at-returns-in_ok-tree-in-Dot-clause-placed
calls::linked_at-returns-in_ok-tree-in-Dot-clause-placed t c = λ old l p. closed _
    (then p (then (symbol _ (fixed kinds.Dot) _ _ (link_dot _ (sym (rw c.in-Dot.is at l))) c.tail.ensures)
    (worded _ _ _ _ c.in_ok-text-in-Dot.ensures)))
    c.in_ok-node-in-Dot.ensures.span c.in_ok-node-in-Dot.ensures.number
    (rw c.in_ok-name-in-Dot.ensures at c.in_ok-tree-in-Dot.ensures.places)

pub calls::linked_at-returns-in-Key-clause-placed : goal.calls::linked_at-returns-in-Key-clause-placed
calls::linked_at-returns-in-Key-clause-placed t c = λ old l p. c.indexed_at.ensures.placed old p

pub calls::linked_at-returns-in-Arguments-clause-placed : goal.calls::linked_at-returns-in-Arguments-clause-placed
calls::linked_at-returns-in-Arguments-clause-placed t c = λ old l p. c.called_at.ensures.placed old p

pub calls::indexed_at-returns-clause-placed : goal.calls::indexed_at-returns-clause-placed
calls::indexed_at-returns-clause-placed t c = λ old p. closed _
    (then p (then (expected _ _ _ _ c.in_ok-rest.ensures)
    (then c.in_ok-key.ensures.placed (expected _ _ _ _ c.in_ok-rest-2.ensures))))
    c.in_ok-node.ensures.span c.in_ok-node.ensures.number c.in_ok-tree.ensures.places

pub calls::called_at-returns-clause-placed : goal.calls::called_at-returns-clause-placed
calls::called_at-returns-clause-placed t c = λ old p. closed_twice _ p
    (then (expected _ _ _ _ c.in_ok-rest.ensures) (c.in_ok-arguments.ensures.placed refl))
    c.in_ok-node.ensures.span c.in_ok-node.ensures.number c.in_ok-parentheses.ensures.span
    c.in_ok-parentheses.ensures.number c.in_ok-tree.ensures.places

pub expressions::expression_below-returns-clause-placed : goal.expressions::expression_below-returns-clause-placed
expressions::expression_below-returns-clause-placed t c = c.expression_at.ensures.placed

pub expressions::assignment_below-returns-clause-placed : goal.expressions::assignment_below-returns-clause-placed
expressions::assignment_below-returns-clause-placed t c = c.assignment_at.ensures.placed

pub expressions::expression_at-returns-then-is_next-clause-placed :
    goal.expressions::expression_at-returns-then-is_next-clause-placed
expressions::expression_at-returns-then-is_next-clause-placed t c = c.comma_at.ensures.placed c.args.nodes.now
    c.in_ok-first.ensures.placed

pub expressions::expression_at-returns-else-is_next-clause-placed :
    goal.expressions::expression_at-returns-else-is_next-clause-placed
expressions::expression_at-returns-else-is_next-clause-placed t c = c.in_ok-first.ensures.placed

pub expressions::comma_at-returns-clause-placed : goal.expressions::comma_at-returns-clause-placed
expressions::comma_at-returns-clause-placed t c = λ old p. closed _ (then (then p c.in_ok-items.ensures.placed) nothing)
    c.in_ok-node.ensures.span c.in_ok-node.ensures.number
    (rw (c.expressions_of.ensures.places, c.in_ok-insert.ensures.items, c.into_inner.ensures)
    at c.in_ok-tree.ensures.places)

pub expressions::assignment_at-returns-in-Some-Name-clause-placed :
    goal.expressions::assignment_at-returns-in-Some-Name-clause-placed
expressions::assignment_at-returns-in-Some-Name-clause-placed t c = c.arrow_of_one.ensures.placed

pub expressions::assignment_at-returns-in-Some-List-clause-placed :
    goal.expressions::assignment_at-returns-in-Some-List-clause-placed
expressions::assignment_at-returns-in-Some-List-clause-placed t c = c.arrow_of_list.ensures.placed

pub expressions::assignment_at-returns-in_ok-first-in-None-clause-placed :
    goal.expressions::assignment_at-returns-in_ok-first-in-None-clause-placed
expressions::assignment_at-returns-in_ok-first-in-None-clause-placed t c = c.joined_at.ensures.placed c.args.nodes.now
    c.in_ok-first-in-None.ensures.placed

pub expressions::joined_at-returns-in-Some-Question-clause-placed :
    goal.expressions::joined_at-returns-in-Some-Question-clause-placed
expressions::joined_at-returns-in-Some-Question-clause-placed t c = λ old p. c.conditional_at.ensures.placed old p

pub expressions::joined_at-returns-in-Some-Assigns-clause-placed :
    goal.expressions::joined_at-returns-in-Some-Assigns-clause-placed
expressions::joined_at-returns-in-Some-Assigns-clause-placed t c = λ old p. c.assigned_at.ensures.placed old p

pub expressions::joined_at-returns-in-None-clause-placed : goal.expressions::joined_at-returns-in-None-clause-placed
expressions::joined_at-returns-in-None-clause-placed t c = λ old p. p

pub expressions::conditional_at-returns-clause-placed : goal.expressions::conditional_at-returns-clause-placed
expressions::conditional_at-returns-clause-placed t c = λ old p. closed _
    (then p (then (expected _ _ _ _ c.in_ok-rest.ensures)
    (then c.in_ok-consequent.ensures.placed
    (then (expected _ _ _ _ c.in_ok-rest-2.ensures) (then c.in_ok-alternate.ensures.placed nothing)))))
    c.in_ok-node.ensures.span c.in_ok-node.ensures.number c.in_ok-tree.ensures.places

pub expressions::assigned_at-returns-clause-placed : goal.expressions::assigned_at-returns-clause-placed
expressions::assigned_at-returns-clause-placed t c = λ old p. closed _
    (then p (then (expected _ _ _ _ (rw c.assignment_kind.ensures at c.in_ok-rest.ensures))
    (then c.in_ok-value.ensures.placed nothing)))
    c.in_ok-node.ensures.span c.in_ok-node.ensures.number c.in_ok-tree.ensures.places

pub lists::elements_before-returns-then-is_next-clause-placed :
    goal.lists::elements_before-returns-then-is_next-clause-placed
lists::elements_before-returns-then-is_next-clause-placed t c = λ apart. elements_over c.args.closer
    (map expression_places c.elements.items.items) _ c.elements.invariant.placed
    (sym c.is_next.ensures ∙ c.if-is_next.true) c.tail.ensures apart

pub lists::elements_before-returns-in-Some-Ends-clause-placed :
    goal.lists::elements_before-returns-in-Some-Ends-clause-placed
lists::elements_before-returns-in-Some-Ends-clause-placed t c = λ apart. let g : after c.args.closer
    (head_of (tokens_view c.in_ok-item.later.now)) ≡ ends = search rules in
    rw (c.in_ok-push.ensures.items, c.into_inner.ensures, map_pushed)
    (element_last c.args.closer (map expression_places c.elements.items.items)
    (expression_places c.in_ok-item.item.value)
    _ c.elements.invariant.placed c.in_ok-item.ensures.placed g c.tail-in-Some-Ends.ensures apart)

pub objects::members_before-returns-then-is_next-clause-placed :
    goal.objects::members_before-returns-then-is_next-clause-placed
objects::members_before-returns-then-is_next-clause-placed t c = elements_over kinds.RightBrace
    (map property_places c.members.members.items) _ c.members.invariant.placed
    (sym c.is_next.ensures ∙ c.if-is_next.true) c.tail.ensures refl

pub objects::members_before-returns-in-Some-Ends-clause-placed :
    goal.objects::members_before-returns-in-Some-Ends-clause-placed
objects::members_before-returns-in-Some-Ends-clause-placed t c = let g : after kinds.RightBrace
    (head_of (tokens_view c.in_ok-member.later.now)) ≡ ends = search rules in
    rw (c.in_ok-push.ensures.items, map_pushed)
    (element_last kinds.RightBrace (map property_places c.members.members.items)
    (property_places c.in_ok-member.member)
    _ c.members.invariant.placed c.in_ok-member.ensures.placed g c.tail-in-Some-Ends.ensures refl)

pub lists::arguments_before-returns-clause-placed : goal.lists::arguments_before-returns-clause-placed
lists::arguments_before-returns-clause-placed t c = λ apart. rw c.expressions_of.ensures.places
    (c.in_ok-items.ensures.placed apart)

pub lists::more_assignments-returns-then-not-is_next-clause-placed :
    goal.lists::more_assignments-returns-then-not-is_next-clause-placed
lists::more_assignments-returns-then-not-is_next-clause-placed t c = c.others.invariant.placed

pub objects::properties_at-returns-clause-placed : goal.objects::properties_at-returns-clause-placed
objects::properties_at-returns-clause-placed t c = rw c.properties_of.ensures.places c.in_ok-members.ensures.placed

pub objects::property_at-returns-then-is_shorthand-clause-placed :
    goal.objects::property_at-returns-then-is_shorthand-clause-placed
objects::property_at-returns-then-is_shorthand-clause-placed t c = rw
    (c.shorthand_property.ensures.places, c.in_ok-name.ensures) (named _ _ _ _ c.in_ok-text.ensures)

pub objects::property_at-returns-in-Some-Colon-clause-placed :
    goal.objects::property_at-returns-in-Some-Colon-clause-placed
objects::property_at-returns-in-Some-Colon-clause-placed t c = c.valued_at.ensures.placed c.args.nodes.now _
    (rw c.in_ok-key-2.ensures c.in_ok-key.ensures.placed)

pub objects::property_at-returns-in-Some-Parameters-clause-placed :
    goal.objects::property_at-returns-in-Some-Parameters-clause-placed
objects::property_at-returns-in-Some-Parameters-clause-placed t c = c.method_at.ensures.placed c.args.nodes.now
    (rw c.in_ok-key-2.ensures c.in_ok-key.ensures.placed)

pub objects::valued_at-returns-clause-placed : goal.objects::valued_at-returns-clause-placed
objects::valued_at-returns-clause-placed t c = λ old ts p. rw c.property.ensures.places
    (then p (then (expected _ _ _ _ c.in_ok-rest.ensures) (then c.in_ok-value.ensures.placed nothing)))

pub objects::method_at-returns-clause-placed : goal.objects::method_at-returns-clause-placed
objects::method_at-returns-clause-placed t c = λ old p. closed _ (then p c.in_ok-code.ensures.placed)
    c.in_ok-node.ensures.span c.in_ok-node.ensures.number c.method-tree.ensures.places

pub objects::key_at-returns-in_ok-name-in-Some-Word-clause-placed :
    goal.objects::key_at-returns-in_ok-name-in-Some-Word-clause-placed
objects::key_at-returns-in_ok-name-in-Some-Word-clause-placed t c = rw
    (c.word_key.ensures.places, c.in_ok-name-in-Some-Word.ensures)
    (symbol _ _ _ _ (key_word _ _ (sym (rw c.in-Some-Word.field-0-is at c.in-Some-Word.ensures))) c.tail.ensures)

pub objects::key_at-returns-in_ok-value-in-Some-String-clause-placed :
    goal.objects::key_at-returns-in_ok-value-in-Some-String-clause-placed
objects::key_at-returns-in_ok-value-in-Some-String-clause-placed t c = rw
    (c.string_key.ensures.places, c.in_ok-value-in-Some-String.ensures.value)
    (symbol _ _ _ _ (key_string _ _ (sym (rw c.in-Some-String.field-0-is at c.in-Some-String.ensures)))
    c.tail-in-Some-String.ensures)

pub objects::key_at-returns-in-Some-Number-clause-placed : goal.objects::key_at-returns-in-Some-Number-clause-placed
objects::key_at-returns-in-Some-Number-clause-placed t c = rw c.number_key.ensures.places
    (symbol _ _ _ _ (key_number _ _ (sym (rw c.in-Some-Number.field-0-is at c.in-Some-Number.ensures)))
    c.tail-in-Some-Number.ensures)

pub objects::key_at-returns-in_ok-rest-in-Some-Computed-2-clause-placed :
    goal.objects::key_at-returns-in_ok-rest-in-Some-Computed-2-clause-placed
objects::key_at-returns-in_ok-rest-in-Some-Computed-2-clause-placed t c = rw c.computed_key.ensures.places
    (then (expected _ _ _ _ c.in_ok-rest-in-Some-Computed.ensures)
    (then c.in_ok-key-in-Some-Computed.ensures.placed (expected _ _ _ _ c.in_ok-rest-in-Some-Computed-2.ensures)))

pub operators::operation_below-returns-clause-placed : goal.operators::operation_below-returns-clause-placed
operators::operation_below-returns-clause-placed t c = c.operation_at.ensures.placed

pub operators::unary_below-returns-clause-placed : goal.operators::unary_below-returns-clause-placed
operators::unary_below-returns-clause-placed t c = c.unary_at.ensures.placed

pub operators::operation_at-returns-clause-placed : goal.operators::operation_at-returns-clause-placed
operators::operation_at-returns-clause-placed t c = c.chain_at.ensures.placed c.args.nodes.now
    c.in_ok-left.ensures.placed

pub operators::chain_at-returns-in_default-clause-placed : goal.operators::chain_at-returns-in_default-clause-placed
operators::chain_at-returns-in_default-clause-placed t c = λ old p. p

pub operators::chain_at-returns-clause-placed : goal.operators::chain_at-returns-clause-placed
operators::chain_at-returns-clause-placed t c = λ old p. c.chain_at.ensures.placed old
    (closed _
    (then p (then (symbol _ _ _ _ (from_next _ _ _ (sym c.in-Some.ensures)) c.tail-2.ensures)
    (then c.in_ok-right.ensures.placed nothing)))
    c.in_ok-node.ensures.span c.in_ok-node.ensures.number c.in_ok-joined.ensures.places)

pub operators::unary_at-returns-in-Some-Delete-clause-placed :
    goal.operators::unary_at-returns-in-Some-Delete-clause-placed
operators::unary_at-returns-in-Some-Delete-clause-placed t c = c.deleted_at.ensures.placed
    (prefix_delete _ (sym (rw c.in-Some-Delete.field-0-is at c.in-Some-Delete.ensures)))

pub operators::unary_at-returns-in_ok-tree-in-Some-Unary-clause-placed :
    goal.operators::unary_at-returns-in_ok-tree-in-Some-Unary-clause-placed
operators::unary_at-returns-in_ok-tree-in-Some-Unary-clause-placed t c = closed _
    (then (symbol _ _ _ _ (prefix_unary _ _ (sym (rw c.in-Some-Unary.field-0-is at c.in-Some-Unary.ensures)))
    c.tail.ensures)
    (then c.in_ok-operand-in-Some-Unary.ensures.placed nothing))
    c.in_ok-node-in-Some-Unary.ensures.span c.in_ok-node-in-Some-Unary.ensures.number
    c.in_ok-tree-in-Some-Unary.ensures.places

pub operators::unary_at-returns-in-Some-Update-clause-placed :
    goal.operators::unary_at-returns-in-Some-Update-clause-placed
operators::unary_at-returns-in-Some-Update-clause-placed t c = c.updated_at.ensures.placed
    (prefix_update _ _ (sym (rw c.in-Some-Update.field-0-is at c.in-Some-Update.ensures)))

pub operators::unary_at-returns-in-None-clause-placed : goal.operators::unary_at-returns-in-None-clause-placed
operators::unary_at-returns-in-None-clause-placed t c = c.postfix_at.ensures.placed

pub operators::deleted_at-returns-clause-placed : goal.operators::deleted_at-returns-clause-placed
operators::deleted_at-returns-clause-placed t c = λ h. closed _
    (then (symbol _ _ _ _ h c.tail.ensures) (then c.in_ok-operand.ensures.placed nothing))
    c.in_ok-node.ensures.span c.in_ok-node.ensures.number c.in_ok-tree.ensures.places

pub operators::updated_at-returns-clause-placed : goal.operators::updated_at-returns-clause-placed
operators::updated_at-returns-clause-placed t c = λ h. closed _
    (then (symbol _ _ _ _ h c.tail.ensures) (then c.in_ok-operand.ensures.placed nothing))
    c.in_ok-node.ensures.span c.in_ok-node.ensures.number c.in_ok-tree.ensures.places

pub operators::postfix_at-returns-in_default-clause-placed : goal.operators::postfix_at-returns-in_default-clause-placed
operators::postfix_at-returns-in_default-clause-placed t c = c.in_ok-operand.ensures.placed

pub operators::postfix_at-returns-clause-placed : goal.operators::postfix_at-returns-clause-placed
operators::postfix_at-returns-clause-placed t c = closed _
    (then c.in_ok-operand.ensures.placed
    (symbol _ _ _ _ (update_next _ _ (sym c.in-Some.ensures)) c.tail-after.ensures))
    c.in_ok-node.ensures.span c.in_ok-node.ensures.number c.in_ok-tree.ensures.places

pub primaries::primary_at-returns-in-Bracket-clause-placed : goal.primaries::primary_at-returns-in-Bracket-clause-placed
primaries::primary_at-returns-in-Bracket-clause-placed t c = c.array_at.ensures.placed

pub primaries::primary_at-returns-in-Parenthesis-clause-placed :
    goal.primaries::primary_at-returns-in-Parenthesis-clause-placed
primaries::primary_at-returns-in-Parenthesis-clause-placed t c = c.parenthesized_at.ensures.placed

pub primaries::primary_at-returns-in-Brace-clause-placed : goal.primaries::primary_at-returns-in-Brace-clause-placed
primaries::primary_at-returns-in-Brace-clause-placed t c = c.object_at.ensures.placed
    (start_brace _ (sym c.in-Brace.ensures))

pub primaries::primary_at-returns-in-Function-clause-placed :
    goal.primaries::primary_at-returns-in-Function-clause-placed
primaries::primary_at-returns-in-Function-clause-placed t c = c.function_at.ensures.placed c.args.nodes.now
    (symbol _ (fixed kinds.Function) _ _ (start_function _ (sym c.in-Function.ensures)) c.tail.ensures)

pub primaries::primary_at-returns-in-This-clause-placed : goal.primaries::primary_at-returns-in-This-clause-placed
primaries::primary_at-returns-in-This-clause-placed t c = c.leaf_at.ensures.placed

pub primaries::primary_at-returns-in-Null-clause-placed : goal.primaries::primary_at-returns-in-Null-clause-placed
primaries::primary_at-returns-in-Null-clause-placed t c = c.leaf_at-in-Null.ensures.placed

pub primaries::parenthesized_at-returns-clause-placed : goal.primaries::parenthesized_at-returns-clause-placed
primaries::parenthesized_at-returns-clause-placed t c = closed _
    (then (expected _ _ _ _ c.in_ok-rest.ensures)
    (then c.in_ok-inner.ensures.placed (expected _ _ _ _ c.in_ok-rest-2.ensures)))
    c.in_ok-node.ensures.span c.in_ok-node.ensures.number c.parenthesized-tree.ensures.places

pub primaries::array_at-returns-clause-placed : goal.primaries::array_at-returns-clause-placed
primaries::array_at-returns-clause-placed t c = closed _
    (then (expected _ _ _ _ c.in_ok-rest.ensures) (c.in_ok-elements.ensures.placed refl))
    c.in_ok-node.ensures.span c.in_ok-node.ensures.number c.array.ensures.places

pub primaries::object_at-returns-clause-placed : goal.primaries::object_at-returns-clause-placed
primaries::object_at-returns-clause-placed t c = λ h. closed _
    (then (symbol _ _ _ _ h c.tail.ensures) c.in_ok-properties.ensures.placed)
    c.in_ok-node.ensures.span c.in_ok-node.ensures.number c.object.ensures.places

pub primaries::function_at-returns-clause-placed : goal.primaries::function_at-returns-clause-placed
primaries::function_at-returns-clause-placed t c = λ old p.
    let q : Placed false c.args.nodes.now c.args.nodes.now (plain (flat_optional_name c.if-is_name_next.text.0))
    (tokens_view c.args.tokens.now) (tokens_view c.if-is_name_next.text.1.now) =
    elim c.if-is_name_next.branch [
      | primaries::function_at-then-is_name_next+in_ok-text+in_ok-from_slice w ↦ rw
          (w.text-is, w.in_ok-from_slice.ensures) (loosely (named _ _ _ _ w.in_ok-text.ensures))
      | primaries::function_at-else-is_name_next w ↦ rw w.text-is nothing
    ] in
    closed _ (then p (then q c.in_ok-code.ensures.placed))
    c.in_ok-node.ensures.span c.in_ok-node.ensures.number c.function-tree.ensures.places
