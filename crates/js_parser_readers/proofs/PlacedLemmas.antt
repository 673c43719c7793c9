-- Pieces of a tree that follow one another in the tokens, and nodes that close over them.
use Rattle.std.proofs.Common.{◌≡◌, ℕ, zero, suc, ◌-◌, ◌<◌, ◌≤◌, Bool, true, false, ◌||◌, IsTrue, inl, inr, List, [], ◌∷◌, ◌++◌, length, refl, sym, ap, ◌∙◌, append_assoc, length-append, arith}
use Rattle.std.specs.Prelude.{◌==◌}
use Rattle.std.specs.List.{slice_get, All}
use Rattle.std.proofs.lemmas.List.Elements.{All-push}
use Rattle.std.proofs.lemmas.Bool.{eqb-true}
use Rattle.js_lexer.specs.declared.token.Token as lexer
use Rattle.js_tree.specs.declared.node.Span.{Span}
use Rattle.js_parser_language.specs.Tokens.{Token, head_of, tail_of}
use Rattle.js_parser_language.specs.Places.{FlatPlace, stands, stands_maybe, opens, closes, end_of, AreSpans}
use Rattle.js_tree.specs.Spans.{span_of}
use Rattle.js_parser_readers.specs.Views.{tokens_view}
use Rattle.js_parser_readers.specs.Places.{end_before, span_between}
use Rattle.js_parser_readers.specs.Placed.{GoesOn, AreNumbered, InPlace, Placed, AreInOrder, IsForward}
use Rattle.js_parser_readers.proofs.LoopStepLemmas.{append_nil}

-- ---- lists of spans

pub same_spans : (spans : List Span) → GoesOn spans spans
same_spans spans = record { more = []; is = sym (append_nil spans) }

pub goes_on : {a b c : List Span} → GoesOn a b → GoesOn b c → GoesOn a c
goes_on {a} {b} {c} p q = record { more = p.more ++ q.more; is = rw (q.is, p.is) (append_assoc a p.more q.more) }

-- one span more
pub one_more : {a b : List Span} (s : Span) → b ≡ a ++ s ∷ [] → GoesOn a b
one_more s e = record { more = s ∷ []; is = e }

last_index : (a : List Span) (s : Span) (more : List Span) → span_of ((a ++ s ∷ []) ++ more) (length a) ≡ s
last_index [] s more = refl
last_index (x ∷ a) s more = last_index a s more

-- the span of a node where it is the next one of the list, however the list goes on
numbered : {new spans : List Span} (old : List Span) (s : Span)
    → new ≡ old ++ s ∷ []
    → GoesOn new spans
    → span_of spans (length old) ≡ s
numbered {new} {spans} old s e g = rw (g.is, e) (last_index old s g.more)

-- ---- pieces one after another

-- two runs of places
runs : (spans : List Span) (ps qs : List FlatPlace) (before : ℕ) (ts mid left : List Token)
    → AreSpans spans ps before ts mid
    → ((before : ℕ) → AreSpans spans qs before mid left)
    → AreSpans spans (ps ++ qs) before ts left
runs spans [] qs before ts mid left p q = rw p (q before)
runs spans (opens n ∷ ps) qs before ts mid left p q = (p.0, runs spans ps qs before ts mid left p.1 q)
runs spans (closes n ∷ ps) qs before ts mid left p q = (p.0, runs spans ps qs before ts mid left p.1 q)
runs spans (stands s ∷ ps) qs before ts mid left p q =
    (p.0, runs spans ps qs (end_of (head_of ts)) (tail_of ts) mid left p.1 q)
runs spans (stands_maybe k ∷ ps) qs before ts mid left (inl p) q =
    inl (p.0, runs spans ps qs (end_of (head_of ts)) (tail_of ts) mid left p.1 q)
runs spans (stands_maybe k ∷ ps) qs before ts mid left (inr p) q = inr (p.0, runs spans ps qs before ts mid left p.1 q)

-- where the last of the tokens used ends
abbrev last_end : ℕ → List Token → ℕ
last_end before [] = before
last_end before (t ∷ ts) = last_end t.end ts

-- which tokens a run of places took
used : (spans : List Span) (ps : List FlatPlace) (before : ℕ) (ts left : List Token)
    → AreSpans spans ps before ts left
    → (us : List Token) × (ts ≡ us ++ left)
used spans [] before ts left p = ([], p)
used spans (opens n ∷ ps) before ts left p = used spans ps before ts left p.1
used spans (closes n ∷ ps) before ts left p = used spans ps before ts left p.1
used spans (stands s ∷ ps) before [] left p = absurd p.0
used spans (stands s ∷ ps) before (t ∷ ts) left p =
    let u = used spans ps t.end ts left p.1 in (t ∷ u.0, ap (λ us. t ∷ us) u.1)
used spans (stands_maybe k ∷ ps) before [] left (inl p) = absurd p.0
used spans (stands_maybe k ∷ ps) before (t ∷ ts) left (inl p) =
    let u = used spans ps t.end ts left p.1 in (t ∷ u.0, ap (λ us. t ∷ us) u.1)
used spans (stands_maybe k ∷ ps) before ts left (inr p) = used spans ps before ts left p.1

-- the end of a node that closes where a run of places ends
closed_run : (spans : List Span) (n : ℕ) (ps : List FlatPlace) (before : ℕ) (ts left : List Token)
    → AreSpans spans ps before ts left
    → ((us : List Token) → ts ≡ us ++ left → (span_of spans n).end ≡ last_end before us)
    → AreSpans spans (ps ++ closes n ∷ []) before ts left
closed_run spans n [] before ts left p e = (e [] p, p)
closed_run spans n (opens m ∷ ps) before ts left p e = (p.0, closed_run spans n ps before ts left p.1 e)
closed_run spans n (closes m ∷ ps) before ts left p e = (p.0, closed_run spans n ps before ts left p.1 e)
closed_run spans n (stands s ∷ ps) before [] left p e = absurd p.0
closed_run spans n (stands s ∷ ps) before (t ∷ ts) left p e =
    (p.0, closed_run spans n ps t.end ts left p.1 (λ us h. e (t ∷ us) (ap (λ us. t ∷ us) h)))
closed_run spans n (stands_maybe k ∷ ps) before [] left (inl p) e = absurd p.0
closed_run spans n (stands_maybe k ∷ ps) before (t ∷ ts) left (inl p) e =
    inl (p.0, closed_run spans n ps t.end ts left p.1 (λ us h. e (t ∷ us) (ap (λ us. t ∷ us) h)))
closed_run spans n (stands_maybe k ∷ ps) before ts left (inr p) e =
    inr (p.0, closed_run spans n ps before ts left p.1 e)

last_at : (before : ℕ) (u : Token) (us left : List Token)
    → end_of (slice_get (u ∷ (us ++ left)) (length us)) ≡ last_end before (u ∷ us)
last_at before u [] left = refl
last_at before u (v ∷ us) left = last_at u.end v us left

end_of_used : (before : ℕ) (us left : List Token)
    → length left < length (us ++ left)
    → end_before (us ++ left) left ≡ last_end before us
end_of_used before [] left h = absurd (omega arith)
end_of_used before (u ∷ us) left h =
    let n : length (u ∷ (us ++ left)) - length left - 1 ≡ length us = omega (arith, length-append us left) in
    rw n (last_at before u us left)

-- ---- numbers

-- two runs of places
numbered_runs : (first mid next : ℕ) (ps qs : List FlatPlace)
    → AreNumbered first ps mid
    → AreNumbered mid qs next
    → AreNumbered first (ps ++ qs) next
numbered_runs first mid next [] qs p q = rw p q
numbered_runs first mid next (opens n ∷ ps) qs p q = numbered_runs first mid next ps qs p q
numbered_runs first mid next (closes n ∷ ps) qs p q = (p.0, numbered_runs (suc first) mid next ps qs p.1 q)
numbered_runs first mid next (stands s ∷ ps) qs p q = numbered_runs first mid next ps qs p q
numbered_runs first mid next (stands_maybe k ∷ ps) qs p q = numbered_runs first mid next ps qs p q

one_longer : {new : List Span} (old : List Span) (s : Span) → new ≡ old ++ s ∷ [] → suc (length old) ≡ length new
one_longer old s e = rw e (omega (arith, length-append old (s ∷ [])))

-- ---- tokens in order

order_behind : (us left : List Token) → AreInOrder (us ++ left) → AreInOrder left
order_behind [] left i = i
order_behind (u ∷ us) left i = order_behind us left i.2

-- a token begins no later than one behind it ends
begins_first : (t : Token) (ts : List Token) (n : ℕ)
    → AreInOrder (t ∷ ts)
    → n < length (t ∷ ts)
    → t.start ≤ end_of (slice_get (t ∷ ts) n)
begins_first t ts zero i h = i.0
begins_first t [] (suc n) i h = absurd (omega (arith, h))
begins_first t (u ∷ ts) (suc n) i h =
    let rest = begins_first u ts n i.2 (omega (arith, h)) in
    omega (arith, i.0, i.1, rest)

span_forward : (ts left : List Token) → AreInOrder ts → length left < length ts → IsForward (span_between ts left)
span_forward [] left i h = absurd (omega (arith, h))
span_forward (t ∷ ts) left i h = begins_first t ts (length (t ∷ ts) - length left - 1) i (omega (arith, h))

one_forward : {new : List Span} (old : List Span) (s : Span)
    → new ≡ old ++ s ∷ []
    → All IsForward old
    → IsForward s
    → All IsForward new
one_forward old s e h f = rw e (All-push IsForward old s h f)

-- ---- what was read

-- nothing
nothing_stands : {spans : List Span} {ts : List Token} → InPlace false spans spans [] ts ts
nothing_stands {spans} {ts} =
    record { grew = same_spans spans; fewer = λ h. absurd cc; exact = λ later g before. refl; numbers = refl }

pub nothing : {spans : List Span} {ts : List Token} → Placed false spans spans [] ts ts
nothing {spans} {ts} = record { stands = nothing_stands; forward = λ i h. h }

either_some : (a b : Bool) (l m n : ℕ)
    → (IsTrue a → m < n)
    → (IsTrue b → l < m)
    → m ≤ n
    → l ≤ m
    → IsTrue (a || b)
    → l < n
either_some true b l m n p q le lf h = let k = p h in omega arith
either_some false b l m n p q le lf h = let k = q h in omega arith

no_longer : {some : Bool} {old new : List Span} {ps : List FlatPlace} {ts left : List Token}
    → InPlace some old new ps ts left
    → length left ≤ length ts
no_longer {some} {old} {new} {ps} {ts} {left} p =
    let u = used new ps 0 ts left (p.exact new (same_spans new) 0) in
    rw u.1 (omega (arith, length-append u.0 left))

-- the tokens that are left are in order
left_in_order : {some : Bool} {old new : List Span} {ps : List FlatPlace} {ts left : List Token}
    → InPlace some old new ps ts left
    → AreInOrder ts
    → AreInOrder left
left_in_order {some} {old} {new} {ps} {ts} {left} p i =
    let u = used new ps 0 ts left (p.exact new (same_spans new) 0) in
    order_behind u.0 left (rw u.1 at i)

-- and then
then_stands : {a b : Bool} {old mid new : List Span} {ps qs : List FlatPlace} {ts rest left : List Token}
    → InPlace a old mid ps ts rest
    → InPlace b mid new qs rest left
    → InPlace (a || b) old new (ps ++ qs) ts left
then_stands {a} {b} {old} {mid} {new} {ps} {qs} {ts} {rest} {left} p q = record {
  grew = goes_on p.grew q.grew;
  fewer = either_some a b (length left) (length rest) (length ts) p.fewer q.fewer (no_longer p) (no_longer q);
  exact =
      λ spans g before. runs spans ps qs before ts rest left (p.exact spans (goes_on q.grew g) before)
      (λ before. q.exact spans g before);
  numbers = numbered_runs (length old) (length mid) (length new) ps qs p.numbers q.numbers;
}

pub then : {a b : Bool} {old mid new : List Span} {ps qs : List FlatPlace} {ts rest left : List Token}
    → Placed a old mid ps ts rest
    → Placed b mid new qs rest left
    → Placed (a || b) old new (ps ++ qs) ts left
then p q =
    record {
      stands = then_stands p.stands q.stands;
      forward = λ i h. q.forward (left_in_order p.stands i)
          (p.forward i h);
    }

-- two pieces, and then
pub then_both : {a b : Bool} {old mid new : List Span} {rs : List FlatPlace} {ts rest left : List Token}
    (ps qs : List FlatPlace)
    → Placed a old mid (ps ++ qs) ts rest
    → Placed b mid new rs rest left
    → Placed (a || b) old new (ps ++ (qs ++ rs)) ts left
then_both {a} {b} {old} {mid} {new} {rs} {ts} {rest} {left} ps qs p q = rw (← append_assoc ps qs rs) (then p q)

-- less is said of how many tokens were read
loosely_stands : {some : Bool} {old new : List Span} {ps : List FlatPlace} {ts left : List Token}
    → InPlace some old new ps ts left
    → InPlace false old new ps ts left
loosely_stands p = record { grew = p.grew; fewer = λ h. absurd cc; exact = p.exact; numbers = p.numbers }

pub loosely : {some : Bool} {old new : List Span} {ps : List FlatPlace} {ts left : List Token}
    → Placed some old new ps ts left
    → Placed false old new ps ts left
loosely p = record { stands = loosely_stands p.stands; forward = p.forward }

-- ---- nodes

-- a node that was numbered when its pieces had been read
node : {old mid new : List Span} {n : ℕ} {ps : List FlatPlace} {ts left : List Token}
    → InPlace true old mid ps ts left
    → new ≡ mid ++ span_between ts left ∷ []
    → n ≡ length mid
    → InPlace true old new (opens n ∷ (ps ++ closes n ∷ [])) ts left
node {old} {mid} {new} {n} {ps} {ts} {left} p e h =
    let more = one_more (span_between ts left) e in
    record {
      grew = goes_on p.grew more;
      fewer = p.fewer;
      exact = λ spans g before.
          let is : span_of spans n ≡ span_between ts left = rw h (numbered mid (span_between ts left) e g) in (
            ap (λ (s : Span). s.start) is,
            closed_run spans n ps before ts left (p.exact spans (goes_on more g) before)
                (λ us h. ap (λ (s : Span). s.end) is ∙ (rw h (end_of_used before us left (rw h at (p.fewer refl))))),
          );
      numbers =
          numbered_runs (length old) (length mid) (length new) ps (closes n ∷ []) p.numbers
          (h, one_longer mid (span_between ts left) e);
    }

pub closed : {old mid new : List Span} {n : ℕ} {ps : List FlatPlace} {ts left : List Token} (places : List FlatPlace)
    → Placed true old mid ps ts left
    → new ≡ mid ++ span_between ts left ∷ []
    → n ≡ length mid
    → places ≡ opens n ∷ (ps ++ closes n ∷ [])
    → Placed true old new places ts left
closed {old} {mid} {new} {n} {ps} {ts} {left} places p e h is = rw is (record {
  stands = node p.stands e h;
  forward =
      λ i all. one_forward mid (span_between ts left) e (p.forward i all)
      (span_forward ts left i (p.stands.fewer refl));
})

-- A node whose last piece is a node over the last tokens, which ends first and was numbered before it.
pub closed_twice : {old mid m0 m1 new : List Span} {n k : ℕ} {ps qs : List FlatPlace} {ts rest left : List Token}
    (places : List FlatPlace)
    → Placed true old mid ps ts rest
    → Placed true mid m0 qs rest left
    → new ≡ m1 ++ span_between ts left ∷ []
    → n ≡ length m1
    → m1 ≡ m0 ++ span_between rest left ∷ []
    → k ≡ length m0
    → places ≡ opens n ∷ ((ps ++ ((opens k ∷ (qs ++ closes k ∷ [])) ++ [])) ++ closes n ∷ [])
    → Placed true old new places ts left
closed_twice places p q e n_is f k_is is = closed places (then p (then (closed _ q f k_is refl) nothing)) e n_is is

-- ---- whole sources

-- all of the tokens
pub whole_source : {some : Bool} {old new : List Span} {ps : List FlatPlace} {ts left : List Token}
    → Placed some old new ps ts left
    → left ≡ []
    → AreSpans new ps 0 ts []
whole_source {some} {old} {new} {ps} {ts} {left} p is = rw is at (p.stands.exact new (same_spans new) 0)

pub no_tokens : (ts : List lexer.Token) → (length ts == 0) ≡ true → tokens_view ts ≡ []
no_tokens [] e = refl
no_tokens (t ∷ ts) e = let none : length (t ∷ ts) ≡ 0 = eqb-true (length (t ∷ ts)) 0 e in absurd (omega arith)
