-- Handles that are added, and handles that are taken out: what is held by the numbers of before.
use Rattle.std.proofs.Common.{◌≡◌, ℕ, ◌+◌, ◌≤◌, Bool, true, false, cond, List, [], ◌∷◌, ◌++◌, length, refl, sym, ap, ◌∙◌, arith}
use Rattle.std.specs.Prelude.{filter, nat_eq, nat_le, if◌then◌else◌, Option, Some, None}
use Rattle.std.specs.List.{find}
use Rattle.std.proofs.lemmas.Bool.Decides.{nat_tests}
use Rattle.object_groups.specs.declared.handle.Handle.{Handle}
use Rattle.object_groups.specs.declared.handle.Target.{Target}
use Rattle.object_groups.specs.Handles.{HeldHandles, fault_of, has_number, with_handle}
use Rattle.object_groups.specs.declared.fault.HandleFault.TheVariants.{Full}
use Rattle.object_groups.specs.declared.fault.TheConstants.{MOST_HELD, MOST_MADE}
use Rattle.object_groups.specs.Numbers.{AllAbove, AllBelow, IsAscending}
use Rattle.object_groups.proofs.NumberLemmas.{below-weaker, below-push, below-filter, ascending-push, ascending-filter}
use Rattle.cdp_session.specs.Objects.{numbered}
use Rattle.cdp_session_laws.specs.Handles.{IsOrdered}
use Rattle.cdp_session_laws.specs.Limits.{HoldsFew}
use Rattle.cdp_session_laws.proofs.CountLemmas.{below-both, filter-within, one-more, push-within}

-- ---- numbers

-- a handle that passes a test, if there is one
abbrev pub kept : (Handle → Bool) → Option Handle → Option Handle
kept stays None = None
kept stays (Some h) = if stays h then Some h else None

-- every handle passes this test
abbrev pub all_stay : Handle → Bool
all_stay h = true

pub kept-all : (o : Option Handle) → kept all_stay o ≡ o
kept-all None = refl
kept-all (Some h) = refl

-- none is found above all numbers
pub none-above : (m n : ℕ) (hs : List Handle) → AllBelow m hs → m ≤ n → numbered hs n ≡ None
none-above m n [] a le = refl
none-above m n (h ∷ hs) a le =
    let other : has_number n h ≡ false = grind (arith, nat_tests, a.0) in
    ap (λ b. cond b (Some h) (find (has_number n) hs)) other ∙ none-above m n hs a.1 le

-- nor below
pub none-below : (m n : ℕ) (hs : List Handle) → AllAbove m hs → n ≤ m → numbered hs n ≡ None
none-below m n [] a le = refl
none-below m n (h ∷ hs) a le =
    let other : has_number n h ≡ false = grind (arith, nat_tests, a.0) in
    ap (λ b. cond b (Some h) (find (has_number n) hs)) other ∙ none-below m n hs a.1 le

-- what is found has the number
pub found-number : (n : ℕ) (hs : List Handle) (h : Handle) → numbered hs n ≡ Some h → h.number ≡ n
found-number n [] h is = absurd cc
found-number n (x ∷ hs) h is = at (found-number n hs h) (has_number n x) refl is
  where
    at : (numbered hs n ≡ Some h → h.number ≡ n)
        → (b : Bool)
        → has_number n x ≡ b
        → cond b (Some x) (find (has_number n) hs) ≡ Some h
        → h.number ≡ n
    at rest true e there =
        let same : x ≡ h = cc in
        let number : x.number ≡ n = grind (arith, nat_tests) in
        ap (λ (y : Handle). y.number) (sym same) ∙ number
    at rest false e there = rest there

-- one more at the end, of another number
pub find-push : (n : ℕ) (hs : List Handle) (h : Handle)
    → has_number n h ≡ false
    → numbered (hs ++ h ∷ []) n ≡ numbered hs n
find-push n [] h other = ap (λ b. cond b (Some h) None) other
find-push n (x ∷ hs) h other = ap (λ o. cond (has_number n x) (Some x) o) (find-push n hs h other)

-- a list without those that don't pass a test
pub find-filter : (stays : Handle → Bool) (n : ℕ) (hs : List Handle)
    → IsAscending hs
    → numbered (filter stays hs) n ≡ kept stays (numbered hs n)
find-filter stays n [] a = refl
find-filter stays n (h ∷ hs) a =
    at (find-filter stays n hs a.1) (has_number n h) (stays h) refl refl
  where
    -- where the first has the number, none of the others has it
    gone : has_number n h ≡ true → numbered hs n ≡ None
    gone e = none-below h.number n hs a.0 (grind (arith, nat_tests))

    at : numbered (filter stays hs) n ≡ kept stays (numbered hs n)
        → (b c : Bool)
        → has_number n h ≡ b
        → stays h ≡ c
        → numbered (cond c (h ∷ filter stays hs) (filter stays hs)) n ≡
        kept stays (cond b (Some h) (numbered hs n))
    at rest true true e f =
        ap (λ b. cond b (Some h) (numbered (filter stays hs) n)) e ∙ sym (ap (λ c. if c then Some h else None) f)
    at rest true false e f =
        rest ∙ ap (kept stays) (gone e) ∙ sym (ap (λ c. if c then Some h else None) f)
    at rest false true e f = ap (λ b. cond b (Some h) (numbered (filter stays hs) n)) e ∙ rest
    at rest false false e f = rest

-- ---- more handles

-- handles after which more may be held, and all that were held are
pub record Grows (old new : HeldHandles) : Type 0 where
  pub counted : old.made ≤ new.made
  pub each : (n : ℕ) → n ≤ old.made → numbered new.held n ≡ numbered old.held n
  pub ordered : IsOrdered old → IsOrdered new
  pub few : HoldsFew old → HoldsFew new

pub grows-same : (h : HeldHandles) → Grows h h
grows-same h = record { counted = omega arith; each = λ n le. refl; ordered = λ o. o; few = λ f. f }

pub grows-then : (a b c : HeldHandles) → Grows a b → Grows b c → Grows a c
grows-then a b c first second =
    let more = first.counted in
    let most = second.counted in
    record {
      counted = omega (arith, more, most);
      each = λ n le. second.each n (omega (arith, le, more)) ∙ first.each n le;
      ordered = λ o. second.ordered (first.ordered o);
      few = λ f. second.few (first.few f);
    }

-- where no limit stands
pub grows-more : (t : Target) (g : Option (List ℕ)) (h : HeldHandles)
    → fault_of h ≡ None
    → Grows h (with_handle t g h)
grows-more t g h none =
    let new : Handle = record { number = h.made + 1; target = t; group = g } in
    let other : (n : ℕ) → n ≤ h.made → nat_eq n (h.made + 1) ≡ false = λ n le. grind (arith, nat_tests) in
    let room = below-both MOST_HELD MOST_MADE (length h.held) h.made (Full MOST_HELD) (Full MOST_MADE)
    (nat_le MOST_HELD (length h.held)) (nat_le MOST_MADE h.made) refl refl none in
    record {
      counted = omega arith;
      each = λ n le. find-push n h.held new (other n le);
      ordered = λ o. record {
        below = below-push (h.made + 1 + 1) h.held new
            (below-weaker (h.made + 1) (h.made + 1 + 1) h.held (omega arith) o.below) (omega arith);
        ascending = ascending-push h.held new o.below o.ascending;
      };
      few = λ f. (push-within MOST_HELD h.held new room.0, one-more MOST_MADE h.made room.1);
    }

-- ---- what stays of handles

-- handles after which those are left that pass a test, and more may be held
pub record Fate (stays : Handle → Bool) (old new : HeldHandles) : Type 0 where
  pub counted : old.made ≤ new.made
  pub each : (n : ℕ) → n ≤ old.made → numbered new.held n ≡ kept stays (numbered old.held n)
  pub ordered : IsOrdered new
  pub few : HoldsFew old → HoldsFew new

pub fate-grows : (old new : HeldHandles) → IsOrdered old → Grows old new → Fate all_stay old new
fate-grows old new o g = record {
  counted = g.counted;
  each = λ n le. g.each n le ∙ sym (kept-all (numbered old.held n));
  ordered = g.ordered o;
  few = g.few;
}

pub fate-filter : (stays : Handle → Bool) (h : HeldHandles)
    → IsOrdered h
    → Fate stays h (record h { held = filter stays h.held })
fate-filter stays h o = record {
  counted = omega arith;
  each = λ n le. find-filter stays n h.held o.ascending;
  ordered = record {
    below = below-filter (h.made + 1) stays h.held o.below;
    ascending = ascending-filter stays h.held o.ascending;
  };
  few = λ f. (filter-within MOST_HELD stays h.held f.0, f.1);
}
