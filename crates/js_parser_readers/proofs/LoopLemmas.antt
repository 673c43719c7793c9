-- Reading the elements of a list one after the other, as a loop does.
use Rattle.std.proofs.Common.{◌≡◌, ℕ, zero, suc, ◌<◌, ◌≤◌, true, false, List, [], ◌∷◌, ◌++◌, length, Ok, Err, refl, sym, ap, ◌∙◌, arith, append_assoc}
use Rattle.js_lexer.specs.declared.token.TokenKind.{TokenKind}
use Rattle.js_lexer.specs.declared.token.TokenKind.TheVariants as kinds
use Rattle.js_parser_language.specs.Tokens.{Token, head_of, tail_of}
use Rattle.js_parser_readers.specs.declared.fault.ParseError.{ParseError}
use Rattle.js_parser_readers.specs.declared.fault.ParseError.TheVariants as errors
use Rattle.js_parser_readers.specs.Giving.{Fails}
use Rattle.js_parser_language.specs.Kinds.{is_kind}
use Rattle.js_parser_readers.specs.Reading.{Fault, stuck, deep, Read, Reader, ◌>>=◌, goes_on, ends, neither, after, go_after, elements, others, ends_list, items}
use Rattle.js_parser_readers.proofs.LoopStepLemmas.{with_front, with_nothing, append_nil}

regroup : {A : Type 0} (front : List A) (x : A) (read : Read (List A))
    → with_front front (read >>= λ y. Ok (x ∷ y.0, y.1)) ≡ with_front (front ++ x ∷ []) read
regroup front x (Ok y) = ap (λ xs. Ok (xs, y.1)) (sym (append_assoc front (x ∷ []) y.0))
regroup front x (Err f) = refl

-- ---- elements up to what ends a list of statements

-- these elements were read, and this state was made; the others are still read from the rest
pub record ReadsItems {S A : Type 0} (one : S → Reader A) (next : S → A → S) (s₀ : S) (ts : List Token) (xs : List A)
    (s : S) (rest : List Token) : Type 0 where
  pub fuel : ℕ
  pub enough : length rest < fuel
  pub same : with_front xs (items one next fuel s rest) ≡ items one next (suc (length ts)) s₀ ts

pub items_begin : {S A : Type 0} (one : S → Reader A) (next : S → A → S) (s : S) (ts : List Token)
    → ReadsItems one next s ts [] s ts
items_begin one next s ts = record {
  fuel = suc (length ts);
  enough = omega arith;
  same = with_nothing (items one next (suc (length ts)) s ts);
}

item_more : {S A : Type 0} (one : S → Reader A) (next : S → A → S) (goal : Read (List A)) (xs : List A) (s : S)
    (rest : List Token) (x : A) (later : List Token) (k : ℕ)
    → ends_list (head_of rest) ≡ false
    → length rest < k
    → with_front xs (items one next k s rest) ≡ goal
    → one s rest ≡ Ok (x, later)
    → (j : ℕ) × (suc j ≡ k) × (with_front (xs ++ x ∷ []) (items one next j (next s x) later) ≡ goal)
unfolding items
item_more one next goal xs s rest x later zero g f e a = absurd (omega arith)
item_more one next goal xs s rest x later (suc k) g f e a =
    (k, refl, sym (regroup xs x (items one next k (next s x) later)) ∙ (rw (g, a) at e))

pub items_go_on : {S A : Type 0} (one : S → Reader A) (next : S → A → S) (s₀ : S) (ts : List Token) (xs : List A)
    (s : S) (rest : List Token) (x : A) (later : List Token)
    → ReadsItems one next s₀ ts xs s rest
    → ends_list (head_of rest) ≡ false
    → one s rest ≡ Ok (x, later)
    → length later < length rest
    → ReadsItems one next s₀ ts (xs ++ x ∷ []) (next s x) later
items_go_on one next s₀ ts xs s rest x later r g a l =
    let m = item_more one next (items one next (suc (length ts)) s₀ ts) xs s rest x later r.fuel g r.enough r.same a in
    record {
      fuel = m.0;
      enough = omega (arith, r.enough, m.1);
      same = m.2;
    }

items_end_by : {S A : Type 0} (one : S → Reader A) (next : S → A → S) (goal : Read (List A)) (xs : List A) (s : S)
    (rest : List Token) (k : ℕ)
    → ends_list (head_of rest) ≡ true
    → length rest < k
    → with_front xs (items one next k s rest) ≡ goal
    → goal ≡ Ok (xs, rest)
unfolding items
items_end_by one next goal xs s rest zero g f e = absurd (omega arith)
items_end_by one next goal xs s rest (suc k) g f e = sym (rw g at e) ∙ ap (λ ys. Ok (ys, rest)) (append_nil xs)

pub items_end : {S A : Type 0} (one : S → Reader A) (next : S → A → S) (s₀ : S) (ts : List Token) (xs : List A) (s : S)
    (rest : List Token)
    → ReadsItems one next s₀ ts xs s rest
    → ends_list (head_of rest) ≡ true
    → items one next (suc (length ts)) s₀ ts ≡ Ok (xs, rest)
items_end one next s₀ ts xs s rest r g =
    items_end_by one next (items one next (suc (length ts)) s₀ ts) xs s rest r.fuel g r.enough r.same

items_fault : {S A : Type 0} (one : S → Reader A) (next : S → A → S) (goal : Read (List A)) (xs : List A) (s : S)
    (rest : List Token) (k : ℕ) (f : Fault)
    → ends_list (head_of rest) ≡ false
    → length rest < k
    → with_front xs (items one next k s rest) ≡ goal
    → one s rest ≡ Err f
    → goal ≡ Err f
unfolding items
items_fault one next goal xs s rest zero f g l e a = absurd (omega arith)
items_fault one next goal xs s rest (suc k) f g l e a = sym (rw (g, a) at e)

pub items_fail : {S A : Type 0} (one : S → Reader A) (next : S → A → S) (s₀ : S) (ts : List Token) (xs : List A) (s : S)
    (rest : List Token) (e : ParseError)
    → ReadsItems one next s₀ ts xs s rest
    → ends_list (head_of rest) ≡ false
    → Fails e (one s rest)
    → Fails e (items one next (suc (length ts)) s₀ ts)
items_fail one next s₀ ts xs s rest errors.Memory r g a = tt
items_fail one next s₀ ts xs s rest (errors.TooDeep left) r g a =
    items_fault one next (items one next (suc (length ts)) s₀ ts) xs s rest r.fuel (deep left) g r.enough r.same a
items_fail one next s₀ ts xs s rest (errors.Syntax left) r g a =
    items_fault one next (items one next (suc (length ts)) s₀ ts) xs s rest r.fuel (stuck left) g r.enough r.same a

-- ---- further elements, each behind a comma

pub record ReadsOthers {S A : Type 0} (one : S → Reader A) (next : S → A → S) (s₀ : S) (ts : List Token) (xs : List A)
    (s : S) (rest : List Token) : Type 0 where
  pub fuel : ℕ
  pub enough : length rest < fuel
  pub same : with_front xs (others one next fuel s rest) ≡ others one next (suc (length ts)) s₀ ts

pub others_begin : {S A : Type 0} (one : S → Reader A) (next : S → A → S) (s : S) (ts : List Token)
    → ReadsOthers one next s ts [] s ts
others_begin one next s ts = record {
  fuel = suc (length ts);
  enough = omega arith;
  same = with_nothing (others one next (suc (length ts)) s ts);
}

-- behind a comma fewer tokens are left
pub behind_comma : (rest : List Token)
    → is_kind kinds.Comma (head_of rest) ≡ true
    → suc (length (tail_of rest)) ≡ length rest
behind_comma [] e = absurd cc
behind_comma (x ∷ rest) e = refl

other_more : {S A : Type 0} (one : S → Reader A) (next : S → A → S) (goal : Read (List A)) (xs : List A) (s : S)
    (rest : List Token) (x : A) (later : List Token) (k : ℕ)
    → is_kind kinds.Comma (head_of rest) ≡ true
    → length rest < k
    → with_front xs (others one next k s rest) ≡ goal
    → one s (tail_of rest) ≡ Ok (x, later)
    → (j : ℕ) × (suc j ≡ k) × (with_front (xs ++ x ∷ []) (others one next j (next s x) later) ≡ goal)
unfolding others
other_more one next goal xs s rest x later zero g f e a = absurd (omega arith)
other_more one next goal xs s rest x later (suc k) g f e a =
    (k, refl, sym (regroup xs x (others one next k (next s x) later)) ∙ (rw (g, a) at e))

pub others_go_on : {S A : Type 0} (one : S → Reader A) (next : S → A → S) (s₀ : S) (ts : List Token) (xs : List A)
    (s : S) (rest : List Token) (x : A) (later : List Token)
    → ReadsOthers one next s₀ ts xs s rest
    → is_kind kinds.Comma (head_of rest) ≡ true
    → one s (tail_of rest) ≡ Ok (x, later)
    → length later ≤ length (tail_of rest)
    → ReadsOthers one next s₀ ts (xs ++ x ∷ []) (next s x) later
others_go_on one next s₀ ts xs s rest x later r g a l =
    let m = other_more one next (others one next (suc (length ts)) s₀ ts)
    xs s rest x later r.fuel g r.enough r.same a in
    record {
      fuel = m.0;
      enough = omega (arith, r.enough, m.1, behind_comma rest g);
      same = m.2;
    }

others_end_by : {S A : Type 0} (one : S → Reader A) (next : S → A → S) (goal : Read (List A)) (xs : List A) (s : S)
    (rest : List Token) (k : ℕ)
    → is_kind kinds.Comma (head_of rest) ≡ false
    → length rest < k
    → with_front xs (others one next k s rest) ≡ goal
    → goal ≡ Ok (xs, rest)
unfolding others
others_end_by one next goal xs s rest zero g f e = absurd (omega arith)
others_end_by one next goal xs s rest (suc k) g f e = sym (rw g at e) ∙ ap (λ ys. Ok (ys, rest)) (append_nil xs)

pub others_end : {S A : Type 0} (one : S → Reader A) (next : S → A → S) (s₀ : S) (ts : List Token) (xs : List A) (s : S)
    (rest : List Token)
    → ReadsOthers one next s₀ ts xs s rest
    → is_kind kinds.Comma (head_of rest) ≡ false
    → others one next (suc (length ts)) s₀ ts ≡ Ok (xs, rest)
others_end one next s₀ ts xs s rest r g =
    others_end_by one next (others one next (suc (length ts)) s₀ ts) xs s rest r.fuel g r.enough r.same

others_fault : {S A : Type 0} (one : S → Reader A) (next : S → A → S) (goal : Read (List A)) (xs : List A) (s : S)
    (rest : List Token) (k : ℕ) (f : Fault)
    → is_kind kinds.Comma (head_of rest) ≡ true
    → length rest < k
    → with_front xs (others one next k s rest) ≡ goal
    → one s (tail_of rest) ≡ Err f
    → goal ≡ Err f
unfolding others
others_fault one next goal xs s rest zero f g l e a = absurd (omega arith)
others_fault one next goal xs s rest (suc k) f g l e a = sym (rw (g, a) at e)

pub others_fail : {S A : Type 0} (one : S → Reader A) (next : S → A → S) (s₀ : S) (ts : List Token) (xs : List A)
    (s : S) (rest : List Token) (e : ParseError)
    → ReadsOthers one next s₀ ts xs s rest
    → is_kind kinds.Comma (head_of rest) ≡ true
    → Fails e (one s (tail_of rest))
    → Fails e (others one next (suc (length ts)) s₀ ts)
others_fail one next s₀ ts xs s rest errors.Memory r g a = tt
others_fail one next s₀ ts xs s rest (errors.TooDeep left) r g a =
    others_fault one next (others one next (suc (length ts)) s₀ ts) xs s rest r.fuel (deep left) g r.enough r.same a
others_fail one next s₀ ts xs s rest (errors.Syntax left) r g a =
    others_fault one next (others one next (suc (length ts)) s₀ ts) xs s rest r.fuel (stuck left) g r.enough r.same a

-- ---- elements up to a token

pub record ReadsElements {S A : Type 0} (one : S → Reader A) (next : S → A → S) (closer : TokenKind) (s₀ : S)
    (ts : List Token) (xs : List A) (s : S) (rest : List Token) : Type 0 where
  pub fuel : ℕ
  pub enough : length rest < fuel
  pub same : with_front xs (elements one next closer fuel s rest) ≡ elements one next closer (suc (length ts)) s₀ ts

-- at the token that ends the list
elements_end_by : {S A : Type 0} (one : S → Reader A) (next : S → A → S) (closer : TokenKind) (goal : Read (List A))
    (xs : List A) (s : S) (rest : List Token) (k : ℕ)
    → is_kind closer (head_of rest) ≡ true
    → length rest < k
    → with_front xs (elements one next closer k s rest) ≡ goal
    → goal ≡ Ok (xs, tail_of rest)
unfolding elements
elements_end_by one next closer goal xs s rest zero g f e = absurd (omega arith)
elements_end_by one next closer goal xs s rest (suc k) g f e =
    sym (rw g at e) ∙ ap (λ ys. Ok (ys, tail_of rest)) (append_nil xs)

pub elements_end : {S A : Type 0} (one : S → Reader A) (next : S → A → S) (closer : TokenKind) (s₀ : S)
    (ts : List Token) (xs : List A) (s : S) (rest : List Token)
    → ReadsElements one next closer s₀ ts xs s rest
    → is_kind closer (head_of rest) ≡ true
    → elements one next closer (suc (length ts)) s₀ ts ≡ Ok (xs, tail_of rest)
elements_end one next closer s₀ ts xs s rest r g =
    elements_end_by one next closer (elements one next closer (suc (length ts)) s₀ ts)
    xs s rest r.fuel g r.enough r.same

-- behind one more element, by what comes there
element_by : {S A : Type 0} (one : S → Reader A) (next : S → A → S) (closer : TokenKind) (goal : Read (List A))
    (xs : List A) (s : S) (rest : List Token) (x : A) (later : List Token) (k : ℕ)
    → is_kind closer (head_of rest) ≡ false
    → length rest < k
    → with_front xs (elements one next closer k s rest) ≡ goal
    → one s rest ≡ Ok (x, later)
    → (j : ℕ)
    × (suc j ≡ k)
    × (with_front (xs ++ x ∷ [])
    (go_after (λ r. elements one next closer j (next s x) r) (after closer (head_of later)) later) ≡ goal)
unfolding elements
element_by one next closer goal xs s rest x later zero g f e a = absurd (omega arith)
element_by one next closer goal xs s rest x later (suc k) g f e a = (
  k,
  refl,
  sym (regroup xs x
      (go_after (λ r. elements one next closer k (next s x) r) (after closer (head_of later)) later))
      ∙ (rw (g, a) at e),
)

pub elements_go_on : {S A : Type 0} (one : S → Reader A) (next : S → A → S) (closer : TokenKind) (s₀ : S)
    (ts : List Token) (xs : List A) (s : S) (rest : List Token) (x : A) (later : List Token)
    → ReadsElements one next closer s₀ ts xs s rest
    → is_kind closer (head_of rest) ≡ false
    → one s rest ≡ Ok (x, later)
    → after closer (head_of later) ≡ goes_on
    → length (tail_of later) < length rest
    → ReadsElements one next closer s₀ ts (xs ++ x ∷ []) (next s x) (tail_of later)
elements_go_on one next closer s₀ ts xs s rest x later r g a h l =
    let m = element_by one next closer (elements one next closer (suc (length ts)) s₀ ts)
    xs s rest x later r.fuel g r.enough r.same a in
    record {
      fuel = m.0;
      enough = omega (arith, r.enough, m.1);
      same = rw h at m.2;
    }

pub elements_end_after : {S A : Type 0} (one : S → Reader A) (next : S → A → S) (closer : TokenKind) (s₀ : S)
    (ts : List Token) (xs : List A) (s : S) (rest : List Token) (x : A) (later : List Token)
    → ReadsElements one next closer s₀ ts xs s rest
    → is_kind closer (head_of rest) ≡ false
    → one s rest ≡ Ok (x, later)
    → after closer (head_of later) ≡ ends
    → elements one next closer (suc (length ts)) s₀ ts ≡ Ok (xs ++ x ∷ [], tail_of later)
elements_end_after one next closer s₀ ts xs s rest x later r g a h =
    let m = element_by one next closer (elements one next closer (suc (length ts)) s₀ ts)
    xs s rest x later r.fuel g r.enough r.same a in
    sym (rw h at m.2) ∙ ap (λ ys. Ok (ys, tail_of later)) (append_nil (xs ++ x ∷ []))

pub elements_stop : {S A : Type 0} (one : S → Reader A) (next : S → A → S) (closer : TokenKind) (s₀ : S)
    (ts : List Token) (xs : List A) (s : S) (rest : List Token) (x : A) (later : List Token)
    → ReadsElements one next closer s₀ ts xs s rest
    → is_kind closer (head_of rest) ≡ false
    → one s rest ≡ Ok (x, later)
    → after closer (head_of later) ≡ neither
    → elements one next closer (suc (length ts)) s₀ ts ≡ Err (stuck (length later))
elements_stop one next closer s₀ ts xs s rest x later r g a h =
    let m = element_by one next closer (elements one next closer (suc (length ts)) s₀ ts)
    xs s rest x later r.fuel g r.enough r.same a in
    sym (rw h at m.2)

elements_fault : {S A : Type 0} (one : S → Reader A) (next : S → A → S) (closer : TokenKind) (goal : Read (List A))
    (xs : List A) (s : S) (rest : List Token) (k : ℕ) (f : Fault)
    → is_kind closer (head_of rest) ≡ false
    → length rest < k
    → with_front xs (elements one next closer k s rest) ≡ goal
    → one s rest ≡ Err f
    → goal ≡ Err f
unfolding elements
elements_fault one next closer goal xs s rest zero f g l e a = absurd (omega arith)
elements_fault one next closer goal xs s rest (suc k) f g l e a = sym (rw (g, a) at e)

pub elements_fail : {S A : Type 0} (one : S → Reader A) (next : S → A → S) (closer : TokenKind) (s₀ : S)
    (ts : List Token) (xs : List A) (s : S) (rest : List Token) (e : ParseError)
    → ReadsElements one next closer s₀ ts xs s rest
    → is_kind closer (head_of rest) ≡ false
    → Fails e (one s rest)
    → Fails e (elements one next closer (suc (length ts)) s₀ ts)
elements_fail one next closer s₀ ts xs s rest errors.Memory r g a = tt
elements_fail one next closer s₀ ts xs s rest (errors.TooDeep left) r g a =
    elements_fault one next closer (elements one next closer (suc (length ts)) s₀ ts) xs s rest r.fuel (deep left)
    g r.enough r.same a
elements_fail one next closer s₀ ts xs s rest (errors.Syntax left) r g a =
    elements_fault one next closer (elements one next closer (suc (length ts)) s₀ ts) xs s rest r.fuel (stuck left)
    g r.enough r.same a
