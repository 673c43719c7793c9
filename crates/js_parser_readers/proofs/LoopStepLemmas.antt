-- Reading the elements of a list one after the other, as a loop does.
use Rattle.std.proofs.Common.{◌≡◌, ℕ, zero, suc, ◌<◌, ◌≤◌, true, false, List, [], ◌∷◌, ◌++◌, length, Ok, Err, refl, sym, ap, ◌∙◌, arith, append_assoc, map}
use Rattle.js_lexer.specs.declared.token.TokenKind.{TokenKind}
use Rattle.js_lexer.specs.declared.token.TokenKind.TheVariants as kinds
use Rattle.js_lexer.specs.declared.token.Token as lexer
use Rattle.js_parser_language.specs.Tokens.{Token, head_of, tail_of}
use Rattle.js_parser_readers.specs.Views.{tokens_view}
use Rattle.js_parser_readers.specs.declared.fault.ParseError.{ParseError}
use Rattle.js_parser_readers.specs.declared.fault.ParseError.TheVariants as errors
use Rattle.js_parser_readers.specs.Giving.{Fails}
use Rattle.js_parser_language.specs.Kinds.{is_kind}
use Rattle.js_parser_readers.specs.Reading.{Fault, stuck, deep, Read, Reader, ◌>>=◌, AfterElement, goes_on, ends, neither, after, elements, others}

-- what was read before, and what is still read
abbrev pub with_front : {A : Type 0} → List A → Read (List A) → Read (List A)
with_front front read = read >>= λ x. Ok (front ++ x.0, x.1)

pub append_nil : {A : Type 0} (xs : List A) → xs ++ [] ≡ xs
append_nil [] = refl
append_nil (x ∷ xs) = ap (λ ys. x ∷ ys) (append_nil xs)

regroup : {A : Type 0} (front : List A) (x : A) (read : Read (List A))
    → with_front front (read >>= λ y. Ok (x ∷ y.0, y.1)) ≡ with_front (front ++ (x ∷ [])) read
regroup front x (Ok y) = ap (λ zs. Ok (zs, y.1)) (sym (append_assoc front (x ∷ []) y.0))
regroup front x (Err f) = refl

pub tail_shorter : (ts : List Token) → length (tail_of ts) ≤ length ts
tail_shorter [] = omega arith
tail_shorter (t ∷ ts) = omega arith

-- ---- elements up to the token that ends them

pub record Elements {S A : Type 0} (one : S → Reader A) (next : S → A → S) (closer : TokenKind) (all : Read (List A))
    (front : List A) (s : S) (rest : List Token) : Type 0 where
  pub fuel : ℕ
  pub enough : length rest < fuel
  pub same : with_front front (elements one next closer fuel s rest) ≡ all

pub with_nothing : {A : Type 0} (read : Read (List A)) → with_front [] read ≡ read
with_nothing (Ok x) = refl
with_nothing (Err f) = refl

pub elements_begin : {S A : Type 0} (one : S → Reader A) (next : S → A → S) (closer : TokenKind) (s : S)
    (ts : List Token)
    → Elements one next closer (elements one next closer (suc (length ts)) s ts) [] s ts
elements_begin one next closer s ts = record {
  fuel = suc (length ts);
  enough = omega arith;
  same = with_nothing (elements one next closer (suc (length ts)) s ts);
}

none_left : {S A : Type 0} (one : S → Reader A) (next : S → A → S) (closer : TokenKind) (all : Read (List A))
    (front : List A) (s : S) (rest : List Token) (k : ℕ)
    → length rest < k
    → with_front front (elements one next closer k s rest) ≡ all
    → is_kind closer (head_of rest) ≡ true
    → all ≡ Ok (front, tail_of rest)
unfolding elements
none_left one next closer all front s rest zero l e c = absurd (omega arith)
none_left one next closer all front s rest (suc k) l e c =
    sym (rw c at e) ∙ ap (λ xs. Ok (xs, tail_of rest)) (append_nil front)

pub elements_none : {S A : Type 0} (one : S → Reader A) (next : S → A → S) (closer : TokenKind) (all : Read (List A))
    (front : List A) (s : S) (rest : List Token)
    → Elements one next closer all front s rest
    → is_kind closer (head_of rest) ≡ true
    → all ≡ Ok (front, tail_of rest)
elements_none one next closer all front s rest r c = none_left one next closer all front s rest r.fuel r.enough r.same c

one_fails : {S A : Type 0} (one : S → Reader A) (next : S → A → S) (closer : TokenKind) (all : Read (List A))
    (front : List A) (s : S) (rest : List Token) (k : ℕ) (f : Fault)
    → length rest < k
    → with_front front (elements one next closer k s rest) ≡ all
    → is_kind closer (head_of rest) ≡ false
    → one s rest ≡ Err f
    → all ≡ Err f
unfolding elements
one_fails one next closer all front s rest zero f l e c o = absurd (omega arith)
one_fails one next closer all front s rest (suc k) f l e c o = sym (rw (c, o) at e)

pub elements_fail : {S A : Type 0} (one : S → Reader A) (next : S → A → S) (closer : TokenKind) (all : Read (List A))
    (front : List A) (s : S) (rest : List Token) (fault : ParseError)
    → Elements one next closer all front s rest
    → is_kind closer (head_of rest) ≡ false
    → Fails fault (one s rest)
    → Fails fault all
elements_fail one next closer all front s rest errors.Memory r c o = tt
elements_fail one next closer all front s rest (errors.TooDeep left) r c o =
    one_fails one next closer all front s rest r.fuel (deep left) r.enough r.same c o
elements_fail one next closer all front s rest (errors.Syntax left) r c o =
    one_fails one next closer all front s rest r.fuel (stuck left) r.enough r.same c o

one_more : {S A : Type 0} (one : S → Reader A) (next : S → A → S) (closer : TokenKind) (all : Read (List A))
    (front : List A) (s : S) (rest : List Token) (k : ℕ) (x : A) (later : List Token) (a : AfterElement)
    → length rest < k
    → with_front front (elements one next closer k s rest) ≡ all
    → is_kind closer (head_of rest) ≡ false
    → one s rest ≡ Ok (x, later)
    → after closer (head_of later) ≡ a
    → a ≡ goes_on
    → (j : ℕ)
    × (suc j ≡ k)
    × (with_front (front ++ (x ∷ [])) (elements one next closer j (next s x) (tail_of later)) ≡ all)
unfolding elements
one_more one next closer all front s rest zero x later a l e c o is g = absurd (omega arith)
one_more one next closer all front s rest (suc k) x later a l e c o is g =
    (k, refl, sym (regroup front x (elements one next closer k (next s x) (tail_of later))) ∙ (rw (c, o, is, g) at e))

pub elements_more : {S A : Type 0} (one : S → Reader A) (next : S → A → S) (closer : TokenKind) (all : Read (List A))
    (front : List A) (s : S) (rest : List Token) (x : A) (later : List Token)
    → length later < length rest
    → Elements one next closer all front s rest
    → is_kind closer (head_of rest) ≡ false
    → one s rest ≡ Ok (x, later)
    → after closer (head_of later) ≡ goes_on
    → Elements one next closer all (front ++ (x ∷ [])) (next s x) (tail_of later)
elements_more one next closer all front s rest x later h r c o g =
    let m = one_more one next closer all front s rest r.fuel x later (after closer (head_of later))
    r.enough r.same c o refl g in
    record {
      fuel = m.0;
      enough = omega (arith, tail_shorter later, r.enough, m.1);
      same = m.2;
    }

last_one : {S A : Type 0} (one : S → Reader A) (next : S → A → S) (closer : TokenKind) (all : Read (List A))
    (front : List A) (s : S) (rest : List Token) (k : ℕ) (x : A) (later : List Token)
    → length rest < k
    → with_front front (elements one next closer k s rest) ≡ all
    → is_kind closer (head_of rest) ≡ false
    → one s rest ≡ Ok (x, later)
    → after closer (head_of later) ≡ ends
    → all ≡ Ok (front ++ (x ∷ []), tail_of later)
unfolding elements
last_one one next closer all front s rest zero x later l e c o g = absurd (omega arith)
last_one one next closer all front s rest (suc k) x later l e c o g = sym (rw (c, o, g) at e)

pub elements_end : {S A : Type 0} (one : S → Reader A) (next : S → A → S) (closer : TokenKind) (all : Read (List A))
    (front : List A) (s : S) (rest : List Token) (x : A) (later : List Token)
    → Elements one next closer all front s rest
    → is_kind closer (head_of rest) ≡ false
    → one s rest ≡ Ok (x, later)
    → after closer (head_of later) ≡ ends
    → all ≡ Ok (front ++ (x ∷ []), tail_of later)
elements_end one next closer all front s rest x later r c o g =
    last_one one next closer all front s rest r.fuel x later r.enough r.same c o g

stops : {S A : Type 0} (one : S → Reader A) (next : S → A → S) (closer : TokenKind) (all : Read (List A))
    (front : List A) (s : S) (rest : List Token) (k : ℕ) (x : A) (later : List Token)
    → length rest < k
    → with_front front (elements one next closer k s rest) ≡ all
    → is_kind closer (head_of rest) ≡ false
    → one s rest ≡ Ok (x, later)
    → after closer (head_of later) ≡ neither
    → all ≡ Err (stuck (length later))
unfolding elements
stops one next closer all front s rest zero x later l e c o g = absurd (omega arith)
stops one next closer all front s rest (suc k) x later l e c o g = sym (rw (c, o, g) at e)

pub elements_stop : {S A : Type 0} (one : S → Reader A) (next : S → A → S) (closer : TokenKind) (all : Read (List A))
    (front : List A) (s : S) (rest : List Token) (x : A) (later : List Token)
    → Elements one next closer all front s rest
    → is_kind closer (head_of rest) ≡ false
    → one s rest ≡ Ok (x, later)
    → after closer (head_of later) ≡ neither
    → all ≡ Err (stuck (length later))
elements_stop one next closer all front s rest x later r c o g =
    stops one next closer all front s rest r.fuel x later r.enough r.same c o g

-- ---- further elements, each behind a comma

pub record Others {S A : Type 0} (one : S → Reader A) (next : S → A → S) (all : Read (List A)) (front : List A) (s : S)
    (rest : List Token) : Type 0 where
  pub fuel : ℕ
  pub enough : length rest < fuel
  pub same : with_front front (others one next fuel s rest) ≡ all

pub others_begin : {S A : Type 0} (one : S → Reader A) (next : S → A → S) (s : S) (ts : List Token)
    → Others one next (others one next (suc (length ts)) s ts) [] s ts
others_begin one next s ts = record {
  fuel = suc (length ts);
  enough = omega arith;
  same = with_nothing (others one next (suc (length ts)) s ts);
}

no_other : {S A : Type 0} (one : S → Reader A) (next : S → A → S) (all : Read (List A)) (front : List A) (s : S)
    (rest : List Token) (k : ℕ)
    → length rest < k
    → with_front front (others one next k s rest) ≡ all
    → is_kind kinds.Comma (head_of rest) ≡ false
    → all ≡ Ok (front, rest)
unfolding others
no_other one next all front s rest zero l e c = absurd (omega arith)
no_other one next all front s rest (suc k) l e c = sym (rw c at e) ∙ ap (λ xs. Ok (xs, rest)) (append_nil front)

pub others_none : {S A : Type 0} (one : S → Reader A) (next : S → A → S) (all : Read (List A)) (front : List A) (s : S)
    (rest : List Token)
    → Others one next all front s rest
    → is_kind kinds.Comma (head_of rest) ≡ false
    → all ≡ Ok (front, rest)
others_none one next all front s rest r c = no_other one next all front s rest r.fuel r.enough r.same c

other_fails : {S A : Type 0} (one : S → Reader A) (next : S → A → S) (all : Read (List A)) (front : List A) (s : S)
    (rest : List Token) (k : ℕ) (f : Fault)
    → length rest < k
    → with_front front (others one next k s rest) ≡ all
    → is_kind kinds.Comma (head_of rest) ≡ true
    → one s (tail_of rest) ≡ Err f
    → all ≡ Err f
unfolding others
other_fails one next all front s rest zero f l e c o = absurd (omega arith)
other_fails one next all front s rest (suc k) f l e c o = sym (rw (c, o) at e)

pub others_fail : {S A : Type 0} (one : S → Reader A) (next : S → A → S) (all : Read (List A)) (front : List A) (s : S)
    (rest : List Token) (fault : ParseError)
    → Others one next all front s rest
    → is_kind kinds.Comma (head_of rest) ≡ true
    → Fails fault (one s (tail_of rest))
    → Fails fault all
others_fail one next all front s rest errors.Memory r c o = tt
others_fail one next all front s rest (errors.TooDeep left) r c o =
    other_fails one next all front s rest r.fuel (deep left) r.enough r.same c o
others_fail one next all front s rest (errors.Syntax left) r c o =
    other_fails one next all front s rest r.fuel (stuck left) r.enough r.same c o

one_other : {S A : Type 0} (one : S → Reader A) (next : S → A → S) (all : Read (List A)) (front : List A) (s : S)
    (rest : List Token) (k : ℕ) (x : A) (later : List Token)
    → length rest < k
    → with_front front (others one next k s rest) ≡ all
    → is_kind kinds.Comma (head_of rest) ≡ true
    → one s (tail_of rest) ≡ Ok (x, later)
    → (j : ℕ) × (suc j ≡ k) × (with_front (front ++ (x ∷ [])) (others one next j (next s x) later) ≡ all)
unfolding others
one_other one next all front s rest zero x later l e c o = absurd (omega arith)
one_other one next all front s rest (suc k) x later l e c o =
    (k, refl, sym (regroup front x (others one next k (next s x) later)) ∙ (rw (c, o) at e))

pub others_more : {S A : Type 0} (one : S → Reader A) (next : S → A → S) (all : Read (List A)) (front : List A) (s : S)
    (rest : List Token) (x : A) (later : List Token)
    → length later < length (tail_of rest)
    → Others one next all front s rest
    → is_kind kinds.Comma (head_of rest) ≡ true
    → one s (tail_of rest) ≡ Ok (x, later)
    → Others one next all (front ++ (x ∷ [])) (next s x) later
others_more one next all front s rest x later h r c o =
    let m = one_other one next all front s rest r.fuel x later r.enough r.same c o in
    record {
      fuel = m.0;
      enough = omega (arith, tail_shorter rest, r.enough, m.1);
      same = m.2;
    }

-- ---- tokens of the code, as the grammar sees them

pub map_push : {A B : Type 0} (f : A → B) (xs : List A) (x : A) → map f (xs ++ (x ∷ [])) ≡ map f xs ++ (f x ∷ [])
map_push f [] x = refl
map_push f (y ∷ xs) x = ap (λ ys. f y ∷ ys) (map_push f xs x)

pub length_view : (ts : List lexer.Token) → length (tokens_view ts) ≡ length ts
length_view [] = refl
length_view (t ∷ ts) = ap (λ n. suc n) (length_view ts)

pub less_by_view : (rest later after : List lexer.Token)
    → tokens_view after ≡ tail_of (tokens_view later)
    → length (tokens_view later) < length (tokens_view rest)
    → length after < length rest
less_by_view rest later after e l =
    omega (
      arith,
      tail_shorter (tokens_view later),
      length_view rest,
      length_view after,
      ap (λ (ts : List Token). length ts) e,
    )

pub less_in_view : (rest later : List lexer.Token)
    → length (tokens_view later) < length (tokens_view rest)
    → length later < length rest
less_in_view rest later l = omega (arith, length_view rest, length_view later)
