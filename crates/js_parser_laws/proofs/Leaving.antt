-- Where reading is stuck, the tokens read so far with the next one begin no source of the language, however high.
use Rattle.std.proofs.Common.{◌≡◌, ℕ, zero, suc, ◌≤◌, List, [], ◌∷◌, ◌++◌, length, Some, Result, Ok, Err, refl, sym, ap, ◌∙◌, append_assoc, arith}
use Rattle.std.specs.Prelude.{max}
use Rattle.std.proofs.lemmas.List.{append-nil, length-append, append_cancel_left}
use Rattle.js_tree.specs.Trees.{Identifier, Expression}
use Rattle.js_parser_language.specs.Tokens.{Token, head_of}
use Rattle.js_parser_language.specs.Well.{top}
use Rattle.js_tree.specs.Height.{height, height_of_statements}
use Rattle.js_parser_language.specs.Language.{IsScript, IsExpression, IsFunction}
use Rattle.js_parser_readers.specs.Reading.{Fault, stuck, deep, Read, Reader}
use Rattle.js_parser_readers.specs.Classes.{start}
use Rattle.js_parser_readers.specs.Productions.{items_at}
use Rattle.js_parser_readers.specs.Parsing.{below, ended_by, whole, parse_script, parse_expression, parse_function, function_code_by}
use Rattle.js_parser_laws.specs.Exact.{LeavesAfter}
use Rattle.js_parser_laws.proofs.Follows.Tools.{moved, Seen, FollowsAt, Follows, deepens, same_left, same_count}
use Rattle.js_parser_laws.proofs.Completeness.{expression_again_whole, function_again_whole, script_again_whole}
use Rattle.js_parser_laws.proofs.Locality.{follows_below, pair_below, items_follows_below, function_code_follows}

-- a list has one split with so many at its end
pub same_front : (a b c e : List Token) → a ++ b ≡ c ++ e → length b ≡ length e → a ≡ c
same_front [] b [] e p h = refl
same_front [] b (x ∷ c) e p h = absurd (omega (arith, ap (λ (l : List Token). length l) p, length-append c e))
same_front (y ∷ a) b [] e p h = absurd (omega (arith, ap (λ (l : List Token). length l) p, length-append a b))
same_front (y ∷ a) b (x ∷ c) e p h =
    let heads : y ≡ x = cc in
    let tails : a ++ b ≡ c ++ e = cc in
    ap (λ (y : Token). y ∷ a) heads ∙ ap (λ (a : List Token). x ∷ a) (same_front a b c e tails h)

abbrev failed : {A : Type 0} → ℕ → Result A Fault
failed k = Err (stuck k)

stuck_is : {A : Type 0} (j k : ℕ) → failed {A = A} j ≡ failed k → j ≡ k
stuck_is j k e = cc

goes_past : {A : Type 0} (a : A) (r : List Token) (y : Token)
    → head_of r ≡ Some y
    → ended_by a r ≡ Err (stuck (length r))
goes_past a [] y e = absurd cc
goes_past a (x ∷ r) y e = refl

-- so many tokens are left where a whole source doesn't go on
left_count : {A : Type 0} (g : Reader A) (ts : List Token) (x : Read A) (k : ℕ)
    → whole x ≡ Err (stuck k)
    → (s : Seen g ts x)
    → length s.left ≡ k
left_count {A} g ts (Ok (a, [])) k e s = absurd cc
left_count {A} g ts (Ok (a, y ∷ ys)) k e s =
    ap (λ (l : List Token). length l) (same_left a s.left (y ∷ ys) s.same) ∙ stuck_is {A = A} (suc (length ys)) k e
left_count {A} g ts (Err (stuck j)) k e s = same_count {A = A} (length s.left) j s.same ∙ stuck_is {A = A} j k e
left_count {A} g ts (Err (deep j)) k e s = absurd cc

-- and it doesn't go on before any tokens that begin alike
whole_moved : {A : Type 0} (g : Reader A) (ts : List Token) (x : Read A) (k : ℕ)
    → whole x ≡ Err (stuck k)
    → (s : Seen g ts x)
    → (r : List Token)
    → head_of r ≡ head_of s.left
    → whole (moved x r) ≡ Err (stuck (length r))
whole_moved {A} g ts (Ok (a, [])) k e s r h = absurd cc
whole_moved {A} g ts (Ok (a, y ∷ ys)) k e s r h =
    goes_past a r y (h ∙ ap (λ (l : List Token). head_of l) (same_left a s.left (y ∷ ys) s.same))
whole_moved {A} g ts (Err (stuck j)) k e s r h = refl
whole_moved {A} g ts (Err (deep j)) k e s r h = absurd cc

clear_whole : {A : Type 0} (x : Read A) (k : ℕ) (g : Reader A) (ts : List Token)
    → whole x ≡ Err (stuck k)
    → FollowsAt x g ts
    → Seen g ts x
clear_whole (Ok x) k g ts e s = s tt
clear_whole (Err (stuck j)) k g ts e s = s tt
clear_whole (Err (deep j)) k g ts e s = absurd cc

-- the fault is the same, wherever what is left begins alike
pub stays : {A : Type 0} (f g : Reader A)
    → Follows f g
    → (ts : List Token) (k : ℕ) (before left : List Token)
    → whole (f ts) ≡ Err (stuck k)
    → ts ≡ before ++ left
    → length left ≡ k
    → (r : List Token) → head_of r ≡ head_of left → whole (g (before ++ r)) ≡ Err (stuck (length r))
stays {A} f g h ts k before left e p c r q =
    let s : Seen g ts (f ts) = clear_whole (f ts) k g ts e (h.at ts) in
    let front : s.pre ≡ before = same_front s.pre s.left before left (sym s.parts ∙ p)
    (left_count g ts (f ts) k e s ∙ sym c) in
    let back : s.left ≡ left = append_cancel_left before s.left left
    (ap (λ (p : List Token). p ++ s.left) (sym front) ∙ sym s.parts ∙ p) in
    let alike : head_of r ≡ head_of s.left = q ∙ ap (λ (l : List Token). head_of l) (sym back) in
    ap (λ (p : List Token). whole (g (p ++ r))) (sym front)
    ∙ ap (λ (x : Read A). whole x) (s.again r alike)
    ∙ whole_moved g ts (f ts) k e s r alike

not_both : {A : Type 0} (x : Result A Fault) (k : ℕ) (t : A) → x ≡ Err (stuck k) → x ≡ Ok t → ⊥
not_both x k t e h = absurd cc

-- Where the readers of all heights answer alike, and read what is in the language, none of it begins so.
pub leaves : {A : Type 0} (Is : List Token → A → Type 0) (height_of : A → ℕ) (read : ℕ → Reader A)
    → ((n m : ℕ) → n ≤ m → Follows (read n) (read m))
    → ((n : ℕ) (ts : List Token) (t : A) → Is ts t → height_of t ≤ n → whole (read n ts) ≡ Ok t)
    → (n : ℕ) (ts : List Token) (k : ℕ) (before left : List Token)
    → whole (read n ts) ≡ Err (stuck k)
    → ts ≡ before ++ left
    → length left ≡ k
    → LeavesAfter Is before left
leaves Is height_of read h again n ts k before [] e p c = λ q.
    let t = q.0 in
    let m : ℕ = max n (height_of t) in
    not_both (whole (read m (before ++ []))) 0 t
    (stays (read n) (read m) (h n m (omega arith)) ts k before [] e p c [] refl)
    (ap (λ (l : List Token). whole (read m l)) (append-nil before) ∙ again m before t q.1 (omega arith))
leaves Is height_of read h again n ts k before (y ∷ left) e p c = λ q.
    let t = q.1.0 in
    let m : ℕ = max n (height_of t) in
    let r : List Token = y ∷ q.0 in
    not_both (whole (read m (before ++ r))) (length r) t
    (stays (read n) (read m) (h n m (omega arith)) ts k before (y ∷ left) e p c r refl)
    (ap (λ (l : List Token). whole (read m l)) (sym (append_assoc before (y ∷ []) q.0))
    ∙ again m ((before ++ (y ∷ [])) ++ q.0) t q.1.1 (omega arith))

-- ---- whole sources

-- Where an expression is stuck, the language is left.
pub expression_leaves : (n : ℕ) (ts : List Token) (k : ℕ) (before left : List Token)
    → parse_expression n ts ≡ Err (stuck k)
    → ts ≡ before ++ left
    → length left ≡ k
    → LeavesAfter IsExpression before left
unfolding parse_expression
expression_leaves n ts k before left e p c =
    leaves IsExpression height (λ m ts. (below m).expression ts) (λ n m le. (follows_below n m le).expression)
    (λ m ts t i l. expression_again_whole m ts t i l) n ts k before left e p c

pub script_leaves : (n : ℕ) (earlier : List Identifier) (ts : List Token) (k : ℕ) (before left : List Token)
    → parse_script n earlier ts ≡ Err (stuck k)
    → ts ≡ before ++ left
    → length left ≡ k
    → LeavesAfter (IsScript earlier) before left
unfolding parse_script
script_leaves n earlier ts k before left e p c =
    leaves (IsScript earlier) height_of_statements (λ m ts. items_at (below m) top earlier ts)
    (λ n m le. items_follows_below n m le top earlier) (λ m ts t i l. script_again_whole m earlier ts t i l)
    n ts k before left e p c

-- what parse_function reads by
abbrev pub function_reader : ℕ → Reader Expression
function_reader zero ts = Err (deep (length ts))
function_reader (suc n) ts = function_code_by (below n) (start (head_of ts)) ts

pub function_reader_follows : (n m : ℕ) → n ≤ m → Follows (function_reader n) (function_reader m)
function_reader_follows zero m le = deepens (function_reader m)
function_reader_follows (suc n) zero le = absurd (omega arith)
function_reader_follows (suc n) (suc m) le = function_code_follows (below n) (below m) (pair_below n m (omega arith))

function_whole : (n : ℕ) (ts : List Token) → parse_function n ts ≡ whole (function_reader n ts)
unfolding parse_function
function_whole zero ts = refl
function_whole (suc n) ts = refl

pub function_leaves : (n : ℕ) (ts : List Token) (k : ℕ) (before left : List Token)
    → parse_function n ts ≡ Err (stuck k)
    → ts ≡ before ++ left
    → length left ≡ k
    → LeavesAfter IsFunction before left
function_leaves n ts k before left e p c =
    leaves IsFunction height function_reader function_reader_follows
    (λ m ts t i l. sym (function_whole m ts) ∙ function_again_whole m ts t i l) n ts k before left
    (sym (function_whole n ts) ∙ e) p c
