-- What is told of a source, for any language whose reader reads exactly its trees, and is stuck exactly where the
-- language is left.
use Rattle.std.proofs.Common.{◌≡◌, ℕ, zero, suc, ◌-◌, ◌≤◌, ◌<◌, inl, inr, List, [], ◌∷◌, ◌++◌, length, Option, Some, None, Result, Ok, Err, refl, sym, ap, subst, ◌∙◌, append_assoc, arith}
use Rattle.std.specs.Prelude.{slice_get, Bool, true, false, nat_lt, IfOk}
use borrow.Author.Tests.{ltb-true, ltb-false}
use Rattle.std.proofs.lemmas.List.{append-nil, length-append}
use Rattle.js_parser_language.specs.Tokens.{Token}
use Rattle.js_parser_language.specs.Language.{InLanguage, BeginsLanguage}
use Rattle.js_parser_laws.specs.Exact.{LeavesAfter, LeavesAt, TooDeepFrom}
use Rattle.js_parser_readers.specs.declared.fault.ParseError.{ParseError}
use Rattle.js_parser_readers.specs.declared.fault.ParseError.TheVariants as errors
use Rattle.js_parser_readers.specs.declared.fault.ParseFault.{ParseFault}
use Rattle.js_parser_readers.specs.declared.fault.ParseFault.TheVariants as faults
use Rattle.js_parser_readers.specs.Reading.{Fault, stuck, deep}
use Rattle.js_parser_readers.specs.Giving.{Gives}
use Rattle.js_parser.specs.Lexing.{LexingEnd, Lexed, bad, many, lexed_of, start_or, stop_fault, fault_of, unless_deep, complete, tree_or_fault}
use Rattle.js_parser.specs.Answers.{FailsBy, Answers}
use Rattle.js_parser.specs.Faults.{LeavesLanguage, StandsInSource, BeginsTooDeep, Caused}
use Rattle.js_parser_descent.specs.declared.limits.TheConstants.{MOST_HEIGHT}
use Rattle.js_parser.specs.declared.limits.TheConstants.{MOST_UNITS, MOST_TOKENS}
use Rattle.js_parser.specs.Sources.{tokens_of, bad_place, IsSource, IsTreeOf}
use Rattle.js_parser.proofs.FaultLemmas.{IsPlaced, begins_whole, one_fault, no_tree}
use Rattle.js_parser.proofs.OrderLemmas.{comes_first}
use Rattle.js_parser.proofs.ReadLemmas.{IsReadOf, is_read_of, AreFirst, are_first, reads_all}

-- a source of this language within the limits
abbrev HasTree : {Tree : Type 0} → (List Token → Tree → Type 0) → (Tree → ℕ) → List ℕ → Type 0
HasTree {Tree} Is height_of source = (t : Tree) × IsSource Is height_of source t

-- What is read from these tokens is exactly their trees that are at most so high, of which there is one at most, where
-- it is stuck the language is left, and where it is too deep some first tokens begin only trees that are too deep.
pub record ReadsExactly {Tree : Type 0} (Is : List Token → Tree → Type 0) (height_of : Tree → ℕ) (room : ℕ)
    (ts : List Token) (read : Result Tree Fault) : Type 0 where
  pub sound : (t : Tree) → read ≡ Ok t → Is ts t × (height_of t ≤ room)
  pub complete : (t : Tree) → Is ts t → height_of t ≤ room → read ≡ Ok t
  pub one : (t u : Tree) → Is ts t → Is ts u → t ≡ u
  pub leaves : (left : ℕ) → read ≡ Err (stuck left) → LeavesAt Is ts left
  pub deepens : (left : ℕ) → read ≡ Err (deep left) → TooDeepFrom Is height_of ts MOST_HEIGHT

-- ---- one answer each

abbrev fails : {A : Type 0} → ParseFault → Result A ParseFault
fails f = Err f

too_long : {A : Type 0} (f : ParseFault) (n : ℕ) → f ≡ faults.TooLong n → fails {A = A} f ≡ fails (faults.TooLong n)
too_long f n e = ap (λ (f : ParseFault). fails f) e

long_of : {Tree : Type 0} (Is : List Token → Tree → Type 0) (height_of : Tree → ℕ) (source : List ℕ) (f : ParseFault)
    → StandsInSource Is height_of source f
    → MOST_UNITS < length source
    → f ≡ faults.TooLong (length source)
long_of Is height_of source (faults.TooLong units) s l = ap (λ (n : ℕ). faults.TooLong n) s.1
long_of Is height_of source (faults.Token at) s l = absurd (omega (arith, s.0))
long_of Is height_of source (faults.Syntax at) s l = absurd (omega (arith, s.0))
long_of Is height_of source (faults.TooMany at) s l = absurd (omega (arith, s.0))
long_of Is height_of source faults.TooDeep s l = absurd (omega (arith, s.1.0.short))
long_of Is height_of source faults.Memory s l = absurd s

caused_of : {Tree : Type 0} (Is : List Token → Tree → Type 0) (height_of : Tree → ℕ) (source : List ℕ) (f : ParseFault)
    → StandsInSource Is height_of source f
    → Caused Is height_of source f
caused_of Is height_of source (faults.TooLong units) s = s
caused_of Is height_of source (faults.Token at) s = s
caused_of Is height_of source (faults.Syntax at) s = s
caused_of Is height_of source (faults.TooMany at) s = s
caused_of Is height_of source faults.TooDeep s = inl s
caused_of Is height_of source faults.Memory s = tt

fails_by : (A : Type 0) (f g : ParseFault) → g ≡ f → FailsBy f (fails {A = A} g)
fails_by A f (faults.TooLong units) e = e
fails_by A f (faults.Token at) e = e
fails_by A f (faults.Syntax at) e = e
fails_by A f (faults.TooMany at) e = e
fails_by A f faults.TooDeep e = tt
fails_by A f faults.Memory e = tt

-- a fault that stands in the source, which has no tree within the limits
fault_answers : {A Tree : Type 0} (Is : List Token → Tree → Type 0) (height_of : Tree → ℕ) (source : List ℕ)
    (look : A → Tree) (f : ParseFault)
    → StandsInSource Is height_of source f
    → (HasTree Is height_of source → ⊥)
    → Answers Is height_of source look (Err f)
fault_answers {A} Is height_of source look f s none = record {
  found = tt;
  only = λ t h. absurd (none (t, h));
  long = λ l. too_long {A = A} f (length source) (long_of Is height_of source f s l);
  caused = caused_of Is height_of source f s;
  exact = λ g p. fails_by A g f (one_fault Is height_of source f g s p);
  first = λ g c. comes_first Is height_of source f g s c;
}

placed_answers : {A Tree : Type 0} (Is : List Token → Tree → Type 0) (height_of : Tree → ℕ) (source : List ℕ)
    (look : A → Tree) (f : ParseFault)
    → IsPlaced f
    → StandsInSource Is height_of source f
    → Answers Is height_of source look (Err f)
placed_answers Is height_of source look f p s =
    fault_answers Is height_of source look f s (λ h. no_tree Is height_of source f p s h.0 h.1.0)

memory_answers : {A Tree : Type 0} (Is : List Token → Tree → Type 0) (height_of : Tree → ℕ) (source : List ℕ)
    (look : A → Tree)
    → length source ≤ MOST_UNITS
    → Answers Is height_of source look (Err faults.Memory)
memory_answers Is height_of source look short =
    record {
      found = tt;
      only = λ t h. refl;
      long = λ l. absurd
          (omega arith);
      caused = tt;
      exact = λ g p. tt;
      first = λ g c. tt;
    }

-- what is read begins only trees that are too deep, and so does the source
begins_too_deep : {Tree : Type 0} (Is : List Token → Tree → Type 0) (height_of : Tree → ℕ) (source : List ℕ)
    (ts : List Token) (stop : Option LexingEnd)
    → length source ≤ MOST_UNITS
    → IsReadOf source ts stop
    → TooDeepFrom Is height_of ts MOST_HEIGHT
    → BeginsTooDeep Is height_of source
begins_too_deep Is height_of source ts stop short r d =
    let a : AreFirst MOST_TOKENS (tokens_of source) ts = are_first MOST_TOKENS (tokens_of source) (bad_place source)
    ts stop r in
    let t : TooDeepFrom Is height_of (tokens_of source) MOST_HEIGHT = record {
      before = d.before;
      left = d.left ++ a.left;
      parts = a.parts ∙ ap (λ (ts : List Token). ts ++ a.left) d.parts ∙ append_assoc d.before d.left a.left;
      begins = d.begins;
      deeper = d.deeper;
    } in
    (short, t)

-- reading met a place that is too deep
deep_answers : {A Tree : Type 0} (Is : List Token → Tree → Type 0) (height_of : Tree → ℕ) (source : List ℕ)
    (look : A → Tree)
    → length source ≤ MOST_UNITS
    → (HasTree Is height_of source → ⊥)
    → BeginsTooDeep Is height_of source
    → Answers Is height_of source look (Err faults.TooDeep)
deep_answers Is height_of source look short none d =
    record {
      found = tt;
      only = λ t h. absurd (none (t, h));
      long = λ l. absurd
          (omega arith);
      caused = inr d;
      exact = λ g p. tt;
      first = λ g c. tt;
    }

-- where the source has a tree, only its depth may stand in the way
only_deep : {A Tree : Type 0} (Is : List Token → Tree → Type 0) (height_of : Tree → ℕ) (source : List ℕ) (answer : A)
    (t : Tree)
    → IsSource Is height_of source t
    → ((u : Tree) → IsTreeOf Is source u → t ≡ u)
    → (g : ParseFault)
    → StandsInSource Is height_of source g
    → FailsBy g (Ok answer)
only_deep Is height_of source answer t i one (faults.TooLong units) s =
    no_tree Is height_of source (faults.TooLong units) tt s t i.0
only_deep Is height_of source answer t i one (faults.Token at) s =
    no_tree Is height_of source (faults.Token at) tt s t i.0
only_deep Is height_of source answer t i one (faults.Syntax at) s =
    no_tree Is height_of source (faults.Syntax at) tt s t i.0
only_deep Is height_of source answer t i one (faults.TooMany at) s =
    no_tree Is height_of source (faults.TooMany at) tt s t i.0
only_deep Is height_of source answer t i one faults.TooDeep s =
    let e : height_of t ≡ height_of s.0 = ap height_of (one s.0 s.1.0) in omega (arith, e, i.1, s.1.1)
only_deep Is height_of source answer t i one faults.Memory s = absurd s

tree_answers : {A Tree : Type 0} (Is : List Token → Tree → Type 0) (height_of : Tree → ℕ) (source : List ℕ)
    (look : A → Tree) (x : A)
    → IsSource Is height_of source (look x)
    → ((t : Tree) → IsTreeOf Is source t → look x ≡ t)
    → Answers Is height_of source look (Ok x)
tree_answers Is height_of source look x i one =
    record {
      found = i;
      only = λ t h. one t h.0;
      long = λ l. absurd
          (omega (arith, i.0.short));
      caused = tt;
      exact = only_deep Is height_of source x (look x)
          i one;
      first = λ g c. tt;
    }

-- ---- where reading stopped

-- no further tokens were read, and those that were begin the language
stop_stands : {Tree : Type 0} (Is : List Token → Tree → Type 0) (height_of : Tree → ℕ) (source : List ℕ) (end : ℕ)
    (ts : List Token) (s : LexingEnd)
    → length source ≤ MOST_UNITS
    → IsReadOf source ts (Some s)
    → BeginsLanguage Is ts
    → StandsInSource Is height_of source (stop_fault end (Some s))
stop_stands Is height_of source end ts (bad at) short r b =
    (short, (r.1, r.2, subst (λ (ts : List Token). BeginsLanguage Is ts) r.0 b))
stop_stands Is height_of source end ts (many at) short r b = (
  short,
  (
    record { before = r.before; next = r.next; left = r.left; parts = r.parts; place = r.place; counted = r.counted },
    subst (λ (ts : List Token). BeginsLanguage Is ts) r.taken b,
  ),
)

-- reading is stuck at the end of what was read
end_stands : {Tree : Type 0} (Is : List Token → Tree → Type 0) (height_of : Tree → ℕ) (source : List ℕ) (end : ℕ)
    (ts : List Token) (stop : Option LexingEnd)
    → length source ≤ MOST_UNITS
    → end ≡ length source
    → IsReadOf source ts stop
    → BeginsLanguage Is ts
    → (InLanguage Is ts → ⊥)
    → StandsInSource Is height_of source (stop_fault end stop)
end_stands Is height_of source end ts None short e r b none =
    let left : LeavesLanguage Is source end = record {
      before = tokens_of source;
      left = [];
      parts = sym (append-nil (tokens_of source));
      place = (r.1, e);
      begins = subst (λ (ts : List Token). BeginsLanguage Is ts) r.0 b;
      leaves = subst (λ (ts : List Token). InLanguage Is ts → ⊥) r.0 none;
    } in
    (short, (left, r.2))
end_stands Is height_of source end ts (Some s) short e r b none = stop_stands Is height_of source end ts s short r b

whole_left : {Tree : Type 0} (Is : List Token → Tree → Type 0) (height_of : Tree → ℕ) (source : List ℕ) (end : ℕ)
    (ts : List Token) (stop : Option LexingEnd)
    → length source ≤ MOST_UNITS
    → end ≡ length source
    → IsReadOf source ts stop
    → (before left : List Token)
    → ts ≡ before ++ left
    → length left ≡ 0
    → BeginsLanguage Is before
    → LeavesAfter Is before left
    → StandsInSource Is height_of source (stop_fault end stop)
whole_left Is height_of source end ts stop short e r before [] p c b l =
    let q : before ≡ ts = sym (p ∙ append-nil before) in
    end_stands Is height_of source end ts stop short e r (subst (λ (ts : List Token). BeginsLanguage Is ts) q b)
    (subst (λ (ts : List Token). InLanguage Is ts → ⊥) q l)
whole_left Is height_of source end ts stop short e r before (t ∷ left) p c b l = absurd (omega arith)

at_seam : (before : List Token) (t : Token) (left : List Token)
    → slice_get (before ++ t ∷ left) (length before) ≡ Some t
at_seam [] t left = refl
at_seam (x ∷ before) t left = at_seam before t left

-- the place of the token from which so many are left
seam_start : (end : ℕ) (ts before : List Token) (t : Token) (left : List Token) (k : ℕ)
    → ts ≡ before ++ t ∷ left
    → length (t ∷ left) ≡ suc k
    → start_or end (slice_get ts (length ts - suc k)) ≡ t.start
seam_start end ts before t left k p c =
    let n : length ts - suc k ≡ length before = omega
    (arith, ap (λ (ts : List Token). length ts) p, length-append before (t ∷ left)) in
    ap (λ (i : ℕ). start_or end (slice_get ts i)) n
    ∙ ap (λ (ts : List Token). start_or end (slice_get ts (length before))) p
    ∙ ap (λ (o : Option Token). start_or end o) (at_seam before t left)

-- reading is stuck at one of the tokens that were read
token_stands : {Tree : Type 0} (Is : List Token → Tree → Type 0) (height_of : Tree → ℕ) (source : List ℕ) (end : ℕ)
    (ts : List Token) (stop : Option LexingEnd)
    → length source ≤ MOST_UNITS
    → IsReadOf source ts stop
    → (k : ℕ) (before left : List Token)
    → ts ≡ before ++ left
    → length left ≡ suc k
    → BeginsLanguage Is before
    → LeavesAfter Is before left
    → StandsInSource Is height_of source (faults.Syntax (start_or end (slice_get ts (length ts - suc k))))
token_stands Is height_of source end ts stop short r k before [] p c b l = absurd (omega arith)
token_stands Is height_of source end ts stop short r k before (t ∷ left) p c b l =
    let f : AreFirst MOST_TOKENS (tokens_of source) ts = are_first MOST_TOKENS (tokens_of source) (bad_place source)
    ts stop r in
    let here : LeavesLanguage Is source (start_or end (slice_get ts (length ts - suc k))) = record {
      before = before;
      left = t ∷ (left ++ f.left);
      parts = f.parts ∙ ap (λ (ts : List Token). ts ++ f.left) p ∙ append_assoc before (t ∷ left) f.left;
      place = seam_start end ts before t left k p c;
      begins = b;
      leaves = l;
    } in
    (short, (here, omega (arith, f.few, ap (λ (ts : List Token). length ts) p, length-append before (t ∷ left))))

fault_stands : {Tree : Type 0} (Is : List Token → Tree → Type 0) (height_of : Tree → ℕ) (source : List ℕ) (end : ℕ)
    (ts : List Token) (stop : Option LexingEnd)
    → length source ≤ MOST_UNITS
    → end ≡ length source
    → IsReadOf source ts stop
    → (left : ℕ)
    → LeavesAt Is ts left
    → StandsInSource Is height_of source (fault_of (record { tokens = ts; stop = stop }) end (errors.Syntax left))
fault_stands Is height_of source end ts stop short e r zero l =
    whole_left Is height_of source end ts stop short e r l.before l.left l.parts l.counted l.begins l.leaves
fault_stands Is height_of source end ts stop short e r (suc k) l =
    token_stands Is height_of source end ts stop short r k l.before l.left l.parts l.counted l.begins l.leaves

stop_placed : (end : ℕ) (s : LexingEnd) → IsPlaced (stop_fault end (Some s))
stop_placed end (bad at) = tt
stop_placed end (many at) = tt

fault_placed : (ts : List Token) (stop : Option LexingEnd) (end left : ℕ)
    → IsPlaced (fault_of (record { tokens = ts; stop = stop }) end (errors.Syntax left))
fault_placed ts None end zero = tt
fault_placed ts (Some s) end zero = stop_placed end s
fault_placed ts stop end (suc left) = tt

-- ---- what is told

-- a tree was read from all tokens of the source
high_answers : {A Tree : Type 0} (Is : List Token → Tree → Type 0) (height_of : Tree → ℕ) (source : List ℕ)
    (look : A → Tree) (x : A) (high : Bool) (height : ℕ)
    → nat_lt MOST_HEIGHT height ≡ high
    → height ≡ height_of (look x)
    → IsTreeOf Is source (look x)
    → ((t : Tree) → IsTreeOf Is source t → look x ≡ t)
    → Answers Is height_of source look (unless_deep high x)
high_answers Is height_of source look x false height b h i one =
    tree_answers Is height_of source look x (i, omega (arith, h, ltb-false)) one
high_answers {A} {Tree} Is height_of source look x true height b h i one =
    fault_answers Is height_of source look faults.TooDeep (look x, (i, omega (arith, h, ltb-true)))
    (λ t. let e : height_of (look x) ≡ height_of t.0 = ap height_of (one t.0 t.1.0) in
    omega (arith, e, h, ltb-true, t.1.1))

complete_answers : {A Tree : Type 0} (Is : List Token → Tree → Type 0) (height_of : Tree → ℕ) (source : List ℕ)
    (look : A → Tree) (room : ℕ) (read : Result Tree Fault) (end : ℕ) (ts : List Token) (stop : Option LexingEnd) (x : A)
    (height : ℕ)
    → ReadsExactly Is height_of room ts read
    → length source ≤ MOST_UNITS
    → IsReadOf source ts stop
    → read ≡ Ok (look x)
    → height ≡ height_of (look x)
    → Answers Is height_of source look (complete end stop x height)
complete_answers Is height_of source look room read end ts None x height exact short r e h =
    let i : Is ts (look x) = (exact.sound (look x) e).0 in
    high_answers Is height_of source look x (nat_lt MOST_HEIGHT height) height refl h
    (record { short = short; all_good = r.1; few = r.2; is = subst (λ (ts : List Token). Is ts (look x)) r.0 i })
    (λ t u. exact.one (look x) t i (subst (λ (ts : List Token). Is ts t) (sym r.0) u.is))
complete_answers Is height_of source look room read end ts (Some s) x height exact short r e h =
    let st : StandsInSource Is height_of source (stop_fault end (Some s)) = stop_stands Is height_of source end ts s short r
    (begins_whole Is ts (look x) (exact.sound (look x) e).0) in
    placed_answers Is height_of source look (stop_fault end (Some s)) (stop_placed end s) st

-- a source with a tree is read
reads_tree : {Tree : Type 0} (Is : List Token → Tree → Type 0) (height_of : Tree → ℕ) (source : List ℕ) (room : ℕ)
    (read : Result Tree Fault) (ts : List Token) (stop : Option LexingEnd)
    → MOST_HEIGHT ≤ room
    → ReadsExactly Is height_of room ts read
    → IsReadOf source ts stop
    → (f : Fault)
    → read ≡ Err f
    → HasTree Is height_of source
    → ⊥
reads_tree Is height_of source room read ts stop le exact r f e h =
    let all = reads_all MOST_TOKENS (tokens_of source) (bad_place source) ts stop r h.1.0.all_good h.1.0.few in
    let k : read ≡ Ok h.0 = exact.complete h.0 (subst (λ (ts : List Token). Is ts h.0) (sym all.1) h.1.0.is)
    (omega (arith, le, h.1.1)) in
    absurd cc

-- what was read as a tree has this height
abbrev IsHigh : {A Tree : Type 0} → (Tree → ℕ) → (A → Tree) → Result (A × ℕ) ParseError → Type 0
IsHigh height_of look given = IfOk given (λ x. x.1 ≡ height_of (look x.0))

told_by : {A Tree : Type 0} (Is : List Token → Tree → Type 0) (height_of : Tree → ℕ) (source : List ℕ) (look : A → Tree)
    (room : ℕ) (read : Result Tree Fault) (end : ℕ) (ts : List Token) (stop : Option LexingEnd)
    (given : Result (A × ℕ) ParseError)
    → MOST_HEIGHT ≤ room
    → ReadsExactly Is height_of room ts read
    → length source ≤ MOST_UNITS
    → end ≡ length source
    → IsReadOf source ts stop
    → Gives (λ x. look x.0) given read
    → IsHigh height_of look given
    → Answers Is height_of source look (tree_or_fault (record { tokens = ts; stop = stop }) end given)
told_by Is height_of source look room read end ts stop (Ok x) le exact short e r g h =
    complete_answers Is height_of source look room read end ts stop x.0 x.1 exact short r g h
told_by Is height_of source look room read end ts stop (Err errors.Memory) le exact short e r g h =
    memory_answers Is height_of source look short
told_by Is height_of source look room read end ts stop (Err (errors.TooDeep left)) le exact short e r g h =
    deep_answers Is height_of source look short
    (reads_tree Is height_of source room read ts stop le exact r (deep left) g)
    (begins_too_deep Is height_of source ts stop short r (exact.deepens left g))
told_by Is height_of source look room read end ts stop (Err (errors.Syntax left)) le exact short e r g h =
    let f = fault_of (record { tokens = ts; stop = stop }) end (errors.Syntax left) in
    placed_answers Is height_of source look f (fault_placed ts stop end left)
    (fault_stands Is height_of source end ts stop short e r left (exact.leaves left g))

-- What is told of a source whose tokens were read so far.
told_answers : {A Tree : Type 0} (Is : List Token → Tree → Type 0) (height_of : Tree → ℕ) (source : List ℕ)
    (look : A → Tree) (room : ℕ) (read : Result Tree Fault) (end : ℕ) (given : Result (A × ℕ) ParseError)
    → MOST_HEIGHT ≤ room
    → ReadsExactly Is height_of room (lexed_of source).tokens read
    → length source ≤ MOST_UNITS
    → end ≡ length source
    → Gives (λ x. look x.0) given read
    → IsHigh height_of look given
    → Answers Is height_of source look (tree_or_fault (lexed_of source) end given)
told_answers Is height_of source look room read end given le exact short e g h =
    told_by Is height_of source look room read end (lexed_of source).tokens
    (lexed_of source).stop given le exact short e (is_read_of source) g h

-- The same as the one before, of the code's values.
pub told_as : {A Tree : Type 0} (Is : List Token → Tree → Type 0) (height_of : Tree → ℕ) (source : List ℕ)
    (look : A → Tree) (room : ℕ) (read : List Token → Result Tree Fault) (l : Lexed) (ts : List Token) (end : ℕ)
    (given : Result (A × ℕ) ParseError) (answer : Result A ParseFault)
    → MOST_HEIGHT ≤ room
    → ((ts : List Token) → ReadsExactly Is height_of room ts (read ts))
    → l ≡ lexed_of source
    → ts ≡ l.tokens
    → length source ≤ MOST_UNITS
    → end ≡ length source
    → Gives (λ x. look x.0) given (read ts)
    → IsHigh height_of look given
    → answer ≡ tree_or_fault l end given
    → Answers Is height_of source look answer
told_as {A} Is height_of source look room read l ts end given answer le exact p q short e g h a =
    let t : ts ≡ (lexed_of source).tokens = q ∙ ap (λ (l : Lexed). l.tokens) p in
    let same : answer ≡ tree_or_fault (lexed_of source) end given = a ∙ ap (λ (l : Lexed). tree_or_fault l end given) p in
    subst (λ (answer : Result A ParseFault). Answers Is height_of source look answer) (sym same)
    (told_answers Is height_of source look room (read (lexed_of source).tokens) end given le
    (exact (lexed_of source).tokens) short e
    (subst (λ (ts : List Token). Gives (λ x. look x.0) given (read ts)) t g) h)
