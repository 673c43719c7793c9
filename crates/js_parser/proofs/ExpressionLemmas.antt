-- A text's tree as a function of the text is the tree that it has.
use Rattle.std.proofs.Common.{◌≡◌, ℕ, ◌≤◌, Bool, true, false, List, length, Option, Some, None, Result, Ok, Err, refl, ap}
use Rattle.std.specs.Prelude.{nat_le, if◌then◌else◌, IfErr}
use Rattle.std.proofs.lemmas.Bool.{leb-true, le-leb}
use Rattle.js_tree.specs.Trees.{Expression}
use Rattle.js_tree.specs.Height.{height}
use Rattle.js_parser_language.specs.Tokens.{Token}
use Rattle.js_parser_language.specs.Language.{IsExpression, IsFunction}
use Rattle.js_parser_readers.specs.declared.fault.ParseFault.{ParseFault}
use Rattle.js_parser_readers.specs.declared.fault.ParseFault.TheVariants as faults
use Rattle.js_parser_readers.specs.Reading.{Fault}
use Rattle.js_parser_readers.specs.Parsing.{parse_expression, parse_function}
use Rattle.js_parser_laws.proofs.Soundness.{expression_read, function_read}
use Rattle.js_parser_laws.proofs.Completeness.{expression_again_whole, function_again_whole}
use Rattle.js_parser.specs.Answers.{OkOrMemory}
use Rattle.js_parser.specs.Expressions.{TreeReader, if_read, tree_of_tokens, tree_by, expression_of, function_of, UnlessMemory}
use Rattle.js_parser_descent.specs.declared.limits.TheConstants.{MOST_HEIGHT}
use Rattle.js_parser.specs.declared.limits.TheConstants.{MOST_UNITS, MOST_TOKENS}
use Rattle.js_parser.specs.Sources.{tokens_of, bad_place, IsSource, IsTreeOf}

-- what reads exactly the trees of a language that aren't too high
record Reads (Is : List Token → Expression → Type 0) (read : TreeReader) : Type 0 where
  sound : (ts : List Token) (e : Expression) → read ts ≡ Ok e → Is ts e × (height e ≤ MOST_HEIGHT)
  complete : (ts : List Token) (e : Expression) → Is ts e → height e ≤ MOST_HEIGHT → read ts ≡ Ok e

-- ---- a source with a tree

read_some : (e : Expression) (r : Result Expression Fault) → r ≡ Ok e → if_read r ≡ Some e
read_some e r is = ap (λ (r : Result Expression Fault). if_read r) is

tokens_some : (read : TreeReader) (e : Expression) (ts : List Token) (few : Bool)
    → few ≡ true
    → read ts ≡ Ok e
    → (if few then if_read (read ts) else None) ≡ Some e
tokens_some read e ts true is r = read_some e (read ts) r
tokens_some read e ts false is r = absurd cc

good_some : (read : TreeReader) (e : Expression) (bad : Option ℕ) (ts : List Token)
    → bad ≡ None
    → nat_le (length ts) MOST_TOKENS ≡ true
    → read ts ≡ Ok e
    → tree_of_tokens read bad ts ≡ Some e
good_some read e None ts is few r = tokens_some read e ts (nat_le (length ts) MOST_TOKENS) few r
good_some read e (Some at) ts is few r = absurd cc

short_some : (read : TreeReader) (e : Expression) (source : List ℕ) (short : Bool)
    → short ≡ true
    → tree_of_tokens read (bad_place source) (tokens_of source) ≡ Some e
    → (if short then tree_of_tokens read (bad_place source) (tokens_of source) else None) ≡ Some e
short_some read e source true is r = r
short_some read e source false is r = absurd cc

some_by : (Is : List Token → Expression → Type 0) (read : TreeReader)
    → Reads Is read
    → (source : List ℕ) (e : Expression)
    → IsSource Is height source e
    → tree_by read source ≡ Some e
some_by Is read reads source e i =
    let r : read (tokens_of source) ≡ Ok e = reads.complete (tokens_of source) e i.0.is i.1 in
    short_some read e source (nat_le (length source) MOST_UNITS) (le-leb (length source) MOST_UNITS i.0.short)
    (good_some read e (bad_place source) (tokens_of source) i.0.all_good
    (le-leb (length (tokens_of source)) MOST_TOKENS i.0.few) r)

-- ---- a source without one

test_le : (a b : ℕ) → nat_le a b ≡ true → a ≤ b
test_le a b is = leb-true a b is

read_none : (r : Result Expression Fault) → ((e : Expression) → r ≡ Ok e → ⊥) → if_read r ≡ None
read_none (Ok e) lacks = absurd (lacks e refl)
read_none (Err f) lacks = refl

tokens_none : (read : TreeReader) (ts : List Token) (few : Bool)
    → (few ≡ true → (e : Expression) → read ts ≡ Ok e → ⊥)
    → (if few then if_read (read ts) else None) ≡ None
tokens_none read ts true lacks = read_none (read ts) (lacks refl)
tokens_none read ts false lacks = refl

good_none : (read : TreeReader) (bad : Option ℕ) (ts : List Token)
    → (bad ≡ None → nat_le (length ts) MOST_TOKENS ≡ true → (e : Expression) → read ts ≡ Ok e → ⊥)
    → tree_of_tokens read bad ts ≡ None
good_none read None ts lacks = tokens_none read ts (nat_le (length ts) MOST_TOKENS) (lacks refl)
good_none read (Some at) ts lacks = refl

short_none : (read : TreeReader) (source : List ℕ) (short : Bool)
    → (short ≡ true → tree_of_tokens read (bad_place source) (tokens_of source) ≡ None)
    → (if short then tree_of_tokens read (bad_place source) (tokens_of source) else None) ≡ None
short_none read source true lacks = lacks refl
short_none read source false lacks = refl

none_by : (Is : List Token → Expression → Type 0) (read : TreeReader)
    → Reads Is read
    → (source : List ℕ)
    → ((e : Expression) → IsSource Is height source e → ⊥)
    → tree_by read source ≡ None
none_by Is read reads source lacks =
    short_none read source (nat_le (length source) MOST_UNITS) (λ short.
    good_none read (bad_place source) (tokens_of source) (λ good few e r.
    let s = reads.sound (tokens_of source) e r in
    let t : IsTreeOf Is source e = record {
      short = test_le (length source)
          MOST_UNITS short;
      all_good = good;
      few = test_le (length (tokens_of source)) MOST_TOKENS few;
      is = s.0;
    } in
    lacks e (t, s.1)))

-- ---- what is answered for a source

unless_memory : (Is : List Token → Expression → Type 0) (read : TreeReader)
    → Reads Is read
    → (source : List ℕ) (f : ParseFault)
    → ((e : Expression) → IsSource Is height source e → f ≡ faults.Memory)
    → UnlessMemory (tree_by read source ≡ None) f
unless_memory Is read reads source (faults.TooLong units) only =
    none_by Is read reads source (λ e i. let m : faults.TooLong units ≡ faults.Memory = only e i in cc)
unless_memory Is read reads source (faults.Token at) only =
    none_by Is read reads source (λ e i. let m : faults.Token at ≡ faults.Memory = only e i in cc)
unless_memory Is read reads source (faults.Syntax at) only =
    none_by Is read reads source (λ e i. let m : faults.Syntax at ≡ faults.Memory = only e i in cc)
unless_memory Is read reads source (faults.TooMany at) only =
    none_by Is read reads source (λ e i. let m : faults.TooMany at ≡ faults.Memory = only e i in cc)
unless_memory Is read reads source faults.TooDeep only =
    none_by Is read reads source (λ e i. let m : faults.TooDeep ≡ faults.Memory = only e i in cc)
unless_memory Is read reads source faults.Memory only = tt

fails_by : {A : Type 0} (Is : List Token → Expression → Type 0) (read : TreeReader)
    → Reads Is read
    → (source : List ℕ) (look : A → Expression) (answer : Result A ParseFault)
    → ((e : Expression) → IsSource Is height source e → OkOrMemory (λ x. look x ≡ e) answer)
    → IfErr answer (λ f. UnlessMemory (tree_by read source ≡ None) f)
fails_by Is read reads source look (Ok x) only = tt
fails_by Is read reads source look (Err f) only = unless_memory Is read reads source f only

reads_expressions : Reads IsExpression (parse_expression MOST_HEIGHT)
reads_expressions =
    record {
      sound = λ ts e r. expression_read MOST_HEIGHT ts e r;
      complete = λ ts e i l. expression_again_whole MOST_HEIGHT ts e i l;
    }

reads_functions : Reads IsFunction (parse_function MOST_HEIGHT)
reads_functions =
    record {
      sound = λ ts e r. function_read MOST_HEIGHT ts e r;
      complete = λ ts e i l. function_again_whole MOST_HEIGHT ts e i l;
    }

-- the tree of a source
pub expression_some : (source : List ℕ) (e : Expression)
    → IsSource IsExpression height source e
    → expression_of source ≡ Some e
unfolding expression_of
expression_some source e i = some_by IsExpression (parse_expression MOST_HEIGHT) reads_expressions source e i

pub function_some : (source : List ℕ) (e : Expression)
    → IsSource IsFunction height source e
    → function_of source ≡ Some e
unfolding function_of
function_some source e i = some_by IsFunction (parse_function MOST_HEIGHT) reads_functions source e i

-- no tree of a source with a fault
pub expression_none : {A : Type 0} (source : List ℕ) (look : A → Expression) (answer : Result A ParseFault)
    → ((e : Expression) → IsSource IsExpression height source e → OkOrMemory (λ x. look x ≡ e) answer)
    → IfErr answer (λ f. UnlessMemory (expression_of source ≡ None) f)
unfolding expression_of
expression_none source look answer only =
    fails_by IsExpression (parse_expression MOST_HEIGHT) reads_expressions source look answer only

pub function_none : {A : Type 0} (source : List ℕ) (look : A → Expression) (answer : Result A ParseFault)
    → ((e : Expression) → IsSource IsFunction height source e → OkOrMemory (λ x. look x ≡ e) answer)
    → IfErr answer (λ f. UnlessMemory (function_of source ≡ None) f)
unfolding function_of
function_none source look answer only =
    fails_by IsFunction (parse_function MOST_HEIGHT) reads_functions source look answer only

-- ---- the tree that a source has by definition

read_is : (e : Expression) (r : Result Expression Fault) → if_read r ≡ Some e → r ≡ Ok e
read_is e (Ok f) is = let same : f ≡ e = cc in ap (λ (e : Expression). Ok e) same
read_is e (Err f) is = absurd cc

-- the tokens aren't too many, and are read
record AreRead (read : TreeReader) (ts : List Token) (e : Expression) : Type 0 where
  few : nat_le (length ts) MOST_TOKENS ≡ true
  is : read ts ≡ Ok e

tokens_are : (read : TreeReader) (e : Expression) (ts : List Token) (few : Bool)
    → nat_le (length ts) MOST_TOKENS ≡ few
    → (if few then if_read (read ts) else None) ≡ Some e
    → AreRead read ts e
tokens_are read e ts true few is = record { few = few; is = read_is e (read ts) is }
tokens_are read e ts false few is = absurd cc

-- no token is bad
record IsGood (read : TreeReader) (bad : Option ℕ) (ts : List Token) (e : Expression) : Type 0 where
  good : bad ≡ None
  tokens : AreRead read ts e

good_is : (read : TreeReader) (e : Expression) (bad : Option ℕ) (ts : List Token)
    → tree_of_tokens read bad ts ≡ Some e
    → IsGood read bad ts e
good_is read e None ts is =
    record { good = refl; tokens = tokens_are read e ts (nat_le (length ts) MOST_TOKENS) refl is }
good_is read e (Some at) ts is = absurd cc

short_is : (Is : List Token → Expression → Type 0) (read : TreeReader)
    → Reads Is read
    → (source : List ℕ) (e : Expression) (short : Bool)
    → nat_le (length source) MOST_UNITS ≡ short
    → (if short then tree_of_tokens read (bad_place source) (tokens_of source) else None) ≡ Some e
    → IsSource Is height source e
short_is Is read reads source e true short is =
    let g : IsGood read (bad_place source) (tokens_of source) e = good_is read e (bad_place source) (tokens_of source)
    is in
    let s = reads.sound (tokens_of source) e g.tokens.is in
    let t : IsTreeOf Is source e = record {
      short = test_le (length source)
          MOST_UNITS short;
      all_good = g.good;
      few = test_le (length (tokens_of source))
          MOST_TOKENS g.tokens.few;
      is = s.0;
    } in
    (t, s.1)
short_is Is read reads source e false short is = absurd cc

pub expression_is : (source : List ℕ) (e : Expression)
    → expression_of source ≡ Some e
    → IsSource IsExpression height source e
unfolding expression_of
expression_is source e is =
    short_is IsExpression (parse_expression MOST_HEIGHT) reads_expressions source e (nat_le (length source) MOST_UNITS)
    refl is

pub function_is : (source : List ℕ) (e : Expression) → function_of source ≡ Some e → IsSource IsFunction height source e
unfolding function_of
function_is source e is =
    short_is IsFunction (parse_function MOST_HEIGHT) reads_functions source e (nat_le (length source) MOST_UNITS)
    refl is

-- a source that has no tree
pub expression_lacks : (source : List ℕ)
    → ((e : Expression) → IsSource IsExpression height source e → ⊥)
    → expression_of source ≡ None
unfolding expression_of
expression_lacks source lacks = none_by IsExpression (parse_expression MOST_HEIGHT) reads_expressions source lacks

pub function_lacks : (source : List ℕ)
    → ((e : Expression) → IsSource IsFunction height source e → ⊥)
    → function_of source ≡ None
unfolding function_of
function_lacks source lacks = none_by IsFunction (parse_function MOST_HEIGHT) reads_functions source lacks
