-- Short words for the trees of small scripts, and for what their runs report.
use Rattle.std.specs.Prelude.{◌≡◌, ℕ, true, false, List, [], ◌∷◌, map, Some, codes}
use Prim.Native.String.{String}
use Rattle.js_tree_operators.specs.declared.operator.UnaryOperator.TheVariants as unaries
use Rattle.js_tree_operators.specs.declared.operator.UpdateOperator.TheVariants as updates
use Rattle.js_tree_operators.specs.declared.operator.BinaryOperator.TheVariants as binaries
use Rattle.js_tree_operators.specs.declared.operator.AssignmentOperator.TheVariants as assigns
use Rattle.js_tree.specs.Trees as t
use Rattle.js_tree.specs.Trees.{Expression, OptionalExpression, PropertyDefinition, Statement}
use Rattle.js_tree.specs.Views.{expressions, statements, properties}
use Rattle.js_semantics.proofs.Reports.{ended_normally, threw_text, report, ran, outcome, ended_as}

-- ---- expressions: names, numbers, strings, properties, calls, literals

abbrev pub v : String → Expression
v x = t.name (codes x)

abbrev pub d : ℕ → Expression
d n = t.number n

abbrev pub s : String → Expression
s x = t.string (codes x)

abbrev pub dot : Expression → String → Expression
dot e x = t.member e (codes x)

abbrev pub at : Expression → Expression → Expression
at e k = t.index e k

abbrev pub call : Expression → List Expression → Expression
call f es = t.call f (expressions es)

abbrev pub array : List Expression → Expression
array es = t.array (expressions es)

abbrev pub object : List PropertyDefinition → Expression
object ps = t.object (properties ps)

abbrev pub key : String → Expression → PropertyDefinition
key x e = t.value (t.word_key (codes x)) e

abbrev pub arrow : List String → Expression → Expression
arrow xs e = t.arrow (t.name_list (map codes xs)) e

abbrev pub arrow_block : List String → List Statement → Expression
arrow_block xs ss = t.arrow_block (t.name_list (map codes xs)) (statements ss)

-- ---- operators

abbrev pub add : Expression → Expression → Expression
add l r = t.binary binaries.Add l r

abbrev pub sub : Expression → Expression → Expression
sub l r = t.binary binaries.Subtract l r

abbrev pub mul : Expression → Expression → Expression
mul l r = t.binary binaries.Multiply l r

abbrev pub div : Expression → Expression → Expression
div l r = t.binary binaries.Divide l r

abbrev pub rem : Expression → Expression → Expression
rem l r = t.binary binaries.Remainder l r

abbrev pub less : Expression → Expression → Expression
less l r = t.binary binaries.LessThan l r

abbrev pub same : Expression → Expression → Expression
same l r = t.binary binaries.StrictEqual l r

abbrev pub neg : Expression → Expression
neg e = t.unary unaries.Minus e

abbrev pub inc : Expression → Expression
inc e = t.postfix updates.Increment e

abbrev pub put : Expression → Expression → Expression
put x e = t.assign assigns.Assign x e

-- ---- statements

abbrev pub run : Expression → Statement
run e = t.expression e

-- console.log( .. );
abbrev pub log : List Expression → Statement
log es = run (call (dot (v "console") "log") es)

abbrev pub let_ : String → Expression → Statement
let_ x e = t.lexical false (t.a_declarator (t.declarator (codes x) (t.present e)) t.no_declarators)

abbrev pub const : String → Expression → Statement
const x e = t.lexical true (t.a_declarator (t.declarator (codes x) (t.present e)) t.no_declarators)

abbrev pub ret : Expression → Statement
ret e = t.return (t.present e)

abbrev pub block : List Statement → Statement
block ss = t.block (statements ss)

abbrev pub fn : String → List String → List Statement → Statement
fn x xs ss = t.declared_function (codes x) (map codes xs) (statements ss)

-- for (let x = e; ..; ..) ..
abbrev pub for_let : String → Expression → OptionalExpression → OptionalExpression → Statement → Statement
for_let x e test update body =
    t.for_lexical false (t.a_declarator (t.declarator (codes x) (t.present e)) t.no_declarators) test update body

abbrev pub try_catch : List Statement → String → List Statement → Statement
try_catch ss x hs = t.try (statements ss) (t.catch (Some (codes x)) (statements hs)) t.no_finally

abbrev pub try_finally : List Statement → List Statement → Statement
try_finally ss fs = t.try (statements ss) t.no_catch (t.finally (statements fs))

abbrev pub try_both : List Statement → String → List Statement → List Statement → Statement
try_both ss x hs fs = t.try (statements ss) (t.catch (Some (codes x)) (statements hs)) (t.finally (statements fs))

-- ---- what a script does

-- it prints these lines and ends; it prints them and throws what is shown so
abbrev pub Prints : List Statement → List String → Type 0
Prints ss lines = ended_as (statements ss ∷ []) [] ≡ outcome ended_normally (map codes lines)

abbrev pub Throws : List Statement → List String → String → Type 0
Throws ss lines x = ended_as (statements ss ∷ []) [] ≡ outcome (threw_text (codes x)) (map codes lines)

-- it does so in so many steps
abbrev pub Takes : ℕ → List Statement → List String → Type 0
Takes n ss lines = ran (statements ss ∷ []) [] ≡ report n ended_normally (map codes lines)

abbrev pub TakesThrow : ℕ → List Statement → List String → String → Type 0
TakesThrow n ss lines x = ran (statements ss ∷ []) [] ≡ report n (threw_text (codes x)) (map codes lines)
