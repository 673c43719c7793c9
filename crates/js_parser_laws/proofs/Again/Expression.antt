-- What reads below a node reads every expression one higher.
use Rattle.std.proofs.Common.{◌≡◌, ℕ, suc, ◌≤◌, List, Ok}
use Rattle.js_tree.specs.Trees.{Expression}
use Rattle.js_parser_language.specs.Tokens.{Token, head_of, Matches}
use Rattle.js_parser_language.specs.Flat.{edge, flat}
use Rattle.js_parser_language.specs.Well.{level, Well}
use Rattle.js_tree.specs.Height.{height}
use Rattle.js_parser_readers.specs.Classes.{link, no_link}
use Rattle.js_parser_readers.specs.Productions.{Below}
use Rattle.js_parser_readers.specs.Parsing.{call, unary, operation, assignment, expression}
use Rattle.js_parser_laws.proofs.Claims.{AgainBelow, SeqAgain, Stops, StopsOperation, StopsUnary, NoComma}
use Rattle.js_parser_laws.proofs.Again.Property.{objects_again}
use Rattle.js_parser_laws.proofs.Again.Unary as unaries
use Rattle.js_parser_laws.proofs.Again.Operation as operations
use Rattle.js_parser_laws.proofs.Again.Assignment as assignments

pub assignment_again : SeqAgain
    → (n : ℕ) (b : Below)
    → AgainBelow n b
    → (e : Expression)
    → Well e
    → 1 ≤ level e
    → height e ≤ suc n
    → (ts r : List Token)
    → Matches (flat e) ts r
    → Stops (edge e) r
    → assignment b n ts ≡ Ok (e, r)
assignment_again q n b h e w v l ts r m s =
    assignments.assignment_is_read q n b h (objects_again q n b h) e w v l ts r m s

pub expression_again : SeqAgain
    → (n : ℕ) (b : Below)
    → AgainBelow n b
    → (e : Expression)
    → Well e
    → height e ≤ suc n
    → (ts r : List Token)
    → Matches (flat e) ts r
    → Stops (edge e) r
    → NoComma r
    → expression b n ts ≡ Ok (e, r)
expression_again q n b h e w l ts r m s c =
    assignments.expression_is_read q n b h (objects_again q n b h) e w l ts r m s c

pub operation_again : SeqAgain
    → (n : ℕ) (b : Below)
    → AgainBelow n b
    → (m : ℕ) (e : Expression)
    → Well e
    → 3 ≤ level e
    → m ≤ level e
    → height e ≤ suc n
    → (ts r : List Token)
    → Matches (flat e) ts r
    → StopsOperation m (edge e) r
    → operation b n m ts ≡ Ok (e, r)
operation_again q n b h m e w v low l ts r marks s =
    operations.operation_again q n b h (objects_again q n b h) m e w v low l ts r marks s

pub unary_again : SeqAgain
    → (n : ℕ) (b : Below)
    → AgainBelow n b
    → (e : Expression)
    → Well e
    → 13 ≤ level e
    → height e ≤ suc n
    → (ts r : List Token)
    → Matches (flat e) ts r
    → StopsUnary (edge e) r
    → unary b n ts ≡ Ok (e, r)
unary_again q n b h e w v l ts r m s = unaries.unary_again q n b h (objects_again q n b h) e w v l ts r m s

pub call_again : SeqAgain
    → (n : ℕ) (b : Below)
    → AgainBelow n b
    → (e : Expression)
    → Well e
    → 15 ≤ level e
    → height e ≤ suc n
    → (ts r : List Token)
    → Matches (flat e) ts r
    → link (head_of r) ≡ no_link
    → call b n ts ≡ Ok (e, r)
call_again q n b h e w v l ts r m s = unaries.call_again q n b h (objects_again q n b h) e w v l ts r m s
