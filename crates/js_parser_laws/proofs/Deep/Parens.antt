-- An expression in parentheses that is too deep is so behind the names there, for readers that read a name alone.
use Rattle.std.proofs.Common.{◌≡◌, ℕ, ◌≤◌, Bool, true, false, List, ◌∷◌, ◌++◌, length, Option, Some, Ok, Err, refl, sym, ap, ◌∙◌, arith}
use Rattle.std.specs.Prelude.{nat_le}
use Rattle.std.proofs.lemmas.Bool.{le-leb}
use Rattle.js_lexer.specs.declared.token.TokenKind.TheVariants as kinds
use Rattle.js_tree.specs.Trees as trees
use Rattle.js_tree.specs.Trees.{Expression}
use Rattle.js_parser_language.specs.Tokens.{Token, head_of}
use Rattle.js_parser_laws.proofs.Follows.Tools.{head_past}
use Rattle.js_tree.specs.Height.{height}
use Rattle.js_tree.specs.Views.{expressions}
use Rattle.js_parser_language.specs.Kinds.{is_kind}
use Rattle.js_parser_readers.specs.Reading.{deep, Reader, ◌>>=◌}
use Rattle.js_parser_readers.specs.Classes.{is_arrow, past_names, no_arrow, listed_by}
use Rattle.js_parser_readers.specs.Productions.{Below, more_assignments}
use Rattle.js_parser_readers.specs.Parsing.{assignment, comma_by, expression}
use Rattle.js_parser_laws.proofs.Follows.Parts.{Pair}
use Rattle.js_parser_laws.proofs.Follows.Arrows.{scan_end}
use Rattle.js_parser_laws.proofs.Follows.Assignments.{Spans, named_form, named_assignment, name_alone, assignment_names, comma_follows}
use Rattle.js_parser_laws.proofs.Deep.Tools.{Deepens}
use Rattle.js_parser_laws.proofs.Deep.Parts.{DeepBelow}
use Rattle.js_parser_laws.proofs.Deep.Operators.{comma_deepens}
use Rattle.js_parser_laws.proofs.Deep.Never.{named_deepens}
use Rattle.js_parser_laws.proofs.Deep.Names.{DeepTo, deep_to_all, Sure, lift_first, made_deep, names_deep, others_of, others_deep}

abbrev pub Low : Expression → Type 0
Low e = height e ≤ 1

-- too deep behind a name
behind_name : (b : Below) (m : ℕ)
    → Pair b b
    → DeepBelow b
    → (t : Token) (ts : List Token)
    → is_kind kinds.Name (Some t) ≡ true
    → (i : ℕ)
    → assignment b m (t ∷ ts) ≡ Err (deep i)
    → DeepTo (λ r. assignment b m r) (t ∷ ts) i (length ts)
behind_name b m p d t ts n i e =
    let form : Reader Expression = λ r. named_form b m t.string_value (is_arrow (head_of r)) r in
    let c = deep_to_all form ts i
    ((named_deepens b m p d (length ts) t.string_value).at ts (omega arith) i
    (sym (named_assignment b m t ts n) ∙ e))
    in
    record {
      deep_at = record {
        before = t ∷ c.deep_at.before;
        here = c.deep_at.here;
        left = c.deep_at.left;
        parts = ap (λ (l : List Token). t ∷ l) c.deep_at.parts;
        counted = c.deep_at.counted;
        never =
            λ r x o. c.deep_at.never r x
            (sym (named_assignment b m t (c.deep_at.before ++ (c.deep_at.here ∷ r)) n) ∙ o);
      };
      near = c.near;
    }

pub assignment_sure : (b : Below) (m : ℕ)
    → Pair b b
    → Spans b
    → DeepBelow b
    → ((n : ℕ) → Deepens n (λ ts. assignment b m ts))
    → Sure Low (λ ts. assignment b m ts)
assignment_sure b m p s d h = record {
  names = assignment_names b m p s;
  keeps = h;
  sure = λ t ts n e. (trees.name t.string_value, name_alone b m t ts n e, omega arith);
  behind = behind_name b m p d;
}

more_deep : (b : Below)
    → Sure Low b.assignment
    → (ts : List Token)
    → listed_by (past_names false ts) ≡ no_arrow
    → (i : ℕ)
    → more_assignments b ts ≡ Err (deep i)
    → DeepTo (λ r. more_assignments b r) ts i (length (scan_end false ts))
unfolding more_assignments
more_deep b s ts q i e =
    lift_first (others_of b.assignment) (λ xs r. Ok (expressions xs, r)) ts i (length (scan_end false ts))
    (others_deep Low b.assignment s (length ts) ts (omega arith) q i
    (made_deep (others_of b.assignment ts) expressions i e))

-- what stands at a comma
abbrev pub at_comma : Below → ℕ → Expression → Reader Expression
at_comma b m e ts = comma_by b m e (is_kind kinds.Comma (head_of ts)) ts

abbrev comma_of : Below → Expression → Reader Expression
comma_of b e ts = more_assignments b ts >>= λ x. Ok (trees.comma (trees.an_expression e x.0), x.1)

comma_is : (b : Below) (m : ℕ) (e : Expression)
    → nat_le (height e) m ≡ true
    → (ts : List Token)
    → is_kind kinds.Comma (head_of ts) ≡ true
    → at_comma b m e ts ≡ comma_of b e ts
comma_is b m e low ts c = rw (c, low) refl

pub comma_deep : (b : Below) (m : ℕ)
    → Sure Low b.assignment
    → 1 ≤ m
    → (e : Expression)
    → Low e
    → (ts : List Token)
    → listed_by (past_names false ts) ≡ no_arrow
    → (v : Bool)
    → is_kind kinds.Comma (head_of ts) ≡ v
    → (i : ℕ)
    → at_comma b m e ts ≡ Err (deep i)
    → DeepTo (at_comma b m e) ts i (length (scan_end false ts))
comma_deep b m s le e low ts q false c i z =
    let y : comma_by b m e false ts ≡ Err (deep i) = ap (λ (v : Bool). comma_by b m e v ts) (sym c) ∙ z in
    absurd cc
comma_deep b m s le e low ts q true c i z =
    let fits : nat_le (height e) m ≡ true = le-leb (height e) m (omega (arith, low, le)) in
    let y : comma_of b e ts ≡ Err (deep i) = sym (comma_is b m e fits ts c) ∙ z in
    let d = lift_first (λ r. more_assignments b r) (λ es r. Ok (trees.comma (trees.an_expression e es), r)) ts i
    (length (scan_end false ts))
    (more_deep b s ts q i (made_deep (more_assignments b ts) (λ es. trees.comma (trees.an_expression e es)) i y))
    in
    record {
      deep_at = record {
        before = d.deep_at.before;
        here = d.deep_at.here;
        left = d.deep_at.left;
        parts = d.deep_at.parts;
        counted = d.deep_at.counted;
        never = λ r x o.
            let us : List Token = d.deep_at.before ++ (d.deep_at.here ∷ r) in
            let same : head_of us ≡ head_of ts = head_past d.deep_at.before (d.deep_at.here ∷ r)
            (d.deep_at.here ∷ d.deep_at.left) refl
            ∙ ap (λ (l : List Token). head_of l) (sym d.deep_at.parts) in
            d.deep_at.never r x
            (sym (comma_is b m e fits us (ap (λ (o : Option Token). is_kind kinds.Comma o) same ∙ c)) ∙ o);
      };
      near = d.near;
    }

-- An expression that is too deep behind a parenthesis is so behind the names there.
pub expression_deep : (b : Below) (m : ℕ)
    → Pair b b
    → DeepBelow b
    → 1 ≤ m
    → Sure Low (λ ts. assignment b m ts)
    → Sure Low b.assignment
    → (ts : List Token)
    → listed_by (past_names true ts) ≡ no_arrow
    → (i : ℕ)
    → expression b m ts ≡ Err (deep i)
    → DeepTo (λ r. expression b m r) ts i (length (scan_end true ts))
unfolding expression
expression_deep b m p d le one two ts q i e =
    names_deep Low (λ r. assignment b m r) one (at_comma b m) (comma_follows b b m m (omega arith) p)
    (λ n f. comma_deepens b m p d n f) ts q
    (λ f r low l c j z. comma_deep b m two le f low r c (is_kind kinds.Comma (head_of r)) refl j z) i e
