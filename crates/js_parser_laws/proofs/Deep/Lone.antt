-- What reads a name alone, and is too deep at whatever else begins an expression or goes on with the name: so much has
-- to be read behind a parenthesis for it to be told from one before parameters.
use Rattle.std.proofs.Common.{◌≡◌, ℕ, zero, suc, Bool, true, false, List, [], ◌∷◌, ◌++◌, length, Option, Some, None, Ok, Err, refl, sym, ap, subst, ◌∙◌, inr, arith}
use Rattle.std.specs.Prelude.{nat_le}
use Rattle.std.proofs.lemmas.Bool.{lt-leb}
use Rattle.js_lexer.specs.declared.token.TokenKind.TheVariants as kinds
use Rattle.js_tree_operators.specs.declared.operator.BinaryOperator.{BinaryOperator}
use Rattle.js_tree.specs.Trees as trees
use Rattle.js_tree.specs.Trees.{Identifier, Expression}
use Rattle.js_parser_language.specs.Tokens.{Token, head_of, tail_of}
use Rattle.js_tree.specs.Height.{height}
use Rattle.js_parser_language.specs.Kinds.{is_kind}
use Rattle.js_parser_readers.specs.Reading.{stuck, deep, Read, Reader, ◌>>=◌}
use Rattle.js_parser_readers.specs.Classes as classes
use Rattle.js_parser_readers.specs.Classes.{PrimaryStart, start, CallTail, dot, key, no_link, link, update_near, operator, Joint, question, assigns_by, no_joint, joint, is_arrow}
use Rattle.js_parser_readers.specs.Productions.{Below}
use Rattle.js_parser_readers.specs.Parsing.{links_by, links, updated_by, operator_from, chain_by, chain, joined_by, joined, assignment, below}
use Rattle.js_parser_language.proofs.KindLemmas.{kind_is}
use Rattle.js_parser_laws.proofs.Claims.{SoundBelow}
use Rattle.js_parser_laws.proofs.TokenLemmas.{faulty}
use Rattle.js_parser_laws.proofs.Again.Level.{height_positive}
use Rattle.js_parser_laws.proofs.Follows.Tools.{Follows, past, peeks, from, onto}
use Rattle.js_parser_laws.proofs.Follows.Parts.{Pair}
use Rattle.js_parser_laws.proofs.Follows.Arrows.{Within, not_longer, ends_name, Names}
use Rattle.js_parser_laws.proofs.Follows.Assignments.{behind, behind_follows, named_form, plain_form, assignment_form, assignment_is, Ended, ended_at, behind_alone}
use Rattle.js_parser_laws.proofs.Alive.Parts.{AliveBelow}
use Rattle.js_parser_laws.proofs.Locality.{pair_below}
use Rattle.js_parser_laws.proofs.Deep.Tools.{deep_is, Deepens, DeepensOn, on, deep_past, deep_peeks}
use Rattle.js_parser_laws.proofs.Deep.Parts.{DeepBelow}
use Rattle.js_parser_laws.proofs.Deep.Never.{behind_deepens}
use Rattle.js_parser_laws.proofs.Deep.Names.{DeepTo, deep_to_all, Sure}
use Rattle.js_parser_laws.proofs.Deep.Parens.{Low}
use Rattle.js_parser_laws.proofs.Deep.Start.{begins_operand, operation_elsewhere}
use Rattle.js_parser_laws.proofs.Deep.Shallow.{at_class, class_none, class_deepens, class_follows, class_stuck, shallow, shallow_own, shallow_deepens, shallow_sound, operand_lives, shallow_alive}

-- ---- nothing is read

abbrev pub operand : Reader Expression
operand ts = at_class begins_operand ts

abbrev pub bare : Below
bare = shallow operand operand

pub operand_follows : Follows operand operand
operand_follows = class_follows begins_operand operand (λ ts h. class_stuck begins_operand ts h)

pub bare_own : Pair bare bare
bare_own = shallow_own operand operand operand_follows operand_follows

pub bare_deepens : DeepBelow bare
bare_deepens = shallow_deepens operand operand (class_deepens begins_operand refl) (class_deepens begins_operand refl)

pub bare_sound : (n : ℕ) → SoundBelow n bare
bare_sound n =
    shallow_sound n operand operand (λ ts x p. absurd (class_none {A = Expression} begins_operand ts x p))
    (λ ts x p. absurd (class_none {A = Expression} begins_operand ts x p))

pub bare_alive : AliveBelow bare
bare_alive =
    shallow_alive operand operand (λ ts e p. operand_lives 1 (omega arith) ts e p)
    (λ ts e p. operand_lives 0 (omega arith) ts e p)

-- ---- where no height is allowed, what reads below doesn't count

not_low : (e : Expression) → nat_le (height e) 0 ≡ false
not_low e = lt-leb (height e) 0 (height_positive e)

links_same_by : (b c : Below) (go go' : Expression → Reader Expression) (e : Expression) (l : CallTail) (ts : List Token)
    → links_by b 0 go e l ts ≡ links_by c 0 go' e l ts
links_same_by b c go go' e no_link ts = refl
links_same_by b c go go' e dot ts = rw (not_low e) refl
links_same_by b c go go' e key ts = rw (not_low e) refl
links_same_by b c go go' e classes.arguments ts = rw (not_low e) refl

links_same : (b c : Below) (e : Expression) (ts : List Token) → links b 0 (suc zero) e ts ≡ links c 0 (suc zero) e ts
unfolding links
links_same b c e ts = links_same_by b c (λ f r. links b 0 zero f r) (λ f r. links c 0 zero f r) e (link (head_of ts)) ts

chain_same_by : (b c : Below) (go go' : Expression → Reader Expression) (e : Expression) (o : Option BinaryOperator)
    (ts : List Token)
    → chain_by b 0 go e o ts ≡ chain_by c 0 go' e o ts
chain_same_by b c go go' e None ts = refl
chain_same_by b c go go' e (Some o) ts = rw (not_low e) refl

chain_same : (b c : Below) (e : Expression) (ts : List Token)
    → chain b 0 3 (suc zero) e ts ≡ chain c 0 3 (suc zero) e ts
unfolding chain
chain_same b c e ts =
    chain_same_by b c (λ f r. chain b 0 3 zero f r) (λ f r. chain c 0 3 zero f r) e
    (operator_from 3 (operator (head_of ts))) ts

joined_same_by : (b c : Below) (e : Expression) (j : Joint) (ts : List Token)
    → joined_by b 0 e j ts ≡ joined_by c 0 e j ts
joined_same_by b c e question ts = rw (not_low e) refl
joined_same_by b c e (assigns_by o) ts = rw (not_low e) refl
joined_same_by b c e no_joint ts = refl

joined_same : (b c : Below) (e : Expression) (ts : List Token) → joined b 0 e ts ≡ joined c 0 e ts
unfolding joined
joined_same b c e ts = joined_same_by b c e (joint (head_of ts)) ts

then_same : {A B : Type 0} (x : Read A) (f g : A → Reader B)
    → ((a : A) (r : List Token) → f a r ≡ g a r)
    → (x >>= λ y. f y.0 y.1) ≡ (x >>= λ y. g y.0 y.1)
then_same (Ok y) f g h = h y.0 y.1
then_same (Err e) f g h = refl

behind_same : (b c : Below) (e : Expression) (ts : List Token) → behind b 0 e ts ≡ behind c 0 e ts
behind_same b c e ts =
    let update : Expression → Reader Expression = λ f r. updated_by 0 f (update_near (head_of r)) r in
    let two : Below → Read Expression = λ d. links d 0 (suc zero) e ts >>= λ x. update x.0 x.1 in
    let three : Below → Read Expression = λ d. two d >>= λ x. chain d 0 3 (suc zero) x.0 x.1 in
    let p : two b ≡ two c = ap (λ (x : Read Expression). x >>= λ x. update x.0 x.1) (links_same b c e ts) in
    let q : three b ≡ three c = ap (λ (x : Read Expression). x >>= λ x. chain b 0 3 (suc zero) x.0 x.1) p
    ∙ then_same (two c) (λ f r. chain b 0 3 (suc zero) f r) (λ f r. chain c 0 3 (suc zero) f r) (chain_same b c) in
    ap (λ (x : Read Expression). x >>= λ x. joined b 0 x.0 x.1) q
    ∙ then_same (three c) (λ f r. joined b 0 f r) (λ f r. joined c 0 f r) (joined_same b c)

pub bare_behind : (n : ℕ) (e : Expression) → Follows (λ ts. behind bare 0 e ts) (λ ts. behind (below n) n e ts)
bare_behind n e =
    from (λ ts. behind (below zero) 0 e ts) (λ ts. behind bare 0 e ts) (λ ts. behind (below n) n e ts)
    (behind_same bare (below zero) e)
    (behind_follows (below zero) (below n) 0 n (omega arith) (pair_below zero n (omega arith)) e)

-- ---- a name alone

-- behind a name
abbrev pub lone_name : Identifier → Bool → Reader Expression
lone_name s true ts = Err (deep (length (tail_of ts)))
lone_name s false ts = behind bare 0 (trees.name s) ts

abbrev pub lone_by : PrimaryStart → Reader Expression
lone_by (classes.a_name s) ts = lone_name s (is_arrow (head_of (tail_of ts))) (tail_of ts)
lone_by classes.parenthesis ts = Err (deep (length (tail_of ts)))
lone_by _ ts = at_class begins_operand ts

abbrev pub lone : Reader Expression
lone ts = lone_by (start (head_of ts)) ts

-- too deep behind the next token
lost : {A : Type 0} (g : Reader A) → Follows (λ ts. Err (deep (length (tail_of ts)))) g
lost g = record { at = λ ts c. absurd c }

lone_name_own : (s : Identifier)
    → Follows (λ ts. lone_name s (is_arrow (head_of ts)) ts) (λ ts. lone_name s (is_arrow (head_of ts)) ts)
lone_name_own s = peeks is_arrow (λ v ts. lone_name s v ts) (λ v ts. lone_name s v ts) (elim [
  | true ↦ lost (λ ts. lone_name s true ts)
  | false ↦ behind_follows bare bare 0 0 (omega arith) bare_own (trees.name s)
])

lone_by_own : (v : PrimaryStart) → Follows (λ ts. lone_by v ts) (λ ts. lone_by v ts)
lone_by_own (classes.a_name s) =
    past (λ ts. lone_name s (is_arrow (head_of ts)) ts) (λ ts. lone_name s (is_arrow (head_of ts)) ts) (lone_name_own s)
lone_by_own classes.parenthesis = lost (λ ts. lone_by classes.parenthesis ts)
lone_by_own _ = operand_follows

pub lone_own : Follows lone lone
lone_own = peeks start (λ v ts. lone_by v ts) (λ v ts. lone_by v ts) lone_by_own

lone_name_follows : (n : ℕ) (s : Identifier)
    → Follows (λ ts. lone_name s (is_arrow (head_of ts)) ts) (λ ts. named_form (below n) n s (is_arrow (head_of ts)) ts)
lone_name_follows n s = peeks is_arrow (λ v ts. lone_name s v ts) (λ v ts. named_form (below n) n s v ts) (elim [
  | true ↦ lost (λ ts. named_form (below n) n s true ts)
  | false ↦ bare_behind n (trees.name s)
])

plain_elsewhere : (b : Below) (n : ℕ) (ts : List Token)
    → begins_operand (head_of ts) ≡ false
    → plain_form b n ts ≡ Err (stuck (length ts))
plain_elsewhere b n ts h = rw (operation_elsewhere b n 3 ts h) refl

lone_by_follows : (n : ℕ) (v : PrimaryStart) → Follows (λ ts. lone_by v ts) (λ ts. assignment_form (below n) n v ts)
lone_by_follows n (classes.a_name s) =
    past (λ ts. lone_name s (is_arrow (head_of ts)) ts) (λ ts. named_form (below n) n s (is_arrow (head_of ts)) ts)
    (lone_name_follows n s)
lone_by_follows n classes.parenthesis = lost (λ ts. assignment_form (below n) n classes.parenthesis ts)
lone_by_follows n _ = class_follows begins_operand (λ ts. plain_form (below n) n ts) (plain_elsewhere (below n) n)

-- what it answers, readers of all heights answer
pub lone_follows : (n : ℕ) → Follows lone (λ ts. assignment (below n) n ts)
lone_follows n =
    onto lone (λ ts. assignment_form (below n) n (start (head_of ts)) ts) (λ ts. assignment (below n) n ts)
    (assignment_is (below n) n)
    (peeks start (λ v ts. lone_by v ts) (λ v ts. assignment_form (below n) n v ts) (lone_by_follows n))

lost_deepens : {A : Type 0} (n : ℕ) → DeepensOn {A = A} n (λ ts. Err (deep (length (tail_of ts))))
lost_deepens {A} n =
    record {
      at = λ t ts l j e. record {
        before = [];
        here = t;
        left = ts;
        parts = refl;
        counted = deep_is {A = A}
            (length ts) j e;
        never = λ r x q. absurd cc;
      };
    }

behind_nothing : (s : Identifier) → behind bare 0 (trees.name s) [] ≡ Ok (trees.name s, [])
unfolding links chain joined
behind_nothing s = refl

lone_name_deepens : (n : ℕ) (s : Identifier) → Deepens n (λ ts. lone_name s (is_arrow (head_of ts)) ts)
lone_name_deepens n s =
    deep_peeks n is_arrow (λ v ts. lone_name s v ts)
    (λ j e. let q : Ok (trees.name s, []) ≡ faulty {A = Expression} (deep j) = sym (behind_nothing s)
    ∙ e in absurd cc)
    (elim [
      | true ↦ lost_deepens n
      | false ↦ on n (λ ts. behind bare 0 (trees.name s) ts)
          (behind_deepens bare 0 bare_own bare_deepens n (trees.name s))
    ])

lone_by_deepens : (n : ℕ) (v : PrimaryStart) → DeepensOn n (λ ts. lone_by v ts)
lone_by_deepens n (classes.a_name s) =
    on n (λ ts. lone_by (classes.a_name s) ts)
    (deep_past n (λ ts. lone_name s (is_arrow (head_of ts)) ts) (lone_name_deepens n s))
lone_by_deepens n classes.parenthesis = lost_deepens n
lone_by_deepens n _ = on n operand (class_deepens begins_operand refl n)

pub lone_deepens : (n : ℕ) → Deepens n lone
lone_deepens n = deep_peeks n start (λ v ts. lone_by v ts) (λ j e. absurd cc) (lone_by_deepens n)

-- ---- how it goes over names

pub lone_at_name : (t : Token) (ts : List Token)
    → is_kind kinds.Name (Some t) ≡ true
    → lone (t ∷ ts) ≡ lone_name t.string_value (is_arrow (head_of ts)) ts
lone_at_name t ts e =
    let is : start (Some t) ≡ classes.a_name t.string_value = rw (kind_is kinds.Name t e) refl in
    ap (λ (v : PrimaryStart). lone_by v (t ∷ ts)) is

lone_alone : (t : Token) (ts : List Token)
    → is_kind kinds.Name (Some t) ≡ true
    → ends_name (head_of ts) ≡ true
    → lone (t ∷ ts) ≡ Ok (trees.name t.string_value, ts)
lone_alone t [] e h = absurd cc
lone_alone t (u ∷ ts) e h =
    let d : Ended (Some u) = ended_at u h in
    lone_at_name t (u ∷ ts) e
    ∙ ap (λ (v : Bool). lone_name t.string_value v (u ∷ ts)) d.not_arrow
    ∙ behind_alone bare 0 (trees.name t.string_value) u ts h

pub lone_names : Names lone
lone_names = record {
  follows = lone_own;
  alone = λ t ts e h. inr (trees.name t.string_value, lone_alone t ts e h);
  past = λ t ts e.
      let form : Reader Expression = λ r. lone_name t.string_value (is_arrow (head_of r)) r in
      subst (λ (x : Read Expression). Within x (length ts)) (sym (lone_at_name t ts e))
      (not_longer form form (lone_name_own t.string_value) ts);
}

behind_lone : (t : Token) (ts : List Token)
    → is_kind kinds.Name (Some t) ≡ true
    → (i : ℕ)
    → lone (t ∷ ts) ≡ Err (deep i)
    → DeepTo lone (t ∷ ts) i (length ts)
behind_lone t ts n i e =
    let form : Reader Expression = λ r. lone_name t.string_value (is_arrow (head_of r)) r in
    let c = deep_to_all form ts i
    ((lone_name_deepens (length ts) t.string_value).at ts (omega arith) i (sym (lone_at_name t ts n) ∙ e)) in
    record {
      deep_at = record {
        before = t ∷ c.deep_at.before;
        here = c.deep_at.here;
        left = c.deep_at.left;
        parts = ap (λ (l : List Token). t ∷ l) c.deep_at.parts;
        counted = c.deep_at.counted;
        never = λ r x o. c.deep_at.never r x (sym (lone_at_name t (c.deep_at.before ++ (c.deep_at.here ∷ r)) n) ∙ o);
      };
      near = c.near;
    }

pub lone_sure : Sure Low lone
lone_sure = record {
  names = lone_names;
  keeps = lone_deepens;
  sure = λ t ts n e. (trees.name t.string_value, lone_alone t ts n e, omega arith);
  behind = behind_lone;
}
