-- The readers at the bottom, of which those of all heights are made where one asks what is too deep: names and the
-- commas between them are read, and all else that begins anything is too deep.
use Rattle.std.proofs.Common.{◌≡◌, ℕ, suc, Bool, true, false, List, [], ◌∷◌, length, Ok, Err, refl, ap, subst, ◌∙◌, inl, inr, arith}
use Rattle.js_lexer.specs.declared.token.TokenKind.TheVariants as kinds
use Rattle.js_tree.specs.Trees as trees
use Rattle.js_tree.specs.Trees.{Identifier, Expression}
use Rattle.js_parser_language.specs.Tokens.{Token, fixed, identifier, token, beside, head_of, tail_of, is_on_line}
use Rattle.js_parser_language.specs.Flat.{flat}
use Rattle.js_parser_language.specs.Kinds.{is_kind}
use Rattle.js_parser_readers.specs.Reading.{Fault, deep, Reader, ◌>>=◌}
use Rattle.js_parser_readers.specs.Classes as classes
use Rattle.js_parser_readers.specs.Classes.{PrimaryStart, start, is_arrow, past_names, no_arrow, listed_by}
use Rattle.js_parser_readers.specs.Productions.{Below}
use Rattle.js_parser_readers.specs.Parsing.{assignment, comma_by, expression, below}
use Rattle.js_parser_language.proofs.KindLemmas.{next_is}
use Rattle.js_parser_laws.proofs.Claims.{SoundBelow}
use Rattle.js_parser_laws.proofs.TokenLemmas.{faulty}
use Rattle.js_parser_laws.proofs.Soundness.{sound_below}
use Rattle.js_parser_laws.proofs.Follows.Tools.{Follows, binds, reads_again}
use Rattle.js_parser_laws.proofs.Follows.Parts.{FollowsBelow, Pair}
use Rattle.js_parser_laws.proofs.Follows.Arrows.{Within, scan_end, closing, names_within}
use Rattle.js_parser_laws.proofs.Follows.Assignments.{Spans, behind, named_form, assignment_form, assignment_is, comma_follows, comma_within}
use Rattle.js_parser_laws.proofs.Alive.Tools.{bind_err, fault_is, deep_counts, IsZero, Lives, from_nothing, stopped}
use Rattle.js_parser_laws.proofs.Alive.Parts.{Fits, AliveBelow, zero_marks}
use Rattle.js_parser_laws.proofs.Alive.Expressions.{looser, zero_token}
use Rattle.js_parser_laws.proofs.Alive.Assignments.{assignment_lives, comma_by_lives}
use Rattle.js_parser_laws.proofs.Alive.First.{start_lives}
use Rattle.js_parser_laws.proofs.Locality.{pair_below, item_takes}
use Rattle.js_parser_laws.proofs.Deep.Tools.{Deepens, deep_then}
use Rattle.js_parser_laws.proofs.Deep.Parts.{DeepBelow}
use Rattle.js_parser_laws.proofs.Deep.Operators.{comma_deepens}
use Rattle.js_parser_laws.proofs.Deep.Names.{DeepTo, names_deep}
use Rattle.js_parser_laws.proofs.Deep.Parens.{Low, at_comma, comma_deep}
use Rattle.js_parser_laws.proofs.Deep.Start.{begins_operand, expression_elsewhere}
use Rattle.js_parser_laws.proofs.Deep.Shallow.{class_deepens, class_follows, shallow, below_elsewhere, shallow_follows, shallow_own, shallow_deepens, operand_lives, shallow_alive}
use Rattle.js_parser_laws.proofs.Deep.Lone.{operand, bare, operand_follows, bare_sound, bare_alive, lone_name, lone_by, lone, lone_own, lone_follows, lone_deepens, lone_names, lone_sure}
use Rattle.js_parser_readers.proofs.ClassLemmas.{start_name}
use Rattle.std.proofs.lemmas.Bool.{and_parts}

-- ---- what is answered, is answered so on the right

pub answers_so : {A : Type 0} (f g : Reader A)
    → Follows f g
    → (ts : List Token) (x : A × List Token)
    → f ts ≡ Ok x
    → g ts ≡ Ok x
answers_so f g h ts x e =
    let p = reads_again f g h ts x.0 x.1 e in
    ap (λ (l : List Token). g l) p.1 ∙ p.2 x.1 refl

-- what reads below is sound, if it answers as what is sound
pub sound_from : (n : ℕ) (b c : Below) → FollowsBelow b c → SoundBelow n c → SoundBelow n b
sound_from n b c f s = record {
  assignment = λ ts x e. s.assignment ts x (answers_so b.assignment c.assignment f.assignment ts x e);
  expression = λ ts x e. s.expression ts x (answers_so b.expression c.expression f.expression ts x e);
  operation =
      λ m le ts x e. s.operation m le ts x
      (answers_so (λ ts. b.operation m ts) (λ ts. c.operation m ts) (f.operation m) ts x e);
  unary = λ ts x e. s.unary ts x (answers_so b.unary c.unary f.unary ts x e);
  call = λ ts x e. s.call ts x (answers_so b.call c.call f.call ts x e);
  statement =
      λ context ts x e. s.statement context ts x
      (answers_so (λ ts. b.statement context ts) (λ ts. c.statement context ts) (f.statement context) ts x e);
  item =
      λ context taken ts x e. s.item context taken ts x
      (answers_so (λ ts. b.item context taken ts) (λ ts. c.item context taken ts) (f.item context taken) ts x e);
  block =
      λ context taken ts x e. s.block context taken ts x
      (answers_so (λ ts. b.block context taken ts) (λ ts. c.block context taken ts) (f.block context taken) ts x e);
  function = λ ts x e. s.function ts x (answers_so b.function c.function f.function ts x e);
}

-- ---- where a name alone stops, the tokens before begin an expression

arrow_lives : (s : Identifier) (ts : List Token) (e : Fault)
    → start (head_of ts) ≡ classes.a_name s
    → is_arrow (head_of (tail_of ts)) ≡ true
    → faulty {A = Expression} (deep (length (tail_of (tail_of ts)))) ≡ faulty e
    → Lives IsZero flat (Fits 1) ts e
arrow_lives s ts e f a p =
    let both = and_parts (is_on_line (head_of (tail_of ts))) (is_kind kinds.Arrow (head_of (tail_of ts))) a in
    from_nothing
    (stopped (token (identifier s) ∷ beside (fixed kinds.Arrow) ∷ []) refl ts (tail_of (tail_of ts))
    (start_name s (head_of ts) f, (next_is kinds.Arrow (head_of (tail_of ts)) both.1, both.0, refl)) e
    (deep_counts {A = Expression} (tail_of (tail_of ts)) e p)
    (trees.arrow (trees.one_name s) (trees.number 0)) (((refl, tt), tt, omega arith, refl), omega arith)
    zero_marks zero_token (λ r. ((refl, refl), refl)) refl)

named_lives : (s : Identifier) (ts : List Token) (e : Fault)
    → start (head_of ts) ≡ classes.a_name s
    → is_arrow (head_of (tail_of ts)) ≡ false
    → behind bare 0 (trees.name s) (tail_of ts) ≡ Err e
    → Lives IsZero flat (Fits 1) ts e
named_lives s ts e f a p =
    let is : assignment bare 0 ts ≡ behind bare 0 (trees.name s) (tail_of ts) = assignment_is bare 0 ts
    ∙ ap (λ (v : PrimaryStart). assignment_form bare 0 v ts) f
    ∙ ap (λ (v : Bool). named_form bare 0 s v (tail_of ts)) a in
    assignment_lives 0 bare (bare_sound 0) bare_alive ts e (is ∙ p)

by_arrow_lives : (s : Identifier) (ts : List Token) (e : Fault)
    → start (head_of ts) ≡ classes.a_name s
    → (v : Bool)
    → is_arrow (head_of (tail_of ts)) ≡ v
    → lone_name s v (tail_of ts) ≡ Err e
    → Lives IsZero flat (Fits 1) ts e
by_arrow_lives s ts e f true a p = arrow_lives s ts e f a p
by_arrow_lives s ts e f false a p = named_lives s ts e f a p

lone_by_lives : (v : PrimaryStart) (ts : List Token) (e : Fault)
    → start (head_of ts) ≡ v
    → lone_by v ts ≡ Err e
    → Lives IsZero flat (Fits 1) ts e
lone_by_lives (classes.a_name s) ts e f p = by_arrow_lives s ts e f (is_arrow (head_of (tail_of ts))) refl p
lone_by_lives classes.parenthesis ts e f p =
    subst (λ (e : Fault). Lives IsZero flat (Fits 1) ts e) (fault_is {A = Expression} (deep (length (tail_of ts))) e p)
    (from_nothing (looser 15 1 (omega arith) (start_lives classes.parenthesis ts f refl)))
lone_by_lives _ ts e f p = operand_lives 1 (omega arith) ts e p

lone_lives : (ts : List Token) (e : Fault) → lone ts ≡ Err e → Lives IsZero flat (Fits 1) ts e
lone_lives ts e p = lone_by_lives (start (head_of ts)) ts e refl p

-- ---- a name alone, below

abbrev named : Below
named = shallow lone operand

named_own : Pair named named
named_own = shallow_own lone operand lone_own operand_follows

lone_up : (n : ℕ) → Follows lone (below (suc n)).assignment
unfolding below
lone_up n = lone_follows n

operand_up : (n : ℕ) → Follows operand (below (suc n)).expression
unfolding below
operand_up n = class_follows begins_operand (λ ts. expression (below n) n ts) (expression_elsewhere (below n) n)

named_up : FollowsBelow named (below 2)
named_up = shallow_follows lone operand (below 2) (below_elsewhere 0) (lone_up 1) (operand_up 1)

named_pair : Pair named (below 2)
named_pair = record { both = named_up; right = (pair_below 2 2 (omega arith)).right; takes = item_takes 2 }

named_deepens : DeepBelow named
named_deepens = shallow_deepens lone operand lone_deepens (class_deepens begins_operand refl)

named_sound : SoundBelow 2 named
named_sound = sound_from 2 named (below 2) named_up (sound_below 2)

named_alive : AliveBelow named
named_alive = shallow_alive lone operand lone_lives (λ ts e p. operand_lives 0 (omega arith) ts e p)

-- ---- names and commas

abbrev comma_next : Expression → Reader Expression
comma_next e ts = comma_by named 2 e (is_kind kinds.Comma (head_of ts)) ts

abbrev pub names_only : Reader Expression
names_only ts = lone ts >>= λ x. comma_next x.0 x.1

names_only_own : Follows names_only names_only
names_only_own = binds lone lone comma_next comma_next lone_own (comma_follows named named 2 2 (omega arith) named_own)

names_only_up : Follows names_only (below 3).expression
unfolding below expression
names_only_up =
    binds lone (λ ts. assignment (below 2) 2 ts) comma_next
    (λ e ts. comma_by (below 2) 2 e (is_kind kinds.Comma (head_of ts)) ts) (lone_follows 2)
    (comma_follows named (below 2) 2 2 (omega arith) named_pair)

names_only_deepens : (n : ℕ) → Deepens n names_only
names_only_deepens n =
    deep_then n lone comma_next lone_own (lone_deepens n) (comma_deepens named 2 named_own named_deepens n)

names_only_lives : (ts : List Token) (e : Fault) → names_only ts ≡ Err e → Lives IsZero flat (Fits 0) ts e
names_only_lives ts e p = elim (bind_err (lone ts) (λ x. comma_next x.0 x.1) e p) [
  | inl q ↦ looser 1 0 (omega arith) (lone_lives ts e q)
  | inr q ↦ from_nothing
      (comma_by_lives 2 named named_sound named_alive ts q.0.0 (is_kind kinds.Comma (head_of q.0.1)) q.0.1 e refl
      ((sound_below 3).assignment ts q.0 (answers_so lone (below 3).assignment (lone_up 2) ts q.0 q.1)) q.2)
]

names_only_closes : (ts : List Token)
    → listed_by (past_names true ts) ≡ no_arrow
    → Within (closing (names_only ts)) (length (scan_end true ts))
names_only_closes ts e =
    names_within lone lone_names comma_next comma_next (comma_follows named named 2 2 (omega arith) named_own) ts e
    (λ f r l q. comma_within named 2 lone_names f r q (is_kind kinds.Comma (head_of r)) refl)

-- what is too deep lies behind the names
names_only_hides : (ts : List Token)
    → listed_by (past_names true ts) ≡ no_arrow
    → (i : ℕ)
    → names_only ts ≡ Err (deep i)
    → DeepTo names_only ts i (length (scan_end true ts))
names_only_hides ts q i e =
    names_deep Low lone lone_sure (at_comma named 2) (comma_follows named named 2 2 (omega arith) named_own)
    (λ n f. comma_deepens named 2 named_own named_deepens n f) ts q
    (λ f r low l c j z. comma_deep named 2 lone_sure (omega arith) f low r c (is_kind kinds.Comma (head_of r)) refl j z)
    i e

-- ---- the bottom

abbrev pub bottom : Below
bottom = shallow lone names_only

pub bottom_own : Pair bottom bottom
bottom_own = shallow_own lone names_only lone_own names_only_own

pub bottom_up : FollowsBelow bottom (below 3)
bottom_up = shallow_follows lone names_only (below 3) (below_elsewhere 1) (lone_up 2) names_only_up

pub bottom_spans : Spans bottom
bottom_spans = record { names = lone_names; closes = names_only_closes }

pub bottom_deepens : DeepBelow bottom
bottom_deepens = shallow_deepens lone names_only lone_deepens names_only_deepens

pub bottom_alive : AliveBelow bottom
bottom_alive = shallow_alive lone names_only lone_lives names_only_lives

pub bottom_hides : (ts : List Token)
    → listed_by (past_names true ts) ≡ no_arrow
    → (i : ℕ)
    → bottom.expression ts ≡ Err (deep i)
    → DeepTo bottom.expression ts i (length (scan_end true ts))
bottom_hides ts q i e = names_only_hides ts q i e
