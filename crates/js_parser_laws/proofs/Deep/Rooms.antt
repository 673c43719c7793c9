-- Readers of all heights over the readers at the bottom: they answer what reads trees at most n high answers, and what
-- they answer, so does what reads trees that are three higher. Where they are too deep, the tokens through the one that
-- shows it are read by none of them.
use Rattle.std.proofs.Common.{◌≡◌, ℕ, zero, suc, true, List, length, Err, arith}
use Rattle.js_tree.specs.Trees.{Identifier}
use Rattle.js_parser_language.specs.Tokens.{Token}
use Rattle.js_parser_language.specs.Well.{StatementContext}
use Rattle.js_parser_readers.specs.Reading.{deep}
use Rattle.js_parser_readers.specs.Classes.{past_names, no_arrow, listed_by}
use Rattle.js_parser_readers.specs.Productions.{Below}
use Rattle.js_parser_readers.specs.Parsing.{below}
use Rattle.js_parser_laws.proofs.Claims.{SoundBelow}
use Rattle.js_parser_laws.proofs.Soundness.{sound_below}
use Rattle.js_parser_laws.proofs.Follows.Tools.{Takes}
use Rattle.js_parser_laws.proofs.Follows.Parts.{FollowsBelow, Pair}
use Rattle.js_parser_laws.proofs.Follows.Arrows.{scan_end}
use Rattle.js_parser_laws.proofs.Follows.Assignments.{Spans, paren_at}
use Rattle.js_parser_laws.proofs.Alive.Parts.{AliveBelow}
use Rattle.js_parser_laws.proofs.Alive.Below.{step_alive}
use Rattle.js_parser_laws.proofs.Locality.{step, step_follows, step_spans, item_takes, from_none, pair_below, spans_below}
use Rattle.js_parser_laws.proofs.Deep.Tools.{Deepens}
use Rattle.js_parser_laws.proofs.Deep.Parts.{DeepBelow}
use Rattle.js_parser_laws.proofs.Deep.Never.{assignment_deepens, one_more}
use Rattle.js_parser_laws.proofs.Deep.Names.{DeepTo, Sure}
use Rattle.js_parser_laws.proofs.Deep.Parens.{Low, assignment_sure, expression_deep}
use Rattle.js_parser_laws.proofs.Deep.Covered.{paren_deepens}
use Rattle.js_parser_laws.proofs.Deep.Lone.{lone_sure}
use Rattle.js_parser_laws.proofs.Deep.Bottom.{answers_so, sound_from, bottom, bottom_own, bottom_up, bottom_spans, bottom_deepens, bottom_alive, bottom_hides}

-- three higher
abbrev pub raised : ℕ → ℕ
raised n = suc (suc (suc n))

pub room : ℕ → Below
room zero = bottom
room (suc n) = step (room n) (raised n)

-- what is proved of them
pub record Kept (n : ℕ) : Type 0 where
  pub own : FollowsBelow (room n) (room n)
  pub spans : Spans (room n)
  pub up : FollowsBelow (room n) (below (raised n))
  pub down : FollowsBelow (below n) (room n)
  pub deepens : DeepBelow (room n)
  pub alive : AliveBelow (room n)
  pub sure : Sure Low (room n).assignment
  pub hides : (ts : List Token)
      → listed_by (past_names true ts) ≡ no_arrow
      → (i : ℕ)
      → (room n).expression ts ≡ Err (deep i)
      → DeepTo (room n).expression ts i (length (scan_end true ts))

takes_from : (n : ℕ)
    → FollowsBelow (room n) (below (raised n))
    → (context : StatementContext) (taken : List Identifier)
    → Takes (λ ts. (room n).item context taken ts)
takes_from n f context taken ts x e =
    item_takes (raised n) context taken ts x
    (answers_so (λ ts. (room n).item context taken ts) (λ ts. (below (raised n)).item context taken ts)
    (f.item context taken) ts x e)

pub pair_own : (n : ℕ) → Kept n → Pair (room n) (room n)
pair_own n k = record { both = k.own; right = k.own; takes = takes_from n k.up }

pub pair_up : (n : ℕ) → Kept n → Pair (room n) (below (raised n))
pair_up n k =
    record {
      both = k.up;
      right = (pair_below (raised n) (raised n) (omega arith)).right;
      takes = item_takes (raised n);
    }

pub pair_down : (n : ℕ) → Kept n → Pair (below n) (room n)
pair_down n k = record { both = k.down; right = k.own; takes = takes_from n k.up }

pub room_sound : (n : ℕ) → Kept n → SoundBelow (raised n) (room n)
room_sound n k = sound_from (raised n) (room n) (below (raised n)) k.up (sound_below (raised n))

kept_zero : Kept zero
unfolding room
kept_zero = record {
  own = bottom_own.both;
  spans = bottom_spans;
  up = bottom_up;
  down = from_none bottom;
  deepens = bottom_deepens;
  alive = bottom_alive;
  sure = lone_sure;
  hides = bottom_hides;
}

up_suc : (n : ℕ) → Kept n → FollowsBelow (step (room n) (raised n)) (below (suc (raised n)))
unfolding below
up_suc n k =
    step_follows (room n) (below (raised n)) (raised n) (raised n) (omega arith) (pair_up n k) (pair_own n k) k.spans

down_suc : (n : ℕ) → Kept n → FollowsBelow (below (suc n)) (step (room n) (raised n))
unfolding below
down_suc n k =
    step_follows (below n) (room n) n (raised n) (omega arith) (pair_down n k) (pair_below n n (omega arith))
    (spans_below n)

kept_suc : (n : ℕ) → Kept n → Kept (suc n)
unfolding room
kept_suc n k =
    let p : Pair (room n) (room n) = pair_own n k in
    let own : FollowsBelow (step (room n) (raised n)) (step (room n) (raised n)) = step_follows (room n) (room n)
    (raised n) (raised n) (omega arith) p p k.spans in
    let paren : (j : ℕ)
    → Deepens j (paren_at (room n) (raised n)) = paren_deepens (room n) (raised n) p k.spans k.deepens k.hides in
    let sure : Sure Low (step (room n) (raised n)).assignment = assignment_sure (room n) (raised n) p k.spans k.deepens
    (λ j. assignment_deepens (room n) (raised n) p k.deepens j (paren j)) in
    record {
      own = own;
      spans = step_spans (room n) (raised n) p k.spans;
      up = up_suc n k;
      down = down_suc n k;
      deepens = one_more (room n) (raised n) p own k.deepens paren;
      alive = step_alive (raised n) (room n) (room_sound n k) k.alive;
      sure = sure;
      hides = λ ts q i e. expression_deep (room n) (raised n) p k.deepens (omega arith) sure k.sure ts q i e;
    }

pub kept : (n : ℕ) → Kept n
kept zero = kept_zero
kept (suc n) = kept_suc n (kept n)
