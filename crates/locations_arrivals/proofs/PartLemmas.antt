-- Belonging to a source is an invariant of the steps that touch no frame.
use Rattle.js_semantics.specs.Terms.{Term, Terms, joined, settle}
use Rattle.js_semantics.specs.Waiting.{uncovers}
use Rattle.js_semantics.proofs.InvariantLemmas.{Invariant, IsKept, either-way, one-way, joined-kept, settle-kept}
use Rattle.js_semantics.proofs.RowLemmas.{IsFree}
use Rattle.locations.specs.declared.marks.Marked.{Marked}
use Rattle.locations_arrivals.specs.Belonging.{FormBelongs, Belongs, AllBelong}

abbrev pub belonging : (Marked → Type 0) → Invariant
belonging P = record {
  holds = λ t. Belongs P t;
  covered = λ t. Belongs P t;
  all = λ ts. AllBelong P ts;
  rest = λ ts. AllBelong P ts;
  form = λ f n later. FormBelongs P f later;
  value = λ v. Unit {0};
  scope = λ a. Unit {0};
  kept = λ c. Unit {0};
}

pub belong-kept : (P : Marked → Type 0) → IsKept (belonging P)
belong-kept P = record {
  no_value = tt;
  no_completion = tt;
  of_value = λ v h. tt;
  no_parts = tt;
  a_part = λ t ts h q. (h, q);
  first_part = λ t ts h. h.0;
  other_parts = λ t ts h. h.1;
  uncovered = λ t ts h. h.0;
  behind = λ t ts h. h.1;
  covers = λ t h. h;
  of_done = λ v h. h;
  of_standing = λ v place h. h;
  opened = λ f now later h. (h.0, h.1, either-way (uncovers f) (AllBelong P later) h.2);
  closed = λ f now later e h n q. (h, n, one-way (uncovers f) (AllBelong P later) q);
  of_loop = λ stage a n later h. (tt, λ s b m r l. tt);
  of_for = λ node c names n t later h s b m r l. tt;
  of_for_of = λ node b n t later h. tt;
  of_list = λ b n v later h. tt;
  of_turn = λ b i n m later h. tt;
  of_again = λ b i n m later h. tt;
  of_next = λ b i n later h. tt;
  of_scope = λ a n l. tt;
  of_ending = λ c n l. tt;
  of_comma = λ n t u ts h. tt;
  of_binary = λ o. tt;
  of_compound = λ o r n later h. tt;
  of_callee = λ r place node n m later h. h;
  of_method = λ ms n f now later ts h. tt;
}

pub belong-free : (P : Marked → Type 0) → IsFree (belonging P)
belong-free P = record { each_value = λ v. tt; each_scope = λ a. tt; each_completion = λ c. tt }

pub settle-belongs : (P : Marked → Type 0) (t : Term) → Belongs P t → Belongs P (settle t)
settle-belongs P = settle-kept (belonging P) (belong-kept P)

pub joined-belongs : (P : Marked → Type 0) (ts us : Terms)
    → AllBelong P ts
    → AllBelong P us
    → AllBelong P (joined ts us)
joined-belongs P = joined-kept (belonging P) (belong-kept P)
