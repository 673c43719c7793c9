-- The terms that the makers give wait for their steps.
use Rattle.js_semantics.specs.Terms.{Term, done, standing, part}
use Rattle.js_semantics.specs.Waiting.{Waits, AllWait, PartsWait, RestWaits}
use Rattle.js_semantics.proofs.Ready.{all_ready, joined-waits}
use Rattle.js_semantics.proofs.MadeLemmas.{Making, IsMade}

made-loosened : (t : Term) → Waits all_ready t → PartsWait all_ready t
made-loosened (done v) h = tt
made-loosened (standing v place) h = tt
made-loosened (part f now later) h = (h.1, h.2)

abbrev pub made_waiting : Making
made_waiting = record {
  holds = λ t. Waits all_ready t;
  covered = λ t. PartsWait all_ready t;
  all = λ ts. AllWait all_ready ts;
  rest = λ ts. RestWaits all_ready ts;
  form = λ f n later. Unit {0};
  names = λ bs. Unit {0};
  functions = λ ts. AllWait all_ready ts;
  members = λ ms p. Unit {0};
}

pub wait-made : IsMade made_waiting
wait-made = record {
  of_value = λ v h. tt;
  no_parts = tt;
  a_part = λ t ts h q. (h, q);
  first_part = λ t ts h. h.0;
  other_parts = λ t ts h. h.1;
  a_rest = λ t ts h q. (h, q);
  covers = made-loosened;
  opened = λ f now later h. (tt, h.1);
  closed = λ f now later e h n q. (e, n, q);
  inside = λ f now later h n q. (n, q);
  of_plain = λ f n later e r q. tt;
  of_assign = λ r n later h. tt;
  of_compound = λ o r n later e h. tt;
  of_update = λ o b r n later h. tt;
  of_delete = λ r n later h. tt;
  of_callee = λ r place node n later args h. tt;
  no_names = tt;
  a_name = λ name c bs h. tt;
  more_names = λ bs cs h q. tt;
  no_functions = tt;
  a_function = λ f now later h. (h, tt);
  more_functions = joined-waits all_ready;
  all_functions = λ ts h. h;
  of_script = λ number names t fs h q. tt;
  of_block = λ names t fs h q. tt;
  of_function = λ f t fs h q. tt;
  of_method = λ f n t fs h q. tt;
  of_for = λ node c names later h q. tt;
  of_for_of = λ node name c later q. tt;
  no_members = tt;
  a_member = λ key ms t p q. tt;
  a_computed = λ ms t u p q. tt;
  a_method = λ ms t f later p q. tt;
  of_object = λ ms p q. tt;
}
