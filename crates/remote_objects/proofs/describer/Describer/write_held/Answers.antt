use Rattle.cdp_json.proofs.PieceLemmas.{further, on-written}
use Rattle.remote_objects.proofs.describer.Describer.write_held.Goals as goal

pub returns : goal.returns
returns g c = record {
  text =
      on-written c.write_writable.result c.write_writable.ensures
      (λ e. further c.in_ok-put.ensures.put (further c.in_ok-write_remote.ensures.text e));
  handles = on-written c.write_writable.result c.write_writable.ensures (λ e. c.in_ok-write_remote.ensures.handles);
}
