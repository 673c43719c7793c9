use Rattle.js_machine_compiler.proofs.NameLemmas.{members_step}
use Rattle.js_machine_compiler.proofs.names.members_of.Goals as goal
use Rattle.js_heap_memory.proofs.StartLemmas.{goes-then}

pub loop-member-preserved : goal.loop-member-preserved
loop-member-preserved c = record {
  goes_on =
      goes-then c.args.names.now c.loop-member.names c.member_of.new.names c.loop-member.invariant.goes_on
      c.in_ok-member_of.ensures.goes_on;
  are =
      members_step c.loop-member.names c.member_of.new.names c.loop-member.entries.items c.push.new.self.items
      c.in_ok-member_of.field-0 c.slice-member-items.result.now c.loop-member.member-index c.member-item.result
      c.loop-member.invariant.are c.in_ok-member_of.ensures.goes_on c.in_ok-member_of.ensures.member
      c.in_ok-push.ensures.items c.loop-member-test.true c.member-item.is;
}
