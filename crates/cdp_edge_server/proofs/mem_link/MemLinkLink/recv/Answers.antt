use Rattle.cdp_edge_server.proofs.GivingLemmas.{gives-nothing, gives-next}
use Rattle.cdp_edge_server.specs.declared.link.Recv.TheVariants.{Memory, Failed}
use Rattle.cdp_edge_server.proofs.mem_link.MemLinkLink.recv.Goals as goal

pub returns-then-is_err-clause-gives : goal.returns-then-is_err-clause-gives
returns-then-is_err-clause-gives c = gives-nothing Memory c.args.self.now _ c.self.view_is tt

pub returns-then-contains-clause-gives : goal.returns-then-contains-clause-gives
returns-then-contains-clause-gives c = gives-nothing Failed c.args.self.now _ c.self.view_is tt

pub returns-clause-gives : goal.returns-clause-gives
returns-clause-gives c =
    gives-next
    c.next-answer.result
    c.args.self.now
    _
    c.release.new.self
    c.go_on.new.self
    c.self.view_is
    c.release.ensures
    c.next-answer.ensures.heard
    c.in-Some.ensures.given
    c.go_on.ensures
