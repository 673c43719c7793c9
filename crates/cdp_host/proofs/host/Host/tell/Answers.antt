use Rattle.std.proofs.Common.{Err, refl, subst}
use Rattle.cdp_host_isolation.specs.Histories.{Detach, Tell}
use Rattle.cdp_host_isolation.specs.Seats.{seat_of}
use Rattle.cdp_session.specs.Replies.{answer_of}
use Rattle.cdp_session_messages.specs.declared.session_end.SessionEnd.{SessionEnd}
use Rattle.cdp_host.specs.Hosts.{parts_standing}
use Rattle.cdp_host.specs.Protocols.{situation}
use Rattle.cdp_host.specs.Watching.{AnswersIn}
use Rattle.cdp_host.proofs.CallLemmas.{whose}
use Rattle.cdp_host.proofs.HistoryLemmas.{stands-call}
use Rattle.cdp_host.proofs.LeaveLemmas.{leaves-kept, leaves-left, leaves-over, stays-same}
use Rattle.cdp_host.proofs.RefusalLemmas.{refused-told}
use Rattle.cdp_host.proofs.host.Host.tell.Goals as goal

pub returns-in-Ok-clause-kept : goal.returns-in-Ok-clause-kept
returns-in-Ok-clause-kept c = λ _.
    let now = c.args.self.now in
    let it = whose (seat_of c.args.s now.meaning.seats) c.requires in
    leaves-kept now c.answer.new.self c.follow.new.self c.args.s c.args.text.now it.0 c.in-Ok.asks it.1
    c.in-Ok.ensures.same
    (c.in-Ok.ensures.answers it.0 it.1)
    c.follow.ensures.scripts c.follow.ensures.works c.follow.ensures.fallen c.follow.ensures.stays
    c.follow.ensures.means

pub returns-in-Ok-clause-refused : goal.returns-in-Ok-clause-refused
returns-in-Ok-clause-refused c = λ _ x id refusal scripts input wait history stood had refused.
    refused-told c.args.self.now c.answer.new.self c.follow.new.self c.args.s c.args.text.now c.in-Ok.asks x id
    refusal scripts input wait history
    c.in-Ok.ensures.same c.in-Ok.ensures.works (c.in-Ok.ensures.answers x had)
    c.follow.ensures.quiet stood had refused

pub returns-in-Ok-clause-stands_kept : goal.returns-in-Ok-clause-stands_kept
returns-in-Ok-clause-stands_kept c = λ _ scripts input wait history stood.
    stands-call scripts input wait c.args.self.now c.follow.new.self history (Tell c.args.s c.args.text.now)
    stood refl tt c.requires (returns-in-Ok-clause-kept c refl) c.in-Ok.ensures.works

pub returns-in-Err-Overrun-clause-overrun : goal.returns-in-Err-Overrun-clause-overrun
returns-in-Err-Overrun-clause-overrun c = λ _.
    let now = c.args.self.now in
    let it = whose (seat_of c.args.s now.meaning.seats) c.requires in
    let A : SessionEnd → Type 0 = λ end. AnswersIn (Err end)
    (answer_of (situation now.scripts now.meaning.stop (parts_standing now.scripts now.meaning.program)) it.0
    c.args.text.now)
    c.args.s now.meaning.seats c.answer.new.self.meaning.seats in
    leaves-over now c.answer.new.self c.settle.new.self c.args.s c.args.text.now it.0 it.1 c.in-Err-Overrun.ensures.same
    (subst A c.in-Err-Overrun.field-0-is (c.in-Err-Overrun.ensures.answers it.0 it.1))
    c.settle.ensures.scripts c.settle.ensures.works c.settle.ensures.fallen
    (stays-same c.answer.new.self c.settle.new.self c.settle.ensures.stays) c.settle.ensures.means

pub returns-in-Err-Overrun-clause-stands_overrun : goal.returns-in-Err-Overrun-clause-stands_overrun
returns-in-Err-Overrun-clause-stands_overrun c = λ _ scripts input wait history stood.
    stands-call scripts input wait c.args.self.now c.settle.new.self history (Tell c.args.s c.args.text.now)
    stood refl tt c.requires (returns-in-Err-Overrun-clause-overrun c refl)
    c.in-Err-Overrun.ensures.works

pub returns-in-Err-Memory-clause-memory : goal.returns-in-Err-Memory-clause-memory
returns-in-Err-Memory-clause-memory c = λ _.
    let now = c.args.self.now in
    let new = c.settle-in-Err-Memory.new.self in
    let it = whose (seat_of c.args.s now.meaning.seats) c.requires in
    let A : SessionEnd → Type 0 = λ end. AnswersIn (Err end)
    (answer_of (situation now.scripts now.meaning.stop (parts_standing now.scripts now.meaning.program)) it.0
    c.args.text.now)
    c.args.s now.meaning.seats c.answer.new.self.meaning.seats in
    leaves-left now c.answer.new.self new c.args.s it.0 it.1 c.in-Err-Memory.ensures.same
    (subst A c.in-Err-Memory.field-0-is (c.in-Err-Memory.ensures.answers it.0 it.1))
    c.settle-in-Err-Memory.ensures.scripts c.settle-in-Err-Memory.ensures.works c.settle-in-Err-Memory.ensures.fallen
    (stays-same c.answer.new.self new c.settle-in-Err-Memory.ensures.stays) c.settle-in-Err-Memory.ensures.means

pub returns-in-Err-Memory-clause-stands_memory : goal.returns-in-Err-Memory-clause-stands_memory
returns-in-Err-Memory-clause-stands_memory c = λ _ scripts input wait history stood.
    stands-call scripts input wait c.args.self.now c.settle-in-Err-Memory.new.self history (Detach c.args.s)
    stood refl tt c.requires (returns-in-Err-Memory-clause-memory c refl) c.in-Err-Memory.ensures.works
