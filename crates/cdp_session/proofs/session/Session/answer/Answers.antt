use Rattle.std.specs.Prelude.{true, false}
use Rattle.std.proofs.lemmas.Result.{IfOk-weaker, on_ok_weaker}
use Rattle.cdp_session.specs.Replies.{comes_to}
use Rattle.cdp_session.specs.Situations.{seen}
use Rattle.cdp_session.proofs.ReplyLemmas.{answered-session, answered-fits, answered-asks}
use Rattle.cdp_session.proofs.session.Session.answer.Goals as goal

pub returns-in-Ok : goal.returns-in-Ok
returns-in-Ok g c =
    let x = c.args.self.now in
    let r = comes_to (seen g.P.Program.standing c.args.situation.now) x c.args.params in
    let id = c.args.id in
    let d = c.in-Ok.done in
    let new = c.perform.new.self in
    let made = c.in-Ok.ensures.made in
    record {
      session = on_ok_weaker c.reply.result (answered-session id r d new x made c.reply.new.self) c.reply.ensures.session;
      fits = on_ok_weaker c.reply.result (answered-fits id r d new x made true) c.reply.ensures.fits;
      over = λ o. answered-fits id r d new x made false (c.reply.ensures.over o);
      asks = IfOk-weaker c.reply.result _ _ (answered-asks id r d new x made) c.reply.ensures.asks;
    }
