use Rattle.std.proofs.Common.{refl}
use Rattle.pure_eval.specs.declared.evaluator.Evaluator.{Evaluator}
use Rattle.pure_eval.specs.declared.holding.HeldCode.{HeldCode}
use Rattle.pure_eval.specs.declared.holding.HeldCodes.{HeldCodes}
use Rattle.pure_eval.proofs.WorkspaceLemmas.{holds-more}
use Rattle.pure_eval.proofs.holding.hold_code.Goals as goal

pub returns : goal.returns
returns c = λ n start held.
    let old = c.args.evaluator.now in
    let new : Evaluator = record {
      names = c.add_code.new.names;
      table = c.add_code.new.table;
      next = old.next;
      call = old.call;
    } in
    let h = c.codes_behind-codes.result in
    let k : HeldCodes = record { mark = h.mark; codes = c.push.new.self } in
    let code : HeldCode = record { source = c.in_ok-source.source; at = c.args.at; entry = c.in_ok-entry.entry } in
    holds-more old new n start c.args.held h k c.args.at c.args.prepared.now code held
    (c.codes_behind-codes.ensures.holds old n start held c.mark-mark.ensures.marked)
    (c.codes_behind-codes.ensures.sources old.names old.table) refl c.in_ok-entry.ensures c.in_ok-source.ensures
    refl refl c.in_ok-push.ensures.items
