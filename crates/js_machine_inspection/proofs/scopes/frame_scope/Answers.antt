use Rattle.std.proofs.Common.{◌≡◌, ℕ, ◌+◌, ◌≤◌, length, arith, subst, sym}
use Rattle.js_machine_inspection.proofs.FrameLemmas.{Left, calls-here, calls-passed, calls-on, calls-none}
use Rattle.js_machine_inspection.proofs.scopes.frame_scope.Goals as goal
use Rattle.js_machine_inspection.proofs.scopes.frame_scope.Goals.{then-is_frame_at+else-left-eq0, else-is_frame_at}

pub returns-then-left-eq0 : goal.returns-then-left-eq0
returns-then-left-eq0 c =
    let z : c.loop-i.left ≡ 0 = omega arith in
    calls-here c.args.root c.args.stack.now c.args.d c.loop-i.i c.loop-i.left c.is_frame_at.result c.scope_at.result
    (λ e. omega arith) c.loop-i.invariant c.is_frame_at.ensures c.if-is_frame_at.true z c.scope_at.ensures

pub loop-i-preserved : goal.loop-i-preserved
loop-i-preserved c =
    let root = c.args.root in
    let ws = c.args.stack.now in
    let d = c.args.d in
    let i = c.loop-i.i in
    let b = c.is_frame_at.result in
    elim c.if-is_frame_at.branch [
      | then-is_frame_at+else-left-eq0 w ↦ subst (λ (n : ℕ). Left root ws d (i + 1) n) (sym w.left-is)
          (calls-passed root ws d i c.loop-i.left b c.loop-i.invariant c.is_frame_at.ensures w.if-is_frame_at.true
          (λ e. omega arith))
      | else-is_frame_at w ↦ subst (λ (n : ℕ). Left root ws d (i + 1) n) (sym w.left-is)
          (calls-on root ws d i c.loop-i.left b c.loop-i.invariant c.is_frame_at.ensures w.if-is_frame_at.false)
    ]

pub returns : goal.returns
returns c =
    let l : length c.args.stack.now ≤ c.loop-i.i = omega arith in
    calls-none c.args.root c.args.stack.now c.args.d c.loop-i.i c.loop-i.left (λ e. omega arith) c.loop-i.invariant l
