use Rattle.std.proofs.Common.{◌+◌, length, arith}
use Rattle.js_heap.specs.Keys.{has_key}
use Rattle.js_heap_memory.proofs.WeightLemmas.{has-room, lacks, put-same, put-more, put-exceeds}
use Rattle.js_heap_memory.proofs.change.put_in.Goals as goal

pub returns-then-lacks_room-clause-value : goal.returns-then-lacks_room-clause-value
returns-then-lacks_room-clause-value c =
    let p = lacks c.args.units_left (8 + length c.args.key.now) (has_key c.args.properties.now c.args.key.now)
    c.lacks_room.result c.lacks_room.ensures c.if-lacks_room.true in
    put-exceeds c.args.properties.now c.args.key.now c.args.value c.args.units_left p.1 p.0

pub returns-then-len-before-clause-value : goal.returns-then-len-before-clause-value
returns-then-len-before-clause-value c =
    put-same c.args.properties.now c.put.new.self c.args.key.now c.args.value c.args.units_left
    c.in_ok-put.ensures.value
    (grind arith)

pub overflow_cast-result : goal.overflow_cast-result
overflow_cast-result c =
    let p = put-more c.args.properties.now c.put.new.self c.args.key.now c.args.value c.args.units_left
    c.in_ok-put.ensures.value
    (grind arith)
    (λ h. has-room c.args.units_left (8 + length c.args.key.now) (has_key c.args.properties.now c.args.key.now)
    c.lacks_room.result c.lacks_room.ensures c.if-lacks_room.false h)
    in
    grind (arith, p.0)

pub overflow_sub-result : goal.overflow_sub-result
overflow_sub-result c =
    let p = put-more c.args.properties.now c.put.new.self c.args.key.now c.args.value c.args.units_left
    c.in_ok-put.ensures.value
    (grind arith)
    (λ h. has-room c.args.units_left (8 + length c.args.key.now) (has_key c.args.properties.now c.args.key.now)
    c.lacks_room.result c.lacks_room.ensures c.if-lacks_room.false h)
    in
    grind (arith, p.0)

pub returns-clause-value : goal.returns-clause-value
returns-clause-value c =
    let p = put-more c.args.properties.now c.put.new.self c.args.key.now c.args.value c.args.units_left
    c.in_ok-put.ensures.value
    (grind arith)
    (λ h. has-room c.args.units_left (8 + length c.args.key.now) (has_key c.args.properties.now c.args.key.now)
    c.lacks_room.result c.lacks_room.ensures c.if-lacks_room.false h)
    in
    rw c.key_weight.ensures p.1
