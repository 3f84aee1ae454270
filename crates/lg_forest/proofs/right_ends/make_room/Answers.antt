use Rattle.std.proofs.Common.{◌+◌, ◌-◌, ◌++◌, ap, ◌∙◌, get_or, replicate, arith}
use Rattle.std.proofs.lemmas.List.{take_all}
use Rattle.std.specs.Vec.{vec_len}
use Rattle.lg_forest.proofs.RightEnds.{room_same, room_there, row_filled}
use Rattle.lg_forest.proofs.right_ends.make_room.Goals as goal

pub returns-in_err-resize-clause-same : goal.returns-in_err-resize-clause-same
returns-in_err-resize-clause-same c = λ w l.
    let test = c.loop-alloc-test.false in
    let len = c.len.ensures in
    let ok = c.loop-alloc.numbers.ok.0 in
    room_same c.loop-alloc.numbers.items c.args.word c.index_mut-row.result.now c.resize.new.self c.index_mut-row.ensures.value (omega arith) (λ list. ap (λ z. get_or z list 0) c.in_err-resize.ensures.items) w l
    ∙ c.loop-alloc.invariant w l

pub returns-in_ok-resize-clause-same : goal.returns-in_ok-resize-clause-same
returns-in_ok-resize-clause-same c = λ w l.
    let test = c.loop-alloc-test.false in
    let len = c.len.ensures in
    let ok = c.loop-alloc.numbers.ok.0 in
    let row = c.index_mut-row.result.now in
    let short = c.if-len-list.true in
    let long = c.len-2.ensures in
    let all = row.ok.0 in
    room_same c.loop-alloc.numbers.items c.args.word row c.resize.new.self c.index_mut-row.ensures.value (omega arith)
    (λ list. ap (λ z. get_or z list 0) (c.in_ok-resize.ensures.items ∙ ap (λ z. z ++ replicate (c.args.list + 1 - vec_len row) 0) (take_all (c.args.list + 1) row.items (omega arith))) ∙ row_filled row.items (c.args.list + 1 - vec_len row) list) w l
    ∙ c.loop-alloc.invariant w l

pub returns-in_ok-resize-clause-room : goal.returns-in_ok-resize-clause-room
returns-in_ok-resize-clause-room c =
    let test = c.loop-alloc-test.false in
    let len = c.len.ensures in
    let ok = c.loop-alloc.numbers.ok.0 in
    let long = c.in_ok-resize.ensures.len in
    let new = c.resize.new.self.ok.0 in
    room_there c.loop-alloc.numbers.items c.args.word c.args.list c.resize.new.self (omega arith) (omega arith)
