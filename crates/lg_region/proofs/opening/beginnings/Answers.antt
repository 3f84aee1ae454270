use Rattle.std.proofs.Common.{◌∙◌, ◌++◌, ap, map, refl, subst, sym}
use Rattle.lg_region.specs.Openings.{AreBeginnings, begins_at}
use Rattle.lg_region.proofs.Opened.{begin_of, begins_are, none_begin, room_of}
use Rattle.lg_region.proofs.opening.beginnings.Goals as goal

pub returns-then-not-room : goal.returns-then-not-room
returns-then-not-room c =
    let n = c.args.lists.now in let gap = c.args.gap.now in let g = c.args.group.now in
    none_begin n gap g c.args.nulls
    (λ a h l. let q = c.has_room-room.ensures.1 (room_of n gap g _ c.requires.group refl c.are_numbered.ensures c.requires.gap.llist c.requires.gap.led c.args.nulls a h l) in
    let e = c.if-not-room.true in
    absurd cc)
    c.clear.new.self.items c.clear.ensures.items

pub returns-then-not-found : goal.returns-then-not-found
returns-then-not-found c =
    let n = c.args.lists.now in let gap = c.args.gap.now in let g = c.args.group.now in
    none_begin n gap g c.args.nulls
    (λ a h l. let q = begin_of n gap g _ c.requires.group refl c.are_numbered.ensures c.requires.gap.llist c.requires.gap.led a h in
    let t = c.has_right-found.ensures.1 q.4 in
    let e = c.if-not-found.true in
    absurd cc)
    c.clear.new.self.items c.clear.ensures.items

pub returns : goal.returns
returns c =
    let n = c.args.lists.now in let gap = c.args.gap.now in let g = c.args.group.now in
    let pushed = c.in_ok-push_ways.ensures in
    subst (λ z. AreBeginnings n gap g c.args.nulls z) (sym (pushed.added ∙ ap (λ z. z ++ map (begins_at c.args.nulls) pushed.ways) c.clear.ensures.items))
    (begins_are n gap g _ c.requires.group refl c.are_numbered.ensures c.requires.gap.llist c.requires.gap.led pushed.ways c.args.nulls pushed.exactly
    (c.has_right-found.ensures.0 c.if-not-found.false) (c.has_room-room.ensures.0 c.if-not-room.false))
