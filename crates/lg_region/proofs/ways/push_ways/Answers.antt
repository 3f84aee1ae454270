use Rattle.std.proofs.Common.{◌≡◌, ◌++◌, map, ◌∷◌, [], ◌∙◌, ap, sym, true, false, append-nil}
use Rattle.lg_region.proofs.Going.{plain_added, plain_ways, ways_added}
use Rattle.lg_region.proofs.ways.push_ways.Goals as goal
use Rattle.lg_region.proofs.ways.push_ways.Goals.{then-apart+in_ok-push, else-apart}

pub returns : goal.returns
returns g c =
    let make = g.T.OnWay.on c.args.number in
    let near = c.args.near in
    let far = c.args.far in
    let old = c.args.out.now.items in
    let lists = c.args.lists.now in
    -- the way without a joint stands there where it may
    let start : c.if-apart.out.items ≡ old ++ map make (plain_ways c.args.apart near far) = elim c.if-apart.branch [
      | then-apart+in_ok-push w ↦ plain_added c.args.apart true near far make old c.if-apart.out.items w.if-apart.true (ap (λ v. v.items) w.out-is ∙ w.in_ok-push.ensures.items ∙ ap (λ z. old ++ z ∷ []) w.on.ensures)
      | else-apart w ↦ plain_added c.args.apart false near far make old c.if-apart.out.items w.if-apart.false (ap (λ v. v.items) w.out-is ∙ sym (append-nil old))
    ] in
    ways_added lists.positions lists.lists near far make old c.if-apart.out.items c.push_joints.new.out.items c.args.apart c.are_numbered.ensures c.requires.near c.requires.far start c.in_ok-push_joints.ensures
