use Rattle.std.proofs.Common.{◌≡◌, ◌++◌, ◌∷◌, [], cond, ◌∙◌, ap}
use Rattle.lg_region.proofs.Lasts.{firsts_pushed, firsts_same, meets}
use Rattle.lg_region.proofs.numbering.kind_of.Goals as goal
use Rattle.lg_region.proofs.numbering.kind_of.Goals.{then-is_new+in_ok-push, else-is_new}

pub returns : goal.returns
returns c =
    let firsts = c.args.firsts.now.items in
    let s = c.in_ok-kind.ensures.stored in
    let l : c.if-is_new.firsts.items ≡ cond c.in_ok-kind.is_new (firsts ++ c.args.id ∷ []) firsts = elim c.if-is_new.branch [
      | then-is_new+in_ok-push w ↦ firsts_pushed firsts c.if-is_new.firsts.items c.args.id c.in_ok-kind.is_new w.if-is_new.true (ap (λ v. v.items) w.firsts-is ∙ w.in_ok-push.ensures.items)
      | else-is_new w ↦ firsts_same firsts c.if-is_new.firsts.items c.args.id c.in_ok-kind.is_new w.if-is_new.false (ap (λ v. v.items) w.firsts-is)
    ] in
    meets c.args.kinds.now.keys c.insert_full.new.self.keys firsts c.if-is_new.firsts.items c.args.last s.0 c.args.id c.in_ok-kind.kind c.in_ok-kind.is_new
    c.in_ok-kind.ensures.added c.in_ok-kind.ensures.keys l s.1 s.2
