use Rattle.std.proofs.Common.{sym, subst}
use Rattle.lg_dict.specs.Changed.{changed}
use Rattle.lg_dict.specs.Dictionary.{Dictionary, NoWordIsLonger}
use Rattle.lg_dict.proofs.Admitted.{either_way}
use Rattle.lg_dict.proofs.Changed.{short_left}
use Rattle.lg_dict.proofs.view.View.remove.Goals as goal

pub invariant_of-self : goal.invariant_of-self
invariant_of-self c =
    let base = c.self.inside.base.now in
    let n = c.self.inside.longest in
    record {
      laid = c.remove.ensures.laid;
      longest = either_way c.remove.result c.remove.ensures.removed c.remove.ensures.unchanged
          (λ gone. subst (λ (d : Dictionary). NoWordIsLonger d n) (sym (gone base)) (short_left (changed base c.self.inside.changes).words n c.self.invariant.longest c.args.word.now))
          (λ same. subst (λ (d : Dictionary). NoWordIsLonger d n) (sym (same base)) c.self.invariant.longest);
    }
