use Rattle.std.proofs.Common.{List, ℕ, ◌≤◌, length, All, sym, subst, ◌∙◌}
use Rattle.lg_gram.specs.Trees.{tree_of}
use Rattle.lg_dict.specs.Changed.{changed}
use Rattle.lg_dict.specs.Dictionary.{Dictionary, NoWordIsLonger}
use Rattle.lg_dict.proofs.Changed.{short_given}
use Rattle.lg_dict.proofs.view.View.put.Goals as goal

pub invariant_of-self-2 : goal.invariant_of-self-2
invariant_of-self-2 c =
    let base = c.self.inside.base.now in
    let m = c.longest_of-self-inside.result in
    record {
      laid = c.put.ensures.laid;
      longest = subst (λ (d : Dictionary). NoWordIsLonger d m) (sym (c.in_ok-put.ensures.put base))
          (short_given (changed base c.self.inside.changes).words c.self.inside.longest c.self.invariant.longest c.items.result.now (tree_of c.in_ok-copy.copy) m c.longest_of-self-inside.ensures.above
          (subst (All (λ (word : List ℕ). length word ≤ m)) (c.items-2.ensures ∙ sym c.items.ensures) c.longest_of-self-inside.ensures.bounds));
    }
