use Rattle.std.proofs.Common.{◌≡◌, ℕ, List, nat_eq, ap, ◌∙◌}
use Rattle.indexmap.specs.IndexSet.{insert_key}
use Rattle.lg_dict.specs.Lengths.{has_length}
use Rattle.lg_dict.proofs.Lengthened.{insert_keeps, insert_has}
use Rattle.lg_dict.proofs.lengths.Lengths.add.Goals as goal

pub returns-clause-kept : goal.returns-clause-kept
returns-clause-kept c = λ n h.
    let is : c.insert.new.self.keys ≡ insert_key nat_eq c.args.self.now c.args.length = c.in_ok-insert.ensures.keys ∙ ap (λ (l : List ℕ). insert_key nat_eq l c.args.length) c.self.view_is in
    ap (λ l. has_length l n) is ∙ insert_keeps c.args.self.now c.args.length n h

pub returns-clause-added : goal.returns-clause-added
returns-clause-added c =
    let is : c.insert.new.self.keys ≡ insert_key nat_eq c.args.self.now c.args.length = c.in_ok-insert.ensures.keys ∙ ap (λ (l : List ℕ). insert_key nat_eq l c.args.length) c.self.view_is in
    ap (λ l. has_length l c.args.length) is ∙ insert_has c.args.self.now c.args.length
