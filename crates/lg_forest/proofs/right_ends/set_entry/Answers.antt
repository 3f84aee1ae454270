use Rattle.std.proofs.Common.{◌≡◌, ℕ, sym, subst}
use Rattle.lg_forest.specs.RightEnds.{entry, rows_in}
use Rattle.lg_forest.proofs.RightEnds.{entry_kept, entry_put, rows_put}
use Rattle.lg_forest.proofs.right_ends.set_entry.Goals as goal

pub returns-clause-there : goal.returns-clause-there
returns-clause-there c =
    let numbers = c.args.numbers.now.items in
    let word = c.args.word in
    subst (λ z. entry z word c.args.list ≡ c.args.number) (sym (rows_put numbers word c.args.list c.args.number c.index_mut-row.result.now c.index_mut-row.ensures.value c.requires.0))
    (entry_put (rows_in numbers) word c.args.list c.args.number c.requires)

pub returns-clause-others : goal.returns-clause-others
returns-clause-others c =
    let numbers = c.args.numbers.now.items in
    let word = c.args.word in
    subst (λ z. (w l : ℕ) → ((w ≡ word) × (l ≡ c.args.list) → ⊥) → entry z w l ≡ entry (rows_in numbers) w l)
    (sym (rows_put numbers word c.args.list c.args.number c.index_mut-row.result.now c.index_mut-row.ensures.value c.requires.0))
    (entry_kept (rows_in numbers) word c.args.list c.args.number c.requires)
