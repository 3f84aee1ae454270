use Rattle.std.proofs.Common.{◌≡◌, suc, ap, sym, ◌∙◌, arith}
use Rattle.lg_gram.specs.Trees.{Trees, one_of, tree_of, trees_in, expr_items}
use Rattle.lg_export.specs.Spelling.{top, in_or, level_at}
use Rattle.lg_export.proofs.Spelled.{top_or_level, in_round_level, two_members}
use Rattle.lg_export.proofs.level.+level.Goals as goal

pub level_of_any-returns-in-Top : goal.level_of_any-returns-in-Top
level_of_any-returns-in-Top t c = rw (c.in-Top.is, top_or_level) c.level_of_members.ensures

pub level_in_brackets-returns-then-is_optional : goal.level_in_brackets-returns-then-is_optional
level_in_brackets-returns-then-is_optional t c =
    let e = c.index-items-1.result in
    let is : level_at in_or (one_of (trees_in (expr_items c.args.members.now))) ≡ suc (level_at top (tree_of e)) =
    ap (λ (ts : Trees). level_at in_or (one_of ts)) (two_members c.items.result.now (expr_items c.args.members.now) e c.items.ensures (c.is_optional.ensures.two c.if-is_optional.true) (sym c.is_optional.ensures.value ∙ c.if-is_optional.true) c.index-items-1.is) in
    omega arith

pub level_in_brackets-returns-else-is_optional : goal.level_in_brackets-returns-else-is_optional
level_in_brackets-returns-else-is_optional t c =
    let is = in_round_level (trees_in (expr_items c.args.members.now)) (sym c.is_optional.ensures.value ∙ c.if-is_optional.false) in
    omega arith
