use Rattle.std.proofs.Common.{ap, sym, ◌∙◌}
use Rattle.lg_gram.specs.Trees.{Trees, one_of, trees_in, expr_items}
use Rattle.lg_export.specs.Spelling.{in_or, spelled}
use Rattle.lg_export.proofs.Spelled.{top_or, in_round, two_members, three_pieces, first_written}
use Rattle.lg_export.proofs.spelling.+spell.Goals as goal

pub write_any-returns-in-Top : goal.write_any-returns-in-Top
write_any-returns-in-Top t c = rw (c.in-Top.is, top_or) c.write_members.ensures

pub write_any_in_brackets-returns-then-is_optional : goal.write_any_in_brackets-returns-then-is_optional
write_any_in_brackets-returns-then-is_optional t c =
    three_pieces _ _ _ _ _ _ _ _ _ c.in_ok-write_bytes.ensures.ok c.in_ok-write_expr.ensures c.write_bytes-then-is_optional.ensures.ok
    (ap (λ (ts : Trees). spelled in_or (one_of ts))
    (two_members c.items.result.now (expr_items c.args.members.now) c.index-items-1.result c.items.ensures (c.is_optional.ensures.two c.if-is_optional.true) (sym c.is_optional.ensures.value ∙ c.if-is_optional.true) c.index-items-1.is))

pub write_any_in_brackets-returns : goal.write_any_in_brackets-returns
write_any_in_brackets-returns t c =
    three_pieces _ _ _ _ _ _ _ _ _ c.in_ok-write_bytes-2.ensures.ok c.in_ok-write_members.ensures c.write_bytes-3.ensures.ok
    (in_round (trees_in (expr_items c.args.members.now)) (sym c.is_optional.ensures.value ∙ c.if-is_optional.false))

pub write_members-loop-member-init : goal.write_members-loop-member-init
write_members-loop-member-init t c = first_written _ _ _ _ _ _ _ (sym c.items.ensures ∙ c.in-Some.ensures.cases.0) c.in_ok-write_expr.ensures
