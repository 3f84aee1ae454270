use Rattle.std.proofs.Common.{◌+◌, ◌∙◌, refl, sym, subst, arith, rules}
use Rattle.lg_region.specs.Keys.{IsValidKey}
use Rattle.lg_region.specs.Openings.{IsGapOf}
use Rattle.lg_fewest.specs.Spans.{HasUnlinked, IsEnding, span_before}
use Rattle.lg_fewest.specs.Least.{AreLeast, IsLeast}
use Rattle.lg_fewest.proofs.Cutting as cut
use Rattle.lg_fewest.proofs.search.+search.Goals as goal

-- ---- the table

pub least-returns-in-Some-clause-least : goal.least-returns-in-Some-clause-least
least-returns-in-Some-clause-least t c = c.requires.table c.args.span c.in-Some.known.now c.in-Some.ensures

pub least-returns-clause-table : goal.least-returns-clause-table
least-returns-clause-table t c = cut.table_added c.args.lists.now c.args.span c.in_ok-found.found _ _ c.in_ok-found.ensures.table c.in_ok-found.ensures.least c.in_ok-add.ensures

-- ---- a span

pub explore-gap_of-requires : goal.explore-gap_of-requires
explore-gap_of-requires t c = subst (λ z. IsValidKey c.args.lists.now.positions c.args.lists.now.lists z) (sym c.key.ensures) c.requires.span

pub explore-returns-in-None-clause-least : goal.explore-returns-in-None-clause-least
explore-returns-in-None-clause-least t c =
    let n = c.args.lists.now in
    let none = c.requires.law.bare c.args.span c.requires.span (λ gap is. c.in-None.ensures.none gap (subst (λ z. IsGapOf n z gap) (sym c.key.ensures) is)) in
    let all = c.requires.law.unlinked c.args.span c.requires.span none in
    let ends = c.requires.span.2.ends in
    ((all _).1 (omega arith), λ m has. let e = (all m).0 has in omega arith)

pub explore-least_cut-requires : goal.explore-least_cut-requires
explore-least_cut-requires t c =
    let n = c.args.lists.now in
    (search rules, (c.requires.law, (c.requires.span, (subst (λ z. IsGapOf n z c.in-Some.gap) c.key.ensures c.in-Some.ensures.gap, c.requires.table))))

-- ---- word by word

pub least_cut-loop-word-init : goal.least_cut-loop-word-init
least_cut-loop-word-init t c = record {
  after = omega arith;
  lowers = cut.words_first c.args.lists.now c.args.span c.args.gap.now c.requires.gap;
  table = c.requires.table;
}

pub least_cut-loop-word-preserved : goal.least_cut-loop-word-preserved
least_cut-loop-word-preserved t c =
    let after = c.loop-word.invariant.after in
    record {
      after = omega arith;
      lowers = cut.words_next c.args.lists.now c.args.span c.args.gap.now c.requires.gap c.loop-word.word _ _ _ c.loop-word.invariant.lowers c.in_ok-least.ensures.lowers;
      table = c.in_ok-least.ensures.table;
    }

pub least_cut-returns-then-is_within-clause-least : goal.least_cut-returns-then-is_within-clause-least
least_cut-returns-then-is_within-clause-least t c =
    cut.words_zero c.args.lists.now c.args.span c.args.gap.now c.requires.gap c.requires.law c.requires.span c.loop-word.word c.loop-word.least c.loop-word.invariant.lowers (c.is_within.ensures.0 c.if-is_within.true)

pub least_cut-returns-clause-least : goal.least_cut-returns-clause-least
least_cut-returns-clause-least t c =
    let test = c.loop-word-test.false in
    cut.words_all c.args.lists.now c.args.span c.args.gap.now c.requires.gap c.requires.law c.requires.span c.loop-word.word c.loop-word.least (omega arith) c.loop-word.invariant.lowers

-- ---- group by group

pub cut_at-groups_at-requires-clause-within : goal.cut_at-groups_at-requires-clause-within
cut_at-groups_at-requires-clause-within t c = c.requires.gap.within

pub cut_at-loop-index-init : goal.cut_at-loop-index-init
cut_at-loop-index-init t c = record {
  lowers = cut.sums_none c.args.lists.now c.args.span _ c.args.most (cut.among_none cut.In c.in_ok-groups.groups.items);
  table = subst (AreLeast c.args.lists.now) (sym c.table.view_is) c.requires.table;
}

pub cut_at-cut_in-requires : goal.cut_at-cut_in-requires
cut_at-cut_in-requires t c =
    let gs = c.in_ok-groups.groups.items in
    let i = c.loop-index.index in
    let test = c.loop-index-test.true in
    let at = cut.at_of gs i c.index-group.result.now (omega arith) c.index-group.ensures in
    let is = cut.group_is c.args.lists.now c.args.span c.args.gap.now c.requires.gap c.args.word gs c.in_ok-groups.ensures i c.index-group.result.now at in
    (search rules, (c.requires.law, (c.requires.span, (c.requires.gap, (is, c.loop-index.invariant.table)))))

pub cut_at-loop-index-preserved : goal.cut_at-loop-index-preserved
cut_at-loop-index-preserved t c =
    let gs = c.in_ok-groups.groups.items in
    let i = c.loop-index.index in
    let g = c.index-group.result.now in
    let test = c.loop-index-test.true in
    let at = cut.at_of gs i g (omega arith) c.index-group.ensures in
    record {
      lowers = cut.sums_then c.args.lists.now c.args.span (cut.Among cut.In gs i) (cut.In g) (cut.Among cut.In gs (i + 1)) c.args.most _ _ (cut.among_next cut.In gs i (i + 1) g refl at)
          c.loop-index.invariant.lowers c.in_ok-least.ensures.lowers;
      table = c.in_ok-least.ensures.table;
    }

pub cut_at-returns-clause-lowers : goal.cut_at-returns-clause-lowers
cut_at-returns-clause-lowers t c =
    let gs = c.in_ok-groups.groups.items in
    let test = c.loop-index-test.false in
    cut.groups_all c.args.lists.now c.args.span c.args.gap.now c.requires.gap c.args.word gs c.in_ok-groups.ensures c.loop-index.index c.args.most c.loop-index.least (omega arith) c.loop-index.invariant.lowers

-- ---- beginning by beginning

pub cut_in-loop-index-init : goal.cut_in-loop-index-init
cut_in-loop-index-init t c = record {
  lowers = cut.sums_none c.args.lists.now c.args.span _ c.args.most (cut.among_none (IsEnding c.args.gap.now c.args.group.now) c.in_ok-begins.begins.items);
  table = subst (AreLeast c.args.lists.now) (sym c.table.view_is) c.requires.table;
}

pub cut_in-begin_with-requires : goal.cut_in-begin_with-requires
cut_in-begin_with-requires t c =
    let bs = c.in_ok-begins.begins.items in
    let i = c.loop-index.index in
    let b = c.index-begin.result.now in
    let test = c.loop-index-test.true in
    let at = cut.at_of bs i b (omega arith) c.index-begin.ensures in
    let of = c.in_ok-begins.ensures.each b (cut.contains_at bs i b at) in
    (search rules, (c.requires.law, (c.requires.span, (c.requires.gap, (c.requires.group, (of, c.loop-index.invariant.table))))))

pub cut_in-loop-index-preserved : goal.cut_in-loop-index-preserved
cut_in-loop-index-preserved t c =
    let bs = c.in_ok-begins.begins.items in
    let i = c.loop-index.index in
    let b = c.index-begin.result.now in
    let test = c.loop-index-test.true in
    let at = cut.at_of bs i b (omega arith) c.index-begin.ensures in
    record {
      lowers = cut.sums_then c.args.lists.now c.args.span (cut.Among (IsEnding c.args.gap.now c.args.group.now) bs i) (IsEnding c.args.gap.now c.args.group.now b) (cut.Among (IsEnding c.args.gap.now c.args.group.now) bs (i + 1)) c.args.most _ _
          (cut.among_next (IsEnding c.args.gap.now c.args.group.now) bs i (i + 1) b refl at) c.loop-index.invariant.lowers c.in_ok-least.ensures.lowers;
      table = c.in_ok-least.ensures.table;
    }

pub cut_in-returns-clause-lowers : goal.cut_in-returns-clause-lowers
cut_in-returns-clause-lowers t c =
    let bs = c.in_ok-begins.begins.items in
    let test = c.loop-index-test.false in
    cut.begins_all c.args.lists.now c.args.span c.args.gap.now c.requires.gap c.args.group.now bs c.in_ok-begins.ensures c.loop-index.index c.args.most c.loop-index.least (omega arith) c.loop-index.invariant.lowers

pub begin_with-least-requires : goal.begin_with-least-requires
begin_with-least-requires t c =
    let narrow = cut.begin_narrow c.args.lists.now c.args.span c.args.gap.now c.requires.gap c.requires.law c.requires.span c.args.group.now c.args.begin.now c.requires.begins in
    let less = narrow.1 in
    (search rules, (c.requires.law, (narrow.0, c.requires.table)))

pub begin_with-returns-in-None-clause-lowers : goal.begin_with-returns-in-None-clause-lowers
begin_with-returns-in-None-clause-lowers t c =
    cut.begin_dead c.args.lists.now c.args.span c.args.gap.now c.requires.gap c.args.group.now c.args.begin.now c.args.most
    (subst (λ z. IsLeast (HasUnlinked c.args.lists.now (span_before c.args.gap.now c.args.group.now c.args.begin.now)) z) c.in-None.is c.in_ok-found.ensures.least)

pub begin_with-go_on-requires : goal.begin_with-go_on-requires
begin_with-go_on-requires t c =
    let left = subst (λ z. IsLeast (HasUnlinked c.args.lists.now (span_before c.args.gap.now c.args.group.now c.args.begin.now)) z) c.in-Some.is c.in_ok-found.ensures.least in
    (search rules, (c.requires.law, (c.requires.span, (c.requires.gap, (c.requires.group, (c.requires.begins, (left, c.in_ok-found.ensures.table)))))))

-- ---- alternative by alternative

pub go_on-returns-then-is_within-clause-lowers : goal.go_on-returns-then-is_within-clause-lowers
go_on-returns-then-is_within-clause-lowers t c =
    cut.begin_over c.args.lists.now c.args.span c.args.gap.now c.requires.gap c.args.group.now c.args.begin.now c.args.most c.args.left c.requires.left (c.is_within.ensures.0 c.if-is_within.true)

pub go_on-push_endings-requires-clause-begins : goal.go_on-push_endings-requires-clause-begins
go_on-push_endings-requires-clause-begins t c = let a = c.requires.begins in (a.0, a.1.0, a.1.1, a.2)

pub go_on-loop-index-init : goal.go_on-loop-index-init
go_on-loop-index-init t c = record {
  lowers = cut.sums_none c.args.lists.now c.args.span _ c.args.most (cut.among_none _ c.push_endings.new.out.items);
  table = c.requires.table;
}

pub go_on-end_with-requires : goal.go_on-end_with-requires
go_on-end_with-requires t c =
    let n = c.args.lists.now in
    let alts = c.push_endings.new.out.items in
    let are = cut.from_none _ alts _ c.new-alts.ensures.items c.in_ok-push_endings.ensures.endings in
    let test = c.loop-index-test.true in
    let at = cut.at_of alts c.loop-index.index c.index.result.now (omega arith) c.index.ensures in
    let alt = cut.end_in n c.args.span c.args.gap.now c.requires.gap c.args.group.now c.args.begin.now alts are c.loop-index.index c.index.result.now at in
    let left = cut.end_left n c.args.span c.args.gap.now c.requires.gap c.args.group.now c.args.begin.now alts are c.args.left c.requires.left c.loop-index.index c.index.result.now at in
    (search rules, (c.requires.law, (c.requires.span, (alt, (left, c.loop-index.invariant.table)))))

pub go_on-loop-index-preserved : goal.go_on-loop-index-preserved
go_on-loop-index-preserved t c =
    let n = c.args.lists.now in
    let alts = c.push_endings.new.out.items in
    let i = c.loop-index.index in
    let are = cut.from_none _ alts _ c.new-alts.ensures.items c.in_ok-push_endings.ensures.endings in
    let test = c.loop-index-test.true in
    let at = cut.at_of alts i c.index.result.now (omega arith) c.index.ensures in
    let alt = cut.end_in n c.args.span c.args.gap.now c.requires.gap c.args.group.now c.args.begin.now alts are i c.index.result.now at in
    record {
      lowers = cut.sums_next n c.args.span alts i (i + 1) c.index.result.now c.args.most _ _ refl at alt c.loop-index.invariant.lowers c.in_ok-lowest.ensures.lowers;
      table = c.in_ok-lowest.ensures.table;
    }

pub go_on-returns-clause-lowers : goal.go_on-returns-clause-lowers
go_on-returns-clause-lowers t c =
    let alts = c.push_endings.new.out.items in
    let are = cut.from_none _ alts _ c.new-alts.ensures.items c.in_ok-push_endings.ensures.endings in
    let test = c.loop-index-test.false in
    cut.ends_all c.args.lists.now c.args.span c.args.gap.now c.requires.gap c.args.group.now c.args.begin.now alts are c.loop-index.index c.args.most c.loop-index.lowest (omega arith) c.loop-index.invariant.lowers

pub end_with-returns-in-None-clause-lowers : goal.end_with-returns-in-None-clause-lowers
end_with-returns-in-None-clause-lowers t c = cut.end_none c.args.lists.now c.args.alt c.args.most (sym c.right_of.ensures ∙ c.in-None.is)

pub end_with-end_at-requires : goal.end_with-end_at-requires
end_with-end_at-requires t c =
    (search rules, (c.requires.law, (c.requires.span, (c.requires.alt, (sym c.right_of.ensures ∙ c.in-Some.is, (c.requires.left, c.requires.table))))))

pub end_at-least-requires : goal.end_at-least-requires
end_at-least-requires t c =
    let narrow = c.requires.law.right c.args.span c.args.behind c.args.alt c.requires.span c.requires.alt c.requires.behind in
    let less = narrow.1 in
    (search rules, (c.requires.law, (narrow.0, c.requires.table)))

pub end_at-lower-requires : goal.end_at-lower-requires
end_at-lower-requires t c =
    cut.end_few c.args.lists.now c.args.span c.args.behind c.args.alt c.args.left c.in_ok-right.right c.requires.law c.requires.span c.requires.alt (search rules) c.requires.behind c.requires.left c.in_ok-right.ensures.least

pub end_at-returns-clause-lowers : goal.end_at-returns-clause-lowers
end_at-returns-clause-lowers t c =
    cut.end_by c.args.lists.now c.args.alt c.args.most c.args.behind c.args.left c.in_ok-right.right c.lower.result c.requires.behind c.requires.left c.in_ok-right.ensures.least c.lower.ensures
