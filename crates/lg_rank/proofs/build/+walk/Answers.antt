use Rattle.std.proofs.Common.{◌≡◌, ◌+◌, inl, inr, Some, length, true≢false, subst, sym, ap, ◌∙◌, arith, rules}
use Rattle.std.proofs.lemmas.Option.{slice_get_within}
use Rattle.lg_region.specs.Laws.{HasKey}
use Rattle.lg_forest.specs.Search.{part_bound, alt_bound}
use Rattle.lg_rank.specs.Keyed.{AreInOrder, IsNumberFor, IsWayOf, near_link}
use Rattle.lg_rank.specs.Meanings.{IsWord}
use Rattle.lg_rank.proofs.Keyed.{alt_for, number_within}
use Rattle.lg_rank.proofs.Noding.{long_more, number_more, order_more, order_push, put}
use Rattle.lg_rank.proofs.Short.{ends_short}
use Rattle.lg_rank.proofs.Walking.{alt_of, extends_then, has_alt, narrow, part_gets}
use Rattle.lg_rank.proofs.build.+walk.Goals as goal

pub visit-returns-clause-made : goal.visit-returns-clause-made
visit-returns-clause-made t c =
    let (from, is) = c.requires.forest in
    (put c.args.problem.now from c.args.forest.now is c.visit_below.new.made.keys c.visit_below.new.made.nodes.items c.in_ok-ways.ensures.made c.args.key c.requires.key c.in_ok-ways.ways c.in_ok-ways.ensures.ways
    c.put_node.new.made.keys c.put_node.new.made.nodes.items c.in_ok-number.number c.in_ok-number.ensures).0

pub visit-returns-clause-grown : goal.visit-returns-clause-grown
visit-returns-clause-grown t c =
    let (from, is) = c.requires.forest in
    extends_then c.args.made.now.keys c.visit_below.new.made.keys c.put_node.new.made.keys c.in_ok-ways.ensures.grown
    (put c.args.problem.now from c.args.forest.now is c.visit_below.new.made.keys c.visit_below.new.made.nodes.items c.in_ok-ways.ensures.made c.args.key c.requires.key c.in_ok-ways.ways c.in_ok-ways.ensures.ways
    c.put_node.new.made.keys c.put_node.new.made.nodes.items c.in_ok-number.number c.in_ok-number.ensures).1

pub visit-returns-clause-number : goal.visit-returns-clause-number
visit-returns-clause-number t c =
    let (from, is) = c.requires.forest in
    (put c.args.problem.now from c.args.forest.now is c.visit_below.new.made.keys c.visit_below.new.made.nodes.items c.in_ok-ways.ensures.made c.args.key c.requires.key c.in_ok-ways.ways c.in_ok-ways.ensures.ways
    c.put_node.new.made.keys c.put_node.new.made.nodes.items c.in_ok-number.number c.in_ok-number.ensures).2

pub visit_below-visit_alt-requires : goal.visit_below-visit_alt-requires
visit_below-visit_alt-requires t c =
    let positions = c.args.problem.now in
    let forest = c.args.forest.now in
    let key = c.args.key in
    let (first, one) = c.requires.forest in
    let at = has_alt forest key c.in-Some.alts.now c.loop-index.index c.get.result c.in-Some.ensures c.get.ensures in
    let alt = alt_of positions first forest one key c.get.result at in
    let below = narrow positions one.lists key c.get.result alt.0 in
    let gets = c.requires.key first one in
    let cut = alt_for positions one.lists key c.get.result gets.links alt.0 in
    let limits = c.positions-positions.ensures.limits in (
      search rules,
      (
        c.requires.forest,
        (
          λ part has some from is. part_gets positions from forest is (c.numbers_tell_lists_apart.ensures positions is.lists is.numbered) key part c.get.result (c.requires.key from is) at has some,
          (
            c.loop-index.invariant.made,
            (
              (one.lists, cut.0, cut.1),
              (
                ends_short positions one.lists key limits gets.valid,
                c.alternatives_are_small.ensures positions one.lists key c.get.result limits one.numbered gets.valid alt.0,
              ),
            ),
          ),
        ),
      ),
    )

pub visit_below-loop-index-preserved : goal.visit_below-loop-index-preserved
visit_below-loop-index-preserved t c =
    let at = c.loop-index in
    let old = at.made.keys in
    let new = c.visit_alt.new.made.keys in
    let key = c.args.key in
    let more = c.in_ok-way.ensures.grown in
    let alts = c.in-Some.alts.now in record {
      made = c.in_ok-way.ensures.made;
      grown = extends_then c.args.made.now.keys old new at.invariant.grown more;
      ways =
          order_push (IsWayOf c.args.problem.now new (length new) key) alts at.index (at.index + 1) at.ways.items c.push.new.self.items c.get.result c.in_ok-way.way (omega arith) c.get.ensures c.in_ok-way.ensures.way
          c.in_ok-push.ensures.items (order_more c.args.problem.now old new (length old) (length new) key alts at.index at.ways.items more (long_more old new more) at.invariant.ways);
    }

-- all alternatives were walked through
pub visit_below-returns-clause-ways : goal.visit_below-returns-clause-ways
visit_below-returns-clause-ways t c =
    let at = c.loop-index in
    let alts = c.in-Some.alts.now in
    let all : at.index ≡ length alts = omega arith in
    inr (alts, c.in-Some.ensures, subst (λ n. AreInOrder (IsWayOf c.args.problem.now at.made.keys (length at.made.keys) c.args.key) alts n at.ways.items) all at.invariant.ways)

pub visit_alt-visit_part-requires : goal.visit_alt-visit_part-requires
visit_alt-visit_part-requires t c =
    let e = ap (alt_bound c.args.problem.now) c.in-Split.is in
    (search rules, (c.requires.forest, (λ part at some. c.requires.parts part (subst (λ z. HasKey z part) (sym c.in-Split.is) (inl at)) some, c.requires.made)))

pub visit_alt-visit_part-requires-2 : goal.visit_alt-visit_part-requires-2
visit_alt-visit_part-requires-2 t c =
    let e = ap (alt_bound c.args.problem.now) c.in-Split.is in
    (search rules, (c.requires.forest, (λ part at some. c.requires.parts part (subst (λ z. HasKey z part) (sym c.in-Split.is) (inr at)) some, c.in_ok-left.ensures.made)))

pub visit_alt-word_way-requires-clause-disjunct : goal.visit_alt-word_way-requires-clause-disjunct
visit_alt-word_way-requires-clause-disjunct t c =
    let s = c.in-Split in
    let (lists, cut, is) = c.requires.cut in
    number_within c.args.problem.now lists c.args.key cut c.args.alt s.word s.disjunct s.to_left s.to_right s.lkey s.rkey s.is is

pub visit_alt-returns-clause-way : goal.visit_alt-returns-clause-way
visit_alt-returns-clause-way t c =
    let s = c.in-Split in
    let positions = c.args.problem.now in
    let old = c.visit_part.new.made.keys in
    let new = c.visit_part-2.new.made.keys in
    let w = c.in_ok-way.way in
    let more = c.in_ok-right.ensures.grown in record {
      word = s.word;
      number = s.disjunct;
      to_left = s.to_left;
      to_right = s.to_right;
      lkey = s.lkey;
      rkey = s.rkey;
      is = s.is;
      has_word = λ d at.
          subst (λ z. IsWord positions w s.word d (near_link c.args.key s.word s.to_left) z) c.far_of-far.ensures
          (subst (λ z. IsWord positions w s.word d z c.far_of-far.result) c.near_of-near.ensures (c.in_ok-way.ensures.word d at));
      left = subst (λ o. IsNumberFor new (length new) s.lkey o) (sym c.in_ok-way.ensures.left) (number_more old new (length old) (length new) s.lkey c.in_ok-left.left more (long_more old new more) c.in_ok-left.ensures.number);
      right = subst (λ o. IsNumberFor new (length new) s.rkey o) (sym c.in_ok-way.ensures.right) c.in_ok-right.ensures.number;
    }

pub visit_part-visit-requires : goal.visit_part-visit-requires
visit_part-visit-requires t c =
    let e = ap (part_bound c.args.problem.now) c.in-Some.is in
    (search rules, (c.requires.forest, (c.requires.key c.in-Some.key c.in-Some.is (λ none. true≢false (sym (c.is_nothing.ensures.1 none) ∙ c.if-is_nothing.false)), c.requires.made)))

pub visit_part-returns-in_ok-number-in-Some-clause-number : goal.visit_part-returns-in_ok-number-in-Some-clause-number
visit_part-returns-in_ok-number-in-Some-clause-number t c =
    let keys = c.visit.new.made.keys in
    let at = c.in_ok-number-in-Some.ensures.number in
    subst (λ z. IsNumberFor keys (length keys) z (Some c.in_ok-number-in-Some.number)) (sym c.in-Some.is) (slice_get_within keys c.in_ok-number-in-Some.number c.in-Some.key at, at)
