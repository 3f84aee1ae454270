use Rattle.std.proofs.Common.{◌≡◌, w64, of_z, to_z, refl, sym, ap, subst, ◌∙◌, arith, rules}
use Rattle.lg_gram.specs.declared.disjunct.Disjunct.{Disjunct}
use Rattle.lg_rank.specs.Meanings.{IsWord}
use Rattle.lg_rank.proofs.Keyed.{disjunct_at}
use Rattle.lg_rank.proofs.Short.{word_short}
use Rattle.lg_rank.proofs.build.word_way.Goals as goal

pub of-requires-clause-word : goal.of-requires-clause-word
of-requires-clause-word c = word_short c.args.problem.now c.args.word c.args.disjunct c.positions.ensures.limits c.requires.disjunct

pub returns-clause-word : goal.returns-clause-word
returns-clause-word c = λ d at.
    let same = disjunct_at c.args.problem.now c.positions.result.now c.items-disjuncts.result.now c.index-positions-word.result c.args.word c.args.disjunct c.index-disjuncts-disjunct.result d
    c.positions.ensures.value c.index-positions-word.is c.items-disjuncts.ensures c.index-disjuncts-disjunct.is at in
    let cost : to_z w64 (of_z w64 c.thousandths-cost.result) ≡ c.index-disjuncts-disjunct.result.cost = search rules in
    subst (λ w. IsWord c.args.problem.now w c.args.word d c.args.near c.args.far) (sym c.in_ok-way.ensures) (record {
      word_is = refl;
      choice = (c.args.disjunct, omega arith, at);
      cost = cost ∙ ap (λ (t : Disjunct). t.cost) same;
      span = refl;
      near_is = refl;
      far_is = refl;
    })
