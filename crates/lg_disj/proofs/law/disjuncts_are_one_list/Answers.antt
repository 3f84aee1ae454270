use Rattle.lg_gram.specs.Disjuncts.{disjunct_cmp}
use Rattle.lg_disj.proofs.One_list.{one_list}
use Rattle.lg_disj.proofs.Disjuncts.{disjunct_cmp_total}
use Rattle.lg_disj.proofs.law.disjuncts_are_one_list.Goals as goal

pub returns : goal.returns
returns c = λ word t xs ys p q.
    one_list disjunct_cmp disjunct_cmp_total xs ys p.rise q.rise (λ d h. (q.exactly d).1 ((p.exactly d).0 h)) (λ d h. (p.exactly d).1 ((q.exactly d).0 h))
