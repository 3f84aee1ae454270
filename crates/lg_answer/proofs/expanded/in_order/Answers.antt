use Rattle.std.proofs.Common.{◌≡◌, rules, is_lt}
use Rattle.std.specs.Ordering.{eq_by_cmp}
use Rattle.std.proofs.lemmas.Fn.{always_returns_same, dedup_same}
use Rattle.std.proofs.lemmas.List.MinMax.{ranks_by}
use Rattle.lg_gram.specs.Disjuncts.{disjunct_cmp}
use Rattle.lg_gram.proofs.Orders.{disjuncts_total}
use Rattle.lg_answer.proofs.Made.{kept_rise, kept_same}
use Rattle.lg_answer.proofs.expanded.in_order.Goals as goal

pub returns : goal.returns
returns c =
    let sorted = c.sort_by.new.self.items in
    let order = c.in_ok-sort_by.ensures.sorted (λ a b. is_lt (disjunct_cmp a b)) (ranks_by disjuncts_total (λ d. d))
    (always_returns_same _ (λ a r. is_lt r ≡ is_lt (disjunct_cmp a.0.now a.1.0.now)) _ (λ a r q k. search rules)) in
    let is = dedup_same _ (eq_by_cmp disjunct_cmp) _ (λ x y b f' x' y' k. search rules) sorted c.dedup_by.new.self.items c.dedup_by.ensures.filtered in
    record {
      rise = rw is (kept_rise sorted order);
      same = rw is (kept_same c.args.disjuncts.items sorted c.in_ok-sort_by.ensures.permutation c.requires);
    }
