-- The orders of links, of ties, of choices and of linkages are total.
use Rattle.std.specs.Cmp.{IsTotalOrder}
use Rattle.std.specs.Cmp.Lexicographic.{options_total}
use Rattle.std.specs.Option.{option_cmp}
use Rattle.std.proofs.lemmas.Cmp.{on_total, then_total, back_total, nat_cmp_total, int_cmp_total, lists_total, nat_list_cmp_total}
use Rattle.lg_gram.specs.Connectors.{connector_text}
use Rattle.lg_gram.specs.Disjuncts.{disjunct_cmp}
use Rattle.lg_gram.specs.Linkages.{unlinked, total_cost, total_length, link_cmp, tie_cmp, linkage_cmp}

pub links_total : IsTotalOrder link_cmp
links_total =
    then_total (on_total (λ l. l.left) nat_cmp_total)
    (then_total (on_total (λ l. l.right) nat_cmp_total)
    (then_total (on_total (λ l. l.lplace) nat_cmp_total) (on_total (λ l. l.rplace) nat_cmp_total)))

pub ties_total : IsTotalOrder tie_cmp
ties_total =
    then_total (back_total (then_total (on_total (λ l. l.left) nat_cmp_total) (on_total (λ l. l.right) nat_cmp_total)))
    (then_total (on_total (λ l. l.lplace) nat_cmp_total) (on_total (λ l. l.rplace) nat_cmp_total))

pub choices_total : IsTotalOrder (option_cmp disjunct_cmp)
choices_total = options_total (then_total (on_total (λ d. d.word) nat_list_cmp_total)
    (then_total (on_total (λ d. d.left) (lists_total (on_total connector_text nat_list_cmp_total))) (on_total (λ d. d.right) (lists_total (on_total connector_text nat_list_cmp_total)))))

pub linkages_total : IsTotalOrder linkage_cmp
linkages_total =
    then_total (on_total unlinked nat_cmp_total)
    (then_total (on_total total_cost int_cmp_total)
    (then_total (on_total total_length nat_cmp_total)
    (then_total (on_total (λ g. g.chosen) (lists_total choices_total))
    (on_total (λ g. g.links) (lists_total ties_total)))))
