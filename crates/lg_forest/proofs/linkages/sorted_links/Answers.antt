use Rattle.std.proofs.Common.{◌≡◌, ◌∙◌, sym, subst, Contains, rules}
use Rattle.std.proofs.lemmas.List.Filters.{dedup_is}
use Rattle.std.proofs.lemmas.List.Kept.{Contains-dedup, Contains-from_dedup, IsStrictlySortedBy-dedup}
use Rattle.std.proofs.lemmas.List.Sorted.{Contains-permutation, IsPermutation-sym}
use Rattle.std.specs.Bool.{Decides}
use Rattle.std.specs.List.Sorted.{IsStrictlySortedBy}
use Rattle.lg_gram.specs.Linkages.{link_cmp}
use Rattle.lg_gram.specs.declared.linkage.Link.{Link}
use Rattle.lg_gram.specs.contracts.linkage.LinkPartialEq.TheImpl as links
use Rattle.lg_forest.proofs.SameLinkage.{link_ties}
use Rattle.lg_forest.proofs.linkages.sorted_links.Goals as goal

link_same : (k l : Link) → Decides (links.ghosts.eq k l) (k ≡ l)
link_same k l = search rules

pub returns-clause-rise : goal.returns-clause-rise
returns-clause-rise c =
    let is = dedup_is _ _ _ c.dedup.ensures.filtered in
    let laws = c.links_are_ordered.ensures in
    subst (λ z. IsStrictlySortedBy link_cmp z) (sym (c.of.ensures ∙ is)) (IsStrictlySortedBy-dedup laws.total (link_ties laws.total laws.exact _ (λ k l. search rules)) c.sort.new.self.items c.in_ok-sort.ensures.sorted)

pub returns-clause-same : goal.returns-clause-same
returns-clause-same c = λ l.
    let is = dedup_is _ _ _ c.dedup.ensures.filtered in
    let e = c.of.ensures ∙ is in
    let moved = c.in_ok-sort.ensures.permutation in
    let copied = c.in_ok-list.ensures.items_if_clones_equal (λ x y e. e) in (
      (λ h. subst (λ z. Contains z l) copied (Contains-permutation _ _ l (IsPermutation-sym _ _ moved) (Contains-from_dedup _ _ l (subst (λ z. Contains z l) e h)))),
      (λ h. subst (λ z. Contains z l) (sym e) (Contains-dedup (search rules) (λ x y t. (link_same x y).0 t) _ l (Contains-permutation _ _ l moved (subst (λ z. Contains z l) (sym copied) h)))),
    )
