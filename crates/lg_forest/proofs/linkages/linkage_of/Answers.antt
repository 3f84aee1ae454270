use Rattle.std.proofs.Common.{◌∙◌, subst, sym}
use Rattle.lg_gram.specs.Linkages.{IsLinkage}
use Rattle.lg_forest.specs.Drafts.{IsDraftOf}
use Rattle.lg_forest.proofs.GoodLinkage.{good_linkage}
use Rattle.lg_forest.proofs.SameLinkage.{linkage_drafted}
use Rattle.lg_forest.proofs.linkages.linkage_of.Goals as goal

-- it is the linkage of the draft, which is good
pub of_known-requires : goal.of_known-requires
of_known-requires c =
    let (g, good, is) = c.requires in
    let total = c.links_are_ordered.ensures.total in
    let e = linkage_drafted c.args.problem.now c.args.draft.now g c.in_ok-chosen.chosen c.in_ok-links.links c.links.result.now total is (c.in_ok-chosen.ensures g (subst (λ z. IsDraftOf z c.args.draft.now g) (sym c.positions.ensures.value) is)) c.in_ok-links.ensures.rise c.in_ok-links.ensures.same c.links.ensures in
    subst (λ z. IsLinkage z) (sym e) (good_linkage c.args.problem.now g total c.positions.ensures.limits good)

pub returns : goal.returns
returns c = λ g is.
    let total = c.links_are_ordered.ensures.total in
    let e = linkage_drafted c.args.problem.now c.args.draft.now g c.in_ok-chosen.chosen c.in_ok-links.links c.links.result.now total is (c.in_ok-chosen.ensures g (subst (λ z. IsDraftOf z c.args.draft.now g) (sym c.positions.ensures.value) is)) c.in_ok-links.ensures.rise c.in_ok-links.ensures.same c.links.ensures in
    c.of_known.ensures ∙ e
