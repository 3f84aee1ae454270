use Rattle.std.proofs.Common.{◌≡◌, subst, sym, ◌∙◌}
use Rattle.lg_gram.specs.Linkages.{Linkage, IsLinkage}
use Rattle.lg_rank.specs.Values.{value_of}
use Rattle.lg_rank.proofs.Unpacking.{unpacked}
use Rattle.lg_rank.proofs.unpack.linkage_by.Goals as goal

-- it is the linkage that the part is packed of
pub of_known-requires : goal.of_known-requires
of_known-requires c =
    let r = c.requires.packed in
    let e = unpacked c.args.problem.now r.0 (value_of c.args.part.now) c.in_ok-choices.choices.items c.in_ok-links.links.items c.args.codes.now c.in_ok-choices.ensures c.requires.codes (c.in_ok-links.ensures ∙ c.requires.links) r.1 in
    let made : ◌≡◌ {A = Linkage} (record { chosen = c.of.result; links = c.of-2.result }) r.0 = (λ k. record { chosen = c.of.ensures k; links = c.of-2.ensures k }) ∙ e in
    subst (λ t. IsLinkage t) (sym made) r.2

pub returns : goal.returns
returns c = λ g p long.
    let e = unpacked c.args.problem.now g (value_of c.args.part.now) c.in_ok-choices.choices.items c.in_ok-links.links.items c.args.codes.now c.in_ok-choices.ensures c.requires.codes (c.in_ok-links.ensures ∙ c.requires.links) p in
    c.of_known.ensures ∙ (λ k. record { chosen = c.of.ensures k; links = c.of-2.ensures k }) ∙ e
