use Rattle.std.proofs.Common.{length, ap, ◌∙◌, subst, arith}
use Rattle.std.proofs.lemmas.List.{length-map}
use Rattle.lg_region.specs.Chains.{class_of, list_on, IsChain}
use Rattle.lg_region.specs.Numbered.{AreRuns, HasSides}
use Rattle.lg_region.proofs.Chaining.{word_found}
use Rattle.lg_region.proofs.Elements.{zip_length}
use Rattle.lg_region.proofs.chains.word_by_class.Goals as goal

pub runs_of-requires : goal.runs_of-requires
runs_of-requires c =
    let ds = c.args.disjuncts.now in
    let a = zip_length (HasSides c.requires.sides.0) ds c.args.row.now c.requires.sides.3 in
    let b = length-map ds (λ d. class_of (list_on c.args.side d)) in
    let e = ap (λ z. length z) (c.deref.ensures.value ∙ c.in_ok-classes.ensures) in
    let l = c.in_ok-chain.ensures.level in
    let d = ap (λ z. length z) c.deref-2.ensures.value in
    omega arith

pub returns : goal.returns
returns c =
    let classes = c.deref.ensures.value ∙ c.in_ok-classes.ensures in
    let chain = subst (λ z. IsChain z c.in_ok-chain.chain) classes c.in_ok-chain.ensures in
    let runs = subst (λ z. AreRuns z c.args.row.now 0 c.in_ok-runs.runs.items) c.deref-2.ensures.value c.in_ok-runs.ensures in
    word_found c.args.side c.args.disjuncts.now c.requires.sides.0 c.args.row.now _ chain c.requires.sides.3 runs
