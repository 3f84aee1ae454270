use Rattle.std.proofs.Common.{◌≡◌, ◌<◌, suc, length, get_or, ◌∙◌, sym, subst, arith}
use Rattle.std.proofs.lemmas.Grind.{get_or_default_zero}
use Rattle.std.proofs.lemmas.List.{length-map}
use Rattle.lg_region.specs.Chains.{class_of_caps, IsNextOf}
use Rattle.lg_region.specs.Matching.{classes_of_kinds}
use Rattle.lg_region.proofs.Chaining.{next_itself}
use Rattle.lg_region.proofs.Tabled.{filled_first, filled_more, filled_row}
use Rattle.lg_region.proofs.matching.fill_row.Goals as goal

pub loop-far-init : goal.loop-far-init
loop-far-init c =
    let kinds = c.args.kinds.now in
    let classes = classes_of_kinds kinds in
    record {
      filled = filled_first kinds c.args.near c.args.first c.args.bits.now.items c.requires.filled c.requires.first;
      next = next_itself classes (get_or classes c.args.near 0) 0 c.args.first c.requires.first;
    }

pub loop-far-preserved : goal.loop-far-preserved
loop-far-preserved c =
    let kinds = c.args.kinds.now in
    let classes = classes_of_kinds kinds in
    let far = c.loop-far.far in
    let k = get_or classes c.args.near 0 in
    let nexts = c.args.chain.now.nexts.items in
    let count = length-map kinds (λ c. class_of_caps c.caps) in
    let level = c.requires.chain.level in
    let test = c.loop-far-test.true in
    let l : far < length classes = omega arith in
    let read : c.index.result.now ≡ get_or nexts far 0 = c.index.ensures ∙ get_or_default_zero nexts far c.index.result.now (omega arith) in
    let is : IsNextOf classes k (suc far) c.index.result.now =
    subst (λ z. IsNextOf classes k (suc far) z) (sym read) (subst (λ z. IsNextOf classes z (suc far) (get_or nexts far 0)) (c.loop-far.invariant.next.same l) (c.requires.chain.next far (omega arith) l)) in
    record {
      filled = filled_more kinds c.args.near far c.index.result.now c.loop-far.bits.items c.try_pair.new.bits.items c.requires.few c.loop-far.invariant.filled c.try_pair.ensures is;
      next = next_itself classes k (suc far) c.index.result.now is;
    }

pub returns : goal.returns
returns c = filled_row c.args.kinds.now c.args.near c.loop-far.far c.loop-far.bits.items (let t = c.loop-far-test.false in omega arith) c.loop-far.invariant.filled
