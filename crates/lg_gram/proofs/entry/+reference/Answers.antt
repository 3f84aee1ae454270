use Rattle.std.proofs.Common.{◌≡◌, ℕ, ◌+◌, List, Some, length, map, drop, ap, sym, ◌∙◌, arith, length-append}
use Rattle.std.specs.List.{slice_get}
use Rattle.lg_gram.specs.RawTrees.{raw_tree_of, raw_trees_in, macros_of, macros_in}
use Rattle.lg_gram.proofs.Filled.{member_first, reference_earlier, reference_later}
use Rattle.lg_gram.proofs.entry.+reference.Goals as goal

-- a reference of the member comes before those of the others
pub reference_among-returns-in_err-left : goal.reference_among-returns-in_err-left
reference_among-returns-in_err-left t c =
    let name : List ℕ × ℕ → List ℕ = λ m. m.0 in
    let here : slice_get (map name (macros_of (raw_tree_of c.member-item.result))) c.loop-member.left ≡ Some c.in_err-left.field-0.0.now = c.in_err-left.ensures in
    let first = member_first c.items-member-items.result.now c.loop-member.member-index c.member-item.result (omega arith) c.member-item.is in
    let rest = macros_in (raw_trees_in (drop (c.loop-member.member-index + 1) c.items-member-items.result.now)) in
    rw c.from_residual.ensures
    (sym c.loop-member.invariant.told ∙ ap (λ ms. slice_get (map name ms) c.loop-member.left) first
    ∙ reference_earlier name (macros_of (raw_tree_of c.member-item.result)) rest c.loop-member.left c.in_err-left.field-0.0.now here)

-- past the references of the member
pub reference_among-loop-member-preserved : goal.reference_among-loop-member-preserved
reference_among-loop-member-preserved t c =
    let name : List ℕ × ℕ → List ℕ = λ m. m.0 in
    let own = macros_of (raw_tree_of c.member-item.result) in
    let rest = macros_in (raw_trees_in (drop (c.loop-member.member-index + 1) c.items-member-items.result.now)) in
    let passed : c.in_ok-left.left + length own ≡ c.loop-member.left = c.in_ok-left.ensures in
    let first = member_first c.items-member-items.result.now c.loop-member.member-index c.member-item.result (omega arith) c.member-item.is in
    record {
      passed = omega (arith, ap length first, length-append own rest, passed);
      told = sym (reference_later name own rest c.in_ok-left.left c.loop-member.left passed) ∙ ap (λ ms. slice_get (map name ms) c.loop-member.left) (sym first) ∙ c.loop-member.invariant.told;
    }
