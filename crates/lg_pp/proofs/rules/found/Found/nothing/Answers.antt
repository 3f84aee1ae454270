use Rattle.std.proofs.Common.{◌≡◌, ℕ, false, length, get_or, replicate, inl, inr, ap, arith}
use Rattle.std.specs.Prelude.{IsTrue}
use Rattle.std.proofs.lemmas.Bool.{cases_lt}
use Rattle.std.proofs.lemmas.List.{get_or-replicate, length-replicate}
use Rattle.lg_pp.proofs.Picking.{set_within}
use Rattle.lg_pp.proofs.rules.found.Found.nothing.Goals as goal

not_set : (n k : ℕ) → IsTrue (get_or (replicate n false) k false) → ⊥
not_set n k is = elim (cases_lt k n) [
  | inl less ↦ absurd (let e = get_or-replicate n k false false less in cc)
  | inr past ↦ let w = set_within (replicate n false) k is in let e = length-replicate n false in absurd (omega arith)
]

pub returns : goal.returns
returns c =
    let all : c.in_ok-vec.field-0.items ≡ replicate (length c.links.result.now) false = c.in_ok-vec.ensures.items_if_clones_equal (λ y same. same) in
    record {
      bounded = λ kind. not_set 256 kind;
      enough = rw (all, length-replicate) (ap length c.links.ensures.value);
      cycled = λ n is. not_set (length c.links.result.now) n (rw all at is);
    }
