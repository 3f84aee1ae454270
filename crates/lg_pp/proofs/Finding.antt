-- What is noted of kinds and of links, and what comes to be noted.
use Rattle.std.proofs.Common.{◌≡◌, ◌≢◌, ℕ, Bool, true, false, List, length, length-set, get_or, set, Option, Some, None, inl, inr, subst, sym, ap, ◌∙◌, not, arith}
use Rattle.std.specs.Prelude.{IsTrue, is_some}
use Rattle.std.proofs.lemmas.Bool.{cases_eq}
use Rattle.std.proofs.lemmas.List.{get_or-set_same, get_or-set_other}
use Rattle.std.proofs.lemmas.Option.{slice_get_within}
use Rattle.lg_gram.specs.Linkages.{Linkage}
use Rattle.lg_knowread.specs.declared.knowledge.Knowledge.{Knowledge}
use Rattle.lg_pp.specs.Judging.{AreBoundsKept, FailsBound, IsFirst}
use Rattle.lg_pp.proofs.Picking.{set_within}

-- a flag that is set stands where it was set, or was there before
flag_after : (flags : List Bool) (n k : ℕ) (flag : Bool) → IsTrue (get_or (set flags n flag) k false) → (k ≢ n → IsTrue (get_or flags k false)) × (k ≡ n → IsTrue flag)
flag_after flags n k flag is = (
  λ apart. rw (get_or-set_other flags n k flag false apart) at is,
  λ same. let within = set_within (set flags n flag) k is in let e = get_or-set_same flags n flag false (let h = length-set flags n flag in omega arith) in rw (same, e) at is,
)

pub bounds_more : (know : Knowledge) (g : Linkage) (kept : List Bool) (kind : ℕ) (flag : Bool) → AreBoundsKept know g kept → (IsTrue flag → (n : ℕ) → FailsBound know g kind n → ⊥) → AreBoundsKept know g (set kept kind flag)
bounds_more know g kept kind flag so here k is =
    let after = flag_after kept kind k flag is in
    elim (cases_eq k kind) [
      | inl same ↦ subst (λ z. (n : ℕ) → FailsBound know g z n → ⊥) (sym same) (here (after.1 same))
      | inr apart ↦ so k (after.0 apart)
    ]

pub none_fails : (know : Knowledge) (g : Linkage) (kind : ℕ) (first : Option ℕ) (none : Bool) → IsFirst (FailsBound know g kind) (length g.links) first → is_some first ≡ not none → IsTrue none → (n : ℕ) → FailsBound know g kind n → ⊥
none_fails know g kind None none is e set n fails = is n (slice_get_within g.links n fails.0 fails.1) fails
none_fails know g kind (Some k) none is e set n fails = absurd (let no : true ≡ false = e ∙ ap not set in cc)
