-- What a closed memo leaves, from the last state of its table.
use Rattle.std.proofs.Common.{◌≡◌, ℕ, ◌<◌, true, List, length, ap, ◌∙◌, subst}
use Rattle.std.specs.Prelude.{IsSomeAnd, is_some}
use Rattle.std.specs.List.{All}
use mathlib.Core.Option.{some}
use lib.ListN.{get_elem?}
use Rattle.lg_memo.specs.declared.view.Count.{Count}
use Rattle.lg_memo.specs.Views.{NoFewer}
use Rattle.lg_memo.proofs.Keeping.{Maybe}
use Rattle.lg_memo.proofs.AtHome.{element_is, some_is}

pub all_some : {X : Type 0} (Q : ℕ → ℕ → X → Type 0) (known : List Count) (count : ℕ) (contents : List (Maybe X)) → length contents ≡ count
    → ((k : ℕ) → k < count → (content : Maybe X) × (n : ℕ) × (get_elem? contents k ≡ some content) × IsSomeAnd content (λ (s : X). Q k n s) × NoFewer known k n) → All (λ (c : Maybe X). is_some c ≡ true) contents
all_some {X} Q known count contents size all k d less =
    let t = all k (subst (λ (n : ℕ). k < n) size less) in
    ap is_some (element_is contents k t.0 d t.2) ∙ some_is (λ (s : X). Q k t.1 s) t.0 t.3
