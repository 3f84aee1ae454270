-- What a folder with one file has for its name.
use Rattle.std.proofs.Common.{◌≡◌, ℕ, cond, List, Option, Some, refl, sym, ap, subst, ◌∙◌, Equal}
use Rattle.std.specs.Prelude.{IsSomeAnd}
use Rattle.std.specs.Cmp.{tied_itself}
use Rattle.std.specs.Cmp.Lexicographic.{slice_cmp, nat_list_cmp_total}
use Rattle.std.specs.FinMap.{get, insert, empty, get-insert}
use Rattle.std.specs.Ordering.{nat_cmp, is_eq}

pub held : (name bytes asked : List ℕ) → asked ≡ name → IsSomeAnd (get (insert (empty {R = slice_cmp nat_cmp}) name bytes) asked) (λ (found : List ℕ). Some bytes ≡ Some found)
held name bytes asked same =
    let tied = subst (λ (z : List ℕ). slice_cmp nat_cmp asked z ≡ Equal) same (tied_itself nat_list_cmp_total asked) in
    subst (λ (o : Option (List ℕ)). IsSomeAnd o (λ (found : List ℕ). Some bytes ≡ Some found))
    (sym (get-insert nat_list_cmp_total empty name bytes asked ∙ ap (λ b. cond b (Some bytes) (get (empty {R = slice_cmp nat_cmp}) asked)) (ap is_eq tied))) refl
