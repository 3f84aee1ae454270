-- A position whose disjunct has a connector is linked, and one of the words.
use Rattle.std.proofs.Common.{◌≡◌, ℕ, zero, suc, ◌<◌, List, [], ◌∷◌, length, get_or, refl, sym, ap, ◌∙◌, Option, Some, None, arith}
use Rattle.std.specs.List.{slice_get}
use Rattle.lg_gram.specs.Connectors.{Connector}
use Rattle.lg_gram.specs.declared.disjunct.Disjunct.{Disjunct}

pub linked_at : (side : Option Disjunct → List Connector) → side None ≡ [] → (os : List (Option Disjunct)) (j q : ℕ) (c : Connector) → slice_get (side (get_or os j None)) q ≡ Some c
    → (d : Disjunct) × (get_or os j None ≡ Some d) × (j < length os)
linked_at side z [] j q c e = let f : ◌≡◌ {A = Option Connector} None (Some c) = sym (ap (λ v. slice_get v q) z) ∙ e in absurd cc
linked_at side z (None ∷ os) zero q c e = let f : ◌≡◌ {A = Option Connector} None (Some c) = sym (ap (λ v. slice_get v q) z) ∙ e in absurd cc
linked_at side z (Some d ∷ os) zero q c e = (d, refl, omega arith)
linked_at side z (o ∷ os) (suc j) q c e = let r = linked_at side z os j q c e in let l = r.2 in (r.0, r.1, omega arith)
