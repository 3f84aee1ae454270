-- The order of lists tells apart choices whose connectors are in the list of their direction.
use Rattle.std.proofs.Common.{◌≡◌, Bool, true, false, List, [], ◌∷◌, refl, sym, ◌∙◌, Less, Equal, Greater}
use Rattle.std.specs.Cmp.Lexicographic.{slice_cmp}
use Rattle.std.specs.List.{All}
use Rattle.std.specs.Ordering.{ordering_then}
use Rattle.std.specs.declared.cmp.Ordering.{Ordering}
use Rattle.std.proofs.lemmas.List.Elements.{All-head, All-tail}
use Rattle.lg_gram.specs.Connectors.{Connector, connector_cmp, ConnectorsToldApart}
use Rattle.lg_gram.specs.Measures.{Choice}
use Rattle.lg_disj.specs.Choices.{lists_cmp, IsOn, IsSided}

-- of two orders, one after the other, each says that they are alike
pub both_equal : (o p : Ordering) → ordering_then o p ≡ Equal → (o ≡ Equal) × (p ≡ Equal)
both_equal Less p h = cc
both_equal Equal p h = (refl, h)
both_equal Greater p h = cc

same_list : ConnectorsToldApart → (right : Bool) (xs ys : List Connector) → All (IsOn right) xs → All (IsOn right) ys → slice_cmp connector_cmp xs ys ≡ Equal → xs ≡ ys
same_list apart right [] [] p q h = refl
same_list apart right [] (y ∷ ys) p q h = absurd (let less : Less ≡ Equal = h in cc)
same_list apart right (x ∷ xs) [] p q h = absurd (let greater : Greater ≡ Equal = h in cc)
same_list apart right (x ∷ xs) (y ∷ ys) p q h =
    let one = All-head (IsOn right) x xs p in
    let other = All-head (IsOn right) y ys q in
    let alike = both_equal (connector_cmp x y) (slice_cmp connector_cmp xs ys) h in
    let first = apart x y one.named other.named (one.side ∙ sym other.side) alike.0 in
    let others = same_list apart right xs ys (All-tail (IsOn right) x xs p) (All-tail (IsOn right) y ys q) alike.1 in
    λ i. first i ∷ others i

pub told_apart : ConnectorsToldApart → (a b : Choice) → IsSided a → IsSided b → lists_cmp a b ≡ Equal → (a.left ≡ b.left) × (a.right ≡ b.right)
told_apart apart a b p q h =
    let alike = both_equal (slice_cmp connector_cmp a.left b.left) (slice_cmp connector_cmp a.right b.right) h in
    (same_list apart false a.left b.left p.left q.left alike.0, same_list apart true a.right b.right p.right q.right alike.1)
