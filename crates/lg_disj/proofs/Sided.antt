-- Choices whose connectors are each in the list of their direction.
use Rattle.std.proofs.Common.{true, false, List, [], ◌∷◌, map}
use Rattle.std.specs.List.{All}
use Rattle.std.proofs.lemmas.List.Elements.{All-nil, All-append, All-map, All-head, All-tail, All-weaker}
use Rattle.lg_gram.specs.Measures.{Choice, joined, dearer}
use Rattle.lg_disj.specs.Choices.{IsOn, IsSided, products}

joined_sided : (a b : Choice) → IsSided a → IsSided b → IsSided (joined a b)
joined_sided a b p q = record {
  left = All-append (IsOn false) a.left b.left p.left q.left;
  right = All-append (IsOn true) a.right b.right p.right q.right;
}

pub products_sided : (xs ys : List Choice) → All IsSided xs → All IsSided ys → All IsSided (products xs ys)
products_sided [] ys p q = All-nil IsSided
products_sided (a ∷ xs) ys p q =
    All-append IsSided (map (joined a) ys) (products xs ys)
    (All-map IsSided (joined a) ys (All-weaker IsSided (λ b. IsSided (joined a b)) (λ b h. joined_sided a b (All-head IsSided a xs p) h) ys q))
    (products_sided xs ys (All-tail IsSided a xs p) q)

pub dearer_sided : (price : _) (cs : List Choice) → All IsSided cs → All IsSided (map (dearer price) cs)
dearer_sided price cs p = All-map IsSided (dearer price) cs (All-weaker IsSided (λ c. IsSided (dearer price c)) (λ c h. record { left = h.left; right = h.right }) cs p)
