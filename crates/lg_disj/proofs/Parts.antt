-- What holds of each element of a list holds of its parts.
use Rattle.std.proofs.Common.{List, [], ◌∷◌, ◌++◌, map}
use Rattle.std.specs.List.{All}
use Rattle.std.proofs.lemmas.List.Elements.{All-nil, All-cons, All-head, All-tail}

pub in_front : {X : Type 0} (P : X → Type 0) (xs ys : List X) → All P (xs ++ ys) → All P xs
in_front P [] ys h = All-nil P
in_front P (x ∷ xs) ys h = All-cons P x xs (All-head P x (xs ++ ys) h) (in_front P xs ys (All-tail P x (xs ++ ys) h))

pub at_back : {X : Type 0} (P : X → Type 0) (xs ys : List X) → All P (xs ++ ys) → All P ys
at_back P [] ys h = h
at_back P (x ∷ xs) ys h = at_back P xs ys (All-tail P x (xs ++ ys) h)

-- what holds of what is made of each element
pub from_map : {X Y : Type 0} (P : Y → Type 0) (f : X → Y) (xs : List X) → All P (map f xs) → All (λ x. P (f x)) xs
from_map P f [] h = All-nil (λ x. P (f x))
from_map P f (x ∷ xs) h = All-cons (λ x. P (f x)) x xs (All-head P (f x) (map f xs) h) (from_map P f xs (All-tail P (f x) (map f xs) h))
