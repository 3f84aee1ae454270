-- The heights of links.
use Rattle.std.proofs.Common.{◌≡◌, ℕ, zero, suc, ◌+◌, ◌<◌, ◌≤◌, List, [], ◌∷◌, Bool, true, false, cond, length, get_or, set, map, refl, sym, ap, subst, ◌∙◌, inl, inr, arith}
use Rattle.std.proofs.lemmas.Bool.{cases_eq}
use Rattle.std.proofs.lemmas.Bool.Decides.{nat_tests}
use Rattle.std.proofs.lemmas.List.{same_lists, length-map, length-set, get_or-map, get_or-set_same, get_or-set_other, get_or_default}
use Rattle.std.proofs.lemmas.List.Elements.{All-nil, All-cons, All-head, All-tail}
use Rattle.std.specs.List.{All, filter}
use Rattle.lg_gram.specs.Linkages.{IsForward, link_length}
use Rattle.lg_gram.specs.declared.linkage.Link.{Link}
use Rattle.lg_text.specs.Diagrams.{greatest, is_inside, height_to, height}
use Rattle.lg_text.specs.Painted.{no_link, AreKnown}
use Rattle.lg_text.proofs.Greatest.{greatest_same, greatest_within}

pub inside_is_shorter : (l m : Link) → is_inside l m ≡ true → link_length m < link_length l
inside_is_shorter l m is = grind (arith, nat_tests)

-- what passes a test, of elements of one kind
pub filtered : {X : Type 0} (P Q : X → Type 0) (p : X → Bool) → ((x : X) → Q x → p x ≡ true → P x) → (xs : List X) → All Q xs → All P (filter p xs)
filtered P Q p gives [] h = All-nil P
filtered P Q p gives (x ∷ xs) h = one (p x) refl (filtered P Q p gives xs (All-tail Q x xs h))
  where
    one : (b : Bool) → p x ≡ b → All P (filter p xs) → All P (cond b (x ∷ filter p xs) (filter p xs))
    one true is rest = All-cons P x (filter p xs) (gives x (All-head Q x xs h) is) rest
    one false is rest = rest

pub height_within : (links : List Link) (n : ℕ) (l : Link) → height_to links n l ≤ n + 1
height_within links zero l = omega arith
height_within links (suc n) l =
    let most = greatest_within (height_to links n) (n + 1) 0 (filter (is_inside l) links) (omega arith) (λ i d lt. height_within links n (get_or (filter (is_inside l) links) i d)) in
    omega arith

module _ (links : List Link) (forward : All IsForward links) where
  stays : (n k : ℕ) (l : Link) → IsForward l → link_length l ≤ n → link_length l ≤ k → height_to links n l ≡ height_to links k l
  stays zero k l on low high = absurd (omega arith)
  stays (suc n) zero l on low high = absurd (omega arith)
  stays (suc n) (suc k) l on low high = ap (λ h. h + 1) (greatest_same (height_to links n) (height_to links k) 0 (filter (is_inside l) links)
      (filtered (λ m. height_to links n m ≡ height_to links k m) IsForward (is_inside l) (λ m ahead is. let shorter = inside_is_shorter l m is in stays n k m ahead (omega arith) (omega arith)) links forward))

  -- the height of a link by those of the links inside it
  pub height_is : (l : Link) → IsForward l → height links l ≡ greatest (height links) 0 (filter (is_inside l) links) + 1
  height_is l on = at (link_length l) refl
    where
      at : (n : ℕ) → link_length l ≡ n → height_to links n l ≡ greatest (height links) 0 (filter (is_inside l) links) + 1
      at zero is = absurd (omega arith)
      at (suc n) is = ap (λ h. h + 1) (greatest_same (height_to links n) (height links) 0 (filter (is_inside l) links)
          (filtered (λ m. height_to links n m ≡ height links m) IsForward (is_inside l) (λ m ahead inside. let shorter = inside_is_shorter l m inside in stays n (link_length m) m ahead (omega arith) (omega arith)) links forward))

-- ---- the table of heights

-- the heights of the shorter links, and of the first ones of this length
pub record AreRaised (links : List Link) (n i : ℕ) (heights : List ℕ) : Type 0 where
  pub known : AreKnown links n heights
  pub new : (j : ℕ) → j < i → link_length (get_or links j no_link) ≡ n → get_or heights j 0 ≡ height links (get_or links j no_link)

module _ (links : List Link) (n i : ℕ) (heights : List ℕ) (lt : i < length links) (so_far : AreRaised links n i heights) where
  abbrev here : Link
  here = get_or links i no_link

  -- a link of another length
  pub raised_other : (link_length here ≡ n → ⊥) → AreRaised links n (i + 1) heights
  raised_other other = record {
    known = so_far.known;
    new = λ j below is. elim (cases_eq j i) [
      | inl same ↦ absurd (other (subst (λ k. link_length (get_or links k no_link) ≡ n) same is))
      | inr apart ↦ so_far.new j (omega arith) is
    ];
  }

  -- a link of this length, whose height is set
  pub raised_one : (h : ℕ) → link_length here ≡ n → h ≡ height links here → AreRaised links n (i + 1) (set heights i h)
  raised_one h is_long is_height =
      let same_length = so_far.known.same in
      record {
        known = record {
          same = length-set heights i h ∙ so_far.known.same;
          at = λ j below shorter. get_or-set_other heights i j h 0 (λ same. let long = subst (λ k. link_length (get_or links k no_link) < n) same shorter in omega arith) ∙ so_far.known.at j below shorter;
        };
        new = λ j below is. elim (cases_eq j i) [
          | inl same ↦ subst (λ k. get_or (set heights i h) k 0 ≡ height links (get_or links k no_link)) (sym same) (get_or-set_same heights i h 0 (omega arith) ∙ is_height)
          | inr apart ↦ get_or-set_other heights i j h 0 apart ∙ so_far.new j (omega arith) is
        ];
      }

-- all heights are known
pub all_known : (links : List Link) (n : ℕ) (heights : List ℕ) → All (λ l. link_length l < n) links → AreKnown links n heights → heights ≡ map (height links) links
all_known links n heights short known =
    let long = length-map links (height links) in
    let same = known.same in
    same_lists heights (map (height links) links) (omega arith)
    (λ i d below. get_or_default heights i d 0 below ∙ known.at i (omega arith) (short i no_link (omega arith)) ∙ sym (get_or-map (height links) links i no_link d (omega arith)))
