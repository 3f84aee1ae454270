-- A word that is linked to the next two, and a fourth that is unlinked: a good linkage, which the tests print.
use Rattle.std.proofs.Common.{◌≡◌, ℕ, ◌<◌, ℤ, List, Option, [], ◌∷◌, length, Some, None, refl, sym, ◌∙◌, subst, arith, zero, suc, lit<, slice_get, slice_index_or}
use Rattle.std.specs.List.{All, Contains}
use Rattle.lg_gram.specs.Connectors.{Connector, Match}
use Rattle.lg_gram.specs.Linkages.{Linkage, IsLinkage}
use Rattle.lg_gram.specs.Walks.{Walk, LinkFrom, stay, forth, back}
use Rattle.lg_gram.specs.Rules.{Good, Rules, Serves, HasLink, IsLinked, chosen_at, rights_of, lefts_of}
use Rattle.lg_gram.specs.declared.disjunct.Disjunct.{Disjunct}
use Rattle.lg_gram.specs.declared.linkage.Link.{Link}
use Rattle.lg_gram.specs.declared.listing.Token.{Token}
use Rattle.lg_gram.specs.declared.listing.PageItem.{PageItem}
use Rattle.lg_text.specs.Texts.{IsPrintable}

abbrev near : Link
near = record { left = 0; lplace = 0; right = 1; rplace = 0 }

abbrev far : Link
far = record { left = 0; lplace = 1; right = 2; rplace = 0 }

abbrev Has : Link → Type 0
Has l = Contains (near ∷ far ∷ []) l

each : (P : Link → Type 0) → P near → P far → (l : Link) → Has l → P l
each P n f l (zero, _, is) = subst P is n
each P n f l (suc zero, _, is) = subst P is f
each P n f l (suc (suc k), below, _) = absurd (omega arith)

both : (P : Link → Link → Type 0) → P near near → P near far → P far near → P far far → (k l : Link) → Has k → Has l → P k l
both P nn nf fn ff k l has_k has_l = each (λ k. P k l) (each (P near) nn nf l has_l) (each (P far) fn ff l has_l) k has_k

has_near : Has near
has_near = (0, lit< tt, refl)

has_far : Has far
has_far = (1, lit< tt, refl)

-- links of one value are one, where the two links have two values
same : (f : Link → ℕ) → (f near ≡ f far → ⊥) → (k l : Link) → Has k → Has l → (n : ℕ) → f k ≡ n → f l ≡ n → k ≡ l
same f differ = both (λ k l. (n : ℕ) → f k ≡ n → f l ≡ n → k ≡ l)
    (λ n a b. refl) (λ n a b. absurd (differ (a ∙ sym b))) (λ n a b. absurd (differ (b ∙ sym a))) (λ n a b. refl)

module _ (x y z : List ℕ) (a b c : ℤ) (p q r s : Connector) where
  abbrev first : Disjunct
  first = record { word = x; left = []; right = p ∷ q ∷ []; cost = a }

  abbrev second : Disjunct
  second = record { word = y; left = r ∷ []; right = []; cost = b }

  abbrev third : Disjunct
  third = record { word = z; left = s ∷ []; right = []; cost = c }

  abbrev pub fork : Linkage
  fork = record { chosen = Some first ∷ Some second ∷ Some third ∷ None ∷ []; links = near ∷ far ∷ [] }

  abbrev words : List (List Disjunct)
  words = (first ∷ []) ∷ (second ∷ []) ∷ (third ∷ []) ∷ [] ∷ []

  listed : (i : ℕ) (d : Disjunct) → chosen_at fork i ≡ Some d → Contains (slice_index_or words i []) d
  listed zero d is = (0, lit< tt, cc)
  listed (suc zero) d is = (0, lit< tt, cc)
  listed (suc (suc zero)) d is = (0, lit< tt, cc)
  listed (suc (suc (suc zero))) d is = cc
  listed (suc (suc (suc (suc i)))) d is = cc

  right_served : (i k : ℕ) (d : Connector) → slice_get (rights_of fork i) k ≡ Some d → Serves Has (λ l. l.left) (λ l. l.lplace) i k d
  right_served zero zero d is = record { some = (near, has_near, refl, refl); one = λ _ k l has_k has_l _ at_k _ at_l. same (λ l. l.lplace) (λ e. omega arith) k l has_k has_l 0 at_k at_l }
  right_served zero (suc zero) d is = record { some = (far, has_far, refl, refl); one = λ _ k l has_k has_l _ at_k _ at_l. same (λ l. l.lplace) (λ e. omega arith) k l has_k has_l 1 at_k at_l }
  right_served zero (suc (suc k)) d is = cc
  right_served (suc zero) k d is = cc
  right_served (suc (suc zero)) k d is = cc
  right_served (suc (suc (suc zero))) k d is = cc
  right_served (suc (suc (suc (suc i)))) k d is = cc

  left_served : (j k : ℕ) (d : Connector) → slice_get (lefts_of fork j) k ≡ Some d → Serves Has (λ l. l.right) (λ l. l.rplace) j k d
  left_served zero k d is = cc
  left_served (suc zero) zero d is = record { some = (near, has_near, refl, refl); one = λ _ k l has_k has_l at_k _ at_l _. same (λ l. l.right) (λ e. omega arith) k l has_k has_l 1 at_k at_l }
  left_served (suc zero) (suc k) d is = cc
  left_served (suc (suc zero)) zero d is = record { some = (far, has_far, refl, refl); one = λ _ k l has_k has_l at_k _ at_l _. same (λ l. l.right) (λ e. omega arith) k l has_k has_l 2 at_k at_l }
  left_served (suc (suc zero)) (suc k) d is = cc
  left_served (suc (suc (suc zero))) k d is = cc
  left_served (suc (suc (suc (suc j)))) k d is = cc

  rules : Match p r → Match q s → Rules (rights_of fork) (lefts_of fork) (HasLink fork)
  rules near_match far_match = record {
    matched = record { forward = each (λ l. l.left < l.right) (lit< tt) (lit< tt); joins = each _ (p, r, refl, refl, near_match) (q, s, refl, refl, far_match) };
    satisfied = record { on_right = right_served; on_left = left_served };
    planar = both (λ k l. k.left < l.left → l.left < k.right → k.right < l.right → ⊥) (λ e f g. omega arith) (λ e f g. omega arith) (λ e f g. omega arith) (λ e f g. omega arith);
    ordered = record {
      on_right = both (λ k l. k.left ≡ l.left → k.lplace < l.lplace → k.right < l.right) (λ e f. omega arith) (λ e f. omega arith) (λ e f. omega arith) (λ e f. omega arith);
      on_left = both (λ k l. k.right ≡ l.right → k.rplace < l.rplace → l.left < k.left) (λ e f. omega arith) (λ e f. omega arith) (λ e f. omega arith) (λ e f. omega arith);
    };
    exclusive = λ k l has_k has_l _ at. same (λ l. l.right) (λ e. omega arith) k l has_k has_l l.right at refl;
  }

  abbrev Joined : ℕ → ℕ → Type 0
  Joined = Walk (LinkFrom (HasLink fork))

  from_first : (j : ℕ) → IsLinked fork j → Joined 0 j
  from_first zero linked = stay 0
  from_first (suc zero) linked = forth 0 1 1 (near, has_near, refl, refl) (stay 1)
  from_first (suc (suc zero)) linked = forth 0 2 2 (far, has_far, refl, refl) (stay 2)
  from_first (suc (suc (suc zero))) linked = cc
  from_first (suc (suc (suc (suc j)))) linked = cc

  onward : (i j : ℕ) → IsLinked fork i → Joined 0 j → Joined i j
  onward zero j linked walk = walk
  onward (suc zero) j linked walk = back 1 0 j (near, has_near, refl, refl) walk
  onward (suc (suc zero)) j linked walk = back 2 0 j (far, has_far, refl, refl) walk
  onward (suc (suc (suc zero))) j linked walk = cc
  onward (suc (suc (suc (suc i)))) j linked walk = cc

  pub fork_is_good : Match p r → Match q s → IsLinkage fork → Good words fork
  fork_is_good near_match far_match limits = record {
    belongs = record { same_length = refl; listed = listed; set = limits.rise };
    rules = rules near_match far_match;
    connected = λ i j linked_i linked_j. onward i j linked_i (from_first j linked_j);
  }

  -- so what is made of its parts can be printed for four tokens
  pub fork_is_printable : (one two three : Option Disjunct) (chosen : List (Option Disjunct)) (links : List Link) (g : Linkage) → one ≡ Some first → two ≡ Some second → three ≡ Some third → chosen ≡ one ∷ two ∷ three ∷ None ∷ [] → links ≡ near ∷ far ∷ [] → g ≡ record { chosen = chosen; links = links } → IsLinkage g → Match p r → Match q s → (tokens : List Token) → length tokens ≡ 4 → IsPrintable tokens g
  fork_is_printable one two three chosen links g is_one is_two is_three is_chosen is_links is_made limits near_match far_match tokens four =
      let is : g ≡ fork = cc in
      subst (λ g. IsPrintable tokens g) (sym is)
      (record { same_length = four; positions = words; good = fork_is_good near_match far_match (subst IsLinkage is limits) })

-- each of three candidates can be printed
pub three_are_printable : (tokens : List Token) (one two three : PageItem) (items : List PageItem) → items ≡ one ∷ two ∷ three ∷ [] → IsPrintable tokens one.linkage → IsPrintable tokens two.linkage → IsPrintable tokens three.linkage → All (λ item. IsPrintable tokens item.linkage) items
three_are_printable tokens one two three items is first second third = subst (All (λ item. IsPrintable tokens item.linkage)) (sym is) each_is
  where
    each_is : All (λ item. IsPrintable tokens item.linkage) (one ∷ two ∷ three ∷ [])
    each_is zero d below = first
    each_is (suc zero) d below = second
    each_is (suc (suc zero)) d below = third
    each_is (suc (suc (suc k))) d below = absurd (omega arith)
