-- The sound linkages with the links that are taken and some of those that are left.
use Rattle.std.proofs.Common.{◌≡◌, ℕ, zero, suc, ◌<◌, ◌≤◌, ◌+◌, ◌-◌, ◌↔◌, Bool, true, false, List, [], ◌∷◌, ◌++◌, length, get_or, take, drop, refl, sym, ◌∙◌, subst, inl, inr, ◌⊎◌, append_assoc, append-nil, Option, Some, arith, slice_get, length-append, length-drop}
use Rattle.std.specs.List.{All, Contains}
use Rattle.std.proofs.lemmas.List.Elements.{All-contains, Contains-append_left, Contains-append_right, Contains-append_cases, Contains-get_or}
use Rattle.std.proofs.lemmas.List.{drop_all, drop_more, take_rest}
use Rattle.lg_gram.specs.Linkages.{Linkage}
use Rattle.lg_gram.specs.declared.disjunct.Disjunct.{Disjunct}
use Rattle.lg_gram.specs.declared.linkage.Link.{Link}
use Rattle.lg_rules.specs.Places.{linkage_of}
use Rattle.lg_rules.specs.Verdicts.{IsSound}
use Rattle.lg_rules.specs.Partners.{right_at, left_at, CanLink, AreLinks}
use Rattle.lg_rules.specs.Prunes.{HasRight, HasLeft, IsCovered, AreCompatible}
use Rattle.lg_rules.specs.Steps.{Adds, IsSublist, IsCompletion}
use Rattle.lg_rules.proofs.Adding.{adds_none, adds_then, adds_same}
use Rattle.lg_rules.proofs.Sublists.{sublist_contains, sublist_itself, sublist_links}

pub same_linkage : (g h : Linkage) → g.chosen ≡ h.chosen → g.links ≡ h.links → g ≡ h
same_linkage g h e f = λ i. record { chosen = e i; links = f i }

-- no link is left: the taken links are the one completion
pub completion_ends : (chosen : List (Option Disjunct)) (links : List Link) (g : Linkage) → IsCompletion chosen links [] g → linkage_of chosen links ≡ g
unfolding IsCompletion IsSublist
completion_ends chosen links g h =
    same_linkage (linkage_of chosen links) g (sym h.0) (sym (h.1.2 ∙ (rw (h.1.1, append-nil) refl)))

pub completion_sound : (chosen : List (Option Disjunct)) (links : List Link) (g : Linkage) → IsCompletion chosen links [] g → IsSound (linkage_of chosen links)
unfolding IsCompletion
completion_sound chosen links g h = subst IsSound (sym (completion_ends chosen links g h)) h.2

pub completion_here : (chosen : List (Option Disjunct)) (links : List Link) → IsSound (linkage_of chosen links) → IsCompletion chosen links [] (linkage_of chosen links)
unfolding IsCompletion IsSublist
completion_here chosen links sound = (refl, ([], refl, sym (append-nil links)), sound)

-- a link is left: a completion has it or not
completion_cases : (chosen : List (Option Disjunct)) (taken : List Link) (link : Link) (later : List Link) (g : Linkage) →
    IsCompletion chosen taken (link ∷ later) g ↔ (IsCompletion chosen (taken ++ link ∷ []) later g ⊎ IsCompletion chosen taken later g)
unfolding IsCompletion IsSublist
completion_cases chosen taken link later g = (
  λ h. elim h.1.1 [
    | inl s ↦ inr (h.0, (h.1.0, s, h.1.2), h.2)
    | inr s ↦ inl (h.0, (s.0, s.2, h.1.2 ∙ rw (s.1, append_assoc) refl), h.2)
  ],
  λ h. elim h [
    | inl i ↦ (i.0, (link ∷ i.1.0, inr (i.1.0, refl, i.1.1), i.1.2 ∙ append_assoc taken (link ∷ []) i.1.0), i.2)
    | inr i ↦ (i.0, (i.1.0, inl i.1.1, i.1.2), i.2)
  ],
)

-- two links of a sound linkage can stand in one
sound_compatible : (g : Linkage) → IsSound g → (k l : Link) → Contains g.links k → Contains g.links l → AreCompatible k l
sound_compatible g sound k l i j = record {
  uncrossed = sound.rules.planar k l i j;
  uncrossed_back = sound.rules.planar l k j i;
  in_order = (sound.rules.ordered.on_right k l i j, sound.rules.ordered.on_left k l i j);
  in_order_back = (sound.rules.ordered.on_right l k j i, sound.rules.ordered.on_left l k j i);
  alone = sound.rules.exclusive k l i j;
}

completion_fits : (chosen : List (Option Disjunct)) (taken : List Link) (link : Link) (later : List Link) (g : Linkage) →
    IsCompletion chosen (taken ++ link ∷ []) later g → All (λ t. AreCompatible t link) taken
unfolding IsCompletion
completion_fits chosen taken link later g h k d below =
    let more = h.1.0 in
    let all = (taken ++ link ∷ []) ++ more in
    let has : (z : Link) → Contains (taken ++ link ∷ []) z → Contains g.links z = λ z m. subst (λ links. Contains links z) (sym h.1.2) (Contains-append_left (taken ++ link ∷ []) more z m) in
    sound_compatible g h.2 (get_or taken k d) link
    (has (get_or taken k d) (Contains-append_left taken (link ∷ []) (get_or taken k d) (Contains-get_or taken k d below)))
    (has link (Contains-append_right taken (link ∷ []) link (0, omega arith, refl)))

-- a link of a completion is taken or comes later
completion_has : (chosen : List (Option Disjunct)) (taken later : List Link) (g : Linkage) → IsCompletion chosen taken later g →
    (k : Link) → Contains g.links k → Contains taken k ⊎ Contains later k
unfolding IsCompletion
completion_has chosen taken later g h k m =
    elim (Contains-append_cases taken h.1.0 k (subst (λ links. Contains links k) h.1.2 m)) [
      | inl i ↦ inl i
      | inr i ↦ inr (sublist_contains h.1.0 later h.1.1 k i)
    ]

pub has_right_of : (links : List Link) (i p : ℕ) (k : Link) → Contains links k → k.left ≡ i → k.lplace ≡ p → HasRight links i p
unfolding HasRight
has_right_of links i p k m e f = (m.0, k, m.1, m.2, (e, f))

pub has_left_of : (links : List Link) (i p : ℕ) (k : Link) → Contains links k → k.right ≡ i → k.rplace ≡ p → HasLeft links i p
unfolding HasLeft
has_left_of links i p k m e f = (m.0, k, m.1, m.2, (e, f))

completion_chosen : (chosen : List (Option Disjunct)) (taken later : List Link) (g : Linkage) → IsCompletion chosen taken later g → g.chosen ≡ chosen
unfolding IsCompletion
completion_chosen chosen taken later g h = h.0

completion_is_sound : (chosen : List (Option Disjunct)) (taken later : List Link) (g : Linkage) → IsCompletion chosen taken later g → IsSound g
unfolding IsCompletion
completion_is_sound chosen taken later g h = h.2

-- both places of an allowed link have a link in each completion
completion_covered : (chosen : List (Option Disjunct)) (taken later : List Link) (link : Link) → CanLink chosen link → (g : Linkage) → IsCompletion chosen taken later g → IsCovered taken later link
completion_covered chosen taken later link can g h =
    let e = completion_chosen chosen taken later g h in
    let satisfied = (completion_is_sound chosen taken later g h).rules.satisfied in
    let right = (satisfied.on_right link.left link.lplace can.joins.0 (subst (λ c. slice_get (right_at c link.left) link.lplace ≡ Some can.joins.0) (sym e) can.joins.2)).some in
    let left = (satisfied.on_left link.right link.rplace can.joins.1 (subst (λ c. slice_get (left_at c link.right) link.rplace ≡ Some can.joins.1) (sym e) can.joins.3)).some in
    record {
      on_right = elim (completion_has chosen taken later g h right.0 right.1) [
        | inl i ↦ inl (has_right_of taken link.left link.lplace right.0 i right.2 right.3)
        | inr i ↦ inr (has_right_of later link.left link.lplace right.0 i right.2 right.3)
      ];
      on_left = elim (completion_has chosen taken later g h left.0 left.1) [
        | inl i ↦ inl (has_left_of taken link.right link.rplace left.0 i left.2 left.3)
        | inr i ↦ inr (has_left_of later link.right link.rplace left.0 i left.2 left.3)
      ];
    }

-- where a place of the link is not covered, no completion leaves it out
pub pruned : (chosen : List (Option Disjunct)) (taken later : List Link) (link : Link) → CanLink chosen link →
    (same : List Link) (r : Bool) → same ≡ taken → (IsCovered same later link → r ≡ true) → r ≡ false → (a : List Linkage) → Adds (IsCompletion chosen taken later) a a
pruned chosen taken later link can same r e told off a =
    adds_none (IsCompletion chosen taken later) a
    (λ g q. let t = told (subst (λ xs. IsCovered xs later link) (sym e) (completion_covered chosen taken later link can g q)) in cc)

-- what comes of the links that are left, added to what was added so far, gives what is to be added
unfoldable pub Owes : List (Option Disjunct) → List Link → List Link → List Linkage → List Link → List Linkage → Type 0
Owes chosen taken rest old left now = (new : List Linkage) → Adds (IsCompletion chosen taken left) now new → Adds (IsCompletion chosen taken rest) old new

-- what is left of a list is a part of it, also behind others
sublist_drop : (i : ℕ) (xs : List Link) → IsSublist (drop i xs) xs
unfolding IsSublist
sublist_drop zero xs = sublist_itself xs
sublist_drop (suc i) [] = refl
sublist_drop (suc i) (x ∷ xs) = inl (sublist_drop i xs)

sublist_none : (xs : List Link) → IsSublist [] xs
unfolding IsSublist
sublist_none [] = refl
sublist_none (x ∷ xs) = inl (sublist_none xs)

sublist_behind : (xs ys zs : List Link) → IsSublist ys zs → IsSublist (xs ++ ys) (xs ++ zs)
unfolding IsSublist
sublist_behind [] ys zs s = s
sublist_behind (x ∷ xs) ys zs s = inr (xs ++ ys, refl, sublist_behind xs ys zs s)

-- a turn of the loop, at the link of number i; the links behind it, as the slice of them is read
module _ (chosen : List (Option Disjunct)) (taken rest : List Link) (i : ℕ) (link : Link) (later : List Link) (below : i < length rest) (here : link ≡ get_or rest i link) (behind : later ≡ take (length rest - (i + 1)) (drop (i + 1) rest)) where
  later_is : later ≡ drop (i + 1) rest
  later_is = behind ∙ take_rest rest (i + 1)

  split : drop i rest ≡ link ∷ later
  split = drop_more rest i link below ∙ rw (← here, later_is) refl

  again : (taken ++ link ∷ []) ++ later ≡ taken ++ drop i rest
  again = rw split (append_assoc taken (link ∷ []) later)

  pub turn_links : AreLinks chosen (taken ++ rest) → AreLinks chosen ((taken ++ link ∷ []) ++ later)
  turn_links are = rw again (sublist_links chosen (taken ++ drop i rest) (taken ++ rest) (sublist_behind taken (drop i rest) rest (sublist_drop i rest)) are)

  pub turn_few : (n : ℕ) → length (taken ++ rest) < n → length ((taken ++ link ∷ []) ++ later) < n
  turn_few n few = rw again (omega (arith, length-append taken rest, length-append taken (drop i rest), length-drop i rest))

  pub turn_can : AreLinks chosen (taken ++ rest) → CanLink chosen link
  turn_can are = All-contains (CanLink chosen) (taken ++ rest) link are.allowed (Contains-append_right taken rest link (i, below, sym here))

  module _ (old a : List Linkage) (owes : Owes chosen taken rest old (drop i rest) a) where
    -- the link was taken, and is then left out
    pub with_link : (more : List Link) (b : List Linkage) → more ≡ taken ++ link ∷ [] → Adds (IsCompletion chosen more later) a b → Owes chosen taken rest old (drop (i + 1) rest) b
    unfolding Owes
    with_link more b e first new then =
        owes new
        (adds_then (IsCompletion chosen more later) (IsCompletion chosen taken later) (IsCompletion chosen taken (drop i rest)) a b new first (subst (λ l. Adds (IsCompletion chosen taken l) b new) (sym later_is) then)
        (λ g. rw (split, e) (completion_cases chosen taken link later g)))

    -- the link does not fit, and is left out
    pub without_link : (same : List Link) (r : Bool) → same ≡ taken → (All (λ t. AreCompatible t link) same → r ≡ true) → r ≡ false → Owes chosen taken rest old (drop (i + 1) rest) a
    unfolding Owes
    without_link same r e told off new then =
        owes new
        (adds_same (IsCompletion chosen taken later) (IsCompletion chosen taken (drop i rest)) a new (subst (λ l. Adds (IsCompletion chosen taken l) a new) (sym later_is) then)
        (λ g. let both = completion_cases chosen taken link later g in
        rw split (
          λ h. elim (both.0 h) [ inl j ↦ absurd (let t = told (rw e (completion_fits chosen taken link later g j)) in cc) | inr j ↦ j ],
          λ h. both.1 (inr h),
        )))

  pub turn_shorter : length later < length rest
  turn_shorter = rw later_is (omega (arith, length-drop (i + 1) rest))

  -- no linkage leaves the link out
  pub never_without : (old b : List Linkage) (same : List Link) (r : Bool) → AreLinks chosen (taken ++ rest) → Owes chosen taken rest old (drop (i + 1) rest) b → same ≡ taken → (IsCovered same later link → r ≡ true) → r ≡ false →
      Adds (IsCompletion chosen taken rest) old b
  unfolding Owes
  never_without old b same r are owes e told off =
      owes b (subst (λ l. Adds (IsCompletion chosen taken l) b b) later_is (pruned chosen taken later link (turn_can are) same r e told off b))

pub front_links : (chosen : List (Option Disjunct)) (taken rest : List Link) → AreLinks chosen (taken ++ rest) → AreLinks chosen taken
front_links chosen taken rest are =
    let part : IsSublist (taken ++ []) (taken ++ rest) = sublist_behind taken [] rest (sublist_none rest) in
    sublist_links chosen taken (taken ++ rest) (rw append-nil at part) are

pub owes_all : (chosen : List (Option Disjunct)) (taken rest : List Link) (old : List Linkage) → Owes chosen taken rest old (drop 0 rest) old
unfolding Owes
owes_all chosen taken rest old new then = then

-- no link is left
pub owes_last : (chosen : List (Option Disjunct)) (taken rest : List Link) (i : ℕ) (old a new : List Linkage) → length rest ≤ i → Owes chosen taken rest old (drop i rest) a → Adds (IsCompletion chosen taken []) a new → Adds (IsCompletion chosen taken rest) old new
unfolding Owes
owes_last chosen taken rest i old a new past owes then = owes new (rw (drop_all i rest past) then)
