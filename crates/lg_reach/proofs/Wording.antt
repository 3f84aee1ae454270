-- Words that are walked through one after another.
use Rattle.std.proofs.Common.{◌≡◌, ◌∙◌, refl, sym, ap, subst, ℕ, ◌-◌, ◌≤◌, arith, Bool, true, false, cond, Option, Some, None, List, [], ◌∷◌, ◌++◌, slice_get, Contains, inl, inr}
use Rattle.std.specs.List.{AllZip}
use Rattle.std.proofs.lemmas.List.Elements.{Contains-append_cases}
use Rattle.std.proofs.lemmas.Slice.Zip.{AllZip-left}
use Rattle.lg_base.proofs.Elements.{contains_cases, contains_none}
use Rattle.lg_eprune.specs.Live.{WordTree}
use Rattle.lg_gram.specs.Connectors.{Connector}
use Rattle.lg_gram.specs.Disjuncts.{choice_of}
use Rattle.lg_gram.specs.Linkages.{Linkage}
use Rattle.lg_gram.specs.Measures.{Choice, choices_of}
use Rattle.lg_gram.specs.Rules.{chosen_at, left_list, right_list}
use Rattle.lg_gram.specs.Trees.{Tree}
use Rattle.lg_gram.specs.declared.disjunct.Disjunct.{Disjunct}
use Rattle.lg_sharpen.specs.Bounds.{list_at}
use Rattle.lg_sharpen.specs.Filling.{Notes}
use Rattle.lg_sharpen.specs.Sites.{own, place_on}
use Rattle.lg_sharpen.specs.Ways.{HasWay, IsMet}
use Rattle.lg_reach.specs.Climbs.{Fits, Holds, at_first}
use Rattle.lg_reach.specs.Ends.{AreNoShorter, EndsSo, Keeps, KeepsWays, KnowsAt, Serves, Suits, Uses}
use Rattle.lg_reach.specs.Narrowed.{AreNarrowed}
use Rattle.lg_reach.specs.Reach.{Never, dropped, kept, nothing}
use Rattle.lg_reach.specs.Walks.{Walks}
use Rattle.lg_reach.specs.declared.nearest.Stand.{Stand}
use Rattle.lg_reach.specs.declared.site.Sites.{Sites}
use Rattle.lg_reach.specs.declared.walk.Least.{Least}
use Rattle.lg_reach.proofs.Narrowing.{narrows_append}
use Rattle.lg_reach.proofs.Placing.{placed, placed_with}
use Rattle.lg_reach.proofs.Walking.{serves_still, site_longer}

pub narrowed_none : (s : Sites) (ways : List (List ℕ)) (stand : Stand) → AreNarrowed s s ways ways stand [] []
narrowed_none s ways stand = record {
  keeps = λ i c n lone h. h;
  keeps_ways = λ w a. omega arith;
  fewer = nothing;
  used = λ g suits. nothing;
  known = λ g suits d chosen w listed uses. absurd (contains_none w listed);
}

-- a way that was noted still is
pub way_kept : (g : Linkage) (old new : List (List ℕ)) (w : ℕ) → KeepsWays old new → HasWay g old w → HasWay g new w
way_kept g old new w keeps h = record {
  left = h.left;
  right = h.right;
  noted = λ a low. let less = keeps w a in let was = h.noted a low in omega (arith, less, was);
  left_met = h.left_met;
  right_met = h.right_met;
}

-- so a linkage that is known still is
pub known_still : (g : Linkage) (old new : Sites) (before after : List (List ℕ)) (i : ℕ) → Keeps old new → KeepsWays before after → KnowsAt old g i × HasWay g before i → KnowsAt new g i × HasWay g after i
known_still g old new before after i keeps ways (known, way) = (λ c n e. serves_still old new g i keeps c n (known c n e), way_kept g before after i ways way)

pub narrowed_then : (old now new : Sites) (before between after : List (List ℕ)) (stand : Stand) (firsts bs cs ds : List WordTree) → AreNarrowed old now before between stand firsts bs
    → AreNarrowed now new between after stand cs ds → AreNarrowed old new before after stand (firsts ++ cs) (bs ++ ds)
narrowed_then old now new before between after stand firsts bs cs ds v w = record {
  keeps = λ i c n lone h. w.keeps i c n lone (v.keeps i c n lone h);
  keeps_ways = λ x a. let p = v.keeps_ways x a in let q = w.keeps_ways x a in omega (arith, p, q);
  fewer = narrows_append Never firsts bs cs ds v.fewer w.fewer;
  used = λ g suits. narrows_append (Uses g stand.position) firsts bs cs ds (v.used g suits) (w.used g suits);
  known = λ g suits d chosen u listed uses.
      elim (Contains-append_cases firsts cs u listed) [
        | inl m ↦ known_still g now new between after stand.position w.keeps w.keeps_ways (v.known g suits d chosen u m uses)
        | inr m ↦ w.known g suits d chosen u m uses
      ];
}

-- what holds place by place holds at a place of both
at_place : (R : Connector → ℕ → Type 0) (cs : List Connector) (ns : List ℕ) → AllZip R cs ns → (i : ℕ) (c : Connector) (n : ℕ) → slice_get cs i ≡ Some c → slice_get ns i ≡ Some n → R c n
at_place R cs ns all i c n here there =
    let h = AllZip-left R cs ns all i in
    rw (here, there) at h

list_of : Bool → Option Disjunct → List Connector
list_of right o = cond right (right_list o) (left_list o)

-- the links of what holds are seen
seen_at : (Ok : Bool → Connector → ℕ → Type 0) (Seen : Connector → ℕ → Type 0) (s end after : Least) (cs left : List Choice) (d : Disjunct) (ls rs : List ℕ) → Holds Ok Seen s cs left after → Contains cs (choice_of d)
    → Fits Ok s end (choice_of d) ls rs → (right : Bool) (p : ℕ) (c : Connector) (n : ℕ) → slice_get (cond right d.right d.left) p ≡ Some c → slice_get (cond right rs ls) p ≡ Some n → Seen c n
seen_at Ok Seen s end after cs left d ls rs holds listed fits true p c n here there = at_place Seen d.right rs (holds.rights end (choice_of d) ls rs listed fits) p c n here there
seen_at Ok Seen s end after cs left d ls rs holds listed fits false p c n here there = at_place Seen d.left ls (holds.lefts end (choice_of d) ls rs listed fits) p c n here there

only : (v w : WordTree) → Contains (v ∷ []) w → v ≡ w
only v w h = elim (contains_cases v [] w h) [ inl is ↦ is | inr m ↦ absurd (contains_none w m) ]

-- what is met so far is met no less far
met_less : (g : Linkage) (right : Bool) (w m n : ℕ) → m ≤ n → IsMet g right w n → IsMet g right w m
met_less g right w m n less (inl is) = inl (omega (arith, is, less))
met_less g right w m n less (inr (e, has, at, far)) = inr (e, has, at, omega (arith, far, less))

module _ (old new : Sites) (stand : Stand) (word : WordTree) where
  -- a word of which no choice is left
  pub narrowed_away : (ways : List (List ℕ)) → Walks old new stand at_first (choices_of word.tree) None → AreNarrowed old new ways ways stand (word ∷ []) []
  narrowed_away ways w = record {
    keeps = w.keeps;
    keeps_ways = λ x a. omega arith;
    fewer = dropped word [] [] (λ c m never. never) nothing;
    used = λ g suits. dropped word [] [] (λ c m uses. unfit g suits c m uses.0 uses.1 uses.2) nothing;
    known = λ g suits d chosen v listed uses. absurd (unfit g suits (choice_of d) (subst (λ (x : WordTree). Contains (choices_of x.tree) (choice_of d)) (sym (only word v listed)) uses) d chosen refl);
  } where
    unfit : (g : Linkage) → Suits g stand → (c : Choice) → Contains (choices_of word.tree) c → (d : Disjunct) → chosen_at g stand.position ≡ Some d → choice_of d ≡ c → ⊥
    unfit g suits c m d chosen is =
        let (end, ls, rs, fits, l, r) = placed stand.most g suits.fits stand.position d chosen in
        w.leaves g suits end (choice_of d) ls rs (subst (Contains (choices_of word.tree)) (sym is) m) fits

  module _ (before after : List (List ℕ)) (cs : List Choice) (least : Least) (w : Walks old new stand at_first (choices_of word.tree) (Some (cs, least)))
      (notes : Notes stand.position (least.left.least - 1) (least.right.least - 1) before after) where
    stays : (g : Linkage) → Suits g stand → (c : Choice) → Contains (choices_of word.tree) c → (d : Disjunct) → chosen_at g stand.position ≡ Some d → choice_of d ≡ c → Contains cs c
    stays g suits c m d chosen is =
        let (end, ls, rs, fits, l, r) = placed stand.most g suits.fits stand.position d chosen in
        subst (Contains cs) is ((w.leaves g suits).stays end (choice_of d) ls rs (subst (Contains (choices_of word.tree)) (sym is) m) fits)

    known : (g : Linkage) → Suits g stand → (d : Disjunct) → chosen_at g stand.position ≡ Some d → Contains (choices_of word.tree) (choice_of d) → KnowsAt new g stand.position
    known g suits d chosen m c n ends =
        let i = stand.position in
        let link = ends.link in
        let (end, ls, rs, fits, k, there, less) = placed_with stand.most g suits.fits i d chosen c.right link ends.has ends.at in
        let here : slice_get (cond c.right d.right d.left) (place_on c.right link) ≡ Some c = ap (λ o. slice_get (cond c.right (right_list o) (left_list o)) (place_on c.right link)) (sym chosen) ∙ ends.connector in
        let seen = seen_at (EndsSo g i) (Serves new g i) at_first end least (choices_of word.tree) cs d ls rs (w.leaves g suits) m fits c.right (place_on c.right link) c k here there in
        let at : slice_get (list_at c.right g (own c.right link)) (place_on c.right link) ≡ Some c = subst (λ z. slice_get (list_at c.right g z) (place_on c.right link) ≡ Some c) (sym ends.at) ends.connector in
        let near = less.near refl in
        let long = ends.long in
        record {
          lone = seen.lone;
          site = site_longer new i c k n seen.lone seen.site (omega (arith, near, long));
          one = seen.one;
          nearest = λ is. subst (AreNoShorter g c.right i) (less.same refl c at (seen.one is) ∙ ends.long) (seen.nearest is);
        }

    way : (g : Linkage) → Suits g stand → (d : Disjunct) → chosen_at g stand.position ≡ Some d → Contains (choices_of word.tree) (choice_of d) → HasWay g after stand.position
    way g suits d chosen m =
        let (end, ls, rs, fits, l, r) = placed stand.most g suits.fits stand.position d chosen in
        let within = (w.leaves g suits).within end (choice_of d) ls rs m fits in
        let a = within.left.least in
        let b = within.right.least in
        record {
          left = least.left.least - 1;
          right = least.right.least - 1;
          noted = notes.noted;
          left_met = met_less g false stand.position (least.left.least - 1) (end.left.least - 1) (omega (arith, a)) l;
          right_met = met_less g true stand.position (least.right.least - 1) (end.right.least - 1) (omega (arith, b)) r;
        }

    -- a word with these choices
    narrowed_to : (left : WordTree) → left.word ≡ word.word → ((c : Choice) → Contains (choices_of left.tree) c → Contains (choices_of word.tree) c)
        → ((c : Choice) → Contains cs c → Contains (choices_of left.tree) c) → AreNarrowed old new before after stand (word ∷ []) (left ∷ [])
    narrowed_to left same from to = record {
      keeps = w.keeps;
      keeps_ways = notes.lower;
      fewer = kept word left [] [] same from (λ c m never. absurd never) nothing;
      used = λ g suits. kept word left [] [] same from (λ c m uses. to c (stays g suits c m uses.0 uses.1 uses.2)) nothing;
      known = λ g suits d chosen v listed uses.
          let here = subst (λ (x : WordTree). Contains (choices_of x.tree) (choice_of d)) (sym (only word v listed)) uses in
          (known g suits d chosen here, way g suits d chosen here);
    }

  -- with the tree of what is left
  pub narrowed_by : (before after : List (List ℕ)) (what : Tree) (least : Least) (left : WordTree) → Walks old new stand at_first (choices_of word.tree) (Some (choices_of what, least))
      → Notes stand.position (least.left.least - 1) (least.right.least - 1) before after → left.word ≡ word.word → left.tree ≡ what → AreNarrowed old new before after stand (word ∷ []) (left ∷ [])
  narrowed_by before after what least left w notes named same =
      narrowed_to before after (choices_of what) least w notes left named (λ c m. w.fewer c (subst (λ t. Contains (choices_of t) c) same m)) (λ c m. subst (λ t. Contains (choices_of t) c) (sym same) m)
