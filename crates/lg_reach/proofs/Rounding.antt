-- Walks through the words of all positions, and rounds of them.
use Rattle.std.proofs.Common.{◌≡◌, ◌≢◌, ◌∙◌, refl, sym, ap, subst, ℕ, zero, suc, ◌+◌, ◌<◌, ◌≤◌, ◌⊎◌, inl, inr, Bool, true, false, cond, Option, Some, None, List, [], ◌∷◌, ◌++◌, length, slice_get, slice_index_or, Contains, arith}
use Rattle.std.specs.Borrow.{Bor}
use Rattle.std.proofs.Math.Seq.{get_or-append_seam}
use Rattle.std.proofs.lemmas.List.{get_or_append_left, get_or_at, get_or_past, length-append}
use Rattle.std.proofs.lemmas.Option.{get_or_from_slice_get, slice_get_within}
use Rattle.lg_base.proofs.Elements.{contains_none}
use Rattle.lg_eprune.specs.Live.{WordTree}
use Rattle.lg_gram.specs.Connectors.{Connector}
use Rattle.lg_gram.specs.Disjuncts.{choice_of}
use Rattle.lg_gram.specs.Linkages.{Linkage, unlinked}
use Rattle.lg_gram.specs.Measures.{Choice}
use Rattle.lg_gram.specs.Rules.{chosen_at, left_list, right_list}
use Rattle.lg_gram.specs.declared.disjunct.Disjunct.{Disjunct}
use Rattle.lg_sharpen.specs.Bounds as few
use Rattle.lg_sharpen.specs.Filling.{Gaps, Shuts}
use Rattle.lg_sharpen.specs.Sites.{place_on}
use Rattle.lg_sharpen.specs.Ways.{HasWay}
use Rattle.lg_sharpen.proofs.Under.{ways_allow}
use Rattle.lg_reach.specs.Ends.{AreKnown, HaveChosen, IsKnown, IsLinkageOf, Knows, KnowsAt, Suits, Uses}
use Rattle.lg_reach.specs.Narrowed.{AreNarrowed}
use Rattle.lg_reach.specs.Reach.{HaveFewer, HaveUsed, Narrows, Never, nothing}
use Rattle.lg_reach.specs.Rounds.{AreWalked, IsAmong}
use Rattle.lg_reach.specs.declared.nearest.Stand.{Stand}
use Rattle.lg_reach.specs.declared.known.Known.{Known}
use Rattle.lg_reach.specs.declared.site.Sites.{Sites}
use Rattle.lg_reach.proofs.Narrowing.{narrows_finds, narrows_itself, narrows_then}
use Rattle.lg_reach.proofs.Wording.{known_still}

abbrev at : List (List WordTree) → ℕ → List WordTree
at words i = slice_index_or words i []

-- the positions below this one are walked through
pub record AreWalkedTo (most : ℕ) (words kept : List (List WordTree)) (known : Option (Bor Known)) (sites : Sites) (ways : List (List ℕ)) (n : ℕ) : Type 0 where
  pub many : length kept ≡ n
  pub fewer : (i : ℕ) → i < n → Narrows Never (at words i) (at kept i)
  pub used : (g : Linkage) → IsAmong most words g → AreKnown known g → (i : ℕ) → i < n → Narrows (Uses g i) (at words i) (at kept i)
  pub knows : (g : Linkage) → IsAmong most words g → AreKnown known g → (i : ℕ) → i < n → (d : Disjunct) → chosen_at g i ≡ Some d → KnowsAt sites g i × HasWay g ways i

pub walked_none : (most : ℕ) (words : List (List WordTree)) (known : Option (Bor Known)) (sites : Sites) (ways : List (List ℕ)) → AreWalkedTo most words [] known sites ways 0
walked_none most words known sites ways = record {
  many = refl;
  fewer = λ i low. absurd (omega (arith, low));
  used = λ g among before i low. absurd (omega (arith, low));
  knows = λ g among before i low. absurd (omega (arith, low));
}

below_or_last : (i n : ℕ) → i < n + 1 → (i < n) ⊎ (i ≡ n)
below_or_last i zero low = inr (omega (arith, low))
below_or_last zero (suc n) low = inl (omega arith)
below_or_last (suc i) (suc n) low =
    elim (below_or_last i n (omega (arith, low))) [
      | inl less ↦ inl (omega (arith, less))
      | inr same ↦ inr (ap suc same)
    ]

nothing_at : (p : ℕ) (c : Connector) → slice_get [] p ≡ Some c → ⊥
nothing_at p c is = let low = slice_get_within [] p c is in omega (arith, low)

-- what uses this at a position of a linkage
linked_choice : (right : Bool) (o : Option Disjunct) (p : ℕ) (c : Connector) → slice_get (cond right (right_list o) (left_list o)) p ≡ Some c → (d : Disjunct) × (o ≡ Some d)
linked_choice true None p c is = absurd (nothing_at p c is)
linked_choice false None p c is = absurd (nothing_at p c is)
linked_choice right (Some d) p c is = (d, refl)

module _ (most : ℕ) (words kept : List (List WordTree)) (known : Option (Bor Known)) (now new : Sites) (before after : List (List ℕ)) (n : ℕ) (to : AreWalkedTo most words kept known now before n) (stand : Stand)
    (here : stand.position ≡ n) (long : stand.words ≡ length words) (few_so : stand.most ≡ most) (was : stand.known ≡ known) (left : List WordTree)
    (w : AreNarrowed now new before after stand (at words n) left) where
  earlier : (i : ℕ) → i < n → at (kept ++ left ∷ []) i ≡ at kept i
  earlier i low = get_or_append_left kept (left ∷ []) [] i (let many = to.many in omega (arith, many, low))

  last : at (kept ++ left ∷ []) n ≡ left
  last = ap (at (kept ++ left ∷ [])) (sym to.many) ∙ get_or-append_seam kept left [] []

  suited : (g : Linkage) → IsAmong most words g → AreKnown known g → Suits g stand
  suited g among is = record { fits = subst (λ m. few.Fits m g) (sym few_so) among.fits; words = among.same_length ∙ sym long; known = subst (λ o. AreKnown o g) (sym was) is }

  each : (P : ℕ → Type 0) → ((i : ℕ) → i < n → P i) → P n → (i : ℕ) → i < n + 1 → P i
  each P less same i low = elim (below_or_last i n low) [ inl l ↦ less i l | inr is ↦ subst P (sym is) same ]

  abbrev Learned : Linkage → ℕ → Type 0
  Learned g i = (d : Disjunct) → chosen_at g i ≡ Some d → KnowsAt new g i × HasWay g after i

  -- what is learned at this position, from the words that the linkage has there
  learned : (g : Linkage) → IsAmong most words g → AreKnown known g → Learned g stand.position
  learned g among is d chosen =
      let (v, listed, uses) = subst (λ p. HaveChosen g p (at words n)) (sym here) (among.chosen n) d chosen in
      w.known g (suited g among is) d chosen v listed uses

  pub walked_more : AreWalkedTo most words (kept ++ left ∷ []) known new after (n + 1)
  walked_more = record {
    many = length-append kept (left ∷ []) ∙ ap (λ m. m + 1) to.many;
    fewer = each (λ i. Narrows Never (at words i) (at (kept ++ left ∷ []) i)) (λ i low. subst (Narrows Never (at words i)) (sym (earlier i low)) (to.fewer i low))
        (subst (Narrows Never (at words n)) (sym last) w.fewer);
    used = λ g among is.
        each (λ i. Narrows (Uses g i) (at words i) (at (kept ++ left ∷ []) i)) (λ i low. subst (Narrows (Uses g i) (at words i)) (sym (earlier i low)) (to.used g among is i low))
        (subst (Narrows (Uses g n) (at words n)) (sym last) (subst (λ p. Narrows (Uses g p) (at words n) left) here (w.used g (suited g among is))));
    knows = λ g among is.
        each (λ i. Learned g i) (λ i low d chosen. known_still g now new before after i w.keeps w.keeps_ways (to.knows g among is i low d chosen)) (subst (λ p. Learned g p) here (learned g among is));
  }

within_or_past : (i n : ℕ) → (i < n) ⊎ (n ≤ i)
within_or_past i zero = inr (omega arith)
within_or_past zero (suc n) = inl (omega arith)
within_or_past (suc i) (suc n) = elim (within_or_past i n) [ inl l ↦ inl (omega (arith, l)) | inr l ↦ inr (omega (arith, l)) ]

module _ (most : ℕ) (words kept : List (List WordTree)) (known : Option (Bor Known)) (sites : Sites) (ways : List (List ℕ)) (to : AreWalkedTo most words kept known sites ways (length words)) where
  all_of : (Used : ℕ → Choice → Type 0) → ((i : ℕ) → i < length words → Narrows (Used i) (at words i) (at kept i)) → (i : ℕ) → Narrows (Used i) (at words i) (at kept i)
  all_of Used low i =
      elim (within_or_past i (length words)) [
        | inl l ↦ low i l
        | inr past ↦ subst (λ ws. Narrows (Used i) ws (at kept i)) (sym (get_or_past words i [] past))
            (subst (Narrows (Used i) []) (sym (get_or_past kept i [] (let many = to.many in omega (arith, many, past)))) nothing)
      ]

  learned_at : (g : Linkage) → IsAmong most words g → AreKnown known g → (i : ℕ) (d : Disjunct) → chosen_at g i ≡ Some d → KnowsAt sites g i × HasWay g ways i
  learned_at g among is i d chosen =
      elim (within_or_past i (length words)) [
        | inl low ↦ to.knows g among is i low d chosen
        | inr past ↦ (let (v, listed, uses) = among.chosen i d chosen in absurd (contains_none v (subst (λ ws. Contains ws v) (get_or_past words i [] past) listed)))
      ]

  links_known : (g : Linkage) → IsAmong most words g → AreKnown known g → Knows sites g
  links_known g among is i c n ends = let (d, chosen) = linked_choice c.right (chosen_at g i) (place_on c.right ends.link) c ends.connector in (learned_at g among is i d chosen).0 c n ends

  pub walked_all : AreWalked most words kept known sites ways
  walked_all = record {
    fewer = record { same_length = to.many; each = λ i. all_of (λ i. Never) to.fewer i };
    used = λ g among is i. all_of (λ i. Uses g i) (to.used g among is) i;
    knows = λ g among is. record { sites_know = links_known g among is; ways_know = λ i d chosen. (learned_at g among is i d chosen).1 };
  }

-- a good linkage is such a linkage
pub good_among : (words : List (List WordTree)) (nulls : ℕ) (g : Linkage) → IsLinkageOf words g → unlinked g ≤ nulls → IsAmong (nulls + 1) words g
good_among words nulls g is less = record {
  fits = record { rules = is.good.rules; connected = is.good.connected; few = omega (arith, less) };
  same_length = is.good.belongs.same_length ∙ is.same_length;
  chosen = λ i d chosen.
      let at_i = is.of i d (is.good.belongs.listed i d chosen) in
      (at_i.word, subst (λ ws. Contains ws at_i.word) (sym (get_or_from_slice_get words i at_i.words [] at_i.here)) at_i.listed, at_i.chosen);
}

-- and so it is where all that it uses is kept
still_among : (most : ℕ) (words kept : List (List WordTree)) (g : Linkage) → IsAmong most words g → length kept ≡ length words → HaveUsed g words kept → IsAmong most kept g
still_among most words kept g among same used = record {
  fits = among.fits;
  same_length = among.same_length ∙ sym same;
  chosen = λ i d chosen.
      let (w, listed, uses) = among.chosen i d chosen in
      narrows_finds (Uses g i) (at words i) (at kept i) (used i) w (choice_of d) listed uses (d, chosen, refl);
}

-- one round after others
module _ (n most : ℕ) (words kept again : List (List WordTree)) (counted : n ≢ 0 → n ≡ length kept) (sites more : Sites) (ways longer : List (List ℕ)) (gaps : Gaps) (shuts : Shuts n most ways gaps) (known : Bor Known)
    (same : known.now ≡ record { sites = sites; gaps = gaps }) (v : AreWalked most words kept None sites ways) (w : AreWalked most kept again (Some known) more longer) where
  now : (g : Linkage) → IsAmong most words g → IsAmong most kept g
  now g among = still_among most words kept g among v.fewer.same_length (v.used g among tt)

  known_so : (g : Linkage) → IsAmong most words g → IsKnown known.now g
  known_so g among =
      let learned = v.knows g among tt in
      subst (λ k. IsKnown k g) (sym same) (record { sites = learned.sites_know; gaps = ways_allow n most g among.fits (λ some. counted some ∙ v.fewer.same_length ∙ sym among.same_length) ways learned.ways_know gaps shuts })

  pub walked_again : AreWalked most words again None more longer
  walked_again = record {
    fewer = record {
      same_length = w.fewer.same_length ∙ v.fewer.same_length;
      each = λ i. narrows_then Never (at words i) (at kept i) (at again i) (v.fewer.each i) (w.fewer.each i);
    };
    used = λ g among is i. narrows_then (Uses g i) (at words i) (at kept i) (at again i) (v.used g among is i) (w.used g (now g among) (known_so g among) i);
    knows = λ g among is. w.knows g (now g among) (known_so g among);
  }

-- what stands behind so many
pub stands_at : (words first rest : List (List WordTree)) (ws : List WordTree) (n : ℕ) → first ++ ws ∷ rest ≡ words → length first ≡ n → ws ≡ at words n
stands_at words first rest ws n all long = sym (get_or_at first ws rest [] n long) ∙ ap (λ xs. at xs n) all

-- what is left, or all in its place
pub fewer_or_all : (words left all : List (List WordTree)) → (all ≡ left) ⊎ (all ≡ words) → HaveFewer words left → HaveFewer words all
fewer_or_all words left all (inl is) fewer = subst (HaveFewer words) (sym is) fewer
fewer_or_all words left all (inr is) fewer = subst (HaveFewer words) (sym is) (record { same_length = refl; each = λ i. narrows_itself Never (at words i) })

pub used_or_all : (g : Linkage) (words left all : List (List WordTree)) → (all ≡ left) ⊎ (all ≡ words) → HaveUsed g words left → HaveUsed g words all
used_or_all g words left all (inl is) used = subst (HaveUsed g words) (sym is) used
used_or_all g words left all (inr is) used = subst (HaveUsed g words) (sym is) (λ i. narrows_itself (Uses g i) (at words i))
