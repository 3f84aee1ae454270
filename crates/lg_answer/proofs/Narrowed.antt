-- A problem of narrowed formulas has the good linkages of the problem of the whole ones.
use Rattle.std.proofs.Common.{◌≡◌, ◌↔◌, ℕ, zero, suc, ◌<◌, List, [], ◌∷◌, length, Contains, All, inl, inr, sym, ap, ◌∙◌, subst, arith}
use Rattle.std.specs.Prelude.{slice_index_or}
use Rattle.std.specs.List.{AllZip}
use Rattle.std.proofs.lemmas.List.{get_or_default}
use Rattle.std.proofs.lemmas.Option.{slice_get-get_or}
use Rattle.std.proofs.lemmas.Slice.Zip.{AllZip-long}
use Rattle.lg_base.proofs.Elements.{contains_here, contains_later, contains_cases, contains_none}
use Rattle.lg_gram.specs.Measures.{Choice, choices_of}
use Rattle.lg_gram.specs.Disjuncts.{choice_of, IsDisjunctOf}
use Rattle.lg_gram.specs.declared.disjunct.Disjunct.{Disjunct}
use Rattle.lg_eprune.specs.Live.{WordTree, IsLiveChoice, KeepsLive, Narrows, nothing, kept, dropped, AreNarrowed, AreOf, LinkagesAreLive}
use Rattle.lg_answer.proofs.Lists.{zip_each}
use Rattle.lg_answer.proofs.Made.{expanded_none}
use Rattle.lg_answer.specs.Pages.{HasLinkagesOf}
use Rattle.lg_answer.specs.Steps.{IsOfTrees, AreApart, AreExpanded}

pub inside : {X : Type 0} (xs : List (List X)) (i : ℕ) (x : X) → Contains (slice_index_or xs i []) x → i < length xs
inside [] i x h = absurd (contains_none x h)
inside (ys ∷ xs) zero x h = omega arith
inside (ys ∷ xs) (suc i) x h = let less = inside xs i x h in omega arith

module _ (words : List (List WordTree)) (i : ℕ) where
  narrow_in : (olds news : List WordTree) → Narrows words i olds news → (v : WordTree) → Contains news v
      → (w : WordTree) × Contains olds w × (v.word ≡ w.word) × KeepsLive words i w.tree v.tree
  narrow_in _ _ nothing v h = absurd (contains_none v h)
  narrow_in _ _ (kept old new olds news named keeps choice chosen rest) v h =
      elim (contains_cases new news v h) [
        | inl same ↦ (old, contains_here old olds, ap (λ (z : WordTree). z.word) (sym same) ∙ named, subst (λ (z : WordTree). KeepsLive words i old.tree z.tree) same keeps)
        | inr others ↦ (let r = narrow_in olds news rest v others in (r.0, contains_later old olds r.0 r.1, r.2, r.3))
      ]
  narrow_in _ _ (dropped old olds news gone rest) v h = let r = narrow_in olds news rest v h in (r.0, contains_later old olds r.0 r.1, r.2, r.3)

  narrow_out : (olds news : List WordTree) → Narrows words i olds news → (w : WordTree) → Contains olds w
      → (choice : Choice) → Contains (choices_of w.tree) choice → IsLiveChoice words i choice
      → (v : WordTree) × Contains news v × (v.word ≡ w.word) × KeepsLive words i w.tree v.tree
  narrow_out _ _ nothing w h choice chosen live = absurd (contains_none w h)
  narrow_out _ _ (kept old new olds news named keeps some some_chosen rest) w h choice chosen live =
      elim (contains_cases old olds w h) [
        | inl same ↦ (new, contains_here new news, named ∙ ap (λ (z : WordTree). z.word) same, subst (λ (z : WordTree). KeepsLive words i z.tree new.tree) same keeps)
        | inr others ↦ (let r = narrow_out olds news rest w others choice chosen live in (r.0, contains_later new news r.0 r.1, r.2, r.3))
      ]
  narrow_out _ _ (dropped old olds news gone rest) w h choice chosen live =
      elim (contains_cases old olds w h) [
        | inl same ↦ absurd (gone choice (subst (λ (z : WordTree). Contains (choices_of z.tree) choice) (sym same) chosen) live)
        | inr others ↦ narrow_out olds news rest w others choice chosen live
      ]

  -- connectors alone decide whether a choice is live
  same_live : (c e : Choice) → c.left ≡ e.left → c.right ≡ e.right → IsLiveChoice words i e → IsLiveChoice words i c
  same_live c e left right live x has = live x (elim has [
    | inl m ↦ inl (subst (λ l. Contains l x) left m)
    | inr m ↦ inr (subst (λ l. Contains l x) right m)
  ])

  -- a disjunct that is left is one of the whole formulas, and one whose connectors are live is left
  narrowed_disjunct : (olds news : List WordTree) → Narrows words i olds news → (v : WordTree) → Contains news v → (d : Disjunct) → IsDisjunctOf v.word v.tree d
      → (w : WordTree) × Contains olds w × IsDisjunctOf w.word w.tree d
  narrowed_disjunct olds news narrow v h d is =
      let r = narrow_in olds news narrow v h in
      let old = (r.3 (choice_of d)).0 is.chosen in (
        r.0,
        r.1,
        record {
          named = is.named ∙ r.2;
          chosen = old.0;
          least = λ c chosen left right. is.least c ((r.3 c).1 (chosen, same_live c (choice_of d) left right old.1)) left right;
        },
      )

  live_disjunct : (olds news : List WordTree) → Narrows words i olds news → (w : WordTree) → Contains olds w → (d : Disjunct) → IsDisjunctOf w.word w.tree d
      → IsLiveChoice words i (choice_of d) → (v : WordTree) × Contains news v × IsDisjunctOf v.word v.tree d
  live_disjunct olds news narrow w h d is live =
      let r = narrow_out olds news narrow w h (choice_of d) is.chosen live in (
        r.0,
        r.1,
        record {
          named = is.named ∙ sym r.2;
          chosen = (r.3 (choice_of d)).1 (is.chosen, live);
          least = λ c chosen left right. is.least c ((r.3 c).0 chosen).0 left right;
        },
      )

-- the disjuncts of words are choices of theirs
pub are_of : (words : List (List WordTree)) (whole : List (List Disjunct)) → ((i : ℕ) (d : Disjunct) → Contains (slice_index_or whole i []) d ↔ IsOfTrees (slice_index_or words i []) d)
    → AreOf words whole
are_of words whole exactly i d h =
    let r = (exactly i d).0 h in
    record { words = slice_index_or words i []; word = r.0; here = slice_get-get_or words i [] (inside words i r.0 r.1); listed = r.1; chosen = r.2.chosen }

-- a disjunct whose connectors are live is left
pub live_of : (words pruned : List (List WordTree)) → AreNarrowed words pruned → (i : ℕ) (d : Disjunct) → IsOfTrees (slice_index_or words i []) d → IsLiveChoice words i (choice_of d)
    → IsOfTrees (slice_index_or pruned i []) d
live_of words pruned narrow i d (w, m, is) live =
    live_disjunct words i (slice_index_or words i []) (slice_index_or pruned i []) (narrow.each i (inside words i w m)) w m d is live

module _ (live : LinkagesAreLive) (words pruned : List (List WordTree)) (narrow : AreNarrowed words pruned) (whole left : List (List Disjunct))
    (all : AllZip AreExpanded words whole) (some : (i : ℕ) (d : Disjunct) → Contains (slice_index_or left i []) d ↔ IsOfTrees (slice_index_or pruned i []) d) (long : length left ≡ length pruned) where
  at_whole : (i : ℕ) → AreExpanded (slice_index_or words i []) (slice_index_or whole i [])
  at_whole i = zip_each AreExpanded expanded_none words whole all i

  from_left : (i : ℕ) (d : Disjunct) → Contains (slice_index_or left i []) d → Contains (slice_index_or whole i []) d
  from_left i d h =
      let r = (some i d).0 h in
      let less : i < length words = (let same = narrow.same_length in let in_pruned = inside pruned i r.0 r.1 in omega arith) in
      ((at_whole i).exactly d).1 (narrowed_disjunct words i (slice_index_or words i []) (slice_index_or pruned i []) (narrow.each i less) r.0 r.1 d r.2)

  to_left : (i : ℕ) (d : Disjunct) → Contains (slice_index_or whole i []) d → IsLiveChoice words i (choice_of d) → Contains (slice_index_or left i []) d
  to_left i d h is_live = (some i d).1 (live_of words pruned narrow i d (((at_whole i).exactly d).0 h) is_live)

  same_long : length left ≡ length whole
  same_long = long ∙ narrow.same_length ∙ sym (AllZip-long AreExpanded words whole all)

  pub keeps_linkages : HasLinkagesOf whole left
  keeps_linkages g = (
    λ good. record {
      belongs = record {
        same_length = good.belongs.same_length ∙ sym same_long;
        listed = λ i d at. to_left i d (good.belongs.listed i d at) (live words whole (are_of words whole (λ j. (at_whole j).exactly)) g good i d at);
        set = good.belongs.set;
      };
      rules = good.rules;
      connected = good.connected;
    },
    λ good. record {
      belongs = record {
        same_length = good.belongs.same_length ∙ same_long;
        listed = λ i d at. from_left i d (good.belongs.listed i d at);
        set = good.belongs.set;
      };
      rules = good.rules;
      connected = good.connected;
    },
  )

-- what is left of each position has no other disjuncts
pub narrowed_of : (words pruned : List (List WordTree)) → AreNarrowed words pruned → (i : ℕ) (d : Disjunct) → IsOfTrees (slice_index_or pruned i []) d → IsOfTrees (slice_index_or words i []) d
narrowed_of words pruned narrow i d (v, m, is) =
    let low = inside pruned i v m in
    let same = narrow.same_length in
    narrowed_disjunct words i (slice_index_or words i []) (slice_index_or pruned i []) (narrow.each i (omega (arith, low, same))) v m d is

-- so it is told apart too
pub narrowed_apart : (words pruned : List (List WordTree)) → AreNarrowed words pruned → ((i : ℕ) → AreApart (slice_index_or words i [])) → All AreApart pruned
narrowed_apart words pruned narrow apart k d within =
    subst AreApart (get_or_default pruned k [] d within) (λ x y of_x of_y alike. apart k x y (narrowed_of words pruned narrow k x of_x) (narrowed_of words pruned narrow k y of_y) alike)
