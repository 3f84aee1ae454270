-- A seat is cut in two, and two seats become one.
use Rattle.std.proofs.Common.{◌≡◌, ◌≢◌, ℕ, ◌<◌, ◌≤◌, true, false, eqb, ◌||◌, ⊎_elim, List, [], ◌∷◌, ◌++◌, length, set, take, drop, refl, ap, sym, ◌∙◌, subst, eq-eqb, ne_eqb, true≢false}
use Rattle.std.specs.Prelude.{None, Some, IfSome}
use Rattle.std.proofs.lemmas.Bool.{or_cases, or_left, or_right, both_ways}
use Rattle.std.proofs.lemmas.Option.{IfSome_then}
use Rattle.std.proofs.lemmas.List.Folds.{list_any-append}
use native.Mathlib.Decide.{ℕ_discrete}
use mathlib.Core.Logic.{dite}
use mathlib.Core.Option.{some}
use lib.ListN.{get_elem?}
use Rattle.atomic_table.specs.Table.{Splits, Joins}
use Rattle.atomic_table.proofs.Lists.{set_here, set_else}
use Rattle.lg_memo.specs.declared.view.About.{About}
use Rattle.lg_memo.specs.declared.view.Count.{Count}
use Rattle.lg_memo.specs.declared.view.View.{View}
use Rattle.lg_memo.specs.Views.{has_number, spent_view, without_first, first_alone, joined}
use Rattle.lg_memo.specs.Rule.{Place, count_of, Stands, Fits, IsKept}
use Rattle.lg_memo.specs.Rule.Place.{out}
use Rattle.lg_memo.proofs.Places.{known_both}
use Rattle.lg_memo.proofs.Keeping.{views_set, views_push, is_there, same_view, has_none_apart, holds_set, holds_push, stands_set, stands_apart, stands_push, stands_last, not_spent, handed, handed_here, handed_else, handed_cases}

-- no other number is the first one
only_itself : (a n : ℕ) → n ≢ a → has_number (a ∷ []) n ≡ true → ⊥
only_itself a n apart given = true≢false (sym given ∙ ap (λ t. t || false) (ne_eqb n a apart))

-- what is not the first number is among the others
not_first : (a n : ℕ) (more : List ℕ) → has_number (a ∷ []) n ≡ false → has_number (a ∷ more) n ≡ true → has_number more n ≡ true
not_first a n more apart has = ⊎_elim
    (λ (e : eqb n a ≡ true). absurd (both_ways (has_number (a ∷ []) n) apart (or_left (eqb n a) false e)))
    (λ (e : has_number more n ≡ true). e)
    (or_cases (eqb n a) (has_number more n) has)

module _ {N S : Type 0} (Good : About N → ℕ → ℕ → S → Type 0) (about : About N) where
  -- a view fits other owners where it owns what it owned
  still_fits : (place : ℕ → Place) (owner owner' : ℕ → ℕ) (seat : ℕ) (v : View N) → ((n : ℕ) → has_number v.numbers n ≡ true → owner n ≡ seat → owner' n ≡ seat)
      → Fits about place owner seat v → Fits about place owner' seat v
  still_fits place owner owner' seat v keep f = record { same = f.same; owned = λ n has. keep n has (f.owned n has); stands = f.stands; known = f.known; has = f.has; spent = f.spent }

  pub split_allows : (id : ℕ) (v : View N) (a b : ℕ) (more : List ℕ) → v.about ≡ Some about → v.has ≡ None → v.numbers ≡ a ∷ b ∷ more → a < about.seats → b < about.seats
      → has_number (b ∷ more) a ≡ false → Splits (IsKept Good about) id v (without_first v) (first_alone v)
  split_allows id v a b more mine none_had numbers small_a small_b apart s k at =
      let f = k.fit id v at in
      let left : View N = without_first v in
      let right : View N = first_alone v in
      let views : List (View N) = set s.views id left in
      let owner : ℕ → ℕ = handed k.owner (a ∷ []) (length views) in
      let is_rest : drop 1 v.numbers ≡ b ∷ more = ap (λ (l : List ℕ). drop 1 l) numbers in
      let is_first : take 1 v.numbers ≡ a ∷ [] = ap (λ (l : List ℕ). take 1 l) numbers in
      let first_owned : k.owner a ≡ id = f.owned a (subst (λ (l : List ℕ). has_number l a ≡ true) (sym numbers) (or_left (eqb a a) (has_number (b ∷ more) a) (eq-eqb a a refl))) in
      let stays : (n : ℕ) → has_number (drop 1 v.numbers) n ≡ true → owner n ≡ id =
      λ n has. let in_rest : has_number (b ∷ more) n ≡ true = subst (λ (l : List ℕ). has_number l n ≡ true) is_rest has in
      handed_else k.owner (a ∷ []) (length views) n id
      (λ given. dite (ℕ_discrete n a)
      (λ (same : n ≡ a). absurd (both_ways (has_number (b ∷ more) a) apart (subst (λ (m : ℕ). has_number (b ∷ more) m ≡ true) same in_rest)))
      (λ (ne : n ≢ a). absurd (only_itself a n ne given)))
      (f.owned n (subst (λ (l : List ℕ). has_number l n ≡ true) (sym numbers) (or_right (eqb n a) (has_number (b ∷ more) n) in_rest))) in
      let fits_left : Fits about k.place owner id left = record {
        same = f.same;
        owned = stays;
        stands = subst (λ o. IfSome o (λ _. (n : ℕ) × (n < about.seats) × (has_number (drop 1 v.numbers) n ≡ true))) (sym mine)
            (b, small_b, subst (λ (l : List ℕ). has_number l b ≡ true) (sym is_rest) (or_left (eqb b b) (has_number more b) (eq-eqb b b refl)));
        known = f.known;
        has = f.has;
        spent = not_spent v about _ mine;
      } in
      let fits_right : Fits about k.place owner (length views) right = record {
        same = f.same;
        owned = λ n has. handed_here k.owner (a ∷ []) (length views) n (subst (λ (l : List ℕ). has_number l n ≡ true) is_first has);
        stands = subst (λ o. IfSome o (λ _. (n : ℕ) × (n < about.seats) × (has_number (take 1 v.numbers) n ≡ true))) (sym mine)
            (a, small_a, subst (λ (l : List ℕ). has_number l a ≡ true) (sym is_first) (or_left (eqb a a) false (eq-eqb a a refl)));
        known = f.known;
        has = subst (λ o. IfSome o (λ (t : Count). (t.shard < about.shards) × (k.place t.shard ≡ out (length views) t.entries))) (sym none_had) tt;
        spent = not_spent v about _ mine;
      } in
      -- another seat does not stand for the first number
      let others : (other : ℕ) (u : View N) → other ≢ id → get_elem? s.views other ≡ some u → Fits about k.place owner other u =
      λ other u ne there. still_fits k.place k.owner owner other u
      (λ n has was. handed_else k.owner (a ∷ []) (length views) n other
      (λ given. dite (ℕ_discrete n a)
      (λ (same : n ≡ a). absurd (ne (sym was ∙ ap k.owner same ∙ first_owned)))
      (λ (differs : n ≢ a). absurd (only_itself a n differs given)))
      was)
      (k.fit other u there) in
      record {
        place = k.place;
        owner = owner;
        words = k.words;
        slots = k.slots;
        shards = λ j less. let r = k.shards j less in record { word = r.word; slot = r.slot; few = r.few };
        holders = λ j seat n is. let h = k.holders j seat n is in
            holds_push views right seat j n (holds_set s.views id left seat j n (has_none_apart s.views id v at none_had seat j n h) h);
        seated = λ n less. handed_cases (λ seat. Stands (views ++ right ∷ []) seat n) k.owner (a ∷ []) (length views) n
            (λ given. stands_last views right n (subst (λ (l : List ℕ). has_number l n ≡ true) (sym is_first) given))
            (λ kept. stands_push views right (k.owner n) n
            (stands_set s.views id v left n at
            (λ has. subst (λ (l : List ℕ). has_number l n ≡ true) (sym is_rest) (not_first a n (b ∷ more) kept (subst (λ (l : List ℕ). has_number l n ≡ true) numbers has)))
            (k.owner n) (k.seated n less)));
        fit = views_push (Fits about k.place owner) views right fits_right (views_set (Fits about k.place owner) s.views id left fits_left others);
      }

  spent_fits : (place : ℕ → Place) (owner : ℕ → ℕ) (seat : ℕ) → Fits about place owner seat spent_view
  spent_fits place owner seat = record { same = tt; owned = λ n has. absurd (true≢false (sym has)); stands = tt; known = tt; has = tt; spent = refl }

  pub join_allows : (id : ℕ) (v : View N) (other : ℕ) (w : View N) → v.about ≡ Some about → v.has ≡ None → w.has ≡ None → Joins (IsKept Good about) id v other w (joined v w) spent_view
  join_allows id v other w mine none_had none_had' s k at apart there =
      let f = k.fit id v at in
      let at_other : get_elem? s.views other ≡ some w = sym (set_else s.views id other (joined v w) apart) ∙ there in
      let g = k.fit other w at_other in
      let owner : ℕ → ℕ = handed k.owner w.numbers id in
      let fits : Fits about k.place owner id (joined v w) = record {
        same = f.same;
        owned = λ n has. ⊎_elim
            (λ (its : has_number w.numbers n ≡ true). handed_here k.owner w.numbers id n its)
            (λ (its : has_number v.numbers n ≡ true). handed_else k.owner w.numbers id n id (λ _. refl) (f.owned n its))
            (or_cases (has_number w.numbers n) (has_number v.numbers n) (sym (list_any-append (eqb n) w.numbers v.numbers) ∙ has));
        stands = IfSome_then v.about f.stands (λ _ t. (t.0, t.1, list_any-append (eqb t.0) w.numbers v.numbers ∙ or_right (has_number w.numbers t.0) (has_number v.numbers t.0) t.2));
        known = known_both (λ (c : Count). c.entries ≤ count_of (k.place c.shard)) w.known v.known g.known f.known;
        has = f.has;
        spent = not_spent v about _ mine;
      } in
      -- a third seat stands for no number of the other
      let third : (seat : ℕ) (u : View N) → seat ≢ other → get_elem? s.views seat ≡ some u → Fits about k.place owner seat u =
      λ seat u ne here. still_fits k.place k.owner owner seat u (λ n has was. handed_else k.owner w.numbers id n seat (λ its. absurd (ne (sym was ∙ g.owned n its))) was) (k.fit seat u here) in
      record {
        place = k.place;
        owner = owner;
        words = k.words;
        slots = k.slots;
        shards = λ j less. let r = k.shards j less in record { word = r.word; slot = r.slot; few = r.few };
        holders = λ j seat n is. let h = k.holders j seat n is in
            holds_set (set s.views id (joined v w)) other spent_view seat j n (has_none_apart s.views other w at_other none_had' seat j n h)
            (holds_set s.views id (joined v w) seat j n (has_none_apart s.views id v at none_had seat j n h) h);
        seated = λ n less. handed_cases (λ seat. Stands (set (set s.views id (joined v w)) other spent_view) seat n) k.owner w.numbers id n
            (λ given. stands_apart (set s.views id (joined v w)) other spent_view id n (λ same. apart (sym same))
            (record { view = joined v w; there = set_here s.views id (joined v w) (is_there s.views id v at); has = list_any-append (eqb n) w.numbers v.numbers ∙ or_left (has_number w.numbers n) (has_number v.numbers n) given }))
            (λ kept. let h = k.seated n less in
            stands_apart (set s.views id (joined v w)) other spent_view (k.owner n) n
            (λ same. both_ways (has_number w.numbers n) kept (ap (λ (z : View N). has_number z.numbers n) (same_view s.views other (k.owner n) w h.view at_other h.there same) ∙ h.has))
            (stands_set s.views id v (joined v w) n at (λ has. list_any-append (eqb n) w.numbers v.numbers ∙ or_right (has_number w.numbers n) (has_number v.numbers n) has) (k.owner n) h));
        fit = views_set (Fits about k.place owner) (set s.views id (joined v w)) other spent_view (spent_fits k.place owner other)
            (λ seat u not_other here. views_set (λ p x. p ≢ other → Fits about k.place owner p x) s.views id (joined v w) (λ _. fits) (λ p x _ there' not_other'. third p x not_other' there') seat u here not_other);
      }
