-- A new memo, and one that is closed.
use Rattle.std.proofs.Common.{◌≡◌, ℕ, zero, suc, ◌+◌, ◌*◌, ◌%◌, ◌↔◌, ◌<◌, true, List, [], ◌∷◌, length, replicate, get_or, refl, ap, sym, ◌∙◌, subst, arith, true≢false}
use Rattle.std.specs.Prelude.{None, Some, IfSome, IfNone, is_none}
use Rattle.std.proofs.lemmas.List.{get_or-replicate, length-map, length-replicate}
use mathlib.Core.Option.{some, some-injective, some-ne-none}
use lib.ListN.{get_elem?}
use Rattle.atomic_table.specs.Table.{State, opening, Final, Seen}
use Rattle.atomic_table.proofs.Lists.{at_map}
use Rattle.lg_memo.specs.declared.view.About.{About}
use Rattle.lg_memo.specs.declared.view.Count.{Count}
use Rattle.lg_memo.specs.declared.view.View.{View}
use Rattle.lg_memo.specs.Views.{NoFewer, has_number, first_view, spent_view}
use Rattle.lg_memo.specs.Rule.{Place, count_of, word_of, IsShard, Holds, Fits, IsKept, OddIsTaken, NoShardTwice, EachInOneView}
use Rattle.lg_memo.specs.Rule.Place.{home, out}
use Rattle.lg_memo.proofs.Places.{home_is_not_out, one_seat, no_fewer}
use Rattle.lg_memo.proofs.Keeping.{Maybe, same_view}
use Rattle.lg_memo.proofs.Dealt.{has_each}

element : {A : Type 0} (xs : List A) (i : ℕ) → i < length xs → (a : A) × (get_elem? xs i ≡ some a)
element [] i less = absurd (omega arith)
element (x ∷ xs) zero less = (x, refl)
element (x ∷ xs) (suc i) less = element xs i (omega arith)

module _ {N S : Type 0} (Good : About N → ℕ → ℕ → S → Type 0) (about : About N) where
  pub opens : (words : List ℕ) (contents : List S) → words ≡ replicate about.shards 0 → length contents ≡ about.shards
      → ((shard : ℕ) (content : S) → get_elem? contents shard ≡ some content → Good about shard 0 content) → 0 < about.seats → IsKept Good about (opening words contents (first_view about))
  opens words contents are size good some_seat = record {
    place = λ _. home 0;
    owner = λ _. 0;
    words = ap (λ (l : List ℕ). length l) are ∙ length-replicate about.shards 0;
    slots = length-map contents some ∙ size;
    shards = λ j less. let e = element contents j (subst (λ (m : ℕ). j < m) (sym size) less) in record {
      word = ap (λ (l : List ℕ). get_or l j 0) are ∙ get_or-replicate about.shards j 0 0 less;
      slot = (e.0, at_map some contents j e.0 e.1, good j e.0 e.1);
      few = omega arith;
    };
    holders = λ j seat n is. absurd (home_is_not_out (home 0) 0 n seat refl is);
    seated = λ n less. record { view = first_view about; there = refl; has = has_each n 0 about.seats (omega arith) (omega arith) };
    fit = only_first;
  }
    where
      first_fits : Fits about (λ _. home 0) (λ _. 0) 0 (first_view about)
      first_fits = record { same = refl; owned = λ _ _. refl; stands = (0, some_seat, has_each 0 0 about.seats (omega arith) (omega arith)); known = tt; has = tt; spent = tt }

      only_first : (seat : ℕ) (v : View N) → get_elem? (first_view about ∷ []) seat ≡ some v → Fits about (λ _. home 0) (λ _. 0) seat v
      only_first zero v e = subst (λ (w : View N). Fits about (λ _. home 0) (λ _. 0) 0 w) (some-injective (first_view about) v e) first_fits
      only_first (suc seat) v e = absurd (some-ne-none v (sym e))

  module _ (s : State S (View N)) (k : IsKept Good about s) (id : ℕ) (v : View N) (at : get_elem? s.views id ≡ some v) (none_had : v.has ≡ None)
      (all : (n : ℕ) → n < about.seats → has_number v.numbers n ≡ true) where
    -- a seat that has a shard stands for some number, which this seat has
    alone : (seat shard n : ℕ) → k.place shard ≡ out seat n → ⊥
    alone seat shard n is =
        by_memo (k.holders shard seat n is).view.about refl
      where
        by_memo : (o : Maybe (About N)) → (k.holders shard seat n is).view.about ≡ o → ⊥
        by_memo None e =
            let h = k.holders shard seat n is in
            let g = k.fit seat h.view h.there in
            let spent : h.view ≡ spent_view = subst (λ o. IfNone o (h.view ≡ spent_view)) e g.spent in
            true≢false (ap is_none (sym (ap (λ (z : View N). z.has) spent) ∙ h.has))
        by_memo (Some a) e =
            let h = k.holders shard seat n is in
            let g = k.fit seat h.view h.there in
            let number = subst (λ o. IfSome o (λ _. (m : ℕ) × (m < about.seats) × (has_number h.view.numbers m ≡ true))) e g.stands in
            let who : seat ≡ id = sym (g.owned number.0 number.2) ∙ (k.fit id v at).owned number.0 (all number.0 number.1) in
            let alike : v ≡ h.view = same_view s.views id seat v h.view at h.there who in
            true≢false (ap is_none (sym none_had ∙ ap (λ (z : View N). z.has) alike ∙ h.has))

    at_home : (shard : ℕ) → shard < about.shards → (p : Place) → k.place shard ≡ p
        → (content : S) × (n : ℕ) × (get_elem? s.homes shard ≡ some (some content)) × Good about shard n content × NoFewer v.known shard n
    at_home shard less (home n) is =
        let r : IsShard (Good about shard) s shard (home n) = subst (λ (p : Place). IsShard (Good about shard) s shard p) is (k.shards shard less) in
        (r.slot.0, n, r.slot.1, r.slot.2, no_fewer k.place shard n (ap count_of is) v.known (k.fit id v at).known)
    at_home shard less (out seat n) is = absurd (alone seat shard n is)

    pub all_at_home : (shard : ℕ) → shard < about.shards → (content : S) × (n : ℕ) × (get_elem? s.homes shard ≡ some (some content)) × Good about shard n content × NoFewer v.known shard n
    all_at_home shard less = at_home shard less (k.place shard) refl

  pub closes : (id : ℕ) (v : View N) (words : List ℕ) (contents : List S) → v.has ≡ None → ((n : ℕ) → n < about.seats → has_number v.numbers n ≡ true)
      → Final (Seen (IsKept Good about) id v) words contents → (shard : ℕ) → shard < about.shards
      → (content : S) × (n : ℕ) × (get_elem? contents shard ≡ some content) × Good about shard n content × NoFewer v.known shard n
  closes id v words contents none_had all final shard less =
      let s = final.0 in
      let t = all_at_home s final.1.0 id v final.1.1 none_had all shard less in
      (t.0, t.1, final.4 shard t.0 t.2, t.3, t.4)

-- what holds of every memo at every time
module _ {N S : Type 0} (Good : About N → ℕ → ℕ → S → Type 0) where
  -- the shard that a seat has is out with it
  had_is_out : (memo : About N) (s : State S (View N)) (k : IsKept Good memo s) (seat shard n : ℕ) → Holds s.views seat shard n → k.place shard ≡ out seat n
  had_is_out memo s k seat shard n h =
      (subst (λ o. IfSome o (λ (t : Count). (t.shard < memo.shards) × (k.place t.shard ≡ out seat t.entries))) h.has (k.fit seat h.view h.there).has).1

  pub odd_is_taken : OddIsTaken (IsKept {N = N} {S = S} Good)
  odd_is_taken memo s k shard less = by_place (k.place shard) refl
    where
      by_place : (p : Place) → k.place shard ≡ p → (get_or s.words shard 0 % 2 ≡ 1) ↔ ((seat : ℕ) × (entries : ℕ) × Holds s.views seat shard entries)
      by_place (home n) is =
          let word : get_or s.words shard 0 ≡ 2 * n = (k.shards shard less).word ∙ ap word_of is in (
            (λ odd. absurd (omega arith)),
            (λ t. absurd (home_is_not_out (k.place shard) n t.1 t.0 is (had_is_out memo s k t.0 shard t.1 t.2))),
          )
      by_place (out seat n) is =
          let word : get_or s.words shard 0 ≡ 2 * n + 1 = (k.shards shard less).word ∙ ap word_of is in (
            (λ odd. (seat, n, k.holders shard seat n is)),
            (λ t. omega arith),
          )

  pub no_shard_twice : NoShardTwice (IsKept {N = N} {S = S} Good)
  no_shard_twice memo s k a b shard m n first second = one_seat (k.place shard) a b m n (had_is_out memo s k a shard m first) (had_is_out memo s k b shard n second)

  pub each_in_one_view : EachInOneView (IsKept {N = N} {S = S} Good)
  each_in_one_view memo s k n less = (k.owner n, k.seated n less, λ other h. sym ((k.fit other h.view h.there).owned n h.has))
