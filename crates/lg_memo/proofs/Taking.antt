-- A seat takes a shard, or finds that another has it; and gives it back.
use Rattle.std.proofs.Common.{◌≡◌, ℕ, ◌+◌, ◌*◌, ◌^◌, ◌<◌, ◌≤◌, List, [], ◌∷◌, length, set, get_or, refl, ap, sym, ◌∙◌, subst, arith, length-set}
use Rattle.std.specs.Prelude.{None, Some, IfSome, bit_or}
use Rattle.std.proofs.lemmas.List.{set-get_or}
use mathlib.Core.Option.{none, some}
use lib.ListN.{get_elem?}
use Rattle.atomic_table.specs.Table.{State, Me, Act, Valid, step, stepped, keeps, takes, gives, carried_after, Allows}
use Rattle.atomic_table.proofs.Lists.{set_here}
use Rattle.lg_memo.specs.declared.view.About.{About}
use Rattle.lg_memo.specs.declared.view.View.{View}
use Rattle.lg_memo.specs.Views.{counted, has_number, loses, takes_shard, gives_shard}
use Rattle.lg_memo.specs.Rule.{Place, count_of, word_of, IsShard, Holds, Fits, IsKept}
use Rattle.lg_memo.specs.Rule.Place.{home, out}
use Rattle.lg_memo.specs.Steps.{Takes, Gives}
use Rattle.lg_memo.proofs.Parity.{even_next, odd_stays}
use Rattle.lg_memo.proofs.Places.{home_is_not_out, one_seat, one_count, placed, placed_here, each_placed, known_more, no_fewer, shards_set}
use Rattle.lg_memo.proofs.Keeping.{views_set, is_there, same_view, has_none_apart, holds_set, holds_here, stands_set, fits_else, not_spent, shard_in}

module _ {N S : Type 0} (Good : About N → ℕ → ℕ → S → Type 0) (about : About N) where
  -- what a step of the seat owes
  abbrev Owes : (s : State S (View N)) → ℕ → Me S (View N) → ℕ → ℕ → (Me S (View N) → Type 0) → Type 0
  Owes s id me shard word then = (w : View N) × (a : Act S) × Valid s.homes me.1 a × IsKept Good about (stepped s shard word id me.1 w a) × then (w, carried_after me.1 a)

  -- a step that changes the view of a seat with no shard, and no place
  pub own_view : (s : State S (View N)) (k : IsKept Good about s) (id : ℕ) (v w : View N) (shard : ℕ) (slots : List (ℕ × S)) → get_elem? s.views id ≡ some v → v.has ≡ None
      → w.numbers ≡ v.numbers → Fits about k.place k.owner id w → (word : ℕ) → word ≡ get_or s.words shard 0 → IsKept Good about (stepped s shard word id slots w keeps)
  own_view s k id v w shard slots at none_had numbers fits word same =
      let whole : set s.words shard word ≡ s.words = ap (λ (n : ℕ). set s.words shard n) same ∙ set-get_or s.words shard 0 in
      subst (λ (l : List ℕ). IsKept Good about (record { words = l; homes = s.homes; views = set s.views id w })) (sym whole)
      (record {
        place = k.place;
        owner = k.owner;
        words = k.words;
        slots = k.slots;
        shards = λ j less. let r = k.shards j less in record { word = r.word; slot = r.slot; few = r.few };
        holders = λ j seat n is. let h = k.holders j seat n is in holds_set s.views id w seat j n (has_none_apart s.views id v at none_had seat j n h) h;
        seated = λ n less. stands_set s.views id v w n at (λ has. ap (λ (l : List ℕ). has_number l n) numbers ∙ has) (k.owner n) (k.seated n less);
        fit = views_set (Fits about k.place k.owner) s.views id w fits (λ other u _ there. k.fit other u there);
      })

  module _ (s : State S (View N)) (k : IsKept Good about s) (id : ℕ) (me : Me S (View N)) (at : get_elem? s.views id ≡ some me.0) (mine : me.0.about ≡ Some about) (none_had : me.0.has ≡ None)
      (slots shard : ℕ) (less : shard < about.shards) where
    lost_shard : (seat n : ℕ) → k.place shard ≡ out seat n → Owes s id me shard (bit_or (get_or s.words shard 0) 1) (Takes Good (step slots shard 1 0 none) me (get_or s.words shard 0))
    lost_shard seat n is =
        let f = k.fit id me.0 at in
        let word : get_or s.words shard 0 ≡ 2 * n + 1 = (k.shards shard less).word ∙ ap word_of is in
        let stays : bit_or (get_or s.words shard 0) 1 ≡ get_or s.words shard 0 = ap (λ (m : ℕ). bit_or m 1) word ∙ odd_stays n ∙ sym word in
        let fits : Fits about k.place k.owner id (loses me.0) = record { same = f.same; owned = f.owned; stands = f.stands; known = f.known; has = f.has; spent = not_spent me.0 about _ mine } in (
          loses me.0,
          keeps,
          tt,
          own_view s k id me.0 (loses me.0) shard me.1 at none_had refl fits (bit_or (get_or s.words shard 0) 1) stays,
          ((λ odd. refl), (λ even. absurd (even (omega arith)))),
        )

    took_shard : (n : ℕ) → k.place shard ≡ home n → Owes s id me shard (bit_or (get_or s.words shard 0) 1) (Takes Good (step slots shard 1 0 none) me (get_or s.words shard 0))
    took_shard n is =
        let f = k.fit id me.0 at in
        let r : IsShard (Good about shard) s shard (home n) = subst (λ (p : Place). IsShard (Good about shard) s shard p) is (k.shards shard less) in
        let content : S = r.slot.0 in
        let word : get_or s.words shard 0 ≡ 2 * n = r.word in
        let next : bit_or (get_or s.words shard 0) 1 ≡ 2 * n + 1 = ap (λ (m : ℕ). bit_or m 1) word ∙ even_next n in
        let count : count_of (k.place shard) ≡ n = ap count_of is in
        let more : count_of (k.place shard) ≤ n = omega arith in
        let in_words : shard < length s.words = subst (λ (m : ℕ). shard < m) (sym k.words) less in
        let in_homes : shard < length s.homes = subst (λ (m : ℕ). shard < m) (sym k.slots) less in
        let w : View N = takes_shard me.0 shard n in
        let views : List (View N) = set s.views id w in
        let place : ℕ → Place = placed k.place shard (out id n) in
        let fits : Fits about place k.owner id w = record {
          same = f.same;
          owned = f.owned;
          stands = f.stands;
          known = (
            subst (λ (p : Place). n ≤ count_of p) (sym (placed_here k.place shard (out id n))) (omega arith),
            known_more k.place shard (out id n) more me.0.known f.known,
          );
          has = (less, placed_here k.place shard (out id n));
          spent = not_spent me.0 about _ mine;
        } in
        let kept : IsKept Good about (stepped s shard (bit_or (get_or s.words shard 0) 1) id me.1 w (takes shard content)) = record {
          place = place;
          owner = k.owner;
          words = length-set s.words shard _ ∙ k.words;
          slots = length-set s.homes shard _ ∙ k.slots;
          shards = shards_set (Good about) about.shards s views k.place shard (out id n) (bit_or (get_or s.words shard 0) 1) none k.shards in_words next (set_here s.homes shard none in_homes) r.few;
          holders = λ j seat m. each_placed (λ (i : ℕ) (p : Place). p ≡ out seat m → Holds views seat i m) k.place shard (out id n)
              (λ same. let who : id ≡ seat = one_seat (out id n) id seat n m refl same in let many : n ≡ m = one_count (out id n) id seat n m refl same in
              subst (λ (z : ℕ × ℕ). Holds views z.0 shard z.1) (λ i. (who i, many i)) (holds_here s.views id w shard n (is_there s.views id me.0 at) refl))
              (λ other _ there. let h = k.holders other seat m there in holds_set s.views id w seat other m (has_none_apart s.views id me.0 at none_had seat other m h) h)
              j;
          seated = λ m small. stands_set s.views id me.0 w m at (λ has. has) (k.owner m) (k.seated m small);
          fit = views_set (Fits about place k.owner) s.views id w fits
              (λ other u _ there. fits_else about k.place k.owner shard (out id n) more other u (λ m had. home_is_not_out (k.place shard) n m other is had) (k.fit other u there));
        } in (
          w,
          takes shard content,
          r.slot.1,
          kept,
          (
            (λ odd. absurd (omega arith)),
            (λ even. record {
              entries = n;
              content = content;
              seat = refl;
              good = subst (λ o. IfSome o (λ a. Good a shard n content)) (sym mine) r.slot.2;
              known = no_fewer k.place shard n count me.0.known f.known;
            }),
          ),
        )

    take_by : (p : Place) → k.place shard ≡ p → Owes s id me shard (bit_or (get_or s.words shard 0) 1) (Takes Good (step slots shard 1 0 none) me (get_or s.words shard 0))
    take_by (home n) is = took_shard n is
    take_by (out seat n) is = lost_shard seat n is

  pub take_allows : (slots id : ℕ) (me : Me S (View N)) (shard : ℕ) → me.0.about ≡ Some about → me.0.has ≡ None → shard < about.shards
      → Allows (IsKept Good about) slots id me shard (λ n. bit_or n 1) (Takes Good (step slots shard 1 0 none) me)
  take_allows slots id me shard mine none_had less s k size at small = take_by s k id me at mine none_had slots shard less (k.place shard) refl

  pub give_allows : (slots id : ℕ) (v : View N) (shard n entries : ℕ) (content : S) → v.about ≡ Some about → v.has ≡ Some (counted shard n) → Good about shard entries content → n ≤ entries → entries ≤ 2 ^ 62
      → Allows (IsKept Good about) slots id (v, (shard, content) ∷ []) shard (λ _. 2 * entries) (λ _. Gives (step slots shard (2 * entries) 0 none) (v, (shard, content) ∷ []) (2 * entries))
  give_allows slots id v shard n entries content mine had good grown few s k size at small =
      let f = k.fit id v at in
      let its : (shard < about.shards) × (k.place shard ≡ out id n) = subst (λ o. IfSome o (λ t. (t.shard < about.shards) × (k.place t.shard ≡ out id t.entries))) had f.has in
      let less = its.0 in
      let is = its.1 in
      let count : count_of (k.place shard) ≡ n = ap count_of is in
      let more : count_of (k.place shard) ≤ entries = omega arith in
      let in_words : shard < length s.words = subst (λ (m : ℕ). shard < m) (sym k.words) less in
      let in_homes : shard < length s.homes = subst (λ (m : ℕ). shard < m) (sym k.slots) less in
      let w : View N = gives_shard v shard entries in
      let views : List (View N) = set s.views id w in
      let place : ℕ → Place = placed k.place shard (home entries) in
      let fits : Fits about place k.owner id w = record {
        same = f.same;
        owned = f.owned;
        stands = f.stands;
        known = (
          subst (λ (p : Place). entries ≤ count_of p) (sym (placed_here k.place shard (home entries))) (omega arith),
          known_more k.place shard (home entries) more v.known f.known,
        );
        has = tt;
        spent = not_spent v about _ mine;
      } in
      let kept : IsKept Good about (stepped s shard (2 * entries) id ((shard, content) ∷ []) w gives) = record {
        place = place;
        owner = k.owner;
        words = length-set s.words shard _ ∙ k.words;
        slots = length-set s.homes shard _ ∙ k.slots;
        shards = shards_set (Good about) about.shards s views k.place shard (home entries) (2 * entries) (some content) k.shards in_words refl (content, set_here s.homes shard (some content) in_homes, good) few;
        holders = λ j seat m. each_placed (λ (i : ℕ) (p : Place). p ≡ out seat m → Holds views seat i m) k.place shard (home entries)
            (λ same. absurd (home_is_not_out (home entries) entries m seat refl same))
            (λ other apart there. let h = k.holders other seat m there in
            holds_set s.views id w seat other m
            (λ same. apart (sym (ap shard_in (sym had ∙ ap (λ (z : View N). z.has) (same_view s.views id seat v h.view at h.there same) ∙ h.has))))
            h)
            j;
        seated = λ m small'. stands_set s.views id v w m at (λ has. has) (k.owner m) (k.seated m small');
        fit = views_set (Fits about place k.owner) s.views id w fits
            (λ other u apart there. fits_else about k.place k.owner shard (home entries) more other u (λ m its'. apart (one_seat (k.place shard) other id m n its' is)) (k.fit other u there));
      } in (
        w,
        gives,
        tt,
        kept,
        (λ m same. let e : entries ≡ m = omega arith in ap (λ (z : ℕ). (gives_shard v shard z, [])) e),
      )
