-- What a seat is after each of its calls.
use Rattle.std.proofs.Common.{◌≡◌, ℕ, ◌*◌, ◌^◌, ◌<◌, ◌≤◌, List, [], ◌∷◌, refl, ap, sym, ◌∙◌, subst}
use Rattle.std.specs.Prelude.{None, Some, IfNone, IsSomeAnd}
use mathlib.Core.Option.{none}
use Rattle.atomic_table.specs.Table.{Me, step, Allows, rest}
use Rattle.atomic_table.specs.Seated.{TableId}
use Rattle.lg_memo.specs.declared.view.About.{About}
use Rattle.lg_memo.specs.declared.view.View.{View}
use Rattle.lg_memo.specs.Views.{takes_shard, gives_shard, joined}
use Rattle.lg_memo.specs.Rule.{IsKept}
use Rattle.lg_memo.specs.Steps.{Taken, Gives, IsFree, HasShard}
use Rattle.lg_memo.proofs.Keeping.{Maybe}
use Rattle.lg_memo.proofs.Taking.{give_allows}

pub not_none : {X : Type 0} (Q : X → Type 0) (Z : Type 0) (x : Maybe X) → IsSomeAnd x Q → IfNone x Z
not_none Q Z None is = absurd is
not_none Q Z (Some s) is = tt

module _ {S : Type 0} where
  -- the list of a seat's slots, with the first apart
  pub first_apart : (slots more : List (ℕ × S)) (x : ℕ × S) → slots ≡ x ∷ more → slots ≡ x ∷ rest slots
  first_apart slots more x e = e ∙ ap (λ (l : List (ℕ × S)). x ∷ l) (sym (ap (λ (l : List (ℕ × S)). rest l) e))

module _ {N S : Type 0} (table : TableId) (about : About N) (its_table : TableId) (me : Me S (View N)) where
  -- the seat took what was there, and left something else in the slot
  module _ (Good : About N → ℕ → ℕ → S → Type 0) (free : IsFree table about its_table me) (shard : ℕ) (within : shard < about.shards) (between after : Me S (View N)) (t : Taken Good shard me between) (found vacant : S)
      (had : between.1 ≡ (shard, found) ∷ rest between.1) (is : after ≡ (between.0, (shard, vacant) ∷ rest between.1)) where
    slots_were : between.1 ≡ (shard, t.content) ∷ []
    slots_were = ap (λ (m : Me S (View N)). m.1) t.seat ∙ ap (λ (l : List (ℕ × S)). (shard, t.content) ∷ l) free.no_slot

    after_is : after ≡ (takes_shard me.0 shard t.entries, (shard, vacant) ∷ [])
    after_is = is ∙ (λ i. ((ap (λ (m : Me S (View N)). m.0) t.seat) i, (shard, vacant) ∷ rest (slots_were i)))

    pub took_shard : (its_table' : TableId) → its_table' ≡ its_table → HasShard table about vacant its_table' after shard t.entries
    took_shard its_table' there = subst (λ (z : TableId × Me S (View N)). HasShard table about vacant z.0 z.1 shard t.entries) (λ i. (sym there i, sym after_is i))
        (record { same_table = free.same_table; same_memo = free.same_memo; within = within; has = refl; one_slot = refl })

  -- the seat put what it gives back into the slot
  module _ (shard n entries : ℕ) (vacant content : S) (had : HasShard table about vacant its_table me shard n) (between : Me S (View N)) (is : between ≡ (me.0, (shard, content) ∷ rest me.1)) (word : ℕ) (word_is : word ≡ 2 * entries) where
    between_is : between ≡ (me.0, (shard, content) ∷ [])
    between_is = is ∙ ap (λ (l : List (ℕ × S)). (me.0, (shard, content) ∷ rest l)) had.one_slot

    pub gives_back : (Good : About N → ℕ → ℕ → S → Type 0) (slots id : ℕ) → Good about shard entries content → n ≤ entries → entries ≤ 2 ^ 62
        → Allows (IsKept Good about) slots id between shard (λ _. word) (λ _. Gives (step slots shard word 0 none) between word)
    gives_back Good slots id good grown few = subst (λ (z : Me S (View N) × ℕ). Allows (IsKept Good about) slots id z.0 shard (λ _. z.1) (λ _. Gives (step slots shard z.1 0 none) z.0 z.1)) (λ i. (sym between_is i, sym word_is i))
        (give_allows Good about slots id me.0 shard n entries content had.same_memo had.has good grown few)

    gave : (slots : ℕ) (after : Me S (View N)) → Gives (step slots shard word 0 none) between word after → after ≡ (gives_shard me.0 shard entries, [])
    gave slots after told = told entries word_is ∙ ap (λ (m : Me S (View N)). (gives_shard m.0 shard entries, rest m.1)) between_is

    pub gave_view : (slots : ℕ) (after : Me S (View N)) → Gives (step slots shard word 0 none) between word after → after.0 ≡ gives_shard me.0 shard entries
    gave_view slots after told = ap (λ (m : Me S (View N)). m.0) (gave slots after told)

    pub gave_is_free : (slots : ℕ) (after : Me S (View N)) → Gives (step slots shard word 0 none) between word after → (its_table' : TableId) → its_table' ≡ its_table → IsFree table about its_table' after
    gave_is_free slots after told its_table' there = subst (λ (z : TableId × Me S (View N)). IsFree table about z.0 z.1) (λ i. (sym there i, sym (gave slots after told) i))
        (record { same_table = had.same_table; same_memo = had.same_memo; no_shard = refl; no_slot = refl })

  pub joined_is_free : IsFree table about its_table me → (w : View N) (its_table' : TableId) (after : Me S (View N)) → its_table' ≡ its_table → after ≡ (joined me.0 w, me.1) → IsFree table about its_table' after
  joined_is_free free w its_table' after there is = subst (λ (z : TableId × Me S (View N)). IsFree table about z.0 z.1) (λ i. (sym there i, sym is i))
      (record { same_table = free.same_table; same_memo = free.same_memo; no_shard = free.no_shard; no_slot = free.no_slot })
