-- The table of kinds that match.
use Rattle.std.proofs.Common.{◌≡◌, ◌≢◌, ◌↔◌, ℕ, zero, suc, ◌+◌, ◌*◌, ◌%◌, ◌^◌, ◌<◌, ◌≤◌, ◌⊎◌, inl, inr, List, length, get_or, replicate, bit_or, refl, sym, ◌∙◌, ap, subst, Some, arith, length-set}
use Rattle.std.specs.List.{slice_get}
use Rattle.std.proofs.lemmas.Bool.{cases_eq, cases_lt}
use Rattle.std.proofs.lemmas.List.{get_or-set_same, get_or-set_other, length-replicate}
use Rattle.std.proofs.lemmas.Nat.Bits.{bit_at-zero}
use Rattle.std.proofs.lemmas.Option.{same_Some, slice_get_within, get_or_from_slice_get}
use Rattle.lg_base.specs.Bits.{bit_at}
use Rattle.lg_base.proofs.Bits.{bit_other, bit_same, bit_stays}
use Rattle.lg_gram.specs.Connectors.{Connector, Match}
use Rattle.lg_region.specs.Chains.{class_of_caps, IsNextOf}
use Rattle.lg_region.specs.Matching.{AreFilled, AreTried, IsTable, MatchAt, classes_of_kinds, has_bit, with_bit, word_of}
use Rattle.lg_region.proofs.Ends.{map_at}

-- one bit is set
module _ (bits : List ℕ) (near far : ℕ) (within : word_of near far < length bits) where
  abbrev at : ℕ
  at = word_of near far

  abbrev word : ℕ
  word = bit_or (get_or bits at 0) (2 ^ (far % 64))

  read : (i : ℕ) → i ≡ at → get_or (with_bit near far bits) i 0 ≡ word
  read i q = ap (λ z. get_or (with_bit near far bits) z 0) q ∙ get_or-set_same bits at word 0 within

  other : (i : ℕ) → i ≢ at → get_or (with_bit near far bits) i 0 ≡ get_or bits i 0
  other i f = get_or-set_other bits at i word 0 f

  bit_there : has_bit (with_bit near far bits) near far
  bit_there = ap (λ z. bit_at z (far % 64)) (read at refl) ∙ bit_same (get_or bits at 0) (far % 64)

  bit_kept : (a b : ℕ) → has_bit bits a b → has_bit (with_bit near far bits) a b
  bit_kept a b h = elim (cases_eq (word_of a b) at) [
    | inl q ↦ ap (λ z. bit_at z (b % 64)) (read (word_of a b) q) ∙ bit_stays (get_or bits at 0) (far % 64) (b % 64) (subst (λ z. bit_at (get_or bits z 0) (b % 64) ≡ 1) q h)
    | inr f ↦ ap (λ z. bit_at z (b % 64)) (other (word_of a b) f) ∙ h
  ]

  bit_back : (a b : ℕ) → b < 1024 → far < 1024 → has_bit (with_bit near far bits) a b → has_bit bits a b ⊎ ((a ≡ near) × (b ≡ far))
  bit_back a b lb lf h = elim (cases_eq (word_of a b) at) [
    | inl q ↦ elim (cases_eq (b % 64) (far % 64)) [
      | inl p ↦ inr (omega arith, omega arith)
      | inr f ↦ inl (subst (λ z. bit_at (get_or bits z 0) (b % 64) ≡ 1) (sym q)
          (sym (bit_other (get_or bits at 0) (far % 64) (b % 64) f) ∙ sym (ap (λ z. bit_at z (b % 64)) (read (word_of a b) q)) ∙ h))
    ]
    | inr f ↦ inl (sym (ap (λ z. bit_at z (b % 64)) (other (word_of a b) f)) ∙ h)
  ]

-- two kinds match where their connectors do
pub match_at : (kinds : List Connector) (near far : ℕ) (a b : Connector) → slice_get kinds near ≡ Some a → slice_get kinds far ≡ Some b → Match a b ↔ MatchAt kinds near far
match_at kinds near far a b at bt = (
  (λ m. record { first = a; second = b; is_first = at; is_second = bt; matched = m }),
  (λ m. subst (λ z. Match z b) (same_Some m.first a (sym m.is_first ∙ at)) (subst (λ z. Match m.first z) (same_Some m.second b (sym m.is_second ∙ bt)) m.matched)),
)

-- two kinds are tried
pub tried_set : (kinds : List Connector) (near far : ℕ) (old new : List ℕ) → length kinds ≤ 1024 → near < length kinds → far < length kinds → length old ≡ length kinds * 16 → MatchAt kinds near far → new ≡ with_bit near far old
    → AreTried kinds near far old new
tried_set kinds near far old new few ln lf words m e =
    let within : word_of near far < length old = omega arith in
    subst (λ z. AreTried kinds near far old z) (sym e) (record {
      level = length-set old (word_of near far) (bit_or (get_or old (word_of near far) 0) (2 ^ (far % 64)));
      kept = bit_kept old near far within;
      back = λ a b l h. elim (bit_back old near far within a b l (omega arith) h) [
        | inl k ↦ inl k
        | inr (p, q) ↦ inr (subst (λ z. MatchAt kinds z b) (sym p) (subst (λ z. MatchAt kinds near z) (sym q) m))
      ];
      there = λ x. bit_there old near far within;
    })

pub tried_not : (kinds : List Connector) (near far : ℕ) (old new : List ℕ) → (MatchAt kinds near far → ⊥) → new ≡ old → AreTried kinds near far old new
tried_not kinds near far old new differ e =
    subst (λ z. AreTried kinds near far old z) (sym e) (record { level = refl; kept = λ a b h. h; back = λ a b l h. inl h; there = λ m. absurd (differ m) })

-- no bit is set yet
zero_at : (n i : ℕ) → get_or (replicate {A = ℕ} n 0) i 0 ≡ 0
zero_at zero i = refl
zero_at (suc n) zero = refl
zero_at (suc n) (suc i) = zero_at n i

pub filled_none : (kinds : List Connector) (bits : List ℕ) → bits ≡ replicate (length kinds * 16) 0 → AreFilled kinds 0 0 bits
filled_none kinds bits e = record {
  words = ap (λ z. length z) e ∙ length-replicate {A = ℕ} (length kinds * 16) 0;
  sound = λ a b l h. absurd (
      let none : bit_at (get_or bits (word_of a b) 0) (b % 64) ≡ 0 = ap (λ z. bit_at (get_or z (word_of a b) 0) (b % 64)) e ∙ ap (λ z. bit_at z (b % 64)) (zero_at (length kinds * 16) (word_of a b)) ∙ bit_at-zero (b % 64) in
      omega arith
      );
  rows = λ a b l m. absurd (omega arith);
  row = λ b l m. absurd (omega arith);
}

kind_class : (kinds : List Connector) (n : ℕ) (c : Connector) → slice_get kinds n ≡ Some c → get_or (classes_of_kinds kinds) n 0 ≡ class_of_caps c.caps
kind_class kinds n c at = map_at (λ c. class_of_caps c.caps) kinds n c 0 (slice_get_within kinds n c at) (sym (get_or_from_slice_get kinds n c c at))

-- kinds that match have the same class
match_class : (kinds : List Connector) (near far : ℕ) → MatchAt kinds near far → get_or (classes_of_kinds kinds) far 0 ≡ get_or (classes_of_kinds kinds) near 0
match_class kinds near far m = kind_class kinds far m.second m.is_second ∙ sym (ap class_of_caps m.matched.capitals) ∙ sym (kind_class kinds near m.first m.is_first)

-- a row is filled up to the first kind of the class
pub filled_first : (kinds : List Connector) (near first : ℕ) (bits : List ℕ) → AreFilled kinds near 0 bits → IsNextOf (classes_of_kinds kinds) (get_or (classes_of_kinds kinds) near 0) 0 first → AreFilled kinds near first bits
filled_first kinds near first bits so is = record {
  words = so.words;
  sound = so.sound;
  rows = so.rows;
  row = λ b l m. absurd (is.others b (omega arith) l (match_class kinds near b m));
}

-- a kind of the class is tried
pub filled_more : (kinds : List Connector) (near far next : ℕ) (old new : List ℕ) → length kinds ≤ 1024 → AreFilled kinds near far old → AreTried kinds near far old new
    → IsNextOf (classes_of_kinds kinds) (get_or (classes_of_kinds kinds) near 0) (suc far) next → AreFilled kinds near next new
filled_more kinds near far next old new few so tried is = record {
  words = tried.level ∙ so.words;
  sound = λ a b l h. elim (tried.back a b (omega arith) h) [ inl k ↦ so.sound a b l k | inr m ↦ m ];
  rows = λ a b l m. tried.kept a b (so.rows a b l m);
  row = λ b l m. elim (cases_lt b far) [
    | inl h ↦ tried.kept near b (so.row b h m)
    | inr h ↦ elim (cases_eq far b) [
      | inl q ↦ subst (λ z. has_bit new near z) q (tried.there (subst (λ z. MatchAt kinds near z) (sym q) m))
      | inr f ↦ absurd (is.others b (omega arith) l (match_class kinds near b m))
    ]
  ];
}

-- a row is filled
pub filled_row : (kinds : List Connector) (near far : ℕ) (bits : List ℕ) → length kinds ≤ far → AreFilled kinds near far bits → AreFilled kinds (near + 1) 0 bits
filled_row kinds near far bits past so = record {
  words = so.words;
  sound = so.sound;
  rows = λ a b l m. elim (cases_lt a near) [
    | inl h ↦ so.rows a b h m
    | inr h ↦ (
        let q : near ≡ a = omega arith in
        let w = slice_get_within kinds b m.second m.is_second in
        subst (λ z. has_bit bits z b) q (so.row b (omega arith) (subst (λ z. MatchAt kinds z b) (sym q) m))
        )
  ];
  row = λ b l m. absurd (omega arith);
}

-- all rows are filled
pub table_is : (kinds : List Connector) (rows : ℕ) (bits : List ℕ) → length kinds ≤ 1024 → length kinds ≤ rows → AreFilled kinds rows 0 bits → IsTable kinds bits
table_is kinds rows bits few past so = record {
  few = few;
  words = so.words;
  right = λ near far l. (so.sound near far l, λ m. let w = slice_get_within kinds near m.first m.is_first in so.rows near far (omega arith) m);
}
