-- The good linkages without a chain are those of the plain problem.
use Rattle.std.proofs.Common.{◌≡◌, ℕ, zero, suc, ◌+◌, ◌-◌, ◌<◌, inl, inr, List, [], Some, Contains, ap, sym, ◌∙◌, arith}
use Rattle.std.specs.Prelude.{slice_index_or}
use Rattle.lg_gram.specs.Linkages.{Linkage}
use Rattle.lg_gram.specs.Rules.{Good, chosen_at}
use Rattle.lg_gram.specs.declared.disjunct.Disjunct.{Disjunct}
use Rattle.lg_idiom.specs.Idioms.{Chain}
use Rattle.lg_idiom.specs.Wholes.{AreChainsOfIdioms, AreLaidOver, IsAddedAt, UsesNone, PlainLinkagesStay}
use Rattle.lg_idiom.proofs.Parts.{Part, part_of}
use Rattle.lg_idiom.proofs.Using.{next_first, before_first, plain_right, plain_left}

module _ (taken : List Chain) (plain positions : List (List Disjunct)) (are : AreChainsOfIdioms taken) (over : AreLaidOver taken plain positions) (g : Linkage) where
  -- a disjunct that is added is one that a chain uses
  not_added : ((c : Chain) → Contains taken c → UsesNone g c) → (p : ℕ) (d : Disjunct) → chosen_at g p ≡ Some d → IsAddedAt taken p d → ⊥
  not_added none p d is added =
      let (c, m, covers, of) = added in
      let from = covers.0 in
      let to = covers.1 in
      let place : c.start + (p - c.start) ≡ p = omega (arith, from) in
      none c m (p - c.start) (omega (arith, from, to)) (d, ap (chosen_at g) place ∙ is, of)

  pub without : Good positions g → ((c : Chain) → Contains taken c → UsesNone g c) → Good plain g
  without good none = record {
    belongs = record {
      same_length = good.belongs.same_length ∙ over.same_length;
      listed = λ p d is. elim ((over.exactly p d).0 (good.belongs.listed p d is)) [
        | inl in_plain ↦ in_plain
        | inr added ↦ absurd (not_added none p d is added)
      ];
      set = good.belongs.set;
    };
    rules = good.rules;
    connected = good.connected;
  }

  -- each disjunct of a chain has a joint
  no_part : (c : Chain) → Contains taken c → (p i : ℕ) (d : Disjunct) → Contains (slice_index_or plain p []) d → i < c.count → Part c d i → ⊥
  no_part c m p zero d in_plain less part =
      let several = are.several c m in
      plain_right taken plain positions are over p d 0 c m 0 (omega (arith, several)) in_plain (next_first c d 0 part (omega (arith, several)))
  no_part c m p (suc k) d in_plain less part = plain_left taken plain positions are over p d 0 c m k (omega (arith, less)) in_plain (before_first c d k part)

  pub within : Good plain g → Good positions g × ((c : Chain) → Contains taken c → UsesNone g c)
  within good = (
    record {
      belongs = record {
        same_length = good.belongs.same_length ∙ sym over.same_length;
        listed = λ p d is. (over.exactly p d).1 (inl (good.belongs.listed p d is));
        set = good.belongs.set;
      };
      rules = good.rules;
      connected = good.connected;
    },
    λ c m i less uses. no_part c m (c.start + i) i uses.0 (good.belongs.listed (c.start + i) uses.0 uses.1) less (part_of c i uses.0 uses.2),
  )

pub plain_linkages_stay : PlainLinkagesStay
plain_linkages_stay taken plain positions are over g = (λ h. without taken plain positions are over g h.0 h.1, λ h. within taken plain positions are over g h)
