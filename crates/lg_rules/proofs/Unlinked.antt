-- The linkage with every position unlinked is good.
use Rattle.std.proofs.Common.{◌≡◌, ℕ, suc, zero, List, [], ◌∷◌, get_or, refl, arith, Option, Some, None, IsSome}
use Rattle.std.specs.List.{AllZip, Contains}
use Rattle.lg_gram.specs.declared.disjunct.Disjunct.{Disjunct}
use Rattle.lg_gram.specs.declared.linkage.Link.{Link}
use Rattle.lg_rules.specs.Verdicts.{IsSound}
use Rattle.lg_rules.specs.Steps.{IsPick}
use Rattle.lg_rules.specs.Places.{linkage_of}

abbrev pub all_unlinked : List (List Disjunct) → List (Option Disjunct)
all_unlinked [] = []
all_unlinked (row ∷ rows) = None ∷ all_unlinked rows

none_at : (rows : List (List Disjunct)) (i : ℕ) → get_or (all_unlinked rows) i None ≡ None
none_at [] i = refl
none_at (row ∷ rows) zero = refl
none_at (row ∷ rows) (suc i) = none_at rows i

pub unlinked_picks : (rows : List (List Disjunct)) → AllZip IsPick rows (all_unlinked rows)
unlinked_picks [] = tt
unlinked_picks (row ∷ rows) = (tt, unlinked_picks rows)

no_link : (l : Link) → Contains [] l → ⊥
no_link l m = omega (arith, m.1)

none_some : (o : Option Disjunct) → o ≡ None → IsSome o → ⊥
none_some None e h = cc
none_some (Some d) e h = cc

pub unlinked_sound : (rows : List (List Disjunct)) → IsSound (linkage_of (all_unlinked rows) [])
unlinked_sound rows = record {
  rules = record {
    matched = record { forward = λ l m. absurd (no_link l m); joins = λ l m. absurd (no_link l m) };
    satisfied = record {
      on_right = λ i p c h. absurd (let e = rw (none_at rows i) at h in cc);
      on_left = λ i p c h. absurd (let e = rw (none_at rows i) at h in cc);
    };
    planar = λ k l m. absurd (no_link k m);
    ordered = record { on_right = λ k l m. absurd (no_link k m); on_left = λ k l m. absurd (no_link k m) };
    exclusive = λ k l m. absurd (no_link k m);
  };
  connected = λ i j h. absurd (none_some (get_or (all_unlinked rows) i None) (none_at rows i) h);
}
