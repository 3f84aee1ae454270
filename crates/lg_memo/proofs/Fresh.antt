-- The empty shards of a new memo.
use Rattle.std.proofs.Common.{◌≡◌, ℕ, ◌+◌, List, [], ◌∷◌, ◌++◌, length, ap, sym, ◌∙◌, subst}
use Rattle.std.specs.Prelude.{Some, IsSomeAnd}
use Rattle.std.specs.List.{All}
use Rattle.std.proofs.lemmas.List.{length_push}
use Rattle.std.proofs.lemmas.List.Elements.{All-nil}
use mathlib.Core.Option.{some}
use lib.ListN.{get_elem?}
use Rattle.lg_memo.specs.Rule.{IsStored}
use Rattle.lg_memo.proofs.Keeping.{Maybe, views_push}

module _ {X N K V : Type 0} (Right : N → K → V → Type 0) (items : List (Maybe X)) (number : X → ℕ) (pairs : X → List (K × V)) where
  abbrev Stored : List (Maybe X) → Type 0
  Stored l = (name : N) (shard : ℕ) (content : Maybe X) → get_elem? l shard ≡ some content → IsSomeAnd content (λ (s : X). IsStored Right name shard 0 (number s) (pairs s))

  -- one shard more
  pub one_more : (after : List (Maybe X)) (x : X) (count : ℕ) → length items ≡ count → after ≡ items ++ Some x ∷ [] → number x ≡ count → pairs x ≡ [] → Stored items
      → (length after ≡ count + 1) × Stored after
  one_more after x count size is numbered empty all =
      let fresh : (name : N) → IsStored Right name (length items) 0 (number x) (pairs x) = λ name. record {
        same_number = numbered ∙ sym size;
        size = ap (λ (l : List (K × V)). length l) empty;
        right = subst (λ (l : List (K × V)). All (λ (e : K × V). Right name e.0 e.1) l) (sym empty) (All-nil (λ (e : K × V). Right name e.0 e.1));
      } in (
        ap (λ (l : List (Maybe X)). length l) is ∙ length_push items (Some x) ∙ ap (λ (n : ℕ). n + 1) size,
        subst (λ (l : List (Maybe X)). Stored l) (sym is)
            (λ name. views_push (λ (k : ℕ) (content : Maybe X). IsSomeAnd content (λ (s : X). IsStored Right name k 0 (number s) (pairs s))) items (Some x) (fresh name) (all name)),
      )
