-- The seats of a memo that is closed, joined one by one, and its shards.
use Rattle.std.proofs.Common.{◌≡◌, ℕ, ◌<◌, List, [], ◌∷◌, ◌++◌, length, map, get_or, ap, sym, ◌∙◌, subst, arith, append_assoc, append-nil}
use Rattle.std.specs.Prelude.{Some, IfSome, IsSomeAnd, option_to_list}
use Rattle.std.specs.List.{All, flat_map, range_with_len}
use Rattle.std.proofs.lemmas.List.{length-map}
use Rattle.std.proofs.lemmas.List.Elements.{All-pop}
use Rattle.std.proofs.lemmas.Grind.{flat_map-append}
use mathlib.Core.Option.{some}
use lib.ListN.{get_elem?}
use Rattle.lg_memo.specs.declared.view.Count.{Count}
use Rattle.lg_memo.specs.Entries.{AreRight}
use Rattle.lg_memo.specs.Views.{NoFewer}
use Rattle.lg_memo.specs.Rule.{IsStored}
use Rattle.lg_memo.proofs.Keeping.{Maybe}
use Rattle.lg_memo.proofs.AtHome.{each_shard, numbers_rise}

module _ {A : Type 0} (old new : List A) (r : Maybe A) (x : A) (e : old ≡ new ++ option_to_list r) (is : r ≡ Some x) where
  pub all_but_last : (P : A → Type 0) → All P old → P x × All P new
  all_but_last P all = let parts = All-pop P old new r e all in (subst (λ (o : Maybe A). IfSome o P) is parts.1, parts.0)

  pub flat_last : {B : Type 0} (f : A → List B) → flat_map f new ++ f x ≡ flat_map f old
  flat_last f = sym (ap (λ l. flat_map f l) (e ∙ ap (λ (o : Maybe A). new ++ option_to_list o) is) ∙ flat_map-append f new (x ∷ []) ∙ ap (λ l. flat_map f new ++ l) (append-nil (f x)))

  pub flat_next : {B : Type 0} (f : A → List B) (all whole now : List B) → flat_map f old ++ all ≡ whole → now ≡ f x ++ all → flat_map f new ++ now ≡ whole
  flat_next f all whole now was is_now = ap (λ l. flat_map f new ++ l) is_now ∙ sym (append_assoc (flat_map f new) (f x) all) ∙ ap (λ l. l ++ all) (flat_last f) ∙ was

module _ {X N K V : Type 0} (Right : N → K → V → Type 0) (name : N) (known : List Count) (count : ℕ) (contents : List (Maybe X)) (shards : List X) (number : X → ℕ) (pairs : X → List (K × V))
    (are : map (λ (s : X). Some s) shards ≡ contents) (size : length contents ≡ count)
    (all : (k : ℕ) → k < count → (content : Maybe X) × (n : ℕ) × (get_elem? contents k ≡ some content) × IsSomeAnd content (λ (s : X). IsStored Right name k n (number s) (pairs s)) × NoFewer known k n) where
  each : (k : ℕ) (d : X) → k < length shards → (n : ℕ) × IsStored Right name k n (number (get_or shards k d)) (pairs (get_or shards k d)) × NoFewer known k n
  each = each_shard (λ (k n : ℕ) (s : X). IsStored Right name k n (number s) (pairs s)) known count contents shards are size all

  pub closed_numbers : map number shards ≡ range_with_len 0 count
  closed_numbers =
      let long : length shards ≡ count = sym (length-map shards (λ (s : X). Some s)) ∙ ap (λ l. length l) are ∙ size in
      numbers_rise number shards 0 (λ k d less. let is : number (get_or shards k d) ≡ k = (each k d less).1.same_number in is ∙ omega arith) ∙ ap (λ (n : ℕ). range_with_len 0 n) long

  pub closed_right : All (λ (s : X). AreRight Right name (pairs s)) shards
  closed_right k d less = (each k d less).1.right

  pub closed_known : (known' : List Count) → known ≡ known' → All (λ (s : X). NoFewer known' (number s) (length (pairs s))) shards
  closed_known known' same k d less = let t = each k d less in
      subst (λ (z : List Count × ℕ × ℕ). NoFewer z.0 z.1 z.2) (λ i. (same i, sym t.1.same_number i, sym t.1.size i)) t.2
