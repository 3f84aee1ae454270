-- What is in the table when the whole sentence was asked for.
use Rattle.std.proofs.Common.{◌≡◌, ◌≢◌, ◌↔◌, ℕ, suc, ◌+◌, ◌<◌, ◌≤◌, inl, inr, refl, sym, ap, ◌∙◌, subst, List, [], ◌∷◌, length, Contains, arith}
use Rattle.std.proofs.lemmas.Bool.{cases_lt}
use Rattle.std.proofs.lemmas.List.{length-map}
use Rattle.std.specs.Map.{keys_of}
use Rattle.lg_gram.specs.Connectors.{Connector}
use Rattle.lg_gram.specs.Levels.{IsFewest}
use Rattle.lg_gram.specs.Linkages.{unlinked}
use Rattle.lg_gram.specs.declared.disjunct.Disjunct.{Disjunct}
use Rattle.lg_region.specs.Fronts.{Numbering, AreListsOf, AreOnce, all_fronts}
use Rattle.lg_region.specs.Keys.{IsValidKey}
use Rattle.lg_region.specs.declared.key.Key.{Key}
use Rattle.lg_region.specs.declared.key.Key.TheVariants.{Whole}
use Rattle.lg_region.specs.declared.alternative.Alt.{Alt}
use Rattle.lg_region.specs.declared.alternative.Alt.TheVariants.{AllNull}
use Rattle.lg_forest.specs.Demands.{HasLinkageUnder, IsDemanded, Reaches}
use Rattle.lg_forest.specs.Forests.{Forest, IsForest, CountsKeys, AreLive}
use Rattle.lg_forest.specs.Search.{KeysAreDecided, Asked, IsWholeFrom, IsCounted}
use Rattle.lg_forest.proofs.Once.{contains_none, contains_map, contains_key, contains_here}
use Rattle.lg_forest.proofs.Asked.{asked_then, asked_as, reach_in}
use Rattle.lg_forest.proofs.FirstMet.{first_met_same}

-- the whole sentence with one more unlinked word
pub asked_whole : (n : Numbering) (from i end : ℕ) (old mid new : List (Key × List Alt)) → from ≤ i → end ≡ suc i → Asked n (IsWholeFrom from i) old mid → Asked n (λ k. k ≡ Whole i) mid new → Asked n (IsWholeFrom from end) old new
asked_whole n from i end old mid new le next x y =
    asked_then n (IsWholeFrom from i) (λ k. k ≡ Whole i) (IsWholeFrom from end) old mid new
    (λ k h. let lt = h.2 in (h.0, h.1, omega arith, h.3))
    (λ k e. (i, le, omega arith, e))
    (λ k h. let lt = h.2 in elim (cases_lt h.0 i) [
      | inl less ↦ inl (h.0, h.1, less, h.3)
      | inr more ↦ (let e : h.0 ≡ i = omega arith in inr (h.3 ∙ ap Whole e))
    ])
    x y

-- no word need be linked
pub all_unlinked : (n : Numbering) → KeysAreDecided n → HasLinkageUnder n.positions n.lists (Whole (length n.positions))
all_unlinked n d = (d.decides (Whole (length n.positions)) (omega arith)).1 (AllNull, refl, record { left = tt; right = tt })

pub fewest_is : (n : Numbering) (nulls : ℕ) → HasLinkageUnder n.positions n.lists (Whole nulls) → ((m : ℕ) → m < nulls → HasLinkageUnder n.positions n.lists (Whole m) → ⊥) → IsFewest n.positions nulls
fewest_is n nulls has none = record {
  some = (has.0, has.1.good, has.1.count);
  least = λ g good. elim (cases_lt (unlinked g) nulls) [
    | inl lt ↦ absurd (none (unlinked g) lt (g, record { good = good; count = refl }))
    | inr ge ↦ ge
  ];
}

-- the demanded keys are in the table, and no others
pub demanded : (n : Numbering) (from to : ℕ) (old table : List (Key × List Alt)) → old ≡ [] → Asked n (IsWholeFrom from (suc to)) old table → (k : Key) → Contains (keys_of table) k ↔ IsDemanded n.positions n.lists from to k
demanded n from to old table empty asked k = (
  (λ h. elim (asked.fresh k h) [
    | inl was ↦ absurd (contains_none k (subst (λ z. Contains (keys_of z) k) empty was))
    | inr (m, (nulls, le, lt, e), r) ↦ (nulls, le, omega arith, subst (λ z. Reaches n.positions n.lists z k) e r)
  ]),
  (λ (nulls, le, ge, r). reach_in n table (Whole nulls) k asked.is_table r (asked.there (Whole nulls) (nulls, le, omega arith, refl))),
)

-- the part of the table that is live is the forest
pub is_forest : (n : Numbering) (positions : List (List Disjunct)) (from to : ℕ) (old table : List (Key × List Alt)) (forest : Forest)
    → from ≤ to → n.positions ≡ positions → KeysAreDecided n → AreListsOf positions n.lists → old ≡ [] → Asked n (IsWholeFrom from (suc to)) old table
    → ((k : Key) (alts : List Alt) → Contains forest.entries (k, alts) ↔ (Contains table (k, alts) × (alts ≢ []))) → AreOnce (keys_of forest.entries) → forest.unused ≡ to → IsForest positions from forest
is_forest n positions from to old table forest le same d first empty asked live once unused =
    subst (λ z. IsForest z from forest) same (record {
      ends = subst (λ z. from ≤ z) (sym unused) le;
      within = subst (λ z. z ≤ length n.positions) (sym unused) (asked.is_table.valid (Whole to) (asked.there (Whole to) (to, le, omega arith, refl)));
      lists = n.lists;
      numbered = subst (λ z. AreListsOf z n.lists) (sym same) first;
      nodes = λ k. (
        (λ h. let e = contains_key forest.entries k h in let t = (live k e.0).0 e.1 in (
          subst (λ z. IsDemanded n.positions n.lists from z k) (sym unused) ((demanded n from to old table empty asked k).0 (contains_map (λ (p : Key × List Alt). p.0) table (k, e.0) t.0)),
          has k e.0 (asked.is_table.live k e.0 t.0) (asked.is_table.valid k (contains_map (λ (p : Key × List Alt). p.0) table (k, e.0) t.0)) t.1,
        )),
        (λ h. let in_table = (demanded n from to old table empty asked k).1 (subst (λ z. IsDemanded n.positions n.lists from z k) unused h.0) in
            let e = contains_key table k in_table in
            let a = (d.decides k (asked.is_table.valid k in_table)).0 h.1 in
            contains_map (λ (p : Key × List Alt). p.0) forest.entries (k, e.0)
            ((live k e.0).1 (e.1, λ none. contains_none a.0 (subst (λ z. Contains z a.0) none (((asked.is_table.live k e.0 e.1).exactly a.0).1 (a.1, a.2)))))),
      );
      once = once;
      alts = λ k alts h. asked.is_table.live k alts ((live k alts).0 h).0;
    })
  where
    has : (k : Key) (alts : List Alt) → AreLive n.positions n.lists k alts → IsValidKey n.positions n.lists k → (alts ≢ []) → HasLinkageUnder n.positions n.lists k
    has k [] l v some = absurd (some refl)
    has k (a ∷ alts) l v some = (d.decides k v).1 (let x = (l.exactly a).0 (contains_here a alts) in (a, x.0, x.1))

pub counted : (n : Numbering) (from to : ℕ) (old table : List (Key × List Alt)) → old ≡ [] → Asked n (IsWholeFrom from (suc to)) old table → AreOnce (keys_of table) → CountsKeys (IsDemanded n.positions n.lists from to) (length table)
counted n from to old table empty asked once = record {
  keys = keys_of table;
  exactly = demanded n from to old table empty asked;
  once = once;
  count = sym (length-map table (λ (e : Key × List Alt). e.0));
}

-- the same for each list of the numbers, since there is one
pub solved_counts : (n : Numbering) (positions : List (List Disjunct)) (from to before after : ℕ) (old table : List (Key × List Alt))
    → n.positions ≡ positions → AreListsOf positions n.lists → old ≡ [] → Asked n (IsWholeFrom from (suc to)) old table → AreOnce (keys_of table) → IsCounted 0 before old after table
    → (lists : List (List Connector)) → AreListsOf positions lists → (k : ℕ) × CountsKeys (IsDemanded positions lists from to) k × (after ≡ before + k)
solved_counts n positions from to before after old table same first empty asked once steps lists first' =
    let e : n.lists ≡ lists = first_met_same (all_fronts positions) n.lists lists first first' in
    let none = ap length empty in (
      length table,
      subst (λ z. CountsKeys (IsDemanded positions z from to) (length table)) e (subst (λ z. CountsKeys (IsDemanded z n.lists from to) (length table)) same (counted n from to old table empty asked once)),
      omega arith,
    )

-- one number of unlinked words
pub asked_one : (n : Numbering) (nulls : ℕ) (old new : List (Key × List Alt)) → Asked n (λ k. k ≡ Whole nulls) old new → Asked n (IsWholeFrom nulls (suc nulls)) old new
asked_one n nulls old new x =
    asked_as n (λ k. k ≡ Whole nulls) (IsWholeFrom nulls (suc nulls)) old new
    (λ k e. (nulls, omega arith, omega arith, e))
    (λ k h. let le = h.1 in let lt = h.2 in let e : h.0 ≡ nulls = omega arith in h.3 ∙ ap Whole e)
    x

-- the keys of a forest are counted by its entries
pub nodes_counted : (positions : List (List Disjunct)) (from : ℕ) (forest : Forest) (n : ℕ) (is : IsForest positions from forest) → n ≡ length forest.entries → CountsKeys (λ k. IsDemanded positions is.lists from forest.unused k × HasLinkageUnder positions is.lists k) n
nodes_counted positions from forest n is e = record {
  keys = keys_of forest.entries;
  exactly = is.nodes;
  once = is.once;
  count = e ∙ sym (length-map forest.entries (λ (p : Key × List Alt). p.0));
}
