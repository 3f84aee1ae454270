-- What is printed of a disjunct finds it in the narrowed formula, and tells it apart.
use Rattle.std.proofs.Common.{◌≡◌, ℤ, ℕ, ◌+◌, ◌<◌, Bool, true, false, List, [], ◌∷◌, ◌++◌, length, take, get_or, Contains, inl, inr, Option, Some, None, MatchOption, Result, Ok, Err, refl, sym, ap, ◌∙◌, subst}
use Rattle.std.specs.List.{All, list_all, AllByRecursion}
use Rattle.std.specs.Result.{IfOk}
use Rattle.std.proofs.lemmas.Bool.{and_parts, and_from}
use Rattle.std.proofs.lemmas.List.{take_more}
use Rattle.std.proofs.lemmas.List.Elements.{All-contains, Contains-get_or, Contains-push_cases}
use Rattle.lg_gram.specs.Names.{NamesAreWritten}
use Rattle.lg_gram.specs.Connectors.{Connector, ConnectorsToldApart}
use Rattle.lg_gram.specs.Disjuncts.{AreDisjuncts, IsDisjunctOf, choice_of}
use Rattle.lg_gram.specs.Problems.{FitsProblem}
use Rattle.lg_gram.specs.Trees.{Tree}
use Rattle.lg_gram.specs.declared.disjunct.Disjunct.{Disjunct}
use Rattle.lg_disj.specs.Exist.{HasNames}
use Rattle.lg_text.specs.Texts.{side_text}
use Rattle.lg_audit.specs.Printed.{IsPrintedSo, IsPrintedOf, IsPrintedBy, IsNarrowedTo, is_among, is_shown}
use Rattle.lg_audit.proofs.SideTexts.{IsOn, side_among, same_side}
use Rattle.lg_audit.proofs.NamedChoices.{lefts_on, rights_on}
use Rattle.lg_audit.proofs.NarrowChoices.{passes, whole_disjunct, narrowed_disjunct}

module _ (lefts rights : List (List ℕ)) where
  abbrev side : Bool → List (List ℕ)
  side true = rights
  side false = lefts

  shown_by : (c : Connector) (right : Bool) → c.right ≡ right → is_among (side right) c ≡ true → is_shown lefts rights c ≡ true
  shown_by c true e among = rw e among
  shown_by c false e among = rw e among

  all_shown : (right : Bool) (cs : List Connector) → AllByRecursion (IsOn right) cs → list_all (is_among (side right)) cs ≡ true → list_all (is_shown lefts rights) cs ≡ true
  all_shown right [] on all = refl
  all_shown right (c ∷ cs) on all =
      let parts = and_parts (is_among (side right) c) (list_all (is_among (side right)) cs) all in
      and_from (is_shown lefts rights c) (list_all (is_shown lefts rights) cs) (shown_by c right on.0.side parts.0) (all_shown right cs on.1 parts.1)

module _ (written : NamesAreWritten) (word : List ℕ) (t : Tree) (named : HasNames t) (left right : List ℕ) (cost : ℤ) (new : Tree) (narrow : IsNarrowedTo left right t new)
    (ds : List Disjunct) (are : AreDisjuncts word new ds) (fit : All FitsProblem ds) where
  pub found_by : (d : Disjunct) → IsPrintedOf ds left right cost d → IsPrintedBy word t left right cost d
  found_by d is = record {
    one = whole_disjunct (is_shown narrow.lefts narrow.rights) t word d (subst (λ (u : Tree). IsDisjunctOf word u d) narrow.is ((are.exactly d).0 is.one));
    printed = is.printed;
    fits = All-contains FitsProblem ds d fit is.one;
  }

  pub none_by : ((d : Disjunct) → Contains ds d → IsPrintedSo left right cost d → ⊥) → (d : Disjunct) → IsDisjunctOf word t d → IsPrintedSo left right cost d → ⊥
  none_by never d is printed =
      let lefts_are = lefts_on t (choice_of d) named is.chosen in
      let rights_are = rights_on t (choice_of d) named is.chosen in
      let first = all_shown narrow.lefts narrow.rights false d.left lefts_are (side_among written false d.left left narrow.lefts lefts_are printed.left_side narrow.of_left) in
      let second = all_shown narrow.lefts narrow.rights true d.right rights_are (side_among written true d.right right narrow.rights rights_are printed.right_side narrow.of_right) in
      let pass : passes (is_shown narrow.lefts narrow.rights) (choice_of d) ≡ true = and_from (list_all (is_shown narrow.lefts narrow.rights) d.left) (list_all (is_shown narrow.lefts narrow.rights) d.right) first second in
      never d ((are.exactly d).1 (subst (λ (u : Tree). IsDisjunctOf word u d) (sym narrow.is) (narrowed_disjunct (is_shown narrow.lefts narrow.rights) t word d pass is))) printed

  pub answer_by : {E : Type 0} (r : Result (Option Disjunct) E)
      → IfOk r (λ o. MatchOption o ((d : Disjunct) → Contains ds d → IsPrintedSo left right cost d → ⊥) (IsPrintedOf ds left right cost))
      → IfOk r (λ o. MatchOption o ((d : Disjunct) → IsDisjunctOf word t d → IsPrintedSo left right cost d → ⊥) (IsPrintedBy word t left right cost))
  answer_by (Ok None) h = none_by h
  answer_by (Ok (Some d)) h = found_by d h
  answer_by (Err e) h = tt

-- ---- one after another

module _ (xs : List Disjunct) (i : ℕ) (x : Disjunct) (within : i < length xs) (read : x ≡ get_or xs i x) (left right : List ℕ) (cost : ℤ) where
  pub here_printed : (copy : Disjunct) → copy ≡ x → IsPrintedSo left right cost x → IsPrintedOf xs left right cost copy
  here_printed copy same is = record {
    one = subst (Contains xs) (sym (same ∙ read)) (Contains-get_or xs i x within);
    printed = subst (IsPrintedSo left right cost) (sym same) is;
  }

  pub none_more : ((d : Disjunct) → Contains (take i xs) d → IsPrintedSo left right cost d → ⊥) → (IsPrintedSo left right cost x → ⊥)
      → (d : Disjunct) → Contains (take (i + 1) xs) d → IsPrintedSo left right cost d → ⊥
  none_more before never d has is =
      let more : take (i + 1) xs ≡ take i xs ++ x ∷ [] = take_more xs i x within ∙ ap (λ (v : Disjunct). take i xs ++ v ∷ []) (sym read) in
      elim (Contains-push_cases (take i xs) x d (subst (λ (l : List Disjunct). Contains l d) more has)) [
        | inl old ↦ before d old is
        | inr same ↦ never (subst (IsPrintedSo left right cost) (sym same) is)
      ]

-- what is printed, with its word, tells disjuncts of one formula apart
pub one_printed : NamesAreWritten → ConnectorsToldApart → (word : List ℕ) (t : Tree) → HasNames t → (d e : Disjunct) → IsDisjunctOf word t d → IsDisjunctOf word t e
    → side_text d.left ≡ side_text e.left → side_text d.right ≡ side_text e.right → d.cost ≡ e.cost → d ≡ e
one_printed written apart word t named d e is other left right cost =
    let lefts = same_side written apart false d.left e.left (lefts_on t (choice_of d) named is.chosen) (lefts_on t (choice_of e) named other.chosen) left in
    let rights = same_side written apart true d.right e.right (rights_on t (choice_of d) named is.chosen) (rights_on t (choice_of e) named other.chosen) right in
    (λ i. record { word = (is.named ∙ sym other.named) i; left = lefts i; right = rights i; cost = cost i })
