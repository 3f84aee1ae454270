-- The disjuncts of halves, side by side in one list.
use Rattle.std.proofs.Common.{◌≡◌, ◌≢◌, ◌-◌, ◌⊎◌, inl, inr, List, [], ◌∷◌, ◌++◌, length, take, drop, map, refl, sym, ap, ◌∙◌, subst, Contains, arith, length-append}
use Rattle.std.proofs.lemmas.List.{drop-append-le, length-drop, take-append-le}
use Rattle.std.specs.Map.{keys_of}
use Rattle.lg_region.specs.declared.group.Right.{Right}
use Rattle.lg_forest.specs.Runs.{AreRuns, IsRun, ends_of, run_of}
use Rattle.lg_forest.specs.declared.halves.Half.{Half}
use Rattle.lg_forest.specs.declared.halves.Run.{Run}
use Rattle.lg_forest.proofs.Once.{contains_here, contains_later, contains_map, map_found}

abbrev Found : Type 0
Found = List (Half × Run)

-- a run stays as it is where more is put last
run_wider : (rights more : List Right) (run : Run) → IsRun rights run → run_of (rights ++ more) run ≡ run_of rights run
run_wider rights more run is =
    let s = is.starts in
    let e = is.ends in
    let long = length-drop run.start rights in
    ap (λ z. take (run.end - run.start) z) (drop-append-le run.start rights more (omega arith)) ∙ take-append-le (run.end - run.start) (drop run.start rights) more (omega arith)

module _ (old more new : List Right) (grown : new ≡ old ++ more) where
  pub run_kept : (run : Run) → IsRun old run → IsRun new run
  run_kept run is = record {
    starts = is.starts;
    ends = (let l = is.ends in let long = ap length grown ∙ length-append old more in omega arith);
  }

  pub runs_kept : (found : Found) → AreRuns found old → AreRuns found new
  runs_kept found are = λ half run has. run_kept run (are half run has)

  -- what is known of the halves that are there stays as it is
  pub ends_same : (found : Found) → AreRuns found old → map (ends_of new) found ≡ map (ends_of old) found
  ends_same [] are = refl
  ends_same (e ∷ found) are =
      let here : ends_of new e ≡ ends_of old e = ap (λ (z : List Right). (e.0, z)) (ap (λ z. run_of z e.1) grown ∙ run_wider old more e.1 (are e.0 e.1 (contains_here e found))) in
      let later = ends_same found (λ half run has. are half run (contains_later e found (half, run) has)) in
      λ i. here i ∷ later i

pub halves_seen : (rights : List Right) (found : Found) → keys_of (map (ends_of rights) found) ≡ keys_of found
halves_seen rights [] = refl
halves_seen rights (e ∷ found) = ap (λ z. e.0 ∷ z) (halves_seen rights found)

pub ends_found : (rights : List Right) (found : Found) (half : Half) (run : Run) (ends : List Right) → Contains found (half, run) → run_of rights run ≡ ends → Contains (map (ends_of rights) found) (half, ends)
ends_found rights found half run ends has e = subst (λ (z : List Right). Contains (map (ends_of rights) found) (half, z)) e (contains_map (ends_of rights) found (half, run) has)

-- a half that is another stays
pub ends_stay : (found found' : Found) (half : Half) (rights : List Right) → ((h : Half) (r : Run) → h ≢ half → Contains found (h, r) → Contains found' (h, r)) → (h : Half) (x : List Right) → h ≢ half → Contains (map (ends_of rights) found) (h, x)
    → Contains (map (ends_of rights) found') (h, x)
ends_stay found found' half rights kept h x other has =
    let f = map_found (ends_of rights) found (h, x) has in
    subst (λ (z : Half × List Right). Contains (map (ends_of rights) found') z) f.2
    (contains_map (ends_of rights) found' f.0 (kept f.0.0 f.0.1 (λ e. other (ap (λ (z : Half × List Right). z.0) (sym f.2) ∙ e)) f.1))

-- after a half was put in
module _ (found found' : Found) (half : Half) (run : Run) (put : (h : Half) (r : Run) → Contains found' (h, r) → Contains found (h, r) ⊎ ((h ≡ half) × (r ≡ run))) where
  pub runs_put : (rights : List Right) → AreRuns found rights → IsRun rights run → AreRuns found' rights
  runs_put rights are is = λ h r has. elim (put h r has) [ inl was ↦ are h r was | inr (p, q) ↦ subst (λ z. IsRun rights z) (sym q) is ]

  pub ends_put : (rights : List Right) (ends : List Right) → run_of rights run ≡ ends → (h : Half) (x : List Right) → Contains (map (ends_of rights) found') (h, x) → Contains (map (ends_of rights) found) (h, x) ⊎ ((h ≡ half) × (x ≡ ends))
  ends_put rights ends e h x has =
      let f = map_found (ends_of rights) found' (h, x) has in
      elim (put f.0.0 f.0.1 f.1) [
        | inl was ↦ inl (subst (λ (z : Half × List Right). Contains (map (ends_of rights) found) z) f.2 (contains_map (ends_of rights) found f.0 was))
        | inr (p, q) ↦ inr (ap (λ (z : Half × List Right). z.0) (sym f.2) ∙ p, ap (λ (z : Half × List Right). z.1) (sym f.2) ∙ ap (λ z. run_of rights z) q ∙ e)
      ]
