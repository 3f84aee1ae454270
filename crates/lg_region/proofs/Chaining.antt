-- Disjuncts and kinds by classes.
use Rattle.std.proofs.Common.{[], ◌≡◌, ◌≢◌, ℕ, suc, ◌<◌, ◌≤◌, ◌⊎◌, List, length, get_or, set, sym, ◌∙◌, ap, subst, Option, Some, None, IsSome, inl, inr, arith, length-set, take, map, zero, ◌+◌, ◌++◌, ◌∷◌, refl}
use Rattle.std.specs.List.{AllZip, slice_get}
use Rattle.std.proofs.lemmas.Bool.{cases_lt}
use Rattle.std.proofs.lemmas.List.{get_or-set_same, get_or-set_other, length-map, map-append, take_more}
use Rattle.std.proofs.lemmas.Option.{same_Some, slice_get-get_or, slice_get_within, get_or_from_slice_get}
use Rattle.lg_gram.specs.Connectors.{Connector}
use Rattle.lg_gram.specs.declared.disjunct.Disjunct.{Disjunct}
use Rattle.lg_region.specs.Cuts.{IsCutAt}
use Rattle.lg_region.specs.Fronts.{list_of}
use Rattle.lg_region.specs.Chains.{class_of_caps, class_of, classes_on, list_on, AreNexts, IsByClass, IsChain, IsChainFrom, IsNext, IsNextOf, IsRunEnd}
use Rattle.lg_region.specs.Numbered.{number_on, AreRuns, EndsRun, HasSides}
use Rattle.lg_region.specs.declared.key.Joint.{Joint}
use Rattle.lg_region.specs.declared.chains.ByClass.{ByClass}
use Rattle.lg_region.specs.declared.chains.Side.{Side}
use Rattle.lg_region.specs.declared.chains.Side.TheVariants.{Left, Right}
use Rattle.lg_region.specs.declared.numbering.Sides.{Sides}
use Rattle.lg_region.proofs.Elements.{zip_at, zip_length}
use Rattle.lg_region.proofs.Ends.{last_at, map_at}

cases_same : (i j : ℕ) → (i ≡ j) ⊎ (i ≢ j)
cases_same i j = elim (cases_lt i j) [ inl h ↦ inr (omega arith) | inr h ↦ elim (cases_lt j i) [ inl l ↦ inr (omega arith) | inr l ↦ inl (omega arith) ] ]

next_here : (classes : List ℕ) (n k : ℕ) → n < length classes → get_or classes n 0 ≡ k → IsNextOf classes k n n
next_here classes n k l e = record { later = omega arith; within = omega arith; others = λ m a b. absurd (omega arith); same = λ b. e }

next_past : (classes : List ℕ) (k n next : ℕ) → get_or classes n 0 ≢ k → IsNextOf classes k (suc n) next → IsNextOf classes k n next
next_past classes k n next other is =
    let l = is.later in
    record {
      later = omega arith;
      within = is.within;
      others = λ m a b. elim (cases_lt n m) [
        | inl h ↦ is.others m h b
        | inr h ↦ (let q : n ≡ m = omega arith in λ e. other (ap (λ z. get_or classes z 0) q ∙ e))
      ];
      same = is.same;
    }

-- the next one is that of itself
pub next_itself : (classes : List ℕ) (k start next : ℕ) → IsNextOf classes k start next → IsNextOf classes k next next
next_itself classes k start next is = record { later = omega arith; within = is.within; others = λ m a b. absurd (omega arith); same = is.same }

-- one more is looked at
pub chain_more : (classes : List ℕ) (n k : ℕ) (firsts nexts firsts' nexts' : List ℕ) → n < length classes → k ≡ get_or classes n 0 → k < 256 → IsChainFrom classes (suc n) firsts nexts
    → firsts' ≡ set firsts k n → nexts' ≡ set nexts n (get_or firsts k 0) → IsChainFrom classes n firsts' nexts'
chain_more classes n k firsts nexts firsts' nexts' w e small is f g =
    let a = is.all in
    let b = is.level in
    record {
      all = ap (λ z. length z) f ∙ length-set firsts k n ∙ a;
      level = ap (λ z. length z) g ∙ length-set nexts n (get_or firsts k 0) ∙ b;
      first = λ j l. elim (cases_same j k) [
        | inl q ↦ subst (λ z. IsNextOf classes j n z) (sym (ap (λ z. get_or z j 0) f ∙ ap (λ z. get_or (set firsts k n) z 0) q ∙ get_or-set_same firsts k n 0 (omega arith)))
            (subst (λ z. IsNextOf classes z n n) (sym q) (next_here classes n k w (sym e)))
        | inr q ↦ subst (λ z. IsNextOf classes j n z) (sym (ap (λ z. get_or z j 0) f ∙ get_or-set_other firsts k j n 0 q)) (next_past classes j n (get_or firsts j 0) (λ r. q (sym (e ∙ r))) (is.first j l))
      ];
      next = λ m l r. elim (cases_same m n) [
        | inl q ↦ subst (λ z. IsNextOf classes (get_or classes m 0) (suc m) z) (sym (ap (λ z. get_or z m 0) g ∙ ap (λ z. get_or (set nexts n (get_or firsts k 0)) z 0) q ∙ get_or-set_same nexts n (get_or firsts k 0) 0 (omega arith)))
            (subst (λ z. IsNextOf classes (get_or classes z 0) (suc z) (get_or firsts k 0)) (sym q) (subst (λ z. IsNextOf classes z (suc n) (get_or firsts k 0)) e (is.first k small)))
        | inr q ↦ subst (λ z. IsNextOf classes (get_or classes m 0) (suc m) z) (sym (ap (λ z. get_or z m 0) g ∙ get_or-set_other nexts n m (get_or firsts k 0) 0 q)) (is.next m (omega arith) r)
      ];
    }

class_read : (side : Side) (ds : List Disjunct) (n : ℕ) (d : Disjunct) → slice_get ds n ≡ Some d → get_or (classes_on side ds) n 0 ≡ class_of (list_on side d)
class_read side ds n d at = map_at (λ x. class_of (list_on side x)) ds n d 0 (slice_get_within ds n d at) (sym (get_or_from_slice_get ds n d d at))

next_of : (side : Side) (ds : List Disjunct) (k start next : ℕ) → IsNextOf (classes_on side ds) k start next → IsNext side ds k start next
next_of side ds k start next is =
    let l = length-map ds (λ x. class_of (list_on side x)) in
    let w = is.within in
    record {
      later = is.later;
      within = omega arith;
      others = λ n d a b at e. is.others n a b (class_read side ds n d at ∙ e);
      same = λ d at. sym (class_read side ds next d at) ∙ is.same (let h = slice_get_within ds next d at in omega arith);
    }

-- the disjuncts of a word, by their chain and their runs
pub word_found : (side : Side) (ds : List Disjunct) (lists : List (List Connector)) (pairs : List Sides) (t : ByClass) → IsChain (classes_on side ds) t.chain → AllZip (HasSides lists) ds pairs → AreRuns t.chain.nexts.items pairs 0 t.runs.items
    → IsByClass side ds t
word_found side ds lists pairs t chain sides runs =
    let l = length-map ds (λ x. class_of (list_on side x)) in
    let z = zip_length (HasSides lists) ds pairs sides in
    let a = chain.level in
    let b = runs.level in
    record {
      all = chain.all;
      level = omega arith;
      level_runs = omega arith;
      first = λ k small. next_of side ds k 0 (get_or t.chain.firsts.items k 0) (chain.first k small);
      next = nexts;
      run = runs.each side ds lists nexts sides;
    }
  where
    nexts : AreNexts side ds t.chain.nexts.items
    nexts n d at =
        let l = length-map ds (λ x. class_of (list_on side x)) in
        let w = slice_get_within ds n d at in
        let next = get_or t.chain.nexts.items n 0 in
        next_of side ds (class_of (list_on side d)) (suc n) next (subst (λ z. IsNextOf (classes_on side ds) z (suc n) next) (class_read side ds n d at) (chain.next n (omega arith) (omega arith)))

-- a run that ends with the next disjunct of the class
run_next : (side : Side) (ds : List Disjunct) (n next : ℕ) (d : Disjunct) → slice_get ds n ≡ Some d → IsNext side ds (class_of (list_on side d)) (suc n) next → IsRunEnd side ds d n next
run_next side ds n next d at is =
    let l = is.later in
    record {
      later = omega arith;
      next = record { later = omega arith; within = is.within; others = λ m x a b r. absurd (omega arith); same = is.same };
      same = λ m x a b r led. elim (cases_lt n m) [
        | inl h ↦ absurd (is.others m x h b r led)
        | inr h ↦ (let q : m ≡ n = omega arith in ap (λ z. z.left) (same_Some x d (sym (subst (λ z. slice_get ds z ≡ Some x) q r) ∙ at)))
      ];
    }

-- a run that goes on to the end of that of the next disjunct of the class
run_on : (side : Side) (ds : List Disjunct) (n next end : ℕ) (d d' : Disjunct) → slice_get ds n ≡ Some d → IsNext side ds (class_of (list_on side d)) (suc n) next → slice_get ds next ≡ Some d' → d'.left ≡ d.left → IsRunEnd side ds d' next end
    → IsRunEnd side ds d n end
run_on side ds n next end d d' at is at' left run =
    let l = is.later in
    let r = run.later in
    let k = is.same d' at' in
    record {
      later = omega arith;
      next = subst (λ z. IsNext side ds z end end) k run.next;
      same = λ m x a b r led. elim (cases_lt m next) [
        | inl h ↦ (run_next side ds n next d at is).same m x a h r led
        | inr h ↦ run.same m x h b r (led ∙ sym k) ∙ left
      ];
    }

-- one more run
pub runs_more : (nexts : List ℕ) (row : List Sides) (runs runs' : List ℕ) (number next end : ℕ) → number < length row → next ≡ get_or nexts number 0 → AreRuns nexts row (suc number) runs → EndsRun row runs number next end
    → runs' ≡ set runs number end → AreRuns nexts row number runs'
runs_more nexts row runs runs' number next end w e so ends is =
    let level = so.level in
    record {
      level = ap (λ z. length z) is ∙ length-set runs number end ∙ level;
      each = λ side ds lists are sides n d l at. elim (cases_same n number) [
        | inl q ↦ subst (λ z. IsRunEnd side ds d n z) (sym (ap (λ z. get_or z n 0) is ∙ ap (λ z. get_or (set runs number end) z 0) q ∙ get_or-set_same runs number end 0 (omega arith)))
            (subst (λ z. IsRunEnd side ds d z end) (sym q) (this side ds lists d are sides (subst (λ z. slice_get ds z ≡ Some d) q at)))
        | inr q ↦ subst (λ z. IsRunEnd side ds d n z) (sym (ap (λ z. get_or z n 0) is ∙ get_or-set_other runs number n end 0 q)) (so.each side ds lists are sides n d (omega arith) at)
      ];
    }
  where
    any : Sides
    any = record { left = 0; right = 0 }

    this : (side : Side) (ds : List Disjunct) (lists : List (List Connector)) (d : Disjunct) → AreNexts side ds nexts → AllZip (HasSides lists) ds row → slice_get ds number ≡ Some d → IsRunEnd side ds d number end
    this side ds lists d are sides at =
        let is : IsNext side ds (class_of (list_on side d)) (suc number) next = subst (λ z. IsNext side ds (class_of (list_on side d)) (suc number) z) (sym e) (are number d at) in
        elim ends [
          | inl ended ↦ subst (λ z. IsRunEnd side ds d number z) (sym ended) (run_next side ds number next d at is)
          | inr (listed, on, same) ↦ (
              let z = zip_length (HasSides lists) ds row sides in
              let within : next < length ds = omega arith in
              let d' = get_or ds next d in
              let at' = slice_get-get_or ds next d within in
              let s = get_or row next any in
              let t = get_or row number any in
              let e' : s.left ≡ t.left = same s t (slice_get-get_or row next any listed) (slice_get-get_or row number any w) in
              let has' : HasSides lists d' s = zip_at (HasSides lists) ds row next d any sides within in
              let has : HasSides lists (get_or ds number d) t = zip_at (HasSides lists) ds row number d any sides (omega arith) in
              let left : d'.left ≡ d.left = sym has'.left.list ∙ ap (list_of lists) e' ∙ has.left.list ∙ ap (λ z. z.left) (get_or_from_slice_get ds number d d at) in
              subst (λ z. IsRunEnd side ds d number z) (sym on) (run_on side ds number next (get_or runs next 0) d d' at is at' left (so.each side ds lists are sides next d' is.later at'))
              )
        ]

pub runs_none : (nexts : List ℕ) (row : List Sides) (start : ℕ) (runs : List ℕ) → length runs ≡ length row → length row ≤ start → AreRuns nexts row start runs
runs_none nexts row start runs level l = record {
  level = level;
  each = λ side ds lists are sides n d from at. absurd (let z = zip_length (HasSides lists) ds row sides in let w = slice_get_within ds n d at in omega arith);
}

-- the class of a disjunct's list, by its number
pub class_by : (lists : List (List Connector)) (side : Side) (d : Disjunct) (s : Sides) (class : ℕ) → HasSides lists d s
    → class ≡ class_of (list_of lists (number_on side s)) → class ≡ class_of (list_on side d)
class_by lists Left d s class has e = e ∙ ap class_of has.left.list
class_by lists Right d s class has e = e ∙ ap class_of has.right.list

pub number_known : (lists : List (List Connector)) (side : Side) (d : Disjunct) (s : Sides) → HasSides lists d s → number_on side s ≤ length lists
number_known lists Left d s has = has.left.known
number_known lists Right d s has = has.right.known

-- a disjunct, by the numbers of its lists
pub with_sides : (lists : List (List Connector)) (ds : List Disjunct) (row : List Sides) (i : ℕ) (s : Sides) → AllZip (HasSides lists) ds row → i < length row → (d : Disjunct) × (slice_get ds i ≡ Some d) × HasSides lists d (get_or row i s)
with_sides lists [] [] i s z l = absurd (omega arith)
with_sides lists [] (r ∷ row) i s z l = absurd z
with_sides lists (d ∷ ds) [] i s z l = absurd z
with_sides lists (d ∷ ds) (r ∷ row) zero s z l = (d, refl, z.0)
with_sides lists (d ∷ ds) (r ∷ row) (suc i) s z l = with_sides lists ds row i s z.1 (omega arith)

-- one class more
pub classes_more : (side : Side) (ds : List Disjunct) (classes classes' : List ℕ) (i class : ℕ) (d : Disjunct) → slice_get ds i ≡ Some d → class ≡ class_of (list_on side d) → classes ≡ classes_on side (take i ds)
    → classes' ≡ classes ++ class ∷ [] → classes' ≡ classes_on side (take (i + 1) ds)
classes_more side ds classes classes' i class d at e so is =
    let f : Disjunct → ℕ = λ x. class_of (list_on side x) in
    let more : take (i + 1) ds ≡ take i ds ++ d ∷ [] = take_more ds i d (slice_get_within ds i d at) ∙ ap (λ z. take i ds ++ z ∷ []) (get_or_from_slice_get ds i d d at) in
    is ∙ ap (λ z. classes ++ z ∷ []) e ∙ ap (λ z. z ++ f d ∷ []) so ∙ sym (ap (map f) more ∙ map-append f (take i ds) (d ∷ []))

-- two lists that are joined have the same class
pub joint_class : (o : Option Joint) (near far near' far' : List Connector) → IsCutAt o near far near' far' → IsSome o → class_of near ≡ class_of far
joint_class None near far near' far' c s = absurd cc
joint_class (Some j) near far near' far' (gn, gf, (a, b, ea, eb, m)) s = last_at near j.near a gn.0 ea ∙ ap class_of_caps m.capitals ∙ sym (last_at far j.far b gf.0 eb)
