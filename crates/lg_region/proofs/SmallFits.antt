-- Each alternative of a key has room in few bytes.
use Rattle.std.proofs.Common.{◌≡◌, ℕ, zero, suc, ◌≤◌, Bool, true, false, List, [], ◌∷◌, length, get_or, map, refl, sym, ◌∙◌, ap, subst, Option, None, Some, arith}
use Rattle.std.proofs.lemmas.Option.{slice_get_within}
use Rattle.std.proofs.lemmas.List.Elements.{All-contains, Contains-get_or}
use Rattle.lg_gram.specs.Connectors.{Connector}
use Rattle.lg_gram.specs.Problems.{IsProblem, IsPosition, FitsProblem}
use Rattle.lg_gram.specs.declared.disjunct.Disjunct.{Disjunct}
use Rattle.lg_region.specs.Cuts.{IsCutAt}
use Rattle.lg_region.specs.Fronts.{AreListsOf, list_of}
use Rattle.lg_region.specs.Keys.{IsValidKey, IsAltOf, IsDisjunctAt, kept}
use Rattle.lg_region.specs.Small.{IsSmall, IsSmallJoint}
use Rattle.lg_region.specs.declared.key.Joint.{Joint}
use Rattle.lg_region.specs.declared.key.Key.{Key}
use Rattle.lg_region.specs.declared.key.Key.TheVariants.{Whole, Region as Between}
use Rattle.lg_region.specs.declared.alternative.Alt.{Alt}
use Rattle.lg_region.specs.declared.alternative.Alt.TheVariants.{AllNull, Split as At}
use Rattle.lg_region.proofs.Numbers.{get_contains}
use Rattle.lg_region.proofs.Ends.{list_short, within_rows}

number_short : (positions : List (List Disjunct)) (lists : List (List Connector)) (id : ℕ) → IsProblem positions → AreListsOf positions lists → id ≤ length lists → length (list_of lists id) ≤ 255
number_short positions lists zero is are l = omega arith
number_short positions lists (suc n) is are l = list_short positions lists n is are (omega arith)

disjunct_fits : (positions : List (List Disjunct)) (word number : ℕ) (d : Disjunct) → IsProblem positions → IsDisjunctAt positions word number d → FitsProblem d
disjunct_fits positions word number d is at =
    let l = within_rows positions word number (slice_get_within (get_or positions word []) number d at) in
    All-contains FitsProblem (get_or positions word []) d (All-contains IsPosition positions (get_or positions word []) is.each (Contains-get_or positions word [] l)).fit (get_contains (get_or positions word []) number d at)

joint_small : (o : Option Joint) (near far near' far' : List Connector) → IsCutAt o near far near' far' → length near ≤ 255 → length far ≤ 255 → IsSmallJoint o
joint_small None near far near' far' c n f = tt
joint_small (Some j) near far near' far' c n f = let a = c.0.0 in let b = c.1.0 in (omega arith, omega arith)

pub alt_small : (positions : List (List Disjunct)) (lists : List (List Connector)) (key : Key) (a : Alt) → IsProblem positions → AreListsOf positions lists → IsValidKey positions lists key → IsAltOf positions lists key a → IsSmall a
alt_small positions lists key AllNull is are v i = tt
alt_small positions lists (Whole nulls) (At w n None None None (Some (Between l r ll rl k))) is are v (c, i) =
    let few = is.few in
    let b = i.first.before in
    let p = i.place in
    let e = i.behind.2 in
    let f = i.first.rkey in
    let el = ap (λ z. z.left) (sym e ∙ f) in
    let er = ap (λ z. z.right) (sym e ∙ f) in
    let en = ap (λ z. z.nulls) (sym e ∙ f) in
    (refl, refl, omega arith, (omega arith, omega arith, omega arith))
alt_small positions lists (Whole nulls) (At w n None None None (Some (Whole k))) is are v (c, i) = absurd i.behind
alt_small positions lists (Whole nulls) (At w n None None None None) is are v i = absurd i
alt_small positions lists (Whole nulls) (At w n None None (Some lk) rk) is are v i = absurd i
alt_small positions lists (Whole nulls) (At w n None (Some j) lk rk) is are v i = absurd i
alt_small positions lists (Whole nulls) (At w n (Some j) tr lk rk) is are v i = absurd i
alt_small positions lists (Between l r ll rl k) (At w n tl tr None rk) is are v i = absurd i
alt_small positions lists (Between l r ll rl k) (At w n tl tr (Some lk) None) is are v i = absurd i
alt_small positions lists (Between l r ll rl k) (At w n tl tr (Some (Whole m)) (Some rk)) is are v (c, i) = absurd i.before
alt_small positions lists (Between l r ll rl k) (At w n tl tr (Some (Between a b aa bb m)) (Some (Whole m'))) is are v (c, i) = absurd i.behind
alt_small positions lists (Between l r ll rl k) (At w n tl tr (Some (Between a b aa bb m)) (Some (Between a' b' aa' bb' m'))) is are v (c, i) =
    let few = is.few in
    let within = v.2.within in
    let lw = i.cut.after in
    let wr = i.cut.before in
    let p = i.place in
    let fits = disjunct_fits positions w n c.disjunct is i.chosen in
    let sl = number_short positions lists ll is are v.0 in
    let sr = number_short positions lists rl is are v.1 in
    let e = i.before.2 in
    let f = i.behind.2 in
    let ea = ap (λ z. z.left) e in let eb = ap (λ z. z.right) e in let em = ap (λ z. z.nulls) e in
    let fa = ap (λ z. z.left) f in let fb = ap (λ z. z.right) f in let fm = ap (λ z. z.nulls) f in
    let x = i.cut.ends_left.0 in let y = i.cut.ends_left.1 in let x' = i.cut.ends_right.0 in let y' = i.cut.ends_right.1 in
    let fl = i.cut.few_left in let fr = i.cut.few_right in (
      omega arith,
      subst (λ z. IsSmallJoint z) i.joint_left (joint_small c.to_left (list_of lists ll) c.disjunct.left c.lkey.llist c.lkey.rlist i.cut.at_left sl fits.left),
      subst (λ z. IsSmallJoint z) i.joint_right (joint_small c.to_right c.disjunct.right (list_of lists rl) c.rkey.llist c.rkey.rlist i.cut.at_right fits.right sr),
      (omega arith, omega arith, omega arith),
      (omega arith, omega arith, omega arith),
    )

-- what is kept, seen through a function
pub kept_map : {A B : Type 0} (f : A → B) (xs : List A) (bs : List Bool) → kept (map f xs) bs ≡ map f (kept xs bs)
kept_map f [] bs = refl
kept_map f (x ∷ xs) [] = refl
kept_map f (x ∷ xs) (true ∷ bs) = ap (λ z. f x ∷ z) (kept_map f xs bs)
kept_map f (x ∷ xs) (false ∷ bs) = kept_map f xs bs
