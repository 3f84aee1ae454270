-- Kinds of last connectors, and lists that end with the same one.
use Rattle.std.proofs.Common.{◌≡◌, ◌↔◌, ℕ, suc, ◌-◌, ◌<◌, ◌≤◌, Bool, true, false, not, cond, if◌then◌else◌, List, [], ◌∷◌, ◌++◌, length, get_or, sym, ◌∙◌, ap, subst, Some, inl, inr, arith, append-nil, length-append}
use Rattle.std.specs.List.{slice_get, list_any}
use Rattle.std.proofs.lemmas.Bool.{cases_Bool}
use Rattle.std.proofs.lemmas.Option.{slice_get-get_or}
use Rattle.lg_gram.specs.Connectors.{Connector, connector_eq}
use Rattle.lg_region.specs.Alike.{last_of}
use Rattle.lg_region.specs.Fronts.{Numbering, list_of}
use Rattle.lg_region.specs.Kept.{IsKept, lists_in, numbering}
use Rattle.lg_region.specs.Numbered.{AreFirstsOf, IsKind, MeetsKind}
use Rattle.lg_region.specs.Matching.{MatchAt}
use Rattle.lg_region.specs.Ways.{HasWay, IsEndOf}
use Rattle.lg_region.specs.declared.lists.Lists.TheInside.{Inside}
use Rattle.lg_region.specs.declared.ways.End.{End}
use Rattle.lg_region.proofs.Admitting.{connector_Decides}
use Rattle.lg_region.proofs.Elements.{zip_at, zip_length}
use Rattle.lg_region.proofs.Growing.{zip_push}
use Rattle.lg_region.proofs.Going.{some_way, way_match}
use Rattle.lg_region.proofs.Keeping.{end_is, ends_within}
use Rattle.lg_region.proofs.Tabled.{match_at}

-- the kind of a connector, by what the table answers
pub meets : (old kinds : List Connector) (old_firsts firsts : List ℕ) (c x : Connector) (id kind : ℕ) (is_new : Bool) → is_new ≡ not (list_any (connector_eq c) old) → kinds ≡ (if list_any (connector_eq c) old then old else old ++ c ∷ [])
    → firsts ≡ cond is_new (old_firsts ++ id ∷ []) old_firsts → slice_get kinds kind ≡ Some x → connector_eq c x ≡ true → MeetsKind old old_firsts kinds firsts c id kind
meets old kinds old_firsts firsts c x id kind is_new n e f g s =
    elim (cases_Bool (list_any (connector_eq c) old)) [
      | inl found ↦ (
          let a : kinds ≡ old = rw found at e in
          let m : is_new ≡ false = rw found at n in
          let b : firsts ≡ old_firsts = rw m at f in
          record {
            grown = [];
            grows = a ∙ sym (append-nil old);
            few = (let l = ap (λ z. length z) a in omega arith);
            is_kind = is;
            met = λ lists last are. subst (λ z. AreFirstsOf lists z firsts) (sym a) (subst (λ z. AreFirstsOf lists old z) (sym b) are);
          }
          )
      | inr none ↦ (
          let a : kinds ≡ old ++ c ∷ [] = rw none at e in
          let m : is_new ≡ true = rw none at n in
          let b : firsts ≡ old_firsts ++ id ∷ [] = rw m at f in
          record {
            grown = c ∷ [];
            grows = a;
            few = (let l = ap (λ z. length z) a ∙ length-append old (c ∷ []) in omega arith);
            is_kind = is;
            met = λ lists last are. subst (λ z. AreFirstsOf lists z firsts) (sym a) (subst (λ z. AreFirstsOf lists (old ++ c ∷ []) z) (sym b)
                (zip_push (λ k first. last_of (list_of lists first) ≡ Some k) old old_firsts c id are last));
          }
          )
    ]
  where
    is : slice_get kinds kind ≡ Some c
    is = g ∙ ap (λ z. Some z) (sym ((connector_Decides c x).0 s))

-- the first lists after one was pushed, or none
pub firsts_pushed : (old new : List ℕ) (id : ℕ) (b : Bool) → b ≡ true → new ≡ old ++ id ∷ [] → new ≡ cond b (old ++ id ∷ []) old
firsts_pushed old new id b t e = rw t e

pub firsts_same : (old new : List ℕ) (id : ℕ) (b : Bool) → b ≡ false → new ≡ old → new ≡ cond b (old ++ id ∷ []) old
firsts_same old new id b f e = rw f e

-- the kind of a list
pub kind_at : (a : Inside) (v : Numbering) (n : ℕ) (x : End) → IsKept a → numbering a ≡ v → suc n ≤ length v.lists → x ≡ get_or a.ends.items n x → IsKind v.lists a.matching.kinds.items (suc n) x.kind
kind_at a v n x is e l r =
    let at : slice_get a.ends.items n ≡ Some x = slice_get-get_or a.ends.items n x (ends_within a v n is e l) ∙ ap (λ z. Some z) (sym r) in
    subst (λ z. IsKind z.lists a.matching.kinds.items (suc n) x.kind) e (is.ends.kind n x at)

pub first_within : (a : Inside) (kind : ℕ) → IsKept a → kind < length a.matching.kinds.items → kind < length a.firsts.items
first_within a kind is l = let s = zip_length (λ c first. last_of (list_of (lists_in a) first) ≡ Some c) a.matching.kinds.items a.firsts.items is.firsts in omega arith

-- the number that is kept for a kind is that of a list that ends with it
pub same_last : (a : Inside) (v : Numbering) (n id : ℕ) (x : End) → IsKept a → numbering a ≡ v → suc n ≤ length v.lists → x ≡ get_or a.ends.items n x → id ≡ get_or a.firsts.items x.kind id
    → last_of (list_of v.lists id) ≡ last_of (list_of v.lists (suc n))
same_last a v n id x is e l r f =
    let k = kind_at a v n x is e l r in
    let kinds = a.matching.kinds.items in
    let c = get_or kinds x.kind no_kind in
    let at = slice_get-get_or kinds x.kind no_kind k.within in
    let there : last_of (list_of (lists_in a) (get_or a.firsts.items x.kind id)) ≡ Some c = zip_at (λ c first. last_of (list_of (lists_in a) first) ≡ Some c) kinds a.firsts.items x.kind no_kind id is.firsts k.within in
    let there' : last_of (list_of v.lists (get_or a.firsts.items x.kind id)) ≡ Some c = subst (λ z. last_of (list_of z.lists (get_or a.firsts.items x.kind id)) ≡ Some c) e there in
    ap (λ z. last_of (list_of v.lists z)) f ∙ there' ∙ sym at ∙ sym k.is_last
  where
    no_kind : Connector
    no_kind = record { caps = []; subs = []; multi = false; right = false }

-- the end of a list tells its last connector
end_last : (lists : List (List Connector)) (number : ℕ) (e : End) (is : IsEndOf lists number e) → last_of (list_of lists number) ≡ Some is.last
end_last lists number e is =
    let at = is.at_end in
    let place : length (list_of lists number) - 1 ≡ e.place = omega arith in
    ap (slice_get (list_of lists number)) place ∙ is.is_last

-- two lists have a way on with a joint where their kinds match
pub joins : (a : Inside) (v : Numbering) (n m : ℕ) (x y : End) → IsKept a → numbering a ≡ v → suc n ≤ length v.lists → suc m ≤ length v.lists → x ≡ get_or a.ends.items n x → y ≡ get_or a.ends.items m y
    → MatchAt a.matching.kinds.items x.kind y.kind ↔ HasWay v.lists (suc n) (suc m) false
joins a v n m x y is e ln lm xs ys = (there, back)
  where
    ix : IsEndOf v.lists (suc n) x
    ix = end_is a v n x is e ln xs

    iy : IsEndOf v.lists (suc m) y
    iy = end_is a v m y is e lm ys

    near : slice_get a.matching.kinds.items x.kind ≡ Some ix.last
    near = sym (kind_at a v n x is e ln xs).is_last ∙ end_last v.lists (suc n) x ix

    far : slice_get a.matching.kinds.items y.kind ≡ Some iy.last
    far = sym (kind_at a v m y is e lm ys).is_last ∙ end_last v.lists (suc m) y iy

    there : MatchAt a.matching.kinds.items x.kind y.kind → HasWay v.lists (suc n) (suc m) false
    there k = some_way v.lists (suc n) (suc m) x y ix iy ((match_at a.matching.kinds.items x.kind y.kind ix.last iy.last near far).1 k)

    back : HasWay v.lists (suc n) (suc m) false → MatchAt a.matching.kinds.items x.kind y.kind
    back (w, way) = (match_at a.matching.kinds.items x.kind y.kind ix.last iy.last near far).0 (way_match v.lists (suc n) (suc m) x y w ix iy way)
