-- Regions that begin with one list, or with none and with right lists that end alike, are cut alike on the left, wherever they end.
use Rattle.std.proofs.Common.{◌≡◌, ℕ, ◌-◌, ◌<◌, ◌≤◌, List, [], length, take, refl, sym, ◌∙◌, ap, subst, Option, None, Some, IsSome, inl, inr, Contains, arith}
use Rattle.std.specs.List.{slice_get}
use Rattle.std.specs.Prelude.{slice_index_or}
use Rattle.std.proofs.lemmas.Bool.{cases_lt}
use Rattle.std.proofs.lemmas.Option.{slice_get_within}
use Rattle.lg_gram.specs.Connectors.{Connector}
use Rattle.lg_gram.specs.declared.disjunct.Disjunct.{Disjunct}
use Rattle.lg_region.specs.Alike.{BeginsWith, CutsInside, HaveSameLeft, IsAltAt, RegionsBeginAlike, end_of}
use Rattle.lg_region.specs.Cuts.{Split, IsCut, IsCutAt}
use Rattle.lg_region.specs.Fronts.{AreListsOf, Numbering, list_of}
use Rattle.lg_region.specs.Groups.{region_of_gap, StandsBefore}
use Rattle.lg_region.specs.Keys.{IsAltOfRegion, region_of_numbers}
use Rattle.lg_region.specs.declared.key.Joint.{Joint}
use Rattle.lg_region.specs.declared.key.Key.TheVariants.{Whole, Region as Between}
use Rattle.lg_region.specs.declared.alternative.Alt.{Alt}
use Rattle.lg_region.specs.declared.alternative.Alt.TheVariants.{AllNull, Split as At}
use Rattle.lg_region.specs.declared.group.Gap.{Gap}
use Rattle.lg_region.specs.declared.opening.Origin.{Origin}
use Rattle.lg_region.specs.declared.ways.Way.{Way}
use Rattle.lg_region.proofs.Numbers.{apart, known_number, list_known, right_number}
use Rattle.lg_region.proofs.Valid.{known_right, known_take}

module _ (n : Numbering) (origin : Origin) (are : AreListsOf n.positions n.lists) (gap : Gap) (b : BeginsWith n origin gap) where
  inside : (a : Alt) → IsAltOfRegion n.positions n.lists (region_of_gap n.lists gap) a → CutsInside gap a
  inside AllNull is = absurd (b.some (apart n.positions n.lists are gap.llist 0 b.known.llist (omega arith) is.0, apart n.positions n.lists are gap.rlist 0 b.known.rlist (omega arith) is.1))
  inside (At w i tl tr None rk) is = absurd is
  inside (At w i tl tr (Some (Whole z)) None) is = absurd is
  inside (At w i tl tr (Some (Between l r ll rl k)) None) is = absurd is
  inside (At w i tl tr (Some (Whole z)) (Some rk)) (c, is) = absurd is.before
  inside (At w i tl tr (Some (Between l r ll rl k)) (Some rk)) (c, is) =
      let after = is.cut.after in let before = is.cut.before in let place = is.place in let sum = is.cut.nulls in let few = is.cut.few_right in
      let level = ap (λ v. v.nulls) is.before.2 in
      (omega arith, omega arith, omega arith)

  -- how a cut's right list and that of the region go on
  abbrev Goes : Disjunct → Type 0
  Goes d = (way : Way) × (way.near ≤ length n.lists) × (way.far ≤ length n.lists) × IsCutAt way.joint d.right (list_of n.lists gap.rlist) (list_of n.lists way.near) (list_of n.lists way.far) × (list_of n.lists gap.llist ≡ [] → IsSome way.joint)

  module _ (other : Gap) (o : BeginsWith n origin other) where
    same_list : list_of n.lists gap.llist ≡ list_of n.lists other.llist
    same_list = ap (λ z. list_of n.lists z) (b.llist_is ∙ sym o.llist_is)

    -- with the joint of the other region
    joined : (word : ℕ) (d : Disjunct) → Contains (slice_index_or n.positions word []) d → gap.llist ≡ 0 → (j : Option Joint) (near far : List Connector) → IsSome j → IsCutAt j d.right (list_of n.lists other.rlist) near far → Goes d
    joined word d listed z None near far s cut = absurd cc
    joined word d listed z (Some j) near far s (go, go', (x, y, at, at', fits)) =
        let cs = list_of n.lists gap.rlist in
        let ds = list_of n.lists other.rlist in
        let zero : other.llist ≡ 0 = o.llist_is ∙ sym b.llist_is ∙ z in
        let place = go'.0 in
        let end : length ds - 1 ≡ j.far = omega arith in
        let last : slice_get cs (length cs - 1) ≡ Some y = b.last_is z ∙ sym (o.last_is zero) ∙ ap (slice_get ds) end ∙ at' in
        let within = slice_get_within cs (length cs - 1) y last in
        let m = known_number n.positions n.lists are (take j.near d.right) (known_take n.positions d.right j.near (known_right n.positions word d listed)) in
        let f = known_number n.positions n.lists are (take (length cs - 1) cs) (known_take n.positions cs (length cs - 1) (list_known n.positions n.lists are gap.rlist b.known.rlist)) in (
          record { joint = Some (record { near = j.near; far = length cs - 1 }); near = m.0; far = f.0 },
          m.1,
          f.1,
          ((go.0, inl m.2), (omega arith, inl f.2), (x, y, at, last, fits)),
          λ e. refl,
        )

    goes : (c : Split) → IsCut n.positions (region_of_gap n.lists other) c → Goes c.disjunct
    goes c cut = elim (cases_lt gap.llist 1) [
      | inl p ↦ (let zero : gap.llist ≡ 0 = omega arith in
          joined c.word c.disjunct cut.listed zero c.to_right c.rkey.llist c.rkey.rlist (cut.by_rlist (sym same_list ∙ ap (list_of n.lists) zero)) cut.at_right)
      | inr p ↦ (let m = right_number n.positions n.lists are c.word c.disjunct cut.listed in (
        record { joint = None; near = m.0; far = gap.rlist },
        m.1,
        b.known.rlist,
        (m.2, refl),
        λ e. absurd (let zero = apart n.positions n.lists are gap.llist 0 b.known.llist (omega arith) e in omega arith),
      ))
    ]

    cut_here : (c : Split) → IsCut n.positions (region_of_gap n.lists other) c → c.lkey.nulls ≡ origin.nulls → c.word < end_of gap origin.nulls → (way : Goes c.disjunct)
        → IsCut n.positions (region_of_gap n.lists gap) (record c { to_right = way.0.joint; rkey = region_of_numbers n.lists c.word gap.right way.0.near way.0.far (gap.nulls - origin.nulls) })
    cut_here c cut level before way =
        let l = b.left_is in let l' = o.left_is in let after = cut.after in let few = b.few in let room = cut.few_left in
        record {
          after = omega arith;
          before = omega arith;
          listed = cut.listed;
          ends_left = (cut.ends_left.0 ∙ l' ∙ sym l, cut.ends_left.1);
          ends_right = (refl, refl);
          at_left = subst (λ z. IsCutAt c.to_left z c.disjunct.left c.lkey.llist c.lkey.rlist) (sym same_list) cut.at_left;
          at_right = way.3;
          by_llist = λ h. cut.by_llist (λ e. h (same_list ∙ e));
          by_rlist = way.4;
          few_left = omega arith;
          few_right = omega arith;
          nulls = omega arith;
        }

    alike : (a : Alt) → IsAltAt n other origin.nulls a → StandsBefore (end_of gap origin.nulls) a → (z : Alt) × IsAltAt n gap origin.nulls z × HaveSameLeft a z
    alike AllNull (is, l) before = absurd l
    alike (At w i tl tr None rk) (is, l) before = absurd l
    alike (At w i tl tr (Some (Whole q)) rk) (is, l) before = absurd l
    alike (At w i tl tr (Some (Between l r ll rl k)) None) (is, level) before = absurd is
    alike (At w i tl tr (Some (Between l r ll rl k)) (Some rk)) ((c, is), level) before =
        let way = goes c is.cut in
        let at = is.place in
        let same : c.lkey.nulls ≡ origin.nulls = ap (λ v. v.nulls) is.before.2 ∙ level in (
          At w i tl way.0.joint (Some (Between l r ll rl k)) (Some (Between w gap.right way.0.near way.0.far (gap.nulls - origin.nulls))),
          (
            (
              record c { to_right = way.0.joint; rkey = region_of_numbers n.lists c.word gap.right way.0.near way.0.far (gap.nulls - origin.nulls) },
              record {
                cut = cut_here c is.cut same (omega arith) way;
                place = is.place;
                chosen = is.chosen;
                joint_left = is.joint_left;
                joint_right = refl;
                before = is.before;
                behind = (way.1, way.2, λ q. region_of_numbers n.lists (at q) gap.right way.0.near way.0.far (gap.nulls - origin.nulls));
              },
            ),
            level,
          ),
          (refl, refl, refl, refl),
        )

pub regions_alike : RegionsBeginAlike
regions_alike = record {
  inside = λ n origin gap a are b is. inside n origin are gap b a is;
  alike = λ n origin gap other a are b o is before. alike n origin are gap b other o a is before;
}
