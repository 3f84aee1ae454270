-- A key has a linkage exactly where an alternative of it is live.
use Rattle.std.proofs.Common.{◌≡◌, ◌↔◌, ℕ, List, [], Some, None, refl, sym, subst, Contains, slice_get, slice_index_or}
use Rattle.std.proofs.lemmas.Option.{slice_get-get_or}
use Rattle.lg_gram.specs.Connectors.{Connector}
use Rattle.lg_gram.specs.declared.disjunct.Disjunct.{Disjunct}
use Rattle.lg_region.specs.Parts.{Region}
use Rattle.lg_region.specs.Cuts.{Alternative, all_null, split, IsAlternative, IsValid}
use Rattle.lg_region.specs.Whole.{WholeAlternative, nothing, first, IsWholeAlternative}
use Rattle.lg_region.specs.Laws.{CutsAreValid, AlternativesDecide, WholeAlternativesDecide, NumbersTellListsApart, HasLinkage, KeysHave, WholeKeyHas}
use Rattle.lg_region.specs.Keys.{IsValidKey, IsAltOf, IsAltOfWhole, IsAltOfRegion, IsKeyOf, IsDisjunctAt, region_of_numbers}
use Rattle.lg_region.specs.declared.key.Key.{Key}
use Rattle.lg_region.specs.declared.key.Key.TheVariants.{Whole, Region as Between}
use Rattle.lg_region.specs.declared.alternative.Alt.{Alt}
use Rattle.lg_region.specs.declared.alternative.Alt.TheVariants.{AllNull, Split as At}
use Rattle.lg_forest.specs.Demands.{HasLinkageUnder}
use Rattle.lg_forest.specs.Forests.{IsLive}
use Rattle.lg_forest.specs.Search.{KeysAreDecided}
use Rattle.lg_forest.proofs.Below.{below}

-- a key and the region that it stands for have the same linkages
key_has : (positions : List (List Disjunct)) (lists : List (List Connector)) (m : Key) (k : Region) → IsKeyOf lists m k → HasLinkage positions k ↔ HasLinkageUnder positions lists m
key_has positions lists (Whole nulls) k is = absurd is
key_has positions lists (Between left right llist rlist nulls) k is = (subst (λ z. HasLinkage positions z) is.2, subst (λ z. HasLinkage positions z) (sym is.2))

-- the number of a listed disjunct
pub numbered : (positions : List (List Disjunct)) (word : ℕ) (d : Disjunct) → Contains (slice_index_or positions word []) d → (number : ℕ) × IsDisjunctAt positions word number d
numbered positions word d (i, lt, at) = (i, subst (λ z. slice_get (slice_index_or positions word []) i ≡ Some z) at (slice_get-get_or (slice_index_or positions word []) i d lt))

-- an alternative in numbers, from one that is not
abbrev LiveAlt : List (List Disjunct) → List (List Connector) → Key → Type 0
LiveAlt positions lists k = (a : Alt) × IsAltOf positions lists k a × IsLive positions lists a

module _ (positions : List (List Disjunct)) (lists : List (List Connector)) (valid : CutsAreValid) (numbers : NumbersTellListsApart positions lists) where
  number_whole : (nulls : ℕ) (a : WholeAlternative) → IsWholeAlternative positions nulls a → WholeKeyHas positions a → LiveAlt positions lists (Whole nulls)
  number_whole nulls nothing is has = (AllNull, is, record { left = tt; right = tt })
  number_whole nulls (first c) is has =
      let n = numbered positions c.word c.disjunct is.listed in
      let r = numbers.some_key c.rkey (valid.first positions nulls c is) in (
        At c.word n.0 None None None (Some r.0),
        (c, record { first = is; place = refl; chosen = n.1; behind = r.1 }),
        record { left = tt; right = (key_has positions lists r.0 c.rkey r.1).0 has },
      )

  number_region : (k : Region) (a : Alternative) → IsValid positions k → IsAlternative positions k a → KeysHave positions a → (b : Alt) × IsAltOfRegion positions lists k b × IsLive positions lists b
  number_region k all_null v is has = (AllNull, is, record { left = tt; right = tt })
  number_region k (split c) v is has =
      let n = numbered positions c.word c.disjunct is.listed in
      let s = valid.split positions k c v is in
      let l = numbers.some_key c.lkey s.0 in
      let r = numbers.some_key c.rkey s.1 in (
        At c.word n.0 c.to_left c.to_right (Some l.0) (Some r.0),
        (c, record { cut = is; place = refl; chosen = n.1; joint_left = refl; joint_right = refl; before = l.1; behind = r.1 }),
        record { left = (key_has positions lists l.0 c.lkey l.1).0 has.0; right = (key_has positions lists r.0 c.rkey r.1).0 has.1 },
      )

-- and back
whole_of : (positions : List (List Disjunct)) (lists : List (List Connector)) (nulls : ℕ) (a : Alt) → IsAltOfWhole positions lists nulls a → IsLive positions lists a → (b : WholeAlternative) × IsWholeAlternative positions nulls b × WholeKeyHas positions b
whole_of positions lists nulls AllNull is live = (nothing, is, tt)
whole_of positions lists nulls (At word number None None None (Some rkey)) (c, is) live = (first c, is.first, (key_has positions lists rkey c.rkey is.behind).1 live.right)
whole_of positions lists nulls (At word number None None None None) is live = absurd is
whole_of positions lists nulls (At word number None None (Some lkey) rkey) is live = absurd is
whole_of positions lists nulls (At word number None (Some j) lkey rkey) is live = absurd is
whole_of positions lists nulls (At word number (Some j) to_right lkey rkey) is live = absurd is

region_of : (positions : List (List Disjunct)) (lists : List (List Connector)) (k : Region) (a : Alt) → IsAltOfRegion positions lists k a → IsLive positions lists a → (b : Alternative) × IsAlternative positions k b × KeysHave positions b
region_of positions lists k AllNull is live = (all_null, is, tt)
region_of positions lists k (At word number to_left to_right (Some lkey) (Some rkey)) (c, is) live =
    (split c, is.cut, ((key_has positions lists lkey c.lkey is.before).1 live.left, (key_has positions lists rkey c.rkey is.behind).1 live.right))
region_of positions lists k (At word number to_left to_right (Some lkey) None) is live = absurd is
region_of positions lists k (At word number to_left to_right None rkey) is live = absurd is

pub decided : (positions : List (List Disjunct)) (lists : List (List Connector)) → CutsAreValid → AlternativesDecide → WholeAlternativesDecide → NumbersTellListsApart positions lists → KeysAreDecided (record { positions = positions; lists = lists })
decided positions lists valid regions wholes numbers = record {
  valid = λ k a v is. (below positions lists k a valid v is).0;
  below = λ k a v is. (below positions lists k a valid v is).1;
  decides = by_kind;
}
  where
    by_kind : (k : Key) → IsValidKey positions lists k → HasLinkageUnder positions lists k ↔ ((a : Alt) × IsAltOf positions lists k a × IsLive positions lists a)
    by_kind (Whole nulls) v = (
      (λ h. let a = (wholes positions nulls).0 h in number_whole positions lists valid numbers nulls a.0 a.1 a.2),
      (λ h. (wholes positions nulls).1 (whole_of positions lists nulls h.0 h.1 h.2)),
    )
    by_kind (Between left right llist rlist nulls) v =
        let k = region_of_numbers lists left right llist rlist nulls in (
          (λ h. let a = (regions positions k v.2).0 h in number_region positions lists valid numbers k a.0 v.2 a.1 a.2),
          (λ h. (regions positions k v.2).1 (region_of positions lists k h.0 h.1 h.2)),
        )
