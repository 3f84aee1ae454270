-- The linkages under a key, spelled by its alternatives, and their drafts.
use Rattle.std.proofs.Common.{◌≡◌, ◌↔◌, ℕ, ◌<◌, ◌⊎◌, inl, inr, refl, sym, ap, ◌∙◌, subst, List, [], ◌∷◌, length, map, Option, Some, None, IsSome, Contains}
use Rattle.std.specs.List.{flat_map}
use Rattle.std.proofs.lemmas.Bool.{cases_lt}
use Rattle.std.proofs.lemmas.List.{get_or_past}
use Rattle.lg_gram.specs.Connectors.{Connector}
use Rattle.lg_gram.specs.Linkages.{Linkage}
use Rattle.lg_gram.specs.Rules.{IsLinked, chosen_at}
use Rattle.lg_gram.specs.declared.disjunct.Disjunct.{Disjunct}
use Rattle.lg_gram.specs.declared.linkage.Link.{Link}
use Rattle.lg_region.specs.Parts.{Region, Under, UnderWhole, part_of}
use Rattle.lg_region.specs.Cuts.{Split, Alternative, all_null, split, IsAlternative, Spells, SpelledBy, IsJoint, IsValid}
use Rattle.lg_region.specs.Whole.{First, WholeAlternative, nothing, first, IsWholeAlternative, SpellsFirst, WholeSpelledBy}
use Rattle.lg_region.specs.Laws.{RegionsAreCutOnce, SentencesAreCutOnce, CutsAreValid, PartsMakeLinkages, NumbersTellListsApart}
use Rattle.lg_region.specs.Keys.{IsValidKey, IsAltOf, IsAltOfRegion, IsKeyOf, IsFirstOf, IsSplitOf, IsDisjunctAt, region_of_numbers}
use Rattle.lg_region.specs.declared.key.Joint.{Joint}
use Rattle.lg_region.specs.declared.key.Key.{Key}
use Rattle.lg_region.specs.declared.key.Key.TheVariants.{Whole, Region as Between}
use Rattle.lg_region.specs.declared.alternative.Alt.{Alt}
use Rattle.lg_region.specs.declared.alternative.Alt.TheVariants.{AllNull, Split as At}
use Rattle.lg_forest.specs.Demands.{HasLinkageUnder}
use Rattle.lg_forest.specs.Forests.{IsLive}
use Rattle.lg_forest.specs.Drafts.{Draft, UnderKey, IsDraftOf, AreDraftsOf, AreDraftsOfPart, IsJointOf, IsSpelled, IsSpelledOfWhole, IsSpelledOfRegion, joined, empty}
use Rattle.lg_forest.specs.declared.draft.Use.{Use}
use Rattle.lg_forest.proofs.Once.{contains_here, contains_none, contains_cases, contains_map}
use Rattle.lg_forest.proofs.Decide.{numbered}
use Rattle.lg_forest.proofs.Drafted.{draft_joined, map_contains, flat_contains, contains_flat, nothing_part, nothing_empty, nothing_of, draft_empty, part_link, part_some, some_part}

-- under a key lies what lies under its region
key_under : (positions : List (List Disjunct)) (lists : List (List Connector)) (m : Key) (k : Region) (g : Linkage) → IsKeyOf lists m k → Under positions k g ↔ UnderKey positions lists m g
key_under positions lists (Whole nulls) k g is = absurd is
key_under positions lists (Between left right llist rlist nulls) k g is = (subst (λ z. Under positions z g) is.2, subst (λ z. Under positions z g) (sym is.2))

key_has_linkage : (positions : List (List Disjunct)) (lists : List (List Connector)) (m : Key) (g : Linkage) → UnderKey positions lists m g → HasLinkageUnder positions lists m
key_has_linkage positions lists (Whole nulls) g u = (g, u)
key_has_linkage positions lists (Between left right llist rlist nulls) g u = (g, u)

linked : (g : Linkage) (i : ℕ) (d : Disjunct) → chosen_at g i ≡ Some d → IsLinked g i
linked g i d e = subst (λ z. IsSome z) (sym e) refl

-- what a split spells has a draft, made of those of its two parts
split_draft : (positions : List (List Disjunct)) (lists : List (List Connector)) (k : Region) (word number : ℕ) (to_left to_right : Option Joint) (lkey rkey : Key) (joints : List Link) (p q : Draft) (c : Split) (g : Linkage)
    → IsSplitOf positions lists k word number to_left to_right lkey rkey c → ((l : Link) → Contains joints l ↔ (IsJoint to_left k.left word l ⊎ IsJoint to_right word k.right l)) → Spells positions k c g
    → IsDraftOf positions p (part_of k.left c.word g) → IsDraftOf positions q (part_of c.word k.right g) → IsDraftOf positions (joined (record { word = word; disjunct = number }) joints p q) g
split_draft positions lists k word number to_left to_right lkey rkey joints p q c g is joint s dp dq =
    let to_l : (l : Link) → IsJoint c.to_left k.left c.word l → IsJoint to_left k.left word l = λ l j. subst (λ z. IsJoint to_left k.left z l) is.place (subst (λ z. IsJoint z k.left c.word l) is.joint_left j) in
    let from_l : (l : Link) → IsJoint to_left k.left word l → IsJoint c.to_left k.left c.word l = λ l j. subst (λ z. IsJoint z k.left c.word l) (sym is.joint_left) (subst (λ z. IsJoint to_left k.left z l) (sym is.place) j) in
    let to_r : (l : Link) → IsJoint c.to_right c.word k.right l → IsJoint to_right word k.right l = λ l j. subst (λ z. IsJoint to_right z k.right l) is.place (subst (λ z. IsJoint z c.word k.right l) is.joint_right j) in
    let from_r : (l : Link) → IsJoint to_right word k.right l → IsJoint c.to_right c.word k.right l = λ l j. subst (λ z. IsJoint z c.word k.right l) (sym is.joint_right) (subst (λ z. IsJoint to_right z k.right l) (sym is.place) j) in
    draft_joined positions g c.word c.disjunct (record { word = word; disjunct = number }) joints p q s.part.belongs s.chosen (sym is.place) (subst (λ z. IsDisjunctAt positions z number c.disjunct) (sym is.place) is.chosen)
    (λ i d. (
      (λ h. let r = part_some k.left c.word g i d ((dp.uses i d).1 h) in (r.1, r.2)),
      (λ h. (dp.uses i d).0 (some_part k.left c.word g i d (s.part.inside i (linked g i d h.1)).0 h.0 h.1)),
    ))
    (λ i d. (
      (λ h. let r = part_some c.word k.right g i d ((dq.uses i d).1 h) in (r.0, r.2)),
      (λ h. (dq.uses i d).0 (some_part c.word k.right g i d h.0 (s.part.inside i (linked g i d h.1)).1 h.1)),
    ))
    (λ l. (
      (λ h. elim (s.rest l h) [
        | inl a ↦ inl ((dp.links l).0 a)
        | inr b ↦ inr (elim b [
          | inl a ↦ inl ((dq.links l).0 a)
          | inr j ↦ inr ((joint l).1 (elim j [ inl x ↦ inl (to_l l x) | inr x ↦ inr (to_r l x) ]))
        ])
      ]),
      (λ h. elim h [
        | inl a ↦ part_link k.left c.word g l ((dp.links l).1 a)
        | inr b ↦ elim b [
          | inl a ↦ part_link c.word k.right g l ((dq.links l).1 a)
          | inr j ↦ elim ((joint l).0 j) [ inl x ↦ s.joint_left l (from_l l x) | inr x ↦ s.joint_right l (from_r l x) ]
        ]
      ]),
    ))

-- what a first word spells has a draft, made of that of its part
first_draft : (positions : List (List Disjunct)) (lists : List (List Connector)) (nulls word number : ℕ) (rkey : Key) (joints : List Link) (q : Draft) (c : First) (g : Linkage)
    → IsFirstOf positions lists nulls word number rkey c → ((l : Link) → Contains joints l → ⊥) → SpellsFirst positions c g
    → IsDraftOf positions q (part_of c.word (length positions) g) → IsDraftOf positions (joined (record { word = word; disjunct = number }) joints empty q) g
first_draft positions lists nulls word number rkey joints q c g is none s dq =
    draft_joined positions g c.word c.disjunct (record { word = word; disjunct = number }) joints empty q s.belongs s.chosen (sym is.place) (subst (λ z. IsDisjunctAt positions z number c.disjunct) (sym is.place) is.chosen)
    (λ i d. ((λ h. absurd (contains_none h.0 h.1)), (λ h. absurd (s.before i h.0 (linked g i d h.1)))))
    (λ i d. (
      (λ h. let r = part_some c.word (length positions) g i d ((dq.uses i d).1 h) in (r.0, r.2)),
      (λ h. (dq.uses i d).0 (some_part c.word (length positions) g i d h.0 (within i d h.1) h.1)),
    ))
    (λ l. (
      (λ h. inr (inl ((dq.links l).0 (s.rest l h)))),
      (λ h. elim h [ inl a ↦ absurd (contains_none l a) | inr b ↦ elim b [ inl a ↦ part_link c.word (length positions) g l ((dq.links l).1 a) | inr j ↦ absurd (none l j) ] ]),
    ))
  where
    within : (i : ℕ) (d : Disjunct) → chosen_at g i ≡ Some d → i < length positions
    within i d e = elim (cases_lt i (length positions)) [
      | inl lt ↦ lt
      | inr past ↦ absurd (contains_none d (subst (λ z. Contains z d) (get_or_past positions i [] past) (s.belongs.listed i d e)))
    ]

module _ (positions : List (List Disjunct)) (lists : List (List Connector)) (regions : RegionsAreCutOnce) (wholes : SentencesAreCutOnce) (parts : PartsMakeLinkages) (valid : CutsAreValid) (numbers : NumbersTellListsApart positions lists) where
  made_first : (nulls word number : ℕ) (rkey : Key) (joints : List Link) (ps qs : List Draft) (c : First) → IsFirstOf positions lists nulls word number rkey c → ((l : Link) → Contains joints l ↔ ⊥) → ps ≡ empty ∷ [] → AreDraftsOf positions (UnderKey positions lists rkey) qs
      → AreDraftsOf positions (λ g. (c : First) × IsFirstOf positions lists nulls word number rkey c × SpellsFirst positions c g) (flat_map (λ p. map (joined (record { word = word; disjunct = number }) joints p) qs) ps)
  made_first nulls word number rkey joints ps qs c is none one drafts =
      let u : Use = record { word = word; disjunct = number } in record {
        each = λ p h.
            let r = contains_flat (λ p. map (joined u joints p) qs) ps p h in
            let m = map_contains (joined u joints r.0) qs p r.2 in
            let b = drafts.each m.0 m.1 in
            let s = parts.some_first positions nulls c b.0 is.first ((key_under positions lists rkey c.rkey b.0 is.behind).1 b.1) in
            let e : empty ≡ r.0 = elim (contains_cases empty [] r.0 (subst (λ z. Contains z r.0) one r.1)) [ inl e ↦ e | inr n ↦ absurd (contains_none r.0 n) ] in
            let d = first_draft positions lists nulls word number rkey joints m.0 c s.0 is (λ l j. (none l).0 j) s.1 (subst (λ z. IsDraftOf positions m.0 z) (sym s.2) b.2) in
            (s.0, (c, is, s.1), subst (λ z. IsDraftOf positions z s.0) (ap (λ z. joined u joints z m.0) e ∙ m.2) d);
        all = λ g (c', is', s).
            let b = drafts.all (part_of c'.word (length positions) g) ((key_under positions lists rkey c'.rkey (part_of c'.word (length positions) g) is'.behind).0 s.right) in (
              joined u joints empty b.0,
              flat_contains (λ p. map (joined u joints p) qs) ps empty (joined u joints empty b.0) (subst (λ z. Contains z empty) (sym one) (contains_here empty [])) (contains_map (joined u joints empty) qs b.0 b.1),
              first_draft positions lists nulls word number rkey joints b.0 c' g is' (λ l j. (none l).0 j) s b.2,
            );
      }

  made_split : (k : Region) (word number : ℕ) (to_left to_right : Option Joint) (lkey rkey : Key) (joints : List Link) (ps qs : List Draft) (c : Split) → IsValid positions k → IsSplitOf positions lists k word number to_left to_right lkey rkey c
      → ((l : Link) → Contains joints l ↔ (IsJoint to_left k.left word l ⊎ IsJoint to_right word k.right l)) → AreDraftsOf positions (UnderKey positions lists lkey) ps → AreDraftsOf positions (UnderKey positions lists rkey) qs
      → AreDraftsOf positions (λ g. (c : Split) × IsSplitOf positions lists k word number to_left to_right lkey rkey c × Spells positions k c g) (flat_map (λ p. map (joined (record { word = word; disjunct = number }) joints p) qs) ps)
  made_split k word number to_left to_right lkey rkey joints ps qs c v is joint lefts rights =
      let u : Use = record { word = word; disjunct = number } in record {
        each = λ p h.
            let r = contains_flat (λ p. map (joined u joints p) qs) ps p h in
            let m = map_contains (joined u joints r.0) qs p r.2 in
            let a = lefts.each r.0 r.1 in
            let b = rights.each m.0 m.1 in
            let s = parts.some positions k c a.0 b.0 v is.cut ((key_under positions lists lkey c.lkey a.0 is.before).1 a.1) ((key_under positions lists rkey c.rkey b.0 is.behind).1 b.1) in
            let d = split_draft positions lists k word number to_left to_right lkey rkey joints r.0 m.0 c s.0 is joint s.1 (subst (λ z. IsDraftOf positions r.0 z) (sym s.2) a.2) (subst (λ z. IsDraftOf positions m.0 z) (sym s.3) b.2) in
            (s.0, (c, is, s.1), subst (λ z. IsDraftOf positions z s.0) m.2 d);
        all = λ g (c', is', s).
            let a = lefts.all (part_of k.left c'.word g) ((key_under positions lists lkey c'.lkey (part_of k.left c'.word g) is'.before).0 s.left) in
            let b = rights.all (part_of c'.word k.right g) ((key_under positions lists rkey c'.rkey (part_of c'.word k.right g) is'.behind).0 s.right) in (
              joined u joints a.0 b.0,
              flat_contains (λ p. map (joined u joints p) qs) ps a.0 (joined u joints a.0 b.0) a.1 (contains_map (joined u joints a.0) qs b.0 b.1),
              split_draft positions lists k word number to_left to_right lkey rkey joints a.0 b.0 c' g is' joint s a.2 b.2,
            );
      }

  pub made : (k : Key) (word number : ℕ) (to_left to_right : Option Joint) (lkey rkey : Option Key) (joints : List Link) (ps qs : List Draft) → IsValidKey positions lists k → IsAltOf positions lists k (At word number to_left to_right lkey rkey)
      → ((l : Link) → Contains joints l ↔ IsJointOf k word to_left to_right l) → AreDraftsOfPart positions lists lkey ps → AreDraftsOfPart positions lists rkey qs
      → AreDraftsOf positions (IsSpelled positions lists k (At word number to_left to_right lkey rkey)) (flat_map (λ p. map (joined (record { word = word; disjunct = number }) joints p) qs) ps)
  made (Whole nulls) word number None None None (Some rkey) joints ps qs v (c, is) joint lefts rights = made_first nulls word number rkey joints ps qs c is joint lefts rights
  made (Whole nulls) word number None None None None joints ps qs v is joint lefts rights = absurd is
  made (Whole nulls) word number None None (Some lkey) rkey joints ps qs v is joint lefts rights = absurd is
  made (Whole nulls) word number None (Some j) lkey rkey joints ps qs v is joint lefts rights = absurd is
  made (Whole nulls) word number (Some j) to_right lkey rkey joints ps qs v is joint lefts rights = absurd is
  made (Between left right llist rlist nulls) word number to_left to_right (Some lkey) (Some rkey) joints ps qs v (c, is) joint lefts rights =
      made_split (region_of_numbers lists left right llist rlist nulls) word number to_left to_right lkey rkey joints ps qs c v.2 is joint lefts rights
  made (Between left right llist rlist nulls) word number to_left to_right (Some lkey) None joints ps qs v is joint lefts rights = absurd is
  made (Between left right llist rlist nulls) word number to_left to_right None rkey joints ps qs v is joint lefts rights = absurd is

  one_draft : (Kind : Linkage → Type 0) → Kind (nothing_of positions) → ((g : Linkage) → Kind g → IsDraftOf positions empty g) → AreDraftsOf positions Kind (empty ∷ [])
  one_draft Kind some all = record {
    each = λ p h. elim (contains_cases empty [] p h) [ inl e ↦ (nothing_of positions, some, subst (λ z. IsDraftOf positions z (nothing_of positions)) e (all (nothing_of positions) some)) | inr n ↦ absurd (contains_none p n) ];
    all = λ g h. (empty, contains_here empty [], all g h);
  }

  pub alone : (k : Key) → IsAltOf positions lists k AllNull → AreDraftsOf positions (IsSpelled positions lists k AllNull) (empty ∷ [])
  alone (Whole nulls) is = one_draft (IsSpelled positions lists (Whole nulls) AllNull) (is, (nothing_part positions 0 0).belongs, nothing_empty positions) (λ g h. draft_empty positions g h.1 h.2)
  alone (Between left right llist rlist nulls) is =
      one_draft (IsSpelled positions lists (Between left right llist rlist nulls) AllNull) (is, (nothing_part positions left right, nothing_empty positions)) (λ g h. draft_empty positions g h.1.0.belongs h.1.1)

  abbrev LiveSpelled : Key → Linkage → Type 0
  LiveSpelled k g = (a : Alt) × IsAltOf positions lists k a × IsLive positions lists a × IsSpelled positions lists k a g

  whole_spelled : (nulls : ℕ) (g : Linkage) (a : WholeAlternative) → IsWholeAlternative positions nulls a → WholeSpelledBy positions a g → LiveSpelled (Whole nulls) g
  whole_spelled nulls g nothing is s = (AllNull, is, record { left = tt; right = tt }, (is, s.0, s.1))
  whole_spelled nulls g (first c) is s =
      let n = numbered positions c.word c.disjunct is.listed in
      let r = numbers.some_key c.rkey (valid.first positions nulls c is) in
      let f : IsFirstOf positions lists nulls c.word n.0 r.0 c = record { first = is; place = refl; chosen = n.1; behind = r.1 } in (
        At c.word n.0 None None None (Some r.0),
        (c, f),
        record { left = tt; right = key_has_linkage positions lists r.0 (part_of c.word (length positions) g) ((key_under positions lists r.0 c.rkey (part_of c.word (length positions) g) r.1).0 s.right) },
        (c, f, s),
      )

  region_spelled : (k : Region) (g : Linkage) (a : Alternative) → IsValid positions k → IsAlternative positions k a → SpelledBy positions k a g → (a : Alt) × IsAltOfRegion positions lists k a × IsLive positions lists a × IsSpelledOfRegion positions lists k a g
  region_spelled k g all_null v is s = (AllNull, is, record { left = tt; right = tt }, (is, s))
  region_spelled k g (split c) v is s =
      let n = numbered positions c.word c.disjunct is.listed in
      let b = valid.split positions k c v is in
      let l = numbers.some_key c.lkey b.0 in
      let r = numbers.some_key c.rkey b.1 in
      let f : IsSplitOf positions lists k c.word n.0 c.to_left c.to_right l.0 r.0 c = record { cut = is; place = refl; chosen = n.1; joint_left = refl; joint_right = refl; before = l.1; behind = r.1 } in (
        At c.word n.0 c.to_left c.to_right (Some l.0) (Some r.0),
        (c, f),
        record {
          left = key_has_linkage positions lists l.0 (part_of k.left c.word g) ((key_under positions lists l.0 c.lkey (part_of k.left c.word g) l.1).0 s.left);
          right = key_has_linkage positions lists r.0 (part_of c.word k.right g) ((key_under positions lists r.0 c.rkey (part_of c.word k.right g) r.1).0 s.right);
        },
        (c, f, s),
      )

  spelled_whole : (nulls : ℕ) (g : Linkage) (a : Alt) → IsSpelledOfWhole positions lists nulls a g → UnderWhole positions nulls g
  spelled_whole nulls g AllNull (is, b, e) = wholes.sound positions nulls g nothing is (b, e)
  spelled_whole nulls g (At word number None None None (Some rkey)) (c, is, s) = wholes.sound positions nulls g (first c) is.first s
  spelled_whole nulls g (At word number None None None None) s = absurd s
  spelled_whole nulls g (At word number None None (Some lkey) rkey) s = absurd s
  spelled_whole nulls g (At word number None (Some j) lkey rkey) s = absurd s
  spelled_whole nulls g (At word number (Some j) to_right lkey rkey) s = absurd s

  spelled_region : (k : Region) (g : Linkage) (a : Alt) → k.left < k.right → IsSpelledOfRegion positions lists k a g → Under positions k g
  spelled_region k g AllNull lt (is, s) = regions.sound positions k g lt all_null is s
  spelled_region k g (At word number to_left to_right (Some lkey) (Some rkey)) lt (c, is, s) = regions.sound positions k g lt (split c) is.cut s
  spelled_region k g (At word number to_left to_right (Some lkey) None) lt s = absurd s
  spelled_region k g (At word number to_left to_right None rkey) lt s = absurd s

  pub under : (k : Key) (g : Linkage) → IsValidKey positions lists k → UnderKey positions lists k g ↔ LiveSpelled k g
  under (Whole nulls) g v = (
    (λ u. let r = wholes.some positions nulls g u in whole_spelled nulls g r.0 r.1 r.2),
    (λ r. spelled_whole nulls g r.0 r.3),
  )
  under (Between left right llist rlist nulls) g v =
      let k = region_of_numbers lists left right llist rlist nulls in (
        (λ u. let r = regions.some positions k g v.2.ends u in region_spelled k g r.0 v.2 r.1 r.2),
        (λ r. spelled_region k g r.0 v.2.ends r.3),
      )
