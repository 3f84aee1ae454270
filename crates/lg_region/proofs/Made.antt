-- The linkages under a region, from those under the keys of its cuts.
use Rattle.std.proofs.Common.{◌≡◌, ℕ, suc, zero, List, [], length, get_or, replicate, refl, sym, ◌∙◌, subst, ◌↔◌, Option, Some, None, IsSome, arith}
use Rattle.std.specs.List.Sorted.{IsStrictlySortedBy}
use Rattle.std.proofs.lemmas.List.{length-replicate}
use Rattle.lg_gram.specs.Linkages.{Linkage}
use Rattle.lg_gram.specs.Rules.{chosen_at, IsLinked, Belongs}
use Rattle.lg_gram.specs.declared.disjunct.Disjunct.{Disjunct}
use Rattle.lg_region.specs.Parts.{Region, IsPart, Under, UnderWhole, part_of}
use Rattle.lg_region.specs.Cuts.{IsEmpty, IsValid, Spells, Alternative, IsAlternative, SpelledBy, all_null, split}
use Rattle.lg_region.specs.Whole.{WholeAlternative, nothing, first, IsWholeAlternative, WholeSpelledBy}
use Rattle.lg_region.specs.Laws.{HasLinkage, KeysHave, WholeKeyHas}
use Rattle.lg_base.proofs.Elements.{contains_none}
use Rattle.lg_region.proofs.Empty.{region_complete, region_sound, none_of}
use Rattle.lg_region.proofs.Whole.{whole_complete, whole_sound_all}
use Rattle.lg_region.proofs.Begin.{begun, begun_spells}
use Rattle.lg_region.proofs.Assemble.{assembled, assembled_glued, glued_spells, glued_same, spelled_glued, same_by}

-- the linkage that chooses nothing
abbrev pub nothing_of : List (List Disjunct) → Linkage
nothing_of positions = record { chosen = replicate (length positions) None; links = [] }

nothing_at : (n i : ℕ) → get_or (replicate {A = Option Disjunct} n None) i None ≡ None
nothing_at zero i = refl
nothing_at (suc n) zero = refl
nothing_at (suc n) (suc i) = nothing_at n i

nothing_linked : (positions : List (List Disjunct)) (i : ℕ) → IsLinked (nothing_of positions) i → ⊥
nothing_linked positions i h = let e = subst (λ z. IsSome z) (nothing_at (length positions) i) h in cc

pub nothing_part : (positions : List (List Disjunct)) (L R : ℕ) → IsPart positions L R (nothing_of positions)
unfolding IsStrictlySortedBy
nothing_part positions L R = record {
  belongs = record {
    same_length = length-replicate {A = Option Disjunct} (length positions) None;
    listed = λ i d e. absurd (let x : ◌≡◌ {A = Option Disjunct} None (Some d) = sym (nothing_at (length positions) i) ∙ e in cc);
    set = tt;
  };
  inside = λ i h. absurd (nothing_linked positions i h);
}

pub nothing_empty : (positions : List (List Disjunct)) → IsEmpty (nothing_of positions)
nothing_empty positions = record { unlinked = nothing_linked positions; no_links = λ l h. contains_none l h }

-- what an alternative makes
abbrev pub Makes : List (List Disjunct) → Region → Alternative → Linkage → Type 0
Makes positions k all_null g = g ≡ nothing_of positions
Makes positions k (split c) g = (ga : Linkage) × (gb : Linkage) × Under positions c.lkey ga × Under positions c.rkey gb × (g ≡ assembled k c ga gb)

empty_is : (positions : List (List Disjunct)) (g : Linkage) → Belongs positions g → IsEmpty g → g ≡ nothing_of positions
empty_is positions g b e =
    same_by positions g (nothing_of positions) b (nothing_part positions 0 0).belongs
    (λ i. none_of (chosen_at g i) (e.unlinked i) ∙ sym (nothing_at (length positions) i)) (λ l h. absurd (e.no_links l h)) (λ l h. absurd (contains_none l h))

pub spelled_makes : (positions : List (List Disjunct)) (k : Region) (g : Linkage) (a : Alternative) → IsValid positions k → IsAlternative positions k a → SpelledBy positions k a g → Makes positions k a g
spelled_makes positions k g all_null v is s = empty_is positions g s.0.belongs s.1
spelled_makes positions k g (split c) v is s =
    let w = v.within in let b = is.before in (
      part_of k.left c.word g,
      part_of c.word k.right g,
      s.left,
      s.right,
      glued_same positions k c (part_of k.left c.word g) (part_of c.word k.right g) g (assembled k c (part_of k.left c.word g) (part_of c.word k.right g))
          (spelled_glued positions k c g is.after is.before s) (assembled_glued positions k c (part_of k.left c.word g) (part_of c.word k.right g) is (omega arith) s.left s.right),
    )

pub makes_spelled : (positions : List (List Disjunct)) (k : Region) (g : Linkage) (a : Alternative) → IsValid positions k → IsAlternative positions k a → Makes positions k a g → SpelledBy positions k a g
makes_spelled positions k g all_null v is m = subst (λ z. IsPart positions k.left k.right z × IsEmpty z) (sym m) (nothing_part positions k.left k.right, nothing_empty positions)
makes_spelled positions k g (split c) v is m =
    let w = v.within in let b = is.before in
    subst (λ z. Spells positions k c z) (sym m.4) (glued_spells positions k c m.0 m.1 (assembled k c m.0 m.1) is m.2 m.3 (assembled_glued positions k c m.0 m.1 is (omega arith) m.2 m.3)).0

-- exactly the linkages under a region are made by its alternatives
pub under_made : (positions : List (List Disjunct)) (k : Region) (g : Linkage) → IsValid positions k → Under positions k g ↔ ((a : Alternative) × IsAlternative positions k a × Makes positions k a g)
under_made positions k g v = (
  (λ u. let r = region_complete positions k g v.ends u in (r.0, r.1, spelled_makes positions k g r.0 v r.1 r.2)),
  (λ r. region_sound positions k g v.ends r.0 r.1 (makes_spelled positions k g r.0 v r.1 r.2)),
)

keys_have : (positions : List (List Disjunct)) (k : Region) (g : Linkage) (a : Alternative) → Makes positions k a g → KeysHave positions a
keys_have positions k g all_null m = tt
keys_have positions k g (split c) m = ((m.0, m.2), (m.1, m.3))

have_made : (positions : List (List Disjunct)) (k : Region) (a : Alternative) → KeysHave positions a → (g : Linkage) × Makes positions k a g
have_made positions k all_null h = (nothing_of positions, refl)
have_made positions k (split c) h = (assembled k c h.0.0 h.1.0, (h.0.0, h.1.0, h.0.1, h.1.1, refl))

pub has_linkage : (positions : List (List Disjunct)) (k : Region) → IsValid positions k → HasLinkage positions k ↔ ((a : Alternative) × IsAlternative positions k a × KeysHave positions a)
has_linkage positions k v = (
  (λ (g, u). let r = (under_made positions k g v).0 u in (r.0, r.1, keys_have positions k g r.0 r.2)),
  (λ (a, is, h). let m = have_made positions k a h in (m.0, (under_made positions k m.0 v).1 (a, is, m.1))),
)

whole_key_has : (positions : List (List Disjunct)) (g : Linkage) (a : WholeAlternative) → WholeSpelledBy positions a g → WholeKeyHas positions a
whole_key_has positions g nothing s = tt
whole_key_has positions g (first c) s = (part_of c.word (length positions) g, s.right)

whole_has : (positions : List (List Disjunct)) (nulls : ℕ) (a : WholeAlternative) → IsWholeAlternative positions nulls a → WholeKeyHas positions a → (g : Linkage) × UnderWhole positions nulls g
whole_has positions nulls nothing is h =
    (nothing_of positions, whole_sound_all positions nulls (nothing_of positions) nothing is ((nothing_part positions 0 0).belongs, nothing_empty positions))
whole_has positions nulls (first c) is h =
    (begun c.word c.disjunct h.0, whole_sound_all positions nulls (begun c.word c.disjunct h.0) (first c) is (begun_spells positions nulls c h.0 is h.1).0)

pub whole_has_linkage : (positions : List (List Disjunct)) (nulls : ℕ) → ((g : Linkage) × UnderWhole positions nulls g) ↔ ((a : WholeAlternative) × IsWholeAlternative positions nulls a × WholeKeyHas positions a)
whole_has_linkage positions nulls = (
  (λ (g, u). let r = whole_complete positions nulls g u in (r.0, r.1, whole_key_has positions g r.0 r.2)),
  (λ (a, is, h). whole_has positions nulls a is h),
)
