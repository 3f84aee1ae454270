-- The whole sentence from its first linked word and the region after it.
use Rattle.std.proofs.Common.{◌≡◌, ◌≢◌, ℕ, ◌-◌, List, [], length, get_or, set, sym, ap, ◌∙◌, subst, inl, inr, Contains, Some, None, IsSome, arith}
use Rattle.std.proofs.lemmas.Bool.{cases_lt}
use Rattle.std.proofs.lemmas.List.{get_or-set_same, get_or-set_other, length-set}
use Rattle.lg_gram.specs.Linkages.{Linkage}
use Rattle.lg_gram.specs.Rules.{chosen_at, HasLink, Belongs}
use Rattle.lg_gram.specs.declared.disjunct.Disjunct.{Disjunct}
use Rattle.lg_gram.specs.declared.linkage.Link.{Link}
use Rattle.lg_region.specs.Parts.{Under, part_of}
use Rattle.lg_region.specs.Whole.{First, IsFirst, SpellsFirst}
use Rattle.lg_region.proofs.Parts.{in_part, from_part, part_chosen, part_none, part_belongs}
use Rattle.lg_region.proofs.Region.{under_fits, region_of}
use Rattle.lg_region.proofs.Assemble.{same_by, none_outside, some_is}

abbrev pub begun : ℕ → Disjunct → Linkage → Linkage
begun W d gb = record { chosen = set gb.chosen W (Some d); links = gb.links }

pub begun_spells : (positions : List (List Disjunct)) (nulls : ℕ) (c : First) (gb : Linkage) → IsFirst positions nulls c → Under positions c.rkey gb → SpellsFirst positions c (begun c.word c.disjunct gb) × (part_of c.word (length positions) (begun c.word c.disjunct gb) ≡ gb)
begun_spells positions nulls c gb is u =
    let W = c.word in
    let n = length positions in
    let d = c.disjunct in
    let g = begun W d gb in
    let key = region_of W n d.right [] (nulls - W) in
    let v : Under positions key gb = subst (λ z. Under positions z gb) is.rkey u in
    let f = under_fits positions key gb is.before v in
    let bb = v.part.belongs in
    let wn = is.before in
    let len = bb.same_length in
    let word : chosen_at g W ≡ Some d = get_or-set_same gb.chosen W (Some d) None (omega arith) in
    let other : (i : ℕ) → i ≢ W → chosen_at g i ≡ chosen_at gb i = λ i n. get_or-set_other gb.chosen W i (Some d) None n in
    let belongs : Belongs positions g = record {
      same_length = length-set gb.chosen W (Some d) ∙ len;
      listed = λ i e h. elim (cases_lt i W) [
        | inl p ↦ bb.listed i e (sym (other i (λ x. omega arith)) ∙ h)
        | inr p ↦ elim (cases_lt W i) [
          | inl q ↦ bb.listed i e (sym (other i (λ x. omega arith)) ∙ h)
          | inr q ↦ (let f : W ≡ i = omega arith in
              let s = some_is d e (sym word ∙ ap (λ z. chosen_at g z) f ∙ h) in
              subst (λ z. Contains (get_or positions z []) e) f (subst (λ z. Contains (get_or positions W []) z) s is.listed))
        ]
      ];
      set = bb.set;
    } in
    let there : (l : Link) → HasLink gb l → HasLink (part_of W n g) l = λ l h. let w = f.within l h in in_part W n g l h (record { from = w.0; to = w.2; apart = v.apart l h }) in
    let same : part_of W n g ≡ gb = same_by positions (part_of W n g) gb (part_belongs positions W n g belongs).belongs bb
    (λ i. elim (cases_lt W i) [
      | inl p ↦ elim (cases_lt i n) [
        | inl q ↦ part_chosen W n g i p q ∙ other i (λ x. omega arith)
        | inr q ↦ part_none W n g i (λ a b. absurd (omega arith)) ∙ sym (none_outside positions W n gb i v.part (λ a b. absurd (omega arith)))
      ]
      | inr p ↦ part_none W n g i (λ a b. absurd (omega arith)) ∙ sym (none_outside positions W n gb i v.part (λ a b. absurd (omega arith)))
    ])
    (λ l h. (from_part W n g l h).0) there in (
      record {
        belongs = belongs;
        chosen = word;
        before = λ i p h. let b = v.part.inside i (subst (λ z. IsSome z) (other i (λ x. omega arith)) h) in let c = b.0 in omega arith;
        right = subst (λ z. Under positions c.rkey z) (sym same) u;
        rest = there;
      },
      same,
    )
