-- From the links that are followed off the root to the domain of a start link.
use Rattle.std.proofs.Common.{◌≡◌, ◌≢◌, ℕ, ◌<◌, Bool, false, List, [], length, get_or, ◌↔◌, ◌⊎◌, inl, inr, refl, sym, ap, subst, Contains, arith}
use Rattle.std.specs.Prelude.{slice_index, IsTrue}
use Rattle.lg_gram.specs.Linkages.{Linkage}
use Rattle.lg_gram.specs.Rules.{HasLink}
use Rattle.lg_gram.specs.Walks.{LinkFrom}
use Rattle.lg_gram.specs.declared.linkage.Link.{Link}
use Rattle.lg_walks.specs.Islands.{AreIslands}
use Rattle.lg_knowread.specs.declared.knowledge.Knowledge.{Knowledge}
use Rattle.lg_pp.specs.Domains.{InDomain, IsOffRoot, Reaches}
use Rattle.lg_pp.specs.Labels.{MatchesOne}
use Rattle.lg_pp.specs.Reach.{IsCollected, IsRow, IsStart, AreFlags, AreOffRoot, AreRows, TellReach}
use Rattle.std.proofs.lemmas.Option.{slice_get-get_or}
use Rattle.lg_pp.proofs.Zipped.{zip_at, zip_length}
use Rattle.lg_pp.proofs.Good.{no_link}
use Rattle.lg_pp.proofs.Picking.{set_within}
use Rattle.lg_pp.proofs.Kept.{AreKept}
use Rattle.lg_pp.proofs.Walking.{walk_along}

-- not ignored, and not at the root
abbrev pub IsClear : Knowledge → Linkage → ℕ → Link → Type 0
IsClear know g root l = (MatchesOne know.ignored g l → ⊥) × (l.left ≢ root) × (l.right ≢ root)

-- what the link's flag says of that
pub clear_by_flag : (know : Knowledge) (g : Linkage) (root : ℕ) (l : Link) (flag : Bool) → IsTrue flag ↔ MatchesOne know.ignored g l → ((IsTrue flag → ⊥) × (l.left ≢ root) × (l.right ≢ root)) ↔ IsClear know g root l
clear_by_flag know g root l flag h = (λ c. (λ matches. c.0 (h.1 matches), c.1, c.2), λ c. (λ set. c.0 (h.0 set), c.1, c.2))

-- links that are kept of a linkage's for this test are those that are off the root
pub off_root_from_kept : (know : Knowledge) (g : Linkage) (root : ℕ) (kept : List Link) → AreKept (IsClear know g root) g.links kept → AreOffRoot know g root kept
off_root_from_kept know g root kept are l = (
  λ has. let h = (are l).0 has in ((h.0, h.1.0), h.1.1, h.1.2),
  λ off. (are l).1 (off.0.0, (off.0.1, off.1, off.2)),
)

-- the labels of the islands off the root tell what is reached
pub islands_tell : (know : Knowledge) (g : Linkage) (start : Link) (links : List Link) (islands : List ℕ) → start.right < length islands → AreOffRoot know g start.left links → AreIslands links islands → TellReach know g start islands
islands_tell know g start links islands within are tell i less =
    let E = LinkFrom (Contains links) in
    let F = LinkFrom (IsOffRoot know g start.left) in
    let h = tell start.right i within less in (
      λ same. walk_along E F (λ a b e. (e.0, (are e.0).0 e.1, e.2, e.3)) start.right i (h.0 (sym same)),
      λ walk. sym (h.1 (walk_along F E (λ a b e. (e.0, (are e.0).1 e.1, e.2, e.3)) start.right i walk)),
    )

-- what the labels of words and the flag of a link say of the domain
module _ (know : Knowledge) (g : Linkage) (start l : Link) (flag : Bool) (islands : List ℕ) (tell : TellReach know g start islands) (left : l.left < length islands) (right : l.right < length islands) (has : HasLink g l) (says : IsTrue flag ↔ MatchesOne know.ignored g l) where
  reached_by_label : ((slice_index islands l.left ≡ slice_index islands start.right) ⊎ (slice_index islands l.right ≡ slice_index islands start.right)) ↔ (Reaches know g start l.left ⊎ Reaches know g start l.right)
  reached_by_label = (
    λ h. elim h [ inl same ↦ inl ((tell l.left left).0 same) | inr same ↦ inr ((tell l.right right).0 same) ],
    λ h. elim h [ inl walk ↦ inl ((tell l.left left).1 walk) | inr walk ↦ inr ((tell l.right right).1 walk) ],
  )

  pub collected_by_flag : IsCollected flag start islands l ↔ InDomain know g start l
  collected_by_flag = (
    λ h. elim h [ inl same ↦ inl same | inr by ↦ inr ((has, λ matches. by.1 (says.1 matches)), reached_by_label.0 by.0) ],
    λ h. elim h [ inl same ↦ inl same | inr by ↦ inr (reached_by_label.1 by.1, λ set. by.0.1 (says.0 set)) ],
  )

-- the row of a link that starts a domain, and of one that starts none
pub row_of_start : (know : Knowledge) (g : Linkage) (start : Link) (row : List Bool) → IsStart know g start → AreFlags (InDomain know g start) g.links row → IsRow know g start row
row_of_start know g start row starts are = record {
  whole = inr (zip_length (λ l flag. IsTrue flag ↔ InDomain know g start l) g.links row are);
  exactly = λ n l at. let h = zip_at (λ l flag. IsTrue flag ↔ InDomain know g start l) g.links row n l false are at in (λ set. (starts, h.0 set), λ c. h.1 c.1);
}

pub row_of_none : (know : Knowledge) (g : Linkage) (start : Link) → (IsStart know g start → ⊥) → IsRow know g start []
row_of_none know g start not = record { whole = inl refl; exactly = λ n l at. (λ set. absurd (omega (arith, set_within [] n set)), λ c. absurd (not c.0)) }

-- each link has its row
pub rows_enough : (know : Knowledge) (g : Linkage) (rows : List (List Bool)) (links : List Link) (i : ℕ) → AreRows know g rows → links ≡ g.links → i < length links → i < length rows
rows_enough know g rows links i are e less =
    let same = zip_length (IsRow know g) g.links rows are in
    let h : length links ≡ length g.links = ap length e in
    omega arith

pub row_read : (know : Knowledge) (g : Linkage) (rows : List (List Bool)) (links : List Link) (i : ℕ) → AreRows know g rows → links ≡ g.links → i < length links → (row : List Bool) → row ≡ get_or rows i row → IsRow know g (get_or links i no_link) row
row_read know g rows links i are e less row is =
    let h = zip_at (IsRow know g) g.links rows i (get_or links i no_link) row are (rw (← e) (slice_get-get_or links i no_link less)) in
    subst (IsRow know g (get_or links i no_link)) (sym is) h
