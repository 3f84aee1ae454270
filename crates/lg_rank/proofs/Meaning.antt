-- The values of a forest that stands for regions are the linkages under them.
use Rattle.std.proofs.Common.{◌≡◌, ℕ, zero, suc, ◌<◌, ◌≤◌, List, [], ◌∷◌, length, get_or, replicate, Option, Some, None, IsSome, Contains, inl, inr, refl, sym, ap, ◌∙◌, subst, arith}
use Rattle.std.specs.List.Sorted.{IsStrictlySortedBy}
use Rattle.std.proofs.lemmas.Bool.{cases_lt}
use Rattle.std.proofs.lemmas.List.{length-replicate, get_or_past}
use Rattle.std.proofs.lemmas.Option.{slice_get_within, slice_get-get_or, get_or_from_slice_get}
use Rattle.lg_gram.specs.Connectors.{Connector}
use Rattle.lg_gram.specs.Linkages.{Linkage}
use Rattle.lg_gram.specs.Rules.{chosen_at, Belongs}
use Rattle.lg_gram.specs.declared.disjunct.Disjunct.{Disjunct}
use Rattle.lg_gram.specs.declared.linkage.Link.{Link}
use Rattle.lg_region.specs.declared.key.Joint.{Joint}
use Rattle.lg_region.specs.Cuts.{IsCutAt, Split, IsValid, IsEmpty, Spells, Alternative, all_null, split, IsAlternative, SpelledBy}
use Rattle.lg_region.specs.Laws.{RegionsAreCutOnce, SentencesAreCutOnce, CutsAreValid, PartsMakeLinkages}
use Rattle.lg_region.specs.Parts.{Region, IsPart, Under, part_of}
use Rattle.lg_region.specs.Whole.{First, SpellsFirst, WholeAlternative, nothing as no_word, first, IsWholeAlternative, WholeSpelledBy}
use Rattle.lg_rank.specs.Joins.{CutsKeepOrder}
use Rattle.lg_rank.specs.Meanings.{IsPacked, joint_link, unlinked_of, Subject, whole, region, IsUnder, IsSubject, IsPartFor, IsSplitWay, IsFirstWay, Cutting, split_at, begins_at, IsWayFor, IsCutting, IsForestOf}
use Rattle.lg_rank.specs.Nodes.{Has, no_way, ways_of, way_at}
use Rattle.lg_rank.specs.Nodes.Has.{nothing, made}
use Rattle.lg_rank.specs.Values.{Value, combine}
use Rattle.lg_rank.specs.declared.part.Way.{Way}
use Rattle.lg_rank.proofs.Cuts.{not_linked}
use Rattle.lg_rank.proofs.Gluing.{spelled_glue, first_glue, none_at}
use Rattle.lg_base.proofs.Elements.{contains_here, contains_none}
use Rattle.lg_rank.proofs.Packing.{glued_packed}

-- the laws that are needed
pub record Laws : Type 0 where
  pub regions : RegionsAreCutOnce
  pub sentences : SentencesAreCutOnce
  pub valid : CutsAreValid
  pub parts : PartsMakeLinkages
  pub keep : CutsKeepOrder

-- a linkage that is packed as v
abbrev pub Packs : List (List Disjunct) → Subject → Value → Type 0
Packs positions s v = (g : Linkage) × IsUnder positions s g × IsPacked positions g v

-- ---- where nothing can be linked
pub unlinked_part : (positions : List (List Disjunct)) (L R : ℕ) → IsPart positions L R (unlinked_of (length positions))
unfolding IsStrictlySortedBy
unlinked_part positions L R = record {
  belongs = record {
    same_length = length-replicate {A = Option Disjunct} (length positions) None;
    listed = λ i d e. absurd (let x : ◌≡◌ {A = Option Disjunct} None (Some d) = sym (none_at (length positions) i) ∙ e in cc);
    set = tt;
  };
  inside = λ i h. absurd (let e = subst (λ (o : Option Disjunct). IsSome o) (none_at (length positions) i) h in cc);
}

pub unlinked_empty : (positions : List (List Disjunct)) → IsEmpty (unlinked_of (length positions))
unlinked_empty positions = record { unlinked = λ i h. (let e = subst (λ (o : Option Disjunct). IsSome o) (none_at (length positions) i) h in absurd cc); no_links = λ l h. contains_none l h }

no_more : (xs : List Link) → ((l : Link) → Contains xs l → ⊥) → xs ≡ []
no_more [] h = refl
no_more (x ∷ xs) h = absurd (h x (contains_here x xs))

nones : (n : ℕ) (os : List (Option Disjunct)) → length os ≡ n → ((i : ℕ) → get_or os i None ≡ None) → os ≡ replicate n None
nones zero [] e h = refl
nones (suc n) [] e h = absurd (omega arith)
nones zero (o ∷ os) e h = absurd (omega arith)
nones (suc n) (o ∷ os) e h = λ k. h 0 k ∷ nones n os (omega arith) (λ i. h (suc i)) k

pub empty_is : (positions : List (List Disjunct)) (g : Linkage) → Belongs positions g → IsEmpty g → g ≡ unlinked_of (length positions)
empty_is positions g b e =
    let chosen = nones (length positions) g.chosen b.same_length (λ i. not_linked (chosen_at g i) (e.unlinked i)) in
    let links = no_more g.links e.no_links in
    λ k. record { chosen = chosen k; links = links k }

pub no_cut : (o : Option Joint) (a b c d : List Connector) → b ≡ [] → IsCutAt o a b c d → IsSome o → ⊥
no_cut None a b c d e h s = cc
no_cut (Some j) a b c d e h s = (let f = h.1.0 in let g = ap length e in omega arith)

spelled_empty : (positions : List (List Disjunct)) (r : Region) (g : Linkage) (a : Alternative) → r.llist ≡ [] → r.rlist ≡ [] → IsAlternative positions r a → SpelledBy positions r a g → Belongs positions g × IsEmpty g
spelled_empty positions r g all_null p q is s = (s.0.belongs, s.1)
spelled_empty positions r g (split c) p q is s = absurd (no_cut c.to_right c.disjunct.right r.rlist c.rkey.llist c.rkey.rlist q is.at_right (is.by_rlist p))

-- under a region with empty lists nothing is linked
only_unlinked : Laws → (positions : List (List Disjunct)) (r : Region) (g : Linkage) → r.left < r.right → r.llist ≡ [] → r.rlist ≡ [] → Under positions r g → g ≡ unlinked_of (length positions)
only_unlinked laws positions r g lr p q u =
    let a = laws.regions.some positions r g lr u in
    let s = spelled_empty positions r g a.0 p q a.1 a.2 in
    empty_is positions g s.0 s.1

-- ---- what a way makes
pub record Halves (positions : List (List Disjunct)) (a b : Linkage) (x y : Value) : Type 0 where
  pub one : IsPacked positions a x
  pub other : IsPacked positions b y

pub split_packed : Laws → (positions : List (List Disjunct)) (subjects : ℕ → Subject) (k : ℕ) (r : Region) (w : Way) (c : Split) (g a b : Linkage) (x y : Value) → IsValid positions r → IsSplitWay positions subjects k r w c → Spells positions r c g → part_of r.left c.word g ≡ a → part_of c.word r.right g ≡ b → Halves positions a b x y → IsPacked positions g (combine w x y)
split_packed laws positions subjects k r w c g a b x y valid way s ea eb h =
    glued_packed positions c.word c.disjunct (joint_link c.to_left r.left c.word) (joint_link c.to_right c.word r.right) (part_of r.left c.word g) (part_of c.word r.right g) g x y w
    (spelled_glue laws.regions positions r c g valid way.cut s) way.word (subst (λ t. IsPacked positions t x) (sym ea) h.one) (subst (λ t. IsPacked positions t y) (sym eb) h.other)

pub first_packed : (positions : List (List Disjunct)) (subjects : ℕ → Subject) (k nulls : ℕ) (w : Way) (c : First) (g b : Linkage) (x y : Value) → IsFirstWay positions subjects k nulls w c → SpellsFirst positions c g → part_of c.word (length positions) g ≡ b → IsPacked positions (unlinked_of (length positions)) x → IsPacked positions b y → IsPacked positions g (combine w x y)
first_packed positions subjects k nulls w c g b x y way s eb p q =
    glued_packed positions c.word c.disjunct None None (unlinked_of (length positions)) (part_of c.word (length positions) g) g x y w
    (first_glue positions nulls c g way.first s) way.word p (subst (λ t. IsPacked positions t y) (sym eb) q)

-- ---- each value is a linkage
pub has_nothing : (z : Value) (forest : List (List Way)) (o : Option ℕ) (v : Value) → Has z forest o v → o ≡ None → v ≡ z
has_nothing z forest o v (nothing p w e i) h = i
has_nothing z forest o v (made q w j p a x y e at l r is) h = absurd cc

-- what is known of the values of lower nodes
abbrev pub Lower : List (List Disjunct) → (ℕ → Subject) → Option ℕ → Value → Type 0
Lower positions subjects o v = (j : ℕ) → o ≡ Some j → Packs positions (subjects j) v

pub part_sound : Laws → (positions : List (List Disjunct)) (z : Value) (forest : List (List Way)) (subjects : ℕ → Subject) → IsForestOf positions z forest subjects → (k : ℕ) (o : Option ℕ) (v : Value) (r : Region) → IsValid positions r → Has z forest o v → IsPartFor subjects k o r → Lower positions subjects o v → Packs positions (region r) v
part_sound laws positions z forest subjects is k None v r valid h p lower =
    let e = has_nothing z forest None v h refl in (
      unlinked_of (length positions),
      laws.regions.sound positions r (unlinked_of (length positions)) valid.ends all_null (p.0, p.1, p.2) (unlinked_part positions r.left r.right, unlinked_empty positions),
      subst (λ t. IsPacked positions (unlinked_of (length positions)) t) (sym e) is.nothing,
    )
part_sound laws positions z forest subjects is k (Some j) v r valid h p lower = subst (λ (s : Subject). Packs positions s v) p.1 (lower j refl)

way_sound : Laws → (positions : List (List Disjunct)) (z : Value) (forest : List (List Way)) (subjects : ℕ → Subject) → IsForestOf positions z forest subjects → (k : ℕ) (s : Subject) (c : Cutting) (w : Way) (x y : Value) → IsSubject positions s → IsWayFor positions subjects k s w c → Has z forest w.left x → Has z forest w.right y
    → Lower positions subjects w.left x → Lower positions subjects w.right y → Packs positions s (combine w x y)
way_sound laws positions z forest subjects is k (whole nulls) (split_at c) w x y sub way hx hy lx ly = absurd way
way_sound laws positions z forest subjects is k (whole nulls) (begins_at c) w x y sub way hx hy lx ly =
    let q = part_sound laws positions z forest subjects is k w.right y c.rkey (laws.valid.first positions nulls c way.first) hy way.right ly in
    let g = laws.parts.some_first positions nulls c q.0 way.first q.1 in
    let e = has_nothing z forest w.left x hx way.left in
    (g.0, laws.sentences.sound positions nulls g.0 (first c) way.first g.1, first_packed positions subjects k nulls w c g.0 q.0 x y way g.1 g.2 (subst (λ t. IsPacked positions (unlinked_of (length positions)) t) (sym e) is.nothing) q.2)
way_sound laws positions z forest subjects is k (region r) (begins_at c) w x y sub way hx hy lx ly = absurd way
way_sound laws positions z forest subjects is k (region r) (split_at c) w x y sub way hx hy lx ly =
    let v = laws.valid.split positions r c sub.0 way.cut in
    let p = part_sound laws positions z forest subjects is k w.left x c.lkey v.0 hx way.left lx in
    let q = part_sound laws positions z forest subjects is k w.right y c.rkey v.1 hy way.right ly in
    let g = laws.parts.some positions r c p.0 q.0 sub.0 way.cut p.1 q.1 in
    (g.0, laws.regions.sound positions r g.0 sub.0.ends (split c) way.cut g.1, split_packed laws positions subjects k r w c g.0 p.0 q.0 x y sub.0 way g.1 g.2 g.3 (record { one = p.2; other = q.2 }))

pub in_forest : (forest : List (List Way)) (k p : ℕ) → p < length (ways_of forest k) → k < length forest
in_forest forest k p less = elim (cases_lt k (length forest)) [ inl h ↦ h | inr h ↦ absurd (let e = ap length (get_or_past forest k [] h) in omega arith) ]

pub sound : Laws → (positions : List (List Disjunct)) (z : Value) (forest : List (List Way)) (subjects : ℕ → Subject) → IsForestOf positions z forest subjects → (o : Option ℕ) (v : Value) → Has z forest o v → Lower positions subjects o v
sound laws positions z forest subjects is o v (nothing p w e i) j h = absurd cc
sound laws positions z forest subjects is o v (made q u k p w x y e at hl hr v_is) j h =
    let same : k ≡ j = cc in
    let less = slice_get_within (ways_of forest k) p w at in
    let w_is : w ≡ way_at forest k p = sym (get_or_from_slice_get (ways_of forest k) p w no_way at) in
    let c = is.ways k p less in
    let way = subst (λ (t : Way). IsWayFor positions subjects k (subjects k) t c.0) (sym w_is) c.1 in
    let r = way_sound laws positions z forest subjects is k (subjects k) c.0 w x y (is.each k (in_forest forest k p less)) way hl hr (sound laws positions z forest subjects is w.left x hl) (sound laws positions z forest subjects is w.right y hr) in
    subst (λ t. Packs positions t v) (ap subjects same) (subst (λ t. Packs positions (subjects k) t) (sym v_is) r)

-- ---- each linkage is a value
abbrev Made : List (List Disjunct) → Value → List (List Way) → Option ℕ → Linkage → Type 0
Made positions z forest o g = (v : Value) × Has z forest o v × IsPacked positions g v

part_made : Laws → (positions : List (List Disjunct)) (z : Value) (forest : List (List Way)) (subjects : ℕ → Subject) → IsForestOf positions z forest subjects → (k : ℕ) (o : Option ℕ) (g : Linkage) (r : Region) → IsValid positions r → Under positions r g → IsPartFor subjects k o r
    → ((j : ℕ) → j < k → IsUnder positions (subjects j) g → Made positions z forest (Some j) g) → Made positions z forest o g
part_made laws positions z forest subjects is k None g r valid u p lower =
    let e = only_unlinked laws positions r g valid.ends p.0 p.1 u in (z, nothing None z refl refl, subst (λ t. IsPacked positions t z) (sym e) is.nothing)
part_made laws positions z forest subjects is k (Some j) g r valid u p lower = lower j p.0 (subst (λ (s : Subject). IsUnder positions s g) (sym p.1) u)

abbrev Below : List (List Disjunct) → Value → List (List Way) → (ℕ → Subject) → ℕ → Type 0
Below positions z forest subjects k = (j : ℕ) (g : Linkage) → j < k → IsUnder positions (subjects j) g → Made positions z forest (Some j) g

from_way : (z : Value) (forest : List (List Way)) (k p : ℕ) (x y : Value) → p < length (ways_of forest k) → Has z forest (way_at forest k p).left x → Has z forest (way_at forest k p).right y → Has z forest (Some k) (combine (way_at forest k p) x y)
from_way z forest k p x y less hx hy = made (Some k) (combine (way_at forest k p) x y) k p (way_at forest k p) x y refl (slice_get-get_or (ways_of forest k) p no_way less) hx hy refl

region_made : Laws → (positions : List (List Disjunct)) (z : Value) (forest : List (List Way)) (subjects : ℕ → Subject) → IsForestOf positions z forest subjects → (k : ℕ) → k < length forest → (r : Region) (g : Linkage) (a : Alternative) → subjects k ≡ region r → IsValid positions r → (r.llist ≡ [] → r.rlist ≡ [] → ⊥) → IsAlternative positions r a → SpelledBy positions r a g
    → Below positions z forest subjects k → Made positions z forest (Some k) g
region_made laws positions z forest subjects is k within r g all_null e valid some alt s below = absurd (some alt.0 alt.1)
region_made laws positions z forest subjects is k within r g (split c) e valid some alt s below =
    let p = is.all k (split_at c) within (subst (λ (t : Subject). IsCutting positions t (split_at c)) (sym e) (alt, (part_of r.left c.word g, s.left), (part_of c.word r.right g, s.right))) in
    let w = way_at forest k p.0 in
    let way : IsSplitWay positions subjects k r w c = subst (λ (t : Subject). IsWayFor positions subjects k t w (split_at c)) e p.2 in
    let v = laws.valid.split positions r c valid alt in
    let a = part_made laws positions z forest subjects is k w.left (part_of r.left c.word g) c.lkey v.0 s.left way.left (λ j less u. below j (part_of r.left c.word g) less u) in
    let b = part_made laws positions z forest subjects is k w.right (part_of c.word r.right g) c.rkey v.1 s.right way.right (λ j less u. below j (part_of c.word r.right g) less u) in
    (combine w a.0 b.0, from_way z forest k p.0 a.0 b.0 p.1 a.1 b.1, split_packed laws positions subjects k r w c g (part_of r.left c.word g) (part_of c.word r.right g) a.0 b.0 valid way s refl refl (record { one = a.2; other = b.2 }))

whole_made : Laws → (positions : List (List Disjunct)) (z : Value) (forest : List (List Way)) (subjects : ℕ → Subject) → IsForestOf positions z forest subjects → (k : ℕ) → k < length forest → (nulls : ℕ) (g : Linkage) (a : WholeAlternative) → subjects k ≡ whole nulls → nulls < length positions → IsWholeAlternative positions nulls a → WholeSpelledBy positions a g
    → Below positions z forest subjects k → Made positions z forest (Some k) g
whole_made laws positions z forest subjects is k within nulls g no_word e some alt s below = absurd (omega arith)
whole_made laws positions z forest subjects is k within nulls g (first c) e some alt s below =
    let n = length positions in
    let p = is.all k (begins_at c) within (subst (λ (t : Subject). IsCutting positions t (begins_at c)) (sym e) (alt, (part_of c.word n g, s.right))) in
    let w = way_at forest k p.0 in
    let way : IsFirstWay positions subjects k nulls w c = subst (λ (t : Subject). IsWayFor positions subjects k t w (begins_at c)) e p.2 in
    let b = part_made laws positions z forest subjects is k w.right (part_of c.word n g) c.rkey (laws.valid.first positions nulls c alt) s.right way.right (λ j less u. below j (part_of c.word n g) less u) in
    (combine w z b.0, from_way z forest k p.0 z b.0 p.1 (nothing w.left z way.left refl) b.1, first_packed positions subjects k nulls w c g (part_of c.word n g) z b.0 way s refl is.nothing b.2)

node_made : Laws → (positions : List (List Disjunct)) (z : Value) (forest : List (List Way)) (subjects : ℕ → Subject) → IsForestOf positions z forest subjects → (k : ℕ) → k < length forest → (s : Subject) (g : Linkage) → subjects k ≡ s → IsSubject positions s → IsUnder positions s g → Below positions z forest subjects k → Made positions z forest (Some k) g
node_made laws positions z forest subjects is k within (whole nulls) g e sub u below = (let a = laws.sentences.some positions nulls g u in whole_made laws positions z forest subjects is k within nulls g a.0 e sub a.1 a.2 below)
node_made laws positions z forest subjects is k within (region r) g e sub u below = (let a = laws.regions.some positions r g sub.0.ends u in region_made laws positions z forest subjects is k within r g a.0 e sub.0 sub.1 a.1 a.2 below)

below_made : Laws → (positions : List (List Disjunct)) (z : Value) (forest : List (List Way)) (subjects : ℕ → Subject) → IsForestOf positions z forest subjects → (n : ℕ) → n ≤ length forest → Below positions z forest subjects n
below_made laws positions z forest subjects is zero le j g less u = absurd (omega arith)
below_made laws positions z forest subjects is (suc n) le j g less u =
    let below = below_made laws positions z forest subjects is n (omega arith) in
    elim (cases_lt j n) [
      | inl h ↦ below j g h u
      | inr h ↦ (
          let e : n ≡ j = omega arith in
          subst (λ (i : ℕ). Made positions z forest (Some i) g) e
          (node_made laws positions z forest subjects is n (omega arith) (subjects n) g refl (is.each n (omega arith)) (subst (λ (i : ℕ). IsUnder positions (subjects i) g) (sym e) u) below))
    ]

pub complete : Laws → (positions : List (List Disjunct)) (z : Value) (forest : List (List Way)) (subjects : ℕ → Subject) → IsForestOf positions z forest subjects → (k : ℕ) (g : Linkage) → k < length forest → IsUnder positions (subjects k) g → Made positions z forest (Some k) g
complete laws positions z forest subjects is k g within u = below_made laws positions z forest subjects is (length forest) (omega arith) k g within u
