-- How the alternatives of a group end, and what is remembered of it.
use Rattle.std.proofs.Common.{◌≡◌, ◌≢◌, ◌==◌, ◌-◌, ◌<◌, ◌≤◌, ◌⊎◌, inl, inr, ℕ, suc, true≢false, eq-eqb, refl, sym, ap, ◌∙◌, subst, List, [], ◌++◌, map, length, Some, Contains, slice_get, arith}
use Rattle.std.proofs.lemmas.Bool.{cases_Bool, eqb-true}
use Rattle.std.proofs.lemmas.Option.{same_Some}
use Rattle.std.specs.Map.{keys_of}
use Rattle.lg_region.specs.Cuts.{IsCutAt}
use Rattle.lg_region.specs.Fronts.{Numbering, list_of}
use Rattle.lg_region.specs.Groups.{IsLed, IsRightOf, key_behind, right_lead}
use Rattle.lg_region.specs.Keys.{IsAltOf, IsDisjunctAt, IsValidKey}
use Rattle.lg_region.specs.Openings.{BeginsSo, HasEnds, IsGapOf, IsIn, IsKeyOfGap, ended, left_of}
use Rattle.lg_region.specs.Ways.{AddsExactly, AreExactly}
use Rattle.lg_region.specs.declared.key.Key.{Key}
use Rattle.lg_region.specs.declared.alternative.Alt.{Alt}
use Rattle.lg_region.specs.declared.group.Gap.{Gap}
use Rattle.lg_region.specs.declared.group.Group.{Group}
use Rattle.lg_region.specs.declared.group.Lead.{Lead}
use Rattle.lg_region.specs.declared.group.Right.{Right}
use Rattle.lg_region.specs.declared.opening.Beginning.{Beginning}
use Rattle.lg_forest.specs.Demands.{HasLinkageUnder, right_key}
use Rattle.lg_forest.specs.Ends.{AreEnds, AsksRight, EndsWith, IsLiveRight, half_from}
use Rattle.lg_forest.specs.Forests.{IsLive}
use Rattle.lg_forest.specs.Halves.{AddsLive, AsksAmong, IsEnding}
use Rattle.lg_forest.specs.Search.{Asked, AsksOf, IsTable, KeysAreDecided, key_width}
use Rattle.lg_forest.specs.Search.AsksOf.{left as asks_left, right as asks_right}
use Rattle.lg_forest.specs.declared.halves.Half.{Half}
use Rattle.lg_forest.proofs.Among.{Among, alt_in, alt_out, among_all, among_next, among_none, ending_left, from_none}
use Rattle.lg_forest.proofs.Asked.{asked_as, asked_same, asked_then, part_narrow}
use Rattle.lg_forest.proofs.Once.{contains_at, contains_map, map_found, map_once}

abbrev Entries : Type 0
Entries = List (Key × List Alt)

-- ---- what the alternatives of a group ask for, and which of them are live

module _ (n : Numbering) (gap : Gap) (g : Group) (b : Beginning) (key : Key) (is : IsKeyOfGap key gap) (ends : HasEnds n gap g b) (left : HasLinkageUnder n.positions n.lists (left_of gap g b)) where
  right_live : (r : Right) (a : Alt) → ended gap g b r ≡ a → IsLive n.positions n.lists a → HasLinkageUnder n.positions n.lists (key_behind gap g (gap.nulls - b.nulls) r)
  right_live r a e live = (subst (IsLive n.positions n.lists) (sym e) live).right

  pub ended_live : (rights : List Right) → AreExactly rights (IsLiveRight n gap g (gap.nulls - b.nulls)) → (old new : List Alt) → new ≡ old ++ map (ended gap g b) rights → AddsLive n key (IsEnding gap g b) old new
  ended_live rights are old new e = record {
    more = map (ended gap g b) rights;
    added = e;
    exactly = record {
      each = λ a. (
        λ c. let x = map_found (ended gap g b) rights a c in
            let t = (are.each x.0).0 x.1 in
            let m = ends.made x.0 t.0 in
            subst (λ z. IsAltOf n.positions n.lists key z × IsEnding gap g b z × IsLive n.positions n.lists z) x.2
            (alt_in n key gap (ended gap g b x.0) is m.0, (m.1, (refl, refl)), record { left = left; right = t.1 }),
        λ (alt, h, live). let s = ends.some a (alt_out n key gap a is alt, h.0) h.1 in
            subst (λ z. Contains (map (ended gap g b) rights) z) s.2 (contains_map (ended gap g b) rights s.0 ((are.each s.0).1 (s.1, right_live s.0 a s.2 live))),
      );
      once = map_once (ended gap g b) rights ends.apart are.once;
    };
  }

  asks_parts : (c : Alt) (k : Key) → IsIn n gap g c → BeginsSo gap g b c → AsksOf n c k → (k ≡ left_of gap g b) ⊎ AsksRight n gap g (gap.nulls - b.nulls) k
  asks_parts c _ i h (asks_left k q) = inl (same_Some k (left_of gap g b) (sym q ∙ ending_left gap g b c h))
  asks_parts c _ i h (asks_right k q l) = let s = ends.some c i h in inr (s.0, s.1, same_Some k (key_behind gap g (gap.nulls - b.nulls) s.0) (sym q ∙ ap right_key (sym s.2)))

  -- the left key, and then the right ones
  pub ended_asked : (a : Alt) × IsIn n gap g a × BeginsSo gap g b a → (old mid new : Entries) → Asked n (λ k. k ≡ left_of gap g b) old mid → Asked n (AsksRight n gap g (gap.nulls - b.nulls)) mid new → Asked n (AsksAmong n key (IsEnding gap g b)) old new
  ended_asked (a, i, h) old mid new x y =
      asked_then n (λ k. k ≡ left_of gap g b) (AsksRight n gap g (gap.nulls - b.nulls)) (AsksAmong n key (IsEnding gap g b)) old mid new
      (λ k e. (a, alt_in n key gap a is i.0, (i.1, h), asks_left k (ending_left gap g b a h ∙ ap Some (sym e))))
      (λ k (r, of, e). let m = ends.made r of in (ended gap g b r, alt_in n key gap (ended gap g b r) is m.0, (m.1, (refl, refl)), asks_right k (ap Some (sym e)) left))
      (λ k (c, alt, ending, asks). asks_parts c k (alt_out n key gap c is alt, ending.0) ending.1 asks)
      x y

-- a right key may be asked for, and is narrower
pub right_valid : (n : Numbering) (gap : Gap) (g : Group) (b : Beginning) (key : Key) → IsKeyOfGap key gap → HasEnds n gap g b → KeysAreDecided n → IsValidKey n.positions n.lists key → (r : Right) → IsRightOf n gap g r
    → IsValidKey n.positions n.lists (key_behind gap g (gap.nulls - b.nulls) r) × (key_width n.positions (key_behind gap g (gap.nulls - b.nulls) r) < key_width n.positions key)
right_valid n gap g b key is ends d v r of =
    let a = ended gap g b r in
    let alt = alt_in n key gap a is (ends.made r of).0 in
    let below = d.below key a v alt in
    part_narrow n (right_key a) (key_behind gap g (gap.nulls - b.nulls) r) (key_width n.positions key) (d.valid key a v alt).right (omega (arith, below)) refl

-- ---- regions that end alike

pub ends_here : (n : Numbering) (key : Key) (gap : Gap) (g : Group) (nulls : ℕ) → IsGapOf n key gap → EndsWith n (half_from gap g nulls) gap g
ends_here n key gap g nulls is = record { is = refl; lead = is.lead; rlead = is.rlead }

module _ (n : Numbering) (half : Half) (gap other : Gap) (g h : Group) (x : EndsWith n half gap g) (y : EndsWith n half other h) where
  same : half_from gap g half.nulls ≡ half_from other h half.nulls
  same = sym x.is ∙ y.is

  same_word : g.word ≡ h.word
  same_word = ap (λ (z : Half). z.word) same

  same_right : gap.right ≡ other.right
  same_right = ap (λ (z : Half). z.right) same

  same_rlist : gap.rlist ≡ other.rlist
  same_rlist = ap (λ (z : Half). z.rlist) same

  same_alone : (gap.llist == 0) ≡ (other.llist == 0)
  same_alone = ap (λ (z : Half). z.is_alone) same

  same_class : gap.lead.class ≡ other.lead.class
  same_class = ap (λ (z : Half). z.class) same

  none_too : gap.llist ≡ 0 → other.llist ≡ 0
  none_too e = eqb-true other.llist 0 (sym same_alone ∙ eq-eqb gap.llist 0 e)

  none_back : other.llist ≡ 0 → gap.llist ≡ 0
  none_back e = eqb-true gap.llist 0 (same_alone ∙ eq-eqb other.llist 0 e)

  same_lead : gap.lead ≡ other.lead
  same_lead = elim (cases_Bool (gap.llist == 0)) [
    | inl t ↦ (let none = eqb-true gap.llist 0 t in x.rlead none ∙ ap (right_lead n) same_rlist ∙ sym (y.rlead (none_too none)))
    | inr f ↦ (let some : gap.llist ≢ 0 = λ e. true≢false (sym (eq-eqb gap.llist 0 e) ∙ f) in
        let side : gap.lead.side ≡ other.lead.side = ap (λ (l : Lead). l.side) (x.lead some) ∙ sym (ap (λ (l : Lead). l.side) (y.lead (λ e. some (none_back e)))) in
        λ i. record { side = side i; class = same_class i })
  ]

  pub right_too : (r : Right) → IsRightOf n gap g r → IsRightOf n other h r
  right_too r of = record {
    from = subst (λ z. z ≤ r.disjunct) (ap (λ (z : Half). z.from) same) of.from;
    to = subst (λ z. r.disjunct < z) (ap (λ (z : Half). z.to) same) of.to;
    known_near = of.known_near;
    known_far = of.known_far;
    led = λ d at. subst (λ z. IsLed z d) same_lead (of.led d (subst (λ z. IsDisjunctAt n.positions z r.disjunct d) (sym same_word) at));
    cut = λ d at. subst (λ z. IsCutAt r.way.joint d.right (list_of n.lists z) (list_of n.lists r.way.near) (list_of n.lists r.way.far)) same_rlist (of.cut d (subst (λ z. IsDisjunctAt n.positions z r.disjunct d) (sym same_word) at));
    joined = λ e. of.joined (none_back e);
  }

  pub key_too : (r : Right) → key_behind gap g half.nulls r ≡ key_behind other h half.nulls r
  key_too r = λ i. key_behind (record gap { right = same_right i }) (record g { word = same_word i }) half.nulls r

-- what one region tells holds of all that end alike
pub ends_known : (n : Numbering) (es : Entries) (half : Half) (gap : Gap) (g : Group) (ends : List Right) → EndsWith n half gap g → AreExactly ends (IsLiveRight n gap g half.nulls)
    → ((r : Right) → IsRightOf n gap g r → Contains (keys_of es) (key_behind gap g half.nulls r)) → AreEnds n es half ends
ends_known n es half gap g ends x are asked = record {
  live = λ other h y. record {
    each = λ r. (
      λ c. let t = (are.each r).0 c in (right_too n half gap other g h x y r t.0, subst (HasLinkageUnder n.positions n.lists) (key_too n half gap other g h x y r) t.1),
      λ (of, l). (are.each r).1 (right_too n half other gap h g y x r of, subst (HasLinkageUnder n.positions n.lists) (key_too n half other gap h g y x r) l),
    );
    once = are.once;
  };
  asked = λ other h r y of. subst (λ z. Contains (keys_of es) z) (key_too n half gap other g h x y r) (asked r (right_too n half other gap h g y x r of));
}

-- a table that only grew
pub ends_kept : (n : Numbering) (old new : Entries) → ((k : Key) → Contains (keys_of old) k → Contains (keys_of new) k) → (half : Half) (ends : List Right) → AreEnds n old half ends → AreEnds n new half ends
ends_kept n old new kept half ends x = record { live = x.live; asked = λ gap g r y of. kept (key_behind gap g half.nulls r) (x.asked gap g r y of) }

-- where they are remembered nothing more is asked for
pub ends_asked : (n : Numbering) (es : Entries) (half : Half) (ends : List Right) (gap : Gap) (g : Group) → IsTable n es → AreEnds n es half ends → EndsWith n half gap g → Asked n (AsksRight n gap g half.nulls) es es
ends_asked n es half ends gap g t x y = asked_same n (AsksRight n gap g half.nulls) es t (λ k (r, of, e). subst (λ z. Contains (keys_of es) z) (sym e) (x.asked gap g r y of))

-- ---- one disjunct after another

-- the right keys of the first disjuncts of a list
abbrev pub AsksFirst : Gap → Group → ℕ → List Right → ℕ → Key → Type 0
AsksFirst gap g nulls = Among (λ r k. k ≡ key_behind gap g nulls r)

module _ (n : Numbering) (gap : Gap) (g : Group) (nulls : ℕ) (all : List Right) where
  pub first_asked : (es : Entries) → IsTable n es → Asked n (AsksFirst gap g nulls all 0) es es
  first_asked es t = asked_same n (AsksFirst gap g nulls all 0) es t (λ k a. absurd (among_none (λ (r : Right) (k : Key). k ≡ key_behind gap g nulls r) all k a))

  pub next_asked : (i next : ℕ) (r : Right) (old mid new : Entries) → next ≡ suc i → slice_get all i ≡ Some r → Asked n (AsksFirst gap g nulls all i) old mid → Asked n (λ k. k ≡ key_behind gap g nulls r) mid new → Asked n (AsksFirst gap g nulls all next) old new
  next_asked i next r old mid new q at x y =
      let step = among_next (λ (r : Right) (k : Key). k ≡ key_behind gap g nulls r) all i next r q at in
      asked_then n (AsksFirst gap g nulls all i) (λ k. k ≡ key_behind gap g nulls r) (AsksFirst gap g nulls all next) old mid new (λ k h. (step k).1 (inl h)) (λ k h. (step k).1 (inr h)) (λ k h. (step k).0 h) x y

  module _ (are : AreExactly all (IsRightOf n gap g)) (i : ℕ) (end : length all ≤ i) where
    pub all_asked : (old new : Entries) → Asked n (AsksFirst gap g nulls all i) old new → Asked n (AsksRight n gap g nulls) old new
    all_asked old new x =
        asked_as n (AsksFirst gap g nulls all i) (AsksRight n gap g nulls) old new
        (λ k (j, r, l, at, e). (r, (are.each r).0 (contains_at all j r at), e))
        (λ k (r, of, e). among_all (λ (r : Right) (k : Key). k ≡ key_behind gap g nulls r) all i r k end ((are.each r).1 of) e)
        x

    pub all_live : (old live : List Right) → old ≡ [] → AddsExactly old live (λ r. HasLinkageUnder n.positions n.lists (key_behind gap g nulls r) × Among (λ (u v : Right). u ≡ v) all i r) → AreExactly live (IsLiveRight n gap g nulls)
    all_live old live none x =
        let found = from_none old live (λ r. HasLinkageUnder n.positions n.lists (key_behind gap g nulls r) × Among (λ (u v : Right). u ≡ v) all i r) none x in
        record {
          each = λ r. (
            λ c. let t = (found.each r).0 c in let m = t.1 in ((are.each r).0 (subst (λ z. Contains all z) m.4 (contains_at all m.0 m.1 m.3)), t.0),
            λ (of, l). (found.each r).1 (l, among_all (λ (u v : Right). u ≡ v) all i r r end ((are.each r).1 of) refl),
          );
          once = found.once;
        }
