-- Members are the disjuncts of the positions, in order.
use Rattle.std.proofs.Common.{◌≡◌, ℕ, ◌+◌, ◌<◌, List, [], ◌∷◌, ◌++◌, length, get_or, take, drop, map, refl, sym, ap, ◌∙◌, subst, append_assoc, append-nil, add-one, Some, arith}
use Rattle.std.specs.List.{All, slice_get}
use Rattle.std.proofs.lemmas.List.{map-append, take_more}
use Rattle.std.proofs.lemmas.List.Elements.{All-nil, All-append, All-push, All-weaker}
use Rattle.std.proofs.lemmas.Grind.{elements}
use Rattle.std.proofs.Math.Seq.{drop-cons}
use Rattle.lg_gram.specs.Connectors.{Connector}
use Rattle.lg_gram.specs.declared.disjunct.Disjunct.{Disjunct}
use Rattle.lg_member.specs.Members.{formed, seen_of, IsSideAt, IsKnown, Grows, AddsLines, AddsMembers, all_from}
use Rattle.lg_member.specs.declared.side.Side.{Side}
use Rattle.lg_member.specs.declared.member.Member.{Member}

pub grows_none : (a : List Side) → Grows a a
grows_none a = record { more = []; added = sym (append-nil a) }

pub grows_more : (a b c : List Side) → Grows a b → Grows b c → Grows a c
grows_more a b c g h = record { more = g.more ++ h.more; added = h.added ∙ ap (λ z. z ++ h.more) g.added ∙ append_assoc a g.more h.more }

get_still : (a b : List Side) (k : ℕ) (s : Side) → slice_get a k ≡ Some s → slice_get (a ++ b) k ≡ Some s
get_still a b k s e = grind (arith, elements)

pub side_grown : (a b : List Side) (k i : ℕ) (cs : List Connector) → Grows a b → IsSideAt a k i cs → IsSideAt b k i cs
side_grown a b k i cs g s = record {
  side = s.side;
  at = subst (λ z. slice_get z k ≡ Some s.side) (sym g.added) (get_still a g.more k s.side s.at);
  position = s.position;
  list = s.list;
}

pub known_grown : (a b c d : List Side) → Grows a c → Grows b d → (m : Member) → IsKnown a b m → IsKnown c d m
known_grown a b c d g h m k = record {
  left = side_grown a c m.left m.position (formed m.form).left g k.left;
  right = side_grown b d m.right m.position (formed m.form).right h k.right;
}

abbrev at_position : ℕ → Disjunct → ℕ × Disjunct
at_position i d = (i, d)

pub lines_none : (i : ℕ) (lefts rights : List Side) (members : List Member) → AddsLines i [] lefts rights members members
lines_none i lefts rights members = record { more = []; added = sym (append-nil members); seen = refl; known = All-nil (IsKnown lefts rights) }

-- some members behind others, where the sides have grown since
pub lines_then : (i : ℕ) (ds es : List Disjunct) (l r l' r' : List Side) (old now new : List Member) → Grows l l' → Grows r r' → AddsLines i ds l r old now → AddsLines i es l' r' now new → AddsLines i (ds ++ es) l' r' old new
lines_then i ds es l r l' r' old now new gl gr a b = record {
  more = a.more ++ b.more;
  added = b.added ∙ ap (λ z. z ++ b.more) a.added ∙ append_assoc old a.more b.more;
  seen = map-append seen_of a.more b.more ∙ ap (λ z. z ++ map seen_of b.more) a.seen ∙ ap (λ z. map (at_position i) ds ++ z) b.seen ∙ sym (map-append (at_position i) ds es);
  known = All-append (IsKnown l' r') a.more b.more (All-weaker (IsKnown l r) (IsKnown l' r') (known_grown l r l' r' gl gr) a.more a.known) b.known;
}

pub adds_none : (i : ℕ) (lefts rights : List Side) (members : List Member) → AddsMembers i [] lefts rights lefts rights members members
adds_none i lefts rights members = record { left = grows_none lefts; right = grows_none rights; lines = lines_none i lefts rights members }

-- some members behind others
pub adds_then : (i : ℕ) (ds es : List Disjunct) (l0 r0 l r l' r' : List Side) (old now new : List Member) → AddsMembers i ds l0 r0 l r old now → AddsMembers i es l r l' r' now new
    → AddsMembers i (ds ++ es) l0 r0 l' r' old new
adds_then i ds es l0 r0 l r l' r' old now new a b = record {
  left = grows_more l0 l l' a.left b.left;
  right = grows_more r0 r r' a.right b.right;
  lines = lines_then i ds es l r l' r' old now new b.left b.right a.lines b.lines;
}

-- a member whose sides are there
pub line_one : (i : ℕ) (d : Disjunct) (l r : List Side) (now new : List Member) (m : Member) → new ≡ now ++ m ∷ [] → seen_of m ≡ (i, d) → IsKnown l r m → AddsLines i (d ∷ []) l r now new
line_one i d l r now new m en is known = record { more = m ∷ []; added = en; seen = ap (λ z. z ∷ []) is; known = All-push (IsKnown l r) [] m (All-nil (IsKnown l r)) known }

pub adds_more : (i : ℕ) (ds : List Disjunct) (k : ℕ) (d : Disjunct) (l0 r0 l r l' r' : List Side) (old now new : List Member) (m : Member) → k < length ds → d ≡ get_or ds k d
    → Grows l l' → Grows r r' → new ≡ now ++ m ∷ [] → m.position ≡ i → formed m.form ≡ d → IsSideAt l' m.left i d.left → IsSideAt r' m.right i d.right
    → AddsMembers i (take k ds) l0 r0 l r old now → AddsMembers i (take (k + 1) ds) l0 r0 l' r' old new
adds_more i ds k d l0 r0 l r l' r' old now new m h ed gl gr en ei em sl sr a =
    let taken : take (k + 1) ds ≡ take k ds ++ d ∷ [] = subst (λ z. take (k + 1) ds ≡ take k ds ++ z ∷ []) (sym ed) (take_more ds k d h) in
    let pair : ◌≡◌ {A = ℕ × Disjunct} (seen_of m) (i, d) = λ t. (ei t, em t) in
    let sl' = subst (λ z. IsSideAt l' m.left m.position z.left) (sym em) (subst (λ z. IsSideAt l' m.left z d.left) (sym ei) sl) in
    let sr' = subst (λ z. IsSideAt r' m.right m.position z.right) (sym em) (subst (λ z. IsSideAt r' m.right z d.right) (sym ei) sr) in
    let one = line_one i d l' r' now new m en pair (record { left = sl'; right = sr' }) in
    subst (λ z. AddsMembers i z l0 r0 l' r' old new) (sym taken) (adds_then i (take k ds) (d ∷ []) l0 r0 l r l' r' old now new a (record { left = gl; right = gr; lines = one }))

pub record MembersSoFar (positions : List (List Disjunct)) (k : ℕ) (lefts rights : List Side) (members : List Member) : Type 0 where
  pub seen : map seen_of members ++ all_from k (drop k positions) ≡ all_from 0 positions
  pub known : All (IsKnown lefts rights) members

pub members_none : (positions : List (List Disjunct)) (lefts rights : List Side) (members : List Member) → members ≡ [] → MembersSoFar positions 0 lefts rights members
members_none positions lefts rights members e = record {
  seen = ap (λ z. map seen_of z ++ all_from 0 positions) e;
  known = subst (λ z. All (IsKnown lefts rights) z) (sym e) (All-nil (IsKnown lefts rights));
}

pub members_more : (positions : List (List Disjunct)) (k : ℕ) (ds : List Disjunct) (l r l' r' : List Side) (now new : List Member) → k < length positions → ds ≡ get_or positions k ds
    → AddsMembers k ds l r l' r' now new → MembersSoFar positions k l r now → MembersSoFar positions (k + 1) l' r' new
members_more positions k ds l r l' r' now new h e a s =
    let rest : drop k positions ≡ ds ∷ drop (k + 1) positions = subst (λ z. drop k positions ≡ z ∷ drop (k + 1) positions) (sym e) (subst (λ z. drop k positions ≡ get_or positions k ds ∷ drop z positions) (sym (add-one k)) (drop-cons positions k ds h)) in
    let tail = all_from (k + 1) (drop (k + 1) positions) in
    record {
      seen = ap (λ z. map seen_of z ++ tail) a.lines.added ∙ ap (λ z. z ++ tail) (map-append seen_of now a.lines.more) ∙ ap (λ z. (map seen_of now ++ z) ++ tail) a.lines.seen
          ∙ append_assoc (map seen_of now) (map (at_position k) ds) tail ∙ ap (λ z. map seen_of now ++ (map (at_position k) ds ++ all_from z (drop (k + 1) positions))) (add-one k)
          ∙ ap (λ z. map seen_of now ++ all_from k z) (sym rest) ∙ s.seen;
      known = subst (λ z. All (IsKnown l' r') z) (sym a.lines.added)
          (All-append (IsKnown l' r') now a.lines.more (All-weaker (IsKnown l r) (IsKnown l' r') (known_grown l r l' r' a.left a.right) now s.known) a.lines.known);
    }
