-- Members are the disjuncts of outlines, in order.
use Rattle.std.proofs.Common.{◌≡◌, ℕ, ◌+◌, ◌<◌, List, [], ◌∷◌, ◌++◌, length, get_or, take, map, refl, sym, ap, ◌∙◌, subst, Some, inl, inr, Bool, true, false, cond, arith}
use Rattle.std.specs.List.{All, slice_get}
use Rattle.std.proofs.lemmas.Bool.{cases_lt}
use Rattle.std.proofs.lemmas.Option.{slice_get-get_or, slice_get_within, get_or_from_slice_get}
use Rattle.std.proofs.lemmas.List.{map-append, length-append, length-map, get_or-map, take_more, map_more, flat_map_more}
use Rattle.std.proofs.lemmas.Grind.{elements}
use Rattle.lg_gram.specs.Connectors.{Connector}
use Rattle.lg_gram.specs.declared.disjunct.Disjunct.{Disjunct}
use Rattle.lg_disj.specs.Outlines.{Outlined, IsLineOf, disjunct_on, disjuncts_in, all_in, lists_on}
use Rattle.lg_disj.specs.declared.outline.Line.{Line}
use Rattle.lg_member.specs.Members.{seen_of, IsSideAt, IsKnown, Grows, HasSides, AddsMembers, AddsLines}
use Rattle.lg_member.specs.declared.side.Side.{Side}
use Rattle.lg_member.specs.declared.member.Member.{Member}
use Rattle.lg_member.proofs.Adding.{grows_none, grows_more, side_grown, lines_none, lines_then, line_one, adds_then, MembersSoFar, members_more}

-- the first n lists of a word are sides of position i
pub record SidesSoFar (i : ℕ) (lists : List (List Connector)) (n : ℕ) (old now : List Side) : Type 0 where
  pub grows : Grows old now
  pub long : length now ≡ length old + n
  pub has : (k : ℕ) → k < n → IsSideAt now (length old + k) i (get_or lists k [])

pub sides_none : (i : ℕ) (lists : List (List Connector)) (old : List Side) → SidesSoFar i lists 0 old old
sides_none i lists old = record { grows = grows_none old; long = omega arith; has = λ k h. absurd (omega arith) }

pub sides_more : (i : ℕ) (lists : List (List Connector)) (n : ℕ) (old now new : List Side) (s : Side) → s.position ≡ i → s.list.now ≡ get_or lists n [] → new ≡ now ++ s ∷ []
    → SidesSoFar i lists n old now → SidesSoFar i lists (n + 1) old new
sides_more i lists n old now new s ep el en a =
    let g : Grows now new = record { more = s ∷ []; added = en } in
    let last : slice_get (now ++ s ∷ []) (length now) ≡ Some s = grind (arith, elements) in
    let at : slice_get new (length old + n) ≡ Some s = subst (λ z. slice_get z (length old + n) ≡ Some s) (sym en) (subst (λ z. slice_get (now ++ s ∷ []) z ≡ Some s) a.long last) in
    let here : IsSideAt new (length old + n) i (get_or lists n []) = record { side = s; at = at; position = ep; list = el } in
    let le = a.long in
    let ln = ap length en in
    let la : length (now ++ s ∷ []) ≡ length now + 1 = length-append now (s ∷ []) in
    record {
      grows = grows_more old now new a.grows g;
      long = omega arith;
      has = λ k h. elim (cases_lt k n) [
        | inl b ↦ side_grown now new (length old + k) i (get_or lists k []) g (a.has k b)
        | inr b ↦ (let e : n ≡ k = omega arith in subst (λ z. IsSideAt new (length old + z) i (get_or lists z [])) e here)
      ];
    }

pub sides_all : (i : ℕ) (lists : List (List Connector)) (n : ℕ) (old now : List Side) → n ≡ length lists → SidesSoFar i lists n old now → HasSides i lists (length old) now
sides_all i lists n old now e a = record {
  each = λ k cs h.
      let w = slice_get_within lists k cs h in
      subst (λ z. IsSideAt now (length old + k) i z) (get_or_from_slice_get lists k cs [] h) (a.has k (omega arith));
}

line_below : (right : Bool) (o : Outlined) (l : Line) → IsLineOf o l → cond right l.right l.left < length (lists_on right o)
line_below true o l w = w.right
line_below false o l w = w.left

-- the side of a line's list
pub line_side : (i : ℕ) (o : Outlined) (l : Line) (right : Bool) (first : ℕ) (sides : List Side) → IsLineOf o l → HasSides i (lists_on right o) first sides
    → IsSideAt sides (first + cond right l.right l.left) i (get_or (lists_on right o) (cond right l.right l.left) [])
line_side i o l right first sides w h =
    let k = cond right l.right l.left in
    h.each k (get_or (lists_on right o) k []) (slice_get-get_or (lists_on right o) k [] (line_below right o l w))

pub line_within : (i : ℕ) (o : Outlined) (l : Line) (right : Bool) (first : ℕ) (sides : List Side) → IsLineOf o l → HasSides i (lists_on right o) first sides
    → first + cond right l.right l.left < length sides
line_within i o l right first sides w h = let s = line_side i o l right first sides w h in slice_get_within sides (first + cond right l.right l.left) s.side s.at

pub line_at : (o : Outlined) (ls : List Line) (k : ℕ) (l : Line) → ls ≡ o.lines → k < length ls → l ≡ get_or ls k l → All (IsLineOf o) o.lines → IsLineOf o l
line_at o ls k l e h el w = subst (IsLineOf o) (sym el) (subst (All (IsLineOf o)) (sym e) w k l h)

-- a member is the disjunct of a line
pub record IsMemberOf (i : ℕ) (o : Outlined) (l : Line) (lefts rights : List Side) (m : Member) : Type 0 where
  pub seen : seen_of m ≡ (i, disjunct_on o l)
  pub known : IsKnown lefts rights m

side_list : (sides : List Side) (k i : ℕ) (cs : List Connector) (s : Side) → IsSideAt sides k i cs → (get_or sides k s).list.now ≡ cs
side_list sides k i cs s a = ap (λ (z : Side). z.list.now) (get_or_from_slice_get sides k a.side s a.at) ∙ a.list

pub line_member : (i : ℕ) (o : Outlined) (l : Line) (lefts rights : List Side) (sl sr : Side) (m : Member) → IsSideAt lefts m.left i (get_or o.lefts l.left []) → IsSideAt rights m.right i (get_or o.rights l.right [])
    → m.position ≡ i → m.form.word.now ≡ o.word → m.form.left.now ≡ (get_or lefts m.left sl).list.now → m.form.right.now ≡ (get_or rights m.right sr).list.now → m.form.cost.now ≡ l.cost
    → IsMemberOf i o l lefts rights m
line_member i o l lefts rights sl sr m a b ei ew el er ec =
    let cl : m.form.left.now ≡ get_or o.lefts l.left [] = el ∙ side_list lefts m.left i (get_or o.lefts l.left []) sl a in
    let cr : m.form.right.now ≡ get_or o.rights l.right [] = er ∙ side_list rights m.right i (get_or o.rights l.right []) sr b in
    record {
      seen = λ t. (ei t, record { word = ew t; left = cl t; right = cr t; cost = ec t });
      known = record {
        left = record { side = a.side; at = a.at; position = a.position ∙ sym ei; list = a.list ∙ sym cl };
        right = record { side = b.side; at = b.at; position = b.position ∙ sym ei; list = b.list ∙ sym cr };
      };
    }

pub lines_more : (i : ℕ) (o : Outlined) (ls : List Line) (k : ℕ) (l : Line) (lefts rights : List Side) (old now new : List Member) (m : Member) → k < length ls → l ≡ get_or ls k l
    → new ≡ now ++ m ∷ [] → IsMemberOf i o l lefts rights m
    → AddsLines i (map (disjunct_on o) (take k ls)) lefts rights old now → AddsLines i (map (disjunct_on o) (take (k + 1) ls)) lefts rights old new
lines_more i o ls k l lefts rights old now new m h ek en is a =
    let taken : map (disjunct_on o) (take (k + 1) ls) ≡ map (disjunct_on o) (take k ls) ++ disjunct_on o l ∷ [] =
    subst (λ z. map (disjunct_on o) (take (k + 1) ls) ≡ map (disjunct_on o) (take k ls) ++ disjunct_on o z ∷ []) (sym ek) (map_more (disjunct_on o) ls k l h) in
    subst (λ z. AddsLines i z lefts rights old new) (sym taken)
    (lines_then i (map (disjunct_on o) (take k ls)) (disjunct_on o l ∷ []) lefts rights lefts rights old now new (grows_none lefts) (grows_none rights) a
    (line_one i (disjunct_on o l) lefts rights now new m en is.seen is.known))

pub outlines_more : (i : ℕ) (os : List Outlined) (k : ℕ) (o : Outlined) (l0 r0 l r l' r' : List Side) (old now new : List Member) → k < length os → o ≡ get_or os k o
    → AddsMembers i (disjuncts_in o) l r l' r' now new → AddsMembers i (all_in (take k os)) l0 r0 l r old now → AddsMembers i (all_in (take (k + 1) os)) l0 r0 l' r' old new
outlines_more i os k o l0 r0 l r l' r' old now new h e b a =
    let taken : take k os ++ o ∷ [] ≡ take (k + 1) os = subst (λ z. take k os ++ z ∷ [] ≡ take (k + 1) os) (sym e) (sym (take_more os k o h)) in
    let all : all_in (take k os) ++ disjuncts_in o ≡ all_in (take (k + 1) os) = flat_map_more disjuncts_in [] (take k os) o ∙ ap all_in taken in
    subst (λ z. AddsMembers i z l0 r0 l' r' old new) all (adds_then i (all_in (take k os)) (disjuncts_in o) l0 r0 l r l' r' old now new a b)

pub positions_more : (positions : List (List Outlined)) (k : ℕ) (os : List Outlined) (l r l' r' : List Side) (now new : List Member) → k < length positions → os ≡ get_or positions k os
    → AddsMembers k (all_in os) l r l' r' now new → MembersSoFar (map all_in positions) k l r now → MembersSoFar (map all_in positions) (k + 1) l' r' new
positions_more positions k os l r l' r' now new h e a s =
    let n = length-map positions all_in in
    let is : all_in os ≡ get_or (map all_in positions) k (all_in os) = ap all_in e ∙ sym (get_or-map all_in positions k os (all_in os) h) in
    members_more (map all_in positions) k (all_in os) l r l' r' now new (omega arith) is a s
