-- The alternatives of a region at one word, from the ways on of both sides.
use Rattle.std.proofs.Common.{◌≡◌, ◌≢◌, ℕ, zero, suc, ◌+◌, ◌-◌, ◌<◌, ◌≤◌, Bool, false, not, ◌==◌, List, [], ◌∷◌, ◌++◌, length, map, get_or, refl, sym, ◌∙◌, ap, subst, Option, Some, None, IsSome, ◌⊎◌, inl, inr, Contains, arith}
use Rattle.std.specs.List.{slice_get}
use Rattle.std.proofs.lemmas.Bool.{cases_lt}
use Rattle.std.proofs.lemmas.Bool.Decides.{nat_tests}
use Rattle.std.proofs.lemmas.Option.{same_Some}
use Rattle.lg_gram.specs.Connectors.{Connector}
use Rattle.lg_gram.specs.declared.disjunct.Disjunct.{Disjunct}
use Rattle.lg_region.specs.Cuts.{IsCutAt, Split, IsCut}
use Rattle.lg_region.specs.Fronts.{AreListsOf, Numbering, list_of}
use Rattle.lg_region.specs.Keys.{region_of_numbers, IsDisjunctAt, IsSplitOf, IsAltOfRegion}
use Rattle.lg_region.specs.Numbered.{HasSides}
use Rattle.lg_region.specs.Ways.{AreExactly, HasWay, IsWayOf}
use Rattle.lg_region.specs.Groups.{region_of_gap, IsLed, Leads, IsNextLed, IsGroup, IsRightOf, right_of, split_of, StandsIn}
use Rattle.lg_region.specs.Chains.{class_of, list_on, IsNext}
use Rattle.lg_region.specs.Openings.{HasRight}
use Rattle.lg_region.specs.declared.group.Lead.{Lead}
use Rattle.lg_region.specs.declared.key.Joint.{Joint}
use Rattle.lg_region.specs.declared.key.Key.TheVariants.{Whole, Region as Between}
use Rattle.lg_region.specs.declared.alternative.Alt.{Alt}
use Rattle.lg_region.specs.declared.alternative.Alt.TheVariants.{AllNull, Split as At}
use Rattle.lg_region.specs.declared.numbering.Sides.{Sides}
use Rattle.lg_region.specs.declared.ways.Way.{Way}
use Rattle.lg_region.specs.declared.group.Gap.{Gap}
use Rattle.lg_region.specs.declared.group.Group.{Group}
use Rattle.lg_region.specs.declared.group.Right.{Right}
use Rattle.lg_base.proofs.Elements.{contains_none, map_in, map_out}
use Rattle.lg_region.proofs.Numbers.{apart, get_contains}
use Rattle.lg_region.proofs.Once.{once_map, exactly_as, exactly_none, exactly_append}

-- a joint of lists that are the same
cut_as : (o o' : Option Joint) (a a' b b' c c' d d' : List Connector) → o ≡ o' → a ≡ a' → b ≡ b' → c ≡ c' → d ≡ d' → IsCutAt o a b c d → IsCutAt o' a' b' c' d'
cut_as o o' a a' b b' c c' d d' eo ea eb ec ed x =
    subst (λ z. IsCutAt z a' b' c' d') eo (subst (λ z. IsCutAt o z b' c' d') ea (subst (λ z. IsCutAt o a z c' d') eb (subst (λ z. IsCutAt o a b z d') ec (subst (λ z. IsCutAt o a b c z) ed x))))

zero_false : (n : ℕ) → n ≡ 0 → not (n == 0) ≡ false
zero_false n e = rw e refl

false_zero : (n : ℕ) → not (n == 0) ≡ false → n ≡ 0
false_zero zero e = refl
false_zero (suc n) e = grind (arith, nat_tests)

pub some_number : (positions : List (List Disjunct)) (word number : ℕ) → number < length (get_or positions word []) → (d : Disjunct) × IsDisjunctAt positions word number d
some_number positions word number l = at_of (get_or positions word []) number l
  where
    at_of : (ds : List Disjunct) (n : ℕ) → n < length ds → (d : Disjunct) × (slice_get ds n ≡ Some d)
    at_of [] n l = absurd (omega arith)
    at_of (d ∷ ds) zero l = (d, refl)
    at_of (d ∷ ds) (suc n) l = at_of ds n (omega arith)

right_made : (r : Right) (number : ℕ) → r.disjunct ≡ number → right_of number r.way ≡ r
right_made r number e = let x : r ≡ record { disjunct = r.disjunct; way = r.way } = refl in sym (subst (λ z. r ≡ record { disjunct = z; way = r.way }) e x)

-- a disjunct of the group with a way on of its right list
pub right_is : (numbers : Numbering) (gap : Gap) (group : Group) (number : ℕ) (s : Sides) (may : Bool) (w : Way) → group.from ≤ number → number < group.to
    → ((d : Disjunct) → IsDisjunctAt numbers.positions group.word number d → IsLed gap.lead d) → ((d : Disjunct) → IsDisjunctAt numbers.positions group.word number d → HasSides numbers.lists d s) → may ≡ not (gap.llist == 0)
    → IsWayOf numbers.lists s.right gap.rlist may w → IsRightOf numbers gap group (right_of number w)
right_is numbers gap group number s may w from to led sides m is =
    let lists = numbers.lists in record {
      from = from;
      to = to;
      known_near = is.known_near;
      known_far = is.known_far;
      led = led;
      cut = λ d at. cut_as w.joint w.joint (list_of lists s.right) d.right (list_of lists gap.rlist) (list_of lists gap.rlist) (list_of lists w.near) (list_of lists w.near) (list_of lists w.far) (list_of lists w.far) refl (sides d at).right.list refl refl refl is.cut;
      joined = λ z. is.joined (m ∙ zero_false gap.llist z);
    }

-- the disjuncts up to one number, and the ways on of that one
pub rights_more : (numbers : Numbering) (gap : Gap) (group : Group) (number : ℕ) (s : Sides) (may : Bool) (rights rights' : List Right) (ways : List Way) → group.from ≤ number → number < group.to → group.to ≤ length (get_or numbers.positions group.word [])
    → ((d : Disjunct) → IsDisjunctAt numbers.positions group.word number d → IsLed gap.lead d) → ((d : Disjunct) → IsDisjunctAt numbers.positions group.word number d → HasSides numbers.lists d s) → may ≡ not (gap.llist == 0)
    → AreExactly ways (IsWayOf numbers.lists s.right gap.rlist may) → rights' ≡ rights ++ map (right_of number) ways
    → AreExactly rights (λ r. IsRightOf numbers gap group r × (r.disjunct < number)) → AreExactly rights' (λ r. IsRightOf numbers gap group r × (r.disjunct < number + 1))
rights_more numbers gap group number s may rights rights' ways from to listed led sides m are e so =
    let lists = numbers.lists in
    let P : Right → Type 0 = λ r. IsRightOf numbers gap group r × (r.disjunct < number) in
    let Q : Right → Type 0 = λ r. (w : Way) × IsWayOf lists s.right gap.rlist may w × (right_of number w ≡ r) in
    let d0 = some_number numbers.positions group.word number (omega arith) in
    let side = (sides d0.0 d0.1).right.list in
    let these : AreExactly (map (right_of number) ways) Q = record {
      each = λ r. (
        λ c. let x = map_out (right_of number) ways r c in (x.0, (are.each x.0).0 x.1, x.2),
        λ (w, is, q). subst (λ z. Contains (map (right_of number) ways) z) q (map_in (right_of number) ways w ((are.each w).1 is)),
      );
      once = once_map (right_of number) ways (λ w w' q. ap (λ z. z.way) q) are.once;
    } in
    subst (λ z. AreExactly z (λ r. IsRightOf numbers gap group r × (r.disjunct < number + 1))) (sym e)
    (exactly_as (rights ++ map (right_of number) ways) (λ r. P r ⊎ Q r) (λ r. IsRightOf numbers gap group r × (r.disjunct < number + 1))
    (λ r. (
      λ h. elim h [
        | inl p ↦ (let b = p.1 in (p.0, omega arith))
        | inr (w, is, q) ↦ (
          subst (λ z. IsRightOf numbers gap group z) q (right_is numbers gap group number s may w from to led sides m is),
          (let f = ap (λ z. z.disjunct) q in omega arith),
        )
      ],
      λ (is, l). elim (cases_lt r.disjunct number) [
        | inl b ↦ inl (is, b)
        | inr b ↦ (
            let f : r.disjunct ≡ number = omega arith in
            inr (
              r.way,
              record {
                known_near = is.known_near;
                known_far = is.known_far;
                cut = cut_as r.way.joint r.way.joint d0.0.right (list_of lists s.right) (list_of lists gap.rlist) (list_of lists gap.rlist) (list_of lists r.way.near) (list_of lists r.way.near) (list_of lists r.way.far) (list_of lists r.way.far) refl (sym side) refl refl refl
                    (is.cut d0.0 (subst (λ z. IsDisjunctAt numbers.positions group.word z d0.0) (sym f) d0.1));
                joined = λ z. is.joined (false_zero gap.llist (sym m ∙ z));
              },
              right_made r number f,
            )
            )
      ],
    ))
    (exactly_append rights (map (right_of number) ways) P Q so these (λ r p (w, is, q). let f = ap (λ z. z.disjunct) q in let b = p.1 in omega arith)))

-- the next one of the class
pub led_next : (numbers : Numbering) (lead : Lead) (word number next : ℕ) → number < length (get_or numbers.positions word []) → IsNextLed numbers lead word number number
    → ((d : Disjunct) → IsDisjunctAt numbers.positions word number d → IsNext lead.side (get_or numbers.positions word []) (class_of (list_on lead.side d)) (number + 1) next) → IsNextLed numbers lead word (number + 1) next
led_next numbers lead word number next l led h =
    let d = some_number numbers.positions word number l in
    subst (λ z. IsNext lead.side (get_or numbers.positions word []) z (number + 1) next) (led.same d.0 d.1) (h d.0 d.1)

pub led_itself : (numbers : Numbering) (lead : Lead) (word start next : ℕ) → IsNextLed numbers lead word start next → IsNextLed numbers lead word next next
led_itself numbers lead word start next is = record { later = omega arith; within = is.within; others = λ n d a b at. absurd (omega arith); same = is.same }

-- the disjuncts up to the next one of the class have no part
pub rights_skip : (numbers : Numbering) (gap : Gap) (group : Group) (rights : List Right) (start next : ℕ) → group.to ≤ length (get_or numbers.positions group.word []) → IsNextLed numbers gap.lead group.word start next
    → AreExactly rights (λ r. IsRightOf numbers gap group r × (r.disjunct < start)) → AreExactly rights (λ r. IsRightOf numbers gap group r × (r.disjunct < next))
rights_skip numbers gap group rights start next listed led are =
    let later = led.later in
    exactly_as rights (λ r. IsRightOf numbers gap group r × (r.disjunct < start)) (λ r. IsRightOf numbers gap group r × (r.disjunct < next))
    (λ r. (
      λ (is, l). (is, omega arith),
      λ (is, l). elim (cases_lt r.disjunct start) [
        | inl h ↦ (is, h)
        | inr h ↦ (let to = is.to in let d = some_number numbers.positions group.word r.disjunct (omega arith) in absurd (led.others r.disjunct d.0 h l d.1 (is.led d.0 d.1)))
      ],
    )) are

pub rights_none : (numbers : Numbering) (gap : Gap) (group : Group) (rights : List Right) → rights ≡ [] → AreExactly rights (λ r. IsRightOf numbers gap group r × (r.disjunct < group.from))
rights_none numbers gap group rights e =
    let P : Right → Type 0 = λ r. IsRightOf numbers gap group r × (r.disjunct < group.from) in
    subst (λ z. AreExactly z P) (sym e) (exactly_none P (λ r (is, l). let a = is.from in omega arith))

pub rights_all : (numbers : Numbering) (gap : Gap) (group : Group) (rights : List Right) (number : ℕ) → group.to ≤ number → AreExactly rights (λ r. IsRightOf numbers gap group r × (r.disjunct < number)) → AreExactly rights (IsRightOf numbers gap group)
rights_all numbers gap group rights number l are =
    exactly_as rights (λ r. IsRightOf numbers gap group r × (r.disjunct < number)) (IsRightOf numbers gap group) (λ r. (λ h. h.0, λ is. (is, (let b = is.to in omega arith)))) are

-- no disjunct of the group up to a number can cut the region
abbrev pub NoneUpTo : Numbering → Gap → Group → ℕ → Type 0
NoneUpTo numbers gap group number = AreExactly {A = Right} [] (λ r. IsRightOf numbers gap group r × (r.disjunct < number))

pub none_more : (numbers : Numbering) (gap : Gap) (group : Group) (number next : ℕ) (s : Sides) (may : Bool) → group.from ≤ number → number < group.to → group.to ≤ length (get_or numbers.positions group.word [])
    → ((d : Disjunct) → IsDisjunctAt numbers.positions group.word number d → IsLed gap.lead d) → ((d : Disjunct) → IsDisjunctAt numbers.positions group.word number d → HasSides numbers.lists d s) → may ≡ not (gap.llist == 0)
    → (HasWay numbers.lists s.right gap.rlist may → ⊥) → IsNextLed numbers gap.lead group.word (number + 1) next → NoneUpTo numbers gap group number → NoneUpTo numbers gap group next
none_more numbers gap group number next s may from to listed led sides m miss is none =
    rights_skip numbers gap group [] (number + 1) next listed is
    (rights_more numbers gap group number s may [] [] [] from to listed led sides m (exactly_none (IsWayOf numbers.lists s.right gap.rlist may) (λ w h. miss (w, h))) refl none)

pub none_all : (numbers : Numbering) (gap : Gap) (group : Group) (number : ℕ) → group.to ≤ number → NoneUpTo numbers gap group number → HasRight numbers gap group → ⊥
none_all numbers gap group number l none (r, is) = contains_none r (((rights_all numbers gap group [] number l none).each r).1 is)

pub right_known : (numbers : Numbering) (word number : ℕ) (s : Sides) → number < length (get_or numbers.positions word []) → ((d : Disjunct) → IsDisjunctAt numbers.positions word number d → HasSides numbers.lists d s) → s.right ≤ length numbers.lists
right_known numbers word number s l sides = let d = some_number numbers.positions word number l in (sides d.0 d.1).right.known

-- what an alternative tells of how it was made
pub way_same : (w w' : Way) → w.joint ≡ w'.joint → w.near ≡ w'.near → w.far ≡ w'.far → w ≡ w'
way_same w w' a b c = λ i. record { joint = a i; near = b i; far = c i }

right_same : (r r' : Right) → r.disjunct ≡ r'.disjunct → r.way ≡ r'.way → r ≡ r'
right_same r r' a b = λ i. record { disjunct = a i; way = b i }

at_parts : (w n w' n' : ℕ) (tl tr tl' tr' : Option Joint) (a b c d m e f g h k a' b' c' d' m' e' f' g' h' k' : ℕ)
    → At w n tl tr (Some (Between a b c d m)) (Some (Between e f g h k)) ≡ At w' n' tl' tr' (Some (Between a' b' c' d' m')) (Some (Between e' f' g' h' k'))
    → (n ≡ n') × (tl ≡ tl') × (tr ≡ tr') × (c ≡ c') × (d ≡ d') × (m ≡ m') × (g ≡ g') × (h ≡ h')
at_parts w n w' n' tl tr tl' tr' a b c d m e f g h k a' b' c' d' m' e' f' g' h' k' x = (cc, cc, cc, cc, cc, cc, cc, cc)

at_same : (w n w' n' : ℕ) (tl tr : Option Joint) (a b c d m e f g h k a' b' e' f' k' : ℕ) → w ≡ w' → n ≡ n' → a ≡ a' → b ≡ b' → e ≡ e' → f ≡ f' → k ≡ k'
    → At w n tl tr (Some (Between a b c d m)) (Some (Between e f g h k)) ≡ At w' n' tl tr (Some (Between a' b' c d m)) (Some (Between e' f' g h k'))
at_same w n w' n' tl tr a b c d m e f g h k a' b' e' f' k' x y p q r s t = cc

-- the alternative of chosen parts
abbrev pub Made : Numbering → Gap → Group → Bool → ℕ → Alt → Type 0
Made numbers gap group may nulls a = (left : Way) × (right : Right) × IsWayOf numbers.lists gap.llist group.left may left × IsRightOf numbers gap group right × (split_of gap group.word nulls left right ≡ a)

pub split_parts : (gap : Gap) (word n n' : ℕ) (l l' : Way) (r r' : Right) → split_of gap word n l r ≡ split_of gap word n' l' r' → (n ≡ n') × (l ≡ l') × (r ≡ r')
split_parts gap word n n' l l' r r' e =
    let p = at_parts word r.disjunct word r'.disjunct l.joint r.way.joint l'.joint r'.way.joint gap.left word l.near l.far n word gap.right r.way.near r.way.far (gap.nulls - n)
    gap.left word l'.near l'.far n' word gap.right r'.way.near r'.way.far (gap.nulls - n') e in
    (p.5, way_same l l' p.1 p.3 p.4, right_same r r' p.0 (way_same r.way r'.way p.2 p.6 p.7))

-- the numbers of unlinked words on the left for which both sides have room
abbrev pub HasRoom : Gap → ℕ → ℕ → Type 0
HasRoom gap word nulls = (nulls ≤ gap.nulls) × (nulls ≤ word - suc gap.left) × (gap.nulls - nulls ≤ gap.right - suc word)

not_zero : (lists : List (List Connector)) (n : ℕ) → list_of lists n ≢ [] → (n == 0) ≡ false
not_zero lists zero h = absurd (h refl)
not_zero lists (suc n) h = grind (arith, nat_tests)

-- chosen parts make an alternative of the region
pub made_is : (positions : List (List Disjunct)) (lists : List (List Connector)) (gap : Gap) (group : Group) (may : Bool) (nulls : ℕ) (l : Way) (r : Right) → IsGroup (record { positions = positions; lists = lists }) gap group → may ≡ (gap.llist == 0)
    → AreListsOf positions lists → gap.llist ≤ length lists → HasRoom gap group.word nulls → IsWayOf lists gap.llist group.left may l → IsRightOf (record { positions = positions; lists = lists }) gap group r
    → IsAltOfRegion positions lists (region_of_gap lists gap) (split_of gap group.word nulls l r) × StandsIn group.word group.from group.to (split_of gap group.word nulls l r)
made_is positions lists gap group may nulls l r is m are known room il ir =
    let k = region_of_gap lists gap in
    let word = group.word in
    let listed = is.listed in
    let to = ir.to in
    let d = some_number positions word r.disjunct (omega arith) in
    let lkey = region_of_numbers lists gap.left word l.near l.far nulls in
    let rkey = region_of_numbers lists word gap.right r.way.near r.way.far (gap.nulls - nulls) in
    let c : Split = record { word = word; disjunct = d.0; to_left = l.joint; to_right = r.way.joint; lkey = lkey; rkey = rkey } in
    let left = is.left r.disjunct d.0 ir.from ir.to d.1 (ir.led d.0 d.1) in
    let a = room.0 in
    let cut : IsCut positions k c = record {
      after = is.after;
      before = is.before;
      listed = get_contains (get_or positions word []) r.disjunct d.0 d.1;
      ends_left = (refl, refl);
      ends_right = (refl, refl);
      at_left = cut_as l.joint l.joint (list_of lists gap.llist) (list_of lists gap.llist) (list_of lists group.left) d.0.left (list_of lists l.near) (list_of lists l.near) (list_of lists l.far) (list_of lists l.far) refl refl left refl refl il.cut;
      at_right = ir.cut d.0 d.1;
      by_llist = λ n. il.joined (m ∙ not_zero lists gap.llist n);
      by_rlist = λ e. ir.joined (apart positions lists are gap.llist 0 known (omega arith) e);
      few_left = room.1;
      few_right = room.2;
      nulls = omega arith;
    } in (
      (
        c,
        record {
          cut = cut;
          place = refl;
          chosen = d.1;
          joint_left = refl;
          joint_right = refl;
          before = (il.known_near, il.known_far, refl);
          behind = (ir.known_near, ir.known_far, refl);
        },
      ),
      (refl, ir.from, ir.to),
    )

no_zero : (n : ℕ) → n ≡ 0 → (n == 0) ≡ false → ⊥
no_zero n e f = grind (arith, nat_tests)

-- an alternative of the region at the word was made of chosen parts
made_of : (positions : List (List Disjunct)) (lists : List (List Connector)) (gap : Gap) (group : Group) (may : Bool) (l' r' ll rl n l2 r2 ll2 rl2 n2 w number : ℕ) (tl tr : Option Joint) (c : Split)
    → IsGroup (record { positions = positions; lists = lists }) gap group → may ≡ (gap.llist == 0) → AreListsOf positions lists → gap.llist ≤ length lists → Leads gap.lead positions (region_of_gap lists gap)
    → IsSplitOf positions lists (region_of_gap lists gap) w number tl tr (Between l' r' ll rl n) (Between l2 r2 ll2 rl2 n2) c → w ≡ group.word → group.from ≤ number → number < group.to
    → HasRoom gap group.word n × Made (record { positions = positions; lists = lists }) gap group may n (At w number tl tr (Some (Between l' r' ll rl n)) (Some (Between l2 r2 ll2 rl2 n2)))
made_of positions lists gap group may l' r' ll rl n l2 r2 ll2 rl2 n2 w number tl tr c is m are known led s ew from to =
    let cut = s.cut in
    let lk = s.before.2 in
    let rk = s.behind.2 in
    let word : c.word ≡ group.word = s.place ∙ ew in
    let at : IsDisjunctAt positions group.word number c.disjunct = subst (λ z. IsDisjunctAt positions z number c.disjunct) ew s.chosen in
    let chosen = led c cut in
    let left = is.left number c.disjunct from to at chosen in
    let nl = ap (λ z. z.nulls) lk in
    let nr = ap (λ z. z.nulls) rk in
    let sum = cut.nulls in
    let fl = cut.few_left in
    let fr = cut.few_right in
    let l : Way = record { joint = tl; near = ll; far = rl } in
    let r : Right = record { disjunct = number; way = record { joint = tr; near = ll2; far = rl2 } } in
    let il : IsWayOf lists gap.llist group.left may l = record {
      known_near = s.before.0;
      known_far = s.before.1;
      cut = cut_as c.to_left tl (list_of lists gap.llist) (list_of lists gap.llist) c.disjunct.left (list_of lists group.left) c.lkey.llist (list_of lists ll) c.lkey.rlist (list_of lists rl) s.joint_left refl (sym left) (ap (λ z. z.llist) lk) (ap (λ z. z.rlist) lk) cut.at_left;
      joined = λ z. subst (λ v. IsSome v) s.joint_left (cut.by_llist (λ e. no_zero gap.llist (apart positions lists are gap.llist 0 known (omega arith) e) (sym m ∙ z)));
    } in
    let ir : IsRightOf (record { positions = positions; lists = lists }) gap group r = record {
      from = from;
      to = to;
      known_near = s.behind.0;
      known_far = s.behind.1;
      led = λ d at'. subst (λ z. IsLed gap.lead z) (same_Some c.disjunct d (sym at ∙ at')) chosen;
      cut = λ d at'. cut_as c.to_right tr c.disjunct.right d.right (list_of lists gap.rlist) (list_of lists gap.rlist) c.rkey.llist (list_of lists ll2) c.rkey.rlist (list_of lists rl2) s.joint_right (ap (λ z. z.right) (same_Some c.disjunct d (sym at ∙ at'))) refl (ap (λ z. z.llist) rk) (ap (λ z. z.rlist) rk) cut.at_right;
      joined = λ z. subst (λ v. IsSome v) s.joint_right (cut.by_rlist (ap (list_of lists) z));
    } in (
      (omega arith, omega arith, omega arith),
      (
        l,
        r,
        il,
        ir,
        at_same group.word number w number tl tr gap.left group.word ll rl n group.word gap.right ll2 rl2 (gap.nulls - n) l' r' l2 r2 n2 (sym ew) refl
            (sym cut.ends_left.0 ∙ ap (λ z. z.left) lk) (sym word ∙ sym cut.ends_left.1 ∙ ap (λ z. z.right) lk) (sym word ∙ sym cut.ends_right.0 ∙ ap (λ z. z.left) rk) (sym cut.ends_right.1 ∙ ap (λ z. z.right) rk) (omega arith),
      ),
    )

pub alt_made : (positions : List (List Disjunct)) (lists : List (List Connector)) (gap : Gap) (group : Group) (may : Bool) (a : Alt) → IsGroup (record { positions = positions; lists = lists }) gap group → may ≡ (gap.llist == 0) → AreListsOf positions lists → gap.llist ≤ length lists → Leads gap.lead positions (region_of_gap lists gap)
    → IsAltOfRegion positions lists (region_of_gap lists gap) a → StandsIn group.word group.from group.to a → (n : ℕ) × HasRoom gap group.word n × Made (record { positions = positions; lists = lists }) gap group may n a
alt_made positions lists gap group may AllNull is m are known led i s = absurd s
alt_made positions lists gap group may (At w number tl tr None rk) is m are known led i s = absurd i
alt_made positions lists gap group may (At w number tl tr (Some lk) None) is m are known led i s = absurd i
alt_made positions lists gap group may (At w number tl tr (Some (Whole n)) (Some rk)) is m are known led (c, i) s = absurd i.before
alt_made positions lists gap group may (At w number tl tr (Some (Between l' r' ll rl n)) (Some (Whole n2))) is m are known led (c, i) s = absurd i.behind
alt_made positions lists gap group may (At w number tl tr (Some (Between l' r' ll rl n)) (Some (Between l2 r2 ll2 rl2 n2))) is m are known led (c, i) s =
    let x = made_of positions lists gap group may l' r' ll rl n l2 r2 ll2 rl2 n2 w number tl tr c is m are known led i s.0 s.1 s.2 in
    (n, x.0, x.1)
