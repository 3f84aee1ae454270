-- Lines that are made of choices, as lists come behind those that are there.
use Rattle.std.proofs.Common.{◌≡◌, ℕ, ◌+◌, ◌<◌, ◌≤◌, ℤ, Bool, true, false, cond, List, [], ◌∷◌, ◌++◌, length, map, take, drop, get_or, refl, sym, ap, subst, ◌∙◌, arith, append-nil, length-append}
use Rattle.std.specs.Prelude.{Some, None, slice_get}
use Rattle.std.specs.List.{All}
use Rattle.std.proofs.Math.ListN.{get_or-append}
use Rattle.std.proofs.Math.Seq.{get_or-append_seam}
use Rattle.std.proofs.lemmas.List.{map-append, length-map, get_or-map, get_or-take, length-take, take_all, take_more}
use Rattle.std.proofs.lemmas.Option.{slice_get-get_or, slice_get_within, get_or_from_slice_get}
use Rattle.lg_gram.specs.Connectors.{Connector}
use Rattle.lg_disj.specs.Choices.{disjunct_of}
use Rattle.lg_disj.specs.Grown.{IsPlaced}
use Rattle.lg_disj.specs.Made.{list_of_line, list_of_choice, AreMadeOn, AreMade, Comes}
use Rattle.lg_disj.specs.Outlines.{Outlined, IsLineOf, disjunct_on}
use Rattle.lg_disj.specs.Places.{Places, no_places, side_of, leaf_at, choice_by}
use Rattle.lg_disj.specs.declared.outline.Line.{Line}

-- what stands at a place stays there
stays : (old more : List (List Connector)) (k : ℕ) (x : List Connector) → slice_get old k ≡ Some x → slice_get (old ++ more) k ≡ Some x
stays old more k x is =
    let within = slice_get_within old k x is in
    slice_get-get_or (old ++ more) k [] (omega (arith, within, length-append old more))
    ∙ ap Some (get_or-append old more [] k within ∙ get_or_from_slice_get old k x [] is)

-- a list that was there
pub comes_no : (old : List (List Connector)) (list : List Connector) (k : ℕ) → slice_get old k ≡ Some list → Comes old old list k
comes_no old list k there = record { more = []; grown = sym (append-nil old); there = there }

-- a list that came behind the others
pub comes_new : (old new : List (List Connector)) (list : List Connector) (k : ℕ) → k ≡ length old → new ≡ old ++ list ∷ [] → Comes old new list k
comes_new old new list k last grown = record {
  more = list ∷ [];
  grown = grown;
  there =
      (λ i. slice_get (grown i) (last i))
      ∙ slice_get-get_or (old ++ list ∷ []) (length old) [] (omega (arith, length-append old (list ∷ [])))
      ∙ ap Some (get_or-append_seam old list [] []);
}

module _ (right : Bool) (leaves : List Connector) where
  -- the list of a line is that of its choice
  pub made_on : (lists : List (List Connector)) (ps : List Places) (lines : List Line) (k : ℕ) (l : Line) → k < length lines → AreMadeOn right leaves lists ps lines →
      list_of_line right lists (get_or lines k l) ≡ Some (list_of_choice right leaves (get_or ps k no_places))
  made_on lists ps lines k l within is =
      let f = list_of_line right lists in
      let g = λ (p : Places). Some (list_of_choice right leaves p) in
      let long : k < length ps = omega (arith, within, ap length is, length-map lines f, length-map ps g) in
      sym (get_or-map f lines k l None within) ∙ ap (λ xs. get_or xs k None) is ∙ get_or-map g ps k no_places None long

  -- a guess whose choice has the same places
  pub made_at : (lists : List (List Connector)) (ps : List Places) (lines : List Line) (n k : ℕ) (l : Line) (list : List Connector) → k < length lines →
      AreMadeOn right leaves lists (take n ps) lines → l ≡ get_or lines k l → list_of_choice right leaves (get_or ps k no_places) ≡ list → list_of_line right lists l ≡ Some list
  made_at lists ps lines n k l list within is at same =
      let f = list_of_line right lists in
      let g = λ (p : Places). Some (list_of_choice right leaves p) in
      let low : k < n = omega (arith, within, ap length is, length-map lines f, length-map (take n ps) g, length-take n ps) in
      ap f at ∙ made_on lists (take n ps) lines k l within is
      ∙ ap g (get_or-take n ps k no_places low) ∙ ap Some same

  same_lines : (old more : List (List Connector)) (ps : List Places) (lines : List Line) → AreMadeOn right leaves old ps lines → AreMadeOn right leaves (old ++ more) ps lines
  same_lines old more [] [] is = refl
  same_lines old more [] (l ∷ lines) is = absurd (omega (arith, ap length is))
  same_lines old more (p ∷ ps) [] is = absurd (omega (arith, ap length is))
  same_lines old more (p ∷ ps) (l ∷ lines) is =
      let first = stays old more (cond right l.right l.left) (list_of_choice right leaves p) (ap (λ xs. get_or xs 0 None) is) in
      let others = same_lines old more ps lines (ap (drop 1) is) in
      λ i. first i ∷ others i

  next_on : (old new : List (List Connector)) (ps : List Places) (n : ℕ) (lines : List Line) (l : Line) → n < length ps → AreMadeOn right leaves old (take n ps) lines →
      Comes old new (list_of_choice right leaves (get_or ps n no_places)) (cond right l.right l.left) → AreMadeOn right leaves new (take (n + 1) ps) (lines ++ l ∷ [])
  next_on old new ps n lines l within is comes =
      let g = λ (p : Places). Some (list_of_choice right leaves p) in
      let before = subst (λ new. AreMadeOn right leaves new (take n ps) lines) (sym comes.grown) (same_lines old comes.more (take n ps) lines is) in
      map-append (list_of_line right new) lines (l ∷ []) ∙ (λ i. before i ++ comes.there i ∷ [])
      ∙ sym (map-append g (take n ps) (get_or ps n no_places ∷ [])) ∙ ap (map g) (sym (take_more ps n no_places within))

-- the places of a choice are those of leaves
pub placed_on : (leaves : List Connector) (right : Bool) (p : Places) → IsPlaced leaves p → All (λ n. n < length leaves) (side_of right p)
placed_on leaves true p placed = placed.right
placed_on leaves false p placed = placed.left

-- a line more
pub made_next : (leaves : List Connector) (lefts rights lefts' rights' : List (List Connector)) (ps : List Places) (n : ℕ) (lines lines' : List Line) (l : Line) → n < length ps →
    AreMade leaves lefts rights (take n ps) lines → Comes lefts lefts' (list_of_choice false leaves (get_or ps n no_places)) l.left →
    Comes rights rights' (list_of_choice true leaves (get_or ps n no_places)) l.right → l.cost ≡ (get_or ps n no_places).cost → lines' ≡ lines ++ l ∷ [] →
    AreMade leaves lefts' rights' (take (n + 1) ps) lines'
made_next leaves lefts rights lefts' rights' ps n lines lines' l within made left right cost is = subst (AreMade leaves lefts' rights' (take (n + 1) ps)) (sym is) (record {
  left = next_on false leaves lefts lefts' ps n lines l within made.left left;
  right = next_on true leaves rights rights' ps n lines l within made.right right;
  costs =
      map-append (λ (l : Line). l.cost) lines (l ∷ []) ∙ (λ i. made.costs i ++ cost i ∷ [])
      ∙ sym (map-append (λ (p : Places). p.cost) (take n ps) (get_or ps n no_places ∷ [])) ∙ ap (map (λ (p : Places). p.cost)) (sym (take_more ps n no_places within));
})

-- all lines
pub all_made : (leaves : List Connector) (lefts rights : List (List Connector)) (ps : List Places) (n : ℕ) (lines : List Line) → length ps ≤ n →
    AreMade leaves lefts rights (take n ps) lines → AreMade leaves lefts rights ps lines
all_made leaves lefts rights ps n lines long made = subst (λ qs. AreMade leaves lefts rights qs lines) (take_all n ps long) made

pub lines_within : (leaves : List Connector) (o : Outlined) (ps : List Places) → AreMade leaves o.lefts o.rights ps o.lines → All (IsLineOf o) o.lines
lines_within leaves o ps made k l within = record {
  left = slice_get_within o.lefts _ _ (made_on false leaves o.lefts ps o.lines k l within made.left);
  right = slice_get_within o.rights _ _ (made_on true leaves o.rights ps o.lines k l within made.right);
}

lines_told : (leaves : List Connector) (o : Outlined) (ps : List Places) (lines : List Line) → AreMade leaves o.lefts o.rights ps lines →
    map (disjunct_on o) lines ≡ map (disjunct_of o.word) (map (choice_by leaves) ps)
lines_told leaves o [] [] made = refl
lines_told leaves o [] (l ∷ lines) made = absurd (omega (arith, ap length made.costs))
lines_told leaves o (p ∷ ps) [] made = absurd (omega (arith, ap length made.costs))
lines_told leaves o (p ∷ ps) (l ∷ lines) made =
    let left = get_or_from_slice_get o.lefts l.left (map (leaf_at leaves) p.left) [] (ap (λ xs. get_or xs 0 None) made.left) in
    let right = get_or_from_slice_get o.rights l.right (map (leaf_at leaves) p.right) [] (ap (λ xs. get_or xs 0 None) made.right) in
    let cost : l.cost ≡ p.cost = ap (λ (xs : List ℤ). get_or xs 0 l.cost) made.costs in
    let others = lines_told leaves o ps lines (record { left = ap (drop 1) made.left; right = ap (drop 1) made.right; costs = ap (drop 1) made.costs }) in
    λ i. record { word = o.word; left = left i; right = right i; cost = cost i } ∷ others i

-- the outline has the disjuncts of the choices
pub outline_told : (leaves : List Connector) (word : List ℕ) (o : Outlined) (ps : List Places) → o.word ≡ word → AreMade leaves o.lefts o.rights ps o.lines →
    map (disjunct_on o) o.lines ≡ map (disjunct_of word) (map (choice_by leaves) ps)
outline_told leaves word o ps is made = lines_told leaves o ps o.lines made ∙ ap (λ w. map (disjunct_of w) (map (choice_by leaves) ps)) is
