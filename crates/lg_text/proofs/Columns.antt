-- The columns of a diagram, and its line of words.
use Rattle.std.proofs.Common.{◌≡◌, ℕ, zero, suc, ◌+◌, ◌-◌, ◌<◌, ◌≤◌, List, [], ◌∷◌, ◌++◌, Option, Some, None, length, get_or, map, take, drop, replicate, append_assoc, append-nil, refl, sym, ap, subst, ◌∙◌, inl, inr, arith, slice_get}
use Rattle.std.proofs.lemmas.Bool.{cases_lt}
use Rattle.std.proofs.lemmas.List.{length-append, length-map, map_more, drop_more, drop_all, get_or-map, get_or_past}
use Rattle.std.proofs.lemmas.List.Elements.{Contains-get_or}
use Rattle.std.proofs.lemmas.Slice.Zip.{get_or-zip, length-zip}
use Rattle.std.specs.List.{All, zip}
use Rattle.lg_gram.specs.Linkages.{Linkage, IsForward, link_length}
use Rattle.lg_gram.specs.Labels.{label_at}
use Rattle.lg_gram.specs.Names.{Name}
use Rattle.lg_gram.specs.Rules.{IsMatched, HasLink, rights_of, lefts_of, left_list}
use Rattle.lg_gram.specs.declared.disjunct.Disjunct.{Disjunct}
use Rattle.lg_gram.specs.declared.linkage.Link.{Link}
use Rattle.lg_gram.specs.declared.listing.Token.{Token}
use Rattle.lg_text.specs.Diagrams.{cell, cells_line, width, starts_of, next_start, room_for, line_width, Drawn, drawn_of, height}
use Rattle.lg_text.specs.Texts.{letters_of}
use Rattle.lg_text.specs.Painted.{IsWithin, no_link}
use Rattle.lg_text.proofs.Greatest.{greatest_bounds}

-- ---- cells

module _ (tokens : List Token) (choices : List (Option Disjunct)) (same : length tokens ≡ length choices) where
  pub length-cells : length (map cell (zip tokens choices)) ≡ length tokens
  length-cells = length-map (zip tokens choices) cell ∙ length-zip tokens choices ∙ omega arith

  pub cell_at : (i : ℕ) (t : Token) (o : Option Disjunct) → i < length tokens → get_or (map cell (zip tokens choices)) i [] ≡ cell (get_or tokens i t, get_or choices i o)
  cell_at i t o lt =
      let long = length-zip tokens choices in
      get_or-map cell (zip tokens choices) i (t, o) [] (omega arith) ∙ ap cell (get_or-zip tokens choices i (t, o) lt (omega arith))

-- ---- starts

pub length-starts_of : (texts : List (List ℕ)) (g : Linkage) (n : ℕ) → length (starts_of texts g n) ≡ n
length-starts_of texts g zero = refl
length-starts_of texts g (suc n) = length-append (starts_of texts g n) (next_start texts g (starts_of texts g n) n ∷ []) ∙ (let before = length-starts_of texts g n in omega arith)

pub starts_more : (texts : List (List ℕ)) (g : Linkage) (n : ℕ) → starts_of texts g (n + 1) ≡ starts_of texts g n ++ next_start texts g (starts_of texts g n) n ∷ []
starts_more texts g n = let on : n + 1 ≡ suc n = omega arith in ap (starts_of texts g) on

-- a later position starts behind the one before it
pub next_start_is : (texts : List (List ℕ)) (g : Linkage) (starts : List ℕ) (position least : ℕ) (text : List ℕ) → 0 < position → text ≡ get_or texts (position - 1) [] → least ≡ get_or starts (position - 1) 0 + width text + 1 → room_for g starts least position ≡ next_start texts g starts position
next_start_is texts g starts zero least text later is_text is = absurd (omega arith)
next_start_is texts g starts (suc j) least text later is_text is =
    let before : suc j - 1 ≡ j = omega arith in
    let behind : least ≡ get_or starts (suc j - 1) 0 + (width text + 1) = omega arith in
    ap (λ k. room_for g starts k (suc j)) (behind ∙ (λ t. get_or starts (before t) 0 + (width (is_text t) + 1)) ∙ ap (λ k. get_or starts j 0 + (width (get_or texts k []) + 1)) before)

-- ---- links

module _ (g : Linkage) (matched : IsMatched (rights_of g) (lefts_of g) (HasLink g)) where
  pub all_forward : All IsForward g.links
  all_forward i d lt = matched.forward (get_or g.links i d) (Contains-get_or g.links i d lt)

  -- both ends of a link are positions
  pub all_placed : All (λ l. l.right < length g.chosen) g.links
  all_placed i d lt =
      let l = get_or g.links i d in
      let joined = matched.joins l (Contains-get_or g.links i d lt) in
      elim (cases_lt l.right (length g.chosen)) [
        | inl within ↦ within
        | inr past ↦ let empty = ap (λ o. slice_get (left_list o) l.rplace) (get_or_past g.chosen l.right None past) in cc
      ]

  pub all_short : All (λ l. link_length l < length g.chosen) g.links
  all_short i d lt = let placed = all_placed i d lt in let forward = all_forward i d lt in omega arith

-- each end of a drawn link lies within the line
pub all_within : (g : Linkage) (starts : List ℕ) → IsMatched (rights_of g) (lefts_of g) (HasLink g) → length starts ≡ length g.chosen → All (IsWithin (line_width starts)) (map (drawn_of g starts) g.links)
all_within g starts matched same i d lt =
    let placed = all_placed g matched i no_link below in
    let forward = all_forward g matched i no_link below in
    subst (IsWithin (line_width starts)) (sym (get_or-map (drawn_of g starts) g.links i no_link d below)) (record {
      from = greatest_bounds suc 0 starts (get_or g.links i no_link).left 0 (omega arith);
      to = greatest_bounds suc 0 starts (get_or g.links i no_link).right 0 (omega arith);
    })
  where
    below : i < length g.links
    below = let long = length-map g.links (drawn_of g starts) in omega arith

-- one more link is drawn
pub drawn_more : (g : Linkage) (starts : List ℕ) (links : List Link) (heights : List ℕ) (i : ℕ) (name : Name) (h : ℕ) (old new : List Drawn) → i < length links → links ≡ g.links → heights ≡ map (height links) links
    → label_at g (get_or links i no_link) ≡ Some name → h ≡ get_or heights i h → old ≡ map (drawn_of g starts) (take i links)
    → new ≡ old ++ record { from = get_or starts (get_or links i no_link).left 0; to = get_or starts (get_or links i no_link).right 0; label = name.caps ++ name.subs; height = h } ∷ []
    → new ≡ map (drawn_of g starts) (take (i + 1) links)
drawn_more g starts links heights i name h old new lt same are label is so_far is_new =
    let here = get_or links i no_link in
    let letters = sym (ap letters_of label) in
    let high = is ∙ ap (λ hs. get_or hs i h) are ∙ get_or-map (height links) links i no_link h lt ∙ ap (λ ls. height ls here) same in
    is_new
    ∙ (λ t. so_far t ++ record { from = get_or starts here.left 0; to = get_or starts here.right 0; label = letters t; height = high t } ∷ [])
    ∙ sym (map_more (drawn_of g starts) links i no_link lt)

-- ---- the line of words

words_front : (texts : List (List ℕ)) (starts : List ℕ) (i at : ℕ) → i < length texts → i < length starts
    → cells_line at (drop i texts) (drop i starts) ≡ replicate (get_or starts i 0 - at) 32 ++ (get_or texts i [] ++ cells_line (get_or starts i 0 + width (get_or texts i [])) (drop (i + 1) texts) (drop (i + 1) starts))
words_front texts starts i at lt below t = cells_line at (drop_more texts i [] lt t) (drop_more starts i 0 below t)

-- one more word is written
pub words_more : (texts : List (List ℕ)) (starts : List ℕ) (i at next : ℕ) (text old spaced new all : List ℕ) → i < length texts → i < length starts → text ≡ get_or texts i [] → next ≡ get_or starts i 0 + width (get_or texts i [])
    → spaced ≡ old ++ replicate (get_or starts i 0 - at) 32 → new ≡ spaced ++ text → old ++ cells_line at (drop i texts) (drop i starts) ≡ all → new ++ cells_line next (drop (i + 1) texts) (drop (i + 1) starts) ≡ all
words_more texts starts i at next text old spaced new all lt below is is_next is_spaced is_new so_far =
    let rest = cells_line (get_or starts i 0 + width (get_or texts i [])) (drop (i + 1) texts) (drop (i + 1) starts) in
    let spaces = replicate (get_or starts i 0 - at) 32 in
    (λ t. (is_new ∙ (λ u. is_spaced u ++ is u)) t ++ cells_line (is_next t) (drop (i + 1) texts) (drop (i + 1) starts))
    ∙ append_assoc (old ++ spaces) (get_or texts i []) rest ∙ append_assoc old spaces (get_or texts i [] ++ rest)
    ∙ ap (λ x. old ++ x) (sym (words_front texts starts i at lt below)) ∙ so_far

pub words_end : (texts : List (List ℕ)) (starts : List ℕ) (i at : ℕ) (old all : List ℕ) → length texts ≤ i → old ++ cells_line at (drop i texts) (drop i starts) ≡ all → old ≡ all
words_end texts starts i at old all past so_far =
    sym (append-nil old) ∙ ap (λ x. old ++ cells_line at x (drop i starts)) (sym (drop_all i texts past)) ∙ so_far
