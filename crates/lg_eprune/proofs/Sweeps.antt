-- Sweeps over the positions.
use Rattle.std.proofs.Common.{◌≡◌, ℕ, zero, suc, ◌+◌, ◌<◌, ◌≤◌, ◌⊎◌, inl, inr, refl, sym, ap, ◌∙◌, Bool, true, false, not, Option, Some, None, IfSome, List, [], ◌∷◌, ◌++◌, length, reverse, get_or, Contains, true≢false, arith}
use mathlib.Core.List.{reverse_aux}
use Rattle.std.specs.Bool.{beq}
use Rattle.std.specs.List.{list_any}
use Rattle.std.specs.Option.{option_map}
use Rattle.std.proofs.lemmas.Bool.{or_cases, or_parts, or_from, not-true}
use Rattle.std.proofs.lemmas.List.Elements.{Contains-append_cases}
use Rattle.std.proofs.lemmas.List.Folds.{Any-from_list_any}
use Rattle.lg_gram.specs.Connectors.{Connector}
use Rattle.lg_gram.specs.Trees.{Tree}
use Rattle.lg_gram.specs.Measures.{node_count}
use Rattle.lg_eprune.specs.Live.{WordTree}
use Rattle.lg_eprune.specs.Cuts.{cut, cut_words, with_word, do_lose, do_join, is_whole, leaves, stays, swept, sweep_loses, word_leaves}
use Rattle.lg_base.proofs.Elements.{contains_cases, contains_none, flat_in, flat_out}
use Rattle.lg_eprune.proofs.Bounds.{IsLess, positive, cut_no_more, cut_less, cut_keeps, cut_whole}
use Rattle.lg_eprune.proofs.Leaves.{beq_same, leaf_passes, leaf_side}

-- the nodes of all formulas
abbrev pub words_size : List WordTree → ℕ
words_size [] = 0
words_size (w ∷ ws) = node_count w.tree + words_size ws

abbrev pub size : List (List WordTree) → ℕ
size [] = 0
size (ws ∷ rest) = words_size ws + size rest

not_false : (b : Bool) → not b ≡ false → b ≡ true
not_false true h = refl
not_false false h = absurd (true≢false h)

abbrev as_word : WordTree → Option Tree → Option WordTree
as_word w o = option_map (λ (t : Tree). record { word = w.word; tree = t }) o

-- words of which nothing goes
pub words_keep : (test : Connector → Bool) (ws : List WordTree) → do_lose test ws ≡ false → cut_words test ws ≡ ws
words_keep test [] h = refl
words_keep test (w ∷ ws) h =
    let (here, later) = or_parts (not (is_whole test w.tree)) (do_lose test ws) h in
    let same = cut_keeps test w.tree (not_false (is_whole test w.tree) here) in
    (λ i. with_word (as_word w (same i)) (words_keep test ws later i))

one_no_more : (w : WordTree) (o : Option Tree) (ws rest : List WordTree) → IfSome o (λ new. node_count new ≤ node_count w.tree) → words_size rest ≤ words_size ws
    → words_size (with_word (as_word w o) rest) ≤ words_size (w ∷ ws)
one_no_more w None ws rest h g = omega arith
one_no_more w (Some t) ws rest h g = omega arith

one_less : (w : WordTree) (o : Option Tree) (ws rest : List WordTree) → IsLess w.tree o → words_size rest ≤ words_size ws → 0 < node_count w.tree
    → words_size (with_word (as_word w o) rest) < words_size (w ∷ ws)
one_less w None ws rest h g some = omega arith
one_less w (Some t) ws rest h g some = omega arith

others_less : (w : WordTree) (o : Option Tree) (ws rest : List WordTree) → IfSome o (λ new. node_count new ≤ node_count w.tree) → words_size rest < words_size ws
    → words_size (with_word (as_word w o) rest) < words_size (w ∷ ws)
others_less w None ws rest h g = omega arith
others_less w (Some t) ws rest h g = omega arith

pub words_no_more : (test : Connector → Bool) (ws : List WordTree) → words_size (cut_words test ws) ≤ words_size ws
words_no_more test [] = omega arith
words_no_more test (w ∷ ws) = one_no_more w (cut test w.tree) ws (cut_words test ws) (cut_no_more test w.tree) (words_no_more test ws)

pub words_less : (test : Connector → Bool) (ws : List WordTree) → do_lose test ws ≡ true → words_size (cut_words test ws) < words_size ws
words_less test [] h = absurd (true≢false (sym h))
words_less test (w ∷ ws) h =
    elim (or_cases (not (is_whole test w.tree)) (do_lose test ws) h) [
      | inl here ↦ one_less w (cut test w.tree) ws (cut_words test ws) (cut_less test w.tree (not-true (is_whole test w.tree) here)) (words_no_more test ws) (positive w.tree)
      | inr later ↦ others_less w (cut test w.tree) ws (cut_words test ws) (cut_no_more test w.tree) (words_less test ws later)
    ]

one_whole : (test : Connector → Bool) (w : WordTree) (o : Option Tree) (rest : List WordTree) → IfSome o (λ new. is_whole test new ≡ true) → do_lose test rest ≡ false
    → do_lose test (with_word (as_word w o) rest) ≡ false
one_whole test w None rest h g = g
one_whole test w (Some t) rest h g = or_from (not (is_whole test t)) (do_lose test rest) (ap not h) g

-- the words that are left are whole
pub words_whole : (test : Connector → Bool) (ws : List WordTree) → do_lose test (cut_words test ws) ≡ false
words_whole test [] = refl
words_whole test (w ∷ ws) = one_whole test w (cut test w.tree) (cut_words test ws) (cut_whole test w.tree) (words_whole test ws)

pub word_whole : (test : Connector → Bool) (ws : List WordTree) → do_lose test ws ≡ false → (w : WordTree) → Contains ws w → is_whole test w.tree ≡ true
word_whole test [] h w m = absurd (contains_none w m)
word_whole test (v ∷ ws) h w m =
    let (here, later) = or_parts (not (is_whole test v.tree)) (do_lose test ws) h in
    elim (contains_cases v ws w m) [
      | inl same ↦ ap (λ (x : WordTree). is_whole test x.tree) (sym same) ∙ not_false (is_whole test v.tree) here
      | inr next ↦ word_whole test ws later w next
    ]

-- the leaves of words
pub word_leaf : (right : Bool) (ws : List WordTree) (c : Connector) → Contains (word_leaves right ws) c → (w : WordTree) × Contains ws w × Contains (leaves right w.tree) c
word_leaf right ws c m = flat_out (λ (w : WordTree). leaves right w.tree) ws c m

pub leaf_of_word : (right : Bool) (ws : List WordTree) (w : WordTree) (c : Connector) → Contains ws w → Contains (leaves right w.tree) c → Contains (word_leaves right ws) c
leaf_of_word right ws w c m h = flat_in (λ (w : WordTree). leaves right w.tree) ws w c m h

pub word_leaf_side : (right : Bool) (ws : List WordTree) (c : Connector) → Contains (word_leaves right ws) c → c.right ≡ right
word_leaf_side right ws c m = let (w, is, has) = word_leaf right ws c m in leaf_side right w.tree c has

word_leaf_passes : (test : Connector → Bool) (ws : List WordTree) → do_lose test ws ≡ false → (right : Bool) (c : Connector) → Contains (word_leaves right ws) c → test c ≡ true
word_leaf_passes test ws h right c m = let (w, is, has) = word_leaf right ws c m in leaf_passes test w.tree (word_whole test ws h w is) right c has

-- a sweep that takes nothing
pub sweep_keeps : (right : Bool) (seen : List Connector) (xs : List (List WordTree)) → sweep_loses right seen xs ≡ false → swept right seen xs ≡ xs
sweep_keeps right seen [] h = refl
sweep_keeps right seen (ws ∷ rest) h =
    let kept = cut_words (stays right seen) ws in
    let (here, later) = or_parts (do_lose (stays right seen) ws) (sweep_loses right (seen ++ word_leaves right kept) rest) h in
    (λ i. words_keep (stays right seen) ws here i ∷ sweep_keeps right (seen ++ word_leaves right kept) rest later i)

pub sweep_no_more : (right : Bool) (seen : List Connector) (xs : List (List WordTree)) → size (swept right seen xs) ≤ size xs
sweep_no_more right seen [] = omega arith
sweep_no_more right seen (ws ∷ rest) =
    let kept = cut_words (stays right seen) ws in
    let here = words_no_more (stays right seen) ws in
    let later = sweep_no_more right (seen ++ word_leaves right kept) rest in
    omega arith

pub sweep_less : (right : Bool) (seen : List Connector) (xs : List (List WordTree)) → sweep_loses right seen xs ≡ true → size (swept right seen xs) < size xs
sweep_less right seen [] h = absurd (true≢false (sym h))
sweep_less right seen (ws ∷ rest) h =
    let kept = cut_words (stays right seen) ws in
    elim (or_cases (do_lose (stays right seen) ws) (sweep_loses right (seen ++ word_leaves right kept) rest) h) [
      | inl here ↦ (
          let less = words_less (stays right seen) ws here in
          let later = sweep_no_more right (seen ++ word_leaves right kept) rest in
          omega arith)
      | inr later ↦ (
          let less = words_no_more (stays right seen) ws in
          let more = sweep_less right (seen ++ word_leaves right kept) rest later in
          omega arith)
    ]

pub length-swept : (right : Bool) (seen : List Connector) (xs : List (List WordTree)) → length (swept right seen xs) ≡ length xs
length-swept right seen [] = refl
length-swept right seen (ws ∷ rest) = ap suc (length-swept right (seen ++ word_leaves right (cut_words (stays right seen) ws)) rest)

size-onto : (xs ys : List (List WordTree)) → size (reverse_aux xs ys) ≡ size xs + size ys
size-onto [] ys = omega arith
size-onto (x ∷ xs) ys = let more = size-onto xs (x ∷ ys) in omega arith

pub size-reverse : (xs : List (List WordTree)) → size (reverse xs) ≡ size xs
size-reverse xs = let all = size-onto xs [] in omega arith

-- after a sweep the words of each position are whole
pub swept_whole : (right : Bool) (seen : List Connector) (xs : List (List WordTree)) (k : ℕ) → (test : Connector → Bool) × (do_lose test (get_or (swept right seen xs) k []) ≡ false)
swept_whole right seen [] k = (stays right seen, refl)
swept_whole right seen (ws ∷ rest) zero = (stays right seen, words_whole (stays right seen) ws)
swept_whole right seen (ws ∷ rest) (suc k) = swept_whole right (seen ++ word_leaves right (cut_words (stays right seen) ws)) rest k

abbrev Place : Bool → List (List WordTree) → ℕ → List Connector
Place right xs k = word_leaves right (get_or xs k [])

joined_by : (right : Bool) (seen : List Connector) (c : Connector) → c.right ≡ not right → stays right seen c ≡ true → (d : Connector) × (do_join d c ≡ true) × Contains seen d
unfolding stays
joined_by right seen c side h =
    elim (or_cases (beq c.right right) (list_any (λ d. do_join d c) seen) h) [
      | inl same ↦ absurd (no_self right (sym side ∙ beq_same c.right right same))
      | inr met ↦ (
          let (k, d, within, at, joins) = Any-from_list_any (λ d. do_join d c) seen met in
          (d, joins, (k, within, at)))
    ]
  where
    no_self : (b : Bool) → not b ≡ b → ⊥
    no_self true h = true≢false (sym h)
    no_self false h = true≢false h

-- after a sweep each leaf of the other direction joins one of an earlier position
pub served : (right : Bool) (seen : List Connector) (xs : List (List WordTree)) (k : ℕ) (c : Connector) → Contains (word_leaves (not right) (get_or (swept right seen xs) k [])) c
    → (d : Connector) × (do_join d c ≡ true) × (Contains seen d ⊎ ((j : ℕ) × (j < k) × Contains (word_leaves right (get_or (swept right seen xs) j [])) d))
served right seen [] k c m = absurd (contains_none c m)
served right seen (ws ∷ rest) zero c m =
    let test = stays right seen in
    let passes = word_leaf_passes test (cut_words test ws) (words_whole test ws) (not right) c m in
    let (d, joins, is) = joined_by right seen c (word_leaf_side (not right) (cut_words test ws) c m) passes in
    (d, joins, inl is)
served right seen (ws ∷ rest) (suc k) c m =
    let kept = cut_words (stays right seen) ws in
    let (d, joins, place) = served right (seen ++ word_leaves right kept) rest k c m in (
      d,
      joins,
      elim place [
        | inl known ↦ elim (Contains-append_cases seen (word_leaves right kept) d known) [
          | inl before ↦ inl before
          | inr here ↦ inr (zero, omega arith, here)
        ]
        | inr (j, before, is) ↦ inr (suc j, omega arith, is)
      ],
    )
