-- Parts of linkages in numbers, their order, and what a way makes of two parts.
use Rattle.std.specs.Prelude.{◌≡◌, ℕ, suc, ◌+◌, ◌<◌, ◌≤◌, ◌^◌, List, [], ◌∷◌, ◌++◌, length, take, drop, replicate, ℤ, pos, neg_ℤ, ◌+ℤ◌, ◌≤ℤ◌}
use Rattle.std.specs.Ordering.{nat_cmp, int_cmp, on, then_cmp}
use Rattle.std.specs.declared.cmp.Ordering.{Ordering}
use Rattle.std.specs.Cmp.Lexicographic.{slice_cmp}
use Rattle.lg_gram.specs.Linkages.{tie_cmp}
use Rattle.lg_gram.specs.declared.linkage.Link.{Link}
use Rattle.lg_rank.specs.Trees.{choices_from, links_of, with_link}
use Rattle.lg_rank.specs.declared.part.Part.{Part}
use Rattle.lg_rank.specs.declared.part.Way.{Way}

-- A part of a linkage: the sum of its costs, the sum of the lengths of its links, for each position 0 or one more than the number
-- of its disjunct, and the links.
pub record Value : Type 0 where
  pub cost : ℤ
  pub span : ℕ
  pub choices : List ℕ
  pub links : List Link

abbrev pub value_of : Part → Value
value_of p = record { cost = p.cost; span = p.span; choices = choices_from p.tree.value 0 p.positions; links = links_of p.tree.value }

-- the order of parts of one region, which have the same number of unlinked positions
abbrev pub value_cmp : Value → Value → Ordering
value_cmp = then_cmp (on (λ v. v.cost) int_cmp)
    (then_cmp (on (λ v. v.span) nat_cmp)
    (then_cmp (on (λ v. v.choices) (slice_cmp nat_cmp))
    (on (λ v. v.links) (slice_cmp tie_cmp))))

-- no position is linked
abbrev pub nothing_of : ℕ → Value
nothing_of n = record { cost = pos 0; span = 0; choices = replicate n 0; links = [] }

-- What a way makes of a part on its left and a part on its right.
abbrev pub combine : Way → Value → Value → Value
combine w x y = record {
  cost = w.cost +ℤ (x.cost +ℤ y.cost);
  span = w.span + (x.span + y.span);
  choices = take w.word x.choices ++ w.choice ∷ drop (suc w.word) y.choices;
  links = with_link w.near x.links ++ with_link w.far y.links;
}

-- its cost and its length are far from the ends of their types, and it has a choice for each of n positions
pub record IsSmall (n : ℕ) (v : Value) : Type 0 where
  pub above : neg_ℤ (pos (2 ^ 60)) ≤ℤ v.cost
  pub below : v.cost ≤ℤ pos (2 ^ 60)
  pub span : v.span ≤ 2 ^ 60
  pub long : length v.choices ≡ n

pub record IsSmallWay (n : ℕ) (w : Way) : Type 0 where
  pub above : neg_ℤ (pos (2 ^ 60)) ≤ℤ w.cost
  pub below : w.cost ≤ℤ pos (2 ^ 60)
  pub span : w.span ≤ 2 ^ 60
  pub word : w.word < n
