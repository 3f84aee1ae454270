-- What holds of each connector of a formula holds of each connector of a choice.
use Rattle.std.proofs.Common.{Bool, true, false, List, [], ◌∷◌, map, inl, inr, Contains, subst, ℤ, pos, if◌then◌else◌}
use Rattle.std.specs.List.{AllByRecursion, flat_map}
use Rattle.lg_base.proofs.Elements.{contains_cases, contains_none}
use Rattle.lg_gram.specs.Connectors.{Connector}
use Rattle.lg_gram.specs.Measures.{Choice, joined, dearer, choices_of, picks_of, choices_of_any}
use Rattle.lg_gram.specs.Trees.{Tree, Trees, empty, leaf, all_of, one_of, priced, no_trees, tree}
use Rattle.lg_expr.proofs.AllOf.{all_append}

pub all_in : {T : Type 0} (P : T → Type 0) (xs : List T) (x : T) → AllByRecursion P xs → Contains xs x → P x
all_in P [] x h m = absurd (contains_none x m)
all_in P (y ∷ xs) x h m =
    elim (contains_cases y xs x m) [
      | inl e ↦ subst P e h.0
      | inr later ↦ all_in P xs x h.1 later
    ]

module _ (P : Connector → Type 0) where
  abbrev mutual
    pub OfTree : Tree → Type 0
    OfTree empty = Unit {0}
    OfTree (leaf c) = P c
    OfTree (all_of ts) = OfTrees ts
    OfTree (one_of ts) = OfTrees ts
    OfTree (priced t price) = OfTree t

    pub OfTrees : Trees → Type 0
    OfTrees no_trees = Unit {0}
    OfTrees (tree t ts) = OfTree t × OfTrees ts

  abbrev pub OfChoice : Choice → Type 0
  OfChoice c = AllByRecursion P c.left × AllByRecursion P c.right

  abbrev pub OfChoices : List Choice → Type 0
  OfChoices cs = AllByRecursion OfChoice cs

  of_single : (c : Connector) (b : Bool) → P c
      → OfChoice (if b then record { left = []; right = c ∷ []; cost = pos 0 } else record { left = c ∷ []; right = []; cost = pos 0 })
  of_single c true h = (tt, (h, tt))
  of_single c false h = ((h, tt), tt)

  of_joined : (a b : Choice) → OfChoice a → OfChoice b → OfChoice (joined a b)
  of_joined a b h k = (all_append P a.left b.left h.0 k.0, all_append P a.right b.right h.1 k.1)

  of_joins : (a : Choice) (cs : List Choice) → OfChoice a → OfChoices cs → OfChoices (map (joined a) cs)
  of_joins a [] h all = tt
  of_joins a (c ∷ cs) h all = (of_joined a c h all.0, of_joins a cs h all.1)

  of_products : (bs cs : List Choice) → OfChoices bs → OfChoices cs → OfChoices (flat_map (λ b. map (joined b) cs) bs)
  of_products [] cs h all = tt
  of_products (b ∷ bs) cs h all = all_append OfChoice (map (joined b) cs) (flat_map (λ x. map (joined x) cs) bs) (of_joins b cs h.0 all) (of_products bs cs h.1 all)

  of_dearer : (price : ℤ) (cs : List Choice) → OfChoices cs → OfChoices (map (dearer price) cs)
  of_dearer price [] all = tt
  of_dearer price (c ∷ cs) all = (all.0, of_dearer price cs all.1)

  mutual
    pub of_choices : (t : Tree) → OfTree t → OfChoices (choices_of t)
    of_choices empty h = ((tt, tt), tt)
    of_choices (leaf c) h = (of_single c c.right h, tt)
    of_choices (all_of ts) h = of_picks ts h
    of_choices (one_of ts) h = of_any ts h
    of_choices (priced t price) h = of_dearer price (choices_of t) (of_choices t h)

    of_picks : (ts : Trees) → OfTrees ts → OfChoices (picks_of ts)
    of_picks no_trees h = ((tt, tt), tt)
    of_picks (tree t ts) h = of_products (choices_of t) (picks_of ts) (of_choices t h.0) (of_picks ts h.1)

    of_any : (ts : Trees) → OfTrees ts → OfChoices (choices_of_any ts)
    of_any no_trees h = tt
    of_any (tree t ts) h = all_append OfChoice (choices_of t) (choices_of_any ts) (of_choices t h.0) (of_any ts h.1)
