-- Walks through the parts of an expression make one through the whole.
use Rattle.std.proofs.Common.{◌≡◌, ◌∙◌, refl, sym, ap, subst, ℕ, ◌+◌, ◌≤◌, ◌<◌, ℤ, Bool, true, false, not, true≢false, Option, Some, None, List, [], ◌∷◌, ◌++◌, length, get_or, drop, take, map, arith}
use Rattle.std.specs.Option.{option_map}
use Rattle.std.proofs.lemmas.Bool.{and_parts}
use Rattle.std.proofs.lemmas.List.{append_assoc, append-nil, drop_more, drop_all, map-append, take_all, take_more}
use Rattle.lg_gram.specs.Connectors.{Connector}
use Rattle.lg_gram.specs.Linkages.{Linkage}
use Rattle.lg_gram.specs.Measures.{Choice, choices_of, choices_of_any, dearer, no_connectors, picks_of, single}
use Rattle.lg_gram.specs.Trees.{Tree, Trees, no_trees, tree, tree_of, trees_of, trees_in}
use Rattle.lg_gram.specs.declared.expr.Expr.{Expr}
use Rattle.lg_reach.specs.Climbs.{IsFewer, IsWithin, Leaves}
use Rattle.lg_reach.specs.Ends.{EndsSo, alone, HasSite, Keeps, Serves, Suits}
use Rattle.lg_reach.specs.Walks.{Walks, behind_link, nearer_by}
use Rattle.lg_reach.specs.declared.nearest.Stand.{Stand}
use Rattle.lg_reach.specs.declared.site.Sites.{Sites}
use Rattle.lg_reach.specs.declared.walk.Least.{Least}
use Rattle.lg_reach.proofs.Joining.{all_joined, dearer_fewer, dearer_leaves, either, either_fewer, either_leaves, first_none, leaf_after, leaf_leaves, leaf_none, least_on, none_leaves, nothing_leaves, pick_fewer, pick_leaves, second_none, seen_more, IsLoose, no_farther_then}

pub walks_nothing : (s : Sites) (stand : Stand) (start : Least) → Walks s s stand start (no_connectors ∷ []) (Some (no_connectors ∷ [], start))
walks_nothing s stand start = record {
  keeps = λ i c n lone h. h;
  fewer = λ c m. m;
  leaves = λ g suits. nothing_leaves (EndsSo g stand.position) (Serves s g stand.position) start;
}

pub walks_dearer : (old new : Sites) (stand : Stand) (start : Least) (cs : List Choice) (o : Option (List Choice × Least)) (price : ℤ) → Walks old new stand start cs o
    → Walks old new stand start (map (dearer price) cs) (option_map (λ l. (map (dearer price) l.0, l.1)) o)
walks_dearer old new stand start cs o price w = record {
  keeps = w.keeps;
  fewer = dearer_fewer price cs o w.fewer;
  leaves = λ g suits. dearer_leaves (EndsSo g stand.position) (Serves new g stand.position) start price cs o (w.leaves g suits);
}

-- no link can be so long
pub walks_none : (s : Sites) (stand : Stand) (start : Least) (c : Connector)
    → ((g : Linkage) → Suits g stand → (n : ℕ) → EndsSo g stand.position (least_on c.right start).first c n → (least_on c.right start).least ≤ n → ⊥)
    → Walks s s stand start (single c ∷ []) None
walks_none s stand start c far = record {
  keeps = λ i d n lone h. h;
  fewer = tt;
  leaves = λ g suits. leaf_none (EndsSo g stand.position) (Serves s g stand.position) start c (far g suits);
}

-- a site of links of a length serves longer ones
pub site_longer : (s : Sites) (i : ℕ) (c : Connector) (m n : ℕ) (lone : Bool) → HasSite s i c m lone → m ≤ n → HasSite s i c n lone
site_longer s i c m n lone h more = record { site = h.site; here = h.here; connector = h.connector; near = let near = h.near in omega (arith, near, more); only_if = h.only_if }

not_multi : (b : Bool) → not b ≡ true → b ≡ false
not_multi true is = absurd cc
not_multi false is = refl

site_serves : (s : Sites) (g : Linkage) (i : ℕ) (first : Bool) (c : Connector) (m n : ℕ) → HasSite s i c m (alone first c) → EndsSo g i first c n → m ≤ n → Serves s g i c n
site_serves s g i first c m n h ends more = record {
  lone = alone first c;
  site = site_longer s i c m n (alone first c) h more;
  one = λ is. not_multi c.multi (and_parts first (not c.multi) is).1;
  nearest = λ is. ends.nearest (and_parts first (not c.multi) is).0;
}

-- what is not forgotten serves still
pub serves_still : (old new : Sites) (g : Linkage) (i : ℕ) → Keeps old new → (c : Connector) (n : ℕ) → Serves old g i c n → Serves new g i c n
serves_still old new g i keeps c n h = record { lone = h.lone; site = keeps i c n h.lone h.site; one = h.one; nearest = h.nearest }

loose : (g : Linkage) (i : ℕ) → IsLoose (EndsSo g i)
loose g i b c n e = record { ends = e.ends; nearest = λ is. absurd cc }

-- all links are so long at least, and the sites know it
pub walks_leaf : (old new : Sites) (stand : Stand) (start : Least) (c : Connector) (m : ℕ) → Keeps old new → HasSite new stand.position c m (alone (least_on c.right start).first c)
    → ((g : Linkage) → Suits g stand → (n : ℕ) → EndsSo g stand.position (least_on c.right start).first c n → (least_on c.right start).least ≤ n → m ≤ n)
    → Walks old new stand start (single c ∷ []) (Some (single c ∷ [], leaf_after c m start))
walks_leaf old new stand start c m keeps has near = record {
  keeps = keeps;
  fewer = λ d h. h;
  leaves = λ g suits.
      leaf_leaves (EndsSo g stand.position) (Serves new g stand.position) start c m (near g suits) (λ n ends more. site_serves new g stand.position (least_on c.right start).first c m n has ends more);
}

-- the choices with one of each of these members in front
abbrev pub behind : List Tree → List Choice → List Choice
behind [] cs = cs
behind (t ∷ ts) cs = all_joined (choices_of t) (behind ts cs)

behind_push : (ts : List Tree) (t : Tree) (cs : List Choice) → behind (ts ++ t ∷ []) cs ≡ behind ts (all_joined (choices_of t) cs)
behind_push [] t cs = refl
behind_push (u ∷ ts) t cs = ap (all_joined (choices_of u)) (behind_push ts t cs)

behind_nothing : (ts : List Tree) → behind ts (no_connectors ∷ []) ≡ picks_of (trees_of ts)
behind_nothing [] = refl
behind_nothing (t ∷ ts) = ap (all_joined (choices_of t)) (behind_nothing ts)

abbrev pub after_all : List Tree → Option (List Choice × Least) → Option (List Choice × Least)
after_all kept = option_map (λ l. (behind kept l.0, l.1))

-- Of all members these are kept, and what comes of the rest from `least` on is what comes of all behind them.
pub record WalksOn (old now : Sites) (stand : Stand) (start : Least) (all : Trees) (kept : List Tree) (least : Least) (rest : Trees) : Type 0 where
  pub keeps : Keeps old now
  pub fewer : (o : Option (List Choice × Least)) → IsFewer (picks_of rest) o → IsFewer (picks_of all) (after_all kept o)
  pub leaves : (g : Linkage) → Suits g stand → (more : Sites) → Keeps now more → (o : Option (List Choice × Least))
      → Leaves (EndsSo g stand.position) (Serves more g stand.position) least (picks_of rest) o → Leaves (EndsSo g stand.position) (Serves more g stand.position) start (picks_of all) (after_all kept o)

same_after : (o : Option (List Choice × Least)) → o ≡ after_all [] o
same_after None = refl
same_after (Some l) = refl

pub on_start : (s : Sites) (stand : Stand) (start : Least) (all : Trees) → WalksOn s s stand start all [] start all
on_start s stand start all = record {
  keeps = λ i c n lone h. h;
  fewer = λ o h. subst (IsFewer (picks_of all)) (same_after o) h;
  leaves = λ g suits more keeps o h. subst (Leaves (EndsSo g stand.position) (Serves more g stand.position) start (picks_of all)) (same_after o) h;
}

keeps_then : (a b c : Sites) → Keeps a b → Keeps b c → Keeps a c
keeps_then a b c first next i d n lone h = next i d n lone (first i d n lone h)

module _ (old now new : Sites) (stand : Stand) (start least : Least) (all : Trees) (kept : List Tree) (t : Tree) (rest : Trees) (on : WalksOn old now stand start all kept least (tree t rest)) where
  more_fewer : (u : Tree) (next : Least) (w : Walks now new stand least (choices_of t) (Some (choices_of u, next))) (o : Option (List Choice × Least))
      → IsFewer (picks_of rest) o → IsFewer (picks_of all) (after_all (kept ++ u ∷ []) o)
  more_fewer u next w None h = tt
  more_fewer u next w (Some l) h =
      subst (λ cs. IsFewer (picks_of all) (Some (cs, l.1))) (sym (behind_push kept u l.0))
      (on.fewer (Some (all_joined (choices_of u) l.0, l.1)) (pick_fewer (choices_of t) (choices_of u) (picks_of rest) l.0 next l.1 l.1 w.fewer h))

  more_leaves : (u : Tree) (next : Least) (w : Walks now new stand least (choices_of t) (Some (choices_of u, next))) (g : Linkage) → Suits g stand → (more : Sites) → Keeps new more
      → (o : Option (List Choice × Least)) → Leaves (EndsSo g stand.position) (Serves more g stand.position) next (picks_of rest) o
      → Leaves (EndsSo g stand.position) (Serves more g stand.position) start (picks_of all) (after_all (kept ++ u ∷ []) o)
  more_leaves u next w g suits more keeps None h =
      let Ok = EndsSo g stand.position in
      let Seen = Serves more g stand.position in
      on.leaves g suits more (keeps_then now new more w.keeps keeps) None
      (second_none Ok Seen (loose g stand.position) least next (choices_of t) (choices_of u) (picks_of rest)
      (seen_more Ok (Serves new g stand.position) Seen least (choices_of t) (Some (choices_of u, next)) (serves_still new more g stand.position keeps) (w.leaves g suits)) h)
  more_leaves u next w g suits more keeps (Some l) h =
      let Ok = EndsSo g stand.position in
      let Seen = Serves more g stand.position in
      subst (λ cs. Leaves Ok Seen start (picks_of all) (Some (cs, l.1))) (sym (behind_push kept u l.0))
      (on.leaves g suits more (keeps_then now new more w.keeps keeps) (Some (all_joined (choices_of u) l.0, l.1))
      (pick_leaves Ok Seen (loose g stand.position) least next l.1 (choices_of t) (choices_of u) (picks_of rest) l.0
      (seen_more Ok (Serves new g stand.position) Seen least (choices_of t) (Some (choices_of u, next)) (serves_still new more g stand.position keeps) (w.leaves g suits)) h))

  pub on_more : (u : Tree) (next : Least) → Walks now new stand least (choices_of t) (Some (choices_of u, next)) → WalksOn old new stand start all (kept ++ u ∷ []) next rest
  on_more u next w = record {
    keeps = keeps_then old now new on.keeps w.keeps;
    fewer = more_fewer u next w;
    leaves = more_leaves u next w;
  }

  pub on_none : Walks now new stand least (choices_of t) None → Walks old new stand start (picks_of all) None
  on_none w = record {
    keeps = keeps_then old now new on.keeps w.keeps;
    fewer = tt;
    leaves = λ g suits.
        on.leaves g suits new w.keeps None (first_none (EndsSo g stand.position) (Serves new g stand.position) least (choices_of t) (picks_of rest) (w.leaves g suits));
  }

pub on_end : (old now : Sites) (stand : Stand) (start : Least) (all : Trees) (kept : List Tree) (least : Least) → WalksOn old now stand start all kept least no_trees
    → Walks old now stand start (picks_of all) (Some (picks_of (trees_of kept), least))
on_end old now stand start all kept least on = record {
  keeps = on.keeps;
  fewer = subst (λ cs. IsFewer (picks_of all) (Some (cs, least))) (behind_nothing kept) (on.fewer (Some (no_connectors ∷ [], least)) (λ c h. h));
  leaves = λ g suits. subst (λ cs. Leaves (EndsSo g stand.position) (Serves now g stand.position) start (picks_of all) (Some (cs, least))) (behind_nothing kept)
      (on.leaves g suits now (λ i c n lone h. h) (Some (no_connectors ∷ [], least)) (nothing_leaves (EndsSo g stand.position) (Serves now g stand.position) least));
}

-- what was said of the end is said of what lies no farther
nearer_end : (old now : Sites) (stand : Stand) (start : Least) (cs kept : List Choice) (after near : Least) → IsWithin near after → Walks old now stand start cs (Some (kept, after))
    → Walks old now stand start cs (Some (kept, near))
nearer_end old now stand start cs kept after near within w = record {
  keeps = w.keeps;
  fewer = w.fewer;
  leaves = λ g suits.
      let h = w.leaves g suits in
      record {
        stays = h.stays;
        within = λ end c ls rs listed fits.
            let by = h.within end c ls rs listed fits in
            record { left = no_farther_then near.left after.left end.left within.left by.left; right = no_farther_then near.right after.right end.right within.right by.right };
        lefts = h.lefts;
        rights = h.rights;
      };
}

pub walks_link : (old new : Sites) (stand : Stand) (start near : Least) (c : Connector) (m : ℕ) → Keeps old new → HasSite new stand.position c m (alone (least_on c.right start).first c)
    → ((g : Linkage) → Suits g stand → (n : ℕ) → EndsSo g stand.position (least_on c.right start).first c n → (least_on c.right start).least ≤ n → m ≤ n) → IsWithin near (behind_link c m start)
    → Walks old new stand start (single c ∷ []) (Some (single c ∷ [], near))
walks_link old new stand start near c m keeps has far within =
    nearer_end old new stand start (single c ∷ []) (single c ∷ []) (leaf_after c m start) near within (walks_leaf old new stand start c m keeps has far)

-- what is left of either, in the sites of the later
pub walks_either : (old now new : Sites) (stand : Stand) (start : Least) (firsts bs : List Choice) (o p : Option (List Choice × Least)) → Walks old now stand start firsts o → Walks now new stand start bs p
    → Walks old new stand start (firsts ++ bs) (either o p)
walks_either old now new stand start firsts bs o p v w = record {
  keeps = keeps_then old now new v.keeps w.keeps;
  fewer = either_fewer firsts bs o p v.fewer w.fewer;
  leaves = λ g suits.
      let Ok = EndsSo g stand.position in
      let Seen = Serves new g stand.position in
      either_leaves Ok Seen start firsts bs o p (seen_more Ok (Serves now g stand.position) Seen start firsts o (serves_still now new g stand.position w.keeps) (v.leaves g suits)) (w.leaves g suits);
}

-- of the members that were kept so far
abbrev pub so_far : List Expr → Option Least → Option (List Choice × Least)
so_far kept = option_map (λ l. (choices_of_any (trees_in kept), l))

any_push : (es : List Expr) (e : Expr) → choices_of_any (trees_in (es ++ e ∷ [])) ≡ choices_of_any (trees_in es) ++ choices_of (tree_of e)
any_push [] e = append-nil (choices_of (tree_of e))
any_push (x ∷ es) e = ap (λ cs. choices_of (tree_of x) ++ cs) (any_push es e) ∙ sym (append_assoc (choices_of (tree_of x)) (choices_of_any (trees_in es)) (choices_of (tree_of e)))

so_far_more : (kept : List Expr) (least : Option Least) (left : Expr) (next : Least) → (least ≡ None → kept ≡ [])
    → either (so_far kept least) (Some (choices_of (tree_of left), next)) ≡ so_far (kept ++ left ∷ []) (Some (nearer_by least next))
so_far_more kept None left next empty =
    ap (λ cs. Some (cs, next)) (sym (append-nil (choices_of (tree_of left))) ∙ ap (λ es. choices_of_any (trees_in (es ++ left ∷ []))) (sym (empty refl)))
so_far_more kept (Some before) left next empty = ap (λ cs. Some (cs, nearer_by (Some before) next)) (sym (any_push kept left))

so_far_same : (kept : List Expr) (least : Option Least) → either (so_far kept least) None ≡ so_far kept least
so_far_same kept None = refl
so_far_same kept (Some l) = refl

abbrev is_there : Option Least → Bool
is_there None = false
is_there (Some l) = true

-- Of the first members so many are kept; none where there is no end yet.
pub record WalksTo (old now : Sites) (stand : Stand) (start : Least) (first : List Expr) (kept : List Expr) (least : Option Least) : Type 0 where
  pub walks : Walks old now stand start (choices_of_any (trees_in first)) (so_far kept least)
  pub empty : least ≡ None → kept ≡ []

pub to_start : (s : Sites) (stand : Stand) (start : Least) → WalksTo s s stand start [] [] None
to_start s stand start = record {
  walks = record {
    keeps = λ i c n lone h. h;
    fewer = tt;
    leaves = λ g suits. none_leaves (EndsSo g stand.position) (Serves s g stand.position) start;
  };
  empty = λ is. refl;
}

module _ (old now new : Sites) (stand : Stand) (start : Least) (es : List Expr) (i : ℕ) (e : Expr) (within : i < length es) (read : e ≡ get_or es i e) (kept : List Expr) (least : Option Least)
    (to : WalksTo old now stand start (take i es) kept least) where
  one_more : choices_of_any (trees_in (take i es)) ++ choices_of (tree_of e) ≡ choices_of_any (trees_in (take (i + 1) es))
  one_more = sym (any_push (take i es) e) ∙ ap (λ xs. choices_of_any (trees_in xs)) (ap (λ x. take i es ++ x ∷ []) read ∙ sym (take_more es i e within))

  pub to_more : (left : Expr) (next : Least) → Walks now new stand start (choices_of (tree_of e)) (Some (choices_of (tree_of left), next))
      → WalksTo old new stand start (take (i + 1) es) (kept ++ left ∷ []) (Some (nearer_by least next))
  to_more left next w = record {
    walks = subst (Walks old new stand start (choices_of_any (trees_in (take (i + 1) es)))) (so_far_more kept least left next to.empty)
        (subst (λ cs. Walks old new stand start cs (either (so_far kept least) (Some (choices_of (tree_of left), next)))) one_more
        (walks_either old now new stand start (choices_of_any (trees_in (take i es))) (choices_of (tree_of e)) (so_far kept least) (Some (choices_of (tree_of left), next)) to.walks w));
    empty = λ is. absurd (true≢false (ap is_there is));
  }

  pub to_same : Walks now new stand start (choices_of (tree_of e)) None → WalksTo old new stand start (take (i + 1) es) kept least
  to_same w = record {
    walks = subst (Walks old new stand start (choices_of_any (trees_in (take (i + 1) es)))) (so_far_same kept least)
        (subst (λ cs. Walks old new stand start cs (either (so_far kept least) None)) one_more
        (walks_either old now new stand start (choices_of_any (trees_in (take i es))) (choices_of (tree_of e)) (so_far kept least) None to.walks w));
    empty = to.empty;
  }

pub to_end : (old now : Sites) (stand : Stand) (start : Least) (es kept : List Expr) (least : Option Least) (i : ℕ) → length es ≤ i → WalksTo old now stand start (take i es) kept least
    → Walks old now stand start (choices_of_any (trees_in es)) (so_far kept least)
to_end old now stand start es kept least i past to = subst (λ xs. Walks old now stand start (choices_of_any (trees_in xs)) (so_far kept least)) (take_all i es past) to.walks

next_of : (es : List Expr) (i : ℕ) (e : Expr) → i < length es → e ≡ get_or es i e → trees_in (drop i es) ≡ tree (tree_of e) (trees_in (drop (i + 1) es))
next_of es i e within read = ap trees_in (drop_more es i e within) ∙ ap (λ x. tree (tree_of x) (trees_in (drop (i + 1) es))) (sym read)

module _ (old now new : Sites) (stand : Stand) (start least : Least) (all : Trees) (es : List Expr) (i : ℕ) (e : Expr) (within : i < length es) (read : e ≡ get_or es i e) (kept : List Expr)
    (on : WalksOn old now stand start all (map tree_of kept) least (trees_in (drop i es))) where
  here : WalksOn old now stand start all (map tree_of kept) least (tree (tree_of e) (trees_in (drop (i + 1) es)))
  here = subst (WalksOn old now stand start all (map tree_of kept) least) (next_of es i e within read) on

  pub all_more : (left : Expr) (next : Least) → Walks now new stand least (choices_of (tree_of e)) (Some (choices_of (tree_of left), next))
      → WalksOn old new stand start all (map tree_of (kept ++ left ∷ [])) next (trees_in (drop (i + 1) es))
  all_more left next w =
      subst (λ ts. WalksOn old new stand start all ts next (trees_in (drop (i + 1) es))) (sym (map-append tree_of kept (left ∷ [])))
      (on_more old now new stand start least all (map tree_of kept) (tree_of e) (trees_in (drop (i + 1) es)) here (tree_of left) next w)

  pub all_none : Walks now new stand least (choices_of (tree_of e)) None → Walks old new stand start (picks_of all) None
  all_none w = on_none old now new stand start least all (map tree_of kept) (tree_of e) (trees_in (drop (i + 1) es)) here w

pub all_end : (old now : Sites) (stand : Stand) (start least : Least) (all : Trees) (es kept : List Expr) (i : ℕ) → length es ≤ i → WalksOn old now stand start all (map tree_of kept) least (trees_in (drop i es))
    → Walks old now stand start (picks_of all) (Some (picks_of (trees_in kept), least))
all_end old now stand start least all es kept i past on =
    on_end old now stand start all (map tree_of kept) least (subst (λ xs. WalksOn old now stand start all (map tree_of kept) least (trees_in xs)) (drop_all i es past) on)
