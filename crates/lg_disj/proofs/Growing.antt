-- Listed choices stand for the same where leaves are added, and for more where choices are.
use Rattle.std.proofs.Common.{◌≡◌, ℕ, ◌+◌, ◌<◌, true, false, ℤ, ◌+ℤ◌, List, [], ◌∷◌, ◌++◌, length, map, get_or, take, drop, refl, sym, ap, ap₂, subst, ◌∙◌, arith, append_assoc, append-nil, length-append}
use Rattle.std.specs.List.{All}
use Rattle.std.proofs.Math.ListN.{get_or-append}
use Rattle.std.proofs.Math.Seq.{take-append_seam, drop-append_seam}
use Rattle.std.proofs.lemmas.Int.{ints}
use Rattle.std.proofs.lemmas.List.{map-append}
use Rattle.std.proofs.lemmas.List.Elements.{All-nil, All-cons, All-append, All-map, All-head, All-tail, All-weaker}
use Rattle.lg_gram.specs.Connectors.{Connector}
use Rattle.lg_gram.specs.declared.expr.Expr.{Expr}
use Rattle.lg_gram.specs.Trees.{Tree, priced, tree_of, trees_in}
use Rattle.lg_gram.specs.Measures.{Choice, no_connectors, joined, dearer, choices_of, picks_of, choices_of_any}
use Rattle.lg_disj.proofs.Products.{picks_push, any_push}
use Rattle.lg_disj.specs.Choices.{IsOn, IsSided, HasSmallCost, products}
use Rattle.lg_disj.specs.Grown.{IsPlaced, StandFor, Grows, Lists}
use Rattle.lg_disj.specs.Places.{Places, no_places, only_cost, both, all_both, raised, IsCheap, leaf_at, choice_by}
use Rattle.lg_disj.proofs.Parts.{from_map}
use Rattle.lg_disj.proofs.Sided.{products_sided, dearer_sided}

pub grows_no : (leaves : List Connector) → Grows leaves leaves
grows_no leaves = record { more = []; grown = sym (append-nil leaves) }

pub grows_twice : (a b c : List Connector) → Grows a b → Grows b c → Grows a c
grows_twice a b c p q = record { more = p.more ++ q.more; grown = q.grown ∙ ap (λ xs. xs ++ q.more) p.grown ∙ append_assoc a p.more q.more }

same_leaves : (leaves more : List Connector) (ns : List ℕ) → All (λ n. n < length leaves) ns → map (leaf_at (leaves ++ more)) ns ≡ map (leaf_at leaves) ns
same_leaves leaves more [] h = refl
same_leaves leaves more (n ∷ ns) h =
    let P : ℕ → Type 0 = λ m. m < length leaves in
    let first = get_or-append leaves more _ n (All-head P n ns h) in
    let others = same_leaves leaves more ns (All-tail P n ns h) in
    λ i. first i ∷ others i

same_choices : (leaves more : List Connector) (ps : List Places) → All (IsPlaced leaves) ps → map (choice_by (leaves ++ more)) ps ≡ map (choice_by leaves) ps
same_choices leaves more [] h = refl
same_choices leaves more (p ∷ ps) h =
    let one = All-head (IsPlaced leaves) p ps h in
    let left = same_leaves leaves more p.left one.left in
    let right = same_leaves leaves more p.right one.right in
    let others = same_choices leaves more ps (All-tail (IsPlaced leaves) p ps h) in
    λ i. record { left = left i; right = right i; cost = p.cost } ∷ others i

placed_more : (leaves more : List Connector) (p : Places) → IsPlaced leaves p → IsPlaced (leaves ++ more) p
placed_more leaves more p h =
    let P : ℕ → Type 0 = λ n. n < length leaves in
    let Q : ℕ → Type 0 = λ n. n < length (leaves ++ more) in
    record {
      left = All-weaker P Q (λ n h. omega (arith, h, length-append leaves more)) p.left h.left;
      right = All-weaker P Q (λ n h. omega (arith, h, length-append leaves more)) p.right h.right;
    }

-- more leaves
pub stand_grown : (old new : List Connector) (ps : List Places) (cs : List Choice) → Grows old new → StandFor old ps cs → StandFor new ps cs
stand_grown old new ps cs grows h = subst (λ xs. StandFor xs ps cs) (sym grows.grown) (record {
  told = same_choices old grows.more ps h.placed ∙ h.told;
  placed = All-weaker (IsPlaced old) (IsPlaced (old ++ grows.more)) (placed_more old grows.more) ps h.placed;
  sided = h.sided;
})

pub stand_append : (leaves : List Connector) (ps qs : List Places) (cs ds : List Choice) → StandFor leaves ps cs → StandFor leaves qs ds → StandFor leaves (ps ++ qs) (cs ++ ds)
stand_append leaves ps qs cs ds p q = record {
  told = map-append (choice_by leaves) ps qs ∙ ap₂ (λ xs ys. xs ++ ys) p.told q.told;
  placed = All-append (IsPlaced leaves) ps qs p.placed q.placed;
  sided = All-append IsSided cs ds p.sided q.sided;
}

both_told : (leaves : List Connector) (a b : Places) → choice_by leaves (both a b) ≡ joined (choice_by leaves a) (choice_by leaves b)
both_told leaves a b = λ i. record { left = map-append (leaf_at leaves) a.left b.left i; right = map-append (leaf_at leaves) a.right b.right i; cost = a.cost +ℤ b.cost }

all_both_told : (leaves : List Connector) (a : Places) (qs : List Places) → map (choice_by leaves) (map (both a) qs) ≡ map (joined (choice_by leaves a)) (map (choice_by leaves) qs)
all_both_told leaves a [] = refl
all_both_told leaves a (b ∷ qs) = λ i. both_told leaves a b i ∷ all_both_told leaves a qs i

products_told : (leaves : List Connector) (ps qs : List Places) → map (choice_by leaves) (all_both ps qs) ≡ products (map (choice_by leaves) ps) (map (choice_by leaves) qs)
products_told leaves [] qs = refl
products_told leaves (a ∷ ps) qs =
    map-append (choice_by leaves) (map (both a) qs) (all_both ps qs) ∙ (λ i. all_both_told leaves a qs i ++ products_told leaves ps qs i)

both_placed : (leaves : List Connector) (a b : Places) → IsPlaced leaves a → IsPlaced leaves b → IsPlaced leaves (both a b)
both_placed leaves a b p q = record {
  left = All-append (λ n. n < length leaves) a.left b.left p.left q.left;
  right = All-append (λ n. n < length leaves) a.right b.right p.right q.right;
}

products_placed : (leaves : List Connector) (ps qs : List Places) → All (IsPlaced leaves) ps → All (IsPlaced leaves) qs → All (IsPlaced leaves) (all_both ps qs)
products_placed leaves [] qs p q = All-nil (IsPlaced leaves)
products_placed leaves (a ∷ ps) qs p q =
    All-append (IsPlaced leaves) (map (both a) qs) (all_both ps qs)
    (All-map (IsPlaced leaves) (both a) qs (All-weaker (IsPlaced leaves) (λ b. IsPlaced leaves (both a b)) (λ b h. both_placed leaves a b (All-head (IsPlaced leaves) a ps p) h) qs q))
    (products_placed leaves ps qs (All-tail (IsPlaced leaves) a ps p) q)

pub stand_products : (leaves : List Connector) (ps qs : List Places) (cs ds : List Choice) → StandFor leaves ps cs → StandFor leaves qs ds →
    StandFor leaves (all_both ps qs) (products cs ds)
stand_products leaves ps qs cs ds p q = record {
  told = products_told leaves ps qs ∙ ap₂ products p.told q.told;
  placed = products_placed leaves ps qs p.placed q.placed;
  sided = products_sided cs ds p.sided q.sided;
}

raised_told : (leaves : List Connector) (price : ℤ) (ps : List Places) → map (choice_by leaves) (map (raised price) ps) ≡ map (dearer price) (map (choice_by leaves) ps)
raised_told leaves price [] = refl
raised_told leaves price (p ∷ ps) = ap (λ cs. dearer price (choice_by leaves p) ∷ cs) (raised_told leaves price ps)

raised_placed : (leaves : List Connector) (price : ℤ) (ps : List Places) → All (IsPlaced leaves) ps → All (IsPlaced leaves) (map (raised price) ps)
raised_placed leaves price ps h =
    All-map (IsPlaced leaves) (raised price) ps (All-weaker (IsPlaced leaves) (λ p. IsPlaced leaves (raised price p)) (λ p h. record { left = h.left; right = h.right }) ps h)

pub stand_raised : (leaves : List Connector) (price : ℤ) (ps : List Places) (cs : List Choice) → StandFor leaves ps cs → StandFor leaves (map (raised price) ps) (map (dearer price) cs)
stand_raised leaves price ps cs h = record {
  told = raised_told leaves price ps ∙ ap (map (dearer price)) h.told;
  placed = raised_placed leaves price ps h.placed;
  sided = dearer_sided price cs h.sided;
}

pub stand_none : (leaves : List Connector) → StandFor leaves (no_places ∷ []) (no_connectors ∷ [])
stand_none leaves = record {
  told = refl;
  placed = All-cons (IsPlaced leaves) no_places [] (record { left = All-nil (λ n. n < length leaves); right = All-nil (λ n. n < length leaves) }) (All-nil (IsPlaced leaves));
  sided = All-cons IsSided no_connectors [] (record { left = All-nil (IsOn false); right = All-nil (IsOn true) }) (All-nil IsSided);
}

cost_turned : (x y : ℤ) → x +ℤ y ≡ y +ℤ x
cost_turned x y = omega (arith, ints)

-- a second choice of no connector is a price alone
bare_both : (p : ℤ) (ps : List Places) → map (raised p) ps ≡ all_both ps (only_cost p ∷ [])
bare_both p [] = refl
bare_both p (a ∷ ps) = λ i. record { left = sym (append-nil a.left) i; right = sym (append-nil a.right) i; cost = a.cost +ℤ p } ∷ bare_both p ps i

pub with_bare : (ps qs : List Places) (p : ℤ) → p ≡ (get_or qs 0 no_places).cost → qs ≡ only_cost (get_or qs 0 no_places).cost ∷ [] → map (raised p) ps ≡ all_both ps qs
with_bare ps qs p same is = bare_both p ps ∙ ap (λ c. all_both ps (only_cost c ∷ [])) same ∙ ap (all_both ps) (sym is)

-- and so is a first one
both_bare : (p : ℤ) (qs : List Places) → map (raised p) qs ≡ map (both (only_cost p)) qs
both_bare p [] = refl
both_bare p (b ∷ qs) = λ i. record { left = b.left; right = b.right; cost = cost_turned b.cost p i } ∷ both_bare p qs i

pub after_bare : (ps qs : List Places) (p : ℤ) → p ≡ (get_or ps 0 no_places).cost → ps ≡ only_cost (get_or ps 0 no_places).cost ∷ [] → map (raised p) qs ≡ all_both ps qs
after_bare ps qs p same is =
    both_bare p qs ∙ sym (append-nil (map (both (only_cost p)) qs)) ∙ ap (λ c. all_both (only_cost c ∷ []) qs) same ∙ ap (λ ps. all_both ps qs) (sym is)

pub cheap_listed : (leaves : List Connector) (ps : List Places) (cs : List Choice) → map (choice_by leaves) ps ≡ cs → All HasSmallCost cs → All IsCheap ps
cheap_listed leaves ps cs told small = from_map HasSmallCost (choice_by leaves) ps (subst (All HasSmallCost) (sym told) small)

pub lists_no : (leaves : List Connector) (old : List Places) → Lists leaves old old []
lists_no leaves old = record {
  fresh = [];
  added = sym (append-nil old);
  stand = record { told = refl; placed = All-nil (IsPlaced leaves); sided = All-nil IsSided };
}

pub lists_more : (a b : List Connector) (old mid new : List Places) (cs ds : List Choice) → Grows a b → Lists a old mid cs → Lists b mid new ds → Lists b old new (cs ++ ds)
lists_more a b old mid new cs ds grows p q = record {
  fresh = p.fresh ++ q.fresh;
  added = q.added ∙ ap (λ ps. ps ++ q.fresh) p.added ∙ append_assoc old p.fresh q.fresh;
  stand = stand_append b p.fresh q.fresh cs ds (stand_grown a b p.fresh cs grows p.stand) q.stand;
}

pub fresh_stand : (leaves : List Connector) (old new : List Places) (cs : List Choice) → old ≡ [] → Lists leaves old new cs → StandFor leaves new cs
fresh_stand leaves old new cs none h = subst (λ ps. StandFor leaves ps cs) (sym (h.added ∙ ap (λ ps. ps ++ h.fresh) none)) h.stand

-- the choices that came have got a price
lists_raised : (leaves : List Connector) (old mid new : List Places) (price : ℤ) (cs : List Choice) → Lists leaves old mid cs →
    new ≡ take (length old) mid ++ map (raised price) (drop (length old) mid) → Lists leaves old new (map (dearer price) cs)
lists_raised leaves old mid new price cs h is = record {
  fresh = map (raised price) h.fresh;
  added = is ∙ (λ i. take (length old) (h.added i) ++ map (raised price) (drop (length old) (h.added i)))
      ∙ ap₂ (λ xs ys. xs ++ map (raised price) ys) (take-append_seam old h.fresh) (drop-append_seam old h.fresh);
  stand = stand_raised leaves price h.fresh cs h.stand;
}

pub lists_priced : (leaves : List Connector) (old mid new : List Places) (price : ℤ) (t : Tree) (e inner : Expr) (first : ℕ) → t ≡ priced (tree_of inner) price → e ≡ inner →
    first ≡ length old → Lists leaves old mid (choices_of (tree_of e)) → new ≡ take first mid ++ map (raised price) (drop first mid) → Lists leaves old new (choices_of t)
lists_priced leaves old mid new price t e inner first is same at h added =
    subst (λ t. Lists leaves old new (choices_of t)) (sym is)
    (lists_raised leaves old mid new price (choices_of (tree_of inner)) (subst (λ e. Lists leaves old mid (choices_of (tree_of e))) same h)
    (added ∙ ap (λ n. take n mid ++ map (raised price) (drop n mid)) at))

-- one more member
pub any_more : (a b : List Connector) (old mid new : List Places) (es : List Expr) (i : ℕ) (e : Expr) → Grows a b → Lists a old mid (choices_of_any (trees_in (take i es))) →
    Lists b mid new (choices_of (tree_of e)) → take i es ++ e ∷ [] ≡ take (i + 1) es → Lists b old new (choices_of_any (trees_in (take (i + 1) es)))
any_more a b old mid new es i e grows p q more =
    subst (λ cs. Lists b old new cs) (sym (any_push (take i es) e) ∙ ap (λ xs. choices_of_any (trees_in xs)) more)
    (lists_more a b old mid new (choices_of_any (trees_in (take i es))) (choices_of (tree_of e)) grows p q)

pub picks_more : (a b : List Connector) (all next new : List Places) (es : List Expr) (i : ℕ) (e : Expr) → Grows a b → StandFor a all (picks_of (trees_in (take i es))) →
    StandFor b next (choices_of (tree_of e)) → new ≡ all_both all next → take i es ++ e ∷ [] ≡ take (i + 1) es → StandFor b new (picks_of (trees_in (take (i + 1) es)))
picks_more a b all next new es i e grows p q is more =
    subst (λ ps. StandFor b ps (picks_of (trees_in (take (i + 1) es)))) (sym is)
    (subst (λ cs. StandFor b (all_both all next) cs) (sym (picks_push (take i es) e) ∙ ap (λ xs. picks_of (trees_in xs)) more)
    (stand_products b all next (picks_of (trees_in (take i es))) (choices_of (tree_of e)) (stand_grown a b all (picks_of (trees_in (take i es))) grows p) q))

pub stand_itself : (leaves s : List Connector) (ps : List Places) (cs : List Choice) → s ≡ leaves → StandFor leaves ps cs → StandFor s ps (map (choice_by s) ps)
stand_itself leaves s ps cs same h = subst (λ s. StandFor s ps (map (choice_by s) ps)) (sym same) (record {
  told = refl;
  placed = h.placed;
  sided = subst (All IsSided) (sym h.told) h.sided;
})

pub fresh_cheap : (leaves : List Connector) (old mid : List Places) (cs : List Choice) (first : ℕ) → first ≡ length old → Lists leaves old mid cs → All HasSmallCost cs → All IsCheap (drop first mid)
fresh_cheap leaves old mid cs first at h small =
    subst (All IsCheap) (sym (ap₂ drop at h.added ∙ drop-append_seam old h.fresh)) (cheap_listed leaves h.fresh cs h.stand.told small)
