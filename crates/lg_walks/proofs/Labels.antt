-- Labels that tell which positions a walk joins.
use Rattle.std.proofs.Common.{◌≡◌, ◌≢◌, ℕ, ◌<◌, ◌≤◌, cond, eqb, List, [], ◌∷◌, ◌++◌, length, length-set, get_or, set, refl, sym, ◌∙◌, ap, subst, inl, inr, ◌⊎◌, ◌↔◌, All, Contains, arith}
use Rattle.std.proofs.lemmas.Bool.{cases_eq}
use Rattle.std.proofs.lemmas.Bool.Decides.{nat_tests}
use Rattle.std.proofs.lemmas.List.{get_or-set_same, get_or-set_other}
use Rattle.std.proofs.lemmas.List.Elements.{Contains-append_left, Contains-push, Contains-push_cases, All-contains}
use Rattle.lg_gram.specs.Walks.{Walk, LinkFrom}
use Rattle.lg_gram.specs.Walks.Walk.{stay, forth, back}
use Rattle.lg_gram.specs.declared.linkage.Link.{Link}
use Rattle.lg_walks.specs.Islands.{IsWithin, IsJoined, GoDown, LeadTo, Turns, Merges}

walk_then : (E : ℕ → ℕ → Type 0) (a b c : ℕ) → Walk E a b → Walk E b c → Walk E a c
walk_then E a b c (stay i) v = v
walk_then E a b c (forth i k j e w) v = forth i k c e (walk_then E k j c w v)
walk_then E a b c (back i k j e w) v = back i k c e (walk_then E k j c w v)

walk_back : (E : ℕ → ℕ → Type 0) (a b : ℕ) → Walk E a b → Walk E b a
walk_back E a b (stay i) = stay i
walk_back E a b (forth i k j e w) = walk_then E j k i (walk_back E k j w) (back k i i e (stay i))
walk_back E a b (back i k j e w) = walk_then E j k i (walk_back E k j w) (forth k i i e (stay i))

-- what is the same at both ends of each edge is the same at both ends of a walk
walk_label : (E : ℕ → ℕ → Type 0) (f : ℕ → ℕ) → ((a b : ℕ) → E a b → f a ≡ f b) → (a b : ℕ) → Walk E a b → f a ≡ f b
walk_label E f ends a b (stay i) = refl
walk_label E f ends a b (forth i k j e w) = ends i k e ∙ walk_label E f ends k j w
walk_label E f ends a b (back i k j e w) = sym (ends k i e) ∙ walk_label E f ends k j w

wider : (xs : List Link) (l : Link) (a b : ℕ) → IsJoined xs a b → IsJoined (xs ++ l ∷ []) a b
wider xs l a b (stay i) = stay i
wider xs l a b (forth i k j e w) = forth i k j (e.0, Contains-append_left xs (l ∷ []) e.0 e.1, e.2, e.3) (wider xs l k j w)
wider xs l a b (back i k j e w) = back i k j (e.0, Contains-append_left xs (l ∷ []) e.0 e.1, e.2, e.3) (wider xs l k j w)

joined_by : (xs : List Link) (l : Link) → IsJoined (xs ++ l ∷ []) l.left l.right
joined_by xs l = forth l.left l.right l.right (l, Contains-push xs l, refl, refl) (stay l.right)

-- one more link, by whose ends u and v the labels f before it turn into the labels g after it
module _ (xs : List Link) (l : Link) (n : ℕ) (f g : ℕ → ℕ) (u v : ℕ) (u_in : u < n) (v_in : v < n) (joined : IsJoined (xs ++ l ∷ []) u v) (turns : Turns n f u v g) where
  step_cases : (k : ℕ) → k < n → ((f k ≡ f u) × (g k ≡ f v)) ⊎ (g k ≡ f k)
  step_cases k h = elim (cases_eq (f k) (f u)) [ inl same ↦ inl (same, turns.turned k h same) | inr apart ↦ inr (turns.kept k h apart) ]

  u_end : g u ≡ f v
  u_end = turns.turned u u_in refl

  v_end : g v ≡ f v
  v_end = elim (step_cases v v_in) [ inl both ↦ both.1 | inr same ↦ same ]

  pub ends_meet : g u ≡ g v
  ends_meet = u_end ∙ sym v_end

  abbrev pub Same : Type 0
  Same = (a b : ℕ) → a < n → b < n → f a ≡ f b → IsJoined xs a b

  -- each of two positions had the label of u, or keeps its label
  same_cases : Same → (a b : ℕ) → a < n → b < n → g a ≡ g b → ((f a ≡ f u) × (g a ≡ f v)) ⊎ (g a ≡ f a) → ((f b ≡ f u) × (g b ≡ f v)) ⊎ (g b ≡ f b) → IsJoined (xs ++ l ∷ []) a b
  same_cases same a b p q e (inl x) (inl y) = wider xs l a b (same a b p q (x.0 ∙ sym y.0))
  same_cases same a b p q e (inl x) (inr y) =
      let E = LinkFrom (Contains (xs ++ l ∷ [])) in
      walk_then E a u b (wider xs l a u (same a u p u_in x.0)) (walk_then E u v b joined (wider xs l v b (same v b v_in q (cc))))
  same_cases same a b p q e (inr x) (inl y) =
      let E = LinkFrom (Contains (xs ++ l ∷ [])) in
      walk_then E a v b (wider xs l a v (same a v p v_in (cc))) (walk_then E v u b (walk_back E u v joined) (wider xs l u b (same u b u_in q (sym y.0))))
  same_cases same a b p q e (inr x) (inr y) = wider xs l a b (same a b p q (cc))

  pub same_more : Same → (a b : ℕ) → a < n → b < n → g a ≡ g b → IsJoined (xs ++ l ∷ []) a b
  same_more same a b p q e = same_cases same a b p q e (step_cases a p) (step_cases b q)

  -- what had one label has one label
  stay_one : (a b : ℕ) → a < n → b < n → f a ≡ f b → g a ≡ g b
  stay_one a b p q e = elim (cases_eq (f a) (f u)) [
    | inl same ↦ turns.turned a p same ∙ sym (turns.turned b q (sym e ∙ same))
    | inr apart ↦ turns.kept a p apart ∙ e ∙ sym (turns.kept b q (λ same. apart (e ∙ same)))
  ]

  ends_cases : All (IsWithin n) xs → ((a b : ℕ) → LinkFrom (Contains xs) a b → f a ≡ f b) → g l.left ≡ g l.right → (k : Link) → Contains xs k ⊎ (l ≡ k) → g k.left ≡ g k.right
  ends_cases all ends here k (inl has) =
      let r = All-contains (IsWithin n) xs k all has in
      stay_one k.left k.right r.0 r.1 (ends k.left k.right (k, has, refl, refl))
  ends_cases all ends here k (inr same) = subst (λ z. g z.left ≡ g z.right) same here

  pub ends_more : All (IsWithin n) xs → ((a b : ℕ) → LinkFrom (Contains xs) a b → f a ≡ f b) → g l.left ≡ g l.right → (a b : ℕ) → LinkFrom (Contains (xs ++ l ∷ [])) a b → g a ≡ g b
  ends_more all ends here a b h = ap g (sym h.2) ∙ ends_cases all ends here h.0 (Contains-push_cases xs l h.0 h.1) ∙ ap g h.3

-- what labels tell of the links so far, through their roots
pub record TellSoFar (xs : List Link) (labels : List ℕ) : Type 0 where
  pub roots : ℕ → ℕ
  pub lead : LeadTo labels roots
  pub down : GoDown labels
  pub same : (a b : ℕ) → a < length labels → b < length labels → roots a ≡ roots b → IsJoined xs a b
  pub ends : (a b : ℕ) → LinkFrom (Contains xs) a b → roots a ≡ roots b

-- one more link
pub tell_more : (xs : List Link) (l : Link) (old new : List ℕ) → All (IsWithin (length old)) xs → IsWithin (length old) l → length new ≡ length old → TellSoFar xs old → Merges old l.left l.right new → TellSoFar (xs ++ l ∷ []) new
tell_more xs l old new all within long so merges =
    let n = length old in
    let f = so.roots in
    let m = merges.roots f so.lead in
    let g = m.0 in
    let ahead = joined_by xs l in
    let E = LinkFrom (Contains (xs ++ l ∷ [])) in
    let back = walk_back E l.left l.right ahead in
    elim m.2 [
      | inl t ↦ record {
        roots = g;
        lead = m.1;
        down = merges.down;
        same = λ a b p q. same_more xs l n f g l.left l.right within.0 within.1 ahead t so.same a b (omega arith) (omega arith);
        ends = ends_more xs l n f g l.left l.right within.0 within.1 ahead t all so.ends (ends_meet xs l n f g l.left l.right within.0 within.1 ahead t);
      }
      | inr t ↦ record {
        roots = g;
        lead = m.1;
        down = merges.down;
        same = λ a b p q. same_more xs l n f g l.right l.left within.1 within.0 back t so.same a b (omega arith) (omega arith);
        ends = ends_more xs l n f g l.right l.left within.1 within.0 back t all so.ends (sym (ends_meet xs l n f g l.right l.left within.1 within.0 back t));
      }
    ]

-- labels that are the same at both ends of each link, and only where a walk joins, tell the walks
pub labels_tell : (links : List Link) (n : ℕ) (f : ℕ → ℕ) → ((a b : ℕ) → a < n → b < n → f a ≡ f b → IsJoined links a b) → ((a b : ℕ) → LinkFrom (Contains links) a b → f a ≡ f b) →
    (a b : ℕ) → a < n → b < n → (f a ≡ f b) ↔ IsJoined links a b
labels_tell links n f same ends a b p q = (same a b p q, walk_label (LinkFrom (Contains links)) f ends a b)

-- before any link, each position has its own label
pub tell_none : (labels : List ℕ) → ((k : ℕ) → k < length labels → get_or labels k 0 ≡ k) → TellSoFar [] labels
tell_none labels own = record {
  roots = λ k. k;
  lead = record { same = own; own = λ k less e. refl };
  down = λ k less. let e = own k less in omega arith;
  same = λ a b p q e. subst (λ z. IsJoined [] a z) e (stay a);
  ends = λ a b h. absurd (omega (arith, h.1.1));
}

-- a root gets another root for its label that is not after it
module _ (old : List ℕ) (down : GoDown old) (hi lo : ℕ) (under : lo ≤ hi) (hi_in : hi < length old) (lo_in : lo < length old) (hi_own : get_or old hi 0 ≡ hi) (lo_own : get_or old lo 0 ≡ lo) where
  at_hi : get_or (set old hi lo) hi 0 ≡ lo
  at_hi = get_or-set_same old hi lo 0 hi_in

  at_other : (k : ℕ) → k ≢ hi → get_or (set old hi lo) k 0 ≡ get_or old k 0
  at_other k apart = get_or-set_other old hi k lo 0 apart

  set_down : GoDown (set old hi lo)
  set_down k less = elim (cases_eq k hi) [
    | inl same ↦ rw (same, at_hi) under
    | inr apart ↦ rw (at_other k apart) (down k (let e = length-set old hi lo in omega arith))
  ]

  module _ (before : ℕ → ℕ) (lead : LeadTo old before) where
    abbrev after : ℕ → ℕ
    after k = cond (eqb (before k) hi) lo (before k)

    after_is : (k : ℕ) → ((before k ≡ hi) × (after k ≡ lo)) ⊎ ((before k ≢ hi) × (after k ≡ before k))
    after_is k = elim (cases_eq (before k) hi) [ inl same ↦ inl (same, grind (arith, nat_tests)) | inr apart ↦ inr (apart, grind (arith, nat_tests)) ]

    after_lo : after lo ≡ lo
    after_lo = elim (after_is lo) [ inl h ↦ h.1 | inr h ↦ h.1 ∙ lead.own lo lo_in lo_own ]

    after_hi : after hi ≡ lo
    after_hi = elim (after_is hi) [ inl h ↦ h.1 | inr h ↦ absurd (h.0 (lead.own hi hi_in hi_own)) ]

    set_leads : LeadTo (set old hi lo) after
    set_leads = record {
      same = λ k less. elim (cases_eq k hi) [
        | inl same ↦ rw (same, at_hi) (after_lo ∙ sym after_hi)
        | inr apart ↦ rw (at_other k apart) (ap (λ r. cond (eqb r hi) lo r) (lead.same k (let h = length-set old hi lo in omega arith)))
      ];
      own = λ k less itself. elim (cases_eq k hi) [
        | inl same ↦ let e : get_or (set old hi lo) hi 0 ≡ hi = rw same at itself in let d : lo ≡ hi = sym at_hi ∙ e in rw same (after_hi ∙ d)
        | inr apart ↦
            let e = lead.own k (let h = length-set old hi lo in omega arith) (sym (at_other k apart) ∙ itself) in
            elim (after_is k) [ inl h ↦ absurd (apart (sym e ∙ h.0)) | inr h ↦ h.1 ∙ e ]
      ];
    }

    set_turns : (u v : ℕ) → hi ≡ before u → lo ≡ before v → Turns (length old) before u v after
    set_turns u v is_u is_v = record {
      turned = λ k less same. elim (after_is k) [ inl h ↦ h.1 ∙ is_v | inr h ↦ absurd (h.0 (same ∙ sym is_u)) ];
      kept = λ k less apart. elim (after_is k) [ inl h ↦ absurd (apart (h.0 ∙ is_u)) | inr h ↦ h.1 ];
    }

  module _ (a b : ℕ) where
    pub merged_back : ((roots : ℕ → ℕ) → LeadTo old roots → hi ≡ roots a) → ((roots : ℕ → ℕ) → LeadTo old roots → lo ≡ roots b) → Merges old a b (set old hi lo)
    merged_back of_a of_b = record { down = set_down; roots = λ f lead. (after f lead, set_leads f lead, inl (set_turns f lead a b (of_a f lead) (of_b f lead))) }

    pub merged_forth : ((roots : ℕ → ℕ) → LeadTo old roots → lo ≡ roots a) → ((roots : ℕ → ℕ) → LeadTo old roots → hi ≡ roots b) → Merges old a b (set old hi lo)
    merged_forth of_a of_b = record { down = set_down; roots = λ f lead. (after f lead, set_leads f lead, inr (set_turns f lead b a (of_b f lead) (of_a f lead))) }
