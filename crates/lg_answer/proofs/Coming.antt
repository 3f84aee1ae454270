-- How far a listing has come: what it has come past are the first candidates, and how it goes on.
use Rattle.std.proofs.Common.{◌≡◌, ◌⊎◌, ◌↔◌, ℕ, ◌+◌, ◌-◌, ◌<◌, ◌≤◌, Bool, true, false, List, [], ◌∷◌, ◌++◌, length, Some, inl, inr, refl, sym, ap, ◌∙◌, subst, arith, append_assoc, append-nil, length-append, Less}
use Rattle.std.specs.Prelude.{slice_get, Option, None, is_some, ◌||◌}
use Rattle.std.specs.Cmp.{nat_cmp_is}
use Rattle.std.specs.Ordering.{nat_cmp, int_cmp, on, then_cmp, ordering_then}
use Rattle.std.specs.Option.{option_cmp}
use Rattle.std.specs.Cmp.Lexicographic.{slice_cmp}
use Rattle.std.proofs.lemmas.Bool.{cases_lt}
use Rattle.std.proofs.lemmas.List.{length_push}
use Rattle.std.proofs.lemmas.List.Elements.{Contains-push, Contains-push_cases, Contains-append_left}
use Rattle.std.proofs.lemmas.Option.{slice_get_within}
use Rattle.lg_gram.specs.Disjuncts.{disjunct_cmp}
use Rattle.lg_gram.specs.Linkages.{Linkage, linkage_cmp, unlinked, total_cost, total_length, tie_cmp}
use Rattle.lg_gram.specs.Rules.{Good}
use Rattle.lg_gram.specs.declared.disjunct.Disjunct.{Disjunct}
use Rattle.lg_region.specs.Parts.{UnderWhole}
use Rattle.lg_knowread.specs.declared.knowledge.Knowledge.{Knowledge}
use Rattle.lg_rank.specs.Fronts.{IsFront, IsAll, IsIn, IsNext, AllBefore}
use Rattle.lg_rank.specs.Rankings.{given, passed_over, IsThere}
use Rattle.lg_answer.specs.Candidates.{Decides, IsCandidate, AreFirst, AreAll, IsBehind, Course, IsLower, HasCome, HasComeBut, IsNextOf, HasPassed, IsSameCourse}
use Rattle.lg_answer.specs.declared.options.Nulls.{Nulls}
use Rattle.lg_answer.proofs.Places.{in_left, in_right, in_either, place_of, at_place}
use Rattle.lg_answer.proofs.Nothing.{nothing_of, nothing_good, nothing_count, nothing_decides}

-- unlinked words are compared first
fewer_first : (a b : Linkage) → unlinked a < unlinked b → linkage_cmp a b ≡ Less
fewer_first a b less =
    let rest = then_cmp (on total_cost int_cmp)
    (then_cmp (on total_length nat_cmp)
    (then_cmp (on (λ (g : Linkage). g.chosen) (slice_cmp (option_cmp disjunct_cmp)))
    (on (λ (g : Linkage). g.links) (slice_cmp tie_cmp)))) in
    ap (λ o. ordering_then o (rest a b)) (sym (nat_cmp_is (unlinked a) (unlinked b) Less less))

nothing_first : (Has : Linkage → Type 0) → ((g : Linkage) → Has g → ⊥) → IsFront linkage_cmp Has []
nothing_first Has none = record {
  rise = λ i j a b less h. absurd cc;
  sound = λ i a h. absurd cc;
  below = λ g h. absurd (none g h);
}

module _ (know : Knowledge) (c : Course) where
  -- a good linkage with no more unlinked words than the level, all of which are behind
  behind : (front : List Linkage) (come : HasCome know c front) → IsAll (UnderWhole c.problem c.level) come.given → (g : Linkage) → Good c.problem g → unlinked g ≤ c.level → IsIn front g
  behind front come all g good most = subst (λ gs. IsIn gs g) (sym come.is) (elim (cases_lt (unlinked g) c.level) [
    | inl less ↦ let at = come.lower_all g (record { good = good; fewer = less }) in (at.0, in_left come.lower come.given at.0 g at.1)
    | inr same ↦ let at = all g (record { good = good; count = omega arith }) in (length come.lower + at.0, in_right come.lower come.given at.0 g at.1)
  ])

  -- what is behind is in order, and comes before all that has as many unlinked words or more
  joined : (Has : Linkage → Type 0) (front : List Linkage) → HasCome know c front → ((g : Linkage) → Has g → Good c.problem g)
      → ((g : Linkage) → Good c.problem g → unlinked g ≤ c.level → Has g) → IsFront linkage_cmp Has front
  joined Has front come good has =
      let low = come.lower_first in
      let high = come.given_first in
      let either = in_either come.lower come.given in
      subst (IsFront linkage_cmp Has) (sym come.is) (record {
        rise = λ i j a b less ha hb. elim (either i a ha) [
          | inl x ↦ elim (either j b hb) [
            | inl y ↦ low.rise i j a b less x y
            | inr y ↦ fewer_first a b (let l = (low.sound i a x).fewer in let h = (high.sound y.0 b y.2).count in omega arith)
          ]
          | inr x ↦ elim (either j b hb) [
            | inl y ↦ let within = slice_get_within come.lower j b y in let e = x.1 in absurd (omega arith)
            | inr y ↦ high.rise x.0 y.0 a b (let e = x.1 in let f = y.1 in omega arith) x.2 y.2
          ]
        ];
        sound = λ i a ha. elim (either i a ha) [
          | inl x ↦ let l = low.sound i a x in has a l.good (let f = l.fewer in omega arith)
          | inr x ↦ let h = high.sound x.0 a x.2 in has a h.good (let f = h.count in omega arith)
        ];
        below = λ g h.
            let before : ((i : ℕ) (a : Linkage) → slice_get come.given i ≡ Some a → linkage_cmp a g ≡ Less) → c.level ≤ unlinked g → AllBefore linkage_cmp (come.lower ++ come.given) g =
            λ later most i a ha. elim (either i a ha) [
              | inl x ↦ fewer_first a g (let l = (low.sound i a x).fewer in omega arith)
              | inr x ↦ later x.0 a x.2
            ] in
            elim (cases_lt (unlinked g) c.level) [
              | inl less ↦ let at = come.lower_all g (record { good = good g h; fewer = less }) in inl (at.0, in_left come.lower come.given at.0 g at.1)
              | inr most ↦ elim (cases_lt c.level (unlinked g)) [
                | inl more ↦ inr (before (λ i a ha. fewer_first a g (let e = (high.sound i a ha).count in omega arith)) most)
                | inr less ↦ elim (high.below g (record { good = good g h; count = omega arith })) [
                  | inl at ↦ inl (length come.lower + at.0, in_right come.lower come.given at.0 g at.1)
                  | inr later ↦ inr (before later most)
                ]
              ]
            ];
      })

  pub level_given : (front : List Linkage) (come : HasCome know c front) → c.before + length come.given ≡ c.position
  level_given front come =
      let long : length front ≡ length come.lower + length come.given = ap length come.is ∙ length-append come.lower come.given in
      let before = come.before in
      let position = come.position in
      omega arith

  -- those that are behind are the first candidates
  pub are_first : (front : List Linkage) → HasCome know c front → AreFirst c.problem know c.nulls front
  are_first front come = joined (IsCandidate c.problem know c.nulls) front come (λ g h. h.good) (λ g good most. record {
    good = good;
    fewest = λ h is decides. let l = come.least h is decides in omega arith;
  })

  -- the next of the level
  pub one_more : (front : List Linkage) (come : HasCome know c front) (g : Linkage) → IsFront linkage_cmp (UnderWhole c.problem c.level) (come.given ++ g ∷ [])
      → HasComeBut know (record c { position = c.position + 1 }) front g
  one_more front come g next decided notes = record {
    lower = come.lower;
    given = come.given ++ g ∷ [];
    is = ap (λ gs. gs ++ g ∷ []) come.is ∙ append_assoc come.lower come.given (g ∷ []);
    lower_first = come.lower_first;
    lower_all = come.lower_all;
    given_first = next;
    before = come.before;
    position = let p = come.position in omega (arith, length_push front g);
    least = come.least;
    decided = (
      λ t. elim (notes.0 t) [
        | inl old ↦ let h = come.decided.0 old in (h.0, Contains-append_left come.given (g ∷ []) h.0 h.1, h.2)
        | inr new ↦ (g, Contains-push come.given g, new)
      ],
      λ h. elim (Contains-push_cases come.given g h.0 h.1) [
        | inl old ↦ notes.1 (inl (come.decided.1 (h.0, old, h.2)))
        | inr same ↦ notes.1 (inr (subst (Decides c.nulls know) (sym same) h.2))
      ],
    );
  }

  -- the next one is a good linkage
  pub next_good : (front : List Linkage) (come : HasCome know c front) (g : Linkage) → IsFront linkage_cmp (UnderWhole c.problem c.level) (come.given ++ g ∷ []) → Good c.problem g
  next_good front come g next =
      let at = place_of (come.given ++ g ∷ []) g (Contains-push come.given g) in
      (next.sound at.0 g at.1).good

  -- the level is spent, and one of it decides: no candidate is left
  pub all_behind : (front : List Linkage) (come : HasCome know c front) → IsAll (UnderWhole c.problem c.level) come.given → c.decided ≡ true → AreAll c.problem know c.nulls front
  all_behind front come all decided g candidate =
      let h = come.decided.0 decided in
      let at = place_of come.given h.0 h.1 in
      let under = come.given_first.sound at.0 h.0 at.1 in
      behind front come all g candidate.good (let fewest = candidate.fewest h.0 under.good h.2 in let count = under.count in omega arith)

  -- the level is spent, and none of it decides
  module _ (front : List Linkage) (come : HasCome know c front) (all : IsAll (UnderWhole c.problem c.level) come.given) (open_yet : c.decided ≡ false) where
    higher : (h : Linkage) → Good c.problem h → Decides c.nulls know h → c.level + 1 ≤ unlinked h
    higher h good decides =
        let least = come.least h good decides in
        elim (cases_lt c.level (unlinked h)) [
          | inl more ↦ omega arith
          | inr same ↦
              let at = all h (record { good = good; count = omega arith }) in
              let decided = come.decided.1 (h, at_place come.given h at, decides) in
              let no : ⊥ = cc in absurd no
        ]

    -- then the next level is to come
    pub rises : HasCome know (record c { level = c.level + 1; before = c.position }) front
    rises = record {
      lower = front;
      given = [];
      is = sym (append-nil front);
      lower_first = joined (IsLower c.problem (c.level + 1)) front come (λ g h. h.good) (λ g good most. record { good = good; fewer = omega arith });
      lower_all = λ g h. behind front come all g h.good (let f = h.fewer in omega arith);
      given_first = record {
        rise = λ i j a b less h. absurd cc;
        sound = λ i a h. absurd cc;
        below = λ g h. inr (λ i a e. absurd cc);
      };
      before = come.position;
      position = come.position;
      least = higher;
      decided = (λ t. let no : ⊥ = cc in absurd no, λ h. let n = h.1.1 in absurd (omega arith));
    }

    -- and there is one: the linkage in which no word is linked would decide
    pub stays_below : c.level < length c.problem
    stays_below = let most = higher (nothing_of c.problem) (nothing_good c.problem) (nothing_decides c.nulls know c.problem) in omega (arith, nothing_count c.problem)

-- what the level gives next, where so many of it are behind
abbrev pub Gives : Course → Option Linkage → Type 0
Gives c found = (gs : List Linkage) → IsFront linkage_cmp (UnderWhole c.problem c.level) gs → c.before + length gs ≡ c.position → IsNext linkage_cmp (UnderWhole c.problem c.level) gs found

module _ (know : Knowledge) (c new : Course) (front : List Linkage) (come : HasCome know c front) (found : Option Linkage) (gives : Gives c found) where
  next_is : IsNext linkage_cmp (UnderWhole c.problem c.level) come.given found
  next_is = gives come.given come.given_first (level_given know c front come)

  module _ (g : Linkage) (some : found ≡ Some g) where
    next_front : IsFront linkage_cmp (UnderWhole c.problem c.level) (come.given ++ g ∷ [])
    next_front = subst (IsNext linkage_cmp (UnderWhole c.problem c.level) come.given) some next_is

    pub found_good : Good c.problem g
    found_good = next_good know c front come g next_front

    pub found_next : new ≡ record c { position = c.position + given found } → HasComeBut know new front g
    found_next moved =
        subst (λ n. HasComeBut know n front g) (sym (moved ∙ ap (λ o. record c { position = c.position + given o }) some)) (one_more know c front come g next_front)

  -- the level is spent
  pub spent : found ≡ None → new ≡ c → (still : HasCome know new front) × IsAll (UnderWhole new.problem new.level) still.given
  spent none same =
      subst (λ n. (still : HasCome know n front) × IsAll (UnderWhole n.problem n.level) still.given) (sym same) (come, subst (IsNext linkage_cmp (UnderWhole c.problem c.level) come.given) none next_is)

  pub not_last : found ≡ None → new ≡ c → new.decided ≡ false → new.level < length new.problem
  not_last none same undecided = let still = spent none same in stays_below know new front still.0 still.1 undecided

pub unmoved : (c new : Course) (found : Option Linkage) → found ≡ None → new ≡ record c { position = c.position + given found } → new ≡ c
unmoved c new found none moved =
    let zero_more : c.position + 0 ≡ c.position = omega arith in
    moved ∙ ap (λ o. record c { position = c.position + given o }) none ∙ ap (λ n. record c { position = n }) zero_more

pub falls : (old mid new : Course) → mid ≡ old → new ≡ record mid { level = mid.level + 1; before = mid.position } → mid.level < length mid.problem
    → length new.problem - new.level < length old.problem - old.level
falls old mid new same risen below =
    subst (λ n. length n.problem - n.level < length old.problem - old.level) (sym risen)
    (subst (λ o. length mid.problem - (mid.level + 1) < length o.problem - o.level) same (omega arith))

-- before the first candidate
pub at_start : (know : Knowledge) (positions : List (List Disjunct)) (nulls : Nulls) (level : ℕ) → ((g : Linkage) → Good positions g → level ≤ unlinked g)
    → HasCome know (record { problem = positions; nulls = nulls; level = level; before = 0; position = 0; decided = false }) []
at_start know positions nulls level least =
    let none : (g : Linkage) → IsLower positions level g → ⊥ = λ g h. let f = h.fewer in let l = least g h.good in omega arith in
    record {
      lower = [];
      given = [];
      is = refl;
      lower_first = nothing_first (IsLower positions level) none;
      lower_all = λ g h. absurd (none g h);
      given_first = record {
        rise = λ i j a b less h. absurd cc;
        sound = λ i a h. absurd cc;
        below = λ g h. inr (λ i a e. absurd cc);
      };
      before = refl;
      position = refl;
      least = λ h good decides. least h good;
      decided = (λ t. let no : ⊥ = cc in absurd no, λ h. let n = h.1.1 in absurd (omega arith));
    }

or_either : (a b : Bool) → (a || b) ≡ true → (a ≡ true) ⊎ (b ≡ true)
or_either true b t = inl refl
or_either false b t = inr t

either_or : (a b : Bool) → (a ≡ true) ⊎ (b ≡ true) → (a || b) ≡ true
either_or true b h = refl
either_or false true h = refl
either_or false false (inl e) = e
either_or false false (inr e) = e

-- it is noted whether the one that was given last decides
pub noted : (know : Knowledge) (c new : Course) (front : List Linkage) (g : Linkage) (decides : Bool) → new ≡ record c { decided = c.decided || decides }
    → (decides ≡ true) ↔ Decides c.nulls know g → HasComeBut know c front g → HasCome know new (front ++ g ∷ [])
noted know c new front g decides is tells but =
    subst (λ n. HasCome know n (front ++ g ∷ [])) (sym is) (but (c.decided || decides) (
      λ t. elim (or_either c.decided decides t) [ inl old ↦ inl old | inr now ↦ inr (tells.0 now) ],
      λ h. either_or c.decided decides (elim h [ inl old ↦ inl old | inr now ↦ inr (tells.1 now) ]),
    ))

-- it need not be noted where one decides already
pub noted_before : (know : Knowledge) (c : Course) (front : List Linkage) (g : Linkage) → c.decided ≡ true → HasComeBut know c front g → HasCome know c (front ++ g ∷ [])
noted_before know c front g decided but =
    subst (λ b. HasCome know (record c { decided = b }) (front ++ g ∷ [])) (sym decided) (but true (λ t. inl decided, λ h. refl))

-- what the level has next, where so many of it are behind, without what it is
abbrev pub Passes : Course → Bool → Type 0
Passes c there = (gs : List Linkage) → IsFront linkage_cmp (UnderWhole c.problem c.level) gs → c.before + length gs ≡ c.position → IsThere (IsNext linkage_cmp (UnderWhole c.problem c.level) gs) there

-- a level that is decided is passed over: one more is behind, or all are
module _ (know : Knowledge) (c new : Course) (front : List Linkage) (come : HasCome know c front) (decided : c.decided ≡ true) where
  passed_by : (there : Bool) (found : Option Linkage) → IsNext linkage_cmp (UnderWhole c.problem c.level) come.given found → there ≡ is_some found
      → new ≡ record c { position = c.position + passed_over there } → HasPassed know new front there
  passed_by true (Some g) next e moved =
      (g, subst (λ n. HasCome know n (front ++ g ∷ [])) (sym moved) (noted_before know (record c { position = c.position + 1 }) front g decided (one_more know c front come g next)))
  passed_by false None all e moved =
      let zero_more : c.position + 0 ≡ c.position = omega arith in
      let same : new ≡ c = moved ∙ ap (λ n. record c { position = n }) zero_more in
      subst (λ n. HasPassed know n front false) (sym same) (come, all_behind know c front come all decided)
  passed_by true None all e moved = let no : ⊥ = cc in absurd no
  passed_by false (Some g) next e moved = let no : ⊥ = cc in absurd no

  pub passed_one : (there : Bool) → Passes c there → new ≡ record c { position = c.position + passed_over there } → HasPassed know new front there
  passed_one there passes moved =
      let is = passes come.given come.given_first (level_given know c front come) in
      passed_by there is.0 is.1 is.2 moved

pub same_after : (a b c : Course) → IsSameCourse a b → IsSameCourse b c → IsSameCourse a c
same_after a b c first next = record { problem = next.problem ∙ first.problem; nulls = next.nulls ∙ first.nulls }

module _ (know : Knowledge) (old c : Course) (same : IsSameCourse old c) (n : ℕ) (front : List Linkage) where
  behind_n : HasCome know c front → (c.position ≡ n) ⊎ ((c.position < n) × AreAll c.problem know c.nulls front) → IsBehind old.problem know old.nulls n c.position
  behind_n come at =
      subst (λ p. IsBehind p know old.nulls n c.position) same.problem
      (subst (λ m. IsBehind c.problem know m n c.position) same.nulls
      (record { front = front; first = are_first know c front come; count = come.position; at = at }))

  -- so many are behind, or all where none is left
  pub behind_so_many : HasCome know c front → c.position ≡ n → IsBehind old.problem know old.nulls n c.position
  behind_so_many come at = behind_n come (inl at)

  pub behind_all : IsNextOf know c front None → c.position < n → IsBehind old.problem know old.nulls n c.position
  behind_all last less = behind_n last.0 (inr (less, last.1))
