-- The alternatives of a key, word by word.
use Rattle.std.proofs.Common.{◌≡◌, ◌≢◌, ℕ, ◌+◌, ◌*◌, ◌%◌, ◌-◌, ◌<◌, ◌≤◌, List, [], ◌∷◌, ◌++◌, length, fold, slice_get, get_or, refl, sym, ◌∙◌, ap, subst, Option, Some, None, ◌⊎◌, inl, inr, arith}
use Rattle.std.proofs.lemmas.Bool.{cases_lt}
use Rattle.std.proofs.lemmas.Option.{slice_get_within}
use Rattle.lg_gram.specs.Connectors.{Connector}
use Rattle.lg_gram.specs.declared.disjunct.Disjunct.{Disjunct}
use Rattle.lg_region.specs.Parts.{Region}
use Rattle.lg_region.specs.Whole.{First}
use Rattle.lg_region.specs.Fronts.{AreListsOf, Numbering, list_of}
use Rattle.lg_region.specs.Keys.{region_of_numbers, IsDisjunctAt, IsAltOfRegion, IsAltOfWhole, IsValidKey}
use Rattle.lg_region.specs.Numbered.{HasSides}
use Rattle.lg_region.specs.Ways.{AreExactly, AddsExactly}
use Rattle.lg_region.specs.Groups.{region_of_gap, StandsIn, AddsFirst, HaveLeft, IsGroup, IsNextLed, Leads, left_lead, right_lead}
use Rattle.lg_region.specs.Chains.{class_at, class_of, IsNext, IsRunEnd}
use Rattle.lg_region.specs.Openings.{IsGapOf}
use Rattle.lg_region.specs.declared.key.Joint.{Joint}
use Rattle.lg_region.specs.declared.key.Key.{Key}
use Rattle.lg_region.specs.declared.key.Key.TheVariants.{Region as Between}
use Rattle.lg_region.specs.declared.alternative.Alt.{Alt}
use Rattle.lg_region.specs.declared.alternative.Alt.TheVariants.{AllNull, Split as At}
use Rattle.lg_region.specs.declared.numbering.Sides.{Sides}
use Rattle.lg_region.specs.declared.group.Gap.{Gap}
use Rattle.lg_region.specs.declared.group.Lead.{Lead}
use Rattle.lg_region.specs.declared.chains.Side.TheVariants.{Left, Right}
use Rattle.lg_region.proofs.Numbers.{apart, one_key, get_contains}
use Rattle.lg_region.proofs.Once.{HaveOne, Upto, exactly_as, exactly_one, adds_as, adds_none, from_none}
use Rattle.lg_region.proofs.Splitting.{some_number}
use Rattle.lg_region.proofs.Chaining.{joint_class}

pub in_split : (word n m : ℕ) (a : Alt) → StandsIn word 0 m a → StandsIn word 0 n a ⊎ StandsIn word n m a
in_split word n m AllNull s = absurd s
in_split word n m (At w number tl tr lk rk) s = let l = s.2 in elim (cases_lt number n) [ inl h ↦ inl (s.0, s.1, h) | inr h ↦ inr (s.0, h, s.2) ]

-- each alternative names a disjunct of a word before a number
abbrev pub NamesDisjuncts : List (List Disjunct) → ℕ → (Alt → Type 0) → Type 0
NamesDisjuncts positions end I = (w number : ℕ) (tl tr : Option Joint) (lk rk : Option Key) → I (At w number tl tr lk rk) → (w < end) × (number < length (get_or positions w []))

pub region_names : (positions : List (List Disjunct)) (lists : List (List Connector)) (k : Region) → NamesDisjuncts positions k.right (IsAltOfRegion positions lists k)
region_names positions lists k w number tl tr None rk i = absurd i
region_names positions lists k w number tl tr (Some lk) None i = absurd i
region_names positions lists k w number tl tr (Some lk) (Some rk) (c, i) = let a = i.cut.before in let e = i.place in (omega arith, slice_get_within (get_or positions w []) number c.disjunct i.chosen)

pub whole_names : (positions : List (List Disjunct)) (lists : List (List Connector)) (nulls : ℕ) → NamesDisjuncts positions (nulls + 1) (IsAltOfWhole positions lists nulls)
whole_names positions lists nulls w number None None None (Some rk) (c, i) = let a = i.first.enough in let e = i.place in (omega arith, slice_get_within (get_or positions w []) number c.disjunct i.chosen)
whole_names positions lists nulls w number None None None None i = absurd i
whole_names positions lists nulls w number None None (Some lk) rk i = absurd i
whole_names positions lists nulls w number None (Some j) lk rk i = absurd i
whole_names positions lists nulls w number (Some j) tr lk rk i = absurd i

-- an alternative of a word
abbrev pub OfWord : List (List Disjunct) → (Alt → Type 0) → ℕ → Alt → Type 0
OfWord positions I word a = I a × StandsIn word 0 (length (get_or positions word [])) a

pub words_apart : (positions : List (List Disjunct)) (I : Alt → Type 0) → HaveOne (OfWord positions I)
words_apart positions I v w AllNull (i, s) t = absurd s
words_apart positions I v w (At u number tl tr lk rk) (i, s) (j, t) = sym s.0 ∙ t.0

-- all words, where some word is linked
module _ (positions : List (List Disjunct)) (end : ℕ) (I : Alt → Type 0) (names : NamesDisjuncts positions end I) (some : I AllNull → ⊥) (word : ℕ) (past : end ≤ word) where
  met : (a : Alt) → I a → Upto (OfWord positions I) word a
  met AllNull i = absurd (some i)
  met (At w number tl tr lk rk) i = let r = names w number tl tr lk rk i in let b = r.0 in (w, omega arith, (i, (refl, omega arith, r.1)))

  pub words_all : (out : List Alt) → AddsExactly [] out (Upto (OfWord positions I) word) → AreExactly out I
  words_all out x = exactly_as out (Upto (OfWord positions I) word) I (λ a. (λ (w, l, (i, s)). i, met a)) (from_none out (Upto (OfWord positions I) word) x)

cases_eq : (m n : ℕ) → (m ≡ n) ⊎ (m ≢ n)
cases_eq m n = elim (cases_lt m n) [ inl h ↦ inr (omega arith) | inr h ↦ elim (cases_lt n m) [ inl k ↦ inr (omega arith) | inr k ↦ inl (omega arith) ] ]

fold_small : (caps : List ℕ) (m : ℕ) → m < 256 → fold (λ n c. (n * 31 + c) % 256) m caps < 256
fold_small [] m l = l
fold_small (c ∷ caps) m l = fold_small caps ((m * 31 + c) % 256) (omega arith)

class_small : (cs : List Connector) → class_of cs < 256
class_small cs = by (slice_get cs (length cs - 1))
  where
    by : (o : Option Connector) → class_at o < 256
    by None = omega arith
    by (Some c) = fold_small c.caps 0 (omega arith)

-- which disjuncts cut a region with a left list
pub led_left : (positions : List (List Disjunct)) (lists : List (List Connector)) (llist class : ℕ) (k : Region) → AreListsOf positions lists → llist ≤ length lists → llist ≢ 0 → class ≡ class_of (list_of lists llist) → k.llist ≡ list_of lists llist
    → Leads (record { side = Left; class = class }) positions k
led_left positions lists llist class k are known some e l c cut =
    let n : k.llist ≢ [] = λ x. some (apart positions lists are llist 0 known (omega arith) (sym l ∙ x)) in
    sym (joint_class c.to_left k.llist c.disjunct.left c.lkey.llist c.lkey.rlist cut.at_left (cut.by_llist n)) ∙ ap class_of l ∙ sym e

-- and with none
led_right : (positions : List (List Disjunct)) (class : ℕ) (k : Region) → k.llist ≡ [] → class ≡ class_of k.rlist → Leads (record { side = Right; class = class }) positions k
led_right positions class k none e c cut = joint_class c.to_right c.disjunct.right k.rlist c.rkey.llist c.rkey.rlist cut.at_right (cut.by_rlist none) ∙ sym e

-- a valid key of a region that has no gap has two empty lists
pub no_gap : (n : Numbering) (left right llist rlist nulls : ℕ) → AreListsOf n.positions n.lists → IsValidKey n.positions n.lists (Between left right llist rlist nulls)
    → ((gap : Gap) → IsGapOf n (Between left right llist rlist nulls) gap → ⊥) → (llist ≡ 0) × (rlist ≡ 0)
no_gap n left right llist rlist nulls are v none =
    elim (cases_eq llist 0) [
      | inr some ↦ absurd (none (with (left_lead n llist)) (is (left_lead n llist) (class_small (list_of n.lists llist))
          (led_left n.positions n.lists llist (class_of (list_of n.lists llist)) k are v.0 some refl refl) (λ h. some h.0) (λ h. refl) (λ z. absurd (some z))))
      | inl z ↦ elim (cases_eq rlist 0) [
        | inl y ↦ (z, y)
        | inr some ↦ absurd (none (with (right_lead n rlist)) (is (right_lead n rlist) (class_small (list_of n.lists rlist))
            (led_right n.positions (class_of (list_of n.lists rlist)) k (ap (list_of n.lists) z) refl) (λ h. some h.1) (λ h. absurd (h z)) (λ h. refl)))
      ]
    ]
  where
    k : Region
    k = region_of_numbers n.lists left right llist rlist nulls

    with : Lead → Gap
    with lead = record { left = left; right = right; llist = llist; rlist = rlist; nulls = nulls; lead = lead }

    is : (lead : Lead) → lead.class < 256 → Leads lead n.positions k → ((llist ≡ 0) × (rlist ≡ 0) → ⊥) → (llist ≢ 0 → lead ≡ left_lead n llist) → (llist ≡ 0 → lead ≡ right_lead n rlist) → IsGapOf n (Between left right llist rlist nulls) (with lead)
    is lead small led some l r = record {
      key_is = refl;
      known = record { llist = v.0; rlist = v.1; small = small; led = led };
      ends = v.2.ends;
      within = v.2.within;
      some = some;
      few = v.2.few;
      lead = l;
      rlead = r;
    }

-- a region with a list links some word
pub gap_links : (n : Numbering) (key : Key) (gap : Gap) → AreListsOf n.positions n.lists → IsGapOf n key gap → IsAltOfRegion n.positions n.lists (region_of_gap n.lists gap) AllNull → ⊥
gap_links n key gap are is (a, b, c) =
    is.some (apart n.positions n.lists are gap.llist 0 is.known.llist (omega arith) a, apart n.positions n.lists are gap.rlist 0 is.known.rlist (omega arith) b)

-- up to the next disjunct of the class there is no alternative
pub none_led : (numbers : Numbering) (gap : Gap) (word start next : ℕ) (a : Alt) → Leads gap.lead numbers.positions (region_of_gap numbers.lists gap) → IsNextLed numbers gap.lead word start next
    → IsAltOfRegion numbers.positions numbers.lists (region_of_gap numbers.lists gap) a → StandsIn word start next a → ⊥
none_led numbers gap word start next AllNull led is i s = absurd s
none_led numbers gap word start next (At w number tl tr None rk) led is i s = absurd i
none_led numbers gap word start next (At w number tl tr (Some lk) None) led is i s = absurd i
none_led numbers gap word start next (At w number tl tr (Some lk) (Some rk)) led is (c, i) s =
    is.others number c.disjunct s.1 s.2 (subst (λ z. IsDisjunctAt numbers.positions z number c.disjunct) s.0 i.chosen) (led c i.cut)

-- a run up to the next disjunct of the class
pub record IsRun (numbers : Numbering) (lead : Lead) (word left start end : ℕ) : Type 0 where
  pub later : start < end
  pub led : IsNextLed numbers lead word end end
  pub same : HaveLeft numbers lead word left start end

-- the end of the run of a disjunct of the class
pub run_is : (numbers : Numbering) (lead : Lead) (word from to : ℕ) (s : Sides) → from < length (get_or numbers.positions word []) → IsNextLed numbers lead word from from → ((d : Disjunct) → IsDisjunctAt numbers.positions word from d → HasSides numbers.lists d s)
    → ((d : Disjunct) → IsDisjunctAt numbers.positions word from d → IsRunEnd lead.side (get_or numbers.positions word []) d from to) → IsRun numbers lead word s.left from to
run_is numbers lead word from to s l led sides run =
    let d = some_number numbers.positions word from l in
    let k = led.same d.0 d.1 in
    let r = run d.0 d.1 in
    record {
      later = r.later;
      led = subst (λ z. IsNext lead.side (get_or numbers.positions word []) z to to) k r.next;
      same = λ n x a b at is. (sides d.0 d.1).left.list ∙ sym (r.same n x a b at (is ∙ sym k));
    }

pub run_group : (numbers : Numbering) (gap : Gap) (word from to : ℕ) (s : Sides) → gap.left < word → word < gap.right → from < length (get_or numbers.positions word []) → IsNextLed numbers gap.lead word from from → IsNextLed numbers gap.lead word to to
    → ((d : Disjunct) → IsDisjunctAt numbers.positions word from d → HasSides numbers.lists d s) → HaveLeft numbers gap.lead word s.left from to → IsGroup numbers gap (record { word = word; left = s.left; from = from; to = to })
run_group numbers gap word from to s after before l first listed sides same =
    let d = some_number numbers.positions word from l in
    record { after = after; before = before; listed = listed.within; known = (sides d.0 d.1).left.known; left = same; first = first }

-- an alternative of the whole sentence that begins with a disjunct of a word
abbrev pub OfFirst : Numbering → ℕ → ℕ → ℕ → Alt → Type 0
OfFirst numbers nulls word number a = IsAltOfWhole numbers.positions numbers.lists nulls a × StandsIn word number (number + 1) a

pub firsts_apart : (numbers : Numbering) (nulls word : ℕ) → HaveOne (OfFirst numbers nulls word)
firsts_apart numbers nulls word i j AllNull (is, s) t = absurd s
firsts_apart numbers nulls word i j (At w number tl tr lk rk) (is, s) (is', t) = let a = s.1 in let b = s.2 in let c = t.1 in let d = t.2 in omega arith

pub firsts_all : (numbers : Numbering) (nulls word number : ℕ) (old new : List Alt) → length (get_or numbers.positions word []) ≡ number → AddsExactly old new (Upto (OfFirst numbers nulls word) number)
    → AddsFirst numbers nulls word 0 (length (get_or numbers.positions word [])) old new
firsts_all numbers nulls word number old new e x =
    let count = length (get_or numbers.positions word []) in
    adds_as old new (Upto (OfFirst numbers nulls word) number) (λ a. IsAltOfWhole numbers.positions numbers.lists nulls a × StandsIn word 0 count a) (λ a. (there a, back a)) x
  where
    there : (a : Alt) → Upto (OfFirst numbers nulls word) number a → IsAltOfWhole numbers.positions numbers.lists nulls a × StandsIn word 0 (length (get_or numbers.positions word [])) a
    there AllNull (j, l, (is, s)) = absurd s
    there (At w i tl tr lk rk) (j, l, (is, s)) = let b = s.2 in (is, (s.0, omega arith, omega arith))

    back : (a : Alt) → IsAltOfWhole numbers.positions numbers.lists nulls a × StandsIn word 0 (length (get_or numbers.positions word [])) a → Upto (OfFirst numbers nulls word) number a
    back AllNull (is, s) = absurd s
    back (At w i tl tr lk rk) (is, s) = let b = s.2 in (i, omega arith, (is, (s.0, omega arith, omega arith)))

abbrev pub first_of : ℕ → ℕ → ℕ → ℕ → ℕ → Alt
first_of word number words right nulls = At word number None None None (Some (Between word words right 0 nulls))

first_same : (word word' number number' : ℕ) (key key' : Key) → word ≡ word' → number ≡ number' → key ≡ key' → At word number None None None (Some key) ≡ At word' number' None None None (Some key')
first_same word word' number number' key key' a b c = cc

-- an alternative with a first word is the one that the numbers of its disjunct give
first_is : (positions : List (List Disjunct)) (lists : List (List Connector)) (nulls word number : ℕ) (s : Sides) (a : Alt) → AreListsOf positions lists → ((d : Disjunct) → IsDisjunctAt positions word number d → HasSides lists d s)
    → IsAltOfWhole positions lists nulls a → StandsIn word number (number + 1) a → (s.left ≡ 0) × (first_of word number (length positions) s.right (nulls - word) ≡ a)
first_is positions lists nulls word number s AllNull are sides i t = absurd t
first_is positions lists nulls word number s (At w n None None None (Some rk)) are sides (c, i) t =
    let a = t.1 in
    let b = t.2 in
    let en : n ≡ number = omega arith in
    let at : IsDisjunctAt positions word number c.disjunct = subst (λ z. IsDisjunctAt positions z number c.disjunct) t.0 (subst (λ z. IsDisjunctAt positions w z c.disjunct) en i.chosen) in
    let h = sides c.disjunct at in
    let ew : c.word ≡ word = i.place ∙ t.0 in
    let k : c.rkey ≡ region_of_numbers lists word (length positions) s.right 0 (nulls - word) =
    subst (λ z. c.rkey ≡ record { left = word; right = length positions; llist = z; rlist = []; nulls = nulls - word }) (sym h.right.list)
    (subst (λ z. c.rkey ≡ record { left = z; right = length positions; llist = c.disjunct.right; rlist = []; nulls = nulls - z }) ew i.first.rkey) in (
      apart positions lists are s.left 0 h.left.known (omega arith) (h.left.list ∙ i.first.left),
      first_same word w number n (Between word (length positions) s.right 0 (nulls - word)) rk (sym t.0) (sym en) (one_key positions lists are (Between word (length positions) s.right 0 (nulls - word)) rk c.rkey (h.right.known, omega arith, k) i.behind),
    )
first_is positions lists nulls word number s (At w n None None None None) are sides i t = absurd i
first_is positions lists nulls word number s (At w n None None (Some lk) rk) are sides i t = absurd i
first_is positions lists nulls word number s (At w n None (Some j) lk rk) are sides i t = absurd i
first_is positions lists nulls word number s (At w n (Some j) tr lk rk) are sides i t = absurd i

is_first : (positions : List (List Disjunct)) (lists : List (List Connector)) (nulls word number : ℕ) (s : Sides) → nulls < length positions → word ≤ nulls → number < length (get_or positions word []) → ((d : Disjunct) → IsDisjunctAt positions word number d → HasSides lists d s) → s.left ≡ 0
    → IsAltOfWhole positions lists nulls (first_of word number (length positions) s.right (nulls - word))
is_first positions lists nulls word number s few enough l sides e =
    let d = some_number positions word number l in
    let h = sides d.0 d.1 in
    let key = region_of_numbers lists word (length positions) s.right 0 (nulls - word) in
    let c : First = record { word = word; disjunct = d.0; rkey = key } in (
      c,
      record {
        first = record {
          before = omega arith;
          enough = enough;
          listed = get_contains (get_or positions word []) number d.0 d.1;
          left = sym h.left.list ∙ ap (list_of lists) e;
          rkey = subst (λ z. key ≡ record { left = word; right = length positions; llist = z; rlist = []; nulls = nulls - word }) h.right.list refl;
          few = omega arith;
        };
        place = refl;
        chosen = d.1;
        behind = (h.right.known, omega arith, refl);
      },
    )

pub no_first : (numbers : Numbering) (nulls word number : ℕ) (s : Sides) (out : List Alt) → AreListsOf numbers.positions numbers.lists → ((d : Disjunct) → IsDisjunctAt numbers.positions word number d → HasSides numbers.lists d s) → s.left ≢ 0 → AddsFirst numbers nulls word number (number + 1) out out
no_first numbers nulls word number s out are sides n =
    adds_none out (λ a. IsAltOfWhole numbers.positions numbers.lists nulls a × StandsIn word number (number + 1) a) (λ a (i, t). n (first_is numbers.positions numbers.lists nulls word number s a are sides i t).0)

pub one_first : (numbers : Numbering) (nulls word number : ℕ) (s : Sides) (out out' : List Alt) → AreListsOf numbers.positions numbers.lists → nulls < length numbers.positions → word ≤ nulls → number < length (get_or numbers.positions word [])
    → ((d : Disjunct) → IsDisjunctAt numbers.positions word number d → HasSides numbers.lists d s) → s.left ≡ 0 → out' ≡ out ++ first_of word number (length numbers.positions) s.right (nulls - word) ∷ [] → AddsFirst numbers nulls word number (number + 1) out out'
one_first numbers nulls word number s out out' are few enough l sides e added =
    let a0 = first_of word number (length numbers.positions) s.right (nulls - word) in
    let P : Alt → Type 0 = λ a. IsAltOfWhole numbers.positions numbers.lists nulls a × StandsIn word number (number + 1) a in
    let is : P a0 = (is_first numbers.positions numbers.lists nulls word number s few enough l sides e, (refl, omega arith, omega arith)) in
    record {
      more = a0 ∷ [];
      added = added;
      exactly = exactly_as (a0 ∷ []) (λ a. a0 ≡ a) P (λ a. (λ q. subst P q is, λ (i, t). (first_is numbers.positions numbers.lists nulls word number s a are sides i t).1)) (exactly_one a0);
    }
