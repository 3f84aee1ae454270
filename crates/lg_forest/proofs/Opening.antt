-- Openings: how they begin, grow and are kept, and what they tell of a region.
use Rattle.std.proofs.Common.{◌≡◌, ◌↔◌, ℕ, ◌+◌, ◌<◌, ◌≤◌, ◌⊎◌, inl, inr, refl, sym, ap, ◌∙◌, subst, List, [], Some, None, Option, IfSome, Contains, slice_get, arith}
use Rattle.std.proofs.lemmas.Bool.{cases_lt}
use Rattle.std.proofs.lemmas.List.Elements.{Contains-append_left, Contains-append_right, Contains-append_cases}
use Rattle.std.specs.Map.{keys_of}
use Rattle.lg_gram.specs.Connectors.{Connector}
use Rattle.lg_region.specs.Alike.{BeginsWith, CutsInside, HaveSameLeft, IsAltAt, RegionsBeginAlike, end_of}
use Rattle.lg_region.specs.Fronts.{AreListsOf, Numbering}
use Rattle.lg_region.specs.Chains.{class_at}
use Rattle.lg_region.specs.Groups.{HaveLeft, IsNextLed, StandsBefore, StandsIn, left_lead}
use Rattle.lg_region.specs.Keys.{IsAltOf}
use Rattle.lg_region.specs.declared.chains.Side.TheVariants.{Right}
use Rattle.lg_region.specs.Openings.{BeginsSo, IsKeyOfGap, LeavesLeft, left_of}
use Rattle.lg_region.specs.declared.key.Key.{Key}
use Rattle.lg_region.specs.declared.key.Key.TheVariants.{Whole, Region as Between}
use Rattle.lg_region.specs.declared.alternative.Alt.{Alt}
use Rattle.lg_region.specs.declared.alternative.Alt.TheVariants.{AllNull, Split as At}
use Rattle.lg_region.specs.declared.group.Gap.{Gap}
use Rattle.lg_region.specs.declared.group.Lead.{Lead}
use Rattle.lg_region.specs.declared.group.Group.{Group}
use Rattle.lg_region.specs.declared.opening.Beginning.{Beginning}
use Rattle.lg_forest.specs.Entries.{IsEntered}
use Rattle.lg_forest.specs.Demands.{HasLinkageUnder, left_key}
use Rattle.lg_forest.specs.Known.{AreKnown}
use Rattle.lg_forest.specs.Opened.{AsksLeft, IsAltWith, IsAny, IsLiveLeft, IsMemory, IsOpening, IsStart, OpensWord, StandsAt, StartsSo}
use Rattle.lg_forest.specs.Search.{Asked, IsTable}
use Rattle.lg_forest.specs.declared.memory.Memory.{Memory}
use Rattle.lg_forest.specs.declared.openings.Opening.{Opening}
use Rattle.lg_region.specs.declared.opening.Origin.{Origin}
use Rattle.lg_forest.specs.declared.openings.Start.{Start}
use Rattle.lg_forest.proofs.Asked.{asked_same, keys_later}
use Rattle.lg_forest.proofs.Among.{append_cases, alt_in, alt_out, ending_left}
use Rattle.lg_forest.proofs.Ending.{ends_kept}
use Rattle.lg_forest.proofs.Levels.{leaves}
use Rattle.lg_forest.proofs.Starting.{lefts_as, lefts_then}
use Rattle.lg_forest.proofs.Once.{contains_at, contains_none}

abbrev Entries : Type 0
Entries = List (Key × List Alt)

-- ---- a table that only grew

module _ (n : Numbering) (old new : Entries) (kept : (k : Key) → Contains (keys_of old) k → Contains (keys_of new) k) where
  pub opening_kept : (origin : Origin) (o : Opening) → IsOpening n old origin o → IsOpening n new origin o
  opening_kept origin o x = record { behind = x.behind; before = x.before; level = x.level; each = x.each; live = x.live; some = x.some; apart = x.apart; asked = λ gap a k b i s e. kept k (x.asked gap a k b i s e) }

  pub memory_kept : (m : Memory) → IsMemory n old m → IsMemory n new m
  memory_kept m x = record { known = x.known; opened = λ origin o has. opening_kept origin o (x.opened origin o has); ended = λ half ends has. ends_kept n old new kept half ends (x.ended half ends has); shut = λ half has. ends_kept n old new kept half [] (x.shut half has) }

pub memory_added : (n : Numbering) (es new : Entries) (k : Key) (alts : List Alt) (m : Memory) → IsEntered es k alts new → IsMemory n es m → IsMemory n new m
memory_added n es new k alts m is x = memory_kept n es new (λ q h. keys_later es new k alts q is h) m x

-- before the search
pub memory_first : (n : Numbering) (es : Entries) (m : Memory) (known : List (Key × List Alt)) → m.known ≡ known → m.openings ≡ [] → m.halves ≡ [] → m.shut ≡ [] → AreKnown n known → IsMemory n es m
memory_first n es m known e f h s are = record {
  known = subst (λ z. AreKnown n z) (sym e) are;
  opened = λ origin o has. absurd (contains_none (origin, o) (subst (λ z. Contains z (origin, o)) f has));
  ended = λ half ends has. absurd (contains_none (half, ends) (subst (λ z. Contains z (half, ends)) h has));
  shut = λ half has. absurd (contains_none half (subst (λ z. Contains z half) s has));
}

-- ---- alternatives with the same left joint and the same left key

same_key : (a z : Alt) → HaveSameLeft a z → left_key a ≡ left_key z
same_key AllNull z h = absurd h
same_key (At w i tl tr lk rk) AllNull h = absurd h
same_key (At w i tl tr lk rk) (At w' i' tl' tr' lk' rk') h = h.3

same_word : (word : ℕ) (a z : Alt) → HaveSameLeft a z → StandsAt word a → StandsAt word z
same_word word AllNull z h s = absurd h
same_word word (At w i tl tr lk rk) AllNull h s = absurd h
same_word word (At w i tl tr lk rk) (At w' i' tl' tr' lk' rk') h s = sym h.0 ∙ s

same_in : (word from to : ℕ) (a z : Alt) → HaveSameLeft a z → StandsIn word from to a ↔ StandsIn word from to z
same_in word from to AllNull z h = absurd h
same_in word from to (At w i tl tr lk rk) AllNull h = absurd h
same_in word from to (At w i tl tr lk rk) (At w' i' tl' tr' lk' rk') h =
    let e = h.0 in let f = h.1 in (λ s. (sym e ∙ s.0, (let x = s.1 in omega arith), (let x = s.2 in omega arith)), λ s. (e ∙ s.0, (let x = s.1 in omega arith), (let x = s.2 in omega arith)))

same_begin : (gap other : Gap) (g : Group) (b : Beginning) (a z : Alt) → gap.left ≡ other.left → HaveSameLeft a z → BeginsSo gap g b a ↔ BeginsSo other g b z
same_begin gap other g b AllNull z l h = absurd h
same_begin gap other g b (At w i tl tr lk rk) AllNull l h = absurd h
same_begin gap other g b (At w i tl tr lk rk) (At w' i' tl' tr' lk' rk') l h =
    let keys : left_of gap g b ≡ left_of other g b = λ i. left_of (record gap { left = l i }) g b in (
      λ s. (sym h.2 ∙ s.0, sym h.3 ∙ s.1 ∙ ap Some keys),
      λ s. (h.2 ∙ s.0, h.3 ∙ s.1 ∙ sym (ap Some keys)),
    )

start_at : (gap : Gap) (s : Start) (a : Alt) → StartsSo gap s a → StandsAt s.group.word a
start_at gap s AllNull h = absurd h.0
start_at gap s (At w i tl tr lk rk) h = h.0.0

one_word : (v w : ℕ) (a : Alt) → StandsAt v a → StandsAt w a → v ≡ w
one_word v w AllNull s t = absurd s
one_word v w (At u i tl tr lk rk) s t = sym s ∙ t

in_at : (word from to : ℕ) (a : Alt) → StandsIn word from to a → StandsAt word a
in_at word from to AllNull s = absurd s
in_at word from to (At w i tl tr lk rk) s = s.0

before_at : (word end : ℕ) (a : Alt) → StandsAt word a → word < end → StandsBefore end a
before_at word end AllNull s l = absurd s
before_at word end (At w i tl tr lk rk) s l = let e = s in omega arith

before_cases : (word : ℕ) (a : Alt) → StandsBefore (word + 1) a → StandsBefore word a ⊎ StandsAt word a
before_cases word AllNull s = inl tt
before_cases word (At w i tl tr lk rk) s = elim (cases_lt w word) [ inl h ↦ inl h | inr h ↦ inr (let x = s in omega arith) ]

at_before : (word end : ℕ) (a : Alt) → StandsAt word a → StandsBefore end a → word < end
at_before word end AllNull s l = absurd s
at_before word end (At w i tl tr lk rk) s l = let e = s in omega arith

-- ---- the alternatives of a region that begins so, with as many unlinked words on the left as the origin says

abbrev lead_at : Option Connector → Lead
lead_at c = record { side = Right; class = class_at c }

module _ (n : Numbering) (are : AreListsOf n.positions n.lists) (law : RegionsBeginAlike) (origin : Origin) where
  abbrev IsOf : Gap → Alt → Type 0
  IsOf gap a = IsAltAt n gap origin.nulls a

  module _ (gap : Gap) (b : BeginsWith n origin gap) where
    -- it is cut inside, with room behind the word
    pub cut_inside : (a : Alt) → IsOf gap a → (w : ℕ) × StandsAt w a × (gap.left < w) × (w < end_of gap origin.nulls)
    cut_inside a i = by a (law.inside n origin gap a are b i.0) i.1
      where
        by : (a : Alt) → CutsInside gap a → LeavesLeft origin.nulls a → (w : ℕ) × StandsAt w a × (gap.left < w) × (w < end_of gap origin.nulls)
        by AllNull x l = absurd x
        by (At w m tl tr None rk) x l = absurd l
        by (At w m tl tr (Some (Whole z)) rk) x l = absurd l
        by (At w m tl tr (Some (Between p q ll rl k)) rk) x l = (w, refl, x.0, subst (λ v. w < end_of gap v) l x.2)

    pub none_before : (a : Alt) → IsOf gap a → StandsBefore (gap.left + 1) a → ⊥
    none_before a i s = let r = cut_inside a i in let x = r.2 in let y = at_before r.0 (gap.left + 1) a r.1 s in omega arith

    module _ (other : Gap) (o : BeginsWith n origin other) where
      lefts : gap.left ≡ other.left
      lefts = b.left_is ∙ sym o.left_is

      leads : gap.lead ≡ other.lead
      leads = let same = b.llist_is ∙ sym o.llist_is in elim (cases_lt gap.llist 1) [
        | inl p ↦ (let z : gap.llist ≡ 0 = omega arith in b.rlead z ∙ ap lead_at (b.last_is z ∙ sym (o.last_is (sym same ∙ z))) ∙ sym (o.rlead (sym same ∙ z)))
        | inr p ↦ b.lead (λ z. omega arith) ∙ ap (left_lead n) same ∙ sym (o.lead (λ z. omega arith))
      ]

      -- an alternative of the one, where the other has room behind its word
      moved : (word : ℕ) (a : Alt) → IsOf gap a → StandsAt word a → word < end_of other origin.nulls → (z : Alt) × IsOf other z × HaveSameLeft a z
      moved word a i s l = law.alike n origin other gap a are o b i (before_at word (end_of other origin.nulls) a s l)

      pub start_moved : (s : Start) → s.begin.nulls ≡ origin.nulls → IsStart n gap s → s.group.word < end_of other origin.nulls → IsStart n other s
      start_moved s level x l =
          let e = lefts in
          let after = x.group.after in
          let a = x.some.0 in
          let r = moved s.group.word a (x.some.1.0, subst (λ z. LeavesLeft z a) level (leaves gap s.group s.begin a x.some.2)) (in_at s.group.word s.group.from s.group.to a x.some.1.1) l in record {
            group = record {
              after = omega arith;
              before = omega arith;
              listed = x.group.listed;
              known = x.group.known;
              left = subst (λ z. HaveLeft n z s.group.word s.group.left s.group.from s.group.to) leads x.group.left;
              first = subst (λ z. IsNextLed n z s.group.word s.group.from s.group.from) leads x.group.first;
            };
            some = (r.0, (r.1.0, (same_in s.group.word s.group.from s.group.to a r.0 r.2).0 x.some.1.1), (same_begin gap other s.group s.begin a r.0 e r.2).0 x.some.2);
          }

  -- nothing was looked at
  pub opening_new : (es : Entries) (o : Opening) → o.done ≡ origin.left + 1 → o.starts.items ≡ [] → IsOpening n es origin o
  opening_new es o d e =
      let none : (s : Start) → Contains o.starts.items s → ⊥ = λ s c. contains_none s (subst (λ z. Contains z s) e c) in
      let behind : (gap : Gap) (a : Alt) → BeginsWith n origin gap → IsOf gap a → StandsBefore o.done a → ⊥ =
      λ gap a b i s. (let q = b.left_is in
      let d' : o.done ≡ gap.left + 1 = omega arith in
      none_before gap b a i (subst (λ z. StandsBefore z a) d' s)) in record {
        behind = omega arith;
        before = λ s c. absurd (none s c);
        level = λ s c. absurd (none s c);
        each = λ gap s b c. absurd (none s c);
        live = λ gap s b c. absurd (none s c);
        some = λ gap a b i s live. absurd (behind gap a b i s);
        apart = λ gap i j s t a f g. absurd (none s (contains_at o.starts.items i s f));
        asked = λ gap a k b i s f. absurd (behind gap a b i s);
      }

  -- one word more was looked at
  module _ (key : Key) (gap : Gap) (word : ℕ) (is : IsKeyOfGap key gap) (b : BeginsWith n origin gap) (lt : word < end_of gap origin.nulls) (mid new : Entries) (old : Opening) (next : Opening) (d : old.done ≡ word) (opens : OpensWord n gap origin.nulls word old next)
      (kept : (k : Key) → Contains (keys_of mid) k → Contains (keys_of new) k) (there : (k : Key) → AsksLeft n key origin.nulls (StandsAt word) k → Contains (keys_of new) k) where
    starts_cases : (s : Start) → Contains next.starts.items s → Contains old.starts.items s ⊎ Contains opens.more s
    starts_cases s c = Contains-append_cases old.starts.items opens.more s (subst (λ z. Contains z s) opens.added c)

    starts_left : (s : Start) → Contains old.starts.items s → Contains next.starts.items s
    starts_left s c = subst (λ z. Contains z s) (sym opens.added) (Contains-append_left old.starts.items opens.more s c)

    starts_right : (s : Start) → Contains opens.more s → Contains next.starts.items s
    starts_right s c = subst (λ z. Contains z s) (sym opens.added) (Contains-append_right old.starts.items opens.more s c)

    end_cases : (a : Alt) → StandsBefore next.done a → StandsBefore old.done a ⊎ StandsAt word a
    end_cases a s = elim (before_cases word a (subst (λ z. StandsBefore z a) opens.done s)) [ inl h ↦ inl (subst (λ z. StandsBefore z a) (sym d) h) | inr h ↦ inr h ]

    pub word_opened : IsOpening n mid origin old → IsOpening n new origin next
    word_opened x = record {
      behind = (let e = opens.done in let l = x.behind in omega arith);
      before = λ s c. (let e = opens.done in elim (starts_cases s c) [ inl h ↦ (let l = x.before s h in omega arith) | inr h ↦ (let l = (opens.each s h).0 in omega arith) ]);
      level = λ s c. elim (starts_cases s c) [ inl h ↦ x.level s h | inr h ↦ (opens.each s h).1 ];
      each = λ other s o c l. elim (starts_cases s c) [ inl h ↦ x.each other s o h l | inr h ↦ start_moved gap b other o s (opens.each s h).1 (opens.each s h).2 l ];
      live = λ other s o c. elim (starts_cases s c) [
        | inl h ↦ x.live other s o h
        | inr h ↦ (let l = lefts gap b other o in let keys : left_of gap s.group s.begin ≡ left_of other s.group s.begin = λ i. left_of (record gap { left = l i }) s.group s.begin in
            subst (HasLinkageUnder n.positions n.lists) keys (opens.each s h).3)
      ];
      some = λ other a o i s live. elim (end_cases a s) [
        | inl h ↦ (let r = x.some other a o i h live in (r.0, starts_left r.0 r.1, r.2))
        | inr h ↦ (let m = moved other o gap b word a i h lt in
            let r = opens.some m.0 m.1 (same_word word a m.0 m.2 h) (subst (λ z. IfSome z (HasLinkageUnder n.positions n.lists)) (same_key a m.0 m.2) live) in
            let l = lefts other o gap b in
            (r.0, starts_right r.0 r.1, ((same_in r.0.group.word r.0.group.from r.0.group.to a m.0 m.2).1 r.2.0, (same_begin other gap r.0.group r.0.begin a m.0 l m.2).1 r.2.1)))
      ];
      apart = λ other i j s t a f g p q. elim (append_cases old.starts.items opens.more i s (subst (λ z. slice_get z i ≡ Some s) opens.added f)) [
        | inl h ↦ elim (append_cases old.starts.items opens.more j t (subst (λ z. slice_get z j ≡ Some t) opens.added g)) [
          | inl k ↦ x.apart other i j s t a h k p q
          | inr k ↦ absurd (old_not_more other s t a (contains_at old.starts.items i s h) (contains_at opens.more k.0 t k.2) p q)
        ]
        | inr h ↦ elim (append_cases old.starts.items opens.more j t (subst (λ z. slice_get z j ≡ Some t) opens.added g)) [
          | inl k ↦ absurd (old_not_more other t s a (contains_at old.starts.items j t k) (contains_at opens.more h.0 s h.2) q p)
          | inr k ↦ (let e = opens.apart other h.0 k.0 s t a h.2 k.2 p q in let u = h.1 in let v = k.1 in omega arith)
        ]
      ];
      asked = λ other a k o i s e. elim (end_cases a s) [
        | inl h ↦ kept k (x.asked other a k o i h e)
        | inr h ↦ (let m = moved other o gap b word a i h lt in there k (m.0, (alt_in n key gap m.0 is m.1.0, m.1.1), same_word word a m.0 m.2 h, sym (same_key a m.0 m.2) ∙ e))
      ];
    }
      where
        old_not_more : (other : Gap) (s t : Start) (a : Alt) → Contains old.starts.items s → Contains opens.more t → StartsSo other s a → StartsSo other t a → ⊥
        old_not_more other s t a c e p q =
            let l = x.before s c in let w = (opens.each t e).0 in let same = one_word s.group.word t.group.word a (start_at other s a p) (start_at other t a q) in omega arith

-- the left key of a start is in the table
pub start_there : (n : Numbering) (es : Entries) (origin : Origin) (o : Opening) (gap : Gap) (s : Start) → IsOpening n es origin o → BeginsWith n origin gap → Contains o.starts.items s → IsStart n gap s → Contains (keys_of es) (left_of gap s.group s.begin)
start_there n es origin o gap s x b has is =
    let a = is.some.0 in
    let h = is.some.1 in
    let p = is.some.2 in
    x.asked gap a (left_of gap s.group s.begin) b (h.0, subst (λ z. LeavesLeft z a) (x.level s has) (leaves gap s.group s.begin a p))
    (before_at s.group.word o.done a (in_at s.group.word s.group.from s.group.to a h.1) (x.before s has)) (ending_left gap s.group s.begin a p)

-- ---- the words of a region

before_next : (word next : ℕ) (a : Alt) → next ≡ word + 1 → StandsBefore next a ↔ (StandsBefore word a ⊎ StandsAt word a)
before_next word next AllNull e = (λ s. inl tt, λ h. tt)
before_next word next (At w i tl tr lk rk) e = (λ s. elim (cases_lt w word) [ inl h ↦ inl h | inr h ↦ inr (omega arith) ], λ h. elim h [ inl s ↦ omega arith | inr s ↦ (let x = s in omega arith) ])

pub words_next : (n : Numbering) (key : Key) (nulls word next : ℕ) → next ≡ word + 1 → (old mid new : Entries) → Asked n (AsksLeft n key nulls (StandsBefore word)) old mid → Asked n (AsksLeft n key nulls (StandsAt word)) mid new
    → Asked n (AsksLeft n key nulls (StandsBefore next)) old new
words_next n key nulls word next e old mid new x y = lefts_then n key nulls (StandsBefore word) (StandsAt word) (StandsBefore next) (λ a. before_next word next a e) old mid new x y

module _ (n : Numbering) (are : AreListsOf n.positions n.lists) (law : RegionsBeginAlike) (origin : Origin) (key : Key) (gap : Gap) (is : IsKeyOfGap key gap) (b : BeginsWith n origin gap) where
  here : (a : Alt) → IsAltWith n key origin.nulls a → IsAltAt n gap origin.nulls a
  here a alt = (alt_out n key gap a is alt.0, alt.1)

  -- what an opening tells is in the table
  pub words_first : (o : Opening) (es : Entries) → IsTable n es → IsOpening n es origin o → Asked n (AsksLeft n key origin.nulls (StandsBefore o.done)) es es
  words_first o es table x = asked_same n (AsksLeft n key origin.nulls (StandsBefore o.done)) es table (λ k (a, alt, s, e). x.asked gap a k b (here a alt) s e)

  pub words_all : (word : ℕ) → end_of gap origin.nulls ≤ word → (old new : Entries) → Asked n (AsksLeft n key origin.nulls (StandsBefore word)) old new → Asked n (AsksLeft n key origin.nulls IsAny) old new
  words_all word l old new x =
      lefts_as n key origin.nulls (StandsBefore word) IsAny (λ a alt. (λ s. tt, λ t. let r = cut_inside n are law origin gap b a (here a alt) in let lt = r.3 in before_at r.0 word a r.1 (omega arith))) old new x

  -- each alternative whose left key has a linkage starts so
  pub opening_some : (o : Opening) (es : Entries) → end_of gap origin.nulls ≤ o.done → IsOpening n es origin o → (a : Alt) → IsAltWith n key origin.nulls a → IsLiveLeft n a → (s : Start) × Contains o.starts.items s × StartsSo gap s a
  opening_some o es l x a alt live = let r = cut_inside n are law origin gap b a (here a alt) in let lt = r.3 in x.some gap a b (here a alt) (before_at r.0 o.done a r.1 (omega arith)) live

  -- none starts at a word behind which there is no room
  pub none_starts : (s : Start) → s.begin.nulls ≡ origin.nulls → end_of gap origin.nulls ≤ s.group.word → (a : Alt) → IsAltOf n.positions n.lists key a → StartsSo gap s a → ⊥
  none_starts s level l a alt h =
      let r = cut_inside n are law origin gap b a (here a (alt, subst (λ z. LeavesLeft z a) level (leaves gap s.group s.begin a h.1))) in
      let e = one_word r.0 s.group.word a r.1 (start_at gap s a h) in let lt = r.3 in omega arith
