-- The search goes on, one step after another.
use Rattle.std.proofs.Common.{◌≡◌, ℕ, suc, ◌+◌, ◌≤◌, List, [], length, OnOk, sym, ap, subst, arith}
use Rattle.std.specs.declared.result.Result.{Result}
use Rattle.std.specs.declared.result.Result.TheVariants.{Ok, Err}
use Rattle.lg_region.specs.Fronts.{Numbering}
use Rattle.lg_region.specs.Keys.{IsValidKey}
use Rattle.lg_region.specs.Openings.{IsGapOf}
use Rattle.lg_region.specs.declared.alternative.Alt.{Alt}
use Rattle.lg_region.specs.declared.group.Gap.{Gap}
use Rattle.lg_region.specs.declared.key.Key.{Key}
use Rattle.lg_forest.specs.Entries.{IsEntered}
use Rattle.lg_forest.specs.Demands.{AsksNext}
use Rattle.lg_forest.specs.Forests.{AreLive}
use Rattle.lg_forest.specs.Goes.{Goes, IsReady, IsValidGap, gap_width, key_of}
use Rattle.lg_forest.specs.Known.{AreKnown}
use Rattle.lg_forest.specs.Opened.{IsMemory}
use Rattle.lg_forest.specs.Search.{Asked, HasRoom, IsCounted, IsTable, KeysAreDecided, key_width}
use Rattle.lg_forest.specs.declared.memory.Memory.{Memory}
use Rattle.lg_forest.specs.declared.search.Search.{Search}
use Rattle.lg_forest.proofs.Asked.{asked_added}
use Rattle.lg_forest.proofs.Once.{contains_none}
use Rattle.lg_forest.proofs.Opening.{memory_added, memory_first}

-- ---- what may be asked for

-- a narrower width
pub ready_less : {n : Numbering} {width narrower i : ℕ} {a : Search} → IsReady n width a i → narrower ≤ width → IsReady n narrower a i
ready_less ready less = let room = ready.room in record { decided = ready.decided; table = ready.table; known = ready.known; room = omega arith }

-- after the search went on
pub ready_after : {n : Numbering} {P : Key → Type 0} {more width narrower i j : ℕ} {a b : Search} → IsReady n width a i → Goes n P more a i b j → more + narrower ≤ width → IsReady n narrower b j
ready_after ready goes less =
    let room = ready.room in
    let steps = goes.steps in
    let fewer = goes.left.fewer in
    record { decided = ready.decided; table = goes.asked.is_table; known = goes.left.known; room = omega arith }

-- before the search
pub ready_first : {n : Numbering} {known : List (Key × List Alt)} {width i : ℕ} {a : Search} → KeysAreDecided n → AreKnown n known → a.table ≡ [] → a.memory.known ≡ known → a.memory.openings ≡ [] → a.memory.halves ≡ [] → a.memory.shut ≡ [] → HasRoom width i [] → IsReady n width a i
ready_first {n} {known} {width} {i} {a} decided are none same empty no_halves no_shut room = record {
  decided = decided;
  table = subst (IsTable n) (sym none) (record { valid = λ k h. absurd (contains_none k h); live = λ k alts h. absurd (contains_none (k, alts) h); closed = λ k m h. absurd (contains_none k h) });
  known = memory_first n a.table a.memory known same empty no_halves no_shut are;
  room = subst (λ z. HasRoom width i z) (sym none) room;
}

-- the region of a key
pub gap_valid : {n : Numbering} {key : Key} {gap : Gap} → IsValidKey n.positions n.lists key → IsGapOf n key gap → IsValidGap n gap
gap_valid {n} {key} {gap} valid is = record { valid = subst (λ z. IsValidKey n.positions n.lists z) is.key_is valid; is_gap = subst (λ z. IsGapOf n z gap) is.key_is is }

-- a step of the key is counted
pub ready_ticked : {n : Numbering} {key : Key} {gap : Gap} {i j : ℕ} {a : Search} → j ≡ i + 1 → IsGapOf n key gap → IsReady n (suc (key_width n.positions key)) a i → IsReady n (gap_width gap) a j
ready_ticked {n} {key} {gap} ticked is ready =
    let room = ready.room in
    let width : key_width n.positions key ≡ gap_width gap = ap (key_width n.positions) is.key_is in
    record { decided = ready.decided; table = ready.table; known = ready.known; room = omega arith }

-- ---- how the search goes on

-- nothing is done yet
pub goes_none : {n : Numbering} {Kind : Key → Type 0} {width i : ℕ} {a : Search} → IsReady n width a i → Asked n Kind a.table a.table → Goes n Kind 0 a i a i
goes_none ready asked = record { asked = asked; left = record { known = ready.known; fewer = omega arith }; steps = omega arith; later = omega arith }

-- one after the other
pub goes_then : {n : Numbering} {P Q R : Key → Type 0} {more i j k : ℕ} {a b c : Search} → Goes n P more a i b j → Goes n Q 0 b j c k → Asked n R a.table c.table → Goes n R more a i c k
goes_then x y asked =
    let before = x.steps in
    let after = y.steps in
    let earlier = x.later in
    let later = y.later in
    let fewer = x.left.fewer in
    let fewest = y.left.fewer in
    record { asked = asked; left = record { known = y.left.known; fewer = omega arith }; steps = omega arith; later = omega arith }

-- from a state with the same table and memory
pub goes_from : {n : Numbering} {P : Key → Type 0} {more i j : ℕ} {a b c : Search} → b.table ≡ a.table → b.memory ≡ a.memory → Goes n P more b i c j → Goes n P more a i c j
goes_from {n} {P} {more} {i} {j} {a} {b} {c} table memory x =
    let known : length b.memory.known ≡ length a.memory.known = ap (λ (m : Memory). length m.known) memory in
    let steps = subst (λ z. IsCounted more (i + length c.memory.known) z (j + length b.memory.known) c.table) table x.steps in
    let fewer = x.left.fewer in
    record { asked = subst (λ z. Asked n P z c.table) table x.asked; left = record { known = x.left.known; fewer = omega arith }; steps = omega arith; later = x.later }

-- the state has another form, with the same table and memory
pub ready_from : {n : Numbering} {width i : ℕ} {a b : Search} → b.table ≡ a.table → b.memory ≡ a.memory → IsReady n width a i → IsReady n width b i
ready_from {n} {width} {i} {a} {b} table memory ready = record {
  decided = ready.decided;
  table = subst (IsTable n) (sym table) ready.table;
  known = subst (λ z. IsMemory n z b.memory) (sym table) (subst (IsMemory n a.table) (sym memory) ready.known);
  room = subst (HasRoom width i) (sym table) ready.room;
}

-- the same kind in other words
pub goes_as : {n : Numbering} {P Q : Key → Type 0} {more i j : ℕ} {a b : Search} → Goes n P more a i b j → Asked n Q a.table b.table → Goes n Q more a i b j
goes_as x asked = record { asked = asked; left = x.left; steps = x.steps; later = x.later }

-- the key itself is added
pub goes_added : {n : Numbering} {key : Key} {alts : List Alt} {i j : ℕ} {a b c : Search} → IsValidKey n.positions n.lists key → AreLive n.positions n.lists key alts → Goes n (AsksNext n.positions n.lists key) 1 a i b j
    → IsEntered b.table key alts c.table → c.memory ≡ b.memory → Goes n (λ k. k ≡ key) 0 a i c j
goes_added {n} {key} {alts} {i} {j} {a} {b} {c} valid live x added same =
    let long = added.longer in
    let left : length c.memory.known ≡ length b.memory.known = ap (λ (m : Memory). length m.known) same in
    let steps = x.steps in
    let fewer = x.left.fewer in
    record {
      asked = asked_added n key alts a.table b.table c.table valid live x.asked added;
      left = record {
        known = subst (λ z. IsMemory n c.table z) (sym same) (memory_added n b.table c.table key alts b.memory added x.left.known);
        fewer = omega arith;
      };
      steps = omega arith;
      later = x.later;
    }

-- what is known of the table that is taken out
pub asked_taken : {n : Numbering} {Kind : Key → Type 0} {more i j : ℕ} {a b : Search} {table : List (Key × List Alt)} → Goes n Kind more a i b j → table ≡ b.table → Asked n Kind a.table table
asked_taken {n} {Kind} {more} {i} {j} {a} x e = subst (Asked n Kind a.table) (sym e) x.asked

pub counts_taken : {n : Numbering} {Kind : Key → Type 0} {i j : ℕ} {a b : Search} {known table : List (Key × List Alt)} → Goes n Kind 0 a i b j → a.memory.known ≡ known → table ≡ b.table
    → IsCounted 0 (i + length b.memory.known) a.table (j + length known) table × (length b.memory.known ≤ length known)
counts_taken {n} {Kind} {i} {j} {a} {b} {known} {table} x same e =
    let steps = x.steps in
    let fewer = x.left.fewer in
    let all : length a.memory.known ≡ length known = ap length same in
    let long : length table ≡ length b.table = ap length e in
    (omega arith, omega arith)

-- ---- behind a last call

pub ok_then : {T E : Type 0} {n : Numbering} {P Q R : Key → Type 0} {more i j : ℕ} {a b : Search} (r : Result T E) (c : Search) (k : ℕ) → Goes n P more a i b j → OnOk r (Goes n Q 0 b j c k) → (Asked n Q b.table c.table → Asked n R a.table c.table) → OnOk r (Goes n R more a i c k)
ok_then (Ok r) c k x y to = goes_then x y (to y.asked)
ok_then (Err e) c k x y to = tt

pub ok_goes : {T E : Type 0} {n : Numbering} {P Q : Key → Type 0} (r : Result T E) (more i j : ℕ) (a b : Search) → OnOk r (Goes n P more a i b j) → (Asked n P a.table b.table → Asked n Q a.table b.table) → OnOk r (Goes n Q more a i b j)
ok_goes (Ok r) more i j a b x to = goes_as x (to x.asked)
ok_goes (Err e) more i j a b x to = tt

-- a step of the key was counted before
pub ok_ticked : {T E : Type 0} {n : Numbering} {key : Key} {gap : Gap} {j : ℕ} (r : Result T E) (i k : ℕ) (a b : Search) → j ≡ i + 1 → IsGapOf n key gap → OnOk r (Goes n (AsksNext n.positions n.lists (key_of gap)) 0 a j b k)
    → OnOk r (Goes n (AsksNext n.positions n.lists key) 1 a i b k)
ok_ticked {T} {E} {n} {key} {gap} {j} (Ok r) i k a b ticked is x =
    let steps = x.steps in
    let later = x.later in
    record { asked = subst (λ z. Asked n (AsksNext n.positions n.lists z) a.table b.table) (sym is.key_is) x.asked; left = x.left; steps = omega arith; later = omega arith }
ok_ticked (Err e) i k a b ticked is x = tt
