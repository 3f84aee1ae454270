-- A pass is ready after each of its steps.
use Rattle.std.proofs.Common.{◌≡◌, ℕ, ◌+◌, ◌<◌, ◌≤◌, true, false, eqb, List, [], ◌∷◌, ◌++◌, length, sum, refl, ap, sym, ◌∙◌, subst, arith, length-append, le_trans, zero-le}
use Rattle.std.specs.List.{list_any, IsDistinct}
use Rattle.std.proofs.lemmas.Bool.{both_ways}
use Rattle.std.proofs.lemmas.Map.Keys.{IsDistinct-push}
use Rattle.std.proofs.lemmas.Cmp.{nat_eq_equiv}
use Rattle.atomic_table.specs.Seated.{TableId}
use Rattle.lg_log.specs.declared.view.View.{View}
use Rattle.lg_log.specs.Codes.{is_code, code_session, is_of}
use Rattle.lg_log.specs.Passes.{LogId, Standing, IsOther, CarriesAll}
use Rattle.lg_log.specs.Views.{standing, first_view, sees, IsReady}
use Rattle.lg_log.specs.Steps.{Seated, IsNext}
use Rattle.lg_log.proofs.CodeLaws.{codes_are_of_edits}
use Rattle.lg_log.proofs.Lists.{all_push}

pub ready_start : (table : TableId) (me : Seated) (counts seen : List ℕ) (capacity : ℕ) → me ≡ (first_view counts, []) → table.words ≡ sum counts + 1 → seen ≡ [] → sum counts ≤ capacity → IsReady table me seen capacity
unfolding IsDistinct
ready_start table me counts seen capacity is words empty room = subst (λ (m : Seated). IsReady table m seen capacity) (sym is)
    (record { live = refl; no_note = refl; no_slot = refl; same = empty; words = words; room = room; few = zero-le; codes = refl; distinct = tt })

module _ (table : TableId) (me : Seated) (seen : List ℕ) (capacity : ℕ) (r : IsReady table me seen capacity) where
  pub ready_with_code : (table' : TableId) (after : Seated) (code : ℕ) → table' ≡ table → after.0 ≡ sees me.0 code → after.1 ≡ me.1
      → list_any (eqb code) me.0.seen ≡ false → is_code me.0.counts code ≡ true → length me.0.seen + 1 ≤ sum me.0.counts
      → (seen' : List ℕ) (capacity' : ℕ) → seen' ≡ seen ++ code ∷ [] → capacity ≤ capacity' → IsReady table' after seen' capacity'
  ready_with_code table' after code there is slots fresh good room seen' capacity' more grows =
      let long : length (me.0.seen ++ code ∷ []) ≡ length me.0.seen + 1 = length-append me.0.seen (code ∷ []) in
      subst (λ (z : TableId × Seated). IsReady z.0 z.1 seen' capacity') (λ i. (sym there i, (sym is i, sym slots i)))
      (record {
        live = r.live;
        no_note = r.no_note;
        no_slot = r.no_slot;
        same = more ∙ ap (λ (l : List ℕ). l ++ code ∷ []) r.same;
        words = r.words;
        room = le_trans r.room grows;
        few = omega arith;
        codes = all_push (is_code me.0.counts) me.0.seen code r.codes good;
        distinct = IsDistinct-push nat_eq_equiv me.0.seen code r.distinct fresh;
      })

-- the seat of a pass of this log is of the log's table
pub same_table : (seat table : TableId) (v : View) (counts : List ℕ) (pass : Standing) (log : LogId) → standing seat v ≡ pass → record { table = table; counts = counts } ≡ log → pass.log ≡ log → seat ≡ table
same_table seat table v counts pass log is log_is of_log = ap (λ (p : Standing). p.log.table) is ∙ ap (λ (l : LogId). l.table) of_log ∙ sym (ap (λ (l : LogId). l.table) log_is)

-- the table has a word just after all that was seen
pub next_word_is_there : (seat table : TableId) (me : Seated) (seen : List ℕ) (capacity : ℕ) → IsReady seat me seen capacity → seat ≡ table → length me.0.seen < table.words
next_word_is_there seat table me seen capacity r there = let words : seat.words ≡ table.words = ap (λ (z : TableId). z.words) there in omega (arith, r.words, r.few)

pub is_other : (seat : TableId) (v : View) (code : ℕ) (pass : Standing) → standing seat v ≡ pass → v.live ≡ true → IsNext v code → IsOther pass code
is_other seat v code pass is live next = subst (λ (p : Standing). IsOther p code) is (next.good live, next.other)

-- a pass that carries all sessions finds no other code
pub no_other : (pass : Standing) (code : ℕ) → CarriesAll pass → IsOther pass code → ⊥
no_other pass code all other = both_ways (is_of pass.sessions code) other.1 (all (code_session code) (codes_are_of_edits pass.log.counts code other.0).1)
