use Rattle.std.proofs.Common.{◌≡◌, ℕ, ◌+◌, ◌≤◌, sym, ap, ◌∙◌, arith, sum, List, replicate, vec_capacity}
use Rattle.atomic_table.specs.Seated.{TableId}
use Rattle.lg_log.proofs.Ready.{ready_start}
use Rattle.lg_log.proofs.Splitting.{opens}
use Rattle.lg_log.proofs.log.Log.open.Goals as goal

pub of_words-requires : goal.of_words-requires
of_words-requires c =
    let counts : List ℕ = c.in_ok-about.about.items in
    let most : c.args.most ≡ sum counts = c.requires.most ∙ ap (λ (l : List ℕ). sum l) (sym c.in_ok-about.ensures.items) in
    let words : c.as_slice.result.now ≡ replicate (sum counts + 1) 0 = c.as_slice.ensures.value ∙ c.in_ok-words.ensures.items_if_clones_equal (λ y e. e) ∙ ap (λ (n : ℕ). replicate (n + 1) 0) most in
    opens counts c.as_slice.result.now words

pub invariant_of-result : goal.invariant_of-result
invariant_of-result c =
    let e = c.in_ok-table.ensures in
    let counts : List ℕ = c.in_ok-about.about.items in
    let most : c.args.most ≡ sum counts = c.requires.most ∙ ap (λ (l : List ℕ). sum l) (sym c.in_ok-about.ensures.items) in
    let words : c.in_ok-table.seat.table_id.words ≡ sum counts + 1 = ap (λ (z : TableId). z.words) e.2 ∙ e.0 ∙ c.as_slice.ensures.len ∙ c.in_ok-words.ensures.len ∙ ap (λ (n : ℕ). n + 1) most in
    let room : sum counts ≤ vec_capacity c.in_ok-seen.seen = omega (arith, most, c.in_ok-seen.ensures.capacity) in
    ready_start c.in_ok-table.seat.table_id c.in_ok-table.seat.me counts c.in_ok-seen.seen.items (vec_capacity c.in_ok-seen.seen) e.4 words c.in_ok-seen.ensures.items room
