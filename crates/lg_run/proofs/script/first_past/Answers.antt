use Rattle.std.proofs.Common.{◌∷◌, ◌∙◌, ℕ, List, length, map, string_bytes, sym, ap, arith}
use Rattle.std.proofs.Math.Nat.{lt_of_not-le}
use Rattle.std.specs.Iterator.Adapters.{zip_second}
use Rattle.std.specs.Slice.Iter.{iter_rest}
use Rattle.lg_script.specs.EditNumbers.{edit_counts}
use Rattle.lg_script.specs.declared.command.Command.{Command}
use Rattle.lg_script.specs.Commands.{script_views}
use Rattle.lg_run.proofs.EditSums.{left_next, left_past}
use Rattle.lg_run.proofs.script.first_past.Goals as goal

-- the edits of this script are within what is left
pub loop-name-preserved : goal.loop-name-preserved
loop-name-preserved c =
    let more = c.in-Some.ensures.steps in
    let w = c.loop-name.invariant in
    let less = c.in-Some-checked_sub.ensures in
    let others = edit_counts (script_views (iter_rest (zip_second c.next.new.self))) in
    record {
      can_next = (tt, tt);
      is_finite = tt;
      same = omega (arith, w.same, ap length more.0, ap length more.1);
      left = rw less.1 (left_next _ _ c.loop-name.left w.left (string_bytes c.in-Some.name.now) c.edit_count.result (ap (map string_bytes) more.0) (ap (λ (l : List (List Command)). edit_counts (script_views l)) more.1 ∙ ap (λ (n : ℕ). n ∷ others) (sym c.edit_count.ensures)) less.0);
    }

-- or beyond it
pub returns-in-None-checked_sub : goal.returns-in-None-checked_sub
returns-in-None-checked_sub c =
    let more = c.in-Some.ensures.steps in
    let others = edit_counts (script_views (iter_rest (zip_second c.next.new.self))) in
    let past = left_past _ _ c.loop-name.left c.loop-name.invariant.left (string_bytes c.in-Some.name.now) c.edit_count.result (ap (map string_bytes) more.0) (ap (λ (l : List (List Command)). edit_counts (script_views l)) more.1 ∙ ap (λ (n : ℕ). n ∷ others) (sym c.edit_count.ensures)) (lt_of_not-le c.in-None-checked_sub.ensures) in
    rw c.as_str.ensures.value (past.0, past.1, past.2.0, past.2.1)
