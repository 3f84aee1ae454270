use Rattle.std.proofs.Common.{◌≡◌, ℕ, ◌<◌, ◌+◌, false, List, [], ◌∷◌, ◌++◌, length, get_or, inl, inr, subst, length-set, arith}
use Rattle.std.proofs.lemmas.Bool.{cases_lt}
use Rattle.std.proofs.lemmas.List.{get_or_append_left, get_or_push, length_push}
use Rattle.lg_pp.specs.Steps.{AreLeasts, AreStillAlike, IsLeastOf}
use Rattle.lg_pp.proofs.Parting.{flags_same, flags_apart, same_least, least_with, others_stay, others_more}
use Rattle.lg_pp.proofs.group.parted.Goals as goal
use Rattle.lg_pp.proofs.group.parted.Goals.{then-flags-n+in_ok-push, else-flags-n+in_ok-push-2}

leasts_push : (R : ℕ → ℕ → Type 0) (n m : ℕ) (leasts : List ℕ) → AreLeasts R n leasts → IsLeastOf R n m → AreLeasts R (n + 1) (leasts ++ m ∷ [])
leasts_push R n m leasts are here =
    let same = are.same_length in
    record {
      same_length = rw length_push (cc);
      each = λ k less. elim (cases_lt k n) [
        | inl earlier ↦ rw (get_or_append_left leasts (m ∷ []) 0 k (omega arith)) (are.each k earlier)
        | inr past ↦ let at : n ≡ k = omega arith in subst (λ i. IsLeastOf R i (get_or (leasts ++ m ∷ []) i 0)) at (rw (get_or_push leasts m 0 n same) here)
      ];
    }

-- the class of the number keeps its least number, or has the first one with the other flag
pub loop-n-preserved : goal.loop-n-preserved
loop-n-preserved c =
    let leasts = c.args.leasts.now in
    let flags = c.args.flags.now in
    let heads = c.requires.heads in
    let n = c.loop-n.n in
    let within : n < length leasts = omega arith in
    let R = AreStillAlike leasts flags in
    let others = c.loop-n.others.items in
    let parts = c.loop-n.parts.items in
    let h = c.loop-n.invariant in
    elim c.if-flags-n.branch [
      | then-flags-n+in_ok-push w ↦
          let same = flags_same (get_or flags n false) (get_or flags (get_or leasts n 0) false) w.if-flags-n.true in
          record {
            enough = rw w.others-is h.enough;
            parts = rw (w.parts-is, w.in_ok-push.ensures.items) (leasts_push R n (get_or leasts n 0) parts h.parts (same_least leasts flags heads n within same));
            first = rw w.others-is (others_stay leasts flags heads n others same h.first);
          }
      | else-flags-n+in_ok-push-2 w ↦
          let other = flags_apart (get_or flags n false) (get_or flags (get_or leasts n 0) false) w.if-flags-n.false in
          let o = w.first_other.result in
          let is = w.first_other.ensures.first in
          record {
            enough = rw (w.others-is, w.first_other.ensures.noted) (omega (arith, h.enough, length-set others (get_or leasts n 0) o));
            parts = rw (w.parts-is, w.in_ok-push-2.ensures.items) (leasts_push R n o parts h.parts (least_with leasts flags heads n others within h.enough other h.first o is));
            first = rw (w.others-is, w.first_other.ensures.noted) (others_more leasts flags heads n others within h.enough other h.first o is);
          }
    ]
