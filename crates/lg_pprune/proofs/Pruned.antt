-- What is left when no round takes a member away is the pruned problem.
use Rattle.std.proofs.Common.{◌≡◌, List, length, map, sym, ap, ◌∙◌, subst}
use Rattle.std.specs.List.{range_with_len}
use Rattle.lg_gram.specs.Problems.{IsProblem}
use Rattle.lg_gram.specs.declared.disjunct.Disjunct.{Disjunct}
use Rattle.lg_member.specs.Laws.{AreLeftOf, RowsAreProblems}
use Rattle.lg_member.specs.Members.{seen_of, row_at, AreMembers}
use Rattle.lg_member.specs.declared.side.Side.{Side}
use Rattle.lg_member.specs.declared.member.Member.{Member}
use Rattle.lg_pprune.specs.Alive.{KeepsItself, IsPruned}
use Rattle.lg_pprune.specs.Supports.{KeepsAlive}

kept_supports : (positions rows : List (List Disjunct)) (old new : List Member) → AreLeftOf positions rows old new → KeepsAlive (length positions) old new → KeepsItself positions (map seen_of new)
kept_supports positions rows old new a k = record {
  listed = λ i d c. (a.whole i d).1 (a.fewer i d ((a.seen i d).0 c));
  right = λ i d p c h. let r = (k.supported i d ((a.seen i d).0 c)).0 p h in (r.0, r.1, r.2, (a.seen r.0 r.1).1 r.3, r.4);
  left = λ j d q c h. let r = (k.supported j d ((a.seen j d).0 c)).1 q h in (r.0, r.1, r.2, (a.seen r.0 r.1).1 r.3, r.4);
}

pruned : (positions rows : List (List Disjunct)) (old new : List Member) → AreLeftOf positions rows old new → KeepsAlive (length positions) old new → IsPruned positions rows
pruned positions rows old new a k = record {
  is_problem = a.is_problem;
  same_length = a.same_length;
  exactly = λ i d. (
    (λ c. (map seen_of new, kept_supports positions rows old new a k, (a.seen i d).1 ((a.part i d).0 c))),
    (λ v. (a.part i d).1
        (k.kept v.0 (λ j b c. ((a.whole j b).0 (v.1.listed j b c), ((λ q w. v.1.right j b q c w), (λ q w. v.1.left j b q c w)))) i d v.2)),
  );
}

-- what is left, written as rows, is the pruned problem
pub finished : RowsAreProblems → (positions : List (List Disjunct)) (lefts rights : List Side) (old new seen : List Member) (made : List (List Disjunct)) → AreMembers positions lefts rights old
    → KeepsAlive (length positions) old new → IsProblem positions → seen ≡ new → made ≡ map (row_at seen) (range_with_len 0 (length positions)) → IsPruned positions made
finished law positions lefts rights old new seen made a k p e f =
    subst (λ z. IsPruned positions z) (sym (f ∙ ap (λ z. map (row_at z) (range_with_len 0 (length positions))) e)) (pruned positions _ old new (law positions lefts rights old new p a k.left) k)
