-- What is left of the members is a problem with the linkages that have few unlinked words.
use Rattle.std.proofs.Common.{◌≡◌, ℕ, ◌+◌, List, length, map, refl, sym, ap, ◌∙◌, subst, arith}
use Rattle.std.specs.List.{range_with_len}
use Rattle.lg_gram.specs.Problems.{IsProblem}
use Rattle.lg_gram.specs.declared.disjunct.Disjunct.{Disjunct}
use Rattle.lg_member.specs.Laws.{AreLeftOf, MembersGoByRounds, RowsAreProblems}
use Rattle.lg_member.specs.Members.{row_at, AreMembers}
use Rattle.lg_member.specs.declared.side.Side.{Side}
use Rattle.lg_member.specs.declared.member.Member.{Member}
use Rattle.lg_sharpen.specs.Sharp.{IsSharpened}
use Rattle.lg_sharpen.specs.Bounds.{AreMembersOf, KeepsChosen}

sharpened : (nulls most : ℕ) (positions rows : List (List Disjunct)) (old new : List Member) → most ≡ nulls + 1 → AreLeftOf positions rows old new → KeepsChosen (length positions) most old new
    → IsSharpened positions nulls rows
sharpened nulls most positions rows old new em a k = record {
  is_problem = a.is_problem;
  same_length = a.same_length;
  fewer = λ i d c. (a.whole i d).1 (a.fewer i d ((a.part i d).0 c));
  same = λ g few. (
    (λ good. record {
      belongs = record {
        same_length = good.belongs.same_length ∙ sym a.same_length;
        listed = λ i d e.
            (a.part i d).1
            (k.chosen g (record { rules = good.rules; connected = good.connected; few = omega arith }) good.belongs.same_length (λ j b q. (a.whole j b).0 (good.belongs.listed j b q)) i d e);
        set = good.belongs.set;
      };
      rules = good.rules;
      connected = good.connected;
    }),
    (λ good. record {
      belongs = record {
        same_length = good.belongs.same_length ∙ a.same_length;
        listed = λ i d e. (a.whole i d).1 (a.fewer i d ((a.part i d).0 (good.belongs.listed i d e)));
        set = good.belongs.set;
      };
      rules = good.rules;
      connected = good.connected;
    }),
  );
}

-- what is left, written as rows, is the sharper problem
pub finished : RowsAreProblems → (nulls most n : ℕ) (positions : List (List Disjunct)) (lefts rights : List Side) (old new seen : List Member) (made : List (List Disjunct)) → most ≡ nulls + 1
    → AreMembersOf positions n lefts rights old → KeepsChosen n most old new → seen ≡ new → made ≡ map (row_at seen) (range_with_len 0 n) → IsSharpened positions nulls made
finished law nulls most n positions lefts rights old new seen made em a k e f =
    subst (λ z. IsSharpened positions nulls z) (sym (f ∙ ap (λ z. map (row_at z) (range_with_len 0 n)) e ∙ ap (λ z. map (row_at new) (range_with_len 0 z)) a.long))
    (sharpened nulls most positions _ old new em (law positions lefts rights old new a.is_problem a.all k.left) (subst (λ z. KeepsChosen z most old new) a.long k))

-- all members may stay
pub keeps_all : MembersGoByRounds → (n most : ℕ) (members : List Member) → KeepsChosen n most members members
keeps_all law n most members = record { left = law.none members; chosen = λ g f e a. a }

-- the members of a problem of outlines or of disjuncts, by the slices of their sides
pub are_members : (positions known : List (List Disjunct)) (n : ℕ) (lefts rights l r : List Side) (members : List Member) → IsProblem positions → positions ≡ known → n ≡ length known
    → AreMembers known lefts rights members → l ≡ lefts → r ≡ rights → AreMembersOf positions n l r members
are_members positions known n lefts rights l r members p e en a el er = record {
  is_problem = p;
  long = en ∙ ap (λ z. length z) (sym e);
  all = subst (λ z. AreMembers z l r members) (sym e) (subst (λ z. AreMembers known z r members) (sym el) (subst (λ z. AreMembers known lefts z members) (sym er) a));
}

-- a small problem stays as it is
pub unsharpened : (nulls : ℕ) (positions : List (List Disjunct)) → IsProblem positions → IsSharpened positions nulls positions
unsharpened nulls positions p = record { is_problem = p; same_length = refl; fewer = λ i d c. c; same = λ g few. ((λ good. good), (λ good. good)) }
