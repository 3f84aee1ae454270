-- The linkage in which no word is linked is good, and it decides.
use Rattle.std.proofs.Common.{◌≡◌, ℕ, zero, suc, List, [], length, get_or, replicate, Option, Some, None, IsSome, refl, sym, ◌∙◌, subst, arith}
use Rattle.std.specs.Prelude.{is_none, cond}
use Rattle.std.specs.List.Sorted.{IsStrictlySortedBy}
use Rattle.std.proofs.lemmas.List.{length-replicate}
use Rattle.std.proofs.lemmas.List.Folds.{sum_by-replicate}
use Rattle.lg_gram.specs.Connectors.{Connector}
use Rattle.lg_gram.specs.Linkages.{Linkage, unlinked}
use Rattle.lg_gram.specs.Rules.{Good, HasLink, IsLinked, left_list, right_list}
use Rattle.lg_gram.specs.declared.disjunct.Disjunct.{Disjunct}
use Rattle.lg_gram.specs.declared.linkage.Link.{Link}
use Rattle.lg_knowread.specs.declared.knowledge.Knowledge.{Knowledge}
use Rattle.lg_knowread.specs.declared.knowledge.Rule.{Rule}
use Rattle.lg_knowread.specs.declared.knowledge.Rule.TheVariants.{Forbid, Demand, Bounded, Cycle}
use Rattle.lg_pp.specs.Breaks.{FailsAt}
use Rattle.lg_answer.specs.Candidates.{Decides}
use Rattle.lg_answer.specs.declared.options.Nulls.{Nulls}
use Rattle.lg_answer.specs.declared.options.Nulls.TheVariants.{First, Passing}

abbrev pub nothing_of : List (List Disjunct) → Linkage
nothing_of positions = record { chosen = replicate (length positions) None; links = [] }

nothing_at : (n i : ℕ) → get_or (replicate {A = Option Disjunct} n None) i None ≡ None
nothing_at zero i = refl
nothing_at (suc n) zero = refl
nothing_at (suc n) (suc i) = nothing_at n i

none_some : (d : Disjunct) → None ≡ Some d → ⊥
none_some d e = cc

no_place : (cs : List Connector) (p : ℕ) (c : Connector) → cs ≡ [] → Rattle.std.specs.Prelude.slice_get cs p ≡ Some c → ⊥
no_place cs p c none h = cc

no_link : (positions : List (List Disjunct)) (l : Link) → HasLink (nothing_of positions) l → ⊥
no_link positions l h = let n = h.1 in omega arith

nothing_linked : (positions : List (List Disjunct)) (i : ℕ) → IsLinked (nothing_of positions) i → ⊥
nothing_linked positions i h = let e = subst (λ z. IsSome z) (nothing_at (length positions) i) h in cc

pub nothing_good : (positions : List (List Disjunct)) → Good positions (nothing_of positions)
unfolding IsStrictlySortedBy
nothing_good positions =
    let at = nothing_at (length positions) in
    let none = no_link positions in
    record {
      belongs = record {
        same_length = length-replicate {A = Option Disjunct} (length positions) None;
        listed = λ i d e. absurd (none_some d (sym (at i) ∙ e));
        set = tt;
      };
      rules = record {
        matched = record { forward = λ l h. absurd (none l h); joins = λ l h. absurd (none l h) };
        satisfied = record {
          on_right = λ i p c h. absurd (no_place _ p c (λ k. right_list (at i k)) h);
          on_left = λ i p c h. absurd (no_place _ p c (λ k. left_list (at i k)) h);
        };
        planar = λ k l h. absurd (none k h);
        ordered = record { on_right = λ k l h. absurd (none k h); on_left = λ k l h. absurd (none k h) };
        exclusive = λ k l h. absurd (none k h);
      };
      connected = λ i j h. absurd (nothing_linked positions i h);
    }

pub nothing_count : (positions : List (List Disjunct)) → unlinked (nothing_of positions) ≡ length positions
nothing_count positions = sum_by-replicate (λ (o : Option Disjunct). cond (is_none o) 1 0) (length positions) None ∙ omega arith

-- a rule fails at a link alone, and it has none
never_fails : (know : Knowledge) (positions : List (List Disjunct)) (rule : Rule) (l : Link) → FailsAt know (nothing_of positions) rule l → ⊥
never_fails know positions (Forbid grouped trigger others) l h = no_link positions l h.0.0
never_fails know positions (Demand grouped trigger others) l h = no_link positions l h.0.0
never_fails know positions (Bounded kind) l h = no_link positions l h.0.4.1.0
never_fails know positions (Cycle pattern) l h = no_link positions l h.0.0

pub nothing_decides : (nulls : Nulls) (know : Knowledge) (positions : List (List Disjunct)) → Decides nulls know (nothing_of positions)
nothing_decides First know positions = tt
nothing_decides Passing know positions = λ k d within. never_fails know positions _
