-- One pass takes over what another knows and carries.
use Rattle.std.proofs.Common.{◌≡◌, ◌≢◌, ℕ, true, false, eqb, ⊎_elim, List, [], ◌∷◌, set, refl, sym, ◌∙◌, true≢false}
use Rattle.std.specs.List.{list_any}
use Rattle.std.proofs.lemmas.Bool.{or_cases, both_ways}
use Rattle.std.proofs.lemmas.List.Folds.{list_any-append}
use mathlib.Core.Option.{some}
use lib.ListN.{get_elem?}
use Rattle.atomic_table.specs.Table.{Joins}
use Rattle.atomic_table.proofs.Lists.{set_else}
use Rattle.lg_log.specs.declared.view.View.{View}
use Rattle.lg_log.specs.Codes.{has_session, is_of}
use Rattle.lg_log.specs.Views.{spent_view, joined}
use Rattle.lg_log.specs.Rule.{Fits, IsKept}
use Rattle.lg_log.proofs.HasAll.{has_joined, first_of_both, second_of_both}
use Rattle.lg_log.proofs.Keeping.{views_set, handed, handed_here, handed_else, still_fits}

none_of_nothing : (codes : List ℕ) → list_any (is_of []) codes ≡ false
none_of_nothing [] = refl
none_of_nothing (c ∷ cs) = none_of_nothing cs

spent_fits : (counts history : List ℕ) (owner : ℕ → ℕ) (pass : ℕ) → Fits counts history owner pass spent_view
spent_fits counts history owner pass = record {
  same = λ live. absurd (true≢false (sym live));
  all = record { rest = history; begins = refl; none = none_of_nothing history };
  owned = λ session has. absurd (true≢false (sym has));
  noted = tt;
  accounts = tt;
  spent = λ _. refl;
}

pub join_allows : (counts : List ℕ) (pass : ℕ) (v : View) (other : ℕ) (w : View) → v.live ≡ true → Joins (IsKept counts) pass v other w (joined v w) spent_view
join_allows counts pass v other w live s k at apart there =
    let f = k.fit pass v at in
    let g = k.fit other w (sym (set_else s.views pass other (joined v w) apart) ∙ there) in
    let owner : ℕ → ℕ = handed k.owner w.sessions pass in
    let all = has_joined v.sessions v.seen w.sessions w.seen k.history f.all g.all in
    let fits : Fits counts k.history owner pass (joined v w) = record {
      same = f.same;
      all = all.0;
      owned = λ session has. ⊎_elim
          (λ (its : has_session v.sessions session ≡ true). handed_else k.owner w.sessions pass session pass (λ _. refl) (f.owned session its))
          (λ (its : has_session w.sessions session ≡ true). handed_here k.owner w.sessions pass session its)
          (or_cases (has_session v.sessions session) (has_session w.sessions session) (sym (list_any-append (eqb session) v.sessions w.sessions) ∙ has));
      noted = (all.1, (all.2, tt));
      accounts = (
        record { all = f.all; carried = first_of_both v.sessions w.sessions },
        (record { all = g.all; carried = second_of_both v.sessions w.sessions }, tt),
      );
      spent = λ dead. absurd (both_ways v.live dead live);
    } in
    -- a third pass carries no session of either
    let third : (pass' : ℕ) (u : View) → pass' ≢ other → pass' ≢ pass → get_elem? s.views pass' ≡ some u → Fits counts k.history owner pass' u =
    λ pass' u not_other not_pass here. still_fits counts k.history k.owner owner pass' u
    (λ session has was. handed_else k.owner w.sessions pass session pass' (λ its. absurd (not_other (sym was ∙ g.owned session its))) was)
    (k.fit pass' u here) in
    record {
      history = k.history;
      owner = owner;
      is_history = k.is_history;
      fit = views_set (Fits counts k.history owner) (set s.views pass (joined v w)) other spent_view (spent_fits counts k.history owner other)
          (λ pass' u not_other here. views_set (λ p x. p ≢ other → Fits counts k.history owner p x) s.views pass (joined v w) (λ _. fits) (λ p x not_pass there' not_other'. third p x not_other' not_pass there') pass' u here not_other);
    }
