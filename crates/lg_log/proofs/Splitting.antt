-- A new log, and how its sessions are dealt.
use Rattle.std.proofs.Common.{◌≡◌, ◌≢◌, ℕ, zero, suc, ◌+◌, ◌-◌, ◌<◌, true, false, eqb, ⊎_elim, List, [], ◌∷◌, ◌++◌, length, set, replicate, take, drop, sum, map, refl, ap, sym, ◌∙◌, subst, arith, ne_eqb, true≢false}
use Rattle.std.specs.List.{range_with_len, IsDistinct, AllByRecursion}
use Rattle.std.proofs.lemmas.Bool.{or_cases, or_left, or_right, both_ways}
use Rattle.std.proofs.lemmas.List.FromFn.{map-range_with_len_more}
use mathlib.Core.Option.{some, some-injective, some-ne-none}
use lib.ListN.{get_elem?}
use Rattle.atomic_table.specs.Table.{Splits, opening}
use Rattle.lg_log.specs.declared.view.Account.{Account}
use Rattle.lg_log.specs.declared.view.View.{View}
use Rattle.lg_log.specs.Codes.{has_session}
use Rattle.lg_log.specs.Passes.{LogId, Standing, at_start, HasAllOf}
use Rattle.lg_log.specs.Views.{first_view, without_first, first_alone}
use Rattle.lg_log.specs.Rule.{IsAccount, Fits, IsKept}
use Rattle.lg_log.proofs.HasAll.{has_itself, has_of_fewer}
use Rattle.lg_log.proofs.Keeping.{views_set, views_push, handed, handed_here, handed_else, still_fits}
use Rattle.lg_log.proofs.Reading.{none_noted}

distinct_none : IsDistinct eqb []
unfolding IsDistinct
distinct_none = tt

pub opens : (counts words : List ℕ) → words ≡ replicate (sum counts + 1) 0 → IsKept counts (opening words [] (first_view counts))
opens counts words are = record {
  history = [];
  owner = λ _. 0;
  is_history = record { zeros = sum counts + 1; words_are = are; size = omega arith; codes = refl; distinct = distinct_none };
  fit = only_first;
}
  where
    first_fits : Fits counts [] (λ _. 0) 0 (first_view counts)
    first_fits = record { same = λ _. refl; all = has_itself (range_with_len 0 (length counts)) []; owned = λ _ _. refl; noted = tt; accounts = tt; spent = λ dead. absurd (true≢false dead) }

    only_first : (pass : ℕ) (v : View) → get_elem? (first_view counts ∷ []) pass ≡ some v → Fits counts [] (λ _. 0) pass v
    only_first zero v e = subst (λ (w : View). Fits counts [] (λ _. 0) 0 w) (some-injective (first_view counts) v e) first_fits
    only_first (suc pass) v e = absurd (some-ne-none v (sym e))

-- the first session, or one of the rest, is a session
first_among : (sessions : List ℕ) (session : ℕ) → has_session (take 1 sessions) session ≡ true → has_session sessions session ≡ true
first_among [] session has = has
first_among (x ∷ xs) session has = ⊎_elim (λ (e : eqb session x ≡ true). or_left (eqb session x) (has_session xs session) e) (λ (e : false ≡ true). absurd (true≢false (sym e))) (or_cases (eqb session x) false has)

rest_among : (sessions : List ℕ) (session : ℕ) → has_session (drop 1 sessions) session ≡ true → has_session sessions session ≡ true
rest_among [] session has = has
rest_among (x ∷ xs) session has = or_right (eqb session x) (has_session xs session) has

not_among : (x session : ℕ) (xs : List ℕ) → AllByRecursion (λ y. eqb x y ≡ false) xs → eqb session x ≡ true → has_session xs session ≡ true → ⊥
not_among x session [] apart first has = true≢false (sym has)
not_among x session (y ∷ ys) apart first has = ⊎_elim
    (λ (e : eqb session y ≡ true). both_ways (eqb x y) apart.0 (grind arith))
    (λ (e : has_session ys session ≡ true). not_among x session ys apart.1 first e)
    (or_cases (eqb session y) (has_session ys session) has)

-- the first session is none of the rest
first_apart : (sessions : List ℕ) → IsDistinct eqb sessions → (session : ℕ) → has_session (take 1 sessions) session ≡ true → has_session (drop 1 sessions) session ≡ true → ⊥
unfolding IsDistinct
first_apart [] distinct session first rest = true≢false (sym rest)
first_apart (x ∷ xs) distinct session first rest = ⊎_elim
    (λ (e : eqb session x ≡ true). not_among x session xs distinct.0 e rest)
    (λ (e : false ≡ true). true≢false (sym e))
    (or_cases (eqb session x) false first)

pub split_allows : (counts : List ℕ) (pass : ℕ) (v : View) → v.note ≡ [] → v.live ≡ true → IsDistinct eqb v.sessions → Splits (IsKept counts) pass v (without_first v) (first_alone v)
split_allows counts pass v no_note live distinct s k at =
    let f = k.fit pass v at in
    let first : List ℕ = take 1 v.sessions in
    let views : List View = set s.views pass (without_first v) in
    let owner : ℕ → ℕ = handed k.owner first (length views) in
    let mine : Fits counts k.history owner pass (without_first v) = record {
      same = f.same;
      all = has_of_fewer v.sessions (drop 1 v.sessions) v.seen k.history (rest_among v.sessions) f.all;
      owned = λ session has. handed_else k.owner first (length views) session pass (λ given. absurd (first_apart v.sessions distinct session given has)) (f.owned session (rest_among v.sessions session has));
      noted = f.noted;
      accounts = none_noted (λ (a : Account). IsAccount k.history (without_first v) a) v.note no_note;
      spent = λ dead. absurd (both_ways v.live dead live);
    } in
    let new : Fits counts k.history owner (length views) (first_alone v) = record {
      same = f.same;
      all = has_of_fewer v.sessions first v.seen k.history (first_among v.sessions) f.all;
      owned = λ session has. handed_here k.owner first (length views) session has;
      noted = none_noted (λ (a : Account). HasAllOf a.sessions a.seen v.seen) v.note no_note;
      accounts = none_noted (λ (a : Account). IsAccount k.history (first_alone v) a) v.note no_note;
      spent = λ dead. absurd (both_ways v.live dead live);
    } in
    -- another pass does not carry the session
    let others : (other : ℕ) (w : View) → other ≢ pass → get_elem? s.views other ≡ some w → Fits counts k.history owner other w =
    λ other w apart there. still_fits counts k.history k.owner owner other w
    (λ session has was. handed_else k.owner first (length views) session other (λ given. absurd (apart (sym was ∙ f.owned session (first_among v.sessions session given)))) was)
    (k.fit other w there) in
    record {
      history = k.history;
      owner = owner;
      is_history = k.is_history;
      fit = views_push (Fits counts k.history owner) views (first_alone v) new (views_set (Fits counts k.history owner) s.views pass (without_first v) mine others);
    }

-- numbers that rise differ
later_differ : (x from n : ℕ) → x < from → AllByRecursion (λ y. eqb x y ≡ false) (range_with_len from n)
later_differ x from zero less = tt
later_differ x from (suc n) less = (ne_eqb x from (omega arith), later_differ x (from + 1) n (omega arith))

pub range_differs : (from n : ℕ) → IsDistinct eqb (range_with_len from n)
unfolding IsDistinct
range_differs from zero = tt
range_differs from (suc n) = (later_differ from (from + 1) n (omega arith), range_differs (from + 1) n)

-- a pass with the sessions from the k-th on, whose first session goes to a new pass
module _ (log : LogId) (pass : Standing) (k n : ℕ) (less : k < n) (is : pass ≡ at_start log (range_with_len k (n - k))) where
  pub starts : pass ≡ at_start log pass.sessions
  starts = is ∙ ap (λ (p : Standing). at_start log p.sessions) (sym is)

  pub sessions_differ : IsDistinct eqb pass.sessions
  sessions_differ = subst (λ (p : Standing). IsDistinct eqb p.sessions) (sym is) (range_differs k (n - k))

  sessions_are : pass.sessions ≡ k ∷ range_with_len (k + 1) (n - (k + 1))
  sessions_are = let e : n - k ≡ suc (n - (k + 1)) = omega arith in ap (λ (p : Standing). p.sessions) is ∙ ap (λ (m : ℕ). range_with_len k m) e

  pub left_is : (left : Standing) → left ≡ at_start log (drop 1 pass.sessions) → left ≡ at_start log (range_with_len (k + 1) (n - (k + 1)))
  left_is left e = e ∙ ap (λ (l : List ℕ). at_start log (drop 1 l)) sessions_are

  pub given_is : (given : Standing) → given ≡ at_start log (take 1 pass.sessions) → given ≡ at_start log (k ∷ [])
  given_is given e = e ∙ ap (λ (l : List ℕ). at_start log (take 1 l)) sessions_are

-- one pass more for its session
pub passes_are : (log : LogId) (k : ℕ) (before after : List Standing) (given : Standing) → before ≡ map (λ session. at_start log (session ∷ [])) (range_with_len 0 k)
    → after ≡ before ++ given ∷ [] → given ≡ at_start log (k ∷ []) → after ≡ map (λ session. at_start log (session ∷ [])) (range_with_len 0 (k + 1))
passes_are log k before after given were are is =
    are ∙ (λ i. were i ++ is i ∷ []) ∙ sym (map-range_with_len_more (λ session. at_start log (session ∷ [])) 0 k k (omega arith))
