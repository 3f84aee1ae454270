-- An exchange of zero for a code, just after all that the pass has seen.
use Rattle.std.proofs.Common.{◌≡◌, ◌≢◌, ℕ, zero, suc, ◌+◌, ◌≤◌, Bool, true, false, eqb, ◌==◌, ⊎_elim, List, [], ◌∷◌, ◌++◌, length, get_or, set, replicate, sum, refl, ap, sym, ◌∙◌, subst, arith, append_assoc, length-append, eq-eqb, ne_eqb}
use Rattle.std.specs.List.{list_any, list_all, IsDistinct, AllByRecursion}
use Rattle.std.proofs.lemmas.Bool.{false_from_ne_true, both_ways}
use Rattle.std.proofs.lemmas.Map.Keys.{IsDistinct-push}
use Rattle.std.proofs.lemmas.Cmp.{nat_eq_equiv}
use mathlib.Core.Option.{none, some}
use lib.ListN.{get_elem?}
use prog.Atomic.{either}
use Rattle.atomic_table.specs.Table.{step, keeps, stepped, Allows}
use Rattle.lg_log.specs.declared.view.Account.{Account}
use Rattle.lg_log.specs.declared.view.View.{View}
use Rattle.lg_log.specs.Codes.{is_code, code_session, is_of}
use Rattle.lg_log.specs.Passes.{HasAllOf}
use Rattle.lg_log.specs.Views.{sees}
use Rattle.lg_log.specs.Rule.{IsHistory, IsAccount, Fits, IsKept}
use Rattle.lg_log.specs.Steps.{Seated, HasRoom, IsNext, Publishes}
use Rattle.lg_log.proofs.Lists.{set-after, all_push}
use Rattle.lg_log.proofs.Few.{few}
use Rattle.lg_log.proofs.HasAll.{has_itself, has_more}
use Rattle.lg_log.proofs.Keeping.{Words, views_set, same_word}
use Rattle.lg_log.proofs.Reading.{none_noted, zero_or_found}

-- the history, with one code more in the place of the first zero
longer_history : (counts words history : List ℕ) (code zeros : ℕ) → words ≡ history ++ replicate zeros 0 → length history + zeros ≡ sum counts + 1
    → list_all (is_code counts) (history ++ code ∷ []) ≡ true → IsDistinct eqb (history ++ code ∷ [])
    → IsHistory counts (set words (length history) code) (history ++ code ∷ []) × (length history + 1 ≤ sum counts)
longer_history counts words history code zero are size good distinct =
    let most : length (history ++ code ∷ []) ≤ sum counts = few counts (history ++ code ∷ []) good distinct in
    let long : length (history ++ code ∷ []) ≡ length history + 1 = length-append history (code ∷ []) in
    absurd (omega arith)
longer_history counts words history code (suc zeros) are size good distinct =
    let most : length (history ++ code ∷ []) ≤ sum counts = few counts (history ++ code ∷ []) good distinct in
    let long : length (history ++ code ∷ []) ≡ length history + 1 = length-append history (code ∷ []) in
    let now : set words (length history) code ≡ (history ++ code ∷ []) ++ replicate zeros 0 =
    ap (λ (l : List ℕ). set l (length history) code) are ∙ set-after history (replicate zeros 0) 0 code ∙ sym (append_assoc history (code ∷ []) (replicate zeros 0)) in
    (record { zeros = zeros; words_are = now; size = omega arith; codes = good; distinct = distinct }, omega arith)

-- the accounts of a view, where the history gets a code of no session that the view carries
more_accounts : (history : List ℕ) (code : ℕ) (w : View) → is_of w.sessions code ≡ false → (notes : List Account) → AllByRecursion (λ (a : Account). IsAccount history w a) notes
    → AllByRecursion (λ (a : Account). IsAccount (history ++ code ∷ []) w a) notes
more_accounts history code w other [] all = tt
more_accounts history code w other (a ∷ rest) all = (
  record {
    all = has_more a.sessions a.seen history code (false_from_ne_true (is_of a.sessions code) (λ its. both_ways (is_of w.sessions code) other (all.0.carried (code_session code) its))) all.0.all;
    carried = all.0.carried;
  },
  more_accounts history code w other rest all.1,
)

module _ (counts : List ℕ) (s : Words) (k : IsKept counts s) (pass : ℕ) (v : View) (at : get_elem? s.views pass ≡ some v) (no_note : v.note ≡ []) (live : v.live ≡ true)
    (code : ℕ) (good : is_code v.counts code ≡ true) (mine : is_of v.sessions code ≡ true) (fresh : list_any (eqb code) v.seen ≡ false) (seen_all : k.history ≡ v.seen) where
  -- another pass does not carry the session of the code, so it has all codes of its sessions still
  other_fits : (other : ℕ) (w : View) → other ≢ pass → get_elem? s.views other ≡ some w → Fits counts (k.history ++ code ∷ []) k.owner other w
  other_fits other w apart there =
      let f = k.fit other w there in
      let owner_is : k.owner (code_session code) ≡ pass = (k.fit pass v at).owned (code_session code) mine in
      let not_its : is_of w.sessions code ≡ false = false_from_ne_true (is_of w.sessions code) (λ its. apart (sym (f.owned (code_session code) its) ∙ owner_is)) in
      record { same = f.same; all = has_more w.sessions w.seen k.history code not_its f.all; owned = f.owned; noted = f.noted; accounts = more_accounts k.history code w not_its w.note f.accounts; spent = f.spent }

  wins : (slots : List (ℕ × Unit {0})) → IsKept counts (stepped s (length v.seen) code pass slots (sees v code) keeps) × HasRoom v
  wins slots =
      let f = k.fit pass v at in
      let h = k.is_history in
      let long : length k.history ≡ length v.seen = ap length seen_all in
      let codes : list_all (is_code counts) (k.history ++ code ∷ []) ≡ true = all_push (is_code counts) k.history code h.codes (subst (λ (l : List ℕ). is_code l code ≡ true) (f.same live) good) in
      let distinct : IsDistinct eqb (k.history ++ code ∷ []) =
      IsDistinct-push nat_eq_equiv k.history code h.distinct (subst (λ (l : List ℕ). list_any (eqb code) l ≡ false) (sym seen_all) fresh) in
      let grown = longer_history counts s.words k.history code h.zeros h.words_are h.size codes distinct in
      let fits : Fits counts (k.history ++ code ∷ []) k.owner pass (sees v code) = record {
        same = f.same;
        all = subst (λ (l : List ℕ). HasAllOf v.sessions (v.seen ++ code ∷ []) l) (ap (λ (l : List ℕ). l ++ code ∷ []) (sym seen_all)) (has_itself v.sessions (v.seen ++ code ∷ []));
        owned = f.owned;
        noted = none_noted (λ (a : Account). HasAllOf a.sessions a.seen (v.seen ++ code ∷ [])) v.note no_note;
        accounts = none_noted (λ (a : Account). IsAccount (k.history ++ code ∷ []) (sees v code) a) v.note no_note;
        spent = λ dead. absurd (both_ways v.live dead live);
      } in (
        record {
          history = k.history ++ code ∷ [];
          owner = k.owner;
          is_history = subst (λ (n : ℕ). IsHistory counts (set s.words n code) (k.history ++ code ∷ [])) long grown.0;
          fit = views_set (Fits counts (k.history ++ code ∷ []) k.owner) s.views pass (sees v code) fits other_fits;
        },
        λ alive. let room : length k.history + 1 ≤ sum counts = grown.1 in let less : length v.seen + 1 ≤ sum counts = omega arith in subst (λ (l : List ℕ). length v.seen + 1 ≤ sum l) (sym (f.same alive)) less,
      )

pub publish_allows : (counts : List ℕ) (slots pass : ℕ) (me : Seated) (code : ℕ) → me.0.note ≡ [] → me.0.live ≡ true → is_code me.0.counts code ≡ true → is_of me.0.sessions code ≡ true
    → list_any (eqb code) me.0.seen ≡ false
    → Allows (IsKept counts) slots pass me (length me.0.seen) (λ n. either (n == 0) code n) (Publishes (step slots (length me.0.seen) 0 code none) me)
publish_allows counts slots pass me code no_note live good mine fresh s k size at small =
    let i : ℕ = length me.0.seen in
    let n : ℕ = get_or s.words i 0 in
    ⊎_elim
    (λ (t : (n ≡ 0) × (k.history ≡ me.0.seen)).
    let won = wins counts s k pass me.0 at no_note live code good mine fresh t.1 me.1 in (
      sees me.0 code,
      keeps,
      tt,
      subst (λ (b : Bool). IsKept counts (stepped s i (either b code n) pass me.1 (sees me.0 code) keeps)) (sym (eq-eqb n 0 t.0)) won.0,
      (refl, (λ _. (refl, won.1)), (λ some_code. absurd (some_code t.0))),
    ))
    (λ (t : (n ≢ 0) × Fits counts k.history k.owner pass (sees me.0 n) × IsNext me.0 n). (
      sees me.0 n,
      keeps,
      tt,
      subst (λ (b : Bool). IsKept counts (stepped s i (either b code n) pass me.1 (sees me.0 n) keeps)) (sym (ne_eqb n 0 t.0)) (same_word counts s me.1 i pass (sees me.0 n) k t.1),
      (refl, (λ no_code. absurd (t.0 no_code)), (λ _. (refl, t.2))),
    ))
    (zero_or_found counts s k pass me.0 at no_note live)
