-- What a pass finds just after all that it has seen, and the two loads.
use Rattle.std.proofs.Common.{◌≡◌, ◌≢◌, ℕ, ◌+◌, ◌≤◌, true, false, eqb, ◌⊎◌, ◌↔◌, ◌<◌, inl, inr, ⊎_elim, List, [], ◌∷◌, ◌++◌, length, get_or, replicate, sum, refl, ap, sym, ◌∙◌, subst, arith, append_assoc, append-nil, length-append, le_trans, true≢false}
use Rattle.std.specs.List.{list_any, list_all, IsDistinct, AllByRecursion}
use Rattle.std.proofs.lemmas.Bool.{or_parts, both_ways}
use mathlib.Core.Option.{none, some}
use lib.ListN.{get_elem?}
use Rattle.atomic_table.specs.Table.{step, keeps, Allows}
use Rattle.lg_log.specs.declared.view.Account.{Account}
use Rattle.lg_log.specs.declared.view.View.{View}
use Rattle.lg_log.specs.Codes.{is_code, code_session, has_session, is_of}
use Rattle.lg_log.specs.Views.{sees, meets_end, settled}
use Rattle.lg_log.specs.Passes.{HasAllOf}
use Rattle.lg_log.specs.Rule.{IsAccount, Fits, IsKept, ZeroIsTheEnd, AllSessionsSeeAll, NoSessionTwice}
use Rattle.lg_log.specs.Steps.{Seated, IsNext, Looks, Settles}
use Rattle.lg_log.proofs.CodeLaws.{codes_are_of_edits}
use Rattle.lg_log.proofs.Lists.{get_or-after, first_zero, all_next, next_is_fresh}
use Rattle.lg_log.proofs.Few.{few}
use Rattle.lg_log.proofs.Keeping.{Words, same_word}

module _ (counts : List ℕ) (s : Words) (k : IsKept counts s) (pass : ℕ) (v : View) (at : get_elem? s.views pass ≡ some v) where
  abbrev next_word : ℕ
  next_word = get_or s.words (length v.seen) 0

  next_word-is : (rest : List ℕ) → k.history ≡ v.seen ++ rest → next_word ≡ get_or (rest ++ replicate k.is_history.zeros 0) 0 0
  next_word-is rest is =
      let zeros : List ℕ = replicate k.is_history.zeros 0 in
      ap (λ (l : List ℕ). get_or l (length v.seen) 0) (k.is_history.words_are ∙ ap (λ (l : List ℕ). l ++ zeros) is ∙ append_assoc v.seen rest zeros)
      ∙ get_or-after v.seen (rest ++ zeros)

  is_good : (c : ℕ) (rest : List ℕ) → k.history ≡ v.seen ++ c ∷ rest → is_code counts c ≡ true
  is_good c rest is = all_next (is_code counts) v.seen c rest (subst (λ (l : List ℕ). list_all (is_code counts) l ≡ true) is k.is_history.codes)

  is_not_zero : (c : ℕ) (rest : List ℕ) → k.history ≡ v.seen ++ c ∷ rest → c ≢ 0
  is_not_zero c rest is zero_there = true≢false (sym (is_good c rest is) ∙ ap (is_code counts) zero_there)

  is_longer : (c : ℕ) (rest : List ℕ) → k.history ≡ v.seen ++ c ∷ rest → length v.seen + 1 ≤ length k.history
  is_longer c rest is = let long : length k.history ≡ length v.seen + length (c ∷ rest) = ap length is ∙ length-append v.seen (c ∷ rest) in omega arith

  end_by_rest : (rest : List ℕ) → k.history ≡ v.seen ++ rest → (next_word ≡ 0) ↔ (k.history ≡ v.seen)
  end_by_rest [] is = ((λ _. is ∙ append-nil v.seen), (λ _. next_word-is [] is ∙ first_zero k.is_history.zeros))
  end_by_rest (c ∷ rest) is = (
    (λ zero_there. absurd (is_not_zero c rest is (sym (next_word-is (c ∷ rest) is) ∙ zero_there))),
    (λ seen_all. let same : length k.history ≡ length v.seen = ap length seen_all in let more = is_longer c rest is in absurd (omega arith)),
  )

  pub zero_is_end : (next_word ≡ 0) ↔ (k.history ≡ v.seen)
  zero_is_end = let all = (k.fit pass v at).all in end_by_rest all.rest all.begins

  -- each code is of a session of the log
  whole_by_rest : ((session : ℕ) → session < length counts → has_session v.sessions session ≡ true) → (rest : List ℕ) → k.history ≡ v.seen ++ rest → list_any (is_of v.sessions) rest ≡ false → k.history ≡ v.seen
  whole_by_rest carries [] is unowned = is ∙ append-nil v.seen
  whole_by_rest carries (c ∷ rest) is unowned = absurd (both_ways (is_of v.sessions c) (or_parts (is_of v.sessions c) (list_any (is_of v.sessions) rest) unowned).0
      (carries (code_session c) (codes_are_of_edits counts c (is_good c rest is)).1))

  pub sees_whole : ((session : ℕ) → session < length counts → has_session v.sessions session ≡ true) → k.history ≡ v.seen
  sees_whole carries = let all = (k.fit pass v at).all in whole_by_rest carries all.rest all.begins all.none

pub zero_is_the_end : ZeroIsTheEnd
zero_is_the_end counts s k pass v at = zero_is_end counts s k pass v at

pub all_sessions_see_all : AllSessionsSeeAll
all_sessions_see_all counts s k pass v at carries = sees_whole counts s k pass v at carries

pub no_session_twice : NoSessionTwice
no_session_twice counts s k a b v w at_a at_b session first second = sym ((k.fit a v at_a).owned session first) ∙ (k.fit b w at_b).owned session second

-- of no account every fact holds
pub none_noted : (P : Account → Type 0) (notes : List Account) → notes ≡ [] → AllByRecursion P notes
none_noted P notes no_note = subst (λ (l : List Account). AllByRecursion P l) (sym no_note) tt

module _ (counts : List ℕ) (s : Words) (k : IsKept counts s) (pass : ℕ) (v : View) (at : get_elem? s.views pass ≡ some v) (no_note : v.note ≡ []) (live : v.live ≡ true) where
  abbrev IsFound : ℕ → Type 0
  IsFound found = (found ≢ 0) × Fits counts k.history k.owner pass (sees v found) × IsNext v found

  is_found : (c : ℕ) (rest : List ℕ) → k.history ≡ v.seen ++ c ∷ rest → list_any (is_of v.sessions) (c ∷ rest) ≡ false → IsFound c
  is_found c rest is unowned =
      let f = k.fit pass v at in
      let h = k.is_history in
      let parts = or_parts (is_of v.sessions c) (list_any (is_of v.sessions) rest) unowned in
      let good = is_good counts s k pass v at c rest is in
      let most : length k.history ≤ sum counts = few counts k.history h.codes h.distinct in
      let room : length v.seen + 1 ≤ sum counts = le_trans (is_longer counts s k pass v at c rest is) most in (
        is_not_zero counts s k pass v at c rest is,
        record {
          same = f.same;
          all = record { rest = rest; begins = is ∙ sym (append_assoc v.seen (c ∷ []) rest); none = parts.1 };
          owned = f.owned;
          noted = none_noted (λ (a : Account). HasAllOf a.sessions a.seen (v.seen ++ c ∷ [])) v.note no_note;
          accounts = none_noted (λ (a : Account). IsAccount k.history (sees v c) a) v.note no_note;
          spent = λ dead. absurd (both_ways v.live dead live);
        },
        record {
          other = parts.0;
          fresh = next_is_fresh v.seen c rest (subst (λ (l : List ℕ). IsDistinct eqb l) is h.distinct);
          good = λ live. subst (λ (l : List ℕ). is_code l c ≡ true) (sym (f.same live)) good;
          room = λ live. subst (λ (l : List ℕ). length v.seen + 1 ≤ sum l) (sym (f.same live)) room;
        },
      )

  found_by_rest : (rest : List ℕ) → k.history ≡ v.seen ++ rest → list_any (is_of v.sessions) rest ≡ false
      → ((get_or s.words (length v.seen) 0 ≡ 0) × (k.history ≡ v.seen)) ⊎ IsFound (get_or s.words (length v.seen) 0)
  found_by_rest [] is unowned = let all = is ∙ append-nil v.seen in inl ((zero_is_end counts s k pass v at).1 all, all)
  found_by_rest (c ∷ rest) is unowned = inr (subst (λ (n : ℕ). IsFound n) (sym (next_word-is counts s k pass v at (c ∷ rest) is)) (is_found c rest is unowned))

  -- the end of the history is there, or the next code
  pub zero_or_found : ((get_or s.words (length v.seen) 0 ≡ 0) × (k.history ≡ v.seen)) ⊎ IsFound (get_or s.words (length v.seen) 0)
  zero_or_found = let all = (k.fit pass v at).all in found_by_rest all.rest all.begins all.none

pub look_allows : (counts : List ℕ) (slots pass : ℕ) (me : Seated) → me.0.note ≡ [] → me.0.live ≡ true
    → Allows (IsKept counts) slots pass me (length me.0.seen) (λ n. n) (Looks (step slots (length me.0.seen) 0 0 none) me)
look_allows counts slots pass me no_note live s k size at small =
    let i : ℕ = length me.0.seen in
    let n : ℕ = get_or s.words i 0 in
    let f = k.fit pass me.0 at in
    ⊎_elim
    (λ (t : (n ≡ 0) × (k.history ≡ me.0.seen)).
    let ends : Fits counts k.history k.owner pass (meets_end me.0) = record { same = f.same; all = f.all; owned = f.owned; noted = f.noted; accounts = none_noted (λ (a : Account). IsAccount k.history (meets_end me.0) a) me.0.note no_note; spent = λ dead. absurd (both_ways me.0.live dead live) } in
    (meets_end me.0, keeps, tt, same_word counts s me.1 i pass (meets_end me.0) k ends, (refl, (λ _. refl), (λ some_code. absurd (some_code t.0)))))
    (λ (t : (n ≢ 0) × Fits counts k.history k.owner pass (sees me.0 n) × IsNext me.0 n).
    (sees me.0 n, keeps, tt, same_word counts s me.1 i pass (sees me.0 n) k t.1, (refl, (λ no_code. absurd (t.0 no_code)), (λ _. (refl, t.2)))))
    (zero_or_found counts s k pass me.0 at no_note live)

pub settle_allows : (counts : List ℕ) (slots pass : ℕ) (me : Seated) → me.0.live ≡ true → Allows (IsKept counts) slots pass me 0 (λ n. n) (Settles (step slots 0 0 0 none) me)
settle_allows counts slots pass me live s k size at small =
    let f = k.fit pass me.0 at in
    let fits : Fits counts k.history k.owner pass (settled me.0) = record { same = f.same; all = f.all; owned = f.owned; noted = tt; accounts = tt; spent = λ dead. absurd (both_ways me.0.live dead live) } in
    (settled me.0, keeps, tt, same_word counts s me.1 0 pass (settled me.0) k fits, (refl, refl, f.noted))
