-- The document of a run determines every answer: it shows the journal and the versions, and these determine the answers.
use Rattle.std.proofs.Common.{◌≡◌, ℕ, suc, ◌+◌, List, [], ◌∷◌, ◌++◌, length, map, Option, Some, None, slice_get, refl, sym, ap, subst, ◌∙◌, arith}
use Rattle.lg_gram.specs.declared.reply.Place.{Place}
use Rattle.lg_gram.specs.declared.reply.Reply.{Reply}
use Rattle.lg_gram.specs.declared.reply.Reply.TheVariants.{Listed, Beyond, Published, Refused, At, NoListing}
use Rattle.lg_script.specs.Commands.{CommandView}
use Rattle.lg_script.specs.Histories.{reply_version}
use Rattle.lg_session.specs.Legal.{AnswersAll}
use Rattle.lg_text.specs.Shown.{Answered, Shown, shown_of, shown_version}
use Rattle.lg_run.specs.Determined.{versions_named, AreAnswersBy, AnswersAreDetermined, DocumentsTellAnswers}
use Rattle.lg_run.specs.Shown.{placed, all_placed, RunsOfInputsAreShown}

-- ---- the versions that are shown

number_of : Option ℕ → ℕ
number_of None = 0
number_of (Some n) = n

named : (r : Reply) → number_of (shown_version r) ≡ reply_version r
unfolding number_of
named (Listed n tokens page stats) = refl
named (Beyond n bound) = refl
named (Published n) = refl
named (Refused n cause name) = refl
named (At n) = refl
named NoListing = refl

abbrev numbers : List Answered → List ℕ
numbers answers = map (λ (s : Shown). number_of s.version) (map shown_of answers)

numbers_append : (xs ys : List Answered) → numbers (xs ++ ys) ≡ numbers xs ++ numbers ys
numbers_append [] ys = refl
numbers_append (x ∷ xs) ys = ap (λ (l : List ℕ). number_of (shown_version x.reply) ∷ l) (numbers_append xs ys)

of_session : (session n : ℕ) (commands : List CommandView) (rs : List Reply) → length rs ≡ length commands → numbers (placed session n commands rs) ≡ map reply_version rs
of_session session n [] [] same = refl
of_session session n [] (r ∷ rs) same = absurd (omega (arith, same))
of_session session n (c ∷ commands) [] same = refl
of_session session n (c ∷ commands) (r ∷ rs) same =
    let rest = of_session session (n + 1) commands rs (omega (arith, same)) in
    λ i. named r i ∷ rest i

split_append : (xs us ys vs : List ℕ) → length xs ≡ length us → xs ++ ys ≡ us ++ vs → (xs ≡ us) × (ys ≡ vs)
split_append [] [] ys vs same e = (refl, e)
split_append [] (u ∷ us) ys vs same e = absurd (omega (arith, same))
split_append (x ∷ xs) [] ys vs same e = absurd (omega (arith, same))
split_append (x ∷ xs) (u ∷ us) ys vs same e =
    let heads : x ≡ u = cc in
    let tails : xs ++ ys ≡ us ++ vs = cc in
    let both = split_append xs us ys vs (omega (arith, same)) tails in
    ((λ i. heads i ∷ both.0 i), both.1)

-- each session has an answer to each command
abbrev AreWhole : List (List CommandView) → List (List Reply) → Type 0
AreWhole [] [] = Unit {0}
AreWhole [] (rs ∷ replies) = ⊥
AreWhole (commands ∷ scripts) [] = ⊥
AreWhole (commands ∷ scripts) (rs ∷ replies) = (length rs ≡ length commands) × AreWhole scripts replies

whole_from : (scripts : List (List CommandView)) (replies : List (List Reply)) → length replies ≡ length scripts
    → ((n : ℕ) (commands : List CommandView) (rs : List Reply) → slice_get scripts n ≡ Some commands → slice_get replies n ≡ Some rs → length rs ≡ length commands) → AreWhole scripts replies
whole_from [] [] same h = tt
whole_from [] (rs ∷ replies) same h = absurd (omega (arith, same))
whole_from (commands ∷ scripts) [] same h = absurd (omega (arith, same))
whole_from (commands ∷ scripts) (rs ∷ replies) same h = (h 0 commands rs refl refl, whole_from scripts replies (omega (arith, same)) (λ n. h (suc n)))

whole_of : (scripts : List (List CommandView)) (replies : List (List Reply)) → length replies ≡ length scripts → AnswersAll scripts replies → AreWhole scripts replies
whole_of scripts replies same all = whole_from scripts replies same (λ n. all (suc n))

same_versions : (session : ℕ) (scripts : List (List CommandView)) (replies others : List (List Reply)) → AreWhole scripts replies → AreWhole scripts others
    → numbers (all_placed session scripts replies) ≡ numbers (all_placed session scripts others) → versions_named replies ≡ versions_named others
same_versions session [] [] [] a b e = refl
same_versions session [] [] (os ∷ others) a b e = absurd b
same_versions session [] (rs ∷ replies) others a b e = absurd a
same_versions session (commands ∷ scripts) [] others a b e = absurd a
same_versions session (commands ∷ scripts) (rs ∷ replies) [] a b e = absurd b
same_versions session (commands ∷ scripts) (rs ∷ replies) (os ∷ others) a b e =
    let long : length (map reply_version rs) ≡ length (map reply_version os) = length_map rs ∙ a.0 ∙ sym b.0 ∙ sym (length_map os) in
    let rows : map reply_version rs ++ numbers (all_placed (session + 1) scripts replies) ≡ map reply_version os ++ numbers (all_placed (session + 1) scripts others) =
    (λ i. sym (of_session session 1 commands rs a.0) i ++ numbers (all_placed (session + 1) scripts replies))
    ∙ sym (numbers_append (placed session 1 commands rs) (all_placed (session + 1) scripts replies)) ∙ e
    ∙ numbers_append (placed session 1 commands os) (all_placed (session + 1) scripts others)
    ∙ (λ i. of_session session 1 commands os b.0 i ++ numbers (all_placed (session + 1) scripts others)) in
    let both = split_append (map reply_version rs) (map reply_version os) (numbers (all_placed (session + 1) scripts replies)) (numbers (all_placed (session + 1) scripts others)) long rows in
    let rest = same_versions (session + 1) scripts replies others a.1 b.1 both.1 in
    λ i. both.0 i ∷ rest i
  where
    length_map : (l : List Reply) → length (map reply_version l) ≡ length l
    length_map [] = refl
    length_map (r ∷ l) = ap suc (length_map l)

pub documents_tell_answers : AnswersAreDetermined → RunsOfInputsAreShown → DocumentsTellAnswers
documents_tell_answers determined shown contents words setup dict know scripts document is one other =
    let both = shown contents contents words words setup setup dict dict know know scripts scripts document is is one other in
    let versions = same_versions 1 scripts one.replies other.replies (whole_of scripts one.replies one.legal.same_length one.whole) (whole_of scripts other.replies other.legal.same_length other.whole)
    (ap (map (λ (s : Shown). number_of s.version)) both.0) in
    let legal = subst (λ (j : List Place). AreAnswersBy know setup.listing scripts dict j other.replies) (sym both.1) other.legal in
    (determined know setup.listing scripts dict one.journal one.replies other.replies one.legal legal versions).0
