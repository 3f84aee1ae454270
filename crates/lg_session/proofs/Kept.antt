-- What is kept of the answers of sessions: of one so far, of rows, and of all.
use Rattle.std.proofs.Common.{◌≡◌, ℕ, suc, ◌+◌, List, [], ◌∷◌, ◌++◌, length, take, slice_index_or, ap, subst, ◌∙◌, arith}
use Rattle.std.specs.List.{range_with_len}
use Rattle.lg_gram.specs.declared.reply.Reply.{Reply}
use Rattle.lg_dict.specs.Dictionary.{Dictionary}
use Rattle.lg_log.specs.Passes.{LogId}
use Rattle.lg_script.specs.Commands.{CommandView}
use Rattle.lg_script.specs.Codes.{commands_of}
use Rattle.lg_session.specs.declared.session.Session.{Session}
use Rattle.lg_session.specs.Engines.{Progress}
use Rattle.lg_session.specs.Keepers.{AreKept}
use Rattle.lg_session.specs.Rows.{Ground, AreKeptOf}
use Rattle.lg_session.proofs.Reached.{Reached}

module _ {K : Type 0} (keeps : ℕ → List CommandView → List Reply → K → Type 0) where
  -- So many commands of a session are answered, and this is kept of the answers.
  pub record KeptSoFar {H : Type 0} (g : Ground) (Stands : H → Dictionary → Progress → Type 0) (log : LogId) (number : ℕ) (session : Session H) (kept : K) (n : ℕ) : Type 0 where
    pub replies : List Reply
    pub reached : Reached g Stands log number session replies n
    pub are : keeps (number + 1) (take n (commands_of g.scripts number)) replies kept

  module _ (scripts : List (List CommandView)) where
    pub both_kept : (a b : List ℕ) (x y : List (List Reply)) (k l : List K) → AreKeptOf keeps scripts a x k → AreKeptOf keeps scripts b y l → AreKeptOf keeps scripts (a ++ b) (x ++ y) (k ++ l)
    both_kept [] b [] y [] l h i = i
    both_kept [] b [] y (one ∷ k) l h i = absurd h
    both_kept [] b (rs ∷ x) y k l h i = absurd h
    both_kept (s ∷ a) b [] y k l h i = absurd h
    both_kept (s ∷ a) b (rs ∷ x) y [] l h i = absurd h
    both_kept (s ∷ a) b (rs ∷ x) y (one ∷ k) l h i = (h.0, both_kept a b x y k l h.1 i)

    -- sessions that are neighbours, by their scripts
    kept_from : (first : ℕ) (rest : List (List CommandView)) (lists : List (List Reply)) (kept : List K) → ((i : ℕ) → commands_of scripts (first + i) ≡ slice_index_or rest i [])
        → AreKeptOf keeps scripts (range_with_len first (length rest)) lists kept → AreKept keeps (first + 1) rest lists kept
    kept_from first [] [] [] same h = tt
    kept_from first [] [] (one ∷ kept) same h = absurd h
    kept_from first [] (rs ∷ lists) kept same h = absurd h
    kept_from first (cs ∷ rest) [] kept same h = absurd h
    kept_from first (cs ∷ rest) (rs ∷ lists) [] same h = absurd h
    kept_from first (cs ∷ rest) (rs ∷ lists) (one ∷ kept) same h =
        let here : first ≡ first + 0 = omega arith in
        let next : (i : ℕ) → first + 1 + i ≡ first + suc i = λ i. omega arith in (
          subst (λ (l : List CommandView). keeps (first + 1) l rs one) (ap (commands_of scripts) here ∙ same 0) h.0,
          kept_from (first + 1) rest lists kept (λ i. ap (commands_of scripts) (next i) ∙ same (suc i)) h.1,
        )

    pub kept_all : (lists : List (List Reply)) (kept : List K) → AreKeptOf keeps scripts (range_with_len 0 (length scripts)) lists kept → AreKept keeps 1 scripts lists kept
    kept_all lists kept h =
        let here : (i : ℕ) → 0 + i ≡ i = λ i. omega arith in kept_from 0 scripts lists kept (λ i. ap (commands_of scripts) (here i)) h
