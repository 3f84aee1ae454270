-- What idioms do in the linkages of a sentence's problem.
use Rattle.std.proofs.Common.{◌≡◌, ◌⊎◌, ◌↔◌, ℕ, ◌≤◌, true, List, [], length, Contains, get_or, inl, inr, sym, ◌∙◌, subst, arith}
use Rattle.std.specs.Prelude.{slice_index_or}
use Rattle.std.proofs.lemmas.Bool.{cases_lt}
use Rattle.std.proofs.lemmas.List.{get_or_past}
use Rattle.std.proofs.lemmas.Option.{slice_get-get_or}
use Rattle.lg_base.proofs.Elements.{contains_none}
use Rattle.lg_gram.specs.Limits.{POSITIONS}
use Rattle.lg_gram.specs.declared.disjunct.Disjunct.{Disjunct}
use Rattle.lg_gram.specs.declared.listing.Stats.{Stats}
use Rattle.lg_gram.specs.declared.listing.Token.{Token}
use Rattle.lg_dict.specs.Dictionary.{Dictionary}
use Rattle.lg_idiom.specs.Idioms.{Chain}
use Rattle.lg_idiom.specs.Overlays.{HasNoJoints, HasIdioms, IsOfAdded, TakenAreChains, TakenAreLaidOver, TakenAreOne}
use Rattle.lg_idiom.specs.Sentences.{AreTakenOf}
use Rattle.lg_idiom.specs.Wholes.{HasNoJoint, AreChainsOfIdioms, AreLaidOver, ChainsAreWhole, JointsJoinNeighbours, PlainLinkagesStay}
use Rattle.lg_answer.proofs.Apart.{no_token}
use Rattle.lg_answer.specs.Idioms.{UsesChainsWhole, JoinsNeighbours, KeepsPlainLinkages, IdiomsStayWhole}
use Rattle.lg_answer.specs.Pages.{HasLinkagesOf}
use Rattle.lg_token.specs.Problems.{IsProblemOf}
use Rattle.lg_answer.specs.Problems.{IsIdiomProblem, IsProblemInUse}
use Rattle.lg_answer.specs.Steps.{IsSearched}
use Rattle.lg_answer.specs.declared.options.Options.{Options}

module _ (dict : Dictionary) (tokens : List Token) (plain positions : List (List Disjunct)) (own : IsProblemOf dict tokens plain) (all : IsIdiomProblem dict tokens positions) where
  past_end : {X : Type 0} (xs : List (List X)) → length xs ≡ length tokens → (p : ℕ) → length tokens ≤ p → (x : X) → Contains (slice_index_or xs p []) x → ⊥
  past_end xs long p past x m = contains_none x (subst (λ l. Contains l x) (get_or_past xs p [] (omega (arith, long, past))) m)

  bare : HasNoJoints dict → (p : ℕ) (d : Disjunct) → Contains (slice_index_or plain p []) d → HasNoJoint d
  bare none p d m =
      elim (cases_lt p (length tokens)) [
        | inl low ↦ (let of = ((own.each p (get_or tokens p no_token) (slice_get-get_or tokens p no_token low)).exactly d).0 m in none of.0 of.1 of.3 d of.4)
        | inr past ↦ absurd (past_end plain own.same_length p past d m)
      ]

  exactly : (p : ℕ) (d : Disjunct) → Contains (slice_index_or positions p []) d ↔ (Contains (slice_index_or plain p []) d ⊎ IsOfAdded (slice_index_or all.added p []) d)
  exactly p d =
      elim (cases_lt p (length tokens)) [
        | inl low ↦
            let t = get_or tokens p no_token in
            let there = slice_get-get_or tokens p no_token low in
            let here = (all.each p t there).exactly d in
            let words = (own.each p t there).exactly d in (
              λ m. elim (here.0 m) [
                | inl word ↦ inl (words.1 word)
                | inr added ↦ inr added
              ],
              λ h. here.1 (elim h [
                | inl in_plain ↦ inl (words.0 in_plain)
                | inr added ↦ inr added
              ]),
            )
        | inr past ↦ (
          λ m. absurd (past_end positions all.same_length p past d m),
          λ h. absurd (elim h [
            | inl in_plain ↦ past_end plain own.same_length p past d in_plain
            | inr added ↦ past_end all.added all.idioms.same_length p past added.0 added.1
          ]),
        )
      ]

  pub have_idioms : HasNoJoints dict → HasIdioms all.added plain positions
  have_idioms none = record {
    same_length = all.same_length ∙ sym own.same_length;
    no_joint = bare none;
    exactly = exactly;
  }

  pub laid_over : TakenAreLaidOver → HasNoJoints dict → AreLaidOver all.idioms.taken plain positions
  laid_over laid none = laid dict tokens all.added plain positions (have_idioms none) all.idioms

module _ (chains : TakenAreChains) (laid : TakenAreLaidOver) (one : TakenAreOne) (dict : Dictionary) (tokens : List Token) (positions kept : List (List Disjunct)) (none : HasNoJoints dict)
    (few : length tokens ≤ POSITIONS) (all : IsIdiomProblem dict tokens positions) (same : HasLinkagesOf positions kept) where
  same_taken : (taken : List Chain) → AreTakenOf dict tokens taken → taken ≡ all.idioms.taken
  same_taken taken of = one dict tokens taken all.idioms.taken of (record { chains = all.idioms.chains; all = all.idioms.all; are_taken = all.idioms.are_taken })

  are_chains : AreChainsOfIdioms all.idioms.taken
  are_chains = chains dict tokens all.added none few all.idioms

  stay_whole : (plain : List (List Disjunct)) → IsProblemOf dict tokens plain → ChainsAreWhole → UsesChainsWhole dict tokens kept
  stay_whole plain own law taken of g good c m =
      law all.idioms.taken plain positions are_chains (laid_over dict tokens plain positions own all laid none) g ((same g).1 good) c (subst (λ (ts : List Chain). Contains ts c) (same_taken taken of) m)

  join_neighbours : (plain : List (List Disjunct)) → IsProblemOf dict tokens plain → JointsJoinNeighbours → JoinsNeighbours kept
  join_neighbours plain own law g good l has is =
      law all.idioms.taken plain positions are_chains (laid_over dict tokens plain positions own all laid none) g ((same g).1 good) l has is

  stay_plain : PlainLinkagesStay → KeepsPlainLinkages dict tokens kept
  stay_plain law taken of plain own g =
      let both = law all.idioms.taken plain positions are_chains (laid_over dict tokens plain positions own all laid none) g in (
        λ h. both.0 ((same g).1 h.0, λ c m. h.1 c (subst (λ (ts : List Chain). Contains ts c) (sym (same_taken taken of)) m)),
        λ good. (let r = both.1 good in ((same g).0 r.0, λ c m. r.1 c (subst (λ (ts : List Chain). Contains ts c) (same_taken taken of) m))),
      )

pub idioms_stay : TakenAreChains → TakenAreLaidOver → TakenAreOne → ChainsAreWhole → JointsJoinNeighbours → PlainLinkagesStay → IdiomsStayWhole
idioms_stay chains laid one whole joints stay dict tokens plain positions kept none few own all same = (
  stay_whole chains laid one dict tokens positions kept none few all same plain own whole,
  join_neighbours chains laid one dict tokens positions kept none few all same plain own joints,
  stay_plain chains laid one dict tokens positions kept none few all same stay,
)

-- so it is in what is searched
pub searched_whole : IdiomsStayWhole → (dict : Dictionary) (tokens : List Token) (options : Options) (kept : List (List Disjunct)) (stats : Stats) → IsSearched dict tokens options kept stats
    → (course : List (List Disjunct)) → HasLinkagesOf kept course → length tokens ≤ POSITIONS → options.idioms ≡ true → HasNoJoints dict
    → UsesChainsWhole dict tokens course × JoinsNeighbours course × KeepsPlainLinkages dict tokens course
searched_whole law dict tokens options kept stats s course same few on none =
    law dict tokens s.of_tokens.plain s.problem course none few s.of_tokens.of_plain (subst (λ b. IsProblemInUse b dict tokens s.problem) on s.of_tokens.of_tokens)
    (λ g.
    let one = s.keeps g in
    let two = same g in
    (λ good. two.0 (one.0 good), λ good. one.1 (two.1 good)))
