-- All sessions have ended: what has to hold of the journal and of all answers.
use Rattle.std.proofs.Common.{◌≡◌, ℕ, zero, suc, ◌+◌, ◌<◌, ◌==◌, true, List, [], ◌∷◌, length, filter, count_by, get_or, All, Some, refl, ap, sym, subst, ◌∙◌, arith, add-one, append-nil}
use Rattle.std.specs.List.{list_all, range_with_len}
use Rattle.std.specs.Option.{is_some}
use Rattle.std.proofs.lemmas.Bool.{and_parts}
use Rattle.std.proofs.lemmas.List.{length-map, get_or_default}
use Rattle.std.proofs.lemmas.List.Elements.{All-nil, All-cons}
use Rattle.std.proofs.lemmas.Option.{none-some, same_Some, slice_get_read, get_or_from_slice_get}
use Rattle.lg_gram.specs.declared.reply.Place.{Place}
use Rattle.lg_gram.specs.declared.reply.Reply.{Reply}
use Rattle.lg_log.specs.Codes.{is_code, code_session, CodesAreOfEdits}
use Rattle.lg_script.specs.Commands.{CommandView, is_edit}
use Rattle.lg_script.specs.EditNumbers.{edit_counts}
use Rattle.lg_script.specs.Histories.{numbered, published_by}
use Rattle.lg_script.specs.Codes.{commands_of, place_of, places_of}
use Rattle.lg_session.specs.Legal.{IsLegal, IsLegalSession, AnswersAll}
use Rattle.lg_session.specs.Rows.{Ground, run_on, IsRight, HaveEnded}

module _ (g : Ground) (seen : List ℕ) where
  many_ended : (first n : ℕ) (lists : List (List Reply)) → HaveEnded g seen (range_with_len first n) lists → length lists ≡ n
  many_ended first zero [] ended = refl
  many_ended first zero (rs ∷ lists) ended = absurd ended
  many_ended first (suc n) [] ended = absurd ended
  many_ended first (suc n) (rs ∷ lists) ended = ap suc (many_ended (first + 1) n lists ended.1)

  -- each session of a row of neighbours
  right_at : (first n : ℕ) (lists : List (List Reply)) → HaveEnded g seen (range_with_len first n) lists → (i : ℕ) (rs : List Reply) → numbered lists (suc i) ≡ Some rs → IsRight g seen (first + i) rs
  right_at first zero [] ended i rs is = absurd (none-some rs is)
  right_at first zero (r ∷ lists) ended i rs is = absurd ended
  right_at first (suc n) [] ended i rs is = absurd ended
  right_at first (suc n) (r ∷ lists) ended zero rs is =
      let here : first ≡ first + 0 = omega arith in
      subst (λ (z : ℕ × List Reply). IsRight g seen z.0 z.1) (λ i. (here i, same_Some r rs is i)) (ended.0 seen (record { rest = []; begins = sym (append-nil seen); none = refl }))
  right_at first (suc n) (r ∷ lists) ended (suc i) rs is =
      subst (λ (k : ℕ). IsRight g seen k rs) (omega arith) (right_at (first + 1) n lists ended.1 i rs is)

  module _ (lists : List (List Reply)) (ended : HaveEnded g seen (range_with_len 0 (length g.scripts)) lists) where
    right : (i : ℕ) (rs : List Reply) → numbered lists (suc i) ≡ Some rs → IsRight g seen i rs
    right i rs is = subst (λ (k : ℕ). IsRight g seen k rs) (omega arith) (right_at 0 (length g.scripts) lists ended i rs is)

    script_of : (i : ℕ) (commands : List CommandView) → numbered g.scripts (suc i) ≡ Some commands → commands_of g.scripts i ≡ commands
    script_of i commands is = get_or_from_slice_get g.scripts i commands [] is

    each_own : (session : ℕ) (rs : List Reply) → numbered lists session ≡ Some rs → filter (λ p. p.session == session) (places_of g.scripts seen) ≡ published_by session rs
    each_own zero rs is = absurd (none-some rs is)
    each_own (suc i) rs is = subst (λ (k : ℕ). filter (λ p. p.session == k) (places_of g.scripts seen) ≡ published_by k rs) (add-one i) (right i rs is).own

    each_legal : (session : ℕ) (commands : List CommandView) (rs : List Reply) → numbered g.scripts session ≡ Some commands → numbered lists session ≡ Some rs → IsLegalSession (run_on g seen) session commands rs
    each_legal zero commands rs first second = absurd (none-some rs second)
    each_legal (suc i) commands rs first second = subst (λ (z : ℕ × List CommandView). IsLegalSession (run_on g seen) z.0 z.1 rs) (λ j. (add-one i j, script_of i commands first j)) (right i rs second).legal

    pub all_answered : AnswersAll g.scripts lists
    all_answered zero commands rs first second = absurd (none-some rs second)
    all_answered (suc i) commands rs first second = (right i rs second).whole ∙ ap length (script_of i commands first)

    is_there : (i : ℕ) → i < length lists → is_some (numbered lists (i + 1)) ≡ true
    is_there i in_ = rw add-one (ap is_some (slice_get_read lists (length lists) i (get_or lists i []) refl in_ (get_or_default lists i [] (get_or lists i []) in_)))

    module _ (of_edits : CodesAreOfEdits) where
      no_other : (codes : List ℕ) → list_all (is_code (edit_counts g.scripts)) codes ≡ true → All (λ p. is_some (numbered lists p.session) ≡ true) (places_of g.scripts codes)
      no_other [] good = All-nil (λ (p : Place). is_some (numbered lists p.session) ≡ true)
      no_other (c ∷ cs) good =
          let parts = and_parts (is_code (edit_counts g.scripts) c) (list_all (is_code (edit_counts g.scripts)) cs) good in
          let inside : code_session c < length lists = omega (arith, (of_edits (edit_counts g.scripts) c parts.0).1, length-map g.scripts (count_by is_edit), many_ended 0 (length g.scripts) lists ended) in
          All-cons (λ (p : Place). is_some (numbered lists p.session) ≡ true) (place_of g.scripts c) (places_of g.scripts cs) (is_there (code_session c) inside) (no_other cs parts.1)

      pub all_legal : list_all (is_code (edit_counts g.scripts)) seen ≡ true → IsLegal (run_on g seen) lists
      all_legal good = record {
        journal = record { each = each_own; no_other = no_other seen good };
        same_length = many_ended 0 (length g.scripts) lists ended;
        sessions = each_legal;
      }
