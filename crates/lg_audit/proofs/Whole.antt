-- A whole document: the answers, the journal, the lines that are not read, and the last line.
use Rattle.std.proofs.Common.{◌≡◌, ◌≢◌, ℕ, List, [], ◌∷◌, ◌++◌, map, drop, codes, refl, ap, sym, ◌∙◌, eqb, true≢false}
use Rattle.std.specs.List.{flat_map, starts_with, AllByRecursion}
use Rattle.std.proofs.lemmas.Bool.Decides.{Decides-eqb}
use Rattle.std.proofs.lemmas.Grind.{flat_map-append}
use Rattle.std.proofs.lemmas.List.{map-id}
use Rattle.std.proofs.lemmas.Slice.Eq.{starts_is}
use Rattle.lg_gram.specs.declared.reply.Place.{Place}
use Rattle.lg_text.specs.Shown.{closed}
use Rattle.lg_script.specs.Commands.{CommandView}
use Rattle.lg_audit.specs.Lines.{ShownReply, IsUnread}
use Rattle.lg_audit.specs.Documents.{ShownDocument, sessions_lines, document_lines, Shows}
use Rattle.lg_audit.specs.Fronts.{Leaves, HasNone, IsRead, Anything, AreFormed, numbered_lines}
use Rattle.lg_audit.specs.Answers.{AreRepliesTo, script_lines}
use Rattle.lg_audit.specs.Journals.{IsJournal, front_lines}
use Rattle.lg_audit.proofs.LongRuns.{same_run}
use Rattle.lg_audit.proofs.Numbered.{are_formed, are_in_form, sessions_same}

abbrev last_line : List ℕ
last_line = closed (codes "done")

-- what stands behind the answers
abbrev journal_text : ShownDocument → List ℕ
journal_text d = flat_map closed (front_lines d.journal) ++ (flat_map closed d.usage ++ last_line)

itself : (ls : List (List ℕ)) (t : List ℕ) → flat_map closed ls ++ t ≡ flat_map closed (map (λ (u : List ℕ). u) ls) ++ t
itself ls t = ap (λ (vs : List (List ℕ)). flat_map closed vs ++ t) (sym (map-id ls))

no_usage : (u r : List ℕ) → IsUnread (codes "usage ") u → last_line ≡ closed u ++ r → ⊥
no_usage u r form e =
    let front : u ≡ codes "usage " ++ drop 6 u = (starts_is Decides-eqb u (codes "usage ") (starts_with eqb u (codes "usage ")) refl).0 form.1 in
    let begins : last_line ≡ closed (codes "usage " ++ drop 6 u) ++ r = e ∙ ap (λ (l : List ℕ). closed l ++ r) front in
    true≢false (sym (ap (λ (t : List ℕ). starts_with eqb t (codes "usage ")) begins))

module _ (scripts : List (List CommandView)) (doc : List ℕ) where
  document_is : (d : ShownDocument) → flat_map closed (document_lines scripts d) ≡ flat_map closed (numbered_lines script_lines 1 scripts d.replies) ++ journal_text d
  document_is d =
      let answers : List (List ℕ) = sessions_lines 1 scripts d.replies in
      let ends : List (List ℕ) = codes "done" ∷ [] in
      flat_map-append closed answers (front_lines d.journal ++ (d.usage ++ ends))
      ∙ ap (λ (t : List ℕ). flat_map closed answers ++ t)
      (flat_map-append closed (front_lines d.journal) (d.usage ++ ends) ∙ ap (λ (t : List ℕ). flat_map closed (front_lines d.journal) ++ t) (flat_map-append closed d.usage ends))
      ∙ ap (λ (ls : List (List ℕ)). flat_map closed ls ++ journal_text d) (sessions_same 1 scripts d.replies)

  parts : (d : ShownDocument) → Shows scripts doc d → Leaves (numbered_lines script_lines 1 scripts d.replies) doc (journal_text d)
  parts d shows = shows.is ∙ document_is d

  pub no_sessions : HasNone (AreFormed AreRepliesTo scripts) (numbered_lines script_lines 1 scripts) doc → (d : ShownDocument) → Shows scripts doc d → ⊥
  no_sessions lacks d shows = lacks.none d.replies (journal_text d) (are_formed scripts d.replies shows.replies) (parts d shows)

  module _ (replies : List (List ShownReply)) (behind : List ℕ) (read : IsRead (AreFormed AreRepliesTo scripts) (numbered_lines script_lines 1 scripts) Anything doc replies behind) where
    behind_is : (d : ShownDocument) → Shows scripts doc d → behind ≡ journal_text d
    behind_is d shows = sym (read.only d.replies (journal_text d) (are_formed scripts d.replies shows.replies) tt (parts d shows))

    pub no_journal : HasNone IsJournal front_lines behind → (d : ShownDocument) → Shows scripts doc d → ⊥
    no_journal lacks d shows = lacks.none d.journal (flat_map closed d.usage ++ last_line) (shows.journal, shows.count) (behind_is d shows)

    module _ (journal : List Place) (left : List ℕ) (found : IsRead IsJournal front_lines Anything behind journal left) where
      left_is : (d : ShownDocument) → Shows scripts doc d → left ≡ flat_map closed d.usage ++ last_line
      left_is d shows = sym (found.only d.journal (flat_map closed d.usage ++ last_line) (shows.journal, shows.count) tt (behind_is d shows))

      module _ (usage : List (List ℕ)) (last : List ℕ)
          (run : AllByRecursion (IsUnread (codes "usage ")) usage × (left ≡ flat_map closed usage ++ last) × ((u r : List ℕ) → IsUnread (codes "usage ") u → last ≡ closed u ++ r → ⊥)) where
        pub no_end : last ≢ last_line → (d : ShownDocument) → Shows scripts doc d → ⊥
        no_end other d shows =
            other
            (same_run (IsUnread (codes "usage ")) (λ (u : List ℕ). u) (λ u form. form.0) left last last_line usage d.usage run.0 shows.usage
            (run.1 ∙ itself usage last) (left_is d shows ∙ itself d.usage last_line) run.2 no_usage)

        pub shown : last ≡ last_line → Shows scripts doc (record { replies = replies; journal = journal; usage = usage })
        shown end = record {
          replies = are_in_form scripts replies read.form;
          journal = found.form.0;
          count = found.form.1;
          usage = run.0;
          is =
              read.is
              ∙ ap (λ (t : List ℕ). flat_map closed (numbered_lines script_lines 1 scripts replies) ++ t)
              (found.is ∙ ap (λ (t : List ℕ). flat_map closed (front_lines journal) ++ t) (run.1 ∙ ap (λ (t : List ℕ). flat_map closed usage ++ t) end))
              ∙ sym (document_is (record { replies = replies; journal = journal; usage = usage }));
        }
