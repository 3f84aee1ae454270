-- The document of a run is the lines of what it shows.
use Rattle.std.proofs.Common.{◌≡◌, ℕ, ◌+◌, List, [], ◌∷◌, ◌++◌, map, length, codes, decimal, refl, ap, sym, ◌∙◌, append-nil}
use Rattle.std.specs.List.{flat_map, enumerate_from}
use Rattle.std.proofs.lemmas.Grind.{flat_map-append}
use Rattle.lg_gram.specs.declared.reply.Place.{Place}
use Rattle.lg_gram.specs.declared.reply.Reply.{Reply}
use Rattle.lg_script.specs.Commands.{CommandView}
use Rattle.lg_script.specs.Kinds.{kind_of}
use Rattle.lg_text.specs.Replies as replies
use Rattle.lg_text.specs.Shown.{closed}
use Rattle.lg_text.specs.declared.look.Look.{Look}
use Rattle.lg_audit.specs.Lines.{line}
use Rattle.lg_audit.specs.Documents.{reply_lines, session_lines, sessions_lines, edit_line, journal_lines, document_lines}
use Rattle.lg_audit.specs.ShownAnswers.{unread_by, shown_reply, shown_document, AnswersHaveLines}
use Rattle.lg_run.specs.Lines.{joined}
use Rattle.lg_run.specs.Documents.{reply_texts, session_texts, journal_with, outcome_text}

both_lines : (xs ys : List (List ℕ)) → flat_map closed (xs ++ ys) ≡ flat_map closed xs ++ flat_map closed ys
both_lines xs ys = flat_map-append closed xs ys

module _ (lines_are : AnswersHaveLines) (look : Look) where
  replies_are : (session n : ℕ) (commands : List CommandView) (rs : List Reply)
      → joined (reply_texts look session n commands rs) ≡ flat_map closed (session_lines session n commands (map (shown_reply (unread_by look)) rs))
  replies_are session n [] [] = refl
  replies_are session n [] (r ∷ rs) = refl
  replies_are session n (command ∷ commands) [] = refl
  replies_are session n (command ∷ commands) (r ∷ rs) =
      let place : Place = record { session = session; command = n } in
      (λ i. lines_are look place (kind_of command) r i ++ replies_are session (n + 1) commands rs i)
      ∙ sym (both_lines (reply_lines place (command, shown_reply (unread_by look) r)) (session_lines session (n + 1) commands (map (shown_reply (unread_by look)) rs)))

  sessions_are : (session : ℕ) (scripts : List (List CommandView)) (rows : List (List Reply))
      → joined (session_texts look session scripts rows) ≡ flat_map closed (sessions_lines session scripts (map (map (shown_reply (unread_by look))) rows))
  sessions_are session [] [] = refl
  sessions_are session [] (rs ∷ rows) = refl
  sessions_are session (commands ∷ scripts) [] = refl
  sessions_are session (commands ∷ scripts) (rs ∷ rows) =
      let here = session_lines session 1 commands (map (shown_reply (unread_by look)) rs) in
      flat_map-append (λ (piece : List ℕ). piece) (reply_texts look session 1 commands rs) (session_texts look (session + 1) scripts rows)
      ∙ (λ i. replies_are session 1 commands rs i ++ sessions_are (session + 1) scripts rows i)
      ∙ sym (both_lines here (sessions_lines (session + 1) scripts (map (map (shown_reply (unread_by look))) rows)))

  edits_are : (es : List (ℕ × Place)) → flat_map replies.edit_line es ≡ flat_map closed (map edit_line es)
  edits_are [] = refl
  edits_are (e ∷ es) = ap (λ (rest : List ℕ). replies.edit_line e ++ rest) (edits_are es)

  journal_is : (journal : List Place) (lines : List ℕ) (usage : List (List ℕ)) → lines ≡ flat_map closed usage → journal_with lines journal ≡ flat_map closed (journal_lines journal usage)
  journal_is journal lines usage is =
      let edits = map edit_line (enumerate_from 1 journal) in
      let front = line (codes "journal" ∷ decimal (length journal) ∷ []) in
      ap (λ (rest : List ℕ). closed front ++ rest)
      ((λ i. edits_are (enumerate_from 1 journal) i ++ (is i ++ sym (append-nil (closed (codes "done"))) i))
      ∙ ap (λ (rest : List ℕ). flat_map closed edits ++ rest) (sym (both_lines usage (codes "done" ∷ [])))
      ∙ sym (both_lines edits (usage ++ codes "done" ∷ [])))

  pub document_is : (scripts : List (List CommandView)) (rows : List (List Reply)) (journal : List Place) (lines : List ℕ) (usage : List (List ℕ)) → lines ≡ flat_map closed usage
      → outcome_text look scripts rows journal lines ≡ flat_map closed (document_lines scripts (shown_document (unread_by look) rows journal usage))
  document_is scripts rows journal lines usage is =
      (λ i. sessions_are 1 scripts rows i ++ journal_is journal lines usage is i)
      ∙ sym (both_lines (sessions_lines 1 scripts (map (map (shown_reply (unread_by look))) rows)) (journal_lines journal usage))
