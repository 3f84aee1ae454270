-- The document of a run as answers and a journal.
use Rattle.std.proofs.Common.{◌≡◌, ℕ, ◌+◌, List, [], ◌∷◌, ◌++◌, refl, ap, sym, ◌∙◌}
use Rattle.std.specs.List.{flat_map}
use Rattle.std.proofs.lemmas.Grind.{flat_map-append}
use Rattle.lg_gram.specs.declared.reply.Place.{Place}
use Rattle.lg_gram.specs.declared.reply.Reply.{Reply}
use Rattle.lg_script.specs.Commands.{CommandView}
use Rattle.lg_script.specs.Kinds.{kind_of}
use Rattle.lg_text.specs.Replies.{reply_text}
use Rattle.lg_text.specs.Shown.{answer_text, LinesAreApart, DocumentsShow}
use Rattle.lg_text.specs.declared.look.Look.{Look}
use Rattle.lg_run.specs.Lines.{joined}
use Rattle.lg_run.specs.Documents.{reply_texts, session_texts, journal_with, outcome_text}
use Rattle.lg_run.specs.Shown.{placed, all_placed, OutcomesAreShown}
use Rattle.lg_run.proofs.JournalFront.{same_without_lines}

of_session : (look : Look) (session n : ℕ) (commands : List CommandView) (rs : List Reply) → joined (reply_texts look session n commands rs) ≡ flat_map (answer_text look) (placed session n commands rs)
of_session look session n [] [] = refl
of_session look session n [] (r ∷ rs) = refl
of_session look session n (command ∷ commands) [] = refl
of_session look session n (command ∷ commands) (r ∷ rs) = ap (λ (l : List ℕ). reply_text look (record { session = session; command = n }) (kind_of command) r ++ l) (of_session look session (n + 1) commands rs)

of_sessions : (look : Look) (session : ℕ) (scripts : List (List CommandView)) (replies : List (List Reply)) → joined (session_texts look session scripts replies) ≡ flat_map (answer_text look) (all_placed session scripts replies)
of_sessions look session [] [] = refl
of_sessions look session [] (rs ∷ replies) = refl
of_sessions look session (commands ∷ scripts) [] = refl
of_sessions look session (commands ∷ scripts) (rs ∷ replies) =
    flat_map-append (λ (piece : List ℕ). piece) (reply_texts look session 1 commands rs) (session_texts look (session + 1) scripts replies)
    ∙ (λ i. of_session look session 1 commands rs i ++ of_sessions look (session + 1) scripts replies i)
    ∙ sym (flat_map-append (answer_text look) (placed session 1 commands rs) (all_placed (session + 1) scripts replies))

document_is : (look : Look) (scripts : List (List CommandView)) (replies : List (List Reply)) (journal : List Place) (lines : List ℕ) → outcome_text look scripts replies journal lines ≡ flat_map (answer_text look) (all_placed 1 scripts replies) ++ journal_with lines journal
document_is look scripts replies journal lines = ap (λ (l : List ℕ). l ++ journal_with lines journal) (of_sessions look 1 scripts replies)

pub outcomes_are_shown : LinesAreApart → DocumentsShow → OutcomesAreShown
outcomes_are_shown apart shows look look' scripts others replies answers journal edits lines more p q e =
    shows look look' (all_placed 1 scripts replies) (all_placed 1 others answers) journal edits p.answers q.answers p.places q.places
    (same_without_lines apart look look' (all_placed 1 scripts replies) (all_placed 1 others answers) journal edits lines more p.answers q.answers p.few q.few
    (sym (document_is look scripts replies journal lines) ∙ e ∙ document_is look' others answers edits more))
