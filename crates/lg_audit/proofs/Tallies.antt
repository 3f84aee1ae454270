-- A document has a line for each linkage that it shows.
use Rattle.std.proofs.Common.{◌≡◌, ℕ, ◌+◌, ◌≤◌, List, [], ◌∷◌, ◌++◌, length, map, ap, arith, length-append}
use Rattle.std.specs.List.{flat_map, sum_by}
use Rattle.std.proofs.lemmas.List.Sums.{sum_by-cons}
use Rattle.lg_text.specs.Shown.{closed}
use Rattle.lg_script.specs.Commands.{CommandView}
use Rattle.lg_audit.specs.Lines.{ShownItem, passes, fails, ShownReply, listed, beyond, published, refused, at, nothing_held, page_line, word_line, link_line}
use Rattle.lg_audit.specs.Documents.{ShownDocument, Shows, item_lines, page_lines, unread_of, more_lines, reply_lines, session_lines, sessions_lines, journal_lines, document_lines}
use Rattle.lg_audit.specs.Fronts.{AreFormed}
use Rattle.lg_audit.specs.Answers.{AreRepliesTo, IsReplyTo}
use Rattle.lg_audit.specs.Audits.{shown_by, shown_count}
use Rattle.lg_audit.specs.Replies.{linkages_of}
use Rattle.lg_audit.proofs.Walking.{formed_lengths}

-- each line has a line feed
lines_fit : (ls : List (List ℕ)) → length ls ≤ length (flat_map closed ls)
lines_fit [] = omega arith
lines_fit (l ∷ ls) = let rest = lines_fit ls in omega (arith, rest, length-append (closed l) (flat_map closed ls), length-append l (10 ∷ []))

items_fit : (items : List ShownItem) → length (flat_map linkages_of items) ≤ length (flat_map item_lines items)
items_fit [] = omega arith
items_fit (passes number g unread ∷ items) =
    let rest = items_fit items in
    let after : List (List ℕ) = map word_line g.words ++ (map link_line g.links ++ unread) in
    omega (arith, rest, length-append after (flat_map item_lines items))
items_fit (fails number v ∷ items) = let rest = items_fit items in omega (arith, rest)

reply_fits : (r : ShownReply) → shown_by r ≤ length (more_lines r)
reply_fits (listed version stats page) =
    let items = items_fit page.items in
    omega (arith, items, length-append (unread_of stats) (page_lines page), length-append (flat_map item_lines page.items) (page_line page.last ∷ []))
reply_fits (beyond version bound) = omega arith
reply_fits (published version) = omega arith
reply_fits (refused version cause) = omega arith
reply_fits (at version) = omega arith
reply_fits nothing_held = omega arith

session_fits : (session n : ℕ) (commands : List CommandView) (rs : List ShownReply) → length rs ≡ length commands → sum_by shown_by rs ≤ length (session_lines session n commands rs)
session_fits session n [] [] same = omega arith
session_fits session n [] (r ∷ rs) same = absurd (omega (arith, same))
session_fits session n (c ∷ commands) [] same = omega arith
session_fits session n (c ∷ commands) (r ∷ rs) same =
    let rest = session_fits session (n + 1) commands rs (omega (arith, same)) in
    let here = reply_fits r in
    let sum = sum_by-cons shown_by r rs in
    omega (arith, rest, here, sum, length-append (reply_lines (record { session = session; command = n }) (c, r)) (session_lines session (n + 1) commands rs))

sessions_fit : (session : ℕ) (scripts : List (List CommandView)) (replies : List (List ShownReply)) → AreFormed AreRepliesTo scripts replies
    → sum_by (sum_by shown_by) replies ≤ length (sessions_lines session scripts replies)
sessions_fit session [] [] form = omega arith
sessions_fit session [] (rs ∷ replies) form = absurd form
sessions_fit session (commands ∷ scripts) [] form = absurd form
sessions_fit session (commands ∷ scripts) (rs ∷ replies) form =
    let rest = sessions_fit (session + 1) scripts replies form.1 in
    let here = session_fits session 1 commands rs (formed_lengths IsReplyTo commands rs form.0) in
    let sum = sum_by-cons (sum_by shown_by) rs replies in
    omega (arith, rest, here, sum, length-append (session_lines session 1 commands rs) (sessions_lines (session + 1) scripts replies))

-- no more linkages are shown than the document has bytes
pub shown_fit : (scripts : List (List CommandView)) (bytes : List ℕ) (d : ShownDocument) → AreFormed AreRepliesTo scripts d.replies → Shows scripts bytes d → shown_count d ≤ length bytes
shown_fit scripts bytes d form shows =
    let sessions = sessions_fit 1 scripts d.replies form in
    let lines = lines_fit (document_lines scripts d) in
    let same = ap length shows.is in
    omega (arith, sessions, lines, same, length-append (sessions_lines 1 scripts d.replies) (journal_lines d.journal d.usage))

-- ---- sums of what is left
