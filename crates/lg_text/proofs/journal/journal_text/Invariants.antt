use Rattle.std.proofs.Common.{◌≡◌, ◌++◌, ◌+◌, drop}
use Rattle.std.specs.List.{flat_map, enumerate_from}
use Rattle.lg_text.specs.Replies.{edit_line}
use Rattle.lg_text.proofs.journal.journal_text.Given as goal

-- the lines of the edits that are left give the rest
abbrev pub invariant-loop-earlier : goal.invariant-loop-earlier
invariant-loop-earlier l =
    l.out.items ++ flat_map edit_line (enumerate_from (1 + l.earlier) (drop l.earlier l.journal)) ≡ l.initial.out.items ++ flat_map edit_line (enumerate_from 1 l.journal)
