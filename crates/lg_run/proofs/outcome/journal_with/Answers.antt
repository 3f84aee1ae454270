use Rattle.std.proofs.Common.{◌-◌, ℕ, [], ◌∷◌, length, take, codes, ap, ◌∙◌}
use Rattle.std.specs.List.{flat_map, enumerate_from}
use Rattle.std.specs.Fmt.{decimal}
use Rattle.lg_text.specs.Replies.{edit_line}
use Rattle.lg_text.specs.Texts.{line_of}
use Rattle.lg_run.proofs.JournalLines.{with_lines}
use Rattle.lg_run.proofs.outcome.journal_with.Goals as goal

-- the last line goes, and comes again
pub returns : goal.returns
returns c =
    let journal = c.args.journal.now in
    let text = c.in_ok-text.text.items in
    with_lines (line_of (codes "journal" ∷ decimal (length journal) ∷ [])) (flat_map edit_line (enumerate_from 1 journal)) text c.in_ok-text.ensures
    c.truncate.new.self.items c.write_bytes.new.out.items c.write_bytes-2.new.out.items c.args.lines.now
    (c.truncate.ensures.items ∙ ap (λ (n : ℕ). take (n - 5) text) (c.len.ensures ∙ c.in_ok-text.text.ok.0)) c.in_ok-write_bytes.ensures.ok c.in_ok-write_bytes-2.ensures.ok
