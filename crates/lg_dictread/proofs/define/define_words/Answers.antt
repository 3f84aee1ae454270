use Rattle.std.proofs.Common.{ℕ, List, ap, map}
use Rattle.std.proofs.lemmas.Result.{err_from_is_err_and}
use Rattle.lg_lex.specs.declared.run.Separators.TheVariants.{WhiteSpace}
use Rattle.lg_lex.specs.Runs.{runs_from}
use Rattle.lg_dictread.specs.Definitions.{on_line}
use Rattle.lg_dictread.specs.Tables.{text_entries}
use Rattle.lg_dictread.proofs.Adding.{remains_less, remains_twice}
use Rattle.lg_dictread.proofs.define.define_words.Goals as goal

-- one of the words is defined twice
pub returns-in_err-define : goal.returns-in_err-define
returns-in_err-define c =
    let p = err_from_is_err_and c.from_residual.result c.from_residual.ensures.1 in
    let lines = λ (at : ℕ). on_line c.args.line (map (λ (r : List ℕ × ℕ). r.0) (runs_from WhiteSpace c.args.text.now at)) in
    rw (p.1, p.2) (remains_twice (text_entries c.args.table.now) (text_entries c.loop-run.table) c.args.names.now.items c.loop-run.names.items (lines 0) (lines c.loop-run.at) (lines c.in-Some.run'.end)
    (c.in-Some.run'.bytes.now, c.args.line) c.in_err-define.field-0.0
    (ap (λ (rs : List (List ℕ × ℕ)). on_line c.args.line (map (λ (r : List ℕ × ℕ). r.0) rs)) c.in-Some.ensures.next) c.loop-run.invariant.remains c.in_err-define.ensures)

-- one word less is left
pub loop-run-preserved : goal.loop-run-preserved
loop-run-preserved c =
    let lines = λ (at : ℕ). on_line c.args.line (map (λ (r : List ℕ × ℕ). r.0) (runs_from WhiteSpace c.args.text.now at)) in
    record {
      in_range = c.in-Some.ensures.in_range.2;
      remains = remains_less (text_entries c.args.table.now) (text_entries c.loop-run.table) (text_entries c.define.new.table) c.args.names.now.items c.loop-run.names.items c.define.new.names.items
          (lines 0) (lines c.loop-run.at) (lines c.in-Some.run'.end) (c.in-Some.run'.bytes.now, c.args.line)
          (ap (λ (rs : List (List ℕ × ℕ)). on_line c.args.line (map (λ (r : List ℕ × ℕ). r.0) rs)) c.in-Some.ensures.next) c.loop-run.invariant.remains c.in_ok-define.ensures;
    }
