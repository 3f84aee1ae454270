use Rattle.std.proofs.Common.{rules, ◌≡◌}
use Rattle.lg_check_runs.proofs.Shelves.{held}
use Rattle.lg_check_runs.proofs.told.ShelfOpens.open_file.Goals as goal

pub returns-then-eq : goal.returns-then-eq
returns-then-eq c =
    let same : c.args.name.now ≡ c.args.self.now.name.now = search rules in
    held c.args.self.now.name.now c.args.self.now.bytes.now c.args.name.now same
