-- Which site stands for another.
use Rattle.std.specs.Prelude.{◌≡◌, ◌≤◌, true}
use Rattle.lg_reach.specs.declared.site.Site.{Site}

-- of the same connector, with links that may be as short, and alone only if the other is
pub record IsWider (wide s : Site) : Type 0 where
  pub connector : wide.connector ≡ s.connector
  pub least : wide.least ≤ s.least
  pub lone : wide.lone ≡ true → s.lone ≡ true
