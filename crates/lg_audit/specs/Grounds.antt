-- What the answers of a document are checked by, as the program holds it.
use Rattle.std.specs.Prelude.{◌≡◌, ◌≤◌, ◌<◌, ◌^◌, length}
use Rattle.lg_script.specs.Codes.{AreScripts}
use Rattle.lg_script.specs.Commands.{script_views}
use Rattle.lg_audit.specs.Replies.{Basis, dictionary_at}
use Rattle.lg_audit.specs.declared.basis.Basis.{Basis as Ground}
use Rattle.lg_audit.specs.declared.dated.Dated.{Dated}

-- what answers are checked by
abbrev pub basis_in : Ground → Basis
basis_in g = record { base = g.base.now; know = g.know.now; scripts = script_views g.scripts.now; journal = g.journal.now }

pub record IsUsable (basis : Basis) : Type 0 where
  pub scripts : AreScripts basis.scripts
  pub few : length basis.know.rules < 2 ^ 32

-- the dictionary of a version that is there
pub record IsDated (basis : Basis) (d : Dated) : Type 0 where
  pub there : d.version ≤ length basis.journal
  pub is : d.view ≡ dictionary_at basis d.version
