-- Passes as contracts see them.
use Rattle.std.specs.Prelude.{◌≡◌, ℕ, ◌+◌, ◌<◌, true, false, cond, leb, List, [], ◌∷◌, ◌++◌, length}
use Rattle.std.specs.List.{list_any}
use Rattle.atomic_table.specs.Seated.{TableId}
use Rattle.lg_log.specs.Codes.{is_code, has_session, is_of}

-- which log it is, and how many codes each of its sessions has
pub record LogId : Type 0 where
  pub table : TableId
  pub counts : List ℕ

-- Where a pass stands: its log, the sessions that it carries, and the codes that it has seen.
-- It has met the end of the history `ends` times, the last time when it had seen `end_at` codes.
pub record Standing : Type 0 where
  pub log : LogId
  pub sessions : List ℕ
  pub seen : List ℕ
  pub ends : ℕ
  pub end_at : ℕ

-- a pass that has seen nothing
abbrev pub at_start : LogId → List ℕ → Standing
at_start log sessions = record { log = log; sessions = sessions; seen = []; ends = 0; end_at = 0 }

-- the pass when it has seen one code more
abbrev pub with_code : Standing → ℕ → Standing
with_code pass code = record pass { seen = pass.seen ++ code ∷ [] }

-- the pass when it has met the end of the history
abbrev pub at_end : Standing → Standing
at_end pass = record pass { ends = pass.ends + 1; end_at = length pass.seen }

-- the longer of two lists, the first where neither is
abbrev pub longer_of : List ℕ → List ℕ → List ℕ
longer_of xs ys = cond (leb (length ys) (length xs)) xs ys

-- the list of what was seen begins the whole, and what follows has no code of these sessions
pub record HasAllOf (sessions seen whole : List ℕ) : Type 0 where
  pub rest : List ℕ
  pub begins : whole ≡ seen ++ rest
  pub none : list_any (is_of sessions) rest ≡ false

-- a code of the log, of no session that the pass carries
abbrev pub IsOther : Standing → ℕ → Type 0
IsOther pass code = (is_code pass.log.counts code ≡ true) × (is_of pass.sessions code ≡ false)

-- the pass carries every session of its log
abbrev pub CarriesAll : Standing → Type 0
CarriesAll pass = (session : ℕ) → session < length pass.log.counts → has_session pass.sessions session ≡ true
