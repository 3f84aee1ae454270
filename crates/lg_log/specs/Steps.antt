-- What each step tells its pass: of the step, the seat before, the number found and the seat after.
use Rattle.std.specs.Prelude.{◌≡◌, ◌≢◌, ℕ, ◌+◌, ◌≤◌, true, false, eqb, length, sum}
use Rattle.std.specs.List.{list_any, AllByRecursion}
use Rattle.atomic_table.specs.Table.{Me, Step}
use Rattle.lg_log.specs.declared.view.Account.{Account}
use Rattle.lg_log.specs.declared.view.View.{View}
use Rattle.lg_log.specs.Codes.{is_code, is_of}
use Rattle.lg_log.specs.Passes.{HasAllOf}
use Rattle.lg_log.specs.Views.{sees, meets_end, settled}

abbrev pub Seated : Type 0
Seated = Me (Unit {0}) View

-- the view may see one code more
abbrev pub HasRoom : View → Type 0
HasRoom v = v.live ≡ true → length v.seen + 1 ≤ sum v.counts

-- what is known of a code that was found just after all that the view has seen
pub record IsNext (v : View) (code : ℕ) : Type 0 where
  pub other : is_of v.sessions code ≡ false
  pub fresh : list_any (eqb code) v.seen ≡ false
  pub good : v.live ≡ true → is_code v.counts code ≡ true
  pub room : HasRoom v

-- the next code was found, and is seen
abbrev pub Finds : Seated → ℕ → Seated → Type 0
Finds me found after = (after.0 ≡ sees me.0 found) × IsNext me.0 found

-- A zero is found where the history has no code that was not seen, and only there; else the next code.
abbrev pub Looks : Step (Unit {0}) → Seated → ℕ → Seated → Type 0
Looks step me found after = (after.1 ≡ me.1) × (found ≡ 0 → after.0 ≡ meets_end me.0) × (found ≢ 0 → Finds me found after)

-- Where a zero is found, the code stands there now.
abbrev pub Publishes : Step (Unit {0}) → Seated → ℕ → Seated → Type 0
Publishes step me found after = (after.1 ≡ me.1) × (found ≡ 0 → (after.0 ≡ sees me.0 step.second) × HasRoom me.0) × (found ≢ 0 → Finds me found after)

-- The note is struck out, and each account of it has all codes of its sessions in what the view has seen.
abbrev pub Settles : Step (Unit {0}) → Seated → ℕ → Seated → Type 0
Settles step me found after = (after.1 ≡ me.1) × (after.0 ≡ settled me.0) × AllByRecursion (λ (a : Account). HasAllOf a.sessions a.seen me.0.seen) me.0.note
