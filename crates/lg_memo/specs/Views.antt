-- What a seat knows, and what becomes of that.
use Rattle.std.specs.Prelude.{◌≡◌, ℕ, ◌+◌, ◌≤◌, Bool, eqb, None, Some, List, [], ◌∷◌, ◌++◌, take, drop}
use Rattle.std.specs.List.{list_any, range_with_len, AllByRecursion}
use Rattle.lg_memo.specs.declared.view.About.{About}
use Rattle.lg_memo.specs.declared.view.Count.{Count}
use Rattle.lg_memo.specs.declared.view.View.{View}

-- so many entries of a shard
abbrev pub counted : ℕ → ℕ → Count
counted shard entries = record { shard = shard; entries = entries }

-- So many entries are no fewer than the seat ever took or gave under this number.
abbrev pub NoFewer : List Count → ℕ → ℕ → Type 0
NoFewer known shard entries = AllByRecursion (λ (c : Count). c.shard ≡ shard → c.entries ≤ entries) known

-- whether the number is one of these
abbrev pub has_number : List ℕ → ℕ → Bool
has_number numbers n = list_any (eqb n) numbers

module _ {N : Type 0} where
  -- the view of a seat with these numbers, which has done nothing yet
  abbrev pub fresh_view : About N → List ℕ → View N
  fresh_view about numbers = record { about = Some about; numbers = numbers; has = None; lost = 0; known = [] }

  -- the first seat stands for all seats
  abbrev pub first_view : About N → View N
  first_view about = fresh_view about (range_with_len 0 about.seats)

  -- the view of a seat that was joined to another
  abbrev pub spent_view : View N
  spent_view = record { about = None; numbers = []; has = None; lost = 0; known = [] }

  -- another seat had the shard
  abbrev pub loses : View N → View N
  loses v = record v { lost = v.lost + 1 }

  -- the seat takes a shard with so many entries
  abbrev pub takes_shard : View N → ℕ → ℕ → View N
  takes_shard v shard entries = record v { has = Some (counted shard entries); known = counted shard entries ∷ v.known }

  -- the seat gives its shard back, with so many entries
  abbrev pub gives_shard : View N → ℕ → ℕ → View N
  gives_shard v shard entries = record v { has = None; known = counted shard entries ∷ v.known }

  -- a view is cut in two: the first number goes to a new seat
  abbrev pub without_first : View N → View N
  without_first v = record v { numbers = drop 1 v.numbers }

  abbrev pub first_alone : View N → View N
  first_alone v = record v { numbers = take 1 v.numbers; lost = 0 }

  -- two views become one
  abbrev pub joined : View N → View N → View N
  joined v w = record v { numbers = w.numbers ++ v.numbers; known = w.known ++ v.known }
