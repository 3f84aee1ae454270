-- What a pass knows, and what becomes of that.
use Rattle.std.specs.Prelude.{◌≡◌, ℕ, ◌+◌, ◌≤◌, true, false, eqb, List, [], ◌∷◌, ◌++◌, length, sum, take, drop}
use Rattle.std.specs.List.{list_all, range_with_len, IsDistinct}
use Rattle.atomic_table.specs.Table.{Me}
use Rattle.atomic_table.specs.Seated.{TableId}
use Rattle.lg_log.specs.declared.view.Account.{Account}
use Rattle.lg_log.specs.declared.view.View.{View}
use Rattle.lg_log.specs.Codes.{is_code}
use Rattle.lg_log.specs.Passes.{Standing, longer_of}

-- the pass that has this view, as contracts see it
abbrev pub standing : TableId → View → Standing
standing table v = record { log = record { table = table; counts = v.counts }; sessions = v.sessions; seen = v.seen; ends = v.ends; end_at = v.end_at }

-- the first view carries every session
abbrev pub first_view : List ℕ → View
first_view counts = record { seen = []; sessions = range_with_len 0 (length counts); note = []; ends = 0; end_at = 0; counts = counts; live = true }

-- the view of a pass that was joined to another
abbrev pub spent_view : View
spent_view = record { seen = []; sessions = []; note = []; ends = 0; end_at = 0; counts = []; live = false }

-- one code more was seen
abbrev pub sees : View → ℕ → View
sees v code = record v { seen = v.seen ++ code ∷ [] }

-- the end of the history was met
abbrev pub meets_end : View → View
meets_end v = record v { ends = v.ends + 1; end_at = length v.seen }

-- a view is cut in two: the first session goes to a new pass
abbrev pub without_first : View → View
without_first v = record v { sessions = drop 1 v.sessions }

abbrev pub first_alone : View → View
first_alone v = record v { sessions = take 1 v.sessions; ends = 0; end_at = 0 }

-- two views become one, with a note of what each was
abbrev pub account : View → Account
account v = record { seen = v.seen; sessions = v.sessions }

abbrev pub joined : View → View → View
joined v w = record v { seen = longer_of v.seen w.seen; sessions = v.sessions ++ w.sessions; note = account v ∷ account w ∷ [] }

abbrev pub settled : View → View
settled v = record v { note = [] }

-- what is true of each pass between its calls: of its seat's view, of the codes in its list, and of that list's room
pub record IsReady (table : TableId) (me : Me (Unit {0}) View) (seen : List ℕ) (capacity : ℕ) : Type 0 where
  pub live : me.0.live ≡ true
  pub no_note : me.0.note ≡ []
  pub no_slot : me.1 ≡ []
  pub same : seen ≡ me.0.seen
  pub words : table.words ≡ sum me.0.counts + 1
  pub room : sum me.0.counts ≤ capacity
  pub few : length me.0.seen ≤ sum me.0.counts
  pub codes : list_all (is_code me.0.counts) me.0.seen ≡ true
  pub distinct : IsDistinct eqb me.0.seen
