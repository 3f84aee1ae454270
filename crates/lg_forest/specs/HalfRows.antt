-- The rows of halves: they share one by sixteen right lists, and by four numbers of unlinked words each.
use Rattle.std.specs.Prelude.{ℕ, ◌+◌, ◌*◌, ◌/◌, ◌%◌}
use Rattle.lg_forest.specs.declared.halves.Half.{Half}
use Rattle.lg_forest.specs.declared.half_set.HalfRow.{HalfRow}

-- the row of a half, and its place there
abbrev pub half_row : Half → HalfRow
half_row h = record {
  word = h.word;
  right = h.right;
  nulls = h.nulls / 4;
  is_alone = h.is_alone;
  from = h.from;
  to = h.to;
  class = h.class;
  block = h.rlist / 16;
}

abbrev pub half_place : Half → ℕ
half_place h = h.rlist % 16 * 4 + h.nulls % 4

-- the half of a row and a place
abbrev pub half_at : HalfRow → ℕ → Half
half_at r place = record {
  word = r.word;
  right = r.right;
  nulls = 4 * r.nulls + place % 4;
  is_alone = r.is_alone;
  from = r.from;
  to = r.to;
  class = r.class;
  rlist = 16 * r.block + place / 4;
}
