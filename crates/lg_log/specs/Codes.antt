-- The codes of edits, and the edits that they name.
use Rattle.std.specs.Prelude.{◌≡◌, ℕ, ◌<◌, true, ◌+◌, ◌-◌, ◌*◌, ◌/◌, ◌%◌, ◌^◌, Bool, leb, ltb, eqb, ◌&&◌, List, length, slice_index}
use Rattle.std.specs.List.{list_any}

-- the code of an edit, by its session and its index there, both from 0
abbrev pub code_of : ℕ → ℕ → ℕ
code_of session index = (session + 1) * 2 ^ 32 + index

-- the session of a code
abbrev pub code_session : ℕ → ℕ
code_session code = code / 2 ^ 32 - 1

-- the index of a code in its session
abbrev pub code_index : ℕ → ℕ
code_index code = code % 2 ^ 32

-- whether the number is a code of a log whose sessions have so many codes each
abbrev pub is_code : List ℕ → ℕ → Bool
is_code counts code = leb (2 ^ 32) code && ltb (code_index code) (slice_index counts (code_session code))

-- whether the session is one of these
abbrev pub has_session : List ℕ → ℕ → Bool
has_session sessions session = list_any (eqb session) sessions

-- whether the code is of one of these sessions
abbrev pub is_of : List ℕ → ℕ → Bool
is_of sessions code = has_session sessions (code_session code)

-- each edit of a log has a code, which tells its session and its index
abbrev pub EditsHaveCodes : Type 0
EditsHaveCodes =
    (counts : List ℕ) (session index : ℕ) → index < 2 ^ 32 → index < slice_index counts session
    → (is_code counts (code_of session index) ≡ true) × (code_session (code_of session index) ≡ session) × (code_index (code_of session index) ≡ index)

-- each code of a log is the code of one of its edits
abbrev pub CodesAreOfEdits : Type 0
CodesAreOfEdits =
    (counts : List ℕ) (code : ℕ) → is_code counts code ≡ true
    → (code ≡ code_of (code_session code) (code_index code)) × (code_session code < length counts) × (code_index code < slice_index counts (code_session code))
