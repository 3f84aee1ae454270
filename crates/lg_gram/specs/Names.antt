-- Names: of connectors, and of links, where they are called labels.
use Rattle.std.specs.Prelude.{◌≡◌, ℕ, ◌+◌, ◌-◌, ◌<◌, ◌≤◌, List, [], ◌++◌, length, take, Bool, true, ◌&&◌, ◌||◌, ◌==◌, nat_le, nat_lt, codes, decimal}
use Rattle.std.specs.List.{list_all, prefix_len, suffix_len}
use Rattle.lg_gram.specs.Limits.{LETTERS, JOINT_RANK, JOINT_PLACE}

-- A capital part, and then subscripts. The capital part is capital letters, or the text of a joint.
pub record Name : Type 0 where
  pub caps : List ℕ
  pub subs : List ℕ

-- A to Z
abbrev pub is_capital : ℕ → Bool
is_capital b = nat_le 65 b && nat_le b 90

-- the star, which stands where a subscript says nothing
abbrev pub STAR : ℕ
STAR = 42

-- a to z, or a star
abbrev pub is_subscript : ℕ → Bool
is_subscript b = (nat_le 97 b && nat_le b 122) || (b == STAR)

-- a name may be written so: one capital or more, then subscripts, at most 16 letters in all
abbrev pub is_written : List ℕ → List ℕ → Bool
is_written caps subs =
    nat_lt 0 (length caps) && nat_le (length caps + length subs) LETTERS && list_all is_capital caps && list_all is_subscript subs

-- what it says of the letters that they may be written so
pub record WrittenParts (caps subs : List ℕ) : Type 0 where
  pub some : 0 < length caps
  pub few : length caps + length subs ≤ LETTERS
  pub capitals : list_all is_capital caps ≡ true
  pub subscripts : list_all is_subscript subs ≡ true
  -- the capitals are those that the text begins with
  pub front : prefix_len is_capital (caps ++ subs) ≡ length caps

abbrev pub NamesAreWritten : Type 0
NamesAreWritten = (caps subs : List ℕ) → is_written caps subs ≡ true → WrittenParts caps subs

-- without the stars at the end
abbrev pub trimmed : List ℕ → List ℕ
trimmed subs = take (length subs - suffix_len (λ b. b == STAR) subs) subs

-- The text of a joint, by which an idiom's words hang together: `id`, and with points between the rank of the idiom's word, the position at
-- which it starts, and the number of the joint.
abbrev pub joint_text : ℕ → ℕ → ℕ → List ℕ
joint_text rank start joint = codes "id" ++ (decimal rank ++ (codes "." ++ (decimal start ++ (codes "." ++ decimal joint))))

-- these numbers fit into a name
abbrev pub joint_fits : ℕ → ℕ → ℕ → Bool
joint_fits rank start joint = nat_le rank JOINT_RANK && (nat_le start JOINT_PLACE && nat_le joint JOINT_PLACE)

pub record IsJoint (caps : List ℕ) : Type 0 where
  pub rank : ℕ
  pub start : ℕ
  pub joint : ℕ
  pub fits : joint_fits rank start joint ≡ true
  pub spelled : caps ≡ joint_text rank start joint

-- A name: written as a dictionary may write it, with no star at the end; or a joint, which no dictionary can write, since it begins with a
-- small letter.
pub data IsName (n : Name) : Type 0 where
  by_letters : is_written n.caps n.subs ≡ true → trimmed n.subs ≡ n.subs → IsName n
  by_joint : IsJoint n.caps → n.subs ≡ [] → IsName n
