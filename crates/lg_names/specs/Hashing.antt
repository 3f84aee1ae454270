-- What the hasher of names does, over SipHash.
use Rattle.std.specs.Prelude.{ℕ, List, length, slice_index, ◌*◌, ◌/◌, ◌%◌, ◌^◌, ◌==◌, cond, bit_or}
use Rattle.std.specs.Hash.{le_bytes}
use Rattle.std.specs.Hash.DefaultHasher as sip
use Rattle.std.specs.declared.hash.DefaultHasher.{DefaultHasher}
use Rattle.lg_names.specs.declared.name_hasher.NameHasher.{NameHasher}
use Rattle.lg_names.specs.declared.salted.Salted.{Salted}

-- what is held where no byte is: the mark below the bytes is the highest bit
abbrev pub nothing : ℕ
nothing = 2 ^ 63

-- SipHash after this word
abbrev pub after_word : DefaultHasher → ℕ → DefaultHasher
after_word words word = sip.write words (le_bytes 8 word)

-- that reads on where SipHash is
abbrev pub reading : DefaultHasher → NameHasher
reading words = record { words = words; held = nothing }

-- what is held, with one byte more above it
abbrev pub with_byte : ℕ → ℕ → ℕ
with_byte held byte = bit_or (held / 2 ^ 8) ((byte * 2 ^ 56) % 2 ^ 64)

-- after one byte that came alone: the mark in the lowest byte says that seven are held, and with this one they are a word
unfoldable pub after_byte : NameHasher → ℕ → NameHasher
after_byte hasher byte =
    let held = with_byte hasher.held byte in
    cond (hasher.held % 256 == 0) (record { words = hasher.words; held = held }) (reading (after_word hasher.words held))

-- with nothing held: what is held has gone as a word
unfoldable pub settled : NameHasher → NameHasher
settled hasher = cond (hasher.held == nothing) hasher (reading (after_word hasher.words hasher.held))

-- after bytes that came together
unfoldable pub after_piece : NameHasher → List ℕ → NameHasher
after_piece hasher bytes = record { words = sip.write (settled hasher).words bytes; held = (settled hasher).held }

-- after one call of `write`
unfoldable pub write : NameHasher → List ℕ → NameHasher
write hasher bytes = cond (length bytes == 1) (after_byte hasher (slice_index bytes 0)) (after_piece hasher bytes)

-- the hash: what is held is the last word
unfoldable pub finish : NameHasher → ℕ
finish hasher = sip.finish (after_word hasher.words hasher.held)

-- SipHash that has read this number
unfoldable pub salted_after : ℕ → Salted
salted_after seed = record { start = reading (after_word sip.initial seed) }
