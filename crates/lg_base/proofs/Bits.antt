-- A bit is set, and the others stay.
use Rattle.std.proofs.Common.{◌≡◌, ◌≢◌, ℕ, ◌^◌, ◌<◌, bit_or, arith}
use Rattle.std.proofs.lemmas.Nat.Bits.{bit_at_or, bit_at-pow_same, bit_at-pow_other}
use Rattle.lg_base.specs.Bits.{bit_at}

pub bit_same : (bits place : ℕ) → bit_at (bit_or bits (2 ^ place)) place ≡ 1
bit_same bits place = (let one = bit_at-pow_same place in let is = bit_at_or bits (2 ^ place) place in let l : bit_at bits place < 2 = omega arith in omega arith)

pub bit_other : (bits place other : ℕ) → other ≢ place → bit_at (bit_or bits (2 ^ place)) other ≡ bit_at bits other
bit_other bits place other apart = (let none = bit_at-pow_other place other apart in let is = bit_at_or bits (2 ^ place) other in omega arith)

pub bit_stays : (bits place other : ℕ) → bit_at bits other ≡ 1 → bit_at (bit_or bits (2 ^ place)) other ≡ 1
bit_stays bits place other one = (let both = bit_at_or bits (2 ^ place) other in let l : bit_at (2 ^ place) other < 2 = omega arith in omega arith)
