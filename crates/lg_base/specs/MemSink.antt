-- A sink in memory, as contracts see it.
use Rattle.std.specs.Prelude.{ℕ, Bool, ◌||◌, ◌+◌, ◌/◌, ◌^◌, min, List, length, if◌then◌else◌, nat_lt, refl}
use Rattle.std.specs.Coded.{Coded, code_by, coded×, coded_list, coded_ℕ}
use Rattle.lg_base.specs.Faults.{is_listed}

-- the bytes written, how many more fit, the calls with bytes so far (counted up to 2 ^ 64), the count of faults, and
-- the numbers of the calls that are to fail
pub record SinkView : Type 0 where
  pub bytes : List ℕ
  pub left : ℕ
  pub calls : ℕ
  pub faults : ℕ
  pub failing : List ℕ

abbrev pub sink_code : Coded SinkView
sink_code =
    code_by (List ℕ × (ℕ × (ℕ × (ℕ × List ℕ))))
    (coded× (coded_list coded_ℕ) (coded× coded_ℕ (coded× coded_ℕ (coded× coded_ℕ (coded_list coded_ℕ)))))
    (λ v. (v.bytes, (v.left, (v.calls, (v.faults, v.failing))))) (λ p. record { bytes = p.0; left = p.1.0; calls = p.1.1.0; faults = p.1.1.1.0; failing = p.1.1.1.1 }) (λ _. refl)

-- the number of the next call with bytes, from 1
abbrev pub next_call : SinkView → ℕ
next_call sink = min (sink.calls + 1) (2 ^ 64)

-- the next call with bytes is listed to fail
abbrev pub is_next_listed : SinkView → Bool
is_next_listed sink = is_listed sink.failing (next_call sink)

-- the next call with these bytes is at fault: it is listed, or they pass the room that is left
abbrev pub put_fails : SinkView → List ℕ → Bool
put_fails sink bytes = is_next_listed sink || nat_lt sink.left (length bytes)

-- how many of its bytes the call takes: half of them where it is listed, else all, but no more than there is room for
abbrev pub taken : SinkView → List ℕ → ℕ
taken sink bytes = min (if is_next_listed sink then length bytes / 2 else length bytes) sink.left
