-- What holds of an answer.
use Rattle.std.specs.Prelude.{Result, Ok, Err, IfOk}

-- what follows of each value that is answered
pub of_each : {T E : Type 0} (r : Result T E) (P Q : T → Type 0) → ((x : T) → P x → Q x) → IfOk r P → IfOk r Q
of_each (Ok x) P Q f p = f x p
of_each (Err e) P Q f p = tt
