-- Hash tables whose keys are bytes.
use Rattle.std.specs.Prelude.{ℕ, List, map}
use Rattle.std.specs.declared.vec.Vec.{Vec}
use Rattle.indexmap.specs.IndexMap.{IndexMap}

-- the entries, each key as its bytes
abbrev pub text_entries : {A V S : Type 0} → IndexMap (Vec ℕ A) V S → List (List ℕ × V)
text_entries table = map (λ e. (e.0.items, e.1)) table.entries
