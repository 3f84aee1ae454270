-- The names asked only grow.
use Rattle.std.proofs.Common.{ℕ, List, [], ◌∷◌, ◌++◌, ◌∙◌, sym, ap, Option, append-nil, append_assoc}
use Rattle.lg_base.specs.Contents.{Contents}
use Rattle.lg_dictread.specs.declared.dict_error.DictError.{DictError}
use Rattle.lg_dictread.specs.Findings.{names_of}
use Rattle.lg_dictread.specs.Telling.{Determined, AsksFront, ErrorTells, out_of_memory, file_unread, first_fault}
use Rattle.lg_run.specs.Reads.{AsksMore}

pub asks_nothing : (asked : List (List ℕ)) → AsksMore asked asked
asks_nothing asked = record { names = []; grown = sym (append-nil asked) }

pub asks_then : (old now new : List (List ℕ)) → AsksMore old now → AsksMore now new → AsksMore old new
asks_then old now new a b = record { names = a.names ++ b.names; grown = b.grown ∙ ap (λ z. z ++ b.names) a.grown ∙ append_assoc old a.names b.names }

-- also where a dictionary is not read
pub asks_till_error : {A : Type 0} (known : Option Contents) (is : Determined A) (refuse : DictError → A) (old new : List (List ℕ)) (error : DictError) → ErrorTells (AsksFront known is old new) known is refuse old new error → AsksMore old new
asks_till_error known is refuse old new error (out_of_memory ended) = record { names = names_of ended.front; grown = ended.names }
asks_till_error known is refuse old new error (file_unread line name asked ended same found answers) = record { names = names_of asked ++ name ∷ []; grown = same }
asks_till_error known is refuse old new error (first_fault e h) = record { names = names_of h.asked; grown = h.names }
