-- Files in memory, as contracts see them.
use Rattle.std.specs.Prelude.{◌≡◌, ℕ, ◌+◌, Bool, true, false, ◌||◌, List, length, refl, is_none, ⊤}
use Rattle.std.specs.declared.result.Result.{Result}
use Rattle.std.specs.declared.result.Result.TheVariants.{Ok, Err}
use Rattle.std.specs.Coded.{Coded, code_by, coded×, coded_list, coded_ℕ}
use Rattle.std.specs.FinMap.{code}
use Rattle.lg_base.specs.declared.files.FileError.{FileError}
use Rattle.lg_base.specs.declared.files.FileError.TheVariants.{NoMemory, Failed, TooLong}
use Rattle.lg_base.specs.Contents.{Contents, file}
use Rattle.lg_base.specs.Faults.{is_listed}

-- what the files hold, the names asked so far, the count of faults, and the numbers of the calls that are to fail
pub record FilesView : Type 0 where
  pub contents : Contents
  pub asked : List (List ℕ)
  pub faults : ℕ
  pub failing : List ℕ

abbrev pub files_code : Coded FilesView
files_code =
    code_by (Contents × (List (List ℕ) × (ℕ × List ℕ)))
    (coded× (code (coded_list coded_ℕ) (coded_list coded_ℕ)) (coded× (coded_list (coded_list coded_ℕ)) (coded× coded_ℕ (coded_list coded_ℕ))))
    (λ v. (v.contents, (v.asked, (v.faults, v.failing)))) (λ p. record { contents = p.0; asked = p.1.0; faults = p.1.1.0; failing = p.1.1.1 }) (λ _. refl)

-- the next read fails: its number, the length that it gives the names asked, is listed, or there is no such name
abbrev pub read_fails : FilesView → List ℕ → Bool
read_fails files name = is_listed files.failing (length files.asked + 1) || is_none (file files.contents name)

-- Failed comes exactly where the read fails; out of memory may come in its place
abbrev pub FailsWhere : {T : Type 0} → Bool → Result T FileError → Type 0
FailsWhere fails (Ok _) = fails ≡ false
FailsWhere fails (Err NoMemory) = ⊤
FailsWhere fails (Err Failed) = fails ≡ true
FailsWhere fails (Err TooLong) = fails ≡ false
