-- Names that are added one after another.
use Rattle.std.proofs.Common.{◌≡◌, ℕ, List, [], ◌∷◌, ◌++◌, sym, ap, subst, ◌∙◌, append_assoc}
use Rattle.lg_dictread.specs.declared.dict_error.DictError.{DictError}
use Rattle.lg_dictread.specs.Telling.{UnlessMemory}
use Rattle.lg_dictread.proofs.ErrorMaps.{memory_map}
use Rattle.lg_dictread.specs.Definitions.{Lines, AreNew, IsTwice}
use Rattle.lg_dictread.specs.Defining.{names_in, AddsNames}
use Rattle.lg_dictread.proofs.NewNames.{more_twice}

-- what is still to be added leads to all that was to be added at first
pub record Remains (first now : Lines) (names more : List (List ℕ)) (all rest : Lines) : Type 0 where
  pub are_new : AreNew now rest → AreNew first all
  pub table : now ++ rest ≡ first ++ all
  pub listed : more ++ names_in rest ≡ names ++ names_in all
  pub twice : (error : DictError) → IsTwice now rest error → IsTwice first all error

pub remains_less : (first now next : Lines) (names more most : List (List ℕ)) (all left rest : Lines) (d : List ℕ × ℕ) → left ≡ d ∷ rest → Remains first now names more all left → AddsNames now next more most (d ∷ [])
    → Remains first next names most all rest
remains_less first now next names more most all left rest d is h adds =
    let at_first : Remains first now names more all (d ∷ rest) = subst (λ (l : Lines). Remains first now names more all l) is h in
    record {
      are_new = λ further. at_first.are_new (adds.are_new.0, subst (λ (l : Lines). AreNew l rest) adds.table further);
      table = ap (λ (l : Lines). l ++ rest) adds.table ∙ append_assoc now (d ∷ []) rest ∙ at_first.table;
      listed = ap (λ (l : List (List ℕ)). l ++ names_in rest) adds.listed ∙ append_assoc more (d.0 ∷ []) (names_in rest) ∙ at_first.listed;
      twice = λ error further. at_first.twice error (more_twice now rest d error adds.are_new.0 (subst (λ (l : Lines). IsTwice l rest error) adds.table further));
    }

twice_more : (earlier rest : Lines) (d : List ℕ × ℕ) (error : DictError) → IsTwice earlier (d ∷ []) error → IsTwice earlier (d ∷ rest) error
twice_more earlier rest d error h = record {
  front = h.front;
  again = h.again;
  rest = h.rest ++ rest;
  first = h.first;
  split = ap (λ (l : Lines). l ++ rest) h.split ∙ append_assoc h.front (h.again ∷ h.rest) rest;
  distinct = h.distinct;
  before = h.before;
  told = h.told;
}

-- the error of one name is that of all of them
pub remains_twice : (first now : Lines) (names more : List (List ℕ)) (all left rest : Lines) (d : List ℕ × ℕ) (error : DictError) → left ≡ d ∷ rest → Remains first now names more all left
    → UnlessMemory (IsTwice now (d ∷ [])) error → UnlessMemory (IsTwice first all) error
remains_twice first now names more all left rest d error is h tells =
    memory_map (IsTwice now (d ∷ [])) (IsTwice first all) (λ e k. h.twice e (subst (λ (l : Lines). IsTwice now l e) (sym is) (twice_more now rest d e k))) error tells
