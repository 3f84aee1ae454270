-- What comes of knowledge and of all inputs: something, and one thing alone.
use Rattle.std.proofs.Common.{◌≡◌, ℕ, List, [], ◌∷◌, Result, refl, ap}
use Rattle.lg_base.specs.Contents.{Contents}
use Rattle.lg_dict.specs.Dictionary.{Dictionary}
use Rattle.lg_knowread.specs.declared.fault.KnowError.{KnowError}
use Rattle.lg_knowread.specs.declared.knowledge.Knowledge.{Knowledge}
use Rattle.lg_knowread.specs.Reading.{KnowledgeIs}
use Rattle.lg_run.specs.Words.{Task, One, Run, Gen, Export, Audit}
use Rattle.lg_run.specs.Inputs.{HasSome, IsOne, FileIs, DictionaryInput, found_knowledge, KnowledgeReads, reads_knowledge, KnowledgeInput, ScriptsInput, EditsRead, OneGiven, RunGiven, GenGiven, AuditGiven, given, ScriptsGiven, KnowledgeGiven, AuditScripts, AuditDocument, AuditKnowledge, ExportReads, VersionGiven, InputsAre, Followed}
use Rattle.lg_run.specs.declared.setup.Setup.{Setup}
use Rattle.lg_run.proofs.Readings.{one_given, some_given, some_followed, one_followed}
use Rattle.lg_run.proofs.ScriptLists.{SomeScript, OneScript, some_within, one_within}
use Rattle.lg_run.proofs.VersionSteps.{some_version, one_version}
use Rattle.lg_script.specs.Codes.{commands_of}
use Rattle.lg_run.proofs.Dictionaries.{some_file, one_file, SomeDictionary, OneDictionary, one_dictionary, some_dictionary}

-- ---- knowledge

-- what the law of knowledge texts says
abbrev pub SomeKnowledge : Type 0
SomeKnowledge = (bytes : List ℕ) → (x : Result Knowledge KnowError) × KnowledgeIs bytes x

abbrev pub OneKnowledge : Type 0
OneKnowledge = (bytes : List ℕ) (x y : Result Knowledge KnowError) → KnowledgeIs bytes x → KnowledgeIs bytes y → x ≡ y

one_know_text : OneKnowledge → (name bytes : List ℕ) → IsOne (KnowledgeReads name bytes)
one_know_text law name bytes _ _ _ _ (reads_knowledge x p) (reads_knowledge y q) = (refl, ap (found_knowledge name) (law bytes x y p q))

some_know_text : SomeKnowledge → (name bytes : List ℕ) → HasSome (KnowledgeReads name bytes)
some_know_text law name bytes = let x = law bytes in ([], found_knowledge name x.0, reads_knowledge x.0 x.1)

pub one_knowledge : OneKnowledge → (contents : Contents) (name : List ℕ) → IsOne (KnowledgeInput contents name)
one_knowledge law contents name = one_followed (FileIs contents name) (KnowledgeReads name) (one_file contents name) (one_know_text law name)

-- ---- all inputs

module _ (dictionaries : OneDictionary) (knowledges : OneKnowledge) (scripts : OneScript) (contents : Contents) where
  one_of_scripts : (setup : Setup) (dict : Dictionary) (know : Knowledge) (names : List (List ℕ)) → IsOne (ScriptsGiven contents setup dict know names)
  one_of_scripts setup dict know names =
      one_followed (Followed (ScriptsInput contents names) (EditsRead names)) (λ all. given (RunGiven setup dict know all)) (one_within contents scripts names) (λ all. one_given (RunGiven setup dict know all))

  one_of_knowledge : (setup : Setup) (dict : Dictionary) (knowledge : List ℕ) (names : List (List ℕ)) → IsOne (KnowledgeGiven contents setup dict knowledge names)
  one_of_knowledge setup dict knowledge names =
      one_followed (KnowledgeInput contents knowledge) (λ know. ScriptsGiven contents setup dict know names) (one_knowledge knowledges contents knowledge) (λ know. one_of_scripts setup dict know names)

  one_of_versions : (dictionary script : List ℕ) (n : ℕ) (dict : Dictionary) → IsOne (VersionGiven contents dictionary script n dict)
  one_of_versions dictionary script n dict =
      one_followed (Followed (ScriptsInput contents (script ∷ [])) (EditsRead (script ∷ []))) (λ all. ExportReads dictionary script n dict (commands_of all 0)) (one_within contents scripts (script ∷ [])) (λ all. one_version dictionary script n dict (commands_of all 0))

  one_of_audit : (dict : Dictionary) (knowledge document : List ℕ) (names : List (List ℕ)) → IsOne (AuditKnowledge contents dict knowledge document names)
  one_of_audit dict knowledge document names =
      one_followed (KnowledgeInput contents knowledge) (λ know. AuditDocument contents dict know document names) (one_knowledge knowledges contents knowledge)
      (λ know. one_followed (FileIs contents document) (λ bytes. AuditScripts contents dict know bytes names) (one_file contents document)
      (λ bytes. one_followed (Followed (ScriptsInput contents names) (EditsRead names)) (λ all. given (AuditGiven dict know all bytes)) (one_within contents scripts names) (λ all. one_given (AuditGiven dict know all bytes))))

  pub one_verdict : (task : Task) → IsOne (InputsAre contents task)
  one_verdict (One setup dictionary sentence) =
      one_followed (DictionaryInput contents dictionary) (λ dict. given (OneGiven setup dict sentence)) (one_dictionary dictionaries contents dictionary) (λ dict. one_given (OneGiven setup dict sentence))
  one_verdict (Run setup dictionary knowledge names) =
      one_followed (DictionaryInput contents dictionary) (λ dict. KnowledgeGiven contents setup dict knowledge names) (one_dictionary dictionaries contents dictionary) (λ dict. one_of_knowledge setup dict knowledge names)
  one_verdict (Gen seed words sentences) = one_given (GenGiven seed words sentences)
  one_verdict (Export dictionary script n) =
      one_followed (DictionaryInput contents dictionary) (λ dict. VersionGiven contents dictionary script n dict) (one_dictionary dictionaries contents dictionary) (λ dict. one_of_versions dictionary script n dict)
  one_verdict (Audit dictionary knowledge document names) =
      one_followed (DictionaryInput contents dictionary) (λ dict. AuditKnowledge contents dict knowledge document names) (one_dictionary dictionaries contents dictionary) (λ dict. one_of_audit dict knowledge document names)

module _ (dictionaries : SomeDictionary) (knowledges : SomeKnowledge) (scripts : SomeScript) (contents : Contents) where
  some_of_scripts : (setup : Setup) (dict : Dictionary) (know : Knowledge) (names : List (List ℕ)) → HasSome (ScriptsGiven contents setup dict know names)
  some_of_scripts setup dict know names =
      some_followed (Followed (ScriptsInput contents names) (EditsRead names)) (λ all. given (RunGiven setup dict know all)) (some_within contents scripts names) (λ all. some_given (RunGiven setup dict know all))

  some_of_knowledge : (setup : Setup) (dict : Dictionary) (knowledge : List ℕ) (names : List (List ℕ)) → HasSome (KnowledgeGiven contents setup dict knowledge names)
  some_of_knowledge setup dict knowledge names =
      some_followed (KnowledgeInput contents knowledge) (λ know. ScriptsGiven contents setup dict know names)
      (some_followed (FileIs contents knowledge) (KnowledgeReads knowledge) (some_file contents knowledge) (some_know_text knowledges knowledge))
      (λ know. some_of_scripts setup dict know names)

  some_of_versions : (dictionary script : List ℕ) (n : ℕ) (dict : Dictionary) → HasSome (VersionGiven contents dictionary script n dict)
  some_of_versions dictionary script n dict =
      some_followed (Followed (ScriptsInput contents (script ∷ [])) (EditsRead (script ∷ []))) (λ all. ExportReads dictionary script n dict (commands_of all 0)) (some_within contents scripts (script ∷ [])) (λ all. some_version dictionary script n dict (commands_of all 0))

  some_of_audit : (dict : Dictionary) (knowledge document : List ℕ) (names : List (List ℕ)) → HasSome (AuditKnowledge contents dict knowledge document names)
  some_of_audit dict knowledge document names =
      some_followed (KnowledgeInput contents knowledge) (λ know. AuditDocument contents dict know document names)
      (some_followed (FileIs contents knowledge) (KnowledgeReads knowledge) (some_file contents knowledge) (some_know_text knowledges knowledge))
      (λ know. some_followed (FileIs contents document) (λ bytes. AuditScripts contents dict know bytes names) (some_file contents document)
      (λ bytes. some_followed (Followed (ScriptsInput contents names) (EditsRead names)) (λ all. given (AuditGiven dict know all bytes)) (some_within contents scripts names) (λ all. some_given (AuditGiven dict know all bytes))))

  pub some_verdict : (task : Task) → HasSome (InputsAre contents task)
  some_verdict (One setup dictionary sentence) =
      some_followed (DictionaryInput contents dictionary) (λ dict. given (OneGiven setup dict sentence)) (some_dictionary dictionaries contents dictionary) (λ dict. some_given (OneGiven setup dict sentence))
  some_verdict (Run setup dictionary knowledge names) =
      some_followed (DictionaryInput contents dictionary) (λ dict. KnowledgeGiven contents setup dict knowledge names) (some_dictionary dictionaries contents dictionary) (λ dict. some_of_knowledge setup dict knowledge names)
  some_verdict (Gen seed words sentences) = some_given (GenGiven seed words sentences)
  some_verdict (Export dictionary script n) =
      some_followed (DictionaryInput contents dictionary) (λ dict. VersionGiven contents dictionary script n dict) (some_dictionary dictionaries contents dictionary) (λ dict. some_of_versions dictionary script n dict)
  some_verdict (Audit dictionary knowledge document names) =
      some_followed (DictionaryInput contents dictionary) (λ dict. AuditKnowledge contents dict knowledge document names) (some_dictionary dictionaries contents dictionary) (λ dict. some_of_audit dict knowledge document names)
