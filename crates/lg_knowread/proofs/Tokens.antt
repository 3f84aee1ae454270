-- Over tokens: what the reader answers they stand for, or it is their first fault, and each of these is its answer.
use Rattle.std.proofs.Common.{◌≡◌, List, [], ◌∷◌, ◌++◌, map, Result, Ok, Err, refl, sym, ap, subst, ◌∙◌, append_assoc}
use Rattle.std.proofs.lemmas.List.{append-nil, map-append}
use Rattle.lg_lex.specs.Tokens.{Lexeme, Token}
use Rattle.lg_gram.specs.Names.{NamesAreWritten}
use Rattle.lg_knowread.specs.declared.fault.Fault.{Fault}
use Rattle.lg_knowread.specs.declared.fault.Fault.TheVariants.{UnknownSection, BadPattern, BadType, Syntax}
use Rattle.lg_knowread.specs.declared.knowledge.Knowledge.{Knowledge}
use Rattle.lg_knowread.specs.declared.reading.State.{State}
use Rattle.lg_knowread.specs.declared.reading.State.TheVariants.{Name, Colon, First, Brace, Further, End}
use Rattle.lg_knowread.specs.declared.reading.Reading.{Reading}
use Rattle.lg_knowread.specs.Statements.{Statement, all_spelled, knowledge_of}
use Rattle.lg_knowread.specs.Reading.{lexeme, AreWritten, StopsAtEnd, Stops, FirstFault}
use Rattle.lg_knowread.specs.Automaton.{nothing, at, advance, Answer, read, stopped, follow, finish, run, answer_of}
use Rattle.lg_knowread.proofs.Complete.{reach_on, reach, complete}
use Rattle.lg_knowread.proofs.Fronts.{Reached, reached_start, reached_step, reached_begins, begun}
use Rattle.lg_knowread.proofs.First.{want, a_name, no_name, whole_wants, wants_whole, refused_stops, stops_refused}

-- what an answer says of the tokens
abbrev pub AnswerIs : List Token → Answer → Type 0
AnswerIs ts (read k) = (ss : List Statement) × AreWritten ts ss × (k ≡ knowledge_of ss)
AnswerIs ts (stopped fault left) = FirstFault ts fault left

-- ---- what the reader answers is so

push_lexeme : (front : List Token) (t : Token) → map lexeme front ++ t.0 ∷ [] ≡ map lexeme (front ++ t ∷ [])
push_lexeme front t = sym (map-append lexeme front (t ∷ []))

-- the end of the text inside a statement
no_more : NamesAreWritten → (all : List Token) (r : Reading) → Reached (map lexeme all) r → (want r.state ≡ a_name → ⊥) → FirstFault all Syntax []
no_more laws all r h inside = record {
  front = all;
  split = sym (append-nil all);
  begins = reached_begins (map lexeme all) r h;
  stops = λ whole. inside (whole_wants laws (map lexeme all) r h whole);
}

answer_end : NamesAreWritten → (all : List Token) (k : Knowledge) (s : State) → Reached (map lexeme all) (at k s) → AnswerIs all (finish k s)
answer_end laws all k Name h = (h.taken.before, record { spells = h.taken.spells ∙ append-nil (all_spelled h.taken.before); statements = h.taken.are }, h.taken.says)
answer_end laws all k (Colon s) h = no_more laws all (at k (Colon s)) h (λ e. cc)
answer_end laws all k (First s) h = no_more laws all (at k (First s)) h (no_name s)
answer_end laws all k (Brace t p) h = no_more laws all (at k (Brace t p)) h (λ e. cc)
answer_end laws all k (Further x ps) h = no_more laws all (at k (Further x ps)) h (λ e. cc)
answer_end laws all k (End r) h = no_more laws all (at k (End r)) h (λ e. cc)

answer_step : NamesAreWritten → (all front : List Token) (r : Reading) (t : Token) (ts : List Token) (m : Result Reading Fault) → Reached (map lexeme front) r → all ≡ front ++ t ∷ ts → advance r t.0 ≡ m
    → ((q : Reading) → Reached (map lexeme (front ++ t ∷ [])) q → AnswerIs all (run q ts)) → AnswerIs all (follow (λ q. run q ts) m (t ∷ ts))
answer_step laws all front r t ts (Ok q) h split e next = next q (subst (λ (l : List Lexeme). Reached l q) (push_lexeme front t) (reached_step (map lexeme front) r q t.0 h e))
answer_step laws all front r t ts (Err fault) h split e next =
    record { front = front; split = split; begins = reached_begins (map lexeme front) r h; stops = refused_stops laws (map lexeme front) r h t.0 fault e }

answer_from : NamesAreWritten → (ts front all : List Token) (r : Reading) → Reached (map lexeme front) r → all ≡ front ++ ts → AnswerIs all (run r ts)
answer_from laws [] front all r h split =
    let same : front ≡ all = sym (split ∙ append-nil front) in
    answer_end laws all r.knowledge r.state (subst (λ (l : List Token). Reached (map lexeme l) r) same h)
answer_from laws (t ∷ ts) front all r h split =
    answer_step laws all front r t ts (advance r t.0) h split refl
    (λ q next. answer_from laws ts (front ++ t ∷ []) all q next (split ∙ sym (append_assoc front (t ∷ []) ts)))

pub answer_is : NamesAreWritten → (ts : List Token) → AnswerIs ts (answer_of ts)
answer_is laws ts = answer_from laws ts [] ts (at nothing Name) reached_start refl

-- ---- and what is so, it answers

run_on : (q : Reading) (m : Result Reading Fault) (front rest left : List Token) → reach_on (λ z. reach z (map lexeme front)) m ≡ Ok q → ((z : Reading) → reach z (map lexeme front) ≡ Ok q → run z (front ++ rest) ≡ run q rest)
    → follow (λ z. run z (front ++ rest)) m left ≡ run q rest
run_on q (Ok z) front rest left e next = next z e
run_on q (Err fault) front rest left e next = absurd cc

-- after a front the reader goes on from where it led
run_front : (front rest : List Token) (r q : Reading) → reach r (map lexeme front) ≡ Ok q → run r (front ++ rest) ≡ run q rest
run_front [] rest r q e = let same : r ≡ q = cc in ap (λ (z : Reading). run z rest) same
run_front (t ∷ front) rest r q e = run_on q (advance r t.0) front rest (t ∷ (front ++ rest)) e (λ z h. run_front front rest z q h)

finished : (k : Knowledge) (s : State) → (want s ≡ a_name → ⊥) → finish k s ≡ stopped Syntax []
finished k Name inside = absurd (inside refl)
finished k (Colon s) inside = refl
finished k (First s) inside = refl
finished k (Brace t p) inside = refl
finished k (Further h ps) inside = refl
finished k (End r) inside = refl

end_stops : NamesAreWritten → (front : List Lexeme) (r : Reading) (fault : Fault) → Reached front r → StopsAtEnd fault front → finish r.knowledge r.state ≡ stopped fault []
end_stops laws front r UnknownSection h s = absurd s
end_stops laws front r BadPattern h s = absurd s
end_stops laws front r BadType h s = absurd s
end_stops laws front r Syntax h s = finished r.knowledge r.state (λ e. s (wants_whole laws front r h e))

run_stops : NamesAreWritten → (front : List Lexeme) (r : Reading) (fault : Fault) (rest : List Token) → Reached front r → Stops fault front rest → run r rest ≡ stopped fault rest
run_stops laws front r fault (t ∷ rest) h s = ap (λ (m : Result Reading Fault). follow (λ q. run q rest) m (t ∷ rest)) (stops_refused laws front r h t.0 fault s.0 s.1)
run_stops laws front r fault [] h s = end_stops laws front r fault h s

is_answer : NamesAreWritten → (ts : List Token) (x : Answer) → AnswerIs ts x → answer_of ts ≡ x
is_answer laws ts (read k) (ss, written, says) =
    ap (run (at nothing Name)) (sym (append-nil ts))
    ∙ run_front ts [] (at nothing Name) (at (knowledge_of ss) Name) (ap (reach (at nothing Name)) written.spells ∙ complete laws ss written.statements)
    ∙ ap read (sym says)
is_answer laws ts (stopped fault left) h =
    let b = begun laws (map lexeme h.front) h.begins in
    ap (run (at nothing Name)) h.split
    ∙ run_front h.front left (at nothing Name) b.0 b.1.reached
    ∙ run_stops laws (map lexeme h.front) b.0 fault left b.1 h.stops

pub one_answer : NamesAreWritten → (ts : List Token) (x y : Answer) → AnswerIs ts x → AnswerIs ts y → x ≡ y
one_answer laws ts x y h k = sym (is_answer laws ts x h) ∙ is_answer laws ts y k
