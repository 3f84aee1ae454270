-- What is written piece by piece: the pieces so far, and what is left.
use Rattle.std.proofs.Common.{◌≡◌, ℕ, ◌+◌, ◌<◌, ◌≤◌, List, [], ◌∷◌, ◌++◌, Option, length, take, drop, get_or, refl, sym, ◌∙◌, ap, subst, add-one, append_assoc, OnOk, OnErr}
use Rattle.std.proofs.Common.{inr, zero, suc}
use Rattle.std.proofs.lemmas.List.{append-nil}
use Rattle.std.specs.declared.result.Result.{Result}
use Rattle.std.specs.declared.vec.Vec.{Vec}
use Rattle.std.specs.declared.result.Result.TheVariants.{Ok, Err}
use Rattle.std.specs.Io.KnownBytes.{Appends}
use Rattle.std.proofs.KnownBytes.{Appends-nil, Appends-trans}
use Rattle.lg_base.specs.Sinks.{AppendsFront}
use Rattle.lg_run.specs.Lines.{joined}
use Rattle.lg_run.specs.Printers.{texts_of, printed_text}
use Rattle.lg_run.specs.declared.printer.PrintedSession.{PrintedSession}
use Rattle.lg_run.specs.Written.{Writes}
use Rattle.lg_run.specs.Inputs.{Given}
use Rattle.lg_run.specs.Answers.{IsDocument, Documents}
use Rattle.lg_run.specs.declared.outcome.Halt.{Halt}
use Rattle.lg_run.specs.declared.outcome.Halt.TheVariants.{Memory, Output}
use Rattle.std.proofs.Math.ListN.{drop_of_length-le}
use Rattle.std.proofs.Math.Seq.{take-append_seam, take-append-add, drop-cons}

-- a front part of the bytes is written, and this rest is left
pub record WrittenTo (old now : Option (List ℕ)) (all rest : List ℕ) : Type 0 where
  pub done : List ℕ
  pub grown : Appends old now done
  pub split : all ≡ done ++ rest

pub written_none : (old : Option (List ℕ)) (all : List ℕ) → WrittenTo old old all all
written_none old all = record { done = []; grown = Appends-nil old; split = refl }

pub written_more : {old now : Option (List ℕ)} {all rest : List ℕ} (next : Option (List ℕ)) (piece left : List ℕ) → WrittenTo old now all rest → rest ≡ piece ++ left → Appends now next piece → WrittenTo old next all left
written_more {old} {now} next piece left w e grown = record {
  done = w.done ++ piece;
  grown = Appends-trans old now next w.done piece w.grown grown;
  split = w.split ∙ ap (λ (l : List ℕ). w.done ++ l) e ∙ sym (append_assoc w.done piece left);
}

pub written_all : {old now : Option (List ℕ)} {all rest : List ℕ} → WrittenTo old now all rest → rest ≡ [] → Appends old now all
written_all {old} {now} w e = subst (Appends old now) (sym (w.split ∙ ap (λ (l : List ℕ). w.done ++ l) e ∙ append-nil w.done)) w.grown

-- nothing more is a front part of all
pub written_so_far : {old now : Option (List ℕ)} {all rest : List ℕ} → WrittenTo old now all rest → AppendsFront old now all
written_so_far {old} {now} {all} {rest} w = record { count = length w.done; grown = subst (Appends old now) (sym (ap (take (length w.done)) w.split ∙ take-append_seam w.done rest)) w.grown }

-- a front part of a front part
front_of : (n : ℕ) (xs ys : List ℕ) → (k : ℕ) × (take k (xs ++ ys) ≡ take n xs)
front_of zero xs ys = (0, refl)
front_of (suc n) [] ys = (0, refl)
front_of (suc n) (x ∷ xs) ys = let f = front_of n xs ys in (suc f.0, ap (λ (l : List ℕ). x ∷ l) f.1)

-- and so is a front part of the next piece
pub written_front : {old now : Option (List ℕ)} {all rest : List ℕ} (next : Option (List ℕ)) (piece left : List ℕ) → WrittenTo old now all rest → rest ≡ piece ++ left → AppendsFront now next piece → AppendsFront old next all
written_front {old} {now} {all} next piece left w e front =
    let f = front_of front.count piece left in
    let is : take (length w.done + f.0) all ≡ w.done ++ take front.count piece =
    ap (take (length w.done + f.0)) (w.split ∙ ap (λ (l : List ℕ). w.done ++ l) e) ∙ take-append-add w.done (piece ++ left) f.0 ∙ ap (λ (l : List ℕ). w.done ++ l) f.1 in
    record { count = length w.done + f.0; grown = subst (Appends old next) (sym is) (Appends-trans old now next w.done (take front.count piece) w.grown front.grown) }

-- the last piece, or a front part of it
pub written_last : {old now : Option (List ℕ)} {all rest : List ℕ} (next : Option (List ℕ)) (piece : List ℕ) (r : Result (Unit {0}) Halt) → WrittenTo old now all rest → rest ≡ piece → Writes now next piece r → Writes old next all r
written_last next piece (Ok x) w e grown = written_all (written_more next piece [] w (e ∙ sym (append-nil piece)) grown) refl
written_last next piece (Err halt) w e front = written_front next piece [] w (e ∙ sym (append-nil piece)) front

-- the document of a command, or a front part of it
pub document_written : (old new : Option (List ℕ)) (given : Given) (document : List ℕ) (r : Result (Unit {0}) Halt) → IsDocument given document → Writes old new document r → Documents given old new r
document_written old new given document (Ok x) is w = (document, is, w)
document_written old new given document (Err Output) is w = (document, is, w)
document_written old new given document (Err Memory) is w = inr (document, is, w)

-- one text after another
pub written_then : (old mid new : Option (List ℕ)) (first second : List ℕ) (r : Result (Unit {0}) Halt) → Appends old mid first → Writes mid new second r → Writes old new (first ++ second) r
written_then old mid new first second r one other = written_last new second r (written_more mid first second (written_none old (first ++ second)) refl one) refl other

pub written_not : (old new : Option (List ℕ)) (first second : List ℕ) → AppendsFront old new first → AppendsFront old new (first ++ second)
written_not old new first second front = written_front new first second (written_none old (first ++ second)) refl front

-- ---- pieces

-- nothing is left
pub none_left : {A : Type 0} (xs : List A) (i : ℕ) → length xs ≤ i → drop i xs ≡ []
none_left xs i past = drop_of_length-le xs past

-- the next piece, and the others
pub next_piece : {A : Type 0} (pieces : List (Vec ℕ A)) (i : ℕ) (piece : Vec ℕ A) → i < length pieces → piece ≡ get_or pieces i piece
    → joined (texts_of (drop i pieces)) ≡ piece.items ++ joined (texts_of (drop (i + 1) pieces))
next_piece {A} pieces i piece inside is =
    let cut : drop i pieces ≡ get_or pieces i piece ∷ drop (i + 1) pieces = rw add-one (drop-cons pieces i piece inside) in
    ap (λ (l : List (Vec ℕ A)). joined (texts_of l)) cut ∙ ap (λ (p : Vec ℕ A). p.items ++ joined (texts_of (drop (i + 1) pieces))) (sym is)

-- the texts of the next session, and of the others
pub next_printed : (all : List PrintedSession) (i : ℕ) (printed : PrintedSession) → i < length all → printed ≡ get_or all i printed
    → printed_text (drop i all) ≡ joined (texts_of printed.pieces.items) ++ printed_text (drop (i + 1) all)
next_printed all i printed inside is =
    let cut : drop i all ≡ get_or all i printed ∷ drop (i + 1) all = rw add-one (drop-cons all i printed inside) in
    ap printed_text cut ∙ ap (λ (p : PrintedSession). joined (texts_of p.pieces.items) ++ printed_text (drop (i + 1) all)) (sym is)

-- what a sink took is a front part, also where it took all
pub front_put : {T E : Type 0} (old new : Option (List ℕ)) (bytes : List ℕ) (r : Result T E) → OnOk r (Appends old new bytes) → OnErr r (AppendsFront old new bytes) → AppendsFront old new bytes
front_put old new bytes (Ok x) whole front = written_so_far (written_more new bytes [] (written_none old bytes) (sym (append-nil bytes)) whole)
front_put old new bytes (Err e) whole front = front

-- and all of it where no fault rose
pub whole_put : {T E : Type 0} (Whole Fault : Type 0) (r : Result T E) → OnOk r Whole → OnErr r Fault → (Fault → ⊥) → Whole
whole_put Whole Fault (Ok x) whole failed calm = whole
whole_put Whole Fault (Err e) whole failed calm = absurd (calm failed)
