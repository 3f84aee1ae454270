-- The keys of a cut are valid.
use Rattle.std.proofs.Common.{◌≡◌, ℕ, suc, zero, ◌≤◌, ◌-◌, List, [], ◌∷◌, length, take, refl, sym, ap, ◌∙◌, subst, inl, inr, Contains, Option, Some, None, arith}
use Rattle.std.specs.Prelude.{slice_index_or}
use Rattle.std.proofs.lemmas.Bool.{cases_lt}
use Rattle.std.proofs.lemmas.List.{take-take, take_all}
use Rattle.std.proofs.Math.Seq.{take-length}
use Rattle.lg_gram.specs.Connectors.{Connector}
use Rattle.lg_gram.specs.declared.disjunct.Disjunct.{Disjunct}
use Rattle.lg_region.specs.Parts.{Region, IsKnown}
use Rattle.lg_region.specs.Cuts.{GoesOn, IsCutAt, Split, IsCut, IsValid}
use Rattle.lg_region.specs.declared.key.Joint.{Joint}
use Rattle.lg_region.specs.Whole.{First, IsFirst}

take_nil : (m : ℕ) (cs : List Connector) → cs ≡ [] → take m cs ≡ []
take_nil zero cs e = refl
take_nil (suc m) [] e = refl
take_nil (suc m) (c ∷ cs) e = absurd (let x = ap length e in omega arith)

pub take_short : (cs : List Connector) (m : ℕ) → length (take m cs) ≤ m
take_short cs zero = omega arith
take_short [] (suc m) = omega arith
take_short (c ∷ cs) (suc m) = let r = take_short cs m in omega arith

take_twice : (p m : ℕ) (cs : List Connector) → (n : ℕ) × (take p (take m cs) ≡ take n cs)
take_twice p m cs = elim (cases_lt p m) [ inl h ↦ (p, take-take p m cs (omega arith)) | inr h ↦ (m, take_all p (take m cs) (let x = take_short cs m in omega arith)) ]

pub known_take : (positions : List (List Disjunct)) (cs : List Connector) (p : ℕ) → IsKnown positions cs → IsKnown positions (take p cs)
known_take positions cs p (inl e) = inl (take_nil p cs e)
known_take positions cs p (inr (i, d, m, h, inl e)) = let t = take_twice p m d.left in inr (i, d, t.0, h, inl (ap (λ z. take p z) e ∙ t.1))
known_take positions cs p (inr (i, d, m, h, inr e)) = let t = take_twice p m d.right in inr (i, d, t.0, h, inr (ap (λ z. take p z) e ∙ t.1))

known_goes : (positions : List (List Disjunct)) (cs : List Connector) (p : ℕ) (cs' : List Connector) → GoesOn cs p cs' → IsKnown positions cs → IsKnown positions cs'
known_goes positions cs p cs' g k = elim g.1 [ inl e ↦ subst (λ z. IsKnown positions z) (sym e) (known_take positions cs p k) | inr e ↦ subst (λ z. IsKnown positions z) (sym e.0) k ]

known_cut : (positions : List (List Disjunct)) (o : Option Joint) (near far near' far' : List Connector) → IsCutAt o near far near' far' → IsKnown positions near → IsKnown positions far → IsKnown positions near' × IsKnown positions far'
known_cut positions None near far near' far' cut a b = (subst (λ z. IsKnown positions z) (sym cut.0) a, subst (λ z. IsKnown positions z) (sym cut.1) b)
known_cut positions (Some j) near far near' far' cut a b = (known_goes positions near j.near near' cut.0 a, known_goes positions far j.far far' cut.1 b)

far_nil : (o : Option Joint) (near far near' far' : List Connector) → IsCutAt o near far near' far' → far ≡ [] → far' ≡ []
far_nil None near far near' far' cut e = cut.1 ∙ e
far_nil (Some j) near far near' far' cut e = let x = ap length e in let y = cut.1.0 in absurd (omega arith)

known_left : (positions : List (List Disjunct)) (i : ℕ) (d : Disjunct) → Contains (slice_index_or positions i []) d → IsKnown positions d.left
known_left positions i d h = inr (i, d, length d.left, h, inl (sym (take-length d.left)))

pub known_right : (positions : List (List Disjunct)) (i : ℕ) (d : Disjunct) → Contains (slice_index_or positions i []) d → IsKnown positions d.right
known_right positions i d h = inr (i, d, length d.right, h, inr (sym (take-length d.right)))

pub cut_valid : (positions : List (List Disjunct)) (k : Region) (c : Split) → IsValid positions k → IsCut positions k c → IsValid positions c.lkey × IsValid positions c.rkey
cut_valid positions k c v cut =
    let l = known_cut positions c.to_left k.llist c.disjunct.left c.lkey.llist c.lkey.rlist cut.at_left v.llist (known_left positions c.word c.disjunct cut.listed) in
    let r = known_cut positions c.to_right c.disjunct.right k.rlist c.rkey.llist c.rkey.rlist cut.at_right (known_right positions c.word c.disjunct cut.listed) v.rlist in
    let el = cut.ends_left in
    let er = cut.ends_right in
    let a = cut.after in
    let b = cut.before in
    let w = v.within in
    let fl = cut.few_left in
    let fr = cut.few_right in (
      record { ends = omega arith; within = omega arith; llist = l.0; rlist = l.1; at_end = λ e. absurd (omega arith); few = omega arith },
      record { ends = omega arith; within = omega arith; llist = r.0; rlist = r.1; at_end = λ e. far_nil c.to_right c.disjunct.right k.rlist c.rkey.llist c.rkey.rlist cut.at_right (v.at_end (omega arith)); few = omega arith },
    )

pub first_valid : (positions : List (List Disjunct)) (nulls : ℕ) (c : First) → IsFirst positions nulls c → IsValid positions c.rkey
first_valid positions nulls c is =
    let key : Region = record { left = c.word; right = length positions; llist = c.disjunct.right; rlist = []; nulls = nulls - c.word } in
    let v : IsValid positions key = record { ends = is.before; within = omega arith; llist = known_right positions c.word c.disjunct is.listed; rlist = inl refl; at_end = λ e. refl; few = is.few } in
    subst (λ z. IsValid positions z) (sym is.rkey) v
