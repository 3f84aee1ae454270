use Rattle.std.proofs.Common.{◌≡◌, ℕ, Less, sym, subst}
use Rattle.lg_rank.specs.Candidates.{IsCandidate}
use Rattle.lg_rank.specs.Sources.{value_in}
use Rattle.lg_rank.specs.Values.{value_cmp, value_of}
use Rattle.lg_rank.specs.declared.candidate.Candidate.{Candidate}
use Rattle.lg_rank.proofs.Steps.{candidate_sound, candidate_value}
use Rattle.lg_rank.proofs.node.row_is_behind.Goals as goal

pub is_behind-requires : goal.is_behind-requires
is_behind-requires c =
    let z = value_of c.args.nothing.now in
    let made : Candidate = record { way = c.way_of-way.result; left = c.part_of-left.result; right = c.part_of-right.result } in
    let s = candidate_sound z c.args.nodes.now c.args.k c.args.row c.way_of-way.result (value_in c.part_of-left.result) (value_in c.part_of-right.result) c.requires.forest c.requires.table c.requires.holds c.way_of-way.ensures c.part_of-left.ensures c.part_of-right.ensures in
    subst (λ (n : ℕ). IsCandidate n made) (sym s.1.long) (record { way = s.0; left = s.1; right = s.2 })

pub returns : goal.returns
returns c = λ yes.
    subst (λ v. value_cmp (value_of c.args.part.now) v ≡ Less)
    (candidate_value (value_of c.args.nothing.now) c.args.nodes.now c.args.k c.args.row c.way_of-way.result (value_in c.part_of-left.result) (value_in c.part_of-right.result) c.way_of-way.ensures c.part_of-left.ensures c.part_of-right.ensures)
    (c.is_behind.ensures yes)
