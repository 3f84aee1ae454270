use Rattle.std.proofs.Common.{◌≡◌, ℕ, List, [], ◌++◌, ◌∙◌, length, codes, refl, subst, ap, arith, length-append}
use Rattle.lg_gram.specs.Names.{joint_text}
use Rattle.lg_gram.specs.Stored.{HoldsText}
use Rattle.lg_gram.proofs.Names.{joint_digits, joint_pieces, joint_of}
use Rattle.lg_gram.proofs.label.write_joint.Goals as goal

pub put-end-requires-4 : goal.put-end-requires-4
put-end-requires-4 c =
    let few = joint_digits c.args.rank c.args.start c.args.joint c.requires.fits in
    let rank = ap length (c.as_bytes.ensures.value ∙ c.format.ensures.text) in
    let start = ap length (c.as_bytes-2.ensures.value ∙ c.format-2.ensures.text) in
    omega (arith, few.0, few.1.0, rank, start, c.put-end.ensures.end, c.put-end-2.ensures.end, c.put-end-3.ensures.end)

pub put-end-requires-5 : goal.put-end-requires-5
put-end-requires-5 c =
    let few = joint_digits c.args.rank c.args.start c.args.joint c.requires.fits in
    let rank = ap length (c.as_bytes.ensures.value ∙ c.format.ensures.text) in
    let start = ap length (c.as_bytes-2.ensures.value ∙ c.format-2.ensures.text) in
    omega (arith, few.0, few.1.0, rank, start, c.put-end.ensures.end, c.put-end-2.ensures.end, c.put-end-3.ensures.end, c.put-end-4.ensures.end)

pub put-requires : goal.put-requires
put-requires c =
    let few = joint_digits c.args.rank c.args.start c.args.joint c.requires.fits in
    let rank = ap length (c.as_bytes.ensures.value ∙ c.format.ensures.text) in
    let start = ap length (c.as_bytes-2.ensures.value ∙ c.format-2.ensures.text) in
    let joint = ap length (c.as_bytes-3.ensures.value ∙ c.format-3.ensures.text) in
    omega (arith, few.0, few.1.0, few.1.1, rank, start, joint, c.put-end.ensures.end, c.put-end-2.ensures.end, c.put-end-3.ensures.end, c.put-end-4.ensures.end, c.put-end-5.ensures.end)

-- the pieces stand one after another, each behind what was put before it
pub returns-clause-written : goal.returns-clause-written
returns-clause-written c =
    let r = c.as_bytes.result.now in
    let s = c.as_bytes-2.result.now in
    let j = c.as_bytes-3.result.now in
    let t1 = codes "id" in
    let t2 : List ℕ = t1 ++ r in
    let t3 : List ℕ = t2 ++ codes "." in
    let t4 : List ℕ = t3 ++ s in
    let t5 : List ℕ = t4 ++ codes "." in
    let h1 = c.put-end.ensures.written [] refl c.requires.empty in
    let h2 = c.put-end-2.ensures.written t1 (omega (arith, c.put-end.ensures.end)) h1 in
    let h3 = c.put-end-3.ensures.written t2 (omega (arith, c.put-end.ensures.end, c.put-end-2.ensures.end, length-append t1 r)) h2 in
    let h4 = c.put-end-4.ensures.written t3 (omega (arith, c.put-end.ensures.end, c.put-end-2.ensures.end, c.put-end-3.ensures.end, length-append t1 r, length-append t2 (codes "."))) h3 in
    let h5 = c.put-end-5.ensures.written t4 (omega (arith, c.put-end.ensures.end, c.put-end-2.ensures.end, c.put-end-3.ensures.end, c.put-end-4.ensures.end, length-append t1 r, length-append t2 (codes "."), length-append t3 s)) h4 in
    let h6 = c.put.ensures.written t5 (omega (arith, c.put-end.ensures.end, c.put-end-2.ensures.end, c.put-end-3.ensures.end, c.put-end-4.ensures.end, c.put-end-5.ensures.end, length-append t1 r, length-append t2 (codes "."), length-append t3 s, length-append t4 (codes "."))) h5 in
    let same : t5 ++ j ≡ joint_text c.args.rank c.args.start c.args.joint =
    joint_pieces r s j ∙ (λ i. joint_of ((c.as_bytes.ensures.value ∙ c.format.ensures.text) i) ((c.as_bytes-2.ensures.value ∙ c.format-2.ensures.text) i) ((c.as_bytes-3.ensures.value ∙ c.format-3.ensures.text) i)) in
    subst (HoldsText c.put.new.letters) same h6
