use Rattle.std.proofs.Common.{◌≡◌, ◌+◌, ◌-◌, ◌∙◌, ℕ, List, length, ap, arith, take, drop, replicate, ◌++◌}
use Rattle.std.proofs.Math.Seq.{take-append-add}
use Rattle.std.proofs.lemmas.List.{drop-append-le, drop-replicate, take-replicate, take-take, length-replicate}
use Rattle.fq_report_reads.proofs.vectors.keeps_last.Goals as goal

-- the mask is 0, and then 255 for the last bytes
pub returns : goal.returns
returns c =
    let k = c.args.count in
    let few = c.requires in
    let zeros : List ℕ = replicate (32 - k) 0 in
    let size : 32 ≡ length zeros + k = omega (arith, length-replicate {A = ℕ} (32 - k) 0) in
    take-take 32 (64 - k) (drop k (replicate 32 0 ++ replicate 32 255)) (omega arith)
    ∙ ap (λ xs. take 32 xs) (drop-append-le k (replicate 32 0) (replicate 32 255) few
    ∙ ap (λ xs. xs ++ replicate 32 255) (drop-replicate k 32 0))
    ∙ ap (λ n. take n (zeros ++ replicate 32 255)) size
    ∙ take-append-add zeros (replicate 32 255) k
    ∙ ap (λ xs. zeros ++ xs) (take-replicate k 32 255 few)
