-- What the first bytes of a file look like.
use Rattle.std.specs.Prelude.{ℕ, nat_eq, List, [], ◌∷◌, codes, if◌then◌else◌}
use Rattle.std.specs.List.{starts_with}
use Rattle.fq_text.specs.declared.seen.Look.{Look}
use Rattle.fq_text.specs.declared.seen.Look.TheVariants.{Gzip, Bam, Fasta, Unknown}

-- `gzip` begins its files with 1f 8b, and a BAM file that is not compressed with BAM and 1
abbrev pub look_of : List ℕ → Look
look_of bytes =
    if starts_with nat_eq bytes (31 ∷ 139 ∷ []) then Gzip
    else (if starts_with nat_eq bytes (66 ∷ 65 ∷ 77 ∷ 1 ∷ []) then Bam
    else (if starts_with nat_eq bytes (codes ">") then Fasta
    else Unknown))
