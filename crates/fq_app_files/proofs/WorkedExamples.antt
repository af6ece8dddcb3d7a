-- A request whose two unpaired outputs lead to one file, of which no bytes are known to the proof,
-- as `/dev/null` on a disk.
use Rattle.std.proofs.Common.{◌≡◌, refl, not, Some, None, [], ◌∷◌, arith}
use Rattle.std.specs.Str.{bytes_eq}
use Rattle.fq_files.specs.States.{Keys}
use Rattle.fq_pair.specs.declared.out.Out.{Out}
use Rattle.fq_pair.specs.declared.out.Out.TheVariants.{ForwardPaired, ForwardUnpaired, ReversePaired, ReverseUnpaired, Log}
use Rattle.fq_app_words.specs.Requests.{Asking, output_name}
use Rattle.fq_app_files.specs.Trimming.{HasOwnName}

abbrev unpaired_dropped : Asking → Asking
unpaired_dropped a = record a {
  forward_paired = 1 ∷ [];
  forward_unpaired = 0 ∷ [];
  reverse_paired = 2 ∷ [];
  reverse_unpaired = 0 ∷ [];
  log = None;
  report = None;
}

abbrev all_but_0 : Keys
all_but_0 file = not (bytes_eq file (0 ∷ []))

-- What is said of outputs that have a name of their own is said of the paired ones.
paired_is_own : (a : Asking) → HasOwnName (unpaired_dropped a) all_but_0 ForwardPaired (1 ∷ [])
paired_is_own a = record {
  named = refl;
  told = refl;
  outputs = alone;
  report = λ same. absurd (cc same);
}
  where
    alone : (other : Out) → output_name (unpaired_dropped a) other ≡ Some (1 ∷ []) →
        other ≡ ForwardPaired
    alone ForwardPaired same = refl
    alone ForwardUnpaired same = grind (arith, same)
    alone ReversePaired same = grind (arith, same)
    alone ReverseUnpaired same = grind (arith, same)
    alone Log same = absurd (cc same)

-- Nothing is said of the bytes of the others.
unpaired_is_not : (a : Asking) →
    HasOwnName (unpaired_dropped a) all_but_0 ForwardUnpaired (0 ∷ []) → ⊥
unpaired_is_not a own = cc own.told
