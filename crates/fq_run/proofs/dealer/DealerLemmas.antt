-- Blocks that are filled and dealt out, one after another.
use Rattle.std.proofs.Common.{◌≡◌, ℕ, ◌+◌, ◌<◌, ◌≤◌, Option, Some, None, [], ◌∷◌, ◌++◌, length, refl, sym, ap, ◌∙◌, arith, suc, ◌^◌, ◌%◌, List, map, get_or, length-append}
use Rattle.std.proofs.lemmas.List.{length-append, append-nil, map-append, set-get_or}
use Rattle.std.proofs.lemmas.Grind.{common_steps}
use Rattle.fq_text.specs.declared.memory.MemoryRefused.{MemoryRefused}
use Rattle.fq_block.specs.Blocks.{Numbered}
use Rattle.fq_pair.specs.Mates.{Mates}
use Rattle.fq_run_core.specs.declared.reading_end.ReadingEnd.{ReadingEnd}
use Rattle.fq_run.specs.dealer.Filling.{Fills}
use Rattle.fq_pair.specs.Walks.{SourceState, Walks, GoesOn}
use Rattle.fq_run_core.specs.PairsRead.{Reads}
use Rattle.fq_run_core.proofs.WalkLemmas.{walks_none, walks_then, reads_then}
use Rattle.fq_pair.proofs.SideLemmas.{walked_records}
use Rattle.std.proofs.Math.ListN.{set}
use Rattle.std.proofs.Math.Nat.{zero-mod}
use Rattle.fq_text.specs.declared.encoding.Encoding.{Encoding}
use Rattle.fq_lane.specs.History.{History}
use Rattle.fq_run_core.specs.Choices.{Choices}
use Rattle.fq_run.specs.Shares.{join, AreEven}
use Rattle.fq_run.specs.dealer.DealingOut.{AreNumbered, AreBlocks, DealsOut, SendsFilled}
use Rattle.fq_run.specs.lanes.Items.{names_of, IsDealt}
use Rattle.fq_run.proofs.DealLemmas.{turn_more}
use Rattle.fq_run.proofs.lanes.LaneLemmas.{dealt_offer, names_written}
use Rattle.fq_run_core.specs.declared.reading_end.ReadingEnd.TheVariants as reading

-- A block that is being filled.

-- `n` pairs were read, and are in the block
pub record Filled (old now : SourceState) (empty block : Numbered) (n : ℕ) : Type 0 where
  pub number : block.number ≡ empty.number
  pub encoding : block.encoding ≡ empty.encoding
  pub len : length block.pairs ≡ n
  pub walks : Walks old now block.pairs
  pub goes : GoesOn now

-- one more pair
abbrev pub pushed : Numbered → Mates → Numbered
pushed block m =
    record { number = block.number; encoding = block.encoding; pairs = block.pairs ++ m ∷ [] }

-- an empty block is one into which no pair was read yet
pub filled_none : (s : SourceState) (block : Numbered) → GoesOn s → block.pairs ≡ [] →
    Filled s s block block 0
filled_none s block goes clear = grind (arith, common_steps, walks_none)

-- one more pair was read, and is in the block
pub filled_more : (old now next : SourceState) (empty block then : Numbered) (n : ℕ) (m : Mates) →
    Filled old now empty block n → Walks now next (m ∷ []) → next.forward.given ≤ next.most_bytes →
    then ≡ pushed block m → Filled old next empty then (n + 1)
filled_more old now next empty block then n m f w within is =
    let len = f.len in
    rw is (record {
      number = f.number;
      encoding = f.encoding;
      len = omega (arith, length-append block.pairs (m ∷ []));
      walks = walks_then old now next block.pairs (m ∷ []) f.walks w;
      goes = record { last = w.last; within = within };
    })

-- the block is in the encoding of the source that fills it
pub filled_encoding : (old now : SourceState) (empty block : Numbered) (n : ℕ) →
    Filled old now empty block n → empty.encoding ≡ old.encoding → block.encoding ≡ now.encoding
filled_encoding old now empty block n f is = let w = f.walks in let s = w.same in f.encoding ∙ is
    ∙ sym s.encoding

-- the pairs of the block are no more than the bytes that may come
filled_within : (old now : SourceState) (empty block : Numbered) (n : ℕ) →
    Filled old now empty block n → old.forward.given + length block.pairs ≤ old.most_bytes
filled_within old now empty block n f =
    let w = f.walks in let s = w.same in let g = f.goes in let given =
    walked_records old now block.pairs w in let most = s.most_bytes in let within = g.within in
    omega arith

module _ (old now : SourceState) (empty block : Numbered) (n most : ℕ)
    (f : Filled old now empty block n) where
  -- the block is full, and reading goes on
  pub fills_full : n ≡ most → Fills old now most empty block None
  fills_full full = grind (arith, common_steps, filled_within old now empty block n f)

  -- reading stopped after the block
  pub fills_stopped : (next : SourceState) (stop : ReadingEnd) → n < most →
      Reads old next block.pairs (Some stop) →
      ((refused : MemoryRefused) → stop ≡ reading.Memory refused →
      next.given ≡ old.given + length block.pairs + 1) →
      Fills old next most empty block (Some stop)
  fills_stopped next stop room reads lost =
      grind (arith, common_steps, filled_within old now empty block n f)

  -- memory for one more pair was refused: that pair is lost, and the block is as it was
  pub fills_refused : (refused : MemoryRefused) (next : SourceState) (then : Numbered) (m : Mates) →
      n < most → Walks now next (m ∷ []) → then ≡ block →
      Fills old next most empty then (Some (reading.Memory refused))
  fills_refused refused next then m room w same =
      let walks = walks_then old now next block.pairs (m ∷ []) f.walks w in
      let given = walks.given in
      rw same (fills_stopped next (reading.Memory refused) room (m ∷ [], walks)
      (λ again is. omega (arith, length-append block.pairs (m ∷ []))))

-- Cutting.

module _ {T : Type 0} where
  -- each piece has `most` members
  abbrev AreFull : ℕ → List (List T) → Type 0
  AreFull most [] = Unit {0}
  AreFull most (piece ∷ pieces) = (length piece ≡ most) × AreFull most pieces

  full_then : (most : ℕ) (pieces : List (List T)) (last : List T) → AreFull most pieces →
      length last ≡ most → AreFull most (pieces ++ last ∷ [])
  full_then most [] last full is = (is, tt)
  full_then most (piece ∷ pieces) last full is = (full.0, full_then most pieces last full.1 is)

  even_full : (most : ℕ) (pieces : List (List T)) → 1 ≤ most → AreFull most pieces →
      AreEven most pieces
  even_full most [] some full = tt
  even_full most (piece ∷ []) some full = let is = full.0 in (omega arith, omega arith)
  even_full most (piece ∷ next ∷ pieces) some full =
      (full.0, even_full most (next ∷ pieces) some full.1)

  -- and the last at most that number
  even_then : (most : ℕ) (pieces : List (List T)) (last : List T) → AreFull most pieces →
      1 ≤ length last → length last ≤ most → AreEven most (pieces ++ last ∷ [])
  even_then most [] last full some few = (some, few)
  even_then most (piece ∷ []) last full some few = (full.0, (some, few))
  even_then most (piece ∷ next ∷ pieces) last full some few =
      (full.0, even_then most (next ∷ pieces) last full.1 some few)

  join_then : (pieces : List (List T)) (last : List T) →
      join (pieces ++ last ∷ []) ≡ join pieces ++ last
  join_then [] last = append-nil last
  join_then (piece ∷ pieces) last = grind (arith, common_steps, join_then pieces last)

abbrev pairs_of : List Numbered → List (List Mates)
pairs_of blocks = map (λ (b : Numbered). b.pairs) blocks

pairs_then : (blocks : List Numbered) (block : Numbered) →
    pairs_of (blocks ++ block ∷ []) ≡ pairs_of blocks ++ block.pairs ∷ []
pairs_then blocks block = map-append (λ (b : Numbered). b.pairs) blocks (block ∷ [])

numbered_then : (encoding : Encoding) (n : ℕ) (blocks : List Numbered) (block : Numbered) →
    AreNumbered encoding n blocks → block.number ≡ n + length blocks → block.encoding ≡ encoding →
    AreNumbered encoding n (blocks ++ block ∷ [])
numbered_then encoding n [] block are is same = (omega arith, same, tt)
numbered_then encoding n (b ∷ blocks) block are is same =
    (are.0, are.1, numbered_then encoding (suc n) blocks block are.2 (omega arith) same)

-- Dealing.

module _ (c : Choices) (old : SourceState) (to : List (History Numbered)) where
  -- full blocks were dealt out
  pub record DealsFull (now : SourceState) (lanes : List (History Numbered))
      (turn number : ℕ) : Type 0 where
    pub mates : List Mates
    pub blocks : List Numbered
    pub walks : Walks old now mates
    pub goes : GoesOn now
    -- these blocks have these pairs, in order
    pub joined : join (pairs_of blocks) ≡ mates
    pub full : AreFull c.block_pairs (pairs_of blocks)
    pub numbered : AreNumbered c.encoding 0 blocks
    -- there are no more blocks than pairs
    pub few : length blocks ≤ length mates
    pub dealt : IsDealt (length to) blocks lanes
    pub names : names_of lanes ≡ names_of to
    -- the next block is for this lane
    pub turn_is : turn ≡ length blocks % length to
    pub below : turn < length to
    -- the next block has this number
    pub number_is : number ≡ length blocks

  -- before the first block nothing is read or dealt out, and it is the first lane's turn
  pub deals_none : GoesOn old → (w : ℕ) → 0 < w → IsDealt w [] to → DealsFull old to 0 0
  deals_none goes w some fresh = let lanes = fresh.lanes in record {
    mates = [];
    blocks = [];
    walks = walks_none old goes.last;
    goes = goes;
    joined = refl;
    full = tt;
    numbered = tt;
    few = omega arith;
    dealt = rw fresh.lanes fresh;
    names = refl;
    turn_is = sym (zero-mod (length to));
    below = omega arith;
    number_is = refl;
  }

  -- One more block.
  module _ (now next : SourceState) (lanes : List (History Numbered)) (turn number : ℕ)
      (lane other after : History Numbered) (empty block : Numbered) (why : Option ReadingEnd)
      (d : DealsFull now lanes turn number)
      (f : Fills now next c.block_pairs empty block why) (numbered_as : empty.number ≡ number)
      (encoded_as : empty.encoding ≡ c.encoding) (read : lane ≡ get_or lanes turn other)
      (sends : SendsFilled block lane after) where
    mates_few : old.forward.given ≡ 0 → old.most_bytes ≤ 2 ^ 60 →
        length (d.mates ++ block.pairs) ≤ 2 ^ 60
    mates_few fresh bound = grind (arith, common_steps)

    joined_more : join (pairs_of (d.blocks ++ block ∷ [])) ≡ d.mates ++ block.pairs
    joined_more = ap join (pairs_then d.blocks block) ∙ join_then (pairs_of d.blocks) block.pairs
        ∙ ap (λ ms. ms ++ block.pairs) d.joined

    numbered_more : AreNumbered c.encoding 0 (d.blocks ++ block ∷ [])
    numbered_more = let is = d.number_is in let number = f.number in
        numbered_then c.encoding 0 d.blocks block d.numbered (omega (arith, numbered_as))
        (f.encoding ∙ encoded_as)

    dealt_more : 0 < length block.pairs → IsDealt (length to) (d.blocks ++ block ∷ [])
        (set lanes turn after)
    dealt_more some = dealt_offer (length to) d.blocks block lanes turn lane other after d.dealt
        read (sends.some some) d.below d.turn_is

    names_more : 0 < length block.pairs → names_of (set lanes turn after) ≡ names_of to
    names_more some = let dealt = d.dealt in
        names_written lanes turn lane other after (omega (arith, dealt.lanes, d.below)) read
        (ap (λ l. l.name) (sends.some some)) ∙ d.names

    -- a full block went to the lane whose turn it was, and it is the next lane's turn
    pub deals_more : why ≡ None → 1 ≤ c.block_pairs → (turn' : ℕ) → turn' ≡ suc turn % length to →
        turn' < length to → DealsFull next (set lanes turn after) turn' (number + 1)
    deals_more going most turn' is below =
        let full = f.full going in
        let blocks = d.blocks in let mates = d.mates in let few = d.few in let number_is =
        d.number_is in
        record {
          mates = mates ++ block.pairs;
          blocks = blocks ++ block ∷ [];
          walks = walks_then old now next mates block.pairs d.walks (rw going at f.reads);
          goes = f.goes going;
          joined = joined_more;
          full = rw (pairs_then blocks block) (full_then c.block_pairs (pairs_of blocks) block.pairs
              d.full full);
          numbered = numbered_more;
          few = omega (arith, length-append mates block.pairs, length-append blocks (block ∷ []));
          dealt = dealt_more (omega arith);
          names = names_more (omega arith);
          turn_is = turn_more blocks block turn turn' (length to) d.turn_is is;
          below = below;
          number_is = omega (arith, length-append blocks (block ∷ []));
        }

    lost_last : (refused : MemoryRefused) → why ≡ Some (reading.Memory refused) →
        next.given ≡ old.given + length (d.mates ++ block.pairs) + 1
    lost_last refused is = let mates = d.mates in let w = d.walks in let given = w.given in
        let more = f.lost refused is in omega (arith, length-append mates block.pairs)

    cut_last : (blocks : List Numbered) (mates : List Mates) → join (pairs_of blocks) ≡ mates →
        AreEven c.block_pairs (pairs_of blocks) → AreNumbered c.encoding 0 blocks →
        AreBlocks c mates blocks
    cut_last blocks mates joined even numbered = grind (arith, common_steps)

    last_some : old.forward.given ≡ 0 → old.most_bytes ≤ 2 ^ 60 → 0 < length block.pairs →
        DealsOut c old next to (set lanes turn after) why
    last_some fresh bound some =
        let blocks = d.blocks in let mates = d.mates in
        let even = even_then c.block_pairs (pairs_of blocks) block.pairs d.full (omega arith)
        f.few in
        record {
          mates = mates ++ block.pairs;
          blocks = blocks ++ block ∷ [];
          reads = reads_then old now next mates block.pairs why d.walks f.reads;
          lost = lost_last;
          few = mates_few fresh bound;
          cut = cut_last (blocks ++ block ∷ []) (mates ++ block.pairs) joined_more
              (rw (pairs_then blocks block) even) numbered_more;
          dealt = dealt_more some;
          names = names_more some;
        }

    last_none : old.forward.given ≡ 0 → old.most_bytes ≤ 2 ^ 60 → 1 ≤ c.block_pairs →
        block.pairs ≡ [] → DealsOut c old next to (set lanes turn after) why
    last_none fresh bound most none =
        let blocks = d.blocks in let mates = d.mates in
        let same : mates ++ block.pairs ≡ mates = ap (λ ms. mates ++ ms) none ∙ append-nil mates in
        let unsent : set lanes turn after ≡ lanes = ap (set lanes turn) (sends.none none ∙ read)
        ∙ set-get_or lanes turn other in
        record {
          mates = mates;
          blocks = blocks;
          reads = rw same at (reads_then old now next mates block.pairs why d.walks f.reads);
          lost = rw same at lost_last;
          few = rw same at (mates_few fresh bound);
          cut = cut_last blocks mates d.joined
              (even_full c.block_pairs (pairs_of blocks) most d.full) d.numbered;
          dealt = rw unsent d.dealt;
          names = ap names_of unsent ∙ d.names;
        }

    last_of : old.forward.given ≡ 0 → old.most_bytes ≤ 2 ^ 60 → 1 ≤ c.block_pairs →
        (ms : List Mates) → block.pairs ≡ ms → DealsOut c old next to (set lanes turn after) why
    last_of fresh bound most [] is = last_none fresh bound most is
    last_of fresh bound most (m ∷ ms) is = let len = ap length is in
        last_some fresh bound (omega arith)

    -- the last block has pairs or is empty
    pub deals_last : old.forward.given ≡ 0 → old.most_bytes ≤ 2 ^ 60 → 1 ≤ c.block_pairs →
        DealsOut c old next to (set lanes turn after) why
    deals_last fresh bound most = last_of fresh bound most block.pairs refl

  -- nothing was read
  pub deals_nothing : GoesOn old → (w : ℕ) → IsDealt w [] to → DealsOut c old old to to None
  deals_nothing goes w fresh = record {
    mates = [];
    blocks = [];
    reads = walks_none old goes.last;
    lost = λ refused is. absurd cc;
    few = omega arith;
    cut = record { cut = record { joined = refl; even = tt }; numbered = tt };
    dealt = rw fresh.lanes fresh;
    names = refl;
  }
