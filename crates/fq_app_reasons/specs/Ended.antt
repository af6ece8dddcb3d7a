-- Why a run ended before all pairs were trimmed, in words that say what to look at.
use Rattle.std.specs.Prelude.{ℕ, ◌*◌, ◌-◌, ◌==◌, Option, Some, None, List, [], ◌++◌, codes, decimal, length, map, min, nat_lt, take, unwrap_or, if◌then◌else◌}
use Rattle.std.specs.Char.{is_ascii_graphic}
use Rattle.std.specs.Str.{bytes_eq}
use Rattle.fq_text.specs.declared.fault.TextFault.{TextFault}
use Rattle.fq_text.specs.declared.fault.TextFault.TheVariants as text
use Rattle.fq_text.specs.declared.seen.Look.{Look}
use Rattle.fq_text.specs.declared.seen.Look.TheVariants.{Gzip, Bam, Fasta, Unknown}
use Rattle.fq_text.specs.declared.seen.SystemError.{SystemError}
use Rattle.fq_pair.specs.declared.side.Side.{Side}
use Rattle.fq_pair.specs.declared.side.Side.TheVariants.{Forward, Reverse}
use Rattle.fq_pair.specs.declared.fault.InputFault.{InputFault}
use Rattle.fq_pair.specs.declared.fault.InputFault.TheVariants.{Text, MateMissing, NamesDiffer}
use Rattle.fq_pair.specs.Mates.{MateNames}
use Rattle.fq_pair.specs.Forms.{Form, TwoTexts, InterleavedText}
use Rattle.fq_run_core.specs.declared.outcome.Outcome.{Outcome}
use Rattle.fq_run_core.specs.declared.outcome.Outcome.TheVariants.{Spawn, Lane, Gate, Memory, Write, Read, Endless, Input, Finished}
use Rattle.fq_run_core.specs.declared.settings.TheConstants.{CALL_LIMIT}
use Rattle.fq_app_words.specs.Requests.{Asking, InputNames, input_name, output_name}
use Rattle.fq_app_files.specs.declared.seeing.EndingSeen.{EndingSeen}
use Rattle.fq_app_reasons.specs.Causes.{device_words}
use Rattle.fq_app_reasons.specs.declared.ended.TheConstants.{NAME_BYTES, MEMORY_REASON, NOT_READ}

-- what is wrong with a file
abbrev pub file_reason : List ℕ → List ℕ → List ℕ
file_reason name words = name ++ codes ": " ++ words

-- why a file was not written
abbrev pub written_reason : List ℕ → Option SystemError → List ℕ
written_reason name error =
    file_reason name (device_words error (codes "not all of it could be written"))

-- what a file looks like whose record k does not begin as it must; only the first one tells
abbrev pub look_of_file : Look → List ℕ
look_of_file Gzip = codes ". The file looks compressed, by gzip or as BAM"
look_of_file Bam = codes ". The file looks like BAM"
look_of_file Fasta = codes ". The file looks like FASTA"
look_of_file Unknown = []

abbrev pub look_words : ℕ → Look → List ℕ
look_words k look = if k == 1 then look_of_file look else []

abbrev pub title_reason : List ℕ → List ℕ
title_reason look = codes "the record does not begin with @" ++ look

-- the line of the title of record k, if each record before has four lines; no number is larger
-- than the largest of 64 bits
abbrev pub title_line : ℕ → ℕ
title_line k = min (k * 4) 18446744073709551615 - 3

abbrev pub sequence_reason : ℕ → List ℕ
sequence_reason k = codes "a sequence line begins with @ (is a + line missing?), or holds a space or"
    ++ codes " an unprintable byte; if records have four lines, this one begins at line "
    ++ decimal (title_line k)

-- what is wrong with a record of a FASTQ file whose qualities have this encoding, and whose first
-- bytes look so
abbrev pub record_reason : List ℕ → Look → TextFault → List ℕ
record_reason encoding look (text.NoTitle k) = title_reason (look_words k look)
record_reason encoding look (text.BadSequence k) = sequence_reason k
record_reason encoding look (text.NoPlus k) =
    codes "the file ends before the line that begins with +"
record_reason encoding look (text.PlusDiffers k) =
    codes "the line that begins with + holds another title"
record_reason encoding look (text.BadQuality k) =
    codes "a quality byte has no score in the encoding " ++ encoding ++ codes " (see --encoding)"
record_reason encoding look (text.QualityLong k) = codes "the quality is longer than the sequence"
record_reason encoding look (text.QualityShort k) =
    codes "the file ends before the quality is as long as the sequence"
record_reason encoding look (text.TooLong k) =
    codes "a line or the sequence has more than 1048576 bytes"
record_reason encoding look text.Read = NOT_READ.now
record_reason encoding look text.Endless = codes "it does not end"
record_reason encoding look text.OutOfMemory = codes "memory was refused"

-- the side of the mate
abbrev pub other_side : Side → Side
other_side Forward = Reverse
other_side Reverse = Forward

-- the file of the side ends too early
abbrev pub missing_reason : InputNames → Form → Side → List ℕ
missing_reason inputs TwoTexts side = input_name inputs side
    ++ codes ": the file ends before this record, and " ++ input_name inputs (other_side side)
    ++ codes " has it"
missing_reason inputs InterleavedText side =
    file_reason (input_name inputs side) (codes "the file ends after a forward read")

-- a byte of a name as it is shown: a question mark stands for each that doesn't print
abbrev pub shown_byte : ℕ → ℕ
shown_byte byte = if is_ascii_graphic byte then byte else 63

-- the first bytes of a name
abbrev pub shown_name : List ℕ → List ℕ
shown_name name = map shown_byte (take NAME_BYTES name)

-- the name in quotes
abbrev pub whole_name : List ℕ → List ℕ
whole_name shown = codes "'" ++ shown ++ codes "'"

-- the same of a name of which so many bytes are shown, and which has more
abbrev pub cut_name : List ℕ → ℕ → ℕ → List ℕ
cut_name shown count bytes = codes "'" ++ shown ++ codes "' (" ++ decimal count ++ codes " of "
    ++ decimal bytes ++ codes " bytes)"

abbrev pub quoted_name : List ℕ → List ℕ
quoted_name name =
    if nat_lt NAME_BYTES (length name) then cut_name (shown_name name) NAME_BYTES (length name)
    else whole_name (shown_name name)

-- the mates have these names, and so don't belong to each other
abbrev pub unmatched_reason : InputNames → Form → MateNames → List ℕ
unmatched_reason inputs TwoTexts names = inputs.forward ++ codes " has "
    ++ quoted_name names.forward ++ codes " and " ++ inputs.reverse ++ codes " has "
    ++ quoted_name names.reverse ++ codes " (see --no-name-check)"
unmatched_reason inputs InterleavedText names = inputs.forward
    ++ codes ": the pair has the names " ++ quoted_name names.forward ++ codes " and "
    ++ quoted_name names.reverse ++ codes " (see --no-name-check)"

-- the mates don't belong to each other, and their names are not known
abbrev pub names_reason : InputNames → Form → List ℕ
names_reason inputs TwoTexts = codes "the reads of " ++ inputs.forward ++ codes " and "
    ++ inputs.reverse ++ codes " have different names (see --no-name-check)"
names_reason inputs InterleavedText = file_reason inputs.forward
    (codes "the reads of the pair have different names (see --no-name-check)")

-- the names differ; they are shown if they are known to, and are never shown if they are the same
abbrev pub differ_reason : InputNames → Option MateNames → List ℕ
differ_reason inputs (Some names) =
    if bytes_eq names.forward names.reverse then names_reason inputs inputs.form
    else unmatched_reason inputs inputs.form names
differ_reason inputs None = names_reason inputs inputs.form

abbrev pub input_reason : Asking → EndingSeen → InputFault → List ℕ
input_reason a seen (Text side fault) =
    file_reason (input_name a.inputs side) (record_reason a.encoding seen.look fault)
input_reason a seen (MateMissing side k) = missing_reason a.inputs a.inputs.form side
input_reason a seen (NamesDiffer k) = differ_reason a.inputs seen.unmatched

-- the threads that a run starts
abbrev pub spawn_reason : ℕ → List ℕ
spawn_reason threads = codes "--threads is " ++ decimal threads
    ++ codes ", and one more thread reads"

-- what was known when memory was refused in a run
abbrev pub memory_reason : List ℕ
memory_reason = MEMORY_REASON.now

-- what a lane that is not confirmed means for the outputs
abbrev pub lane_reason : List ℕ
lane_reason = codes "the outputs may lack pairs"

-- why the run ended so, for what can be said of the outcome
abbrev pub ending_reason : Asking → EndingSeen → Outcome → Option (List ℕ)
ending_reason a seen (Write out) =
    Some (written_reason (unwrap_or (output_name a out) []) seen.error)
ending_reason a seen (Read side) = Some (file_reason (input_name a.inputs side)
    (device_words seen.error NOT_READ.now))
ending_reason a seen (Endless side) = Some (file_reason (input_name a.inputs side)
    (codes "it has not ended after " ++ decimal CALL_LIMIT ++ codes " read calls"))
ending_reason a seen (Input fault) = Some (input_reason a seen fault)
ending_reason a seen Spawn = Some (spawn_reason a.threads)
ending_reason a seen Memory = Some memory_reason
ending_reason a seen Lane = Some lane_reason
ending_reason a seen Gate = None
ending_reason a seen Finished = None
