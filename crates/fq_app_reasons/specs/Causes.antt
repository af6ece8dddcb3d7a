-- The words for an error of the system.
use Rattle.std.specs.Prelude.{ℕ, ◌==◌, Option, Some, None, List, [], ◌++◌, codes, decimal, length, map, slice_index_or, if◌then◌else◌}
use Rattle.fq_text.specs.declared.seen.SystemError.{SystemError}
use Rattle.fq_files.specs.declared.files.Cause.{Cause}
use Rattle.fq_files.specs.declared.files.Cause.TheVariants.{System, Input, Output}
use Rattle.fq_pair.specs.Forms.{Form, TwoTexts, InterleavedText}
use Rattle.fq_app_words.specs.Requests.{InputNames}
use Rattle.fq_app_reasons.specs.declared.causes.TheConstants.{ERROR_WORDS, ALSO_OUTPUT}

-- the words for a number of Linux; empty if it has none
abbrev pub known_words : ℕ → List ℕ
known_words number = slice_index_or (map (λ words. words.now) ERROR_WORDS) number []

-- the words, or the number if there are none
abbrev pub words_or_number : List ℕ → ℕ → List ℕ
words_or_number words number =
    if length words == 0 then codes "system error " ++ decimal number else words

abbrev pub error_words : SystemError → List ℕ
error_words error = words_or_number (known_words error.number) error.number

-- the words for what a device says, or others if it says nothing
abbrev pub device_words : Option SystemError → List ℕ → List ℕ
device_words (Some error) others = error_words error
device_words None others = others

-- why a file is refused as an input
abbrev pub source_reason : Cause → List ℕ
source_reason (System error) = error_words error
source_reason Input = codes "it is given twice"
source_reason Output = ALSO_OUTPUT.now

-- the output leads to an input under another name
abbrev pub leads_reason : InputNames → Form → List ℕ
leads_reason inputs TwoTexts = codes "it leads to an input (" ++ inputs.forward ++ codes " or "
    ++ inputs.reverse ++ codes ")"
leads_reason inputs InterleavedText = codes "it leads to the input " ++ inputs.forward

-- why a file is refused as an output or as the report
abbrev pub target_reason : InputNames → Cause → List ℕ
target_reason inputs (System error) = error_words error
target_reason inputs Input = leads_reason inputs inputs.form
target_reason inputs Output = ALSO_OUTPUT.now
