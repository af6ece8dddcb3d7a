-- Worked reads and arguments: what the definitions give.
use Rattle.std.proofs.Common.{◌≡◌, ℕ, List, [], ◌∷◌, codes, refl, true, false, Result, Ok, Err}
use Rattle.fq_text.specs.declared.encoding.Encoding.TheVariants.{Sanger, Illumina13, Solexa}
use Rattle.fq_trim.specs.declared.step.Step.{Step}
use Rattle.fq_trim.specs.declared.step.Step.TheVariants.{Leading, Trailing, Crop, HeadCrop, SlidingWindow, AverageQuality, MinLen, ToPhred33}
use Rattle.fq_trim.specs.declared.fault.StepFault.{StepFault}
use Rattle.fq_trim.specs.declared.fault.StepFaultKind.{StepFaultKind}
use Rattle.fq_trim.specs.declared.fault.StepFaultKind.TheVariants.{NoSteps, Unknown, WrongCount, BadNumber, OutOfRange}
use Rattle.fq_trim.specs.Keeping.{kept, places, recodes, scores}
use Rattle.fq_trim.specs.Words.{steps_of}

-- the windows of four sum to 120, 92, 64, 36 and 8
window_cuts_behind_the_last_high_score : kept (SlidingWindow 4 15 ∷ [])
    (scores Sanger (codes "????####")) ≡ places 0 4
window_cuts_behind_the_last_high_score = refl

-- the smallest sum is 122
low_score_in_good_windows_stays : kept (SlidingWindow 4 30 ∷ []) (scores Sanger (codes "IIII#III"))
    ≡ places 0 8
low_score_in_good_windows_stays = refl

window_of_a_higher_average_cuts : kept (SlidingWindow 4 31 ∷ []) (scores Sanger (codes "IIII#III"))
    ≡ places 0 4
window_of_a_higher_average_cuts = refl

read_shorter_than_the_window_is_dropped : kept (SlidingWindow 4 15 ∷ [])
    (scores Sanger (codes "III")) ≡ []
read_shorter_than_the_window_is_dropped = refl

-- the scores 20, 20 and 19
average_just_below_drops : kept (AverageQuality 20 ∷ []) (scores Sanger (codes "554")) ≡ []
average_just_below_drops = refl

average_reached_keeps_all : kept (AverageQuality 20 ∷ []) (scores Sanger (codes "555")) ≡ places 0 3
average_reached_keeps_all = refl

empty_read_is_dropped : kept (MinLen 0 ∷ []) (scores Sanger []) ≡ []
empty_read_is_dropped = refl

one_base_has_the_smallest_length : kept (MinLen 0 ∷ []) (scores Sanger (codes "I")) ≡ places 0 1
one_base_has_the_smallest_length = refl

crop_then_head_crop : kept (Crop 6 ∷ HeadCrop 2 ∷ []) (scores Sanger (codes "IIIIIIII"))
    ≡ places 2 4
crop_then_head_crop = refl

head_crop_then_crop : kept (HeadCrop 2 ∷ Crop 6 ∷ []) (scores Sanger (codes "IIIIIIII"))
    ≡ places 2 6
head_crop_then_crop = refl

head_crop_of_all_drops : kept (HeadCrop 8 ∷ []) (scores Sanger (codes "IIIIIIII")) ≡ []
head_crop_of_all_drops = refl

trailing_leaves_a_low_score_inside : kept (Trailing 3 ∷ []) (scores Sanger (codes "II#I##"))
    ≡ places 0 4
trailing_leaves_a_low_score_inside = refl

recoding_and_an_average_of_nothing : kept (ToPhred33 ∷ AverageQuality 0 ∷ [])
    (scores Sanger (codes "III")) ≡ places 0 3
recoding_and_an_average_of_nothing = refl

crop_of_nothing_drops : kept (Crop 0 ∷ []) (scores Sanger (codes "III")) ≡ []
crop_of_nothing_drops = refl

score_that_no_base_reaches_drops : kept (Leading 41 ∷ []) (scores Sanger (codes "III")) ≡ []
score_that_no_base_reaches_drops = refl

crop_of_more_keeps_all : kept (Crop 999999999 ∷ []) (scores Sanger (codes "III")) ≡ places 0 3
crop_of_more_keeps_all = refl

-- the scores 40, 0 and 1
scores_of_illumina : kept (Trailing 1 ∷ Leading 40 ∷ []) (scores Illumina13 (codes "h@A@"))
    ≡ places 0 3
scores_of_illumina = refl

scores_of_solexa : scores Solexa (codes ";@JI") ≡ 1 ∷ 3 ∷ 10 ∷ 10 ∷ []
scores_of_solexa = refl

low_solexa_scores_in_front_go : kept (Leading 4 ∷ []) (scores Solexa (codes ";@JI")) ≡ places 2 2
low_solexa_scores_in_front_go = refl

-- the sum is 24
average_of_solexa_scores_keeps_all : kept (AverageQuality 6 ∷ []) (scores Solexa (codes ";@JI"))
    ≡ places 0 4
average_of_solexa_scores_keeps_all = refl

average_of_solexa_scores_just_below_drops : kept (AverageQuality 7 ∷ [])
    (scores Solexa (codes ";@JI")) ≡ []
average_of_solexa_scores_just_below_drops = refl

recoding_is_told : recodes (Leading 3 ∷ ToPhred33 ∷ []) ≡ true
recoding_is_told = refl

no_recoding_is_told : recodes (Leading 3 ∷ MinLen 36 ∷ []) ≡ false
no_recoding_is_told = refl

abbrev faulty : ℕ → StepFaultKind → Result (List Step) StepFault
faulty place kind = Err (record { place = place; kind = kind })

window_of_no_bases : steps_of (codes "SLIDINGWINDOW:0:5" ∷ []) ≡ faulty 1 OutOfRange
window_of_no_bases = refl

second_word_without_its_number : steps_of (codes "CROP:3" ∷ codes "CROP" ∷ []) ≡ faulty 2 WrongCount
second_word_without_its_number = refl

number_with_a_sign : steps_of (codes "MINLEN:+5" ∷ []) ≡ faulty 1 BadNumber
number_with_a_sign = refl

unknown_name : steps_of (codes "FOO:1" ∷ []) ≡ faulty 1 Unknown
unknown_name = refl

empty_number_too_many : steps_of (codes "TOPHRED33:" ∷ []) ≡ faulty 1 WrongCount
empty_number_too_many = refl

no_words : steps_of [] ≡ faulty 0 NoSteps
no_words = refl

empty_number : steps_of (codes "CROP:" ∷ []) ≡ faulty 1 BadNumber
empty_number = refl

ten_digits : steps_of (codes "MINLEN:0000000001" ∷ []) ≡ faulty 1 BadNumber
ten_digits = refl

all_kinds : steps_of (codes "LEADING:3" ∷ codes "TRAILING:03" ∷ codes "CROP:999999999" ∷ codes
    "HEADCROP:0" ∷ codes "SLIDINGWINDOW:4:15" ∷ codes "AVGQUAL:20" ∷ codes
    "MINLEN:000000036" ∷ codes "TOPHRED33" ∷ [])
    ≡ Ok (Leading 3 ∷ Trailing 3 ∷ Crop 999999999 ∷ HeadCrop 0 ∷ SlidingWindow 4 15 ∷ AverageQuality
    20 ∷ MinLen 36 ∷ ToPhred33 ∷ [])
all_kinds = refl
