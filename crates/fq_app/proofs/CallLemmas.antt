-- How a request is answered, in all that is said of it.
use Rattle.std.proofs.Common.{◌≡◌, ◌≢◌, ℕ, inl, refl, arith}
use Rattle.fq_files.specs.States.{FilesState}
use Rattle.fq_app_words.specs.Requests.{Asking}
use Rattle.fq_app_files.specs.Trimming.{filed, KeepsUnnamed}
use Rattle.fq_app_files.specs.Opening.{SparesInputs}
use Rattle.fq_app.specs.Answers.{Device, LacksMemory, NamesDevice, PairsAnswered}
use Rattle.fq_app.specs.Calls.{RequestAnswered}
use Rattle.fq_app.proofs.AnswerLemmas.{lacks_answer}
use Rattle.fq_app.proofs.FileLemmas.{whole_files, files_left}

-- the files are in step, as the answer says what they hold
pub request_answered : (a : Asking) (old new : FilesState) (out err : Device) (status : ℕ) →
    PairsAnswered a old new out err status → (status ≡ 4 → NamesDevice a old new out err) →
    KeepsUnnamed (filed old a) old.bytes new.bytes →
    SparesInputs (filed old a) ((status ≢ 0) × (status ≢ 3)) old new →
    RequestAnswered a old new out err status
request_answered a old new out err status pairs device rest spared = record {
  pairs = pairs;
  in_step = λ ends tells. whole_files a _ _ _ _ _ (pairs.whole ends tells);
  left_in_step = λ other tells. files_left (filed old a) _ _ _ (pairs.left other tells);
  device = device;
  rest = rest;
  spared = spared;
}

-- a request that ends before a file is touched, because memory was refused
pub lacks_request : (a : Asking) (files : FilesState) (out err : Device) (status : ℕ) →
    LacksMemory err status → RequestAnswered a files files out err status
lacks_request a files out err status lacks =
    let five = lacks.status_is in
    request_answered a files files out err status
    (lacks_answer a files files out err status lacks
    (λ tells. inl (λ out name named told. inl refl))
    (λ tells name named told. inl (inl refl)) (λ side told none name. refl))
    (λ four. absurd (omega (arith, four, five))) (λ name other unnamed. refl)
    (λ name made told leads. (
      ((λ zero. omega (arith, zero, five)), (λ three. omega (arith, three, five))),
      (λ name. refl),
    ))
