use Rattle.std.proofs.Common.{rules, refl, inl, inr}
use Rattle.fq_app_words.specs.Requests.{asking_of}
use Rattle.fq_app.proofs.AnswerLemmas.{memory_took}
use Rattle.fq_app.proofs.answering.tell.Goals as goal

-- a report that was not written has status 4, and standard error took the line for it
pub returns-in-Failed-clause-line : goal.returns-in-Failed-clause-line
returns-in-Failed-clause-line g c =
    λ some. inr (inl (
      c.in-Failed.is,
      c.cannot_report.ensures.status,
      c.cannot_report.ensures.told,
    ))

-- memory for the report was refused, and standard error took the line for it
pub returns-in-OutOfMemory-clause-prints : goal.returns-in-OutOfMemory-clause-prints
returns-in-OutOfMemory-clause-prints g c = record {
  finished = search rules;
  quiet = search rules;
  failed = search rules;
  memory = λ five. (
    refl,
    memory_took (asking_of c.args.request.now).explain _ _ c.lacks_report.ensures.told,
  );
}
