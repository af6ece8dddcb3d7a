use Rattle.std.proofs.Common.{◌∙◌, ap, refl}
use Rattle.std.proofs.lemmas.Result.{IfOk-weaker}
use Rattle.fq_pair.specs.declared.out.Out.TheVariants.{ForwardPaired, ForwardUnpaired, ReversePaired, ReverseUnpaired, Log}
use Rattle.fq_pair.specs.Summaries.{summary_of}
use Rattle.fq_run.specs.Endings.{ends_whole}
use Rattle.fq_app.specs.Example.{example_text, sections}
use Rattle.fq_app.proofs.ExampleLemmas.{output_is, summary_is, all_healthy, there_healthy, log_took, took_all}
use Rattle.fq_app.proofs.example.text_over.Goals as goal

-- no outlet has failed before the run
pub run-outcome-requires-clause-healthy : goal.run-outcome-requires-clause-healthy
run-outcome-requires-clause-healthy g c κs within =
    let o = c.requires in
    all_healthy _ o.forward_paired_is.1 o.forward_unpaired_is.1 o.reverse_paired_is.1
    o.reverse_unpaired_is.1 (there_healthy _ _ o.log_is)

-- the text is that of the example
pub returns-clause-text : goal.returns-clause-text
unfolding example_text
returns-clause-text g c = IfOk-weaker c.shown.result _ _ (λ text left.
    let trimmed = c.run-outcome.ensures (ap ends_whole left.0) refl refl in
    let forward_is = ap (λ f. f.bytes) c.in_ok-forward.ensures in
    let reverse_is = ap (λ f. f.bytes) c.in_ok-reverse.ensures in
    let output = output_is c.settings.result _ _ c.settings.ensures forward_is reverse_is in
    let empty = c.requires in
    let fp = took_all _ _ _ _ empty.forward_paired_is.0 refl (trimmed.took ForwardPaired)
    (output ForwardPaired) in
    let fu = took_all _ _ _ _ empty.forward_unpaired_is.0 refl (trimmed.took ForwardUnpaired)
    (output ForwardUnpaired) in
    let rp = took_all _ _ _ _ empty.reverse_paired_is.0 refl (trimmed.took ReversePaired)
    (output ReversePaired) in
    let ru = took_all _ _ _ _ empty.reverse_unpaired_is.0 refl (trimmed.took ReverseUnpaired)
    (output ReverseUnpaired) in
    let log = log_took _ _ _ _ _ empty.log_is (λ _. refl) (trimmed.took Log) left.1.1
    ∙ output Log in
    let summary = ap summary_of trimmed.counts_are
    ∙ summary_is c.settings.result _ _ c.settings.ensures forward_is reverse_is in
    left.1.2 ∙ (λ i. sections (fp i) (fu i) (rp i) (ru i) (log i) (summary i))) c.shown.ensures.text
