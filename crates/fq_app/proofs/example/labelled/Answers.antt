use Rattle.std.proofs.Common.{◌∙◌, codes}
use Rattle.fq_app.specs.Example.{section, sections}
use Rattle.fq_app.proofs.ExampleLemmas.{six_appended}
use Rattle.fq_app.proofs.example.labelled.Goals as goal

-- the five texts and the summary follow one another, each below its label
pub returns : goal.returns
returns c =
    let log = c.args.log.now in
    let summary = c.as_bytes.result.now in
    six_appended _ _ _ _ _ _ _ (section (codes "[forward paired]")
    c.bytes-forward_paired.result.now) (section (codes "[forward unpaired]")
    c.bytes-forward_unpaired.result.now)
    (section (codes "[reverse paired]") c.bytes-reverse_paired.result.now)
    (section (codes "[reverse unpaired]") c.bytes-reverse_unpaired.result.now)
    (section (codes "[trim log]") log) (section (codes "[summary]") summary)
    c.new-text.ensures.items c.in_ok-put_section.ensures c.in_ok-put_section-2.ensures
    c.in_ok-put_section-3.ensures c.in_ok-put_section-4.ensures c.in_ok-put_section-5.ensures
    c.in_ok-put_section-6.ensures
    ∙ (λ i. sections (c.bytes-forward_paired.ensures i) (c.bytes-forward_unpaired.ensures i)
    (c.bytes-reverse_paired.ensures i) (c.bytes-reverse_unpaired.ensures i) log
    ((c.as_bytes.ensures.value ∙ c.in_ok-summary.ensures) i))
